-- Columns that tests tie have one field in payloads that pass them.
use Rattle.std.proofs.Common.{◌≡◌, ℕ, ◌+◌, ◌-◌, ◌⊎◌, inl, inr, arith, length, List, [], ◌∷◌, ◌++◌, Bool, true, false, ◌&&◌, ◌||◌, refl, ap, sym, ◌∙◌, eqb-true, append_assoc}
use Rattle.std.specs.Prelude.{Option, ◌==◌}
use Rattle.std.specs.List.{slice_get, list_any, AllByRecursion}
use Rattle.cedr_base.specs.declared.field.Field.{Field}
use Rattle.cedr_base.specs.declared.row.Row.{Row}
use Rattle.cedr_expr.specs.declared.test.Op.{Op}
use Rattle.cedr_expr.specs.declared.test.Op.TheVariants.{Eq, Ne, Lt, Le, Gt, Ge}
use Rattle.cedr_expr.specs.declared.test.Operand.{Operand}
use Rattle.cedr_expr.specs.declared.test.Operand.TheVariants as operand
use Rattle.cedr_expr.specs.declared.test.Test.{Test}
use Rattle.cedr_expr.specs.Columns.{column}
use Rattle.cedr_expr.specs.Tests.{passes, both_pass, operand_value, test_holds}
use Rattle.cedr_expr.proofs.TieLemmas.{equal_sides, column_left, column_right, both_true}
use Rattle.op_except.proofs.RangeLemmas.{either_true}
use Rattle.pat_state.specs.Ascending.{payloads_joined}
use Rattle.plan_keys.specs.Keys.{KeyedPort, row_key, key_places, compares_both, ties, AreTiedTo, AreTiedPlaces, AreInWidth, IsOneOf, IsTiedJoin}

module _ (left right : List Field) where
  both_ends : (one other i j : ℕ) → (i == one) && (j == other) ≡ true → column left right i ≡ column left right j → column left right one ≡ column left right other
  both_ends one other i j h same =
      let ends = both_true (i == one) (j == other) h in
      ap (column left right) (sym (eqb-true i one ends.0)) ∙ (same ∙ ap (column left right) (eqb-true j other ends.1))

  one_way : (one other i j : ℕ) → ((i == one) && (j == other)) || ((i == other) && (j == one)) ≡ true → column left right i ≡ column left right j → column left right one ≡ column left right other
  one_way one other i j h same = elim (either_true ((i == one) && (j == other)) ((i == other) && (j == one)) h) [
    | inl this ↦ both_ends one other i j this same
    | inr that ↦ sym (both_ends other one i j that same)
  ]

  by_test : (one other i : ℕ) (op : Op) (o : Operand) → compares_both one other i op o ≡ true → both_pass op (column left right i) (operand_value o left right) ≡ true → column left right one ≡ column left right other
  by_test one other i Eq (operand.Column j) h pass = one_way one other i j h (equal_sides (column left right i) (column left right j) pass)
  by_test one other i Eq (operand.Number n) h pass = cc
  by_test one other i Eq (operand.Bytes t) h pass = cc
  by_test one other i Ne o h pass = cc
  by_test one other i Lt o h pass = cc
  by_test one other i Le o h pass = cc
  by_test one other i Gt o h pass = cc
  by_test one other i Ge o h pass = cc

  -- two columns that some test ties
  pub tied_columns : (one other : ℕ) (tests : List Test) → list_any (ties one other) tests ≡ true → passes tests left right ≡ true → column left right one ≡ column left right other
  tied_columns one other [] h pass = cc
  tied_columns one other (test ∷ tests) h pass =
      let both = both_true (test_holds test left right) (passes tests left right) pass in
      elim (either_true (ties one other test) (list_any (ties one other) tests) h) [
        | inl this ↦ by_test one other test.left test.op test.right this both.0
        | inr later ↦ tied_columns one other tests later both.1
      ]

  -- the columns at these places have one field
  abbrev pub HaveField : Option Field → List ℕ → Type 0
  HaveField key places = AllByRecursion (λ e. column left right e ≡ key) places

  module _ (key : Option Field) (tests : List Test) (pass : passes tests left right ≡ true) where
    tied_one : (p : ℕ) (earlier : List ℕ) → HaveField key earlier → list_any (λ (e : ℕ). list_any (ties e p) tests) earlier ≡ true → column left right p ≡ key
    tied_one p [] have h = cc
    tied_one p (e ∷ earlier) have h = elim (either_true (list_any (ties e p) tests) (list_any (λ (e : ℕ). list_any (ties e p) tests) earlier) h) [
      | inl this ↦ sym (tied_columns e p tests this pass) ∙ have.0
      | inr later ↦ tied_one p earlier have.1 later
    ]

    tied_all : (earlier places : List ℕ) → HaveField key earlier → AreTiedTo tests earlier places → HaveField key places
    tied_all earlier [] have tied = tt
    tied_all earlier (p ∷ places) have tied = let here = tied_one p earlier have tied.0 in (here, tied_all (p ∷ earlier) places (here, have) tied.1)

  -- tied places have one field
  pub tied_places : (tests : List Test) (p : ℕ) (places : List ℕ) → passes tests left right ≡ true → AreTiedPlaces tests (p ∷ places) → HaveField (column left right p) (p ∷ places)
  tied_places tests p places pass tied = (refl, tied_all (column left right p) tests pass (p ∷ []) places (refl, tt) tied)

  -- and so has a column that is one of them
  pub one_of_places : (key : Option Field) (c : ℕ) (places : List ℕ) → HaveField key places → IsOneOf c places → column left right c ≡ key
  one_of_places key c [] have h = cc
  one_of_places key c (p ∷ places) have h = elim (either_true (p == c) (list_any (λ (q : ℕ). q == c) places) h) [
    | inl this ↦ ap (column left right) (sym (eqb-true p c this)) ∙ have.0
    | inr later ↦ one_of_places key c places have.1 later
  ]

-- there is a row for each port, and it has the port's width
abbrev pub RowsFit : List KeyedPort → List Row → Type 0
RowsFit [] [] = Unit {0}
RowsFit [] (r ∷ rows) = ⊥
RowsFit (p ∷ ports) [] = ⊥
RowsFit (p ∷ ports) (r ∷ rows) = (length r.payload ≡ p.width) × RowsFit ports rows

-- the rows' keys are all mine
abbrev pub keys_are_mine : (Option Field → Bool) → List KeyedPort → List Row → Bool
keys_are_mine mine [] rows = true
keys_are_mine mine (p ∷ ports) [] = true
keys_are_mine mine (p ∷ ports) (r ∷ rows) = mine (row_key p.column r) && keys_are_mine mine ports rows

-- the rows of the ports have this key
abbrev pub RowsHaveKey : Option Field → List KeyedPort → List Row → Type 0
RowsHaveKey key [] rows = Unit {0}
RowsHaveKey key (p ∷ ports) [] = Unit {0}
RowsHaveKey key (p ∷ ports) (r ∷ rows) = (row_key p.column r ≡ key) × RowsHaveKey key ports rows

mine_both : (a b c : Bool) → a ≡ c → b ≡ c ⊎ (b ≡ true) → a && b ≡ c
mine_both true b c e (inl f) = f
mine_both true b c e (inr f) = f ∙ e
mine_both false b c e f = e

-- rows of one key are mine where the key is
pub mine_alike : (mine : Option Field → Bool) (key : Option Field) (ports : List KeyedPort) (rows : List Row) → RowsHaveKey key ports rows → (keys_are_mine mine ports rows ≡ mine key) ⊎ (keys_are_mine mine ports rows ≡ true)
mine_alike mine key [] rows have = inr refl
mine_alike mine key (p ∷ ports) [] have = inr refl
mine_alike mine key (p ∷ ports) (r ∷ rows) have = inl (mine_both (mine (row_key p.column r)) (keys_are_mine mine ports rows) (mine key) (ap mine have.0) (mine_alike mine key ports rows have.1))

mine_some : (mine : Option Field → Bool) (key : Option Field) (p : KeyedPort) (ports : List KeyedPort) (r : Row) (rows : List Row) → RowsHaveKey key (p ∷ ports) (r ∷ rows) → keys_are_mine mine (p ∷ ports) (r ∷ rows) ≡ mine key
mine_some mine key p ports r rows have = mine_both (mine (row_key p.column r)) (keys_are_mine mine ports rows) (mine key) (ap mine have.0) (mine_alike mine key ports rows have.1)

-- a place in the rest of a list, behind what stands first
pub behind : (xs ys : List Field) (n k : ℕ) → length xs ≡ n → slice_get (xs ++ ys) (n + k) ≡ slice_get ys k
behind xs ys n k e =
    column_right xs ys (n + k) (omega arith) ∙ ap (λ (m : ℕ). slice_get ys m) (let same : (n + k) - length xs ≡ k = omega arith in same)

-- where the joined payloads stand among columns from a place on, each row has its key at the place of its port's key column
rows_keys : (at : ℕ → Option Field) (key : Option Field) (first : ℕ) (rest : List Field) (rows : List Row) (ports : List KeyedPort) → RowsFit ports rows → AreInWidth ports → ((k : ℕ) → at (first + k) ≡ slice_get (payloads_joined rows ++ rest) k)
    → AllByRecursion (λ e. at e ≡ key) (key_places first ports) → RowsHaveKey key ports rows
rows_keys at key first rest rows [] fit within shown have = tt
rows_keys at key first rest [] (p ∷ ports) fit within shown have = tt
rows_keys at key first rest (r ∷ rows) (p ∷ ports) fit within shown have =
    let wide = fit.0 in
    let inside = within.0 in
    let all = payloads_joined rows ++ rest in
    let whole : (k : ℕ) → slice_get (payloads_joined (r ∷ rows) ++ rest) k ≡ slice_get (r.payload ++ all) k = λ k. ap (λ (xs : List Field). slice_get xs k) (append_assoc r.payload (payloads_joined rows) rest) in
    let field : slice_get (r.payload ++ all) p.column ≡ slice_get r.payload p.column = column_left r.payload all p.column (omega arith) in (
      sym field ∙ (sym (whole p.column) ∙ (sym (shown p.column) ∙ have.0)),
      rows_keys at key (first + p.width) rest rows ports fit.1 within.1
          (λ k. ap at (let same : (first + p.width) + k ≡ first + (p.width + k) = omega arith in same) ∙ (shown (p.width + k) ∙ (whole (p.width + k) ∙ behind r.payload all p.width k wide))) have.1,
    )

-- Rows whose payloads pass tests that tie their keys have one key, and it stands in the result's key column.
pub tied_rows : (tests : List Test) (ports : List KeyedPort) (c : ℕ) (rows : List Row) (left right : List Field) → IsTiedJoin tests ports c → RowsFit ports rows → ((k : ℕ) → column left right k ≡ slice_get (payloads_joined rows ++ []) k) → passes tests left right ≡ true
    → ((mine : Option Field → Bool) → keys_are_mine mine ports rows ≡ mine (column left right c))
tied_rows tests [] c rows left right join fit shown pass = let none = join.column_is in cc
tied_rows tests (p ∷ ports) c [] left right join fit shown pass = absurd fit
tied_rows tests (p ∷ ports) c (r ∷ rows) left right join fit shown pass =
    let places = key_places 0 (p ∷ ports) in
    let key = column left right (0 + p.column) in
    let have = tied_places left right tests (0 + p.column) (key_places (0 + p.width) ports) pass join.tied in
    let keys = rows_keys (column left right) key 0 [] (r ∷ rows) (p ∷ ports) fit join.within (λ k. ap (column left right) (let same : 0 + k ≡ k = omega arith in same) ∙ shown k) have in
    λ mine. mine_some mine key p ports r rows keys ∙ ap mine (sym (one_of_places left right key c places have join.column_is))

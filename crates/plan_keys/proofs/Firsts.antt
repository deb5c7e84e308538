-- Except and unless keep the key of their first port that their tests tie to that of the second one.
use Rattle.std.proofs.Common.{◌≡◌, ℕ, ◌+◌, arith, length, List, [], ◌∷◌, Bool, true, false, cond, ◌&&◌, ◌||◌, refl, ap, sym, ◌∙◌}
use Rattle.std.specs.Prelude.{Option, nat_lt}
use Rattle.std.specs.List.{slice_get, filter, list_any, AllByRecursion}
use Rattle.std.proofs.lemmas.Map.Views.{any-filter_same}
use Rattle.cedr_base.specs.declared.field.Field.{Field}
use Rattle.cedr_base.specs.declared.interval.Interval.{Interval}
use Rattle.cedr_base.specs.declared.row.Row.{Row}
use Rattle.change_laws.specs.Times.{later}
use Rattle.cedr_expr.specs.declared.test.Test.{Test}
use Rattle.cedr_expr.specs.Columns.{column}
use Rattle.cedr_expr.specs.Tests.{passes}
use Rattle.cedr_expr.proofs.TieLemmas.{both_true, column_left}
use Rattle.cedr_table.specs.Operators.{Tables}
use Rattle.cedr_table.specs.RowWise.{lives, row_during}
use Rattle.op_except.specs.Parts.{row_until, row_since, parts, matching, excepted, except_of}
use Rattle.pat_unless.specs.Blocking.{blocks, is_blocked_by, waited, unblocked, unless_of}
use Rattle.plan_keys.specs.Keys.{KeyedPort, IsAnsweredByKey, FitPorts, IsTiedFirst, row_key, key_part, key_parts, ties}
use Rattle.plan_keys.proofs.Parts.{HaveKey, parted_by_key}
use Rattle.plan_keys.proofs.Ties.{behind, tied_columns}
use Rattle.plan_keys.proofs.Chosen.{all_append}

module _ {X : Type 0} (mine test : X → Bool) where
  kept_one : (x : X) (xs ys : List X) (m t : Bool) → mine x ≡ m → test x ≡ t → (t ≡ true → m ≡ true) → filter test xs ≡ ys → filter test (cond m (x ∷ xs) xs) ≡ cond t (x ∷ ys) ys
  kept_one x xs ys true t is tests own e = ap (λ b. cond b (x ∷ filter test xs) (filter test xs)) tests ∙ ap (λ zs. cond t (x ∷ zs) zs) e
  kept_one x xs ys false true is tests own e = let no = own refl in cc
  kept_one x xs ys false false is tests own e = e

  -- what passes is mine, so it's the same among what is mine
  pub same_passing : (P : X → Type 0) (xs : List X) → AllByRecursion P xs → ((x : X) → P x → test x ≡ true → mine x ≡ true) → filter test (filter mine xs) ≡ filter test xs
  same_passing P [] have own = refl
  same_passing P (x ∷ xs) have own = kept_one x (filter mine xs) (filter test xs) (mine x) (test x) refl refl (own x have.0) (same_passing P xs have.1 own)

-- two rows that pass have one key, where the tests tie the key columns of the first two ports
pub one_key : (tests : List Test) (p q : KeyedPort) (ports : List KeyedPort) (c : ℕ) (a b : Row) → IsTiedFirst tests (p ∷ q ∷ ports) c → length a.payload ≡ p.width → passes tests a.payload b.payload ≡ true → row_key q.column b ≡ row_key p.column a
one_key tests p q ports c a b tied wide pass =
    let inside = tied.within.0 in
    let tie : list_any (ties (0 + p.column) ((0 + p.width) + q.column)) tests ≡ true = only (list_any (ties (0 + p.column) ((0 + p.width) + q.column)) tests) tied.tied.0 in
    let same = tied_columns a.payload b.payload (0 + p.column) ((0 + p.width) + q.column) tests tie pass in
    let first : column a.payload b.payload (0 + p.column) ≡ row_key p.column a = ap (column a.payload b.payload) (let e : 0 + p.column ≡ p.column = omega arith in e) ∙ column_left a.payload b.payload p.column (omega arith) in
    let second : column a.payload b.payload ((0 + p.width) + q.column) ≡ row_key q.column b = ap (column a.payload b.payload) (let e : (0 + p.width) + q.column ≡ p.width + q.column = omega arith in e) ∙ behind a.payload b.payload p.width q.column wide in
    sym second ∙ (sym same ∙ first) where
      only : (x : Bool) → x || false ≡ true → x ≡ true
      only true h = refl
      only false h = h

lived : (c : ℕ) (payload : List Field) (life : Interval) (b : Bool) → HaveKey c (slice_get payload c) (cond b (row_during life payload ∷ []) [])
lived c payload life true = (refl, tt)
lived c payload life false = tt

renamed_key : (c d : ℕ) (key : Option Field) (rows : List Row) → c ≡ d → HaveKey c key rows → HaveKey d key rows
renamed_key c d key [] e have = tt
renamed_key c d key (r ∷ rows) e have = (ap (λ k. row_key k r) (sym e) ∙ have.0, renamed_key c d key rows e have.1)

unblocked_key : (c scope hold : ℕ) (a : Row) (b : Bool) → HaveKey c (row_key c a) (cond b [] (waited scope hold a))
unblocked_key c scope hold a true = tt
unblocked_key c scope hold a false = let life : Interval = record { begin = later a.begin scope; end = later (later a.begin scope) hold } in lived c a.payload life (lives life)

first_part : (c : ℕ) (x : Row) (b : Bool) → HaveKey c (row_key c x) (cond b (x ∷ []) [])
first_part c x true = (refl, tt)
first_part c x false = tt

-- the parts of a row have its key
parts_key : (c : ℕ) (x : Row) (bs : List Row) → HaveKey c (row_key c x) (parts x bs)
parts_key c x [] = first_part c x (nat_lt x.begin x.end)
parts_key c x (b ∷ bs) = all_append (λ (r : Row). row_key c r ≡ row_key c x) (parts (row_until b.begin x) bs) (parts (row_since b.end x) bs) (parts_key c (row_until b.begin x) bs) (parts_key c (row_since b.end x) bs)

module _ (tests : List Test) where
  module _ (p q : KeyedPort) (ports : List KeyedPort) (c : ℕ) (tied : IsTiedFirst tests (p ∷ q ∷ ports) c) (mine : Option Field → Bool) (t u : List Row) (ts : Tables) (fit : FitPorts (p ∷ q ∷ ports) (t ∷ u ∷ ts)) where
    abbrev own : Row → Bool
    own b = mine (row_key q.column b)

    is_own : (a b : Row) → length a.payload ≡ p.width → mine (row_key p.column a) ≡ true → passes tests a.payload b.payload ≡ true → own b ≡ true
    is_own a b wide h pass = ap mine (one_key tests p q ports c a b tied wide pass) ∙ h

    blocker : (scope : ℕ) (a b : Row) → blocks scope tests a b ≡ true → passes tests a.payload b.payload ≡ true
    blocker scope a b h =
        let last = both_true (nat_lt a.begin b.begin) (nat_lt b.begin (later a.begin scope) && passes tests a.payload b.payload) h in
        let pass = both_true (nat_lt b.begin (later a.begin scope)) (passes tests a.payload b.payload) last.1 in
        pass.1

    unless_two : (scope hold : ℕ) → (unless_of scope hold tests).result (key_parts mine (p ∷ q ∷ ports) (t ∷ u ∷ ts)) ≡ key_part mine c ((unless_of scope hold tests).result (t ∷ u ∷ ts))
    unless_two scope hold =
        parted_by_key (λ (r : Row). length r.payload ≡ p.width) (row_key p.column) mine c (unblocked scope hold tests (key_part mine q.column u)) (unblocked scope hold tests u)
        (λ a wide h. ap (λ b. cond b [] (waited scope hold a)) (any-filter_same (blocks scope tests a) own true (λ b k. is_own a b wide h (blocker scope a b k)) u))
        (λ a wide. renamed_key p.column c (row_key p.column a) (unblocked scope hold tests u a) tied.column_is.0 (unblocked_key p.column scope hold a (is_blocked_by scope tests u a)))
        t fit.0

    except_two : (except_of tests).result (key_parts mine (p ∷ q ∷ ports) (t ∷ u ∷ ts)) ≡ key_part mine c ((except_of tests).result (t ∷ u ∷ ts))
    except_two =
        parted_by_key (λ (r : Row). length r.payload ≡ p.width) (row_key p.column) mine c (excepted tests (key_part mine q.column u)) (excepted tests u)
        (λ a wide h. ap (parts a) (same_passing own (λ b. passes tests a.payload b.payload) (λ (r : Row). length r.payload ≡ q.width) u fit.1.0 (λ b w k. is_own a b wide h k)))
        (λ a wide. renamed_key p.column c (row_key p.column a) (excepted tests u a) tied.column_is.0 (parts_key p.column a (matching tests a u)))
        t fit.0

  -- unless, whose tests tie the key columns of its ports
  pub unless_keyed : (scope hold : ℕ) (ports : List KeyedPort) (c : ℕ) → IsTiedFirst tests ports c → IsAnsweredByKey (unless_of scope hold tests) ports c
  unless_keyed scope hold [] c tied mine [] fit = refl
  unless_keyed scope hold [] c tied mine (t ∷ ts) fit = absurd fit
  unless_keyed scope hold (p ∷ ports) c tied mine [] fit = absurd fit
  unless_keyed scope hold (p ∷ []) c tied mine (t ∷ []) fit =
      parted_by_key (λ (r : Row). length r.payload ≡ p.width) (row_key p.column) mine c (unblocked scope hold tests []) (unblocked scope hold tests []) (λ a wide h. refl)
      (λ a wide. renamed_key p.column c (row_key p.column a) (unblocked scope hold tests [] a) tied.column_is.0 (unblocked_key p.column scope hold a false)) t fit.0
  unless_keyed scope hold (p ∷ []) c tied mine (t ∷ u ∷ ts) fit = absurd fit.1
  unless_keyed scope hold (p ∷ q ∷ ports) c tied mine (t ∷ []) fit = absurd fit.1
  unless_keyed scope hold (p ∷ q ∷ ports) c tied mine (t ∷ u ∷ ts) fit = unless_two p q ports c tied mine t u ts fit scope hold

  -- except, whose tests tie the key columns of its ports
  pub except_keyed : (ports : List KeyedPort) (c : ℕ) → IsTiedFirst tests ports c → IsAnsweredByKey (except_of tests) ports c
  except_keyed [] c tied mine [] fit = refl
  except_keyed [] c tied mine (t ∷ ts) fit = absurd fit
  except_keyed (p ∷ ports) c tied mine [] fit = absurd fit
  except_keyed (p ∷ []) c tied mine (t ∷ []) fit =
      parted_by_key (λ (r : Row). length r.payload ≡ p.width) (row_key p.column) mine c (excepted tests []) (excepted tests []) (λ a wide h. refl)
      (λ a wide. renamed_key p.column c (row_key p.column a) (excepted tests [] a) tied.column_is.0 (parts_key p.column a [])) t fit.0
  except_keyed (p ∷ []) c tied mine (t ∷ u ∷ ts) fit = absurd fit.1
  except_keyed (p ∷ q ∷ ports) c tied mine (t ∷ []) fit = absurd fit.1
  except_keyed (p ∷ q ∷ ports) c tied mine (t ∷ u ∷ ts) fit = except_two p q ports c tied mine t u ts fit

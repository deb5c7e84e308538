-- Choices of rows of different ports of tables that agree.
use Rattle.std.proofs.Common.{◌≡◌, ℕ, zero, suc, List, [], ◌∷◌, ◌++◌, Bool, true, false, cond, refl, ap, sym, ◌∙◌, arith, min}
use Rattle.std.specs.Prelude.{sum_by, nat_lt}
use Rattle.std.specs.List.{flat_map}
use Rattle.cedr_base.specs.declared.row.Row.{Row}
use Rattle.change_laws.specs.Agreeing.{AgreeUpTo}
use Rattle.change_laws.proofs.AgreeLemmas.{share}
use Rattle.change_laws.proofs.AgreeSums.{SeesUpTo, agree_sum, shares_agree}
use Rattle.change_laws.proofs.BagSums.{sum_by-flat_map}
use Rattle.cedr_table.specs.Operators.{Tables, least_of}
use Rattle.cedr_table.specs.Choices.{choices, chosen}
use Rattle.cedr_table.specs.Agreements.{KeepsAgreement}
use Rattle.cedr_table.proofs.ChoiceLemmas.{sum_chosen, sum_by-like}
use Rattle.cedr_table.proofs.ChoicesAgree.{SeesChoicesUpTo}
use Rattle.cedr_table.proofs.PortsAgree.{AllAgree, least_agree}
use Rattle.cedr_expr.specs.declared.test.Test.{Test}
use Rattle.pat_state.specs.Ascending.{sequence}
use Rattle.pat_state.proofs.SeenLemmas.{sequence_sees}
use Rattle.pat_atleast.specs.Arrangements.{some_of}
use Rattle.pat_atleast.specs.AtLeasts.{put_in, by_begin, together, at_least, at_least_of}
use Rattle.pat_atleast.specs.Sums.{sum_some}
use Rattle.pat_atleast.specs.SomeLaws.{sum_by-zero, sum_some-more, sum_some-like}

-- Rows in ascending order of begin have a row among others, whenever it ends.
record IsAmong (made : ℕ → List Row) (x : Row) : Type 0 where
  before : List Row
  after : List Row
  is : (end : ℕ) → made end ≡ before ++ record x { end = end } ∷ after

put_cond : (y x : Row) (rest : List Row) (b : Bool) → nat_lt y.begin x.begin ≡ b → (end : ℕ) → put_in y (record x { end = end } ∷ rest) ≡ cond b (y ∷ record x { end = end } ∷ rest) (record x { end = end } ∷ put_in y rest)
put_cond y x rest b is end = ap (λ c. cond c (y ∷ record x { end = end } ∷ rest) (record x { end = end } ∷ put_in y rest)) is

cond_rows : (b c : Bool) (xs ys : List Row) → b ≡ c → cond b xs ys ≡ cond c xs ys
cond_rows b c xs ys is = ap (λ d. cond d xs ys) is

-- one row more is put among them
put_among : (y x : Row) (before after : List Row) → IsAmong (λ end. put_in y (before ++ record x { end = end } ∷ after)) x
put_among y x [] after = at (nat_lt y.begin x.begin) refl where
  at : (b : Bool) → nat_lt y.begin x.begin ≡ b → IsAmong (λ end. put_in y (record x { end = end } ∷ after)) x
  at true less = record { before = y ∷ []; after = after; is = λ end. put_cond y x after true less end }
  at false more = record { before = []; after = put_in y after; is = λ end. put_cond y x after false more end }
put_among y x (e ∷ before) after = at (nat_lt y.begin e.begin) refl (put_among y x before after) where
  at : (b : Bool) → nat_lt y.begin e.begin ≡ b → IsAmong (λ end. put_in y (before ++ record x { end = end } ∷ after)) x → IsAmong (λ end. put_in y (e ∷ (before ++ record x { end = end } ∷ after))) x
  at true less rest = record {
    before = y ∷ e ∷ before;
    after = after;
    is = λ end. cond_rows (nat_lt y.begin e.begin) true (y ∷ e ∷ (before ++ record x { end = end } ∷ after)) (e ∷ put_in y (before ++ record x { end = end } ∷ after)) less;
  }
  at false more rest = record {
    before = e ∷ rest.before;
    after = rest.after;
    is = λ end. cond_rows (nat_lt y.begin e.begin) false (y ∷ e ∷ (before ++ record x { end = end } ∷ after)) (e ∷ put_in y (before ++ record x { end = end } ∷ after)) more ∙ ap (λ rows. e ∷ rows) (rest.is end);
  }

-- the row is put among others
itself_among : (x : Row) (rs : List Row) → IsAmong (λ end. put_in (record x { end = end }) rs) x
itself_among x [] = record { before = []; after = []; is = λ end. refl }
itself_among x (e ∷ es) = at (nat_lt x.begin e.begin) refl (itself_among x es) where
  at : (b : Bool) → nat_lt x.begin e.begin ≡ b → IsAmong (λ end. put_in (record x { end = end }) es) x → IsAmong (λ end. put_in (record x { end = end }) (e ∷ es)) x
  at true less rest = record { before = []; after = e ∷ es; is = λ end. cond_rows (nat_lt x.begin e.begin) true (record x { end = end } ∷ e ∷ es) (e ∷ put_in (record x { end = end }) es) less }
  at false more rest = record {
    before = e ∷ rest.before;
    after = rest.after;
    is = λ end. cond_rows (nat_lt x.begin e.begin) false (record x { end = end } ∷ e ∷ es) (e ∷ put_in (record x { end = end }) es) more ∙ ap (λ rows. e ∷ rows) (rest.is end);
  }

sorted_among : (x : Row) (before after : List Row) → IsAmong (λ end. by_begin (before ++ record x { end = end } ∷ after)) x
sorted_among x [] after = itself_among x (by_begin after)
sorted_among x (y ∷ before) after =
    let rest = sorted_among x before after in
    let more = put_among y x rest.before rest.after in
    record { before = more.before; after = more.after; is = λ end. ap (put_in y) (rest.is end) ∙ more.is end }

module _ (t : ℕ) (q : Row) (scope : ℕ) (tests : List Test) where
  abbrev weight : List Row → ℕ
  weight rs = sum_by (share t q) (together scope tests rs)

  abbrev in_order : List Row → ℕ
  in_order rs = sum_by (share t q) (sequence scope tests rs)

  -- the row of some rows sees each of them no further than those of a sequence
  together_sees : SeesChoicesUpTo t weight
  together_sees = record {
    late = λ before after x row from.
        let among = sorted_among x before after in
        ap in_order (among.is x.end) ∙ (sequence_sees t q scope tests).late among.before among.after x row from;
    early = λ before after x row early.
        let among = sorted_among x before after in
        ap in_order (among.is (min x.end t)) ∙ ((sequence_sees t q scope tests).early among.before among.after x row early ∙ sym (ap in_order (among.is x.end)));
  }

rest_sees : (t : ℕ) (w : List Row → ℕ) (r : Row) → SeesChoicesUpTo t w → SeesChoicesUpTo t (λ rs. w (r ∷ rs))
rest_sees t w r sees = record {
  late = λ before after x row from. sees.late (r ∷ before) after x row from;
  early = λ before after x row early. sees.early (r ∷ before) after x row early;
}

first_sees : (t : ℕ) (w : List Row → ℕ) (n : ℕ) (ts : Tables) → SeesChoicesUpTo t w → SeesUpTo t (λ r. sum_some (λ rs. w (r ∷ rs)) n ts)
first_sees t w n ts sees = record {
  late = λ x row from. sum_by-zero (λ some. sum_chosen (λ rs. w (x ∷ rs)) some) (some_of n ts) (λ some. sum_by-zero (λ rs. w (x ∷ rs)) (choices some) (λ rs. sees.late [] rs x row from));
  early = λ x row early. sum_some-like (λ rs. w (record x { end = min x.end t } ∷ rs)) (λ rs. w (x ∷ rs)) n ts (λ rs. sees.early [] rs x row early);
}

-- the choices of so many of some tables that agree up to a time have the same sum of each weight that sees no further
some_sum : (t : ℕ) (w : List Row → ℕ) (n : ℕ) (tables others : Tables) → SeesChoicesUpTo t w → AllAgree t tables others → sum_some w n tables ≡ sum_some w n others
some_sum t w zero tables others sees h = refl
some_sum t w (suc n) [] [] sees h = refl
some_sum t w (suc n) [] (y ∷ ys) sees h = absurd h
some_sum t w (suc n) (x ∷ xs) [] sees h = absurd h
some_sum t w (suc n) (x ∷ xs) (y ∷ ys) sees h = omega (
  arith,
  sum_some-more w n x xs,
  sum_some-more w n y ys,
  agree_sum t (λ r. sum_some (λ rs. w (r ∷ rs)) n xs) x y h.0.rows h.0.others (first_sees t w n xs sees) h.0.agree,
  sum_by-like (λ r. sum_some (λ rs. w (r ∷ rs)) n xs) (λ r. sum_some (λ rs. w (r ∷ rs)) n ys) y (λ r. some_sum t (λ rs. w (r ∷ rs)) n xs ys (rest_sees t w r sees) h.1),
  some_sum t w (suc n) xs ys sees h.1,
)

-- what they give has the sum of a weight over all choices
given_sum : (w : Row → ℕ) (image : List Row → List Row) (n : ℕ) (tables : Tables) → sum_by w (flat_map (chosen image) (some_of n tables)) ≡ sum_some (λ rs. sum_by w (image rs)) n tables
given_sum w image n tables =
    sum_by-flat_map w (chosen image) (some_of n tables)
    ∙ sum_by-like (λ some. sum_by w (chosen image some)) (λ some. sum_chosen (λ rs. sum_by w (image rs)) some) (some_of n tables) (λ some. sum_by-flat_map w image (choices some))

at_least_agree : (t number scope : ℕ) (tests : List Test) (tables others : Tables) → AllAgree t tables others → AgreeUpTo t (at_least number scope tests tables) (at_least number scope tests others)
at_least_agree t number scope tests tables others h =
    shares_agree t (at_least number scope tests tables) (at_least number scope tests others)
    (λ q. given_sum (share t q) (together scope tests) number tables
    ∙ (some_sum t (λ rs. sum_by (share t q) (together scope tests rs)) number tables others (together_sees t q scope tests) h
    ∙ sym (given_sum (share t q) (together scope tests) number others)))

-- the pattern keeps agreement
pub at_least_keeps : (ports number scope : ℕ) (tests : List Test) → KeepsAgreement (at_least_of ports number scope tests)
at_least_keeps ports number scope tests = record {
  agree = λ tables others marks rows others_rows h. at_least_agree (least_of marks) number scope tests tables others (least_agree marks tables others rows others_rows h);
  same_bound = λ tables others marks rows others_rows h. refl;
}

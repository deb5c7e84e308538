-- The changes of the pairs of a changed row repair a join.
use Rattle.std.proofs.Common.{◌≡◌, ℕ, ◌+◌, ◌≤◌, ◌⊎◌, inl, inr, List, [], ◌∷◌, ◌++◌, Bool, true, false, refl, ap, ◌∙◌, arith, min, max}
use Rattle.std.specs.Prelude.{sum_by, ◌&&◌}
use Rattle.std.proofs.lemmas.Bool.{cases_lt}
use Rattle.std.proofs.lemmas.List.Sums.{sum_by-le-sum_by}
use Rattle.cedr_base.specs.declared.field.Field.{Field}
use Rattle.cedr_base.specs.declared.row.Row.{Row}
use Rattle.cedr_base.specs.declared.change.Change.{Change}
use Rattle.cedr_base.specs.declared.change.Change.TheVariants.{Add, Cut}
use Rattle.cedr_base.specs.Rows.{count_of, AreRows}
use Rattle.cedr_base.specs.Changes.{sync_of, IsChange, puts, takes, all_puts, all_takes, changed_row}
use Rattle.change_laws.specs.Repairs.{AllFrom}
use Rattle.change_laws.proofs.RepairLemmas.{AllChanges, AllChanges-append, AllFrom-append, takes-flat_map, puts-flat_map, takes_adds, Turns}
use Rattle.cedr_table.specs.Choices.{chosen}
use Rattle.cedr_table.proofs.ChoiceLemmas.{sum_chosen, sum_chosen-cons, count_chosen}
use Rattle.cedr_table.proofs.RowsLemmas.{first_is, others_are}
use Rattle.std.proofs.Math.Nat.{max_comm, min_comm}
use Rattle.cedr_expr.specs.declared.side.Side.{Side}
use Rattle.cedr_expr.specs.declared.side.Side.TheVariants.{Left, Right}
use Rattle.op_join.specs.Joins.{PairTest, meet, rows_joined, joined_rows}
use Rattle.op_join.specs.Pairs.{met, passes_on, both_on, pair_changes, all_changes}
use Rattle.cedr_table.specs.Counted.{ends_after, SameAmong}
use Rattle.op_join.proofs.SkipLemmas.{ended_alone}
use Rattle.cedr_table.proofs.FilterLemmas.{sum_by-among}
use Rattle.op_join.proofs.SumLemmas.{sum_by-alike, sum_by-plus, sum_by-zero, sum_by-turned}
use Rattle.op_join.proofs.PairLemmas.{pair_sums, pair_there, cut_takes_late, cut_puts_early, pair_good}

-- a change may touch the row of its own row's pair with another one: the two pass, and the other one ends
-- after the change is seen
abbrev pub may_meet : PairTest → Side → Change → Row → Bool
may_meet pass side c o = passes_on pass side (changed_row c).payload o.payload && ends_after (sync_of c) o

module _ (p : PairTest) (side : Side) (c : Change) where
  -- what comes of one other row
  abbrev of_pair : Row → List Change
  of_pair o = pair_changes c (met p side (changed_row c) o)

  all_good : (t : ℕ) (found : List Row) → IsChange c → AreRows found → t ≤ sync_of c → AllChanges (all_changes p side c found) × AllFrom t (all_changes p side c found)
  all_good t [] is are late = (tt, tt)
  all_good t (o ∷ os) is are late =
      let here = pair_good p side t c o is (first_is o os are) late in
      let rest = all_good t os is (others_are o os are) late in
      (AllChanges-append (of_pair o) (all_changes p side c os) here.0 rest.0, AllFrom-append t (of_pair o) (all_changes p side c os) here.1 rest.1)

  -- a row that doesn't pass gives no change
  none_from : (c : Change) (b : Bool) (w : List Field) (begin end : ℕ) → b ≡ false → pair_changes c (meet b w begin end) ≡ []
  none_from (Add a) true w begin end h = cc
  none_from (Add a) false w begin end h = refl
  none_from (Cut a e) true w begin end h = cc
  none_from (Cut a e) false w begin end h = refl

  fails_at : (o : Row) (b d : Bool) → passes_on p side (changed_row c).payload o.payload ≡ b → ends_after (sync_of c) o ≡ d → (b && d) ≡ false → of_pair o ≡ []
  fails_at o true true is ends h = cc
  fails_at o true false is ends h = ended_alone p side c o ends
  fails_at o false d is ends h = none_from c (passes_on p side (changed_row c).payload o.payload) (both_on side (changed_row c).payload o.payload) (max (changed_row c).begin o.begin) (min (changed_row c).end o.end) is

  fails_alone : (o : Row) → may_meet p side c o ≡ false → of_pair o ≡ []
  fails_alone o h = fails_at o (passes_on p side (changed_row c).payload o.payload) (ends_after (sync_of c) o) refl refl h

  abbrev took : Row → Row → ℕ
  took r o = count_of r (all_takes (of_pair o))

  abbrev put : Row → Row → ℕ
  put r o = count_of r (all_puts (of_pair o))

  abbrev part : Row → Row → Row → ℕ
  part r o x = count_of r (met p side x o)

  module _ (found others : List Row) (finds : SameAmong (may_meet p side c) found others) where
    all_took : (r : Row) → count_of r (all_takes (all_changes p side c found)) ≡ sum_by (took r) others
    all_took r =
        takes-flat_map r of_pair found
        ∙ sum_by-among (may_meet p side c) (took r) found others finds (λ o h. ap (λ (cs : List Change). count_of r (all_takes cs)) (fails_alone o h))

    all_put : (r : Row) → count_of r (all_puts (all_changes p side c found)) ≡ sum_by (put r) others
    all_put r =
        puts-flat_map r of_pair found
        ∙ sum_by-among (may_meet p side c) (put r) found others finds (λ o h. ap (λ (cs : List Change). count_of r (all_puts cs)) (fails_alone o h))

no_takes : (p : PairTest) (side : Side) (a r : Row) (found : List Row) → count_of r (all_takes (all_changes p side (Add a) found)) ≡ 0
no_takes p side a r found = takes-flat_map r (of_pair p side (Add a)) found ∙ sum_by-zero (took p side (Add a) r) found (λ o. ap (count_of r) (takes_adds (met p side a o)))

all_apart : (p : PairTest) (side : Side) (c : Change) (r : Row) (found : List Row) → (count_of r (all_takes (all_changes p side c found)) ≡ 0) ⊎ (count_of r (all_puts (all_changes p side c found)) ≡ 0)
all_apart p side (Add a) r found = inl (no_takes p side a r found)
all_apart p side (Cut a e) r found = elim (cases_lt e r.end) [
  | inl late ↦ inr (puts-flat_map r (of_pair p side (Cut a e)) found ∙ sum_by-zero (put p side (Cut a e) r) found (λ o. cut_puts_early p side a o r e late))
  | inr early ↦ inl (takes-flat_map r (of_pair p side (Cut a e)) found ∙ sum_by-zero (took p side (Cut a e) r) found (λ o. cut_takes_late p side a o r e early))
]

-- the changes of a row's pairs turn the pairs of what it takes into those of what it puts
pub pairs_turn : (p : PairTest) (side : Side) (c : Change) (t : ℕ) (found others olds news : List Row) → IsChange c → t ≤ sync_of c → AreRows found → SameAmong (may_meet p side c) found others
    → ((r : Row) → count_of r olds ≡ sum_by (λ o. sum_by (part p side c r o) (takes c)) others) → ((r : Row) → count_of r news ≡ sum_by (λ o. sum_by (part p side c r o) (puts c)) others)
    → Turns t olds news (all_changes p side c found)
pairs_turn p side c t found others olds news is late are finds is_old is_new =
    let good = all_good p side c t found is are late in
    record {
      changes = good.0;
      from = good.1;
      sums = λ r. omega (
        arith,
        is_old r,
        is_new r,
        all_took p side c found others finds r,
        all_put p side c found others finds r,
        sum_by-plus (λ o. sum_by (part p side c r o) (puts c)) (took p side c r) others,
        sum_by-plus (λ o. sum_by (part p side c r o) (takes c)) (put p side c r) others,
        sum_by-alike (λ o. sum_by (part p side c r o) (puts c) + took p side c r o) (λ o. sum_by (part p side c r o) (takes c) + put p side c r o) others (λ o. pair_sums p side c o r is),
      );
      there = λ r. omega (arith, is_old r, all_took p side c found others finds r, sum_by-le-sum_by (took p side c r) (λ o. sum_by (part p side c r o) (takes c)) others (λ o. pair_there p side c o r));
      apart = λ r. all_apart p side c r found;
    }

last_choice : (w : List Row → ℕ) → sum_chosen w [] ≡ w []
last_choice w = omega arith

-- the pairs of two tables
count_two : (p : PairTest) (r : Row) (xs ys : List Row) → count_of r (chosen (joined_rows p) (xs ∷ ys ∷ [])) ≡ sum_by (λ a. sum_by (λ b. count_of r (rows_joined p a b)) ys) xs
count_two p r xs ys =
    count_chosen r (joined_rows p) (xs ∷ ys ∷ [])
    ∙ (sum_chosen-cons (λ rs. count_of r (joined_rows p rs)) xs (ys ∷ [])
    ∙ sum_by-alike _ _ xs (λ a. sum_chosen-cons (λ rs. count_of r (joined_rows p (a ∷ rs))) ys [] ∙ sum_by-alike _ _ ys (λ b. last_choice (λ rs. count_of r (joined_rows p (a ∷ b ∷ rs))))))

-- the copies of a row in a join are those that all right rows make with the left ones
pub count_left : (p : PairTest) (r : Row) (xs ys : List Row) → count_of r (chosen (joined_rows p) (xs ∷ ys ∷ [])) ≡ sum_by (λ o. sum_by (λ x. count_of r (met p Left x o)) xs) ys
count_left p r xs ys = count_two p r xs ys ∙ sum_by-turned (λ a b. count_of r (rows_joined p a b)) xs ys

met_turned : (p : PairTest) (a b : Row) → rows_joined p a b ≡ met p Right b a
met_turned p a b = λ i. meet (p a.payload b.payload) (a.payload ++ b.payload) (max_comm a.begin b.begin i) (min_comm a.end b.end i)

-- the copies of a row in a join are those that all left rows make with the right ones
pub count_right : (p : PairTest) (r : Row) (xs ys : List Row) → count_of r (chosen (joined_rows p) (xs ∷ ys ∷ [])) ≡ sum_by (λ o. sum_by (λ x. count_of r (met p Right x o)) ys) xs
count_right p r xs ys = count_two p r xs ys ∙ sum_by-alike _ _ xs (λ a. sum_by-alike _ _ ys (λ b. ap (count_of r) (met_turned p a b)))

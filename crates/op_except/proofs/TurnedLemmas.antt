-- Changes of port 1, answered for several rows of port 0.
use Rattle.std.proofs.Common.{◌≡◌, ℕ, zero, suc, ◌+◌, ◌<◌, ◌≤◌, ◌⊎◌, inl, inr, List, [], ◌∷◌, ◌++◌, Bool, true, false, cond, not, refl, ap, sym, ◌∙◌, subst, arith, append_assoc, replicate}
use Rattle.std.specs.Prelude.{◌&&◌}
use Rattle.std.specs.List.{flat_map, filter}
use Rattle.std.proofs.lemmas.Bool.{cases_lt, lt-ltb}
use Rattle.std.proofs.lemmas.List.{append-nil}
use Rattle.std.proofs.lemmas.List.Concat.{flat_map-append}
use Rattle.cedr_base.specs.declared.row.Row.{Row}
use Rattle.cedr_base.specs.declared.change.Change.{Change}
use Rattle.cedr_base.specs.declared.change.Change.TheVariants.{Add, Cut}
use Rattle.cedr_base.specs.Rows.{IsRow, AreRows, count_of, one_if_same, SameRows}
use Rattle.cedr_base.specs.Changes.{sync_of, changed_row, puts, takes, remnant, IsChange}
use Rattle.cedr_base.proofs.Bags.{count_of-append, count_of-cons}
use Rattle.change_laws.proofs.BagSums.{count_of-itself, same_flat_map}
use Rattle.change_laws.proofs.Moves.{remnant_some, remnant_none}
use Rattle.cedr_table.proofs.FilterLemmas.{count-filter, count-rest}
use Rattle.cedr_table.proofs.RowsLemmas.{fewer_are}
use Rattle.cedr_expr.specs.declared.test.Test.{Test}
use Rattle.cedr_expr.specs.Tests.{passes}
use Rattle.filed_rows.specs.Spans.{AreAmong, lives_within}
use Rattle.filed_rows.proofs.SpanLemmas.{filter_both}
use Rattle.op_except.specs.Parts.{row_since, parts, matching, excepted}
use Rattle.op_except.specs.Steps.{turn_at, turns_on}
use Rattle.op_except.specs.Turns.{IsLate, CanTurn, HasTurned}
use Rattle.op_except.specs.Standing.{NeverMeet}
use Rattle.op_except.specs.PartLaws.{split_sum, parts_same}
use Rattle.op_except.proofs.PartLemmas.{parts_apart, parts_empty}
use Rattle.op_except.proofs.TurnLemmas.{turns_none, turns_alike, turns_append}
use Rattle.op_except.proofs.RepairLemmas.{row_turns}

pub late_fewer : (tests : List Test) (t : ℕ) (c : Change) (others rows all : List Row) → AreAmong rows all → IsLate tests t c others all → IsLate tests t c others rows
late_fewer tests t (Add b) others rows all among late = late
late_fewer tests t (Cut b e) others rows all among late = λ a x there. late a x (among a there)

-- what may be answered for rows may be for some of them
pub can_fewer : (tests : List Test) (t : ℕ) (c : Change) (filed others rows all : List Row) → AreAmong rows all → CanTurn tests t c filed others all → CanTurn tests t c filed others rows
can_fewer tests t c filed others rows all among can = record {
  is = can.is;
  from = can.from;
  rows_are = fewer_are rows all among can.rows_are;
  filed_are = can.filed_are;
  same = λ a there. can.same a (among a there);
  late = late_fewer tests t c others rows all among can.late;
}

module _ (tests : List Test) (t : ℕ) (c : Change) (others : List Row) where
  abbrev before_change : Row → List Row
  before_change = excepted tests (takes c ++ others)

  abbrev after_change : Row → List Row
  after_change = excepted tests (puts c ++ others)

  pub turned_none : (outs : List Change) → HasTurned tests t c others [] outs outs
  turned_none outs = record { changes = []; appended = sym (append-nil outs); turns = turns_none t (turns_on c) [] [] (λ r. refl) }

  pub turned_along : (xs ys : List Row) (outs mid later : List Change) → HasTurned tests t c others xs outs mid → HasTurned tests t c others ys mid later → HasTurned tests t c others (xs ++ ys) outs later
  turned_along xs ys outs mid later h k = record {
    changes = h.changes ++ k.changes;
    appended = k.appended ∙ (ap (λ (cs : List Change). cs ++ k.changes) h.appended ∙ append_assoc outs h.changes k.changes);
    turns = turns_alike t (turns_on c) (flat_map before_change xs ++ flat_map before_change ys) (flat_map before_change (xs ++ ys)) (flat_map after_change xs ++ flat_map after_change ys) (flat_map after_change (xs ++ ys)) (h.changes ++ k.changes)
        (λ r. ap (count_of r) (flat_map-append before_change xs ys))
        (λ r. ap (count_of r) (flat_map-append after_change xs ys))
        (turns_append t (turns_on c) (flat_map before_change xs) (flat_map before_change ys) (flat_map after_change xs) (flat_map after_change ys) h.changes k.changes h.turns k.turns);
  }

  pub turned_alike : (xs ys : List Row) (outs later : List Change) → SameRows xs ys → HasTurned tests t c others xs outs later → HasTurned tests t c others ys outs later
  turned_alike xs ys outs later same h = record {
    changes = h.changes;
    appended = h.appended;
    turns = turns_alike t (turns_on c) (flat_map before_change xs) (flat_map before_change ys) (flat_map after_change xs) (flat_map after_change ys) h.changes
        (λ r. sym ((same_flat_map before_change xs ys same).each r))
        (λ r. sym ((same_flat_map after_change xs ys same).each r))
        h.turns;
  }

  all_still : (r : Row) (rows : List Row) → ((a r : Row) → 0 < count_of a rows → count_of r (after_change a) ≡ count_of r (before_change a)) → count_of r (flat_map after_change rows) ≡ count_of r (flat_map before_change rows)
  all_still r [] still = refl
  all_still r (a ∷ rows) still =
      omega (
        arith,
        count_of-append r (after_change a) (flat_map after_change rows),
        count_of-append r (before_change a) (flat_map before_change rows),
        still a r (count_of-itself a rows),
        all_still r rows (λ b q there. still b q (omega (arith, count_of-cons b a rows))),
      )

  -- rows that give the same before and after
  pub turned_still : (rows : List Row) (outs : List Change) → ((a r : Row) → 0 < count_of a rows → count_of r (after_change a) ≡ count_of r (before_change a)) → HasTurned tests t c others rows outs outs
  turned_still rows outs still = record { changes = []; appended = sym (append-nil outs); turns = turns_none t (turns_on c) (flat_map before_change rows) (flat_map after_change rows) (λ r. all_still r rows still) }

  halves : (p : Row → Bool) (r : Row) (xs : List Row) → count_of r (filter p xs ++ filter (λ x. not (p x)) xs) ≡ count_of r xs
  halves p r xs = omega (arith, count_of-append r (filter p xs) (filter (λ x. not (p x)) xs), pick (p r) (count_of r xs) (count_of r (filter p xs)) (count_of r (filter (λ x. not (p x)) xs)) (count-filter r p xs) (count-rest r p xs))
    where
      pick : (b : Bool) (n k m : ℕ) → k ≡ cond b n 0 → m ≡ cond b 0 n → k + m ≡ n
      pick true n k m h j = omega (arith, h, j)
      pick false n k m h j = omega (arith, h, j)

  gone_by : (p : Row → Bool) (a : Row) (xs : List Row) → 0 < count_of a (filter (λ x. not (p x)) xs) → (p a ≡ false) × (0 < count_of a xs)
  gone_by p a xs there = pick (p a) refl (count_of a (filter (λ x. not (p x)) xs)) (count-rest a p xs) there
    where
      pick : (b : Bool) → p a ≡ b → (m : ℕ) → m ≡ cond b 0 (count_of a xs) → 0 < m → (p a ≡ false) × (0 < count_of a xs)
      pick true is m h some = absurd (omega (arith, h))
      pick false is m h some = (is, omega (arith, h))

  -- where the rows that fail a test give the same before and after, it is enough to answer for the others
  pub turned_more : (p : Row → Bool) (rows : List Row) (outs later : List Change) → ((a r : Row) → 0 < count_of a rows → p a ≡ false → count_of r (after_change a) ≡ count_of r (before_change a)) → HasTurned tests t c others (filter p rows) outs later → HasTurned tests t c others rows outs later
  turned_more p rows outs later still h =
      turned_alike (filter p rows ++ filter (λ x. not (p x)) rows) rows outs later (record { each = λ r. halves p r rows })
      (turned_along (filter p rows) (filter (λ x. not (p x)) rows) outs later later h
      (turned_still (filter (λ x. not (p x)) rows) later (λ a r there. let k = gone_by p a rows there in still a r k.1 k.0)))

  -- one row
  pub turned_row : (filed : List Row) (a : Row) (found : List Row) (outs later : List Change) → CanTurn tests t c filed others (a ∷ []) → (AreRows filed → passes tests a.payload (changed_row c).payload ≡ true → SameRows found (filter (lives_within (sync_of c) (changed_row c).end) (excepted tests filed a)))
      → later ≡ outs ++ cond (passes tests a.payload (changed_row c).payload) (flat_map (turn_at c) found) [] → HasTurned tests t c others (a ∷ []) outs later
  turned_row filed a found outs later can finds appended = record {
    changes = cond (passes tests a.payload (changed_row c).payload) (flat_map (turn_at c) found) [];
    appended = appended;
    turns = turns_alike t (turns_on c) (before_change a) (flat_map before_change (a ∷ [])) (after_change a) (flat_map after_change (a ∷ [])) (cond (passes tests a.payload (changed_row c).payload) (flat_map (turn_at c) found) [])
        (λ r. ap (count_of r) (append-nil (before_change a)))
        (λ r. ap (count_of r) (append-nil (after_change a)))
        (row_turns tests t c filed others a found can (λ pass. record {
          each = λ r.
              (finds can.filed_are pass).each r
              ∙ (count-filter r (lives_within (sync_of c) (changed_row c).end) (excepted tests filed a)
              ∙ (ap (λ n. cond (lives_within (sync_of c) (changed_row c).end r) n 0) (parts_same (one_if_same r) a (matching tests a filed) (matching tests a others) (can.same a (count_of-itself a [])))
              ∙ sym (count-filter r (lives_within (sync_of c) (changed_row c).end) (excepted tests others a))));
        }));
  }

  -- ---- rows that don't meet the time that a change is about
  away_from : (from to : ℕ) (a : Row) → lives_within from to a ≡ false → (a.end ≤ from) ⊎ (to ≤ a.begin)
  away_from from to a is = elim (cases_lt from a.end) [
    | inl less ↦ elim (cases_lt a.begin to) [
      | inl under ↦ absurd (let yes : lives_within from to a ≡ true = λ i. lt-ltb from a.end less i && lt-ltb a.begin to under i in let wrong = sym yes ∙ is in cc)
      | inr over ↦ inr over
    ]
    | inr over ↦ inl over
  ]

  same_pass : (a b : Row) (bs cs : List Row) (r : Row) (pass : Bool) → count_of r (parts a (b ∷ matching tests a cs)) ≡ count_of r (parts a bs) → count_of r (parts a (matching tests a cs)) ≡ count_of r (parts a bs)
      → count_of r (parts a (cond pass (b ∷ matching tests a cs) (matching tests a cs))) ≡ count_of r (parts a bs)
  same_pass a b bs cs r true one other = one
  same_pass a b bs cs r false one other = other

  came_still : (a b r : Row) → IsRow b → lives_within b.begin b.end a ≡ false → count_of r (excepted tests (b ∷ others) a) ≡ count_of r (excepted tests others a)
  came_still a b r row is = same_pass a b (matching tests a others) others r (passes tests a.payload b.payload) (parts_apart (one_if_same r) a b (matching tests a others) row.lives (away_from b.begin b.end a is)) refl

  -- two rows that begin together and end no earlier than a is over leave the same of it
  cut_alike : (a b r : Row) (e : ℕ) (bs : List Row) → a.end ≤ e → e < b.end → b.begin < e → count_of r (parts a (record b { end = e } ∷ bs)) ≡ count_of r (parts a (b ∷ bs))
  cut_alike a b r e bs ended shorter lives =
      omega (
        arith,
        split_sum (one_if_same r) a b bs,
        split_sum (one_if_same r) a (record b { end = e }) bs,
        parts_empty (one_if_same r) (row_since b.end a) bs (omega arith),
        parts_empty (one_if_same r) (row_since e a) bs (omega arith),
      )

  went_still : (a b r : Row) (e : ℕ) → IsRow b → b.begin ≤ e → e < b.end → (a.end ≤ e) ⊎ (b.end ≤ a.begin) → count_of r (excepted tests (remnant b e ++ others) a) ≡ count_of r (excepted tests (b ∷ others) a)
  went_still a b r e row within shorter apart = elim (cases_lt b.begin e) [
    | inl stays ↦
        ap (λ (bs : List Row). count_of r (excepted tests (bs ++ others) a)) (remnant_some b e stays)
        ∙ pick (passes tests a.payload b.payload) (kept apart stays)
    | inr low ↦
        ap (λ (bs : List Row). count_of r (excepted tests (bs ++ others) a)) (remnant_none b e low)
        ∙ sym (same_pass a b (matching tests a others) others r (passes tests a.payload b.payload) (parts_apart (one_if_same r) a b (matching tests a others) row.lives (both apart low)) refl)
  ]
    where
      both : (a.end ≤ e) ⊎ (b.end ≤ a.begin) → e ≤ b.begin → NeverMeet a b
      both (inl ended) low = inl (omega arith)
      both (inr after) low = inr after

      kept : (a.end ≤ e) ⊎ (b.end ≤ a.begin) → b.begin < e → count_of r (parts a (record b { end = e } ∷ matching tests a others)) ≡ count_of r (parts a (b ∷ matching tests a others))
      kept (inl ended) stays = cut_alike a b r e (matching tests a others) ended shorter stays
      kept (inr after) stays =
          parts_apart (one_if_same r) a (record b { end = e }) (matching tests a others) stays (inr (omega arith))
          ∙ sym (parts_apart (one_if_same r) a b (matching tests a others) row.lives (inr after))

      pick : (pass : Bool) → count_of r (parts a (record b { end = e } ∷ matching tests a others)) ≡ count_of r (parts a (b ∷ matching tests a others))
          → count_of r (parts a (cond pass (record b { end = e } ∷ matching tests a others) (matching tests a others))) ≡ count_of r (parts a (cond pass (b ∷ matching tests a others) (matching tests a others)))
      pick true h = h
      pick false h = refl

far_still : (tests : List Test) (t : ℕ) (c : Change) (others : List Row) (a r : Row) → IsChange c → lives_within (sync_of c) (changed_row c).end a ≡ false → count_of r (excepted tests (puts c ++ others) a) ≡ count_of r (excepted tests (takes c ++ others) a)
far_still tests t (Add b) others a r is away = came_still tests t (Add b) others a b r is away
far_still tests t (Cut b e) others a r is away = went_still tests t (Cut b e) others a b r e is.0 is.1 is.2 (away_from tests t (Cut b e) others e b.end a away)

-- rows that don't meet the time that a change is about needn't be answered for
pub turned_within : (tests : List Test) (t : ℕ) (c : Change) (others rows : List Row) (outs later : List Change) → IsChange c → HasTurned tests t c others (filter (lives_within (sync_of c) (changed_row c).end) rows) outs later → HasTurned tests t c others rows outs later
turned_within tests t c others rows outs later is h = turned_more tests t c others (lives_within (sync_of c) (changed_row c).end) rows outs later (λ a r there away. far_still tests t c others a r is away) h

-- ---- rows one after the other
abbrev pub CanAll : List Test → Change → List Row → List Row → List Change → List Change → Type 0
CanAll tests c filed rows outs later = (t : ℕ) (others : List Row) → CanTurn tests t c filed others rows → HasTurned tests t c others rows outs later

module _ (tests : List Test) (c : Change) (filed : List Row) where
  -- several rows, and then more
  pub all_along : (xs ys : List Row) (outs mid later : List Change) → CanAll tests c filed xs outs mid → CanAll tests c filed ys mid later → CanAll tests c filed (xs ++ ys) outs later
  all_along xs ys outs mid later h k t others can =
      turned_along tests t c others xs ys outs mid later
      (h t others (can_fewer tests t c filed others xs (xs ++ ys) (λ r there. omega (arith, count_of-append r xs ys)) can))
      (k t others (can_fewer tests t c filed others ys (xs ++ ys) (λ r there. omega (arith, count_of-append r xs ys)) can))

  pub all_alike : (xs ys : List Row) (outs later : List Change) → SameRows xs ys → CanAll tests c filed xs outs later → CanAll tests c filed ys outs later
  all_alike xs ys outs later same h t others can =
      turned_alike tests t c others xs ys outs later same (h t others (can_fewer tests t c filed others xs ys (λ r there. omega (arith, same.each r)) can))

  pub all_none : (outs : List Change) → CanAll tests c filed [] outs outs
  all_none outs t others can = turned_none tests t c others outs

  more_copies : (k : ℕ) (a r : Row) → count_of r (replicate k a ++ a ∷ []) ≡ count_of r (replicate (k + 1) a)
  more_copies k a r = omega (arith, count_of-append r (replicate k a) (a ∷ []), ap (λ (n : ℕ). count_of r (replicate n a)) next, count_of-cons r a (replicate k a), count_of-cons r a [])
    where
      next : k + 1 ≡ suc k
      next = omega arith

  -- one copy more
  pub all_copies : (k : ℕ) (a : Row) (outs mid later : List Change) → CanAll tests c filed (replicate k a) outs mid → CanAll tests c filed (a ∷ []) mid later → CanAll tests c filed (replicate (k + 1) a) outs later
  all_copies k a outs mid later h k' = all_alike (replicate k a ++ a ∷ []) (replicate (k + 1) a) outs later (record { each = more_copies k a }) (all_along (replicate k a) (a ∷ []) outs mid later h k')

  module _ (from to : ℕ) where
    living : (n : ℕ) (a : Row) (b : Bool) → lives_within from to a ≡ b → filter (lives_within from to) (replicate n a) ≡ cond b (replicate n a) []
    living zero a true is = refl
    living zero a false is = refl
    living (suc n) a true is = ap {B = List Row} (λ b. cond b (a ∷ filter (lives_within from to) (replicate n a)) (filter (lives_within from to) (replicate n a))) is ∙ ap (λ (rows : List Row). a ∷ rows) (living n a true is)
    living (suc n) a false is = ap {B = List Row} (λ b. cond b (a ∷ filter (lives_within from to) (replicate n a)) (filter (lives_within from to) (replicate n a))) is ∙ living n a false is

    -- copies of a row that meets the time
    pub all_met : (done : List Row) (n : ℕ) (a : Row) (outs mid later : List Change) → lives_within from to a ≡ true → CanAll tests c filed (filter (lives_within from to) done) outs mid → CanAll tests c filed (replicate n a) mid later → CanAll tests c filed (filter (lives_within from to) (done ++ replicate n a)) outs later
    all_met done n a outs mid later lives h k =
        subst (λ (rows : List Row). CanAll tests c filed rows outs later) (sym (filter_both (lives_within from to) done (replicate n a) ∙ ap (λ (rows : List Row). filter (lives_within from to) done ++ rows) (living n a true lives)))
        (all_along (filter (lives_within from to) done) (replicate n a) outs mid later h k)

    -- and of one that doesn't
    pub all_unmet : (done : List Row) (n : ℕ) (a : Row) (outs later : List Change) → lives_within from to a ≡ false → CanAll tests c filed (filter (lives_within from to) done) outs later → CanAll tests c filed (filter (lives_within from to) (done ++ replicate n a)) outs later
    all_unmet done n a outs later away h =
        subst (λ (rows : List Row). CanAll tests c filed rows outs later) (sym (filter_both (lives_within from to) done (replicate n a) ∙ (ap (λ (rows : List Row). filter (lives_within from to) done ++ rows) (living n a false away) ∙ append-nil (filter (lives_within from to) done))))
        h

  in_filter : (p : Row → Bool) (rows : List Row) (r : Row) → 0 < count_of r (filter p rows) → 0 < count_of r rows
  in_filter p rows r there = pick (p r) (count_of r rows) (count_of r (filter p rows)) (count-filter r p rows) there
    where
      pick : (b : Bool) (n m : ℕ) → m ≡ cond b n 0 → 0 < m → 0 < n
      pick true n m is some = omega (arith, is)
      pick false n m is some = absurd (omega (arith, is))

  -- both ranges in which those rows are found that meet the time
  pub all_within : (first second rows : List Row) (outs mid later : List Change) → filter (lives_within (sync_of c) (changed_row c).end) (first ++ second) ≡ filter (lives_within (sync_of c) (changed_row c).end) rows
      → CanAll tests c filed (filter (lives_within (sync_of c) (changed_row c).end) first) outs mid → CanAll tests c filed (filter (lives_within (sync_of c) (changed_row c).end) second) mid later → CanAll tests c filed rows outs later
  all_within first second rows outs mid later same h k t others can =
      let p : Row → Bool = lives_within (sync_of c) (changed_row c).end in
      turned_within tests t c others rows outs later can.is
      (subst (λ (found : List Row). CanAll tests c filed found outs later) (sym (filter_both p first second) ∙ same) (all_along (filter p first) (filter p second) outs mid later h k)
      t others (can_fewer tests t c filed others (filter p rows) rows (in_filter p rows) can))

  -- one row, as the code has it
  pub row_answered : (a o : Row) (found : List Row) (outs later : List Change) (from : ℕ) (pass : Bool) → o ≡ changed_row c → from ≡ sync_of c → passes tests a.payload o.payload ≡ pass → later ≡ outs ++ cond pass (flat_map (turn_at c) found) []
      → (pass ≡ true → AreRows filed → SameRows found (filter (lives_within from o.end) (excepted tests filed a))) → CanAll tests c filed (a ∷ []) outs later
  row_answered a o found outs later from pass row_is from_is passes_is appended finds t others can =
      let tested : passes tests a.payload (changed_row c).payload ≡ pass = subst (λ (r : Row). passes tests a.payload r.payload ≡ pass) row_is passes_is in
      turned_row tests t c others filed a found outs later can
      (λ are yes. subst (λ (r : Row). SameRows found (filter (lives_within (sync_of c) r.end) (excepted tests filed a))) row_is
      (subst (λ (n : ℕ). SameRows found (filter (lives_within n o.end) (excepted tests filed a))) from_is (finds (sym tested ∙ yes) are)))
      (appended ∙ ap (λ (b : Bool). outs ++ cond b (flat_map (turn_at c) found) []) (sym tested))

-- What the state stands for after a call.
use Rattle.std.proofs.Common.{◌≡◌, ℕ, ◌≤◌, List, [], ◌∷◌, ◌++◌, length, refl, ap, sym, ◌∙◌, subst, arith}
use Rattle.std.specs.Prelude.{Result, Ok, Err, OnOk, Bool, true, false, cond, None, nat_le}
use Rattle.std.specs.List.Sorted.{IsStrictlySortedBy}
use Rattle.std.specs.BTreeMap.{BTreeMap}
use Rattle.std.specs.Ordering.{nat_cmp}
use Rattle.cedr_base.specs.declared.field.Field.{Field}
use Rattle.cedr_base.specs.declared.row.Row.{Row}
use Rattle.cedr_base.specs.declared.change.Change.{Change}
use Rattle.cedr_base.specs.Order.{payload_cmp}
use Rattle.cedr_base.specs.Changes.{MayFollow, sync_of, changed_row}
use Rattle.cedr_base.specs.Rows.{AreRows}
use Rattle.change_laws.specs.Repairs.{IsMoved}
use Rattle.change_laws.proofs.Moves.{may_is}
use Rattle.cedr_table.specs.Operators.{Tables, table_at, mark_at, with_table, CanTake, Gains}
use Rattle.cedr_table.specs.PortLaws.{table_at-with}
use Rattle.cedr_table.proofs.RowsLemmas.{moved_are}
use Rattle.op_group.specs.declared.segment.Segment.{Segment}
use Rattle.op_group.specs.declared.points.Points.{Points}
use Rattle.op_group.specs.Groups.{Grouping, key_of, rows_of, grouped, open_from}
use Rattle.op_group.specs.Cuts.{differences}
use Rattle.op_group.specs.Measures.{tally_of, no_totals}
use Rattle.op_group.specs.LawWords.{shown_as}
use Rattle.op_group.specs.Tallies.{Tally}
use Rattle.op_group.specs.declared.bags.Bags.{Bags}
use Rattle.std.specs.Map.{keys_of}
use Rattle.op_group.specs.Bags.{BagKeeps, bag_at}
use Rattle.op_group.specs.State.{KeepsGroups, KeepsFields, AnswersGroup, StandsForGroups}
use Rattle.op_group.proofs.GroupRepairs.{group_repairs}

-- on the only port
record IsOnOne (tables : Tables) (marks : List ℕ) (port : ℕ) (c : Change) (after : List Row) : Type 0 where
  new_table : table_at (with_table tables port after) 0 ≡ after
  may : MayFollow (table_at tables 0) [] c
  from : mark_at marks 0 ≤ sync_of c
  moved : IsMoved c (table_at tables 0) after
  size : length (with_table tables port after) ≡ length tables

on_one : (tables : Tables) (marks : List ℕ) (port : ℕ) (c : Change) (after : List Row) → length tables ≡ 1 → CanTake tables marks port c → IsMoved c (table_at tables port) after → IsOnOne tables marks port c after
on_one tables marks port c after one can moved =
    let only : port ≡ 0 = let h = can.port_is in omega arith in
    let can0 = subst (λ (n : ℕ). CanTake tables marks n c) only can in
    record {
      new_table = ap (λ n. table_at (with_table tables n after) 0) only ∙ table_at-with tables 0 after (omega arith);
      may = can0.legal;
      from = can0.from;
      moved = subst (λ (n : ℕ). IsMoved c (table_at tables n) after) only moved;
      size = Rattle.std.proofs.Math.ListN.length-set tables port after;
    }

-- the state stands for the new table
pub stands_after : (g : Grouping) (groups groups' : List (List Field × BTreeMap ℕ Segment)) (points points' : Points) (bags bags' : Bags) (tables : Tables) (marks : List ℕ) (port : ℕ) (c : Change) (after : List Row)
    → ((old new : List Row) (mark : ℕ) → KeepsGroups g groups points.all.keys points.due.keys old mark → KeepsFields g bags points.due.keys old mark → MayFollow old [] c → IsMoved c old new → mark ≤ sync_of c → KeepsGroups g groups' points'.all.keys points'.due.keys new mark)
    → ((old new : List Row) (mark : ℕ) → KeepsGroups g groups points.all.keys points.due.keys old mark → KeepsFields g bags points.due.keys old mark → MayFollow old [] c → IsMoved c old new → mark ≤ sync_of c → KeepsFields g bags' points'.due.keys new mark)
    → StandsForGroups g groups points bags tables marks → CanTake tables marks port c → IsMoved c (table_at tables port) after → StandsForGroups g groups' points' bags' (with_table tables port after) marks
stands_after g groups groups' points points' bags bags' tables marks port c after keeps fields stands can moved =
    let one = on_one tables marks port c after stands.table can moved in
    record {
      table = one.size ∙ stands.table;
      mark = stands.mark;
      rows = subst AreRows (sym one.new_table) (moved_are c (table_at tables 0) after (may_is (table_at tables 0) [] c one.may) one.moved stands.rows);
      keeps = subst (λ (rows : List Row). KeepsGroups g groups' points'.all.keys points'.due.keys rows (mark_at marks 0)) (sym one.new_table) (keeps (table_at tables 0) after (mark_at marks 0) stands.keeps stands.fields one.may one.moved one.from);
      fields = subst (λ (rows : List Row). KeepsFields g bags' points'.due.keys rows (mark_at marks 0)) (sym one.new_table) (fields (table_at tables 0) after (mark_at marks 0) stands.keeps stands.fields one.may one.moved one.from);
    }

-- and what was appended repairs the result
pub gains_after : (g : Grouping) (groups : List (List Field × BTreeMap ℕ Segment)) (points : Points) (bags : Bags) (tables : Tables) (marks : List ℕ) (port : ℕ) (c : Change) (after : List Row) (outs outs' : List Change)
    → ((old new : List Row) (mark : ℕ) → KeepsGroups g groups points.all.keys points.due.keys old mark → KeepsFields g bags points.due.keys old mark → MayFollow old [] c → IsMoved c old new → mark ≤ sync_of c → AreRows old → AnswersGroup g.counted g.totalled (key_of g (changed_row c)) (rows_of g (key_of g (changed_row c)) old) (rows_of g (key_of g (changed_row c)) new) outs outs')
    → StandsForGroups g groups points bags tables marks → CanTake tables marks port c → IsMoved c (table_at tables port) after
    → Gains (grouped g (table_at tables 0)) (grouped g (table_at (with_table tables port after) 0)) (open_from (mark_at marks 0) (grouped g (table_at tables 0))) outs outs'
gains_after g groups points bags tables marks port c after outs outs' answers stands can moved =
    let one = on_one tables marks port c after stands.table can moved in
    let answer = answers (table_at tables 0) after (mark_at marks 0) stands.keeps stands.fields one.may one.moved one.from stands.rows in
    subst (λ (rows : List Row). Gains (grouped g (table_at tables 0)) (grouped g rows) (open_from (mark_at marks 0) (grouped g (table_at tables 0))) outs outs') (sym one.new_table)
    (record {
      changes = differences answer.olds answer.news;
      appended = answer.appended;
      repair = group_repairs g (key_of g (changed_row c)) c (table_at tables 0) after (mark_at marks 0) answer.olds answer.news refl (may_is (table_at tables 0) [] c one.may) one.moved one.from stands.rows answer.turned;
    })

nothing_since : (b : Bool) (n : ℕ) (ns ms : Tally) → None ≡ shown_as (cond b 0 0) (cond b 0 0) (cond b ns ms)
nothing_since true n ns ms = refl
nothing_since false n ns ms = refl

no_keys : IsStrictlySortedBy payload_cmp []
unfolding IsStrictlySortedBy
no_keys = tt

empty_keeps : (g : Grouping) → KeepsGroups g [] [] [] [] 0
unfolding IsStrictlySortedBy
empty_keeps g = record {
  sorted = no_keys;
  ordered = λ key. no_times;
  some_cuts = λ key cuts there. cc;
  shown = λ key. record { from = 0; shown = record { below = omega arith; starts = Rattle.std.proofs.Common.inr (λ t is. absurd (omega arith)); shows = record { at = λ t. nothing_since (nat_le 0 t) 0 (tally_of g.totalled [] t) (no_totals g.totalled) } } };
  entered = λ t key. refl;
  still = λ t key there. there;
  passed = λ t key there. cc;
}
  where
    no_times : IsStrictlySortedBy nat_cmp []
    no_times = tt

empty_fields : (g : Grouping) (bags : Bags) → bags.all.entries ≡ [] → bags.passed ≡ 0 → KeepsFields g bags [] [] 0
empty_fields g bags none start = record {
  sorted = subst (λ bs. IsStrictlySortedBy payload_cmp (keys_of bs)) (sym none) no_keys;
  within = omega (arith, start);
  each = λ key. subst (λ bs. BagKeeps (bag_at bs key) bags.passed []) (sym none) (λ w early. refl);
  forgotten = λ t key cut. cc;
  live = λ key bag there. absurd (let nothing = ap (λ bs. bag_at bs key) none in cc);
}

-- a new operator stands for an empty table
pub new_stands : (g : Grouping) (groups : List (List Field × BTreeMap ℕ Segment)) (points : Points) (bags : Bags) → groups ≡ [] → points.all.keys ≡ [] → points.due.keys ≡ [] → bags.all.entries ≡ [] → bags.passed ≡ 0 → StandsForGroups g groups points bags ([] ∷ []) (0 ∷ [])
new_stands g groups points bags none no_points none_due no_bags start = record {
  table = refl;
  mark = refl;
  rows = record { each = λ r there. absurd (omega arith) };
  keeps = subst (λ gs. KeepsGroups g gs points.all.keys points.due.keys [] 0) (sym none) (subst (λ ps. KeepsGroups g [] ps points.due.keys [] 0) (sym no_points) (subst (λ ps. KeepsGroups g [] [] ps [] 0) (sym none_due) (empty_keeps g)));
  fields = subst (λ ps. KeepsFields g bags ps [] 0) (sym none_due) (empty_fields g bags no_bags start);
}

-- two claims that hold where all went well
pub on_ok_both : {T E : Type 0} (P Q : Type 0) (r : Result T E) → OnOk r P → OnOk r Q → OnOk r (P × Q)
on_ok_both P Q (Ok x) p q = (p, q)
on_ok_both P Q (Err e) p q = tt

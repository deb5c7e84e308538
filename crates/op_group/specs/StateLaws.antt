-- What the state of an operator over groups stands for.
use Rattle.std.proofs.Common.{◌≡◌, ℕ, ◌<◌, ◌≤◌, inl, inr, List, [], length, refl, ap, sym, ◌∙◌, subst, arith}
use Rattle.std.specs.Prelude.{cond, nat_le, nat_lt}
use Rattle.std.specs.BTreeMap.{BTreeMap}
use Rattle.cedr_base.specs.declared.time.TheConstants.{FOREVER}
use Rattle.cedr_base.specs.declared.field.Field.{Field}
use Rattle.cedr_base.specs.declared.row.Row.{Row}
use Rattle.cedr_base.specs.declared.change.Change.{Change}
use Rattle.cedr_base.specs.Rows.{SameRows}
use Rattle.change_laws.specs.Repairs.{IsMoved}
use Rattle.change_laws.proofs.Moves.{may_is}
use Rattle.cedr_table.specs.Operators.{Tables, table_at, mark_at, with_table, CanTake, AllRise, SameTables}
use Rattle.cedr_table.specs.PortLaws.{rise_length, rise_at, same_length, same_at, time_at, table_at-with}
use Rattle.cedr_table.specs.OperatorLaws.{OperatorLaws}
use Rattle.change_laws.proofs.BagSums.{same_back}
use Rattle.cedr_table.proofs.RowsLemmas.{same_are}
use Rattle.op_group.specs.declared.segment.Segment.{Segment}
use Rattle.op_group.specs.declared.segment.Totalled.{Totalled}
use Rattle.op_group.specs.declared.points.CutPoint.{CutPoint}
use Rattle.op_group.specs.declared.points.Points.{Points}
use Rattle.op_group.specs.Groups.{Grouping, group_of, rows_of, grouped, open_from}
use Rattle.op_group.specs.Measures.{edge_at, part_at, edges_of, living_of, tally_of, no_totals}
use Rattle.op_group.specs.LawWords.{SameAt, shown_as}
use Rattle.op_group.specs.GroupLaws.{same_grouped, group_sum, same_at as same_sums}
use Rattle.op_group.specs.BoundLaws.{open_below, open_rises, open_stays}
use Rattle.op_group.specs.declared.bags.Bags.{Bags}
use Rattle.op_group.specs.Bags.{bag_at, lives_of}
use Rattle.op_group.specs.BagLaws.{bag_alike, lives_same}
use Rattle.op_group.specs.State.{ShowsFrom, KeepsGroups, KeepsFields, StandsForGroups}

-- what is shown from a time on is shown at a later mark too
from_rising : (asked : Totalled) (mark later from : ℕ) (cuts : List (ℕ × Segment)) (rows : List Row) → mark ≤ later → ShowsFrom asked mark from cuts rows → ShowsFrom asked later from cuts rows
from_rising asked mark later from cuts rows rise h = record {
  below = (let low = h.below in omega arith);
  starts = elim h.starts [ inl at_cut ↦ inl ((let low = at_cut.0 in omega arith), at_cut.1) | inr quiet ↦ inr quiet ];
  shows = h.shows;
}

keeps_rising : (g : Grouping) (groups : List (List Field × BTreeMap ℕ Segment)) (all due : List CutPoint) (rows : List Row) (mark later : ℕ) → mark ≤ later → KeepsGroups g groups all due rows mark → KeepsGroups g groups all due rows later
keeps_rising g groups all due rows mark later rise h = record {
  sorted = h.sorted;
  ordered = h.ordered;
  some_cuts = h.some_cuts;
  shown = λ key. record { from = (h.shown key).from; shown = from_rising g.totalled mark later (h.shown key).from _ _ rise (h.shown key).shown };
  entered = h.entered;
  still = h.still;
  passed = λ t key there gone. let is = h.passed t key there gone in record { past = (let low = is.past in omega arith); first = is.first; lives = is.lives };
}

-- a state that stands for some marks stands for greater ones, too
pub stands_rising : (g : Grouping) (groups : List (List Field × BTreeMap ℕ Segment)) (points : Points) (bags : Bags) (tables : Tables) (marks later : List ℕ) → AllRise marks later → StandsForGroups g groups points bags tables marks → StandsForGroups g groups points bags tables later
stands_rising g groups points bags tables marks later rise h = record {
  table = h.table;
  mark = rise_length marks later rise ∙ h.mark;
  rows = h.rows;
  keeps = keeps_rising g groups points.all.keys points.due.keys (table_at tables 0) (mark_at marks 0) (mark_at later 0) (rise_at 0 marks later rise) h.keeps;
  fields = (let within = h.fields.within in let higher = rise_at 0 marks later rise in record { sorted = h.fields.sorted; within = omega arith; each = h.fields.each; forgotten = h.fields.forgotten; live = h.fields.live });
}

-- what shows some rows of a group shows others that count the same at each time
pub from_alike : (asked : Totalled) (mark from : ℕ) (cuts : List (ℕ × Segment)) (xs ys : List Row) → ((t : ℕ) → edges_of xs t ≡ edges_of ys t) → ((t : ℕ) → living_of xs t ≡ living_of ys t) → ((t : ℕ) → tally_of asked xs t ≡ tally_of asked ys t)
    → ShowsFrom asked mark from cuts xs → ShowsFrom asked mark from cuts ys
from_alike asked mark from cuts xs ys e f g h = record {
  below = h.below;
  starts = elim h.starts [ inl at_cut ↦ inl (at_cut.0, subst (λ (n : ℕ). 0 < n) (e from) at_cut.1) | inr quiet ↦ inr (λ t is. sym (f t) ∙ quiet t is) ];
  shows = record {
    at = λ t.
        h.shows.at t
        ∙ (ap (λ n. shown_as (cond (nat_le from t) n 0) (cond (nat_le from t) (living_of xs t) 0) (cond (nat_le from t) (tally_of asked xs t) (no_totals asked))) (e t)
        ∙ (ap (λ n. shown_as (cond (nat_le from t) (edges_of ys t) 0) (cond (nat_le from t) n 0) (cond (nat_le from t) (tally_of asked xs t) (no_totals asked))) (f t)
        ∙ ap (λ ns. shown_as (cond (nat_le from t) (edges_of ys t) 0) (cond (nat_le from t) (living_of ys t) 0) (cond (nat_le from t) ns (no_totals asked))) (g t)));
  };
}

-- a group of two tables that are the same bag is the same at each time
pub same_of_bags : (g : Grouping) (key : List Field) (xs ys : List Row) (t : ℕ) → SameRows xs ys → SameAt g key xs ys t
same_of_bags g key xs ys t same = same_sums g key xs ys t (group_sum g key (edge_at t) xs ys same) (λ w. group_sum g key (part_at (λ (r : Row). w r.payload) t) xs ys same)

-- what keeps a bag keeps each list of it
keeps_alike : (g : Grouping) (groups : List (List Field × BTreeMap ℕ Segment)) (all due : List CutPoint) (xs ys : List Row) (mark : ℕ) → SameRows xs ys → KeepsGroups g groups all due xs mark → KeepsGroups g groups all due ys mark
keeps_alike g groups all due xs ys mark same h = record {
  sorted = h.sorted;
  ordered = h.ordered;
  some_cuts = h.some_cuts;
  shown = λ key. record {
    from = (h.shown key).from;
    shown = from_alike g.totalled mark (h.shown key).from _ (rows_of g key xs) (rows_of g key ys) (λ t. (same_of_bags g key xs ys t same).edges) (λ t. (same_of_bags g key xs ys t same).living) (λ t. (same_of_bags g key xs ys t same).totals) (h.shown key).shown;
  };
  entered = h.entered;
  still = h.still;
  passed = λ t key there gone. let is = h.passed t key there gone in record { past = is.past; first = is.first; lives = subst (λ (n : ℕ). 0 < n) (same_of_bags g key xs ys t same).living is.lives };
}

-- what bags keep of a bag of rows they keep of each list of it
fields_alike : (g : Grouping) (bags : Bags) (due : List CutPoint) (xs ys : List Row) (mark : ℕ) → SameRows xs ys → KeepsFields g bags due xs mark → KeepsFields g bags due ys mark
fields_alike g bags due xs ys mark same h = record {
  sorted = h.sorted;
  within = h.within;
  each = λ key. bag_alike (bag_at bags.all.entries key) bags.passed (lives_of g.totalled (rows_of g key xs)) (lives_of g.totalled (rows_of g key ys)) (lives_same g.totalled (rows_of g key xs) (rows_of g key ys) (λ w. group_sum g key w xs ys same)) (h.each key);
  forgotten = λ t key cut gone. h.forgotten t key (ap (nat_lt 0) (group_sum g key (edge_at t) xs ys same) ∙ cut) gone;
  live = h.live;
}

-- a state that stands for some tables stands for others that are the same bags, too
pub stands_alike : (g : Grouping) (groups : List (List Field × BTreeMap ℕ Segment)) (points : Points) (bags : Bags) (tables others : Tables) (marks : List ℕ) → SameTables tables others → StandsForGroups g groups points bags tables marks → StandsForGroups g groups points bags others marks
stands_alike g groups points bags tables others marks same h =
    let rows = same_at 0 tables others same in
    record {
      table = same_length tables others same ∙ h.table;
      mark = h.mark;
      rows = same_are (table_at others 0) (table_at tables 0) (same_back (table_at tables 0) (table_at others 0) rows) h.rows;
      keeps = keeps_alike g groups points.all.keys points.due.keys (table_at tables 0) (table_at others 0) (mark_at marks 0) rows h.keeps;
      fields = fields_alike g bags points.due.keys (table_at tables 0) (table_at others 0) (mark_at marks 0) rows h.fields;
    }

-- a change that may come on the only port doesn't lower the bound
pub bound_stays_on_one : (g : Grouping) (tables : Tables) (marks : List ℕ) (port : ℕ) (c : Change) (after : List Row) → length tables ≡ 1 → CanTake tables marks port c → IsMoved c (table_at tables port) after
    → open_from (mark_at marks 0) (grouped g (table_at tables 0)) ≤ open_from (mark_at marks 0) (grouped g (table_at (with_table tables port after) 0))
bound_stays_on_one g tables marks port c after one can moved =
    let only : port ≡ 0 = let h = can.port_is in omega arith in
    let can0 = subst (λ (n : ℕ). CanTake tables marks n c) only can in
    let moved0 = subst (λ (n : ℕ). IsMoved c (table_at tables n) after) only moved in
    let new_table : table_at (with_table tables port after) 0 ≡ after = ap (λ n. table_at (with_table tables n after) 0) only ∙ table_at-with tables 0 after (omega arith) in
    subst (λ (rows : List Row). open_from (mark_at marks 0) (grouped g (table_at tables 0)) ≤ open_from (mark_at marks 0) (grouped g rows)) (sym new_table)
    (open_stays g c (table_at tables 0) after (mark_at marks 0) (may_is (table_at tables 0) [] c can0.legal) moved0 can0.from)

-- the bound isn't above FOREVER where the mark isn't
pub open_is_time : (mark : ℕ) (rows : List Row) → mark ≤ FOREVER → open_from mark rows ≤ FOREVER
open_is_time mark rows h = let below = open_below mark rows in omega arith

-- the laws of the meaning of a grouping, and of what its state stands for
pub group_laws : (g : Grouping) (groups : List (List Field × BTreeMap ℕ Segment)) (points : Points) (bags : Bags) → OperatorLaws (group_of g) (StandsForGroups g groups points bags)
group_laws g groups points bags = record {
  sized = λ tables marks h. (h.table, h.mark);
  rising = λ tables marks later h k. stands_rising g groups points bags tables marks later k h;
  alike = λ tables others marks k h. stands_alike g groups points bags tables others marks k h;
  same_rows = λ tables others k. same_grouped g (table_at tables 0) (table_at others 0) (same_at 0 tables others k);
  nothing = record { each = λ r. refl };
  bound_rises = λ tables marks later h k. open_rises (mark_at marks 0) (mark_at later 0) (grouped g (table_at tables 0)) (rise_at 0 marks later k);
  bound_stays = λ tables marks port change after h k m. bound_stays_on_one g tables marks port change after h.table k m;
  bound_is_time = λ tables marks h k. open_is_time (mark_at marks 0) (grouped g (table_at tables 0)) (time_at 0 marks k);
  echo_bound = λ tables marks e h. cc;
}

-- A change on a port of a join.
use Rattle.std.proofs.Common.{◌≡◌, ◌≢◌, ℕ, ◌+◌, ◌<◌, ◌≤◌, ◌⊎◌, inl, inr, zero, suc, List, [], ◌∷◌, ◌++◌, Bool, true, false, cond, refl, ap, sym, ◌∙◌, subst, arith, length, length-set}
use Rattle.std.specs.Prelude.{nat_eq, filter, sum_by}
use Rattle.std.specs.List.Sorted.{IsStrictlySortedBy}
use Rattle.std.specs.Map.{keys_of}
use Rattle.std.specs.Ordering.{nat_cmp}
use Rattle.std.proofs.lemmas.Bool.{eqb-true, ltb-true, ne_eqb, cases_lt, cases_eq, and_parts}
use Rattle.cedr_base.specs.declared.field.Field.{Field}
use Rattle.cedr_base.specs.declared.row.Row.{Row}
use Rattle.cedr_base.specs.declared.change.Change.{Change}
use Rattle.cedr_base.specs.declared.change.Change.TheVariants.{Add}
use Rattle.cedr_base.specs.Rows.{count_of, AreRows, SameRows}
use Rattle.cedr_base.specs.Changes.{puts, takes, sync_of, changed_row}
use Rattle.cedr_base.proofs.Bags.{count_of-append}
use Rattle.change_laws.specs.Repairs.{IsMoved}
use Rattle.change_laws.proofs.Moves.{may_is}
use Rattle.cedr_expr.specs.declared.test.Test.{Test}
use Rattle.cedr_expr.specs.Tests.{passes}
use Rattle.cedr_table.specs.Operators.{Tables, table_at, with_table, least_of, AllRise, CanTake, Gains, OnlyHolds}
use Rattle.cedr_table.specs.PortLaws.{table_at-with, table_at-with_other, least_below, least_rises, rise_length}
use Rattle.cedr_table.specs.Choices.{chosen}
use Rattle.cedr_table.specs.Counted.{ends_after, SameAmong}
use Rattle.cedr_table.proofs.ChoiceLemmas.{chosen_repairs}
use Rattle.cedr_table.proofs.FilterLemmas.{among_itself, among_along, among_same}
use Rattle.cedr_table.proofs.RowsLemmas.{same_are}
use Rattle.filed_rows.specs.declared.filed.Filed.{Filed}
use Rattle.cedr_expr.specs.declared.side.Side.{Side}
use Rattle.cedr_expr.specs.declared.side.Side.TheVariants.{Left, Right}
use Rattle.cedr_expr.specs.Tags.{tag_of, left_tag, right_tag}
use Rattle.filed_rows.specs.Filed.{FiledRows, under, all_under, Files, right_partners, left_partners}
use Rattle.filed_rows.specs.Ends.{AreEnds}
use Rattle.op_join.specs.Pairs.{met, passes_on, all_changes}
use Rattle.op_join.specs.Joins.{join_of, joined_rows, Keeps, StandsOnTwo}
use Rattle.cedr_expr.proofs.TagLemmas.{tag_same}
use Rattle.filed_rows.proofs.NoteLemmas.{all_same, none_filed, filed_anew, under_most}
use Rattle.filed_rows.proofs.PartnerLemmas.{right_partner, right_fewer, left_partner}
use Rattle.op_join.proofs.KeepLemmas.{kept_later, keeps_moved, keeps_forgotten, held_ends_later}
use Rattle.op_join.proofs.JoinLemmas.{may_meet, pairs_turn, count_left, count_right}

-- where no left row is held the right rows may be filed anew
pub stands_settled : (tests : List Test) (width later : ℕ) (left right filed : Filed) (tables : Tables) (marks : List ℕ) → length left.by_tag.entries ≡ 0 → IsStrictlySortedBy nat_cmp (keys_of right.by_tag.entries) → Files (right_tag later tests) filed.by_tag.entries (all_under right.by_tag.entries)
    → AreEnds filed.by_tag.entries filed.ends → IsStrictlySortedBy nat_cmp (keys_of filed.by_tag.entries) → StandsOnTwo tests width left right tables marks → StandsOnTwo tests later left filed tables marks
stands_settled tests width later left right filed tables marks empty sorted files ends ordered h =
    let rows = all_same (right_tag width tests) right.by_tag.entries h.rights.kept sorted h.rights.files in
    record {
      table = h.table;
      mark = h.mark;
      lefts = record {
        kept = h.lefts.kept;
        same = h.lefts.same;
        rows = h.lefts.rows;
        files = filed_anew (left_tag width tests) (left_tag later tests) left.by_tag.entries h.lefts.kept empty h.lefts.files;
        ends = h.lefts.ends;
        ordered = h.lefts.ordered;
      };
      rights = record {
        kept = all_under right.by_tag.entries;
        same = among_along (ends_after (least_of marks)) (all_under right.by_tag.entries) h.rights.kept (table_at tables 1) (among_same (ends_after (least_of marks)) (all_under right.by_tag.entries) h.rights.kept rows) h.rights.same;
        rows = same_are (all_under right.by_tag.entries) h.rights.kept rows h.rights.rows;
        files = files;
        ends = ends;
        ordered = ordered;
      };
    }

nothing_kept : (tag : List Field → ℕ) (filed : Filed) → AreEnds filed.by_tag.entries filed.ends → ((q : ℕ) → under filed.by_tag.entries q ≡ []) → IsStrictlySortedBy nat_cmp (keys_of filed.by_tag.entries) → Keeps tag filed 0 []
nothing_kept tag filed ends none ordered = record {
  kept = [];
  same = among_itself (ends_after 0) [];
  rows = record { each = λ r there. absurd (omega arith) };
  files = none_filed tag filed.by_tag.entries none;
  ends = ends;
  ordered = ordered;
}

-- what is filed of no row stands for empty tables
pub stands_first : (tests : List Test) (left right : Filed) → AreEnds left.by_tag.entries left.ends → ((q : ℕ) → under left.by_tag.entries q ≡ []) → IsStrictlySortedBy nat_cmp (keys_of left.by_tag.entries)
    → AreEnds right.by_tag.entries right.ends → ((q : ℕ) → under right.by_tag.entries q ≡ []) → IsStrictlySortedBy nat_cmp (keys_of right.by_tag.entries) → StandsOnTwo tests 0 left right ([] ∷ [] ∷ []) (0 ∷ 0 ∷ [])
stands_first tests left right left_ends left_none left_ordered right_ends right_none right_ordered = record {
  table = refl;
  mark = refl;
  lefts = nothing_kept (left_tag 0 tests) left left_ends left_none left_ordered;
  rights = nothing_kept (right_tag 0 tests) right right_ends right_none right_ordered;
}

two_left : (tables : Tables) (xs : List Row) → length tables ≡ 2 → with_table tables 0 xs ≡ xs ∷ table_at tables 1 ∷ []
two_left [] xs h = absurd (omega arith)
two_left (t ∷ []) xs h = absurd (omega arith)
two_left (t ∷ u ∷ []) xs h = refl
two_left (t ∷ u ∷ v ∷ ts) xs h = absurd (omega arith)

two_right : (tables : Tables) (xs : List Row) → length tables ≡ 2 → with_table tables 1 xs ≡ table_at tables 0 ∷ xs ∷ []
two_right [] xs h = absurd (omega arith)
two_right (t ∷ []) xs h = absurd (omega arith)
two_right (t ∷ u ∷ []) xs h = refl
two_right (t ∷ u ∷ v ∷ ts) xs h = absurd (omega arith)

-- a change that is seen at a port's mark or later is seen at the least mark or later
pub from_least : (tables : Tables) (marks : List ℕ) (port : ℕ) (c : Change) → length marks ≡ 2 → length tables ≡ 2 → CanTake tables marks port c → least_of marks ≤ sync_of c
from_least tables marks port c two tables_two can =
    let within = can.port_is in
    let below = least_below port marks (omega arith) in
    let from = can.from in
    omega arith

-- of two ports the one that isn't the first is the second
pub second_port : (tables : Tables) (marks : List ℕ) (port : ℕ) (c : Change) → length tables ≡ 2 → port ≢ 0 → CanTake tables marks port c → port ≡ 1
second_port tables marks port c two other can = let within = can.port_is in omega arith

module _ (tests : List Test) (width : ℕ) (left right : Filed) (tables : Tables) (marks : List ℕ) (h : StandsOnTwo tests width left right tables marks) where
  -- a right row that may meet a left one is under its tag as often as in the table
  right_under : (c : Change) (o : Row) → least_of marks ≤ sync_of c → may_meet (passes tests) Left c o ≡ true → count_of o h.rights.kept ≡ count_of o (table_at tables 1)
  right_under c o from meet =
      let late = ltb-true (sync_of c) o.end (and_parts (passes_on (passes tests) Left (changed_row c).payload o.payload) (ends_after (sync_of c) o) meet).1 in
      kept_later (right_tag width tests) right (least_of marks) (table_at tables 1) h.rights o (omega arith)

  left_under : (c : Change) (o : Row) → least_of marks ≤ sync_of c → may_meet (passes tests) Right c o ≡ true → count_of o h.lefts.kept ≡ count_of o (table_at tables 0)
  left_under c o from meet =
      let late = ltb-true (sync_of c) o.end (and_parts (passes_on (passes tests) Right (changed_row c).payload o.payload) (ends_after (sync_of c) o) meet).1 in
      kept_later (left_tag width tests) left (least_of marks) (table_at tables 0) h.lefts o (omega arith)

  -- the right rows that may meet a left row are found
  right_finds_at : (c : Change) → least_of marks ≤ sync_of c → SameAmong (may_meet (passes tests) Left c) (right_partners right.by_tag.entries (left_tag width tests (changed_row c).payload)) (table_at tables 1) × AreRows (right_partners right.by_tag.entries (left_tag width tests (changed_row c).payload))
  right_finds_at c from = (
    record {
      each = λ o meet.
          let pass = (and_parts (passes_on (passes tests) Left (changed_row c).payload o.payload) (ends_after (sync_of c) o) meet).0 in
          right_partner width tests right.by_tag.entries h.rights.kept h.rights.ordered h.rights.files (changed_row c).payload o pass ∙ right_under c o from meet;
    },
    record { each = λ o there. h.rights.rows.each o (omega (arith, right_fewer width tests right.by_tag.entries h.rights.kept h.rights.ordered h.rights.files (left_tag width tests (changed_row c).payload) o)) },
  )

  pub right_finds : (c : Change) (t : ℕ) → least_of marks ≤ sync_of c → t ≡ left_tag width tests (changed_row c).payload
      → SameAmong (may_meet (passes tests) Left c) (right_partners right.by_tag.entries t) (table_at tables 1) × AreRows (right_partners right.by_tag.entries t)
  right_finds c t from is =
      subst (λ (k : ℕ). SameAmong (may_meet (passes tests) Left c) (right_partners right.by_tag.entries k) (table_at tables 1) × AreRows (right_partners right.by_tag.entries k)) (sym is)
      (right_finds_at c from)

  left_counts : (o b : Row) → count_of o (left_partners left.by_tag.entries (right_tag width tests b.payload)) ≡ count_of o (under left.by_tag.entries (right_tag width tests b.payload)) + count_of o (under left.by_tag.entries 0)
  left_counts o b = count_of-append o (under left.by_tag.entries (right_tag width tests b.payload)) (under left.by_tag.entries 0)

  -- the left rows that may meet a right row are found
  left_finds_at : (c : Change) → least_of marks ≤ sync_of c → SameAmong (may_meet (passes tests) Right c) (left_partners left.by_tag.entries (right_tag width tests (changed_row c).payload)) (table_at tables 0) × AreRows (left_partners left.by_tag.entries (right_tag width tests (changed_row c).payload))
  left_finds_at c from = (
    record {
      each = λ o meet.
          let pass = (and_parts (passes_on (passes tests) Right (changed_row c).payload o.payload) (ends_after (sync_of c) o) meet).0 in
          left_counts o (changed_row c) ∙ (left_partner width tests left.by_tag.entries h.lefts.kept h.lefts.files (changed_row c).payload o pass ∙ left_under c o from meet);
    },
    record {
      each = λ o there.
          let most = under_most (left_tag width tests) left.by_tag.entries h.lefts.kept (right_tag width tests (changed_row c).payload) o h.lefts.files in
          let most_else = under_most (left_tag width tests) left.by_tag.entries h.lefts.kept 0 o h.lefts.files in
          elim (cases_lt 0 (count_of o (under left.by_tag.entries 0))) [
            | inl some ↦ h.lefts.rows.each o (omega arith)
            | inr nothing ↦ h.lefts.rows.each o (omega (arith, left_counts o (changed_row c)))
          ];
    },
  )

  pub left_finds : (c : Change) (t : ℕ) → least_of marks ≤ sync_of c → t ≡ right_tag width tests (changed_row c).payload
      → SameAmong (may_meet (passes tests) Right c) (left_partners left.by_tag.entries t) (table_at tables 0) × AreRows (left_partners left.by_tag.entries t)
  left_finds c t from is = subst (λ (k : ℕ). SameAmong (may_meet (passes tests) Right c) (left_partners left.by_tag.entries k) (table_at tables 0) × AreRows (left_partners left.by_tag.entries k)) (sym is) (left_finds_at c from)

  module _ (c : Change) (after : List Row) (t : ℕ) where
    module _ (new : Filed) (ends : AreEnds new.by_tag.entries new.ends) (ordered : IsStrictlySortedBy nat_cmp (keys_of new.by_tag.entries)) where
      pub left_stands : CanTake tables marks 0 c → IsMoved c (table_at tables 0) after → t ≡ left_tag width tests (changed_row c).payload
          → SameRows (under new.by_tag.entries t ++ takes c) (under left.by_tag.entries t ++ puts c) → ((q : ℕ) → q ≢ t → under new.by_tag.entries q ≡ under left.by_tag.entries q) → StandsOnTwo tests width new right (with_table tables 0 after) marks
      left_stands can moved is here others =
          let at = table_at-with tables 0 after can.port_is in
          let other = table_at-with_other tables 0 1 after (λ e. cc) in
          record {
            table = length-set tables 0 after ∙ h.table;
            mark = h.mark;
            lefts = subst (Keeps (left_tag width tests) new (least_of marks)) (sym at)
                (keeps_moved (left_tag width tests) left (least_of marks) (table_at tables 0) h.lefts c t after new (from_least tables marks 0 c h.mark h.table can) can.legal moved is here others ends ordered);
            rights = subst (Keeps (right_tag width tests) right (least_of marks)) (sym other) h.rights;
          }

      pub right_stands : CanTake tables marks 1 c → IsMoved c (table_at tables 1) after → t ≡ right_tag width tests (changed_row c).payload
          → SameRows (under new.by_tag.entries t ++ takes c) (under right.by_tag.entries t ++ puts c) → ((q : ℕ) → q ≢ t → under new.by_tag.entries q ≡ under right.by_tag.entries q) → StandsOnTwo tests width left new (with_table tables 1 after) marks
      right_stands can moved is here others =
          let at = table_at-with tables 1 after can.port_is in
          let other = table_at-with_other tables 1 0 after (λ e. cc) in
          record {
            table = length-set tables 1 after ∙ h.table;
            mark = h.mark;
            lefts = subst (Keeps (left_tag width tests) left (least_of marks)) (sym other) h.lefts;
            rights = subst (Keeps (right_tag width tests) new (least_of marks)) (sym at)
                (keeps_moved (right_tag width tests) right (least_of marks) (table_at tables 1) h.rights c t after new (from_least tables marks 1 c h.mark h.table can) can.legal moved is here others ends ordered);
          }

    -- the changes of a row's pairs repair the join, on whichever port the row is
    side_gains : (side : Side) (port : ℕ) (partners others : List Row) (outs outs' : List Change) → CanTake tables marks port c → IsMoved c (table_at tables port) after → SameAmong (may_meet (passes tests) side c) partners others × AreRows partners
        → ((rows : List Row) (r : Row) → count_of r (chosen (joined_rows (passes tests)) (with_table tables port rows)) ≡ sum_by (λ o. sum_by (λ x. count_of r (met (passes tests) side x o)) rows) others)
        → outs' ≡ outs ++ all_changes (passes tests) side c partners → Gains (chosen (joined_rows (passes tests)) tables) (chosen (joined_rows (passes tests)) (with_table tables port after)) (least_of marks) outs outs'
    side_gains side port partners others outs outs' can moved finds counts appended = record {
      changes = all_changes (passes tests) side c partners;
      appended = appended;
      repair = chosen_repairs (joined_rows (passes tests)) tables port c after (least_of marks) (all_changes (passes tests) side c partners) can.port_is can.legal moved
          (pairs_turn (passes tests) side c (least_of marks) partners others (chosen (joined_rows (passes tests)) (with_table tables port (takes c))) (chosen (joined_rows (passes tests)) (with_table tables port (puts c)))
          (may_is (table_at tables port) [] c can.legal) (from_least tables marks port c h.mark h.table can) finds.1 finds.0 (counts (takes c)) (counts (puts c)));
    }

    pub left_gains : (outs outs' : List Change) → CanTake tables marks 0 c → IsMoved c (table_at tables 0) after → t ≡ left_tag width tests (changed_row c).payload
        → outs' ≡ outs ++ all_changes (passes tests) Left c (right_partners right.by_tag.entries t) → Gains (chosen (joined_rows (passes tests)) tables) (chosen (joined_rows (passes tests)) (with_table tables 0 after)) (least_of marks) outs outs'
    left_gains outs outs' can moved is =
        side_gains Left 0 (right_partners right.by_tag.entries t) (table_at tables 1) outs outs' can moved (right_finds c t (from_least tables marks 0 c h.mark h.table can) is)
        (λ rows r. ap (λ (ts : Tables). count_of r (chosen (joined_rows (passes tests)) ts)) (two_left tables rows h.table) ∙ count_left (passes tests) r rows (table_at tables 1))

    pub right_gains : (outs outs' : List Change) → CanTake tables marks 1 c → IsMoved c (table_at tables 1) after → t ≡ right_tag width tests (changed_row c).payload
        → outs' ≡ outs ++ all_changes (passes tests) Right c (left_partners left.by_tag.entries t) → Gains (chosen (joined_rows (passes tests)) tables) (chosen (joined_rows (passes tests)) (with_table tables 1 after)) (least_of marks) outs outs'
    right_gains outs outs' can moved is =
        side_gains Right 1 (left_partners left.by_tag.entries t) (table_at tables 0) outs outs' can moved (left_finds c t (from_least tables marks 1 c h.mark h.table can) is)
        (λ rows r. ap (λ (ts : Tables). count_of r (chosen (joined_rows (passes tests)) ts)) (two_right tables rows h.table) ∙ count_right (passes tests) r (table_at tables 0) rows)

only_on_two : (p : Row → Bool) (xs ys : List Row) → ((r : Row) → 0 < count_of r xs → p r ≡ true) → ((r : Row) → 0 < count_of r ys → p r ≡ true) → (port : ℕ) (r : Row) → 0 < count_of r (table_at (xs ∷ ys ∷ []) port) → p r ≡ true
only_on_two p xs ys left right zero r there = left r there
only_on_two p xs ys left right (suc zero) r there = right r there
only_on_two p xs ys left right (suc (suc port)) r there = absurd (omega arith)

module _ (tests : List Test) (width : ℕ) (left right left' right' : Filed) (tables : Tables) (earlier marks : List ℕ) (least : ℕ) (rise : AllRise earlier marks) (is : least ≡ least_of marks) (h : StandsOnTwo tests width left right tables earlier)
    (left_rows : (q : ℕ) → SameRows (under left'.by_tag.entries q) (filter (ends_after least) (under left.by_tag.entries q))) (left_ends : AreEnds left'.by_tag.entries left'.ends) (left_ordered : IsStrictlySortedBy nat_cmp (keys_of left'.by_tag.entries))
    (right_rows : (q : ℕ) → SameRows (under right'.by_tag.entries q) (filter (ends_after least) (under right.by_tag.entries q))) (right_ends : AreEnds right'.by_tag.entries right'.ends) (right_ordered : IsStrictlySortedBy nat_cmp (keys_of right'.by_tag.entries)) where
  rises : least_of earlier ≤ least
  rises = let up = least_rises earlier marks rise in omega arith

  -- where the rows that ended by the least mark are forgotten, the others stand for the same tables
  pub stands_trimmed : StandsOnTwo tests width left' right' tables marks
  stands_trimmed = record {
    table = h.table;
    mark = rise_length earlier marks rise ∙ h.mark;
    lefts = subst (λ (t : ℕ). Keeps (left_tag width tests) left' t (table_at tables 0)) is (keeps_forgotten (left_tag width tests) left (least_of earlier) (table_at tables 0) h.lefts least rises left' left_rows left_ends left_ordered);
    rights = subst (λ (t : ℕ). Keeps (right_tag width tests) right' t (table_at tables 1)) is (keeps_forgotten (right_tag width tests) right (least_of earlier) (table_at tables 1) h.rights least rises right' right_rows right_ends right_ordered);
  }

  -- and each row that is held ends after it
  pub holds_trimmed : OnlyHolds (join_of tests) tables marks (all_under left'.by_tag.entries ∷ all_under right'.by_tag.entries ∷ [])
  holds_trimmed = record {
    each = only_on_two (ends_after (least_of marks)) (all_under left'.by_tag.entries) (all_under right'.by_tag.entries)
        (λ r there. subst (λ (t : ℕ). ends_after t r ≡ true) is (held_ends_later (left_tag width tests) left (least_of earlier) (table_at tables 0) h.lefts least rises left' left_rows left_ends left_ordered r there))
        (λ r there. subst (λ (t : ℕ). ends_after t r ≡ true) is (held_ends_later (right_tag width tests) right (least_of earlier) (table_at tables 1) h.rights least rises right' right_rows right_ends right_ordered r there));
  }

-- What a port keeps of its table, and what changes it.
use Rattle.std.proofs.Common.{◌≡◌, ◌≢◌, ℕ, ◌<◌, ◌≤◌, List, [], ◌++◌, Bool, true, false, cond, refl, ap, sym, ◌∙◌, subst, arith}
use Rattle.std.specs.Prelude.{filter}
use Rattle.std.specs.List.Sorted.{IsStrictlySortedBy}
use Rattle.std.specs.Map.{keys_of}
use Rattle.std.specs.Ordering.{nat_cmp}
use Rattle.std.proofs.lemmas.Bool.{lt-ltb}
use Rattle.cedr_base.specs.declared.field.Field.{Field}
use Rattle.cedr_base.specs.declared.row.Row.{Row}
use Rattle.cedr_base.specs.declared.change.Change.{Change}
use Rattle.cedr_base.specs.declared.change.Change.TheVariants.{Add, Cut}
use Rattle.cedr_base.specs.Rows.{count_of, SameRows}
use Rattle.cedr_base.specs.Changes.{puts, takes, sync_of, MayFollow, changed_row}
use Rattle.change_laws.specs.Repairs.{IsMoved}
use Rattle.change_laws.proofs.BagSums.{same_itself}
use Rattle.change_laws.proofs.Moves.{may_is, applied, applied_moves}
use Rattle.cedr_table.specs.Counted.{LacksRow, ends_after}
use Rattle.cedr_table.proofs.FilterLemmas.{count-filter, among_moved, among_along, among_fewer, among_filter, ends_earlier}
use Rattle.cedr_table.proofs.RowsLemmas.{moved_are, fewer_are}
use Rattle.filed_rows.specs.declared.filed.Filed.{Filed}
use Rattle.filed_rows.specs.Filed.{FiledRows, under, all_under, Files}
use Rattle.filed_rows.specs.Ends.{AreEnds}
use Rattle.op_join.specs.Joins.{Keeps}
use Rattle.filed_rows.proofs.FiledLemmas.{count_all}
use Rattle.filed_rows.proofs.NoteLemmas.{files_after}

module _ (tag : List Field → ℕ) (filed : Filed) (time : ℕ) (table : List Row) (h : Keeps tag filed time table) where
  -- of a row that ends later all copies are kept
  pub kept_later : (r : Row) → time < r.end → count_of r h.kept ≡ count_of r table
  kept_later r later = h.same.each r (lt-ltb time r.end later)

  -- a change that is seen at that time or later may follow in what is kept
  pub may_follow_kept : (c : Change) → time ≤ sync_of c → MayFollow table [] c → MayFollow h.kept [] c
  may_follow_kept (Add a) from may = may
  may_follow_kept (Cut a e) from may =
      let shorter = may.0.2 in
      let there = may.1 in
      (may.0, omega (arith, kept_later a (omega arith), there))

  module _ (c : Change) (t : ℕ) (after : List Row) (new : Filed) (from : time ≤ sync_of c) (may : MayFollow table [] c) (moved : IsMoved c table after) (is : t ≡ tag (changed_row c).payload)
      (here : SameRows (under new.by_tag.entries t ++ takes c) (under filed.by_tag.entries t ++ puts c))
      (others : (q : ℕ) → q ≢ t → under new.by_tag.entries q ≡ under filed.by_tag.entries q)
      (ends : AreEnds new.by_tag.entries new.ends) (ordered : IsStrictlySortedBy nat_cmp (keys_of new.by_tag.entries)) where
    -- what is kept goes through a change as the table does
    pub keeps_moved : Keeps tag new time after
    keeps_moved =
        let follows = may_follow_kept c from may in
        record {
          kept = applied c h.kept;
          same = among_moved (ends_after time) c h.kept table after h.same follows moved;
          rows = moved_are c h.kept (applied c h.kept) (may_is table [] c may) (applied_moves c h.kept follows) h.rows;
          files = files_after tag c t filed.by_tag.entries new.by_tag.entries h.kept (applied c h.kept) is h.files here others (applied_moves c h.kept follows);
          ends = ends;
          ordered = ordered;
        }

  module _ (later : ℕ) (rise : time ≤ later) (new : Filed)
      (left : (q : ℕ) → SameRows (under new.by_tag.entries q) (filter (ends_after later) (under filed.by_tag.entries q)))
      (ends : AreEnds new.by_tag.entries new.ends) (ordered : IsStrictlySortedBy nat_cmp (keys_of new.by_tag.entries)) where
    left_count : (q : ℕ) (r : Row) → count_of r (under new.by_tag.entries q) ≡ cond (ends_after later r) (count_of r (under filed.by_tag.entries q)) 0
    left_count q r = (left q).each r ∙ count-filter r (ends_after later) (under filed.by_tag.entries q)

    some_at : (b : Bool) (n : ℕ) → 0 < cond b n 0 → 0 < n
    some_at true n there = there
    some_at false n there = absurd (omega arith)

    cond_nothing : (b : Bool) → cond {A = ℕ} b 0 0 ≡ 0
    cond_nothing true = refl
    cond_nothing false = refl

    -- where the rows that end by a later time are forgotten, the others are kept
    pub keeps_forgotten : Keeps tag new later table
    keeps_forgotten = record {
      kept = filter (ends_after later) h.kept;
      same =
          among_along (ends_after later) (filter (ends_after later) h.kept) h.kept table (among_filter (ends_after later) (filter (ends_after later) h.kept) h.kept (same_itself (filter (ends_after later) h.kept)))
          (among_fewer (ends_after time) (ends_after later) h.kept table (λ r late. ends_earlier time later r rise late) h.same);
      rows = fewer_are (filter (ends_after later) h.kept) h.kept (λ r there. some_at (ends_after later r) (count_of r h.kept) (omega (arith, count-filter r (ends_after later) h.kept))) h.rows;
      files = record {
        there = λ r. left_count (tag r.payload) r ∙ (ap (λ n. cond (ends_after later r) n 0) (h.files.there r) ∙ sym (count-filter r (ends_after later) h.kept));
        only = λ q r apart. left_count q r ∙ (ap (λ n. cond (ends_after later r) n 0) (h.files.only q r apart) ∙ cond_nothing (ends_after later r));
      };
      ends = ends;
      ordered = ordered;
    }

    held_at : (r : Row) (b : Bool) → ends_after later r ≡ b → 0 < cond b (count_of r (under filed.by_tag.entries (tag r.payload))) 0 → b ≡ true
    held_at r true is there = refl
    held_at r false is there = absurd (omega arith)

    -- each row that is held then ends later
    pub held_ends_later : (r : Row) → 0 < count_of r (all_under new.by_tag.entries) → ends_after later r ≡ true
    held_ends_later r there =
        let one = count_all new.by_tag.entries ordered (tag r.payload) r (λ q other. keeps_forgotten.files.only q r other) in
        held_at r (ends_after later r) refl (omega (arith, one, left_count (tag r.payload) r))

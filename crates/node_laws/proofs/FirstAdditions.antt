-- What a strong port passed on of a list that is on the way to a table: the first of its rows in canonical order.
use Rattle.std.proofs.Common.{◌≡◌, ℕ, ◌+◌, ◌<◌, ◌≤◌, inl, inr, List, [], ◌++◌, Bool, true, false, cond, not, ◌&&◌, refl, ap, ◌∙◌, sym, arith}
use Rattle.std.specs.Prelude.{Option, None, nat_lt, filter}
use Rattle.std.proofs.lemmas.Bool.{ltb-true, ltb-false, cases_lt}
use Rattle.std.proofs.lemmas.List.{append-nil}
use Rattle.cedr_base.specs.declared.level.Level.{Level}
use Rattle.cedr_base.specs.declared.row.Row.{Row}
use Rattle.cedr_base.specs.declared.change.Change.{Change}
use Rattle.cedr_base.specs.declared.change.Message.{Message}
use Rattle.cedr_base.specs.Rows.{count_of, in_order}
use Rattle.cedr_base.specs.Messages.{changes_of, mark_of}
use Rattle.cedr_base.proofs.Bags.{count_of-append}
use Rattle.change_laws.proofs.AgreeLemmas.{agree_ended}
use Rattle.cedr_table.proofs.FilterLemmas.{count-rest}
use Rattle.node_laws.specs.Surplus.{Ascend}
use Rattle.node_laws.specs.Kept.{high_of, kept_table}
use Rattle.node_laws.specs.Pass.{has_end, is_blocked, is_held, holds, passed_table, pass, added}
use Rattle.node_laws.proofs.Additions.{only_adds, added_table}
use Rattle.node_laws.proofs.Ends.{open_from}
use Rattle.node_laws.proofs.Holds.{held_from, count-passed}
use Rattle.node_laws.proofs.Order.{ascend-append, ascend-in_order, count-in_order, canonical_is}
use Rattle.node_laws.proofs.Passes.{passes}
use Rattle.node_laws.proofs.Strong.{Goes, strong_goes, ends_first, cond_false}
use Rattle.node_laws.specs.Approaching.{Approaches, AddsFirst}
use Rattle.node_laws.proofs.PortApproach.{kept_agrees, passed_whole}

module _ (level : Level) (ms : List Message) (rows : List Row) (strong : level.block ≡ None) (endless : level.memory ≡ None) (a : Approaches ms rows) where
  goes : Goes level strong ms
  goes = strong_goes level strong ms a.legal

  abbrev cs : List Change
  cs = changes_of (pass level ms)

  -- what was added is what was passed
  added_passed : (r : Row) → count_of r (added cs) ≡ count_of r (passed_table level ms)
  added_passed = added_table (pass level ms) (passed_table level ms) ((passes level ms a.legal).table) goes.no_cut

  -- after the end
  whole : has_end ms ≡ true → AddsFirst cs rows
  whole ended = record {
    first = added cs;
    rest = [];
    changes_are = only_adds cs goes.no_cut;
    all = append-nil (added cs) ∙ sym (canonical_is rows (added cs) goes.ascend (λ r. added_passed r ∙ (passed_whole level ms rows endless a ended).each r));
  }

  -- of a row that ends before the mark the same copies were kept
  kept_ended : (r : Row) → r.end < mark_of ms → count_of r (kept_table level.memory ms) ≡ count_of r rows
  kept_ended r before = elim (cases_lt 0 (count_of r (kept_table level.memory ms))) [
    | inl there ↦ agree_ended (mark_of ms) (kept_table level.memory ms) rows r (kept_agrees level ms rows endless a) ((passes level ms a.legal).rows r there) before
    | inr none ↦ elim (cases_lt 0 (count_of r rows)) [
      | inl there ↦ agree_ended (mark_of ms) (kept_table level.memory ms) rows r (kept_agrees level ms rows endless a) (a.are_rows.each r there) before
      | inr nothing ↦ omega arith
    ]
  ]

  module _ (going : has_end ms ≡ false) where
    -- those rows aren't held, and all others are
    free : (r : Row) → nat_lt r.end (mark_of ms) ≡ true → holds level ms r ≡ false
    free r before =
        ap (λ (b : Bool). not b && (not (nat_lt r.end (mark_of ms)) && is_blocked level.block (high_of ms) r)) going
        ∙ ap (λ (b : Bool). not b && is_blocked level.block (high_of ms) r) before

    stays : (r : Row) → nat_lt r.end (mark_of ms) ≡ false → holds level ms r ≡ true
    stays r behind =
        let up = held_from None (mark_of ms) (high_of ms) r (ltb-false r.end (mark_of ms) behind) refl in
        ap (λ (b : Option ℕ). is_held b (has_end ms) (mark_of ms) (high_of ms) r) strong ∙ (ap (λ (b : Bool). is_held None b (mark_of ms) (high_of ms) r) going ∙ up)

    added_count : (r : Row) (b : Bool) → nat_lt r.end (mark_of ms) ≡ b → count_of r (added cs) ≡ cond b (count_of r rows) 0
    added_count r true before = added_passed r ∙ (count-passed level ms r ∙ (ap (λ (b : Bool). cond b 0 (count_of r (kept_table level.memory ms))) (free r before) ∙ kept_ended r (ltb-true r.end (mark_of ms) before)))
    added_count r false behind = added_passed r ∙ (count-passed level ms r ∙ ap (λ (b : Bool). cond b 0 (count_of r (kept_table level.memory ms))) (stays r behind))

    abbrev later : List Row
    later = filter (λ (r : Row). not (nat_lt r.end (mark_of ms))) rows

    sum_at : (n : ℕ) (b : Bool) → cond b n 0 + cond b 0 n ≡ n
    sum_at n true = omega arith
    sum_at n false = omega arith

    all_count : (r : Row) → count_of r (added cs ++ in_order later) ≡ count_of r rows
    all_count r =
        let b = nat_lt r.end (mark_of ms) in
        omega (
          arith,
          count_of-append r (added cs) (in_order later),
          count-in_order r later,
          count-rest r (λ (x : Row). nat_lt x.end (mark_of ms)) rows,
          added_count r (nat_lt r.end (mark_of ms)) refl,
          sum_at (count_of r rows) (nat_lt r.end (mark_of ms)),
        )

    behind_mark : (r : Row) → 0 < count_of r (in_order later) → mark_of ms ≤ r.end
    behind_mark r there =
        let e = count-in_order r later in
        let k = count-rest r (λ (x : Row). nat_lt x.end (mark_of ms)) rows in
        ltb-false r.end (mark_of ms) (cond_false (nat_lt r.end (mark_of ms)) (count_of r rows) (omega arith))

    in_canonical : Ascend (added cs ++ in_order later)
    in_canonical = ascend-append (added cs) (in_order later) goes.ascend (ascend-in_order later) (λ x y p q.
        let ends = goes.below (open_from ms going a.unbroken) x p in
        let starts = behind_mark y q in
        ends_first x y (omega arith))

    begun : AddsFirst cs rows
    begun = record {
      first = added cs;
      rest = in_order later;
      changes_are = only_adds cs goes.no_cut;
      all = sym (canonical_is rows (added cs ++ in_order later) in_canonical all_count);
    }

  first_at : (b : Bool) → has_end ms ≡ b → AddsFirst cs rows
  first_at true ended = whole ended
  first_at false going = begun going

  -- what was passed on adds the first of the rows
  pub adds_first : AddsFirst (changes_of (pass level ms)) rows
  adds_first = first_at (has_end ms) refl

-- What a port of a list that goes on passes, and its front, where its block is 0 or without limit and its memory is without limit.
use Rattle.std.proofs.Common.{◌≡◌, ℕ, inl, inr, List, Bool, true, false, cond, not, ◌&&◌, refl, ap, subst, sym, ◌∙◌}
use Rattle.std.specs.Prelude.{Option, None, nat_lt}
use Rattle.std.specs.List.{filter}
use Rattle.cedr_base.specs.declared.level.Level.{Level}
use Rattle.cedr_base.specs.declared.row.Row.{Row}
use Rattle.cedr_base.specs.declared.change.Message.{Message}
use Rattle.cedr_base.specs.Rows.{count_of, SameRows}
use Rattle.cedr_base.specs.Messages.{IsTableOf, mark_of}
use Rattle.cedr_table.proofs.FilterLemmas.{count-filter}
use Rattle.node_laws.specs.Kept.{high_of, forgot, kept_table}
use Rattle.node_laws.specs.Pass.{has_end, is_held, holds, held, passed_table, least_begin, front_at, front}
use Rattle.node_laws.proofs.Holds.{least-same, count-held, count-passed}
use Rattle.node_laws.proofs.Middle.{middle_front}
use Rattle.plan_runs.specs.Middle.{IsGoing}
use Rattle.plan_runs.specs.Now.{Standing, passed_now, front_now, CanSave, StandsAt}
use Rattle.plan_runs.proofs.Ports.{kept_left, none_forgot, left_none, middle_passed}

strong_at : (block : Option ℕ) (b c : Bool) (mark high n : ℕ) (r : Row) → block ≡ None → b ≡ false → nat_lt r.end mark ≡ c → cond (is_held block b mark high r) 0 n ≡ cond c n 0
strong_at block b true mark high n r e f g =
    let h : is_held block b mark high r ≡ false = ap (λ (x : Option ℕ). is_held x b mark high r) e ∙ (ap (λ (x : Bool). not x && (not (nat_lt r.end mark) && true)) f ∙ ap (λ (x : Bool). not x && true) g) in
    ap (λ (x : Bool). cond x 0 n) h
strong_at block b false mark high n r e f g =
    let h : is_held block b mark high r ≡ true = ap (λ (x : Option ℕ). is_held x b mark high r) e ∙ (ap (λ (x : Bool). not x && (not (nat_lt r.end mark) && true)) f ∙ ap (λ (x : Bool). not x && true) g) in
    ap (λ (x : Bool). cond x 0 n) h

-- a strong port of a list that goes on has passed the rows that end before its mark
pub strong_passed : (level : Level) (ms : List Message) (rows : List Row) → level.block ≡ None → level.memory ≡ None → IsGoing ms → IsTableOf ms rows → SameRows (passed_table level ms) (filter (λ (r : Row). nat_lt r.end (mark_of ms)) rows)
strong_passed level ms rows block memory going table = record {
  each = λ r.
      let whole = (kept_left level ms rows going.legal table).each r ∙ ap (count_of r) (left_none rows (forgot level.memory ms) (none_forgot level ms memory going.legal)) in
      count-passed level ms r
      ∙ (ap (λ n. cond (holds level ms r) 0 n) whole
      ∙ (strong_at level.block (has_end ms) (nat_lt r.end (mark_of ms)) (mark_of ms) (high_of ms) (count_of r rows) r block going.going refl
      ∙ sym (count-filter r (λ (x : Row). nat_lt x.end (mark_of ms)) rows)));
}

and_true : (b : Bool) → (b && true) ≡ b
and_true true = refl
and_true false = refl

module _ (level : Level) (ms : List Message) (s : Standing) (can : CanSave level) (stands : StandsAt ms s.table s.mark) where
  -- a strong port passes the rows that end before the mark
  strong_rows : level.block ≡ None → SameRows (passed_table level ms) (filter (λ (r : Row). nat_lt r.end s.mark) s.table)
  strong_rows block = subst (λ (t : ℕ). SameRows (passed_table level ms) (filter (λ (r : Row). nat_lt r.end t) s.table)) stands.mark_is (strong_passed level ms s.table block can.memory stands.going stands.table)

  kept_count : (r : Row) → count_of r (kept_table level.memory ms) ≡ count_of r s.table
  kept_count r = (kept_left level ms s.table stands.going.legal stands.table).each r ∙ ap (count_of r) (left_none s.table (forgot level.memory ms) (none_forgot level ms can.memory stands.going.legal))

  holds_is : level.block ≡ None → (r : Row) → holds level ms r ≡ not (nat_lt r.end s.mark)
  holds_is block r =
      ap (λ (b : Option ℕ). is_held b (has_end ms) (mark_of ms) (high_of ms) r) block
      ∙ (ap (λ (b : Bool). not b && (not (nat_lt r.end (mark_of ms)) && true)) stands.going.going ∙ (and_true (not (nat_lt r.end (mark_of ms))) ∙ ap (λ (t : ℕ). not (nat_lt r.end t)) stands.mark_is))

  -- and holds the others
  strong_held : level.block ≡ None → SameRows (held level ms) (filter (λ (r : Row). not (nat_lt r.end s.mark)) s.table)
  strong_held block = record {
    each = λ r.
        count-held level ms r
        ∙ (ap (λ (b : Bool). cond b (count_of r (kept_table level.memory ms)) 0) (holds_is block r)
        ∙ (ap (λ (n : ℕ). cond (not (nat_lt r.end s.mark)) n 0) (kept_count r) ∙ sym (count-filter r (λ (x : Row). not (nat_lt x.end s.mark)) s.table)));
  }

  strong_front : level.block ≡ None → front level ms ≡ least_begin s.mark (filter (λ (r : Row). not (nat_lt r.end s.mark)) s.table)
  strong_front block =
      ap (λ (b : Bool). front_at b (mark_of ms) (held level ms)) stands.going.going
      ∙ (ap (λ (t : ℕ). least_begin t (held level ms)) stands.mark_is ∙ least-same s.mark (held level ms) (filter (λ (r : Row). not (nat_lt r.end s.mark)) s.table) (strong_held block))

  -- the passed table is the one of the definition
  pub passed_is : SameRows (passed_table level ms) (passed_now level.block s)
  passed_is = elim can.block [
    | inl middle ↦ subst (λ (b : Option ℕ). SameRows (passed_table level ms) (passed_now b s)) (sym middle) (middle_passed level ms s.table (record { block = middle; memory = can.memory }) stands.going.legal stands.table)
    | inr strong ↦ subst (λ (b : Option ℕ). SameRows (passed_table level ms) (passed_now b s)) (sym strong) (strong_rows strong)
  ]

  -- and so is the front
  pub front_is : front level ms ≡ front_now level.block s
  front_is = elim can.block [
    | inl middle ↦ middle_front level ms middle stands.going.going ∙ (stands.mark_is ∙ ap (λ (b : Option ℕ). front_now b s) (sym middle))
    | inr strong ↦ strong_front strong ∙ ap (λ (b : Option ℕ). front_now b s) (sym strong)
  ]

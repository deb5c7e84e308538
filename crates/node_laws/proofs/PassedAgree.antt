-- A passed table agrees with the kept one up to the front.
use Rattle.std.proofs.Common.{◌≡◌, ℕ, ◌+◌, ◌<◌, ◌≤◌, List, [], ◌∷◌, Bool, true, false, cond, not, refl, ap, arith}
use Rattle.std.specs.Prelude.{sum_by, filter}
use Rattle.std.proofs.lemmas.List.Sums.{sum_by-cons}
use Rattle.cedr_base.specs.declared.level.Level.{Level}
use Rattle.cedr_base.specs.declared.row.Row.{Row}
use Rattle.cedr_base.specs.declared.change.Message.{Message}
use Rattle.cedr_base.specs.Rows.{count_of, one_if_same}
use Rattle.cedr_base.specs.Messages.{mark_of}
use Rattle.cedr_base.proofs.Bags.{count_of-cons}
use Rattle.change_laws.specs.Agreeing.{row_up_to, AgreeUpTo}
use Rattle.change_laws.proofs.BagSums.{sum_by-flat_map, count_of-itself}
use Rattle.change_laws.proofs.AgreeLemmas.{up_to_late}
use Rattle.node_laws.specs.Kept.{kept_table}
use Rattle.node_laws.specs.Pass.{has_end, holds, held, passed_table, front, front_at}
use Rattle.node_laws.proofs.Holds.{least-there, count-held, held_ends}

filter_both_at : (w : Row → ℕ) (p : Row → Bool) (x : Row) (xs : List Row) (b : Bool) → sum_by w (filter p xs) + sum_by w (filter (λ r. not (p r)) xs) ≡ sum_by w xs
    → sum_by w (cond b (x ∷ filter p xs) (filter p xs)) + sum_by w (cond (not b) (x ∷ filter (λ r. not (p r)) xs) (filter (λ r. not (p r)) xs)) ≡ sum_by w (x ∷ xs)
filter_both_at w p x xs true h = omega (arith, sum_by-cons w x xs, sum_by-cons w x (filter p xs), h)
filter_both_at w p x xs false h = omega (arith, sum_by-cons w x xs, sum_by-cons w x (filter (λ r. not (p r)) xs), h)

-- a sum is that over what passes a test and that over the rest
filter_both : (w : Row → ℕ) (p : Row → Bool) (xs : List Row) → sum_by w (filter p xs) + sum_by w (filter (λ r. not (p r)) xs) ≡ sum_by w xs
filter_both w p [] = refl
filter_both w p (x ∷ xs) = filter_both_at w p x xs (p x) (filter_both w p xs)

-- rows that begin at a time or later are nothing before it
late_sum : (t : ℕ) (r : Row) (rows : List Row) → ((x : Row) → 0 < count_of x rows → t ≤ x.begin) → sum_by (λ x. count_of r (row_up_to t x)) rows ≡ 0
late_sum t r [] h = refl
late_sum t r (x ∷ rows) h =
    omega (arith, sum_by-cons (λ x. count_of r (row_up_to t x)) x rows, ap (count_of r) (up_to_late t x (h x (count_of-itself x rows))), late_sum t r rows (λ y there. h y (omega (arith, count_of-cons y x rows))))

from_front_at : (level : Level) (ms : List Message) (r : Row) (b : Bool) → has_end ms ≡ b → 0 < count_of r (held level ms) → front_at b (mark_of ms) (held level ms) ≤ r.begin
from_front_at level ms r true h there = absurd (none (holds level ms r) refl) where
  none : (d : Bool) → holds level ms r ≡ d → ⊥
  none true k = let e = (held_ends level.block (has_end ms) (mark_of ms) _ r k).0 in cc
  none false k = let e = ap (λ d. cond d (count_of r (kept_table level.memory ms)) 0) k in omega (arith, count-held level ms r, e)
from_front_at level ms r false h there = least-there (mark_of ms) (held level ms) r there

-- no held row begins before the front
from_front : (level : Level) (ms : List Message) (r : Row) → 0 < count_of r (held level ms) → front level ms ≤ r.begin
from_front level ms r there = from_front_at level ms r (has_end ms) refl there

-- the kept table and the passed one agree up to the front
pub passed_agrees : (level : Level) (ms : List Message) → AgreeUpTo (front level ms) (kept_table level.memory ms) (passed_table level ms)
passed_agrees level ms = record {
  same = record {
    each = λ r.
        let t = front level ms in
        let share = λ (x : Row). count_of r (row_up_to t x) in
        omega (
          arith,
          sum_by-flat_map (one_if_same r) (row_up_to t) (kept_table level.memory ms),
          sum_by-flat_map (one_if_same r) (row_up_to t) (passed_table level ms),
          filter_both share (holds level ms) (kept_table level.memory ms),
          late_sum t r (held level ms) (from_front level ms),
        );
  };
}

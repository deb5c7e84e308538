-- The least of a mark and of the begins of the rows that are open at it.
use Rattle.std.proofs.Common.{◌≡◌, ℕ, ◌<◌, ◌≤◌, List, [], ◌∷◌, Bool, true, false, cond, refl, ap, sym, ◌∙◌, arith, min, inl, inr}
use Rattle.std.specs.Prelude.{sum_by, nat_lt, nat_le, ◌&&◌}
use Rattle.std.proofs.lemmas.Bool.{ltb-true, leb-true, lt-ltb, le-ltb, le-leb, and_parts, cases_lt}
use Rattle.std.proofs.lemmas.List.Sums.{sum_by-cons}
use Rattle.cedr_base.specs.declared.row.Row.{Row}
use Rattle.op_except.specs.Parts.{may_grow, growing_from, open_below}
use Rattle.change_laws.proofs.AgreeSums.{SeesUpTo}

one_low : (mark k begin : ℕ) (opened : Bool) → k ≤ mark → cond {A = ℕ} (opened && nat_lt begin k) 1 0 ≡ 0 → k ≤ cond opened begin mark
one_low mark k begin true h none = elim (cases_lt begin k) [
  | inl less ↦ absurd (let wrong = ap {B = ℕ} (λ b. cond b 1 0) (lt-ltb begin k less) in omega (arith, wrong, none))
  | inr over ↦ over
]
one_low mark k begin false h none = h

-- a time that isn't above the mark, nor above the begin of an open row, isn't above the bound
pub open_low : (mark k : ℕ) (rows : List Row) → k ≤ mark → sum_by (open_below mark k) rows ≡ 0 → k ≤ growing_from mark rows
open_low mark k [] h none = h
open_low mark k (r ∷ rows) h none =
    let first : open_below mark k r ≡ 0 = omega (arith, sum_by-cons (open_below mark k) r rows) in
    let rest = open_low mark k rows h (omega (arith, sum_by-cons (open_below mark k) r rows)) in
    let one = one_low mark k r.begin (may_grow mark r) h first in
    omega arith

one_high : (mark k begin : ℕ) (opened : Bool) → k ≤ cond opened begin mark → cond {A = ℕ} (opened && nat_lt begin k) 1 0 ≡ 0
one_high mark k begin true h = ap {B = ℕ} (λ b. cond b 1 0) (le-ltb begin k h)
one_high mark k begin false h = refl

-- a time that isn't above the bound isn't above the begin of an open row
pub open_high : (mark k : ℕ) (rows : List Row) → k ≤ growing_from mark rows → sum_by (open_below mark k) rows ≡ 0
open_high mark k [] h = refl
open_high mark k (r ∷ rows) h =
    omega (arith, sum_by-cons (open_below mark k) r rows, one_high mark k r.begin (may_grow mark r) (omega arith), open_high mark k rows (omega arith))

-- the bound isn't above the mark
pub open_mark : (mark : ℕ) (rows : List Row) → growing_from mark rows ≤ mark
open_mark mark [] = omega arith
open_mark mark (r ∷ rows) = omega (arith, open_mark mark rows)

-- where the same sums see it, the bound is the same
pub open_at_least : (mark : ℕ) (xs ys : List Row) → ((k : ℕ) → sum_by (open_below mark k) xs ≡ sum_by (open_below mark k) ys) → growing_from mark xs ≤ growing_from mark ys
open_at_least mark xs ys same =
    open_low mark (growing_from mark xs) ys (open_mark mark xs) (sym (same (growing_from mark xs)) ∙ open_high mark (growing_from mark xs) xs (omega arith))

fewer_open : (mark later k : ℕ) (r : Row) (opened : Bool) → (nat_lt r.begin later && nat_le later r.end) && nat_lt r.begin k ≡ opened → k ≤ mark → mark ≤ later → cond {A = ℕ} opened 1 0 ≤ open_below mark k r
fewer_open mark later k r false is below rise = omega arith
fewer_open mark later k r true is below rise =
    let both = and_parts (nat_lt r.begin later && nat_le later r.end) (nat_lt r.begin k) is in
    let first = and_parts (nat_lt r.begin later) (nat_le later r.end) both.0 in
    let begins = ltb-true r.begin k both.1 in
    let ends = leb-true later r.end first.1 in
    let begun = lt-ltb r.begin mark (omega arith) in
    let lasts = le-leb mark r.end (omega arith) in
    let low = lt-ltb r.begin k begins in
    let one : open_below mark k r ≡ 1 = λ i. cond {A = ℕ} ((begun i && lasts i) && low i) 1 0 in
    omega (arith, one)

none_more : (f g : Row → ℕ) (xs : List Row) → ((r : Row) → f r ≤ g r) → sum_by g xs ≡ 0 → sum_by f xs ≡ 0
none_more f g [] less none = refl
none_more f g (x ∷ xs) less none =
    omega (arith, sum_by-cons f x xs, sum_by-cons g x xs, less x, none_more f g xs less (omega (arith, sum_by-cons g x xs)))

-- it never falls while the mark rises
pub open_rises : (mark later : ℕ) (rows : List Row) → mark ≤ later → growing_from mark rows ≤ growing_from later rows
open_rises mark later rows rise =
    let k = growing_from mark rows in
    let below = open_mark mark rows in
    open_low later (growing_from mark rows) rows (omega arith)
    (none_more (open_below later (growing_from mark rows)) (open_below mark (growing_from mark rows)) rows (λ r. fewer_open mark later (growing_from mark rows) r (may_grow later r && nat_lt r.begin (growing_from mark rows)) refl below rise) (open_high mark (growing_from mark rows) rows (omega arith)))

same_reach : (mark end : ℕ) → nat_le mark (min end mark) ≡ nat_le mark end
same_reach mark end = elim (cases_lt end mark) [
  | inl less ↦ ap (λ n. nat_le mark n) (omega arith)
  | inr over ↦ le-leb mark (min end mark) (omega arith) ∙ sym (le-leb mark end over)
]

open_early : (mark k : ℕ) (r : Row) → r.begin < mark → open_below mark k (record r { end = min r.end mark }) ≡ open_below mark k r
open_early mark k r before = ap {B = ℕ} (λ b. cond ((nat_lt r.begin mark && b) && nat_lt r.begin k) 1 0) (same_reach mark r.end)

-- what is open at a mark is seen before it
pub open_sees : (mark k : ℕ) → SeesUpTo mark (open_below mark k)
open_sees mark k = record {
  late = λ x row from. ap {B = ℕ} (λ b. cond ((b && nat_le mark x.end) && nat_lt x.begin k) 1 0) (le-ltb x.begin mark from);
  early = λ x row before. open_early mark k x before;
}

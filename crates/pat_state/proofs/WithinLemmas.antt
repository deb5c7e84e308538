-- The part of a bag that begins within some times.
use Rattle.std.proofs.Common.{◌≡◌, ℕ, zero, suc, ◌<◌, List, [], ◌∷◌, ◌++◌, Bool, true, cond, refl, ap, ◌∙◌, arith, max}
use Rattle.std.specs.Prelude.{replicate, not, ◌&&◌, nat_eq, nat_le, nat_lt}
use Rattle.std.specs.List.{filter, All}
use Rattle.std.specs.BTreeMap.Range.{range_contains}
use Rattle.std.specs.declared.ops.Bound.TheVariants.{Included, Excluded, Unbounded}
use Rattle.std.specs.Ordering.{nat_cmp, ordering_then, is_le}
use Rattle.std.specs.declared.cmp.Ordering.{Ordering}
use Rattle.std.specs.declared.cmp.Ordering.TheVariants.{Less, Equal, Greater}
use Rattle.std.proofs.lemmas.Bool.{and_parts, leb-true, ltb-true}
use Rattle.std.proofs.lemmas.Bool.Decides.{nat_tests}
use Rattle.std.proofs.lemmas.List.Elements.{All-head, All-tail, All-weaker}
use Rattle.cedr_base.specs.declared.time.TheConstants.{FOREVER}
use Rattle.cedr_base.specs.declared.field.Field.{Field}
use Rattle.cedr_base.specs.declared.row.Row.{Row}
use Rattle.cedr_base.specs.Order.{payload_cmp}
use Rattle.cedr_base.specs.Rows.{row_cmp, count_of}
use Rattle.cedr_base.proofs.Bags.{count_of-cons, one_of_itself}
use Rattle.cedr_table.specs.Counted.{spread, AreThere}
use Rattle.pat_state.specs.Starts.{begins_within, AreEndless, AreInScope}
use Rattle.pat_state.specs.Tags.{has_tag_within}

-- the first of the rows that begin at a time and never end
abbrev pub first_from : ℕ → Row
first_from time = record { end = FOREVER; begin = time; payload = [] }

-- the begin decides, whatever the payload
begin_decides : (o : Ordering) (n m : ℕ) (p : List Field) → o ≡ nat_cmp n m → is_le (ordering_then o (payload_cmp [] p)) ≡ nat_le n m
begin_decides Less n m p h = grind (arith, nat_tests)
begin_decides Equal n m [] h = grind (arith, nat_tests)
begin_decides Equal n m (f ∷ p) h = grind (arith, nat_tests)
begin_decides Greater n m p h = grind (arith, nat_tests)

begins_from : (n : ℕ) (q : Row) → q.end ≡ FOREVER → is_le (row_cmp (first_from n) q) ≡ nat_le n q.begin
begins_from n q never =
    ap (λ (end : ℕ). is_le (ordering_then (nat_cmp FOREVER end) (ordering_then (nat_cmp n q.begin) (payload_cmp [] q.payload)))) never
    ∙ begin_decides (nat_cmp n q.begin) n q.begin q.payload refl

window : (from before begin : ℕ) → (nat_le from begin && not (nat_le (max from before) begin)) ≡ (nat_le from begin && nat_lt begin before)
window from before begin = grind (arith, nat_tests)

-- a row that never ends lies between the keys where it begins within the times
in_window : (from before : ℕ) (q : Row) → q.end ≡ FOREVER → range_contains row_cmp (Included (first_from from)) (Excluded (first_from (max from before))) q ≡ begins_within from before q
in_window from before q never =
    (λ i. begins_from from q never i && not (begins_from (max from before) q never i)) ∙ window from before q.begin

-- tests that agree on the rows of a bag keep the same of them
filter_same : (p t : Row → Bool) (rows : List Row) → ((q : Row) → 0 < count_of q rows → t q ≡ p q) → filter t rows ≡ filter p rows
filter_same p t [] same = refl
filter_same p t (x ∷ xs) same =
    let first = same x (omega (arith, count_of-cons x x xs, one_of_itself x)) in
    let rest = filter_same p t xs (λ q there. same q (omega (arith, count_of-cons q x xs))) in
    λ i. cond {A = List Row} (first i) (x ∷ rest i) (rest i)

-- what lies between two keys is what begins within the times
pub within_is : (from before : ℕ) (rows : List Row) → AreEndless rows → filter (range_contains row_cmp (Included (first_from from)) (Excluded (first_from (max from before)))) rows ≡ filter (begins_within from before) rows
within_is from before rows never = filter_same (begins_within from before) (range_contains row_cmp (Included (first_from from)) (Excluded (first_from (max from before)))) rows (λ q there. in_window from before q (never q there))

-- the first of the rows of a tag that begin at a time
abbrev pub first_tagged : ℕ → ℕ → Row
first_tagged tag time = record { end = tag; begin = time; payload = [] }

-- where tags differ, a row doesn't lie between two keys of one tag
tag_decides : (o : Ordering) (tag end : ℕ) (low high : Ordering) → o ≡ nat_cmp tag end
    → (is_le (ordering_then o low) && not (is_le (ordering_then o high))) ≡ (nat_eq end tag && (is_le low && not (is_le high)))
tag_decides Less tag end low high h = grind (arith, nat_tests)
tag_decides Equal tag end low high h = grind (arith, nat_tests)
tag_decides Greater tag end low high h = grind (arith, nat_tests)

begins_at : (n : ℕ) (q : Row) → is_le (ordering_then (nat_cmp n q.begin) (payload_cmp [] q.payload)) ≡ nat_le n q.begin
begins_at n q = begin_decides (nat_cmp n q.begin) n q.begin q.payload refl

-- a row lies between the keys of a tag where it has the tag and begins within the times
in_tag_window : (tag from before : ℕ) (q : Row) → range_contains row_cmp (Included (first_tagged tag from)) (Excluded (first_tagged tag (max from before))) q ≡ has_tag_within tag from before q
in_tag_window tag from before q =
    tag_decides (nat_cmp tag q.end) tag q.end (ordering_then (nat_cmp from q.begin) (payload_cmp [] q.payload)) (ordering_then (nat_cmp (max from before) q.begin) (payload_cmp [] q.payload)) refl
    ∙ (λ i. nat_eq q.end tag && (begins_at from q i && not (begins_at (max from before) q i)))
    ∙ ap (λ b. nat_eq q.end tag && b) (window from before q.begin)

-- what lies between two keys of a tag is what has the tag and begins within the times
pub tagged_is : (tag from before : ℕ) (rows : List Row) → filter (range_contains row_cmp (Included (first_tagged tag from)) (Excluded (first_tagged tag (max from before)))) rows ≡ filter (has_tag_within tag from before) rows
tagged_is tag from before rows = filter_same (has_tag_within tag from before) (range_contains row_cmp (Included (first_tagged tag from)) (Excluded (first_tagged tag (max from before)))) rows (λ q there. in_tag_window tag from before q)

passes_behind : (p : Row → Bool) (n : ℕ) (x : Row) (rows : List Row) → All (λ r. p r ≡ true) (replicate n x ++ rows) → All (λ r. p r ≡ true) rows
passes_behind p zero x rows h = h
passes_behind p (suc n) x rows h = passes_behind p n x rows (All-tail (λ r. p r ≡ true) x (replicate n x ++ rows) h)

passes_first : (p : Row → Bool) (e : Row × ℕ) (rows : List Row) → 0 < e.1 → All (λ r. p r ≡ true) (replicate e.1 e.0 ++ rows) → p e.0 ≡ true
passes_first p (x, zero) rows some h = absurd (omega arith)
passes_first p (x, suc n) rows some h = All-head (λ r. p r ≡ true) x (replicate n x ++ rows) h

-- where all rows of a part begin within the times, each entry's row does
pub part_within : (from before : ℕ) (es : List (Row × ℕ)) → AreThere es → All (λ r. begins_within from before r ≡ true) (spread es) → AreInScope from before es
part_within from before [] there pass = tt
part_within from before (e ∷ es) there pass =
    let both = and_parts (nat_le from e.0.begin) (nat_lt e.0.begin before) (passes_first (begins_within from before) e (spread es) there.0 pass) in
    ((there.0, leb-true from e.0.begin both.0, ltb-true e.0.begin before both.1), part_within from before es there.1 (passes_behind (begins_within from before) e.1 e.0 (spread es) pass))

-- where all rows of a part have a tag and begin within the times, each entry's row begins within them
pub tagged_within : (tag from before : ℕ) (es : List (Row × ℕ)) → AreThere es → All (λ r. has_tag_within tag from before r ≡ true) (spread es) → AreInScope from before es
tagged_within tag from before es there pass =
    part_within from before es there (All-weaker (λ r. has_tag_within tag from before r ≡ true) (λ r. begins_within from before r ≡ true) (λ r h. (and_parts (nat_eq r.end tag) (begins_within from before r) h).1) (spread es) pass)

-- where each entry's row begins within the times, of each entry there is a copy
pub scope_there : (from before : ℕ) (es : List (Row × ℕ)) → AreInScope from before es → AreThere es
scope_there from before [] within = tt
scope_there from before (e ∷ es) within = (within.0.0, scope_there from before es within.1)

-- what has no bounds has all rows
pub all_within : (rows : List Row) → filter (range_contains row_cmp Unbounded Unbounded) rows ≡ rows
all_within [] = refl
all_within (x ∷ xs) = ap (λ rows. x ∷ rows) (all_within xs)

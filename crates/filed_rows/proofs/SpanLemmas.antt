-- Rows between two ends, and rows without end.
use Rattle.std.proofs.Common.{◌≡◌, ℕ, ◌+◌, ◌-◌, ◌<◌, ◌≤◌, ◌⊎◌, List, [], ◌∷◌, ◌++◌, Bool, true, false, cond, max, refl, ap, sym, ◌∙◌, subst, arith, inl, inr}
use Rattle.std.specs.Prelude.{not, ◌&&◌, nat_le, nat_lt, ◌≢◌, Result, Ok, Err, OnOk, OnErr}
use Rattle.std.specs.List.{filter}
use Rattle.std.specs.BTreeMap.Range.{range_contains}
use Rattle.std.specs.declared.ops.Bound.TheVariants.{Included, Excluded, Unbounded}
use Rattle.std.specs.Ordering.{nat_cmp, ordering_then, is_le}
use Rattle.std.specs.declared.cmp.Ordering.{Ordering}
use Rattle.std.specs.declared.cmp.Ordering.TheVariants.{Less, Equal, Greater}
use Rattle.std.proofs.lemmas.Bool.{cases_lt, leb-true, and_parts}
use Rattle.std.proofs.lemmas.Bool.Decides.{nat_tests}
use Rattle.cedr_base.specs.declared.time.TheConstants.{FOREVER}
use Rattle.cedr_base.specs.declared.field.Field.{Field}
use Rattle.cedr_base.specs.declared.row.Row.{Row}
use Rattle.cedr_base.specs.Order.{payload_cmp}
use Rattle.cedr_base.specs.Rows.{row_cmp, one_if_same, count_of, in_order, SameRows}
use Rattle.cedr_base.proofs.Bags.{count_of-cons, count_of-append, one_of_itself, one_if_same_exact}
use Rattle.cedr_base.proofs.Sorting.{in_order_counts}
use Rattle.cedr_table.proofs.FilterLemmas.{count-filter}
use Rattle.filed_rows.specs.Filed.{FiledRows, all_under}
use Rattle.cedr_table.specs.Counted.{ends_after}
use Rattle.filed_rows.specs.Spans.{AreAmong, AreSpans, AreShort, AreOpen, ends_by, ends_within, begins_before, lives_within}

-- the least row that ends at a time
abbrev pub first_ending : ℕ → Row
first_ending time = record { end = time; begin = 0; payload = [] }

-- the first row without end that begins at a time
abbrev pub first_open : ℕ → Row
first_open time = record { end = FOREVER; begin = time; payload = [] }

least_payload : (p : List Field) → is_le (payload_cmp [] p) ≡ true
least_payload [] = refl
least_payload (f ∷ p) = refl

least_begin : (o : Ordering) (b : ℕ) (p : List Field) → o ≡ nat_cmp 0 b → is_le (ordering_then o (payload_cmp [] p)) ≡ true
least_begin Less b p h = refl
least_begin Equal b p h = least_payload p
least_begin Greater b p h = grind (arith, nat_tests, h)

end_decides : (o : Ordering) (n m b : ℕ) (p : List Field) → o ≡ nat_cmp n m → is_le (ordering_then o (ordering_then (nat_cmp 0 b) (payload_cmp [] p))) ≡ nat_le n m
end_decides Less n m b p h = grind (arith, nat_tests, h)
end_decides Equal n m b p h = least_begin (nat_cmp 0 b) b p refl ∙ grind (arith, nat_tests, h)
end_decides Greater n m b p h = grind (arith, nat_tests, h)

ends_from : (n : ℕ) (q : Row) → is_le (row_cmp (first_ending n) q) ≡ nat_le n q.end
ends_from n q = end_decides (nat_cmp n q.end) n q.end q.begin q.payload refl

begin_decides : (o : Ordering) (n m : ℕ) (p : List Field) → o ≡ nat_cmp n m → is_le (ordering_then o (payload_cmp [] p)) ≡ nat_le n m
begin_decides Less n m p h = grind (arith, nat_tests, h)
begin_decides Equal n m p h = least_payload p ∙ grind (arith, nat_tests, h)
begin_decides Greater n m p h = grind (arith, nat_tests, h)

begins_from : (n : ℕ) (q : Row) → q.end ≡ FOREVER → is_le (row_cmp (first_open n) q) ≡ nat_le n q.begin
begins_from n q never =
    ap (λ (end : ℕ). is_le (ordering_then (nat_cmp FOREVER end) (ordering_then (nat_cmp n q.begin) (payload_cmp [] q.payload)))) never
    ∙ begin_decides (nat_cmp n q.begin) n q.begin q.payload refl

window : (time last end : ℕ) → (nat_le (time + 1) end && not (nat_le last end)) ≡ (nat_lt time end && nat_lt end last)
window time last end = grind (arith, nat_tests)

in_window : (time last : ℕ) (q : Row) → range_contains row_cmp (Included (first_ending (time + 1))) (Excluded (first_ending last)) q ≡ ends_within time last q
in_window time last q = (λ i. ends_from (time + 1) q i && not (ends_from last q i)) ∙ window time last q.end

not_yet : (time begin : ℕ) → not (nat_le time begin) ≡ nat_lt begin time
not_yet time begin = grind (arith, nat_tests)

-- tests that agree on the rows of a bag keep the same of them
filter_same : (p t : Row → Bool) (rows : List Row) → ((q : Row) → 0 < count_of q rows → t q ≡ p q) → filter t rows ≡ filter p rows
filter_same p t [] same = refl
filter_same p t (x ∷ xs) same =
    let first = same x (omega (arith, count_of-cons x x xs, one_of_itself x)) in
    let rest = filter_same p t xs (λ q there. same q (omega (arith, count_of-cons q x xs))) in
    λ i. cond {A = List Row} (first i) (x ∷ rest i) (rest i)

-- what lies between two such rows is what ends within the times
pub within_is : (time last : ℕ) (rows : List Row) → filter (range_contains row_cmp (Included (first_ending (time + 1))) (Excluded (first_ending last))) rows ≡ filter (ends_within time last) rows
within_is time last rows = filter_same (ends_within time last) (range_contains row_cmp (Included (first_ending (time + 1))) (Excluded (first_ending last))) rows (λ q there. in_window time last q)

-- what lies before the first row without end that begins at a time begins before it
pub begun_is : (time : ℕ) (rows : List Row) → AreOpen rows → filter (range_contains row_cmp Unbounded (Excluded (first_open time))) rows ≡ filter (begins_before time) rows
begun_is time rows never =
    filter_same (begins_before time) (range_contains row_cmp Unbounded (Excluded (first_open time))) rows
    (λ q there. ap not (begins_from time q (never q there)) ∙ not_yet time q.begin)

-- what lies before the first row that ends after a time ends by it
pub ended_is : (time : ℕ) (rows : List Row) → filter (range_contains row_cmp Unbounded (Excluded (first_ending (time + 1)))) rows ≡ filter (ends_by time) rows
ended_is time rows =
    filter_same (ends_by time) (range_contains row_cmp Unbounded (Excluded (first_ending (time + 1)))) rows
    (λ q there. ap not (ends_from (time + 1) q) ∙ by_then time q.end)
  where
    by_then : (time end : ℕ) → not (nat_le (time + 1) end) ≡ nat_le end time
    by_then time end = grind (arith, nat_tests)

kept_at : (p q : Row → Bool) (x : Row) (xs ys : List Row) (b c : Bool) → p x ≡ b → q x ≡ c → (p x ≡ true → q x ≡ true) → filter p xs ≡ filter p ys → filter p (cond c (x ∷ xs) xs) ≡ cond b (x ∷ filter p ys) (filter p ys)
kept_at p q x xs ys true true is k implies rest = ap {B = List Row} (λ d. cond d (x ∷ filter p xs) (filter p xs)) is ∙ ap (λ (rows : List Row). x ∷ rows) rest
kept_at p q x xs ys true false is k implies rest = absurd (let yes = implies is in cc)
kept_at p q x xs ys false true is k implies rest = ap {B = List Row} (λ d. cond d (x ∷ filter p xs) (filter p xs)) is ∙ rest
kept_at p q x xs ys false false is k implies rest = rest

-- where those are left out that fail a test, those stay of which it says yes
pub filter_within : (p q : Row → Bool) (xs : List Row) → ((x : Row) → 0 < count_of x xs → p x ≡ true → q x ≡ true) → filter p (filter q xs) ≡ filter p xs
filter_within p q [] implies = refl
filter_within p q (x ∷ xs) implies =
    kept_at p q x (filter q xs) xs (p x) (q x) refl refl (implies x (omega (arith, count_of-cons x x xs, one_of_itself x)))
    (filter_within p q xs (λ y there. implies y (omega (arith, count_of-cons y x xs))))

both_at : (p : Row → Bool) (x : Row) (xs ys rest : List Row) (b : Bool) → filter p (xs ++ ys) ≡ rest → cond b (x ∷ filter p (xs ++ ys)) (filter p (xs ++ ys)) ≡ cond b (x ∷ rest) rest
both_at p x xs ys rest b is = ap (λ (rows : List Row). cond b (x ∷ rows) rows) is

cond_append : (b : Bool) (x : Row) (xs ys : List Row) → cond b (x ∷ (xs ++ ys)) (xs ++ ys) ≡ cond b (x ∷ xs) xs ++ ys
cond_append true x xs ys = refl
cond_append false x xs ys = refl

-- of two lists those that pass
pub filter_both : (p : Row → Bool) (xs ys : List Row) → filter p (xs ++ ys) ≡ filter p xs ++ filter p ys
filter_both p [] ys = refl
filter_both p (x ∷ xs) ys = both_at p x xs ys (filter p xs ++ filter p ys) (p x) (filter_both p xs ys) ∙ cond_append (p x) x (filter p xs) (filter p ys)

-- of rows none of which is valid for longer than some time, those that meet a time end by so long after it
pub window_meets : (time last longest : ℕ) (rows : List Row) → AreShort longest rows → filter (lives_within time last) (filter (ends_within time (last + longest)) rows) ≡ filter (lives_within time last) rows
window_meets time last longest rows short =
    filter_within (lives_within time last) (ends_within time (last + longest)) rows (λ x there lives. grind (arith, nat_tests, short x there, lives))

pub later_meets : (time last : ℕ) (rows : List Row) → filter (lives_within time last) (filter (ends_after time) rows) ≡ filter (lives_within time last) rows
later_meets time last rows = filter_within (lives_within time last) (ends_after time) rows (λ x there lives. (and_parts (nat_lt time x.end) (nat_lt x.begin last) lives).0)

begun_meets : (time last : ℕ) (rows : List Row) → filter (lives_within time last) (filter (begins_before last) rows) ≡ filter (lives_within time last) rows
begun_meets time last rows = filter_within (lives_within time last) (begins_before last) rows (λ x there lives. (and_parts (nat_lt time x.end) (nat_lt x.begin last) lives).1)

-- of both kinds of rows those that meet a time are found
pub meeting_is : (time last : ℕ) (ending unended all found begun : List Row) → ending ++ unended ≡ all → filter (lives_within time last) found ≡ filter (lives_within time last) ending → begun ≡ filter (begins_before last) unended
    → filter (lives_within time last) (found ++ begun) ≡ filter (lives_within time last) all
meeting_is time last ending unended all found begun is first second =
    filter_both (lives_within time last) found begun
    ∙ ((λ i. first i ++ (ap (filter (lives_within time last)) second ∙ begun_meets time last unended) i)
    ∙ (sym (filter_both (lives_within time last) ending unended)
    ∙ ap (filter (lives_within time last)) is))

kept_some : (b : Bool) (n : ℕ) → 0 < cond b n 0 → 0 < n
kept_some true n h = h
kept_some false n h = absurd (omega arith)

-- rows that pass are among those that they were chosen from
pub among_filtered : (p : Row → Bool) (rows found : List Row) → found ≡ filter p rows → AreAmong found rows
among_filtered p rows found is r there = kept_some (p r) (count_of r rows) (omega (arith, ap (count_of r) is, count-filter r p rows))

pub among_first : (found ending unended all : List Row) → ending ++ unended ≡ all → AreAmong found ending → AreAmong found all
among_first found ending unended all is among r there = let here = among r there in omega (arith, count_of-append r ending unended, ap (count_of r) is)

pub among_second : (found ending unended all : List Row) → ending ++ unended ≡ all → AreAmong found unended → AreAmong found all
among_second found ending unended all is among r there = let here = among r there in omega (arith, count_of-append r ending unended, ap (count_of r) is)

none_by : (time : ℕ) (r : Row) (b : Bool) (ending unended : ℕ) → nat_le r.end time ≡ b → time < FOREVER → (0 < unended → r.end ≡ FOREVER) → cond b ending 0 ≡ cond b (ending + unended) 0
none_by time r true ending unended is late never =
    let by = leb-true r.end time is in
    elim (cases_lt 0 unended) [ inl some ↦ absurd (let e = never some in omega arith) | inr none ↦ omega arith ]
none_by time r false ending unended is late never = refl

-- no row without end ends by a time
pub ended_are : (time longest : ℕ) (ending unended all found : List Row) → AreSpans longest ending unended → time < FOREVER → ending ++ unended ≡ all → found ≡ filter (ends_by time) ending → SameRows found (filter (ends_by time) all)
ended_are time longest ending unended all found spans late is f = record {
  each = λ r.
      ap (count_of r) f
      ∙ (count-filter r (ends_by time) ending
      ∙ (none_by time r (nat_le r.end time) (count_of r ending) (count_of r unended) refl late (spans.never r)
      ∙ (ap (λ n. cond (ends_by time r) n 0) (sym (count_of-append r ending unended) ∙ ap (count_of r) is)
      ∙ sym (count-filter r (ends_by time) all))));
}

-- ---- rows that end and rows without end, as they come and go

-- what is left of a bag was there before
pub left_there : (p : Row → Bool) (xs xs' : List Row) → SameRows xs' (filter p xs) → (r : Row) → 0 < count_of r xs' → 0 < count_of r xs
left_there p xs xs' same r there = kept_some (p r) (count_of r xs) (omega (arith, same.each r, count-filter r p xs))

pub spans_left : (longest : ℕ) (p : Row → Bool) (ending ending' unended unended' : List Row) → AreSpans longest ending unended → SameRows ending' (filter p ending) → SameRows unended' (filter p unended) → AreSpans longest ending' unended'
spans_left longest p ending ending' unended unended' was e o = record {
  short = λ r there. was.short r (left_there p ending ending' e r there);
  end = λ r there. was.end r (left_there p ending ending' e r there);
  never = λ r there. was.never r (left_there p unended unended' o r there);
}

-- a row that is in a bag once one was added is that one, or was there
one_more : (row : Row) (xs xs' : List Row) → SameRows xs' (row ∷ xs) → (q : Row) → 0 < count_of q xs' → (q ≡ row) ⊎ (0 < count_of q xs)
one_more row xs xs' same q there = elim (cases_lt 0 (one_if_same q row)) [
  | inl is ↦ inl (one_if_same_exact q row is)
  | inr other ↦ inr (omega (arith, same.each q, count_of-cons q row xs))
]

pub after_insert : {T E : Type 0} (result : Result T E) (row : Row) (xs xs' : List Row) → OnOk result (SameRows xs' (row ∷ xs)) → OnErr result (xs' ≡ xs) → (q : Row) → 0 < count_of q xs' → (q ≡ row) ⊎ (0 < count_of q xs)
after_insert (Ok x) row xs xs' ok err q there = one_more row xs xs' ok q there
after_insert (Err e) row xs xs' ok err q there = inr (subst (λ (rows : List Row). 0 < count_of q rows) err there)

pub open_comes : (longest : ℕ) (row : Row) (ending unended unended' : List Row) → row.end ≡ FOREVER → AreSpans longest ending unended → ((q : Row) → 0 < count_of q unended' → (q ≡ row) ⊎ (0 < count_of q unended)) → AreSpans longest ending unended'
open_comes longest row ending unended unended' never was new = record {
  short = was.short;
  end = was.end;
  never = λ q there. elim (new q there) [ inl same ↦ ap (λ (r : Row). r.end) same ∙ never | inr old ↦ was.never q old ];
}

shorter : (end begin longest more : ℕ) → end ≤ begin + longest → end ≤ begin + max longest more
shorter end begin longest more h = grind (arith, nat_tests, h)

longer : (end begin longest : ℕ) → end ≤ begin + max longest (end - begin)
longer end begin longest = grind (arith, nat_tests)

pub ending_comes : (longest longest' : ℕ) (row : Row) (ending ending' unended : List Row) → row.end ≢ FOREVER → longest' ≡ max longest (row.end - row.begin) → AreSpans longest ending unended → ((q : Row) → 0 < count_of q ending' → (q ≡ row) ⊎ (0 < count_of q ending)) → AreSpans longest' ending' unended
ending_comes longest longest' row ending ending' unended ends is was new = record {
  short = λ q there. subst (λ (n : ℕ). q.end ≤ q.begin + n) (sym is) (elim (new q there) [
    | inl same ↦ subst (λ (r : Row). r.end ≤ r.begin + max longest (row.end - row.begin)) (sym same) (longer row.end row.begin longest)
    | inr old ↦ shorter q.end q.begin longest (row.end - row.begin) (was.short q old)
  ]);
  end = λ q there. elim (new q there) [ inl same ↦ subst (λ (r : Row). r.end ≢ FOREVER) (sym same) ends | inr old ↦ was.end q old ];
  never = was.never;
}

one_less : (row q : Row) (xs xs' : List Row) → SameRows (row ∷ xs') xs → 0 < count_of q xs' → 0 < count_of q xs
one_less row q xs xs' same there = omega (arith, same.each q, count_of-cons q row xs')

-- a row without end stands among those
pub open_there : (longest : ℕ) (row : Row) (ending unended : List Row) → AreSpans longest ending unended → row.end ≡ FOREVER → 0 < count_of row (ending ++ unended) → 0 < count_of row unended
open_there longest row ending unended was never there = elim (cases_lt 0 (count_of row ending)) [
  | inl ends ↦ absurd (was.end row ends never)
  | inr none ↦ omega (arith, count_of-append row ending unended)
]

-- and one that ends among the others
pub ending_there : (longest : ℕ) (row : Row) (ending unended : List Row) → AreSpans longest ending unended → row.end ≢ FOREVER → 0 < count_of row (ending ++ unended) → 0 < count_of row ending
ending_there longest row ending unended was ends there = elim (cases_lt 0 (count_of row unended)) [
  | inl unended' ↦ absurd (ends (was.never row unended'))
  | inr none ↦ omega (arith, count_of-append row ending unended)
]

pub open_goes : (longest : ℕ) (row : Row) (ending unended unended' : List Row) → AreSpans longest ending unended → SameRows (row ∷ unended') unended → AreSpans longest ending unended'
open_goes longest row ending unended unended' was taken = record {
  short = was.short;
  end = was.end;
  never = λ q there. was.never q (one_less row q unended unended' taken there);
}

pub ending_goes : (longest : ℕ) (row : Row) (ending ending' unended : List Row) → AreSpans longest ending unended → SameRows (row ∷ ending') ending → AreSpans longest ending' unended
ending_goes longest row ending ending' unended was taken = record {
  short = λ q there. was.short q (one_less row q ending ending' taken there);
  end = λ q there. was.end q (one_less row q ending ending' taken there);
  never = was.never;
}

-- both kinds of rows were added at the end
pub both_pushed : (rows one two ending unended all : List Row) → one ≡ rows ++ in_order ending → two ≡ one ++ in_order unended → ending ++ unended ≡ all → SameRows two (rows ++ all)
both_pushed rows one two ending unended all e f g = record {
  each = λ r.
      ap (count_of r) f
      ∙ omega (
        arith,
        count_of-append r one (in_order unended),
        ap (count_of r) e,
        count_of-append r rows (in_order ending),
        (in_order_counts ending).each r,
        (in_order_counts unended).each r,
        count_of-append r rows all,
        ap (count_of r) g,
        count_of-append r ending unended,
      );
}

-- the rows of one tag more were added at the end
pub all_pushed : (rows rows' filed all : List Row) (tag : ℕ) (some rest : FiledRows) → some ≡ (tag, filed) ∷ rest → SameRows rows' (rows ++ filed) → SameRows (rows ++ all_under some) all → SameRows (rows' ++ all_under rest) all
all_pushed rows rows' filed all tag some rest is pushed was = record {
  each = λ r. omega (
    arith,
    count_of-append r rows' (all_under rest),
    pushed.each r,
    count_of-append r rows filed,
    was.each r,
    ap (λ (es : FiledRows). count_of r (rows ++ all_under es)) is,
    count_of-append r rows (filed ++ all_under rest),
    count_of-append r filed (all_under rest),
  );
}

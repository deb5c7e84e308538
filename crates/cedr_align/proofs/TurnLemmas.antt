-- Rows with their begin and their end exchanged.
use Rattle.std.proofs.Common.{◌≡◌, ℕ, ◌+◌, ◌*◌, ◌<◌, ◌≤◌, List, [], ◌∷◌, ◌++◌, Bool, true, false, cond, not, nat_lt, subst, refl, ap, sym, ◌∙◌, arith}
use Rattle.std.specs.Prelude.{replicate, min, Option, Some, None, IfSome, IfNone}
use Rattle.node_laws.specs.Pass.{is_blocked, least_begin}
use Rattle.node_laws.proofs.Holds.{least-there, least-from, least-mark}
use Rattle.std.proofs.lemmas.Bool.{lt-ltb, le-ltb, ltb-true, ltb-false, not-false, not-true}
use Rattle.cedr_table.specs.Counted.{IsFirst, IsTakenOut}
use Rattle.cedr_table.proofs.FilterLemmas.{ends_first}
use Rattle.std.proofs.lemmas.List.Folds.{sum_by-replicate}
use Rattle.cedr_base.specs.declared.row.Row.{Row}
use Rattle.cedr_base.specs.Rows.{same_row, one_if_same, count_of, SameRows}
use Rattle.cedr_base.proofs.Bags.{same_row_exact, same_row_itself, count_of-append, count_of-cons}
use Rattle.change_laws.proofs.BagSums.{count_of-itself}
use Rattle.cedr_align.specs.Moving.{turned, all_turned, IsPopped}

-- a test is the same where each of two is true if the other one is
both_ways : (b d : Bool) → (b ≡ true → d ≡ true) → (d ≡ true → b ≡ true) → b ≡ d
both_ways true true h k = refl
both_ways true false h k = sym (h refl)
both_ways false true h k = k refl
both_ways false false h k = refl

-- a row is another one with begin and end exchanged where that is this one with begin and end exchanged
pub turned_same : (r x : Row) → same_row r (turned x) ≡ same_row (turned r) x
turned_same r x = both_ways (same_row r (turned x)) (same_row (turned r) x)
    (λ h. let e : turned r ≡ x = ap turned (same_row_exact r (turned x) h) in ap (λ (z : Row). same_row (turned r) z) (sym e) ∙ same_row_itself (turned r))
    (λ h. let e : r ≡ turned x = ap turned (same_row_exact (turned r) x h) in ap (λ (z : Row). same_row r z) (sym e) ∙ same_row_itself r)

-- rows with begin and end exchanged have as many copies of a row as the rows have of that row exchanged
pub count_turned : (r : Row) (rows : List Row) → count_of r (all_turned rows) ≡ count_of (turned r) rows
count_turned r [] = refl
count_turned r (x ∷ rows) = omega (arith, count_of-cons r (turned x) (all_turned rows), count_of-cons (turned r) x rows, ap {B = ℕ} (λ b. cond b 1 0) (turned_same r x), count_turned r rows)

one_turned : (r x : Row) → one_if_same r (turned x) ≡ one_if_same (turned r) x
one_turned r x = ap {B = ℕ} (λ b. cond b 1 0) (turned_same r x)

-- a row comes to both orders
pub both_inserted : (row : Row) (begins begins' ends ends' : List Row) → SameRows begins (all_turned ends) → SameRows begins' (turned row ∷ begins) → SameRows ends' (row ∷ ends) → SameRows begins' (all_turned ends')
both_inserted row begins begins' ends ends' was b e = record {
  each = λ r. omega (
    arith,
    was.each r,
    b.each r,
    e.each (turned r),
    count_turned r ends,
    count_turned r ends',
    count_of-cons r (turned row) begins,
    count_of-cons (turned r) row ends,
    one_turned r row,
  );
}

-- all copies of a row go from both orders
pub both_removed : (row : Row) (n : ℕ) (begins begins' ends ends' : List Row) → SameRows begins (all_turned ends) → SameRows (replicate n (turned row) ++ begins') begins → SameRows (replicate n row ++ ends') ends → SameRows begins' (all_turned ends')
both_removed row n begins begins' ends ends' was b e = record {
  each = λ r. omega (
    arith,
    was.each r,
    b.each r,
    e.each (turned r),
    count_turned r ends,
    count_turned r ends',
    count_of-append r (replicate n (turned row)) begins',
    count_of-append (turned r) (replicate n row) ends',
    sum_by-replicate (one_if_same r) n (turned row),
    sum_by-replicate (one_if_same (turned r)) n row,
    ap (λ k. n * k) (one_turned r row),
  );
}

turned_twice : (r : Row) (rows : List Row) → count_of (turned r) (all_turned rows) ≡ count_of r rows
turned_twice r rows = count_turned (turned r) rows

-- the first row by begin begins no later than any other one
pub begins_first : (other r : Row) (begins ends : List Row) → SameRows begins (all_turned ends) → IsFirst other begins → 0 < count_of r ends → other.end ≤ r.begin
begins_first other r begins ends same first there = ends_first other (turned r) (first.least (turned r) (omega (arith, same.each (turned r), turned_twice r ends)))

-- the first row by begin is there
pub first_turned : (other : Row) (begins ends : List Row) → SameRows begins (all_turned ends) → IsFirst other begins → 0 < count_of (turned other) ends
first_turned other begins ends same first = let there = first.there in omega (arith, same.each other, count_turned other ends)

-- nothing waits where nothing does by begin
pub none_turned : (r : Row) (begins ends : List Row) → SameRows begins (all_turned ends) → begins ≡ [] → count_of r ends ≡ 0
none_turned r begins ends same none = omega (arith, same.each (turned r), turned_twice r ends, ap (count_of (turned r)) none)

-- a bag of which no row is there is empty
no_rows : (rows : List Row) → ((r : Row) → count_of r rows ≡ 0) → rows ≡ []
no_rows [] none = refl
no_rows (x ∷ rows) none = absurd (omega (arith, none x, count_of-itself x rows))

-- no row waits by end where none waits by begin
pub none_by_end : (begins ends : List Row) → SameRows begins (all_turned ends) → begins ≡ [] → ends ≡ []
none_by_end begins ends same none = no_rows ends (λ r. none_turned r begins ends same none)

-- of two rows the block hasn't passed for the one that begins later where it hasn't for the other one
blocked_later : (block : Option ℕ) (high : ℕ) (a b : Row) → a.begin ≤ b.begin → not (is_blocked block high a) ≡ false → not (is_blocked block high b) ≡ false
blocked_later None high a b low h = refl
blocked_later (Some d) high a b low h =
    let later = ltb-true high (a.begin + d) (not-false (nat_lt high (a.begin + d)) h) in
    ap not (lt-ltb high (b.begin + d) (omega arith))

-- of two rows the block has passed for the one that begins earlier where it has for the other one
blocked_earlier : (block : Option ℕ) (high : ℕ) (a b : Row) → a.begin ≤ b.begin → not (is_blocked block high b) ≡ true → not (is_blocked block high a) ≡ true
blocked_earlier None high a b low h = h
blocked_earlier (Some d) high a b low h =
    let passed = ltb-false high (b.begin + d) (not-true (nat_lt high (b.begin + d)) h) in
    ap not (le-ltb high (a.begin + d) (omega arith))

-- a row was popped from the order of the ends, and then goes from that of the begins
pub popped_end : (row other : Row) (n k : ℕ) (begins begins' ends ends' : List Row) → SameRows begins (all_turned ends) → other ≡ turned row → n ≡ count_of row ends → k ≡ count_of other begins → SameRows (replicate n row ++ ends') ends → SameRows (replicate k other ++ begins') begins
    → SameRows begins' (all_turned ends')
popped_end row other n k begins begins' ends ends' same is e f d b =
    let so_many : k ≡ n = f ∙ (ap (λ (r : Row). count_of r begins) is ∙ (same.each (turned row) ∙ (count_turned (turned row) ends ∙ sym e))) in
    both_removed row n begins begins' ends ends' same
    (subst (λ (m : ℕ). SameRows (replicate m (turned row) ++ begins') begins) so_many (subst (λ (r : Row). SameRows (replicate k r ++ begins') begins) is b)) d

-- a row was popped from the order of the begins, and then goes from that of the ends
module _ (other row : Row) (n k : ℕ) (begins begins' ends ends' : List Row) (same : SameRows begins (all_turned ends)) (is : row ≡ turned other) where
  turned_is : turned row ≡ other
  turned_is = ap turned is

  same_count : count_of other begins ≡ count_of row ends
  same_count = same.each other ∙ (count_turned other ends ∙ ap (λ (r : Row). count_of r ends) (sym is))

  so_many : n ≡ count_of other begins → k ≡ count_of row ends → k ≡ n
  so_many e f = f ∙ (sym same_count ∙ sym e)

  -- the two orders agree again
  pub popped_both : n ≡ count_of other begins → k ≡ count_of row ends → SameRows (replicate n other ++ begins') begins → SameRows (replicate k row ++ ends') ends → SameRows begins' (all_turned ends')
  popped_both e f b d =
      both_removed row n begins begins' ends ends' same
      (subst (λ (r : Row). SameRows (replicate n r ++ begins') begins) (sym turned_is) b)
      (subst (λ (m : ℕ). SameRows (replicate m row ++ ends') ends) (so_many e f) d)

  -- and the row is popped from the bag, as the first one by begin
  pub popped_begin : IsFirst other begins → n ≡ count_of other begins → k ≡ count_of row ends → SameRows (replicate k row ++ ends') ends → IsPopped row n ends ends' × ((r : Row) → 0 < count_of r ends → row.begin ≤ r.begin)
  popped_begin first e f d = (
    record {
      there = let there = first.there in omega (arith, e);
      counted = e ∙ same_count;
      removed = subst (λ (m : ℕ). SameRows (replicate m row ++ ends') ends) (so_many e f) d;
    },
    λ r there. let b = ap (λ (x : Row). x.begin) is in omega (arith, begins_first other r begins ends same first there),
  )

module _ (block : Option ℕ) (high : ℕ) (begins ends : List Row) (same : SameRows begins (all_turned ends)) where
  -- the block has passed for no row where none waits
  pub none_waits : begins ≡ [] → (r : Row) → 0 < count_of r ends → not (is_blocked block high r) ≡ false
  none_waits none r there = let e = none_turned r begins ends same none in absurd (omega arith)

  -- nor where it hasn't passed for the first one by begin
  pub first_waits : (other : Row) → IsFirst other begins → not (is_blocked block high (turned other)) ≡ false → (r : Row) → 0 < count_of r ends → not (is_blocked block high r) ≡ false
  first_waits other first waits r there = blocked_later block high (turned other) r (begins_first other r begins ends same first there) waits

  -- what was popped as the first row by begin goes where the block has passed for the first one
  pub popped_goes : (other row : Row) → IsFirst other begins → not (is_blocked block high (turned other)) ≡ true → ((r : Row) → 0 < count_of r ends → row.begin ≤ r.begin) → not (is_blocked block high row) ≡ true
  popped_goes other row first passed least = blocked_earlier block high row (turned other) (least (turned other) (first_turned other begins ends same first)) passed

  -- so it is taken out of the bag
  pub unblocked_taken : (other : Row) → IsFirst other begins → not (is_blocked block high (turned other)) ≡ true → (left : List Row) (found : Option (Row × ℕ))
      → IfSome found (λ (p : Row × ℕ). IsPopped p.0 p.1 ends left × ((r : Row) → 0 < count_of r ends → p.0.begin ≤ r.begin)) → IfNone found ((ends ≡ []) × (left ≡ [])) → IsTakenOut (λ r. not (is_blocked block high r)) ends left found
  unblocked_taken other first passed left None some none = (none.1 ∙ sym none.0, λ r there. absurd (omega (arith, ap (count_of r) none.0)))
  unblocked_taken other first passed left (Some p) some none = let popped = some.0 in (popped_goes other p.0 first passed some.1, popped.there, popped.counted, popped.removed)

  pub least_first : (t : ℕ) (other : Row) → IsFirst other begins → least_begin t ends ≡ min t other.end
  least_first t other first =
      let low = least-there t ends (turned other) (first_turned other begins ends same first) in
      let up = least-from t (min t other.end) ends (omega arith) (λ r there. let e = begins_first other r begins ends same first there in omega arith) in
      let mark = least-mark t ends in
      omega arith

  pub least_none : (t : ℕ) → begins ≡ [] → least_begin t ends ≡ t
  least_none t none =
      let up = least-from t t ends (omega arith) (λ r there. let e = none_turned r begins ends same none in absurd (omega arith)) in
      let mark = least-mark t ends in
      omega arith

-- What the scans of kept rows find.
use Rattle.std.proofs.Common.{◌≡◌, ℕ, zero, suc, ◌+◌, ◌-◌, ◌<◌, ◌≤◌, inl, inr, List, [], ◌∷◌, ◌++◌, Bool, true, false, cond, refl, ap, sym, ◌∙◌, subst, arith}
use Rattle.std.specs.Prelude.{replicate, sum_by, nat_lt, nat_le, not, ◌&&◌, ◌||◌}
use Rattle.std.specs.List.{flat_map, filter, list_any}
use Rattle.std.proofs.lemmas.Bool.{leb-true, leb-false, lt-ltb, le-ltb, and_parts, and_cases}
use Rattle.std.proofs.lemmas.Bool.Decides.{nat_tests}
use Rattle.cedr_base.specs.declared.time.TheConstants.{FOREVER}
use Rattle.cedr_base.specs.declared.row.Row.{Row}
use Rattle.cedr_base.specs.Rows.{count_of, one_if_same, SameRows}
use Rattle.cedr_base.proofs.Bags.{count_of-append}
use Rattle.change_laws.proofs.BagSums.{sum_by-flat_map}
use Rattle.change_laws.specs.Times.{later}
use Rattle.cedr_table.specs.Counted.{spread, AreThere}
use Rattle.cedr_expr.specs.declared.test.Test.{Test}
use Rattle.cedr_expr.specs.Tests.{passes}
use Rattle.pat_state.specs.Starts.{begins_within}
use Rattle.pat_state.specs.Tags.{IsSought}
use Rattle.pat_state.proofs.FlatLemmas.{flat_map-filter, same_copies, no_copies}
use Rattle.pat_unless.specs.Blocking.{blocks, is_blocked_by, waited, unblocked}
use Rattle.pat_unless.specs.BlockingLaws.{any_is}
use Rattle.pat_unless.specs.Steps.{only_blocked, freed, decided}

-- one of several tests decides with another
any_one : (b : Bool) (q : Row → Bool) (x : Row) (xs : List Row) (p : Bool) → p ≡ (b && q x) → (p || list_any q xs) ≡ list_any q (cond b (x ∷ xs) xs)
any_one true q x xs p h = ap (λ c. c || list_any q xs) h
any_one false q x xs p h = ap (λ c. c || list_any q xs) h

any_filter : (p q w : Row → Bool) (xs : List Row) → ((x : Row) → p x ≡ (w x && q x)) → list_any p xs ≡ list_any q (filter w xs)
any_filter p q w [] same = refl
any_filter p q w (x ∷ xs) same = ap (λ b. p x || b) (any_filter p q w xs same) ∙ any_one (w x) q x (filter w xs) (p x) (same x)

next_time : (a b : ℕ) → nat_lt a b ≡ nat_le (a + 1) b
next_time a b = grind (arith, nat_tests)

and_together : (a b c : Bool) → (a && (b && c)) ≡ ((a && b) && c)
and_together true b c = refl
and_together false b c = refl

-- whether a row is blocked is told by weights of the rows that pass the tests with it
block_sought : (tests : List Test) (a : Row) → IsSought (λ fields. passes tests a.payload fields) (λ b. cond (passes tests a.payload b.payload) 1 0)
block_sought tests a = record { endless = λ r end. refl; none = λ r h. ap (λ b. cond b 1 0) h }

-- the rows that may block one are beside it, and begin within its scope
pub blocked_beside : (scope : ℕ) (tests : List Test) (blockers : List Row) (a : Row) (from until : ℕ) (entries : List (Row × ℕ)) → from ≡ a.begin + 1 → until ≡ later a.begin scope
    → ((weight : Row → ℕ) → IsSought (λ fields. passes tests a.payload fields) weight → sum_by weight (filter (begins_within from until) (spread entries)) ≡ sum_by weight (filter (begins_within from until) blockers))
    → is_blocked_by scope tests blockers a ≡ list_any (λ b. begins_within from until b && passes tests a.payload b.payload) (spread entries)
blocked_beside scope tests blockers a from until entries starts is found =
    any_filter (blocks scope tests a) (λ b. passes tests a.payload b.payload) (begins_within from until) blockers
    (λ b. and_together (nat_lt a.begin b.begin) (nat_lt b.begin (later a.begin scope)) (passes tests a.payload b.payload)
    ∙ (λ i. ((next_time a.begin b.begin ∙ ap (λ n. nat_le n b.begin) (sym starts)) i && nat_lt b.begin (sym is i)) && passes tests a.payload b.payload))
    ∙ (any_is (λ b. passes tests a.payload b.payload) (filter (begins_within from until) blockers)
    ∙ (ap (nat_lt 0) (sym (found (λ b. cond (passes tests a.payload b.payload) 1 0) (block_sought tests a)))
    ∙ (sym (any_is (λ b. passes tests a.payload b.payload) (filter (begins_within from until) (spread entries)))
    ∙ sym (any_filter (λ b. begins_within from until b && passes tests a.payload b.payload) (λ b. passes tests a.payload b.payload) (begins_within from until) (spread entries) (λ b. refl)))))

any_behind : (q : Row → Bool) (count : ℕ) (x : Row) (xs : List Row) → q x ≡ false → list_any q (replicate count x ++ xs) ≡ list_any q xs
any_behind q zero x xs h = refl
any_behind q (suc count) x xs h = ap (λ b. b || list_any q (replicate count x ++ xs)) h ∙ any_behind q count x xs h

any_first : (q : Row → Bool) (count : ℕ) (x : Row) (xs : List Row) → 0 < count → q x ≡ true → list_any q (replicate count x ++ xs) ≡ true
any_first q zero x xs some h = absurd (omega arith)
any_first q (suc count) x xs some h = ap (λ b. b || list_any q (replicate count x ++ xs)) h

-- an entry that doesn't block
pub scan_goes_on : (q : Row → Bool) (entries entries' : List (Row × ℕ)) (x : Row) (count : ℕ) (blocked : Bool) → entries ≡ (x, count) ∷ entries' → q x ≡ false → blocked ≡ list_any q (spread entries) → blocked ≡ list_any q (spread entries')
scan_goes_on q entries entries' x count blocked is h was = was ∙ (ap (λ es. list_any q (spread es)) is ∙ any_behind q count x (spread entries') h)

-- one that does
pub scan_ends : (q : Row → Bool) (entries entries' : List (Row × ℕ)) (x : Row) (count : ℕ) (blocked : Bool) → entries ≡ (x, count) ∷ entries' → AreThere entries → q x ≡ true → blocked ≡ list_any q (spread entries) → blocked ≡ true
scan_ends q entries entries' x count blocked is there h was =
    was ∙ (ap (λ es. list_any q (spread es)) is ∙ any_first q count x (spread entries') (subst AreThere is there).0 h)

-- the row that a row gives
pub waited_copies : (scope hold : ℕ) (a : Row) (count begin end : ℕ) → begin ≡ later a.begin scope → end ≡ later begin hold → begin < end → replicate count (record { end = end; begin = begin; payload = a.payload }) ≡ flat_map (waited scope hold) (replicate count a)
waited_copies scope hold a zero begin end begins ends lives = refl
waited_copies scope hold a (suc count) begin end begins ends lives =
    let until : end ≡ later (later a.begin scope) hold = ends ∙ ap (λ time. later time hold) begins in
    let alive : nat_lt (later a.begin scope) (later (later a.begin scope) hold) ≡ true = lt-ltb (later a.begin scope) (later (later a.begin scope) hold) (omega arith) in
    λ i. cond {A = List Row} (sym alive i) (record { end = until i; begin = begins i; payload = a.payload } ∷ []) [] ++ waited_copies scope hold a count begin end begins ends lives i

-- copies of a row whose interval after its scope would be empty give nothing
pub waited_none : (scope hold : ℕ) (a : Row) (count begin end : ℕ) → begin ≡ later a.begin scope → end ≡ later begin hold → end ≤ begin → flat_map (waited scope hold) (replicate count a) ≡ []
waited_none scope hold a count begin end begins ends empty =
    no_copies (waited scope hold) count a
    (ap {B = List Row} (λ b. cond b (record { end = later (later a.begin scope) hold; begin = later a.begin scope; payload = a.payload } ∷ []) []) (le-ltb (later a.begin scope) (later (later a.begin scope) hold) (omega arith)))

-- copies of a row that passes the tests with a blocker, and that no other row blocks, are freed
pub freed_copies : (scope hold : ℕ) (tests : List Test) (others : List Row) (b a : Row) (count : ℕ) → passes tests a.payload b.payload ≡ true → is_blocked_by scope tests others a ≡ false → flat_map (freed scope hold tests others b) (replicate count a) ≡ flat_map (waited scope hold) (replicate count a)
freed_copies scope hold tests others b a count pass free =
    same_copies (freed scope hold tests others b) (waited scope hold) count a (λ i. cond (pass i && not (free i)) (waited scope hold a) [])

-- copies of a row that fails these tests, or that another row blocks, aren't freed
pub unfreed_copies : (scope hold : ℕ) (tests : List Test) (others : List Row) (b a : Row) (count : ℕ) → (passes tests a.payload b.payload && not (is_blocked_by scope tests others a)) ≡ false → flat_map (freed scope hold tests others b) (replicate count a) ≡ []
unfreed_copies scope hold tests others b a count h = no_copies (freed scope hold tests others b) count a (ap (λ c. cond c (waited scope hold a) []) h)

freed_cases : (pass blocked : Bool) (rows : List Row) → cond (pass && not blocked) rows [] ≡ cond pass (cond blocked [] rows) []
freed_cases true true rows = refl
freed_cases true false rows = refl
freed_cases false blocked rows = refl

blocks_inside : (scope : ℕ) (tests : List Test) (a b : Row) → b.begin < FOREVER → begins_within (b.begin + 1 - scope) b.begin a ≡ true → blocks scope tests a b ≡ passes tests a.payload b.payload
blocks_inside scope tests a b finite h =
    let both = and_parts (nat_le (b.begin + 1 - scope) a.begin) (nat_lt a.begin b.begin) h in
    let from = leb-true (b.begin + 1 - scope) a.begin both.0 in
    λ i. both.1 i && (lt-ltb b.begin (later a.begin scope) (omega arith) i && passes tests a.payload b.payload)

blocks_outside : (scope : ℕ) (tests : List Test) (a b : Row) → begins_within (b.begin + 1 - scope) b.begin a ≡ false → blocks scope tests a b ≡ false
blocks_outside scope tests a b h = elim (and_cases (nat_le (b.begin + 1 - scope) a.begin) (nat_lt a.begin b.begin) h) [
  | inl early ↦ (let before = leb-false (b.begin + 1 - scope) a.begin early in
      let late : nat_lt b.begin (later a.begin scope) ≡ false = le-ltb b.begin (later a.begin scope) (omega arith) in
      ap (λ c. nat_lt a.begin b.begin && (c && passes tests a.payload b.payload)) late ∙ none_and (nat_lt a.begin b.begin))
  | inr late ↦ ap (λ c. c && (nat_lt b.begin (later a.begin scope) && passes tests a.payload b.payload)) late
]
  where
    none_and : (b : Bool) → (b && false) ≡ false
    none_and true = refl
    none_and false = refl

-- what a row gives of which a blocker decides is told by weights of the rows that pass the tests with it
freed_sought : (scope hold : ℕ) (tests : List Test) (others : List Row) (b r : Row) → IsSought (λ fields. passes tests fields b.payload) (λ a. count_of r (freed scope hold tests others b a))
freed_sought scope hold tests others b r = record {
  endless = λ a end. refl;
  none = λ a h. ap (λ c. count_of r (cond (c && not (is_blocked_by scope tests others a)) (waited scope hold a) [])) h;
}

-- the rows of which a blocker decides have it in their scope and are beside it
pub decided_beside : (scope hold : ℕ) (tests : List Test) (others : List Row) (b : Row) (kept : List Row) (from : ℕ) (tagged odd : List (Row × ℕ)) → b.begin < FOREVER → from ≡ b.begin + 1 - scope
    → ((weight : Row → ℕ) → IsSought (λ fields. passes tests fields b.payload) weight → sum_by weight (spread tagged) + sum_by weight (spread odd) ≡ sum_by weight (filter (begins_within from b.begin) kept))
    → SameRows (flat_map (freed scope hold tests others b) (spread tagged) ++ flat_map (freed scope hold tests others b) (spread odd)) (decided scope hold tests others b kept)
decided_beside scope hold tests others b kept from tagged odd finite is found = record {
  each = λ r.
      let whole =
      flat_map-filter (freed scope hold tests others b) (only_blocked scope hold tests others b) (begins_within (b.begin + 1 - scope) b.begin) kept
      (λ a inside. freed_cases (passes tests a.payload b.payload) (is_blocked_by scope tests others a) (waited scope hold a) ∙ ap (λ c. cond c (unblocked scope hold tests others a) []) (sym (blocks_inside scope tests a b finite inside)))
      (λ a outside. sym (ap (λ c. cond c (unblocked scope hold tests others a) []) (blocks_outside scope tests a b outside))) in
      let same : count_of r (flat_map (freed scope hold tests others b) (filter (begins_within from b.begin) kept)) ≡ count_of r (decided scope hold tests others b kept) =
      ap (λ (time : ℕ). count_of r (flat_map (freed scope hold tests others b) (filter (begins_within time b.begin) kept))) is ∙ ap (count_of r) whole in
      omega (
        arith,
        count_of-append r (flat_map (freed scope hold tests others b) (spread tagged)) (flat_map (freed scope hold tests others b) (spread odd)),
        sum_by-flat_map (one_if_same r) (freed scope hold tests others b) (spread tagged),
        sum_by-flat_map (one_if_same r) (freed scope hold tests others b) (spread odd),
        found (λ a. count_of r (freed scope hold tests others b a)) (freed_sought scope hold tests others b r),
        sum_by-flat_map (one_if_same r) (freed scope hold tests others b) (filter (begins_within from b.begin) kept),
        same,
      );
}

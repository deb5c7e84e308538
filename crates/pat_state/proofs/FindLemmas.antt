-- Which lists the search for matches makes.
use Rattle.std.proofs.Common.{◌≡◌, ℕ, zero, suc, ◌+◌, ◌-◌, ◌<◌, ◌≤◌, ◌⊎◌, inl, inr, List, [], ◌∷◌, ◌++◌, length, get_or, Option, Bool, true, false, cond, drop, min, refl, ap, sym, ◌∙◌, arith, append_assoc, add-one}
use Rattle.std.specs.Prelude.{map, replicate, nat_lt, nat_le, nat_eq, ◌&&◌, slice_index}
use Rattle.std.specs.List.{flat_map, filter}
use Rattle.std.proofs.Math.Seq.{drop-cons}
use Rattle.std.proofs.lemmas.List.{length-map, get_or-map}
use Rattle.pat_state.specs.declared.keyed.Keyed.{Keyed}
use Rattle.pat_state.specs.Groups.{seen, all_seen}
use Rattle.pat_state.specs.Tags.{has_tag_within}
use Rattle.std.proofs.lemmas.Bool.{ltb-true, ltb-false, leb-false, lt-ltb, le-ltb, and_parts, and_cases, and_left, and_right, ne_eqb, eq-eqb, cases_lt}
use Rattle.cedr_base.specs.declared.field.Field.{Field}
use Rattle.cedr_base.specs.declared.row.Row.{Row}
use Rattle.cedr_table.specs.Operators.{Tables, table_at}
use Rattle.cedr_table.specs.Counted.{spread}
use Rattle.cedr_expr.specs.declared.test.Test.{Test}
use Rattle.cedr_expr.specs.Tests.{passes, may_pass}
use Rattle.pat_state.specs.Starts.{begins_within}
use Rattle.pat_state.proofs.FlatLemmas.{flat_map-filter, no_copies as no_such_copies}
use Rattle.pat_state.specs.Steps.{begun, follows, next_passing, grown, grown_passing, grown_all, near, near_at, firsts, picked, is_match, matches}
use Rattle.pat_state.proofs.MatchLemmas.{longer}
use Rattle.pat_state.proofs.PassingLemmas.{matching_grown}
use Rattle.pat_state.proofs.BoundLemmas.{pruned}

map_copies : (scope count : ℕ) (row : Row) (rows : List Row) → map (begun scope) (replicate count row ++ rows) ≡ replicate count (begun scope row) ++ map (begun scope) rows
map_copies scope zero row rows = refl
map_copies scope (suc count) row rows = ap (λ found. begun scope row ∷ found) (map_copies scope count row rows)

-- one entry more of the first rows
pub begun_step : (scope : ℕ) (found found' all : List Row) (entries entries' : List (Row × ℕ)) (row : Row) (count : ℕ) → entries ≡ (row, count) ∷ entries' → found' ≡ found ++ replicate count (begun scope row)
    → found ++ map (begun scope) (spread entries) ≡ all → found' ++ map (begun scope) (spread entries') ≡ all
begun_step scope found found' all entries entries' row count is pushed so_far =
    ap (λ rows. rows ++ map (begun scope) (spread entries')) pushed
    ∙ (append_assoc found (replicate count (begun scope row)) (map (begun scope) (spread entries'))
    ∙ (ap (λ rows. found ++ rows) (sym (map_copies scope count row (spread entries')) ∙ sym (ap (λ es. map (begun scope) (spread es)) is))
    ∙ so_far))

may_follow : (test : List Field → List Field → Bool) (p r : Row) (b : Bool) → follows test p r ≡ b → next_passing test p r ≡ cond b (longer p r ∷ []) []
may_follow test p r b is = ap {B = List Row} (λ b. cond b (longer p r ∷ []) []) is

-- a row that fails the tests with the row so far isn't the next one
pub fails_none : (test : List Field → List Field → Bool) (p r : Row) → test p.payload r.payload ≡ false → next_passing test p r ≡ []
fails_none test p r h = may_follow test p r false (and_right (nat_lt p.begin r.begin && nat_lt r.begin p.end) (test p.payload r.payload) h)

-- copies of a row that may be the next one
pub next_copies : (test : List Field → List Field → Bool) (p r : Row) (count : ℕ) → follows test p r ≡ true → flat_map (next_passing test p) (replicate count r) ≡ replicate count (longer p r)
next_copies test p r zero may = refl
next_copies test p r (suc count) may = λ i. may_follow test p r true may i ++ next_copies test p r count may i

-- copies of a row that may not be the next one make no longer row so far
pub no_copies : (test : List Field → List Field → Bool) (p r : Row) (count : ℕ) → follows test p r ≡ false → flat_map (next_passing test p) (replicate count r) ≡ []
no_copies test p r count not = no_such_copies (next_passing test p) count r (may_follow test p r false not)

-- near a changed row there are as many tables as ports
pub length-near : (x : Row) (port : ℕ) (ts : Tables) → length (near x port ts) ≡ length ts
length-near x port [] = refl
length-near x zero (t ∷ ts) = refl
length-near x (suc port) (t ∷ ts) = ap (λ n. suc n) (length-near x port ts)

-- what stands for the port of the changed row, for those before it and for those after it
pub near_same : (x : Row) (changed port : ℕ) (ts : Tables) → port ≡ changed → port < length ts → table_at (near x changed ts) port ≡ x ∷ []
near_same x changed port [] same within = absurd (omega arith)
near_same x zero zero (t ∷ ts) same within = refl
near_same x zero (suc port) (t ∷ ts) same within = absurd (omega arith)
near_same x (suc changed) zero (t ∷ ts) same within = absurd (omega arith)
near_same x (suc changed) (suc port) (t ∷ ts) same within = near_same x changed port ts (omega arith) (omega arith)

near_before : (x : Row) (changed port : ℕ) (ts : Tables) → port < changed → table_at (near x changed ts) port ≡ filter (λ r. nat_lt r.begin x.begin) (table_at ts port)
near_before x changed port [] before = refl
near_before x zero port (t ∷ ts) before = absurd (omega arith)
near_before x (suc changed) zero (t ∷ ts) before = refl
near_before x (suc changed) (suc port) (t ∷ ts) before = near_before x changed port ts (omega arith)

near_behind : (x : Row) (changed port : ℕ) (ts : Tables) → changed < port → table_at (near x changed ts) port ≡ table_at ts port
near_behind x changed port [] behind = refl
near_behind x changed zero (t ∷ ts) behind = absurd (omega arith)
near_behind x zero (suc port) (t ∷ ts) behind = refl
near_behind x (suc changed) (suc port) (t ∷ ts) behind = near_behind x changed port ts (omega arith)

-- a row that isn't later or isn't within the scope can't be the next one, whatever the tests say
passing_none : (test : List Field → List Field → Bool) (p r : Row) → (r.begin ≤ p.begin) ⊎ (p.end ≤ r.begin) → next_passing test p r ≡ []
passing_none test p r (inl early) =
    may_follow test p r false (and_left (nat_lt p.begin r.begin && nat_lt r.begin p.end) (test p.payload r.payload) (and_left (nat_lt p.begin r.begin) (nat_lt r.begin p.end) (le-ltb p.begin r.begin early)))
passing_none test p r (inr late) =
    may_follow test p r false (and_left (nat_lt p.begin r.begin && nat_lt r.begin p.end) (test p.payload r.payload) (and_right (nat_lt p.begin r.begin) (nat_lt r.begin p.end) (le-ltb r.begin p.end late)))

-- nor can one that doesn't begin within the row so far's times
pub outside : (test : List Field → List Field → Bool) (p r : Row) → begins_within p.begin p.end r ≡ false → next_passing test p r ≡ []
outside test p r h = elim (and_cases (nat_le p.begin r.begin) (nat_lt r.begin p.end) h) [
  | inl early ↦ let before = leb-false p.begin r.begin early in passing_none test p r (inl (omega arith))
  | inr late ↦ passing_none test p r (inr (ltb-false r.begin p.end late))
]

near_cond : (x : Row) (rows : List Row) (place changed : ℕ) (b c : Bool) → nat_eq place changed ≡ b → nat_lt place changed ≡ c → near_at x changed place rows ≡ cond b (x ∷ []) (cond c (filter (λ r. nat_lt r.begin x.begin) rows) rows)
near_cond x rows place changed b c same less = λ i. cond {A = List Row} (same i) (x ∷ []) (cond (less i) (filter (λ r. nat_lt r.begin x.begin) rows) rows)

-- what stands for the rows of a place: on the changed row's own, before it and after it
pub at_same : (x : Row) (changed place : ℕ) (rows : List Row) → place ≡ changed → near_at x changed place rows ≡ x ∷ []
at_same x changed place rows same = near_cond x rows place changed true (nat_lt place changed) (eq-eqb place changed same) refl

at_before : (x : Row) (changed place : ℕ) (rows : List Row) → place < changed → near_at x changed place rows ≡ filter (λ r. nat_lt r.begin x.begin) rows
at_before x changed place rows less = near_cond x rows place changed false true (ne_eqb place changed (λ e. omega arith)) (lt-ltb place changed less)

at_behind : (x : Row) (changed place : ℕ) (rows : List Row) → changed < place → near_at x changed place rows ≡ rows
at_behind x changed place rows more = near_cond x rows place changed false false (ne_eqb place changed (λ e. omega arith)) (le-ltb place changed (omega arith))

-- it is the table of the place near the changed row
pub near_table : (x : Row) (changed place : ℕ) (ts : Tables) → place < length ts → table_at (near x changed ts) place ≡ near_at x changed place (table_at ts place)
near_table x changed place ts within = elim (cases_lt place changed) [
  | inl less ↦ near_before x changed place ts less ∙ sym (at_before x changed place (table_at ts place) less)
  | inr upto ↦ elim (cases_lt changed place) [
    | inl more ↦ near_behind x changed place ts more ∙ sym (at_behind x changed place (table_at ts place) more)
    | inr not_more ↦ (let same : place ≡ changed = omega arith in near_same x changed place ts same within ∙ sym (at_same x changed place (table_at ts place) same))
  ]
]

-- after the changed row's place, the rows within the scope are all that may be the next ones
pub behind_rows : (test : List Field → List Field → Bool) (x p : Row) (changed place : ℕ) (rows : List Row) → changed < place → flat_map (next_passing test p) (filter (begins_within p.begin p.end) rows) ≡ flat_map (next_passing test p) (near_at x changed place rows)
behind_rows test x p changed place rows behind =
    flat_map-filter (next_passing test p) (next_passing test p) (begins_within p.begin p.end) rows (λ r may. refl) (λ r not. sym (outside test p r not))
    ∙ ap (flat_map (next_passing test p)) (sym (at_behind x changed place rows behind))

outside_both : (test : List Field → List Field → Bool) (x p r : Row) (b : Bool) → nat_lt r.begin x.begin ≡ b → begins_within p.begin (min p.end x.begin) r ≡ false → [] ≡ cond b (next_passing test p r) []
outside_both test x p r false is h = refl
outside_both test x p r true is h =
    let early = ltb-true r.begin x.begin is in
    elim (and_cases (nat_le p.begin r.begin) (nat_lt r.begin (min p.end x.begin)) h) [
      | inl low ↦ let before = leb-false p.begin r.begin low in sym (passing_none test p r (inl (omega arith)))
      | inr high ↦ let late = ltb-false r.begin (min p.end x.begin) high in sym (passing_none test p r (inr (omega arith)))
    ]

inside_both : (test : List Field → List Field → Bool) (x p r : Row) → begins_within p.begin (min p.end x.begin) r ≡ true → next_passing test p r ≡ cond (nat_lt r.begin x.begin) (next_passing test p r) []
inside_both test x p r h =
    let below = ltb-true r.begin (min p.end x.begin) (and_parts (nat_le p.begin r.begin) (nat_lt r.begin (min p.end x.begin)) h).1 in
    sym (ap (λ b. cond b (next_passing test p r) []) (lt-ltb r.begin x.begin (omega arith)))

-- before it, so are those that begin before the changed row
pub before_rows : (test : List Field → List Field → Bool) (x p : Row) (changed place before : ℕ) (rows : List Row) → before ≡ min p.end x.begin → place < changed
    → flat_map (next_passing test p) (filter (begins_within p.begin before) rows) ≡ flat_map (next_passing test p) (near_at x changed place rows)
before_rows test x p changed place before rows least early =
    let both = λ (r : Row). cond (nat_lt r.begin x.begin) (next_passing test p r) [] in
    ap (λ (time : ℕ). flat_map (next_passing test p) (filter (begins_within p.begin time) rows)) least
    ∙ (flat_map-filter (next_passing test p) both (begins_within p.begin (min p.end x.begin)) rows (λ r may. inside_both test x p r may) (λ r not. outside_both test x p r (nat_lt r.begin x.begin) refl not)
    ∙ (sym (flat_map-filter (next_passing test p) both (λ r. nat_lt r.begin x.begin) rows (λ r may. sym (ap (λ b. cond b (next_passing test p r) []) may)) (λ r not. sym (ap (λ b. cond b (next_passing test p r) []) not)))
    ∙ ap (flat_map (next_passing test p)) (sym (at_before x changed place rows early))))

-- one port more, where what can't pass the tests goes
pub grown_step : (tests : List Test) (so_far found : List Row) (port : ℕ) (us : Tables) (all : List Row) → port < length us → found ≡ grown_passing (may_pass tests) so_far (table_at us port)
    → filter (is_match tests) (grown_all so_far (drop port us)) ≡ all → filter (is_match tests) (grown_all found (drop (port + 1) us)) ≡ all
grown_step tests so_far found port us all within is was =
    ap (λ rows. filter (is_match tests) (grown_all rows (drop (port + 1) us))) is
    ∙ (pruned tests so_far (table_at us port) (drop (port + 1) us)
    ∙ (ap (λ n. filter (is_match tests) (grown_all (grown so_far (table_at us port)) (drop n us))) (add-one port)
    ∙ (sym (ap (λ (vs : Tables). filter (is_match tests) (grown_all so_far vs)) (drop-cons us port [] within)) ∙ was)))

-- the last port
grown_last : (so_far : List Row) (port : ℕ) (us : Tables) → length us ≡ port + 1 → grown_all so_far (drop port us) ≡ grown so_far (table_at us port)
grown_last so_far port [] last = absurd (omega arith)
grown_last so_far zero (u ∷ []) last = refl
grown_last so_far zero (u ∷ v ∷ us) last = absurd (omega arith)
grown_last so_far (suc port) (u ∷ us) last = grown_last so_far port us (omega arith)

-- the bag at a port
bag_at : (ts : Tables) (port : ℕ) (bag : List Row) → port < length ts → bag ≡ get_or ts port bag → bag ≡ table_at ts port
bag_at [] port bag within is = absurd (omega arith)
bag_at (t ∷ ts) zero bag within is = is
bag_at (t ∷ ts) (suc port) bag within is = bag_at ts port bag (omega arith) is

-- the table of a place among some ports is that of the port there
pub picked_at : (order : List ℕ) (ts : Tables) (place : ℕ) → place < length order → table_at (picked order ts) place ≡ table_at ts (slice_index order place)
picked_at [] ts place within = absurd (omega arith)
picked_at (port ∷ order) ts zero within = refl
picked_at (port ∷ order) ts (suc place) within = picked_at order ts place (omega arith)

-- there are as many tables of some ports as ports
pub length-picked : (order : List ℕ) (ts : Tables) → length (picked order ts) ≡ length order
length-picked [] ts = refl
length-picked (port ∷ order) ts = ap (λ n. suc n) (length-picked order ts)

-- the bag of the port at a place
pub picked_bag : (order : List ℕ) (ts : Tables) (place port : ℕ) (bag : List Row) → place < length order → port ≡ slice_index order place → port < length ts → bag ≡ get_or ts port bag → bag ≡ table_at (picked order ts) place
picked_bag order ts place port bag within here there is = bag_at ts port bag there is ∙ (ap (table_at ts) here ∙ sym (picked_at order ts place within))

-- near a changed row, what stands for the bag of the port at a place
pub near_bag : (order : List ℕ) (ts : Tables) (x : Row) (changed place port : ℕ) (bag : List Row) → place < length order → port ≡ slice_index order place → port < length ts → bag ≡ get_or ts port bag
    → near_at x changed place bag ≡ table_at (near x changed (picked order ts)) place
near_bag order ts x changed place port bag within here there is =
    ap (near_at x changed place) (picked_bag order ts place port bag within here there is)
    ∙ sym (near_table x changed place (picked order ts) (omega (arith, within, length-picked order ts)))

-- the first rows of a port that has nothing before it
pub firsts_later : (scope : ℕ) (x : Row) (port : ℕ) (rows : List Row) → (port ≡ 0 → ⊥) → firsts scope x port rows ≡ filter (begins_within (x.begin + 1 - scope) x.begin) rows
firsts_later scope x port rows later = ap (λ b. cond b (x ∷ []) (filter (begins_within (x.begin + 1 - scope) x.begin) rows)) (ne_eqb port 0 later)

-- what the search ends with: the rows that pass the tests on the last port
pub found_is : (scope : ℕ) (tests : List Test) (x : Row) (changed last : ℕ) (ts : Tables) (rows found : List Row) → length ts ≡ last + 1
    → filter (is_match tests) (grown_all rows (drop last (near x changed ts))) ≡ matches scope tests x changed ts
    → found ≡ grown_passing (passes tests) rows (table_at (near x changed ts) last) → found ≡ matches scope tests x changed ts
found_is scope tests x changed last ts rows found size was is =
    is
    ∙ (sym (matching_grown tests rows (table_at (near x changed ts) last))
    ∙ (ap (filter (is_match tests)) (sym (grown_last rows last (near x changed ts) (length-near x changed ts ∙ size))) ∙ was))

-- the choices of one port
pub alone_is : (scope : ℕ) (tests : List Test) (x : Row) (changed : ℕ) (order : List ℕ) (ts : Tables) (found : List Row) → length order ≡ 1 → changed < length order → found ≡ filter (is_match tests) (begun scope x ∷ []) → found ≡ matches scope tests x changed (picked order ts)
alone_is scope tests x changed [] ts found one within is = absurd (omega arith)
alone_is scope tests x zero (port ∷ []) ts found one within is = is
alone_is scope tests x (suc changed) (port ∷ []) ts found one within is = absurd (omega arith)
alone_is scope tests x changed (port ∷ q ∷ qs) ts found one within is = absurd (omega arith)

-- the same where the rows of a port are seen by a tag
pub near_seen : (tag : Option ℕ) (order : List ℕ) (ports : List Keyed) (x : Row) (changed place port : ℕ) (bag : Keyed) → place < length order → port ≡ slice_index order place → port < length ports → bag ≡ get_or ports port bag
    → near_at x changed place (seen tag bag) ≡ table_at (near x changed (picked order (all_seen tag ports))) place
near_seen tag order ports x changed place port bag within here there is =
    near_bag order (all_seen tag ports) x changed place port (seen tag bag) within here (omega (arith, there, length-map ports (seen tag))) (ap (seen tag) is ∙ sym (get_or-map (seen tag) ports port bag (seen tag bag) there))

pub picked_seen : (tag : Option ℕ) (order : List ℕ) (ports : List Keyed) (place port : ℕ) (bag : Keyed) → place < length order → port ≡ slice_index order place → port < length ports → bag ≡ get_or ports port bag → seen tag bag ≡ table_at (picked order (all_seen tag ports)) place
picked_seen tag order ports place port bag within here there is =
    picked_bag order (all_seen tag ports) place port (seen tag bag) within here (omega (arith, there, length-map ports (seen tag))) (ap (seen tag) is ∙ sym (get_or-map (seen tag) ports port bag (seen tag bag) there))

filter_twice : (p q : Row → Bool) (xs : List Row) → filter p (filter q xs) ≡ filter (λ x. q x && p x) xs
filter_twice p q [] = refl
filter_twice p q (x ∷ xs) = at (q x) (filter_twice p q xs) where
  at : (b : Bool) → filter p (filter q xs) ≡ filter (λ y. q y && p y) xs → filter p (cond b (x ∷ filter q xs) (filter q xs)) ≡ cond (b && p x) (x ∷ filter (λ y. q y && p y) xs) (filter (λ y. q y && p y) xs)
  at true rest = ap (λ ys. cond (p x) (x ∷ ys) ys) rest
  at false rest = rest

-- the rows with a tag that begin within some times
pub seen_within : (tag from before : ℕ) (tags : List Row) → filter (has_tag_within tag from before) tags ≡ filter (begins_within from before) (filter (λ r. nat_eq r.end tag) tags)
seen_within tag from before tags = sym (filter_twice (begins_within from before) (λ r. nat_eq r.end tag) tags)

-- The rows that are found port by port are those of the choices.
use Rattle.std.proofs.Common.{◌≡◌, ℕ, zero, suc, ◌+◌, ◌-◌, ◌<◌, ◌≤◌, ◌⊎◌, inl, inr, List, [], ◌∷◌, ◌++◌, length, Bool, true, false, cond, refl, ap, sym, ◌∙◌, subst, arith, append_assoc}
use Rattle.std.specs.Prelude.{map, nat_lt, nat_le, ◌&&◌}
use Rattle.std.specs.List.{flat_map, filter}
use Rattle.std.proofs.lemmas.Bool.{ltb-true, ltb-false, leb-false, le-ltb, and_parts, and_cases, and_left, and_right, cases_lt, ne_eqb}
use Rattle.std.proofs.lemmas.List.{append-nil}
use Rattle.cedr_base.specs.declared.time.TheConstants.{FOREVER}
use Rattle.cedr_base.specs.declared.row.Row.{Row}
use Rattle.change_laws.specs.Times.{later}
use Rattle.cedr_table.specs.Operators.{Tables, with_table}
use Rattle.cedr_table.specs.Choices.{choices, chosen}
use Rattle.cedr_expr.specs.declared.test.Test.{Test}
use Rattle.cedr_expr.specs.Tests.{passes}
use Rattle.pat_state.specs.Starts.{begins_within}
use Rattle.pat_state.proofs.FlatLemmas.{flat_map-like, flat_map-map, flat_map-twice, flat_map-none, flat_map-filter}
use Rattle.pat_state.proofs.AnswerLemmas.{AllLate, ahead-append, ahead-flat_map}
use Rattle.pat_state.specs.Ascending.{ascends, last_begin, payloads_joined, sequence}
use Rattle.pat_state.specs.Steps.{begun, next, grown, grown_all, is_match, near, matches}

-- the choices by the first port's row
pub chosen-cons : (f : List Row → List Row) (t : List Row) (ts : Tables) → chosen f (t ∷ ts) ≡ flat_map (λ r. chosen (λ rs. f (r ∷ rs)) ts) t
chosen-cons f t ts =
    flat_map-twice f (λ r. map (λ rs. r ∷ rs) (choices ts)) t
    ∙ flat_map-like _ _ t (λ r. flat_map-map f (λ rs. r ∷ rs) (choices ts))

-- the row of a choice of which the first rows are a row so far
abbrev pub completed : List Test → Row → List Row → List Row
completed tests p rs = cond (ascends p.begin p.end rs && passes tests (p.payload ++ payloads_joined rs) []) (record { end = p.end; begin = last_begin p.begin rs; payload = p.payload ++ payloads_joined rs } ∷ []) []

abbrev pub completions : List Test → Tables → Row → List Row
completions tests ts p = chosen (completed tests p) ts

-- nothing ascends from a limit on
shut : (after limit : ℕ) (rs : List Row) → limit ≤ after → ascends after limit rs ≡ false
shut after limit [] h = le-ltb after limit h
shut after limit (e ∷ es) h = elim (cases_lt after e.begin) [
  | inl more ↦ and_right (nat_lt after e.begin) (ascends e.begin limit es) (shut e.begin limit es (omega arith))
  | inr less ↦ and_left (nat_lt after e.begin) (ascends e.begin limit es) (le-ltb after e.begin less)
]

shut_next : (p r : Row) (rs : List Row) → (nat_lt p.begin r.begin && nat_lt r.begin p.end) ≡ false → ascends p.begin p.end (r ∷ rs) ≡ false
shut_next p r rs h = elim (and_cases (nat_lt p.begin r.begin) (nat_lt r.begin p.end) h) [
  | inl early ↦ and_left (nat_lt p.begin r.begin) (ascends r.begin p.end rs) early
  | inr late ↦ and_right (nat_lt p.begin r.begin) (ascends r.begin p.end rs) (shut r.begin p.end rs (ltb-false r.begin p.end late))
]

-- the row so far with one row more
abbrev pub longer : Row → Row → Row
longer p r = record { end = p.end; begin = r.begin; payload = p.payload ++ r.payload }

one_longer : (tests : List Test) (p r : Row) (rs : List Row) → nat_lt p.begin r.begin ≡ true → completed tests (longer p r) rs ≡ completed tests p (r ∷ rs)
one_longer tests p r rs rises =
    let both = append_assoc p.payload r.payload (payloads_joined rs) in
    λ i. cond ((sym rises i && ascends r.begin p.end rs) && passes tests (both i) []) (record { end = p.end; begin = last_begin r.begin rs; payload = both i } ∷ []) []

completed_none : (tests : List Test) (p : Row) (rs : List Row) → ascends p.begin p.end rs ≡ false → completed tests p rs ≡ []
completed_none tests p rs h = ap (λ b. cond b (record { end = p.end; begin = last_begin p.begin rs; payload = p.payload ++ payloads_joined rs } ∷ []) []) (and_left (ascends p.begin p.end rs) (passes tests (p.payload ++ payloads_joined rs) []) h)

next_completes_at : (tests : List Test) (p r : Row) (ts : Tables) (b : Bool) → (nat_lt p.begin r.begin && nat_lt r.begin p.end) ≡ b → flat_map (completions tests ts) (cond b (longer p r ∷ []) []) ≡ chosen (λ rs. completed tests p (r ∷ rs)) ts
next_completes_at tests p r ts true h =
    append-nil (completions tests ts (longer p r))
    ∙ flat_map-like (completed tests (longer p r)) (λ rs. completed tests p (r ∷ rs)) (choices ts) (λ rs. one_longer tests p r rs (and_parts (nat_lt p.begin r.begin) (nat_lt r.begin p.end) h).0)
next_completes_at tests p r ts false h = sym (flat_map-none (λ rs. completed tests p (r ∷ rs)) (choices ts) (λ rs. completed_none tests p (r ∷ rs) (shut_next p r rs h)))

-- a choice goes on with a row where the row may be the next one
next_completes : (tests : List Test) (p r : Row) (ts : Tables) → flat_map (completions tests ts) (next p r) ≡ chosen (λ rs. completed tests p (r ∷ rs)) ts
next_completes tests p r ts = next_completes_at tests p r ts (nat_lt p.begin r.begin && nat_lt r.begin p.end) refl

-- the choices that go on from a row so far, by the next row
completions-cons : (tests : List Test) (p : Row) (t : List Row) (ts : Tables) → completions tests (t ∷ ts) p ≡ flat_map (λ r. flat_map (completions tests ts) (next p r)) t
completions-cons tests p t ts = chosen-cons (completed tests p) t ts ∙ flat_map-like _ _ t (λ r. sym (next_completes tests p r ts))

one_kept : (b : Bool) (p : Row) (rest : List Row) → cond b (p ∷ rest) rest ≡ cond b (p ∷ []) [] ++ rest
one_kept true p rest = refl
one_kept false p rest = refl

-- a choice that goes on with nothing
finished_one : (tests : List Test) (p : Row) → cond (is_match tests p) (p ∷ []) [] ≡ completions tests [] p
finished_one tests p =
    let same = append-nil p.payload in
    (λ i. cond (nat_lt p.begin p.end && passes tests (sym same i) []) (record { end = p.end; begin = p.begin; payload = sym same i } ∷ []) [])
    ∙ sym (append-nil (completed tests p []))

finished : (tests : List Test) (ps : List Row) → filter (is_match tests) ps ≡ flat_map (completions tests []) ps
finished tests [] = refl
finished tests (p ∷ ps) = one_kept (is_match tests p) p (filter (is_match tests) ps) ∙ (λ i. finished_one tests p i ++ finished tests ps i)

-- the rows that grow port by port are those of the choices that go on from the first ones
pub grown_complete : (tests : List Test) (ts : Tables) (ps : List Row) → filter (is_match tests) (grown_all ps ts) ≡ flat_map (completions tests ts) ps
grown_complete tests [] ps = finished tests ps
grown_complete tests (t ∷ ts) ps =
    grown_complete tests ts (grown ps t)
    ∙ (flat_map-twice (completions tests ts) (λ p. flat_map (next p) t) ps
    ∙ flat_map-like _ _ ps (λ p. flat_map-twice (completions tests ts) (next p) t ∙ sym (completions-cons tests p t ts)))

-- a row that isn't later or isn't within the scope isn't the next one
pub next_none : (p x : Row) → (x.begin ≤ p.begin) ⊎ (p.end ≤ x.begin) → next p x ≡ []
next_none p x (inl early) = ap {B = List Row} (λ b. cond b (longer p x ∷ []) []) (and_left (nat_lt p.begin x.begin) (nat_lt x.begin p.end) (le-ltb p.begin x.begin early))
next_none p x (inr late) = ap {B = List Row} (λ b. cond b (longer p x ∷ []) []) (and_right (nat_lt p.begin x.begin) (nat_lt x.begin p.end) (le-ltb x.begin p.end late))

-- a later row so far is as far from another row as the earlier one
still_stuck : (p r x : Row) → (nat_lt p.begin r.begin && nat_lt r.begin p.end) ≡ true → (x.begin ≤ p.begin) ⊎ (p.end ≤ x.begin) → (x.begin ≤ r.begin) ⊎ (p.end ≤ x.begin)
still_stuck p r x h (inl early) = let rises = ltb-true p.begin r.begin (and_parts (nat_lt p.begin r.begin) (nat_lt r.begin p.end) h).0 in inl (omega arith)
still_stuck p r x h (inr late) = inr late

none_next : (tests : List Test) (p r : Row) (us : Tables) (b : Bool) → (b ≡ true → completions tests us (longer p r) ≡ []) → flat_map (completions tests us) (cond b (longer p r ∷ []) []) ≡ []
none_next tests p r us true none = append-nil (completions tests us (longer p r)) ∙ none refl
none_next tests p r us false none = refl

-- no choice goes on to a row that isn't later or isn't within the scope
stuck : (tests : List Test) (x : Row) (port : ℕ) (ts : Tables) (p : Row) → port < length ts → (x.begin ≤ p.begin) ⊎ (p.end ≤ x.begin) → completions tests (with_table ts port (x ∷ [])) p ≡ []
stuck tests x port [] p within h = absurd (omega arith)
stuck tests x zero (t ∷ ts) p within h = completions-cons tests p (x ∷ []) ts ∙ (append-nil (flat_map (completions tests ts) (next p x)) ∙ ap (flat_map (completions tests ts)) (next_none p x h))
stuck tests x (suc port) (t ∷ ts) p within h =
    completions-cons tests p t (with_table ts port (x ∷ []))
    ∙ flat_map-none _ t (λ r. none_next tests p r (with_table ts port (x ∷ [])) (nat_lt p.begin r.begin && nat_lt r.begin p.end) (λ rises. stuck tests x port ts (longer p r) (omega arith) (still_stuck p r x rises h)))

like_next : (tests : List Test) (p r : Row) (us vs : Tables) (b : Bool) → (b ≡ true → completions tests us (longer p r) ≡ completions tests vs (longer p r)) → flat_map (completions tests us) (cond b (longer p r ∷ []) []) ≡ flat_map (completions tests vs) (cond b (longer p r ∷ []) [])
like_next tests p r us vs true same = ap (λ rows. rows ++ []) (same refl)
like_next tests p r us vs false same = refl

-- of the ports before a changed row only the rows that begin before it count
near_is : (tests : List Test) (x : Row) (port : ℕ) (ts : Tables) (p : Row) → port < length ts → completions tests (near x port ts) p ≡ completions tests (with_table ts port (x ∷ [])) p
near_is tests x port [] p within = absurd (omega arith)
near_is tests x zero (t ∷ ts) p within = refl
near_is tests x (suc port) (t ∷ ts) p within =
    completions-cons tests p (filter (λ r. nat_lt r.begin x.begin) t) (near x port ts)
    ∙ (flat_map-filter (λ r. flat_map (completions tests (near x port ts)) (next p r)) (λ r. flat_map (completions tests (with_table ts port (x ∷ []))) (next p r)) (λ r. nat_lt r.begin x.begin) t
    (λ r early. like_next tests p r (near x port ts) (with_table ts port (x ∷ [])) (nat_lt p.begin r.begin && nat_lt r.begin p.end) (λ rises. near_is tests x port ts (longer p r) (omega arith)))
    (λ r late. sym (none_next tests p r (with_table ts port (x ∷ [])) (nat_lt p.begin r.begin && nat_lt r.begin p.end) (λ rises. stuck tests x port ts (longer p r) (omega arith) (inl (ltb-false r.begin x.begin late)))))
    ∙ sym (completions-cons tests p t (with_table ts port (x ∷ []))))

-- a first row that isn't near the changed one doesn't have it in its scope
far : (scope : ℕ) (x r : Row) → begins_within (x.begin + 1 - scope) x.begin r ≡ false → (x.begin ≤ r.begin) ⊎ (later r.begin scope ≤ x.begin)
far scope x r h = elim (and_cases (nat_le (x.begin + 1 - scope) r.begin) (nat_lt r.begin x.begin) h) [
  | inl early ↦ let before = leb-false (x.begin + 1 - scope) r.begin early in inr (omega arith)
  | inr late ↦ inl (ltb-false r.begin x.begin late)
]

-- what is found port by port are the rows of the choices with the changed row
pub matches_are : (scope : ℕ) (tests : List Test) (x : Row) (port : ℕ) (tables : Tables) → port < length tables → matches scope tests x port tables ≡ chosen (sequence scope tests) (with_table tables port (x ∷ []))
matches_are scope tests x port [] within = absurd (omega arith)
matches_are scope tests x zero (t ∷ ts) within =
    grown_complete tests ts (begun scope x ∷ [])
    ∙ sym (chosen-cons (sequence scope tests) (x ∷ []) ts)
matches_are scope tests x (suc port) (t ∷ ts) within =
    let first = filter (begins_within (x.begin + 1 - scope) x.begin) t in
    ap (λ b. filter (is_match tests) (grown_all (map (begun scope) (cond b (x ∷ []) first)) (near x port ts))) (ne_eqb (suc port) 0 (λ none. omega arith))
    ∙ (grown_complete tests (near x port ts) (map (begun scope) first)
    ∙ (flat_map-map (completions tests (near x port ts)) (begun scope) first
    ∙ (flat_map-filter (λ r. completions tests (near x port ts) (begun scope r)) (λ r. completions tests (with_table ts port (x ∷ [])) (begun scope r)) (begins_within (x.begin + 1 - scope) x.begin) t
    (λ r is. near_is tests x port ts (begun scope r) (omega arith))
    (λ r not. sym (stuck tests x port ts (begun scope r) (omega arith) (far scope x r not)))
    ∙ sym (chosen-cons (sequence scope tests) t (with_table ts port (x ∷ []))))))

record IsBetween (after limit last : ℕ) : Type 0 where
  from : after ≤ last
  below : last < limit

ascends_to : (after limit : ℕ) (rs : List Row) → ascends after limit rs ≡ true → IsBetween after limit (last_begin after rs)
ascends_to after limit [] h = record { from = omega arith; below = ltb-true after limit h }
ascends_to after limit (e ∷ es) h =
    let both = and_parts (nat_lt after e.begin) (ascends e.begin limit es) h in
    let rest = ascends_to e.begin limit es both.1 in
    let rises = ltb-true after e.begin both.0 in
    record { from = (let f = rest.from in omega arith); below = rest.below }

ahead_one : (p : Row) (rs : List Row) (row : Row) (b : Bool) → row.end ≡ p.end → row.begin ≡ last_begin p.begin rs → p.end ≤ FOREVER → (b ≡ true → IsBetween p.begin p.end (last_begin p.begin rs)) → AllLate p.begin (cond b (row ∷ []) [])
ahead_one p rs row true ends begins time is =
    let between = is refl in
    let from = between.from in
    let below = between.below in
    ((record { lives = omega arith; begins = omega arith; ends = omega arith }, omega arith), tt)
ahead_one p rs row false ends begins time is = tt

-- the rows of choices that go on from a row so far don't begin before it
ahead_completions : (tests : List Test) (p : Row) (ts : Tables) → p.end ≤ FOREVER → AllLate p.begin (completions tests ts p)
ahead_completions tests p ts time = ahead-flat_map p.begin (completed tests p) (choices ts) (λ rs. ahead_one p rs _ (ascends p.begin p.end rs && passes tests (p.payload ++ payloads_joined rs) []) refl refl time
    (λ both. ascends_to p.begin p.end rs (and_parts (ascends p.begin p.end rs) (passes tests (p.payload ++ payloads_joined rs) []) both).0))

ahead_next : (t : ℕ) (tests : List Test) (p r : Row) (us : Tables) (b : Bool) → AllLate t (completions tests us (longer p r)) → AllLate t (flat_map (completions tests us) (cond b (longer p r ∷ []) []))
ahead_next t tests p r us true late = ahead-append t (completions tests us (longer p r)) [] late tt
ahead_next t tests p r us false late = tt

-- nor before a changed row among theirs
ahead_changed : (tests : List Test) (x : Row) (port : ℕ) (ts : Tables) (p : Row) → port < length ts → p.end ≤ FOREVER → AllLate x.begin (completions tests (with_table ts port (x ∷ [])) p)
ahead_changed tests x port [] p within time = absurd (omega arith)
ahead_changed tests x zero (t ∷ ts) p within time =
    subst (AllLate x.begin) (sym (completions-cons tests p (x ∷ []) ts))
    (ahead-append x.begin (flat_map (completions tests ts) (next p x)) [] (ahead_next x.begin tests p x ts (nat_lt p.begin x.begin && nat_lt x.begin p.end) (ahead_completions tests (longer p x) ts time)) tt)
ahead_changed tests x (suc port) (t ∷ ts) p within time =
    subst (AllLate x.begin) (sym (completions-cons tests p t (with_table ts port (x ∷ []))))
    (ahead-flat_map x.begin (λ r. flat_map (completions tests (with_table ts port (x ∷ []))) (next p r)) t
    (λ r. ahead_next x.begin tests p r (with_table ts port (x ∷ [])) (nat_lt p.begin r.begin && nat_lt r.begin p.end) (ahead_changed tests x port ts (longer p r) (omega arith) time)))

-- the rows of the choices with a changed row don't begin before it
pub ahead_matches : (scope : ℕ) (tests : List Test) (x : Row) (port : ℕ) (tables : Tables) → port < length tables → AllLate x.begin (chosen (sequence scope tests) (with_table tables port (x ∷ [])))
ahead_matches scope tests x port [] within = absurd (omega arith)
ahead_matches scope tests x zero (t ∷ ts) within =
    subst (AllLate x.begin) (sym (chosen-cons (sequence scope tests) (x ∷ []) ts))
    (ahead-append x.begin (completions tests ts (begun scope x)) [] (ahead_completions tests (begun scope x) ts (omega arith)) tt)
ahead_matches scope tests x (suc port) (t ∷ ts) within =
    subst (AllLate x.begin) (sym (chosen-cons (sequence scope tests) t (with_table ts port (x ∷ []))))
    (ahead-flat_map x.begin (λ r. completions tests (with_table ts port (x ∷ [])) (begun scope r)) t (λ r. ahead_changed tests x port ts (begun scope r) (omega arith) (omega arith)))

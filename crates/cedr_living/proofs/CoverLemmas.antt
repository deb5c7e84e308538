-- A time is in a piece of a life exactly where the life lives at it.
use Rattle.std.proofs.Common.{◌≡◌, ℕ, suc, zero, ◌+◌, ◌-◌, ◌/◌, ◌%◌, ◌<◌, ◌≤◌, ◌⊎◌, inl, inr, Bool, true, false, cond, refl, ap, sym, ◌∙◌, arith}
use Rattle.std.specs.Prelude.{nat_eq, nat_le, nat_lt, ◌&&◌}
use Rattle.std.proofs.lemmas.Bool.{cases_lt, lt-ltb, le-ltb, eq-eqb, eqb-true, eqb-false, ltb-true}
use Rattle.std.proofs.lemmas.Bool.Decides.{nat_tests}
use Rattle.cedr_base.specs.declared.time.TheConstants.{FOREVER}
use Rattle.cedr_living.specs.Lives.{Living, is_living_at}
use Rattle.cedr_living.specs.Pieces.{halved, half_up, one_if, odd_edge, pieces, steps, open_pieces, is_rest, pieces_of, rests_of, seen_piece}
use Rattle.cedr_living.specs.CompareLaws.{both_true}
use Rattle.cedr_living.proofs.CutLemmas.{pieces_here, pieces_above, steps_above, steps_here, rest_above, few_not_many}

one_if_at : (piece at : ℕ) (x y : Bool) → nat_eq piece at ≡ y → 0 < cond {A = ℕ} (x && y) 1 0 → (x ≡ true) × (piece ≡ at)
one_if_at piece at true true h some = (refl, eqb-true piece at h)
one_if_at piece at true false h some = absurd (omega arith)
one_if_at piece at false y h some = absurd (omega arith)

-- what a piece that is one has
one_if_is : (there : Bool) (piece at : ℕ) → 0 < one_if there piece at → (there ≡ true) × (piece ≡ at)
one_if_is there piece at some = one_if_at piece at there (nat_eq piece at) refl some

-- a piece that is one
one_if_one : (there : Bool) (piece at : ℕ) → there ≡ true → piece ≡ at → one_if there piece at ≡ 1
one_if_one there piece at h same = ap {B = ℕ} (λ x. cond (x && nat_eq piece at) 1 0) h ∙ ap {B = ℕ} (λ y. cond y 1 0) (eq-eqb piece at same)

edge_at : (edge piece at : ℕ) (x y : Bool) → nat_eq (edge % 2) 1 ≡ x → nat_eq piece at ≡ y → (cond {A = ℕ} (x && y) 1 0 ≡ 1) ⊎ (edge % 2 ≡ 1 → piece ≡ at → ⊥)
edge_at edge piece at true true h k = inl refl
edge_at edge piece at true false h k = inr (λ odd same. eqb-false piece at k same)
edge_at edge piece at false y h k = inr (λ odd same. eqb-false (edge % 2) 1 h odd)

-- an odd edge has a piece that a time is in, or else the time isn't in it
edge_or_not : (edge piece at : ℕ) → (odd_edge edge piece at ≡ 1) ⊎ (edge % 2 ≡ 1 → piece ≡ at → ⊥)
edge_or_not edge piece at = edge_at edge piece at (nat_eq (edge % 2) 1) (nat_eq piece at) refl refl

-- a life that lives at a time after its first piece lives at it in units of the next level
half_begin : (b t : ℕ) → b ≤ t → (b % 2 ≡ 1 → b ≡ t → ⊥) → half_up b ≤ t / 2
half_begin b t from other = elim (cases_lt b t) [
  | inl less ↦ omega arith
  | inr not_less ↦ elim (cases_lt 0 (b % 2)) [
    | inl odd ↦ absurd (other (omega arith) (omega arith))
    | inr even ↦ omega arith
  ]
]

half_end : (e t : ℕ) → t < e → (e % 2 ≡ 1 → e - 1 ≡ t → ⊥) → t / 2 < e / 2
half_end e t before other = elim (cases_lt (t + 1) e) [
  | inl less ↦ omega arith
  | inr not_less ↦ elim (cases_lt 0 (e % 2)) [
    | inl odd ↦ absurd (other (omega arith) (omega arith))
    | inr even ↦ omega arith
  ]
]

record IsInPiece (t begin end : ℕ) : Type 0 where
  level : ℕ
  there : 0 < pieces level begin end (halved level t)

-- a life that lives at a time has a piece which that time is in
in_piece : (room t begin end : ℕ) → end ≤ room → begin ≤ t → t < end → IsInPiece t begin end
in_piece zero t b e room from before = absurd (omega arith)
in_piece (suc n) t b e room from before =
    let less : b < e = omega arith in
    elim (edge_or_not b b t) [
      | inl first ↦ record { level = 0; there = omega (arith, pieces_here b e t less, first) }
      | inr not_first ↦ elim (edge_or_not e (e - 1) t) [
        | inl last ↦ record { level = 0; there = omega (arith, pieces_here b e t less, last) }
        | inr not_last ↦
            let above = in_piece n (t / 2) (half_up b) (e / 2) (omega arith) (half_begin b t from not_first) (half_end e t before not_last) in
            record { level = suc above.level; there = let some = above.there in omega (arith, pieces_above above.level b e (halved above.level (t / 2)) less) }
      ]
    ]

some_if : (n : ℕ) (b : Bool) → 0 < cond b n 0 → (b ≡ true) × (0 < n)
some_if n true some = (refl, some)
some_if n false some = absurd (omega arith)

-- a time that is in a piece of a life
lives_from_piece : (level t begin end : ℕ) → 0 < pieces level begin end (halved level t) → (begin ≤ t) × (t < end)
lives_from_piece zero t b e there =
    let both = some_if (odd_edge b b t + odd_edge e (e - 1) t) (nat_lt b e) there in
    let less = ltb-true b e both.0 in
    elim (cases_lt 0 (odd_edge b b t)) [
      | inl first ↦ let is = one_if_is (nat_eq (b % 2) 1) b t first in let same = is.1 in (omega arith, omega arith)
      | inr not_first ↦
          let some = both.1 in
          let is = one_if_is (nat_eq (e % 2) 1) (e - 1) t (omega arith) in let same = is.1 in (omega arith, omega arith)
    ]
lives_from_piece (suc level) t b e there =
    let both = some_if (pieces level (half_up b) (e / 2) (halved level (t / 2))) (nat_lt b e) there in
    let above = lives_from_piece level (t / 2) (half_up b) (e / 2) both.1 in
    let from = above.0 in let before = above.1 in
    (omega arith, omega arith)

record IsInSteps (t begin : ℕ) : Type 0 where
  level : ℕ
  there : 0 < steps level begin (halved level t)

record IsInRest (t begin : ℕ) : Type 0 where
  level : ℕ
  is : is_rest level begin ≡ true
  from : 0 < halved level t

-- a life without end that lives at a time has a piece which that time is in, or a rest
in_steps : (room t begin : ℕ) → begin ≤ room → 0 < begin → begin ≤ t → IsInSteps t begin ⊎ IsInRest t begin
in_steps zero t b room some from = absurd (omega arith)
in_steps (suc n) t b room some from = elim (cases_lt 1 b) [
  | inr few ↦ inr (record { level = 0; is = few_not_many b few; from = omega arith })
  | inl more ↦ elim (edge_or_not b b t) [
    | inl first ↦ inl (record { level = 0; there = omega (arith, steps_here b t more, first) })
    | inr not_first ↦ elim (in_steps n (t / 2) (half_up b) (omega arith) (omega arith) (half_begin b t from not_first)) [
      | inl above ↦ inl (record { level = suc above.level; there = let there = above.there in omega (arith, steps_above above.level b (halved above.level (t / 2)) more) })
      | inr above ↦ inr (record { level = suc above.level; is = rest_above above.level b more ∙ above.is; from = above.from })
    ]
  ]
]

lives_from_steps : (level t begin : ℕ) → 0 < steps level begin (halved level t) → begin ≤ t
lives_from_steps zero t b there =
    let both = some_if (odd_edge b b t) (nat_lt 1 b) there in
    let is = one_if_is (nat_eq (b % 2) 1) b t both.1 in let same = is.1 in omega arith
lives_from_steps (suc level) t b there =
    let both = some_if (steps level (half_up b) (halved level (t / 2))) (nat_lt 1 b) there in
    let from = lives_from_steps level (t / 2) (half_up b) both.1 in omega arith

lives_from_rest : (level t begin : ℕ) → is_rest level begin ≡ true → 0 < halved level t → begin ≤ t
lives_from_rest zero t b is from = elim (cases_lt 1 b) [
  | inl more ↦ let no : nat_le b 1 ≡ false = grind (arith, nat_tests) in let e : true ≡ false = sym is ∙ no in cc
  | inr few ↦ omega arith
]
lives_from_rest (suc level) t b is from =
    let both = both_true (nat_lt 1 b) (is_rest level (half_up b)) is in
    let above = lives_from_rest level (t / 2) (half_up b) both.1 from in omega arith

-- a time is in a piece or in the rest of a life
pub record IsCovered (life : Living) (t : ℕ) : Type 0 where
  pub level : ℕ
  pub there : (0 < pieces_of life level (halved level t)) ⊎ (0 < rests_of life level (seen_piece true (halved level t)))

seen_one : (n : ℕ) → 0 < n → 1 ≡ seen_piece true n
seen_one n some = omega arith

pub closed_pieces : (life : Living) (level at : ℕ) → life.end < FOREVER → pieces_of life level at ≡ pieces level life.begin life.end at
closed_pieces life level at ends = ap (λ b. cond b (pieces level life.begin life.end at) (open_pieces level life.begin at)) (lt-ltb life.end FOREVER ends)

pub open_pieces_are : (life : Living) (level at : ℕ) → FOREVER ≤ life.end → pieces_of life level at ≡ open_pieces level life.begin at
open_pieces_are life level at endless = ap (λ b. cond b (pieces level life.begin life.end at) (open_pieces level life.begin at)) (le-ltb life.end FOREVER endless)

pub closed_rests : (life : Living) (level at : ℕ) → life.end < FOREVER → rests_of life level at ≡ 0
closed_rests life level at ends = ap (λ b. cond b 0 (one_if (is_rest level life.begin) 1 at)) (lt-ltb life.end FOREVER ends)

pub open_rests : (life : Living) (level at : ℕ) → FOREVER ≤ life.end → rests_of life level at ≡ one_if (is_rest level life.begin) 1 at
open_rests life level at endless = ap (λ b. cond b 0 (one_if (is_rest level life.begin) 1 at)) (le-ltb life.end FOREVER endless)

open_covered : (life : Living) (t : ℕ) → FOREVER ≤ life.end → life.begin ≤ t → IsCovered life t
open_covered life t endless from = elim (cases_lt 0 life.begin) [
  | inl some ↦ elim (in_steps life.begin t life.begin (omega arith) some from) [
    | inl piece ↦ record { level = piece.level; there = inl (let there = piece.there in omega (arith, open_pieces_are life piece.level (halved piece.level t) endless)) }
    | inr rest ↦ record { level = rest.level; there = inr (omega (arith, open_rests life rest.level (seen_piece true (halved rest.level t)) endless, one_if_one (is_rest rest.level life.begin) 1 (seen_piece true (halved rest.level t)) rest.is (seen_one (halved rest.level t) rest.from))) }
  ]
  | inr none ↦ elim (cases_lt 0 t) [
    | inl later ↦ record { level = 0; there = inr (omega (arith, open_rests life 0 (seen_piece true t) endless, one_if_one (is_rest 0 life.begin) 1 (seen_piece true t) (few_not_many life.begin (omega arith)) (seen_one t later))) }
    | inr first ↦ record { level = 0; there = inl (omega (arith, open_pieces_are life 0 t endless, one_if_one (nat_eq 0 0 && nat_eq life.begin 0) 0 t (eq-eqb life.begin 0 (omega arith)) (omega arith))) }
  ]
]

-- a life that lives at a time covers it
pub covered : (life : Living) (t : ℕ) → t < FOREVER → is_living_at t life ≡ true → IsCovered life t
covered life t finite lives =
    let both = both_true (nat_le life.begin t) (nat_lt t life.end) lives in
    let from : life.begin ≤ t = grind (arith, nat_tests, both.0) in
    let before : t < life.end = ltb-true t life.end both.1 in
    elim (cases_lt life.end FOREVER) [
      | inl ends ↦
          let piece = in_piece life.end t life.begin life.end (omega arith) from before in
          record { level = piece.level; there = inl (let there = piece.there in omega (arith, closed_pieces life piece.level (halved piece.level t) ends)) }
      | inr endless ↦ open_covered life t endless from
    ]

lives_where : (life : Living) (t : ℕ) → life.begin ≤ t → t < life.end → is_living_at t life ≡ true
lives_where life t from before = grind (arith, nat_tests)

lives_from_open : (level t begin : ℕ) → 0 < open_pieces level begin (halved level t) → begin ≤ t
lives_from_open level t b there = elim (cases_lt 0 (steps level b (halved level t))) [
  | inl step ↦ lives_from_steps level t b step
  | inr none ↦
      let is = one_if_is (nat_eq 0 level && nat_eq b 0) 0 (halved level t) (omega arith) in
      let both = both_true (nat_eq 0 level) (nat_eq b 0) is.0 in
      let first = eqb-true b 0 both.1 in omega arith
]

-- a life lives at the times that are in its pieces
pub lives_from_pieces : (life : Living) (t level : ℕ) → t < FOREVER → 0 < pieces_of life level (halved level t) → is_living_at t life ≡ true
lives_from_pieces life t level finite there = elim (cases_lt life.end FOREVER) [
  | inl ends ↦
      let lives = lives_from_piece level t life.begin life.end (omega (arith, closed_pieces life level (halved level t) ends)) in
      lives_where life t lives.0 lives.1
  | inr endless ↦
      let from = lives_from_open level t life.begin (omega (arith, open_pieces_are life level (halved level t) endless)) in
      lives_where life t from (omega arith)
]

seen_some : (n : ℕ) → 1 ≡ seen_piece true n → 0 < n
seen_some n is = omega arith

-- and at those that are in its rest
pub lives_from_rests : (life : Living) (t level : ℕ) → t < FOREVER → 0 < rests_of life level (seen_piece true (halved level t)) → is_living_at t life ≡ true
lives_from_rests life t level finite there = elim (cases_lt life.end FOREVER) [
  | inl ends ↦ absurd (omega (arith, closed_rests life level (seen_piece true (halved level t)) ends))
  | inr endless ↦
      let is = one_if_is (is_rest level life.begin) 1 (seen_piece true (halved level t)) (omega (arith, open_rests life level (seen_piece true (halved level t)) endless)) in
      lives_where life t (lives_from_rest level t life.begin is.0 (seen_some (halved level t) is.1)) (omega arith)
]

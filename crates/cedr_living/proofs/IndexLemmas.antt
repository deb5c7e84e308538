-- An index that keeps some lives, as they come and go and as it is asked.
use Rattle.std.proofs.Common.{◌≡◌, ℕ, suc, ◌+◌, ◌-◌, ◌*◌, ◌<◌, ◌≤◌, ◌⊎◌, inl, inr, List, [], ◌∷◌, Bool, true, false, cond, Option, Some, refl, ap, sym, ◌∙◌, arith}
use Rattle.std.specs.Prelude.{nat_eq, ◌&&◌, sum_by, map}
use Rattle.std.specs.List.{filter}
use Rattle.std.specs.Ordering.{is_eq}
use Rattle.std.specs.Option.{option_cmp}
use Rattle.std.proofs.lemmas.Bool.{cases_lt, eq-eqb, eqb-true}
use Rattle.std.proofs.Math.Nat.{suc-mul}
use Rattle.std.proofs.lemmas.List.Sums.{sum_by-cons}
use Rattle.cedr_base.specs.declared.field.Field.{Field}
use Rattle.cedr_base.specs.declared.time.TheConstants.{FOREVER}
use Rattle.cedr_base.specs.Order.{field_cmp}
use Rattle.cedr_living.specs.declared.place.Place.{Place}
use Rattle.cedr_living.specs.declared.pieces.Pieces.{Pieces}
use Rattle.cedr_living.specs.declared.index.Index.{Index}
use Rattle.cedr_living.specs.declared.outer.Side.{Side}
use Rattle.cedr_living.specs.Fields.{IsFirstField, first_by}
use Rattle.cedr_living.specs.FieldLaws.{first_unique, first_alike, first_by_is}
use Rattle.cedr_living.specs.LawWords.{IsAmong}
use Rattle.cedr_living.specs.Lives.{Living, is_living_at, fields_at}
use Rattle.cedr_living.specs.Pieces.{halved, seen_piece, pieces, pieces_of, rests_of}
use Rattle.cedr_living.specs.Counts.{moved_by}
use Rattle.cedr_living.specs.Indexes.{ShowsCounts, Indexes, Changes, Loses, count_at, is_of, piece_count, rest_count}
use Rattle.cedr_living.specs.Outer.{outer_cmp, IsSeenField}
use Rattle.cedr_living.specs.CompareLaws.{both_true}
use Rattle.cedr_living.proofs.PlaceLemmas.{option_exact, option_itself}
use Rattle.cedr_living.specs.CountLaws.{some_counted, counted_there}
use Rattle.cedr_living.proofs.CountLemmas.{shifted_none}
use Rattle.cedr_living.specs.IndexLaws.{shows_alike}
use Rattle.cedr_living.proofs.ShowLemmas.{if_false}
use Rattle.cedr_living.proofs.OuterLemmas.{side_order}
use Rattle.cedr_living.proofs.CoverLemmas.{covered, lives_from_pieces, lives_from_rests, closed_pieces, closed_rests}

-- a life that ends comes or goes, of a place's field
pub closed_change : (up : Bool) (life : Living) (field : Option Field) (old : Index) (new : Pieces) → life.end < FOREVER → field ≡ Some life.field
    → ((counts : Place → ℕ) → ShowsCounts old.pieces counts → ShowsCounts new (λ q. moved_by up (counts q) (cond (is_of life.column field q) (pieces q.level life.begin life.end q.at) 0)))
    → Changes up old (record { pieces = new; rests = old.rests }) life
closed_change up life field old new ends is shift = record {
  pieces = λ counts shows.
      shows_alike new (λ q. moved_by up (counts q) (cond (is_of life.column field q) (pieces q.level life.begin life.end q.at) 0)) (λ q. moved_by up (counts q) (piece_count q life))
      (λ q. ap (λ o. moved_by up (counts q) (cond (is_of life.column o q) (pieces q.level life.begin life.end q.at) 0)) is
      ∙ ap (λ n. moved_by up (counts q) (cond (is_of life.column (Some life.field) q) n 0)) (sym (closed_pieces life q.level q.at ends)))
      (shift counts shows);
  rests = λ counts shows.
      shows_alike old.rests counts (λ q. moved_by up (counts q) (rest_count q life))
      (λ q. sym (ap (λ n. moved_by up (counts q) (cond (is_of life.column (Some life.field) q) n 0)) (closed_rests life q.level q.at ends)
      ∙ (ap (moved_by up (counts q)) (if_false (is_of life.column (Some life.field) q)) ∙ shifted_none up (counts q))))
      shows;
}

-- a life that comes is kept
pub added : (life : Living) (old new : Index) → Changes true old new life → (lives : List Living) → Indexes old lives → Indexes new (life ∷ lives)
added life old new change lives keeps = record {
  pieces = shows_alike new.pieces (λ q. sum_by (piece_count q) lives + piece_count q life) (λ q. sum_by (piece_count q) (life ∷ lives)) (λ q. omega (arith, sum_by-cons (piece_count q) life lives)) (change.pieces (λ q. sum_by (piece_count q) lives) keeps.pieces);
  rests = shows_alike new.rests (λ q. sum_by (rest_count q) lives + rest_count q life) (λ q. sum_by (rest_count q) (life ∷ lives)) (λ q. omega (arith, sum_by-cons (rest_count q) life lives)) (change.rests (λ q. sum_by (rest_count q) lives) keeps.rests);
}

-- where so many equal lives go the rest is kept
pub lost : (count : ℕ) (life : Living) (old new : Index) → Loses count old new life → (lives rest : List Living) → ((w : Living → ℕ) → sum_by w lives ≡ count * w life + sum_by w rest) → Indexes old lives → Indexes new rest
lost count life old new loses lives rest with keeps = record {
  pieces = shows_alike new.pieces (λ q. sum_by (piece_count q) lives - count * piece_count q life) (λ q. sum_by (piece_count q) rest) (λ q. rest_is (sum_by (piece_count q) lives) (count * piece_count q life) (sum_by (piece_count q) rest) (with (piece_count q))) (loses.pieces (λ q. sum_by (piece_count q) lives) keeps.pieces);
  rests = shows_alike new.rests (λ q. sum_by (rest_count q) lives - count * rest_count q life) (λ q. sum_by (rest_count q) rest) (λ q. rest_is (sum_by (rest_count q) lives) (count * rest_count q life) (sum_by (rest_count q) rest) (with (rest_count q))) (loses.rests (λ q. sum_by (rest_count q) lives) keeps.rests);
}
  where
    rest_is : (n k m : ℕ) → n ≡ k + m → n - k ≡ m
    rest_is n k m is = omega arith

less_by : (n k p : ℕ) → (n - k * p) - p ≡ n - (k + 1) * p
less_by n k p = let more : (k + 1) * p ≡ k * p + p = more_times k p in omega arith
  where
    more_times : (k p : ℕ) → (k + 1) * p ≡ k * p + p
    more_times k p = let same : k + 1 ≡ suc k = omega arith in ap (λ n. n * p) same ∙ suc-mul k p

-- one more of some equal lives goes
pub loses_more : (count : ℕ) (old mid new : Index) (life : Living) → Loses count old mid life → Changes false mid new life → Loses (count + 1) old new life
loses_more count old mid new life loses change = record {
  pieces = λ counts shows.
      shows_alike new.pieces (λ q. (counts q - count * piece_count q life) - piece_count q life) (λ q. counts q - (count + 1) * piece_count q life) (λ q. less_by (counts q) count (piece_count q life))
      (change.pieces (λ q. counts q - count * piece_count q life) (loses.pieces counts shows));
  rests = λ counts shows.
      shows_alike new.rests (λ q. (counts q - count * rest_count q life) - rest_count q life) (λ q. counts q - (count + 1) * rest_count q life) (λ q. less_by (counts q) count (rest_count q life))
      (change.rests (λ q. counts q - count * rest_count q life) (loses.rests counts shows));
}

-- a life is of a column and lives at a time, and has a field
record IsHit (column t : ℕ) (f : Field) (life : Living) : Type 0 where
  column_is : nat_eq column life.column ≡ true
  lives : is_living_at t life ≡ true
  field_is : f ≡ life.field

hit_test : (column t : ℕ) (f : Field) (life : Living) → IsHit column t f life → (nat_eq column life.column && is_living_at t life) ≡ true
hit_test column t f life hit = ap (λ b. b && is_living_at t life) hit.column_is ∙ hit.lives

among_first : (f : Field) (life : Living) (rest : List Living) (b : Bool) → b ≡ true → f ≡ life.field → IsAmong f (map (λ (l : Living). l.field) (cond b (life ∷ rest) rest))
among_first f life rest true h is = inl is
among_first f life rest false h is = cc

among_rest : (f : Field) (life : Living) (rest : List Living) (b : Bool) → IsAmong f (map (λ (l : Living). l.field) rest) → IsAmong f (map (λ (l : Living). l.field) (cond b (life ∷ rest) rest))
among_rest f life rest true h = inr h
among_rest f life rest false h = h

-- what some life counts is among the fields that live at a time
among_from : (w : Living → ℕ) (column t : ℕ) (f : Field) → ((life : Living) → 0 < w life → IsHit column t f life) → (lives : List Living) → 0 < sum_by w lives → IsAmong f (fields_at column t lives)
among_from w column t f hits [] some = absurd (omega arith)
among_from w column t f hits (life ∷ lives) some = elim (cases_lt 0 (w life)) [
  | inl here ↦ let hit = hits life here in among_first f life (filter (λ (l : Living). nat_eq column l.column && is_living_at t l) lives) (nat_eq column life.column && is_living_at t life) (hit_test column t f life hit) hit.field_is
  | inr none ↦ among_rest f life (filter (λ (l : Living). nat_eq column l.column && is_living_at t l) lives) (nat_eq column life.column && is_living_at t life) (among_from w column t f hits lives (omega (arith, sum_by-cons w life lives)))
]

record IsHitAmong (column t : ℕ) (f : Field) (lives : List Living) : Type 0 where
  life : Living
  hit : IsHit column t f life
  counts : (w : Living → ℕ) → w life ≤ sum_by w lives

later_hit : (column t : ℕ) (f : Field) (life : Living) (lives : List Living) → IsHitAmong column t f lives → IsHitAmong column t f (life ∷ lives)
later_hit column t f life lives found = record { life = found.life; hit = found.hit; counts = λ w. omega (arith, sum_by-cons w life lives, found.counts w) }

hit_at : (column t : ℕ) (f : Field) (life : Living) (lives : List Living) (b : Bool) → (nat_eq column life.column && is_living_at t life) ≡ b
    → (IsAmong f (fields_at column t lives) → IsHitAmong column t f lives)
    → IsAmong f (map (λ (l : Living). l.field) (cond b (life ∷ filter (λ (l : Living). nat_eq column l.column && is_living_at t l) lives) (filter (λ (l : Living). nat_eq column l.column && is_living_at t l) lives)))
    → IsHitAmong column t f (life ∷ lives)
hit_at column t f life lives true test rest among = elim among [
  | inl here ↦
      let both = both_true (nat_eq column life.column) (is_living_at t life) test in
      record { life = life; hit = record { column_is = both.0; lives = both.1; field_is = here }; counts = λ w. omega (arith, sum_by-cons w life lives) }
  | inr later ↦ later_hit column t f life lives (rest later)
]
hit_at column t f life lives false test rest among = later_hit column t f life lives (rest among)

-- what is among the fields that live at a time some life has
hit_from : (column t : ℕ) (f : Field) (lives : List Living) → IsAmong f (fields_at column t lives) → IsHitAmong column t f lives
hit_from column t f [] among = absurd among
hit_from column t f (life ∷ lives) among = hit_at column t f life lives (nat_eq column life.column && is_living_at t life) refl (hit_from column t f lives) among

some_if : (n : ℕ) (b : Bool) → 0 < cond b n 0 → (b ≡ true) × (0 < n)
some_if n true some = (refl, some)
some_if n false some = absurd (omega arith)

-- a place that a life counts has its column and its field
own_hit : (life : Living) (column t level at n : ℕ) (f : Field) → is_living_at t life ≡ true → is_of life.column (Some life.field) (record { column = column; level = level; at = at; field = Some f }) ≡ true → IsHit column t f life
own_hit life column t level at n f lives own =
    let both = both_true (nat_eq life.column column) (is_eq (option_cmp field_cmp (Some life.field) (Some f))) own in
    let column_is = eqb-true life.column column both.0 in
    let field_is : Some life.field ≡ Some f = option_exact (Some life.field) (Some f) both.1 in
    record { column_is = eq-eqb column life.column (sym column_is); lives = lives; field_is = cc }

-- a life counts at a place with its column and its field
own_count : (life : Living) (column t level at n : ℕ) (f : Field) → IsHit column t f life → cond (is_of life.column (Some life.field) (record { column = column; level = level; at = at; field = Some f })) n 0 ≡ n
own_count life column t level at n f hit =
    let column_is = eqb-true column life.column hit.column_is in
    let same : is_eq (option_cmp field_cmp (Some life.field) (Some f)) ≡ true = ap (λ x. is_eq (option_cmp field_cmp (Some life.field) (Some x))) hit.field_is ∙ option_itself (Some life.field) in
    ap (λ b. cond (b && is_eq (option_cmp field_cmp (Some life.field) (Some f))) n 0) (eq-eqb life.column column (sym column_is))
    ∙ ap (λ b. cond b n 0) same

module _ (index : Index) (lives : List Living) (keeps : Indexes index lives) (column t : ℕ) (finite : t < FOREVER) where
  abbrev place : ℕ → ℕ → Field → Place
  place level at f = record { column = column; level = level; at = at; field = Some f }

  piece_hit : (level : ℕ) (f : Field) (life : Living) → 0 < piece_count (place level (halved level t) f) life → IsHit column t f life
  piece_hit level f life some =
      let both = some_if (pieces_of life level (halved level t)) (is_of life.column (Some life.field) (place level (halved level t) f)) some in
      own_hit life column t level (halved level t) 0 f (lives_from_pieces life t level finite both.1) both.0

  rest_hit : (level : ℕ) (f : Field) (life : Living) → 0 < rest_count (place level (seen_piece true (halved level t)) f) life → IsHit column t f life
  rest_hit level f life some =
      let both = some_if (rests_of life level (seen_piece true (halved level t))) (is_of life.column (Some life.field) (place level (seen_piece true (halved level t)) f)) some in
      own_hit life column t level (seen_piece true (halved level t)) 0 f (lives_from_rests life t level finite both.1) both.0

  -- a field that is seen lives
  seen_lives : (f : Field) → IsSeenField index.pieces false column t f ⊎ IsSeenField index.rests true column t f → IsAmong f (fields_at column t lives)
  seen_lives f h = elim h [
    | inl piece ↦
        let q = place piece.level (halved piece.level t) f in
        among_from (piece_count q) column t f (piece_hit piece.level f) lives (some_counted (sum_by (piece_count q) lives) (count_at index.pieces.counts.entries q) (keeps.pieces.at q) piece.there.some)
    | inr rest ↦
        let q = place rest.level (seen_piece true (halved rest.level t)) f in
        among_from (rest_count q) column t f (rest_hit rest.level f) lives (some_counted (sum_by (rest_count q) lives) (count_at index.rests.counts.entries q) (keeps.rests.at q) rest.there.some)
  ]

  piece_seen : (level : ℕ) (f : Field) → 0 < sum_by (piece_count (place level (halved level t) f)) lives → IsSeenField index.pieces false column t f
  piece_seen level f some =
      let q = place level (halved level t) f in
      let range = keeps.pieces.within q some in
      record { level = level; low = range.0; high = range.1; there = record { some = counted_there (sum_by (piece_count q) lives) (count_at index.pieces.counts.entries q) (keeps.pieces.at q) some } }

  rest_seen : (level : ℕ) (f : Field) → 0 < sum_by (rest_count (place level (seen_piece true (halved level t)) f)) lives → IsSeenField index.rests true column t f
  rest_seen level f some =
      let q = place level (seen_piece true (halved level t)) f in
      let range = keeps.rests.within q some in
      record { level = level; low = range.0; high = range.1; there = record { some = counted_there (sum_by (rest_count q) lives) (count_at index.rests.counts.entries q) (keeps.rests.at q) some } }

  -- a field that lives is seen
  lives_seen : (f : Field) → IsAmong f (fields_at column t lives) → IsSeenField index.pieces false column t f ⊎ IsSeenField index.rests true column t f
  lives_seen f among =
      let found = hit_from column t f lives among in
      let cover = covered found.life t finite found.hit.lives in
      elim cover.there [
        | inl piece ↦ inl (piece_seen cover.level f (omega (arith, found.counts (piece_count (place cover.level (halved cover.level t) f)), own_count found.life column t cover.level (halved cover.level t) (pieces_of found.life cover.level (halved cover.level t)) f found.hit, piece)))
        | inr rest ↦ inr (rest_seen cover.level f (omega (arith, found.counts (rest_count (place cover.level (seen_piece true (halved cover.level t)) f)), own_count found.life column t cover.level (seen_piece true (halved cover.level t)) (rests_of found.life cover.level (seen_piece true (halved cover.level t))) f found.hit, rest)))
      ]

  -- the first field that is seen is the first one that lives
  pub first_seen : (side : Side) (o : Option Field) → IsFirstField (outer_cmp side) (λ f. IsSeenField index.pieces false column t f ⊎ IsSeenField index.rests true column t f) o → o ≡ first_by (outer_cmp side) (fields_at column t lives)
  first_seen side o first =
      first_unique (outer_cmp side) (side_order side) (λ f. IsAmong f (fields_at column t lives)) o (first_by (outer_cmp side) (fields_at column t lives))
      (first_alike (outer_cmp side) (side_order side) (λ f. IsSeenField index.pieces false column t f ⊎ IsSeenField index.rests true column t f) (λ f. IsAmong f (fields_at column t lives)) o seen_lives lives_seen first)
      (first_by_is (outer_cmp side) (side_order side) (fields_at column t lives))

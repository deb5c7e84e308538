-- What a search for bytes says of the whole text.
use Rattle.std.proofs.Common.{◌≡◌, ◌<◌, ℕ, ◌==◌, ◌||◌, List, [], ◌∷◌, Bool, true, false, length, Option, None, Some, is_some, refl, ap, sym, ◌∙◌, arith}
use Rattle.std.specs.List.{list_any}
use Rattle.std.proofs.Math.Seq.{take-length}
use Rattle.std.proofs.lemmas.Bool.{or_parts, or_from}
use Rattle.std.proofs.lemmas.List.Folds.{list_any_at}
use Rattle.memchr.specs.Find.{IsFirstByte, is_byte2, is_byte3}
use Rattle.cedr_text.proofs.LineLemmas.{none_below}

-- something was found exactly where some byte passes
pub found_any : (p : ℕ → Bool) (bytes : List ℕ) (place : Option ℕ) → IsFirstByte p bytes place → is_some place ≡ list_any p bytes
found_any p bytes None nowhere =
    sym (ap (list_any p) (sym (take-length bytes)) ∙ none_below p bytes (length bytes) (λ k low within found. nowhere k (omega arith) low found))
found_any p bytes (Some at) found = sym (list_any_at p bytes at 0 found.0.high found.1)

-- where something was found there is some byte
pub some_found : (p : ℕ → Bool) (bytes : List ℕ) (place : Option ℕ) → IsFirstByte p bytes place → is_some place ≡ true → 0 < length bytes
some_found p bytes None nowhere some = cc
some_found p bytes (Some at) found some = omega (arith, found.0.high)

either_first : (a b more others : Bool) → ((a || b) || (more || others)) ≡ ((a || more) || (b || others))
either_first true true more others = refl
either_first true false true others = refl
either_first true false false others = refl
either_first false true true others = refl
either_first false true false others = refl
either_first false false more others = refl

-- one of two bytes is there where the one or the other is
pub any_of_two : (a b : ℕ) (bytes : List ℕ) → list_any (is_byte2 a b) bytes ≡ (list_any (λ x. x == a) bytes || list_any (λ x. x == b) bytes)
any_of_two a b [] = refl
any_of_two a b (x ∷ bytes) =
    ap (λ rest. (x == a || x == b) || rest) (any_of_two a b bytes) ∙ either_first (x == a) (x == b) (list_any (λ y. y == a) bytes) (list_any (λ y. y == b) bytes)

no_test : (p q r : Bool) → (p || q || r) ≡ false → (p ≡ false) × (q ≡ false) × (r ≡ false)
no_test true q r h = cc
no_test false true r h = cc
no_test false false r h = (refl, refl, h)

-- where none of three bytes is there, none of them is
pub none_of_three : (a b c : ℕ) (bytes : List ℕ) → list_any (is_byte3 a b c) bytes ≡ false
    → (list_any (λ x. x == a) bytes ≡ false) × (list_any (λ x. x == b) bytes ≡ false) × (list_any (λ x. x == c) bytes ≡ false)
none_of_three a b c [] none = (refl, refl, refl)
none_of_three a b c (x ∷ bytes) none =
    let split = or_parts (is_byte3 a b c x) (list_any (is_byte3 a b c) bytes) none in
    let rest = none_of_three a b c bytes split.1 in
    let tests = no_test (x == a) (x == b) (x == c) split.0 in (
      or_from (x == a) (list_any (λ y. y == a) bytes) tests.0 rest.0,
      or_from (x == b) (list_any (λ y. y == b) bytes) tests.1 rest.1,
      or_from (x == c) (list_any (λ y. y == c) bytes) tests.2 rest.2,
    )

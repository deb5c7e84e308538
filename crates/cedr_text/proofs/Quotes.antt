-- What the csv writer makes of a field.
use Rattle.std.proofs.Common.{◌≡◌, ◌<◌, ◌≤◌, ◌^◌, ℕ, List, [], ◌∷◌, ◌++◌, Bool, true, false, cond, eqb, ◌||◌, refl, ap, ◌∙◌, arith, suc, ℤ, pos, negsuc, FitsSigned}
use Rattle.std.specs.List.{list_any, flat_map}
use Rattle.std.specs.Fmt.{decimal, signed_decimal}
use Rattle.std.specs.Int.{w128}
use Rattle.std.specs.Str.Parse.{AllDigits}
use Rattle.std.proofs.lemmas.Bool.{eqb-true, ne_eqb, or_from}
use Rattle.std.proofs.lemmas.Fmt.{decimal_is_IsNumeral_wide}
use Rattle.std.proofs.lemmas.Str.Parse.{digit_from_value}
use Rattle.csv.specs.Writing.{escaped, field_text, needs_byte}
use Rattle.cedr_text.specs.Texts.{doubled, is_special, quoted, text_text}
use Rattle.cedr_text.specs.RowWriters.{row_setup}

at_byte : (test : Bool) (b : ℕ) (front more : List ℕ) → (test ≡ true → b ≡ 34) → front ≡ more → cond test (34 ∷ b ∷ front) (b ∷ front) ≡ cond test (34 ∷ 34 ∷ []) (b ∷ []) ++ more
at_byte true b front more is same = let quote = is refl in cc
at_byte false b front more is same = cc

-- it escapes a quote by a second one
escaped_doubles : (text : List ℕ) → escaped row_setup text ≡ flat_map doubled text
unfolding escaped
escaped_doubles [] = refl
escaped_doubles (b ∷ bs) = at_byte (eqb b 34) b (escaped row_setup bs) (flat_map doubled bs) (eqb-true b 34) (escaped_doubles bs)

same_or : (front return feed : Bool) → front || (return || feed) || false || false ≡ front || return || feed
same_or true return feed = refl
same_or false true feed = refl
same_or false false true = refl
same_or false false false = refl

same_test : (text : List ℕ) → list_any (needs_byte row_setup) text ≡ list_any is_special text
same_test [] = refl
same_test (b ∷ bs) =
    ap (λ one. one || list_any (needs_byte row_setup) bs) (same_or (eqb b 44 || eqb b 34) (eqb b 13) (eqb b 10))
    ∙ ap (λ more. is_special b || more) (same_test bs)

-- it quotes a text exactly where that has a special byte
pub field_is_text : (text : List ℕ) → field_text row_setup text ≡ text_text text
field_is_text text =
    ap (λ test. cond test (34 ∷ (escaped row_setup text ++ 34 ∷ [])) text) (same_test text)
    ∙ ap (λ inside. cond (list_any is_special text) (34 ∷ (inside ++ 34 ∷ [])) text) (escaped_doubles text)

plain_digit : (c : ℕ) → (48 ≤ c) × (c ≤ 57) → is_special c ≡ false
plain_digit c range =
    let no_comma = ne_eqb c 44 (λ e. omega (arith, e, range.0)) in
    let no_quote = ne_eqb c 34 (λ e. omega (arith, e, range.0)) in
    let no_return = ne_eqb c 13 (λ e. omega (arith, e, range.0)) in
    let no_feed = ne_eqb c 10 (λ e. omega (arith, e, range.0)) in
    let two = or_from (eqb c 44) (eqb c 34) no_comma no_quote in
    let three = or_from (eqb c 44 || eqb c 34) (eqb c 13) two no_return in
    or_from (eqb c 44 || eqb c 34 || eqb c 13) (eqb c 10) three no_feed

plain_digits : (digits : List ℕ) → AllDigits 10 digits → list_any is_special digits ≡ false
plain_digits [] all = refl
plain_digits (c ∷ cs) all = or_from (is_special c) (list_any is_special cs) (plain_digit c (digit_from_value c all.0)) (plain_digits cs all.1)

plain_decimal : (n : ℕ) → n < 10 ^ 64 → list_any is_special (decimal n) ≡ false
plain_decimal n short = plain_digits (decimal n) (decimal_is_IsNumeral_wide n short).0.1

unquoted : (text : List ℕ) → list_any is_special text ≡ false → text_text text ≡ text
unquoted text plain = ap (λ test. cond test (quoted text) text) plain

-- no number is quoted
pub decimal_is_text : (n : ℕ) → n < 10 ^ 64 → text_text (decimal n) ≡ decimal n
decimal_is_text n short = unquoted (decimal n) (plain_decimal n short)

-- nor one that may stand after a minus
pub signed_is_text : (z : ℤ) → FitsSigned w128 z → text_text (signed_decimal z) ≡ signed_decimal z
signed_is_text (pos n) fits = decimal_is_text n (omega (arith, fits.sfits))
signed_is_text (negsuc n) fits = unquoted (45 ∷ decimal (suc n)) (plain_decimal (suc n) (omega (arith, fits.sfits)))

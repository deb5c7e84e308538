-- Texts that may stand as a field of a line without quotes, numbers above all, and lines of such fields.
use Rattle.std.proofs.Common.{◌≡◌, ◌==◌, ◌-◌, ◌*◌, leb, ◌<◌, ◌≤◌, ◌^◌, ℕ, List, [], ◌∷◌, ◌++◌, Bool, true, false, cond, ◌&&◌, length, refl, ap, ◌∙◌, inl, length-append, arith, Some, None, pos}
use Rattle.std.specs.Prelude.{option_map}
use Rattle.std.specs.List.{list_any, list_all}
use Rattle.std.specs.Char.{is_ascii_digit}
use Rattle.std.specs.Fmt.{decimal}
use Rattle.std.specs.Str.{bytes_eq}
use Rattle.std.specs.Str.Parse.{AllDigits, digits_value}
use Rattle.std.proofs.lemmas.Bool.{ne_eqb, or_from, le-leb}
use Rattle.std.proofs.lemmas.Fmt.{decimal_is_IsNumeral, length-decimal-le}
use Rattle.std.proofs.lemmas.List.Folds.{list_any-append}
use Rattle.std.proofs.lemmas.Str.Parse.{digit_from_value}
use Rattle.cedr_base.specs.declared.time.TheConstants.{FOREVER}
use Rattle.cedr_text.specs.Numbers.{is_numeral, whole_number, time_value, int_value}
use Rattle.cedr_text.specs.Quoting.{AreFields}

-- ---- one field

-- some byte of the text is this one
abbrev pub has_byte : ℕ → List ℕ → Bool
has_byte byte text = list_any (λ b. b == byte) text

-- a short text without the bytes that mean something in a line
pub record IsPlain (text : List ℕ) : Type 0 where
  pub no_feed : has_byte 10 text ≡ false
  pub no_return : has_byte 13 text ≡ false
  pub no_quote : has_byte 34 text ≡ false
  pub no_comma : has_byte 44 text ≡ false
  pub short : length text ≤ 21

-- no byte below the digits stands among them
none_among : (byte : ℕ) (digits : List ℕ) → byte < 48 → AllDigits 10 digits → has_byte byte digits ≡ false
none_among byte [] below all = refl
none_among byte (c ∷ cs) below all =
    let digit = digit_from_value c all.0 in
    or_from (c == byte) (has_byte byte cs) (ne_eqb c byte (λ e. omega (arith, e, below, digit.0))) (none_among byte cs below all.1)

-- so a number is plain
pub number_plain : (n : ℕ) → n < 2 ^ 64 → IsPlain (decimal n)
number_plain n fits =
    let all = (decimal_is_IsNumeral n fits).0.1 in
    record {
      no_feed = none_among 10 (decimal n) (omega arith) all;
      no_return = none_among 13 (decimal n) (omega arith) all;
      no_quote = none_among 34 (decimal n) (omega arith) all;
      no_comma = none_among 44 (decimal n) (omega arith) all;
      short = let twenty = length-decimal-le 20 n (omega arith) (omega (arith, fits)) fits in omega (arith, twenty);
    }

-- so is a digit after a letter
pub key_plain : (n : ℕ) → n < 10 → IsPlain (107 ∷ decimal n)
key_plain n fits =
    let plain = number_plain n (omega arith) in
    record {
      no_feed = plain.no_feed;
      no_return = plain.no_return;
      no_quote = plain.no_quote;
      no_comma = plain.no_comma;
      short = let twenty = length-decimal-le 20 n (omega arith) (omega arith) (omega arith) in omega (arith, twenty);
    }

-- ---- what a number says

-- digits are what a number asks for
digit_test : (c : ℕ) → (48 ≤ c) × (c ≤ 57) → is_ascii_digit c ≡ true
digit_test c range = let low = le-leb 48 c range.0 in let high = le-leb c 57 range.1 in cc

digits_test : (digits : List ℕ) → AllDigits 10 digits → list_all is_ascii_digit digits ≡ true
digits_test [] all = refl
digits_test (c ∷ cs) all = let here = digit_test c (digit_from_value c all.0) in let rest = digits_test cs all.1 in cc

numeral_test : (digits : List ℕ) → 0 < length digits → AllDigits 10 digits → is_numeral digits ≡ true
numeral_test [] some all = absurd (omega arith)
numeral_test (c ∷ cs) some all = digits_test (c ∷ cs) all

-- a number reads back, within its limit
pub whole_of : (last n : ℕ) → n ≤ last → n < 2 ^ 64 → whole_number last (decimal n) ≡ Some n
whole_of last n within fits =
    let read = decimal_is_IsNumeral n fits in
    let value = digits_value 10 (decimal n) in
    let low : value ≤ last = omega (arith, read.1, within) in
    ap (λ test. cond (test && leb value last) (Some value) None) (numeral_test (decimal n) read.0.0 read.0.1)
    ∙ ap (λ test. cond test (Some value) None) (le-leb value last low)
    ∙ ap (λ (v : ℕ). Some v) read.1

-- a text that begins with a digit isn't `inf`
not_forever : (digits : List ℕ) → 0 < length digits → AllDigits 10 digits → bytes_eq digits (105 ∷ 110 ∷ 102 ∷ []) ≡ false
not_forever [] some all = absurd (omega arith)
not_forever (c ∷ cs) some all = let digit = digit_from_value c all.0 in let other = ne_eqb c 105 (λ e. omega (arith, e, digit.1)) in cc

-- so a finite time reads back as one
pub time_of : (n : ℕ) → n < FOREVER → time_value (decimal n) ≡ Some n
time_of n finite =
    let read = decimal_is_IsNumeral n (omega (arith, finite)) in
    ap (λ test. cond test (Some FOREVER) (whole_number (FOREVER - 1) (decimal n))) (not_forever (decimal n) read.0.0 read.0.1)
    ∙ whole_of (FOREVER - 1) n (omega (arith, finite)) (omega (arith, finite))

-- digits have no sign
unsigned : (digits : List ℕ) → 0 < length digits → AllDigits 10 digits → int_value digits ≡ option_map pos (whole_number (2 ^ 63 - 1) digits)
unsigned [] some all = absurd (omega arith)
unsigned (c ∷ cs) some all = let digit = digit_from_value c all.0 in let other = ne_eqb c 45 (λ e. omega (arith, e, digit.0)) in cc

-- a number below 2^63 reads back as one of 64 bits with sign
pub int_of : (n : ℕ) → n < 2 ^ 63 → int_value (decimal n) ≡ Some (pos n)
int_of n fits =
    let read = decimal_is_IsNumeral n (omega (arith, fits)) in
    unsigned (decimal n) read.0.0 read.0.1 ∙ ap (option_map pos) (whole_of (2 ^ 63 - 1) n (omega (arith, fits)) (omega (arith, fits)))

-- ---- lines of fields

-- the fields with commas between them
abbrev pub joined : List (List ℕ) → List ℕ
joined [] = []
joined (field ∷ []) = field
joined (field ∷ next ∷ fields) = field ++ 44 ∷ joined (next ∷ fields)

-- each of the fields is plain
abbrev pub ArePlain : List (List ℕ) → Type 0
ArePlain [] = Unit {0}
ArePlain (field ∷ fields) = IsPlain field × ArePlain fields

-- none of the fields has the byte
abbrev Lack : ℕ → List (List ℕ) → Type 0
Lack byte [] = Unit {0}
Lack byte (field ∷ fields) = (has_byte byte field ≡ false) × Lack byte fields

-- a line has no byte, other than the comma, that none of its fields has
none_joined : (byte : ℕ) (fields : List (List ℕ)) → 44 == byte ≡ false → Lack byte fields → has_byte byte (joined fields) ≡ false
none_joined byte [] other lack = refl
none_joined byte (field ∷ []) other lack = lack.0
none_joined byte (field ∷ next ∷ fields) other lack =
    list_any-append (λ b. b == byte) field (44 ∷ joined (next ∷ fields))
    ∙ or_from (has_byte byte field) _ lack.0 (or_from (44 == byte) (has_byte byte (joined (next ∷ fields))) other (none_joined byte (next ∷ fields) other lack.1))

lack_feeds : (fields : List (List ℕ)) → ArePlain fields → Lack 10 fields
lack_feeds [] plain = tt
lack_feeds (field ∷ fields) plain = (plain.0.no_feed, lack_feeds fields plain.1)

lack_returns : (fields : List (List ℕ)) → ArePlain fields → Lack 13 fields
lack_returns [] plain = tt
lack_returns (field ∷ fields) plain = (plain.0.no_return, lack_returns fields plain.1)

-- so a line of plain fields has no line feed
pub no_feed : (fields : List (List ℕ)) → ArePlain fields → has_byte 10 (joined fields) ≡ false
no_feed fields plain = none_joined 10 fields refl (lack_feeds fields plain)

-- and no carriage return
pub no_return : (fields : List (List ℕ)) → ArePlain fields → has_byte 13 (joined fields) ≡ false
no_return fields plain = none_joined 13 fields refl (lack_returns fields plain)

-- and is short
pub short : (fields : List (List ℕ)) → ArePlain fields → length (joined fields) ≤ 22 * length fields
short [] plain = omega arith
short (field ∷ []) plain = let here = plain.0.short in omega arith
short (field ∷ next ∷ fields) plain =
    let here = plain.0.short in
    let rest = short (next ∷ fields) plain.1 in
    let both = length-append field (44 ∷ joined (next ∷ fields)) in
    omega arith

-- its fields by the quoting rule are these
pub are_fields : (field : List ℕ) (fields : List (List ℕ)) → ArePlain (field ∷ fields) → AreFields (joined (field ∷ fields)) (field ∷ fields)
are_fields field [] plain = inl (plain.0.no_quote, plain.0.no_comma, refl)
are_fields field (next ∷ fields) plain = (field, joined (next ∷ fields), refl, inl (plain.0.no_quote, plain.0.no_comma, refl), are_fields next fields plain.1)

-- The texts of numbers, times and fields: which bytes they have, and what is read from them.
use Rattle.std.proofs.Common.{◌≡◌, ℕ, suc, ◌+◌, ◌-◌, ◌%◌, ◌^◌, ◌<◌, ◌≤◌, List, [], ◌∷◌, ◌++◌, length, Bool, true, false, cond, eqb, Option, Some, refl, ap, sym, ◌∙◌, arith, ℤ, pos, negsuc}
use Rattle.std.specs.Prelude.{option_map, nat_le, nat_lt, codes, decimal}
use Rattle.std.specs.Bool.{then_some}
use Rattle.std.specs.Char.{is_ascii_digit}
use Rattle.std.specs.Fmt.{signed_decimal}
use Rattle.std.specs.List.{list_any, list_all, flat_map}
use Rattle.std.proofs.lemmas.Bool.{or_from, or_parts, and_from, and_parts, eqb-true, le-leb, lt-ltb, leb-true}
use Rattle.std.proofs.lemmas.Bool.Decides.{nat_tests}
use Rattle.std.proofs.lemmas.Fmt.{decimal_by_steps, decimal_nonempty, decimal_is_IsNumeral}
use Rattle.std.proofs.lemmas.List.Folds.{list_any-append, list_all-append}
use Rattle.cedr_base.specs.declared.time.TheConstants.{FOREVER}
use Rattle.cedr_base.specs.declared.field.Field.{Field}
use Rattle.cedr_base.specs.declared.field.Field.TheVariants.{Number, Bytes}
use Rattle.cedr_base.specs.declared.field.FieldType.{FieldType}
use Rattle.cedr_base.specs.declared.field.FieldType.TheVariants as types
use Rattle.cedr_base.specs.Bytes.{comma, line_feed}
use Rattle.cedr_text.specs.Numbers.{is_numeral, whole_number, time_value, int_value, Spells}
use Rattle.cedr_text.specs.Texts.{quote, carriage_return, is_special, doubled, quoted, time_text, field_text, payload_text}
use Rattle.cedr_text.proofs.Numerals.{number_spelled, time_spelled}
use Rattle.cedr_save.specs.Checkpoints.{IsSmall, ends_line, HasType, AreTyped}

-- ---- bytes that a text doesn't have

-- no byte passes the test
abbrev pub HasNone : (ℕ → Bool) → List ℕ → Type 0
HasNone p bytes = list_any p bytes ≡ false

pub none-append : (p : ℕ → Bool) (xs ys : List ℕ) → HasNone p xs → HasNone p ys → HasNone p (xs ++ ys)
none-append p xs ys none more = list_any-append p xs ys ∙ or_from (list_any p xs) (list_any p ys) none more

pub none-cons : (p : ℕ → Bool) (b : ℕ) (bs : List ℕ) → p b ≡ false → HasNone p bs → HasNone p (b ∷ bs)
none-cons p b bs here rest = or_from (p b) (list_any p bs) here rest

-- a test of bytes that isn't of digits
abbrev pub IsNoDigit : (ℕ → Bool) → Type 0
IsNoDigit p = (c : ℕ) → 48 ≤ c → c ≤ 57 → p c ≡ false

pub digits_none : (p : ℕ → Bool) → IsNoDigit p → (n : ℕ) → n < 2 ^ 64 → HasNone p (decimal n)
digits_none p other n fits =
    decimal_by_steps (λ m ds. list_any p ds ≡ false)
    (λ m low. none-cons p (48 + m) [] (other (48 + m) (omega arith) (omega arith)) refl)
    (λ m ds high rest. none-append p ds ((48 + m % 10) ∷ []) rest (none-cons p (48 + m % 10) [] (other (48 + m % 10) (omega arith) (omega arith)) refl)) n fits

-- a number of 64 bits as text
pub signed_none : (p : ℕ → Bool) → IsNoDigit p → p 45 ≡ false → (z : ℤ) → IsSmall z → HasNone p (signed_decimal z)
signed_none p other minus (pos n) small = digits_none p other n (omega arith)
signed_none p other minus (negsuc n) small = none-cons p 45 (decimal (suc n)) minus (digits_none p other (suc n) (omega arith))

-- a test of bytes that neither digits nor the letters of `inf` pass
pub record IsNoTime (p : ℕ → Bool) : Type 0 where
  pub digits : IsNoDigit p
  pub word : HasNone p (codes "inf")

time_none_at : (p : ℕ → Bool) (t : ℕ) (b : Bool) → IsNoTime p → t ≤ FOREVER → HasNone p (cond b (codes "inf") (decimal t))
time_none_at p t true other is = other.word
time_none_at p t false other is = digits_none p other.digits t (omega arith)

pub time_none : (p : ℕ → Bool) (t : ℕ) → IsNoTime p → t ≤ FOREVER → HasNone p (time_text t)
time_none p t other is = time_none_at p t (eqb t FOREVER) other is

apart : (a b : ℕ) → (a ≡ b → ⊥) → eqb a b ≡ false
apart a b h = at (eqb a b) refl where
  at : (t : Bool) → eqb a b ≡ t → t ≡ false
  at true is = absurd (h (eqb-true a b is))
  at false is = refl

pub ends_no_digit : IsNoDigit ends_line
ends_no_digit c low high = or_from (eqb c carriage_return) (eqb c line_feed) (apart c carriage_return (λ e. omega arith)) (apart c line_feed (λ e. omega arith))

pub ends_no_time : IsNoTime ends_line
ends_no_time = record { digits = ends_no_digit; word = refl }

pub comma_no_time : IsNoTime (λ b. eqb b comma)
comma_no_time = record { digits = λ c low high. apart c comma (λ e. omega arith); word = refl }

pub quote_no_time : IsNoTime (λ b. eqb b quote)
quote_no_time = record { digits = λ c low high. apart c quote (λ e. omega arith); word = refl }

-- ---- fields in one line

doubled_at : (b : Bool) (c : ℕ) → ends_line c ≡ false → HasNone ends_line (cond b (quote ∷ quote ∷ []) (c ∷ []))
doubled_at true c none = refl
doubled_at false c none = none-cons ends_line c [] none refl

doubled_none : (text : List ℕ) → HasNone ends_line text → HasNone ends_line (flat_map doubled text)
doubled_none [] none = refl
doubled_none (b ∷ text) none =
    let parts = or_parts (ends_line b) (list_any ends_line text) none in
    none-append ends_line (doubled b) (flat_map doubled text) (doubled_at (eqb b quote) b parts.0) (doubled_none text parts.1)

quoted_none : (text : List ℕ) → HasNone ends_line text → HasNone ends_line (quoted text)
quoted_none text none = none-cons ends_line quote (flat_map doubled text ++ quote ∷ []) refl (none-append ends_line (flat_map doubled text) (quote ∷ []) (doubled_none text none) refl)

text_at : (b : Bool) (text : List ℕ) → HasNone ends_line text → HasNone ends_line (cond b (quoted text) text)
text_at true text none = quoted_none text none
text_at false text none = none

field_none : (type : FieldType) (field : Field) → HasType type field → HasNone ends_line (field_text field)
field_none types.Number (Number n) is = signed_none ends_line ends_no_digit refl n is
field_none types.Number (Bytes text) is = absurd is
field_none types.Bytes (Number n) is = absurd is
field_none types.Bytes (Bytes text) is = text_at (list_any is_special text) text is

pub payload_none : (types : List FieldType) (fields : List Field) → AreTyped types fields → HasNone ends_line (payload_text fields)
payload_none [] [] are = refl
payload_none [] (field ∷ fields) are = absurd are
payload_none (type ∷ types) [] are = absurd are
payload_none (type ∷ types) (field ∷ fields) are =
    none-append ends_line (comma ∷ field_text field) (payload_text fields) (none-cons ends_line comma (field_text field) refl (field_none type field are.0)) (payload_none types fields are.1)

-- a text in one line has no line feed, and no carriage return
pub no_ends : (bytes : List ℕ) → HasNone ends_line bytes → (list_any (λ b. eqb b carriage_return) bytes ≡ false) × (list_any (λ b. eqb b line_feed) bytes ≡ false)
no_ends [] none = (refl, refl)
no_ends (b ∷ bytes) none =
    let parts = or_parts (ends_line b) (list_any ends_line bytes) none in
    let here = or_parts (eqb b carriage_return) (eqb b line_feed) parts.0 in
    let rest = no_ends bytes parts.1 in
    (or_from (eqb b carriage_return) (list_any (λ c. eqb c carriage_return) bytes) here.0 rest.0, or_from (eqb b line_feed) (list_any (λ c. eqb c line_feed) bytes) here.1 rest.1)

-- and the other way round
pub both_ends : (bytes : List ℕ) → list_any (λ b. eqb b carriage_return) bytes ≡ false → list_any (λ b. eqb b line_feed) bytes ≡ false → HasNone ends_line bytes
both_ends [] returns feeds = refl
both_ends (b ∷ bytes) returns feeds =
    let one = or_parts (eqb b carriage_return) (list_any (λ c. eqb c carriage_return) bytes) returns in
    let other = or_parts (eqb b line_feed) (list_any (λ c. eqb c line_feed) bytes) feeds in
    none-cons ends_line b bytes (or_from (eqb b carriage_return) (eqb b line_feed) one.0 other.0) (both_ends bytes one.1 other.1)

-- ---- numbers that are read

digit_is : (m : ℕ) → m < 10 → is_ascii_digit (48 + m) ≡ true
digit_is m low = and_from (nat_le 48 (48 + m)) (nat_le (48 + m) 57) (le-leb 48 (48 + m) (omega arith)) (le-leb (48 + m) 57 (omega arith))

all_digits : (n : ℕ) → n < 2 ^ 64 → list_all is_ascii_digit (decimal n) ≡ true
all_digits n fits =
    decimal_by_steps (λ m ds. list_all is_ascii_digit ds ≡ true)
    (λ m low. and_from (is_ascii_digit (48 + m)) true (digit_is m low) refl)
    (λ m ds high rest. list_all-append is_ascii_digit ds ((48 + m % 10) ∷ []) ∙ and_from (list_all is_ascii_digit ds) (list_all is_ascii_digit ((48 + m % 10) ∷ [])) rest (and_from (is_ascii_digit (48 + m % 10)) true (digit_is (m % 10) (omega arith)) refl)) n fits

numeral_from : (ds : List ℕ) → 0 < length ds → list_all is_ascii_digit ds ≡ true → is_numeral ds ≡ true
numeral_from [] some all = absurd (omega arith)
numeral_from (c ∷ cs) some all = all

pub decimal_spells : (n : ℕ) → n < 2 ^ 64 → Spells (decimal n) n
decimal_spells n fits = record { numeral = numeral_from (decimal n) (decimal_nonempty n fits) (all_digits n fits); spelled = (decimal_is_IsNumeral n fits).1 }

some_at : (b : Bool) (n : ℕ) → b ≡ true → then_some b n ≡ Some n
some_at true n h = refl
some_at false n h = absurd (let e = h in cc)

pub whole_decimal : (last n : ℕ) → n ≤ last → n < 2 ^ 64 → whole_number last (decimal n) ≡ Some n
whole_decimal last n low fits = number_spelled last n (decimal n) (decimal_spells n fits) ∙ some_at (nat_le n last) n (le-leb n last low)

not_equal : (t : ℕ) → eqb t FOREVER ≡ false → t ≤ FOREVER → t < FOREVER
not_equal t h low = grind (arith, nat_tests)

time_at : (t : ℕ) (b : Bool) → eqb t FOREVER ≡ b → t ≤ FOREVER → time_value (cond b (codes "inf") (decimal t)) ≡ Some t
time_at t true h low = ap {B = Option ℕ} (λ (n : ℕ). Some n) (sym (eqb-true t FOREVER h))
time_at t false h low = let below = not_equal t h low in time_spelled t (decimal t) (decimal_spells t (omega arith)) ∙ some_at (nat_lt t FOREVER) t (lt-ltb t FOREVER below)

pub time_read : (t : ℕ) → t ≤ FOREVER → time_value (time_text t) ≡ Some t
time_read t low = time_at t (eqb t FOREVER) refl low

-- a finite time is its digits
pub finite_text : (t : ℕ) → t < FOREVER → time_text t ≡ decimal t
finite_text t low = ap (λ (b : Bool). cond b (codes "inf") (decimal t)) (apart t FOREVER (λ e. omega arith))

pub time_same : (s t : ℕ) → s ≤ FOREVER → t ≤ FOREVER → time_text s ≡ time_text t → s ≡ t
time_same s t low high h = some_same s t (sym (time_read s low) ∙ (ap time_value h ∙ time_read t high)) where
  some_same : (a b : ℕ) → ◌≡◌ {A = Option ℕ} (Some a) (Some b) → a ≡ b
  some_same a b e = cc

minus_at : (c : ℕ) (cs : List ℕ) (value : Option ℤ) → is_ascii_digit c ≡ true → cond (eqb c 45) value (option_map pos (whole_number (2 ^ 63 - 1) (c ∷ cs))) ≡ option_map pos (whole_number (2 ^ 63 - 1) (c ∷ cs))
minus_at c cs value digit =
    let low = leb-true 48 c (and_parts (nat_le 48 c) (nat_le c 57) digit).0 in
    ap (λ (b : Bool). cond b value (option_map pos (whole_number (2 ^ 63 - 1) (c ∷ cs)))) (apart c 45 (λ e. omega arith))

int_pos : (ds : List ℕ) (n : ℕ) → is_numeral ds ≡ true → whole_number (2 ^ 63 - 1) ds ≡ Some n → int_value ds ≡ Some (pos n)
int_pos [] n numeral is = absurd (let e = numeral in cc)
int_pos (c ∷ cs) n numeral is = minus_at c cs _ (and_parts (is_ascii_digit c) (list_all is_ascii_digit cs) numeral).0 ∙ ap (option_map pos) is

-- a number of 64 bits is read from its text
pub int_read : (z : ℤ) → IsSmall z → int_value (signed_decimal z) ≡ Some z
int_read (pos n) small = int_pos (decimal n) n (decimal_spells n (omega arith)).numeral (whole_decimal (2 ^ 63 - 1) n (omega arith) (omega arith))
int_read (negsuc n) small = ap (option_map _) (whole_decimal (2 ^ 63) (suc n) (omega arith) (omega arith))

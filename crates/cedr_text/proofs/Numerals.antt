-- The number that digits spell, digit by digit.
use Rattle.std.proofs.Common.{◌≡◌, ℕ, ◌+◌, ◌-◌, ◌*◌, ◌<◌, ◌≤◌, ◌==◌, List, [], ◌∷◌, Bool, true, false, cond, ◌&&◌, Option, None, Some, length, take, drop, get_or, refl, ap, sym, ◌∙◌, arith, add-one}
use Rattle.std.proofs.lemmas.Bool.{and_left, and_right, and_parts, leb-true, lt-leb, eqb-true, eq-eqb, false≢true, false_from_ne_true}
use Rattle.std.proofs.lemmas.Bool.Decides.{nat_tests}
use Rattle.std.proofs.lemmas.List.{take_all, get_or-take, length-take}
use Rattle.std.proofs.lemmas.List.Folds.{list_all_at}
use Rattle.std.proofs.lemmas.Slice.Eq.{bytes_eq-Decides}
use Rattle.std.proofs.lemmas.Str.{digit_value_digit}
use Rattle.std.specs.Prelude.{nat_le, nat_lt, codes}
use Rattle.std.specs.List.{list_all}
use Rattle.std.specs.Bool.{then_some}
use Rattle.std.specs.Char.{is_ascii_digit, digit_value}
use Rattle.std.specs.Str.{bytes_eq}
use Rattle.std.specs.Str.Parse.{digits_value, digits_value_after}
use Rattle.cedr_base.specs.declared.time.TheConstants.{FOREVER}
use Rattle.cedr_text.specs.Numbers.{is_numeral, whole_number, time_value, LeadsWith, Spells}
use Rattle.cedr_text.specs.Parts.{parts_of, CutsField, IsSeparator}
use Rattle.cedr_text.proofs.Cuts.{first_part, only_part}

-- what a numeral spells whose first digits spelled a number
abbrev pub number_after : ℕ → ℕ → List ℕ → Option ℕ
number_after last value digits = cond (list_all is_ascii_digit digits && nat_le (digits_value_after 10 value digits) last) (Some (digits_value_after 10 value digits)) None

-- more digits make no lesser number
after_grows : (value : ℕ) (digits : List ℕ) → value ≤ digits_value_after 10 value digits
after_grows value [] = omega arith
after_grows value (c ∷ cs) = omega (arith, after_grows (value * 10 + digit_value c) cs)

-- a test that fails makes nothing
none_at : (test : Bool) (value : ℕ) → test ≡ false → cond test (Some value) None ≡ None
none_at true value fails = cc
none_at false value fails = refl

-- a number that is too large stays so
pub number_too_large : (last value : ℕ) (digits : List ℕ) → last < value → number_after last value digits ≡ None
number_too_large last value digits over =
    let grown = digits_value_after 10 value digits in
    none_at (list_all is_ascii_digit digits && nat_le grown last) grown
    (and_right (list_all is_ascii_digit digits) (nat_le grown last) (lt-leb grown last (omega (arith, after_grows value digits))))

-- a byte that is no digit spells no number
pub number_at_other : (last value c : ℕ) (cs : List ℕ) → is_ascii_digit c ≡ false → number_after last value (c ∷ cs) ≡ None
number_at_other last value c cs other =
    let all = is_ascii_digit c && list_all is_ascii_digit cs in
    none_at (all && nat_le (digits_value_after 10 value (c ∷ cs)) last) (digits_value_after 10 value (c ∷ cs))
    (and_left all _ (and_left (is_ascii_digit c) (list_all is_ascii_digit cs) other))

-- the bytes of the digits
pub digit_range : (c : ℕ) → is_ascii_digit c ≡ true → (48 ≤ c) × (c ≤ 57)
digit_range c digit = let parts = and_parts (nat_le 48 c) (nat_le c 57) digit in (leb-true 48 c parts.0, leb-true c 57 parts.1)

-- a digit goes on
pub number_at_digit : (last value c : ℕ) (cs : List ℕ) → is_ascii_digit c ≡ true → number_after last value (c ∷ cs) ≡ number_after last (value * 10 + (c - 48)) cs
number_at_digit last value c cs digit =
    let goes : value * 10 + digit_value c ≡ value * 10 + (c - 48) = omega (arith, digit_value_digit c (digit_range c digit)) in
    ap (λ all. cond ((all && list_all is_ascii_digit cs) && nat_le (digits_value_after 10 value (c ∷ cs)) last) (Some (digits_value_after 10 value (c ∷ cs))) None) digit
    ∙ ap (λ v. number_after last v cs) goes

-- none of the digits in front is a separator
no_separator : (separator : ℕ) (text : List ℕ) (count k : ℕ) → IsSeparator separator → count ≤ length text → list_all is_ascii_digit (take count text) ≡ true → k < count
    → get_or text k 0 == separator ≡ true → ⊥
no_separator separator text count k apart within digits low found =
    let here : get_or (take count text) k 0 ≡ separator = get_or-take count text k 0 low ∙ eqb-true (get_or text k 0) separator found in
    let some : k < length (take count text) = omega (arith, length-take count text) in
    let other : is_ascii_digit separator ≡ false = false_from_ne_true (is_ascii_digit separator) (λ digit. omega (arith, apart.0, digit_range separator digit)) in
    false≢true (sym (list_all_at is_ascii_digit (take count text) k 0 some (ap is_ascii_digit here ∙ other)) ∙ digits)

-- some digits are a numeral
some_digits : (text : List ℕ) → 0 < length text → list_all is_ascii_digit text ≡ true → is_numeral text ≡ true
some_digits [] some digits = absurd (omega arith)
some_digits (c ∷ cs) some digits = digits

-- the digits in front spell their number
leading_spells : (text : List ℕ) (value count : ℕ) → LeadsWith text value count → 0 < count → Spells (take count text) value
leading_spells text value count leads some =
    record { numeral = some_digits (take count text) (omega (arith, leads.within, length-take count text)) leads.digits; spelled = leads.spelled }

-- where a separator stands behind the digits in front, they are the first field
pub cuts_at_separator : (separator : ℕ) (text : List ℕ) (value count : ℕ) → IsSeparator separator → LeadsWith text value count → 0 < count → count < length text
    → get_or text count 0 ≡ separator → CutsField (parts_of separator text) (parts_of separator (drop (count + 1) text)) (λ field. Spells field value)
cuts_at_separator separator text value count apart leads some within here =
    record {
      field = take count text;
      parts_are = first_part (λ b. b == separator) text count within (λ k low. no_separator separator text count k apart leads.within leads.digits low) (eq-eqb (get_or text count 0) separator here)
          ∙ ap (λ n. take count text ∷ parts_of separator (drop n text)) (sym (add-one count));
      holds = leading_spells text value count leads some;
    }

-- where nothing stands behind the digits in front, they are the one field
pub cuts_at_end : (separator : ℕ) (text : List ℕ) (value count : ℕ) → IsSeparator separator → LeadsWith text value count → 0 < count → count ≡ length text
    → CutsField (parts_of separator text) [] (λ field. Spells field value)
cuts_at_end separator text value count apart leads some whole =
    record {
      field = take count text;
      parts_are = only_part (λ b. b == separator) text (λ k low. no_separator separator text count k apart leads.within leads.digits (omega arith))
          ∙ ap (λ field. field ∷ []) (sym (take_all count text (omega arith)));
      holds = leading_spells text value count leads some;
    }

some_at : (test : Bool) (value : ℕ) → cond test (Some value) None ≡ then_some test value
some_at true value = refl
some_at false value = refl

-- the number that a numeral spells counts where it isn't too large
pub number_spelled : (last value : ℕ) (field : List ℕ) → Spells field value → whole_number last field ≡ then_some (nat_le value last) value
number_spelled last value field spells =
    ap (λ numeral. cond (numeral && nat_le (digits_value 10 field) last) (Some (digits_value 10 field)) None) spells.numeral
    ∙ ap (λ n. cond (nat_le n last) (Some n) None) spells.spelled
    ∙ some_at (nat_le value last) value

-- a numeral isn't `inf`
not_word : (field : List ℕ) → is_numeral field ≡ true → bytes_eq field (codes "inf") ≡ true → ⊥
not_word field numeral is = false≢true (sym (ap is_numeral ((bytes_eq-Decides field (codes "inf")).0 is)) ∙ numeral)

finite_is : (value : ℕ) → nat_le value (FOREVER - 1) ≡ nat_lt value FOREVER
finite_is value = grind (arith, nat_tests)

-- the time that a numeral spells counts where it is finite
pub time_spelled : (value : ℕ) (field : List ℕ) → Spells field value → time_value field ≡ then_some (nat_lt value FOREVER) value
time_spelled value field spells =
    ap (λ word. cond word (Some FOREVER) (whole_number (FOREVER - 1) field)) (false_from_ne_true (bytes_eq field (codes "inf")) (not_word field spells.numeral))
    ∙ number_spelled (FOREVER - 1) value field spells
    ∙ ap (λ finite. then_some finite value) (finite_is value)

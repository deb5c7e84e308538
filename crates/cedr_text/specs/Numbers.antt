-- The forms of ids and times.
use Rattle.std.specs.Prelude.{ℕ, ℤ, ◌≡◌, ◌≤◌, pos, neg_ℤ, option_map, ◌==◌, ◌-◌, ◌^◌, ◌&&◌, Bool, false, nat_le, List, [], ◌∷◌, Option, None, Some, true, length, take, if◌then◌else◌, codes}
use Rattle.std.specs.List.{list_all}
use Rattle.std.specs.Char.{is_ascii_digit}
use Rattle.std.specs.Str.{bytes_eq}
use Rattle.std.specs.Str.Parse.{digits_value}
use Rattle.cedr_base.specs.declared.time.TheConstants.{FOREVER}

-- one digit or more
abbrev pub is_numeral : List ℕ → Bool
is_numeral [] = false
is_numeral (c ∷ cs) = list_all is_ascii_digit (c ∷ cs)

-- the number that the digits spell, where it is at most this one
abbrev pub whole_number : ℕ → List ℕ → Option ℕ
whole_number last text = if is_numeral text && nat_le (digits_value 10 text) last then Some (digits_value 10 text) else None

-- an id has 64 bits
abbrev pub id_value : List ℕ → Option ℕ
id_value text = whole_number (2 ^ 64 - 1) text

-- a finite time, as a begin has to be
abbrev pub begin_value : List ℕ → Option ℕ
begin_value text = whole_number (FOREVER - 1) text

-- a finite time, or `inf`
abbrev pub time_value : List ℕ → Option ℕ
time_value text = if bytes_eq text (codes "inf") then Some FOREVER else whole_number (FOREVER - 1) text

-- minus a number
abbrev pub negated : ℕ → ℤ
negated n = neg_ℤ (pos n)

-- a number of 64 bits with sign, whose `-` stands before its digits
abbrev pub int_value : List ℕ → Option ℤ
int_value [] = None
int_value (c ∷ digits) = if c == 45 then option_map negated (whole_number (2 ^ 63) digits) else option_map pos (whole_number (2 ^ 63 - 1) (c ∷ digits))

-- a text begins with so many digits, which spell this number
pub record LeadsWith (text : List ℕ) (value count : ℕ) : Type 0 where
  pub within : count ≤ length text
  pub digits : list_all is_ascii_digit (take count text) ≡ true
  pub spelled : digits_value 10 (take count text) ≡ value

-- a text is a numeral, and spells this number
pub record Spells (text : List ℕ) (value : ℕ) : Type 0 where
  pub numeral : is_numeral text ≡ true
  pub spelled : digits_value 10 text ≡ value

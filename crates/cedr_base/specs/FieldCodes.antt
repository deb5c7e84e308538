-- Fields and payloads as strings of bytes. Codes compare byte by byte as the fields do, and no field's code begins another's.
use Rattle.std.specs.Prelude.{ℕ, zero, suc, ◌+◌, ◌-◌, ◌^◌, List, [], ◌∷◌, ◌++◌, Bool, true, false, cond, nat_eq, nat_lt, ℤ, pos, negsuc, FitsSigned, All, Option, Some, None}
use Rattle.std.specs.Int.{w128, cast_unsigned, bytes_high_first}
use Rattle.cedr_base.specs.declared.field.Field.{Field}
use Rattle.cedr_base.specs.declared.field.Field.TheVariants.{Number, Bytes}

-- how many bytes n takes without leading zeros, of k at most
unfoldable pub byte_width : ℕ → ℕ → ℕ
byte_width zero n = 0
byte_width (suc k) n = cond (nat_lt n (256 ^ k)) (byte_width k n) (suc k)

-- what a number's width counts: the number itself, and for a negative one the complement of its bits
abbrev pub number_size : ℤ → ℕ
number_size (pos n) = n
number_size (negsuc n) = n

abbrev pub number_width : ℤ → ℕ
number_width n = byte_width 16 (number_size n)

-- the first byte of a number's code, which tells its sign and its width: negative numbers are below 32
abbrev pub number_tag : ℤ → ℕ
number_tag (pos n) = 32 + byte_width 16 n
number_tag (negsuc n) = 31 - byte_width 16 n

-- the tag, and then the lowest bytes of the number's bits, the highest of them first
abbrev pub number_code : ℤ → List ℕ
number_code n = number_tag n ∷ bytes_high_first (number_width n) (cast_unsigned w128 n)

-- the first byte of a text's code, above each number's
abbrev pub text_tag : ℕ
text_tag = 64

-- the bytes 0 and 1 take two bytes, so that a 0 can end a text
abbrev pub escaped_byte : ℕ → List ℕ
escaped_byte b = cond (nat_lt b 2) (1 ∷ (b + 1) ∷ []) (b ∷ [])

abbrev pub escaped : List ℕ → List ℕ
escaped [] = []
escaped (b ∷ bs) = escaped_byte b ++ escaped bs

-- the tag, the bytes, and a 0
abbrev pub text_code : List ℕ → List ℕ
text_code bs = text_tag ∷ escaped bs ++ 0 ∷ []

abbrev pub field_code : Field → List ℕ
field_code (Number n) = number_code n
field_code (Bytes bs) = text_code bs

-- the codes of the fields in their order
abbrev pub payload_code : List Field → List ℕ
payload_code [] = []
payload_code (f ∷ fs) = field_code f ++ payload_code fs

-- whether a field is a number
abbrev pub is_numeric : Field → Bool
is_numeric (Number n) = true
is_numeric (Bytes bs) = false

-- the number that a field is, if it is one
abbrev pub number_in : Field → Option ℤ
number_in (Number n) = Some n
number_in (Bytes bs) = None

-- what a field in memory can hold
abbrev pub FitsField : Field → Type 0
FitsField (Number n) = FitsSigned w128 n
FitsField (Bytes bs) = Unit {0}

abbrev pub FitFields : List Field → Type 0
FitFields = All FitsField

-- the bytes of a text before the 0 that ends its code; after a 1 stands a byte that is one less
abbrev pub unescaped : Bool → List ℕ → List ℕ
unescaped after_one [] = []
unescaped true (b ∷ bs) = (b - 1) ∷ unescaped false bs
unescaped false (b ∷ bs) = cond (nat_eq b 0) [] (cond (nat_eq b 1) (unescaped true bs) (b ∷ unescaped false bs))

-- Payloads as they stand in memory: the code of their fields, and how many these are.
use Rattle.std.specs.Prelude.{ℕ, ◌≡◌, ◌≤◌, List, length, take}
use Rattle.std.specs.Arc.{arc_value}
use Rattle.cedr_base.specs.declared.field.Field.{Field}
use Rattle.cedr_base.specs.declared.code_bytes.CodeBytes.{CodeBytes}
use Rattle.cedr_base.specs.declared.code_bytes.CodeBytes.TheVariants.{Short, Long}
use Rattle.cedr_base.specs.FieldCodes.{FitsField, FitFields, field_code, payload_code}

-- the bytes of the code
abbrev pub stored_code : CodeBytes → List ℕ
stored_code (Short bytes len width) = take len bytes
stored_code (Long bytes width) = (arc_value bytes).items

-- how many fields it is the code of
abbrev pub stored_width : CodeBytes → ℕ
stored_width (Short bytes len width) = width
stored_width (Long bytes width) = width

-- what stands in place has room there
abbrev pub HasRoom : CodeBytes → Type 0
HasRoom (Short bytes len width) = len ≤ 29
HasRoom (Long bytes width) = Unit {0}

-- some bytes stand there with this width
abbrev pub IsStoredAs : CodeBytes → List ℕ → ℕ → Type 0
IsStoredAs bytes code width = (stored_code bytes ≡ code) × (stored_width bytes ≡ width) × HasRoom bytes

-- some bytes are the code of these fields
abbrev pub StoresFields : CodeBytes → List Field → Type 0
StoresFields bytes fields = FitFields fields × (stored_code bytes ≡ payload_code fields) × (stored_width bytes ≡ length fields) × HasRoom bytes

-- and of this field
abbrev pub IsCodeOf : List ℕ → Field → Type 0
IsCodeOf bytes field = FitsField field × (bytes ≡ field_code field)

-- and of these
abbrev pub AreCodesOf : List ℕ → List Field → Type 0
AreCodesOf bytes fields = FitFields fields × (bytes ≡ payload_code fields)

-- and of so many
abbrev pub AreWritten : List ℕ → ℕ → List Field → Type 0
AreWritten bytes width fields = FitFields fields × (bytes ≡ payload_code fields) × (width ≡ length fields)

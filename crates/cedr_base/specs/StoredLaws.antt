-- The bytes of a payload or of a field say which fields these are.
use Rattle.std.specs.Prelude.{ℕ, ◌≡◌, List, []}
use Rattle.std.proofs.Common.{sym, ◌∙◌, append-nil}
use Rattle.std.proofs.Props.{props}
use Rattle.std.specs.Coded.{×_prop, Π_prop, Unit-prop, le_prop}
use mathlib.Core.HLevel.{Σ_prop_path}
use Rattle.cedr_base.specs.declared.field.Field.{Field}
use Rattle.cedr_base.specs.declared.field.Field.TheVariants.{Number, Bytes}
use Rattle.cedr_base.specs.declared.code_bytes.CodeBytes.{CodeBytes}
use Rattle.cedr_base.specs.declared.code_bytes.CodeBytes.TheVariants.{Short, Long}
use Rattle.cedr_base.specs.FieldCodes.{FitsField, FitFields, field_code, payload_code}
use Rattle.cedr_base.specs.Stored.{HasRoom, StoresFields, IsCodeOf, AreCodesOf, AreWritten}
use Rattle.cedr_base.specs.CodeLaws.{code_exact, code_prefix_free}

FitsField-prop : (f : Field) → IsProp (FitsField f)
FitsField-prop (Number n) = Prim.hlevel props
FitsField-prop (Bytes t) = Unit-prop

FitFields-prop : (fs : List Field) → IsProp (FitFields fs)
FitFields-prop fs = Π_prop (λ k. Π_prop (λ d. Π_prop (λ low. FitsField-prop _)))

HasRoom-prop : (b : CodeBytes) → IsProp (HasRoom b)
HasRoom-prop (Short bytes len width) = le_prop
HasRoom-prop (Long bytes width) = Unit-prop

same_bytes : (xs ys : List ℕ) → IsProp (xs ≡ ys)
same_bytes xs ys = Prim.hlevel props

same_numbers : (m n : ℕ) → IsProp (m ≡ n)
same_numbers m n = Prim.hlevel props

IsCodeOf-prop : (bytes : List ℕ) (f : Field) → IsProp (IsCodeOf bytes f)
IsCodeOf-prop bytes f = ×_prop (FitsField-prop f) (same_bytes bytes (field_code f))

AreCodesOf-prop : (bytes : List ℕ) (fs : List Field) → IsProp (AreCodesOf bytes fs)
AreCodesOf-prop bytes fs = ×_prop (FitFields-prop fs) (same_bytes bytes (payload_code fs))

StoresFields-prop : (b : CodeBytes) (fs : List Field) → IsProp (StoresFields b fs)
StoresFields-prop b fs = Prim.hlevel (FitFields-prop fs, same_bytes, same_numbers, HasRoom-prop b)

AreWritten-prop : (bytes : List ℕ) (width : ℕ) (fs : List Field) → IsProp (AreWritten bytes width fs)
AreWritten-prop bytes width fs = Prim.hlevel (FitFields-prop fs, same_bytes, same_numbers)

-- no two fields have one code
pub field_exact : (f g : Field) → FitsField f → FitsField g → field_code f ≡ field_code g → f ≡ g
field_exact f g fits_f fits_g same =
    (code_prefix_free f g [] [] fits_f fits_g (append-nil (field_code f) ∙ same ∙ sym (append-nil (field_code g)))).0

-- what bytes are the code of is determined
pub one_field : (bytes : List ℕ) → IsProp ((f : Field) × IsCodeOf bytes f)
one_field bytes u v = Σ_prop_path (IsCodeOf-prop bytes) (field_exact u.0 v.0 u.1.0 v.1.0 (sym u.1.1 ∙ v.1.1))

pub fields_of_codes : (bytes : List ℕ) → IsProp ((fs : List Field) × AreCodesOf bytes fs)
fields_of_codes bytes u v = Σ_prop_path (AreCodesOf-prop bytes) (code_exact u.0 v.0 u.1.0 v.1.0 (sym u.1.1 ∙ v.1.1))

pub stored_fields : (b : CodeBytes) → IsProp ((fs : List Field) × StoresFields b fs)
stored_fields b u v = Σ_prop_path (StoresFields-prop b) (code_exact u.0 v.0 u.1.0 v.1.0 (sym u.1.1 ∙ v.1.1))

pub written_fields : (bytes : List ℕ) (width : ℕ) → IsProp ((fs : List Field) × AreWritten bytes width fs)
written_fields bytes width u v = Σ_prop_path (AreWritten-prop bytes width) (code_exact u.0 v.0 u.1.0 v.1.0 (sym u.1.1 ∙ v.1.1))

-- What the bytes of a payload or of a field are the code of.
use Rattle.std.proofs.Common.{◌≡◌, ℕ, zero, suc, ◌<◌, ◌≤◌, ◌+◌, ◌-◌, ◌++◌, List, [], ◌∷◌, length, take, drop, ap, ap₂, sym, ◌∙◌, refl, subst, arith, length-append, append-nil}
use Rattle.std.proofs.Math.Seq.{take-append_seam, drop-append_seam, drop-nil}
use Rattle.std.proofs.lemmas.List.Elements.{All-nil, All-cons, All-append, All-head, All-tail}
use Rattle.cedr_base.specs.declared.field.Field.{Field}
use Rattle.cedr_base.specs.declared.field.Field.TheVariants.{Number, Bytes}
use Rattle.cedr_base.specs.declared.code_bytes.CodeBytes.{CodeBytes}
use Rattle.cedr_base.specs.FieldCodes.{FitsField, FitFields, field_code, payload_code}
use Rattle.cedr_base.specs.CodeLaws.{code_joined}
use Rattle.cedr_base.specs.Stored.{IsStoredAs, StoresFields, IsCodeOf, AreCodesOf, AreWritten}
use Rattle.cedr_base.specs.StoredLaws.{stored_fields, one_field, fields_of_codes, written_fields}
use Rattle.cedr_base.proofs.FieldBytes.{tail_of}

-- whatever fields a payload is known to hold, they are these
pub given_stored : (b : CodeBytes) (given : (fs : List Field) × StoresFields b fs) (fs : List Field) → StoresFields b fs → given.0 ≡ fs
given_stored b given fs holds = ap (λ u. u.0) (stored_fields b given (fs, holds))

pub given_field : (bytes : List ℕ) (given : (f : Field) × IsCodeOf bytes f) (f : Field) → IsCodeOf bytes f → given.0 ≡ f
given_field bytes given f holds = ap (λ u. u.0) (one_field bytes given (f, holds))

pub given_codes : (bytes : List ℕ) (given : (fs : List Field) × AreCodesOf bytes fs) (fs : List Field) → AreCodesOf bytes fs → given.0 ≡ fs
given_codes bytes given fs holds = ap (λ u. u.0) (fields_of_codes bytes given (fs, holds))

pub given_written : (bytes : List ℕ) (width : ℕ) (given : (fs : List Field) × AreWritten bytes width fs) (fs : List Field) → AreWritten bytes width fs → given.0 ≡ fs
given_written bytes width given fs holds = ap (λ u. u.0) (written_fields bytes width given (fs, holds))

-- a field takes a byte or more
field_takes : (f : Field) → 1 ≤ length (field_code f)
field_takes (Number n) = omega arith
field_takes (Bytes t) = omega arith

-- there are no more fields than bytes
pub code_is_long : (fs : List Field) → length fs ≤ length (payload_code fs)
code_is_long [] = omega arith
code_is_long (f ∷ fs) = omega (arith, field_takes f, code_is_long fs, length-append (field_code f) (payload_code fs))

-- no bytes are the code of no fields
pub no_codes : (bytes : List ℕ) (fs : List Field) → AreCodesOf bytes fs → length bytes ≡ 0 → fs ≡ []
no_codes bytes [] h none = refl
no_codes bytes (f ∷ fs) h none = absurd (omega (arith, none, ap length h.1, code_is_long (f ∷ fs)))

-- what is written behind other fields
pub all_written : (old new : List ℕ) (width more : ℕ) (fs gs : List Field) → AreWritten old width fs → FitFields gs → new ≡ old ++ payload_code gs → more ≡ length gs → AreWritten new (width + more) (fs ++ gs)
all_written old new width more fs gs h fits made counted =
    (All-append FitsField fs gs h.0 fits, made ∙ ap (λ xs. xs ++ payload_code gs) h.1 ∙ sym (code_joined fs gs), ap₂ (λ m n. m + n) h.2 counted ∙ sym (length-append fs gs))

pub one_written : (old new : List ℕ) (width : ℕ) (fs : List Field) (f : Field) → AreWritten old width fs → FitsField f → new ≡ old ++ field_code f → AreWritten new (width + 1) (fs ++ f ∷ [])
one_written old new width fs f h fits made =
    all_written old new width 1 fs (f ∷ []) h (All-cons FitsField f [] fits (All-nil FitsField)) (made ∙ ap (λ xs. old ++ xs) (sym (append-nil (field_code f)))) refl

-- what was written is as long as it has fields
pub written_wide : (code : List ℕ) (width : ℕ) (fs : List Field) → AreWritten code width fs → width ≤ length code
written_wide code width fs h = omega (arith, h.2, ap length h.1, code_is_long fs)

pub wide_enough : (code : List ℕ) (width : ℕ) (fs gs : List Field) → code ≡ payload_code fs ++ payload_code gs → width ≡ length fs + length gs → width ≤ length code
wide_enough code width fs gs made wide = omega (arith, wide, ap length made, length-append (payload_code fs) (payload_code gs), code_is_long fs, code_is_long gs)

-- what was written, as it is stored
pub stored_as : (b : CodeBytes) (code : List ℕ) (width : ℕ) (fs : List Field) → IsStoredAs b code width → AreWritten code width fs → StoresFields b fs
stored_as b code width fs is h = (h.0, is.0 ∙ h.1, is.1 ∙ h.2, is.2)

-- two payloads, one behind the other
pub stored_joined : (b : CodeBytes) (code : List ℕ) (width : ℕ) (fs gs : List Field) → IsStoredAs b code width → FitFields fs → FitFields gs → code ≡ payload_code fs ++ payload_code gs → width ≡ length fs + length gs → StoresFields b (fs ++ gs)
stored_joined b code width fs gs is fits_f fits_g made wide =
    (All-append FitsField fs gs fits_f fits_g, is.0 ∙ made ∙ sym (code_joined fs gs), is.1 ∙ wide ∙ sym (length-append fs gs), is.2)

-- the code of the first of some fields, and those of the others
pub record FirstCode (bytes : List ℕ) (n : ℕ) (fs : List Field) : Type 0 where
  pub first : Field
  pub others : List Field
  pub are : fs ≡ first ∷ others
  pub this : IsCodeOf (take n bytes) first
  pub those : AreCodesOf (take (length bytes - n) (drop n bytes)) others

pub first_code : (bytes : List ℕ) (n : ℕ) (fs : List Field) → AreCodesOf bytes fs → 0 < length bytes → ((f : Field) (rest : List ℕ) → bytes ≡ field_code f ++ rest → n ≡ length (field_code f)) → FirstCode bytes n fs
first_code bytes n [] h some first = absurd (omega (arith, some, ap length h.1))
first_code bytes n (f ∷ fs) h some first =
    let long : n ≡ length (field_code f) = first f (payload_code fs) h.1 in
    let this : take n bytes ≡ field_code f = ap₂ take long h.1 ∙ take-append_seam (field_code f) (payload_code fs) in
    let those : drop n bytes ≡ payload_code fs = ap₂ drop long h.1 ∙ drop-append_seam (field_code f) (payload_code fs) in
    record { first = f; others = fs; are = refl; this = (All-head FitsField f fs h.0, this); those = (All-tail FitsField f fs h.0, tail_of bytes n ∙ those) }

-- one turn of `behind`
pub one_passed : (bytes : List ℕ) (n before : ℕ) (fs whole : List Field) → AreCodesOf bytes fs → 0 < length bytes → 0 < before → ((f : Field) (rest : List ℕ) → bytes ≡ field_code f ++ rest → n ≡ length (field_code f)) → drop before fs ≡ whole → (gs : List Field) × (AreCodesOf (take (length bytes - n) (drop n bytes)) gs × (drop (before - 1) gs ≡ whole))
one_passed bytes n zero fs whole h some more first is = absurd (omega arith)
one_passed bytes n (suc before) fs whole h some more first is =
    let found = first_code bytes n fs h some first in
    let less : suc before - 1 ≡ before = omega arith in
    (found.others, (found.those, ap (λ k. drop k found.others) less ∙ ap (drop (suc before)) (sym found.are) ∙ is))

-- what is left behind fields that aren't there
pub none_left : (bytes : List ℕ) (before : ℕ) (fs whole : List Field) → AreCodesOf bytes fs → drop before fs ≡ whole → length bytes ≡ 0 → AreCodesOf bytes whole
none_left bytes before fs whole h is none =
    let nothing = no_codes bytes fs h none in
    subst (AreCodesOf bytes) (nothing ∙ sym (drop-nil before) ∙ ap (drop before) (sym nothing) ∙ is) h

-- What is read of a field where it stands.
use Rattle.std.proofs.Common.{◌≡◌, ℕ, ◌<◌, ◌≤◌, ◌+◌, ◌-◌, ◌++◌, List, [], ◌∷◌, length, take, drop, get_or, ap, ap₂, sym, ◌∙◌, refl, arith, length-append, append-nil, false, ltb, lt-ltb, le-ltb, Option, Some, None, ℤ, FitsSigned}
use Rattle.std.specs.Int.{w128}
use Rattle.std.specs.declared.cmp.Ordering.{Ordering}
use Rattle.std.specs.declared.cmp.Ordering.TheVariants.{Less, Equal, Greater}
use Rattle.std.specs.Ordering.{ordering_then}
use Rattle.std.proofs.Math.Seq.{drop-append_seam}
use Rattle.cedr_base.specs.declared.field.Field.{Field}
use Rattle.cedr_base.specs.declared.field.Field.TheVariants.{Number, Bytes}
use Rattle.cedr_base.specs.Order.{text_cmp, field_cmp}
use Rattle.cedr_base.specs.FieldCodes.{FitsField, field_code, number_code, text_code, escaped, unescaped, is_numeric, number_in}
use Rattle.cedr_base.specs.CodeLaws.{tag_low, field_order}
use Rattle.cedr_base.specs.Stored.{IsCodeOf}
use Rattle.cedr_base.proofs.FieldBytes.{tail_of}
use Rattle.cedr_base.proofs.FieldReading.{plain_run, unescaped_text}

-- the first byte tells a number from a text
pub tag_tells : (bytes : List ℕ) (tag : ℕ) (f : Field) → IsCodeOf bytes f → tag ≡ get_or bytes 0 0 → ltb tag 64 ≡ is_numeric f
tag_tells bytes tag (Number n) h first = lt-ltb tag 64 (omega (arith, tag_low n, first, ap (λ xs. get_or xs 0 0) h.1))
tag_tells bytes tag (Bytes t) h first = le-ltb tag 64 (omega (arith, first, ap (λ xs. get_or xs 0 0) h.1))

-- what `read_number` reads
pub number_read : (bytes : List ℕ) (read : Option ℤ) (f : Field) → IsCodeOf bytes f → ((n : ℤ) (rest : List ℕ) → FitsSigned w128 n → bytes ≡ number_code n ++ rest → read ≡ Some n) → ((t rest : List ℕ) → bytes ≡ text_code t ++ rest → read ≡ None) → read ≡ number_in f
number_read bytes read (Number n) h number text = number n [] h.0 (h.1 ∙ sym (append-nil (number_code n)))
number_read bytes read (Bytes t) h number text = text t [] (h.1 ∙ sym (append-nil (text_code t)))

-- a text's code begins with itself
pub text_begins : (bytes : List ℕ) (f : Field) (text : List ℕ) → IsCodeOf bytes f → f ≡ Bytes text → bytes ≡ text_code text ++ []
text_begins bytes f text h is = h.1 ∙ ap field_code is ∙ sym (append-nil (text_code text))

-- what isn't a number is a text
pub text_of : (f : Field) → None ≡ number_in f → (t : List ℕ) × (f ≡ Bytes t)
text_of (Number n) none = cc
text_of (Bytes t) none = (t, refl)

-- a text that stands as it is
pub plain_is_text : (bytes rest : List ℕ) (tag run : ℕ) (f : Field) → bytes ≡ field_code f → tag ≡ get_or bytes 0 0 → tag ≡ 64 → rest ≡ take (length bytes - 1) (drop 1 bytes) → run + 1 ≡ length rest → ((k : ℕ) → k < run → 2 ≤ get_or rest k 0) → f ≡ Bytes (take run rest)
plain_is_text bytes rest tag run (Number n) is first text rest_is all plain = absurd (omega (arith, tag_low n, first, text, ap (λ xs. get_or xs 0 0) is))
plain_is_text bytes rest tag run (Bytes t) is first text rest_is all plain =
    let body : rest ≡ escaped t ++ 0 ∷ [] = rest_is ∙ tail_of bytes 1 ∙ ap (drop 1) is in
    let run_is : run ≡ length (escaped t) = omega (arith, ap length body, length-append (escaped t) (0 ∷ []), all) in
    let last : drop run rest ≡ 0 ∷ [] = ap₂ drop run_is body ∙ drop-append_seam (escaped t) (0 ∷ []) in
    let read : unescaped false rest ≡ t = ap (unescaped false) body ∙ unescaped_text t [] in
    let whole : unescaped false rest ≡ take run rest = plain_run rest run (omega (arith, all)) plain ∙ ap (λ xs. take run rest ++ unescaped false xs) last ∙ append-nil (take run rest) in
    ap (λ xs. Bytes xs) (sym read ∙ whole)

-- nothing is left to compare
then_nothing : (o : Ordering) → ordering_then o Equal ≡ o
then_nothing Less = refl
then_nothing Equal = refl
then_nothing Greater = refl

-- codes of fields compare as the fields
pub one_field_order : (f g : Field) → FitsField f → FitsField g → text_cmp (field_code f) (field_code g) ≡ field_cmp f g
one_field_order f g fits_f fits_g =
    ap₂ text_cmp (sym (append-nil (field_code f))) (sym (append-nil (field_code g))) ∙ field_order f g [] [] fits_f fits_g ∙ then_nothing (field_cmp f g)

-- Lines that are in no form, by the parts between their separators.
use Rattle.std.proofs.Common.{◌≡◌, ◌≢◌, ◌<◌, ◌==◌, ℕ, List, [], ◌∷◌, Bool, true, false, cond, length, get_or, Err, refl, ap, ◌∙◌, arith}
use Rattle.std.specs.List.{onto_first}
use Rattle.std.specs.Prelude.{codes}
use Rattle.std.specs.Str.{bytes_eq}
use Rattle.std.proofs.Math.Bool.{and-false}
use Rattle.std.proofs.lemmas.Bool.{ne_eqb}
use Rattle.std.proofs.lemmas.List.Splits.{slice_split-cons_no}
use Rattle.cedr_text.specs.declared.event_line.Shape.{Shape}
use Rattle.cedr_text.specs.declared.fault.LineFault.TheVariants.{BadForm}
use Rattle.cedr_text.specs.Parts.{parts_of}
use Rattle.cedr_text.specs.Reading.{event_of, retraction, guarantee}
use Rattle.cedr_text.proofs.LineLemmas.{some_at}

-- a text has a first part
pub first_of : (separator : ℕ) (text : List ℕ) → (q : List ℕ) × (qs : List (List ℕ)) × (parts_of separator text ≡ q ∷ qs)
first_of separator [] = ([], [], refl)
first_of separator (b ∷ text) = some_at (b == separator) b (parts_of separator text)

-- a retraction that goes on after its end
pub retraction_long : (separator : ℕ) (parts : List (List ℕ)) (id end more : List ℕ) → parts ≡ id ∷ end ∷ parts_of separator more → retraction parts ≡ Err BadForm
retraction_long separator parts id end more are = ap retraction (are ∙ ap (λ rest. id ∷ end ∷ rest) (first_of separator more).2)

-- a guarantee that goes on after its time
pub guarantee_long : (separator : ℕ) (parts : List (List ℕ)) (time more : List ℕ) → parts ≡ time ∷ parts_of separator more → guarantee parts ≡ Err BadForm
guarantee_long separator parts time more are = ap guarantee (are ∙ ap (λ rest. time ∷ rest) (first_of separator more).2)

module _ (shape : Shape) where
  -- a first field that is no kind of line
  other_kind : (kind : List ℕ) (fields : List (List ℕ)) → bytes_eq kind (codes "+") ≡ false → bytes_eq kind (codes "-") ≡ false → bytes_eq kind (codes "=") ≡ false
      → bytes_eq kind (codes "~") ≡ false → event_of shape (kind ∷ fields) ≡ Err BadForm
  other_kind kind fields no_plus no_minus no_equals no_tilde = rw (no_plus, no_minus, no_equals, no_tilde) refl

  -- a kind of line with nothing behind it is in no form, as any other text
  no_fields : (plus minus equals tilde : Bool) → cond plus (Err BadForm) (cond minus (Err BadForm) (cond equals (Err BadForm) (cond tilde (Err BadForm) (Err BadForm)))) ≡ event_of shape []
  no_fields true minus equals tilde = refl
  no_fields false true equals tilde = refl
  no_fields false false true tilde = refl
  no_fields false false false true = refl
  no_fields false false false false = refl

  one_at : (test : Bool) (kind : ℕ) → event_of shape (cond test ([] ∷ [] ∷ []) ((kind ∷ []) ∷ [])) ≡ Err BadForm
  one_at true kind = refl
  one_at false kind = no_fields (bytes_eq (kind ∷ []) (codes "+")) (bytes_eq (kind ∷ []) (codes "-")) (bytes_eq (kind ∷ []) (codes "=")) (bytes_eq (kind ∷ []) (codes "~"))

  long_at : (test : Bool) (kind next : ℕ) (part : List ℕ) (parts : List (List ℕ)) → event_of shape (cond test ([] ∷ (next ∷ part) ∷ parts) ((kind ∷ next ∷ part) ∷ parts)) ≡ Err BadForm
  long_at true kind next part parts = refl
  long_at false kind next part parts = other_kind (kind ∷ next ∷ part) parts (and-false (kind == 43)) (and-false (kind == 45)) (and-false (kind == 61)) (and-false (kind == 126))

  module _ (separator : ℕ) where
    -- a line with fewer than two bytes
    pub short_line : (line : List ℕ) → length line < 2 → event_of shape (parts_of separator line) ≡ Err BadForm
    short_line [] short = refl
    short_line (kind ∷ []) short = one_at (kind == separator) kind
    short_line (kind ∷ next ∷ line) short = absurd (omega arith)

    -- a line whose second byte is no separator
    pub other_second : (line : List ℕ) → get_or line 1 0 ≢ separator → event_of shape (parts_of separator line) ≡ Err BadForm
    other_second [] other = refl
    other_second (kind ∷ []) other = one_at (kind == separator) kind
    other_second (kind ∷ next ∷ line) other =
        let rest = first_of separator line in
        ap (λ parts. event_of shape (cond (kind == separator) ([] ∷ parts) (onto_first kind parts))) (slice_split-cons_no (λ b. b == separator) next line (ne_eqb next separator other) ∙ ap (onto_first next) rest.2)
        ∙ long_at (kind == separator) kind next rest.0 rest.1

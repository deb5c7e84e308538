-- The number that is read from bytes which are its digits.
use Rattle.std.proofs.Common.{◌≡◌, ◌≢◌, ◌⊎◌, inl, inr, refl, append-nil, false, suc, ℕ, ◌<◌, ◌≤◌, ◌^◌, List, [], ◌∷◌, ◌++◌, length, true, eqb, Option, Some, None, ap, sym, ◌∙◌, subst, arith}
use Rattle.std.specs.Prelude.{decimal}
use Rattle.std.proofs.lemmas.Bool.{eqb-true, cases_lt}
use Rattle.cedr_base.specs.Bytes.{comma}
use Rattle.cedr_text.specs.Numbers.{whole_number}
use Rattle.cedr_text.specs.Parts.{parts_of, CutsField}
use Rattle.cedr_save.specs.Fronts.{IsHighest, FindsHighest}
use Rattle.cedr_save.proofs.NumberFronts.{IsNumberFront, number_front, front_text, digits_some}
use Rattle.cedr_save.proofs.ListLemmas.{first_same, part_alone}
use Rattle.cedr_save.proofs.TextLemmas.{digits_none, comma_no_time, whole_decimal}

pub digits_read : (last n : ℕ) (text : List ℕ) (found : Option ℕ) (left : List (List ℕ)) → n ≤ last → last < 2 ^ 64 → text ≡ decimal n → CutsField (parts_of comma text) left (λ field. found ≡ whole_number last field) → found ≡ Some n
digits_read last n text found left low fits is cut =
    let parts : parts_of comma text ≡ decimal n ∷ [] = ap (parts_of comma) is ∙ part_alone comma (decimal n) (digits_none (λ b. eqb b comma) comma_no_time.digits n (omega arith)) in
    cut.holds ∙ (ap (whole_number last) (first_same cut.field (decimal n) left [] (sym cut.parts_are ∙ parts)) ∙ whole_decimal last n low (omega arith))

pub not_none : (n : ℕ) (found : Option ℕ) → found ≡ Some n → found ≡ None → ⊥
not_none n found some none = let e = sym some ∙ none in cc

some_same : (a b : ℕ) → ◌≡◌ {A = Option ℕ} (Some a) (Some b) → a ≡ b
some_same a b e = cc

-- an empty text is one that all digits begin with
pub empty_highest : (text : List ℕ) (last : ℕ) → true ≡ eqb (length text) 0 → FindsHighest (Some last) text last
empty_highest [] last none = λ number rest low is. (low, (decimal last, refl))
empty_highest (b ∷ text) last none = absurd (let e = eqb-true (suc (length text)) 0 (sym none) in omega arith)

pub not_empty : (text : List ℕ) → false ≡ eqb (length text) 0 → text ≢ []
not_empty text some none = let e = some ∙ ap (λ (bs : List ℕ). eqb (length bs) 0) none in cc

module _ (text : List ℕ) (last : ℕ) (found : Option ℕ) (left : List (List ℕ)) (fits : last < 2 ^ 64) (some : text ≢ []) (cut : CutsField (parts_of comma text) left (λ field. found ≡ whole_number last field)) where
  -- the number that is read, where the digits of one begin with the text
  front_number : (number : ℕ) (rest : List ℕ) → number ≤ last → text ++ rest ≡ decimal number → (d : IsNumberFront number text) × (found ≡ Some d.number)
  front_number number rest low is =
      let d = number_front number (omega arith) text rest some (sym is) in
      let fewer = d.low in
      (d, digits_read last d.number text found left (omega arith) fits d.is cut)

  pub unread_highest : found ≡ None → FindsHighest None text last
  unread_highest none = λ number rest low is. let d = front_number number rest low is in not_none d.0.number found d.1 none

  pub read_highest : (n high : ℕ) → found ≡ Some n → IsHighest n last high → FindsHighest (Some high) text last
  read_highest n high one highest = λ number rest low is.
      let d = front_number number rest low is in
      at number rest low is d.0 (subst (λ (m : ℕ). IsHighest m last high) (sym (some_same d.0.number n (sym d.1 ∙ one))) highest) (cases_lt 0 d.0.number) where
        at : (number : ℕ) (rest : List ℕ) → number ≤ last → text ++ rest ≡ decimal number → (d : IsNumberFront number text) → IsHighest d.number last high → (0 < d.number) ⊎ (d.number ≤ 0) → (number ≤ high) × ((more : List ℕ) × (decimal high ≡ text ++ more))
        at number rest low is d h (inl more) =
            let below = h.low in
            let behind = front_text h.count high d.number (omega arith) (omega arith) h.shortens in
            (h.most number d.count (omega arith) low d.shortens, (behind.0, behind.1 ∙ ap (λ (bs : List ℕ). bs ++ behind.0) (sym d.is)))
        at number rest low is d h (inr none) =
            let zero = digits_some number text rest d (omega arith) (sym is) (omega arith) in
            let top = h.none (omega arith) in
            (omega arith, ([], ap decimal (top ∙ sym (let z : d.number ≡ 0 = omega arith in z)) ∙ (sym d.is ∙ sym (append-nil text))))

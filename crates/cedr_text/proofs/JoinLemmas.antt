-- Fields that are joined by a byte that none of them has.
use Rattle.std.proofs.Common.{◌≡◌, ◌==◌, ◌++◌, ◌∷◌, ◌∙◌, ◌+◌, [], ℕ, zero, suc, List, Bool, true, false, Option, None, Some, drop, refl, sym, ap, subst, cond, append_assoc, add-one}
use Rattle.std.specs.Prelude.{option_map}
use Rattle.std.specs.List.{flat_map, join_with_byte, onto_first}
use Rattle.std.proofs.lemmas.Bool.{or_parts, or_from}
use Rattle.std.proofs.lemmas.List.{append-nil}
use Rattle.std.proofs.lemmas.List.Splits.{slice_split-cons_yes, slice_split-cons_no}
use Rattle.csv.specs.Records.{field_at}
use Rattle.cedr_text.specs.declared.quoting.Place.{Place}
use Rattle.cedr_text.specs.declared.quoting.Place.TheVariants.{FieldStart, Bare, Quoted, BehindQuote}
use Rattle.cedr_text.specs.Parts.{parts_of}
use Rattle.cedr_text.specs.Quoting.{line_fields}
use Rattle.cedr_text.proofs.QuotingLemmas.{has_byte, Found, with_byte, behind_comma, all_of, fields_from, line_found}

-- the byte and then the field, for each field
abbrev pub each_behind : ℕ → List (List ℕ) → List ℕ
each_behind byte fields = flat_map (λ field. byte ∷ field) fields

-- after the first field stand the byte and then a field, for each of the others
joined_first : (byte : ℕ) (field : List ℕ) (fields : List (List ℕ)) → join_with_byte byte (field ∷ fields) ≡ field ++ each_behind byte fields
joined_first byte field [] = sym (append-nil field)
joined_first byte field (next ∷ fields) = ap (λ bytes. field ++ byte ∷ bytes) (joined_first byte next fields)

-- the fields from a place on begin with the field at that place
left_at : (fields : List (List ℕ)) (at : ℕ) (field : List ℕ) → Some field ≡ field_at fields at → drop at fields ≡ field ∷ drop (suc at) fields
unfolding field_at
left_at [] at field is = cc
left_at (first ∷ fields) zero field is = cc
left_at (first ∷ fields) (suc at) field is = left_at fields at field is

-- no field is left where none is at a place
none_left : (fields : List (List ℕ)) (at : ℕ) → None ≡ field_at fields at → drop at fields ≡ []
unfolding field_at
none_left [] zero is = refl
none_left [] (suc at) is = refl
none_left (first ∷ fields) zero is = cc
none_left (first ∷ fields) (suc at) is = none_left fields at is

module _ (byte : ℕ) (fields : List (List ℕ)) where
  -- these are the bytes of the fields before a place
  abbrev pub IsJoinedTo : List ℕ → ℕ → Type 0
  IsJoinedTo joined at = joined ++ each_behind byte (drop at fields) ≡ join_with_byte byte fields

  -- the first field is joined
  pub joins_first : (first joined : List ℕ) (at : ℕ) → Some first ≡ field_at fields 0 → at ≡ 1 → joined ≡ first → IsJoinedTo joined at
  joins_first first joined at is one now =
      ap (λ at. joined ++ each_behind byte (drop at fields)) one ∙ ap (λ bytes. bytes ++ each_behind byte (drop 1 fields)) now
      ∙ sym (ap (join_with_byte byte) (left_at fields 0 first is) ∙ joined_first byte first (drop 1 fields))

  -- one field more is joined
  pub joins_next : (field before pushed joined : List ℕ) (at next : ℕ) → Some field ≡ field_at fields at → next ≡ at + 1 → pushed ≡ before ++ byte ∷ [] → joined ≡ pushed ++ field
      → IsJoinedTo before at → IsJoinedTo joined next
  joins_next field before pushed joined at next is one push now earlier =
      let rest = each_behind byte (drop (suc at) fields) in
      ap (λ next. joined ++ each_behind byte (drop next fields)) (one ∙ add-one at)
      ∙ ap (λ bytes. bytes ++ rest) (now ∙ ap (λ bytes. bytes ++ field) push)
      ∙ append_assoc (before ++ byte ∷ []) field rest ∙ append_assoc before (byte ∷ []) (field ++ rest)
      ∙ sym (ap (λ left. before ++ each_behind byte left) (left_at fields at field is)) ∙ earlier

  -- each field is joined
  pub joins_all : (joined : List ℕ) (at : ℕ) → None ≡ field_at fields at → IsJoinedTo joined at → joined ≡ join_with_byte byte fields
  joins_all joined at is earlier = sym (append-nil joined) ∙ sym (ap (λ left. joined ++ each_behind byte left) (none_left fields at is)) ∙ earlier

  -- where there is no field, nothing is joined
  pub none_joined : None ≡ field_at fields 0 → [] ≡ join_with_byte byte fields
  none_joined is = sym (ap (join_with_byte byte) (none_left fields 0 is))

-- no field has a carriage return
abbrev AllFree : List (List ℕ) → Type 0
AllFree [] = Unit {0}
AllFree (field ∷ fields) = (has_byte 13 field ≡ false) × AllFree fields

abbrev IsFree : Option Found → Type 0
IsFree None = Unit {0}
IsFree (Some found) = (has_byte 13 found.0 ≡ false) × AllFree found.1

byte_free : (b : ℕ) (found : Option Found) → b == 13 ≡ false → IsFree found → IsFree (option_map (with_byte b) found)
byte_free b None other free = tt
byte_free b (Some found) other free = (or_from (b == 13) (has_byte 13 found.0) other free.0, free.1)

comma_free : (found : Option Found) → IsFree found → IsFree (option_map behind_comma found)
comma_free None free = tt
comma_free (Some found) free = (refl, free)

either_free : (test : Bool) (a b : Option Found) → IsFree a → IsFree b → IsFree (cond test a b)
either_free true a b first second = first
either_free false a b first second = second

-- a line without a carriage return has no field with one
found_free : (bs : List ℕ) (place : Place) → has_byte 13 bs ≡ false → IsFree (fields_from place bs)
found_free [] FieldStart none = (refl, tt)
found_free [] Bare none = (refl, tt)
found_free [] Quoted none = tt
found_free [] BehindQuote none = (refl, tt)
found_free (b ∷ bs) FieldStart none =
    let parts = or_parts (b == 13) (has_byte 13 bs) none in
    either_free (b == 34) _ _ (found_free bs Quoted parts.1)
    (either_free (b == 44) _ _ (comma_free _ (found_free bs FieldStart parts.1)) (byte_free b (fields_from Bare bs) parts.0 (found_free bs Bare parts.1)))
found_free (b ∷ bs) Bare none =
    let parts = or_parts (b == 13) (has_byte 13 bs) none in
    either_free (b == 34) None _ tt
    (either_free (b == 44) _ _ (comma_free _ (found_free bs FieldStart parts.1)) (byte_free b (fields_from Bare bs) parts.0 (found_free bs Bare parts.1)))
found_free (b ∷ bs) Quoted none =
    let parts = or_parts (b == 13) (has_byte 13 bs) none in
    either_free (b == 34) _ _ (found_free bs BehindQuote parts.1) (byte_free b (fields_from Quoted bs) parts.0 (found_free bs Quoted parts.1))
found_free (b ∷ bs) BehindQuote none =
    let parts = or_parts (b == 13) (has_byte 13 bs) none in
    either_free (b == 34) _ _ (byte_free 34 (fields_from Quoted bs) refl (found_free bs Quoted parts.1))
    (either_free (b == 44) _ None (comma_free _ (found_free bs FieldStart parts.1)) tt)

last_part : (field : List ℕ) → has_byte 13 field ≡ false → parts_of 13 field ≡ field ∷ []
last_part [] none = refl
last_part (b ∷ field) none =
    let parts = or_parts (b == 13) (has_byte 13 field) none in
    slice_split-cons_no (λ b. b == 13) b field parts.0 ∙ ap (onto_first b) (last_part field parts.1)

next_part : (field rest : List ℕ) → has_byte 13 field ≡ false → parts_of 13 (field ++ 13 ∷ rest) ≡ field ∷ parts_of 13 rest
next_part [] rest none = slice_split-cons_yes (λ b. b == 13) 13 rest refl
next_part (b ∷ field) rest none =
    let parts = or_parts (b == 13) (has_byte 13 field) none in
    slice_split-cons_no (λ b. b == 13) b (field ++ 13 ∷ rest) parts.0 ∙ ap (onto_first b) (next_part field rest parts.1)

parts_back : (field : List ℕ) (fields : List (List ℕ)) → has_byte 13 field ≡ false → AllFree fields → parts_of 13 (join_with_byte 13 (field ∷ fields)) ≡ field ∷ fields
parts_back field [] none free = last_part field none
parts_back field (next ∷ fields) none free = next_part field (join_with_byte 13 (next ∷ fields)) none ∙ ap (λ parts. field ∷ parts) (parts_back next fields free.0 free.1)

found_back : (found : Option Found) (fields : List (List ℕ)) → IsFree found → option_map all_of found ≡ Some fields → parts_of 13 (join_with_byte 13 fields) ≡ fields
found_back None fields free is = cc
found_back (Some found) fields free is =
    let same : all_of found ≡ fields = cc in
    subst (λ (fields : List (List ℕ)). parts_of 13 (join_with_byte 13 fields) ≡ fields) same (parts_back found.0 found.1 free.0 free.1)

-- the fields of a line are the parts of what they were joined to
pub parts_are : (line joined : List ℕ) (fields : List (List ℕ)) → has_byte 13 line ≡ false → line_fields line ≡ Some fields → joined ≡ join_with_byte 13 fields
    → line_fields line ≡ Some (parts_of 13 joined)
parts_are line joined fields none is now =
    is ∙ sym (ap (λ (parts : List (List ℕ)). Some parts) (ap (parts_of 13) now ∙ found_back (fields_from FieldStart line) fields (found_free line FieldStart none) (sym (line_found line) ∙ is)))

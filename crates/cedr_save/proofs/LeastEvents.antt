-- Events with the least fields of their types.
use Rattle.std.proofs.Common.{◌≡◌, ℕ, ◌<◌, ◌≤◌, ◌^◌, List, [], ◌∷◌, ◌++◌, map, Bool, cond, pos, refl, ap, sym, ◌∙◌, arith, append_assoc}
use Rattle.std.specs.Prelude.{codes, decimal}
use Rattle.std.proofs.lemmas.Bool.{lt-ltb}
use Rattle.std.proofs.lemmas.Fmt.{decimal_digit}
use Rattle.cedr_base.specs.declared.time.TheConstants.{FOREVER}
use Rattle.cedr_base.specs.declared.field.Field.{Field}
use Rattle.cedr_base.specs.declared.field.Field.TheVariants.{Number, Bytes}
use Rattle.cedr_base.specs.declared.field.FieldType.{FieldType}
use Rattle.cedr_base.specs.declared.field.FieldType.TheVariants as types
use Rattle.cedr_base.specs.Bytes.{comma}
use Rattle.cedr_text.specs.Texts.{time_text, payload_text}
use Rattle.cedr_guard.specs.declared.state.EventState.{EventState}
use Rattle.cedr_guard.specs.Spelt.{state_row}
use Rattle.cedr_save.specs.Checkpoints.{AreTyped, row_line, event_line}
use Rattle.cedr_save.specs.Lines.{IsSavedEvent}
use Rattle.cedr_save.specs.Fronts.{default_field, default_fields, GoesOn}

-- ---- the least fields

abbrev pub least_field : FieldType → Field
least_field types.Number = Number (pos 0)
least_field types.Bytes = Bytes []

abbrev pub least_fields : List FieldType → List Field
least_fields fields = map least_field fields

pub least_typed : (fields : List FieldType) → AreTyped fields (least_fields fields)
least_typed [] = tt
least_typed (types.Number ∷ fields) = (small, least_typed fields) where
  small : 0 < 2 ^ 63
  small = omega arith
least_typed (types.Bytes ∷ fields) = (refl, least_typed fields)

pub least_text : (fields : List FieldType) → payload_text (least_fields fields) ≡ default_fields fields
least_text [] = refl
least_text (types.Number ∷ fields) =
    ap (λ (ds : List ℕ). comma ∷ (ds ++ payload_text (least_fields fields))) (decimal_digit 0 (omega arith)) ∙ ap (λ (bs : List ℕ). default_field types.Number ++ bs) (least_text fields)
least_text (types.Bytes ∷ fields) = ap (λ (bs : List ℕ). default_field types.Bytes ++ bs) (least_text fields)

-- ---- an event that lives, with these fields

abbrev pub least_event : List FieldType → ℕ → ℕ → ℕ → EventState
least_event fields id begin end = record { end = end; begin = begin; id = id; payload = least_fields fields }

pub least_saved : (fields : List FieldType) (id begin end : ℕ) → id < 2 ^ 64 → begin < FOREVER → begin ≤ end → end ≤ FOREVER → IsSavedEvent fields (least_event fields id begin end)
least_saved fields id begin end fits low lasts high = record { state = record { begins = low; lasts = lasts; ends = high }; id = fits; fields = λ lives. least_typed fields }

pub least_line : (fields : List FieldType) (id begin end : ℕ) → begin < end → event_line (least_event fields id begin end) ≡ decimal id ++ comma ∷ (time_text begin ++ comma ∷ (time_text end ++ default_fields fields))
least_line fields id begin end lives =
    let row = state_row (least_event fields id begin end) in
    ap (λ (b : Bool). decimal id ++ comma ∷ row_line (cond b row (record row { payload = [] }))) (lt-ltb begin end lives)
    ∙ ap (λ (bs : List ℕ). decimal id ++ comma ∷ (time_text begin ++ comma ∷ (time_text end ++ bs))) (least_text fields)

-- ---- an event whose id goes on from the bytes

-- all fields behind the id are the least ones, and it never ends
pub id_goes_on : (fields : List FieldType) (front line more : List ℕ) (id high : ℕ) → high < 2 ^ 64 → id ≤ high → decimal high ≡ front ++ more → line ≡ decimal high ++ (codes ",0,inf" ++ default_fields fields) → GoesOn fields front line id
id_goes_on fields front line more id high fits above begins is = record {
  event = least_event fields high 0 FOREVER;
  saved = least_saved fields high 0 FOREVER fits (omega arith) (omega arith) (omega arith);
  above = above;
  is = is ∙ sym (least_line fields high 0 FOREVER (omega arith) ∙ ap (λ (ds : List ℕ). decimal high ++ comma ∷ (ds ++ comma ∷ (codes "inf" ++ default_fields fields))) (decimal_digit 0 (omega arith)));
  more = more ++ (codes ",0,inf" ++ default_fields fields);
  begins = is ∙ (ap (λ (bs : List ℕ). bs ++ (codes ",0,inf" ++ default_fields fields)) begins ∙ append_assoc front more (codes ",0,inf" ++ default_fields fields));
}

-- What the functions that complete a line put behind it.
use Rattle.std.proofs.Common.{◌≡◌, ℕ, ◌<◌, ◌≤◌, ◌^◌, ◌-◌, List, [], ◌∷◌, ◌++◌, true, false, Option, Some, Vec, refl, ap, sym, ◌∙◌, subst, arith, append_assoc}
use Rattle.std.specs.Prelude.{codes, decimal, nat_eq, Result, Ok, Err, OnOk, IfOk}
use Rattle.std.specs.Global.{Global}
use Rattle.std.specs.List.{starts_with}
use Rattle.cedr_base.specs.declared.time.TheConstants.{FOREVER}
use Rattle.cedr_base.specs.declared.field.FieldType.{FieldType}
use Rattle.cedr_base.specs.Bytes.{comma}
use Rattle.cedr_text.specs.Lines.{has_line_feed}
use Rattle.cedr_text.specs.Numbers.{whole_number}
use Rattle.cedr_text.specs.Parts.{parts_of, CutsField}
use Rattle.cedr_save.specs.Fronts.{default_fields, FindsHighest, StaysWhole, CutsText, is_uncut, Completes, IsRowText, IsEndText, IsFieldsText, CompletesId, CompletesBegin, CompletesEnd, CompletesEvent, EndsWell}
use Rattle.cedr_save.proofs.HighestFronts.{digits_read}
use Rattle.cedr_save.proofs.WholeFronts.{whole_append, number_whole, defaults_whole}
use Rattle.cedr_save.proofs.PartFronts.{last_field, next_field, last_end, cut_end, ends_never, ends_highest, ends_withdrawn, last_begin, cut_begin, begins_highest, last_id, cut_id, id_highest}

-- ---- a begin

pub begin_whole : {E : Type 0} (result : Result (Unit {0}) E) (text before digits never behind : List ℕ) (types : List FieldType) (n : ℕ) → n ≤ FOREVER - 1 → digits ≡ before ++ decimal n → never ≡ digits ++ codes ",inf" → OnOk result (behind ≡ never ++ default_fields types) → OnOk result (StaysWhole text before behind)
begin_whole (Ok u) text before digits never behind types n low one two three = λ whole none.
    ap has_line_feed three
    ∙ whole_append never (default_fields types) (ap has_line_feed two ∙ whole_append digits (codes ",inf") (ap has_line_feed one ∙ whole_append before (decimal n) none (number_whole n (omega arith))) refl) (defaults_whole types)
begin_whole (Err e) text before digits never behind types n low one two three = tt

pub begin_completed : {E : Type 0} (result : Result (Unit {0}) E) (text before digits never behind : List ℕ) (types : List FieldType) (n : ℕ) → n ≤ FOREVER - 1 → FindsHighest (Some n) text (FOREVER - 1) → digits ≡ before ++ decimal n → never ≡ digits ++ codes ",inf"
    → OnOk result (behind ≡ never ++ default_fields types) → OnOk result (CompletesBegin types text before behind)
begin_completed (Ok u) text before digits never behind types n low finds one two three =
    begins_highest types n text before behind low finds (three ∙ (ap (λ (bs : List ℕ). bs ++ default_fields types) two ∙ ap (λ (bs : List ℕ). (bs ++ codes ",inf") ++ default_fields types) one))
begin_completed (Err e) text before digits never behind types n low finds one two three = tt

-- ---- an id

pub id_whole : (digits never behind : List ℕ) (types : List FieldType) (n : ℕ) → n < 2 ^ 64 → digits ≡ decimal n → never ≡ digits ++ codes ",0,inf" → behind ≡ never ++ default_fields types → has_line_feed behind ≡ false
id_whole digits never behind types n low one two three =
    ap has_line_feed three ∙ whole_append never (default_fields types) (ap has_line_feed two ∙ whole_append digits (codes ",0,inf") (ap has_line_feed one ∙ number_whole n low) refl) (defaults_whole types)

pub id_completed : (text digits never behind : List ℕ) (types : List FieldType) (n : ℕ) → n < 2 ^ 64 → FindsHighest (Some n) text (2 ^ 64 - 1) → digits ≡ decimal n → never ≡ digits ++ codes ",0,inf" → behind ≡ never ++ default_fields types → CompletesId types text behind
id_completed text digits never behind types n low finds one two three =
    id_highest types n text behind low finds (three ∙ (ap (λ (bs : List ℕ). bs ++ default_fields types) two ∙ ap (λ (bs : List ℕ). (bs ++ codes ",0,inf") ++ default_fields types) one))

-- ---- an end

pub end_whole : {E : Type 0} (result : Result (Unit {0}) E) (text before end behind added : List ℕ) (types : List FieldType) → has_line_feed added ≡ false → end ≡ before ++ added → OnOk result (behind ≡ end ++ default_fields types) → OnOk result (StaysWhole text before behind)
end_whole (Ok u) text before end behind added types plain one two = λ whole none. ap has_line_feed two ∙ whole_append end (default_fields types) (ap has_line_feed one ∙ whole_append before added none plain) (defaults_whole types)
end_whole (Err e) text before end behind added types plain one two = tt

pub never_completed : {E : Type 0} (result : Result (Unit {0}) E) (begin : Option ℕ) (text before end behind : List ℕ) (types : List FieldType) → starts_with nat_eq (codes "inf") text ≡ true → end ≡ before ++ codes "inf" → OnOk result (behind ≡ end ++ default_fields types)
    → OnOk result ((time : ℕ) → time < FOREVER → begin ≡ Some time → CompletesEnd types time text before behind)
never_completed (Ok u) begin text before end behind types starts one two = λ time low is. ends_never types time text before behind low starts (two ∙ ap (λ (bs : List ℕ). bs ++ default_fields types) one)
never_completed (Err e) begin text before end behind types starts one two = tt

pub end_completed : {E : Type 0} (result : Result (Unit {0}) E) (begin : Option ℕ) (last : ℕ) (text before end behind : List ℕ) (types : List FieldType) → starts_with nat_eq (codes "inf") text ≡ false → last ≤ FOREVER - 1 → FindsHighest (Some last) text (FOREVER - 1) → (begin ≡ Some last → ⊥)
    → end ≡ before ++ decimal last → OnOk result (behind ≡ end ++ default_fields types) → OnOk result ((time : ℕ) → time < FOREVER → begin ≡ Some time → CompletesEnd types time text before behind)
end_completed (Ok u) begin last text before end behind types starts low finds other one two = λ time fits is.
    ends_highest types time text before behind fits starts last low (λ same. other (is ∙ ap {B = Option ℕ} (λ (n : ℕ). Some n) same)) finds (two ∙ ap (λ (bs : List ℕ). bs ++ default_fields types) one)
end_completed (Err e) begin last text before end behind types starts low finds other one two = tt

some_same : (a b : ℕ) → ◌≡◌ {A = Option ℕ} (Some a) (Some b) → a ≡ b
some_same a b e = cc

pub withdrawn_completed : (begin : Option ℕ) (last : ℕ) (text before behind : List ℕ) (types : List FieldType) → starts_with nat_eq (codes "inf") text ≡ false → last ≤ FOREVER - 1 → FindsHighest (Some last) text (FOREVER - 1) → begin ≡ Some last → behind ≡ before ++ decimal last
    → (time : ℕ) → time < FOREVER → begin ≡ Some time → CompletesEnd types time text before behind
withdrawn_completed begin last text before behind types starts low finds same one = λ time fits is.
    ends_withdrawn types time text before behind fits starts last low (some_same time last (sym is ∙ same)) finds one

-- ---- fields

pub fields_whole : {E : Type 0} (result : Result (Unit {0}) E) (text added before start field whole_field behind : List ℕ) (types : List FieldType) → has_line_feed added ≡ false → start ≡ before ++ comma ∷ [] → field ≡ start ++ text → whole_field ≡ field ++ added → OnOk result (behind ≡ whole_field ++ default_fields types)
    → OnOk result (StaysWhole text before behind)
fields_whole (Ok u) text added before start field whole_field behind types plain one two three four = λ whole none.
    ap has_line_feed four
    ∙ whole_append whole_field (default_fields types)
    (ap has_line_feed three ∙ whole_append field added (ap has_line_feed two ∙ whole_append start text (ap has_line_feed one ∙ whole_append before (comma ∷ []) none refl) whole) plain) (defaults_whole types)
fields_whole (Err e) text added before start field whole_field behind types plain one two three four = tt

-- a field that isn't whole, and the least ones of the others
pub fields_completed : {E : Type 0} (result : Result (Unit {0}) E) (type : FieldType) (others : List FieldType) (text added before start field whole_field behind : List ℕ) → is_uncut false text ≡ true → EndsWell type text added → start ≡ before ++ comma ∷ [] → field ≡ start ++ text → whole_field ≡ field ++ added
    → OnOk result (behind ≡ whole_field ++ default_fields others) → OnOk result (Completes (IsFieldsText (type ∷ others)) (comma ∷ text) before behind)
fields_completed (Ok u) type others text added before start field whole_field behind uncut ends one two three four =
    last_field type others text added before behind uncut ends
    (four
    ∙ ap (λ (bs : List ℕ). bs ++ default_fields others)
    (three ∙ (ap (λ (bs : List ℕ). bs ++ added) (two ∙ ap (λ (bs : List ℕ). bs ++ text) one) ∙ append_assoc (before ++ comma ∷ []) text added)))
fields_completed (Err e) type others text added before start field whole_field behind uncut ends one two three four = tt

-- a whole field, and what the others were completed to
pub fields_next : {E : Type 0} (result : Result (Unit {0}) E) (type : FieldType) (others : List FieldType) (text field rest before start middle behind : List ℕ) → CutsText text field rest → start ≡ before ++ comma ∷ [] → middle ≡ start ++ field
    → OnOk result (Completes (IsFieldsText others) (comma ∷ rest) middle behind) → OnOk result (Completes (IsFieldsText (type ∷ others)) (comma ∷ text) before behind)
fields_next (Ok u) type others text field rest before start middle behind cut one two completes =
    next_field type others text field rest before behind cut (subst (λ (bs : List ℕ). Completes (IsFieldsText others) (comma ∷ rest) bs behind) (two ∙ ap (λ (bs : List ℕ). bs ++ field) one) completes)
fields_next (Err e) type others text field rest before start middle behind cut one two completes = tt

-- ---- an end, behind a begin

pub end_last : {E : Type 0} (result : Result (Unit {0}) E) (types : List FieldType) (found : Option ℕ) (begin text before behind : List ℕ) (left : List (List ℕ)) → is_uncut false text ≡ true → CutsField (parts_of comma begin) left (λ field. found ≡ whole_number (FOREVER - 1) field)
    → OnOk result ((time : ℕ) → time < FOREVER → found ≡ Some time → CompletesEnd types time text before behind) → OnOk result ((time : ℕ) → time < FOREVER → begin ≡ decimal time → Completes (IsEndText types time) text before behind)
end_last (Ok u) types found begin text before behind left uncut cut completes = λ time low is.
    last_end types time text before behind low uncut (completes time low (digits_read (FOREVER - 1) time begin found left (omega arith) (omega arith) is cut))
end_last (Err e) types found begin text before behind left uncut cut completes = tt

pub end_cut : {E : Type 0} (result : Result (Unit {0}) E) (types : List FieldType) (begin text end rest before middle behind : List ℕ) → CutsText text end rest → middle ≡ before ++ end → OnOk result (Completes (IsFieldsText types) (comma ∷ rest) middle behind)
    → OnOk result ((time : ℕ) → time < FOREVER → begin ≡ decimal time → Completes (IsEndText types time) text before behind)
end_cut (Ok u) types begin text end rest before middle behind cut one completes = λ time low is.
    cut_end types time text end rest before behind cut (subst (λ (bs : List ℕ). Completes (IsFieldsText types) (comma ∷ rest) bs behind) one completes)
end_cut (Err e) types begin text end rest before middle behind cut one completes = tt

-- ---- a row, behind an id

pub row_last : {E : Type 0} (result : Result (Unit {0}) E) (types : List FieldType) (text before behind : List ℕ) → is_uncut false text ≡ true → OnOk result (CompletesBegin types text before behind) → OnOk result (Completes (IsRowText types) text before behind)
row_last (Ok u) types text before behind uncut completes = last_begin types text before behind uncut completes
row_last (Err e) types text before behind uncut completes = tt

pub row_cut : {E : Type 0} (result : Result (Unit {0}) E) (types : List FieldType) (text begin rest before start middle behind : List ℕ) → CutsText text begin rest → start ≡ before ++ begin → middle ≡ start ++ comma ∷ []
    → OnOk result ((time : ℕ) → time < FOREVER → begin ≡ decimal time → Completes (IsEndText types time) rest middle behind) → OnOk result (Completes (IsRowText types) text before behind)
row_cut (Ok u) types text begin rest before start middle behind cut one two completes =
    cut_begin types text begin rest before behind cut
    (λ time low is. subst (λ (bs : List ℕ). Completes (IsEndText types time) rest bs behind) (two ∙ ap (λ (bs : List ℕ). bs ++ comma ∷ []) one) (completes time low is))
row_cut (Err e) types text begin rest before start middle behind cut one two completes = tt

-- ---- a line

pub event_last : {E : Type 0} (result : Result (Vec ℕ Global) E) (types : List FieldType) (text : List ℕ) → is_uncut false text ≡ true → IfOk result (λ line. CompletesId types text line.items) → IfOk result (λ line. CompletesEvent types text line.items)
event_last (Ok line) types text uncut completes = last_id types text line.items uncut completes
event_last (Err e) types text uncut completes = tt

pub event_cut : (types : List FieldType) (text id rest start middle line : List ℕ) → CutsText text id rest → start ≡ id → middle ≡ start ++ comma ∷ [] → Completes (IsRowText types) rest middle line → CompletesEvent types text line
event_cut types text id rest start middle line cut one two completes =
    cut_id types text id rest line cut (subst (λ (bs : List ℕ). Completes (IsRowText types) rest bs line) (two ∙ ap (λ (bs : List ℕ). bs ++ comma ∷ []) one) completes)

-- What the lines of a made source say.
use Rattle.std.proofs.Common.{◌≡◌, ◌==◌, ◌-◌, ◌<◌, ◌≤◌, ◌^◌, ℕ, List, [], ◌∷◌, Bool, true, false, cond, length, refl, ap, ◌∙◌, length-append, arith, Option, Some, Result, Ok, Err, pos}
use Rattle.std.specs.Prelude.{option_map, nat_eq, Vec}
use Rattle.std.specs.declared.alloc.Global.{Global}
use Rattle.std.specs.Fmt.{decimal}
use Rattle.std.specs.List.{starts_with}
use Rattle.std.proofs.lemmas.Bool.{le-ltb, lt-ltb, or_from, or_parts}
use Rattle.cedr_base.specs.declared.field.Field.{Field}
use Rattle.cedr_base.specs.declared.field.Field.TheVariants.{Number, Bytes}
use Rattle.cedr_base.specs.declared.field.FieldType.{FieldType}
use Rattle.cedr_base.specs.declared.row.Row.{Row}
use Rattle.cedr_base.specs.declared.time.TheConstants.{FOREVER}
use Rattle.cedr_text.specs.declared.event_line.EventLine.TheVariants.{Insert, Retract, Promise}
use Rattle.cedr_text.specs.declared.event_line.Shape.{Shape}
use Rattle.cedr_text.specs.declared.event_line.Shape.TheVariants.{Fields}
use Rattle.cedr_text.specs.declared.fault.LineFault.{LineFault}
use Rattle.cedr_text.specs.declared.fault.LineFault.TheVariants.{LineTooLong, EmptyLife}
use Rattle.cedr_text.specs.declared.lines.TheConstants.{LINE_LIMIT}
use Rattle.cedr_text.specs.Lines.{without_return}
use Rattle.cedr_text.specs.Numbers.{id_value, begin_value, time_value}
use Rattle.cedr_text.specs.Quoting.{byte_order_mark}
use Rattle.cedr_text.specs.Reading.{version, version_by, inserted_by, event_of, event_from, as_some, retracted, promised, payload_of, typed_payload, with_field, reading}
use Rattle.cedr_text.proofs.ReadingLemmas.{reading_whole}
use Rattle.cedr_text.proofs.RuleLemmas.{fields_are_cut}
use Rattle.cedr_guard.specs.Sources.{line_reading}
use Rattle.cedr_make.specs.BuiltIn.{event_types}
use Rattle.cedr_make.proofs.FieldTexts.{has_byte, IsPlain, ArePlain, joined, number_plain, key_plain, whole_of, time_of, int_of, no_feed, no_return, short, are_fields}

-- ---- a line of plain fields

-- the last byte stays where it is no carriage return
kept_byte : (test : Bool) (b : ℕ) → test ≡ false → cond test [] (b ∷ []) ≡ b ∷ []
kept_byte true b none = cc
kept_byte false b none = refl

-- a line that has no carriage return keeps its end
return_free : (line : List ℕ) → has_byte 13 line ≡ false → without_return line ≡ line
return_free [] none = refl
return_free (b ∷ []) none = kept_byte (b == 13) b (or_parts (b == 13) false none).0
return_free (b ∷ c ∷ bs) none = ap (λ rest. b ∷ rest) (return_free (c ∷ bs) (or_parts (b == 13) (has_byte 13 (c ∷ bs)) none).1)

-- it says what its fields say
fields_say : (shape : Shape) (field next : List ℕ) (fields : List (List ℕ)) → ArePlain (field ∷ next ∷ fields) → length fields ≤ 4
    → starts_with nat_eq (joined (field ∷ next ∷ fields)) byte_order_mark ≡ false
    → line_reading shape (joined (field ∷ next ∷ fields)) ≡ as_some (event_of shape (field ∷ next ∷ fields))
fields_say shape field next fields plain few unmarked =
    let all = field ∷ next ∷ fields in
    let line = joined all in
    let within : length line ≤ LINE_LIMIT = let bound = short all plain in omega arith in
    let some : 0 < length line = let both = length-append field (44 ∷ joined (next ∷ fields)) in omega arith in
    let whole = or_from (has_byte 13 line) _ (no_return all plain) (or_from (has_byte 10 line) _ (no_feed all plain) unmarked) in
    ap (λ test. cond test (Err LineTooLong) (reading shape (without_return line))) (le-ltb LINE_LIMIT (length line) within)
    ∙ ap (reading shape) (return_free line (no_return all plain))
    ∙ reading_whole shape line within some whole
    ∙ ap (λ found. as_some (event_from shape found)) (fields_are_cut line all (are_fields field (next ∷ fields) plain))

-- ---- the kinds of line that are made

-- an insertion whose parts are in their form
inserted_is : (a b c : Option ℕ) (p : Result (Option (List Field)) LineFault) (id begin end : ℕ) (payload : List Field) → a ≡ Some id → b ≡ Some begin → c ≡ Some end → p ≡ Ok (Some payload) → begin < end
    → inserted_by (version_by a b c p) ≡ Ok (Insert id (record { end = end; begin = begin; payload = payload }))
inserted_is a b c p id begin end payload id_is begin_is end_is payload_is lives =
    ap (λ x. inserted_by (version_by x b c p)) id_is ∙ ap (λ x. inserted_by (version_by (Some id) x c p)) begin_is ∙ ap (λ x. inserted_by (version_by (Some id) (Some begin) x p)) end_is
    ∙ ap (λ x. inserted_by (version_by (Some id) (Some begin) (Some end) x)) payload_is
    ∙ ap (λ test. inserted_by (cond test (version id begin end (Some payload)) (Err EmptyLife))) (lt-ltb begin end lives)

-- a key and a number are a payload of the source's types
payload_is : (types : Vec FieldType Global) (key : List ℕ) (value : ℕ) → types.items ≡ event_types → value < 2 ^ 63
    → payload_of (Fields types) (key ∷ decimal value ∷ []) ≡ Ok (Some (Bytes key ∷ Number (pos value) ∷ []))
payload_is types key value are fits =
    ap (λ (ts : List FieldType). typed_payload ts (key ∷ decimal value ∷ [])) are
    ∙ ap (λ number. with_field (Some (Bytes key)) (with_field (option_map (λ n. Number n) number) (Ok (Some [])))) (int_of value fits)

-- the fields of an insertion: its sign, the id, both times, the key and the value
abbrev pub insertion_fields : ℕ → ℕ → ℕ → ℕ → ℕ → List (List ℕ)
insertion_fields id begin end key value = (43 ∷ []) ∷ decimal id ∷ decimal begin ∷ decimal end ∷ (107 ∷ decimal key) ∷ decimal value ∷ []

-- the fields of a retraction: its sign, the id and the new end
abbrev pub retraction_fields : ℕ → ℕ → List (List ℕ)
retraction_fields id end = (45 ∷ []) ∷ decimal id ∷ decimal end ∷ []

-- the fields of a guarantee: its sign and the time
abbrev pub guarantee_fields : ℕ → List (List ℕ)
guarantee_fields time = (61 ∷ []) ∷ decimal time ∷ []

-- a sign is plain where it is none of the bytes that mean something in a line
sign_plain : (sign : ℕ) → has_byte 10 (sign ∷ []) ≡ false → has_byte 13 (sign ∷ []) ≡ false → has_byte 34 (sign ∷ []) ≡ false → has_byte 44 (sign ∷ []) ≡ false → IsPlain (sign ∷ [])
sign_plain sign feed return quote comma = record { no_feed = feed; no_return = return; no_quote = quote; no_comma = comma; short = omega arith }

-- the fields of an insertion are plain, where its numbers are below 2^64 and its key is one digit
pub insertion_plain : (id begin end key value : ℕ) → id < 2 ^ 64 → begin < 2 ^ 64 → end < 2 ^ 64 → key < 10 → value < 2 ^ 64 → ArePlain (insertion_fields id begin end key value)
insertion_plain id begin end key value a b c d e = (sign_plain 43 refl refl refl refl, (number_plain id a, (number_plain begin b, (number_plain end c, (key_plain key d, (number_plain value e, tt))))))

-- the fields of a retraction are plain, where its numbers are below 2^64
pub retraction_plain : (id end : ℕ) → id < 2 ^ 64 → end < 2 ^ 64 → ArePlain (retraction_fields id end)
retraction_plain id end a b = (sign_plain 45 refl refl refl refl, (number_plain id a, (number_plain end b, tt)))

-- the fields of a guarantee are plain, where its time is below 2^64
pub guarantee_plain : (time : ℕ) → time < 2 ^ 64 → ArePlain (guarantee_fields time)
guarantee_plain time a = (sign_plain 61 refl refl refl refl, (number_plain time a, tt))

-- the row that an insertion says
abbrev pub made_row : ℕ → ℕ → ℕ → ℕ → Row
made_row begin end key value = record { end = end; begin = begin; payload = Bytes (107 ∷ decimal key) ∷ Number (pos value) ∷ [] }

-- the line of an insertion says its id and its row, where its numbers are in range and its end is finite and
-- above its begin
pub insertion_says : (types : Vec FieldType Global) (id begin end key value : ℕ) → types.items ≡ event_types → id < 2 ^ 64 → begin < end → end < FOREVER → key < 10 → value < 2 ^ 63
    → line_reading (Fields types) (joined (insertion_fields id begin end key value)) ≡ Ok (Some (Insert id (made_row begin end key value)))
insertion_says types id begin end key value are id_fits lives finite key_fits value_fits =
    let payload = payload_of (Fields types) ((107 ∷ decimal key) ∷ decimal value ∷ []) in
    fields_say (Fields types) (43 ∷ []) (decimal id) (decimal begin ∷ decimal end ∷ (107 ∷ decimal key) ∷ decimal value ∷ [])
    (insertion_plain id begin end key value id_fits (omega (arith, lives, finite)) (omega (arith, finite)) key_fits (omega (arith, value_fits))) (omega arith) refl
    ∙ ap as_some (inserted_is (id_value (decimal id)) (begin_value (decimal begin)) (time_value (decimal end)) payload id begin end (Bytes (107 ∷ decimal key) ∷ Number (pos value) ∷ [])
    (whole_of (2 ^ 64 - 1) id (omega (arith, id_fits)) id_fits)
    (whole_of (FOREVER - 1) begin (omega (arith, lives, finite)) (omega (arith, lives, finite)))
    (time_of end finite)
    (payload_is types (107 ∷ decimal key) value are value_fits)
    lives)

-- the line of a retraction says its id and its new end, where the id has 64 bits and the end is finite
pub retraction_says : (shape : Shape) (id end : ℕ) → id < 2 ^ 64 → end < FOREVER → line_reading shape (joined (retraction_fields id end)) ≡ Ok (Some (Retract id end))
retraction_says shape id end id_fits finite =
    fields_say shape (45 ∷ []) (decimal id) (decimal end ∷ []) (retraction_plain id end id_fits (omega (arith, finite))) (omega arith) refl
    ∙ ap (λ x. as_some (retracted x (time_value (decimal end)))) (whole_of (2 ^ 64 - 1) id (omega (arith, id_fits)) id_fits)
    ∙ ap (λ x. as_some (retracted (Some id) x)) (time_of end finite)

-- the line of a guarantee says its time, where that is finite
pub guarantee_says : (shape : Shape) (time : ℕ) → time < FOREVER → line_reading shape (joined (guarantee_fields time)) ≡ Ok (Some (Promise time))
guarantee_says shape time finite =
    fields_say shape (61 ∷ []) (decimal time) [] (guarantee_plain time (omega (arith, finite))) (omega arith) refl
    ∙ ap (λ x. as_some (promised x)) (time_of time finite)

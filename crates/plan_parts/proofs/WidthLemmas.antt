-- The rows of an accepted source have as many fields as its types say.
use Rattle.std.proofs.Common.{◌≡◌, ℕ, suc, ◌+◌, List, [], ◌∷◌, ◌++◌, Bool, true, false, cond, length, Option, None, Some, Result, Ok, Err, refl, ap, sym, subst}
use Rattle.std.specs.Prelude.{take, filter, nat_eq, nat_lt, codes, unwrap_or}
use Rattle.std.specs.List.{AllByRecursion}
use Rattle.std.specs.Str.{bytes_eq}
use Rattle.std.specs.Ordering.{is_le}
use Rattle.cedr_base.specs.Bytes.{line_feed}
use Rattle.cedr_base.specs.declared.field.Field.{Field}
use Rattle.cedr_base.specs.declared.field.FieldType.{FieldType}
use Rattle.cedr_base.specs.declared.row.Row.{Row}
use Rattle.cedr_base.specs.declared.change.Message.{Message}
use Rattle.cedr_base.specs.Rows.{row_cmp, put_in_order, in_order}
use Rattle.cedr_text.specs.declared.event_line.EventLine.{EventLine}
use Rattle.cedr_text.specs.declared.event_line.EventLine.TheVariants.{Insert, Retract, Revise, Promise}
use Rattle.cedr_text.specs.declared.event_line.Shape.{Shape}
use Rattle.cedr_text.specs.declared.event_line.Shape.TheVariants.{AnyText, Fields}
use Rattle.cedr_text.specs.declared.fault.LineFault.{LineFault}
use Rattle.cedr_text.specs.declared.fault.LineFault.TheVariants.{LineTooLong, BadForm, EmptyLife}
use Rattle.cedr_text.specs.declared.lines.TheConstants.{LINE_LIMIT}
use Rattle.cedr_text.specs.Lines.{raw_lines, without_return}
use Rattle.cedr_text.specs.Parts.{parts_of}
use Rattle.cedr_text.specs.Quoting.{line_fields}
use Rattle.cedr_text.specs.Numbers.{id_value, begin_value, time_value}
use Rattle.cedr_text.specs.Reading.{breaks_form, field_value, with_field, typed_payload, payload_of, version, version_by, version_of, inserted_by, revised_by, retracted, retraction, promised, guarantee, event_of, event_from, as_some, reading}
use Rattle.cedr_text.specs.Shapes.{ShapeHasTypes}
use Rattle.cedr_guard.specs.declared.refusal.TheConstants.{FILE_LIMIT}
use Rattle.cedr_guard.specs.Judging.{fault_behind, event_with, row_after, row_lives}
use Rattle.cedr_guard.specs.History.{rows_among}
use Rattle.cedr_guard.specs.Sources.{with_event, with_reading, line_reading, Judged, go_on, judged_behind, judged_lines, judged_front, judged, history_of_bytes, whole_lines}
use Rattle.cedr_plan.specs.declared.plan.PlanNode.{PlanNode}
use Rattle.cedr_plan.specs.Places.{is_source}
use Rattle.cedr_table.specs.Operators.{Tables}
use Rattle.node_laws.specs.Lists.{Lists}
use Rattle.plan_answer.specs.Queries.{source_nodes, IsAcceptedSource, AreAcceptedSources}
use Rattle.plan_answer.specs.Sources.{file_of}
use Rattle.plan_keys.specs.Keys.{KeyedPort, AreWide, FitPorts, AreSourceTables, source_ports, column_at}

-- ---- what is read

-- a row of a line has so many fields
abbrev HasWidth : ℕ → EventLine → Type 0
HasWidth width (Insert id row) = length row.payload ≡ width
HasWidth width (Retract id end) = Unit {0}
HasWidth width (Revise id row) = length row.payload ≡ width
HasWidth width (Promise time) = Unit {0}

abbrev PayloadHas : ℕ → Result (Option (List Field)) LineFault → Type 0
PayloadHas width (Ok (Some fields)) = length fields ≡ width
PayloadHas width (Ok None) = Unit {0}
PayloadHas width (Err fault) = Unit {0}

abbrev VersionHas : ℕ → Result (ℕ × Row) LineFault → Type 0
VersionHas width (Ok read) = length read.1.payload ≡ width
VersionHas width (Err fault) = Unit {0}

abbrev EventHas : ℕ → Result EventLine LineFault → Type 0
EventHas width (Ok line) = HasWidth width line
EventHas width (Err fault) = Unit {0}

abbrev SaysWidth : ℕ → Result (Option EventLine) LineFault → Type 0
SaysWidth width (Ok None) = Unit {0}
SaysWidth width (Ok (Some line)) = HasWidth width line
SaysWidth width (Err fault) = Unit {0}

one_field_more : (width : ℕ) (field : Option Field) (read : Result (Option (List Field)) LineFault) → PayloadHas width read → PayloadHas (suc width) (with_field field read)
one_field_more width None (Ok None) h = tt
one_field_more width (Some field) (Ok None) h = tt
one_field_more width None (Ok (Some fields)) h = tt
one_field_more width (Some field) (Ok (Some fields)) h = ap (λ (n : ℕ). suc n) h
one_field_more width None (Err fault) h = tt
one_field_more width (Some field) (Err fault) h = tt

typed_width : (types : List FieldType) (texts : List (List ℕ)) → PayloadHas (length types) (typed_payload types texts)
typed_width [] [] = refl
typed_width [] (text ∷ texts) = tt
typed_width (type ∷ types) [] = tt
typed_width (type ∷ types) (text ∷ texts) = one_field_more (length types) (field_value type text) (typed_payload types texts) (typed_width types texts)

payload_width : (shape : Shape) (types : List FieldType) (texts : List (List ℕ)) → ShapeHasTypes shape types → PayloadHas (length types) (payload_of shape texts)
payload_width AnyText types texts has = absurd has
payload_width (Fields fields) types texts has = subst (λ (ts : List FieldType). PayloadHas (length ts) (typed_payload fields.items texts)) has (typed_width fields.items texts)

module _ (width : ℕ) where
  version_has : (id begin end : ℕ) (payload : Option (List Field)) → PayloadHas width (Ok payload) → VersionHas width (version id begin end payload)
  version_has id begin end None h = tt
  version_has id begin end (Some fields) h = h

  lives_or_not : (lives : Bool) (read : Result (ℕ × Row) LineFault) → VersionHas width read → VersionHas width (cond lives read (Err EmptyLife))
  lives_or_not true read h = h
  lives_or_not false read h = tt

  by_has : (id begin end : Option ℕ) (read : Result (Option (List Field)) LineFault) → PayloadHas width read → VersionHas width (version_by id begin end read)
  by_has None begin end (Ok payload) h = tt
  by_has (Some id) None end (Ok payload) h = tt
  by_has (Some id) (Some begin) None (Ok payload) h = tt
  by_has (Some id) (Some begin) (Some end) (Ok payload) h = lives_or_not (nat_lt begin end) (version id begin end payload) (version_has id begin end payload h)
  by_has None begin end (Err fault) h = tt
  by_has (Some id) None end (Err fault) h = tt
  by_has (Some id) (Some begin) None (Err fault) h = tt
  by_has (Some id) (Some begin) (Some end) (Err fault) h = tt

  inserted_has : (read : Result (ℕ × Row) LineFault) → VersionHas width read → EventHas width (inserted_by read)
  inserted_has (Ok read) h = h
  inserted_has (Err fault) h = tt

  revised_has : (read : Result (ℕ × Row) LineFault) → VersionHas width read → EventHas width (revised_by read)
  revised_has (Ok read) h = h
  revised_has (Err fault) h = tt

  retracted_has : (id end : Option ℕ) → EventHas width (retracted id end)
  retracted_has (Some id) (Some end) = tt
  retracted_has (Some id) None = tt
  retracted_has None end = tt

  retraction_has : (fields : List (List ℕ)) → EventHas width (retraction fields)
  retraction_has [] = tt
  retraction_has (id ∷ []) = tt
  retraction_has (id ∷ end ∷ []) = retracted_has (id_value id) (time_value end)
  retraction_has (id ∷ end ∷ more ∷ fields) = tt

  promised_has : (time : Option ℕ) → EventHas width (promised time)
  promised_has (Some time) = tt
  promised_has None = tt

  guarantee_has : (fields : List (List ℕ)) → EventHas width (guarantee fields)
  guarantee_has [] = tt
  guarantee_has (time ∷ []) = promised_has (time_value time)
  guarantee_has (time ∷ more ∷ fields) = tt

  kind_has : (is : Bool) (read other : Result EventLine LineFault) → EventHas width read → EventHas width other → EventHas width (cond is read other)
  kind_has true read other h k = h
  kind_has false read other h k = k

  said_has : (read : Result EventLine LineFault) → EventHas width read → SaysWidth width (as_some read)
  said_has (Ok line) h = h
  said_has (Err fault) h = tt

  unless_has : (faulty : Bool) (fault : LineFault) (read : Result (Option EventLine) LineFault) → SaysWidth width read → SaysWidth width (cond faulty (Err fault) read)
  unless_has true fault read h = tt
  unless_has false fault read h = h

module _ (shape : Shape) (types : List FieldType) (has : ShapeHasTypes shape types) where
  version_width : (fields : List (List ℕ)) → VersionHas (length types) (version_of shape fields)
  version_width [] = tt
  version_width (id ∷ []) = tt
  version_width (id ∷ begin ∷ []) = tt
  version_width (id ∷ begin ∷ end ∷ texts) = by_has (length types) (id_value id) (begin_value begin) (time_value end) (payload_of shape texts) (payload_width shape types texts has)

  event_width : (fields : List (List ℕ)) → EventHas (length types) (event_of shape fields)
  event_width [] = tt
  event_width (kind ∷ fields) =
      let width = length types in
      let read = version_of shape fields in
      let last = cond (bytes_eq kind (codes "~")) (revised_by read) (Err BadForm) in
      kind_has width (bytes_eq kind (codes "+")) (inserted_by read) (cond (bytes_eq kind (codes "-")) (retraction fields) (cond (bytes_eq kind (codes "=")) (guarantee fields) last)) (inserted_has width read (version_width fields))
      (kind_has width (bytes_eq kind (codes "-")) (retraction fields) (cond (bytes_eq kind (codes "=")) (guarantee fields) last) (retraction_has width fields)
      (kind_has width (bytes_eq kind (codes "=")) (guarantee fields) last (guarantee_has width fields)
      (kind_has width (bytes_eq kind (codes "~")) (revised_by read) (Err BadForm) (revised_has width read (version_width fields)) tt)))

  from_width : (fields : Option (List (List ℕ))) → EventHas (length types) (event_from shape fields)
  from_width None = tt
  from_width (Some fields) = event_width fields

  reading_width : (line : List ℕ) → SaysWidth (length types) (reading shape line)
  reading_width [] = tt
  reading_width (b ∷ bs) =
      let width = length types in
      let line = b ∷ bs in
      let read = as_some (event_from shape (line_fields line)) in
      unless_has width (nat_lt LINE_LIMIT (length line)) LineTooLong (cond (breaks_form line) (Err BadForm) read) (unless_has width (breaks_form line) BadForm read (said_has width (event_from shape (line_fields line)) (from_width (line_fields line))))

  line_width : (line : List ℕ) → SaysWidth (length types) (line_reading shape line)
  line_width line = unless_has (length types) (nat_lt LINE_LIMIT (length line)) LineTooLong (reading shape (without_return line)) (reading_width (without_return line))

-- ---- what is judged

-- each row of the lines does
abbrev HaveWidth : ℕ → List EventLine → Type 0
HaveWidth width lines = AllByRecursion (HasWidth width) lines

abbrev HaveWidthNow : ℕ → Result (List EventLine) LineFault → Type 0
HaveWidthNow width (Ok lines) = HaveWidth width lines
HaveWidthNow width (Err fault) = Unit {0}

width_push : (width : ℕ) (lines : List EventLine) (line : EventLine) → HaveWidth width lines → HasWidth width line → HaveWidth width (lines ++ line ∷ [])
width_push width [] line h k = (k, tt)
width_push width (l ∷ lines) line h k = (h.0, width_push width lines line h.1 k)

with_event_width : (width : ℕ) (before : List EventLine) (line : EventLine) (fault : Option LineFault) → HaveWidth width before → HasWidth width line → HaveWidthNow width (with_event before line fault)
with_event_width width before line None h k = width_push width before line h k
with_event_width width before line (Some fault) h k = tt

with_reading_width : (width : ℕ) (before : List EventLine) (read : Result (Option EventLine) LineFault) → HaveWidth width before → SaysWidth width read → HaveWidthNow width (with_reading before read)
with_reading_width width before (Err fault) h k = tt
with_reading_width width before (Ok None) h k = h
with_reading_width width before (Ok (Some line)) h k = with_event_width width before line (fault_behind before line) h k

go_on_width : (width number : ℕ) (before : List EventLine) (now : Result (List EventLine) LineFault) (rest : List EventLine → Judged) → HaveWidth width before → HaveWidthNow width now
    → ((lines : List EventLine) → HaveWidth width lines → HaveWidth width (rest lines).good) → HaveWidth width (go_on number before now rest).good
go_on_width width number before (Ok now) rest h next behind = behind now next
go_on_width width number before (Err fault) rest h next behind = h

either_width : (width : ℕ) (test : Bool) (one other : Judged) → HaveWidth width one.good → HaveWidth width other.good → HaveWidth width (cond test one other).good
either_width width true one other h k = h
either_width width false one other h k = k

module _ (shape : Shape) (types : List FieldType) (has : ShapeHasTypes shape types) where
  behind_width : (count : ℕ) (before : List EventLine) (lines : List (List ℕ)) → HaveWidth (length types) before → HaveWidth (length types) (judged_behind shape count before lines).good
  behind_width count before [] h = h
  behind_width count before (line ∷ lines) h =
      go_on_width (length types) (count + 1) before (with_reading before (line_reading shape line)) (λ now. judged_behind shape (count + 1) now lines) h
      (with_reading_width (length types) before (line_reading shape line) h (line_width shape types has line))
      (λ now next. behind_width (count + 1) now lines next)

  good_width : (bytes : List ℕ) → HaveWidth (length types) (judged shape bytes).good
  good_width bytes =
      let parts = parts_of line_feed (take FILE_LIMIT bytes) in
      either_width (length types) (nat_lt FILE_LIMIT (length bytes)) (judged_front shape parts) (judged_lines shape (raw_lines bytes))
      (behind_width 0 [] (whole_lines parts) tt) (behind_width 0 [] (raw_lines bytes) tt)

-- ---- the canonical history

module _ (width : ℕ) where
  abbrev SomeHas : Option Row → Type 0
  SomeHas None = Unit {0}
  SomeHas (Some row) = length row.payload ≡ width

  or_width : (found : Option Row) (row : Row) → SomeHas found → length row.payload ≡ width → length (unwrap_or found row).payload ≡ width
  or_width None row h k = k
  or_width (Some first) row h k = h

  found_width : (is : Bool) (row : Row) (found : Option Row) → length row.payload ≡ width → SomeHas found → SomeHas (cond is (Some row) found)
  found_width true row found h k = h
  found_width false row found h k = k

  -- the row of an event
  event_row : (id : ℕ) (lines : List EventLine) → HaveWidth width lines → SomeHas (event_with id lines)
  event_row id [] h = tt
  event_row id (Insert other row ∷ lines) h =
      let later = event_row id lines h.1 in
      found_width (nat_eq other id) (unwrap_or (event_with id lines) (row_after id row lines)) (event_with id lines) (or_width (event_with id lines) (row_after id row lines) later h.0) later
  event_row id (Retract other end ∷ lines) h = event_row id lines h.1
  event_row id (Revise other row ∷ lines) h =
      let later = event_row id lines h.1 in
      found_width (nat_eq other id) (unwrap_or (event_with id lines) (row_after id row lines)) (event_with id lines) (or_width (event_with id lines) (row_after id row lines) later h.0) later
  event_row id (Promise time ∷ lines) h = event_row id lines h.1

  rows_width : (lines : List EventLine) → HaveWidth width lines → AreWide width (rows_among lines)
  rows_width [] h = tt
  rows_width (Insert id row ∷ lines) h = (or_width (event_with id lines) (row_after id row lines) (event_row id lines h.1) h.0, rows_width lines h.1)
  rows_width (Retract id end ∷ lines) h = rows_width lines h.1
  rows_width (Revise id row ∷ lines) h = rows_width lines h.1
  rows_width (Promise time ∷ lines) h = rows_width lines h.1

  kept_width : (b : Bool) (r : Row) (rows : List Row) → length r.payload ≡ width → AreWide width rows → AreWide width (cond b (r ∷ rows) rows)
  kept_width true r rows h k = (h, k)
  kept_width false r rows h k = k

  filter_width : (p : Row → Bool) (rows : List Row) → AreWide width rows → AreWide width (filter p rows)
  filter_width p [] h = tt
  filter_width p (r ∷ rows) h = kept_width (p r) r (filter p rows) h.0 (filter_width p rows h.1)

  put_width_at : (b : Bool) (r x : Row) (rows put : List Row) → length r.payload ≡ width → AreWide width (x ∷ rows) → AreWide width put → AreWide width (cond b (r ∷ x ∷ rows) (x ∷ put))
  put_width_at true r x rows put h k l = (h, k)
  put_width_at false r x rows put h k l = (k.0, l)

  put_width : (r : Row) (rows : List Row) → length r.payload ≡ width → AreWide width rows → AreWide width (put_in_order r rows)
  put_width r [] h k = (h, tt)
  put_width r (x ∷ rows) h k = put_width_at (is_le (row_cmp r x)) r x rows (put_in_order r rows) h k (put_width r rows h k.1)

  order_width : (rows : List Row) → AreWide width rows → AreWide width (in_order rows)
  order_width [] h = tt
  order_width (r ∷ rows) h = put_width r (in_order rows) h.0 (order_width rows h.1)

history_width : (shape : Shape) (types : List FieldType) (bytes : List ℕ) → ShapeHasTypes shape types → AreWide (length types) (history_of_bytes shape bytes)
history_width shape types bytes has =
    let good = (judged shape bytes).good in
    order_width (length types) (filter row_lives (rows_among good)) (filter_width (length types) row_lives (rows_among good) (rows_width (length types) good (good_width shape types has bytes)))

-- ---- the sources of a plan

accepted_width : (told : List ℕ → List ℕ) (n : PlanNode) (ms : List Message) (history : List Row) → IsAcceptedSource told n ms history → AreWide (length n.types.items) history
accepted_width told n ms history h = subst (AreWide (length n.types.items)) (sym h.history_is) (history_width h.shape n.types.items (told (file_of n.kind)) h.types)

fits_at : (told : List ℕ → List ℕ) (b : Bool) (n : PlanNode) (sources : List PlanNode) (lists : Lists) (histories : Tables) (column : ℕ) (ports : List KeyedPort)
    → ((ls : Lists) (ts : Tables) → AreAcceptedSources told sources ls ts → FitPorts ports ts)
    → AreAcceptedSources told (cond b (n ∷ sources) sources) lists histories → FitPorts (cond b (record { column = column; width = length n.types.items } ∷ ports) ports) histories
fits_at told true n sources [] [] column ports rest h = absurd h
fits_at told true n sources [] (t ∷ ts) column ports rest h = absurd h
fits_at told true n sources (l ∷ ls) [] column ports rest h = absurd h
fits_at told true n sources (l ∷ ls) (t ∷ ts) column ports rest h = (accepted_width told n l t h.0, rest ls ts h.1)
fits_at told false n sources ls ts column ports rest h = rest ls ts h

fits_from : (told : List ℕ → List ℕ) (nodes : List PlanNode) (place : ℕ) (lists : Lists) (histories : Tables) → AreAcceptedSources told (source_nodes nodes) lists histories → FitPorts (source_ports [] nodes place) histories
fits_from told [] place [] [] h = tt
fits_from told [] place [] (t ∷ ts) h = absurd h
fits_from told [] place (l ∷ ls) ts h = absurd h
fits_from told (n ∷ nodes) place lists histories h = fits_at told (is_source n.kind) n (source_nodes nodes) lists histories (column_at [] place) (source_ports [] nodes (place + 1)) (λ ls ts are. fits_from told nodes (place + 1) ls ts are) h

-- the histories of accepted sources have the widths of their types
pub accepted_tables : (told : List ℕ → List ℕ) (nodes : List PlanNode) (lists : Lists) (histories : Tables) → AreAcceptedSources told (source_nodes nodes) lists histories → AreSourceTables nodes histories
accepted_tables told nodes lists histories h = fits_from told nodes 0 lists histories h

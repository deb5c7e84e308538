-- Lines that are accepted one after the other: each event has the next id, is cut at once if at all, and none
-- begins before a guarantee.
use Rattle.std.proofs.Common.{◌≡◌, ◌==◌, ◌+◌, ◌*◌, ◌<◌, ◌≤◌, ℕ, List, [], ◌∷◌, ◌++◌, Bool, true, false, cond, ltb, ◌&&◌, length, refl, ap, sym, ◌∙◌, subst, length-append, append_assoc, append-nil, arith, Option, None, Some, Ok}
use Rattle.std.specs.Prelude.{All, option_map, is_some}
use Rattle.std.proofs.lemmas.Bool.{le-ltb, lt-ltb, le-leb, eq-eqb, ne_eqb, or_parts}
use Rattle.std.proofs.lemmas.List.Elements.{All-nil, All-cons}
use Rattle.std.proofs.lemmas.List.Splits.{slice_split_at}
use Rattle.cedr_base.specs.declared.row.Row.{Row}
use Rattle.cedr_text.specs.declared.event_line.EventLine.{EventLine}
use Rattle.cedr_text.specs.declared.event_line.EventLine.TheVariants.{Insert, Retract, Promise}
use Rattle.cedr_text.specs.declared.event_line.Shape.{Shape}
use Rattle.cedr_text.specs.declared.fault.LineFault.TheVariants.{KnownId, BadEnd, BeforeGuarantee}
use Rattle.cedr_text.specs.Lines.{without_empty_end, raw_lines}
use Rattle.cedr_base.specs.Bytes.{line_feed}
use Rattle.cedr_text.specs.Parts.{parts_of}
use Rattle.cedr_guard.specs.Judging.{guarantee_of, guarantee_fault, event_with, retraction_fault, fault_behind}
use Rattle.cedr_guard.specs.Sources.{with_event, with_reading, line_reading, go_on, judged_behind}
use Rattle.cedr_guard.proofs.EventLemmas.{guarantee_of-append, ended, event_and, event-push}
use Rattle.cedr_make.proofs.FieldTexts.{has_byte}
use Rattle.cedr_text.proofs.LineLemmas.{end_dropped}

-- ---- a text of whole lines

-- a text is these lines, each with a line feed
abbrev pub AreLines : List ℕ → List (List ℕ) → Type 0
AreLines text lines = (more : List ℕ) → parts_of line_feed (text ++ more) ≡ lines ++ parts_of line_feed more

-- no byte of such a line is a line feed
lacks_feeds : (line : List ℕ) → has_byte 10 line ≡ false → All (λ b. b == line_feed ≡ false) line
lacks_feeds [] none = All-nil (λ b. b == line_feed ≡ false)
lacks_feeds (b ∷ bs) none =
    let parts = or_parts (b == 10) (has_byte 10 bs) none in
    All-cons (λ x. x == line_feed ≡ false) b bs parts.0 (lacks_feeds bs parts.1)

-- a line with its line feed is one line
one_line : (line : List ℕ) → has_byte 10 line ≡ false → AreLines (line ++ 10 ∷ []) (line ∷ [])
one_line line none more =
    ap (parts_of line_feed) (append_assoc line (10 ∷ []) more) ∙ slice_split_at (λ b. b == line_feed) line 10 more (lacks_feeds line none) refl

-- texts of whole lines, one after the other
more_lines : (text next : List ℕ) (lines after : List (List ℕ)) → AreLines text lines → AreLines next after → AreLines (text ++ next) (lines ++ after)
more_lines text next lines after are follow more =
    ap (parts_of line_feed) (append_assoc text next more) ∙ are (next ++ more) ∙ ap (λ rest. lines ++ rest) (follow more) ∙ sym (append_assoc lines after (parts_of line_feed more))

-- the lines of such a text
pub lines_are : (text : List ℕ) (lines : List (List ℕ)) → AreLines text lines → raw_lines text ≡ lines
lines_are text lines are = ap (λ bytes. without_empty_end (parts_of line_feed bytes)) (sym (append-nil text)) ∙ ap without_empty_end (are []) ∙ end_dropped lines

-- ---- lines that are accepted, one after the other

-- such a text's lines are accepted as these events. None of these has an id from `next` on, and no guarantee
-- is above `mark`
pub record Stands (shape : Shape) (text : List ℕ) (next mark most : ℕ) : Type 0 where
  pub lines : List (List ℕ)
  pub events : List EventLine
  pub are : AreLines text lines
  pub accepted : (more : List (List ℕ)) → judged_behind shape 0 [] (lines ++ more) ≡ judged_behind shape (length lines) events more
  pub size : length text ≤ 133 * length lines
  pub few : length lines ≤ most
  pub guarantee : guarantee_of events ≤ mark
  pub no_event : (id : ℕ) → next ≤ id → event_with id events ≡ None

-- a line that says an event without a fault goes to the accepted ones
one_judged : (shape : Shape) (count : ℕ) (before : List EventLine) (line : List ℕ) (event : EventLine) (more : List (List ℕ)) → line_reading shape line ≡ Ok (Some event) → fault_behind before event ≡ None
    → judged_behind shape count before (line ∷ more) ≡ judged_behind shape (count + 1) (before ++ event ∷ []) more
one_judged shape count before line event more says faultless =
    ap (λ read. go_on (count + 1) before (with_reading before read) (λ now. judged_behind shape (count + 1) now more)) says
    ∙ ap (λ fault. go_on (count + 1) before (with_event before event fault) (λ now. judged_behind shape (count + 1) now more)) faultless

-- so lines that are accepted stay so with such a line more
accepted_more : (shape : Shape) (lines : List (List ℕ)) (events : List EventLine) (line : List ℕ) (event : EventLine)
    → ((more : List (List ℕ)) → judged_behind shape 0 [] (lines ++ more) ≡ judged_behind shape (length lines) events more)
    → line_reading shape line ≡ Ok (Some event) → fault_behind events event ≡ None
    → (more : List (List ℕ)) → judged_behind shape 0 [] ((lines ++ line ∷ []) ++ more) ≡ judged_behind shape (length (lines ++ line ∷ [])) (events ++ event ∷ []) more
accepted_more shape lines events line event accepted says faultless more =
    let count : length lines + 1 ≡ length (lines ++ line ∷ []) = sym (length-append lines (line ∷ [])) in
    ap (judged_behind shape 0 []) (append_assoc lines (line ∷ []) more) ∙ accepted (line ∷ more)
    ∙ one_judged shape (length lines) events line event more says faultless
    ∙ ap (λ n. judged_behind shape n (events ++ event ∷ []) more) count

-- the bounds on the bytes and on the lines hold with a line more
size_more : (text line : List ℕ) (lines : List (List ℕ)) → length text ≤ 133 * length lines → length line ≤ 132 → length (text ++ (line ++ 10 ∷ [])) ≤ 133 * length (lines ++ line ∷ [])
size_more text line lines size short_line =
    let a = length-append text (line ++ 10 ∷ []) in
    let b = length-append line (10 ∷ []) in
    let c = length-append lines (line ∷ []) in
    omega arith

few_more : (line : List ℕ) (lines : List (List ℕ)) (most : ℕ) → length lines ≤ most → length (lines ++ line ∷ []) ≤ most + 1
few_more line lines most few = let c = length-append lines (line ∷ []) in omega arith

-- ---- what a line more says

-- a sync from the guarantee on is none below it
not_late : (sync mark : ℕ) → mark ≤ sync → guarantee_fault sync mark ≡ None
not_late sync mark from = ap (λ test. cond test (Some (BeforeGuarantee sync mark)) None) (le-ltb sync mark from)

-- what holds of a line that is added to others
pub record MayStand (shape : Shape) (before : List EventLine) (line : List ℕ) (event : EventLine) : Type 0 where
  pub no_feed : has_byte 10 line ≡ false
  pub short : length line ≤ 132
  pub says : line_reading shape line ≡ Ok (Some event)
  pub faultless : fault_behind before event ≡ None

-- a line more, of an event with an id below the next ones
abbrev stands_more : (shape : Shape) (text : List ℕ) (next next' mark mark' most : ℕ) (line : List ℕ) (event : EventLine) (s : Stands shape text next mark most) → MayStand shape s.events line event
    → next ≤ next' → mark ≤ mark' → guarantee_of (event ∷ []) ≤ mark'
    → ((id : ℕ) → next' ≤ id → event_and id event None ≡ None)
    → Stands shape (text ++ (line ++ 10 ∷ [])) next' mark' (most + 1)
stands_more shape text next next' mark mark' most line event s may grows rises below none = record {
  lines = s.lines ++ line ∷ [];
  events = s.events ++ event ∷ [];
  are = more_lines text (line ++ 10 ∷ []) s.lines (line ∷ []) s.are (one_line line may.no_feed);
  accepted = accepted_more shape s.lines s.events line event s.accepted may.says may.faultless;
  size = size_more text line s.lines s.size may.short;
  few = few_more line s.lines most s.few;
  guarantee = let both = guarantee_of-append s.events (event ∷ []) in let before = s.guarantee in omega arith;
  no_event = λ id later. event-push id s.events event ∙ ap (event_and id event) (s.no_event id (omega (arith, grows, later))) ∙ none id later;
}

-- the same text, with greater bounds
abbrev stands_still : (shape : Shape) (text : List ℕ) (next mark mark' most most' : ℕ) → mark ≤ mark' → most ≤ most' → Stands shape text next mark most → Stands shape text next mark' most'
stands_still shape text next mark mark' most most' rises grows s = record {
  lines = s.lines;
  events = s.events;
  are = s.are;
  accepted = s.accepted;
  size = s.size;
  few = let few = s.few in omega arith;
  guarantee = let before = s.guarantee in omega arith;
  no_event = s.no_event;
}

-- after an insertion, whose row is as it was inserted
pub record Inserted (shape : Shape) (text : List ℕ) (id mark most : ℕ) (row : Row) : Type 0 where
  pub stands : Stands shape text (id + 1) mark most
  pub event : event_with id stands.events ≡ Some row

-- an insertion is none of another id
at_other : (id other : ℕ) (row : Row) → id + 1 ≤ other → event_and other (Insert id row) None ≡ None
at_other id other row later = ap (λ test. cond test (Some row) None) (ne_eqb id other (λ e. omega (arith, e, later)))

-- it is found by its own id, as it was inserted
inserted_here : (id : ℕ) (row : Row) (before : List EventLine) → event_with id (before ++ Insert id row ∷ []) ≡ Some row
inserted_here id row before = event-push id before (Insert id row) ∙ ap (λ test. cond test (Some row) (event_with id before)) (eq-eqb id id refl)

-- an insertion of the next id
pub stands_insert : (shape : Shape) (text : List ℕ) (id mark most : ℕ) (line : List ℕ) (row : Row) → Stands shape text id mark most → has_byte 10 line ≡ false → length line ≤ 132
    → line_reading shape line ≡ Ok (Some (Insert id row)) → mark ≤ row.begin → Inserted shape (text ++ (line ++ 10 ∷ [])) id mark (most + 1) row
stands_insert shape text id mark most line row s none few says from =
    let late = not_late row.begin (guarantee_of s.events) (let before = s.guarantee in omega arith) in
    let faultless = ap (λ (found : Option Row). cond (is_some found) (Some KnownId) (guarantee_fault row.begin (guarantee_of s.events))) (s.no_event id (omega arith)) ∙ late in
    record {
      stands = stands_more shape text id (id + 1) mark mark most line (Insert id row) s (record { no_feed = none; short = few; says = says; faultless = faultless })
          (omega arith) (omega arith) (omega arith) (λ other later. at_other id other row later);
      event = inserted_here id row s.events;
    }

-- a new end within the row's life and from the guarantee on has no fault
no_bad_end : (row : Row) (end mark : ℕ) → row.begin ≤ end → end < row.end → mark ≤ end → retraction_fault (Some row) end mark ≡ None
no_bad_end row end mark low high from =
    ap (λ test. cond (test && ltb end row.end) (guarantee_fault end mark) (Some (BadEnd row.begin row.end))) (le-leb row.begin end low)
    ∙ ap (λ test. cond test (guarantee_fault end mark) (Some (BadEnd row.begin row.end))) (lt-ltb end row.end high)
    ∙ not_late end mark from

-- a retraction of the id that was inserted last, or none
pub stands_retract : (test : Bool) (shape : Shape) (text : List ℕ) (id mark most : ℕ) (line : List ℕ) (row : Row) (end : ℕ) → Inserted shape text id mark most row → has_byte 10 line ≡ false → length line ≤ 132
    → line_reading shape line ≡ Ok (Some (Retract id end)) → row.begin ≤ end → end < row.end → mark ≤ row.begin → Stands shape (text ++ cond test (line ++ 10 ∷ []) []) (id + 1) mark (most + 1)
stands_retract false shape text id mark most line row end at none few says low high from =
    subst (λ (t : List ℕ). Stands shape t (id + 1) mark (most + 1)) (sym (append-nil text)) (stands_still shape text (id + 1) mark mark most (most + 1) (omega arith) (omega arith) at.stands)
stands_retract true shape text id mark most line row end at none few says low high from =
    let events = at.stands.events in
    let before = at.stands.guarantee in
    let faultless = ap (λ found. retraction_fault found end (guarantee_of events)) at.event ∙ no_bad_end row end (guarantee_of events) low high (omega arith) in
    stands_more shape text (id + 1) (id + 1) mark mark most line (Retract id end) at.stands (record { no_feed = none; short = few; says = says; faultless = faultless })
    (omega arith) (omega arith) (omega arith)
    (λ other later. ap (λ test. cond test (option_map (ended end) None) None) (ne_eqb id other (λ e. omega (arith, e, later))))

-- a guarantee that isn't below the earlier ones, or none
pub stands_promise : (test : Bool) (shape : Shape) (text : List ℕ) (next mark most : ℕ) (line : List ℕ) (time : ℕ) → Stands shape text next mark most → has_byte 10 line ≡ false → length line ≤ 132
    → line_reading shape line ≡ Ok (Some (Promise time)) → mark ≤ time → Stands shape (text ++ cond test (line ++ 10 ∷ []) []) next time (most + 1)
stands_promise false shape text next mark most line time s none few says rises =
    subst (λ (t : List ℕ). Stands shape t next time (most + 1)) (sym (append-nil text)) (stands_still shape text next mark time most (most + 1) rises (omega arith) s)
stands_promise true shape text next mark most line time s none few says rises =
    stands_more shape text next next mark time most line (Promise time) s (record { no_feed = none; short = few; says = says; faultless = refl })
    (omega arith) rises (omega arith) (λ id later. refl)

-- A worker that reads a source keeps its record.
use Rattle.std.proofs.Common.{◌≡◌, ℕ, ◌+◌, ◌<◌, ◌≤◌, ◌⊎◌, inl, inr, Bool, true, false, true≢false, not, ◌&&◌, ◌||◌, List, [], ◌∷◌, ◌++◌, length, map, get_or, Option, None, Some, Result, Ok, Err, Vec, refl, sym, ap, ◌∙◌, subst, arith}
use Rattle.std.specs.Prelude.{IfOk, IsSome, is_none, is_some}
use Rattle.std.specs.Global.{Global}
use Rattle.std.specs.Io.KnownBytes.{Consumes, IsAtEnd}
use Rattle.std.proofs.KnownBytes.{Consumes-nil, Consumes-trans}
use Rattle.cedr_base.specs.declared.change.Message.{Message}
use Rattle.cedr_base.specs.declared.change.Message.TheVariants as message
use Rattle.cedr_text.specs.declared.event_line.Shape.{Shape}
use Rattle.cedr_guard.specs.declared.refusal.TheConstants.{FILE_LIMIT}
use Rattle.node_laws.specs.Lawful.{is_over, has_broken}
use Rattle.node_laws.specs.Pass.{has_end}
use Rattle.node_laws.proofs.Ends.{broken-append}
use Rattle.cedr_edge.proofs.Lists.{over_append}
use Rattle.worker_outlets.specs.Outgoing.{Outgoing, last_message}
use Rattle.worker_outlets.specs.Outlets.{PutSoFar, NonePending, SomePending, AllOver, SomeOpen, AllTotal, AllStaged, SomePut, bare, sent_of, end_sent, total_of}
use Rattle.cedr_source.specs.declared.lines.SourceLines.{SourceLines}
use Rattle.cedr_source.specs.Reads.{ReadsSource, is_ended, lines_left}
use Rattle.cedr_worker.specs.declared.source.SourceWorker.{SourceWorker}
use Rattle.cedr_worker.specs.declared.reading.TheConstants.{BLOCK}
use Rattle.cedr_worker.specs.declared.stop.SourceStop.{SourceStop}
use Rattle.cedr_worker.specs.declared.stop.SourceStop.TheVariants as stop
use Rattle.cedr_worker.specs.Stops.{last_at, meant, IsGiven, StoppedSo, CountedSo, BreaksSo}
use Rattle.cedr_worker.specs.SourceSteps.{Advanced, TookStep, MayPass, Passed}
use Rattle.cedr_worker.specs.declared.source.SourceEnd.{SourceEnd}
use Rattle.cedr_worker.specs.Sources.{SourceWorks, SourceEnds}
use Rattle.cedr_worker.specs.SourceTurns.{Stepped, Rests, StaysStopped, BrokenOnly}
use Rattle.cedr_worker.proofs.ReadingLemmas.{reads_given}
use Rattle.cedr_worker.proofs.SourceOutlets.{some_put, put_total, put_staged, put_sent, not_put, put_full, put_some, not_both, sent_over, over_total}
use Rattle.cedr_worker.proofs.EndLemmas.{ends_sent}
use Rattle.cedr_worker.proofs.TurnLemmas.{bare_sent, puts_none}
use Rattle.std.proofs.lemmas.Bool.{or_parts}

-- a source's last message ends a list
last_over : (given : List Message) (s : SourceStop) → is_over (given ++ last_message (last_at s) ∷ []) ≡ true
last_over given stop.Closed = over_append given (message.End ∷ []) refl
last_over given (stop.Refused line fault) = over_append given (message.Broken ∷ []) refl
last_over given stop.ReadFault = over_append given (message.Broken ∷ []) refl
last_over given stop.OutOfMemory = over_append given (message.Broken ∷ []) refl

-- what is meant for each edge is over where the source stopped
meant_over : (given : List Message) (s : Option SourceStop) → IsSome s → is_over (meant given s) ≡ true
meant_over given None some = absurd (true≢false (sym some))
meant_over given (Some s) some = last_over given s

-- and only there
meant_stops : (given : List Message) (s : Option SourceStop) → is_over given ≡ false → is_over (meant given s) ≡ true → IsSome s
meant_stops given None goes over = absurd (true≢false (sym over ∙ goes))
meant_stops given (Some s) goes over = refl

some_if : (s : Option SourceStop) → is_none s ≡ false → IsSome s
some_if None e = absurd (true≢false e)
some_if (Some s) e = refl

none_of : (s : Option SourceStop) → IsSome s → is_none s ≡ false
none_of None some = absurd (true≢false (sym some))
none_of (Some s) some = refl

and_none : (b : Bool) → (b && false) ≡ false
and_none true = refl
and_none false = refl

module _ {S : Type 0} (rest : S → Option (List ℕ)) (faults : S → ℕ) (shape : Shape) (content : Option (List ℕ)) (count : ℕ) where
  -- a round of puts leaves what is meant for each edge
  pub put_works : (old : SourceWorker S) (new : List Outgoing) (moved : Bool) → PutSoFar old.outlets new moved (length old.outlets) → SourceWorks rest faults shape content count old → SourceWorks rest faults shape content count (record old { outlets = new })
  put_works old new moved puts works = record {
    bytes = works.bytes;
    few = works.few;
    given = works.given;
    read = works.read;
    at_end = works.at_end;
    is_given = works.is_given;
    goes_on = λ none. let goes = works.goes_on none in (goes.0, put_staged old.outlets new moved puts [] goes.1);
    total = put_total old.outlets new moved puts (meant works.given old.stop) works.total;
    stopped = works.stopped;
    counted = works.counted;
    some_edge = omega (arith, works.some_edge, puts.length_is);
    room = works.room;
  }

  -- the record of a worker whose stop is known
  stands : (now : SourceWorker S) (s : Option SourceStop) (bytes : List ℕ) (given : List Message) → length bytes ≤ FILE_LIMIT + BLOCK → now.stop ≡ s → Consumes content (rest now.source) bytes → (is_ended now.lines ≡ true → IsAtEnd (rest now.source)) → IsGiven shape bytes given (is_ended now.lines)
      → (s ≡ None → ReadsSource now.lines shape bytes given × AllStaged [] now.outlets) → AllTotal (meant given s) now.outlets → StoppedSo s shape bytes given (is_ended now.lines) → CountedSo s count (faults now.source) → 0 < length now.outlets → length now.block.items ≡ BLOCK
      → SourceWorks rest faults shape content count now
  stands now s bytes given few is read at is_given goes total stopped counted some room = record {
    bytes = bytes;
    few = few;
    given = given;
    read = read;
    at_end = at;
    is_given = is_given;
    goes_on = λ none. goes (sym is ∙ none);
    total = subst (λ (t : Option SourceStop). AllTotal (meant given t) now.outlets) (sym is) total;
    stopped = subst (λ (t : Option SourceStop). StoppedSo t shape bytes given (is_ended now.lines)) (sym is) stopped;
    counted = subst (λ (t : Option SourceStop). CountedSo t count (faults now.source)) (sym is) counted;
    some_edge = some;
    room = room;
  }

  -- nothing was read yet
  pub new_works : (now : SourceWorker S) → now.stop ≡ None → content ≡ rest now.source → count ≡ faults now.source → ReadsSource now.lines shape [] [] → is_ended now.lines ≡ false → AllTotal [] now.outlets → AllStaged [] now.outlets → 0 < length now.outlets → length now.block.items ≡ BLOCK
      → SourceWorks rest faults shape content count now
  new_works now none same counted reads goes_on total clean some room =
      stands now None [] [] (omega arith) none (subst (λ (c : Option (List ℕ)). Consumes c (rest now.source) []) (sym same) (Consumes-nil (rest now.source))) (λ ended. absurd (true≢false (sym ended ∙ goes_on))) (reads_given now.lines shape [] [] reads)
      (λ _. (reads, clean)) total tt (sym counted) some room

  module _ (old now : SourceWorker S) (none : old.stop ≡ None) (works : SourceWorks rest faults shape content count old) where
    -- what is meant for each edge before a step
    pub going_total : AllTotal works.given old.outlets
    going_total = subst (λ (s : Option SourceStop). AllTotal (meant works.given s) old.outlets) none works.total

    going_count : faults old.source ≡ count
    going_count = subst (λ (s : Option SourceStop). CountedSo s count (faults old.source)) none works.counted

    step_stands : (answer : Result (Vec Message Global) SourceStop) (took : TookStep answer old.lines now.lines (rest old.source) (rest now.source) (faults old.source) (faults now.source) shape works.bytes works.given)
        → Passed answer now.stop works.given now.outlets → 0 < length now.outlets → length now.block.items ≡ BLOCK → SourceWorks rest faults shape content count now
    step_stands (Ok messages) took (inl passed) some room =
        let bytes = works.bytes ++ took.piece in
        stands now None bytes (works.given ++ messages.items) (took.few works.few) passed.0 (Consumes-trans _ _ _ works.bytes took.piece works.read took.read) (took.at_end works.at_end) (reads_given now.lines shape bytes (works.given ++ messages.items) took.tells.0)
        (λ _. (took.tells.0, passed.2)) passed.1 tt (took.counted ∙ going_count) some room
    step_stands (Ok messages) took (inr passed) some room =
        let bytes = works.bytes ++ took.piece in
        stands now (Some stop.OutOfMemory) bytes works.given (took.few works.few) passed.0 (Consumes-trans _ _ _ works.bytes took.piece works.read took.read) (took.at_end works.at_end) took.is_given
        (λ e. absurd (some_none e)) passed.1 tt (took.counted ∙ going_count) some room where
          some_none : Some stop.OutOfMemory ≡ None → ⊥
          some_none e = cc
    step_stands (Err s) took passed some room =
        let bytes = works.bytes ++ took.piece in
        stands now (Some s) bytes works.given (took.few works.few) passed.0 (Consumes-trans _ _ _ works.bytes took.piece works.read took.read) (took.at_end works.at_end) took.is_given
        (λ e. absurd (some_none e)) passed.1 took.tells (subst (λ (c : ℕ). CountedSo (Some s) c (faults now.source)) going_count took.counted) some room where
          some_none : Some s ≡ None → ⊥
          some_none e = cc

    -- a step, and what becomes of its answer
    pub step_works : (answer : Result (Vec Message Global) SourceStop)
        → ((shape : Shape) (bytes : List ℕ) (given : List Message) → ReadsSource old.lines shape bytes given → TookStep answer old.lines now.lines (rest old.source) (rest now.source) (faults old.source) (faults now.source) shape bytes given)
        → ((given : List Message) → AllTotal given old.outlets → AllStaged [] old.outlets → Passed answer now.stop given now.outlets) → length now.outlets ≡ length old.outlets → length now.block.items ≡ length old.block.items → SourceWorks rest faults shape content count now
    step_works answer took passed edges block =
        let goes = works.goes_on none in
        step_stands answer (took shape works.bytes works.given goes.0) (passed works.given going_total goes.1) (omega (arith, works.some_edge, edges)) (block ∙ works.room)

-- what a step gives may be passed on
pub may_pass : (answer : Result (Vec Message Global) SourceStop) (old new : SourceLines) (rest left : Option (List ℕ)) (faults now : ℕ) (shape : Shape) (bytes : List ℕ) (given : List Message) → TookStep answer old new rest left faults now shape bytes given → MayPass answer given
may_pass (Ok messages) old new rest left faults now shape bytes given took = took.tells.1
may_pass (Err s) old new rest left faults now shape bytes given took = tt

-- a step that was taken changed something
pub step_seen : {S : Type 0} (rest : S → Option (List ℕ)) (old now : SourceWorker S) (answer : Result (Vec Message Global) SourceStop) (given : List Message) → old.stop ≡ None → IfOk answer (λ _. Advanced (rest old.source) (rest now.source) old.lines now.lines) → Passed answer now.stop given now.outlets
    → Stepped rest old now
step_seen rest old now (Ok m) given none advanced passed = inl advanced
step_seen rest old now (Err s) given none advanced passed = inr (none, subst IsSome (sym passed.0) refl)

-- where nothing changed no step was taken
pub not_stepped : {S : Type 0} (rest : S → Option (List ℕ)) (old now : SourceWorker S) → now.source ≡ old.source → now.lines ≡ old.lines → now.stop ≡ old.stop → Stepped rest old now → ⊥
not_stepped rest old now source lines stop (inl (inl taken)) = omega (arith, taken, ap (λ (l : SourceLines). lines_left l) lines)
not_stepped rest old now source lines stop (inl (inr (inl read))) = not_less read.room where
  not_less : (now.lines.room < old.lines.room) ⊎ ((old.lines.over_limit ≡ false) × (now.lines.over_limit ≡ true)) → ⊥
  not_less (inl less) = omega (arith, less, ap (λ (l : SourceLines). l.room) lines)
  not_less (inr passed) = true≢false (sym passed.1 ∙ (ap (λ (l : SourceLines). l.over_limit) lines ∙ passed.0))
not_stepped rest old now source lines stop (inl (inr (inr met))) = true≢false (sym met.1 ∙ (ap is_ended lines ∙ met.0))
not_stepped rest old now source lines stop (inr stopped) = none_some (stop ∙ stopped.0) stopped.1 where
  none_some : {s : Option SourceStop} → s ≡ None → IsSome s → ⊥
  none_some {s} e some = true≢false (sym some ∙ ap is_some e)

-- ---- what a turn answers

module _ {S : Type 0} (rest : S → Option (List ℕ)) (old now : SourceWorker S) (mid : List Outgoing) (moved pending stepped : Bool) (puts : PutSoFar old.outlets mid moved (length old.outlets))
    (same : map bare now.outlets ≡ map bare mid) (seen : stepped ≡ true → Stepped rest (record old { outlets = mid }) now) (rested : stepped ≡ false → now ≡ record old { outlets = mid }) where
  -- where no step was taken none can be seen
  none_seen : stepped ≡ false → Stepped rest old now → ⊥
  none_seen none = not_stepped rest old now (ap (λ (w : SourceWorker S). w.source) (rested none)) (ap (λ (w : SourceWorker S). w.lines) (rested none)) (ap (λ (w : SourceWorker S). w.stop) (rested none))

  -- something happened
  pub moved_seen : (m s : Bool) → moved ≡ m → stepped ≡ s → (m || s) ≡ true → SomePut old.outlets now.outlets ⊎ Stepped rest old now
  moved_seen true s is_moved is_stepped e = inl (some_put old.outlets mid now.outlets same (put_some old.outlets mid moved puts is_moved))
  moved_seen false true is_moved is_stepped e = inr (seen is_stepped)
  moved_seen false false is_moved is_stepped e = absurd (true≢false (sym e))

  -- and only where it did
  pub seen_moved : (m s : Bool) → moved ≡ m → stepped ≡ s → SomePut old.outlets now.outlets ⊎ Stepped rest old now → (m || s) ≡ true
  seen_moved true s is_moved is_stepped seen = refl
  seen_moved false true is_moved is_stepped seen = refl
  seen_moved false false is_moved is_stepped (inl put) = absurd (not_put old.outlets mid moved puts is_moved (some_put old.outlets now.outlets mid (sym same) put))
  seen_moved false false is_moved is_stepped (inr step) = absurd (none_seen is_stepped step)

  -- a step is taken only where all that was pending was sent
  pub stepped_sent : (p s : Bool) (none : Bool) → pending ≡ p → stepped ≡ s → (pending ≡ false → NonePending mid (length mid)) → stepped ≡ (not pending && none) → Stepped rest old now → map sent_of now.outlets ≡ map total_of old.outlets
  stepped_sent p false none is_pending is_stepped free is step = absurd (none_seen is_stepped step)
  stepped_sent true true none is_pending is_stepped free is step = absurd (true≢false (sym is_stepped ∙ (is ∙ ap (λ (b : Bool). not b && none) is_pending)))
  stepped_sent false true none is_pending is_stepped free is step = bare_sent mid now.outlets same ∙ put_sent old.outlets mid moved puts (free is_pending)

  -- nothing happened: a pending message met a full queue
  pub rests : (p : Bool) → pending ≡ p → moved ≡ false → stepped ≡ false → (pending ≡ false → NonePending mid (length mid)) → (pending ≡ true → SomePending mid (length mid)) → stepped ≡ (not pending && is_none old.stop)
      → (IsSome old.stop → NonePending mid (length mid) → AllOver mid) → SomeOpen now.outlets → Rests old now
  rests p is_pending is_moved is_stepped none some is over goes = subst (λ (w : SourceWorker S). Rests old w) (sym (rested is_stepped)) (record {
    sent = puts_none old.outlets mid moved puts is_moved;
    source = refl;
    lines = refl;
    stop = refl;
    full = put_full old.outlets mid moved puts is_moved (still p is_pending);
  }) where
    still : (p : Bool) → pending ≡ p → SomePending mid (length mid)
    still true is_pending = some is_pending
    still false is_pending =
        let stopped = some_if old.stop (sym (ap (λ (b : Bool). not b && is_none old.stop) is_pending) ∙ (sym is ∙ is_stepped)) in
        absurd (not_both mid (over stopped (none is_pending)) (subst (λ (w : SourceWorker S). SomeOpen w.outlets) (rested is_stepped) goes))

  -- a source that stopped is read no more
  pub stays_stopped : (s : Bool) → stepped ≡ s → stepped ≡ (not pending && is_none old.stop) → IsSome old.stop → StaysStopped old now
  stays_stopped true is_stepped is some = absurd (true≢false (sym is_stepped ∙ (is ∙ (ap (λ (b : Bool). not pending && b) (none_of old.stop some) ∙ and_none (not pending)))))
  stays_stopped false is_stepped is some = record { source = ap (λ (w : SourceWorker S). w.source) (rested is_stepped); stop = ap (λ (w : SourceWorker S). w.stop) (rested is_stepped) }

-- and so over turns
pub stays_on : {S : Type 0} (old mid now : SourceWorker S) → (IsSome mid.stop → StaysStopped mid now) → StaysStopped old mid → IsSome old.stop → StaysStopped old now
stays_on old mid now next before some =
    let then = next (subst IsSome (sym before.stop) some) in
    record { source = then.source ∙ before.source; stop = then.stop ∙ before.stop }

-- it is answered exactly whether all edges are over
pub over_told : (over : Bool) (os : List Outgoing) → (over ≡ false → SomeOpen os) → AllOver os → over ≡ true
over_told true os goes all = refl
over_told false os goes all = absurd (not_both os all (goes refl))

-- where all edges are over or not
pub not_over : (over : Bool) → (over ≡ true → ⊥) → over ≡ false
not_over true none = absurd (none refl)
not_over false none = refl

-- where a source stopped and nothing is pending, all edges are over
pub stopped_over : {S : Type 0} (rest : S → Option (List ℕ)) (faults : S → ℕ) (shape : Shape) (content : Option (List ℕ)) (count : ℕ) (worker : SourceWorker S) → SourceWorks rest faults shape content count worker → IsSome worker.stop → NonePending worker.outlets (length worker.outlets) → AllOver worker.outlets
stopped_over rest faults shape content count worker works some none = sent_over (meant works.given worker.stop) worker.outlets (meant_over works.given worker.stop some) works.total none

-- where all edges are over the source stopped
pub over_stopped : {S : Type 0} (rest : S → Option (List ℕ)) (faults : S → ℕ) (shape : Shape) (content : Option (List ℕ)) (count : ℕ) (worker : SourceWorker S) → SourceWorks rest faults shape content count worker → AllOver worker.outlets → IsSome worker.stop
over_stopped rest faults shape content count worker works over =
    meant_stops works.given worker.stop works.is_given.goes (over_total (meant works.given worker.stop) worker.outlets works.some_edge works.total over)

-- ---- no Broken but where the source stopped otherwise

-- a list that goes on isn't broken
pub open_unbroken : (given : List Message) → is_over given ≡ false → has_broken given ≡ false
open_unbroken given goes = (or_parts (has_end given) (has_broken given) goes).1

broken_meant : (given : List Message) (s : Option SourceStop) → has_broken given ≡ false → has_broken (meant given s) ≡ true → BreaksSo s
broken_meant given None none some = true≢false (sym some ∙ none)
broken_meant given (Some stop.Closed) none some = true≢false (sym some ∙ broken-append given (message.End ∷ []) none)
broken_meant given (Some (stop.Refused line fault)) none some = tt
broken_meant given (Some stop.ReadFault) none some = tt
broken_meant given (Some stop.OutOfMemory) none some = tt

broken_more : (xs ys : List Message) → has_broken xs ≡ true → has_broken (xs ++ ys) ≡ true
broken_more [] ys e = absurd (true≢false (sym e))
broken_more (message.Change c ∷ xs) ys e = broken_more xs ys e
broken_more (message.Mark t ∷ xs) ys e = broken_more xs ys e
broken_more (message.End ∷ xs) ys e = broken_more xs ys e
broken_more (message.Broken ∷ xs) ys e = refl

-- a Broken was sent only where the source stopped, and not as closed
pub broken_only : {S : Type 0} (rest : S → Option (List ℕ)) (faults : S → ℕ) (shape : Shape) (content : Option (List ℕ)) (count : ℕ) (worker : SourceWorker S) → SourceWorks rest faults shape content count worker → BrokenOnly worker.stop worker.outlets
broken_only rest faults shape content count worker works k d less broken =
    let o = get_or worker.outlets k d in
    broken_meant works.given worker.stop (open_unbroken works.given works.is_given.goes) (ap (λ (ms : List Message). has_broken ms) (sym (works.total k d less)) ∙ broken_more o.sent o.pending broken)

-- ---- the end

-- what is left where all edges are over
pub works_end : {S : Type 0} (rest : S → Option (List ℕ)) (faults : S → ℕ) (shape : Shape) (content : Option (List ℕ)) (count : ℕ) (worker : SourceWorker S) (end : SourceEnd S) → SourceWorks rest faults shape content count worker → AllOver worker.outlets
    → end.source ≡ worker.source → worker.stop ≡ Some end.stop → map end_sent end.outputs.items ≡ map total_of worker.outlets → SourceEnds rest faults shape content count end
works_end rest faults shape content count worker end works over source stops sent = record {
  bytes = works.bytes;
  few = works.few;
  given = works.given;
  ended = is_ended worker.lines;
  read = subst (λ s. Consumes content (rest s) works.bytes) (sym source) works.read;
  at_end = λ ended. subst (λ s. IsAtEnd (rest s)) (sym source) (works.at_end ended);
  is_given = works.is_given;
  stopped = subst (λ (s : Option SourceStop). StoppedSo s shape works.bytes works.given (is_ended worker.lines)) stops works.stopped;
  counted = subst (λ s. CountedSo (Some end.stop) count (faults s)) (sym source) (subst (λ (s : Option SourceStop). CountedSo s count (faults worker.source)) stops works.counted);
  sent = ends_sent (works.given ++ last_message (last_at end.stop) ∷ []) worker.outlets end.outputs.items sent (subst (λ (s : Option SourceStop). AllTotal (meant works.given s) worker.outlets) stops works.total);
}

-- What a step of a source's worker answers.
use Rattle.std.proofs.Common.{◌≡◌, ◌≢◌, ℕ, ◌+◌, ◌<◌, ◌≤◌, ◌⊎◌, inl, inr, Bool, true, false, true≢false, List, [], ◌++◌, length, Option, Some, Result, Ok, Err, Vec, refl, sym, ap, ◌∙◌, subst, append_assoc, append-nil, arith}
use Rattle.std.specs.Prelude.{nat_lt, IfOk}
use Rattle.std.specs.Global.{Global}
use Rattle.std.specs.Io.KnownBytes.{Consumes, Keeps, IsAtEnd}
use Rattle.std.proofs.KnownBytes.{Consumes-nil, Consumes-kept}
use Rattle.std.proofs.lemmas.Bool.{ltb-false, le-ltb}
use Rattle.std.proofs.lemmas.List.{length-append}
use Rattle.cedr_base.specs.declared.change.Message.{Message}
use Rattle.cedr_base.specs.Messages.{IsLegal}
use Rattle.cedr_text.specs.declared.event_line.Shape.{Shape}
use Rattle.cedr_guard.specs.declared.refusal.Refusal.{Refusal}
use Rattle.cedr_guard.specs.declared.refusal.TheConstants.{FILE_LIMIT}
use Rattle.cedr_guard.specs.Messages.{messages_behind}
use Rattle.cedr_guard.proofs.MessageLemmas.{accepted_messages}
use Rattle.cedr_guard.specs.Sources.{judged}
use Rattle.node_laws.specs.Lawful.{is_over}
use Rattle.node_laws.proofs.Ends.{over_open}
use Rattle.cedr_source.specs.declared.lines.SourceLines.{SourceLines}
use Rattle.cedr_source.specs.declared.step.SourceStep.{SourceStep}
use Rattle.cedr_source.specs.declared.step.SourceStep.TheVariants as step
use Rattle.cedr_source.specs.Reads.{ReadsSource, is_ended}
use Rattle.cedr_source.specs.Steps.{IsFrontOf, AnswersStep, IsClosedSource, IsRefused}
use Rattle.cedr_source.proofs.ReadsLemmas.{gives_front}
use Rattle.cedr_worker.specs.declared.reading.TheConstants.{BLOCK}
use Rattle.cedr_worker.specs.declared.stop.SourceStop.{SourceStop}
use Rattle.cedr_worker.specs.declared.stop.SourceStop.TheVariants as stop
use Rattle.cedr_worker.specs.Stops.{IsGiven, StoppedAs, CountedSo}
use Rattle.cedr_worker.specs.SourceSteps.{BlockCame, Advanced, TellsStep, TookStep, stop_of}

-- ---- what was given

-- what was given for the lines that were taken
pub reads_given : (lines : SourceLines) (shape : Shape) (bytes : List ℕ) (given : List Message) → ReadsSource lines shape bytes given → IsGiven shape bytes given (is_ended lines)
reads_given lines shape bytes given reads =
    let law = gives_front lines shape bytes given reads in
    record { front = law.front; legal = law.legal; goes = ap (λ (ms : List Message). is_over ms) reads.messages ∙ over_open (messages_behind [] reads.good) (accepted_messages reads.good reads.guards.accepted).all.goes_on }

-- it stays so where bytes were read
pub given_behind : (shape : Shape) (bytes piece : List ℕ) (given : List Message) → IsGiven shape bytes given false → IsGiven shape (bytes ++ piece) given false
given_behind shape bytes piece given is = record {
  front = λ more may. subst (λ (all : List ℕ). IsFrontOf given (messages_behind [] (judged shape all).good)) (sym (append_assoc bytes piece more)) (is.front (piece ++ more) (λ e. absurd (true≢false (sym e))));
  legal = is.legal;
  goes = is.goes;
}

-- the same where no byte was read, and it is as well known that none comes
pub given_still : (shape : Shape) (bytes : List ℕ) (given : List Message) (before now : Bool) → now ≡ before → IsGiven shape bytes given before → IsGiven shape (bytes ++ []) given now
given_still shape bytes given before now same is =
    subst (λ (all : List ℕ). IsGiven shape all given now) (sym (append-nil bytes)) (subst (λ (e : Bool). IsGiven shape bytes given e) (sym same) is)

still : (lines : SourceLines) (shape : Shape) (bytes : List ℕ) (given : List Message) → ReadsSource lines shape bytes given → ReadsSource lines shape (bytes ++ []) given
still lines shape bytes given reads = subst (λ (all : List ℕ). ReadsSource lines shape all given) (sym (append-nil bytes)) reads

-- nothing more was given, and it is legal
told_none : (lines : SourceLines) (shape : Shape) (bytes : List ℕ) (given : List Message) (messages : Vec Message Global) → messages.items ≡ [] → ReadsSource lines shape bytes given → TellsStep (Ok messages) lines shape bytes given
told_none lines shape bytes given messages none reads =
    let same : given ≡ given ++ messages.items = sym (append-nil given) ∙ ap (λ (ms : List Message). given ++ ms) (sym none) in
    subst (λ (all : List Message). ReadsSource lines shape bytes all × IsLegal all) same (reads, (gives_front lines shape bytes given reads).legal)

-- ---- a line is taken

-- what is said of a line where the answer is this step
pub told_as : (lines : SourceLines) (shape : Shape) (bytes : List ℕ) (given added : List Message) (said s : SourceStep) → said ≡ s → AnswersStep said lines shape bytes given added → AnswersStep s lines shape bytes given added
told_as lines shape bytes given added said s is tells = subst (λ (t : SourceStep). AnswersStep t lines shape bytes given added) is tells

-- what a stop says stays so when no byte was read
stopped_still : (s : SourceStop) (shape : Shape) (bytes : List ℕ) (given : List Message) (ended : Bool) → StoppedAs s shape bytes given ended → StoppedAs s shape (bytes ++ []) given ended
stopped_still s shape bytes given ended h = subst (λ (all : List ℕ). StoppedAs s shape all given ended) (sym (append-nil bytes)) h

closed_as : (lines : SourceLines) (shape : Shape) (bytes : List ℕ) (given : List Message) → IsClosedSource lines shape bytes given → StoppedAs stop.Closed shape bytes given (is_ended lines)
closed_as lines shape bytes given is = record { at_end = is.ended; faultless = is.faultless; all = is.all }

refused_as : (lines : SourceLines) (shape : Shape) (bytes : List ℕ) (given : List Message) (refusal : Refusal) → IsRefused lines shape bytes given refusal → StoppedAs (stop.Refused refusal.line refusal.fault) shape bytes given (is_ended lines)
refused_as lines shape bytes given refusal is = record { first = is.fault; all = is.all }

-- where no byte more was read, no more were read than before
no_more : (bytes : List ℕ) → length bytes ≤ FILE_LIMIT + BLOCK → length (bytes ++ []) ≤ FILE_LIMIT + BLOCK
no_more bytes few = subst (λ (all : List ℕ). length all ≤ FILE_LIMIT + BLOCK) (sym (append-nil bytes)) few

-- where no more were read than a source may have, a block more is at most one block over that
block_more : (bytes piece : List ℕ) → length bytes ≤ FILE_LIMIT → length piece ≤ BLOCK → length (bytes ++ piece) ≤ FILE_LIMIT + BLOCK
block_more bytes piece within few = omega (arith, within, few, length-append bytes piece)

module _ (old new : SourceLines) (rest : Option (List ℕ)) (count : ℕ) (shape : Shape) (bytes : List ℕ) (given : List Message) (reads : ReadsSource old shape bytes given) (same : is_ended new ≡ is_ended old) where
  -- a step that reads no byte
  no_byte : (answer : Result (Vec Message Global) SourceStop) → CountedSo (stop_of answer) count count → TellsStep answer new shape (bytes ++ []) given → TookStep answer old new rest rest count count shape bytes given
  no_byte answer counted tells = record {
    piece = [];
    few = no_more bytes;
    read = Consumes-nil rest;
    at_end = λ at ended. at (sym same ∙ ended);
    counted = counted;
    tells = tells;
    is_given = given_still shape bytes given (is_ended old) (is_ended new) same (reads_given old shape bytes given reads);
  }

  -- a line's messages
  pub gave : (messages : Vec Message Global) (added : List Message) → messages.items ≡ added → AnswersStep step.Line new shape bytes given added → TookStep (Ok messages) old new rest rest count count shape bytes given
  gave messages added is tells =
      no_byte (Ok messages) refl
      (subst (λ (ms : List Message). ReadsSource new shape (bytes ++ []) (given ++ ms) × IsLegal (given ++ ms)) (sym is) (still new shape bytes (given ++ added) tells.0, tells.1))

  -- no line is left, and none comes
  pub closed : (added : List Message) → AnswersStep step.Closed new shape bytes given added → TookStep (Err stop.Closed) old new rest rest count count shape bytes given
  closed added tells = no_byte (Err stop.Closed) refl (stopped_still stop.Closed shape bytes given (is_ended new) (closed_as new shape bytes given tells.1))

  -- a line with a fault
  pub refused : (refusal : Refusal) (added : List Message) → AnswersStep (step.Refused refusal) new shape bytes given added → TookStep (Err (stop.Refused refusal.line refusal.fault)) old new rest rest count count shape bytes given
  refused refusal added tells =
      let s = stop.Refused refusal.line refusal.fault in
      no_byte (Err s) refl (stopped_still s shape bytes given (is_ended new) (refused_as new shape bytes given refusal tells))

  -- a line for which memory lacked
  pub lacked : TookStep (Err stop.OutOfMemory) old new rest rest count count shape bytes given
  lacked = no_byte (Err stop.OutOfMemory) refl tt

-- ---- a block is read

-- a read that was refused
pub read_failed : (lines : SourceLines) (rest left : Option (List ℕ)) (count now : ℕ) (shape : Shape) (bytes : List ℕ) (given : List Message) → ReadsSource lines shape bytes given → is_ended lines ≡ false → Keeps rest left → CountedSo (Some stop.ReadFault) count now
    → TookStep (Err stop.ReadFault) lines lines rest left count now shape bytes given
read_failed lines rest left count now shape bytes given reads goes_on keeps counted = record {
  piece = [];
  few = no_more bytes;
  read = Consumes-kept rest rest left [] (Consumes-nil rest) keeps;
  at_end = λ at ended. absurd (true≢false (sym ended ∙ goes_on));
  counted = counted;
  tells = goes_on;
  is_given = given_still shape bytes given (is_ended lines) (is_ended lines) refl (reads_given lines shape bytes given reads);
}

-- a read that gave 0
pub end_met : (old new : SourceLines) (messages : Vec Message Global) (rest left : Option (List ℕ)) (count now : ℕ) (shape : Shape) (bytes : List ℕ) (given : List Message) → messages.items ≡ [] → ReadsSource new shape bytes given → is_ended new ≡ true → Consumes rest left [] → IsAtEnd left → now ≡ count
    → TookStep (Ok messages) old new rest left count now shape bytes given
end_met old new messages rest left count now shape bytes given none reads ended consumed at counted = record {
  piece = [];
  few = no_more bytes;
  read = consumed;
  at_end = λ _ _. at;
  counted = counted;
  tells = told_none new shape (bytes ++ []) given messages none (still new shape bytes given reads);
  is_given = given_still shape bytes given (is_ended new) (is_ended new) refl (reads_given new shape bytes given reads);
}

-- and no more bytes come
pub end_came : (old new : SourceLines) (rest left : Option (List ℕ)) → is_ended old ≡ false → is_ended new ≡ true → BlockCame rest left old new
end_came old new rest left goes_on ended = inr (goes_on, ended)

-- a piece of some bytes isn't empty
some_piece : (piece : List ℕ) → 0 < length piece → piece ≢ []
some_piece piece some none = absurd (omega (arith, some, ap (λ (l : List ℕ). length l) none))

-- less room is left after a piece, or it was more than there was room for
room_falls : (old new : SourceLines) (shape : Shape) (bytes piece : List ℕ) (given : List Message) → ReadsSource old shape bytes given → ReadsSource new shape (bytes ++ piece) given → length bytes ≤ FILE_LIMIT → 0 < length piece
    → (b : Bool) → nat_lt FILE_LIMIT (length (bytes ++ piece)) ≡ b → (new.room < old.room) ⊎ ((old.over_limit ≡ false) × (new.over_limit ≡ true))
room_falls old new shape bytes piece given reads more within some true over = inr (reads.over ∙ le-ltb FILE_LIMIT (length bytes) within, more.over ∙ over)
room_falls old new shape bytes piece given reads more within some false over = inl (omega (arith, reads.room, more.room, some, ltb-false FILE_LIMIT (length (bytes ++ piece)) over, length-append bytes piece))

-- a block that was fed
pub block_read : (old new : SourceLines) (messages : Vec Message Global) (rest left : Option (List ℕ)) (count now : ℕ) (shape : Shape) (bytes piece : List ℕ) (given : List Message) → messages.items ≡ [] → ReadsSource new shape (bytes ++ piece) given → is_ended new ≡ false → length bytes ≤ FILE_LIMIT → length piece ≤ BLOCK → Consumes rest left piece → now ≡ count
    → TookStep (Ok messages) old new rest left count now shape bytes given
block_read old new messages rest left count now shape bytes piece given none more goes_on within few consumed counted = record {
  piece = piece;
  few = λ _. block_more bytes piece within few;
  read = consumed;
  at_end = λ at ended. absurd (true≢false (sym ended ∙ goes_on));
  counted = counted;
  tells = told_none new shape (bytes ++ piece) given messages none more;
  is_given = reads_given new shape (bytes ++ piece) given more;
}

-- and some of its bytes were
pub block_came : (old new : SourceLines) (rest left : Option (List ℕ)) (shape : Shape) (bytes piece : List ℕ) (given : List Message) → ReadsSource old shape bytes given → ReadsSource new shape (bytes ++ piece) given → length bytes ≤ FILE_LIMIT → 0 < length piece → length piece ≤ BLOCK
    → Consumes rest left piece → BlockCame rest left old new
block_came old new rest left shape bytes piece given reads more within some few consumed =
    inl (record { piece = piece; some = some_piece piece some; few = few; read = consumed; room = room_falls old new shape bytes piece given reads more within some (nat_lt FILE_LIMIT (length (bytes ++ piece))) refl })

-- a block for which memory lacked
pub block_lost : (old new : SourceLines) (rest left : Option (List ℕ)) (count now : ℕ) (shape : Shape) (bytes piece : List ℕ) (given : List Message) → ReadsSource old shape bytes given → is_ended old ≡ false → is_ended new ≡ false → length bytes ≤ FILE_LIMIT → length piece ≤ BLOCK → Consumes rest left piece → now ≡ count
    → TookStep (Err stop.OutOfMemory) old new rest left count now shape bytes given
block_lost old new rest left count now shape bytes piece given reads went_on goes_on within few consumed counted = record {
  piece = piece;
  few = λ _. block_more bytes piece within few;
  read = consumed;
  at_end = λ at ended. absurd (true≢false (sym ended ∙ goes_on));
  counted = counted;
  tells = tt;
  is_given = subst (λ (e : Bool). IsGiven shape (bytes ++ piece) given e) (sym goes_on) (given_behind shape bytes piece given (subst (λ (e : Bool). IsGiven shape bytes given e) went_on (reads_given old shape bytes given reads)));
}

-- ---- after the last line that was there

-- where no line was left before it, a step is one of the lines that were there
pub step_behind : (answer : Result (Vec Message Global) SourceStop) (old mid new : SourceLines) (rest left : Option (List ℕ)) (count now : ℕ) (shape : Shape) (bytes : List ℕ) (given : List Message) → is_ended mid ≡ is_ended old
    → TookStep answer mid new rest left count now shape bytes given → TookStep answer old new rest left count now shape bytes given
step_behind answer old mid new rest left count now shape bytes given same took = record {
  piece = took.piece;
  few = took.few;
  read = took.read;
  at_end = λ at ended. took.at_end (λ e. at (sym same ∙ e)) ended;
  counted = took.counted;
  tells = took.tells;
  is_given = took.is_given;
}

room_behind : (old mid new : SourceLines) → mid.room ≡ old.room → mid.over_limit ≡ old.over_limit → (new.room < mid.room) ⊎ ((mid.over_limit ≡ false) × (new.over_limit ≡ true)) → (new.room < old.room) ⊎ ((old.over_limit ≡ false) × (new.over_limit ≡ true))
room_behind old mid new room_is over_is (inl less) = inl (omega (arith, less, room_is))
room_behind old mid new room_is over_is (inr passed) = inr (sym over_is ∙ passed.0, passed.1)

came_behind : (old mid new : SourceLines) (rest left : Option (List ℕ)) (shape : Shape) (bytes : List ℕ) (given : List Message) → ReadsSource old shape bytes given → ReadsSource mid shape bytes given → is_ended mid ≡ is_ended old → BlockCame rest left mid new → BlockCame rest left old new
came_behind old mid new rest left shape bytes given reads more same (inl read) =
    inl (record { piece = read.piece; some = read.some; few = read.few; read = read.read; room = room_behind old mid new (more.room ∙ sym reads.room) (more.over ∙ sym reads.over) read.room })
came_behind old mid new rest left shape bytes given reads more same (inr met) = inr (sym same ∙ met.0, met.1)

-- and so is the block that came
pub advanced_behind : (answer : Result (Vec Message Global) SourceStop) (old mid new : SourceLines) (rest left : Option (List ℕ)) (shape : Shape) (bytes : List ℕ) (given : List Message) → ReadsSource old shape bytes given → ReadsSource mid shape bytes given → is_ended mid ≡ is_ended old
    → IfOk answer (λ _. BlockCame rest left mid new) → IfOk answer (λ _. Advanced rest left old new)
advanced_behind (Ok m) old mid new rest left shape bytes given reads more same came = inr (came_behind old mid new rest left shape bytes given reads more same came)
advanced_behind (Err s) old mid new rest left shape bytes given reads more same came = tt

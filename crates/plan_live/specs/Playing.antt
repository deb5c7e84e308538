-- A script that is played line by line: what the network and the guards stand for, and what one line does.
use Rattle.std.specs.Prelude.{ℕ, ◌≡◌, ◌<◌, ◌+◌, ◌&&◌, Bool, true, false, List, [], ◌++◌, length, slice_index_or, slice_set, nat_lt, if◌then◌else◌, Option, None, Some, Result, Ok, Err, Vec}
use Rattle.std.specs.Global.{Global}
use Rattle.std.specs.Io.KnownBytes.{Appends}
use Rattle.std.specs.Str.{bytes_eq}
use Rattle.cedr_base.specs.declared.row.Row.{Row}
use Rattle.cedr_base.specs.declared.change.Message.{Message}
use Rattle.cedr_base.specs.Messages.{IsTableOf, mark_of}
use Rattle.cedr_base.specs.Rows.{in_order}
use Rattle.cedr_guard.specs.declared.fault.GuardFault.{GuardFault}
use Rattle.cedr_guard.specs.declared.fault.GuardFault.TheVariants as guard_fault
use Rattle.cedr_guard.specs.declared.guard.Guard.{Guard}
use Rattle.cedr_guard.specs.declared.refusal.Refusal.{Refusal}
use Rattle.cedr_guard.specs.Messages.{messages_behind}
use Rattle.cedr_guard.specs.Sources.{with_reading, whole_lines, unfinished_line, first_refusal, limit_fault}
use Rattle.cedr_guard.specs.Standing.{Guards}
use Rattle.cedr_io.specs.Asked.{AppendsFront}
use Rattle.cedr_io.specs.declared.fault.OutsideFault.{OutsideFault}
use Rattle.cedr_io.specs.declared.fault.OutsideFault.TheVariants as outside
use Rattle.node_laws.specs.Lists.{Lists, list_at, with_more}
use Rattle.cedr_net.specs.declared.net.SerialNet.{SerialNet}
use Rattle.cedr_net.specs.Edges.{NothingWaits}
use Rattle.cedr_net.specs.Flows.{IsSourceAt}
use Rattle.cedr_net.specs.Networks.{NetStands, AllGrow, waiting_at}
use Rattle.cedr_plan.specs.declared.plan.PlanNode.{PlanNode}
use Rattle.cedr_plan.specs.Places.{is_source, output_place}
use Rattle.plan_runs.specs.Runs.{lists_at}
use Rattle.cedr_source.specs.Steps.{JudgesLine}
use Rattle.cedr_text.specs.declared.event_line.EventLine.{EventLine}
use Rattle.cedr_text.specs.declared.event_line.Shape.{Shape}
use Rattle.cedr_text.specs.declared.fault.LineFault.{LineFault}
use Rattle.cedr_text.specs.declared.fault.LineFault.TheVariants.{LineTooLong}
use Rattle.cedr_text.specs.declared.lines.TheConstants.{LINE_LIMIT}
use Rattle.cedr_text.specs.Lines.{without_return}
use Rattle.cedr_text.specs.Texts.{rows_text}
use Rattle.plan_live.specs.declared.player.Player.{Player}
use Rattle.plan_live.specs.Scripts.{Accepted, lines_at, with_line, is_question, Played, played_behind}
use Rattle.plan_live.specs.Shown.{reach_text, IsShown, AreShown, AreShownFirst}

-- a source of this name
abbrev pub is_source_named : PlanNode → List ℕ → Bool
is_source_named node name = is_source node.kind && bytes_eq node.name name

-- ---- the network

-- a network in which no message waits, and what each node gave
pub record IsSettledNet (nodes : List PlanNode) (net : SerialNet) (given : Lists) : Type 0 where
  pub ports : List Lists
  pub stands : NetStands nodes net ports given
  pub empty : (k : ℕ) → k < length nodes → NothingWaits (waiting_at net k)

-- the source at a place gave these messages more, and the network went on until none waited
pub record IsFedOn (nodes : List PlanNode) (net : SerialNet) (given : Lists) (place : ℕ) (ms : List Message) : Type 0 where
  pub given' : Lists
  pub settled : IsSettledNet nodes net given'
  pub sources : (k : ℕ) → IsSourceAt nodes k → list_at given' k ≡ list_at (with_more given place ms) k
  pub grow : AllGrow given given'

-- what is shown of a network
abbrev pub IsShownText : List PlanNode → List Lists → Lists → List ℕ → Type 0
IsShownText nodes ports given text = (rows : List Row) × IsTableOf (list_at given (output_place nodes)) rows × (text ≡ rows_text (in_order rows) ++ reach_text (mark_of (list_at (lists_at ports (output_place nodes)) 0)))

-- ---- the guards

-- a line after accepted ones, whose messages are answered where it is accepted
abbrev pub GivesMessages : Result (Vec Message Global) GuardFault → Guard → List EventLine → Result (List EventLine) LineFault → Type 0
GivesMessages (Ok messages) guard before now = JudgesLine (Ok tt) guard before now [] messages.items
GivesMessages (Err fault) guard before now = JudgesLine (Err fault) guard before now [] []

-- the guard of one place judged a line, and the others are as before
pub record JudgesAt (answer : Result (Vec Message Global) GuardFault) (old new : List Guard) (place : ℕ) (said : Result (Option EventLine) LineFault) : Type 0 where
  pub now : Guard
  pub set_to : new ≡ slice_set old place now
  pub judged : (d : Guard) (before : List EventLine) → Guards (slice_index_or old place d) before → GivesMessages answer now before (with_reading before said)

-- a line that isn't accepted after others: its fault, unless memory ran out
abbrev pub IsLineFault : GuardFault → Result Accepted LineFault → Type 0
IsLineFault (guard_fault.Line fault) now = now ≡ Err fault
IsLineFault guard_fault.OutOfMemory now = Unit {0}

-- each guard stands for the accepted lines of its node
pub record GuardsStand (nodes : List PlanNode) (guards : List Guard) (before : Accepted) : Type 0 where
  pub lines_count : length before ≡ length nodes
  pub guards_count : length guards ≡ length nodes
  pub each : (k : ℕ) (d : Guard) → k < length nodes → Guards (slice_index_or guards k d) (lines_at before k)

-- ---- what is played

-- The lines that were accepted so far: each guard stands for those of its node, and each source gave their messages. The
-- lists go on from those that were shown last.
pub record PlaysStand (nodes : List PlanNode) (player : Player) (before : Accepted) (shown : Lists) : Type 0 where
  pub judged : GuardsStand nodes player.guards.items before
  pub given : Lists
  pub settled : IsSettledNet nodes player.net given
  pub sources : (k : ℕ) → k < length nodes → IsSourceAt nodes k → list_at given k ≡ messages_behind [] (lines_at before k)
  pub grow : AllGrow shown given

-- ---- one line

-- a line that isn't `?`
abbrev pub PlaysLine : Result (Unit {0}) GuardFault → List PlanNode → Player → Lists → Result Accepted LineFault → Type 0
PlaysLine (Ok done) nodes player shown now = (lines : Accepted) × (now ≡ Ok lines) × PlaysStand nodes player lines shown
PlaysLine (Err fault) nodes player shown now = IsLineFault fault now

-- the rows and the reach are written, or a front of them
abbrev pub Shows : Result (Unit {0}) OutsideFault → List PlanNode → Player → Accepted → Lists → Option (List ℕ) → Option (List ℕ) → Type 0
Shows (Ok done) nodes player lines shown old new = (given : Lists) × (text : List ℕ) × IsShown nodes shown lines given text × PlaysStand nodes player lines given × Appends old new text
Shows (Err outside) nodes player lines shown old new = (given : Lists) × (text : List ℕ) × IsShown nodes shown lines given text × AppendsFront old new text

-- the accepted lines with a line that isn't `?`, as a step
abbrev pub accepting : Result Accepted LineFault → Result (Option Accepted) LineFault
accepting (Ok now) = Ok (Some now)
accepting (Err fault) = Err fault

-- what a line does: it asks for the rows, or these lines are accepted with it, or it has a fault
abbrev pub step_of : List PlanNode → List Shape → Accepted → List ℕ → Result (Option Accepted) LineFault
step_of nodes shapes before line =
    if nat_lt LINE_LIMIT (length line) then Err LineTooLong
    else if is_question (without_return line) then Ok None
    else accepting (with_line nodes shapes before (without_return line))

-- the fault of a line, if it has one
abbrev pub told_fault : Result (Unit {0}) GuardFault → Result (Option LineFault) OutsideFault
told_fault (Ok done) = Ok None
told_fault (Err (guard_fault.Line fault)) = Ok (Some fault)
told_fault (Err guard_fault.OutOfMemory) = Err outside.OutOfMemory

-- what came of a line, by its step: what a `?` shows was written, the lines were accepted with it, or it has
-- that fault. Where playing broke off, a front of what a `?` shows was written, and at any other line nothing
abbrev pub TakesStep : Result (Option LineFault) OutsideFault → List PlanNode → Player → Accepted → Lists → Result (Option Accepted) LineFault → Option (List ℕ) → Option (List ℕ) → Type 0
TakesStep (Ok None) nodes player before shown (Ok None) old new = Shows (Ok tt) nodes player before shown old new
TakesStep (Ok None) nodes player before shown (Ok (Some now)) old new = PlaysStand nodes player now shown × (new ≡ old)
TakesStep (Ok None) nodes player before shown (Err fault) old new = ⊥
TakesStep (Ok (Some fault)) nodes player before shown step old new = (step ≡ Err fault) × (new ≡ old)
TakesStep (Err outside) nodes player before shown (Ok None) old new = Shows (Err outside) nodes player before shown old new
TakesStep (Err outside) nodes player before shown (Ok (Some now)) old new = new ≡ old
TakesStep (Err outside) nodes player before shown (Err fault) old new = new ≡ old

-- ---- all lines

-- the parts of a script between its line feeds, played after so many lines: all of them, or those of the first bytes of
-- a script over the limit
abbrev pub parts_played : Bool → List PlanNode → List Shape → ℕ → Accepted → List (List ℕ) → Played
parts_played false nodes shapes count before parts = played_behind nodes shapes count before parts
parts_played true nodes shapes count before parts = record (played_behind nodes shapes count before (whole_lines parts)) {
  fault = Some (first_refusal (played_behind nodes shapes count before (whole_lines parts)).fault (record { line = count + length (whole_lines parts) + 1; fault = limit_fault (unfinished_line parts) }));
}

-- what all `?` show was written, and this is the fault; or a front was written of what the first `?` show
abbrev pub PlaysAs : Result (Option Refusal) OutsideFault → List PlanNode → Played → Option (List ℕ) → Option (List ℕ) → Type 0
PlaysAs (Ok fault) nodes all old new = (text : List ℕ) × AreShown nodes [] all.asks text × (fault ≡ all.fault) × Appends old new text
PlaysAs (Err outside) nodes all old new = (text : List ℕ) × AreShownFirst nodes all.asks text × AppendsFront old new text

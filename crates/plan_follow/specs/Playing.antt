-- What a player holds whose guards forget, and what one line does.
use Rattle.std.specs.Prelude.{ℕ, ◌≡◌, ◌+◌, ◌<◌, List, [], ◌∷◌, ◌++◌, length, slice_index_or, slice_set, Option, None, Some, Result, Ok, Err, Vec}
use Rattle.std.specs.Global.{Global}
use Rattle.cedr_base.specs.declared.row.Row.{Row}
use Rattle.cedr_base.specs.declared.change.Message.{Message}
use Rattle.cedr_guard.specs.Judging.{fault_behind}
use Rattle.cedr_guard.specs.Messages.{line_messages}
use Rattle.cedr_guard.specs.declared.fault.GuardFault.{GuardFault}
use Rattle.cedr_guard.specs.declared.fault.GuardFault.TheVariants as guard_fault
use Rattle.cedr_guard.specs.declared.refusal.Refusal.{Refusal}
use Rattle.cedr_net.specs.Edges.{NothingWaits}
use Rattle.cedr_net.specs.Flows.{IsSourceAt}
use Rattle.cedr_net.specs.Networks.{AllGrow, NetStands, waiting_at}
use Rattle.cedr_net.specs.declared.stream.StreamNet.{StreamNet}
use Rattle.cedr_plan.specs.Places.{output_place}
use Rattle.cedr_plan.specs.declared.plan.PlanNode.{PlanNode}
use Rattle.cedr_text.specs.Reading.{IsEvent}
use Rattle.cedr_text.specs.declared.event_line.EventLine.{EventLine}
use Rattle.cedr_text.specs.declared.fault.LineFault.{LineFault}
use Rattle.node_laws.specs.Lists.{Lists, list_at, with_more}
use Rattle.plan_follow.specs.Sifted.{Sifted, sifted_behind}
use Rattle.plan_follow.specs.declared.player.OpenPlayer.{OpenPlayer}
use Rattle.plan_live.specs.Scripts.{Accepted, lines_at, no_lines}
use Rattle.source_memory.specs.Opened.{Recalls}
use Rattle.source_memory.specs.Remembered.{kept_with, Continues}
use Rattle.source_memory.specs.declared.guard.OpenGuard.{OpenGuard}

-- ---- the network

-- a network in which no message waits, and what each node gave
pub record IsStill (nodes : List PlanNode) (net : StreamNet) (given : Lists) : Type 0 where
  pub ports : List Lists
  pub stands : NetStands nodes net ports given
  pub empty : (k : ℕ) → k < length nodes → NothingWaits (waiting_at net k)

-- the source at a place gave these messages more, and the network went on until none waited
pub record IsStillBehind (nodes : List PlanNode) (net : StreamNet) (given : Lists) (place : ℕ) (ms : List Message) : Type 0 where
  pub given' : Lists
  pub still : IsStill nodes net given'
  pub sources : (k : ℕ) → IsSourceAt nodes k → list_at given' k ≡ list_at (with_more given place ms) k
  pub grow : AllGrow given given'

-- ---- the guards

-- each guard stands for what is remembered of its node's lines, and what the node was sent goes on from there
pub record GuardsRecall (nodes : List PlanNode) (guards : List OpenGuard) (kept : Accepted) (sent : Lists) : Type 0 where
  pub kept_count : length kept ≡ length nodes
  pub sent_count : length sent ≡ length nodes
  pub guards_count : length guards ≡ length nodes
  pub each : (k : ℕ) (d : OpenGuard) → k < length nodes → Recalls (slice_index_or guards k d) (lines_at kept k)
  pub goes_on : (k : ℕ) → k < length nodes → (gone : List Row) × Continues (list_at sent k) (lines_at kept k) gone

-- this is the fault of what a line says behind what is remembered
abbrev pub IsFaultBehind : LineFault → List EventLine → Result (Option EventLine) LineFault → Type 0
IsFaultBehind fault kept (Ok None) = ⊥
IsFaultBehind fault kept (Ok (Some event)) = fault_behind kept event ≡ Some fault
IsFaultBehind fault kept (Err other) = other ≡ fault

-- what a guard did with what a line says: it was accepted, and these are its messages, or it has this fault
abbrev pub Sifts : Result (Vec Message Global) GuardFault → OpenGuard → List EventLine → Result (Option EventLine) LineFault → Type 0
Sifts (Ok messages) guard kept (Ok None) = Recalls guard kept × (messages.items ≡ [])
Sifts (Ok messages) guard kept (Ok (Some event)) = Recalls guard (kept_with kept event) × (messages.items ≡ line_messages kept event) × (fault_behind kept event ≡ None) × IsEvent event
Sifts (Ok messages) guard kept (Err fault) = ⊥
Sifts (Err (guard_fault.Line fault)) guard kept said = Recalls guard kept × IsFaultBehind fault kept said
Sifts (Err guard_fault.OutOfMemory) guard kept said = Unit {0}

-- the fault of a line that a guard refused
abbrev pub IsLineFaultOf : GuardFault → Option LineFault → Type 0
IsLineFaultOf (guard_fault.Line fault) told = told ≡ Some fault
IsLineFaultOf guard_fault.OutOfMemory told = ⊥

-- the guard of one place did so, and the others are as before
pub record SiftsAt (answer : Result (Vec Message Global) GuardFault) (old new : List OpenGuard) (place : ℕ) (said : Result (Option EventLine) LineFault) : Type 0 where
  pub now : OpenGuard
  pub set_to : new ≡ slice_set old place now
  pub sifts : (d : OpenGuard) (kept : List EventLine) → Recalls (slice_index_or old place d) kept → Sifts answer now kept said

-- ---- both

-- the guards stand for what is remembered, and each source gave what it was sent
pub record PlayerHolds (nodes : List PlanNode) (player : OpenPlayer) (kept : Accepted) (sent given : Lists) : Type 0 where
  pub recall : GuardsRecall nodes player.guards.items kept sent
  pub still : IsStill nodes player.net given
  pub sources : (k : ℕ) → k < length nodes → IsSourceAt nodes k → list_at given k ≡ list_at sent k

-- the same behind accepted lines, before the first line of a script
abbrev pub HoldsBehind : List PlanNode → OpenPlayer → Accepted → Type 0
HoldsBehind nodes player before = (given : Lists) × PlayerHolds nodes player (sifted_behind before).kept (sifted_behind before).sent given

-- behind no line, and the output gave nothing
abbrev pub HoldsFirst : List PlanNode → OpenPlayer → Type 0
HoldsFirst nodes player = (given : Lists) × PlayerHolds nodes player (sifted_behind (no_lines nodes)).kept (sifted_behind (no_lines nodes)).sent given × (list_at given (output_place nodes) ≡ [])

-- a line that isn't accepted, by its number, where there is one
abbrev pub refused_as : ℕ → Option LineFault → List Refusal
refused_as number None = []
refused_as number (Some fault) = record { line = number; fault = fault } ∷ []

-- the player went on with a line to where the lines come with it
pub record GoesOnTo (nodes : List PlanNode) (player : OpenPlayer) (s now : Sifted) (given : Lists) (fault : Option LineFault) : Type 0 where
  pub given' : Lists
  pub holds : PlayerHolds nodes player now.kept now.sent given'
  pub grew : AllGrow given given'
  pub count : now.count ≡ s.count + 1
  pub refusals : now.refusals ≡ s.refusals ++ refused_as (s.count + 1) fault

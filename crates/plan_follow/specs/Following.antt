-- What following a script writes, and what it tells.
use Rattle.std.specs.Prelude.{ℕ, ◌≡◌, ◌≤◌, ◌<◌, ◌⊎◌, Bool, true, false, List, [], ◌∷◌, ◌++◌, Option, IfSome, Result, Ok, Err}
use Rattle.std.specs.List.{flat_map}
use Rattle.std.specs.Io.KnownBytes.{Appends, Consumes}
use Rattle.cedr_base.specs.declared.change.Message.{Message}
use Rattle.cedr_guard.specs.declared.refusal.Refusal.{Refusal}
use Rattle.cedr_io.specs.Asked.{AppendsFront}
use Rattle.cedr_io.specs.Counts.{Rose, last_count}
use Rattle.cedr_net.specs.Networks.{AllGrow}
use Rattle.cedr_plan.specs.declared.plan.PlanNode.{PlanNode}
use Rattle.cedr_plan.specs.Places.{output_place}
use Rattle.cedr_script.specs.Cutting.{script_answers}
use Rattle.cedr_script.specs.Logs.{came, went, LogGrows}
use Rattle.cedr_script.specs.declared.step.WireStep.{WireStep}
use Rattle.cedr_script.specs.declared.step.WireStep.TheVariants as wire_step
use Rattle.cedr_text.specs.declared.event_line.Shape.{Shape}
use Rattle.node_laws.specs.Lists.{Lists, list_at}
use Rattle.plan_follow.specs.Sifted.{Sifted, sifted, ComeFirst, AreWhole}
use Rattle.plan_follow.specs.declared.fault.FollowFault.{FollowFault}
use Rattle.plan_follow.specs.declared.fault.FollowFault.TheVariants as follow_fault
use Rattle.plan_live.specs.Scripts.{ShapesHaveTypes}
use Rattle.plan_runs.specs.Runs.{sources_in, IsRun}
use Rattle.stream_text.specs.MessageTexts.{messages_text}
use Rattle.told_faults.specs.FaultTexts.{refusal_text}

-- ---- what comes of lines

-- in a run of the plan over the messages that lines became, which goes on from what the nodes gave before, the output gave these
-- messages more
pub record GaveMore (nodes : List PlanNode) (start sent : Lists) (more : List Message) : Type 0 where
  pub ports : List Lists
  pub given : Lists
  pub run : IsRun nodes (sources_in nodes sent) ports given
  pub goes_on : AllGrow start given
  pub all : list_at given (output_place nodes) ≡ list_at start (output_place nodes) ++ more

-- this is the text of what the output gave for lines that come behind others, and these of the lines aren't accepted
pub record ComesOf (nodes : List PlanNode) (first : Sifted) (start : Lists) (answers : List (Option (List ℕ))) (text : List ℕ) (refusals : List Refusal) : Type 0 where
  pub shapes : List Shape
  pub types : ShapesHaveTypes nodes shapes
  pub more : List Message
  pub gave : GaveMore nodes start (sifted nodes shapes first answers).sent more
  pub text_is : text ≡ messages_text more
  pub refusals_are : refusals ≡ (sifted nodes shapes first answers).refusals

-- what the nodes gave in a run of the plan over messages of its sources
pub record IsStart (nodes : List PlanNode) (sent start : Lists) : Type 0 where
  pub ports : List Lists
  pub run : IsRun nodes (sources_in nodes sent) ports start

-- ---- what is told

-- what is told of lines that aren't accepted, by the name of the script
abbrev pub refusals_text : List ℕ → List Refusal → List ℕ
refusals_text name refusals = flat_map (refusal_text name) refusals

-- a text was told, unless a write of it was refused
pub record ToldAll (old_faults new_faults : ℕ) (old new : Option (List ℕ)) (text : List ℕ) : Type 0 where
  pub kept : old_faults ≤ new_faults
  pub all : new_faults ≡ old_faults → old_faults < last_count → Appends old new text

-- the same of a front of the text
pub record ToldFront (old_faults new_faults : ℕ) (old new : Option (List ℕ)) (text : List ℕ) : Type 0 where
  pub kept : old_faults ≤ new_faults
  pub front : new_faults ≡ old_faults → old_faults < last_count → AppendsFront old new text

-- What is known of a wire and of the sink of what is told: what is left of the script, what was written, what came and went in
-- its order, how many writes to the sink were refused, and what was told.
pub record OutsideSeen : Type 0 where
  pub rest : Option (List ℕ)
  pub written : Option (List ℕ)
  pub log : Option (List WireStep)
  pub told_faults : ℕ
  pub told : Option (List ℕ)

-- these are all bytes that were left of a script, where those are known
abbrev pub AreAllBytes : Option (List ℕ) → List ℕ → Type 0
AreAllBytes rest bytes = IfSome rest (λ (all : List ℕ). all ≡ bytes)

-- ---- what following answers

-- Some first lines of the script were followed, or at its end all of them, and of what comes of them a front was written and told.
pub record IsBrokenOff (nodes : List PlanNode) (first : Sifted) (start : Lists) (name : List ℕ) (old new : OutsideSeen) : Type 0 where
  pub bytes : List ℕ
  pub took : Consumes old.rest new.rest bytes
  pub answers : List (Option (List ℕ))
  pub begins : ComeFirst bytes answers ⊎ (AreAllBytes old.rest bytes × (answers ≡ script_answers bytes))
  pub text : List ℕ
  pub refusals : List Refusal
  pub comes : ComesOf nodes first start answers text refusals
  pub written : AppendsFront old.written new.written text
  pub told : ToldFront old.told_faults new.told_faults old.told new.told (refusals_text name refusals)

-- All that comes of these lines was written and told.
pub record IsAllWritten (nodes : List PlanNode) (first : Sifted) (start : Lists) (name : List ℕ) (old new : OutsideSeen) (bytes : List ℕ) (answers : List (Option (List ℕ))) (refusals : List Refusal) : Type 0 where
  pub took : Consumes old.rest new.rest bytes
  pub text : List ℕ
  pub comes : ComesOf nodes first start answers text refusals
  pub written : Appends old.written new.written text
  pub told : ToldAll old.told_faults new.told_faults old.told new.told (refusals_text name refusals)

-- some line isn't accepted
abbrev pub any_refused : List Refusal → Bool
any_refused [] = false
any_refused (r ∷ refusals) = true

-- At the script's end all that comes of it was written and told, and it is answered whether some line isn't accepted. Where a read
-- was refused all that comes of the whole lines that came before. Where a write was refused or memory ran out a front of what comes
-- of some first lines; or memory ran out before the first read, and nothing was done.
abbrev pub FollowsTo : Result Bool FollowFault → List PlanNode → Sifted → Lists → List ℕ → OutsideSeen → OutsideSeen → Type 0
FollowsTo (Ok faulty) nodes first start name old new = (bytes : List ℕ) × (refusals : List Refusal) × IsAllWritten nodes first start name old new bytes (script_answers bytes) refusals × AreAllBytes old.rest bytes × (faulty ≡ any_refused refusals)
FollowsTo (Err follow_fault.Read) nodes first start name old new = (bytes : List ℕ) × (answers : List (Option (List ℕ))) × (refusals : List Refusal) × AreWhole bytes answers × IsAllWritten nodes first start name old new bytes answers refusals
FollowsTo (Err follow_fault.Write) nodes first start name old new = IsBrokenOff nodes first start name old new
FollowsTo (Err follow_fault.OutOfMemory) nodes first start name old new = (new ≡ old) ⊎ IsBrokenOff nodes first start name old new

-- ---- when it was written

-- a read, refused or not
abbrev pub IsWireRead : WireStep → Type 0
IsWireRead (wire_step.Came bytes) = Unit {0}
IsWireRead wire_step.Refused = Unit {0}
IsWireRead (wire_step.Went bytes) = ⊥

-- before each read all that comes of the whole lines that had come had gone
abbrev pub IsPrompt : List PlanNode → Sifted → Lists → List WireStep → Type 0
IsPrompt nodes first start steps = (front rest : List WireStep) (read : WireStep) → steps ≡ front ++ read ∷ rest → IsWireRead read
    → (answers : List (Option (List ℕ))) × (refusals : List Refusal) × AreWhole (came front) answers × ComesOf nodes first start answers (went front) refusals

-- where the order of what came and went is known, what went was prompt
abbrev pub WentPromptly : List PlanNode → Sifted → Lists → Option (List WireStep) → Option (List WireStep) → Type 0
WentPromptly nodes first start old new = (steps : List WireStep) × LogGrows old new steps × IsPrompt nodes first start steps

-- both, where the nodes had given these lists for the lines before
pub record FollowsOn (result : Result Bool FollowFault) (nodes : List PlanNode) (first : Sifted) (start : Lists) (name : List ℕ) (old new : OutsideSeen) : Type 0 where
  pub followed : FollowsTo result nodes first start name old new
  pub prompt : WentPromptly nodes first start old.log new.log

-- the same behind some lines: memory ran out before the first read, and nothing was done, or the nodes had given some lists in a run
-- over the messages that these lines became
abbrev pub FollowsBehind : Result Bool FollowFault → List PlanNode → Sifted → List ℕ → OutsideSeen → OutsideSeen → Type 0
FollowsBehind result nodes first name old new = ((result ≡ Err follow_fault.OutOfMemory) × (new ≡ old)) ⊎ ((start : Lists) × IsStart nodes first.sent start × FollowsOn result nodes first start name old new)

-- ---- counts

-- refused reads are counted where a read was refused, and nowhere else
abbrev pub CountsReads : {T : Type 0} → Result T FollowFault → ℕ → ℕ → Type 0
CountsReads (Ok done) old new = new ≡ old
CountsReads (Err follow_fault.Read) old new = Rose old new
CountsReads (Err follow_fault.Write) old new = new ≡ old
CountsReads (Err follow_fault.OutOfMemory) old new = new ≡ old

-- the same of writes
abbrev pub CountsWrites : {T : Type 0} → Result T FollowFault → ℕ → ℕ → Type 0
CountsWrites (Ok done) old new = new ≡ old
CountsWrites (Err follow_fault.Read) old new = new ≡ old
CountsWrites (Err follow_fault.Write) old new = Rose old new
CountsWrites (Err follow_fault.OutOfMemory) old new = new ≡ old

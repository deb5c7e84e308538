-- The sources of a plan, each read by itself.
use Rattle.std.specs.Prelude.{ℕ, ◌≡◌, ◌<◌, true, List, length, take, slice_index_or, Option, IfOk, IfSome, Result, Err}
use Rattle.cedr_base.specs.declared.change.Message.{Message}
use Rattle.cedr_base.specs.Messages.{IsLegal}
use Rattle.cedr_guard.specs.Messages.{messages_in}
use Rattle.cedr_plan.specs.declared.plan.PlanNode.{PlanNode}
use Rattle.cedr_plan.specs.Places.{is_source, source_count}
use Rattle.cedr_source.specs.declared.fault.Unread.{Unread}
use Rattle.cedr_source.specs.Whole.{CountsSource}
use Rattle.plan_answer.specs.Sources.{file_of}
use Rattle.plan_serial.specs.Sources.{AnswersFile}
use Rattle.cedr_parts.specs.declared.reading.FoundSource.{FoundSource}

-- what was found, and what was read of it
abbrev pub found_source : {S : Type 0} → FoundSource S → S
found_source found = found.source

abbrev pub found_read : {S : Type 0} → FoundSource S → Result (List (List Message)) Unread
found_read found = found.read

-- no read of it was refused yet
abbrev pub IsUnread : {S : Type 0} → (S → ℕ) → FoundSource S → Type 0
IsUnread faults found = faults found.source ≡ 0

-- each source of a plan, by its number among them, has left what its file holds, and the types of its node
abbrev pub AreFoundFor : {S : Type 0} → (S → Option (List ℕ)) → (List ℕ → Option (List ℕ)) → List PlanNode → List (FoundSource S) → Type 0
AreFoundFor {S} rest content nodes found =
    (place : ℕ) (node : PlanNode) (one : FoundSource S) → place < length nodes → node ≡ slice_index_or nodes place node → is_source node.kind ≡ true → one ≡ slice_index_or found (source_count (take place nodes)) one
    → (rest one.source ≡ content (file_of node.kind)) × (one.types.now ≡ node.types.items)

-- a source was read: all its messages line by line, or its first fault
pub record ReadsFound {S : Type 0} (rest : S → Option (List ℕ)) (faults : S → ℕ) (old new : FoundSource S) : Type 0 where
  pub answer : IfSome (rest old.source) (λ all. AnswersFile new.read old.types.now all)
  pub legal : IfOk new.read (λ entries. IsLegal (messages_in entries))
  pub counted : CountsSource new.read (faults old.source) (faults new.source)

-- what was read is legal, and its count rose where the read was refused
pub record IsRead {S : Type 0} (faults : S → ℕ) (found : FoundSource S) : Type 0 where
  pub legal : IfOk found.read (λ entries. IsLegal (messages_in entries))
  pub counted : CountsSource found.read 0 (faults found.source)

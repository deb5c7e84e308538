-- What a run had come to before any break: the first messages of what its nodes gave, whichever source stopped and for
-- whatever cause.
use Rattle.std.specs.Prelude.{ℕ, ◌≡◌, true, List, [], ◌∷◌, ◌++◌, length, slice_index_or, Option}
use mathlib.Core.List.{IsPrefix}
use Rattle.cedr_base.specs.declared.change.Change.{Change}
use Rattle.cedr_base.specs.declared.change.Message.{Message}
use Rattle.cedr_base.specs.declared.change.Message.TheVariants as message
use Rattle.cedr_base.specs.Messages.{changes_of}
use Rattle.node_laws.specs.Lists.{Lists, list_at}
use Rattle.cedr_plan.specs.declared.plan.PlanNode.{PlanNode}
use Rattle.cedr_plan.specs.Places.{is_source, output_place, source_count}
use Rattle.plan_runs.specs.Runs.{IsPartialRun, sources_in}
use Rattle.cedr_worker.specs.declared.source.SourceEnd.{SourceEnd}
use Rattle.plan_workers.specs.Wents.{SourceWent}

-- the messages before the first break
abbrev pub unbroken : List Message → List Message
unbroken [] = []
unbroken (message.Change c ∷ ms) = message.Change c ∷ unbroken ms
unbroken (message.Mark t ∷ ms) = message.Mark t ∷ unbroken ms
unbroken (message.End ∷ ms) = message.End ∷ unbroken ms
unbroken (message.Broken ∷ ms) = []

-- what a source gave, but for its break
pub record SourceBegan {S : Type 0} (rest : S → Option (List ℕ)) (faults : S → ℕ) (node : PlanNode) (source : S) (end : SourceEnd S) (given : List Message) : Type 0 where
  pub whole : List Message
  pub went : SourceWent rest faults node source end whole
  pub given_is : given ≡ unbroken whole

-- The first changes of the output's list in a partial run of the plan over what the sources gave.
pub record IsSoFar {S : Type 0} (rest : S → Option (List ℕ)) (faults : S → ℕ) (nodes : List PlanNode) (sources : List S) (ends : List (SourceEnd S)) (list : List Change) : Type 0 where
  pub ports : List Lists
  pub given : Lists
  pub run : IsPartialRun nodes (sources_in nodes given) ports given
  pub source : (before after : List PlanNode) (n : PlanNode) → nodes ≡ before ++ n ∷ after → is_source n.kind ≡ true → (s : S) (e : SourceEnd S) → SourceBegan rest faults n (slice_index_or sources (source_count before) s) (slice_index_or ends (source_count before) e) (list_at given (length before))
  pub first : IsPrefix list (changes_of (list_at given (output_place nodes)))

-- How a command ends that follows a script, from how its steps went.
use Rattle.std.proofs.Common.{◌≡◌, ◌≢◌, ℕ, ◌<◌, ◌≤◌, ◌⊎◌, inl, Bool, List, [], ◌∷◌, ◌++◌, Option, Some, Result, Ok, Err, Vec, refl, ap, ◌∙◌, subst, rules, tests}
use Rattle.std.specs.Global.{Global}
use Rattle.std.proofs.lemmas.List.{append_assoc}
use Rattle.std.specs.Prelude.{IfSome}
use Rattle.cedr_commands.proofs.EndingLemmas.{ends_no_plan, kept_itself, rose_above}
use Rattle.cedr_commands.specs.Answers.{IsNoPlan, OfPlanAlone, RefusesPlan, RefusesSaving, IsPlanOf}
use Rattle.cedr_commands.specs.Commands.{Command}
use Rattle.cedr_commands.specs.Outcomes.{status_of, outcome_text, TellsLack, CommandEnds, AsksOnly}
use Rattle.cedr_commands.specs.Resuming.{CanSavePlan}
use Rattle.cedr_commands.specs.Seen.{FilesSeen, SinkSeen, SinkGains}
use Rattle.cedr_commands.specs.Steps.{CountsStep, OpensCheckpoint, OpensSaved}
use Rattle.cedr_commands.specs.declared.command.Job.TheVariants.{FollowFrom}
use Rattle.cedr_commands.specs.declared.outcome.Outcome.{Outcome}
use Rattle.cedr_commands.specs.declared.outcome.Outcome.TheVariants as outcome
use Rattle.cedr_commands.specs.declared.status.Status.{Status}
use Rattle.cedr_commands.specs.declared.status.Status.TheVariants as status
use Rattle.cedr_follow.specs.FollowEnds.{CountsFollowed, EndsFollowing, IsEarly, IsUnfound}
use Rattle.cedr_guard.specs.declared.state.SourceState.{SourceState}
use Rattle.cedr_io.specs.Counts.{count_sum, last_count}
use Rattle.cedr_plan.specs.declared.fault.PlanKind.{PlanKind}
use Rattle.cedr_plan.specs.declared.plan.Plan.{Plan}
use Rattle.cedr_plan.specs.declared.plan.PlanNode.{PlanNode}
use Rattle.cedr_save.specs.Checkpoints.{plan_sources}
use Rattle.cedr_save.specs.Refusals.{RefusesBytes}
use Rattle.cedr_save.specs.Saving.{first_unsaved}
use Rattle.plan_answer.specs.Sources.{AreTold}
use Rattle.plan_follow.specs.Following.{CountsReads, CountsWrites}
use Rattle.plan_follow.specs.declared.fault.FollowFault.{FollowFault}
use Rattle.plan_follow.specs.declared.fault.FollowFault.TheVariants as follow_fault

-- ---- before the script is followed

-- the command stopped before, and nothing was written
pub ends_early : (command : Command) (files files' : FilesSeen) (out err err' : SinkSeen) (o : Outcome) (s : Status) → CommandEnds command files files' out out o × IsEarly o → AsksOnly command files files' → ((name : List ℕ) → files'.content name ≡ files.content name)
    → (s ≡ status_of o) ⊎ (s ≡ status.OutOfMemory) → (s ≢ status.OutOfMemory → SinkGains err err' (outcome_text o)) → (s ≡ status.OutOfMemory → TellsLack err err' (outcome_text o))
    → EndsFollowing command files files' out out err err' s
ends_early command files files' out err err' o s ends asked contents at told lacking =
    inl (record { ends = record { went = o; came = (ends.0, asked); answered = at; reported = told; lacking = lacking; contents = contents }; early = ends.1; silent = refl })

-- of the plan, where the command may refuse it, and where it can't be saved
pub early_plan : (command : Command) (files files' : FilesSeen) (out : SinkSeen) (o : Outcome)
    → ((told : List ℕ → List ℕ) (kind : PlanKind) (node : ℕ) → IsNoPlan (told command.file) kind node → RefusesPlan told command kind node)
    → ((told : List ℕ → List ℕ) (node : ℕ) → OfPlanAlone (told command.file) (λ nodes. first_unsaved 0 nodes ≡ Some node) → RefusesSaving told command node)
    → OpensSaved (Err o) (files.content command.file) → CountsStep {T = Plan} (Err o) files.faults files'.faults → CommandEnds command files files' out out o × IsEarly o
early_plan command files files' out (outcome.BadPlan kind node) plan saved h counts = (ends_no_plan command files files' out (outcome.BadPlan kind node) h counts plan, tt)
early_plan command files files' out (outcome.Unsaved node) plan saved h counts = (
  (record { files_count = counts; out_count = refl }, kept_itself out.written, λ told is. saved told node (subst (λ (content : Option (List ℕ)). IfSome content (λ bytes. OfPlanAlone bytes (λ nodes. first_unsaved 0 nodes ≡ Some node))) is.0 h)),
  tt,
)
early_plan command files files' out outcome.Read plan saved h counts = (ends_no_plan command files files' out outcome.Read h counts plan, tt)
early_plan command files files' out outcome.OutOfMemory plan saved h counts = (ends_no_plan command files files' out outcome.OutOfMemory h counts plan, tt)
early_plan command files files' out (outcome.BadCheckpoint line) plan saved h counts = absurd h
early_plan command files files' out (outcome.Events said) plan saved h counts = absurd h
early_plan command files files' out outcome.Done plan saved h counts = absurd h
early_plan command files files' out outcome.Usage plan saved h counts = absurd h
early_plan command files files' out outcome.Write plan saved h counts = absurd h

-- of the checkpoint of a plan of these nodes
pub early_checkpoint : (file checkpoint script : List ℕ) (files : FilesSeen) (now : FilesSeen) (files' : FilesSeen) (out : SinkSeen) (o : Outcome) (nodes : List PlanNode)
    → ((told : List ℕ → List ℕ) → AreTold files.content told (file ∷ []) → IsPlanOf (told file) nodes) → CanSavePlan nodes → now.content checkpoint ≡ files.content checkpoint → now.faults ≡ files.faults
    → OpensCheckpoint (Err o) nodes (now.content checkpoint) → CountsStep {T = Vec SourceState Global} (Err o) now.faults files'.faults
    → CommandEnds (record { job = FollowFrom; file = file; checkpoint = checkpoint; script = script }) files files' out out o × IsEarly o
early_checkpoint file checkpoint script files now files' out (outcome.BadCheckpoint line) nodes plan can same still h counts = (
  (
    record { files_count = counts ∙ still; out_count = refl },
    kept_itself out.written,
    λ told is. record { nodes = nodes; plan = plan told (is.0, tt); holding = record { can = can; refused = subst (λ (content : Option (List ℕ)). IfSome content (λ bytes. RefusesBytes (plan_sources nodes) bytes line)) (same ∙ is.1.0) h } },
  ),
  tt,
)
early_checkpoint file checkpoint script files now files' out outcome.Read nodes plan can same still h counts = ((subst (λ n. n < files'.faults) still counts, refl, inl (kept_itself out.written)), tt)
early_checkpoint file checkpoint script files now files' out outcome.OutOfMemory nodes plan can same still h counts = (inl (kept_itself out.written), tt)
early_checkpoint file checkpoint script files now files' out (outcome.BadPlan kind node) nodes plan can same still h counts = absurd h
early_checkpoint file checkpoint script files now files' out (outcome.Unsaved node) nodes plan can same still h counts = absurd h
early_checkpoint file checkpoint script files now files' out (outcome.Events said) nodes plan can same still h counts = absurd h
early_checkpoint file checkpoint script files now files' out outcome.Done nodes plan can same still h counts = absurd h
early_checkpoint file checkpoint script files now files' out outcome.Usage nodes plan can same still h counts = absurd h
early_checkpoint file checkpoint script files now files' out outcome.Write nodes plan can same still h counts = absurd h

-- of the script
pub early_script : (command : Command) (files now files' : FilesSeen) (out : SinkSeen) (o : Outcome) → now.faults ≡ files.faults → IsUnfound {T = Plan} (Err o) → CountsStep {T = Plan} (Err o) now.faults files'.faults → CommandEnds command files files' out out o × IsEarly o
early_script command files now files' out outcome.Read still h counts = ((subst (λ n. n < files'.faults) still counts, refl, inl (kept_itself out.written)), tt)
early_script command files now files' out outcome.OutOfMemory still h counts = (inl (kept_itself out.written), tt)
early_script command files now files' out (outcome.BadPlan kind node) still h counts = absurd h
early_script command files now files' out (outcome.Unsaved node) still h counts = absurd h
early_script command files now files' out (outcome.BadCheckpoint line) still h counts = absurd h
early_script command files now files' out (outcome.Events said) still h counts = absurd h
early_script command files now files' out outcome.Done still h counts = absurd h
early_script command files now files' out outcome.Usage still h counts = absurd h
early_script command files now files' out outcome.Write still h counts = absurd h

-- ---- which files were asked for

-- a plan, behind it a checkpoint, and behind that a script
pub asked_three : (asked opened now : List (List ℕ)) (file checkpoint script : List ℕ) → opened ≡ asked ++ file ∷ [] → now ≡ opened ++ checkpoint ∷ [] → now ++ script ∷ [] ≡ asked ++ file ∷ checkpoint ∷ script ∷ []
asked_three asked opened now file checkpoint script plan saved =
    ap (λ (names : List (List ℕ)). names ++ script ∷ []) saved
    ∙ (append_assoc opened (checkpoint ∷ []) (script ∷ [])
    ∙ (ap (λ (names : List (List ℕ)). names ++ checkpoint ∷ script ∷ []) plan ∙ append_assoc asked (file ∷ []) (checkpoint ∷ script ∷ [])))

-- ---- counts

-- a source's refused reads are counted when it is given back
given_back : (old source new : ℕ) → source ≡ 0 → old ≤ last_count → new ≡ count_sum old source → new ≡ old
given_back old source new none below is = search (rules, tests)

-- which counts rose while the script was followed and its source was given back
pub counts_followed : (result : Result Bool FollowFault) (files now files' : FilesSeen) (out out' : SinkSeen) (before after : ℕ) → now.faults ≡ files.faults → files.faults < last_count → out.faults < last_count → before ≡ 0
    → CountsReads result before after → CountsWrites result out.faults out'.faults → files'.faults ≡ count_sum now.faults after → CountsFollowed result files files' out out'
counts_followed (Ok faulty) files now files' out out' before after still below outs none reads writes sum =
    record { files_count = given_back now.faults after files'.faults (reads ∙ none) (search (rules, tests)) sum ∙ still; out_count = writes }
counts_followed (Err follow_fault.Read) files now files' out out' before after still below outs none reads writes sum =
    let more = reads.more in (search (rules, tests), writes)
counts_followed (Err follow_fault.Write) files now files' out out' before after still below outs none reads writes sum =
    (given_back now.faults after files'.faults (reads ∙ none) (search (rules, tests)) sum ∙ still, rose_above out.faults out'.faults writes outs)
counts_followed (Err follow_fault.OutOfMemory) files now files' out out' before after still below outs none reads writes sum =
    record { files_count = given_back now.faults after files'.faults (reads ∙ none) (search (rules, tests)) sum ∙ still; out_count = writes }

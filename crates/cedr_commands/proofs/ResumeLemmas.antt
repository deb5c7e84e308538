-- How `save` and `resume` end.
use Rattle.std.proofs.Common.{◌≡◌, ℕ, zero, suc, ◌+◌, ◌<◌, ◌≤◌, inl, inr, Bool, true, false, cond, List, [], ◌∷◌, ◌++◌, length, take, Option, None, Some, Ok, refl, ap, sym, ◌∙◌, subst, arith, append-nil}
use Rattle.std.specs.Prelude.{◌==◌, ◌&&◌, IfSome, All, is_none, map, if◌then◌else◌}
use Rattle.std.specs.Option.{option_map_or}
use Rattle.std.specs.Io.KnownBytes.{Appends}
use Rattle.std.proofs.lemmas.Bool.{eqb-true}
use Rattle.std.proofs.lemmas.List.{take_all, length-map}
use Rattle.std.proofs.lemmas.List.Recursion.{is_count_by}
use Rattle.cedr_base.specs.declared.level.Level.{Level}
use Rattle.cedr_io.specs.Asked.{AppendsFront}
use Rattle.cedr_guard.specs.declared.refusal.Refusal.{Refusal}
use Rattle.cedr_guard.specs.declared.refusal.TheConstants.{FILE_LIMIT}
use Rattle.cedr_guard.specs.declared.state.SourceState.{SourceState}
use Rattle.cedr_guard.specs.Spelt.{State, state_in, IsFit}
use Rattle.cedr_plan.specs.declared.plan.Plan.{Plan}
use Rattle.cedr_plan.specs.declared.plan.PlanNode.{PlanNode}
use Rattle.cedr_plan.specs.Places.{is_source, source_count}
use Rattle.cedr_plan.specs.Rules.{ArePlanned}
use Rattle.cedr_save.specs.Checkpoints.{Source, plan_sources, AreSaved, IsCheckpoint}
use Rattle.cedr_save.specs.Saving.{is_saved_level, first_unsaved}
use Rattle.cedr_save.specs.declared.reader.TheConstants.{CHECKPOINT_LIMIT}
use Rattle.plan_answer.specs.Sources.{AreTold}
use Rattle.plan_live.specs.Judged.{HasScriptFault}
use Rattle.plan_live.specs.Plays.{IsPlayedAfter, IsPlayedFirst}
use Rattle.plan_live.specs.Resumed.{lines_from, AreStates}
use Rattle.plan_live.specs.Scripts.{Accepted, Played, no_lines, played_after}
use Rattle.plan_live.specs.Shown.{AreShown}
use Rattle.plan_live.specs.SoFar.{texts_now, AllAreLines}
use Rattle.plan_live.proofs.NowLemmas.{shown_texts}
use Rattle.plan_live.proofs.ShownLemmas.{front_all}
use Rattle.plan_runs.specs.Now.{CanSave, AllCanSave}
use Rattle.cedr_commands.specs.declared.command.Job.TheVariants.{Save, Resume}
use Rattle.cedr_commands.specs.declared.outcome.Outcome.{Outcome}
use Rattle.cedr_commands.specs.declared.outcome.Outcome.TheVariants as outcome
use Rattle.cedr_commands.specs.Answers.{IsPlanOf, OfPlanAlone}
use Rattle.cedr_commands.specs.Files.{IsFileFront}
use Rattle.cedr_commands.specs.Outcomes.{CommandEnds}
use Rattle.told_faults.specs.FaultTexts.{refusal_text}
use Rattle.cedr_commands.specs.Resuming.{CanSavePlan, RefusesSaved, ResumesScript, ResumesSoFar}
use Rattle.cedr_commands.specs.Seen.{FilesSeen, SinkSeen}
use Rattle.cedr_commands.specs.Steps.{Says, OpensPlan}
use Rattle.cedr_commands.proofs.EndingLemmas.{ends_said, opened_plan}
use Rattle.cedr_commands.proofs.FileLemmas.{played_known}

-- ---- plans that can be saved

saved_at : (level : Level) (memory block : Option ℕ) → level.memory ≡ memory → level.block ≡ block → (is_none memory && option_map_or (λ b. b == 0) block true) ≡ true → CanSave level
saved_at level None None without unbounded is = record { block = inr unbounded; memory = without }
saved_at level None (Some zero) without nought is = record { block = inl nought; memory = without }
saved_at level None (Some (suc n)) without some is = absurd (let none = eqb-true (suc n) 0 is in omega arith)
saved_at level (Some memory) block some at is = absurd (cc is)

unsaved_later : (saved : Bool) (node : ℕ) (later : Option ℕ) → (if saved then later else Some node) ≡ None → (saved ≡ true) × (later ≡ None)
unsaved_later true node later is = (refl, is)
unsaved_later false node later is = absurd (cc is)

each_can : (place : ℕ) (before after : List PlanNode) (n : PlanNode) → first_unsaved place (before ++ n ∷ after) ≡ None → CanSave n.level
each_can place [] after n is = saved_at n.level n.level.memory n.level.block refl refl (unsaved_later (is_saved_level n.level) (place + 1) (first_unsaved (place + 1) after) is).0
each_can place (b ∷ before) after n is = each_can (place + 1) before after n (unsaved_later (is_saved_level b.level) (place + 1) (first_unsaved (place + 1) (before ++ n ∷ after)) is).1

-- each node of such a plan has a level that can be saved
pub all_can : (nodes : List PlanNode) → CanSavePlan nodes → AllCanSave (length nodes) nodes
all_can nodes can before after n whole low = each_can 0 before after n (ap (first_unsaved 0) (sym whole) ∙ can)

-- ---- a script is saved

-- a plan and a script, where it is known what their files hold
pub SavesFile : FilesSeen → List ℕ → List ℕ → (List ℕ → List ℕ → Type 0) → Type 0
SavesFile files file script holds = (told : List ℕ → List ℕ) → AreTold files.content told (file ∷ script ∷ []) → holds (told file) (told script)

-- the first fault of the script that was read
pub saves_fault : (files : FilesSeen) (file script : List ℕ) (plan : Plan) (refusal : Refusal) (after : Option (List ℕ)) (front seen : List ℕ) → OpensPlan (Ok plan) (files.content file) → CanSavePlan plan.nodes.items → after ≡ files.content script
    → IfSome after (λ all. IsFileFront FILE_LIMIT all front) → seen ≡ front → HasScriptFault plan.nodes.items seen refusal
    → SavesFile files file script (λ bytes said. OfPlanAlone bytes (λ nodes. RefusesSaved script said nodes (refusal_text script refusal)))
unfolding SavesFile
saves_fault files file script plan refusal after front seen opened can same read all h told is =
    let nodes = plan.nodes.items in
    let alike = played_known after (told script) front seen nodes h.shapes (no_lines nodes) (same ∙ is.1.0) read all in
    record {
      nodes = nodes;
      plan = opened_plan (files.content file) (told file) plan is.0 opened;
      holding = record {
        can = can;
        fault = refusal;
        first = record { shapes = h.shapes; types = h.types; first = sym (ap (λ (p : Played). p.fault) alike) ∙ h.first };
        said_is = refl;
      };
    }

-- a line of the script isn't accepted
pub save_said : (files files' : FilesSeen) (out : SinkSeen) (file checkpoint script : List ℕ) (refusal : Refusal) (o : Outcome) → Says o (refusal_text script refusal) → files'.faults ≡ files.faults
    → SavesFile files file script (λ bytes said. OfPlanAlone bytes (λ nodes. RefusesSaved script said nodes (refusal_text script refusal))) → CommandEnds (record { job = Save; file = file; checkpoint = checkpoint; script = script }) files files' out out o
unfolding SavesFile
save_said files files' out file checkpoint script refusal o says same saves =
    ends_said (record { job = Save; file = file; checkpoint = checkpoint; script = script }) files files' out o (refusal_text script refusal) says same
    (λ told said is known. (refl, subst (λ (text : List ℕ). OfPlanAlone (told file) (λ nodes. RefusesSaved script (told script) nodes text)) (sym is) (saves told known)))

-- ---- a checkpoint is opened

known_spelt : (content : Option (List ℕ)) (bytes : List ℕ) (nodes : List PlanNode) (states : List State) → content ≡ Some bytes → IfSome content (λ all. IsCheckpoint (plan_sources nodes) states all) → IsCheckpoint (plan_sources nodes) states bytes
known_spelt content bytes nodes states is h = subst (λ (known : Option (List ℕ)). IfSome known (λ all. IsCheckpoint (plan_sources nodes) states all)) is h

-- what the bytes that were read answer is what those of the file answer
pub checkpoint_front : (content : Option (List ℕ)) (nodes : List PlanNode) (front seen : List ℕ) (states : List State) → IfSome content (λ all. IsFileFront CHECKPOINT_LIMIT all front) → seen ≡ front → IsCheckpoint (plan_sources nodes) states seen
    → IfSome content (λ bytes. IsCheckpoint (plan_sources nodes) states bytes)
checkpoint_front None nodes front seen states read same h = tt
checkpoint_front (Some all) nodes front seen states read same h = subst (IsCheckpoint (plan_sources nodes) states) (whole_front all front read (subst (λ (bytes : List ℕ). length bytes ≤ CHECKPOINT_LIMIT) same h.short) same) h where
  whole_front : (all front : List ℕ) → IsFileFront CHECKPOINT_LIMIT all front → length front ≤ CHECKPOINT_LIMIT → seen ≡ front → seen ≡ all
  whole_front all front read short same = same ∙ sym (read.begins ∙ (ap (λ (rest : List ℕ). front ++ rest) (read.whole short) ∙ append-nil front))

saved_count : (sources : List Source) (states : List State) → AreSaved sources states → length states ≡ length sources
saved_count [] [] saved = refl
saved_count [] (state ∷ states) saved = absurd saved
saved_count (source ∷ sources) [] saved = absurd saved
saved_count (source ∷ sources) (state ∷ states) saved = ap suc (saved_count sources states saved.1)

places_count : (here : Bool) (source : Source) (sources : List Source) → length (cond here (source ∷ sources) sources) ≡ cond here (1 + length sources) (length sources)
places_count true source sources = omega arith
places_count false source sources = omega arith

-- a plan has so many sources
source_places : (nodes : List PlanNode) → length (plan_sources nodes) ≡ source_count nodes
source_places nodes =
    is_count_by (λ (ns : List PlanNode). length (plan_sources ns)) (λ (node : PlanNode). is_source node.kind) refl
    (λ node ns. places_count (is_source node.kind) (record { name = node.name; types = node.types.items }) (plan_sources ns)) nodes

states_fit : (sources : List Source) (states : List SourceState) → AreSaved sources (map state_in states) → All (λ (s : SourceState). IsFit (state_in s)) states
states_fit [] [] saved k d within = absurd (omega arith)
states_fit [] (state ∷ states) saved k d within = absurd saved
states_fit (source ∷ sources) [] saved k d within = absurd saved
states_fit (source ∷ sources) (state ∷ states) saved zero d within = saved.0.fit
states_fit (source ∷ sources) (state ∷ states) saved (suc k) d within = states_fit sources states saved.1 k d (omega arith)

-- a checkpoint has one state for each source, and each of them is fit
pub spelt_states : (nodes : List PlanNode) (states : List SourceState) (bytes : List ℕ) → IsCheckpoint (plan_sources nodes) (map state_in states) bytes → AreStates nodes states
spelt_states nodes states bytes spelt = record {
  count = sym (length-map states state_in) ∙ (saved_count (plan_sources nodes) (map state_in states) spelt.saved ∙ source_places nodes);
  fit = states_fit (plan_sources nodes) states spelt.saved;
}

-- ---- what is shown

take_lines : (count : ℕ) (asks : List Accepted) → AllAreLines asks → AllAreLines (take count asks)
take_lines zero [] are = tt
take_lines zero (lines ∷ asks) are = tt
take_lines (suc count) [] are = tt
take_lines (suc count) (lines ∷ asks) are = (are.0, take_lines count asks are.1)

now_shown : (nodes : List PlanNode) (asks : List Accepted) (text : List ℕ) → ArePlanned nodes → CanSavePlan nodes → AllAreLines asks → AreShown nodes [] asks text → text ≡ texts_now nodes asks
now_shown nodes asks text planned can are shown = shown_texts nodes [] asks text planned (all_can nodes can) are shown

-- a plan, a checkpoint and a script, where it is known what their files hold
pub ResumesFile : FilesSeen → List ℕ → List ℕ → List ℕ → List PlanNode → (List ℕ → List ℕ → Type 0) → Type 0
ResumesFile files file checkpoint script nodes holds = (told : List ℕ → List ℕ) → AreTold files.content told (file ∷ checkpoint ∷ script ∷ []) → IsPlanOf (told file) nodes × holds (told checkpoint) (told script)

module _ (files : FilesSeen) (file checkpoint script : List ℕ) (plan : Plan) (opened : OpensPlan (Ok plan) (files.content file)) (planned : ArePlanned plan.nodes.items) (can : CanSavePlan plan.nodes.items) (known after : Option (List ℕ)) (same_known : known ≡ files.content checkpoint) (same_after : after ≡ files.content script) (states : List State) (spelt : IfSome known (λ all. IsCheckpoint (plan_sources plan.nodes.items) states all)) (front seen text : List ℕ) (read : IfSome after (λ all. IsFileFront FILE_LIMIT all front)) (all : seen ≡ front) where
  -- a script that was played from the states, with what all its `?` show
  pub resumes_whole : (fault : Option Refusal) (h : IsPlayedAfter plan.nodes.items (lines_from plan.nodes.items states) seen text fault) → AllAreLines (played_after plan.nodes.items h.shapes (lines_from plan.nodes.items states) seen).asks
      → ResumesFile files file checkpoint script plan.nodes.items (λ from bytes. ResumesScript plan.nodes.items from bytes text fault)
  unfolding ResumesFile
  resumes_whole fault h are told is =
      let alike = played_known after (told script) front seen plan.nodes.items h.shapes (lines_from plan.nodes.items states) (same_after ∙ is.1.1.0) read all in (
        opened_plan (files.content file) (told file) plan is.0 opened,
        record {
          states = states;
          from = record { can = can; spelt = known_spelt known (told checkpoint) plan.nodes.items states (same_known ∙ is.1.0) spelt };
          shapes = h.shapes;
          types = h.types;
          fault_is = h.fault_is ∙ ap (λ (p : Played). p.fault) alike;
          text_is = now_shown plan.nodes.items (played_after plan.nodes.items h.shapes (lines_from plan.nodes.items states) seen).asks text planned can are h.shown ∙ ap (λ (p : Played). texts_now plan.nodes.items p.asks) alike;
        },
      )

  -- the same with what its first `?` show
  pub resumes_so_far : (h : IsPlayedFirst plan.nodes.items (lines_from plan.nodes.items states) seen text) → AllAreLines (played_after plan.nodes.items h.shapes (lines_from plan.nodes.items states) seen).asks
      → ResumesFile files file checkpoint script plan.nodes.items (λ from bytes. ResumesSoFar plan.nodes.items from bytes text)
  unfolding ResumesFile
  resumes_so_far h are told is =
      let alike = played_known after (told script) front seen plan.nodes.items h.shapes (lines_from plan.nodes.items states) (same_after ∙ is.1.1.0) read all in
      let asks = (played_after plan.nodes.items h.shapes (lines_from plan.nodes.items states) seen).asks in (
        opened_plan (files.content file) (told file) plan is.0 opened,
        record {
          states = states;
          from = record { can = can; spelt = known_spelt known (told checkpoint) plan.nodes.items states (same_known ∙ is.1.0) spelt };
          shapes = h.shapes;
          types = h.types;
          count = h.shown.count;
          text_is = now_shown plan.nodes.items (take h.shown.count asks) text planned can (take_lines h.shown.count asks are) h.shown.shown ∙ ap (λ (p : Played). texts_now plan.nodes.items (take h.shown.count p.asks)) alike;
        },
      )

whole_is_first : (nodes : List PlanNode) (checkpoint script text : List ℕ) (fault : Option Refusal) → ResumesScript nodes checkpoint script text fault → ResumesSoFar nodes checkpoint script text
whole_is_first nodes checkpoint script text fault h =
    let asks = (played_after nodes h.shapes (lines_from nodes h.states) script).asks in
    record { states = h.states; from = h.from; shapes = h.shapes; types = h.types; count = length asks; text_is = h.text_is ∙ ap (texts_now nodes) (sym (take_all (length asks) asks (omega arith))) }

-- all of it was accepted
pub resume_done : (files files' : FilesSeen) (out out' : SinkSeen) (file checkpoint script text : List ℕ) (nodes : List PlanNode) → files'.faults ≡ files.faults → out'.faults ≡ out.faults
    → ResumesFile files file checkpoint script nodes (λ from bytes. ResumesScript nodes from bytes text None) → Appends out.written out'.written text → CommandEnds (record { job = Resume; file = file; checkpoint = checkpoint; script = script }) files files' out out' outcome.Done
unfolding ResumesFile
resume_done files files' out out' file checkpoint script text nodes same_files same_out resumes wrote =
    (record { files_count = same_files; out_count = same_out }, λ told is. (text, record { nodes = nodes; plan = (resumes told is).0; holding = (resumes told is).1 }, wrote))

-- a line wasn't
pub resume_said : (files files' : FilesSeen) (out out' : SinkSeen) (file checkpoint script text : List ℕ) (nodes : List PlanNode) (refusal : Refusal) (o : Outcome) → Says o (refusal_text script refusal) → files'.faults ≡ files.faults → out'.faults ≡ out.faults
    → ResumesFile files file checkpoint script nodes (λ from bytes. ResumesScript nodes from bytes text (Some refusal)) → Appends out.written out'.written text → CommandEnds (record { job = Resume; file = file; checkpoint = checkpoint; script = script }) files files' out out' o
unfolding ResumesFile
resume_said files files' out out' file checkpoint script text nodes refusal (outcome.Events said) says same_files same_out resumes wrote = (
  record { files_count = same_files; out_count = same_out },
  (λ not_live not_stream not_resume. absurd (not_resume refl)),
  λ told is. (text, record { nodes = nodes; plan = (resumes told is).0; holding = record { fault = refusal; resumed = (resumes told is).1; said_is = says } }, wrote),
)
resume_said files files' out out' file checkpoint script text nodes refusal outcome.OutOfMemory says same_files same_out resumes wrote =
    inr (λ told is. (text, record { nodes = nodes; plan = (resumes told is).0; holding = whole_is_first nodes (told checkpoint) (told script) text (Some refusal) (resumes told is).1 }, front_all out.written out'.written text wrote))
resume_said files files' out out' file checkpoint script text nodes refusal outcome.Done says same_files same_out resumes wrote = absurd says
resume_said files files' out out' file checkpoint script text nodes refusal outcome.Usage says same_files same_out resumes wrote = absurd says
resume_said files files' out out' file checkpoint script text nodes refusal (outcome.BadPlan kind node) says same_files same_out resumes wrote = absurd says
resume_said files files' out out' file checkpoint script text nodes refusal (outcome.Unsaved node) says same_files same_out resumes wrote = absurd says
resume_said files files' out out' file checkpoint script text nodes refusal (outcome.BadCheckpoint line) says same_files same_out resumes wrote = absurd says
resume_said files files' out out' file checkpoint script text nodes refusal outcome.Read says same_files same_out resumes wrote = absurd says
resume_said files files' out out' file checkpoint script text nodes refusal outcome.Write says same_files same_out resumes wrote = absurd says

-- it broke off at a refused write
pub resume_write : (files files' : FilesSeen) (out out' : SinkSeen) (file checkpoint script text : List ℕ) (nodes : List PlanNode) → out.faults < out'.faults
    → ResumesFile files file checkpoint script nodes (λ from bytes. ResumesSoFar nodes from bytes text) → AppendsFront out.written out'.written text → CommandEnds (record { job = Resume; file = file; checkpoint = checkpoint; script = script }) files files' out out' outcome.Write
unfolding ResumesFile
resume_write files files' out out' file checkpoint script text nodes rose resumes wrote = (rose, λ told is. (text, record { nodes = nodes; plan = (resumes told is).0; holding = (resumes told is).1 }, wrote))

-- it broke off for want of memory
pub resume_lack : (files files' : FilesSeen) (out out' : SinkSeen) (file checkpoint script text : List ℕ) (nodes : List PlanNode)
    → ResumesFile files file checkpoint script nodes (λ from bytes. ResumesSoFar nodes from bytes text) → AppendsFront out.written out'.written text → CommandEnds (record { job = Resume; file = file; checkpoint = checkpoint; script = script }) files files' out out' outcome.OutOfMemory
unfolding ResumesFile
resume_lack files files' out out' file checkpoint script text nodes resumes wrote = inr (λ told is. (text, record { nodes = nodes; plan = (resumes told is).0; holding = (resumes told is).1 }, wrote))

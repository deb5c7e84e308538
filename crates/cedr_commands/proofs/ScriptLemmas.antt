-- How a script that was played ends.
use Rattle.std.proofs.Common.{◌≡◌, ℕ, ◌<◌, inr, List, [], ◌∷◌, length, Option, None, Some, Ok, refl, ap, sym, ◌∙◌, subst, arith}
use Rattle.std.specs.Prelude.{IfSome}
use Rattle.std.specs.Io.KnownBytes.{Appends}
use Rattle.std.proofs.lemmas.List.{take_all}
use Rattle.cedr_io.specs.Asked.{AppendsFront}
use Rattle.cedr_guard.specs.declared.refusal.Refusal.{Refusal}
use Rattle.cedr_guard.specs.declared.refusal.TheConstants.{FILE_LIMIT}
use Rattle.plan_live.specs.Plays.{IsPlayed, IsPlayedSoFar}
use Rattle.plan_live.specs.Scripts.{Accepted, Played, no_lines, played}
use Rattle.plan_live.specs.Shown.{AreShown, AreShownFirst}
use Rattle.cedr_plan.specs.declared.plan.Plan.{Plan}
use Rattle.cedr_plan.specs.declared.plan.PlanNode.{PlanNode}
use Rattle.plan_answer.specs.Sources.{AreTold}
use Rattle.cedr_commands.specs.declared.command.Job.TheVariants.{Live}
use Rattle.cedr_commands.specs.declared.outcome.Outcome.{Outcome}
use Rattle.cedr_commands.specs.declared.outcome.Outcome.TheVariants as outcome
use Rattle.cedr_commands.specs.Answers.{IsPlanOf}
use Rattle.cedr_commands.specs.Files.{IsFileFront}
use Rattle.cedr_commands.specs.Outcomes.{CommandEnds}
use Rattle.told_faults.specs.FaultTexts.{refusal_text}
use Rattle.cedr_commands.specs.Seen.{FilesSeen, SinkSeen}
use Rattle.cedr_commands.specs.Steps.{Says, OpensPlan}
use Rattle.cedr_commands.proofs.EndingLemmas.{opened_plan}
use Rattle.cedr_commands.proofs.FileLemmas.{played_known}
use Rattle.plan_live.proofs.ShownLemmas.{front_all}

-- what was played of the bytes that were read is what is played of the file
pub known_played : (before after : Option (List ℕ)) (bytes front seen : List ℕ) (nodes : List PlanNode) (text : List ℕ) (fault : Option Refusal) → after ≡ before → before ≡ Some bytes → IfSome after (λ all. IsFileFront FILE_LIMIT all front) → seen ≡ front
    → IsPlayed nodes seen text fault → IsPlayed nodes bytes text fault
known_played before after bytes front seen nodes text fault same is read all h =
    let alike = played_known after bytes front seen nodes h.shapes (no_lines nodes) (same ∙ is) read all in
    record { shapes = h.shapes; types = h.types; shown = subst (λ (p : Played). AreShown nodes [] p.asks text) alike h.shown; fault_is = h.fault_is ∙ ap (λ (p : Played). p.fault) alike }

-- the same of what the first `?` show
pub known_so_far : (before after : Option (List ℕ)) (bytes front seen : List ℕ) (nodes : List PlanNode) (text : List ℕ) → after ≡ before → before ≡ Some bytes → IfSome after (λ all. IsFileFront FILE_LIMIT all front) → seen ≡ front
    → IsPlayedSoFar nodes seen text → IsPlayedSoFar nodes bytes text
known_so_far before after bytes front seen nodes text same is read all h =
    let alike = played_known after bytes front seen nodes h.shapes (no_lines nodes) (same ∙ is) read all in
    record { shapes = h.shapes; types = h.types; shown = subst (λ (p : Played). AreShownFirst nodes p.asks text) alike h.shown }

whole_is_first : (nodes : List PlanNode) (bytes text : List ℕ) (fault : Option Refusal) → IsPlayed nodes bytes text fault → IsPlayedSoFar nodes bytes text
whole_is_first nodes bytes text fault h =
    let asks = (played nodes h.shapes bytes).asks in
    record { shapes = h.shapes; types = h.types; shown = record { count = length asks; shown = subst (λ (first : List Accepted). AreShown nodes [] first text) (sym (take_all (length asks) asks (omega arith))) h.shown } }

-- a plan and a script, where it is known what their files hold
pub PlaysFile : FilesSeen → List ℕ → List ℕ → List PlanNode → (List ℕ → Type 0) → Type 0
PlaysFile files file script nodes holds = (told : List ℕ → List ℕ) → AreTold files.content told (file ∷ script ∷ []) → IsPlanOf (told file) nodes × holds (told script)

-- a script that was played, with what all its `?` show
pub plays_whole : (files : FilesSeen) (file script : List ℕ) (plan : Plan) (after : Option (List ℕ)) (front seen text : List ℕ) (fault : Option Refusal) → OpensPlan (Ok plan) (files.content file) → after ≡ files.content script
    → IfSome after (λ all. IsFileFront FILE_LIMIT all front) → seen ≡ front → IsPlayed plan.nodes.items seen text fault → PlaysFile files file script plan.nodes.items (λ bytes. IsPlayed plan.nodes.items bytes text fault)
unfolding PlaysFile
plays_whole files file script plan after front seen text fault opened same read all h told is =
    (opened_plan (files.content file) (told file) plan is.0 opened, known_played (files.content script) after (told script) front seen plan.nodes.items text fault same is.1.0 read all h)

-- a script that was played, with what its first `?` show
pub plays_so_far : (files : FilesSeen) (file script : List ℕ) (plan : Plan) (after : Option (List ℕ)) (front seen text : List ℕ) → OpensPlan (Ok plan) (files.content file) → after ≡ files.content script
    → IfSome after (λ all. IsFileFront FILE_LIMIT all front) → seen ≡ front → IsPlayedSoFar plan.nodes.items seen text → PlaysFile files file script plan.nodes.items (λ bytes. IsPlayedSoFar plan.nodes.items bytes text)
unfolding PlaysFile
plays_so_far files file script plan after front seen text opened same read all h told is =
    (opened_plan (files.content file) (told file) plan is.0 opened, known_so_far (files.content script) after (told script) front seen plan.nodes.items text same is.1.0 read all h)

-- all of it was accepted
pub live_done : (files files' : FilesSeen) (out out' : SinkSeen) (file checkpoint script text : List ℕ) (nodes : List PlanNode) → files'.faults ≡ files.faults → out'.faults ≡ out.faults
    → PlaysFile files file script nodes (λ bytes. IsPlayed nodes bytes text None) → Appends out.written out'.written text → CommandEnds (record { job = Live; file = file; checkpoint = checkpoint; script = script }) files files' out out' outcome.Done
unfolding PlaysFile
live_done files files' out out' file checkpoint script text nodes same_files same_out plays wrote =
    (record { files_count = same_files; out_count = same_out }, λ told is. (text, record { nodes = nodes; plan = (plays told is).0; holding = (plays told is).1 }, wrote))

-- a line wasn't
pub live_said : (files files' : FilesSeen) (out out' : SinkSeen) (file checkpoint script text : List ℕ) (nodes : List PlanNode) (refusal : Refusal) (o : Outcome) → Says o (refusal_text script refusal) → files'.faults ≡ files.faults → out'.faults ≡ out.faults
    → PlaysFile files file script nodes (λ bytes. IsPlayed nodes bytes text (Some refusal)) → Appends out.written out'.written text → CommandEnds (record { job = Live; file = file; checkpoint = checkpoint; script = script }) files files' out out' o
unfolding PlaysFile
live_said files files' out out' file checkpoint script text nodes refusal (outcome.Events said) says same_files same_out plays wrote = (
  record { files_count = same_files; out_count = same_out },
  (λ not_live. absurd (not_live refl)),
  λ told is. (text, record { nodes = nodes; plan = (plays told is).0; holding = record { fault = refusal; played = (plays told is).1; said_is = says } }, wrote),
)
live_said files files' out out' file checkpoint script text nodes refusal outcome.OutOfMemory says same_files same_out plays wrote =
    inr (λ told is. (text, record { nodes = nodes; plan = (plays told is).0; holding = whole_is_first nodes (told script) text (Some refusal) (plays told is).1 }, front_all out.written out'.written text wrote))
live_said files files' out out' file checkpoint script text nodes refusal outcome.Done says same_files same_out plays wrote = absurd says
live_said files files' out out' file checkpoint script text nodes refusal outcome.Usage says same_files same_out plays wrote = absurd says
live_said files files' out out' file checkpoint script text nodes refusal (outcome.BadPlan kind node) says same_files same_out plays wrote = absurd says
live_said files files' out out' file checkpoint script text nodes refusal (outcome.Unsaved node) says same_files same_out plays wrote = absurd says
live_said files files' out out' file checkpoint script text nodes refusal (outcome.BadCheckpoint line) says same_files same_out plays wrote = absurd says
live_said files files' out out' file checkpoint script text nodes refusal outcome.Read says same_files same_out plays wrote = absurd says
live_said files files' out out' file checkpoint script text nodes refusal outcome.Write says same_files same_out plays wrote = absurd says

-- it broke off at a refused write
pub live_write : (files files' : FilesSeen) (out out' : SinkSeen) (file checkpoint script text : List ℕ) (nodes : List PlanNode) → out.faults < out'.faults
    → PlaysFile files file script nodes (λ bytes. IsPlayedSoFar nodes bytes text) → AppendsFront out.written out'.written text → CommandEnds (record { job = Live; file = file; checkpoint = checkpoint; script = script }) files files' out out' outcome.Write
unfolding PlaysFile
live_write files files' out out' file checkpoint script text nodes rose plays wrote = (rose, λ told is. (text, record { nodes = nodes; plan = (plays told is).0; holding = (plays told is).1 }, wrote))

-- it broke off for want of memory
pub live_lack : (files files' : FilesSeen) (out out' : SinkSeen) (file checkpoint script text : List ℕ) (nodes : List PlanNode)
    → PlaysFile files file script nodes (λ bytes. IsPlayedSoFar nodes bytes text) → AppendsFront out.written out'.written text → CommandEnds (record { job = Live; file = file; checkpoint = checkpoint; script = script }) files files' out out' outcome.OutOfMemory
unfolding PlaysFile
live_lack files files' out out' file checkpoint script text nodes plays wrote = inr (λ told is. (text, record { nodes = nodes; plan = (plays told is).0; holding = (plays told is).1 }, wrote))

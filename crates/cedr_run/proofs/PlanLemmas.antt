-- How `run`, `stream` and `pool` end, by how the run of their plan ends.
use Rattle.std.proofs.Common.{◌≡◌, ◌≢◌, ℕ, ◌⊎◌, inl, inr, List, [], ◌++◌, false, length, take, Option, Some, Err, refl, ap, sym, ◌∙◌, subst, arith}
use Rattle.std.specs.Io.KnownBytes.{Keeps}
use Rattle.std.proofs.lemmas.List.{take_all}
use Rattle.cedr_edge.specs.Ends.{Carried}
use Rattle.cedr_plan.specs.declared.plan.PlanNode.{PlanNode}
use Rattle.plan_answer.specs.Sources.{AreTold, AsksFirst, source_files}
use Rattle.plan_edges.specs.Wires.{carried, ports_of}
use Rattle.cedr_worker.specs.declared.ran.Ran.{Ran}
use Rattle.cedr_commands.specs.declared.command.Job.{Job}
use Rattle.cedr_commands.specs.declared.command.Job.TheVariants.{History, Check, Serial, Run, Pool, Parts, Stream, Audit, Live, Make, Save, Resume, Follow, FollowFrom}
use Rattle.cedr_commands.specs.declared.outcome.Outcome.{Outcome}
use Rattle.cedr_commands.specs.declared.outcome.Outcome.TheVariants as outcome
use Rattle.cedr_commands.specs.declared.status.Status.{Status}
use Rattle.cedr_commands.specs.declared.status.Status.TheVariants as status
use Rattle.cedr_commands.specs.Answers.{AnswersChanges, AnswersQuery, Begins, BeginsPlan, Contents, Gives, GivesPlan, OfPlan, Refuses, RefusesSources, StreamsFront, StreamsSoFar}
use Rattle.cedr_run.specs.Answers.{AnswersRun, AnswersStream}
use Rattle.cedr_commands.specs.Commands.{Command, named_files}
use Rattle.cedr_commands.specs.Outcomes.{CommandEnds, IsSilentAtRead, Wrote, WroteFront, status_of}
use Rattle.cedr_commands.specs.Seen.{FilesSeen, SinkSeen}
use Rattle.cedr_commands.specs.Steps.{OpensPlan, ReadsSources}
use Rattle.cedr_run.specs.Threads.{AnswersBy, BeganRun, BeginsBy, GaveRun, HasRun, IsSilentBy, IsThreaded, RunEnds, WroteRun}
use Rattle.cedr_commands.proofs.EndingLemmas.{IsOpened, appends_nothing, begins_of, gives_of, named_one, opened_told, refuses_of, told_same}

-- all names were asked for, so first ones were
pub asks_all : (old new names : List (List ℕ)) → new ≡ old ++ names → AsksFirst old new names
asks_all old new names is = record { count = length names; added = is ∙ ap (λ (ns : List (List ℕ)). old ++ ns) (sym (take_all (length names) names (omega arith))) }

-- the text of what went over the edges is that of the query
run_query : (told : List ℕ → List ℕ) (nodes : List PlanNode) (edges : List Carried) (ran : List Ran) (text : List ℕ) → AnswersRun told nodes edges ran text → AnswersQuery false told nodes text
run_query told nodes edges ran text answers = record {
  sources = answers.sources;
  histories = answers.histories;
  accepted = answers.accepted;
  text_is = record { ports = ports_of nodes (carried edges); given = answers.given; run = answers.run; remembers = answers.remembers; text_is = answers.text_is };
}

-- and so is that of the changes that the output gave
pub stream_changes : (told : List ℕ → List ℕ) (nodes : List PlanNode) (edges : List Carried) (ran : List Ran) (text : List ℕ) → AnswersStream told nodes edges ran text → AnswersChanges told nodes text
stream_changes told nodes edges ran text answers = record {
  sources = answers.sources;
  histories = answers.histories;
  accepted = answers.accepted;
  text_is = record { ports = ports_of nodes (carried edges); given = answers.given; run = answers.run; text_is = answers.text_is };
  leads = answers.leads;
}

-- ---- either way

-- what `run`, `pool` and `stream` have, each of the three commands has
pub by_threaded : (P : Job → Type 0) (job : Job) → IsThreaded job → P Run → ((n : ℕ) → P (Pool n)) → P Stream → P job
by_threaded P Run is run pool stream = run
by_threaded P (Pool n) is run pool stream = pool n
by_threaded P Stream is run pool stream = stream
by_threaded P History is run pool stream = absurd is
by_threaded P Check is run pool stream = absurd is
by_threaded P Serial is run pool stream = absurd is
by_threaded P (Parts n) is run pool stream = absurd is
by_threaded P Audit is run pool stream = absurd is
by_threaded P Live is run pool stream = absurd is
by_threaded P (Make n) is run pool stream = absurd is
by_threaded P Save is run pool stream = absurd is
by_threaded P Resume is run pool stream = absurd is
by_threaded P Follow is run pool stream = absurd is
by_threaded P FollowFrom is run pool stream = absurd is

-- what is written at the end of a run is what a command answers that isn't `stream`
pub answers_at_end : (job : Job) → IsThreaded job → job ≢ Stream → (told : List ℕ → List ℕ) (nodes : List PlanNode) (edges : List Carried) (ran : List Ran) (text : List ℕ) → AnswersRun told nodes edges ran text → AnswersBy job told nodes edges ran text × BeginsBy job told nodes edges ran text
answers_at_end job is other told nodes edges ran text answers =
    by_threaded (λ (job : Job). job ≢ Stream → AnswersBy job told nodes edges ran text × BeginsBy job told nodes edges ran text) job is (λ _. (answers, answers)) (λ n _. (answers, answers)) (λ no. absurd (no refl)) other

-- what the command gives
answers_as : (job : Job) → IsThreaded job → (told : List ℕ → List ℕ) (nodes : List PlanNode) (edges : List Carried) (ran : List Ran) (text : List ℕ) → AnswersBy job told nodes edges ran text → GivesPlan job told nodes text
answers_as job is told nodes edges ran text = by_threaded (λ (job : Job). AnswersBy job told nodes edges ran text → GivesPlan job told nodes text) job is (run_query told nodes edges ran text) (λ n. run_query told nodes edges ran text) (stream_changes told nodes edges ran text)

-- and of which a front may be written
begins_as : (job : Job) → IsThreaded job → (told : List ℕ → List ℕ) (nodes : List PlanNode) (edges : List Carried) (ran : List Ran) (text : List ℕ) → BeginsBy job told nodes edges ran text → BeginsPlan job told nodes text
begins_as job is told nodes edges ran text = by_threaded (λ (job : Job). BeginsBy job told nodes edges ran text → BeginsPlan job told nodes text) job is (run_query told nodes edges ran text) (λ n. run_query told nodes edges ran text) (λ h. h)

-- the command reads the sources of its plan
pub reads_by : (job : Job) → IsThreaded job → ReadsSources job
reads_by job is = by_threaded ReadsSources job is tt (λ n. tt) tt

-- nothing was written, where the rows are written at the end
silent_as : (job : Job) (content : Contents) (nodes : List PlanNode) (out out' : SinkSeen) → IsSilentBy job content nodes out out' → job ≢ Live → job ≢ Stream → job ≢ Resume → Keeps out.written out'.written
silent_as job content nodes out out' (inl keeps) live stream resume = keeps
silent_as job content nodes out out' (inr some) live stream resume = absurd (stream some.0)

-- without a plan nothing is done
pub none_done : (o : Outcome) (content : Option (List ℕ)) → OpensPlan (Err o) content → o ≡ outcome.Done → ⊥
none_done o content opens done = subst (λ (o : Outcome). OpensPlan (Err o) content) done opens

-- a status that says so is that of a command that is done
pub done_alone : (o : Outcome) (s : Status) → (s ≡ status_of o) ⊎ (s ≡ status.OutOfMemory) → s ≡ status.Done → o ≡ outcome.Done
done_alone outcome.Done s at done = refl
done_alone outcome.Usage s (inl at) done = absurd (cc (at, done))
done_alone (outcome.Events said) s (inl at) done = absurd (cc (at, done))
done_alone (outcome.BadPlan kind node) s (inl at) done = absurd (cc (at, done))
done_alone (outcome.Unsaved node) s (inl at) done = absurd (cc (at, done))
done_alone (outcome.BadCheckpoint line) s (inl at) done = absurd (cc (at, done))
done_alone outcome.Read s (inl at) done = absurd (cc (at, done))
done_alone outcome.Write s (inl at) done = absurd (cc (at, done))
done_alone outcome.OutOfMemory s (inl at) done = absurd (cc (at, done))
done_alone o s (inr lacks) done = absurd (cc (lacks, done))

module _ (job : Job) (is : IsThreaded job) (files now files' : FilesSeen) (file checkpoint script : List ℕ) (nodes : List PlanNode) (opened : IsOpened files file nodes) (same : now.faults ≡ files.faults) (contents : (name : List ℕ) → now.content name ≡ files.content name) (out out' : SinkSeen) (edges : List Carried) (ran : List Ran) where
  abbrev command : Command
  command = record { job = job; file = file; checkpoint = checkpoint; script = script }

  reads : ReadsSources job
  reads = reads_by job is

  -- what holds of the plan where it is known what the sources' files hold
  of_plan : (told : List ℕ → List ℕ) (holds : List PlanNode → Type 0) → AreTold files.content told (named_files command) → (AreTold now.content told (source_files nodes) → holds nodes) → OfPlan files.content told file holds
  of_plan told holds known_one all = record {
    nodes = nodes;
    plan = opened_told files file nodes opened told (named_one job files.content told file checkpoint script reads known_one);
    holding = λ known. all (told_same files.content now.content told (source_files nodes) contents known);
  }

  -- a text was written
  gave : GaveRun job now.content nodes edges ran out out' → Wrote files command out out' (λ told text. Gives files.content told command text)
  gave h told named = (h.text, gives_of job files.content told file checkpoint script h.text reads (of_plan told (λ (ns : List PlanNode). GivesPlan job told ns h.text) named (λ known. answers_as job is told nodes edges ran h.text (h.answers told known))), h.wrote)

  -- or begun
  began : BeganRun job now.content nodes edges ran out out' → WroteFront files command out out' (λ told text. Begins files.content told command text)
  began h told named = (h.text, begins_of job files.content told file checkpoint script h.text reads (of_plan told (λ (ns : List PlanNode). BeginsPlan job told ns h.text) named (λ known. begins_as job is told nodes edges ran h.text (h.begins told known))), h.wrote)

  -- what was written where a read was refused
  at_read : IsSilentBy job now.content nodes out out' → IsSilentAtRead command files out out'
  at_read (inl keeps) = inl keeps
  at_read (inr some) = inr (some.0, λ told named. (some.1.text, of_plan told (λ (ns : List PlanNode). StreamsSoFar told ns some.1.text) named (some.1.begins told), some.1.wrote))

  -- and where some source isn't accepted
  refused : (said : List ℕ) → IsSilentBy job now.content nodes out out' → ((told : List ℕ → List ℕ) → AreTold now.content told (source_files nodes) → RefusesSources told nodes said) → Wrote files command out out' (λ told text. Refuses files.content told command text said)
  refused said (inl keeps) refuses told named = ([], refuses_of job files.content told file checkpoint script said reads (of_plan told (λ (ns : List PlanNode). RefusesSources told ns said) named (refuses told)), appends_nothing out.written out'.written keeps)
  refused said (inr some) refuses told named =
      let front : List ℕ = take some.1.wrote.count some.1.text in (
        front,
        subst (λ (j : Job). Refuses files.content told (record { job = j; file = file; checkpoint = checkpoint; script = script }) front said) (sym some.0)
            (of_plan told (λ (ns : List PlanNode). RefusesSources told ns said × ((front ≡ []) ⊎ StreamsFront told ns front)) named
            (λ known. (refuses told known, inr (record { whole = some.1.text; begins = some.1.begins told known; count = some.1.wrote.count; text_is = refl })))),
        some.1.wrote.grows,
      )

  -- the command ends as the run of its plan
  pub plan_ended : (o : Outcome) → RunEnds job nodes now files' out out' edges ran o → CommandEnds command files files' out out' o
  plan_ended outcome.Done h = (record { files_count = h.0.files_count ∙ same; out_count = h.0.out_count }, gave h.1)
  plan_ended (outcome.Events said) h = (record { files_count = h.0.files_count ∙ same; out_count = h.0.out_count }, silent_as job now.content nodes out out' h.1, refused said.items h.1 h.2)
  plan_ended outcome.Read h = (omega (arith, same, h.0), h.1, at_read h.2)
  plan_ended outcome.Write h = (h.0, began h.1)
  plan_ended outcome.OutOfMemory (inl keeps) = inl keeps
  plan_ended outcome.OutOfMemory (inr h) = inr (began h)
  plan_ended outcome.Usage h = absurd h
  plan_ended (outcome.BadPlan kind node) h = absurd h
  plan_ended (outcome.Unsaved node) h = absurd h
  plan_ended (outcome.BadCheckpoint line) h = absurd h

  -- where it is done, its text is that of what went over the edges
  pub wrote_run : (o : Outcome) → o ≡ outcome.Done → RunEnds job nodes now files' out out' edges ran o → WroteRun files command out out' edges ran
  wrote_run o done h =
      let gave = (subst (λ (o : Outcome). RunEnds job nodes now files' out out' edges ran o) done h).1 in
      λ told named. (gave.text, of_plan told (λ (ns : List PlanNode). AnswersBy job told ns edges ran gave.text) named (gave.answers told), gave.wrote)

-- what is answered of the edges and the turns where it is done
pub has_run_by : (job : Job) → IsThreaded job → (files : FilesSeen) (file checkpoint script : List ℕ) (out out' : SinkSeen) (s : Status) (edges : List Carried) (ran : List Ran) → (s ≡ status.Done → WroteRun files (record { job = job; file = file; checkpoint = checkpoint; script = script }) out out' edges ran)
    → HasRun (Some (record { job = job; file = file; checkpoint = checkpoint; script = script })) files out out' s edges ran
has_run_by job is files file checkpoint script out out' s edges ran =
    by_threaded (λ (job : Job). (s ≡ status.Done → WroteRun files (record { job = job; file = file; checkpoint = checkpoint; script = script }) out out' edges ran) → HasRun (Some (record { job = job; file = file; checkpoint = checkpoint; script = script })) files out out' s edges ran) job is (λ wrote. wrote) (λ n wrote. wrote) (λ wrote. wrote)

-- ---- the files as they were before

module _ (job : Job) (files now files' : FilesSeen) (nodes : List PlanNode) (same : now.faults ≡ files.faults) (contents : (name : List ℕ) → now.content name ≡ files.content name) (out out' : SinkSeen) (edges : List Carried) (ran : List Ran) where
  told_now : (told : List ℕ → List ℕ) → AreTold files.content told (source_files nodes) → AreTold now.content told (source_files nodes)
  told_now told known = told_same files.content now.content told (source_files nodes) contents known

  began_later : BeganRun job now.content nodes edges ran out out' → BeganRun job files.content nodes edges ran out out'
  began_later h = record { text = h.text; begins = λ told known. h.begins told (told_now told known); wrote = h.wrote }

  silent_later : IsSilentBy job now.content nodes out out' → IsSilentBy job files.content nodes out out'
  silent_later (inl keeps) = inl keeps
  silent_later (inr some) = inr (some.0, record { text = some.1.text; begins = λ told known. some.1.begins told (told_now told known); wrote = some.1.wrote })

  -- a run ends so for the files as they were before its sources were found
  pub ends_later : (o : Outcome) → RunEnds job nodes now files' out out' edges ran o → RunEnds job nodes files files' out out' edges ran o
  ends_later outcome.Done h = (
    record { files_count = h.0.files_count ∙ same; out_count = h.0.out_count },
    record { text = h.1.text; answers = λ told known. h.1.answers told (told_now told known); wrote = h.1.wrote },
  )
  ends_later (outcome.Events said) h = (record { files_count = h.0.files_count ∙ same; out_count = h.0.out_count }, silent_later h.1, λ told known. h.2 told (told_now told known))
  ends_later outcome.Read h = (omega (arith, same, h.0), h.1, silent_later h.2)
  ends_later outcome.Write h = (h.0, began_later h.1)
  ends_later outcome.OutOfMemory (inl keeps) = inl keeps
  ends_later outcome.OutOfMemory (inr h) = inr (began_later h)
  ends_later outcome.Usage h = absurd h
  ends_later (outcome.BadPlan kind node) h = absurd h
  ends_later (outcome.Unsaved node) h = absurd h
  ends_later (outcome.BadCheckpoint line) h = absurd h

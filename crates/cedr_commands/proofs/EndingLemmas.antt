-- How a command ends, from how its steps went.
use Rattle.std.proofs.Common.{◌≡◌, ◌≢◌, ℕ, suc, Bool, ◌<◌, ◌⊎◌, inl, inr, List, [], ◌∷◌, ◌++◌, take, Option, None, Some, Result, Ok, Err, refl, sym, ap, ◌∙◌, subst, rules, tests, arith, false}
use Rattle.std.specs.Prelude.{IfSome, OnOk, OnErr}
use Rattle.std.specs.Io.KnownBytes.{Appends, Keeps}
use Rattle.std.proofs.lemmas.List.{append-nil, append_assoc}
use Rattle.cedr_guard.specs.Spelt.{State}
use Rattle.cedr_io.specs.Asked.{AppendsFront}
use Rattle.cedr_io.specs.Counts.{Rose, last_count}
use Rattle.cedr_plan.specs.Drawn.{drawn}
use Rattle.cedr_plan.specs.Plans.{plan_of}
use Rattle.cedr_plan.specs.declared.fault.PlanKind.{PlanKind}
use Rattle.cedr_plan.specs.declared.plan.Plan.{Plan}
use Rattle.cedr_plan.specs.declared.plan.PlanNode.{PlanNode}
use Rattle.cedr_save.specs.Checkpoints.{plan_sources, IsCheckpoint}
use Rattle.plan_answer.specs.Sources.{AsksFirst, AreTold, source_files}
use Rattle.node_laws.specs.Lists.{Lists, AreTables}
use Rattle.plan_serial.specs.Rounds.{ByLine, all_messages}
use Rattle.plan_serial.specs.Feeding.{AnswersInRounds}
use Rattle.plan_serial.specs.Sources.{AreReadByLine}
use Rattle.cedr_commands.specs.declared.command.Job.{Job}
use Rattle.cedr_commands.specs.declared.command.Job.TheVariants.{History, Check, Serial, Run, Pool, Parts, Stream, Audit, Live, Make, Save, Resume, Follow, FollowFrom}
use Rattle.cedr_commands.specs.declared.outcome.Outcome.{Outcome}
use Rattle.cedr_commands.specs.declared.outcome.Outcome.TheVariants as outcome
use Rattle.cedr_commands.specs.declared.status.Status.{Status}
use Rattle.cedr_commands.specs.declared.status.Status.TheVariants as status
use Rattle.cedr_plan.specs.Places.{source_count}
use Rattle.plan_runs.specs.Runs.{AllWhole, sources_in}
use Rattle.plan_answer.specs.Queries.{AreAcceptedSources, source_nodes}
use Rattle.cedr_table.specs.Operators.{Tables}
use Rattle.cedr_commands.specs.Answers.{AnswersInTurns, AnswersQuery, IsPlanOf, IsNoPlan, OfPlan, Gives, Refuses, Begins, RefusesPlan, RefusesSources, GivesPlan, BeginsPlan}
use Rattle.cedr_commands.specs.Commands.{Command, named_files}
use Rattle.cedr_commands.specs.Seen.{FilesSeen, SinkSeen, SinkGains}
use Rattle.cedr_commands.specs.Outcomes.{status_of, outcome_text, TellsLack, CommandEnds, AsksOnly, AsksPlan, AsksBehind, HoldsCheckpoint}
use Rattle.cedr_commands.specs.Steps.{Texts, WritesText, Says, OpensPlan, OpensSources, StopsSources, CountsStep, ReadsSources, EndsPlan, EndsWith, EndsSources}
use Rattle.cedr_commands.specs.Ending.{Ends}
use Rattle.plan_live.proofs.ShownLemmas.{front_all}

-- ---- fronts

-- where nothing was written, a front of any text was
pub nothing_is_front : (old new : Option (List ℕ)) (text : List ℕ) → Keeps old new → AppendsFront old new text
nothing_is_front None new text keeps = record { count = 0; grows = tt }
nothing_is_front (Some xs) None text keeps = absurd keeps
nothing_is_front (Some xs) (Some ys) text keeps = record { count = 0; grows = keeps ∙ sym (append-nil xs) }

-- what is the same is kept
pub kept_itself : (old : Option (List ℕ)) → Keeps old old
kept_itself None = tt
kept_itself (Some bytes) = refl

-- a sink that kept what it had gained nothing
pub appends_nothing : (old new : Option (List ℕ)) → Keeps old new → Appends old new []
appends_nothing None new keeps = tt
appends_nothing (Some xs) None keeps = absurd keeps
appends_nothing (Some xs) (Some ys) keeps = keeps ∙ sym (append-nil xs)

-- ---- a whole text

-- a command ends as the write of its text went, where this text is what it gives
pub ends_written : (command : Command) (files files' : FilesSeen) (out out' : SinkSeen) (o : Outcome) (text : List ℕ) → WritesText o out out' text → files'.faults ≡ files.faults
    → ((told : List ℕ → List ℕ) → AreTold files.content told (named_files command) → Gives files.content told command text)
    → ((told : List ℕ → List ℕ) → Gives files.content told command text → Begins files.content told command text)
    → CommandEnds command files files' out out' o
ends_written command files files' out out' outcome.Done text h same gives begins = (record { files_count = same; out_count = h.0 }, λ told is. (text, gives told is, h.1))
ends_written command files files' out out' outcome.Write text h same gives begins = (h.0, λ told is. (text, begins told (gives told is), h.1))
ends_written command files files' out out' outcome.OutOfMemory text h same gives begins = inr (λ told is. (text, begins told (gives told is), h))
ends_written command files files' out out' outcome.Usage text h same gives begins = absurd h
ends_written command files files' out out' (outcome.Events said) text h same gives begins = absurd h
ends_written command files files' out out' (outcome.BadPlan kind node) text h same gives begins = absurd h
ends_written command files files' out out' (outcome.Unsaved node) text h same gives begins = absurd h
ends_written command files files' out out' (outcome.BadCheckpoint line) text h same gives begins = absurd h
ends_written command files files' out out' outcome.Read text h same gives begins = absurd h

-- ---- something isn't accepted, and nothing was written

-- where a command refuses what it read, it ends with what is said of that, or for want of memory
pub ends_said : (command : Command) (files files' : FilesSeen) (out : SinkSeen) (o : Outcome) (text : List ℕ) → Says o text → files'.faults ≡ files.faults
    → ((told : List ℕ → List ℕ) (said : List ℕ) → said ≡ text → AreTold files.content told (named_files command) → Refuses files.content told command [] said)
    → CommandEnds command files files' out out o
ends_said command files files' out (outcome.Events said) text h same refuses =
    (record { files_count = same; out_count = refl }, (λ live stream resume. kept_itself out.written), λ told is. ([], refuses told said.items h is, appends_nothing out.written out.written (kept_itself out.written)))
ends_said command files files' out outcome.OutOfMemory text h same refuses = inl (kept_itself out.written)
ends_said command files files' out outcome.Done text h same refuses = absurd h
ends_said command files files' out outcome.Usage text h same refuses = absurd h
ends_said command files files' out (outcome.BadPlan kind node) text h same refuses = absurd h
ends_said command files files' out (outcome.Unsaved node) text h same refuses = absurd h
ends_said command files files' out (outcome.BadCheckpoint line) text h same refuses = absurd h
ends_said command files files' out outcome.Read text h same refuses = absurd h
ends_said command files files' out outcome.Write text h same refuses = absurd h

-- ---- no plan

known_no_plan : (content : Option (List ℕ)) (bytes : List ℕ) (kind : PlanKind) (node : ℕ) → content ≡ Some bytes → IfSome content (λ all. IsNoPlan all kind node) → IsNoPlan bytes kind node
known_no_plan content bytes kind node is h = subst (λ (known : Option (List ℕ)). IfSome known (λ all. IsNoPlan all kind node)) is h

known_plan : (content : Option (List ℕ)) (bytes : List ℕ) (plan : Plan) → content ≡ Some bytes → IfSome content (λ all. plan_of all ≡ Ok (drawn plan)) → plan_of bytes ≡ Ok (drawn plan)
known_plan content bytes plan is h = subst (λ (known : Option (List ℕ)). IfSome known (λ all. plan_of all ≡ Ok (drawn plan))) is h

-- the plan that was opened is that of the bytes
pub opened_plan : (content : Option (List ℕ)) (bytes : List ℕ) (plan : Plan) → content ≡ Some bytes → OpensPlan (Ok plan) content → IsPlanOf bytes plan.nodes.items
opened_plan content bytes plan is h = record { plan = drawn plan; described = known_plan content bytes plan is h; nodes_are = refl }

-- where the opening of a plan stopped a command, the command ends so, and nothing was written
pub ends_no_plan : (command : Command) (files files' : FilesSeen) (out : SinkSeen) (o : Outcome) → OpensPlan (Err o) (files.content command.file) → CountsStep {T = Plan} (Err o) files.faults files'.faults
    → ((told : List ℕ → List ℕ) (kind : PlanKind) (node : ℕ) → IsNoPlan (told command.file) kind node → RefusesPlan told command kind node)
    → CommandEnds command files files' out out o
ends_no_plan command files files' out (outcome.BadPlan kind node) h same refuses =
    (record { files_count = same; out_count = refl }, kept_itself out.written, λ told is. refuses told kind node (known_no_plan (files.content command.file) (told command.file) kind node is.0 h))
ends_no_plan command files files' out outcome.Read h rose refuses = (rose, refl, inl (kept_itself out.written))
ends_no_plan command files files' out outcome.OutOfMemory h same refuses = inl (kept_itself out.written)
ends_no_plan command files files' out (outcome.Events said) h same refuses = absurd h
ends_no_plan command files files' out (outcome.Unsaved node) h same refuses = absurd h
ends_no_plan command files files' out (outcome.BadCheckpoint line) h same refuses = absurd h
ends_no_plan command files files' out outcome.Done h same refuses = absurd h
ends_no_plan command files files' out outcome.Usage h same refuses = absurd h
ends_no_plan command files files' out outcome.Write h same refuses = absurd h

-- ---- which files were asked for

-- of no names none was asked for
pub asks_none : (asked : List (List ℕ)) → AsksFirst asked asked []
asks_none asked = record { count = 0; added = sym (append-nil asked) }

-- of some names the first one was asked for
pub asks_one : (old new : List (List ℕ)) (name : List ℕ) (names : List (List ℕ)) → new ≡ old ++ name ∷ [] → AsksFirst old new (name ∷ names)
asks_one old new name names is = record { count = 1; added = is }

-- of some names the first one was asked for, and then first ones of the others
pub asks_more : (old now new : List (List ℕ)) (name : List ℕ) (names : List (List ℕ)) → now ≡ old ++ name ∷ [] → AsksFirst now new names → AsksFirst old new (name ∷ names)
asks_more old now new name names is asks = record {
  count = suc asks.count;
  added = asks.added ∙ (ap (λ (before : List (List ℕ)). before ++ take asks.count names) is ∙ append_assoc old (name ∷ []) (take asks.count names));
}

-- ---- files behind a plan

-- where a plan was opened of which this holds, and the first ones of its file and of these were asked for
pub behind_plan : (files files' : FilesSeen) (file : List ℕ) (plan : Plan) (holds : List PlanNode → Type 0) (names : List (List ℕ)) → OpensPlan (Ok plan) (files.content file) → holds plan.nodes.items → AsksFirst files.asked files'.asked (file ∷ names) → AsksBehind files files' file holds names
behind_plan files files' file plan holds names opened holding asked = record {
  nodes = plan.nodes.items;
  plan = λ told is. opened_plan (files.content file) (told file) plan is.0 opened;
  holding = holding;
  asked = asked;
}

-- a file that was read as a checkpoint is one, where it holds what it held before
pub held_checkpoint : (files : FilesSeen) (after : Option (List ℕ)) (checkpoint : List ℕ) (nodes : List PlanNode) (states : List State) → after ≡ files.content checkpoint → IfSome after (λ bytes. IsCheckpoint (plan_sources nodes) states bytes) → HoldsCheckpoint files checkpoint nodes
held_checkpoint files after checkpoint nodes states same h told is = (states, subst (λ (content : Option (List ℕ)). IfSome content (λ bytes. IsCheckpoint (plan_sources nodes) states bytes)) (same ∙ is.0) h)

-- ---- commands over sources

-- where the files hold what they held, it is still known what they hold
pub told_same : (before after : List ℕ → Option (List ℕ)) (told : List ℕ → List ℕ) (names : List (List ℕ)) → ((name : List ℕ) → after name ≡ before name) → AreTold before told names → AreTold after told names
told_same before after told [] same h = tt
told_same before after told (name ∷ names) same h = (same name ∙ h.0, told_same before after told names same h.1)

-- what holds of each command that reads sources
by_job : (P : Job → Type 0) (job : Job) → ReadsSources job → P Serial → P Run → ((n : ℕ) → P (Pool n)) → ((n : ℕ) → P (Parts n)) → P Audit → P Stream → P job
by_job P Serial reads serial run pool parts audit stream = serial
by_job P Run reads serial run pool parts audit stream = run
by_job P (Pool n) reads serial run pool parts audit stream = pool n
by_job P (Parts n) reads serial run pool parts audit stream = parts n
by_job P Audit reads serial run pool parts audit stream = audit
by_job P Stream reads serial run pool parts audit stream = stream
by_job P History reads serial run pool parts audit stream = absurd reads
by_job P Check reads serial run pool parts audit stream = absurd reads
by_job P Live reads serial run pool parts audit stream = absurd reads
by_job P (Make n) reads serial run pool parts audit stream = absurd reads
by_job P Save reads serial run pool parts audit stream = absurd reads
by_job P Resume reads serial run pool parts audit stream = absurd reads
by_job P Follow reads serial run pool parts audit stream = absurd reads
by_job P FollowFrom reads serial run pool parts audit stream = absurd reads

pub named_one : (job : Job) (content : List ℕ → Option (List ℕ)) (told : List ℕ → List ℕ) (file checkpoint script : List ℕ) → ReadsSources job → AreTold content told (named_files (record { job = job; file = file; checkpoint = checkpoint; script = script })) → AreTold content told (file ∷ [])
named_one job content told file checkpoint script reads =
    by_job (λ (job : Job). AreTold content told (named_files (record { job = job; file = file; checkpoint = checkpoint; script = script })) → AreTold content told (file ∷ [])) job reads (λ h. h) (λ h. h) (λ n h. h) (λ n h. h) (λ h. h) (λ h. h)

no_plan_of : (job : Job) (told : List ℕ → List ℕ) (file checkpoint script : List ℕ) (kind : PlanKind) (node : ℕ) → ReadsSources job → IsNoPlan (told file) kind node → RefusesPlan told (record { job = job; file = file; checkpoint = checkpoint; script = script }) kind node
no_plan_of job told file checkpoint script kind node reads h = by_job (λ (job : Job). RefusesPlan told (record { job = job; file = file; checkpoint = checkpoint; script = script }) kind node) job reads h h (λ n. h) (λ n. h) h h

pub refuses_of : (job : Job) (content : List ℕ → Option (List ℕ)) (told : List ℕ → List ℕ) (file checkpoint script said : List ℕ) → ReadsSources job → OfPlan content told file (λ nodes. RefusesSources told nodes said) → Refuses content told (record { job = job; file = file; checkpoint = checkpoint; script = script }) [] said
refuses_of job content told file checkpoint script said reads h = by_job (λ (job : Job). Refuses content told (record { job = job; file = file; checkpoint = checkpoint; script = script }) [] said) job reads (refl, h) (refl, h) (λ n. (refl, h)) (λ n. (refl, h)) (refl, h) (record { nodes = h.nodes; plan = h.plan; holding = λ known. (h.holding known, inl refl) })

pub gives_of : (job : Job) (content : List ℕ → Option (List ℕ)) (told : List ℕ → List ℕ) (file checkpoint script text : List ℕ) → ReadsSources job → OfPlan content told file (λ nodes. GivesPlan job told nodes text) → Gives content told (record { job = job; file = file; checkpoint = checkpoint; script = script }) text
gives_of job content told file checkpoint script text reads =
    by_job (λ (job : Job). OfPlan content told file (λ nodes. GivesPlan job told nodes text) → Gives content told (record { job = job; file = file; checkpoint = checkpoint; script = script }) text) job reads (λ h. h) (λ h. h) (λ n h. h) (λ n h. h) (λ h. h) (λ h. h)

pub begins_of : (job : Job) (content : List ℕ → Option (List ℕ)) (told : List ℕ → List ℕ) (file checkpoint script text : List ℕ) → ReadsSources job → OfPlan content told file (λ nodes. BeginsPlan job told nodes text) → Begins content told (record { job = job; file = file; checkpoint = checkpoint; script = script }) text
begins_of job content told file checkpoint script text reads =
    by_job (λ (job : Job). OfPlan content told file (λ nodes. BeginsPlan job told nodes text) → Begins content told (record { job = job; file = file; checkpoint = checkpoint; script = script }) text) job reads (λ h. h) (λ h. h) (λ n h. h) (λ n h. h) (λ h. h) (λ h. h)

-- a command that reads sources may have asked for its plan alone, or for nothing
pub plan_asked : (job : Job) (files files' : FilesSeen) (file checkpoint script : List ℕ) → ReadsSources job → AsksFirst files.asked files'.asked (file ∷ []) → AsksOnly (record { job = job; file = file; checkpoint = checkpoint; script = script }) files files'
plan_asked job files files' file checkpoint script reads h = by_job (λ (job : Job). AsksOnly (record { job = job; file = file; checkpoint = checkpoint; script = script }) files files') job reads (inl h) (inl h) (λ n. inl h) (λ n. inl h) (inl h) (inl h)

asks_plan : (job : Job) (files files' : FilesSeen) (file checkpoint script : List ℕ) → ReadsSources job → AsksPlan files files' file → AsksOnly (record { job = job; file = file; checkpoint = checkpoint; script = script }) files files'
asks_plan job files files' file checkpoint script reads h = by_job (λ (job : Job). AsksOnly (record { job = job; file = file; checkpoint = checkpoint; script = script }) files files') job reads (inr h) (inr h) (λ n. inr h) (λ n. inr h) (inr h) (inr h)

-- what accepted sources have
abbrev pub AcceptedLeft : (List ℕ → List ℕ) → List PlanNode → Lists → Type 0
AcceptedLeft told nodes left = (histories : Tables) × AreAcceptedSources told (source_nodes nodes) (sources_in nodes left) histories × AllWhole (source_count nodes) (sources_in nodes left) × AreTables (sources_in nodes left) histories

-- no plan was opened
pub sources_no_plan : (job : Job) (file checkpoint script : List ℕ) (files files' : FilesSeen) (out : SinkSeen) (o : Outcome) → ReadsSources job → OpensPlan (Err o) (files.content file) → CountsStep {T = Plan} (Err o) files.faults files'.faults
    → CommandEnds (record { job = job; file = file; checkpoint = checkpoint; script = script }) files files' out out o
sources_no_plan job file checkpoint script files files' out o reads h counts = ends_no_plan (record { job = job; file = file; checkpoint = checkpoint; script = script }) files files' out o h counts (λ told kind node no. no_plan_of job told file checkpoint script kind node reads no)

-- a plan was opened
pub IsOpened : FilesSeen → List ℕ → List PlanNode → Type 0
IsOpened files file nodes = (told : List ℕ → List ℕ) → AreTold files.content told (file ∷ []) → IsPlanOf (told file) nodes

-- where a plan was answered, a plan of its nodes was opened
pub is_opened : (files : FilesSeen) (file : List ℕ) (plan : Plan) → OpensPlan (Ok plan) (files.content file) → IsOpened files file plan.nodes.items
unfolding IsOpened
is_opened files file plan h told is = opened_plan (files.content file) (told file) plan is.0 h

-- and is that of the file, where it is known what that holds
pub opened_told : (files : FilesSeen) (file : List ℕ) (nodes : List PlanNode) → IsOpened files file nodes → (told : List ℕ → List ℕ) → AreTold files.content told (file ∷ []) → IsPlanOf (told file) nodes
unfolding IsOpened
opened_told files file nodes opened = opened

-- a command that reads the sources of an opened plan may have asked for the plan and their files, each once
-- and in this order, or for the first ones of these
pub sources_asked : (job : Job) (files files' : FilesSeen) (file checkpoint script : List ℕ) (nodes : List PlanNode) → ReadsSources job → IsOpened files file nodes → AsksFirst files.asked files'.asked (file ∷ source_files nodes) → AsksOnly (record { job = job; file = file; checkpoint = checkpoint; script = script }) files files'
unfolding IsOpened
sources_asked job files files' file checkpoint script nodes reads opened asked = asks_plan job files files' file checkpoint script reads (record { nodes = nodes; plan = opened; asked = asked })

-- the sources of an opened plan weren't
pub plan_stopped : (T : Type 0) (job : Job) (nodes : List PlanNode) (files files' : FilesSeen) (out : SinkSeen) (o : Outcome) → StopsSources {T = T} (Err o) → CountsStep {T = T} (Err o) files.faults files'.faults
    → ((told : List ℕ → List ℕ) → AreTold files.content told (source_files nodes) → OpensSources (Err o) told nodes) → EndsPlan job nodes files files' out out o
plan_stopped T job nodes files files' out (outcome.Events said) stops counts refuses = (record { files_count = counts; out_count = refl }, kept_itself out.written, refuses)
plan_stopped T job nodes files files' out outcome.Read stops counts refuses = (counts, refl, kept_itself out.written)
plan_stopped T job nodes files files' out outcome.OutOfMemory stops counts refuses = inl (kept_itself out.written)
plan_stopped T job nodes files files' out (outcome.BadPlan kind node) stops counts refuses = absurd stops
plan_stopped T job nodes files files' out (outcome.Unsaved node) stops counts refuses = absurd stops
plan_stopped T job nodes files files' out (outcome.BadCheckpoint line) stops counts refuses = absurd stops
plan_stopped T job nodes files files' out outcome.Done stops counts refuses = absurd stops
plan_stopped T job nodes files files' out outcome.Usage stops counts refuses = absurd stops
plan_stopped T job nodes files files' out outcome.Write stops counts refuses = absurd stops

-- they were: a text was written, or begun
pub ends_text : (texts : Texts) (nodes : List PlanNode) (left : ByLine) (out out' : SinkSeen) (o : Outcome) (text : List ℕ) → WritesText o out out' text → ((told : List ℕ → List ℕ) → AreReadByLine told nodes left [] → texts told nodes text)
    → EndsWith texts texts nodes left out out' o
ends_text texts nodes left out out' outcome.Done text h gives = (h.0, record { text = text; gives = gives; wrote = h.1 })
ends_text texts nodes left out out' outcome.Write text h gives = (h.0, record { text = text; begins = gives; wrote = h.1 })
ends_text texts nodes left out out' outcome.OutOfMemory text h gives = inr (record { text = text; begins = gives; wrote = h })
ends_text texts nodes left out out' outcome.Usage text h gives = absurd h
ends_text texts nodes left out out' (outcome.Events said) text h gives = absurd h
ends_text texts nodes left out out' (outcome.BadPlan kind node) text h gives = absurd h
ends_text texts nodes left out out' (outcome.Unsaved node) text h gives = absurd h
ends_text texts nodes left out out' (outcome.BadCheckpoint line) text h gives = absurd h
ends_text texts nodes left out out' outcome.Read text h gives = absurd h

-- where the sources are accepted, the text of an answer over their canonical histories answers the query
pub answers_query : (always : Bool) (told : List ℕ → List ℕ) (nodes : List PlanNode) (left : ByLine) (text : List ℕ) → AreReadByLine told nodes left [] → AcceptedLeft told nodes (all_messages left)
    → ((histories : Tables) → AllWhole (source_count nodes) (sources_in nodes (all_messages left)) → AreTables (sources_in nodes (all_messages left)) histories → AnswersInRounds always nodes left histories text) → AnswersInTurns always told nodes text
answers_query always told nodes left text read got answer =
    let came = answer got.0 got.2 got.3 in
    record { query = record { sources = sources_in nodes (all_messages left); histories = got.0; accepted = got.1; text_is = came.text_is }; lines = left; read = read; rounds = came.rounds }

-- a text that answers more answers less
ends_weaker : (texts others : Texts) → ((told : List ℕ → List ℕ) (nodes : List PlanNode) (text : List ℕ) → texts told nodes text → others told nodes text) → (nodes : List PlanNode) (left : ByLine) (out out' : SinkSeen) (o : Outcome)
    → EndsWith texts texts nodes left out out' o → EndsWith others others nodes left out out' o
ends_weaker texts others less nodes left out out' outcome.Done h = (h.0, record { text = h.1.text; gives = λ told read. less told nodes h.1.text (h.1.gives told read); wrote = h.1.wrote })
ends_weaker texts others less nodes left out out' outcome.Write h = (h.0, record { text = h.1.text; begins = λ told read. less told nodes h.1.text (h.1.begins told read); wrote = h.1.wrote })
ends_weaker texts others less nodes left out out' outcome.OutOfMemory (inl keeps) = inl keeps
ends_weaker texts others less nodes left out out' outcome.OutOfMemory (inr h) = inr (record { text = h.text; begins = λ told read. less told nodes h.text (h.begins told read); wrote = h.wrote })
ends_weaker texts others less nodes left out out' outcome.Usage h = absurd h
ends_weaker texts others less nodes left out out' (outcome.Events said) h = absurd h
ends_weaker texts others less nodes left out out' (outcome.BadPlan kind node) h = absurd h
ends_weaker texts others less nodes left out out' (outcome.Unsaved node) h = absurd h
ends_weaker texts others less nodes left out out' (outcome.BadCheckpoint line) h = absurd h
ends_weaker texts others less nodes left out out' outcome.Read h = absurd h

-- what came in rounds is what `serial` gives, and so what `run` and `pool` may give
pub ends_in_turns : (job : Job) → ReadsSources job → job ≢ Stream → job ≢ Audit → (nodes : List PlanNode) (left : ByLine) (out out' : SinkSeen) (o : Outcome) → EndsWith (AnswersInTurns false) (AnswersInTurns false) nodes left out out' o → EndsSources job nodes left out out' o
ends_in_turns Serial reads other unasked nodes left out out' o h = h
ends_in_turns Run reads other unasked nodes left out out' o h = ends_weaker (AnswersInTurns false) (AnswersQuery false) (λ told nodes text answers. answers.query) nodes left out out' o h
ends_in_turns (Pool n) reads other unasked nodes left out out' o h = ends_weaker (AnswersInTurns false) (AnswersQuery false) (λ told nodes text answers. answers.query) nodes left out out' o h
ends_in_turns (Parts n) reads other unasked nodes left out out' o h = ends_weaker (AnswersInTurns false) (GivesPlan (Parts n)) (λ told nodes text answers. inr answers.query) nodes left out out' o h
ends_in_turns Audit reads other unasked nodes left out out' o h = absurd (unasked refl)
ends_in_turns Stream reads other unasked nodes left out out' o h = absurd (other refl)
ends_in_turns History reads other unasked nodes left out out' o h = absurd reads
ends_in_turns Check reads other unasked nodes left out out' o h = absurd reads
ends_in_turns Live reads other unasked nodes left out out' o h = absurd reads
ends_in_turns (Make n) reads other unasked nodes left out out' o h = absurd reads
ends_in_turns Save reads other unasked nodes left out out' o h = absurd reads
ends_in_turns Resume reads other unasked nodes left out out' o h = absurd reads
ends_in_turns Follow reads other unasked nodes left out out' o h = absurd reads
ends_in_turns FollowFrom reads other unasked nodes left out out' o h = absurd reads

-- they were, and what the command gives of them was written, or was begun
pub plan_given : (job : Job) (nodes : List PlanNode) (left : ByLine) (files files' : FilesSeen) (out out' : SinkSeen) (o : Outcome) → ((told : List ℕ → List ℕ) → AreTold files.content told (source_files nodes) → AreReadByLine told nodes left []) → files'.faults ≡ files.faults
    → EndsSources job nodes left out out' o → EndsPlan job nodes files files' out out' o
plan_given job nodes left files files' out out' outcome.Done read same h = (record { files_count = same; out_count = h.0 }, record { text = h.1.text; gives = λ told is. h.1.gives told (read told is); wrote = h.1.wrote })
plan_given job nodes left files files' out out' outcome.Write read same h = (h.0, record { text = h.1.text; begins = λ told is. h.1.begins told (read told is); wrote = h.1.wrote })
plan_given job nodes left files files' out out' outcome.OutOfMemory read same (inl keeps) = inl keeps
plan_given job nodes left files files' out out' outcome.OutOfMemory read same (inr h) = inr (record { text = h.text; begins = λ told is. h.begins told (read told is); wrote = h.wrote })
plan_given job nodes left files files' out out' outcome.Usage read same h = absurd h
plan_given job nodes left files files' out out' (outcome.Events said) read same h = absurd h
plan_given job nodes left files files' out out' (outcome.BadPlan kind node) read same h = absurd h
plan_given job nodes left files files' out out' (outcome.Unsaved node) read same h = absurd h
plan_given job nodes left files files' out out' (outcome.BadCheckpoint line) read same h = absurd h
plan_given job nodes left files files' out out' outcome.Read read same h = absurd h

-- what holds of an opened plan where it is known what the files of its sources hold
of_opened : (job : Job) (files now : FilesSeen) (file checkpoint script : List ℕ) (nodes : List PlanNode) → ReadsSources job → IsOpened files file nodes → ((name : List ℕ) → now.content name ≡ files.content name)
    → (told : List ℕ → List ℕ) (holds : List PlanNode → Type 0) → AreTold files.content told (named_files (record { job = job; file = file; checkpoint = checkpoint; script = script })) → (AreTold now.content told (source_files nodes) → holds nodes) → OfPlan files.content told file holds
of_opened job files now file checkpoint script nodes reads opened contents told holds named all = record {
  nodes = nodes;
  plan = opened_told files file nodes opened told (named_one job files.content told file checkpoint script reads named);
  holding = λ known. all (told_same files.content now.content told (source_files nodes) contents known);
}

-- a command whose plan was opened ends as it does behind that
pub plan_ended : (job : Job) → ReadsSources job → (files now files' : FilesSeen) (file checkpoint script : List ℕ) (nodes : List PlanNode) → IsOpened files file nodes → now.faults ≡ files.faults → ((name : List ℕ) → now.content name ≡ files.content name)
    → (out out' : SinkSeen) (o : Outcome) → EndsPlan job nodes now files' out out' o → CommandEnds (record { job = job; file = file; checkpoint = checkpoint; script = script }) files files' out out' o
plan_ended job reads files now files' file checkpoint script nodes opened same contents out out' outcome.Done h = (
  record { files_count = h.0.files_count ∙ same; out_count = h.0.out_count },
  λ told is. (h.1.text, gives_of job files.content told file checkpoint script h.1.text reads (of_opened job files now file checkpoint script nodes reads opened contents told (λ (ns : List PlanNode). GivesPlan job told ns h.1.text) is (h.1.gives told)), h.1.wrote),
)
plan_ended job reads files now files' file checkpoint script nodes opened same contents out out' (outcome.Events said) h = (
  record { files_count = h.0.files_count ∙ same; out_count = h.0.out_count },
  (λ live stream resume. h.1),
  λ told is. ([], refuses_of job files.content told file checkpoint script said.items reads (of_opened job files now file checkpoint script nodes reads opened contents told (λ (ns : List PlanNode). RefusesSources told ns said.items) is (h.2 told)), appends_nothing out.written out'.written h.1),
)
plan_ended job reads files now files' file checkpoint script nodes opened same contents out out' outcome.Read h = (omega (arith, same, h.0), h.1, inl h.2)
plan_ended job reads files now files' file checkpoint script nodes opened same contents out out' outcome.Write h = (
  h.0,
  λ told is. (h.1.text, begins_of job files.content told file checkpoint script h.1.text reads (of_opened job files now file checkpoint script nodes reads opened contents told (λ (ns : List PlanNode). BeginsPlan job told ns h.1.text) is (h.1.begins told)), h.1.wrote),
)
plan_ended job reads files now files' file checkpoint script nodes opened same contents out out' outcome.OutOfMemory (inl keeps) = inl keeps
plan_ended job reads files now files' file checkpoint script nodes opened same contents out out' outcome.OutOfMemory (inr h) =
    inr (λ told is. (h.text, begins_of job files.content told file checkpoint script h.text reads (of_opened job files now file checkpoint script nodes reads opened contents told (λ (ns : List PlanNode). BeginsPlan job told ns h.text) is (h.begins told)), h.wrote))
plan_ended job reads files now files' file checkpoint script nodes opened same contents out out' outcome.Usage h = absurd h
plan_ended job reads files now files' file checkpoint script nodes opened same contents out out' (outcome.BadPlan kind node) h = absurd h
plan_ended job reads files now files' file checkpoint script nodes opened same contents out out' (outcome.Unsaved node) h = absurd h
plan_ended job reads files now files' file checkpoint script nodes opened same contents out out' (outcome.BadCheckpoint line) h = absurd h

-- ---- what err gains where memory ran out

-- the words for that, tried in whatever way
pub words_tried : {A E : Type 0} (r : Result A E) (old new : Option (List ℕ)) (text : List ℕ) → OnOk r (Appends old new text) → OnErr r (AppendsFront old new text) → AppendsFront old new text
words_tried (Ok done) old new text ok err = front_all old new text ok
words_tried (Err fault) old new text ok err = err

-- ---- a count rose

-- a count that rose is greater, where it wasn't at its last value
pub rose_above : (old new : ℕ) → Rose old new → old < last_count → old < new
rose_above old new rose below = let more = rose.more in search (rules, tests)

-- ---- the call

-- a call ends as the command that its words name, where status and err are those of how that went
pub ends_command : (command : Option Command) (named : Command) (files files' : FilesSeen) (out out' err err' : SinkSeen) (o : Outcome) (s : Status) → Some named ≡ command
    → CommandEnds named files files' out out' o → AsksOnly named files files' → ((name : List ℕ) → files'.content name ≡ files.content name)
    → (s ≡ status_of o) ⊎ (s ≡ status.OutOfMemory) → (s ≢ status.OutOfMemory → SinkGains err err' (outcome_text o)) → (s ≡ status.OutOfMemory → TellsLack err err' (outcome_text o))
    → Ends command files files' out out' err err' s
ends_command command named files files' out out' err err' o s is ends asked contents at told lacking =
    subst (λ (c : Option Command). Ends c files files' out out' err err' s) is (record { went = o; came = (ends, asked); answered = at; reported = told; lacking = lacking; contents = contents })

-- a call whose words match no command ends with the usage, or for want of memory; files and out stay
pub ends_no_command : (command : Option Command) (files : FilesSeen) (out err err' : SinkSeen) (s : Status) → None ≡ command
    → (s ≡ status.Usage) ⊎ (s ≡ status.OutOfMemory) → (s ≢ status.OutOfMemory → SinkGains err err' (outcome_text outcome.Usage)) → (s ≡ status.OutOfMemory → TellsLack err err' (outcome_text outcome.Usage))
    → Ends command files files out out err err' s
ends_no_command command files out err err' s is at told lacking =
    subst (λ (c : Option Command). Ends c files files out out err err' s) is (record { went = outcome.Usage; came = (inl refl, refl, refl); answered = at; reported = told; lacking = lacking; contents = λ name. refl })

-- How a run on threads ends, by what is reported of it.
use Rattle.std.proofs.Common.{◌≡◌, ◌≢◌, ℕ, zero, suc, ◌+◌, ◌<◌, ◌≤◌, inl, inr, List, [], ◌∷◌, ◌++◌, Bool, true, false, length, map, get_or, refl, ap, sym, ◌∙◌, subst, arith}
use Rattle.std.specs.Prelude.{Option, None, Some, ◌||◌, cond, if◌then◌else◌}
use Rattle.std.specs.Io.KnownBytes.{Keeps}
use Rattle.std.specs.List.{list_any}
use Rattle.std.proofs.lemmas.List.Elements.{All-tail}
use Rattle.plan_answer.specs.Finds.{count_with}
use Rattle.plan_workers.specs.Tellings.{AreEnded, refusal_in, node_faults, source_left_in, source_lists}
use Rattle.plan_workers.proofs.EndLemmas.{all_given, all_judged, all_read, ended_kept, ended_rose, same_sources, so_went}
use Rattle.cedr_base.specs.declared.change.Change.{Change}
use Rattle.cedr_base.specs.declared.change.Message.{Message}
use Rattle.cedr_base.specs.declared.row.Row.{Row}
use Rattle.cedr_base.specs.Messages.{IsTableOf}
use Rattle.cedr_base.specs.Rows.{in_order}
use Rattle.plan_answer.specs.declared.forgotten.PortForgotten.{PortForgotten}
use Rattle.plan_answer.specs.Forgettings.{port_forgot}
use Rattle.plan_workers.specs.Stopping.{is_short, is_unread, stop_in}
use Rattle.plan_workers.specs.Wents.{HaveClosed, SourceWent}
use Rattle.cedr_edge.specs.Ends.{Carried}
use Rattle.cedr_guard.specs.Sources.{messages_of}
use Rattle.cedr_io.specs.Counts.{last_count}
use Rattle.node_laws.specs.declared.forgotten.Forgotten.{Forgotten}
use Rattle.node_laws.specs.Lists.{AreTables, Lists, list_at}
use Rattle.cedr_plan.specs.declared.plan.Plan.{Plan}
use Rattle.cedr_plan.specs.declared.plan.PlanNode.{PlanNode}
use Rattle.cedr_plan.specs.Rules.{ArePlanned, IsPlan}
use Rattle.cedr_plan.specs.Places.{is_source, output_place, source_count}
use Rattle.cedr_plan.proofs.PlaceLemmas.{nodes_planned, place_within, sources_behind}
use Rattle.plan_runs.specs.Runs.{AllWhole, IsRun, IsWhole, sources_in}
use Rattle.plan_runs.specs.Without.{forgot_in}
use Rattle.plan_runs.proofs.Closed.{closed_table, closed_whole, forgot_length}
use Rattle.plan_answer.proofs.ChangesLemmas.{rows_remembered}
use Rattle.plan_answer.specs.Answers.{answer_text, has_memory}
use Rattle.plan_answer.specs.Queries.{AreAcceptedSources, LeadsTo, changes_text, rows_without, source_nodes}
use Rattle.plan_answer.specs.declared.faulty.FaultySource.{FaultySource}
use Rattle.plan_answer.specs.Sources.{AreRead, AreTold, faulty_from, source_files}
use Rattle.node_laws.proofs.Order.{one_canonical}
use Rattle.cedr_table.specs.Operators.{Tables}
use Rattle.plan_report.specs.declared.report.Outcome.{Outcome as Came}
use Rattle.plan_report.specs.declared.report.Outcome.TheVariants as came
use Rattle.plan_report.specs.declared.report.Report.{Report}
use Rattle.plan_report.specs.Reports.{HasOutcome, IsDone}
use Rattle.plan_edges.specs.Wires.{carried, ports_of}
use Rattle.cedr_worker.specs.declared.ran.Ran.{Ran}
use Rattle.cedr_worker.specs.declared.source.SourceEnd.{SourceEnd}
use Rattle.cedr_worker.specs.declared.stop.SourceStop.{SourceStop}
use Rattle.cedr_worker.specs.declared.stop.SourceStop.TheVariants as stop
use Rattle.cedr_worker.specs.Stops.{StoppedAs, meant}
use Rattle.cedr_commands.specs.declared.command.Job.{Job}
use Rattle.cedr_commands.specs.declared.command.Job.TheVariants.{Stream}
use Rattle.cedr_commands.specs.declared.outcome.Outcome.{Outcome}
use Rattle.cedr_commands.specs.declared.outcome.Outcome.TheVariants as outcome
use Rattle.cedr_commands.specs.Answers.{Contents, RefusesSources}
use Rattle.cedr_run.specs.Answers.{AnswersRun, AnswersStream}
use Rattle.cedr_commands.specs.Seen.{FilesSeen, SinkSeen}
use Rattle.cedr_commands.specs.Steps.{Says, WritesText, faulty_text}
use Rattle.cedr_run.specs.Threads.{CanTell, CanTellTail, IsReported, IsSilentBy, IsThreaded, RunEnds, EndsRun, WritesRun, tail_of}
use Rattle.cedr_commands.proofs.EndingLemmas.{AcceptedLeft, kept_itself}
use Rattle.cedr_run.proofs.FaultLemmas.{any_stop}
use Rattle.cedr_run.proofs.PlanLemmas.{answers_at_end}
use Rattle.cedr_commands.proofs.SayingLemmas.{named_faults}
use Rattle.plan_answer.proofs.FindLemmas.{count_more}
use Rattle.node_laws.proofs.Passes.{one_table}

-- where none is faulty the sources of a plan are accepted
abbrev pub Accepts : Type 0
Accepts = (told : List ℕ → List ℕ) (nodes : List PlanNode) (left : Lists) → AreRead told nodes left [] → AcceptedLeft told nodes left

-- the changes of an output lead to the rows of the answer
abbrev pub Leads : Type 0
Leads = (nodes : List PlanNode) (sources : Lists) (histories : Tables) (ports : List Lists) (given : Lists) → ArePlanned nodes → IsRun nodes sources ports given → AllWhole (source_count nodes) sources → AreTables sources histories → LeadsTo nodes histories ports given

-- ---- sources that closed are whole

-- the list of one node more, which is a source or not
whole_more : (b : Bool) (l : List Message) (lists : Lists) (count more : ℕ) → more ≡ cond b 1 0 + count → (b ≡ true → IsWhole l) → AllWhole count lists → AllWhole more (cond b (l ∷ lists) lists)
whole_more true l lists count more is one all zero within = one refl
whole_more true l lists count more is one all (suc k) within = all k (omega (arith, is, within))
whole_more false l lists count more is one all k within = all k (omega (arith, is, within))

-- where the list of each source is whole, all are
whole_each : (nodes : List PlanNode) (given : Lists) → ((before after : List PlanNode) (n : PlanNode) → nodes ≡ before ++ n ∷ after → is_source n.kind ≡ true → IsWhole (list_at given (length before))) → AllWhole (source_count nodes) (sources_in nodes given)
whole_each [] given each = λ k within. absurd (omega (arith, within))
whole_each (n ∷ nodes) [] each =
    whole_more (is_source n.kind) [] (sources_in nodes []) (source_count nodes) (source_count (n ∷ nodes)) (count_more n nodes) (each [] nodes n refl)
    (whole_each nodes [] (λ before after m whole. each (n ∷ before) after m (ap (λ (ns : List PlanNode). n ∷ ns) whole)))
whole_each (n ∷ nodes) (g ∷ given) each =
    whole_more (is_source n.kind) g (sources_in nodes given) (source_count nodes) (source_count (n ∷ nodes)) (count_more n nodes) (each [] nodes n refl)
    (whole_each nodes given (λ before after m whole. each (n ∷ before) after m (ap (λ (ns : List PlanNode). n ∷ ns) whole)))

-- a source that closed gave a whole list
closed_source : {S : Type 0} (rest : S → Option (List ℕ)) (faults : S → ℕ) → Accepts → (n : PlanNode) (s : S) (e : SourceEnd S) (given : List Message) → is_source n.kind ≡ true → SourceWent rest faults n s e given → e.stop ≡ stop.Closed → IsWhole given
closed_source rest faults accepts n s e given is went closed =
    let ends = went.ends in
    let stopped = subst (λ (s : SourceStop). StoppedAs s went.shape ends.bytes ends.given ends.ended) closed ends.stopped in
    let all : given ≡ messages_of went.shape ends.bytes = went.given_is ∙ (ap (λ (s : SourceStop). meant ends.given (Some s)) closed ∙ stopped.all) in
    let read : AreRead (λ name. ends.bytes) (n ∷ []) (given ∷ []) [] = record {
      faults = None ∷ [];
      given = (record { source = λ really. (went.shape, went.types, stopped.faultless, λ none. all); other = λ isnt. absurd (cc (is, isnt)) }, tt);
      faulty_are = refl;
    } in
    let whole = (accepts (λ name. ends.bytes) (n ∷ []) (given ∷ []) read).2 in
    let one : cond {A = ℕ} (is_source n.kind) 1 0 ≡ 1 = ap {B = ℕ} (λ (b : Bool). cond {A = ℕ} b 1 0) is in
    let first : list_at (sources_in (n ∷ []) (given ∷ [])) 0 ≡ given = ap (λ (b : Bool). list_at (if b then given ∷ [] else []) 0) is in
    subst IsWhole first (whole 0 (omega (arith, one, count_more n [])))

-- the same of all sources
pub closed_sources : {S : Type 0} (rest : S → Option (List ℕ)) (faults : S → ℕ) → Accepts → (nodes : List PlanNode) (sources : List S) (given : Lists) (ends : List (SourceEnd S)) → AreEnded rest faults nodes sources given ends → HaveClosed ends → AllWhole (source_count nodes) (sources_in nodes given)
closed_sources rest faults accepts nodes sources given [] ended closed =
    whole_each nodes given (λ before after n whole is. absurd (omega (arith, ended.ends_count, sources_behind nodes before after n whole is)))
closed_sources rest faults accepts nodes sources given (d ∷ ends) ended closed =
    whole_each nodes given (λ before after n whole is.
    let within = sources_behind nodes before after n whole is in
    closed_source rest faults accepts n (get_or sources (source_count before) d.source) (get_or (d ∷ ends) (source_count before) d) (list_at given (length before)) is (ended.went before after n whole is d.source d)
    (closed (source_count before) d (omega (arith, ended.ends_count, within))))

-- none of them was refused a read
closed_unread : {S : Type 0} (ends : List (SourceEnd S)) → HaveClosed ends → list_any is_unread (map stop_in ends) ≡ false
closed_unread [] closed = refl
closed_unread {S = S} (e ∷ ends) closed =
    let here : e.stop ≡ stop.Closed = closed 0 e (omega arith) in
    ap (λ (s : SourceStop). is_unread s || list_any is_unread (map stop_in ends)) here ∙ closed_unread ends (All-tail (λ (e : SourceEnd S). e.stop ≡ stop.Closed) e ends closed)

-- ---- what ports forgot

-- ---- what is handed on

-- what can be written of nodes, changes and ports can be written of them as they are handed on
pub can_tell_as : (nodes seen_nodes : List PlanNode) (changes seen_changes : List Change) (forgotten seen : List PortForgotten) (given : List Message) (listed : List (List (List Forgotten))) → seen_nodes ≡ nodes → seen_changes ≡ changes → seen ≡ forgotten
    → CanTell nodes changes forgotten given listed → CanTell seen_nodes seen_changes seen given listed
can_tell_as nodes seen_nodes changes seen_changes forgotten seen given listed nodes_are changes_are seen_are can = record {
  legal = can.legal;
  changes_are = changes_are ∙ can.changes_are;
  forgotten_are = ap (map port_forgot) seen_are ∙ can.forgotten_are;
  count = can.count ∙ sym (ap (λ (ns : List PlanNode). length ns) nodes_are);
}

-- and what was written of them as they are handed on was written of them
pub tells_as : (how : Came) (nodes seen_nodes : List PlanNode) (changes seen_changes : List Change) (forgotten seen : List PortForgotten) (out out' : SinkSeen) (o : Outcome) → seen_nodes ≡ nodes → seen_changes ≡ changes → seen ≡ forgotten
    → EndsRun how seen_nodes seen_changes seen out out' o → EndsRun how nodes changes forgotten out out' o
tells_as how nodes seen_nodes changes seen_changes forgotten seen out out' o nodes_are changes_are seen_are tells =
    subst (λ (ns : List PlanNode). EndsRun how ns changes forgotten out out' o) nodes_are
    (subst (λ (cs : List Change). EndsRun how seen_nodes cs forgotten out out' o) changes_are (subst (λ (ps : List PortForgotten). EndsRun how seen_nodes seen_changes ps out out' o) seen_are tells))

-- ---- how a run ends

-- a text was written, or a front of it
pub wrote_ends : (job : Job) → IsThreaded job → job ≢ Stream → (nodes : List PlanNode) (files files' : FilesSeen) (out out' : SinkSeen) (edges : List Carried) (ran : List Ran) (text : List ℕ) (o : Outcome) → files'.faults ≡ files.faults → ((told : List ℕ → List ℕ) → AreTold files.content told (source_files nodes) → AnswersRun told nodes edges ran text) → WritesText o out out' text → RunEnds job nodes files files' out out' edges ran o
wrote_ends job threaded at_end nodes files files' out out' edges ran text outcome.Done same answers h = (record { files_count = same; out_count = h.0 }, record { text = text; answers = λ told known. (answers_at_end job threaded at_end told nodes edges ran text (answers told known)).0; wrote = h.1 })
wrote_ends job threaded at_end nodes files files' out out' edges ran text outcome.Write same answers h = (h.0, record { text = text; begins = λ told known. (answers_at_end job threaded at_end told nodes edges ran text (answers told known)).1; wrote = h.1 })
wrote_ends job threaded at_end nodes files files' out out' edges ran text outcome.OutOfMemory same answers h = inr (record { text = text; begins = λ told known. (answers_at_end job threaded at_end told nodes edges ran text (answers told known)).1; wrote = h })
wrote_ends job threaded at_end nodes files files' out out' edges ran text outcome.Usage same answers h = absurd h
wrote_ends job threaded at_end nodes files files' out out' edges ran text (outcome.Events said) same answers h = absurd h
wrote_ends job threaded at_end nodes files files' out out' edges ran text (outcome.BadPlan kind node) same answers h = absurd h
wrote_ends job threaded at_end nodes files files' out out' edges ran text (outcome.Unsaved node) same answers h = absurd h
wrote_ends job threaded at_end nodes files files' out out' edges ran text (outcome.BadCheckpoint line) same answers h = absurd h
wrote_ends job threaded at_end nodes files files' out out' edges ran text outcome.Read same answers h = absurd h

-- a sink that is the same gained nothing
pub kept_same : (out out' : SinkSeen) → out' ≡ out → Keeps out.written out'.written
kept_same out out' same = subst (λ (o : SinkSeen). Keeps out.written o.written) (sym same) (kept_itself out.written)

module _ (job : Job) (nodes : List PlanNode) (files files' : FilesSeen) (out out' : SinkSeen) (edges : List Carried) (ran : List Ran) where
  -- memory ran out
  pub lacking_ends : (o : Outcome) → o ≡ outcome.OutOfMemory → RunEnds job nodes files files' out out' edges ran outcome.OutOfMemory → RunEnds job nodes files files' out out' edges ran o
  lacking_ends o lacks ends = subst (λ (o : Outcome). RunEnds job nodes files files' out out' edges ran o) (sym lacks) ends

  -- a find or a read was refused
  pub read_ends : (o : Outcome) → o ≡ outcome.Read → files.faults < files'.faults → out'.faults ≡ out.faults → IsSilentBy job files.content nodes out out' → RunEnds job nodes files files' out out' edges ran o
  read_ends o refused rose same silent = subst (λ (o : Outcome). RunEnds job nodes files files' out out' edges ran o) (sym refused) (rose, same, silent)

  -- some source isn't accepted
  pub said_ends : (text : List ℕ) (o : Outcome) → files'.faults ≡ files.faults → out'.faults ≡ out.faults → IsSilentBy job files.content nodes out out' → RunEnds job nodes files files' out out' edges ran outcome.OutOfMemory
      → ((said : List ℕ) → said ≡ text → (told : List ℕ → List ℕ) → AreTold files.content told (source_files nodes) → RefusesSources told nodes said) → Says o text → RunEnds job nodes files files' out out' edges ran o
  said_ends text (outcome.Events said) counted same silent lacks refuses h = (record { files_count = counted; out_count = same }, silent, refuses said.items h)
  said_ends text outcome.OutOfMemory counted same silent lacks refuses h = lacks
  said_ends text outcome.Done counted same silent lacks refuses h = absurd h
  said_ends text outcome.Usage counted same silent lacks refuses h = absurd h
  said_ends text (outcome.BadPlan kind node) counted same silent lacks refuses h = absurd h
  said_ends text (outcome.Unsaved node) counted same silent lacks refuses h = absurd h
  said_ends text (outcome.BadCheckpoint line) counted same silent lacks refuses h = absurd h
  said_ends text outcome.Read counted same silent lacks refuses h = absurd h
  said_ends text outcome.Write counted same silent lacks refuses h = absurd h

-- ---- one report

module _ {S : Type 0} (rest : S → Option (List ℕ)) (faults : S → ℕ) (accepts : Accepts) (plan : Plan) (is : IsPlan plan) (content : Contents) (report : Report S) (reported : IsReported rest faults content plan.nodes.items report) where
  abbrev nodes : List PlanNode
  nodes = plan.nodes.items

  abbrev ports : List Lists
  ports = ports_of nodes (carried report.edges.items)

  abbrev given : Lists
  given = reported.reported.given

  abbrev ends : List (SourceEnd S)
  ends = report.sources.items

  -- how its sources ended
  ended : AreEnded rest faults nodes reported.sources given ends
  ended = record { sources_count = reported.count; ends_count = reported.reported.count; fresh = reported.fresh; went = reported.reported.went.source }

  -- ---- a run that is done

  module _ (done : report.outcome ≡ came.Done) where
    abbrev is_done : IsDone nodes given report
    is_done = reported.reported.done done

    whole : AllWhole (source_count nodes) (sources_in nodes given)
    whole = closed_sources rest faults accepts nodes reported.sources given ends ended is_done.closed

    -- its text can be written
    pub can_tell : CanTell nodes report.changes.items report.forgotten.items (list_at given (output_place nodes)) (forgot_in nodes ports)
    can_tell = record {
      legal = (closed_whole nodes (sources_in nodes given) ports given is.nodes is_done.run whole (output_place nodes) (place_within plan is)).legal;
      changes_are = is_done.changes;
      forgotten_are = is_done.forgotten;
      count = forgot_length nodes ports;
    }

    -- the sources are accepted, and their lists have these tables
    accepted_so : (told : List ℕ → List ℕ) → AreTold content told (source_files nodes) → (histories : Tables) × AreAcceptedSources told (source_nodes nodes) (sources_in nodes given) histories × AreTables (sources_in nodes given) histories
    accepted_so told known =
        let read = all_read rest faults content told nodes reported.sources given ends (reported.count, reported.reported.count) (so_went rest faults nodes reported.sources given ends ended) reported.found known is_done.closed in
        let got = accepts told nodes (source_lists nodes given) read in
        let same = same_sources nodes given in
        (got.0, subst (λ (ls : Lists). AreAcceptedSources told (source_nodes nodes) ls got.0) same got.1, subst (λ (ls : Lists). AreTables ls got.0) same got.3)

    -- and the text is that of the run
    pub answers_so : (rows : List Row) → IsTableOf (list_at given (output_place nodes)) rows → (told : List ℕ → List ℕ) → AreTold content told (source_files nodes) → AnswersRun told nodes report.edges.items report.ran.items (answer_text (has_memory nodes) nodes (in_order rows) (forgot_in nodes ports))
    answers_so rows table told known =
        let got = accepted_so told known in
        let closed = closed_table nodes (sources_in nodes given) got.0 ports given is.nodes is_done.run whole got.2 (output_place nodes) (place_within plan is) in
        record {
          sources = sources_in nodes given;
          histories = got.0;
          accepted = got.1;
          given = given;
          count = reported.reported.edges;
          run = is_done.run;
          remembers = rows_remembered nodes (sources_in nodes given) got.0 ports given is.nodes is_done.run whole;
          text_is = ap (λ (ordered : List Row). answer_text (has_memory nodes) nodes ordered (forgot_in nodes ports)) (one_canonical rows (rows_without nodes ports got.0) (one_table (list_at given (output_place nodes)) rows (rows_without nodes ports got.0) table closed));
          ran_is = reported.reported.ran;
        }

    -- what was forgotten can be listed
    pub can_tell_tail : CanTellTail nodes report.forgotten.items (forgot_in nodes ports)
    can_tell_tail = record { forgotten_are = is_done.forgotten; count = forgot_length nodes ports }

    -- and its changes are those of the run
    pub streams_so : Leads → (told : List ℕ → List ℕ) → AreTold content told (source_files nodes) → AnswersStream told nodes report.edges.items report.ran.items (changes_text report.changes.items ++ tail_of nodes (forgot_in nodes ports))
    streams_so leads told known =
        let got = accepted_so told known in
        record {
          sources = sources_in nodes given;
          histories = got.0;
          accepted = got.1;
          given = given;
          count = reported.reported.edges;
          run = is_done.run;
          text_is = ap (λ (cs : List Change). changes_text cs ++ tail_of nodes (forgot_in nodes ports)) is_done.changes;
          leads = leads nodes (sources_in nodes given) got.0 ports given (nodes_planned plan is) is_done.run whole got.2;
          ran_is = reported.reported.ran;
        }

    -- none of its sources was refused a read
    pub none_rose : (count : ℕ) → count ≤ last_count → count_with faults count (map source_left_in ends) ≡ count
    none_rose count few = ended_kept rest faults nodes reported.sources given ends count ended (closed_unread ends is_done.closed) few

  -- ---- a run with a refused read

  pub some_rose : list_any (λ (e : SourceEnd S). is_unread e.stop) ends ≡ true → (count : ℕ) → count < last_count → count < count_with faults count (map source_left_in ends)
  some_rose unread count few = ended_rose rest faults nodes reported.sources given ends count ended (sym (any_stop is_unread ends) ∙ unread) few

  -- ---- a run with faulty sources

  module _ (read : list_any (λ (e : SourceEnd S). is_unread e.stop) ends ≡ false) where
    pub faulty_kept : (count : ℕ) → count ≤ last_count → count_with faults count (map source_left_in ends) ≡ count
    faulty_kept count few = ended_kept rest faults nodes reported.sources given ends count ended (sym (any_stop is_unread ends) ∙ read) few

    -- all of them are reported
    pub refuses_so : list_any (λ (e : SourceEnd S). is_short e.stop) ends ≡ false → (listed : List FaultySource) → listed ≡ faulty_from 0 (node_faults nodes (map refusal_in ends)) → 0 < length listed → (said : List ℕ) → said ≡ faulty_text nodes listed
        → (told : List ℕ → List ℕ) → AreTold content told (source_files nodes) → RefusesSources told nodes said
    refuses_so found listed listed_are some said said_is told known =
        let judged = all_judged rest faults ends (sym (any_stop is_short ends) ∙ found) (sym (any_stop is_unread ends) ∙ read) in
        let gave = all_given rest faults content told nodes reported.sources given ends (reported.count, reported.reported.count) (so_went rest faults nodes reported.sources given ends ended) reported.found known judged in
        record {
          left = source_lists nodes given;
          faults = node_faults nodes (map refusal_in ends);
          given = gave;
          some = subst (λ (fs : List FaultySource). 0 < length fs) listed_are some;
          said_is = said_is ∙ (ap (faulty_text nodes) listed_are ∙ named_faults told nodes (source_lists nodes given) (node_faults nodes (map refusal_in ends)) gave);
        }

module _ {S : Type 0} (rest : S → Option (List ℕ)) (faults : S → ℕ) (job : Job) (threaded : IsThreaded job) (at_end : job ≢ Stream) (accepts : Accepts) (plan : Plan) (is : IsPlan plan) (files files' : FilesSeen) (out out' : SinkSeen) (report : Report S) (reported : IsReported rest faults files.content plan.nodes.items report)
    (few : files.faults < last_count) (counted : files'.faults ≡ count_with faults files.faults (map source_left_in report.sources.items)) (o : Outcome) where
  abbrev Ends : Outcome → Type 0
  Ends o = RunEnds job plan.nodes.items files files' out out' report.edges.items report.ran.items o

  -- a run that is done ends with its text
  done_ends : report.outcome ≡ came.Done → WritesRun plan.nodes.items (list_at reported.reported.given (output_place plan.nodes.items)) (forgot_in plan.nodes.items (ports_of plan.nodes.items (carried report.edges.items))) out out' o → Ends o
  done_ends done (inl lacks) = lacking_ends job plan.nodes.items files files' out out' report.edges.items report.ran.items o lacks.0 (inl (kept_same out out' lacks.1))
  done_ends done (inr wrote) =
      wrote_ends job threaded at_end plan.nodes.items files files' out out' report.edges.items report.ran.items _ o (counted ∙ none_rose rest faults accepts plan is files.content report reported done files.faults (omega (arith, few)))
      (answers_so rest faults accepts plan is files.content report reported done wrote.0 wrote.1.0) wrote.1.1

  ends_as : (how : Came) → report.outcome ≡ how → (short : Bool) → HasOutcome plan.nodes.items report.sources.items short how → EndsRun how plan.nodes.items report.changes.items report.forgotten.items out out' o → Ends o
  ends_as came.Done is_how short so tells = done_ends is_how (tells (list_at reported.reported.given (output_place plan.nodes.items)) (forgot_in plan.nodes.items (ports_of plan.nodes.items (carried report.edges.items))) (can_tell rest faults accepts plan is files.content report reported is_how))
  ends_as came.Memory is_how short so tells = lacking_ends job plan.nodes.items files files' out out' report.edges.items report.ran.items o tells.0 (inl (kept_same out out' tells.1))
  ends_as came.Read is_how short so tells =
      read_ends job plan.nodes.items files files' out out' report.edges.items report.ran.items o tells.0 (subst (λ (n : ℕ). files.faults < n) (sym counted) (some_rose rest faults accepts plan is files.content report reported so.2 files.faults few)) (ap (λ (o : SinkSeen). o.faults) tells.1) (inl (kept_same out out' tells.1))
  ends_as (came.Events listed) is_how short so tells =
      said_ends job plan.nodes.items files files' out out' report.edges.items report.ran.items (faulty_text plan.nodes.items listed.items) o (counted ∙ faulty_kept rest faults accepts plan is files.content report reported so.2 files.faults (omega (arith, few)))
      (ap (λ (o : SinkSeen). o.faults) tells.1) (inl (kept_same out out' tells.1)) (inl (kept_same out out' tells.1)) (refuses_so rest faults accepts plan is files.content report reported so.2 so.1 listed.items so.3 so.4) tells.0

  -- a run ends by what is written or said of it
  pub run_ends : EndsRun report.outcome plan.nodes.items report.changes.items report.forgotten.items out out' o → Ends o
  run_ends tells = ends_as report.outcome refl reported.reported.short reported.reported.came tells

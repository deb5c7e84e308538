-- How a stream ends, by what was written of it and by what is reported of its run.
use Rattle.std.specs.Io.KnownBytes.{Keeps}
use Rattle.std.proofs.Common.{◌≡◌, ℕ, ◌<◌, inl, inr, List, [], Bool, length, map, refl, ap, sym, ◌∙◌, subst, arith}
use Rattle.std.specs.Prelude.{Option}
use Rattle.std.proofs.KnownBytes.{Appends-trans}
use Rattle.std.specs.List.{All}
use Rattle.plan_answer.specs.Finds.{AreFound, count_with}
use Rattle.plan_workers.specs.Tellings.{source_left_in}
use Rattle.cedr_base.specs.declared.change.Change.{Change}
use Rattle.plan_answer.specs.declared.forgotten.PortForgotten.{PortForgotten}
use Rattle.cedr_io.specs.Asked.{AppendsFront}
use Rattle.cedr_io.specs.Counts.{last_count}
use Rattle.node_laws.specs.declared.forgotten.Forgotten.{Forgotten}
use Rattle.cedr_plan.specs.declared.plan.Plan.{Plan}
use Rattle.cedr_plan.specs.declared.plan.PlanNode.{PlanNode}
use Rattle.cedr_plan.specs.Rules.{IsPlan}
use Rattle.plan_runs.specs.Without.{forgot_in, Remembers}
use Rattle.plan_answer.specs.Queries.{changes_text, given_text, IsStrong}
use Rattle.cedr_plan.specs.Places.{source_count}
use Rattle.plan_answer.specs.Answers.{tail_text}
use Rattle.plan_answer.specs.Sources.{AreTold, source_files}
use Rattle.plan_report.specs.declared.report.Outcome.{Outcome as Came}
use Rattle.plan_report.specs.declared.report.Outcome.TheVariants as came
use Rattle.plan_report.specs.declared.report.Report.{Report}
use Rattle.plan_report.specs.Reports.{HasOutcome, IsReport}
use Rattle.plan_report.specs.SoFar.{IsSoFar}
use Rattle.plan_edges.specs.Wires.{carried, ports_of}
use Rattle.cedr_commands.specs.declared.outcome.Outcome.{Outcome}
use Rattle.cedr_commands.specs.declared.outcome.Outcome.TheVariants as outcome
use Rattle.cedr_run.specs.declared.progress.Progress.{Progress}
use Rattle.cedr_run.specs.declared.progress.Progress.TheVariants as progress
use Rattle.cedr_commands.specs.Answers.{Contents, StreamsSoFar}
use Rattle.cedr_commands.specs.Seen.{FilesSeen, SinkSeen}
use Rattle.cedr_run.specs.Strong.{WroteGood, WroteStrong}
use Rattle.cedr_commands.specs.Steps.{WritesText, faulty_text}
use Rattle.cedr_commands.specs.declared.command.Job.TheVariants.{Stream}
use Rattle.cedr_run.specs.Threads.{BeganRun, CanTellTail, IsSilentBy, IsStreamed, RunEnds, EndsStream, WritesTail, WroteList, tail_of}
use Rattle.cedr_run.proofs.BegunLemmas.{streams_so_far}
use Rattle.cedr_commands.proofs.EndingLemmas.{rose_above}
use Rattle.cedr_run.proofs.PlanLemmas.{stream_changes}
use Rattle.cedr_run.proofs.RunLemmas.{Accepts, Leads, can_tell_tail, faulty_kept, lacking_ends, none_rose, read_ends, refuses_so, said_ends, some_rose, streams_so}
use Rattle.cedr_run.proofs.StreamLemmas.{lines_longer, wrote_front}
use Rattle.plan_live.proofs.ShownLemmas.{front_along}
use Rattle.cedr_run.proofs.StrongLemmas.{Legal, Table, adds_in_order, front_kept, no_front_kept, no_tail, none_kept, wrote_good}

-- what was forgotten can be listed as it is handed on
pub can_tell_tail_as : (nodes seen_nodes : List PlanNode) (forgotten seen : List PortForgotten) (listed : List (List (List Forgotten))) → seen_nodes ≡ nodes → seen ≡ forgotten → CanTellTail nodes forgotten listed → CanTellTail seen_nodes seen listed
can_tell_tail_as nodes seen_nodes forgotten seen listed nodes_are seen_are can = subst (λ (ns : List PlanNode). CanTellTail ns seen listed) (sym nodes_are) (subst (λ (ps : List PortForgotten). CanTellTail nodes ps listed) (sym seen_are) can)

-- and what was written of it as it is handed on was written of it
pub tells_stream_as : (how : Came) (by : Progress) (nodes seen_nodes : List PlanNode) (forgotten seen : List PortForgotten) (out out' : SinkSeen) (o : Outcome) → seen_nodes ≡ nodes → seen ≡ forgotten → EndsStream how by seen_nodes seen out out' o → EndsStream how by nodes forgotten out out' o
tells_stream_as how by nodes seen_nodes forgotten seen out out' o nodes_are seen_are tells =
    subst (λ (ns : List PlanNode). EndsStream how by ns forgotten out out' o) nodes_are (subst (λ (ps : List PortForgotten). EndsStream how by seen_nodes ps out out' o) seen_are tells)

-- what is reported of a stream, and what its watcher stands for
pub streamed_so : {S : Type 0} (rest : S → Option (List ℕ)) (faults : S → ℕ) (content : Contents) (nodes : List PlanNode) (sources : List S) (report : Report S) (by : Progress) (start out : SinkSeen) (count : ℕ)
    → IsReport rest faults nodes sources report → length sources ≡ source_count nodes → All (λ (s : S). faults s ≡ 0) sources → AreFound rest content nodes sources
    → (list : List Change) × (((count ≡ length list) × WroteList by start out list) × IsSoFar rest faults nodes sources report.sources.items list)
    → (report.outcome ≡ came.Done → (count ≡ length report.changes.items) × WroteList by start out report.changes.items) → start.faults < last_count → IsStreamed rest faults content nodes report by start out
streamed_so rest faults content nodes sources report by start out count reported sources_count fresh found so_far whole counts = record {
  run = record { sources = sources; reported = reported; count = sources_count; fresh = fresh; found = found };
  list = so_far.0;
  so_far = so_far.1.1;
  wrote = so_far.1.0.1;
  whole = λ done. (whole done).1;
  counts = counts;
}

-- where all was written nothing was refused
pub whole_counts : {S : Type 0} (rest : S → Option (List ℕ)) (faults : S → ℕ) (content : Contents) (nodes : List PlanNode) (report : Report S) (by : Progress) (start out : SinkSeen) → IsStreamed rest faults content nodes report by start out → by ≡ progress.Whole → out.faults < last_count
whole_counts rest faults content nodes report by start out streamed whole =
    let wrote = subst (λ (b : Progress). WroteList b start out streamed.list) whole streamed.wrote in
    subst (λ (n : ℕ). n < last_count) (sym wrote.0) streamed.counts

module _ {S : Type 0} (rest : S → Option (List ℕ)) (faults : S → ℕ) (accepts : Accepts) (leads : Leads) (legal : Legal) (plan : Plan) (is : IsPlan plan) (files files' : FilesSeen) (start out out' : SinkSeen) (report : Report S) (by : Progress)
    (streamed : IsStreamed rest faults files.content plan.nodes.items report by start out) (few : files.faults < last_count) (counted : files'.faults ≡ count_with faults files.faults (map source_left_in report.sources.items)) (o : Outcome) where
  abbrev nodes : List PlanNode
  nodes = plan.nodes.items

  abbrev listed : List (List (List Forgotten))
  listed = forgot_in nodes (ports_of nodes (carried report.edges.items))

  abbrev Ends : Outcome → Type 0
  Ends o = RunEnds Stream nodes files files' start out' report.edges.items report.ran.items o

  -- ---- what was written by now

  abbrev begun_text : List ℕ
  begun_text = given_text nodes streamed.so_far.given

  begins : (told : List ℕ → List ℕ) → AreTold files.content told (source_files nodes) → StreamsSoFar told nodes begun_text
  begins told known = streams_so_far rest faults files.content told nodes streamed.run.sources report.sources.items streamed.list (adds_in_order legal plan is told) streamed.run.reported.count streamed.run.found known streamed.so_far

  -- is a front of the changes of a partial run
  front : AppendsFront start.written out.written begun_text
  front =
      let first = streamed.so_far.first in
      subst (λ (cs : List Change). AppendsFront start.written out.written (changes_text cs)) first.1 (lines_longer start.written out.written streamed.list first.0 (wrote_front by start out streamed.list streamed.wrote))

  module _ (same : out' ≡ out) where
    front_now : AppendsFront start.written out'.written begun_text
    front_now = subst (λ (s : SinkSeen). AppendsFront start.written s.written begun_text) (sym same) front

    began : BeganRun Stream files.content nodes report.edges.items report.ran.items start out'
    began = record { text = begun_text; begins = λ told known. inl (begins told known); wrote = front_now }

    silent : IsSilentBy Stream files.content nodes start out'
    silent = inr (refl, record { text = begun_text; begins = begins; wrote = front_now })

    lacked : o ≡ outcome.OutOfMemory → Ends o
    lacked lacks = lacking_ends Stream nodes files files' start out' report.edges.items report.ran.items o lacks (inr began)

    refused : start.faults < out.faults → o ≡ outcome.Write → Ends o
    refused rose is_write = subst (λ (o : Outcome). Ends o) (sym is_write) (subst (λ (s : SinkSeen). start.faults < s.faults) (sym same) rose, began)

  -- ---- all changes, and what was forgotten

  module _ (done : report.outcome ≡ came.Done) (whole : WroteList progress.Whole start out report.changes.items) where
    tail_ends : WritesText o out out' (tail_of nodes listed) → Ends o
    tail_ends = by_outcome o
      where
        none : files'.faults ≡ files.faults
        none = counted ∙ none_rose rest faults accepts plan is files.content report streamed.run done files.faults (omega (arith, few))

        by_outcome : (o : Outcome) → WritesText o out out' (tail_of nodes listed) → Ends o
        by_outcome outcome.Done h = (
          record { files_count = none; out_count = h.0 ∙ whole.0 },
          record { text = _; answers = streams_so rest faults accepts plan is files.content report streamed.run done leads; wrote = Appends-trans start.written out.written out'.written (changes_text report.changes.items) (tail_of nodes listed) whole.1 h.1 },
        )
        by_outcome outcome.Write h = (
          omega (arith, h.0, whole.0),
          record {
            text = _;
            begins = λ told known. inr (stream_changes told nodes report.edges.items report.ran.items _ (streams_so rest faults accepts plan is files.content report streamed.run done leads told known));
            wrote = front_along start.written out.written out'.written (changes_text report.changes.items) (tail_of nodes listed) whole.1 h.1;
          },
        )
        by_outcome outcome.OutOfMemory h = inr (record {
          text = _;
          begins = λ told known. inr (stream_changes told nodes report.edges.items report.ran.items _ (streams_so rest faults accepts plan is files.content report streamed.run done leads told known));
          wrote = front_along start.written out.written out'.written (changes_text report.changes.items) (tail_of nodes listed) whole.1 h;
        })
        by_outcome outcome.Usage h = absurd h
        by_outcome (outcome.Events said) h = absurd h
        by_outcome (outcome.BadPlan kind node) h = absurd h
        by_outcome (outcome.Unsaved node) h = absurd h
        by_outcome (outcome.BadCheckpoint line) h = absurd h
        by_outcome outcome.Read h = absurd h

    done_ends : WritesTail nodes listed out out' o → Ends o
    done_ends (inl lacks) = lacked lacks.1 lacks.0
    done_ends (inr wrote) = tail_ends wrote

  -- ---- however it came to its end

  above : WroteList progress.Refused start out streamed.list → start.faults < out.faults
  above wrote = rose_above start.faults out.faults wrote.0 streamed.counts

  ends_as : (how : Came) (so : Progress) → report.outcome ≡ how → by ≡ so → (short : Bool) → HasOutcome nodes report.sources.items short how → EndsStream how so nodes report.forgotten.items out out' o → Ends o
  ends_as how progress.Lacked is_how is_by short so_came tells = lacked tells.1 tells.0
  ends_as came.Done progress.Refused is_how is_by short so_came tells = refused tells.1 (above (subst (λ (b : Progress). WroteList b start out streamed.list) is_by streamed.wrote)) tells.0
  ends_as came.Memory progress.Refused is_how is_by short so_came tells = lacked tells.1 tells.0
  ends_as came.Read progress.Refused is_how is_by short so_came tells = refused tells.1 (above (subst (λ (b : Progress). WroteList b start out streamed.list) is_by streamed.wrote)) tells.0
  ends_as (came.Events faulty) progress.Refused is_how is_by short so_came tells = refused tells.1 (above (subst (λ (b : Progress). WroteList b start out streamed.list) is_by streamed.wrote)) tells.0
  ends_as came.Done progress.Whole is_how is_by short so_came tells =
      done_ends is_how (subst (λ (b : Progress). WroteList b start out report.changes.items) is_by (streamed.whole is_how)) (tells listed (can_tell_tail rest faults accepts plan is files.content report streamed.run is_how))
  ends_as came.Memory progress.Whole is_how is_by short so_came tells = lacked tells.1 tells.0
  ends_as came.Read progress.Whole is_how is_by short so_came tells =
      let wrote = subst (λ (b : Progress). WroteList b start out streamed.list) is_by streamed.wrote in
      read_ends Stream nodes files files' start out' report.edges.items report.ran.items o tells.0 (subst (λ (n : ℕ). files.faults < n) (sym counted) (some_rose rest faults accepts plan is files.content report streamed.run so_came.2 files.faults few)) (ap (λ (s : SinkSeen). s.faults) tells.1 ∙ wrote.0) (silent tells.1)
  ends_as (came.Events faulty) progress.Whole is_how is_by short so_came tells =
      let wrote = subst (λ (b : Progress). WroteList b start out streamed.list) is_by streamed.wrote in
      said_ends Stream nodes files files' start out' report.edges.items report.ran.items (faulty_text nodes faulty.items) o (counted ∙ faulty_kept rest faults accepts plan is files.content report streamed.run so_came.2 files.faults (omega (arith, few)))
      (ap (λ (s : SinkSeen). s.faults) tells.1 ∙ wrote.0) (silent tells.1) (inr (began tells.1)) (refuses_so rest faults accepts plan is files.content report streamed.run so_came.2 so_came.1 faulty.items so_came.3 so_came.4) tells.0

  -- a stream ends by what is written or said of it
  pub stream_ends : EndsStream report.outcome by nodes report.forgotten.items out out' o → Ends o
  stream_ends tells = ends_as report.outcome by refl refl streamed.run.reported.short streamed.run.reported.came tells

  -- ---- a strong output

  module _ (table : Table) where
    -- a front of the lines of the query over the good lines was written
    good_now : IsStrong nodes → Remembers nodes → AppendsFront start.written out'.written begun_text → (told : List ℕ → List ℕ) → AreTold files.content told (source_files nodes) → WroteGood told nodes start out'
    good_now strong remembers front_so told known = wrote_good legal table plan is told begun_text start out' strong remembers (begins told known) front_so

    kept_on : WritesText o out out' [] → Keeps out.written out'.written
    kept_on = by_outcome o
      where
        by_outcome : (o : Outcome) → WritesText o out out' [] → Keeps out.written out'.written
        by_outcome outcome.Done h = none_kept out.written out'.written h.1
        by_outcome outcome.Write h = no_front_kept out.written out'.written h.1
        by_outcome outcome.OutOfMemory h = no_front_kept out.written out'.written h
        by_outcome outcome.Usage h = absurd h
        by_outcome (outcome.Events said) h = absurd h
        by_outcome (outcome.BadPlan kind node) h = absurd h
        by_outcome (outcome.Unsaved node) h = absurd h
        by_outcome (outcome.BadCheckpoint line) h = absurd h
        by_outcome outcome.Read h = absurd h

    -- whatever is told of it, no more was written than the changes
    front_at : Remembers nodes → (how : Came) (so : Progress) → report.outcome ≡ how → EndsStream how so nodes report.forgotten.items out out' o → AppendsFront start.written out'.written begun_text
    front_at remembers how progress.Lacked is_how tells = front_now tells.1
    front_at remembers came.Done progress.Refused is_how tells = front_now tells.1
    front_at remembers came.Memory progress.Refused is_how tells = front_now tells.1
    front_at remembers came.Read progress.Refused is_how tells = front_now tells.1
    front_at remembers (came.Events faulty) progress.Refused is_how tells = front_now tells.1
    front_at remembers came.Done progress.Whole is_how tells = elim (tells listed (can_tell_tail rest faults accepts plan is files.content report streamed.run is_how)) [
      | inl lacks ↦ front_now lacks.1
      | inr wrote ↦ front_kept start.written out.written out'.written begun_text front (kept_on (subst (WritesText o out out') (no_tail nodes (tail_text nodes listed) remembers) wrote))
    ]
    front_at remembers came.Memory progress.Whole is_how tells = front_now tells.1
    front_at remembers came.Read progress.Whole is_how tells = front_now tells.1
    front_at remembers (came.Events faulty) progress.Whole is_how tells = front_now tells.1

    -- however a stream ends that is strong
    pub stream_strong : EndsStream report.outcome by nodes report.forgotten.items out out' o → WroteStrong files.content nodes start out'
    stream_strong tells strong remembers = good_now strong remembers (front_at remembers report.outcome by refl tells)

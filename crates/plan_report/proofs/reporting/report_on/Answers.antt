use Rattle.std.proofs.Common.{◌≡◌, false, ◌||◌, List, length, map, sym, ap, ◌∙◌, subst, arith}
use Rattle.std.specs.Prelude.{is_err}
use Rattle.std.specs.List.{list_any}
use Rattle.plan_edges.specs.Wires.{carried, ports_of}
use Rattle.plan_runs.specs.Without.{forgot_in}
use Rattle.node_laws.specs.Lists.{Lists}
use Rattle.plan_answer.specs.Forgettings.{nodes_forgot, port_forgot}
use Rattle.plan_workers.specs.Forgettings.{AllTook}
use Rattle.plan_workers.specs.Wents.{part_lacked}
use Rattle.std.proofs.lemmas.List.{length-map}
use Rattle.std.proofs.lemmas.Result.{on_ok_weaker}
use Rattle.cedr_plan.specs.Drawn.{node_of}
use Rattle.cedr_plan.specs.Places.{source_count}
use Rattle.plan_report.specs.Reports.{HasOutcome}
use Rattle.plan_report.specs.SoFar.{IsSoFar}
use Rattle.plan_report.proofs.OutcomeLemmas.{ok_value, right_false, short_outcome}
use Rattle.plan_report.proofs.ReportLemmas.{one, reported, sources_count, sources_few, took, writer_of}
use Rattle.plan_report.proofs.SoFarLemmas.{began}
use Rattle.plan_report.proofs.reporting.report_on.Goals as goal

pub tell_unless-forgotten-requires : goal.tell_unless-forgotten-requires
tell_unless-forgotten-requires g c = λ found. (
  ports_of c.args.plan.now.nodes.items (carried c.args.closed.edges.items),
  subst (λ ns. AllTook ns (ports_of c.args.plan.now.nodes.items (carried c.args.closed.edges.items)) c.as_slice-3.result.now) (sym c.as_slice-2.ensures.value)
      (subst (λ ps. AllTook c.args.plan.now.nodes.items (ports_of c.args.plan.now.nodes.items (carried c.args.closed.edges.items)) ps) (sym c.as_slice-3.ensures.value)
      (took g.S.Source.rest g.S.Source.faults c.args.plan.now c.requires.ended.0 c.args.reader.history c.args.closed c.requires.plan c.requires.ended.1
      (ap (list_any part_lacked) (sym c.as_slice.ensures.value) ∙ (sym c.any_lacked-lacked.ensures ∙ found)))),
)

pub sort_parts-held-requires-clause-one : goal.sort_parts-held-requires-clause-one
sort_parts-held-requires-clause-one g c = one g.S.Source.rest g.S.Source.faults c.args.plan.now c.requires.ended.0 c.args.reader.history c.args.closed c.requires.plan c.requires.ended.1

pub sort_parts-held-requires-clause-room : goal.sort_parts-held-requires-clause-room
sort_parts-held-requires-clause-room g c = (
  c.requires.sources.0,
  (let few = sources_few g.S.Source.rest g.S.Source.faults c.args.plan.now c.requires.ended.0 c.args.reader.history c.args.closed c.requires.plan c.requires.ended.1 in omega (arith, few, c.requires.sources.1)),
)

pub conclude-changes-requires-clause-history : goal.conclude-changes-requires-clause-history
conclude-changes-requires-clause-history g c = (writer_of g.S.Source.rest g.S.Source.faults c.args.plan.now c.requires.ended.0 c.args.reader.history c.args.closed c.requires.plan c.requires.ended.1 c.sort_parts-held.result c.sort_parts-held.ensures.writer).0

pub conclude-changes-requires-clause-unconcluded : goal.conclude-changes-requires-clause-unconcluded
conclude-changes-requires-clause-unconcluded g c = (writer_of g.S.Source.rest g.S.Source.faults c.args.plan.now c.requires.ended.0 c.args.reader.history c.args.closed c.requires.plan c.requires.ended.1 c.sort_parts-held.result c.sort_parts-held.ensures.writer).1

pub outcome_of-outcome-requires-clause-few : goal.outcome_of-outcome-requires-clause-few
outcome_of-outcome-requires-clause-few g c = omega (arith, ap length c.as_slice-4.ensures.value, c.requires.plan.count, length-map c.args.plan.now.nodes.items node_of)

pub outcome_of-outcome-requires-clause-count : goal.outcome_of-outcome-requires-clause-count
outcome_of-outcome-requires-clause-count g c =
    ap length (c.as_slice-5.ensures.value ∙ c.sort_parts-held.ensures.sources)
    ∙ (sources_count g.S.Source.rest g.S.Source.faults c.args.plan.now c.requires.ended.0 c.args.reader.history c.args.closed c.requires.plan c.requires.ended.1 ∙ ap source_count (sym c.as_slice-4.ensures.value))

pub outcome_of-outcome-requires-clause-room : goal.outcome_of-outcome-requires-clause-room
outcome_of-outcome-requires-clause-room g c = omega (arith, ap length c.as_slice-4.ensures.value, c.requires.faults.1)

pub returns-clause-report : goal.returns-clause-report
returns-clause-report g c = λ given ended.
    let forgotten = c.tell_unless-forgotten.result in
    let changes = c.conclude-changes.result in
    reported g.S.Source.rest g.S.Source.faults c.args.plan.now given c.args.reader.history c.args.closed c.requires.plan ended c.outcome_of-outcome.result c.unwrap_or.result c.unwrap_or-2.result c.sort_parts-held.new.sources
    (is_err forgotten) (is_err changes) c.sort_parts-held.result c.sort_parts-held.ensures.sources
    (subst (λ ns. HasOutcome ns c.sort_parts-held.new.sources.items (is_err forgotten || is_err changes) c.outcome_of-outcome.result) c.as_slice-4.ensures.value
    (subst (λ es. HasOutcome c.as_slice-4.result.now es (is_err forgotten || is_err changes) c.outcome_of-outcome.result) c.as_slice-5.ensures.value
    (subst (λ b. HasOutcome c.as_slice-4.result.now c.as_slice-5.result.now b c.outcome_of-outcome.result) (λ i. c.is_err.ensures.value i || c.is_err-2.ensures.value i) c.outcome_of-outcome.ensures)))
    (λ full. ap (list_any part_lacked) (sym c.as_slice.ensures.value) ∙ (sym c.any_lacked-lacked.ensures ∙ ok_value (λ _. c.any_lacked-lacked.result ≡ false) forgotten c.new.result c.unwrap_or.result c.tell_unless-forgotten.ensures.found c.unwrap_or.ensures full))
    (λ full lists all.
    let nodes = c.as_slice-2.result.now in
    let parts = c.as_slice-3.result.now in
    let told = ok_value (λ list. (ports : List Lists) → AllTook nodes ports parts → map port_forgot list.items ≡ nodes_forgot 0 (forgot_in nodes ports)) forgotten c.new.result c.unwrap_or.result c.tell_unless-forgotten.ensures.list c.unwrap_or.ensures full lists
    (subst (λ ns. AllTook ns lists parts) (sym c.as_slice-2.ensures.value) (subst (λ ps. AllTook c.args.plan.now.nodes.items lists ps) (sym c.as_slice-3.ensures.value) all)) in
    told ∙ ap (λ ns. nodes_forgot 0 (forgot_in ns lists)) c.as_slice-2.ensures.value)
    c.sort_parts-held.ensures.writer
    (ok_value (λ list. list.items ≡ c.sort_parts-held.result.writer.published.changes) changes c.new-2.result c.unwrap_or-2.result c.conclude-changes.ensures.changes c.unwrap_or-2.ensures)

pub returns-clause-whole : goal.returns-clause-whole
returns-clause-whole g c = λ is_done.
    let forgotten = c.tell_unless-forgotten.result in
    let changes = c.conclude-changes.result in
    let came = subst (λ b. HasOutcome c.as_slice-4.result.now c.as_slice-5.result.now b c.outcome_of-outcome.result) (λ i. c.is_err.ensures.value i || c.is_err-2.ensures.value i) c.outcome_of-outcome.ensures in
    let closes = subst (λ o. HasOutcome c.as_slice-4.result.now c.as_slice-5.result.now (is_err forgotten || is_err changes) o) is_done came in
    let full = right_false (is_err forgotten) (is_err changes) closes.0 in
    let published = c.sort_parts-held.result.writer.published.changes in
    let all = ok_value (λ list. list.items ≡ published) changes c.new-2.result c.unwrap_or-2.result c.conclude-changes.ensures.changes c.unwrap_or-2.ensures full in
    let stands = g.W.Watcher.stands c.args.start.now.value c.conclude-changes.new.watcher c.conclude-changes.new.out in
    subst stands (sym all) (ok_value (λ _. stands published) changes c.new-2.result c.unwrap_or-2.result c.conclude-changes.ensures.whole c.unwrap_or-2.ensures full)

pub returns-clause-so_far : goal.returns-clause-so_far
returns-clause-so_far g c = λ given ended.
    let seen = c.conclude-changes.ensures.watches in (
      seen.0,
      (
        seen.1,
        subst (λ es. IsSoFar g.S.Source.rest g.S.Source.faults c.args.plan.now.nodes.items given es seen.0) (sym c.sort_parts-held.ensures.sources)
            (began g.S.Source.rest g.S.Source.faults c.args.plan.now given c.args.reader.history c.args.closed c.requires.plan ended c.sort_parts-held.result c.sort_parts-held.ensures.writer seen.0 seen.2),
      ),
    )

pub returns-clause-short : goal.returns-clause-short
returns-clause-short g c = λ asked lacked.
    let forgotten = c.tell_unless-forgotten.result in
    let changes = c.conclude-changes.result in
    let came = subst (λ b. HasOutcome c.as_slice-4.result.now c.as_slice-5.result.now b c.outcome_of-outcome.result) (λ i. c.is_err.ensures.value i || c.is_err-2.ensures.value i) c.outcome_of-outcome.ensures in
    short_outcome (g.W.Watcher.lacked c.conclude-changes.new.watcher) c.as_slice-4.result.now c.as_slice-5.result.now (is_err forgotten) changes c.outcome_of-outcome.result came (on_ok_weaker changes (λ found. found asked) c.conclude-changes.ensures.found) lacked

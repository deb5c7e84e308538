use Rattle.node_laws.specs.Lists.{list_at}
use Rattle.cedr_plan.specs.Places.{output_place}
use Rattle.plan_runs.specs.Without.{forgot_in}
use Rattle.plan_edges.specs.Wires.{carried, ports_of}
use Rattle.cedr_commands.specs.Seen.{seen_files, seen_sink}
use Rattle.cedr_run.proofs.RunLemmas.{can_tell, can_tell_as, run_ends, tells_as}
use Rattle.cedr_run.proofs.threads.tell.Goals as goal

pub end_of-outcome-requires-clause-can_tell : goal.end_of-outcome-requires-clause-can_tell
end_of-outcome-requires-clause-can_tell g c = λ done.
    let nodes = c.args.plan.now.nodes.items in
    let given = list_at c.requires.report.reported.given (output_place nodes) in
    let listed = forgot_in nodes (ports_of nodes (carried c.args.report.edges.items)) in (
      given,
      (
        listed,
        can_tell_as nodes c.as_slice-nodes.result.now c.args.report.changes.items c.deref.result.now c.args.report.forgotten.items c.deref-2.result.now given listed c.as_slice-nodes.ensures.value c.deref.ensures.value c.deref-2.ensures.value
            (can_tell g.F.Source.Source.rest g.F.Source.Source.faults c.accepted_sources.ensures c.args.plan.now c.requires.plan (g.F.Files.content c.args.files.now) c.args.report c.requires.report done),
      ),
    )

pub returns-clause-ends : goal.returns-clause-ends
returns-clause-ends g c = λ job threaded at_end.
    run_ends g.F.Source.Source.rest g.F.Source.Source.faults job threaded at_end c.accepted_sources.ensures c.args.plan.now c.requires.plan (seen_files g.F.Files.content g.F.Files.faults g.F.Files.asked c.args.files.now) (seen_files g.F.Files.content g.F.Files.faults g.F.Files.asked c.give_back_ends.new.files) (seen_sink g.K.Sink.written g.K.Sink.faults c.args.out.now) (seen_sink g.K.Sink.written g.K.Sink.faults c.end_of-outcome.new.out) c.args.report c.requires.report c.requires.files_count c.give_back_ends.ensures.counted c.end_of-outcome.result
    (tells_as c.args.report.outcome c.args.plan.now.nodes.items c.as_slice-nodes.result.now c.args.report.changes.items c.deref.result.now c.args.report.forgotten.items c.deref-2.result.now (seen_sink g.K.Sink.written g.K.Sink.faults c.args.out.now) (seen_sink g.K.Sink.written g.K.Sink.faults c.end_of-outcome.new.out) c.end_of-outcome.result c.as_slice-nodes.ensures.value c.deref.ensures.value c.deref-2.ensures.value c.end_of-outcome.ensures)

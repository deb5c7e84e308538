use Rattle.plan_runs.specs.Without.{forgot_in}
use Rattle.plan_edges.specs.Wires.{carried, ports_of}
use Rattle.cedr_commands.specs.Seen.{seen_files, seen_sink}
use Rattle.cedr_run.proofs.RunLemmas.{can_tell_tail}
use Rattle.cedr_run.proofs.StreamEndLemmas.{can_tell_tail_as, stream_ends, stream_strong, tells_stream_as, whole_counts}
use Rattle.cedr_run.proofs.threads.tell_stream.Goals as goal

pub end_of_stream-outcome-requires-clause-counts : goal.end_of_stream-outcome-requires-clause-counts
end_of_stream-outcome-requires-clause-counts g c = λ whole.
    let s = c.requires.streamed in
    whole_counts g.F.Source.Source.rest g.F.Source.Source.faults (g.F.Files.content c.args.files.now) c.args.plan.now.nodes.items c.args.report c.args.progress s.0 (seen_sink g.K.Sink.written g.K.Sink.faults c.args.out.now) s.1 whole

pub end_of_stream-outcome-requires-clause-can_tell : goal.end_of_stream-outcome-requires-clause-can_tell
end_of_stream-outcome-requires-clause-can_tell g c = λ done.
    let nodes = c.args.plan.now.nodes.items in
    let listed = forgot_in nodes (ports_of nodes (carried c.args.report.edges.items)) in (
      listed,
      can_tell_tail_as nodes c.as_slice-nodes.result.now c.args.report.forgotten.items c.deref.result.now listed c.as_slice-nodes.ensures.value c.deref.ensures.value
          (can_tell_tail g.F.Source.Source.rest g.F.Source.Source.faults c.accepted_sources.ensures c.args.plan.now c.requires.plan (g.F.Files.content c.args.files.now) c.args.report c.requires.streamed.1.run done),
    )

pub returns-clause-ends : goal.returns-clause-ends
returns-clause-ends g c = λ start streamed.
    stream_ends g.F.Source.Source.rest g.F.Source.Source.faults c.accepted_sources.ensures c.streamed_changes.ensures c.message_laws.ensures.source_legal c.args.plan.now c.requires.plan (seen_files g.F.Files.content g.F.Files.faults g.F.Files.asked c.args.files.now) (seen_files g.F.Files.content g.F.Files.faults g.F.Files.asked c.give_back_ends.new.files) start (seen_sink g.K.Sink.written g.K.Sink.faults c.args.out.now) (seen_sink g.K.Sink.written g.K.Sink.faults c.end_of_stream-outcome.new.out) c.args.report c.args.progress streamed
    c.requires.files_count c.give_back_ends.ensures.counted c.end_of_stream-outcome.result
    (tells_stream_as c.args.report.outcome c.args.progress c.args.plan.now.nodes.items c.as_slice-nodes.result.now c.args.report.forgotten.items c.deref.result.now (seen_sink g.K.Sink.written g.K.Sink.faults c.args.out.now) (seen_sink g.K.Sink.written g.K.Sink.faults c.end_of_stream-outcome.new.out) c.end_of_stream-outcome.result c.as_slice-nodes.ensures.value c.deref.ensures.value c.end_of_stream-outcome.ensures)

pub returns-clause-strong : goal.returns-clause-strong
returns-clause-strong g c = λ start streamed.
    stream_strong g.F.Source.Source.rest g.F.Source.Source.faults c.accepted_sources.ensures c.streamed_changes.ensures c.message_laws.ensures.source_legal c.args.plan.now c.requires.plan (seen_files g.F.Files.content g.F.Files.faults g.F.Files.asked c.args.files.now) (seen_files g.F.Files.content g.F.Files.faults g.F.Files.asked c.give_back_ends.new.files) start (seen_sink g.K.Sink.written g.K.Sink.faults c.args.out.now) (seen_sink g.K.Sink.written g.K.Sink.faults c.end_of_stream-outcome.new.out) c.args.report c.args.progress streamed
    c.requires.files_count c.give_back_ends.ensures.counted c.end_of_stream-outcome.result c.message_laws.ensures.source_table
    (tells_stream_as c.args.report.outcome c.args.progress c.args.plan.now.nodes.items c.as_slice-nodes.result.now c.args.report.forgotten.items c.deref.result.now (seen_sink g.K.Sink.written g.K.Sink.faults c.args.out.now) (seen_sink g.K.Sink.written g.K.Sink.faults c.end_of_stream-outcome.new.out) c.end_of_stream-outcome.result c.as_slice-nodes.ensures.value c.deref.ensures.value c.end_of_stream-outcome.ensures)

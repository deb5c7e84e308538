use Rattle.std.proofs.Common.{ap}
use Rattle.cedr_commands.specs.Seen.{seen_sink}
use Rattle.cedr_run.proofs.StreamEndLemmas.{streamed_so}
use Rattle.cedr_run.proofs.StrongLemmas.{wrote_nothing_strong}
use Rattle.cedr_run.proofs.threads.stream_sources.Goals as goal

pub tell_stream-requires-clause-streamed : goal.tell_stream-requires-clause-streamed
tell_stream-requires-clause-streamed g c κs within = (
  (seen_sink g.K.Sink.written g.K.Sink.faults c.args.out.now),
  streamed_so g.F.Source.Source.rest g.F.Source.Source.faults (g.F.Files.content c.args.files.now) c.args.plan.now.nodes.items c.args.sources.items c.in-Ok.report c.run_threads.new.watcher.progress (seen_sink g.K.Sink.written g.K.Sink.faults c.args.out.now) (seen_sink g.K.Sink.written g.K.Sink.faults c.run_threads.new.out) c.run_threads.new.watcher.count
      c.in-Ok.ensures.report c.requires.count c.requires.fresh c.requires.found c.in-Ok.ensures.so_far c.in-Ok.ensures.whole c.requires.out_counts,
)

pub returns-in-Ok-clause-ends : goal.returns-in-Ok-clause-ends
returns-in-Ok-clause-ends g c =
    c.tell_stream.ensures.ends (seen_sink g.K.Sink.written g.K.Sink.faults c.args.out.now)
    (streamed_so g.F.Source.Source.rest g.F.Source.Source.faults (g.F.Files.content c.args.files.now) c.args.plan.now.nodes.items c.args.sources.items c.in-Ok.report c.run_threads.new.watcher.progress (seen_sink g.K.Sink.written g.K.Sink.faults c.args.out.now) (seen_sink g.K.Sink.written g.K.Sink.faults c.run_threads.new.out) c.run_threads.new.watcher.count
    c.in-Ok.ensures.report c.requires.count c.requires.fresh c.requires.found c.in-Ok.ensures.so_far c.in-Ok.ensures.whole c.requires.out_counts)

pub returns-in-Ok-clause-strong : goal.returns-in-Ok-clause-strong
returns-in-Ok-clause-strong g c =
    c.tell_stream.ensures.strong (seen_sink g.K.Sink.written g.K.Sink.faults c.args.out.now)
    (streamed_so g.F.Source.Source.rest g.F.Source.Source.faults (g.F.Files.content c.args.files.now) c.args.plan.now.nodes.items c.args.sources.items c.in-Ok.report c.run_threads.new.watcher.progress (seen_sink g.K.Sink.written g.K.Sink.faults c.args.out.now) (seen_sink g.K.Sink.written g.K.Sink.faults c.run_threads.new.out) c.run_threads.new.watcher.count
    c.in-Ok.ensures.report c.requires.count c.requires.fresh c.requires.found c.in-Ok.ensures.so_far c.in-Ok.ensures.whole c.requires.out_counts)

pub returns-in-Err-clause-strong : goal.returns-in-Err-clause-strong
returns-in-Err-clause-strong g c =
    wrote_nothing_strong (g.F.Files.content c.args.files.now) c.args.plan.now.nodes.items (seen_sink g.K.Sink.written g.K.Sink.faults c.args.out.now) (seen_sink g.K.Sink.written g.K.Sink.faults c.run_threads.new.out) (ap (seen_sink g.K.Sink.written g.K.Sink.faults) c.in-Err.ensures.unwatched.1)

use Rattle.std.proofs.Common.{Some, refl}
use Rattle.cedr_commands.specs.Commands.{Command}
use Rattle.cedr_commands.specs.Seen.{seen_files, seen_sink}
use Rattle.cedr_commands.proofs.EndingLemmas.{ends_command}
use Rattle.cedr_run.proofs.PlanLemmas.{done_alone, has_run_by}
use Rattle.cedr_run.proofs.top.call_threads.Goals as goal

pub returns-clause-ends : goal.returns-clause-ends
returns-clause-ends g c = λ checkpoint script.
    let named : Command = record { job = c.args.job; file = c.args.file.now; checkpoint = checkpoint; script = script } in
    ends_command (Some named) named (seen_files g.F.Files.content g.F.Files.faults g.F.Files.asked c.args.files.now) (seen_files g.F.Files.content g.F.Files.faults g.F.Files.asked c.on_threads-outcome.new.files) (seen_sink g.K.Sink.written g.K.Sink.faults c.args.out.now) (seen_sink g.K.Sink.written g.K.Sink.faults c.on_threads-outcome.new.out) (seen_sink g.E.Sink.written g.E.Sink.faults c.args.err.now) (seen_sink g.E.Sink.written g.E.Sink.faults c.report-status.new.err) c.on_threads-outcome.result.outcome c.report-status.result refl
    (c.on_threads-outcome.ensures.ends checkpoint script) (c.on_threads-outcome.ensures.asked checkpoint script) c.on_threads-outcome.ensures.contents c.report-status.ensures.status c.report-status.ensures.reported c.report-status.ensures.lacking

pub returns-clause-ran : goal.returns-clause-ran
returns-clause-ran g c = λ checkpoint script.
    has_run_by c.args.job c.requires.job (seen_files g.F.Files.content g.F.Files.faults g.F.Files.asked c.args.files.now) c.args.file.now checkpoint script (seen_sink g.K.Sink.written g.K.Sink.faults c.args.out.now) (seen_sink g.K.Sink.written g.K.Sink.faults c.on_threads-outcome.new.out) c.report-status.result c.on_threads-outcome.result.edges.items c.on_threads-outcome.result.ran.items
    (λ done. c.on_threads-outcome.ensures.ran (done_alone c.on_threads-outcome.result.outcome c.report-status.result c.report-status.ensures.status done) checkpoint script)

pub returns-clause-strong : goal.returns-clause-strong
returns-clause-strong g c = c.on_threads-outcome.ensures.strong

use Rattle.std.proofs.Common.{Option, Some, refl}
use Rattle.cedr_commands.specs.Commands.{Command}
use Rattle.cedr_commands.specs.Seen.{seen_files, seen_sink}
use Rattle.cedr_commands.specs.declared.command.Job.TheVariants.{Parts}
use Rattle.cedr_commands.proofs.EndingLemmas.{ends_command}
use Rattle.cedr_parts.proofs.command.run_parts.Goals as goal

pub returns : goal.returns
returns g c = λ checkpoint script.
    let command : Command = record { job = Parts c.args.count; file = c.args.file.now; checkpoint = checkpoint; script = script } in
    ends_command (Some command) command (seen_files g.F.Files.content g.F.Files.faults g.F.Files.asked c.args.files.now) (seen_files g.F.Files.content g.F.Files.faults g.F.Files.asked c.carry_out-outcome.new.files) (seen_sink g.K.Sink.written g.K.Sink.faults c.args.out.now) (seen_sink g.K.Sink.written g.K.Sink.faults c.carry_out-outcome.new.out) (seen_sink g.E.Sink.written g.E.Sink.faults c.args.err.now) (seen_sink g.E.Sink.written g.E.Sink.faults c.report.new.err) c.carry_out-outcome.result c.report.result refl
    (c.carry_out-outcome.ensures.ends checkpoint script) (c.carry_out-outcome.ensures.asked checkpoint script) c.carry_out-outcome.ensures.contents c.report.ensures.status c.report.ensures.reported c.report.ensures.lacking

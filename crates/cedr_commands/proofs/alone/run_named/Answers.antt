use Rattle.std.proofs.Common.{Option, Some, None, refl, ap, ◌∙◌}
use Rattle.cedr_commands.specs.Commands.{Command}
use Rattle.cedr_commands.specs.Seen.{seen_files, seen_sink}
use Rattle.cedr_commands.proofs.EndingLemmas.{ends_command, ends_no_command}
use Rattle.cedr_commands.proofs.alone.run_named.Goals as goal

pub returns-in-None : goal.returns-in-None
returns-in-None g c = rw c.in-None.is (ends_no_command None (seen_files g.F.Files.content g.F.Files.faults g.F.Files.asked c.args.files.now) (seen_sink g.K.Sink.written g.K.Sink.faults c.args.out.now) (seen_sink g.E.Sink.written g.E.Sink.faults c.args.err.now) (seen_sink g.E.Sink.written g.E.Sink.faults c.report.new.err) c.report.result refl c.report.ensures.status c.report.ensures.reported c.report.ensures.lacking)

pub returns-in-Some : goal.returns-in-Some
returns-in-Some g c =
    let named : Command = record { job = c.in-Some.job; file = c.as_bytes.result.now; checkpoint = c.as_bytes-in-Some.result.now; script = c.as_bytes-in-Some-2.result.now } in
    let same = ap {B = Option Command} (λ file. Some (record { job = c.in-Some.job; file = file; checkpoint = c.as_bytes-in-Some.result.now; script = c.as_bytes-in-Some-2.result.now })) c.as_bytes.ensures.value
    ∙ (ap {B = Option Command} (λ checkpoint. Some (record { job = c.in-Some.job; file = c.in-Some.file.now; checkpoint = checkpoint; script = c.as_bytes-in-Some-2.result.now })) c.as_bytes-in-Some.ensures.value
    ∙ ap {B = Option Command} (λ script. Some (record { job = c.in-Some.job; file = c.in-Some.file.now; checkpoint = c.in-Some.checkpoint.now; script = script })) c.as_bytes-in-Some-2.ensures.value) in
    rw c.in-Some.is (ends_command (Some (record { job = c.in-Some.job; file = c.in-Some.file.now; checkpoint = c.in-Some.checkpoint.now; script = c.in-Some.script.now })) named (seen_files g.F.Files.content g.F.Files.faults g.F.Files.asked c.args.files.now) (seen_files g.F.Files.content g.F.Files.faults g.F.Files.asked c.carry_out-outcome.new.files) (seen_sink g.K.Sink.written g.K.Sink.faults c.args.out.now) (seen_sink g.K.Sink.written g.K.Sink.faults c.carry_out-outcome.new.out) (seen_sink g.E.Sink.written g.E.Sink.faults c.args.err.now) (seen_sink g.E.Sink.written g.E.Sink.faults c.report-in-Some.new.err) c.carry_out-outcome.result c.report-in-Some.result same
    c.carry_out-outcome.ensures.ends c.carry_out-outcome.ensures.asked c.carry_out-outcome.ensures.contents c.report-in-Some.ensures.status c.report-in-Some.ensures.reported c.report-in-Some.ensures.lacking)

use Rattle.std.proofs.Common.{◌≡◌, Option, Some, ap, subst, ◌∙◌, map}
use Rattle.std.specs.String.{string_bytes}
use Rattle.cedr_commands.specs.Commands.{Command, command_of}
use Rattle.cedr_commands.specs.Seen.{seen_files, seen_sink}
use Rattle.cedr_run.specs.Strong.{StreamsStrong}
use Rattle.cedr_run.specs.Threads.{HasRun}
use Rattle.cedr_run.proofs.StrongLemmas.{streams_strong_by}
use Rattle.cedr_run.proofs.top.run.Goals as goal

pub returns-in-Some-Run-default-default-default-clause-ran : goal.returns-in-Some-Run-default-default-default-clause-ran
returns-in-Some-Run-default-default-default-clause-ran g c =
    let arm = c.in-Some-Run-default-default-default in
    let checkpoint = arm.field-0-2.now in
    let script = arm.field-0-3.now in
    let same : Some (record { job = arm.job; file = c.as_bytes.result.now; checkpoint = checkpoint; script = script }) ≡ command_of (map string_bytes c.args.words.now) = ap {B = Option Command} (λ file. Some (record { job = arm.job; file = file; checkpoint = checkpoint; script = script })) c.as_bytes.ensures.value ∙ arm.ensures.named in
    subst (λ (command : Option Command). HasRun command (seen_files g.F.Files.content g.F.Files.faults g.F.Files.asked c.args.files.now) (seen_sink g.K.Sink.written g.K.Sink.faults c.args.out.now) (seen_sink g.K.Sink.written g.K.Sink.faults c.call_threads.new.out) c.call_threads.result.status c.call_threads.result.edges.items c.call_threads.result.ran.items) same (c.call_threads.ensures.ran checkpoint script)

pub returns-in-Some-Run-default-default-default-clause-strong : goal.returns-in-Some-Run-default-default-default-clause-strong
returns-in-Some-Run-default-default-default-clause-strong g c =
    let arm = c.in-Some-Run-default-default-default in
    let checkpoint = arm.field-0-2.now in
    let script = arm.field-0-3.now in
    let same : Some (record { job = arm.job; file = c.as_bytes.result.now; checkpoint = checkpoint; script = script }) ≡ command_of (map string_bytes c.args.words.now) = ap {B = Option Command} (λ file. Some (record { job = arm.job; file = file; checkpoint = checkpoint; script = script })) c.as_bytes.ensures.value ∙ arm.ensures.named in
    subst (λ (command : Option Command). StreamsStrong command (seen_files g.F.Files.content g.F.Files.faults g.F.Files.asked c.args.files.now) (seen_sink g.K.Sink.written g.K.Sink.faults c.args.out.now) (seen_sink g.K.Sink.written g.K.Sink.faults c.call_threads.new.out)) same
    (streams_strong_by arm.job (seen_files g.F.Files.content g.F.Files.faults g.F.Files.asked c.args.files.now) c.as_bytes.result.now checkpoint script (seen_sink g.K.Sink.written g.K.Sink.faults c.args.out.now) (seen_sink g.K.Sink.written g.K.Sink.faults c.call_threads.new.out) c.call_threads.ensures.strong)

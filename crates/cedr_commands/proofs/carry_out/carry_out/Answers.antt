use Rattle.std.proofs.Common.{sym, subst}
use Rattle.cedr_commands.specs.declared.command.Job.{Job}
use Rattle.cedr_commands.specs.Outcomes.{CommandEnds, AsksOnly}
use Rattle.cedr_commands.specs.Seen.{seen_files, seen_sink}
use Rattle.cedr_commands.proofs.carry_out.carry_out.Goals as goal

pub returns-in-History-clause-ends : goal.returns-in-History-clause-ends
returns-in-History-clause-ends g c = subst (λ (job : Job). CommandEnds (record { job = job; file = c.args.file.now; checkpoint = c.args.checkpoint.now; script = c.args.script.now }) (seen_files g.F.Files.content g.F.Files.faults g.F.Files.asked c.args.files.now) (seen_files g.F.Files.content g.F.Files.faults g.F.Files.asked c.history.new.files) (seen_sink g.K.Sink.written g.K.Sink.faults c.args.out.now) (seen_sink g.K.Sink.written g.K.Sink.faults c.history.new.out) c.history.result) (sym c.in-History.is) (c.history.ensures.ends c.args.checkpoint.now c.args.script.now)

pub returns-in-History-clause-asked : goal.returns-in-History-clause-asked
returns-in-History-clause-asked g c = subst (λ (job : Job). AsksOnly (record { job = job; file = c.args.file.now; checkpoint = c.args.checkpoint.now; script = c.args.script.now }) (seen_files g.F.Files.content g.F.Files.faults g.F.Files.asked c.args.files.now) (seen_files g.F.Files.content g.F.Files.faults g.F.Files.asked c.history.new.files)) (sym c.in-History.is) (c.history.ensures.asked c.args.checkpoint.now c.args.script.now)

pub returns-in-Check-clause-ends : goal.returns-in-Check-clause-ends
returns-in-Check-clause-ends g c = subst (λ (job : Job). CommandEnds (record { job = job; file = c.args.file.now; checkpoint = c.args.checkpoint.now; script = c.args.script.now }) (seen_files g.F.Files.content g.F.Files.faults g.F.Files.asked c.args.files.now) (seen_files g.F.Files.content g.F.Files.faults g.F.Files.asked c.check.new.files) (seen_sink g.K.Sink.written g.K.Sink.faults c.args.out.now) (seen_sink g.K.Sink.written g.K.Sink.faults c.check.new.out) c.check.result) (sym c.in-Check.is) (c.check.ensures.ends c.args.checkpoint.now c.args.script.now)

pub returns-in-Check-clause-asked : goal.returns-in-Check-clause-asked
returns-in-Check-clause-asked g c = subst (λ (job : Job). AsksOnly (record { job = job; file = c.args.file.now; checkpoint = c.args.checkpoint.now; script = c.args.script.now }) (seen_files g.F.Files.content g.F.Files.faults g.F.Files.asked c.args.files.now) (seen_files g.F.Files.content g.F.Files.faults g.F.Files.asked c.check.new.files)) (sym c.in-Check.is) (c.check.ensures.asked c.args.checkpoint.now c.args.script.now)

pub returns-in_default-clause-ends : goal.returns-in_default-clause-ends
returns-in_default-clause-ends g c = c.on_sources.ensures.ends c.args.checkpoint.now c.args.script.now

pub returns-in_default-clause-asked : goal.returns-in_default-clause-asked
returns-in_default-clause-asked g c = c.on_sources.ensures.asked c.args.checkpoint.now c.args.script.now

pub returns-in-Live-clause-ends : goal.returns-in-Live-clause-ends
returns-in-Live-clause-ends g c = subst (λ (job : Job). CommandEnds (record { job = job; file = c.args.file.now; checkpoint = c.args.checkpoint.now; script = c.args.script.now }) (seen_files g.F.Files.content g.F.Files.faults g.F.Files.asked c.args.files.now) (seen_files g.F.Files.content g.F.Files.faults g.F.Files.asked c.live.new.files) (seen_sink g.K.Sink.written g.K.Sink.faults c.args.out.now) (seen_sink g.K.Sink.written g.K.Sink.faults c.live.new.out) c.live.result) (sym c.in-Live.is) (c.live.ensures.ends c.args.checkpoint.now)

pub returns-in-Make-clause-ends : goal.returns-in-Make-clause-ends
returns-in-Make-clause-ends g c = subst (λ (job : Job). CommandEnds (record { job = job; file = c.args.file.now; checkpoint = c.args.checkpoint.now; script = c.args.script.now }) (seen_files g.F.Files.content g.F.Files.faults g.F.Files.asked c.args.files.now) (seen_files g.F.Files.content g.F.Files.faults g.F.Files.asked c.args.files.now) (seen_sink g.K.Sink.written g.K.Sink.faults c.args.out.now) (seen_sink g.K.Sink.written g.K.Sink.faults c.make.new.out) c.make.result) (sym c.in-Make.is) (c.make.ensures (seen_files g.F.Files.content g.F.Files.faults g.F.Files.asked c.args.files.now) c.args.file.now c.args.checkpoint.now c.args.script.now)

pub returns-in-Live-clause-asked : goal.returns-in-Live-clause-asked
returns-in-Live-clause-asked g c = subst (λ (job : Job). AsksOnly (record { job = job; file = c.args.file.now; checkpoint = c.args.checkpoint.now; script = c.args.script.now }) (seen_files g.F.Files.content g.F.Files.faults g.F.Files.asked c.args.files.now) (seen_files g.F.Files.content g.F.Files.faults g.F.Files.asked c.live.new.files)) (sym c.in-Live.is) (c.live.ensures.asked c.args.checkpoint.now)

pub returns-in-Save-clause-ends : goal.returns-in-Save-clause-ends
returns-in-Save-clause-ends g c = subst (λ (job : Job). CommandEnds (record { job = job; file = c.args.file.now; checkpoint = c.args.checkpoint.now; script = c.args.script.now }) (seen_files g.F.Files.content g.F.Files.faults g.F.Files.asked c.args.files.now) (seen_files g.F.Files.content g.F.Files.faults g.F.Files.asked c.save.new.files) (seen_sink g.K.Sink.written g.K.Sink.faults c.args.out.now) (seen_sink g.K.Sink.written g.K.Sink.faults c.save.new.out) c.save.result) (sym c.in-Save.is) (c.save.ensures.ends c.args.checkpoint.now)

pub returns-in-Save-clause-asked : goal.returns-in-Save-clause-asked
returns-in-Save-clause-asked g c = subst (λ (job : Job). AsksOnly (record { job = job; file = c.args.file.now; checkpoint = c.args.checkpoint.now; script = c.args.script.now }) (seen_files g.F.Files.content g.F.Files.faults g.F.Files.asked c.args.files.now) (seen_files g.F.Files.content g.F.Files.faults g.F.Files.asked c.save.new.files)) (sym c.in-Save.is) (c.save.ensures.asked c.args.checkpoint.now)

pub returns-in-Resume-clause-ends : goal.returns-in-Resume-clause-ends
returns-in-Resume-clause-ends g c = subst (λ (job : Job). CommandEnds (record { job = job; file = c.args.file.now; checkpoint = c.args.checkpoint.now; script = c.args.script.now }) (seen_files g.F.Files.content g.F.Files.faults g.F.Files.asked c.args.files.now) (seen_files g.F.Files.content g.F.Files.faults g.F.Files.asked c.resume.new.files) (seen_sink g.K.Sink.written g.K.Sink.faults c.args.out.now) (seen_sink g.K.Sink.written g.K.Sink.faults c.resume.new.out) c.resume.result) (sym c.in-Resume.is) c.resume.ensures.ends

use Rattle.std.proofs.Common.{[], Err, refl, subst, inl}
use Rattle.cedr_commands.specs.declared.command.Job.TheVariants.{History}
use Rattle.cedr_commands.specs.Events.{AnswersHistory}
use Rattle.told_faults.specs.FaultTexts.{refusal_text}
use Rattle.cedr_commands.specs.Seen.{seen_files, seen_sink}
use Rattle.cedr_commands.proofs.EndingLemmas.{kept_itself, ends_written, ends_said, asks_one}
use Rattle.cedr_commands.proofs.FileLemmas.{given_history, refused_history}
use Rattle.cedr_commands.proofs.history.history.Goals as goal

pub returns-in-Err-OutOfMemory-clause-ends : goal.returns-in-Err-OutOfMemory-clause-ends
returns-in-Err-OutOfMemory-clause-ends g c = λ checkpoint script. inl (kept_itself (g.K.Sink.written c.args.out.now))

pub returns-in-Ok-history_text-clause-ends : goal.returns-in-Ok-history_text-clause-ends
returns-in-Ok-history_text-clause-ends g c = λ checkpoint script.
    let written = c.deref-in-Ok-history_text.result.now in
    ends_written (record { job = History; file = c.args.file.now; checkpoint = checkpoint; script = script }) (seen_files g.F.Files.content g.F.Files.faults g.F.Files.asked c.args.files.now) (seen_files g.F.Files.content g.F.Files.faults g.F.Files.asked c.read_file.new.files)
    (seen_sink g.K.Sink.written g.K.Sink.faults c.args.out.now) (seen_sink g.K.Sink.written g.K.Sink.faults c.write_text.new.out) c.write_text.result written c.write_text.ensures c.in-Ok.ensures.counted
    (λ told is. given_history (g.F.Files.content c.args.files.now c.args.file.now) (told c.args.file.now) c.in-Ok.bytes.items c.deref.result.now c.in-Ok-history_text.text.items written is.0 c.in-Ok.ensures.bytes c.deref.ensures.value c.in-Ok-history_text.ensures c.deref-in-Ok-history_text.ensures.value)
    (λ told h. h)

pub returns-in-Err-Refused-clause-ends : goal.returns-in-Err-Refused-clause-ends
returns-in-Err-Refused-clause-ends g c = λ checkpoint script.
    let refusal = c.in-Err-Refused.refusal in
    let found = subst (λ e. AnswersHistory (Err e) c.deref.result.now) c.in-Err-Refused.field-0-is c.in-Err-Refused.ensures in
    ends_said (record { job = History; file = c.args.file.now; checkpoint = checkpoint; script = script }) (seen_files g.F.Files.content g.F.Files.faults g.F.Files.asked c.args.files.now) (seen_files g.F.Files.content g.F.Files.faults g.F.Files.asked c.read_file.new.files)
    (seen_sink g.K.Sink.written g.K.Sink.faults c.args.out.now) c.refuse.result (refusal_text c.args.file.now refusal) c.refuse.ensures c.in-Ok.ensures.counted
    (λ told said said_is is. (refl, record { fault = refusal; first = refused_history (g.F.Files.content c.args.files.now c.args.file.now) (told c.args.file.now) c.in-Ok.bytes.items c.deref.result.now refusal is.0 c.in-Ok.ensures.bytes c.deref.ensures.value found; said_is = said_is }))

pub returns-clause-ends : goal.returns-clause-ends
returns-clause-ends g c = λ checkpoint script. inl (kept_itself (g.K.Sink.written c.args.out.now))

pub returns-in-Err-Refused-clause-asked : goal.returns-in-Err-Refused-clause-asked
returns-in-Err-Refused-clause-asked g c = λ checkpoint script. asks_one (g.F.Files.asked c.args.files.now) (g.F.Files.asked c.read_file.new.files) c.args.file.now [] c.in-Ok.ensures.asked

pub returns-clause-asked : goal.returns-clause-asked
returns-clause-asked g c = λ checkpoint script. asks_one (g.F.Files.asked c.args.files.now) (g.F.Files.asked c.read_file.new.files) c.args.file.now [] c.in-Ok.ensures.asked

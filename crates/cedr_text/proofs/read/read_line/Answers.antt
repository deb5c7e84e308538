use Rattle.std.proofs.Common.{length, Err, ap, sym, ◌∙◌, subst}
use Rattle.cedr_text.specs.Reading.{Reads, as_some}
use Rattle.cedr_text.proofs.LineLemmas.{some_left}
use Rattle.cedr_text.proofs.ReadingLemmas.{line_reading, reading_short, reads_fault, event_read}
use Rattle.cedr_text.proofs.read.read_line.Goals as goal

pub returns-in-Ok-clause-read : goal.returns-in-Ok-clause-read
returns-in-Ok-clause-read c =
    reading_short c.args.shape.now c.args.line.now c.if-line-gt-LINE_LIMIT.false (some_left (length c.args.line.now) (sym c.if-is_empty.ensures)) ∙ ap as_some c.in-Ok.ensures

pub returns-in-Ok-clause-event : goal.returns-in-Ok-clause-event
returns-in-Ok-clause-event c = event_read c.args.shape.now c.args.line.now c.in-Ok.event (returns-in-Ok-clause-read c)

pub returns-in-Err-clause-read : goal.returns-in-Err-clause-read
returns-in-Err-clause-read c =
    let some = some_left (length c.args.line.now) (sym c.if-is_empty.ensures) in
    subst (Reads (Err c.in-Err.fault)) (sym (reading_short c.args.shape.now c.args.line.now c.if-line-gt-LINE_LIMIT.false some)) (reads_fault c.in-Err.fault (line_reading c.args.shape.now c.args.line.now) c.in-Err.ensures)

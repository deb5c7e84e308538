use Rattle.std.proofs.Common.{List, ◌++◌, ap, ◌∙◌}
use Rattle.cedr_base.specs.declared.change.Message.{Message}
use Rattle.cedr_source.specs.declared.step.SourceStep.TheVariants as step
use Rattle.cedr_worker.proofs.ReadingLemmas.{told_as, gave, closed, refused, lacked, step_behind, advanced_behind}
use Rattle.cedr_worker.proofs.reading.take_step.Goals as goal

pub read_block-requires-clause-goes_on : goal.read_block-requires-clause-goes_on
read_block-requires-clause-goes_on g c =
    let r = c.requires.reads in
    let answered = c.in-Ok-NotYet.ensures.answered in
    (told_as c.take_line.new.self r.0 r.1 r.2 answered.appended.added c.in-Ok-NotYet.field-0 step.NotYet c.in-Ok-NotYet.field-0-is (answered.says r.0 r.1 r.2 r.3)).1.goes_on

pub returns-in-Ok-Line-clause-took : goal.returns-in-Ok-Line-clause-took
returns-in-Ok-Line-clause-took g c = λ shape bytes given reads.
    let answered = c.in-Ok-Line.ensures.answered in
    gave _ _ _ _ shape bytes given reads c.take_line.ensures.finished c.take_line.new.out answered.appended.added (answered.appended.all ∙ ap (λ (ms : List Message). ms ++ answered.appended.added) c.new-messages.ensures.items) (told_as c.take_line.new.self shape bytes given answered.appended.added c.in-Ok-Line.field-0 step.Line c.in-Ok-Line.field-0-is (answered.says shape bytes given reads))

pub returns-in-Ok-NotYet-clause-took : goal.returns-in-Ok-NotYet-clause-took
returns-in-Ok-NotYet-clause-took g c = λ shape bytes given reads.
    let answered = c.in-Ok-NotYet.ensures.answered in
    let said = told_as c.take_line.new.self shape bytes given answered.appended.added c.in-Ok-NotYet.field-0 step.NotYet c.in-Ok-NotYet.field-0-is (answered.says shape bytes given reads) in
    step_behind _ _ _ _ _ _ _ _ shape bytes given c.take_line.ensures.finished (c.read_block.ensures.took shape bytes given said.0 said.1.within)

pub returns-in-Ok-NotYet-clause-advanced : goal.returns-in-Ok-NotYet-clause-advanced
returns-in-Ok-NotYet-clause-advanced g c = λ shape bytes given reads.
    let answered = c.in-Ok-NotYet.ensures.answered in
    let said = told_as c.take_line.new.self shape bytes given answered.appended.added c.in-Ok-NotYet.field-0 step.NotYet c.in-Ok-NotYet.field-0-is (answered.says shape bytes given reads) in
    advanced_behind c.read_block.result _ _ _ _ _ shape bytes given reads said.0 c.take_line.ensures.finished (c.read_block.ensures.came shape bytes given said.0 said.1.within)

pub returns-in-Ok-Closed-clause-took : goal.returns-in-Ok-Closed-clause-took
returns-in-Ok-Closed-clause-took g c = λ shape bytes given reads.
    let answered = c.in-Ok-Closed.ensures.answered in
    closed _ _ _ _ shape bytes given reads c.take_line.ensures.finished answered.appended.added (told_as c.take_line.new.self shape bytes given answered.appended.added c.in-Ok-Closed.field-0 step.Closed c.in-Ok-Closed.field-0-is (answered.says shape bytes given reads))

pub returns-in-Ok-Refused-clause-took : goal.returns-in-Ok-Refused-clause-took
returns-in-Ok-Refused-clause-took g c = λ shape bytes given reads.
    let answered = c.in-Ok-Refused.ensures.answered in
    refused _ _ _ _ shape bytes given reads c.take_line.ensures.finished c.in-Ok-Refused.refusal answered.appended.added (told_as c.take_line.new.self shape bytes given answered.appended.added c.in-Ok-Refused.field-0 (step.Refused c.in-Ok-Refused.refusal) c.in-Ok-Refused.field-0-is (answered.says shape bytes given reads))

pub returns-in-Err-clause-took : goal.returns-in-Err-clause-took
returns-in-Err-clause-took g c = λ shape bytes given reads.
    lacked _ _ _ _ shape bytes given reads c.take_line.ensures.finished

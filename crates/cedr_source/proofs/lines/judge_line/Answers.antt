use Rattle.std.proofs.Common.{ap, sym, subst, Ok, ◌∙◌}
use Rattle.cedr_guard.specs.Sources.{with_reading}
use Rattle.cedr_source.specs.Steps.{JudgesLine}
use Rattle.cedr_source.proofs.ReadsLemmas.{event_judged}
use Rattle.cedr_source.proofs.lines.judge_line.Goals as goal

pub returns-in-Ok-Some-clause-judged : goal.returns-in-Ok-Some-clause-judged
returns-in-Ok-Some-clause-judged c = λ before guards.
    subst (λ now. JudgesLine c.accept.result c.accept.new.self before now c.args.out.now.items c.accept.new.out.items) (sym (ap (with_reading before) (c.in-Ok-Some.ensures.read ∙ ap (λ said. Ok said) c.in-Ok-Some.field-0-is)))
    (event_judged c.accept.result c.args.guard.now c.accept.new.self c.in-Ok-Some.event c.args.out.now.items c.accept.new.out.items c.accept.ensures.judged c.accept.ensures.appends c.accept.ensures.stands before guards)

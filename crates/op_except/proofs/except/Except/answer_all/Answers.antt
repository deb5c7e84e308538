use Rattle.std.proofs.Common.{List, ◌++◌, ap, ◌∙◌}
use Rattle.cedr_base.specs.declared.change.Change.{Change}
use Rattle.op_except.proofs.PortAnswers.{all_stands}
use Rattle.op_except.proofs.except.Except.answer_all.Goals as goal

pub answer-requires : goal.answer-requires
answer-requires c = (c.requires.0, c.requires.1, c.requires.2.sides, c.requires.3)

pub returns-clause-stands : goal.returns-clause-stands
returns-clause-stands c = λ tables marks after h can moved.
    let a = c.in_ok-answer.ensures.ok tables marks after h.sides can moved in
    all_stands c.args.self.now c.answer.new.self c.note_all.new.self tables marks c.args.port after c.new-changes.result.items c.answer.new.out.items c.as_slice.result.now c.answer.ensures.tests c.answer.ensures.parts h a
    (c.as_slice.ensures.value ∙ (a.appended ∙ ap (λ (cs : List Change). cs ++ a.changes) c.new-changes.ensures.items)) c.in_ok-note_all.ensures

pub returns-clause-repairs : goal.returns-clause-repairs
returns-clause-repairs c = λ tables marks after h can moved.
    let a = c.in_ok-answer.ensures.ok tables marks after h.sides can moved in
    record {
      changes = a.changes;
      appended = c.in_ok-push_changes.ensures.ok ∙ ap (λ (cs : List Change). c.args.out.now.items ++ cs) (a.appended ∙ ap (λ (cs : List Change). cs ++ a.changes) c.new-changes.ensures.items);
      repair = a.repair;
    }

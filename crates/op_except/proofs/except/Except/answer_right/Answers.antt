use Rattle.std.proofs.Common.{ap, ◌∙◌}
use Rattle.cedr_base.specs.declared.row.Row.{Row}
use Rattle.cedr_expr.specs.Tags.{right_tag}
use Rattle.op_except.proofs.SideLemmas.{filed_there, right_follows}
use Rattle.op_except.proofs.PortAnswers.{right_answered}
use Rattle.op_except.proofs.except.Except.answer_right.Goals as goal

pub take_out-requires-clause-there : goal.take_out-requires-clause-there
take_out-requires-clause-there c =
    let stands = c.requires.2 in
    filed_there (right_tag c.args.self.now.width c.args.self.now.tests) c.args.change c.side_tag-tag.result c.args.self.now.right stands.rights
    (c.side_tag-tag.ensures ∙ ap (λ (row : Row). right_tag c.args.self.now.width c.args.self.now.tests row.payload) c.row.ensures)
    stands.right (right_follows stands.lefts stands.rights c.requires.0 c.requires.1 c.args.change stands.kept c.requires.3)

pub take_out-requires-clause-ends : goal.take_out-requires-clause-ends
take_out-requires-clause-ends c = c.requires.2.right.ends

pub returns-clause-ok : goal.returns-clause-ok
returns-clause-ok c = λ tables marks after stands can moved.
    right_answered c.args.self.now c.args.change c.side_tag-tag.result c.args.out.now.items c.turn_under.new.out.items c.turn_under-2.new.out.items c.take_out.new.filed c.put_in.new.filed
    (c.side_tag-tag.ensures ∙ ap (λ (row : Row). right_tag c.args.self.now.width c.args.self.now.tests row.payload) c.row.ensures)
    c.in_ok-take_out.ensures.here c.in_ok-take_out.ensures.others c.in_ok-take_out.ensures.ends c.in_ok-take_out.ensures.ordered
    c.in_ok-turn_under.ensures.ok c.in_ok-turn_under-2.ensures.ok
    c.in_ok-put_in.ensures.here c.in_ok-put_in.ensures.others c.in_ok-put_in.ensures.ends c.in_ok-put_in.ensures.ordered
    tables marks after stands can moved

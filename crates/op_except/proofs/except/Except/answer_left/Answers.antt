use Rattle.std.proofs.Common.{ℕ, List, ap, ◌∙◌, subst}
use Rattle.std.specs.List.{filter}
use Rattle.cedr_base.specs.declared.row.Row.{Row}
use Rattle.cedr_base.specs.Rows.{SameRows}
use Rattle.cedr_base.specs.Changes.{sync_of}
use Rattle.cedr_expr.specs.declared.test.Test.{Test}
use Rattle.cedr_expr.specs.Tags.{left_tag}
use Rattle.filed_rows.specs.Filed.{right_partners}
use Rattle.filed_rows.specs.Spans.{lives_within}
use Rattle.op_except.specs.Parts.{excepted}
use Rattle.op_except.specs.Answered.{ExceptAnswered}
use Rattle.op_except.proofs.SideLemmas.{filed_there, left_follows}
use Rattle.op_except.proofs.PortAnswers.{left_answered}
use Rattle.op_except.proofs.except.Except.answer_left.Goals as goal

pub note-requires-2-clause-there : goal.note-requires-2-clause-there
note-requires-2-clause-there c =
    let stands = c.in_ok-settle.ensures.stands c.requires.0 c.requires.1 c.requires.2 in
    filed_there (left_tag c.settle.new.self.width c.settle.new.self.tests) c.args.change c.side_tag-tag.result c.settle.new.self.left stands.lefts
    (c.side_tag-tag.ensures ∙ ap (λ (row : Row). left_tag c.settle.new.self.width c.settle.new.self.tests row.payload) c.row-row.ensures)
    stands.left (left_follows stands.lefts stands.rights c.requires.0 c.requires.1 c.args.change stands.kept c.requires.3)

pub note-requires-2-clause-ends : goal.note-requires-2-clause-ends
note-requires-2-clause-ends c = (c.in_ok-settle.ensures.stands c.requires.0 c.requires.1 c.requires.2).left.ends

pub returns-clause-ok : goal.returns-clause-ok
returns-clause-ok c = λ tables marks after stands can moved.
    subst (λ (tests : List Test). ExceptAnswered tests (record c.settle.new.self { left = c.note-2.new.self; lives = c.note.new.self }) tables marks 0 after c.args.out.now.items c.push_own.new.out.items) c.settle.ensures.tests
    (left_answered c.settle.new.self c.args.change c.side_tag-tag.result c.args.out.now.items c.push_own.new.out.items c.note-2.new.self c.note.new.self c.in_ok-found.found.items
    (c.side_tag-tag.ensures ∙ ap (λ (row : Row). left_tag c.settle.new.self.width c.settle.new.self.tests row.payload) c.row-row.ensures)
    (λ are. subst (λ (r : Row). SameRows c.in_ok-found.found.items (filter (lives_within (sync_of c.args.change) r.end) (excepted c.settle.new.self.tests (right_partners c.settle.new.self.right.by_tag.entries c.side_tag-tag.result) r))) c.row-row.ensures
    (subst (λ (n : ℕ). SameRows c.in_ok-found.found.items (filter (lives_within n c.row-row.result.now.end) (excepted c.settle.new.self.tests (right_partners c.settle.new.self.right.by_tag.entries c.side_tag-tag.result) c.row-row.result.now))) c.sync.ensures (c.in_ok-found.ensures are)))
    c.in_ok-push_own.ensures.ok c.in_ok-note.ensures c.in_ok-note-2.ensures.here c.in_ok-note-2.ensures.others c.in_ok-note-2.ensures.ends c.in_ok-note-2.ensures.ordered
    tables marks after (c.in_ok-settle.ensures.stands tables marks stands) can moved)

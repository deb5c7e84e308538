-- A change is answered at the settled width.
use Rattle.std.proofs.Common.{ℕ, List, ap, ◌∙◌, subst, sym}
use Rattle.cedr_base.specs.declared.row.Row.{Row}
use Rattle.cedr_expr.specs.declared.test.Test.{Test}
use Rattle.cedr_table.specs.Operators.{CanTake, table_at, least_of}
use Rattle.cedr_expr.specs.Tags.{left_tag, right_tag}
use Rattle.op_join.specs.Joins.{join_of, StandsAfter, StandsOnTwo, RepairsAfter}
use Rattle.filed_rows.proofs.NoteLemmas.{row_there}
use Rattle.op_join.proofs.KeepLemmas.{may_follow_kept}
use Rattle.op_join.proofs.PortLemmas.{from_least, left_stands, left_gains, right_stands, right_gains, second_port}
use Rattle.op_join.proofs.join.Join.answer.Goals as goal

pub note-requires-clause-there : goal.note-requires-clause-there
note-requires-clause-there c =
    let join = c.settle.new.self in
    let stands = c.in_ok-settle.ensures.stands c.requires.0 c.requires.1 c.requires.2 in
    let can = subst (λ (port : ℕ). CanTake c.requires.0 c.requires.1 port c.args.change) c.if-port-eq0.true c.requires.3 in
    row_there (left_tag join.width join.tests) c.args.change c.side_tag-tag.result join.left.by_tag.entries stands.lefts.kept
    (c.side_tag-tag.ensures ∙ ap (λ (row : Row). left_tag c.settle.new.self.width c.settle.new.self.tests row.payload) c.row-row.ensures)
    stands.lefts.files
    (may_follow_kept (left_tag join.width join.tests) join.left (least_of c.requires.1) (table_at c.requires.0 0) stands.lefts c.args.change (from_least c.requires.0 c.requires.1 0 c.args.change stands.mark stands.table can) can.legal)

pub note-requires-clause-ends : goal.note-requires-clause-ends
note-requires-clause-ends c = (c.in_ok-settle.ensures.stands c.requires.0 c.requires.1 c.requires.2).lefts.ends

pub returns-in_ok-note-clause-stands : goal.returns-in_ok-note-clause-stands
returns-in_ok-note-clause-stands c =
    let was = c.args.self.now in
    let join = c.settle.new.self in
    subst (λ (port : ℕ). StandsAfter (StandsOnTwo was.tests was.width was.left was.right) (StandsOnTwo join.tests join.width c.note.new.self join.right) port c.args.change) (sym c.if-port-eq0.true)
    (λ tables marks rows before can moved.
    left_stands join.tests join.width join.left join.right tables marks (c.in_ok-settle.ensures.stands tables marks before) c.args.change rows c.side_tag-tag.result c.note.new.self c.in_ok-note.ensures.ends c.in_ok-note.ensures.ordered can moved
    (c.side_tag-tag.ensures ∙ ap (λ (row : Row). left_tag c.settle.new.self.width c.settle.new.self.tests row.payload) c.row-row.ensures)
    c.in_ok-note.ensures.here c.in_ok-note.ensures.others)

pub returns-in_ok-note-clause-repairs : goal.returns-in_ok-note-clause-repairs
returns-in_ok-note-clause-repairs c =
    let was = c.args.self.now in
    let join = c.settle.new.self in
    subst (λ (port : ℕ). RepairsAfter (StandsOnTwo was.tests was.width was.left was.right) (join_of was.tests) port c.args.change c.args.out.now.items c.repair_right.new.out.items) (sym c.if-port-eq0.true)
    (subst (λ (tests : List Test). RepairsAfter (StandsOnTwo was.tests was.width was.left was.right) (join_of tests) 0 c.args.change c.args.out.now.items c.repair_right.new.out.items) c.settle.ensures.tests
    (λ tables marks rows before can moved.
    left_gains join.tests join.width join.left join.right tables marks (c.in_ok-settle.ensures.stands tables marks before) c.args.change rows c.side_tag-tag.result c.args.out.now.items c.repair_right.new.out.items can moved
    (c.side_tag-tag.ensures ∙ ap (λ (row : Row). left_tag c.settle.new.self.width c.settle.new.self.tests row.payload) c.row-row.ensures)
    c.in_ok-repair_right.ensures.ok))

pub note-requires-else-port-eq0-clause-there : goal.note-requires-else-port-eq0-clause-there
note-requires-else-port-eq0-clause-there c =
    let join = c.args.self.now in
    let stands = c.requires.2 in
    let can = subst (λ (port : ℕ). CanTake c.requires.0 c.requires.1 port c.args.change) (second_port c.requires.0 c.requires.1 c.args.port c.args.change stands.table c.if-port-eq0.false c.requires.3) c.requires.3 in
    row_there (right_tag join.width join.tests) c.args.change c.side_tag-tag-else-port-eq0.result join.right.by_tag.entries stands.rights.kept
    (c.side_tag-tag-else-port-eq0.ensures ∙ ap (λ (row : Row). right_tag c.args.self.now.width c.args.self.now.tests row.payload) c.row-row.ensures)
    stands.rights.files
    (may_follow_kept (right_tag join.width join.tests) join.right (least_of c.requires.1) (table_at c.requires.0 1) stands.rights c.args.change (from_least c.requires.0 c.requires.1 1 c.args.change stands.mark stands.table can) can.legal)

pub note-requires-else-port-eq0-clause-ends : goal.note-requires-else-port-eq0-clause-ends
note-requires-else-port-eq0-clause-ends c = c.requires.2.rights.ends

pub returns-in_ok-note-2-clause-stands : goal.returns-in_ok-note-2-clause-stands
returns-in_ok-note-2-clause-stands c =
    let join = c.args.self.now in
    subst (λ (port : ℕ). StandsAfter (StandsOnTwo join.tests join.width join.left join.right) (StandsOnTwo join.tests join.width join.left c.note-else-port-eq0.new.self) port c.args.change)
    (sym (second_port c.requires.0 c.requires.1 c.args.port c.args.change c.requires.2.table c.if-port-eq0.false c.requires.3))
    (λ tables marks rows before can moved.
    right_stands join.tests join.width join.left join.right tables marks before c.args.change rows c.side_tag-tag-else-port-eq0.result c.note-else-port-eq0.new.self c.in_ok-note-2.ensures.ends c.in_ok-note-2.ensures.ordered can moved
    (c.side_tag-tag-else-port-eq0.ensures ∙ ap (λ (row : Row). right_tag c.args.self.now.width c.args.self.now.tests row.payload) c.row-row.ensures)
    c.in_ok-note-2.ensures.here c.in_ok-note-2.ensures.others)

pub returns-in_ok-note-2-clause-repairs : goal.returns-in_ok-note-2-clause-repairs
returns-in_ok-note-2-clause-repairs c =
    let join = c.args.self.now in
    subst (λ (port : ℕ). RepairsAfter (StandsOnTwo join.tests join.width join.left join.right) (join_of join.tests) port c.args.change c.args.out.now.items c.repair_left.new.out.items)
    (sym (second_port c.requires.0 c.requires.1 c.args.port c.args.change c.requires.2.table c.if-port-eq0.false c.requires.3))
    (λ tables marks rows before can moved.
    right_gains join.tests join.width join.left join.right tables marks before c.args.change rows c.side_tag-tag-else-port-eq0.result c.args.out.now.items c.repair_left.new.out.items can moved
    (c.side_tag-tag-else-port-eq0.ensures ∙ ap (λ (row : Row). right_tag c.args.self.now.width c.args.self.now.tests row.payload) c.row-row.ensures)
    c.in_ok-repair_left.ensures.ok)

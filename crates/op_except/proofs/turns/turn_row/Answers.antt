use Rattle.std.proofs.Common.{[], true, false, refl, sym, ◌∙◌}
use Rattle.std.proofs.lemmas.Result.{on_ok_weaker}
use Rattle.std.proofs.lemmas.List.{append-nil}
use Rattle.cedr_base.specs.Changes.{sync_of}
use Rattle.filed_rows.specs.Filed.{right_partners}
use Rattle.op_except.proofs.TurnedLemmas.{row_answered}
use Rattle.op_except.proofs.turns.turn_row.Goals as goal

pub returns-in_ok-found-clause-ok : goal.returns-in_ok-found-clause-ok
returns-in_ok-found-clause-ok c = on_ok_weaker c.turn_parts.result
    (λ appended. row_answered c.args.tests.now c.args.change.now (right_partners c.args.right.now.entries c.args.tag) c.args.row.now c.row-other.result.now c.in_ok-found.found.items c.args.out.now.items c.turn_parts.new.out.items c.sync.result true
    c.row-other.ensures c.sync.ensures (sym c.holds.ensures ∙ c.if-holds.true) appended (λ yes are. c.in_ok-found.ensures are))
    c.turn_parts.ensures.ok

pub returns-else-holds-clause-ok : goal.returns-else-holds-clause-ok
returns-else-holds-clause-ok c =
    row_answered c.args.tests.now c.args.change.now (right_partners c.args.right.now.entries c.args.tag) c.args.row.now c.row-other.result.now [] c.args.out.now.items c.args.out.now.items (sync_of c.args.change.now) false
    c.row-other.ensures refl (sym c.holds.ensures ∙ c.if-holds.false) (sym (append-nil c.args.out.now.items)) (λ yes are. cc)

use Rattle.std.proofs.Common.{[], arith, subst, sym}
use Rattle.cedr_base.specs.declared.change.Change.{Change}
use Rattle.cedr_base.specs.Changes.{MayFollow}
use Rattle.change_laws.specs.Repairs.{IsMoved}
use Rattle.cedr_table.proofs.Changing.{next_follows, leads_further}
use Rattle.cedr_table.proofs.applying.apply_all.Goals as goal

pub apply_one-requires : goal.apply_one-requires
apply_one-requires c =
    subst (λ (x : Change). MayFollow c.loop-change.table [] x) (sym c.change-item.is)
    (next_follows c.args.table.now c.loop-change.table c.args.changes.now c.loop-change.change-index c.change-item.result c.requires (omega arith) c.loop-change.invariant)

pub loop-change-preserved : goal.loop-change-preserved
loop-change-preserved c =
    leads_further c.args.table.now c.loop-change.table c.apply_one.new.table c.args.changes.now c.loop-change.change-index c.change-item.result (omega arith) c.loop-change.invariant
    (subst (λ (x : Change). IsMoved x c.loop-change.table c.apply_one.new.table) c.change-item.is c.in_ok-apply_one.ensures)

use Rattle.std.proofs.Common.{not}
use Rattle.node_laws.specs.Pass.{is_blocked}
use Rattle.cedr_base.specs.declared.row.Row.{Row}
use Rattle.cedr_align.proofs.MoveLemmas.{moved_some, moved_fewer, moved_none}
use Rattle.cedr_align.proofs.held.Held.release_unblocked.Goals as goal

pub loop-row-smaller : goal.loop-row-smaller
loop-row-smaller c = moved_fewer (λ (r : Row). not (is_blocked c.args.block c.args.high r)) c.loop-row.self c.take_unblocked.new.self c.take_unblocked.result _ _ c.in-Some.is c.take_unblocked.ensures

pub loop-row-preserved : goal.loop-row-preserved
loop-row-preserved c = moved_some (λ (r : Row). not (is_blocked c.args.block c.args.high r)) c.args.self.now c.loop-row.self c.take_unblocked.new.self c.args.released.now.items c.loop-row.released.items c.push_copies.new.rows.items c.take_unblocked.result _ _ c.in-Some.is c.take_unblocked.ensures c.in_ok-push_copies.ensures c.loop-row.invariant

pub returns : goal.returns
returns c = moved_none (λ (r : Row). not (is_blocked c.args.block c.args.high r)) c.args.self.now c.loop-row.self c.take_unblocked.new.self c.args.released.now.items c.loop-row.released.items c.take_unblocked.result c.in_default.not-Some c.take_unblocked.ensures c.loop-row.invariant

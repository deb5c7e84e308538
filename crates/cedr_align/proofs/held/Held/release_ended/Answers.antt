use Rattle.cedr_align.specs.Moving.{has_ended}
use Rattle.cedr_align.proofs.MoveLemmas.{moved_some, moved_fewer, moved_none}
use Rattle.cedr_align.proofs.held.Held.release_ended.Goals as goal

pub loop-row-smaller : goal.loop-row-smaller
loop-row-smaller c = moved_fewer (has_ended c.args.ended c.args.mark) c.loop-row.self c.take_ended.new.self c.take_ended.result _ _ c.in-Some.is c.take_ended.ensures

pub loop-row-preserved : goal.loop-row-preserved
loop-row-preserved c = moved_some (has_ended c.args.ended c.args.mark) c.args.self.now c.loop-row.self c.take_ended.new.self c.args.released.now.items c.loop-row.released.items c.push_copies.new.rows.items c.take_ended.result _ _ c.in-Some.is c.take_ended.ensures c.in_ok-push_copies.ensures c.loop-row.invariant

pub returns : goal.returns
returns c = moved_none (has_ended c.args.ended c.args.mark) c.args.self.now c.loop-row.self c.take_ended.new.self c.args.released.now.items c.loop-row.released.items c.take_ended.result c.in_default.not-Some c.take_ended.ensures c.loop-row.invariant

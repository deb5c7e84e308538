use Rattle.std.proofs.Common.{sym}
use Rattle.std.proofs.lemmas.Result.{on_ok_weaker}
use Rattle.cedr_script.specs.Cutters.{begun_of}
use Rattle.plan_follow.proofs.PieceLemmas.{more_taken}
use Rattle.plan_follow.proofs.script.take_more.Goals as goal

pub returns-else-is_empty : goal.returns-else-is_empty
returns-else-is_empty c = on_ok_weaker c.take_piece.result (λ follows.
    more_taken c.args.nodes.now c.args.shapes.now c.args.name.now c.args.follower.now c.take_piece.new.follower (begun_of c.args.cutter.now) (begun_of c.take_piece.new.cutter) c.args.piece.now (sym c.if-is_empty.ensures) follows)
    c.take_piece.ensures

use Rattle.std.proofs.Common.{◌∙◌, sym}
use Rattle.op_group.proofs.PointLemmas.{placed, leaves_one, some_from_empty}
use Rattle.op_group.proofs.forget.drop_empty.Goals as goal

pub returns-then-is_empty_from-clause-points : goal.returns-then-is_empty_from-clause-points
returns-then-is_empty_from-clause-points c = leaves_one c.args.point.now.at c.args.point.now.key c.args.cuts.now.entries c.remove.new.self.entries c.args.all.now.keys c.remove-then-is_empty_from.new.self.keys
    (some_from_empty _ (sym c.is_empty_from.ensures ∙ c.if-is_empty_from.true)) c.remove.ensures.updates.0
    (placed c.args.all.now.keys c.remove-then-is_empty_from.new.self.keys c.args.point.now.at c.args.point.now.key _ c.remove-then-is_empty_from.ensures.updates.0)

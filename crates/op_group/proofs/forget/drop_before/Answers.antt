use Rattle.std.proofs.Common.{◌∙◌, subst, arith, List, false}
use Rattle.cedr_base.specs.declared.field.Field.{Field}
use Rattle.op_group.specs.Points.{Leaves}
use Rattle.op_group.proofs.PointLemmas.{placed, leaves_one, leaves_both, fewer_cuts, other_cut}
use Rattle.op_group.proofs.forget.drop_before.Goals as goal

pub loop-before-preserved : goal.loop-before-preserved
loop-before-preserved c =
    let inv = c.loop-before.invariant in
    let step = c.in-Some.ensures.some in
    let one = leaves_one c.in-Some.before c.loop-before.point.key c.loop-before.cuts.entries c.take_before.new.cuts.entries c.loop-before.all.keys c.remove.new.self.keys step.1 step.2
    (placed c.loop-before.all.keys c.remove.new.self.keys c.in-Some.before c.loop-before.point.key false c.remove.ensures.updates.0) in
    record {
      same_key = inv.same_key;
      kept = λ u late. other_cut c.in-Some.before u c.loop-before.cuts.entries c.take_before.new.cuts.entries step.2 (let early = step.0 in omega arith) ∙ inv.kept u late;
      left = leaves_both c.args.point.now.key c.args.cuts.now.entries c.loop-before.cuts.entries c.take_before.new.cuts.entries c.args.all.now.keys c.loop-before.all.keys c.remove.new.self.keys inv.left
          (subst (λ (k : List Field). Leaves k c.loop-before.cuts.entries c.take_before.new.cuts.entries c.loop-before.all.keys c.remove.new.self.keys) inv.same_key one)
          inv.fewer (fewer_cuts c.in-Some.before c.loop-before.cuts.entries c.take_before.new.cuts.entries step.2);
      fewer = λ u some. inv.fewer u (fewer_cuts c.in-Some.before c.loop-before.cuts.entries c.take_before.new.cuts.entries step.2 u some);
    }

use Rattle.std.proofs.Common.{subst, true, false, Bool, List}
use Rattle.cedr_base.specs.declared.field.Field.{Field}
use Rattle.op_group.specs.Points.{Places}
use Rattle.op_group.proofs.PointLemmas.{placed, in_place, told_same, told_other}
use Rattle.op_group.proofs.points.place.Goals as goal

pub returns-then-was-there : goal.returns-then-was-there
returns-then-was-there c = λ had.
    subst (λ (b : Bool). Places c.args.points.now.keys c.args.points.now.keys c.args.point.now.at c.args.point.now.key b) (told_same c.args.was c.args.there c.if-was-there.true)
    (in_place c.args.points.now.keys c.args.point.now.at c.args.point.now.key c.args.was had)

pub returns-then-was : goal.returns-then-was
returns-then-was c = λ had.
    subst (λ (b : Bool). Places c.args.points.now.keys c.remove.new.self.keys c.args.point.now.at c.args.point.now.key b) (told_other c.args.was true c.args.there c.if-was.true c.if-was-there.false)
    (placed c.args.points.now.keys c.remove.new.self.keys c.args.point.now.at c.args.point.now.key false c.remove.ensures.updates.0)

pub returns : goal.returns
returns c = λ had.
    subst (λ (b : Bool). Places c.args.points.now.keys c.insert.new.self.keys c.args.point.now.at c.args.point.now.key b) (told_other c.args.was false c.args.there c.if-was.false c.if-was-there.false)
    (subst (λ (k : List Field). Places c.args.points.now.keys c.insert.new.self.keys c.args.point.now.at k true) c.in_ok-key.ensures (placed c.args.points.now.keys c.insert.new.self.keys c.args.point.now.at c.in_ok-key.key true c.in_ok-insert.ensures.updates.0))

use Rattle.std.proofs.Common.{sym, subst, ◌∙◌}
use Rattle.op_group.specs.State.{KeepsGroups, KeepsFields}
use Rattle.op_group.proofs.PassLemmas.{keeps_passed}
use Rattle.op_group.proofs.FieldLemmas.{fields_settled, fields_risen}
use Rattle.op_group.proofs.forget.forget.Goals as goal

pub loop-point-init : goal.loop-point-init
loop-point-init c = record { keeps = λ g rows keeps. keeps; fields = λ g rows keeps. fields_risen g c.args.bags.now c.args.points.now.due.keys rows c.args.mark c.max-bags.result c.max-bags.ensures keeps }

pub loop-point-preserved : goal.loop-point-preserved
loop-point-preserved c = record {
  keeps = λ g rows keeps. keeps_passed g c.loop-point.groups.entries c.settle.new.groups.entries c.loop-point.points.all.keys c.settle.new.all.keys c.loop-point.points.due.keys c.take_first.new.due.keys rows c.args.mark c.in-Some.point c.in-Some.ensures.some c.settle.ensures (c.loop-point.invariant.keeps g rows keeps);
  fields = λ g rows keeps.
      let was = c.loop-point.invariant.fields g rows keeps in (
        fields_settled g c.loop-point.bags c.forget_fields.new.bags c.loop-point.points.due.keys c.take_first.new.due.keys rows c.args.mark c.in-Some.point c.in-Some.ensures.some c.forget_fields.ensures.settles c.forget_fields.ensures.live was.1 was.0,
        c.forget_fields.ensures.settles.passed ∙ was.1,
      );
}

pub returns-clause-keeps : goal.returns-clause-keeps
returns-clause-keeps c = λ g rows keeps. subst (λ due. KeepsGroups g c.loop-point.groups.entries c.loop-point.points.all.keys due rows c.args.mark) (sym c.in_default.ensures.same) (c.loop-point.invariant.keeps g rows keeps)

pub returns-clause-fields : goal.returns-clause-fields
returns-clause-fields c = λ g rows keeps. subst (λ due. KeepsFields g c.loop-point.bags due rows c.args.mark) (sym c.in_default.ensures.same) (c.loop-point.invariant.fields g rows keeps).0

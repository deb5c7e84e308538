use Rattle.std.proofs.Common.{◌-◌, ◌+◌, ◌∙◌, sym, arith}
use Rattle.cedr_base.proofs.CodeOrder.{front_first, front_grows, differ_first, level_first, shorter_first}
use Rattle.cedr_base.proofs.code_order.compare_codes.Goals as goal

pub returns-then-a-b : goal.returns-then-a-b
returns-then-a-b c =
    let fronts = front_first 8 c.first_eight-a.result c.first_eight-b.result c.loop-at.at c.loop-at.at c.args.one.now c.args.other.now (omega arith) c.loop-at.invariant.same c.first_eight-a.type_inv c.first_eight-b.type_inv c.first_eight-a.ensures c.first_eight-b.ensures in
    c.cmp.ensures ∙ differ_first c.first_eight-a.result c.first_eight-b.result _ _ fronts c.if-a-b.true

pub loop-at-preserved : goal.loop-at-preserved
loop-at-preserved c = record {
  within = omega arith;
  same = front_grows 8 c.first_eight-a.result c.first_eight-b.result c.loop-at.at c.args.one.now c.args.other.now c.if-a-b.false c.first_eight-a.ensures c.first_eight-b.ensures c.loop-at.invariant.same;
}

pub returns-then-a-b-2 : goal.returns-then-a-b-2
returns-then-a-b-2 c =
    let fronts = front_first 8 c.first_eight-a-2.result c.first_eight-b-2.result (c.min-both.result - 8) c.loop-at.at c.args.one.now c.args.other.now c.loop-at-test.false c.loop-at.invariant.same c.first_eight-a-2.type_inv c.first_eight-b-2.type_inv c.first_eight-a-2.ensures c.first_eight-b-2.ensures in
    c.cmp-then-a-b-2.ensures ∙ differ_first c.first_eight-a-2.result c.first_eight-b-2.result _ _ fronts c.if-a-b-2.true

pub returns : goal.returns
returns c =
    let fronts = front_first 8 c.first_eight-a-2.result c.first_eight-b-2.result (c.min-both.result - 8) c.loop-at.at c.args.one.now c.args.other.now c.loop-at-test.false c.loop-at.invariant.same c.first_eight-a-2.type_inv c.first_eight-b-2.type_inv c.first_eight-a-2.ensures c.first_eight-b-2.ensures in
    c.cmp-2.ensures ∙ sym (shorter_first c.args.one.now c.args.other.now (c.min-both.result - 8 + 8) (omega arith)) ∙ level_first c.first_eight-a-2.result c.first_eight-b-2.result _ _ fronts c.if-a-b-2.false

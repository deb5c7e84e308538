use Rattle.op_except.proofs.TurnedLemmas.{all_none, all_copies}
use Rattle.op_except.proofs.RangeLemmas.{kept_itself, kept_along}
use Rattle.std.proofs.Common.{◌≡◌, ℕ, replicate, subst, arith}
use Rattle.filed_rows.specs.Filed.{right_partners}
use Rattle.op_except.proofs.TurnedLemmas.{CanAll}
use Rattle.op_except.proofs.turns.turn_copies.Goals as goal

pub loop-init : goal.loop-init
loop-init c = record { turned = all_none c.args.tests.now c.args.change.now (right_partners c.args.right.now.entries c.args.tag) c.args.out.now.items; kept = kept_itself c.args.out.now.items }

pub loop-preserved : goal.loop-preserved
loop-preserved c = record {
  turned = all_copies c.args.tests.now c.args.change.now (right_partners c.args.right.now.entries c.args.tag) c.loop.counter c.args.row.now c.args.out.now.items c.loop.out.items c.turn_row.new.out.items c.loop.invariant.turned c.in_ok-turn_row.ensures.ok;
  kept = kept_along c.args.out.now.items c.loop.out.items c.turn_row.new.out.items c.loop.invariant.kept c.turn_row.ensures.kept;
}

pub returns-clause-ok : goal.returns-clause-ok
returns-clause-ok c =
    let whole : c.loop.counter ≡ c.args.count = (let most = c.loop.auto.counter-end in let least = c.loop-test.false in omega arith) in
    subst (λ (n : ℕ). CanAll c.args.tests.now c.args.change.now (right_partners c.args.right.now.entries c.args.tag) (replicate n c.args.row.now) c.args.out.now.items c.loop.out.items) whole c.loop.invariant.turned

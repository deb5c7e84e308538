use Rattle.std.proofs.Common.{rules}
use Rattle.plan_key_choice.proofs.Chosen.{extends_same}
use Rattle.plan_key_choice.proofs.Places.{keyed_at}
use Rattle.plan_key_choice.proofs.search.stands.Goals as goal

pub returns-then-not-branch-clause-none : goal.returns-then-not-branch-clause-none
returns-then-not-branch-clause-none c = λ no columns extends widths keyed.
    c.in_ok-keeps_within.ensures.none (search rules) columns (extends_same c.loop-node.choice c.args.choice.now columns c.loop-node.invariant.same extends) widths (c.requires.known columns widths keyed) (keyed_at columns c.args.nodes.now c.loop-node.node keyed c.loop-node-test.true)

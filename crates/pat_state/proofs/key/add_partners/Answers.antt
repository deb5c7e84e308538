use Rattle.std.proofs.Common.{sym, subst}
use Rattle.cedr_expr.specs.declared.test.Test.{Test}
use Rattle.pat_state.specs.Keys.{IsWanted}
use Rattle.pat_state.proofs.KeyLemmas.{wanted_at}
use Rattle.pat_state.proofs.key.add_partners.Goals as goal

pub loop-test-preserved : goal.loop-test-preserved
loop-test-preserved c = λ column all.
    let tests = c.args.tests.now in
    let wanted = subst (λ (test : Test). IsWanted c.args.tests.now test) (sym c.test-item.is) (wanted_at tests c.loop-test.test-index c.test-item.result c.loop-test-test.true) in
    c.in_ok-add_partner.ensures tests column wanted (c.loop-test.invariant column all)

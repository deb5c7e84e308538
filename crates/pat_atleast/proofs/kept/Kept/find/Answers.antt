use Rattle.std.proofs.Common.{List, ℕ, sym, subst}
use Rattle.std.proofs.lemmas.List.Elements.{All-get_or}
use Rattle.pat_atleast.specs.Finding.{found_in}
use Rattle.pat_atleast.specs.Keeping.{bags_in, IsOrderFor}
use Rattle.pat_atleast.proofs.KeptLemmas.{found_more}
use Rattle.pat_atleast.proofs.kept.Kept.find.Goals as goal

pub find_in-requires-clause-order : goal.find_in-requires-clause-order
find_in-requires-clause-order c = subst (λ (order : List ℕ). IsOrderFor c.args.self.now order) (sym c.order-item.is) (All-get_or (IsOrderFor c.args.self.now) c.args.orders.now c.loop-order.order-index c.order-item.result c.loop-order-test.true c.requires.orders)

pub loop-order-preserved : goal.loop-order-preserved
loop-order-preserved c =
    let f = found_in c.args.scope c.args.tests.now c.args.row.now c.args.port (bags_in c.args.self.now) in
    found_more f c.args.orders.now c.loop-order.order-index c.order-item.result c.loop-order.found.items c.in_ok-rows.rows.items c.append.new.to.items c.loop-order-test.true c.order-item.is c.in_ok-append.ensures c.loop-order.invariant c.in_ok-rows.ensures

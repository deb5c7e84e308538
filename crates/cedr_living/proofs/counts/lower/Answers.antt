use Rattle.std.proofs.Common.{◌-◌, arith, rules}
use Rattle.cedr_living.specs.Counts.{key_count}
use Rattle.cedr_living.proofs.CountLemmas.{lowered, lowered_out, updated}
use Rattle.cedr_living.proofs.counts.lower.Goals as goal

pub returns-then-count-le1 : goal.returns-then-count-le1
returns-then-count-le1 g c =
    updated g.K.Ord.cmp c.args.key.now _ _ c.args.counts.now.entries c.remove.new.self.entries
    (lowered_out c.count_in-count.result (key_count g.K.Ord.cmp c.args.counts.now.entries c.args.key.now) c.count_in-count.ensures (omega arith)) c.remove.ensures.updates.0

pub returns-in-Some : goal.returns-in-Some
returns-in-Some g c =
    updated g.K.Ord.cmp c.args.key.now _ _ c.args.counts.now.entries (c.get_mut.follows.lender (c.count_in-count.result - 1)).entries
    (lowered c.count_in-count.result (key_count g.K.Ord.cmp c.args.counts.now.entries c.args.key.now) c.count_in-count.ensures (omega arith)) ((c.get_mut.follows.holds (c.count_in-count.result - 1)).3 (search rules)).0

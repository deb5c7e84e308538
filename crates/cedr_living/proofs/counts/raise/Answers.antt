use Rattle.cedr_living.specs.Counts.{key_count}
use Rattle.cedr_living.proofs.CountLemmas.{raised, updated}
use Rattle.cedr_living.proofs.counts.raise.Goals as goal

pub returns : goal.returns
returns g c = updated g.K.Ord.cmp c.args.key _ _ c.args.counts.now.entries c.insert.new.self.entries (raised c.count_in-count.result (key_count g.K.Ord.cmp c.args.counts.now.entries c.args.key) c.count_in-count.ensures) c.in_ok-insert.ensures.updates.0

use Rattle.std.proofs.Common.{◌≡◌, ◌∷◌, ◌++◌, [], ap, subst, rules}
use Rattle.cedr_pool.proofs.RunLemmas.{stay_more}
use Rattle.cedr_pool.proofs.gathering.+take_workers.Goals as goal

pub returns : goal.returns
returns g t c =
    let is : c.args.tasks.items ≡ c.in-Some.task ∷ c.pop_front.new.self.items = search rules in
    let stays : g.W.Works.stays c.in-Some.task.task c.into_worker.result = subst (λ w. g.W.Works.stays w c.into_worker.result) c.into_task.ensures c.into_worker.ensures in
    λ given stay. stay_more g.W.Works.stays given c.args.workers.now.items c.push_reserved.new.self.items c.take_workers.new.workers.items c.args.tasks.items c.pop_front.new.self.items c.in-Some.task c.into_worker.result is stay stays c.push_reserved.ensures.items (c.take_workers.ensures (given ++ c.in-Some.task.task ∷ []))

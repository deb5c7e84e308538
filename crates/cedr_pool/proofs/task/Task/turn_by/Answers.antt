use Rattle.cedr_pool.proofs.task.Task.turn_by.Goals as goal

pub invariant_of-self : goal.invariant_of-self
invariant_of-self g c = (c.self.invariant.0, g.W.Works.on c.self.inside.first.value c.self.inside.worker c.turn.new.arg2 c.self.invariant.1 (c.requires.leaves _ _ _ c.turn.ensures))

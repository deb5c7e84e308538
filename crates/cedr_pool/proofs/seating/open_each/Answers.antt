use Rattle.std.proofs.Common.{◌≡◌, ◌<◌, [], ◌∷◌, ◌++◌, length, sym, ap, ◌∙◌, subst, arith, rules}
use Rattle.std.specs.List.{All}
use Rattle.std.specs.Vec.{vec_capacity}
use Rattle.std.proofs.lemmas.List.{append-nil}
use Rattle.std.proofs.lemmas.List.Elements.{All-tail}
use Rattle.cedr_pool.specs.Tasks.{numbered_from, tasks_entries}
use Rattle.cedr_pool.proofs.TaskLemmas.{opened_more, opened_room}
use Rattle.cedr_pool.proofs.seating.open_each.Goals as goal

pub loop-worker-init : goal.loop-worker-init
loop-worker-init g c = record {
  works = search rules;
  so = subst (λ ts. tasks_entries ts ++ numbered_from (length ts) c.from_vec-left.result.items ≡ numbered_from 0 c.args.workers.items) (sym c.requires.tasks.0) (ap (numbered_from 0) c.from_vec-left.ensures.items);
  room = search rules;
}

pub push_reserved-requires : goal.push_reserved-requires
push_reserved-requires g c =
    let is : c.loop-worker.left.items ≡ c.in-Some.worker ∷ c.pop_front.new.self.items = search rules in
    let room : length c.loop-worker.tasks.items < vec_capacity c.loop-worker.tasks =
    opened_room c.args.workers.items c.loop-worker.tasks.items c.loop-worker.left.items c.pop_front.new.self.items c.in-Some.worker (vec_capacity c.args.tasks) (vec_capacity c.loop-worker.tasks) c.loop-worker.invariant.so is c.requires.tasks.1 c.loop-worker.invariant.room in
    search rules

pub loop-worker-preserved : goal.loop-worker-preserved
loop-worker-preserved g c =
    let is : c.loop-worker.left.items ≡ c.in-Some.worker ∷ c.pop_front.new.self.items = search rules in
    record {
      works = All-tail g.W.Works.works c.in-Some.worker c.pop_front.new.self.items (subst (All g.W.Works.works) is c.loop-worker.invariant.works);
      so = opened_more c.args.workers.items c.loop-worker.tasks.items c.push_reserved.new.self.items c.loop-worker.left.items c.pop_front.new.self.items c.in-Some.worker _ c.loop-worker.invariant.so is c.push_reserved.ensures.items (search rules);
      room = c.push_reserved.ensures.capacity ∙ c.loop-worker.invariant.room;
    }

pub returns : goal.returns
returns g c =
    let none : c.loop-worker.left.items ≡ [] = search rules in
    sym (append-nil (tasks_entries c.loop-worker.tasks.items)) ∙ (ap (λ ws. tasks_entries c.loop-worker.tasks.items ++ numbered_from (length c.loop-worker.tasks.items) ws) (sym none) ∙ c.loop-worker.invariant.so)

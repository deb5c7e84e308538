use Rattle.std.proofs.Common.{rules}
use Rattle.std.proofs.lemmas.List.Sorted.{IsNonDecreasingBy-from_sort_by_key}
use Rattle.cedr_pool.specs.Tasks.{task_number}
use Rattle.cedr_pool.proofs.gathering.sort_tasks.Goals as goal

pub returns-clause-sorted : goal.returns-clause-sorted
returns-clause-sorted g c = IsNonDecreasingBy-from_sort_by_key task_number _ c.sort_unstable_by_key.ensures.sorted (λ a r q k. search rules)

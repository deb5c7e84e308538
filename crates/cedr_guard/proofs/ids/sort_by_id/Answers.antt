use Rattle.std.proofs.Common.{rules}
use Rattle.std.proofs.lemmas.List.Sorted.{IsNonDecreasingBy-from_sort_by_key}
use Rattle.cedr_guard.specs.Ids.{entry_id}
use Rattle.cedr_guard.proofs.ids.sort_by_id.Goals as goal

pub returns-clause-sorted : goal.returns-clause-sorted
returns-clause-sorted c = IsNonDecreasingBy-from_sort_by_key entry_id _ c.sort_unstable_by_key.ensures.sorted (λ a r q k. search rules)

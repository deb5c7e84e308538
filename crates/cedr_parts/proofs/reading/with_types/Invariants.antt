use Rattle.std.proofs.Common.{◌≡◌, ℕ, List, length, take, drop}
use Rattle.std.specs.Prelude.{Option}
use Rattle.std.specs.List.{All}
use Rattle.std.specs.Vec.{vec_capacity}
use Rattle.cedr_plan.specs.Places.{source_count}
use Rattle.plan_answer.specs.Finds.{AreFound}
use Rattle.cedr_parts.specs.Reading.{IsUnread}
use Rattle.cedr_parts.proofs.ReadingLemmas.{FoundUpTo}
use Rattle.cedr_parts.proofs.reading.with_types.Given as goal

abbrev pub invariant-loop-node : goal.invariant-loop-node
invariant-loop-node g l = record {
  left : l.rest.items ≡ drop (source_count (take l.node-index l.nodes)) l.fn.sources.items;
  found : (content : List ℕ → Option (List ℕ)) → AreFound g.S.Source.rest content l.nodes l.fn.sources.items → FoundUpTo g.S.Source.rest content l.nodes l.node-index l.found.items;
  fresh : All (λ s. g.S.Source.faults s ≡ 0) l.fn.sources.items → All (IsUnread g.S.Source.faults) l.found.items;
  count : length l.found.items ≡ source_count (take l.node-index l.nodes);
  room : vec_capacity l.found ≡ vec_capacity l.initial.found;
}

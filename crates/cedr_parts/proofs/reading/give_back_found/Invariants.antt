use Rattle.std.proofs.Common.{◌≡◌, ◌++◌, ◌+◌, ◌≤◌, ℕ, List, length, map}
use Rattle.std.specs.Vec.{vec_capacity}
use Rattle.plan_answer.specs.Finds.{count_with}
use Rattle.cedr_parts.specs.Reading.{found_read, found_source}
use Rattle.cedr_parts.proofs.reading.give_back_found.Given as goal

abbrev pub invariant-loop-source : goal.invariant-loop-source
invariant-loop-source g l = record {
  reads : l.reads.items ++ map found_read l.rest.items ≡ map found_read l.fn.found.items;
  counted : count_with g.F.Source.Source.faults (g.F.Files.faults l.files) (map found_source l.rest.items) ≡ count_with g.F.Source.Source.faults (g.F.Files.faults l.initial.files) (map found_source l.fn.found.items);
  room : length l.reads.items + length l.rest.items ≤ vec_capacity l.reads;
  asked : g.F.Files.asked l.files ≡ g.F.Files.asked l.initial.files;
  contents : (n : List ℕ) → g.F.Files.content l.files n ≡ g.F.Files.content l.initial.files n;
}

abbrev pub decreases-loop-source : goal.decreases-loop-source
decreases-loop-source g l = length l.rest.items

use Rattle.std.proofs.Common.{ℕ, ◌≡◌, List, length, map}
use Rattle.plan_answer.specs.Finds.{count_with}
use Rattle.plan_workers.specs.Tellings.{source_left_in}
use Rattle.plan_workers.proofs.ends.give_back_ends.Given as goal

abbrev pub invariant-loop-end : goal.invariant-loop-end
invariant-loop-end g l = record {
  counted : count_with g.F.Source.Source.faults (g.F.Files.faults l.files) (map source_left_in l.ends.items) ≡ count_with g.F.Source.Source.faults (g.F.Files.faults l.initial.files) (map source_left_in l.initial.ends.items);
  asked : g.F.Files.asked l.files ≡ g.F.Files.asked l.initial.files;
  contents : (n : List ℕ) → g.F.Files.content l.files n ≡ g.F.Files.content l.initial.files n;
}

abbrev pub decreases-loop-end : goal.decreases-loop-end
decreases-loop-end g l = length l.ends.items

use Rattle.std.proofs.Common.{ℕ, ◌≡◌, List, length}
use Rattle.plan_answer.specs.Finds.{count_with}
use Rattle.plan_answer.proofs.finding.give_back_each.Given as goal

abbrev pub invariant-loop-source : goal.invariant-loop-source
invariant-loop-source g l = record {
  counted : count_with g.F.Source.Source.faults (g.F.Files.faults l.files) l.sources.items ≡ count_with g.F.Source.Source.faults (g.F.Files.faults l.initial.files) l.initial.sources.items;
  asked : g.F.Files.asked l.files ≡ g.F.Files.asked l.initial.files;
  contents : (n : List ℕ) → g.F.Files.content l.files n ≡ g.F.Files.content l.initial.files n;
}

abbrev pub decreases-loop-source : goal.decreases-loop-source
decreases-loop-source g l = length l.sources.items

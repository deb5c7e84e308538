use Rattle.std.proofs.Common.{ℕ, ◌≡◌, ◌≤◌, ◌++◌, List, length, take}
use Rattle.std.specs.List.{All}
use Rattle.std.specs.Vec.{vec_capacity}
use Rattle.plan_answer.specs.Sources.{source_files}
use Rattle.plan_answer.specs.Finds.{AreFound}
use Rattle.plan_answer.proofs.finding.find_each.Given as goal

abbrev pub invariant-loop-node : goal.invariant-loop-node
invariant-loop-node g l = record {
  found : AreFound g.F.Source.Source.rest (g.F.Files.content l.initial.files) (take l.node-index l.nodes) l.sources.items;
  fresh : All (λ s. g.F.Source.Source.faults s ≡ 0) l.sources.items;
  room : length l.sources.items ≤ l.node-index;
  capacity : vec_capacity l.sources ≡ vec_capacity l.initial.sources;
  counted : g.F.Files.faults l.files ≡ g.F.Files.faults l.initial.files;
  asked : g.F.Files.asked l.files ≡ g.F.Files.asked l.initial.files ++ source_files (take l.node-index l.nodes);
  contents : (n : List ℕ) → g.F.Files.content l.files n ≡ g.F.Files.content l.initial.files n;
}

use Rattle.std.proofs.Common.{◌≡◌, ◌++◌, List, ℕ, take}
use Rattle.plan_answer.specs.Sources.{AreTold, source_files}
use Rattle.plan_serial.specs.Sources.{AreReadByLine}
use Rattle.plan_serial.proofs.FeedLemmas.{SourcesUpTo}
use Rattle.plan_serial.proofs.sources.read_sources.Given as goal

abbrev pub invariant-loop-place : goal.invariant-loop-place
invariant-loop-place g l = record {
  told : (told : List ℕ → List ℕ) → AreTold (g.F.Files.content l.initial.files) told (source_files l.nodes) → AreReadByLine told (take l.place l.nodes) l.so_far.left.items l.so_far.faulty.items;
  asked : g.F.Files.asked l.files ≡ g.F.Files.asked l.initial.files ++ source_files (take l.place l.nodes);
  counted : g.F.Files.faults l.files ≡ g.F.Files.faults l.initial.files;
  contents : (n : List ℕ) → g.F.Files.content l.files n ≡ g.F.Files.content l.initial.files n;
  sources : SourcesUpTo l.nodes l.place l.so_far.left.items;
}

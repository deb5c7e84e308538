use Rattle.std.proofs.Common.{◌≡◌, List, ℕ, take, drop}
use Rattle.std.specs.Prelude.{Option}
use Rattle.cedr_plan.specs.Places.{source_count}
use Rattle.plan_answer.specs.Sources.{AreTold, source_files}
use Rattle.plan_serial.specs.Sources.{AreReadByLine, AreReadOf}
use Rattle.plan_serial.proofs.FeedLemmas.{SourcesUpTo}
use Rattle.plan_serial.proofs.noting.note_sources.Given as goal

abbrev pub invariant-loop-place : goal.invariant-loop-place
invariant-loop-place l = record {
  told : (content : List ℕ → Option (List ℕ)) (told : List ℕ → List ℕ) → AreTold content told (source_files l.nodes) → AreReadOf content l.nodes l.fn.reads.items → AreReadByLine told (take l.place l.nodes) l.so_far.left.items l.so_far.faulty.items;
  left : l.rest.items ≡ drop (source_count (take l.place l.nodes)) l.fn.reads.items;
  sources : SourcesUpTo l.nodes l.place l.so_far.left.items;
}

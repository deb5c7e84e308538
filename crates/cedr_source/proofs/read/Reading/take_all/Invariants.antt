use Rattle.std.proofs.Common.{◌≡◌, List, ℕ}
use Rattle.cedr_text.specs.declared.event_line.Shape.{Shape}
use Rattle.cedr_source.specs.Reads.{lines_left}
use Rattle.cedr_source.specs.Whole.{HoldsRead}
use Rattle.cedr_source.proofs.read.Reading.take_all.Given as goal

abbrev pub invariant-loop-self : goal.invariant-loop-self
invariant-loop-self l = record {
  holds : (shape : Shape) (bytes : List ℕ) → HoldsRead l.fn.self shape bytes → HoldsRead l.self shape bytes;
  finished : l.self.lines.lines.finished ≡ l.fn.self.lines.lines.finished;
}

abbrev pub decreases-loop-self : goal.decreases-loop-self
decreases-loop-self l = lines_left l.self.lines

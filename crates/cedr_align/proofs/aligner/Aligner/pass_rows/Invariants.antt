use Rattle.std.proofs.Common.{◌≡◌, ◌++◌, filter, take, length}
use Rattle.cedr_base.specs.Rows.{SameRows}
use Rattle.node_laws.specs.Pass.{additions}
use Rattle.cedr_align.specs.Aligner.{HasSameTimes, must_remember}
use Rattle.cedr_align.proofs.aligner.Aligner.pass_rows.Given as goal

abbrev pub invariant-loop-row : goal.invariant-loop-row
invariant-loop-row l = record {
  passed : SameRows l.self.passed (l.initial.self.passed ++ filter (must_remember l.initial.self) l.yielded);
  out : l.out.items ≡ l.initial.out.items ++ additions l.yielded;
  held : l.self.held ≡ l.initial.self.held;
  same : HasSameTimes l.initial.self l.self;
  kept : take (length l.initial.out.items) l.out.items ≡ l.initial.out.items;
}

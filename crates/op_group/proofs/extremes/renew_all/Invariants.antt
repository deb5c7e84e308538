use Rattle.std.proofs.Common.{◌≡◌, List, length}
use Rattle.cedr_base.specs.declared.row.Row.{Row}
use Rattle.op_group.specs.Measures.{extremes_of}
use Rattle.op_group.specs.Sides.{Passes, Tells}
use Rattle.op_group.proofs.SideLemmas.{turned_at}
use Rattle.op_group.proofs.extremes.renew_all.Given as goal

abbrev pub invariant-loop-place : goal.invariant-loop-place
invariant-loop-place l = record {
  wide : length l.extremes.items ≡ length l.initial.extremes.items;
  turned : (old new : List Row) → Passes l.passing.up l.passing.payload old new → Tells l.asked l.living l.at new → l.initial.extremes.items ≡ extremes_of l.asked old → l.extremes.items ≡ turned_at l.place (extremes_of l.asked new) (extremes_of l.asked old);
}

use Rattle.std.proofs.Common.{ℕ}
use Rattle.std.specs.List.{Contains}
use Rattle.cedr_table.specs.Counted.{spread}
use Rattle.filed_rows.proofs.RenewLemmas.{AreNotedBut}
use Rattle.filed_rows.proofs.filed.push_ends.Given as goal

abbrev pub invariant-loop-row : goal.invariant-loop-row
invariant-loop-row l = record {
  noted : AreNotedBut l.rows (spread l.row-iterator) l.tag l.ends;
  others : (due : ℕ × ℕ) → Contains l.initial.ends due → Contains l.ends due;
}

use Rattle.std.proofs.Common.{take}
use Rattle.change_laws.specs.Repairs.{Leads}
use Rattle.cedr_table.proofs.applying.apply_all.Given as goal

abbrev pub invariant-loop-change : goal.invariant-loop-change
invariant-loop-change l = Leads l.fn.table (take l.change-index l.changes) l.table

use Rattle.std.proofs.Common.{◌≡◌, ◌++◌, map}
use Rattle.cedr_guard.specs.Ids.{place_entry}
use Rattle.cedr_guard.proofs.ids.Ids.gathered.Given as goal

abbrev pub invariant-loop-id : goal.invariant-loop-id
invariant-loop-id l = l.entries.items ++ map place_entry l.id-iterator ≡ l.self.rising.items ++ map place_entry l.self.others.entries

use Rattle.cedr_table.proofs.OrderLemmas.{first_of_map}
use Rattle.cedr_table.proofs.counted.first_row.Goals as goal

pub returns-in-Some-clause-some : goal.returns-in-Some-clause-some
returns-in-Some-clause-some c = first_of_map c.args.map.now.entries c.in-Some.row.now c.in-Some.field-0-1.now c.requires.ordered c.requires.there c.in-Some.ensures.first

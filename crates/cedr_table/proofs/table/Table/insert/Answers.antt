use Rattle.std.proofs.Common.{subst, List, ◌∷◌, arith}
use Rattle.cedr_base.specs.declared.row.Row.{Row}
use Rattle.cedr_base.specs.Rows.{SameRows}
use Rattle.cedr_table.specs.Counted.{spread}
use Rattle.cedr_table.proofs.CountLemmas.{inserted_is, counted_inserted, copies_at_most}
use Rattle.cedr_table.proofs.table.Table.insert.Goals as goal

pub invariant_of-self-2 : goal.invariant_of-self-2
invariant_of-self-2 c =
    let was = c.self.invariant in
    let now = c.add_one.ensures in
    counted_inserted c.args.row c.self.inside.rows.entries c.add_one.new.map.entries c.self.inside.len was now.ordered now.there
    (inserted_is c.args.row c.self.inside.rows.entries c.add_one.new.map.entries was.ordered now.ordered c.in_ok-add_one.ensures.ok)

pub returns-clause-ok : goal.returns-clause-ok
returns-clause-ok c =
    subst (λ (rows : List Row). SameRows (spread c.add_one.new.map.entries) (c.args.row ∷ rows)) c.self.view_is
    (inserted_is c.args.row c.self.inside.rows.entries c.add_one.new.map.entries c.self.invariant.ordered c.add_one.ensures.ordered c.in_ok-add_one.ensures.ok)

pub add_one-requires-clause-fits : goal.add_one-requires-clause-fits
add_one-requires-clause-fits c =
    let most = copies_at_most c.args.row c.self.inside.len c.self.inside.rows.entries c.self.invariant in
    omega arith

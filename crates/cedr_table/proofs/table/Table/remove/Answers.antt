use Rattle.std.proofs.Common.{subst, sym, List, ◌++◌, ◌∙◌, ap, arith, replicate}
use Rattle.cedr_base.specs.declared.row.Row.{Row}
use Rattle.cedr_base.specs.Rows.{SameRows, count_of}
use Rattle.cedr_table.specs.Counted.{spread}
use Rattle.cedr_table.proofs.CountLemmas.{removed_is, removed_length, counted_removed, count_spread}
use Rattle.cedr_table.proofs.table.Table.remove.Goals as goal

pub overflow_sub-self : goal.overflow_sub-self
overflow_sub-self c =
    let old = c.self.inside.rows.entries in
    let new = c.take_all-count.new.map.entries in
    let n = c.take_all-count.result in
    let same = removed_is c.args.row.now n old new c.self.invariant.ordered c.take_all-count.ensures.ordered c.take_all-count.ensures.counts in
    let sum = removed_length c.args.row.now n c.self.inside.len old new c.self.invariant same in
    omega arith

pub invariant_of-self : goal.invariant_of-self
invariant_of-self c =
    let old = c.self.inside.rows.entries in
    let new = c.take_all-count.new.map.entries in
    let n = c.take_all-count.result in
    counted_removed c.args.row.now n c.self.inside.len old new c.self.invariant c.take_all-count.ensures.ordered c.take_all-count.ensures.there
    (removed_is c.args.row.now n old new c.self.invariant.ordered c.take_all-count.ensures.ordered c.take_all-count.ensures.counts)

pub returns-clause-count : goal.returns-clause-count
returns-clause-count c =
    c.take_all-count.ensures.count
    ∙ (sym (count_spread c.self.inside.rows.entries c.self.invariant.ordered c.args.row.now) ∙ ap (λ (rows : List Row). count_of c.args.row.now rows) c.self.view_is)

pub returns-clause-removed : goal.returns-clause-removed
returns-clause-removed c =
    let old = c.self.inside.rows.entries in
    let new = c.take_all-count.new.map.entries in
    let n = c.take_all-count.result in
    subst (λ (rows : List Row). SameRows (replicate n c.args.row.now ++ spread new) rows) c.self.view_is
    (removed_is c.args.row.now n old new c.self.invariant.ordered c.take_all-count.ensures.ordered c.take_all-count.ensures.counts)

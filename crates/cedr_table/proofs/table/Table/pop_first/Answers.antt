use Rattle.std.proofs.Common.{subst, sym, List, ◌++◌, ◌∙◌, ap, arith, replicate}
use Rattle.cedr_base.specs.declared.row.Row.{Row}
use Rattle.cedr_base.specs.Rows.{SameRows, count_of}
use Rattle.cedr_table.specs.Counted.{spread, IsFirst}
use Rattle.cedr_table.proofs.CountLemmas.{removed_is, removed_length, counted_removed, count_spread}
use Rattle.cedr_table.proofs.table.Table.pop_first.Goals as goal

pub overflow_sub-self : goal.overflow_sub-self
overflow_sub-self c =
    let old = c.self.inside.rows.entries in
    let new = c.pop_first_row.new.map.entries in
    let same = removed_is c.in-Some.row c.in-Some.count old new c.self.invariant.ordered c.pop_first_row.ensures.ordered c.in-Some.ensures.counts in
    let sum = removed_length c.in-Some.row c.in-Some.count c.self.inside.len old new c.self.invariant same in
    omega arith

pub invariant_of-self : goal.invariant_of-self
invariant_of-self c =
    let old = c.self.inside.rows.entries in
    let new = c.pop_first_row.new.map.entries in
    counted_removed c.in-Some.row c.in-Some.count c.self.inside.len old new c.self.invariant c.pop_first_row.ensures.ordered c.pop_first_row.ensures.there
    (removed_is c.in-Some.row c.in-Some.count old new c.self.invariant.ordered c.pop_first_row.ensures.ordered c.in-Some.ensures.counts)

pub returns-in-Some-clause-some : goal.returns-in-Some-clause-some
returns-in-Some-clause-some c =
    let old = c.self.inside.rows.entries in
    let new = c.pop_first_row.new.map.entries in (
      subst (λ (rows : List Row). IsFirst c.in-Some.row rows) c.self.view_is c.in-Some.ensures.some.0,
      c.in-Some.ensures.some.1 ∙ (sym (count_spread old c.self.invariant.ordered c.in-Some.row) ∙ ap (λ (rows : List Row). count_of c.in-Some.row rows) c.self.view_is),
      subst (λ (rows : List Row). SameRows (replicate c.in-Some.count c.in-Some.row ++ spread new) rows) c.self.view_is
          (removed_is c.in-Some.row c.in-Some.count old new c.self.invariant.ordered c.pop_first_row.ensures.ordered c.in-Some.ensures.counts),
    )

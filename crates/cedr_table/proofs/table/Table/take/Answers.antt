use Rattle.std.proofs.Common.{◌∷◌, ◌∙◌, ap, sym, subst, List, arith}
use Rattle.std.specs.Prelude.{nat_lt}
use Rattle.std.proofs.lemmas.Bool.{ltb-true, ltb-false}
use Rattle.cedr_base.specs.declared.row.Row.{Row}
use Rattle.cedr_base.specs.Rows.{SameRows, count_of}
use Rattle.cedr_table.specs.Counted.{copies, spread}
use Rattle.cedr_table.proofs.CountLemmas.{taken_is, counted_taken, some_length, count_spread}
use Rattle.cedr_table.proofs.table.Table.take.Goals as goal

pub overflow_sub-self : goal.overflow_sub-self
overflow_sub-self c =
    let old = c.self.inside.rows.entries in
    let new = c.take_one-found.new.map.entries in
    let some = ltb-true 0 (copies old c.args.row.now) (sym c.take_one-found.ensures.was_there ∙ c.if-found.true) in
    some_length c.args.row.now c.self.inside.len old new c.self.invariant (taken_is c.args.row.now old new c.self.invariant.ordered c.take_one-found.ensures.ordered (c.take_one-found.ensures.counts some))

pub invariant_of-self : goal.invariant_of-self
invariant_of-self c =
    let old = c.self.inside.rows.entries in
    let new = c.take_one-found.new.map.entries in
    let some = ltb-true 0 (copies old c.args.row.now) (sym c.take_one-found.ensures.was_there ∙ c.if-found.true) in
    counted_taken c.args.row.now c.self.inside.len old new c.self.invariant c.take_one-found.ensures.ordered c.take_one-found.ensures.there
    (taken_is c.args.row.now old new c.self.invariant.ordered c.take_one-found.ensures.ordered (c.take_one-found.ensures.counts some))

pub returns-then-found-clause-was_there : goal.returns-then-found-clause-was_there
returns-then-found-clause-was_there c =
    let is = sym (count_spread c.self.inside.rows.entries c.self.invariant.ordered c.args.row.now) ∙ ap (λ (rows : List Row). count_of c.args.row.now rows) c.self.view_is in
    c.take_one-found.ensures.was_there ∙ ap (nat_lt 0) is

pub returns-then-found-clause-taken : goal.returns-then-found-clause-taken
returns-then-found-clause-taken c = λ there.
    let old = c.self.inside.rows.entries in
    let new = c.take_one-found.new.map.entries in
    let some = ltb-true 0 (copies old c.args.row.now) (sym c.take_one-found.ensures.was_there ∙ c.if-found.true) in
    subst (λ (rows : List Row). SameRows (c.args.row.now ∷ spread new) rows) c.self.view_is
    (taken_is c.args.row.now old new c.self.invariant.ordered c.take_one-found.ensures.ordered (c.take_one-found.ensures.counts some))

pub returns-then-found-clause-missing : goal.returns-then-found-clause-missing
returns-then-found-clause-missing c = λ none.
    let some = ltb-true 0 (copies c.self.inside.rows.entries c.args.row.now) (sym c.take_one-found.ensures.was_there ∙ c.if-found.true) in
    let is = ap (λ (rows : List Row). count_of c.args.row.now rows) (sym c.self.view_is) ∙ count_spread c.self.inside.rows.entries c.self.invariant.ordered c.args.row.now in
    absurd (omega arith)

pub returns-else-found-clause-was_there : goal.returns-else-found-clause-was_there
returns-else-found-clause-was_there c =
    let is = sym (count_spread c.self.inside.rows.entries c.self.invariant.ordered c.args.row.now) ∙ ap (λ (rows : List Row). count_of c.args.row.now rows) c.self.view_is in
    c.take_one-found.ensures.was_there ∙ ap (nat_lt 0) is

pub returns-else-found-clause-taken : goal.returns-else-found-clause-taken
returns-else-found-clause-taken c = λ there.
    let none = ltb-false 0 (copies c.self.inside.rows.entries c.args.row.now) (sym c.take_one-found.ensures.was_there ∙ c.if-found.false) in
    let is = ap (λ (rows : List Row). count_of c.args.row.now rows) (sym c.self.view_is) ∙ count_spread c.self.inside.rows.entries c.self.invariant.ordered c.args.row.now in
    absurd (omega arith)

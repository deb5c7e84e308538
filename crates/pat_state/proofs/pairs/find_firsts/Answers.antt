use Rattle.std.proofs.Common.{◌++◌, ◌∙◌, ap, arith}
use Rattle.std.specs.List.{flat_map}
use Rattle.cedr_base.specs.declared.row.Row.{Row}
use Rattle.cedr_table.specs.Counted.{spread}
use Rattle.cedr_expr.specs.Tests.{passes}
use Rattle.pat_state.specs.Steps.{begun, next_passing}
use Rattle.pat_state.proofs.PairLemmas.{firsts_found}
use Rattle.pat_state.proofs.pairs.find_firsts.Goals as goal

pub push_firsts-requires-clause-within : goal.push_firsts-requires-clause-within
push_firsts-requires-clause-within c = let early = c.requires.begin in (c.saturating_sub-from.result, c.args.row.now.begin, omega arith, c.beside_right-tagged.ensures.within.0)

pub push_firsts-requires-2-clause-within : goal.push_firsts-requires-2-clause-within
push_firsts-requires-2-clause-within c = let early = c.requires.begin in (c.saturating_sub-from.result, c.args.row.now.begin, omega arith, c.beside_right-tagged.ensures.within.1)

pub returns : goal.returns
returns c = λ firsts seconds tagged.
    let f = λ (r : Row). next_passing (passes c.args.tests.now) (begun c.args.scope r) c.args.row.now in
    let first = flat_map f (spread c.beside_right-tagged.result.0) in
    let second = flat_map f (spread c.beside_right-tagged.result.1) in
    firsts_found c.args.scope c.args.tests.now c.args.row.now c.saturating_sub-from.result firsts seconds c.push_firsts-2.new.rows.items c.beside_right-tagged.result.0 c.beside_right-tagged.result.1 c.saturating_sub-from.ensures
    (c.in_ok-push_firsts-2.ensures ∙ ap (λ rows. rows ++ second) (c.in_ok-push_firsts.ensures ∙ ap (λ rows. rows ++ first) c.new-rows.ensures.items)) (λ weight sought. c.beside_right-tagged.ensures.rows firsts weight tagged sought)

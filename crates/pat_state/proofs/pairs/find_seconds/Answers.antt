use Rattle.std.proofs.Common.{◌++◌, ◌∙◌, ap}
use Rattle.std.specs.List.{flat_map}
use Rattle.cedr_table.specs.Counted.{spread}
use Rattle.cedr_expr.specs.Tests.{passes}
use Rattle.pat_state.specs.Steps.{next_passing}
use Rattle.pat_state.proofs.PairLemmas.{seconds_found}
use Rattle.pat_state.proofs.pairs.find_seconds.Goals as goal

pub returns : goal.returns
returns c = λ firsts seconds tagged.
    let made = flat_map (next_passing (passes c.args.tests.now) c.in_ok-so_far.so_far) (spread c.beside_left-some.result) in
    seconds_found c.args.scope c.args.tests.now c.args.row.now c.in_ok-so_far.so_far firsts seconds c.push_seconds.new.rows.items c.beside_left-some.result c.in_ok-so_far.ensures
    (c.in_ok-push_seconds.ensures ∙ ap (λ rows. rows ++ made) c.new-rows.ensures.items) (λ weight sought. c.beside_left-some.ensures.rows seconds weight tagged sought)

use Rattle.std.proofs.Common.{◌<◌, length, ap, subst, arith}
use Rattle.std.specs.Prelude.{slice_set}
use Rattle.std.proofs.lemmas.Result.{on_ok_weaker}
use Rattle.cedr_table.specs.Operators.{Tables}
use Rattle.pat_state.specs.Answers.{IsKeptStep}
use Rattle.pat_atleast.specs.Crossings.{rows_by_port}
use Rattle.pat_atleast.proofs.CrossingLemmas.{crossing_steps, length-rows}
use Rattle.pat_atleast.proofs.pairs.Pairs.apply.Goals as goal

pub returns-clause-ok : goal.returns-clause-ok
returns-clause-ok c =
    let ports = c.settle.new.self.ports.items in
    let was = c.settle.ensures.ports in
    let within : c.args.port < length c.settle.new.self.ports.items = omega (arith, c.requires.port, length-rows c.args.self.now.ports.items, ap length was) in
    on_ok_weaker c.apply.result
    (λ step. subst (λ (ts : Tables). IsKeptStep ts (rows_by_port (slice_set c.settle.new.self.ports.items c.args.port c.apply.new.self)) c.args.port c.args.change.now) (ap rows_by_port was)
    (crossing_steps ports c.args.port c.index_mut.result.now c.apply.new.self c.args.change.now within c.index_mut.ensures.value step))
    c.apply.ensures.rows

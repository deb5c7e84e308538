use Rattle.std.proofs.Common.{◌<◌, length, arith}
use Rattle.std.specs.Prelude.{slice_index}
use Rattle.std.proofs.lemmas.Result.{IfOk-weaker}
use Rattle.pat_atleast.proofs.CrossingLemmas.{found_seconds, found_firsts, length-rows}
use Rattle.pat_atleast.proofs.pairs.Pairs.find.Goals as goal

pub returns-then-changed-eq0 : goal.returns-then-changed-eq0
returns-then-changed-eq0 c =
    let ports = c.args.self.now.ports.items in
    let two = c.requires.two in
    let within : slice_index c.args.order.now 1 < length c.args.self.now.ports.items = omega (arith, c.requires.order 1 (omega arith), length-rows ports) in
    IfOk-weaker c.find_seconds.result _ _
    (λ rows were. found_seconds c.args.scope c.args.tests.now c.args.row.now c.args.order.now c.args.changed ports c.index-seconds.result.now rows.items two c.if-changed-eq0.true within c.index-seconds.ensures were)
    c.find_seconds.ensures

pub returns-else-changed-eq0 : goal.returns-else-changed-eq0
returns-else-changed-eq0 c =
    let ports = c.args.self.now.ports.items in
    let two = c.requires.two in
    let changed = c.requires.changed in
    let within : slice_index c.args.order.now 0 < length c.args.self.now.ports.items = omega (arith, c.requires.order 0 (omega arith), length-rows ports) in
    IfOk-weaker c.find_firsts.result _ _
    (λ rows were. found_firsts c.args.scope c.args.tests.now c.args.row.now c.args.order.now c.args.changed ports c.index-firsts.result.now rows.items two (omega arith) c.if-changed-eq0.false within c.index-firsts.ensures were)
    c.find_firsts.ensures

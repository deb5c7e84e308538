use Rattle.std.proofs.Common.{◌∙◌, List, arith, ap, map}
use Rattle.std.proofs.lemmas.List.{take_all}
use Rattle.node_laws.specs.declared.forgotten.Forgotten.{Forgotten}
use Rattle.plan_runs.specs.Runs.{lists_at}
use Rattle.plan_runs.specs.Without.{forgot_in, forgot_on}
use Rattle.plan_answer.specs.Forgettings.{nodes_forgot, port_forgot}
use Rattle.plan_workers.proofs.ForgottenLemmas.{forgot_at, node_told, parts_count, took_here}
use Rattle.plan_workers.proofs.forgotten.tell_forgotten.Goals as goal
use Rattle.plan_runs.proofs.Closed.{forgot_length}

pub offset_bounds-parts-place : goal.offset_bounds-parts-place
offset_bounds-parts-place g c = let took = c.requires in omega (arith, parts_count c.args.nodes.now took.0 c.args.parts.now took.1, c.loop-place-test.true)

pub bounds-parts-place : goal.bounds-parts-place
bounds-parts-place g c = let took = c.requires in omega (arith, parts_count c.args.nodes.now took.0 c.args.parts.now took.1, c.loop-place-test.true)

pub tell_part-requires : goal.tell_part-requires
tell_part-requires g c =
    let took = c.requires in
    let place = c.loop-place.place in
    (lists_at took.0 place, took_here c.args.nodes.now took.0 c.args.parts.now place c.index-nodes-place.result c.index-parts-place.result took.1 c.loop-place-test.true c.index-nodes-place.is c.index-parts-place.is)

pub loop-place-preserved : goal.loop-place-preserved
loop-place-preserved g c = λ ports took.
    let place = c.loop-place.place in
    let nodes = c.args.nodes.now in
    let n = c.index-nodes-place.result in
    let here = took_here nodes ports c.args.parts.now place n c.index-parts-place.result took c.loop-place-test.true c.index-nodes-place.is c.index-parts-place.is in
    node_told place (forgot_in nodes ports) (forgot_on n (lists_at ports place)) (map port_forgot c.loop-place.all.items) (map port_forgot c.tell_part.new.all.items) (c.loop-place.invariant ports took)
    (forgot_at nodes ports place n c.loop-place-test.true c.index-nodes-place.is) (c.in_ok-tell_part.ensures (lists_at ports place) here) (omega (arith, forgot_length nodes ports, c.loop-place-test.true))

pub returns : goal.returns
returns g c = λ ports took.
    let all = take_all c.loop-place.place (forgot_in c.args.nodes.now ports) (omega (arith, forgot_length c.args.nodes.now ports, c.loop-place-test.false)) in
    c.loop-place.invariant ports took ∙ ap (λ (xs : List (List (List Forgotten))). nodes_forgot 0 xs) all

use Rattle.std.proofs.Common.{ap, sym, subst}
use Rattle.cedr_base.specs.Messages.{IsLegal}
use Rattle.cedr_edge.specs.Ends.{InEnd, taken_of}
use Rattle.node_laws.specs.Lists.{Lists}
use Rattle.worker_outlets.proofs.RoundLemmas.{map_back}
use Rattle.cedr_worker.specs.Inputs.{taken_in}
use Rattle.cedr_worker.specs.Operators.{NodeWorks}
use Rattle.cedr_worker.proofs.WorkLemmas.{may_take, taken_more, works_taken}
use Rattle.cedr_worker.proofs.taking.take_at.Goals as goal

pub take_in-lacks-requires : goal.take_in-lacks-requires
take_in-lacks-requires g c found =
    let legal = subst (λ (e : InEnd). IsLegal e.taken) c.in-Some.ensures.taken c.in-Some.ensures.legal in
    (taken_in c.args.inputs.now.items, c.requires.works.1.sound found, may_take c.args.inputs.now.items c.args.port c.index_mut-input.result.now c.in-Some.message c.requires.within c.index_mut-input.ensures.value legal)

pub returns-in-None-clause-works : goal.returns-in-None-clause-works
returns-in-None-clause-works g c broke w =
    subst (λ (ls : Lists). NodeWorks c.args.node.now ls c.args.outlets.now c.args.lacked broke)
    (sym (map_back taken_of c.args.inputs.now.items c.args.port c.index_mut-input.result.now c.take.new.self c.requires.within c.index_mut-input.ensures.value (ap taken_of c.in-None.ensures.none))) w

pub returns-in-Some-clause-works : goal.returns-in-Some-clause-works
returns-in-Some-clause-works g c broke w =
    let legal = subst (λ (e : InEnd). IsLegal e.taken) c.in-Some.ensures.taken c.in-Some.ensures.legal in
    let inputs = c.args.inputs.now.items in
    let e = c.index_mut-input.result.now in
    let m = c.in-Some.message in
    let may = may_take inputs c.args.port e m c.requires.within c.index_mut-input.ensures.value legal in
    subst (λ (ls : Lists). NodeWorks c.take_in-lacks.new.node ls c.take_in-lacks.new.outlets c.take_in-lacks.result broke)
    (sym (taken_more inputs c.args.port e c.take.new.self m c.requires.within c.index_mut-input.ensures.value (ap taken_of c.in-Some.ensures.taken)))
    (works_taken c.args.node.now c.take_in-lacks.new.node (taken_in inputs) c.args.outlets.now c.take_in-lacks.new.outlets c.args.port m c.args.lacked c.take_in-lacks.result broke c.take_in-lacks.ensures.made may
    (λ found. let ok = c.take_in-lacks.ensures.ok found in (ok.0, λ s. ok.1 (taken_in inputs) s may)) c.take_in-lacks.ensures.lost w)

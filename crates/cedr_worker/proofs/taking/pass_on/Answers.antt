use Rattle.cedr_worker.proofs.WorkLemmas.{sound_taken, may_commit}
use Rattle.cedr_worker.proofs.taking.pass_on.Goals as goal

pub commit-requires : goal.commit-requires
commit-requires c =
    let lists = c.requires.0 in
    may_commit c.args.node.now c.take_on.new.node lists c.args.outlets.now c.stage_all.new.self c.args.port c.args.message c.take_on.new.piece.items c.requires.2 (c.in_ok-take_on.ensures.taken lists) c.in_ok-stage_all.ensures.totals c.in_ok-stage_all.ensures.ok c.requires.1

pub returns-clause-ok : goal.returns-clause-ok
returns-clause-ok c lists sound may =
    sound_taken c.args.node.now c.take_on.new.node lists c.args.outlets.now c.stage_all.new.self c.commit.new.self c.args.port c.args.message c.take_on.new.piece.items may (c.in_ok-take_on.ensures.taken lists) c.in_ok-stage_all.ensures.totals c.in_ok-stage_all.ensures.ok c.commit.ensures.given sound

use Rattle.std.proofs.Common.{rules}
use Rattle.plan_workers.proofs.EndingLemmas.{source_ends}
use Rattle.plan_workers.proofs.ending.end_source.Goals as goal

pub returns : goal.returns
returns g c role reads =
    let done = c.finish-number in
    source_ends g.S.Source.rest g.S.Source.faults role c.args.worker done.result c.new-2.result c.from_vec.result c.from_vec-2.result reads (done.ensures.ends role.shape role.content role.count reads.works)
    (search rules) (search rules) c.from_vec-2.ensures done.ensures.edges done.ensures.sent done.ensures.ran done.ensures.number.0

use Rattle.std.proofs.Common.{inl, inr, refl}
use Rattle.worker_outlets.proofs.FanLemmas.{totals_stay}
use Rattle.cedr_worker.proofs.giving.give_messages.Goals as goal

pub commit-requires : goal.commit-requires
commit-requires c =
    let r = c.requires in
    (r.0, c.args.messages.items, totals_stay r.0 _ _ c.stage_all.ensures.totals r.1, c.in-Ok.ensures.ok r.2, r.4)

pub close-requires : goal.close-requires
close-requires c =
    let r = c.requires in
    (r.0, totals_stay r.0 _ _ c.stage_all.ensures.totals r.1, r.3)

pub returns-in-Ok-clause-given : goal.returns-in-Ok-clause-given
returns-in-Ok-clause-given c = λ given all clean.
    let pending = c.commit.ensures.given given c.args.messages.items (totals_stay given _ _ c.stage_all.ensures.totals all) (c.in-Ok.ensures.ok clean) in
    inl (refl, pending.0, pending.1)

pub returns-clause-given : goal.returns-clause-given
returns-clause-given c = λ given all clean. inr (refl, c.close.ensures.given given (totals_stay given _ _ c.stage_all.ensures.totals all))

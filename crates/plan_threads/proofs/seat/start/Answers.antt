use Rattle.std.proofs.Common.{subst, sym}
use Rattle.plan_workers.specs.Roles.{Role, WorksAs}
use Rattle.plan_threads.proofs.seat.start.Goals as goal

pub spawn_with-requires-in-Err-after_bounds : goal.spawn_with-requires-in-Err-after_bounds
spawn_with-requires-in-Err-after_bounds g c κs within = subst (λ f. (role : Role) × WorksAs g.S.Source.rest g.S.Source.faults role f.1) (sym c.in-Err.ensures.err) c.requires

pub returns : goal.returns
returns g c = λ role works. c.spawn_with-in-Err.ensures role (subst (λ f. WorksAs g.S.Source.rest g.S.Source.faults role f.1) (sym c.in-Err.ensures.err) works)

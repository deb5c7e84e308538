-- How the sources of a run stopped.
use Rattle.std.proofs.Common.{◌≡◌, List, [], ◌∷◌, Bool, map, refl, ap}
use Rattle.std.specs.Prelude.{◌||◌}
use Rattle.std.specs.List.{list_any}
use Rattle.cedr_worker.specs.declared.source.SourceEnd.{SourceEnd}
use Rattle.cedr_worker.specs.declared.stop.SourceStop.{SourceStop}
use Rattle.plan_workers.specs.Stopping.{stop_in}

-- what holds of some end holds of some stop
pub any_stop : {S : Type 0} (holds : SourceStop → Bool) (ends : List (SourceEnd S)) → list_any (λ (e : SourceEnd S). holds e.stop) ends ≡ list_any holds (map stop_in ends)
any_stop holds [] = refl
any_stop holds (e ∷ ends) = ap (λ (b : Bool). holds e.stop || b) (any_stop holds ends)

-- Edges over which nothing went, and edges that are handed out.
use Rattle.std.proofs.Common.{◌≡◌, zero, suc, List, [], ◌∷◌, map, refl, ap, arith}
use Rattle.atomic_table.specs.Seated.{TableId}
use Rattle.cedr_edge.specs.Ends.{OutEnd}
use Rattle.worker_outlets.specs.Outlets.{opened, outlet_edge, end_edge, sent_count, AllTotal, AllStaged}

-- out edges over which nothing went are the edges of their ends, in order
pub opened_edges : (es : List OutEnd) → map outlet_edge (map opened es) ≡ map end_edge es
opened_edges [] = refl
opened_edges (e ∷ es) = ap (λ (ts : List TableId). e.edge ∷ ts) (opened_edges es)

-- nothing is meant for edges over which nothing went
pub opened_totals : (es : List OutEnd) → AllTotal [] (map opened es)
opened_totals [] k d less = absurd (omega arith)
opened_totals (e ∷ es) zero d less = refl
opened_totals (e ∷ es) (suc k) d less = opened_totals es k d (omega arith)

-- nothing is set down at edges over which nothing went
pub opened_staged : (es : List OutEnd) → AllStaged [] (map opened es)
opened_staged [] k d less = absurd (omega arith)
opened_staged (e ∷ es) zero d less = refl
opened_staged (e ∷ es) (suc k) d less = opened_staged es k d (omega arith)

-- no message was sent over edges over which nothing went
pub opened_count : (es : List OutEnd) → sent_count (map opened es) ≡ 0
opened_count [] = refl
opened_count (e ∷ es) = opened_count es

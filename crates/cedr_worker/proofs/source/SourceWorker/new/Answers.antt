use Rattle.std.proofs.Common.{◌<◌, List, length, refl, sym, ap, ◌∙◌, arith}
use Rattle.std.proofs.lemmas.List.{length-map}
use Rattle.atomic_table.specs.Seated.{TableId}
use Rattle.worker_outlets.specs.Outlets.{outlet_edge, end_edge}
use Rattle.cedr_worker.proofs.SourceLemmas.{new_works}
use Rattle.cedr_worker.proofs.source.SourceWorker.new.Goals as goal

pub returns-clause-works : goal.returns-clause-works
returns-clause-works g c =
    let edges = sym (length-map c.in-Ok-new.outlets outlet_edge) ∙ (ap (λ (l : List TableId). length l) c.in-Ok-new.ensures.edges ∙ length-map c.args.outputs.items end_edge) in
    let some : 0 < length c.in-Ok-new.outlets = omega (arith, c.requires.some, edges) in
    new_works g.S.Source.rest g.S.Source.faults c.args.shape (g.S.Source.rest c.args.source) (g.S.Source.faults c.args.source) _ refl refl refl c.new-2.ensures.reads c.new-2.ensures.goes_on c.in-Ok-new.ensures.nothing.0 c.in-Ok-new.ensures.nothing.1 some (omega (arith, c.in-Ok.ensures.len, c.in-Ok.block.ok.0))

use Rattle.std.proofs.Common.{◌∙◌, [], refl, map, sym, ap, subst}
use Rattle.worker_outlets.specs.Outlets.{end_edge}
use Rattle.cedr_text.specs.declared.event_line.Shape.TheVariants.{Fields}
use Rattle.cedr_worker.specs.Sources.{SourceWorks}
use Rattle.plan_workers.proofs.making.make_source.Goals as goal

pub returns-in-Ok-clause-made : goal.returns-in-Ok-clause-made
returns-in-Ok-clause-made g c =
    let w = c.in-Ok.worker in
    let made = c.in-Ok.ensures in
    let shape = Fields c.in_ok-types.types in (
      shape,
      λ history. record {
        kind = c.requires.kind;
        types = c.in_ok-types.ensures.items ∙ c.as_slice.ensures.value;
        works = subst (λ (s : g.row.S.Denot). SourceWorks g.S.Source.rest g.S.Source.faults shape (g.S.Source.rest s) (g.S.Source.faults s) w) (sym made.number.1) made.works;
        number = made.number.0;
        takes = refl {a = []};
        puts = made.edges ∙ ap (map end_edge) c.into_vec.ensures;
      },
    )

use Rattle.std.proofs.Common.{◌∙◌, ap, sym, subst}
use Rattle.op_node.specs.Readings.{NodeOperator, node_reading}
use Rattle.cedr_node.specs.declared.aligned.Aligned.{Aligned}
use Rattle.cedr_node.specs.Standing.{StandsBetween, levels_of}
use Rattle.cedr_node.proofs.node.Node.take.Goals as goal

pub returns-in-Ok-clause-taken : goal.returns-in-Ok-clause-taken
returns-in-Ok-clause-taken c = λ lists given stands may.
    let was = subst (λ (a : Aligned NodeOperator). StandsBetween (node_reading.meaning a.driver.op) (node_reading.stands a.driver.op) a.ports.items a.driver.marks.items a.driver.sent a.waiting a.broken lists given) (sym c.deref_mut.ensures.value) stands.between in
    let t = c.in-Ok.ensures.taken lists given was may in (
      t.0,
      t.1,
      record {
        usable = stands.usable;
        means = c.in-Ok.ensures.meaning ∙ (ap (λ (a : Aligned NodeOperator). node_reading.meaning a.driver.op) c.deref_mut.ensures.value ∙ stands.means);
        levels = c.in-Ok.ensures.levels ∙ (ap (λ (a : Aligned NodeOperator). levels_of a.ports.items) c.deref_mut.ensures.value ∙ stands.levels);
        between = t.2;
      },
    )

pub returns-in-Ok-clause-holds : goal.returns-in-Ok-clause-holds
returns-in-Ok-clause-holds c = λ lists given stands may none.
    let was = subst (λ (a : Aligned NodeOperator). StandsBetween (node_reading.meaning a.driver.op) (node_reading.stands a.driver.op) a.ports.items a.driver.marks.items a.driver.sent a.waiting a.broken lists given) (sym c.deref_mut.ensures.value) stands.between in
    c.in-Ok.ensures.holds lists given was may none

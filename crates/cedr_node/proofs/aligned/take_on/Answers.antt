use Rattle.std.proofs.Common.{◌∙◌, ap, sym, refl, subst}
use Rattle.std.proofs.lemmas.Result.{on_ok_weaker}
use Rattle.node_laws.specs.Lists.{list_at}
use Rattle.cedr_node.specs.declared.port.Port.{Port}
use Rattle.cedr_node.specs.Standing.{PortStands}
use Rattle.cedr_node.proofs.PortLists.{all_at, levels_set}
use Rattle.cedr_node.proofs.aligned.take_on.Goals as goal

pub returns-clause-taken : goal.returns-clause-taken
returns-clause-taken c = on_ok_weaker c.take.result (λ taken lists stand may.
    let was = c.index_mut.result.now in
    let stood : PortStands was (list_at lists c.args.port) = subst (λ (p : Port). PortStands p (list_at lists c.args.port)) (sym c.index_mut.ensures.value) (all_at c.args.port c.args.ports.now.items lists was stand may.port_is) in
    record {
      was = was;
      now = c.take.new.self;
      stood_at = sym c.index_mut.ensures.value;
      stands_at = refl;
      taken = taken (list_at lists c.args.port) stood may.comes;
    }) c.take.ensures.taken

pub returns-clause-levels : goal.returns-clause-levels
returns-clause-levels c = levels_set c.args.port c.args.ports.now.items c.take.new.self c.index_mut.result.now (c.take.ensures.level ∙ ap (λ (p : Port). p.aligner.level) c.index_mut.ensures.value)

use Rattle.std.proofs.Common.{◌∙◌, ap, sym, refl, subst}
use Rattle.std.proofs.lemmas.Result.{IfOk-weaker}
use Rattle.node_laws.specs.Lists.{list_at}
use Rattle.cedr_node.specs.declared.port.Port.{Port}
use Rattle.cedr_node.specs.Standing.{PortStands}
use Rattle.cedr_node.proofs.PortLists.{all_at, levels_set}
use Rattle.cedr_node.proofs.aligned.go_through.Goals as goal

pub returns-clause-through : goal.returns-clause-through
returns-clause-through c = IfOk-weaker c.go_through.result _ _ (λ went through is_so lists stand may.
    let was = c.index_mut.result.now in
    let stood : PortStands was (list_at lists c.args.port) = subst (λ (p : Port). PortStands p (list_at lists c.args.port)) (sym c.index_mut.ensures.value) (all_at c.args.port c.args.ports.now.items lists was stand may.port_is) in
    record {
      was = was;
      now = c.go_through.new.self;
      stood_at = sym c.index_mut.ensures.value;
      stands_at = refl;
      taken = through is_so (list_at lists c.args.port) stood may.comes;
    }) c.go_through.ensures.through

pub returns-clause-levels : goal.returns-clause-levels
returns-clause-levels c = levels_set c.args.port c.args.ports.now.items c.go_through.new.self c.index_mut.result.now (c.go_through.ensures.level ∙ ap (λ (p : Port). p.aligner.level) c.index_mut.ensures.value)

use Rattle.std.proofs.Common.{◌∙◌, sym, arith, subst}
use Rattle.node_laws.specs.Lists.{list_at}
use Rattle.cedr_node.specs.declared.port.Port.{Port}
use Rattle.cedr_node.specs.Standing.{PortStands}
use Rattle.cedr_node.proofs.PortLists.{all_at, all_length}
use Rattle.cedr_node.proofs.aligned.Aligned.forgotten.Goals as goal

pub returns : goal.returns
returns g c = λ lists stand.
    let port = c.index.result.now in
    let ports = c.args.self.now.ports.items in
    let within = c.requires in
    let stood : PortStands c.index.result.now (list_at lists c.args.port) =
    subst (λ (p : Port). PortStands p (list_at lists c.args.port)) (sym c.index.ensures) (all_at c.args.port ports lists port stand (omega (arith, all_length ports lists stand))) in
    record { at = port; stands_at = sym c.index.ensures; all = c.forgotten.ensures ∙ stood.forgotten_is }

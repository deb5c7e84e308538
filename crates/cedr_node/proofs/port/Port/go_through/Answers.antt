use Rattle.std.proofs.Common.{sym}
use Rattle.std.proofs.lemmas.List.{append-nil}
use Rattle.std.proofs.lemmas.Result.{IfOk-weaker}
use Rattle.cedr_align.specs.declared.fate.Fate.TheVariants as fate
use Rattle.cedr_node.proofs.PortLemmas.{port_taken}
use Rattle.cedr_node.proofs.port.Port.go_through.Goals as goal

pub returns-clause-through : goal.returns-clause-through
returns-clause-through c = IfOk-weaker c.take_through.result _ _ (λ went through is_so ms stands may.
    port_taken c.args.self.now _ ms c.args.message.now _ _ fate.Kept stands (through is_so ms stands.aligns may) (sym (append-nil c.args.self.now.forgotten.items))) c.take_through.ensures.through

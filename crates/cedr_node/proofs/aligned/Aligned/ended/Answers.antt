use Rattle.std.proofs.Common.{◌∙◌, sym, ap, ℕ}
use Rattle.std.specs.Prelude.{nat_eq}
use Rattle.cedr_node.proofs.PortLists.{over_is}
use Rattle.cedr_node.proofs.aligned.Aligned.ended.Goals as goal

pub returns : goal.returns
returns g c = λ lists waiting_is. ap (λ (n : ℕ). nat_eq n 0) waiting_is ∙ sym (over_is lists)

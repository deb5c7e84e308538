use Rattle.std.proofs.Common.{◌++◌, ◌∷◌, [], sym, subst, List, replicate}
use Rattle.cedr_base.specs.declared.change.Message.{Message}
use Rattle.node_laws.specs.Lists.{Lists}
use Rattle.test_feeding.specs.declared.came.Came.{Came}
use Rattle.message_cases.specs.FedNodes.{AllCame}
use Rattle.cedr_node.proofs.First.{replicate-push}
use Rattle.message_cases.proofs.NodeLemmas.{came_push}
use Rattle.message_cases.proofs.node.nothing_came.Goals as goal

pub loop-preserved : goal.loop-preserved
loop-preserved c =
    let l = c.loop in
    subst (λ (ls : Lists). AllCame c.push.new.self.items ls) (sym (replicate-push {X = List Message} l.counter []))
    (subst (λ (cs : List Came). AllCame cs (replicate l.counter [] ++ [] ∷ [])) (sym c.in_ok-push.ensures.items) (came_push l.came.items (replicate l.counter []) c.new.result [] l.invariant c.new.ensures))

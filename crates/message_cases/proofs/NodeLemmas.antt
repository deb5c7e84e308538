-- What came on the ports of a node, beside the lists that it took.
use Rattle.std.proofs.Common.{◌≡◌, ℕ, ◌<◌, zero, suc, List, [], ◌∷◌, ◌++◌, refl, ap, sym, subst, arith, length, set, get_or, replicate}
use Rattle.cedr_base.specs.declared.change.Message.{Message}
use Rattle.cedr_base.specs.Messages.{MayCome}
use Rattle.node_laws.specs.Lists.{Lists, list_at}
use Rattle.op_driver.specs.Driving.{MayTake}
use Rattle.test_feeding.specs.Came.{CameFor}
use Rattle.test_feeding.specs.declared.came.Came.{Came}
use Rattle.message_cases.specs.FedNodes.{AllCame, NodeWasFed}
use Rattle.cedr_node.specs.Nodes.{NodeStands}
use Rattle.cedr_node.specs.declared.node.Node.{Node}

-- it is known of as many ports what came on them as there are lists
pub came_length : (cs : List Came) (ls : Lists) → AllCame cs ls → length cs ≡ length ls
came_length [] [] h = refl
came_length [] (l ∷ ls) h = absurd h
came_length (c ∷ cs) [] h = absurd h
came_length (c ∷ cs) (l ∷ ls) h = ap (λ n. suc n) (came_length cs ls h.1)

-- what is known of the port at a place stands for the list there
pub came_at : (k : ℕ) (cs : List Came) (ls : Lists) (d : Came) → AllCame cs ls → k < length cs → CameFor (get_or cs k d) (list_at ls k)
came_at k [] [] d h within = absurd (omega arith)
came_at k [] (l ∷ ls) d h within = absurd h
came_at k (c ∷ cs) [] d h within = absurd h
came_at zero (c ∷ cs) (l ∷ ls) d h within = h.0
came_at (suc k) (c ∷ cs) (l ∷ ls) d h within = came_at k cs ls d h.1 (omega arith)

-- where one port gets another list of which it is known what came, it is known of all ports
pub came_set : (k : ℕ) (cs : List Came) (ls : Lists) (c : Came) (l : List Message) → AllCame cs ls → CameFor c l → AllCame (set cs k c) (set ls k l)
came_set k [] [] c l h s = tt
came_set k [] (m ∷ ls) c l h s = absurd h
came_set k (d ∷ cs) [] c l h s = absurd h
came_set zero (d ∷ cs) (m ∷ ls) c l h s = (s, h.1)
came_set (suc k) (d ∷ cs) (m ∷ ls) c l h s = (h.0, came_set k cs ls c l h.1 s)

-- where it is known what came on some ports and on one more, it is known of all of them
pub came_push : (cs : List Came) (ls : Lists) (c : Came) (l : List Message) → AllCame cs ls → CameFor c l → AllCame (cs ++ c ∷ []) (ls ++ l ∷ [])
came_push [] [] c l h s = (s, tt)
came_push [] (m ∷ ls) c l h s = absurd h
came_push (d ∷ cs) [] c l h s = absurd h
came_push (d ∷ cs) (m ∷ ls) c l h s = (h.0, came_push cs ls c l h.1 s)

-- a message that may come after what came on a port may be taken on it
pub may_take : (cs : List Came) (ls : Lists) (port : ℕ) (m : Message) (at : Came) → AllCame cs ls → port < length cs → at ≡ get_or cs port at → ((ms : List Message) → CameFor at ms → MayCome ms m) → MayTake ls port m
may_take cs ls port m at came within is may = record {
  port_is = omega (arith, came_length cs ls came);
  comes = may (list_at ls port) (subst (λ (c : Came). CameFor c (list_at ls port)) (sym is) (came_at port cs ls at came within));
}

-- a node to which nothing came
pub started : (node : Node) (cs : List Came) (count ports : ℕ) → count ≡ ports → NodeStands node (replicate count []) [] → AllCame cs (replicate ports []) → NodeWasFed node cs
started node cs count ports is stands came = record { lists = replicate count []; given = []; stands = stands; came_are = subst (λ (n : ℕ). AllCame cs (replicate n [])) (sym is) came }

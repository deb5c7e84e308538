use Rattle.std.proofs.Common.{◌≡◌, ◌∙◌, sym, ap, subst, refl}
use Rattle.std.specs.Prelude.{Option, unwrap_or}
use Rattle.cedr_plan.specs.Drawn.{node_of}
use Rattle.cedr_node.specs.declared.node.Node.{Node}
use Rattle.cedr_node.specs.Nodes.{made_of, NodeStands}
use Rattle.cedr_net.proofs.work.Work.take.Goals as goal

pub returns-in-Ok : goal.returns-in-Ok
returns-in-Ok c = λ n lists given isnt works may.
    let w = works.other isnt in
    let same : w.0 ≡ c.in-Some.node = ap (λ (o : Option Node). unwrap_or o w.0) (sym w.1 ∙ c.in-Some.is) in
    let stands = subst (λ (m : Node). NodeStands m lists given) same w.3 in
    let made = subst (λ (m : Node). node_of (made_of m) ≡ node_of n) same w.2 in
    let e = c.in-Ok.ensures in
    let t = e.taken lists given stands may in (
      t.0,
      t.1,
      record { other = λ _. (c.take.new.self, refl, ap node_of e.made_of ∙ made, t.2); source = λ is. absurd (let a = is in let b = isnt in cc) },
    )

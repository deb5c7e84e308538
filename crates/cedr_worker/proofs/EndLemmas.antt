-- How a worker begins, what it never sends, and what is left when it ended.
use Rattle.std.proofs.Common.{◌≡◌, ℕ, zero, suc, ◌<◌, Bool, true, false, true≢false, List, [], ◌∷◌, ◌++◌, length, map, get_or, replicate, refl, sym, ◌∙◌, ap, subst, arith}
use Rattle.std.specs.List.{All}
use Rattle.std.proofs.lemmas.List.{length-map}
use Rattle.cedr_base.specs.declared.change.Message.{Message}
use Rattle.cedr_base.specs.declared.change.Message.TheVariants as message
use Rattle.cedr_edge.specs.Ends.{InEnd, OutEnd}
use Rattle.node_laws.specs.Lists.{Lists}
use Rattle.node_laws.specs.Lawful.{is_over, all_over, any_broken, has_broken}
use Rattle.node_laws.proofs.Ends.{over_grows, over_open, unbroken_front}
use Rattle.node_laws.proofs.Giving.{lawful_opened, lawful_unbroken}
use Rattle.cedr_node.specs.declared.node.Node.{Node}
use Rattle.cedr_node.specs.Nodes.{made_of, port_count, NodeStands}
use Rattle.cedr_node.proofs.NodeLemmas.{stands_lawful, stands_legal}
use Rattle.worker_outlets.specs.Outgoing.{Outgoing}
use Rattle.worker_outlets.specs.Outlets.{AllTotal, AllStaged, AllOver, total_of, end_sent}
use Rattle.cedr_plan.specs.declared.plan.PlanNode.{PlanNode}
use Rattle.cedr_worker.specs.Inputs.{taken_in}
use Rattle.cedr_worker.specs.Operators.{NodeWorks, Sound, Lost, NoneBroken, SoundEnd, LostEnd}
use Rattle.cedr_worker.proofs.TurnLemmas.{element}
use Rattle.op_node.specs.Meanings.{meaning_of, port_levels}

-- where nothing was taken, the lists are empty
pub taken_none : (inputs : List InEnd) → All (λ (e : InEnd). e.taken ≡ []) inputs → taken_in inputs ≡ replicate (length inputs) []
taken_none [] none = refl
taken_none (e ∷ es) none = let head : e.taken ≡ [] = none 0 e (omega arith) in let rest : taken_in es ≡ replicate (length es) [] = taken_none es (λ k d less. none (suc k) d (omega arith)) in λ i. head i ∷ rest i

-- a worker to which nothing came
pub works_new : (node : Node) (inputs : List InEnd) (os : List Outgoing) → NodeStands node (replicate (port_count node) []) [] → length inputs ≡ port_count node → All (λ (e : InEnd). e.taken ≡ []) inputs → AllTotal [] os × AllStaged [] os
    → NodeWorks node (taken_in inputs) os false false
works_new node inputs os stands count none nothing = record {
  sound = λ e.
      record { given = []; stands = subst (λ (ls : Lists). NodeStands node ls []) (sym (taken_none inputs none ∙ ap (λ (n : ℕ). replicate n []) count)) stands; all = nothing.0; clean = nothing.1 };
  lost = λ e. absurd (true≢false (sym e));
  whole = λ e. refl;
}

-- where memory was found and no list that was taken is broken, no Broken was sent
pub none_broken : (node : Node) (lists : Lists) (os : List Outgoing) (lacked broke : Bool) → NodeWorks node lists os lacked broke → lacked ≡ false → any_broken lists ≡ false → NoneBroken os
none_broken node lists os lacked broke w found none k d less =
    let s = w.sound found in
    let o = get_or os k d in
    unbroken_front o.sent o.pending (ap has_broken (s.all k d less) ∙ lawful_unbroken (meaning_of (made_of node)) (port_levels (made_of node)) lists s.given (stands_lawful node lists s.given s.stands) none)

-- the ends have what is meant for each edge
pub ends_sent : (given : List Message) (os : List Outgoing) (outs : List OutEnd) → map end_sent outs ≡ map total_of os → AllTotal given os → All (λ (e : OutEnd). e.sent ≡ given) outs
ends_sent given os [] same all k d less = absurd (omega arith)
ends_sent given [] (e ∷ outs) same all k d less = absurd (omega (arith, ap (λ (l : Lists). length l) same))
ends_sent given (o ∷ os) (e ∷ outs) same all zero d less = let head : e.sent ≡ total_of o = cc in head ∙ all 0 o (omega arith)
ends_sent given (o ∷ os) (e ∷ outs) same all (suc k) d less =
    let rest : map end_sent outs ≡ map total_of os = cc in ends_sent given os outs rest (λ j d' less'. all (suc j) d' (omega arith)) k d (omega arith)

-- there are as many ends as out edges
pub ends_length : (os : List Outgoing) (outs : List OutEnd) → map end_sent outs ≡ map total_of os → length outs ≡ length os
ends_length os outs same = sym (length-map outs end_sent) ∙ (ap (λ (l : Lists). length l) same ∙ length-map os total_of)

-- where memory was found, what was sent over each end is the list that the node gave
pub sound_end : (node : Node) (lists : Lists) (os : List Outgoing) (outs : List OutEnd) (lacked broke : Bool) → map end_sent outs ≡ map total_of os → NodeWorks node lists os lacked broke → lacked ≡ false → SoundEnd node lists outs
sound_end node lists os outs lacked broke same w found = let s = w.sound found in record { given = s.given; stands = s.stands; sent = ends_sent s.given os outs same s.all }

-- what goes on isn't meant for an edge that is over
not_over_yet : (given : List Message) (os : List Outgoing) → AllOver os → AllTotal given os → is_over given ≡ false → (k : ℕ) → k < length os → ⊥
not_over_yet given os over all goes k less =
    let o = get_or os k (element os k less) in
    absurd (true≢false (sym (over_grows o.sent o.pending (over k (element os k less) less)) ∙ (ap is_over (all k (element os k less) less) ∙ goes)))

lost_end_at : (made : PlanNode) (lists : Lists) (os : List Outgoing) (outs : List OutEnd) (broke : Bool) → map end_sent outs ≡ map total_of os → AllOver os → Lost made lists os broke → LostEnd made lists outs
lost_end_at made lists os outs true same over s = record {
  before = s.before;
  prefixes = s.prefixes;
  given = s.given;
  lawful = s.lawful;
  goes = s.goes;
  legal = s.legal;
  sent = ends_sent (s.given ++ message.Broken ∷ []) os outs same s.all;
}
lost_end_at made lists os outs false same over s =
    let none = not_over_yet s.given os over s.all s.goes in
    record {
      before = s.before;
      prefixes = s.prefixes;
      given = s.given;
      lawful = s.lawful;
      goes = s.goes;
      legal = s.legal;
      sent = λ k d less. absurd (none k (omega (arith, less, ends_length os outs same)));
    }

-- where memory was lacking and each out edge is over, what was sent over each end is a lawful list and then
-- one Broken
pub lost_end : (node : Node) (lists : Lists) (os : List Outgoing) (outs : List OutEnd) (lacked broke : Bool) → map end_sent outs ≡ map total_of os → AllOver os → NodeWorks node lists os lacked broke → lacked ≡ true → LostEnd (made_of node) lists outs
lost_end node lists os outs lacked broke same over w lacks = lost_end_at (made_of node) lists os outs broke same over (w.lost lacks)

-- where an out edge is over, each input is
over_found : (node : Node) (lists : Lists) (os : List Outgoing) → AllOver os → 0 < length os → Sound node lists os → (b : Bool) → all_over lists ≡ b → b ≡ true
over_found node lists os over some s true e = refl
over_found node lists os over some s false e =
    absurd
    (not_over_yet s.given os over s.all
    (over_open s.given (lawful_opened (meaning_of (made_of node)) (port_levels (made_of node)) lists s.given (stands_lawful node lists s.given s.stands) (stands_legal node lists s.given s.stands) e)) 0 some)

over_lost : (made : PlanNode) (lists : Lists) (os : List Outgoing) (broke : Bool) → AllOver os → 0 < length os → Lost made lists os broke → all_over lists ≡ true
over_lost made lists os true over some s = s.over refl
over_lost made lists os false over some s = absurd (not_over_yet s.given os over s.all s.goes 0 some)

over_at : (node : Node) (lists : Lists) (os : List Outgoing) (lacked broke : Bool) → AllOver os → 0 < length os → NodeWorks node lists os lacked broke → all_over lists ≡ true
over_at node lists os false broke over some w = over_found node lists os over some (w.sound refl) (all_over lists) refl
over_at node lists os true broke over some w = over_lost (made_of node) lists os broke over some (w.lost refl)

-- where each out edge is over, and there is one, each input is over
pub inputs_end : (node : Node) (lists : Lists) (os : List Outgoing) (outs : List OutEnd) (lacked broke : Bool) → map end_sent outs ≡ map total_of os → AllOver os → NodeWorks node lists os lacked broke → 0 < length outs → all_over lists ≡ true
inputs_end node lists os outs lacked broke same over w some = over_at node lists os lacked broke over (omega (arith, some, ends_length os outs same)) w

-- Nodes of a network that are turned one after the other.
use Rattle.std.proofs.Common.{ℕ, List, [], ◌∷◌, ◌++◌, Bool, true, false, ◌<◌, length, refl, ap, ◌∙◌, subst}
use Rattle.std.specs.Prelude.{Result, Ok, Err, IsErrOf}
use Rattle.node_laws.specs.Lists.{Lists, with_more}
use Rattle.cedr_plan.specs.declared.plan.PlanNode.{PlanNode}
use Rattle.cedr_net.specs.declared.net.NetFault.{NetFault}
use Rattle.cedr_net.specs.declared.net.SerialNet.{SerialNet}
use Rattle.cedr_net.specs.Flows.{with_taken}
use Rattle.cedr_net.proofs.SettleLemmas.{turn_sources}
use Rattle.cedr_net.specs.Networks.{NetStands, IsNetTurn, TurnsTo, TurnsAlong, IsScheduled}

along_on : (nodes : List PlanNode) (a b c : SerialNet) (ports ports₁ ports₂ : List Lists) (given given₁ given₂ : Lists) (places : List ℕ) (p : ℕ)
    → TurnsAlong nodes a b ports given places ports₁ given₁ → TurnsTo nodes b c ports₁ given₁ p ports₂ given₂ → TurnsAlong nodes a c ports given (places ++ p ∷ []) ports₂ given₂
along_on nodes a b c ports ports₁ ports₂ given given₁ given₂ [] p same t = (
  c,
  ports₂,
  given₂,
  subst (λ (gs : Lists). TurnsTo nodes a c ports gs p ports₂ given₂) same.2 (subst (λ (ps : List Lists). TurnsTo nodes a c ps given₁ p ports₂ given₂) same.1 (subst (λ (net : SerialNet). TurnsTo nodes net c ports₁ given₁ p ports₂ given₂) same.0 t)),
  (refl, refl, refl),
)
along_on nodes a b c ports ports₁ ports₂ given given₁ given₂ (q ∷ places) p first t =
    (first.0, first.1, first.2, first.3, along_on nodes first.0 b c first.1 ports₁ ports₂ first.2 given₁ given₂ places p first.4 t)

-- nothing was turned yet
pub scheduled_none : (nodes : List PlanNode) (net : SerialNet) (ports : List Lists) (given : Lists) → NetStands nodes net ports given → IsScheduled nodes net net ports given []
scheduled_none nodes net ports given h = record { ports' = ports; given' = given; turns = (refl, refl, refl); stands = h; sources = λ k source. refl }

-- one node more was turned
pub scheduled_on : (nodes : List PlanNode) (a b c : SerialNet) (ports : List Lists) (given : Lists) (places : List ℕ) (p : ℕ) (moved : Bool) → (s : IsScheduled nodes a b ports given places) → p < length nodes → IsNetTurn nodes b c s.ports' s.given' p moved
    → IsScheduled nodes a c ports given (places ++ p ∷ [])
scheduled_on nodes a b c ports given places p true s within turn =
    let t = turn.turned refl in
    let ports₂ = with_taken s.ports' p t.1.port t.1.message in
    let given₂ = with_more s.given' p t.0 in
    record {
      ports' = with_taken s.ports' p t.1.port t.1.message;
      given' = with_more s.given' p t.0;
      turns = along_on nodes a b c ports s.ports' ports₂ given s.given' given₂ places p s.turns (record { moved = true; turn = turn; taken = λ is. (t.0, t.1, refl, refl); idle = λ isnt. absurd (let e = isnt in cc) });
      stands = record { usable = turn.usable; stands = t.1.stands };
      sources = λ k source. turn_sources nodes b.flow c.flow s.ports' s.given' p t.0 s.stands.stands within t.1 k source ∙ s.sources k source;
    }
scheduled_on nodes a b c ports given places p false s within turn =
    record {
      ports' = s.ports';
      given' = s.given';
      turns = along_on nodes a b c ports s.ports' s.ports' given s.given' s.given' places p s.turns (record { moved = false; turn = turn; taken = λ is. absurd (let e = is in cc); idle = λ isnt. (refl, refl) });
      stands = (turn.idle refl).1;
      sources = s.sources;
    }

retyped : Result (Unit {0}) NetFault → Result Bool NetFault
retyped (Ok done) = Ok true
retyped (Err fault) = Err fault

-- a fault is the same whatever the answer is otherwise
pub same_fault : (fault other : NetFault) → IsErrOf {T = Unit {0}} (Err fault) other → IsErrOf {T = Bool} (Err fault) other
unfolding retyped
same_fault fault other e = ap retyped e

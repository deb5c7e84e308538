-- A network to which the messages of accepted lines are fed.
use Rattle.std.proofs.Common.{◌≡◌, ◌≢◌, ◌⊎◌, inl, inr, ℕ, zero, suc, ◌<◌, List, [], ◌∷◌, ◌++◌, length, set, get_or, refl, ap, sym, ◌∙◌, subst, arith}
use Rattle.std.specs.Prelude.{map, replicate}
use Rattle.cedr_base.specs.declared.change.Message.{Message}
use Rattle.cedr_base.specs.Messages.{IsLegal}
use Rattle.cedr_guard.specs.declared.guard.Guard.{Guard}
use Rattle.cedr_guard.specs.Messages.{messages_behind}
use Rattle.cedr_guard.specs.Standing.{Guards}
use Rattle.cedr_guard.proofs.MessageLemmas.{accepted_messages}
use Rattle.node_laws.specs.Lists.{Lists, list_at, with_more}
use Rattle.cedr_net.specs.declared.net.SerialNet.{SerialNet}
use Rattle.cedr_net.specs.Edges.{NothingWaits, lists_joined}
use Rattle.cedr_net.specs.Flows.{IsSourceAt, reads_of}
use Rattle.cedr_net.specs.Networks.{NetStands, HasSettled, waiting_at}
use Rattle.cedr_net.proofs.FlowLemmas.{same_or_not}
use Rattle.node_laws.proofs.ListLemmas.{at_more_other, at_more}
use Rattle.cedr_net.proofs.SettleLemmas.{grow_along, grow_more}
use Rattle.cedr_plan.specs.declared.plan.PlanNode.{PlanNode}
use Rattle.plan_runs.specs.Runs.{lists_at}
use Rattle.cedr_text.specs.declared.event_line.EventLine.{EventLine}
use Rattle.plan_live.specs.declared.player.Player.{Player}
use Rattle.plan_live.specs.Scripts.{Accepted, lines_at, no_lines}
use Rattle.plan_live.specs.Playing.{IsSettledNet, IsFedOn, PlaysStand}
use Rattle.cedr_net.proofs.NewLemmas.{no_list}
use Rattle.plan_live.proofs.GuardLemmas.{no_line, none_stand, lines_here, lines_other, one_stands}

-- ---- one source gave more

-- a settled network has a list for each node of what it gave
pub given_count : (nodes : List PlanNode) (net : SerialNet) (given : Lists) → IsSettledNet nodes net given → length given ≡ length nodes
given_count nodes net given s = s.stands.stands.flows.given_count

-- a network that was fed messages and settled
pub fed_settled : (nodes : List PlanNode) (net : SerialNet) (taken : List Lists) (given : Lists) (place : ℕ) (ms : List Message) → length given ≡ length nodes → place < length nodes → HasSettled nodes net taken (with_more given place ms) → IsFedOn nodes net given place ms
fed_settled nodes net taken given place ms count within s = record {
  given' = s.given';
  settled = record { ports = s.ports; stands = s.stands; empty = s.empty };
  sources = s.sources;
  grow = grow_along given (with_more given place ms) s.given' (grow_more given place ms (omega (arith, count, within))) s.grow;
}

-- ---- a line was accepted

-- the messages of lines that a guard stands for are legal
pub legal_more : (given ms : List Message) (before lines : List EventLine) (guard : Guard) → given ≡ messages_behind [] before → Guards guard lines → messages_behind [] lines ≡ messages_behind [] before ++ ms → IsLegal (given ++ ms)
legal_more given ms before lines guard gave stands more =
    subst IsLegal (more ∙ ap (λ (xs : List Message). xs ++ ms) (sym gave)) (accepted_messages lines stands.accepted).legal

-- one line more of the source at a place
module _ (nodes : List PlanNode) (old new : Player) (before : Accepted) (shown : Lists) (place : ℕ) (p : PlaysStand nodes old before shown) (within : place < length nodes) (lines : List EventLine) (ms : List Message) (guard : Guard)
    (set_to : new.guards.items ≡ set old.guards.items place guard) (stands : Guards guard lines) (more : messages_behind [] lines ≡ messages_behind [] (lines_at before place) ++ ms) (fed : IsFedOn nodes new.net p.given place ms) where
  abbrev now : Accepted
  now = set before place lines

  sources_now : (k : ℕ) → k < length nodes → IsSourceAt nodes k → (k ≡ place) ⊎ (k ≢ place) → list_at (with_more p.given place ms) k ≡ messages_behind [] (lines_at now k)
  sources_now k inside source (inl e) =
      ap (list_at (with_more p.given place ms)) e
      ∙ (at_more p.given place ms (omega (arith, given_count nodes old.net p.given p.settled, within))
      ∙ (ap (λ (xs : List Message). xs ++ ms) (p.sources place within (subst (IsSourceAt nodes) e source))
      ∙ (sym more ∙ ap (messages_behind []) (sym (ap (lines_at now) e ∙ lines_here nodes old.guards.items before place p.judged within lines)))))
  sources_now k inside source (inr ne) =
      at_more_other p.given place k ms ne ∙ (p.sources k inside source ∙ ap (messages_behind []) (sym (lines_other nodes old.guards.items before place p.judged within lines k ne)))

  pub stands_on : PlaysStand nodes new now shown
  stands_on = record {
    judged = one_stands nodes old.guards.items before place p.judged within lines guard stands new.guards.items set_to;
    given = fed.given';
    settled = fed.settled;
    sources = λ k inside source. fed.sources k source ∙ sources_now k inside source (same_or_not k place);
    grow = grow_along shown p.given fed.given' p.grow fed.grow;
  }

-- ---- no line was accepted

append_none : (l q : List Message) → l ++ q ≡ [] → q ≡ []
append_none [] q e = e
append_none (m ∷ l) q e = absurd (let x = e in cc)

none_joined : (ls qs : Lists) → length ls ≡ length qs → ((k : ℕ) → list_at (lists_joined ls qs) k ≡ []) → NothingWaits qs
none_joined [] [] wide none k = refl
none_joined [] (q ∷ qs) wide none k = absurd (omega arith)
none_joined (l ∷ ls) [] wide none k = absurd (omega arith)
none_joined (l ∷ ls) (q ∷ qs) wide none zero = append_none l q (none 0)
none_joined (l ∷ ls) (q ∷ qs) wide none (suc k) = none_joined ls qs (omega arith) (λ j. none (suc j)) k

none_read : (given : Lists) (inputs : List ℕ) → ((k : ℕ) → list_at given k ≡ []) → (k : ℕ) → list_at (map (list_at given) inputs) k ≡ []
none_read given [] none k = refl
none_read given (i ∷ inputs) none zero = none i
none_read given (i ∷ inputs) none (suc k) = none_read given inputs none k

-- where no node gave anything no message waits
pub nothing_waits : (nodes : List PlanNode) (net : SerialNet) (ports : List Lists) (given : Lists) → NetStands nodes net ports given → ((k : ℕ) → list_at given k ≡ []) → (k : ℕ) → NothingWaits (waiting_at net k)
nothing_waits nodes net ports given h none k =
    let flows = h.stands.flows in
    none_joined (lists_at ports k) (waiting_at net k) (flows.widths k) (λ j. ap (λ (ls : Lists). list_at ls j) (flows.edges k) ∙ none_read given (get_or (reads_of nodes) k []) none j)

-- a player of a new network
pub first_stands : (nodes : List PlanNode) (player : Player) (ports : List Lists) → length player.guards.items ≡ length nodes → ((k : ℕ) (d : Guard) → k < length player.guards.items → Guards (get_or player.guards.items k d) [])
    → NetStands nodes player.net ports (replicate (length nodes) []) → PlaysStand nodes player (no_lines nodes) []
first_stands nodes player ports count guards stands =
    let given : Lists = replicate (length nodes) [] in
    let none : (k : ℕ) → list_at given k ≡ [] = no_list (length nodes) in
    record {
      judged = none_stand nodes player.guards.items count guards;
      given = given;
      settled = record { ports = ports; stands = stands; empty = λ k within. nothing_waits nodes player.net ports given stands none k };
      sources = λ k within source. none k ∙ ap (messages_behind []) (sym (no_line nodes k));
      grow = record { grows = λ k. (list_at given k, refl) };
    }

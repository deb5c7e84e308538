-- What a player holds before the first line of a script, and how it comes to states.
use Rattle.std.proofs.Common.{◌≡◌, ◌≢◌, ◌⊎◌, inl, inr, ℕ, zero, suc, ◌<◌, List, [], ◌∷◌, ◌++◌, length, map, set, get_or, refl, ap, sym, ◌∙◌, subst, arith, get_or-set_same, get_or-set_other}
use Rattle.std.specs.Prelude.{replicate}
use Rattle.std.proofs.lemmas.List.{length-set, length-map}
use Rattle.cedr_base.specs.declared.change.Message.{Message}
use Rattle.cedr_base.specs.Messages.{IsLegal}
use Rattle.cedr_guard.proofs.StateHistories.{fit_accepted}
use Rattle.cedr_guard.specs.Messages.{messages_behind}
use Rattle.cedr_guard.specs.Spelt.{State, inserts, retracts, lines_of, IsFit}
use Rattle.cedr_net.proofs.FlowLemmas.{same_or_not}
use Rattle.cedr_net.proofs.NewLemmas.{no_list}
use Rattle.cedr_net.specs.Flows.{IsSourceAt}
use Rattle.cedr_net.specs.Networks.{NetStands}
use Rattle.cedr_plan.specs.Places.{output_place}
use Rattle.cedr_plan.specs.declared.plan.PlanNode.{PlanNode}
use Rattle.cedr_text.specs.declared.event_line.EventLine.{EventLine}
use Rattle.cedr_text.specs.declared.event_line.EventLine.TheVariants.{Promise}
use Rattle.node_laws.proofs.ListLemmas.{at_more, at_more_other}
use Rattle.node_laws.specs.Lists.{Lists, list_at, with_more}
use Rattle.plan_follow.proofs.PlayerLemmas.{holds_on, holds_alike}
use Rattle.plan_follow.proofs.RecallLemmas.{GoesOnFrom}
use Rattle.plan_follow.specs.Playing.{IsStillBehind, PlayerHolds, HoldsBehind, HoldsFirst}
use Rattle.plan_follow.specs.Sifted.{left_of}
use Rattle.plan_follow.specs.declared.player.OpenPlayer.{OpenPlayer}
use Rattle.plan_live.proofs.FeedLemmas.{nothing_waits}
use Rattle.plan_live.proofs.GuardLemmas.{no_line, no_lines_count}
use Rattle.plan_live.proofs.ShownLemmas.{messages_at}
use Rattle.plan_live.specs.Scripts.{Accepted, lines_at, no_lines, messages_so_far}
use Rattle.source_memory.proofs.MemoryLemmas.{continues_first, continues_left, remembers_left}
use Rattle.source_memory.specs.Opened.{Recalls}
use Rattle.source_memory.specs.Remembered.{remembered_lines}
use Rattle.source_memory.specs.declared.guard.OpenGuard.{OpenGuard}

-- ---- what is remembered at a place

pub left_at : (before : Accepted) (k : ℕ) → lines_at (map left_of before) k ≡ left_of (lines_at before k)
left_at [] k = refl
left_at (lines ∷ before) zero = refl
left_at (lines ∷ before) (suc k) = left_at before k

left_some : (lines : List EventLine) (line : EventLine) → left_of (lines ++ line ∷ []) ≡ remembered_lines (lines ++ line ∷ [])
left_some [] line = refl
left_some (l ∷ lines) line = refl

left_state : (state : State) → left_of (lines_of state) ≡ remembered_lines (lines_of state)
left_state state = left_some (inserts state.events ++ retracts state.events) (Promise state.mark)

-- ---- no line was accepted

pub first_holds : (nodes : List PlanNode) (player : OpenPlayer) (ports : List Lists) → length player.guards.items ≡ length nodes → ((k : ℕ) (d : OpenGuard) → k < length player.guards.items → Recalls (get_or player.guards.items k d) [])
    → NetStands nodes player.net ports (replicate (length nodes) []) → HoldsFirst nodes player
first_holds nodes player ports count guards stands =
    let given : Lists = replicate (length nodes) [] in
    let before = no_lines nodes in
    let none : (k : ℕ) → list_at given k ≡ [] = no_list (length nodes) in
    let kept : (k : ℕ) → lines_at (map left_of before) k ≡ [] = λ k. left_at before k ∙ ap left_of (no_line nodes k) in
    let sent : (k : ℕ) → list_at (messages_so_far before) k ≡ [] = λ k. messages_at before k ∙ ap (messages_behind []) (no_line nodes k) in (
      given,
      record {
        recall = record {
          kept_count = length-map before left_of ∙ no_lines_count nodes;
          sent_count = length-map before (messages_behind []) ∙ no_lines_count nodes;
          guards_count = count;
          each = λ k d within. subst (Recalls (get_or player.guards.items k d)) (sym (kept k)) (guards k d (omega (arith, count, within)));
          goes_on = λ k within. subst (λ (ms : List Message). GoesOnFrom ms (lines_at (map left_of before) k)) (sym (sent k)) (subst (GoesOnFrom []) (sym (kept k)) ([], continues_first [] tt));
        };
        still = record { ports = ports; stands = stands; empty = λ k within. nothing_waits nodes player.net ports given stands none k };
        sources = λ k within source. none k ∙ sym (sent k);
      },
      none (output_place nodes),
    )

-- ---- a source comes to a state

-- the messages of its lines go on from what is remembered of them
state_goes_on : (state : State) → IsFit state → GoesOnFrom (messages_behind [] (lines_of state)) (remembered_lines (lines_of state))
state_goes_on state fit =
    let lines = lines_of state in
    let accepted = fit_accepted state fit in
    let left = continues_left (messages_behind [] lines) lines (remembered_lines lines) [] accepted (continues_first lines accepted) (remembers_left lines accepted) in
    (left.0 ++ [], left.2)

module _ (nodes : List PlanNode) (old new : OpenPlayer) (before : Accepted) (given : Lists) (place : ℕ) (p : PlayerHolds nodes old (map left_of before) (messages_so_far before) given) (within : place < length nodes) (source : IsSourceAt nodes place) (none : lines_at before place ≡ [])
    (state : State) (fit : IsFit state) (ms : List Message) (are : ms ≡ messages_behind [] (lines_of state)) where
  before_count : length before ≡ length nodes
  before_count = sym (length-map before left_of) ∙ p.recall.kept_count

  none_sent : list_at (messages_so_far before) place ≡ []
  none_sent = messages_at before place ∙ ap (messages_behind []) none

  goes : GoesOnFrom (list_at (messages_so_far before) place ++ ms) (remembered_lines (lines_of state))
  goes = subst (λ (xs : List Message). GoesOnFrom (xs ++ ms) (remembered_lines (lines_of state))) (sym none_sent) (subst (λ (xs : List Message). GoesOnFrom xs (remembered_lines (lines_of state))) (sym are) (state_goes_on state fit))

  -- they may be fed
  pub state_legal : IsLegal (list_at given place ++ ms)
  state_legal = subst (λ (xs : List Message). IsLegal (xs ++ ms)) (sym (p.sources place within source)) goes.1.legal

  lines_now : (k : ℕ) → (k ≡ place) ⊎ (k ≢ place) → lines_at (map left_of (set before place (lines_of state))) k ≡ lines_at (set (map left_of before) place (remembered_lines (lines_of state))) k
  lines_now k (inl e) =
      left_at (set before place (lines_of state)) k
      ∙ (ap left_of (ap (lines_at (set before place (lines_of state))) e ∙ get_or-set_same before place (lines_of state) [] (omega (arith, before_count, within)))
      ∙ (left_state state
      ∙ sym (ap (lines_at (set (map left_of before) place (remembered_lines (lines_of state)))) e ∙ get_or-set_same (map left_of before) place (remembered_lines (lines_of state)) [] (omega (arith, p.recall.kept_count, within)))))
  lines_now k (inr ne) =
      left_at (set before place (lines_of state)) k
      ∙ (ap left_of (get_or-set_other before place k (lines_of state) [] ne)
      ∙ (sym (left_at before k) ∙ sym (get_or-set_other (map left_of before) place k (remembered_lines (lines_of state)) [] ne)))

  sent_now : (k : ℕ) → (k ≡ place) ⊎ (k ≢ place) → list_at (messages_so_far (set before place (lines_of state))) k ≡ list_at (with_more (messages_so_far before) place ms) k
  sent_now k (inl e) =
      messages_at (set before place (lines_of state)) k
      ∙ (ap (messages_behind []) (ap (lines_at (set before place (lines_of state))) e ∙ get_or-set_same before place (lines_of state) [] (omega (arith, before_count, within)))
      ∙ (sym are
      ∙ (ap (λ (xs : List Message). xs ++ ms) (sym none_sent)
      ∙ sym (ap (list_at (with_more (messages_so_far before) place ms)) e ∙ at_more (messages_so_far before) place ms (omega (arith, p.recall.sent_count, within))))))
  sent_now k (inr ne) =
      messages_at (set before place (lines_of state)) k
      ∙ (ap (messages_behind []) (get_or-set_other before place k (lines_of state) [] ne) ∙ (sym (messages_at before k) ∙ sym (at_more_other (messages_so_far before) place k ms ne)))

  -- and then it has come to it
  pub state_holds : (guard : OpenGuard) → new.guards.items ≡ set old.guards.items place guard → Recalls guard (remembered_lines (lines_of state)) → IsStillBehind nodes new.net given place ms → HoldsBehind nodes new (set before place (lines_of state))
  state_holds guard set_to stands fed =
      let now = set before place (lines_of state) in (
        fed.given',
        holds_alike nodes new (set (map left_of before) place (remembered_lines (lines_of state))) (map left_of now) (with_more (messages_so_far before) place ms) (messages_so_far now) fed.given'
            (holds_on nodes old new (map left_of before) (messages_so_far before) given place p within source (remembered_lines (lines_of state)) ms guard set_to stands goes fed)
            (length-map now left_of ∙ (length-set before place (lines_of state) ∙ before_count)) (length-map now (messages_behind []) ∙ (length-set before place (lines_of state) ∙ before_count))
            (λ k inside. lines_now k (same_or_not k place)) (λ k inside. sent_now k (same_or_not k place)),
      )

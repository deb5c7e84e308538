-- A player whose guards forget, and a network behind them.
use Rattle.std.proofs.Common.{◌≡◌, ◌≢◌, ◌==◌, false, ◌⊎◌, inl, inr, ℕ, ◌<◌, List, [], ◌∷◌, ◌++◌, length, set, get_or, Option, None, Some, Result, Ok, Err, Vec, refl, ap, sym, ◌∙◌, subst, arith, append-nil, get_or-set_same, get_or-set_other}
use Rattle.std.specs.Global.{Global}
use Rattle.std.proofs.lemmas.List.{length-set}
use Rattle.cedr_base.specs.declared.change.Message.{Message}
use Rattle.cedr_base.specs.Messages.{IsLegal}
use Rattle.cedr_guard.specs.Judging.{fault_behind}
use Rattle.cedr_guard.specs.declared.fault.GuardFault.{GuardFault}
use Rattle.cedr_guard.specs.declared.fault.GuardFault.TheVariants as guard_fault
use Rattle.cedr_net.proofs.FlowLemmas.{same_or_not}
use Rattle.cedr_net.proofs.SettleLemmas.{grow_none, grow_along, grow_more}
use Rattle.cedr_net.specs.Flows.{IsSourceAt}
use Rattle.cedr_net.specs.Networks.{HasSettled}
use Rattle.cedr_net.specs.declared.stream.StreamNet.{StreamNet}
use Rattle.cedr_plan.specs.declared.plan.PlanNode.{PlanNode}
use Rattle.cedr_text.specs.declared.event_line.EventLine.{EventLine}
use Rattle.cedr_text.specs.declared.event_line.Shape.{Shape}
use Rattle.cedr_text.specs.declared.fault.LineFault.{LineFault}
use Rattle.node_laws.specs.Lists.{Lists, list_at, with_more}
use Rattle.node_laws.proofs.ListLemmas.{at_more, at_more_other}
use Rattle.plan_follow.specs.declared.player.OpenPlayer.{OpenPlayer}
use Rattle.plan_follow.specs.Playing.{IsLineFaultOf, IsStill, IsStillBehind, GuardsRecall, IsFaultBehind, Sifts, PlayerHolds, GoesOnTo}
use Rattle.plan_follow.specs.Sifted.{Sifted, passed_over, line_left_out, line_taken, with_judged, with_read, with_source, with_said}
use Rattle.plan_follow.proofs.RecallLemmas.{GoesOnFrom, lines_with, line_goes_on, one_recalls, recalls_alike}
use Rattle.plan_live.specs.Scripts.{Accepted, lines_at, source_event}
use Rattle.source_memory.specs.Opened.{Recalls}
use Rattle.source_memory.specs.Remembered.{kept_with}
use Rattle.source_memory.specs.declared.guard.OpenGuard.{OpenGuard}

-- ---- one source was sent more

module _ (nodes : List PlanNode) (old new : OpenPlayer) (kept : Accepted) (sent given : Lists) (place : ℕ) (p : PlayerHolds nodes old kept sent given) (within : place < length nodes) (source : IsSourceAt nodes place) (lines : List EventLine) (ms : List Message) where
  sources_now : (k : ℕ) → k < length nodes → IsSourceAt nodes k → (k ≡ place) ⊎ (k ≢ place) → list_at (with_more given place ms) k ≡ list_at (with_more sent place ms) k
  sources_now k inside at (inl e) =
      ap (list_at (with_more given place ms)) e
      ∙ (at_more given place ms (omega (arith, p.still.stands.stands.flows.given_count, within))
      ∙ (ap (λ (xs : List Message). xs ++ ms) (p.sources place within source)
      ∙ (sym (at_more sent place ms (omega (arith, p.recall.sent_count, within))) ∙ ap (list_at (with_more sent place ms)) (sym e))))
  sources_now k inside at (inr ne) = at_more_other given place k ms ne ∙ (p.sources k inside at ∙ sym (at_more_other sent place k ms ne))

  pub holds_on : (guard : OpenGuard) → new.guards.items ≡ set old.guards.items place guard → Recalls guard lines → GoesOnFrom (list_at sent place ++ ms) lines → (fed : IsStillBehind nodes new.net given place ms)
      → PlayerHolds nodes new (set kept place lines) (with_more sent place ms) fed.given'
  holds_on guard set_to stands goes fed = record {
    recall = one_recalls nodes old.guards.items kept sent place p.recall within lines ms guard stands goes new.guards.items set_to;
    still = fed.still;
    sources = λ k inside at. fed.sources k at ∙ sources_now k inside at (same_or_not k place);
  }

-- a player that holds lines holds others that are the same at each place
pub holds_alike : (nodes : List PlanNode) (player : OpenPlayer) (kept kept' : Accepted) (sent sent' given : Lists) → PlayerHolds nodes player kept sent given → length kept' ≡ length nodes → length sent' ≡ length nodes
    → ((k : ℕ) → k < length nodes → lines_at kept' k ≡ lines_at kept k) → ((k : ℕ) → k < length nodes → list_at sent' k ≡ list_at sent k) → PlayerHolds nodes player kept' sent' given
holds_alike nodes player kept kept' sent sent' given p count more_count lines lists = record {
  recall = recalls_alike nodes player.guards.items kept kept' sent sent' p.recall count more_count lines lists;
  still = p.still;
  sources = λ k inside at. p.sources k inside at ∙ sym (lists k inside);
}

-- ---- an event line

same_lines : (kept : Accepted) (place k : ℕ) → (k ≡ place) ⊎ (k ≢ place) → place < length kept → lines_at kept k ≡ lines_at (set kept place (lines_at kept place)) k
same_lines kept place k (inl e) within = ap (lines_at kept) e ∙ (sym (get_or-set_same kept place (lines_at kept place) [] within) ∙ ap (lines_at (set kept place (lines_at kept place))) (sym e))
same_lines kept place k (inr ne) within = sym (get_or-set_other kept place k (lines_at kept place) [] ne)

same_lists : (sent : Lists) (place k : ℕ) (ms : List Message) → ms ≡ [] → (k ≡ place) ⊎ (k ≢ place) → place < length sent → list_at sent k ≡ list_at (with_more sent place ms) k
same_lists sent place k ms none (inl e) within =
    ap (list_at sent) e ∙ (sym (append-nil (list_at sent place)) ∙ (ap (λ (xs : List Message). list_at sent place ++ xs) (sym none) ∙ (sym (at_more sent place ms within) ∙ ap (list_at (with_more sent place ms)) (sym e))))
same_lists sent place k ms none (inr ne) within = sym (at_more_other sent place k ms ne)

-- an event line without a fault is taken in, and one with a fault left out
judged_none : (s : Sifted) (place : ℕ) (event : EventLine) (fault : Option LineFault) → fault ≡ None → with_judged s place event fault ≡ line_taken s place event
judged_none s place event None none = refl
judged_none s place event (Some fault) none = absurd (let e = none in cc)

judged_some : (s : Sifted) (place : ℕ) (event : EventLine) (fault : LineFault) (found : Option LineFault) → found ≡ Some fault → with_judged s place event found ≡ line_left_out s fault
judged_some s place event fault None some = absurd (let e = some in cc)
judged_some s place event fault (Some other) some = ap (line_left_out s) (let e = some in cc)

read_fault : (s : Sifted) (place : ℕ) (fault : LineFault) (said : Result (Option EventLine) LineFault) → IsFaultBehind fault (lines_at s.kept place) said → with_read s place said ≡ line_left_out s fault
read_fault s place fault (Ok None) is = absurd is
read_fault s place fault (Ok (Some event)) is = judged_some s place event fault (fault_behind (lines_at s.kept place) event) is
read_fault s place fault (Err other) is = ap (line_left_out s) is

-- a line that isn't accepted changes nothing
pub fault_kept : (nodes : List PlanNode) (player : OpenPlayer) (s : Sifted) (given : Lists) (fault : LineFault) → PlayerHolds nodes player s.kept s.sent given → GoesOnTo nodes player s (line_left_out s fault) given (Some fault)
fault_kept nodes player s given fault p = record { given' = given; holds = p; grew = grow_none given; count = refl; refusals = refl }

-- nor does one that says nothing
pub nothing_said : (nodes : List PlanNode) (player : OpenPlayer) (s : Sifted) (given : Lists) → PlayerHolds nodes player s.kept s.sent given → GoesOnTo nodes player s (passed_over s) given None
nothing_said nodes player s given p = record { given' = given; holds = p; grew = grow_none given; count = refl; refusals = sym (append-nil s.refusals) }

module _ (nodes : List PlanNode) (old new : OpenPlayer) (s : Sifted) (given : Lists) (place : ℕ) (p : PlayerHolds nodes old s.kept s.sent given) (within : place < length nodes) (source : IsSourceAt nodes place) where
  module _ (messages : Vec Message Global) (said : Result (Option EventLine) LineFault) (guard : OpenGuard) (sifts : Sifts (Ok messages) guard (lines_at s.kept place) said) where
    goes : Recalls guard (lines_with (lines_at s.kept place) said) × GoesOnFrom (list_at s.sent place ++ messages.items) (lines_with (lines_at s.kept place) said)
    goes = line_goes_on messages guard (lines_at s.kept place) (list_at s.sent place) said (p.recall.each place guard within).accepted (p.recall.goes_on place within) sifts

    -- its messages may be fed
    pub event_legal : IsLegal (list_at given place ++ messages.items)
    event_legal = subst (λ (xs : List Message). IsLegal (xs ++ messages.items)) (sym (p.sources place within source)) goes.1.1.legal

    held : new.guards.items ≡ set old.guards.items place guard → (fed : IsStillBehind nodes new.net given place messages.items) → PlayerHolds nodes new (set s.kept place (lines_with (lines_at s.kept place) said)) (with_more s.sent place messages.items) fed.given'
    held set_to fed = holds_on nodes old new s.kept s.sent given place p within source (lines_with (lines_at s.kept place) said) messages.items guard set_to goes.0 goes.1 fed

  -- it was accepted, or says nothing
  pub event_taken : (messages : Vec Message Global) (said : Result (Option EventLine) LineFault) (guard : OpenGuard) → Sifts (Ok messages) guard (lines_at s.kept place) said → new.guards.items ≡ set old.guards.items place guard → IsStillBehind nodes new.net given place messages.items
      → GoesOnTo nodes new s (with_read s place said) given None
  event_taken messages (Ok None) guard sifts set_to fed = record {
    given' = fed.given';
    holds = holds_alike nodes new (set s.kept place (lines_at s.kept place)) s.kept (with_more s.sent place messages.items) s.sent fed.given' (held messages (Ok None) guard sifts set_to fed) p.recall.kept_count p.recall.sent_count
        (λ k inside. same_lines s.kept place k (same_or_not k place) (omega (arith, p.recall.kept_count, within)))
        (λ k inside. same_lists s.sent place k messages.items sifts.1 (same_or_not k place) (omega (arith, p.recall.sent_count, within)));
    grew = fed.grow;
    count = refl;
    refusals = sym (append-nil s.refusals);
  }
  event_taken messages (Ok (Some event)) guard sifts set_to fed =
      subst (λ (now : Sifted). GoesOnTo nodes new s now given None) (sym (judged_none s place event (fault_behind (lines_at s.kept place) event) sifts.2))
      (record {
        given' = fed.given';
        holds = subst (λ (xs : List Message). PlayerHolds nodes new (set s.kept place (kept_with (lines_at s.kept place) event)) (with_more s.sent place xs) fed.given') sifts.1 (held messages (Ok (Some event)) guard sifts set_to fed);
        grew = fed.grow;
        count = refl;
        refusals = sym (append-nil s.refusals);
      })
  event_taken messages (Err fault) guard sifts set_to fed = absurd sifts

  guard_as : (guard : OpenGuard) → Recalls guard (lines_at s.kept place) → (k : ℕ) (d : OpenGuard) → k < length nodes → (k ≡ place) ⊎ (k ≢ place) → Recalls (get_or (set old.guards.items place guard) k d) (lines_at s.kept k)
  guard_as guard stands k d inside (inl e) =
      subst (λ (j : ℕ). Recalls (get_or (set old.guards.items place guard) j d) (lines_at s.kept j)) (sym e)
      (subst (λ (g : OpenGuard). Recalls g (lines_at s.kept place)) (sym (get_or-set_same old.guards.items place guard d (omega (arith, p.recall.guards_count, within)))) stands)
  guard_as guard stands k d inside (inr ne) = subst (λ (g : OpenGuard). Recalls g (lines_at s.kept k)) (sym (get_or-set_other old.guards.items place k guard d ne)) (p.recall.each k d inside)

  refused_guards : (guard : OpenGuard) → Recalls guard (lines_at s.kept place) → new.guards.items ≡ set old.guards.items place guard → GuardsRecall nodes new.guards.items s.kept s.sent
  refused_guards guard stands set_to = record {
    kept_count = p.recall.kept_count;
    sent_count = p.recall.sent_count;
    guards_count = ap (λ (gs : List OpenGuard). length gs) set_to ∙ (length-set old.guards.items place guard ∙ p.recall.guards_count);
    each = λ k d inside. subst (λ (gs : List OpenGuard). Recalls (get_or gs k d) (lines_at s.kept k)) (sym set_to) (guard_as guard stands k d inside (same_or_not k place));
    goes_on = p.recall.goes_on;
  }

  -- a guard that refused a line stands for the lines as before
  pub event_refused : (fault : LineFault) (said : Result (Option EventLine) LineFault) (guard : OpenGuard) → Sifts (Err (guard_fault.Line fault)) guard (lines_at s.kept place) said → new.guards.items ≡ set old.guards.items place guard → new.net ≡ old.net
      → GoesOnTo nodes new s (with_read s place said) given (Some fault)
  event_refused fault said guard sifts set_to same =
      subst (λ (now : Sifted). GoesOnTo nodes new s now given (Some fault)) (sym (read_fault s place fault said sifts.1))
      (fault_kept nodes new s given fault (record {
        recall = refused_guards guard sifts.0 set_to;
        still = subst (λ (net : StreamNet). IsStill nodes net given) (sym same) p.still;
        sources = p.sources;
      }))

  -- the same by what was told
  pub refused_told : (fault : GuardFault) (told : Option LineFault) (said : Result (Option EventLine) LineFault) (guard : OpenGuard) → IsLineFaultOf fault told → Sifts (Err fault) guard (lines_at s.kept place) said → new.guards.items ≡ set old.guards.items place guard → new.net ≡ old.net
      → GoesOnTo nodes new s (with_read s place said) given told
  refused_told (guard_fault.Line fault) told said guard is sifts set_to same = subst (GoesOnTo nodes new s (with_read s place said) given) (sym is) (event_refused fault said guard sifts set_to same)
  refused_told guard_fault.OutOfMemory told said guard is sifts set_to same = absurd is

-- ---- the network

-- a network in which no message waits has a list for each node of what it gave
pub still_count : (nodes : List PlanNode) (net : StreamNet) (given : Lists) → IsStill nodes net given → length given ≡ length nodes
still_count nodes net given s = s.stands.stands.flows.given_count

-- a network that was fed messages and settled
pub fed_still : (nodes : List PlanNode) (net : StreamNet) (taken : List Lists) (given : Lists) (place : ℕ) (ms : List Message) → length given ≡ length nodes → place < length nodes → HasSettled nodes net taken (with_more given place ms) → IsStillBehind nodes net given place ms
fed_still nodes net taken given place ms count within s = record {
  given' = s.given';
  still = record { ports = s.ports; stands = s.stands; empty = s.empty };
  sources = s.sources;
  grow = grow_along given (with_more given place ms) s.given' (grow_more given place ms (omega (arith, count, within))) s.grow;
}

-- ---- a line

-- a line that isn't empty is what its source's event line is, if it names one
pub said_some : (nodes : List PlanNode) (shapes : List Shape) (s : Sifted) (line : List ℕ) (found : Option (ℕ × List ℕ)) → length line == 0 ≡ false → source_event nodes line ≡ found → with_said nodes shapes s line ≡ with_source shapes s found
said_some nodes shapes s [] found some is = absurd (let e = some in cc)
said_some nodes shapes s (b ∷ line) found some is = ap (with_source shapes s) is

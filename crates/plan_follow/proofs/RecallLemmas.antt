-- Guards that stand for what is remembered of the lines of a plan's nodes.
use Rattle.std.proofs.Common.{◌≡◌, ◌≢◌, ◌⊎◌, inl, inr, ℕ, zero, suc, ◌<◌, List, [], ◌∷◌, ◌++◌, length, set, get_or, Option, None, Some, Result, Ok, Err, Vec, ap, sym, ◌∙◌, subst, arith, append-nil, get_or-set_same, get_or-set_other}
use Rattle.std.specs.Global.{Global}
use Rattle.std.proofs.lemmas.List.{length-set}
use Rattle.cedr_base.specs.declared.change.Message.{Message}
use Rattle.cedr_base.specs.declared.row.Row.{Row}
use Rattle.cedr_guard.specs.Judging.{AreAccepted}
use Rattle.cedr_net.proofs.FlowLemmas.{same_or_not}
use Rattle.cedr_plan.specs.declared.plan.PlanNode.{PlanNode}
use Rattle.cedr_text.specs.declared.event_line.EventLine.{EventLine}
use Rattle.cedr_text.specs.declared.fault.LineFault.{LineFault}
use Rattle.node_laws.specs.Lists.{Lists, list_at, with_more}
use Rattle.node_laws.proofs.ListLemmas.{at_more, at_more_other}
use Rattle.plan_follow.specs.Playing.{GuardsRecall, Sifts}
use Rattle.plan_live.specs.Scripts.{Accepted, lines_at}
use Rattle.source_memory.specs.Opened.{Recalls}
use Rattle.source_memory.specs.Remembered.{kept_with, Continues}
use Rattle.source_memory.specs.declared.guard.OpenGuard.{OpenGuard}
use Rattle.source_memory.proofs.MemoryLemmas.{continues_behind}

-- one guard more that stands for no line, where the others stand for none
pub recall_push : (guards : List OpenGuard) (guard : OpenGuard) → ((k : ℕ) (d : OpenGuard) → k < length guards → Recalls (get_or guards k d) []) → Recalls guard [] → (k : ℕ) (d : OpenGuard) → k < length (guards ++ guard ∷ []) → Recalls (get_or (guards ++ guard ∷ []) k d) []
recall_push [] guard all one zero d within = one
recall_push [] guard all one (suc k) d within = absurd (omega arith)
recall_push (g ∷ guards) guard all one zero d within = all 0 d (omega arith)
recall_push (g ∷ guards) guard all one (suc k) d within = recall_push guards guard (λ j e inside. all (suc j) e (omega arith)) one k d (omega arith)

-- ---- one source

-- some messages more were sent, and from these lines they go on
abbrev pub GoesOnFrom : List Message → List EventLine → Type 0
GoesOnFrom sent lines = (gone : List Row) × Continues sent lines gone

-- what is remembered with what a line says, if it says anything
abbrev pub lines_with : List EventLine → Result (Option EventLine) LineFault → List EventLine
lines_with kept (Ok None) = kept
lines_with kept (Ok (Some event)) = kept_with kept event
lines_with kept (Err fault) = kept

none_sent : (sent ms : List Message) → ms ≡ [] → sent ≡ sent ++ ms
none_sent sent ms none = sym (append-nil sent) ∙ ap (λ (xs : List Message). sent ++ xs) (sym none)

-- a line that was accepted goes on
pub line_goes_on : (messages : Vec Message Global) (guard : OpenGuard) (kept : List EventLine) (sent : List Message) (said : Result (Option EventLine) LineFault) → AreAccepted kept → GoesOnFrom sent kept → Sifts (Ok messages) guard kept said
    → Recalls guard (lines_with kept said) × GoesOnFrom (sent ++ messages.items) (lines_with kept said)
line_goes_on messages guard kept sent (Ok None) accepted goes h = (h.0, (goes.0, subst (λ (xs : List Message). Continues xs kept goes.0) (none_sent sent messages.items h.1) goes.1))
line_goes_on messages guard kept sent (Ok (Some event)) accepted goes h =
    let on = continues_behind sent kept goes.0 event accepted goes.1 (record { event = h.3; faultless = h.2 }) in
    (h.0, (on.1.0 ++ goes.0, subst (λ (xs : List Message). Continues (sent ++ xs) (kept_with kept event) (on.1.0 ++ goes.0)) (sym h.1) on.1.2))
line_goes_on messages guard kept sent (Err fault) accepted goes h = absurd h

-- ---- all of them

module _ (nodes : List PlanNode) (old : List OpenGuard) (kept : Accepted) (sent : Lists) (place : ℕ) (r : GuardsRecall nodes old kept sent) (within : place < length nodes) (lines : List EventLine) (ms : List Message) where
  abbrev now : Accepted
  now = set kept place lines

  abbrev then : Lists
  then = with_more sent place ms

  lines_here : lines_at now place ≡ lines
  lines_here = get_or-set_same kept place lines [] (omega (arith, r.kept_count, within))

  lines_other : (k : ℕ) → k ≢ place → lines_at now k ≡ lines_at kept k
  lines_other k ne = get_or-set_other kept place k lines [] ne

  guard_now : (guard : OpenGuard) → Recalls guard lines → (k : ℕ) (d : OpenGuard) → k < length nodes → (k ≡ place) ⊎ (k ≢ place) → Recalls (get_or (set old place guard) k d) (lines_at now k)
  guard_now guard stands k d inside (inl e) =
      subst (λ (j : ℕ). Recalls (get_or (set old place guard) j d) (lines_at now j)) (sym e)
      (subst (λ (g : OpenGuard). Recalls g (lines_at now place)) (sym (get_or-set_same old place guard d (omega (arith, r.guards_count, within)))) (subst (Recalls guard) (sym lines_here) stands))
  guard_now guard stands k d inside (inr ne) =
      subst (λ (g : OpenGuard). Recalls g (lines_at now k)) (sym (get_or-set_other old place k guard d ne)) (subst (Recalls (get_or old k d)) (sym (lines_other k ne)) (r.each k d inside))

  sent_now : GoesOnFrom (list_at sent place ++ ms) lines → (k : ℕ) → k < length nodes → (k ≡ place) ⊎ (k ≢ place) → GoesOnFrom (list_at then k) (lines_at now k)
  sent_now goes k inside (inl e) =
      subst (λ (j : ℕ). GoesOnFrom (list_at then j) (lines_at now j)) (sym e)
      (subst (λ (xs : List Message). GoesOnFrom xs (lines_at now place)) (sym (at_more sent place ms (omega (arith, r.sent_count, within)))) (subst (GoesOnFrom (list_at sent place ++ ms)) (sym lines_here) goes))
  sent_now goes k inside (inr ne) =
      subst (λ (xs : List Message). GoesOnFrom xs (lines_at now k)) (sym (at_more_other sent place k ms ne)) (subst (GoesOnFrom (list_at sent k)) (sym (lines_other k ne)) (r.goes_on k inside))

  -- where one of them went on the others are as before
  pub one_recalls : (guard : OpenGuard) → Recalls guard lines → GoesOnFrom (list_at sent place ++ ms) lines → (new : List OpenGuard) → new ≡ set old place guard → GuardsRecall nodes new now then
  one_recalls guard stands goes new is = record {
    kept_count = length-set kept place lines ∙ r.kept_count;
    sent_count = length-set sent place (list_at sent place ++ ms) ∙ r.sent_count;
    guards_count = ap (λ (gs : List OpenGuard). length gs) is ∙ (length-set old place guard ∙ r.guards_count);
    each = λ k d inside. subst (λ (gs : List OpenGuard). Recalls (get_or gs k d) (lines_at now k)) (sym is) (guard_now guard stands k d inside (same_or_not k place));
    goes_on = λ k inside. sent_now goes k inside (same_or_not k place);
  }

-- guards that stand for lines stand for others that are the same at each place
pub recalls_alike : (nodes : List PlanNode) (guards : List OpenGuard) (kept kept' : Accepted) (sent sent' : Lists) → GuardsRecall nodes guards kept sent → length kept' ≡ length nodes → length sent' ≡ length nodes
    → ((k : ℕ) → k < length nodes → lines_at kept' k ≡ lines_at kept k) → ((k : ℕ) → k < length nodes → list_at sent' k ≡ list_at sent k) → GuardsRecall nodes guards kept' sent'
recalls_alike nodes guards kept kept' sent sent' r count more_count lines lists = record {
  kept_count = count;
  sent_count = more_count;
  guards_count = r.guards_count;
  each = λ k d inside. subst (Recalls (get_or guards k d)) (sym (lines k inside)) (r.each k d inside);
  goes_on = λ k inside. subst (λ (xs : List Message). GoesOnFrom xs (lines_at kept' k)) (sym (lists k inside)) (subst (GoesOnFrom (list_at sent k)) (sym (lines k inside)) (r.goes_on k inside));
}

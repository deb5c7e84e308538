-- Guards that stand for the accepted lines of a plan's nodes.
use Rattle.std.proofs.Common.{◌≡◌, ◌≢◌, ◌⊎◌, inl, inr, ℕ, zero, suc, ◌<◌, List, [], ◌∷◌, ◌++◌, length, set, get_or, Result, Err, refl, ap, sym, ◌∙◌, subst, arith, get_or-set_same, get_or-set_other}
use Rattle.std.proofs.lemmas.List.{length-set}
use Rattle.cedr_guard.specs.declared.fault.GuardFault.{GuardFault}
use Rattle.cedr_guard.specs.declared.fault.GuardFault.TheVariants as guard_fault
use Rattle.cedr_guard.specs.declared.guard.Guard.{Guard}
use Rattle.cedr_guard.specs.Standing.{Guards}
use Rattle.cedr_net.proofs.FlowLemmas.{same_or_not}
use Rattle.cedr_plan.specs.declared.plan.PlanNode.{PlanNode}
use Rattle.cedr_source.specs.Steps.{JudgesLine}
use Rattle.cedr_text.specs.declared.event_line.EventLine.{EventLine}
use Rattle.cedr_text.specs.declared.fault.LineFault.{LineFault}
use Rattle.plan_live.specs.Scripts.{Accepted, lines_at, no_lines, with_lines}
use Rattle.plan_live.specs.Playing.{IsLineFault, GuardsStand}

-- ---- no line was accepted

-- at no place
pub no_line : (nodes : List PlanNode) (k : ℕ) → lines_at (no_lines nodes) k ≡ []
no_line [] k = refl
no_line (n ∷ nodes) zero = refl
no_line (n ∷ nodes) (suc k) = no_line nodes k

-- of each node
pub no_lines_count : (nodes : List PlanNode) → length (no_lines nodes) ≡ length nodes
no_lines_count [] = refl
no_lines_count (n ∷ nodes) = ap (λ (k : ℕ). suc k) (no_lines_count nodes)

-- one guard more that stands for no line, where the others stand for none
pub guards_push : (guards : List Guard) (guard : Guard) → ((k : ℕ) (d : Guard) → k < length guards → Guards (get_or guards k d) []) → Guards guard [] → (k : ℕ) (d : Guard) → k < length (guards ++ guard ∷ []) → Guards (get_or (guards ++ guard ∷ []) k d) []
guards_push [] guard all one zero d within = one
guards_push [] guard all one (suc k) d within = absurd (omega arith)
guards_push (g ∷ guards) guard all one zero d within = all 0 d (omega arith)
guards_push (g ∷ guards) guard all one (suc k) d within = guards_push guards guard (λ j e inside. all (suc j) e (omega arith)) one k d (omega arith)

-- guards that all do
pub none_stand : (nodes : List PlanNode) (guards : List Guard) → length guards ≡ length nodes → ((k : ℕ) (d : Guard) → k < length guards → Guards (get_or guards k d) []) → GuardsStand nodes guards (no_lines nodes)
none_stand nodes guards count none = record {
  lines_count = no_lines_count nodes;
  guards_count = count;
  each = λ k d within. subst (Guards (get_or guards k d)) (sym (no_line nodes k)) (none k d (omega (arith, count, within)));
}

-- ---- the lines of the node at a place have changed

module _ (nodes : List PlanNode) (old : List Guard) (before : Accepted) (place : ℕ) (s : GuardsStand nodes old before) (within : place < length nodes) (lines : List EventLine) where
  abbrev now : Accepted
  now = set before place lines

  -- there they are these
  pub lines_here : lines_at now place ≡ lines
  lines_here = get_or-set_same before place lines [] (omega (arith, s.lines_count, within))

  -- and elsewhere as before
  pub lines_other : (k : ℕ) → k ≢ place → lines_at now k ≡ lines_at before k
  lines_other k ne = get_or-set_other before place k lines [] ne

  guards_now : (guard : Guard) → Guards guard lines → (k : ℕ) (d : Guard) → k < length nodes → (k ≡ place) ⊎ (k ≢ place) → Guards (get_or (set old place guard) k d) (lines_at now k)
  guards_now guard stands k d inside (inl e) =
      subst (λ (j : ℕ). Guards (get_or (set old place guard) j d) (lines_at now j)) (sym e)
      (subst (λ (g : Guard). Guards g (lines_at now place)) (sym (get_or-set_same old place guard d (omega (arith, s.guards_count, within)))) (subst (Guards guard) (sym lines_here) stands))
  guards_now guard stands k d inside (inr ne) =
      subst (λ (g : Guard). Guards g (lines_at now k)) (sym (get_or-set_other old place k guard d ne)) (subst (Guards (get_or old k d)) (sym (lines_other k ne)) (s.each k d inside))

  -- and the guards stand for them, where that of the place does
  pub one_stands : (guard : Guard) → Guards guard lines → (new : List Guard) → new ≡ set old place guard → GuardsStand nodes new now
  one_stands guard stands new is = record {
    lines_count = length-set before place lines ∙ s.lines_count;
    guards_count = ap (λ (gs : List Guard). length gs) is ∙ (length-set old place guard ∙ s.guards_count);
    each = λ k d inside. subst (λ (gs : List Guard). Guards (get_or gs k d) (lines_at now k)) (sym is) (guards_now guard stands k d inside (same_or_not k place));
  }

-- ---- an event line was judged

-- it has a fault
pub fault_passes : (fault : GuardFault) (guard : Guard) (before : Accepted) (place : ℕ) (now : Result (List EventLine) LineFault) → JudgesLine (Err fault) guard (lines_at before place) now [] [] → IsLineFault fault (with_lines before place now)
fault_passes (guard_fault.Line fault) guard before place said h = ap (with_lines before place) h
fault_passes guard_fault.OutOfMemory guard before place said h = tt

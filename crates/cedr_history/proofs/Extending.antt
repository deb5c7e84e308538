-- What a longer history leaves goes on from what the shorter one left.
use Rattle.std.proofs.Common.{◌≡◌, ◌≢◌, List, [], ◌∷◌, fold, refl, sym, ap, ◌∙◌, subst, arith, le_refl, le_trans}
use Rattle.std.proofs.lemmas.List.Sums.{fold-append}
use Rattle.std.specs.Arc.{arc_value}
use mathlib.Core.List.{IsPrefix}
use Rattle.cedr_history.specs.declared.step.Step.{Step}
use Rattle.cedr_history.specs.declared.step.Step.TheVariants as step
use Rattle.cedr_history.specs.declared.close.Close.{Close}
use Rattle.cedr_history.specs.declared.close.Close.TheVariants.{Open, Ended, Broken}
use Rattle.cedr_history.specs.declared.listed.Listed.{Listed}
use Rattle.cedr_history.specs.Lists.{going, stepped, nothing, listed, Extends}
use Rattle.cedr_history.specs.Sights.{Sight, SightBegins}
use Rattle.cedr_history.specs.Ends.{list_of}
use Rattle.cedr_history.proofs.Fronts.{prefix_self, prefix_trans}

-- each list goes on from itself
pub extends_self : (l : Listed) → Extends l l
extends_self l = (prefix_self l.changes, le_refl l.mark, λ closed. refl)

-- what goes on from a list that goes on from a first one goes on from the first one
pub extends_trans : (a b c : Listed) → Extends a b → Extends b c → Extends a c
extends_trans a b c p q = (
  prefix_trans a.changes b.changes c.changes p.0 q.0,
  le_trans p.1 q.1,
  λ closed. let same = p.2 closed in q.2 (subst (λ (l : Listed). l.close ≢ Open) (sym same) closed) ∙ same,
)

-- so does what a step leaves
pub extends_going : (l : Listed) (how : Close) (o : Step) → l.close ≡ how → Extends l (going how l o)
extends_going l Open (step.Change c) e = ((arc_value c ∷ [], refl), le_refl l.mark, λ closed. absurd (closed e))
extends_going l Open (step.Mark t) e = (prefix_self l.changes, omega arith, λ closed. absurd (closed e))
extends_going l Open (step.Close h) e = (prefix_self l.changes, le_refl l.mark, λ closed. absurd (closed e))
extends_going l Ended o e = extends_self l
extends_going l Broken o e = extends_self l

-- and what some steps leave
pub extends_steps : (l : Listed) (steps : List Step) → Extends l (fold stepped l steps)
extends_steps l [] = extends_self l
extends_steps l (o ∷ steps) = extends_trans l (stepped l o) (fold stepped (stepped l o) steps) (extends_going l l.close o refl) (extends_steps (stepped l o) steps)

-- the list that more steps leave of nothing goes on from the one that the first of them leave
pub extends_listed : (xs ys : List Step) → IsPrefix xs ys → Extends (listed xs) (listed ys)
extends_listed xs ys p = subst (λ (l : Listed). Extends (listed xs) l) (sym (fold-append stepped nothing xs p.0) ∙ ap listed p.1) (extends_steps (listed xs) p.0)

-- so does the list of a longer front
pub extends_begins : (a b : Sight) → SightBegins a b → Extends (list_of a) (list_of b)
extends_begins a b p = extends_listed a.steps b.steps p.1

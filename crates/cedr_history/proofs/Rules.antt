-- The steps on the versions keep their rule.
use Rattle.std.proofs.Common.{◌≡◌, ◌≢◌, ℕ, true, false, List, set, refl, ◌∙◌, ap, subst, ⊎_elim}
use mathlib.Core.Option.{some}
use lib.ListN.{get_elem?}
use Rattle.left_right.specs.Register.{Admits, TurnsAt, Forks, Merges}
use Rattle.atomic_table.proofs.Lists.{at_set, at_snoc}
use Rattle.cedr_history.specs.declared.states.Knows.{Knows}
use Rattle.cedr_history.specs.declared.version.Version.{Version}
use Rattle.cedr_history.specs.Sights.{Sight, SightBegins}
use Rattle.cedr_history.specs.Versions.{IsTied, IsLatest, Saw, knower}
use Rattle.cedr_history.proofs.Fronts.{prefix_self, prefix_trans}

-- each beginning begins itself
pub begins_self : (a : Sight) → SightBegins a a
begins_self a = (refl, prefix_self a.steps)

-- a beginning of a beginning is one of the whole
pub begins_trans : (a b c : Sight) → SightBegins a b → SightBegins b c → SightBegins a c
begins_trans a b c p q = (p.0 ∙ q.0, prefix_trans a.steps b.steps c.steps p.1 q.1)

-- a new pass knows nothing
pub admits : (first : Knows) → first.known ≡ false → Admits IsLatest first
admits first none x views h = (
  h.0,
  λ seat v at known. ⊎_elim (λ (e : get_elem? views seat ≡ some v). h.1 seat v e known) (λ (e : first ≡ v). absurd (cc (none, ap (λ (k : Knows). k.known) e, known)))
      (at_snoc views first v seat at),
)

-- a version that goes on from the one before may follow it
pub turns : (seat : ℕ) (v : Knows) (x y : Version) → IsTied y → SightBegins x.front y.front → TurnsAt IsLatest seat v x y Saw
turns seat v x y tied on views h at = (
  knower y.front,
  (
    tied,
    λ j u e known. ⊎_elim
        (λ (t : (j ≡ seat) × (knower y.front ≡ u)). subst (λ (k : Knows). SightBegins k.front y.front) t.1 (begins_self y.front))
        (λ (t : (j ≢ seat) × (get_elem? views j ≡ some u)). begins_trans u.front x.front y.front (h.1 j u t.1 known) on)
        (at_set views seat j (knower y.front) u e),
  ),
  (refl, tied, λ known. begins_trans v.front x.front y.front (h.1 seat v at known) on),
)

-- a pass that sees the version as it is
pub enters : (seat : ℕ) (v : Knows) (x : Version) → TurnsAt IsLatest seat v x x Saw
enters seat v x views h at = turns seat v x x h.0 (begins_self x.front) views h at

-- what one thread knows may become anything that the copy goes on from
set_known : (x : Version) (views : List Knows) (seat : ℕ) (v : Knows) → IsLatest x views → (v.known ≡ true → SightBegins v.front x.front) → IsLatest x (set views seat v)
set_known x views seat v h fits = (
  h.0,
  λ j u e known. ⊎_elim (λ (t : (j ≡ seat) × (v ≡ u)). subst (λ (k : Knows). k.known ≡ true → SightBegins k.front x.front) t.1 fits known)
      (λ (t : (j ≢ seat) × (get_elem? views j ≡ some u)). h.1 j u t.1 known) (at_set views seat j v u e),
)

-- a thread hands on all that it knows
pub forks : (seat : ℕ) (v : Knows) → Forks IsLatest seat v v v
forks seat v x views h at =
    let here = set_known x views seat v h (h.1 seat v at) in (
      h.0,
      λ j u e known. ⊎_elim (λ (t : get_elem? (set views seat v) j ≡ some u). here.1 j u t known) (λ (t : v ≡ u). subst (λ (k : Knows). k.known ≡ true → SightBegins k.front x.front) t (h.1 seat v at) known)
          (at_snoc (set views seat v) v u j e),
    )

-- a thread knows what a note says, and the note is spent
pub merges : (seat : ℕ) (v : Knows) (other : ℕ) (w spent : Knows) → spent.known ≡ false → Merges IsLatest seat v other w w spent
merges seat v other w spent none x views h at apart there =
    let theirs : w.known ≡ true → SightBegins w.front x.front = ⊎_elim (λ (t : (other ≡ seat) × (w ≡ w)). absurd (apart t.0)) (λ (t : (other ≢ seat) × (get_elem? views other ≡ some w)). h.1 other w t.1)
    (at_set views seat other w w there) in
    set_known x (set views seat w) other spent (set_known x views seat w h theirs) (λ known. absurd (cc (none, known)))

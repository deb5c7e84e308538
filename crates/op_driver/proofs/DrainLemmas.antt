-- What a drain of a whole list yields.
use Rattle.std.proofs.Common.{◌≡◌, ◌∙◌, ℕ, Vec, ap, length, subst, take, vec_len, arith}
use Rattle.std.proofs.Math.Seq.{take-length}
use Rattle.std.specs.List.{slice_range}
use Rattle.std.specs.Vec.Iter.{drain_items, drain_steps}
use Rattle.std.specs.declared.vec.Drain.{Drain}
use Rattle.std.proofs.lemmas.Iterator.{YieldsList}
use Rattle.std.proofs.lemmas.Iterator.Consumers.{YieldsList-from_shown}

-- its elements, in order
pub drain_yields : {A Z : Type 0} {s t : Drain A Z} (v : Vec A Z) → t ≡ s → drain_items s ≡ slice_range v.items 0 (vec_len v) → YieldsList (drain_steps {X = A} {Z = Z}) (λ y. y) t v.items
drain_yields {A} {Z} {s} {t} v same rest =
    let all : slice_range v.items 0 (vec_len v) ≡ v.items = ap (λ (n : ℕ). take n v.items) (omega (arith, v.ok.0)) ∙ take-length v.items in
    subst (YieldsList (drain_steps {X = A} {Z = Z}) (λ y. y) t) (ap (drain_items {X = A} {Z = Z}) same ∙ (rest ∙ all))
    (YieldsList-from_shown (drain_steps {X = A} {Z = Z}) (λ y. y) (drain_items {X = A} {Z = Z}) (λ u w h. ap length h.0) (λ u x w h. h.0) t)

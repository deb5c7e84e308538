-- The two passes of a queue of tasks.
use Rattle.std.proofs.Common.{◌≡◌, ℕ, List, [], ◌∷◌, length, ap, ◌∙◌, subst, arith}
use Rattle.std.specs.List.{All}
use Rattle.std.proofs.lemmas.List.Elements.{All-cons, All-head, All-nil, All-tail}
use Rattle.pool_queue.specs.declared.claim.Entry.{Entry}
use Rattle.pool_queue.specs.Passes.{AreAllOf, Holding, IsOf, IsStillPass, parts_in}

-- a list of two
pub two_items : {X : Type 0} (xs ys zs : List X) (x y : X) → xs ≡ x ∷ ys → ys ≡ y ∷ zs → length xs ≡ 2 → xs ≡ x ∷ y ∷ []
two_items xs ys [] x y a b two = a ∙ ap (λ l. x ∷ l) b
two_items xs ys (z ∷ zs) x y a b two =
    let all : length xs ≡ length (x ∷ y ∷ z ∷ zs) = ap length (a ∙ ap (λ l. x ∷ l) b) in
    absurd (omega (arith, all, two))

module _ {X : Type 0} where
  -- they are all passes of their queue after any steps
  pub two_still : (opened : List (Entry X)) (passes : List (Holding X)) (p q p' q' : Holding X) → AreAllOf opened passes → passes ≡ p ∷ q ∷ [] → IsStillPass p p' → IsStillPass q q' → AreAllOf opened (p' ∷ q' ∷ [])
  two_still opened passes p q p' q' all is a b =
      let Of = IsOf all.queue opened in
      let both : All Of (p ∷ q ∷ []) = subst (All Of) is all.same in
      let one = All-head Of p (q ∷ []) both in
      let two = All-head Of q [] (All-tail Of p (q ∷ []) both) in
      let parts : parts_in passes ≡ parts_in (p ∷ q ∷ []) = ap parts_in is in
      record {
        queue = all.queue;
        same = All-cons Of p' (q' ∷ []) (a.queue ∙ one.0, a.opened ∙ one.1) (All-cons Of q' [] (b.queue ∙ two.0, b.opened ∙ two.1) (All-nil Of));
        whole = omega (arith, parts, all.whole, a.parts, b.parts);
      }

  pub still_held : (p q : Holding X) (held : List (Entry X)) → q ≡ record p { held = held } → IsStillPass p q
  still_held p q held is = record { queue = ap (λ (h : Holding X). h.queue) is; parts = ap (λ (h : Holding X). h.parts) is; opened = ap (λ (h : Holding X). h.opened) is }

  pub still_refused : (p q : Holding X) (refused : ℕ) → q ≡ record p { refused = refused } → IsStillPass p q
  still_refused p q refused is = record { queue = ap (λ (h : Holding X). h.queue) is; parts = ap (λ (h : Holding X). h.parts) is; opened = ap (λ (h : Holding X). h.opened) is }

  pub still_on : (p q r : Holding X) → IsStillPass p q → IsStillPass q r → IsStillPass p r
  still_on p q r a b = record { queue = b.queue ∙ a.queue; parts = b.parts ∙ a.parts; opened = b.opened ∙ a.opened }

-- Messages of a source that are fed one after the other.
use Rattle.std.proofs.Common.{◌≡◌, ℕ, ◌<◌, List, [], ◌∷◌, ◌++◌, length, get_or, set, take, refl, ap, sym, ◌∙◌, subst, append_assoc, append-nil, arith}
use Rattle.std.specs.Prelude.{map}
use Rattle.std.proofs.lemmas.List.{set-set, set-get_or}
use Rattle.cedr_base.specs.declared.change.Message.{Message}
use Rattle.cedr_base.specs.Messages.{IsLegal, MayCome}
use Rattle.change_laws.proofs.Legal.{may_come_in}
use Rattle.node_laws.specs.Lists.{Lists, list_at, with_more}
use Rattle.node_laws.proofs.ListLemmas.{at_more}

-- none more are those that there are
pub no_more : (given : Lists) (place : ℕ) → with_more given place [] ≡ given
no_more given place = ap (set given place) (append-nil (list_at given place)) ∙ set-get_or given place []

-- some more and then one more are all of these
pub one_more : (given : Lists) (place : ℕ) (ms : List Message) (m : Message) → place < length given → with_more (with_more given place ms) place (m ∷ []) ≡ with_more given place (ms ++ m ∷ [])
one_more given place ms m within =
    set-set given place (list_at given place ++ ms) (list_at (with_more given place ms) place ++ m ∷ [])
    ∙ ap (set given place) (ap (λ (xs : List Message). xs ++ m ∷ []) (at_more given place ms within) ∙ append_assoc (list_at given place) ms (m ∷ []))

-- a list of messages, each as it is, is the same list
pub listed : (ms : List Message) → map (λ (m : Message). m) ms ≡ ms
listed [] = refl
listed (m ∷ ms) = ap (λ (l : List Message). m ∷ l) (listed ms)

-- those that were taken of some messages, the next one and the rest are the messages
pub next_of : (done all : List Message) (m : Message) → done ≡ take (length done) all → (length done < length all) × (m ≡ get_or all (length done) m) → (rest : List Message) × (done ++ m ∷ rest ≡ all)
next_of [] [] m so_far next = absurd (omega (arith, next.0))
next_of [] (x ∷ xs) m so_far next = (xs, ap (λ (y : Message). y ∷ xs) next.1)
next_of (d ∷ ds) [] m so_far next = absurd (omega (arith, next.0))
next_of (d ∷ ds) (x ∷ xs) m so_far next =
    let rest = next_of ds xs m (cc so_far) (omega (arith, next.0), next.1) in (rest.0, cc (so_far, rest.1))

-- the next one may come after what the source gave and those that were taken
pub next_may_come : (given : Lists) (place : ℕ) (done all : List Message) (m : Message) → place < length given → IsLegal (list_at given place ++ all) → (rest : List Message) × (done ++ m ∷ rest ≡ all) → MayCome (list_at (with_more given place done) place) m
next_may_come given place done all m within legal next =
    subst (λ (ms : List Message). MayCome ms m) (sym (at_more given place done within))
    (may_come_in (list_at given place ++ done) next.0 m
    (subst IsLegal (ap (λ (ms : List Message). list_at given place ++ ms) (sym next.1) ∙ sym (append_assoc (list_at given place) done (m ∷ next.0))) legal))

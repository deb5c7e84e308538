-- What is said of each out edge in turn.
use Rattle.std.proofs.Common.{◌≡◌, ◌≢◌, ℕ, ◌+◌, ◌<◌, Bool, true, false, ◌||◌, List, [], ◌∷◌, ◌++◌, length, map, set, refl, sym, ◌∙◌, ap, subst, arith, append_assoc, inl, inr}
use Rattle.std.proofs.lemmas.List.{length-set, get_or-set_same, get_or-set_other}
use Rattle.cedr_base.specs.declared.change.Message.{Message}
use Rattle.worker_outlets.specs.Outgoing.{Outgoing}
use Rattle.worker_outlets.specs.Outlets.{NonePending, SomePending, AllTotal, total_of, Kept, Rested, Put, Tried}
use Rattle.worker_outlets.proofs.RoundLemmas.{at_set_or, same_at, map_length}
use Rattle.std.proofs.lemmas.Bool.{or_parts}

-- one edge more: where both flags say that nothing is pending, nothing is for the edges up to this one
pub waits_step : (os : List Outgoing) (waits b : Bool) (i : ℕ) (y : Outgoing) → (waits ≡ false → NonePending os i) → (b ≡ false → y.pending ≡ []) → (waits || b) ≡ false → NonePending (set os i y) (i + 1)
waits_step os waits b i y so now none k d less in_set =
    at_set_or (λ (o : Outgoing). o.pending ≡ []) os i k y d (omega (arith, in_set, length-set os i y)) (λ (e : k ≡ i). now (or_parts waits b none).1) (λ (n : k ≢ i). so (or_parts waits b none).0 k d (omega arith) (omega (arith, in_set, length-set os i y)))

-- one edge more: where a flag says that something is pending, something is for an edge up to this one
pub some_step : (os : List Outgoing) (waits b : Bool) (i : ℕ) (y : Outgoing) → i < length os → (waits ≡ true → SomePending os i) → (b ≡ true → y.pending ≢ []) → (waits || b) ≡ true → SomePending (set os i y) (i + 1)
some_step os true b i y less so now e =
    let s = so refl in
    let below : s.0 < i = s.1 in
    (s.0, omega arith, omega (arith, length-set os i y, s.2), λ d. subst (λ (o : Outgoing). o.pending ≢ []) (sym (get_or-set_other os i s.0 y d (λ e'. omega arith))) (s.3 d))
some_step os false b i y less so now e =
    (i, omega arith, omega (arith, less, length-set os i y), λ d. subst (λ (o : Outgoing). o.pending ≢ []) (sym (get_or-set_same os i y d less)) (now e))

-- what is meant for each edge stays
pub totals_stay : (given : List Message) (old new : List Outgoing) → map total_of new ≡ map total_of old → AllTotal given old → AllTotal given new
totals_stay given old new e all k d less = same_at total_of new old k d e ∙ all k d (omega (arith, less, map_length total_of new old e))

-- the total, with more that is pending at its end
pub longer_total : (o y : Outgoing) (given more : List Message) → y.sent ≡ o.sent → y.pending ≡ o.pending ++ more → total_of o ≡ given → total_of y ≡ given ++ more
longer_total o y given more sent waiting is = (λ k. sent k ++ waiting k) ∙ (sym (append_assoc o.sent o.pending more) ∙ ap (λ (l : List Message). l ++ more) is)

-- a list of messages, each as it is, is the same list
pub map_itself : (ms : List Message) → map (λ (m : Message). m) ms ≡ ms
map_itself [] = refl
map_itself (m ∷ ms) = ap (λ (l : List Message). m ∷ l) (map_itself ms)

-- a put that was taken or not was tried
pub tried_by : (o n : Outgoing) (put : Bool) → Kept o n → (put ≡ true → Put o n) → (put ≡ false → Rested o n) → Tried o n
tried_by o n true kept taken rested = record { kept = kept; either = inr (taken refl) }
tried_by o n false kept taken rested = record { kept = kept; either = inl (rested refl) }

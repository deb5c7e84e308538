-- A put is tried on each out edge in a turn.
use Rattle.std.proofs.Common.{◌≡◌, ◌≢◌, ℕ, ◌+◌, ◌<◌, Bool, List, [], ◌∷◌, ◌++◌, length, map, get_or, inl, inr, ap, ◌∙◌, arith}
use Rattle.std.proofs.lemmas.List.{length-append}
use Rattle.cedr_base.specs.declared.change.Message.{Message}
use Rattle.cedr_base.specs.Counters.{raised}
use Rattle.worker_outlets.specs.Outgoing.{Outgoing}
use Rattle.worker_outlets.specs.Outlets.{PutSoFar, Tried, AllTotal, bare, total_of}
use Rattle.worker_outlets.proofs.RoundLemmas.{same_at, map_length}
use Rattle.cedr_worker.specs.Tries.{TriedOn, AllTried}

-- what is done to an edge after its put leaves what was sent and refused
tried_on : (o m n : Outgoing) → Tried o m → bare n ≡ bare m → TriedOn o n
tried_on o m n t same = elim t.either [
  | inl r ↦ inr (ap (λ (x : Outgoing). x.sent) same ∙ r.sent, λ some. ap (λ (x : Outgoing). x.refused) same ∙ r.full some)
  | inr p ↦ inl (ap (λ (x : Outgoing). length x.sent) same ∙ p)
]

-- where each edge had its put, and what was sent and refused stays after that, a put was tried on each
pub all_tried : (old mid new : List Outgoing) (moved : Bool) → PutSoFar old mid moved (length old) → map bare new ≡ map bare mid → AllTried old new
all_tried old mid new moved puts same k d less = tried_on (get_or old k d) (get_or mid k d) (get_or new k d) (puts.kept k d less less) (same_at bare new mid k d same)

-- an edge for which a message more is pending
tried_before : (o c n : Outgoing) → c.sent ≡ o.sent → c.refused ≡ o.refused → (o.pending ≢ [] → c.pending ≢ []) → TriedOn c n → TriedOn o n
tried_before o c n sent refused some t = elim t [
  | inl p ↦ inl (p ∙ ap (λ (l : List Message). length l + 1) sent)
  | inr r ↦ inr (r.0 ∙ sent, λ h. r.1 (some h) ∙ ap raised refused)
]

-- the puts that are tried once more is pending are tried of the edges as they were before
pub all_tried_before : (old closed new : List Outgoing) → map bare closed ≡ map bare old → ((k : ℕ) (d : Outgoing) → k < length old → (get_or old k d).pending ≢ [] → (get_or closed k d).pending ≢ []) → AllTried closed new → AllTried old new
all_tried_before old closed new closes some tried k d less =
    let same = same_at bare closed old k d closes in
    tried_before (get_or old k d) (get_or closed k d) (get_or new k d) (ap (λ (x : Outgoing). x.sent) same) (ap (λ (x : Outgoing). x.refused) same) (some k d less) (tried k d (omega (arith, less, map_length bare closed old closes)))

-- where a message more is meant for an edge and nothing more was sent, something is pending
one_more : (o c : Outgoing) (given : List Message) (m : Message) → c.sent ≡ o.sent → total_of o ≡ given → total_of c ≡ given ++ m ∷ [] → c.pending ≢ []
one_more o c given m sent was is none =
    omega (arith, ap (λ (l : List Message). length l) sent, ap (λ (l : List Message). length l) was, ap (λ (l : List Message). length l) is, ap (λ (l : List Message). length l) none, length-append o.sent o.pending, length-append c.sent c.pending, length-append given (m ∷ []))

-- where a message more is meant for each edge and nothing more was sent, something is pending for each
pub last_pending : (old closed : List Outgoing) (given : List Message) (m : Message) → map bare closed ≡ map bare old → AllTotal given old → AllTotal (given ++ m ∷ []) closed → (k : ℕ) (d : Outgoing) → k < length old → (get_or closed k d).pending ≢ []
last_pending old closed given m closes was is k d less =
    one_more (get_or old k d) (get_or closed k d) given m (ap (λ (x : Outgoing). x.sent) (same_at bare closed old k d closes)) (was k d less) (is k d (omega (arith, less, map_length bare closed old closes)))

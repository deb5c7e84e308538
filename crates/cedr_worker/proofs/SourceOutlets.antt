-- What a round of puts, and what doesn't put, leave of the out edges.
use Rattle.std.proofs.Common.{◌≡◌, ℕ, suc, ◌<◌, Bool, true, false, true≢false, List, [], ◌∷◌, ◌++◌, length, map, get_or, refl, sym, ap, ◌∙◌, append-nil, arith}
use Rattle.cedr_base.specs.declared.change.Message.{Message}
use Rattle.node_laws.specs.Lawful.{is_over}
use Rattle.node_laws.proofs.Ends.{over_grows}
use Rattle.worker_outlets.specs.Outgoing.{Outgoing}
use Rattle.worker_outlets.specs.Outlets.{PutSoFar, NonePending, SomePending, AllOver, SomeOpen, AllTotal, AllStaged, SomePut, SomeFull, total_of, sent_of, bare}
use Rattle.worker_outlets.proofs.RoundLemmas.{map_length, same_at}
use Rattle.cedr_worker.proofs.TurnLemmas.{element}

-- ---- what doesn't put

-- what doesn't put leaves as many out edges as there were
pub bare_length : (old new : List Outgoing) → map bare new ≡ map bare old → length new ≡ length old
bare_length old new same = map_length bare new old same

-- what was put before it stays put
pub some_put : (old mid new : List Outgoing) → map bare new ≡ map bare mid → SomePut old mid → SomePut old new
some_put old mid new same s = (s.0, s.1, λ d. ap (λ (ms : List Message). length ms) (ap sent_of (same_at bare new mid s.0 d same)) ∙ s.2 d)

-- lists whose elements agree, each under its own function
pub map_two : {X Z : Type 0} (f g : X → Z) (new old : List X) → length new ≡ length old → ((k : ℕ) (d : X) → k < length old → f (get_or new k d) ≡ g (get_or old k d)) → map f new ≡ map g old
map_two f g [] [] len h = refl
map_two f g [] (o ∷ os) len h = absurd (omega (arith, len))
map_two f g (n ∷ ns) [] len h = absurd (omega (arith, len))
map_two f g (n ∷ ns) (o ∷ os) len h =
    let rest : map f ns ≡ map g os = map_two f g ns os (omega (arith, len)) (λ k d less. h (suc k) d (omega arith)) in
    λ j. h 0 o (omega arith) j ∷ rest j

-- ---- a round of puts

module _ (old new : List Outgoing) (moved : Bool) (puts : PutSoFar old new moved (length old)) where
  pub put_total : (given : List Message) → AllTotal given old → AllTotal given new
  put_total given all k d less = let in_old : k < length old = omega (arith, less, puts.length_is) in (puts.kept k d in_old in_old).kept.total ∙ all k d in_old

  pub put_staged : (piece : List Message) → AllStaged piece old → AllStaged piece new
  put_staged piece all k d less = let in_old : k < length old = omega (arith, less, puts.length_is) in (puts.kept k d in_old in_old).kept.staged ∙ all k d in_old

  -- what is meant for an edge whose pending messages were all sent was sent
  pub put_is_all : NonePending new (length new) → (k : ℕ) (d : Outgoing) → k < length old → sent_of (get_or new k d) ≡ total_of (get_or old k d)
  put_is_all none k d less =
      let in_new : k < length new = omega (arith, less, puts.length_is) in
      sym (append-nil (get_or new k d).sent) ∙ (ap (λ (ms : List Message). (get_or new k d).sent ++ ms) (sym (none k d in_new in_new)) ∙ (puts.kept k d less less).kept.total)

  pub put_sent : NonePending new (length new) → map sent_of new ≡ map total_of old
  put_sent none = map_two sent_of total_of new old puts.length_is (put_is_all none)

  pub not_put : moved ≡ false → SomePut old new → ⊥
  not_put none s =
      let d = get_or old s.0 (element old s.0 s.1) in
      omega (arith, s.2 d, ap (λ (ms : List Message). length ms) (puts.rested none s.0 d s.1 s.1).sent)

  -- where something is pending still, it met a full queue
  pub put_full : moved ≡ false → SomePending new (length new) → SomeFull old new
  put_full none s =
      let in_old : s.0 < length old = omega (arith, s.1, puts.length_is) in
      let rested = λ (d : Outgoing). puts.rested none s.0 d in_old in_old in
      (s.0, in_old, λ d. (s.3 d, (rested d).full (λ e. s.3 d ((rested d).pending ∙ e))))

  pub put_some : moved ≡ true → SomePut old new
  put_some some = let s = puts.some some in (s.0, s.2, s.3)

-- ---- all edges are over

-- where all edges are over, none is open
pub not_both : (os : List Outgoing) → AllOver os → SomeOpen os → ⊥
not_both os over s = let d = element os s.0 s.1 in true≢false (sym (over s.0 d s.1) ∙ s.2 d)

-- an edge with nothing pending whose list is over is over
pub sent_over : (given : List Message) (os : List Outgoing) → is_over given ≡ true → AllTotal given os → NonePending os (length os) → AllOver os
sent_over given os over all none k d less =
    let sent = (get_or os k d).sent in
    ap (λ (ms : List Message). is_over ms) (sym (append-nil sent) ∙ (ap (λ (ms : List Message). sent ++ ms) (sym (none k d less less)) ∙ all k d less)) ∙ over

-- where an edge is over, so is what is meant for it
pub over_total : (given : List Message) (os : List Outgoing) → 0 < length os → AllTotal given os → AllOver os → is_over given ≡ true
over_total given os some all over =
    let d = element os 0 some in
    ap (λ (ms : List Message). is_over ms) (sym (all 0 d some)) ∙ over_grows (get_or os 0 d).sent (get_or os 0 d).pending (over 0 d some)

-- What a turn comes to: a break that becomes pending, a round of puts, and then a round of takes.
use Rattle.std.proofs.Common.{◌≡◌, ◌≢◌, ◌⊎◌, inl, inr, ℕ, zero, suc, ◌+◌, ◌<◌, Bool, true, false, true≢false, ◌||◌, List, [], ◌∷◌, ◌++◌, length, map, get_or, refl, sym, ◌∙◌, ap, subst, arith}
use Rattle.std.proofs.lemmas.Bool.{or_parts}
use Rattle.std.proofs.lemmas.List.{length-append, append-nil}
use Rattle.cedr_base.specs.declared.change.Message.{Message}
use Rattle.cedr_base.specs.declared.change.Message.TheVariants as message
use Rattle.cedr_edge.specs.Ends.{InEnd, taken_of}
use Rattle.cedr_base.specs.Counters.{raised}
use Rattle.node_laws.specs.Lists.{Lists}
use Rattle.node_laws.specs.Lawful.{is_over, all_over}
use Rattle.cedr_node.specs.declared.node.Node.{Node}
use Rattle.worker_outlets.specs.Outgoing.{Outgoing}
use Rattle.worker_outlets.specs.Outlets.{AllTotal, PutSoFar, NonePending, SomePending, SomePut, SomeFull, AllOver, SomeOpen, total_of, bare, outlet_edge, sent_of}
use Rattle.worker_outlets.proofs.RoundLemmas.{map_ext, map_length, same_at}
use Rattle.cedr_worker.proofs.TryLemmas.{all_tried, all_tried_before}
use Rattle.cedr_worker.specs.Inputs.{TakenSoFar, KeptIn, Took, SomeTaken, AllEmpty, taken_in, input_edge}
use Rattle.cedr_worker.specs.Operators.{NodeWorks, MovedTurn, IdleTurn, TurnSteps, TurnDone}
use Rattle.cedr_worker.proofs.WorkLemmas.{input_open}

-- where memory was lacking and no break is pending yet, one may be
pub may_close : (node : Node) (lists : Lists) (os : List Outgoing) (broke : Bool) → broke ≡ false → NodeWorks node lists os true broke → (given : List Message) × AllTotal given os × (is_over given ≡ false)
may_close node lists os true e w = absurd (true≢false e)
may_close node lists os false e w = let s = w.lost refl in (s.given, s.all, s.goes)

-- where memory was lacking and each input is over, the worker works on with a Broken meant for each out edge
pub works_closed : (node : Node) (lists : Lists) (old new : List Outgoing) (broke : Bool) → broke ≡ false → all_over lists ≡ true → ((given : List Message) → AllTotal given old → AllTotal (given ++ message.Broken ∷ []) new) → NodeWorks node lists old true broke
    → NodeWorks node lists new true true
works_closed node lists old new true e over closed w = absurd (true≢false e)
works_closed node lists old new false e over closed w = record {
  sound = λ e'. absurd (true≢false e');
  lost = λ e'. let s = w.lost refl in record { before = s.before; prefixes = s.prefixes; given = s.given; lawful = s.lawful; legal = s.legal; goes = s.goes; all = closed s.given s.all; over = λ e''. over };
  whole = λ e'. absurd (true≢false e');
}

-- where the edges, what was sent and what was refused stay, they stay at each place
pub bare_at : (old new : List Outgoing) (k : ℕ) (d : Outgoing) → map bare new ≡ map bare old → bare (get_or new k d) ≡ bare (get_or old k d)
bare_at old new k d e = same_at bare new old k d e

-- where the edges, what was sent and what was refused stay, so do the edges, in order
pub bare_edges : (old new : List Outgoing) → map bare new ≡ map bare old → map outlet_edge new ≡ map outlet_edge old
bare_edges old new e = map_ext outlet_edge old new (map_length bare new old e) (λ k d less. ap outlet_edge (bare_at old new k d e))

-- and so does what was sent over each edge
pub bare_sent : (old new : List Outgoing) → map bare new ≡ map bare old → map sent_of new ≡ map sent_of old
bare_sent old new e = map_ext sent_of old new (map_length bare new old e) (λ k d less. ap sent_of (bare_at old new k d e))

-- what a round of puts leaves
module _ (old new : List Outgoing) (moved : Bool) (puts : PutSoFar old new moved (length old)) where
  pub puts_edges : map outlet_edge new ≡ map outlet_edge old
  puts_edges = map_ext outlet_edge old new puts.length_is (λ k d less. (puts.kept k d less less).kept.edge)

  pub puts_totals : map total_of new ≡ map total_of old
  puts_totals = map_ext total_of old new puts.length_is (λ k d less. (puts.kept k d less less).kept.total)

  pub puts_staged : map (λ (o : Outgoing). o.staged) new ≡ map (λ (o : Outgoing). o.staged) old
  puts_staged = map_ext (λ (o : Outgoing). o.staged) old new puts.length_is (λ k d less. (puts.kept k d less less).kept.staged)

  pub puts_none : moved ≡ false → map sent_of new ≡ map sent_of old
  puts_none e = map_ext sent_of old new puts.length_is (λ k d less. (puts.rested e k d less less).sent)

-- a round of takes leaves the edge of each input
pub takes_edges : (old new : List InEnd) (moved : Bool) → TakenSoFar old new moved (length old) → map input_edge new ≡ map input_edge old
takes_edges old new moved takes = map_ext input_edge old new takes.length_is (λ k d less. (takes.kept k d less less).edge)

-- a round in which nothing was taken leaves the lists that were taken
pub takes_none : (old new : List InEnd) (moved : Bool) → TakenSoFar old new moved (length old) → moved ≡ false → taken_in new ≡ taken_in old
takes_none old new moved takes e = map_ext taken_of old new takes.length_is (λ k d less. (takes.rested e k d less less).taken)

-- where one of two is so, the first is or the second is
pub or_cases : (a b : Bool) → (a || b) ≡ true → (a ≡ true) ⊎ (b ≡ true)
or_cases true b e = inl refl
or_cases false b e = inr e

-- an element of a list that has one
pub element : {X : Type 0} (xs : List X) (k : ℕ) → k < length xs → X
element [] k less = absurd (omega arith)
element (x ∷ xs) k less = x

-- what has one message more isn't the same
not_longer : (xs : List Message) (m : Message) → xs ≡ xs ++ m ∷ [] → ⊥
not_longer xs m e = absurd (omega (arith, ap (λ (l : List Message). length l) e, length-append xs (m ∷ [])))

-- an input from which a message was taken has another list than before
pub took_changes : (o n : InEnd) → Took o n → n.taken ≡ o.taken → ⊥
took_changes o n t e = not_longer o.taken t.message (sym e ∙ t.taken)

-- where the lists that were taken stay, nothing was taken
pub none_taken : (old new : List InEnd) → taken_in new ≡ taken_in old → SomeTaken old new → ⊥
none_taken old new e s = let d = element old s.0 s.1 in took_changes (get_or old s.0 d) (get_or new s.0 d) (s.2 d) (same_at taken_of new old s.0 d e)

-- where what was sent over each edge stays, nothing was put
pub none_put : (old new : List Outgoing) → map sent_of new ≡ map sent_of old → SomePut old new → ⊥
none_put old new e s =
    let d = element old s.0 s.1 in
    let p : length (get_or new s.0 d).sent ≡ length (get_or old s.0 d).sent + 1 = s.2 d in
    absurd (omega (arith, p, ap (λ (l : List Message). length l) (same_at sent_of new old s.0 d e)))

-- a turn in which nothing happened isn't one in which something did
pub idle_or_moved : (old new : List Outgoing) (inputs inputs' : List InEnd) → IdleTurn old new inputs inputs' → MovedTurn old new inputs inputs' → ⊥
idle_or_moved old new inputs inputs' idle (inl s) = none_put old new idle.sent s
idle_or_moved old new inputs inputs' idle (inr s) = none_taken inputs inputs' idle.taken s

-- where something was taken, an input was open
pub some_open : (old new : List InEnd) → SomeTaken old new → all_over (taken_in old) ≡ false
some_open old new s =
    let d = element old s.0 s.1 in
    let e = get_or old s.0 d in
    input_open old s.0 e s.1 (at_itself old s.0 d e s.1) (s.2 d).goes where
      at_itself : (xs : List InEnd) (k : ℕ) (d e : InEnd) → k < length xs → get_or xs k d ≡ get_or xs k e
      at_itself [] k d e less = absurd (omega arith)
      at_itself (x ∷ xs) zero d e less = refl
      at_itself (x ∷ xs) (suc k) d e less = at_itself xs k d e (omega arith)

-- not all out edges are over where one is open
pub not_all : (os : List Outgoing) → AllOver os → SomeOpen os → ⊥
not_all os all s = let d = element os s.0 s.1 in absurd (true≢false (sym (all s.0 d s.1) ∙ s.2 d))

-- A turn, step by step: the out edges at its start, with the break pending, after the puts, and after the takes.
module _ (old closed put new : List Outgoing) (inputs inputs' : List InEnd) (moved pending took : Bool) (closes : map bare closed ≡ map bare old) (closes_not : all_over (taken_in inputs) ≡ false → closed ≡ old)
    (closes_some : (k : ℕ) (d : Outgoing) → k < length old → (get_or old k d).pending ≢ [] → (get_or closed k d).pending ≢ []) (puts : PutSoFar closed put moved (length closed))
    (none : pending ≡ false → NonePending put (length put)) (some : pending ≡ true → SomePending put (length put)) (takes : pending ≡ false → TakenSoFar inputs inputs' took (length inputs)) (waits : pending ≡ true → (inputs' ≡ inputs) × (took ≡ false))
    (bares : map bare new ≡ map bare put) (same : took ≡ false → new ≡ put) where
  closed_length : length closed ≡ length old
  closed_length = map_length bare closed old closes

  closed_sent : (k : ℕ) (d : Outgoing) → (get_or closed k d).sent ≡ (get_or old k d).sent
  closed_sent k d = ap sent_of (bare_at old closed k d closes)

  new_sent : (k : ℕ) (d : Outgoing) → (get_or new k d).sent ≡ (get_or put k d).sent
  new_sent k d = ap sent_of (bare_at put new k d bares)

  turn_edges : map outlet_edge new ≡ map outlet_edge old
  turn_edges = bare_edges put new bares ∙ (puts_edges closed put moved puts ∙ bare_edges old closed closes)

  turn_inputs : map input_edge inputs' ≡ map input_edge inputs
  turn_inputs = at pending refl where
    at : (b : Bool) → pending ≡ b → map input_edge inputs' ≡ map input_edge inputs
    at true e = ap (λ (l : List InEnd). map input_edge l) (waits e).0
    at false e = takes_edges inputs inputs' took (takes e)

  some_put : moved ≡ true → SomePut old new
  some_put e =
      let s = puts.some e in (
        s.0,
        omega (arith, s.2, closed_length),
        λ d.
            let p : length (get_or put s.0 d).sent ≡ length (get_or closed s.0 d).sent + 1 = s.3 d in
            ap (λ (l : List Message). length l) (new_sent s.0 d) ∙ (p ∙ ap (λ (l : List Message). length l + 1) (closed_sent s.0 d)),
      )

  some_taken : (b : Bool) → pending ≡ b → took ≡ true → SomeTaken inputs inputs'
  some_taken true e t = absurd (true≢false (sym t ∙ (waits e).1))
  some_taken false e t = let s = (takes e).some t in (s.0, s.2, s.3)

  turn_moved : (moved || took) ≡ true → MovedTurn old new inputs inputs'
  turn_moved e = elim (or_cases moved took e) [ inl m ↦ inl (some_put m) | inr t ↦ inr (some_taken pending refl t) ]

  full : moved ≡ false → took ≡ false → pending ≡ true → SomeFull old new
  full m t e =
      let s = some e in
      let inside : s.0 < length closed = omega (arith, s.2, puts.length_is) in (
        s.0,
        omega (arith, inside, closed_length),
        λ d.
            let r = puts.rested m s.0 d inside inside in (
              subst (λ (os : List Outgoing). (get_or os s.0 d).pending ≢ []) (sym (same t)) (s.3 d),
              ap (λ (os : List Outgoing). (get_or os s.0 d).refused) (same t)
                  ∙ (r.full (λ e'. s.3 d (r.pending ∙ e')) ∙ ap (λ (o : Outgoing). raised o.refused) (bare_at old closed s.0 d closes)),
            ),
      )

  idle_cause : moved ≡ false → took ≡ false → (b : Bool) → pending ≡ b → SomeFull old new ⊎ (NonePending new (length new) × AllEmpty inputs inputs')
  idle_cause m t true e = inl (full m t e)
  idle_cause m t false e = inr (subst (λ (os : List Outgoing). NonePending os (length os)) (sym (same t)) (none e), λ k d less goes. ((takes e).rested t k d less less).empty goes)

  idle_taken : took ≡ false → (b : Bool) → pending ≡ b → taken_in inputs' ≡ taken_in inputs
  idle_taken t true e = ap taken_in (waits e).0
  idle_taken t false e = takes_none inputs inputs' took (takes e) t

  turn_idle : (moved || took) ≡ false → IdleTurn old new inputs inputs'
  turn_idle e =
      let m = (or_parts moved took e).0 in
      let t = (or_parts moved took e).1 in
      record {
        sent = bare_sent put new bares ∙ (puts_none closed put moved puts m ∙ bare_sent old closed closes);
        taken = idle_taken t pending refl;
        cause = idle_cause m t pending refl;
      }

  turn_takes : (b : Bool) → pending ≡ b → (k : ℕ) (d : InEnd) → k < length inputs → KeptIn (get_or inputs k d) (get_or inputs' k d)
  turn_takes true e k d less = let s : get_or inputs' k d ≡ get_or inputs k d = ap (λ (l : List InEnd). get_or l k d) (waits e).0 in record { edge = ap input_edge s; taken = inl (ap taken_of s) }
  turn_takes false e k d less = (takes e).kept k d less less

  -- all that was pending is sent
  all_sent : (b : Bool) → pending ≡ b → SomeTaken inputs inputs' → (k : ℕ) (d : Outgoing) → k < length old → (get_or new k d).sent ≡ total_of (get_or old k d)
  all_sent true e s k d less = absurd (none_taken inputs inputs' (ap taken_in (waits e).0) s)
  all_sent false e s k d less =
      let inside : k < length closed = omega (arith, less, closed_length) in
      let empty : (get_or put k d).pending ≡ [] = none e k d (omega (arith, inside, puts.length_is)) (omega (arith, inside, puts.length_is)) in
      new_sent k d
      ∙ (sym (append-nil (get_or put k d).sent)
      ∙ (ap (λ (l : List Message). (get_or put k d).sent ++ l) (sym empty) ∙ ((puts.kept k d inside inside).kept.total ∙ ap (λ (os : List Outgoing). total_of (get_or os k d)) (closes_not (some_open inputs inputs' s)))))

  turn_steps : TurnSteps old new inputs inputs'
  turn_steps = record { puts = all_tried_before old closed new closes closes_some (all_tried closed put new moved puts bares); takes = turn_takes pending refl; first = all_sent pending refl }

  pub turn_done : TurnDone old new inputs inputs' (moved || took)
  turn_done = record { in_edges = turn_inputs; out_edges = turn_edges; happened = turn_moved; idle = turn_idle; steps = turn_steps }

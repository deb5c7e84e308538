-- Lists that go over edges.
use Rattle.std.proofs.Common.{◌≡◌, ◌≢◌, ◌≤◌, ℕ, zero, suc, ◌+◌, ◌<◌, inl, inr, List, [], ◌∷◌, ◌++◌, Bool, true, false, cond, length, get_or, set, take, refl, ap, sym, ◌∙◌, subst, arith, append_assoc, get_or-set_same, get_or-set_other}
use Rattle.std.specs.Prelude.{nat_eq}
use Rattle.std.proofs.lemmas.Bool.Decides.{eqb_tells}
use Rattle.std.proofs.lemmas.List.{append-nil, length-set, length-append}
use Rattle.std.proofs.Math.Seq.{get_or-append_seam, take-length}
use Rattle.cedr_base.specs.declared.change.Message.{Message}
use Rattle.node_laws.specs.Lists.{Lists, list_at, with_more}
use Rattle.plan_runs.specs.Runs.{lists_at}
use Rattle.cedr_net.specs.Edges.{received, sent_on, readers_on, readers_from, waits_on, waits_on_all, all_wait, IsPort, ArePorts, AreSized}

-- where messages come on the ports of a node, there are as many lists of what waits as before
pub received_length : (place : ℕ) (ms : List Message) (inputs : List ℕ) (queues : Lists) → length inputs ≡ length queues → length (received place ms inputs queues) ≡ length queues
received_length place ms [] queues len = refl
received_length place ms (i ∷ inputs) [] len = refl
received_length place ms (i ∷ inputs) (q ∷ queues) len = ap (λ k. suc k) (received_length place ms inputs queues (omega arith))

-- of sized lists there are as many as nodes
pub sized_length : (reads : List (List ℕ)) (waiting : List Lists) → AreSized reads waiting → length waiting ≡ length reads
sized_length [] [] h = refl
sized_length [] (q ∷ waiting) h = absurd h
sized_length (r ∷ reads) [] h = absurd h
sized_length (r ∷ reads) (q ∷ waiting) h = ap (λ k. suc k) (sized_length reads waiting h.1)

-- and at each place as many as the node there has ports
pub sized_at : (reads : List (List ℕ)) (waiting : List Lists) → AreSized reads waiting → (k : ℕ) → length (get_or reads k []) ≡ length (get_or waiting k [])
sized_at [] [] h k = refl
sized_at [] (q ∷ waiting) h k = absurd h
sized_at (r ∷ reads) [] h k = absurd h
sized_at (r ∷ reads) (q ∷ waiting) h zero = h.0
sized_at (r ∷ reads) (q ∷ waiting) h (suc k) = sized_at reads waiting h.1 k

-- the first elements of a list, as many as it has, are the list
pub take_whole : {X : Type 0} (xs : List X) (n : ℕ) → n ≡ length xs → take n xs ≡ xs
take_whole xs n e = ap (λ (k : ℕ). take k xs) e ∙ take-length xs

-- an element that is there doesn't depend on the default
pub any_default : {X : Type 0} (xs : List X) (k : ℕ) (d e : X) → k < length xs → get_or xs k d ≡ get_or xs k e
any_default [] k d e within = absurd (omega arith)
any_default (x ∷ xs) zero d e within = refl
any_default (x ∷ xs) (suc k) d e within = any_default xs k d e (omega arith)

-- an element in the middle of a list is set
set_seam : {X : Type 0} (xs : List X) (y z : X) (ys : List X) → set (xs ++ y ∷ ys) (length xs) z ≡ xs ++ z ∷ ys
set_seam [] y z ys = refl
set_seam (x ∷ xs) y z ys = ap (λ (zs : List _). x ∷ zs) (set_seam xs y z ys)

twice_more : (q ms more : List Message) (b : Bool) → cond b (cond b (q ++ ms) q ++ more) (cond b (q ++ ms) q) ≡ cond b (q ++ (ms ++ more)) q
twice_more q ms more true = append_assoc q ms more
twice_more q ms more false = refl

none_more : (q : List Message) (b : Bool) → cond b (q ++ []) q ≡ q
none_more q true = append-nil q
none_more q false = refl

-- more messages wait after the first ones
received_append : (place : ℕ) (ms more : List Message) (inputs : List ℕ) (queues : Lists) → received place more inputs (received place ms inputs queues) ≡ received place (ms ++ more) inputs queues
received_append place ms more [] queues = refl
received_append place ms more (i ∷ inputs) [] = refl
received_append place ms more (i ∷ inputs) (q ∷ queues) = let rest = received_append place ms more inputs queues in let here = twice_more q ms more (nat_eq i place) in cc

sent_append : (place : ℕ) (ms more : List Message) (reads : List (List ℕ)) (waiting : List Lists) → AreSized reads waiting → sent_on place more reads (sent_on place ms reads waiting) ≡ sent_on place (ms ++ more) reads waiting
sent_append place ms more [] [] h = refl
sent_append place ms more [] (q ∷ waiting) h = absurd h
sent_append place ms more (r ∷ reads) [] h = absurd h
sent_append place ms more (r ∷ reads) (q ∷ waiting) h = let a = received_append place ms more r q in let b = sent_append place ms more reads waiting h.1 in cc

received_nothing : (place : ℕ) (inputs : List ℕ) (queues : Lists) → length inputs ≡ length queues → received place [] inputs queues ≡ queues
received_nothing place [] queues len = refl
received_nothing place (i ∷ inputs) [] len = absurd (omega arith)
received_nothing place (i ∷ inputs) (q ∷ queues) len = let rest = received_nothing place inputs queues (omega arith) in let here = none_more q (nat_eq i place) in cc

sent_nothing : (place : ℕ) (reads : List (List ℕ)) (waiting : List Lists) → AreSized reads waiting → sent_on place [] reads waiting ≡ waiting
sent_nothing place [] [] h = refl
sent_nothing place [] (q ∷ waiting) h = absurd h
sent_nothing place (r ∷ reads) [] h = absurd h
sent_nothing place (r ∷ reads) (q ∷ waiting) h = let a = received_nothing place r q h.0 in let b = sent_nothing place reads waiting h.1 in cc

-- lists stay sized where a node's messages are sent to the ports that read it
pub sized_sent_all : (place : ℕ) (ms : List Message) (reads : List (List ℕ)) (waiting : List Lists) → AreSized reads waiting → AreSized reads (sent_on place ms reads waiting)
sized_sent_all place ms [] [] h = h
sized_sent_all place ms [] (q ∷ waiting) h = absurd h
sized_sent_all place ms (r ∷ reads) [] h = absurd h
sized_sent_all place ms (r ∷ reads) (q ∷ waiting) h = (h.0 ∙ sym (received_length place ms r q h.0), sized_sent_all place ms reads waiting h.1)

-- a message that waits on the ports of two lists waits on those of the first, and then on those of the second
pub waits_append : (waiting : List Lists) (xs ys : List (ℕ × ℕ)) (m : Message) → waits_on_all waiting (xs ++ ys) m ≡ waits_on_all (waits_on_all waiting xs m) ys m
waits_append waiting [] ys m = refl
waits_append waiting (x ∷ xs) ys m = waits_append (waits_on waiting x m) xs ys m

-- a message waits on each port of one node that reads another one
module _ (place : ℕ) (m : Message) (front back : List Lists) where
  -- what is to be shown of the ports after the first ones
  abbrev OnPorts : Lists → List ℕ → Lists → Type 0
  OnPorts done inputs queues = waits_on_all (front ++ (done ++ queues) ∷ back) (readers_on place (length front) (length done) inputs) m ≡ front ++ (done ++ received place (m ∷ []) inputs queues) ∷ back

  abbrev OnNext : Lists → List Message → List ℕ → Lists → Type 0
  OnNext done x inputs queues = waits_on_all (front ++ (done ++ x ∷ queues) ∷ back) (readers_on place (length front) (length done + 1) inputs) m ≡ front ++ (done ++ x ∷ received place (m ∷ []) inputs queues) ∷ back

  next_port : (done : Lists) (x : List Message) (inputs : List ℕ) (queues : Lists) → OnPorts (done ++ x ∷ []) inputs queues → OnNext done x inputs queues
  next_port done x inputs queues rest =
      let one : length (done ++ x ∷ []) ≡ length done + 1 = omega (arith, length-append done (x ∷ [])) in
      ap (λ (qs : Lists). waits_on_all (front ++ qs ∷ back) (readers_on place (length front) (length done + 1) inputs) m) (sym (append_assoc done (x ∷ []) queues))
      ∙ (ap (λ (n : ℕ). waits_on_all (front ++ ((done ++ x ∷ []) ++ queues) ∷ back) (readers_on place (length front) n inputs) m) (sym one)
      ∙ (rest ∙ ap (λ (qs : Lists). front ++ qs ∷ back) (append_assoc done (x ∷ []) (received place (m ∷ []) inputs queues))))

  one_port : (done : Lists) (q : List Message) (inputs : List ℕ) (queues : Lists) (b : Bool) → ((x : List Message) → OnNext done x inputs queues)
      → waits_on_all (front ++ (done ++ q ∷ queues) ∷ back) (cond b ((length front, length done) ∷ []) [] ++ readers_on place (length front) (length done + 1) inputs) m ≡ front ++ (done ++ cond b (q ++ m ∷ []) q ∷ received place (m ∷ []) inputs queues) ∷ back
  one_port done q inputs queues false next = next q
  one_port done q inputs queues true next =
      let here : lists_at (front ++ (done ++ q ∷ queues) ∷ back) (length front) ≡ done ++ q ∷ queues = get_or-append_seam front (done ++ q ∷ queues) back [] in
      let there : list_at (done ++ q ∷ queues) (length done) ≡ q = get_or-append_seam done q queues [] in
      let sent : waits_on (front ++ (done ++ q ∷ queues) ∷ back) (length front, length done) m ≡ front ++ (done ++ (q ++ m ∷ []) ∷ queues) ∷ back =
      ap (λ (qs : Lists). set (front ++ (done ++ q ∷ queues) ∷ back) (length front) (with_more qs (length done) (m ∷ []))) here
      ∙ (set_seam front (done ++ q ∷ queues) (with_more (done ++ q ∷ queues) (length done) (m ∷ [])) back
      ∙ ap (λ (qs : Lists). front ++ qs ∷ back) (ap (λ (xs : List Message). set (done ++ q ∷ queues) (length done) (xs ++ m ∷ [])) there ∙ set_seam done q (q ++ m ∷ []) queues)) in
      ap (λ (ws : List Lists). waits_on_all ws (readers_on place (length front) (length done + 1) inputs) m) sent ∙ next (q ++ m ∷ [])

  on_ports : (done : Lists) (inputs : List ℕ) (queues : Lists) → length inputs ≡ length queues → OnPorts done inputs queues
  on_ports done [] queues len = refl
  on_ports done (i ∷ inputs) [] len = absurd (omega arith)
  on_ports done (i ∷ inputs) (q ∷ queues) len = one_port done q inputs queues (nat_eq i place) (λ x. next_port done x inputs queues (on_ports (done ++ x ∷ []) inputs queues (omega arith)))

-- a message waits on each port that reads a node
on_nodes : (place : ℕ) (m : Message) (front : List Lists) (reads : List (List ℕ)) (waiting : List Lists) → AreSized reads waiting
    → waits_on_all (front ++ waiting) (readers_from place (length front) reads) m ≡ front ++ sent_on place (m ∷ []) reads waiting
on_nodes place m front [] [] h = refl
on_nodes place m front [] (q ∷ waiting) h = absurd h
on_nodes place m front (r ∷ reads) [] h = absurd h
on_nodes place m front (r ∷ reads) (q ∷ waiting) h =
    let now = received place (m ∷ []) r q in
    let one : length (front ++ received place (m ∷ []) r q ∷ []) ≡ length front + 1 = omega (arith, length-append front (received place (m ∷ []) r q ∷ [])) in
    waits_append (front ++ q ∷ waiting) (readers_on place (length front) 0 r) (readers_from place (length front + 1) reads) m
    ∙ (ap (λ (ws : List Lists). waits_on_all ws (readers_from place (length front + 1) reads) m) (on_ports place m front waiting [] r q h.0)
    ∙ (ap (λ (ws : List Lists). waits_on_all ws (readers_from place (length front + 1) reads) m) (sym (append_assoc front (now ∷ []) waiting))
    ∙ (ap (λ (n : ℕ). waits_on_all ((front ++ received place (m ∷ []) r q ∷ []) ++ waiting) (readers_from place n reads) m) (sym one)
    ∙ (on_nodes place m (front ++ now ∷ []) reads waiting h.1 ∙ append_assoc front (now ∷ []) (sent_on place (m ∷ []) reads waiting)))))

-- messages of a node wait on each port that reads it, one after the other
pub all_sent : (place : ℕ) (reads : List (List ℕ)) (waiting : List Lists) (ms : List Message) → AreSized reads waiting → all_wait waiting (readers_from place 0 reads) ms ≡ sent_on place ms reads waiting
all_sent place reads waiting [] h = sym (sent_nothing place reads waiting h)
all_sent place reads waiting (m ∷ ms) h =
    ap (λ (ws : List Lists). all_wait ws (readers_from place 0 reads) ms) (on_nodes place m [] reads waiting h)
    ∙ (all_sent place reads (sent_on place (m ∷ []) reads waiting) ms (sized_sent_all place (m ∷ []) reads waiting h) ∙ sent_append place (m ∷ []) ms reads waiting h)

-- one port more
one_port_more : (place at k port : ℕ) (inputs : List ℕ) → port < length inputs
    → readers_on place at k (take (suc port) inputs) ≡ readers_on place at k (take port inputs) ++ cond (nat_eq (get_or inputs port 0) place) ((at, k + port) ∷ []) []
one_port_more place at k port [] within = absurd (omega arith)
one_port_more place at k zero (i ∷ inputs) within =
    let here : k ≡ k + 0 = omega arith in
    append-nil (cond (nat_eq i place) ((at, k) ∷ []) []) ∙ ap (λ (n : ℕ). cond (nat_eq i place) ((at, n) ∷ []) []) here
one_port_more place at k (suc port) (i ∷ inputs) within =
    let here : k + 1 + port ≡ k + suc port = omega arith in
    ap (λ (rs : List (ℕ × ℕ)). cond (nat_eq i place) ((at, k) ∷ []) [] ++ rs) (one_port_more place at (k + 1) port inputs (omega arith) ∙ ap (λ (n : ℕ). readers_on place at (k + 1) (take port inputs) ++ cond (nat_eq (get_or inputs port 0) place) ((at, n) ∷ []) []) here)
    ∙ sym (append_assoc (cond (nat_eq i place) ((at, k) ∷ []) []) (readers_on place at (k + 1) (take port inputs)) (cond (nat_eq (get_or inputs port 0) place) ((at, k + suc port) ∷ []) []))

-- one port more of a node: it is one of the ports that read a place exactly where it reads it
pub readers_one : (place at port : ℕ) (inputs : List ℕ) → port < length inputs
    → readers_on place at 0 (take (port + 1) inputs) ≡ readers_on place at 0 (take port inputs) ++ cond (nat_eq (get_or inputs port 0) place) ((at, port) ∷ []) []
readers_one place at port inputs within =
    let next : port + 1 ≡ suc port = omega arith in
    let here : 0 + port ≡ port = omega arith in
    ap (λ (n : ℕ). readers_on place at 0 (take n inputs)) next
    ∙ (one_port_more place at 0 port inputs within ∙ ap (λ (n : ℕ). readers_on place at 0 (take port inputs) ++ cond (nat_eq (get_or inputs port 0) place) ((at, n) ∷ []) []) here)

-- the ports of one node more
one_node_more : (place at k : ℕ) (reads : List (List ℕ)) → k < length reads
    → readers_from place at (take (suc k) reads) ≡ readers_from place at (take k reads) ++ readers_on place (at + k) 0 (get_or reads k [])
one_node_more place at k [] within = absurd (omega arith)
one_node_more place at zero (r ∷ reads) within =
    let here : at ≡ at + 0 = omega arith in append-nil (readers_on place at 0 r) ∙ ap (λ (n : ℕ). readers_on place n 0 r) here
one_node_more place at (suc k) (r ∷ reads) within =
    let here : at + 1 + k ≡ at + suc k = omega arith in
    ap (λ (rs : List (ℕ × ℕ)). readers_on place at 0 r ++ rs) (one_node_more place (at + 1) k reads (omega arith) ∙ ap (λ (n : ℕ). readers_from place (at + 1) (take k reads) ++ readers_on place n 0 (get_or reads k [])) here)
    ∙ sym (append_assoc (readers_on place at 0 r) (readers_from place (at + 1) (take k reads)) (readers_on place (at + suc k) 0 (get_or reads k [])))

-- one node more: its ports that read a place come after those of the nodes before it
pub readers_more : (place k : ℕ) (reads : List (List ℕ)) → k < length reads
    → readers_from place 0 (take (k + 1) reads) ≡ readers_from place 0 (take k reads) ++ readers_on place k 0 (get_or reads k [])
readers_more place k reads within =
    let next : k + 1 ≡ suc k = omega arith in
    let here : 0 + k ≡ k = omega arith in
    ap (λ (n : ℕ). readers_from place 0 (take n reads)) next
    ∙ (one_node_more place 0 k reads within ∙ ap (λ (n : ℕ). readers_from place 0 (take k reads) ++ readers_on place n 0 (get_or reads k [])) here)

-- a port stays one when a message more waits on a port
port_stays : (waiting : List Lists) (r s : ℕ × ℕ) (m : Message) → IsPort waiting r → IsPort waiting s → IsPort (waits_on waiting r m) s
port_stays waiting r s m is port =
    let wide : length (waits_on waiting r m) ≡ length waiting = length-set waiting r.0 (with_more (lists_at waiting r.0) r.1 (m ∷ [])) in (
      omega (arith, wide, port.0),
      elim (eqb_tells s.0 r.0) [ inl h ↦ same h.1 | inr h ↦ other h.1 ],
    ) where
      same : s.0 ≡ r.0 → s.1 < length (lists_at (waits_on waiting r m) s.0)
      same e =
          let here : lists_at (waits_on waiting r m) s.0 ≡ with_more (lists_at waiting r.0) r.1 (m ∷ []) = ap (λ (k : ℕ). lists_at (waits_on waiting r m) k) e ∙ get_or-set_same waiting r.0 (with_more (lists_at waiting r.0) r.1 (m ∷ [])) [] is.0 in
          let wide : length (with_more (lists_at waiting r.0) r.1 (m ∷ [])) ≡ length (lists_at waiting r.0) = length-set (lists_at waiting r.0) r.1 (list_at (lists_at waiting r.0) r.1 ++ m ∷ []) in
          let one : length (lists_at (waits_on waiting r m) s.0) ≡ length (lists_at waiting s.0) = ap length here ∙ (wide ∙ ap (λ (k : ℕ). length (lists_at waiting k)) (sym e)) in
          omega (arith, one, port.1)

      other : s.0 ≢ r.0 → s.1 < length (lists_at (waits_on waiting r m) s.0)
      other e =
          let here : length (lists_at (waits_on waiting r m) s.0) ≡ length (lists_at waiting s.0) = ap length (get_or-set_other waiting r.0 s.0 (with_more (lists_at waiting r.0) r.1 (m ∷ [])) [] e) in
          omega (arith, here, port.1)

-- some ports stay ports when a message more waits on a port
pub ports_stay : (waiting : List Lists) (r : ℕ × ℕ) (m : Message) (rs : List (ℕ × ℕ)) → IsPort waiting r → ArePorts waiting rs → ArePorts (waits_on waiting r m) rs
ports_stay waiting r m [] is are = tt
ports_stay waiting r m (s ∷ rs) is are = (port_stays waiting r s m is are.0, ports_stay waiting r m rs is are.1)

-- some ports stay ports when a message more waits on each of others
pub all_stay : (rs ss : List (ℕ × ℕ)) (waiting : List Lists) (m : Message) → ArePorts waiting rs → ArePorts waiting ss → ArePorts (waits_on_all waiting rs m) ss
all_stay [] ss waiting m are others = others
all_stay (r ∷ rs) ss waiting m are others = all_stay rs ss (waits_on waiting r m) m (ports_stay waiting r m rs are.0 are.1) (ports_stay waiting r m ss are.0 others)

-- one of some ports is one
pub port_at : (waiting : List Lists) (rs : List (ℕ × ℕ)) (k : ℕ) (d : ℕ × ℕ) → ArePorts waiting rs → k < length rs → IsPort waiting (get_or rs k d)
port_at waiting [] k d are within = absurd (omega arith)
port_at waiting (r ∷ rs) zero d are within = are.0
port_at waiting (r ∷ rs) (suc k) d are within = port_at waiting rs k d are.1 (omega arith)

-- of some ports the first ones are ports, and so are the others
pub ports_split : (waiting : List Lists) (rs ss : List (ℕ × ℕ)) → ArePorts waiting (rs ++ ss) → ArePorts waiting rs × ArePorts waiting ss
ports_split waiting [] ss are = (tt, are)
ports_split waiting (r ∷ rs) ss are = let rest = ports_split waiting rs ss are.1 in ((are.0, rest.0), rest.1)

-- a message waits on one port more
one_wait_more : (waiting : List Lists) (rs : List (ℕ × ℕ)) (k : ℕ) (d : ℕ × ℕ) (m : Message) → k < length rs → waits_on_all waiting (take (suc k) rs) m ≡ waits_on (waits_on_all waiting (take k rs) m) (get_or rs k d) m
one_wait_more waiting [] k d m within = absurd (omega arith)
one_wait_more waiting (r ∷ rs) zero d m within = refl
one_wait_more waiting (r ∷ rs) (suc k) d m within = one_wait_more (waits_on waiting r m) rs k d m (omega arith)

-- one port more: a message waits on the first ports, and then on that one
pub waits_one : (waiting : List Lists) (rs : List (ℕ × ℕ)) (k : ℕ) (d : ℕ × ℕ) (m : Message) → k < length rs → waits_on_all waiting (take (k + 1) rs) m ≡ waits_on (waits_on_all waiting (take k rs) m) (get_or rs k d) m
waits_one waiting rs k d m within =
    let next : k + 1 ≡ suc k = omega arith in
    ap (λ (n : ℕ). waits_on_all waiting (take n rs) m) next ∙ one_wait_more waiting rs k d m within

-- one message more waits on all ports
pub all_wait_one : (waiting : List Lists) (rs : List (ℕ × ℕ)) (ms : List Message) (m : Message) → all_wait waiting rs (ms ++ m ∷ []) ≡ waits_on_all (all_wait waiting rs ms) rs m
all_wait_one waiting rs [] m = refl
all_wait_one waiting rs (x ∷ ms) m = all_wait_one (waits_on_all waiting rs x) rs ms m

-- the ports that are there, and one more where it reads the node
pub pushed : (place at port : ℕ) (inputs : List ℕ) (first there : List (ℕ × ℕ)) (b : Bool) → port < length inputs → nat_eq (get_or inputs port 0) place ≡ b → there ≡ first ++ readers_on place at 0 (take port inputs)
    → there ++ cond b ((at, port) ∷ []) [] ≡ first ++ readers_on place at 0 (take (port + 1) inputs)
pushed place at port inputs first there b within is there_is =
    let more : readers_on place at 0 (take (port + 1) inputs) ≡ readers_on place at 0 (take port inputs) ++ cond b ((at, port) ∷ []) [] =
    readers_one place at port inputs within ∙ ap (λ (c : Bool). readers_on place at 0 (take port inputs) ++ cond c ((at, port) ∷ []) []) is in
    ap (λ (rs : List (ℕ × ℕ)). rs ++ cond b ((at, port) ∷ []) []) there_is ∙ (append_assoc first (readers_on place at 0 (take port inputs)) (cond b ((at, port) ∷ []) []) ∙ ap (λ (rs : List (ℕ × ℕ)). first ++ rs) (sym more))

ports_join : (waiting : List Lists) (rs ss : List (ℕ × ℕ)) → ArePorts waiting rs → ArePorts waiting ss → ArePorts waiting (rs ++ ss)
ports_join waiting [] ss are others = others
ports_join waiting (r ∷ rs) ss are others = (are.0, ports_join waiting rs ss are.1 others)

one_is_port : (waiting : List Lists) (place at port : ℕ) (inputs : List ℕ) (b : Bool) → IsPort waiting (at, port) → ArePorts waiting (readers_on place at (port + 1) inputs) → ArePorts waiting (cond b ((at, port) ∷ []) [] ++ readers_on place at (port + 1) inputs)
one_is_port waiting place at port inputs true is others = (is, others)
one_is_port waiting place at port inputs false is others = others

on_are_ports : (waiting : List Lists) (place at port : ℕ) (inputs : List ℕ) → at < length waiting → port + length inputs ≤ length (lists_at waiting at) → ArePorts waiting (readers_on place at port inputs)
on_are_ports waiting place at port [] within wide = tt
on_are_ports waiting place at port (i ∷ inputs) within wide = one_is_port waiting place at port inputs (nat_eq i place) (within, omega arith) (on_are_ports waiting place at (port + 1) inputs within (omega arith))

from_are_ports : (front waiting : List Lists) (place : ℕ) (reads : List (List ℕ)) → AreSized reads waiting → ArePorts (front ++ waiting) (readers_from place (length front) reads)
from_are_ports front [] place [] h = tt
from_are_ports front (q ∷ waiting) place [] h = absurd h
from_are_ports front [] place (r ∷ reads) h = absurd h
from_are_ports front (q ∷ waiting) place (r ∷ reads) h =
    let here : lists_at (front ++ q ∷ waiting) (length front) ≡ q = get_or-append_seam front q waiting [] in
    let one : length (front ++ q ∷ []) ≡ length front + 1 = omega (arith, length-append front (q ∷ [])) in
    ports_join (front ++ q ∷ waiting) (readers_on place (length front) 0 r) (readers_from place (length front + 1) reads)
    (on_are_ports (front ++ q ∷ waiting) place (length front) 0 r (omega (arith, length-append front (q ∷ waiting))) (omega (arith, h.0, ap (λ (ms : Lists). length ms) here)))
    (subst (λ (ws : List Lists). ArePorts ws (readers_from place (length front + 1) reads)) (append_assoc front (q ∷ []) waiting)
    (subst (λ (n : ℕ). ArePorts ((front ++ q ∷ []) ++ waiting) (readers_from place n reads)) one (from_are_ports (front ++ q ∷ []) waiting place reads h.1)))

-- what reads a node are ports
pub readers_are_ports : (place : ℕ) (reads : List (List ℕ)) (waiting : List Lists) → AreSized reads waiting → ArePorts waiting (readers_from place 0 reads)
readers_are_ports place reads waiting h = from_are_ports [] waiting place reads h

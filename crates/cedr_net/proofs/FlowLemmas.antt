-- Nodes and edges go on when a source is fed and when a node takes a message.
use Rattle.std.proofs.Common.{◌≡◌, ◌≢◌, ◌⊎◌, ◌≤◌, ℕ, zero, suc, ◌<◌, inl, inr, List, [], ◌∷◌, ◌++◌, Bool, true, false, cond, length, get_or, set, refl, ap, sym, ◌∙◌, subst, arith, append_assoc, get_or-set_same, get_or-set_other, eq-eqb}
use Rattle.std.specs.Prelude.{map, nat_eq, All}
use Rattle.std.proofs.lemmas.List.Elements.{All-head, All-tail}
use Rattle.cedr_plan.proofs.PlaceLemmas.{inputs_are}
use Rattle.std.proofs.lemmas.Bool.{cases_lt, eqb-true, ne_eqb}
use Rattle.std.proofs.lemmas.List.{length-set, length-map}
use Rattle.std.proofs.Math.Seq.{get_or-append_seam}
use Rattle.cedr_base.specs.declared.change.Message.{Message}
use Rattle.cedr_base.specs.Messages.{MayCome, IsLegal}
use Rattle.change_laws.proofs.Legal.{legal-push, may_come_in}
use Rattle.op_driver.specs.Driving.{MayTake}
use Rattle.node_laws.specs.Lists.{Lists, list_at, with_more}
use Rattle.node_laws.specs.Lawful.{IsLawful}
use Rattle.cedr_plan.specs.declared.plan.NodeKind.{NodeKind}
use Rattle.cedr_plan.specs.declared.plan.NodeKind.TheVariants as kind
use Rattle.cedr_plan.specs.declared.plan.PlanNode.{PlanNode}
use Rattle.cedr_plan.specs.Drawn.{Node as DrawnNode, node_of}
use Rattle.cedr_plan.specs.Operators.{operator_row}
use Rattle.cedr_plan.specs.Rules.{IsNode, operator_of_kind}
use Rattle.op_node.specs.Meanings.{meaning_of, port_levels}
use Rattle.op_node.proofs.ReadyMeanings.{alike}
use Rattle.cedr_node.specs.Nodes.{made_of}
use Rattle.cedr_node.proofs.NodeLemmas.{same_ports, stands_lawful, stands_legal}
use Rattle.cedr_plan.specs.Places.{is_source}
use Rattle.plan_runs.specs.Runs.{lists_at}
use Rattle.plan_runs.proofs.PlanNodes.{node_stands, place_within, Split, split}
use Rattle.cedr_base.specs.declared.level.Level.{Level}
use Rattle.cedr_table.specs.Operators.{Meaning}
use Rattle.node_laws.proofs.Giving.{lawful_legal}
use Rattle.node_laws.proofs.ListLemmas.{at_more_other, at_more}
use Rattle.cedr_net.specs.declared.work.Work.{Work}
use Rattle.cedr_net.specs.Edges.{received, sent_on, lists_joined, AreSized, IsPulled}
use Rattle.cedr_net.specs.Flows.{WorksAt, IsWorked, Flows, MovesOn, with_taken}
use Rattle.cedr_net.proofs.EdgeLemmas.{received_length, sized_length, sized_at, sized_sent_all}

-- what works as a node of a plan is lawful as that node
pub works_lawful : (w : Work) (n : PlanNode) (lists : Lists) (given : List Message) → WorksAt w n lists given → is_source n.kind ≡ false → IsLawful (meaning_of n) (port_levels n) lists given
works_lawful w n lists given works isnt =
    let x = works.other isnt in
    subst (λ (vs : List Level). IsLawful (meaning_of n) vs lists given) (same_ports (made_of x.0) n x.2)
    (subst (λ (k : Meaning). IsLawful k (port_levels (made_of x.0)) lists given) (alike (made_of x.0) n x.2) (stands_lawful x.0 lists given x.3))

-- what a node reads is at its place
pub reads_at : (nodes before after : List PlanNode) (n : PlanNode) → nodes ≡ before ++ n ∷ after → get_or (map (λ (m : PlanNode). m.inputs.items) nodes) (length before) [] ≡ n.inputs.items
reads_at nodes before after n whole = ap (λ (ns : List PlanNode). get_or (map (λ (m : PlanNode). m.inputs.items) ns) (length before) []) whole ∙ at before where
  at : (bs : List PlanNode) → get_or (map (λ (m : PlanNode). m.inputs.items) (bs ++ n ∷ after)) (length bs) [] ≡ n.inputs.items
  at [] = refl
  at (b ∷ bs) = at bs

-- what waits at a node, where messages were sent
pub sent_at : (place : ℕ) (ms : List Message) (reads : List (List ℕ)) (waiting : List Lists) (k : ℕ) → AreSized reads waiting → get_or (sent_on place ms reads waiting) k [] ≡ received place ms (get_or reads k []) (get_or waiting k [])
sent_at place ms [] [] k h = refl
sent_at place ms [] (q ∷ waiting) k h = absurd h
sent_at place ms (r ∷ reads) [] k h = absurd h
sent_at place ms (r ∷ reads) (q ∷ waiting) zero h = refl
sent_at place ms (r ∷ reads) (q ∷ waiting) (suc k) h = sent_at place ms reads waiting k h.1

-- one port goes on as the node that it reads
one_joined : (given : Lists) (place i : ℕ) (ms l q : List Message) → place < length given → (b : Bool) → nat_eq i place ≡ b → l ++ q ≡ list_at given i → l ++ cond b (q ++ ms) q ≡ list_at (with_more given place ms) i
one_joined given place i ms l q within true h e =
    let same : i ≡ place = eqb-true i place h in
    sym (append_assoc l q ms) ∙ (ap (λ (xs : List Message). xs ++ ms) (e ∙ ap (list_at given) same) ∙ sym (ap (list_at (with_more given place ms)) same ∙ at_more given place ms within))
one_joined given place i ms l q within false h e = e ∙ sym (at_more_other given place i ms (λ same. absurd (let k = eq_true i place same in cc))) where
  eq_true : (a b : ℕ) → a ≡ b → nat_eq a b ≡ true
  eq_true a b s = eq-eqb a b s

-- once a node sent messages, what was taken and what waits on the ports of a node are still the lists of the
-- nodes that it reads, with these messages more
pub joined_received : (given : Lists) (place : ℕ) (ms : List Message) (inputs : List ℕ) (ls qs : Lists) → place < length given → length ls ≡ length qs → lists_joined ls qs ≡ map (list_at given) inputs → lists_joined ls (received place ms inputs qs) ≡ map (list_at (with_more given place ms)) inputs
joined_received given place ms [] [] [] within len e = refl
joined_received given place ms [] [] (q ∷ qs) within len e = absurd (omega arith)
joined_received given place ms [] (l ∷ ls) [] within len e = absurd (omega arith)
joined_received given place ms [] (l ∷ ls) (q ∷ qs) within len e = cc
joined_received given place ms (i ∷ inputs) [] qs within len e = cc
joined_received given place ms (i ∷ inputs) (l ∷ ls) [] within len e = absurd (omega arith)
joined_received given place ms (i ∷ inputs) (l ∷ ls) (q ∷ qs) within len e =
    let head : l ++ q ≡ list_at given i = ap (λ (xs : Lists). list_at xs 0) e in
    let tail : lists_joined ls qs ≡ map (list_at given) inputs = ap rest_of e in
    let a = one_joined given place i ms l q within (nat_eq i place) refl head in
    let b = joined_received given place ms inputs ls qs within (omega arith) tail in
    cc where
      rest_of : Lists → Lists
      rest_of [] = []
      rest_of (x ∷ xs) = xs

-- taking the front message leaves what was taken and what waits together
pub joined_pulled : (ls qs : Lists) (port : ℕ) (m : Message) (more : List Message) → port < length qs → length ls ≡ length qs → list_at qs port ≡ m ∷ more → lists_joined (with_more ls port (m ∷ [])) (set qs port more) ≡ lists_joined ls qs
joined_pulled [] [] port m more within len front = absurd (omega arith)
joined_pulled [] (q ∷ qs) port m more within len front = absurd (omega arith)
joined_pulled (l ∷ ls) [] port m more within len front = absurd (omega arith)
joined_pulled (l ∷ ls) (q ∷ qs) zero m more within len front = ap (λ (xs : List Message). xs ∷ lists_joined ls qs) (append_assoc l (m ∷ []) more ∙ ap (λ (xs : List Message). l ++ xs) (sym front))
joined_pulled (l ∷ ls) (q ∷ qs) (suc port) m more within len front = ap (λ (xs : Lists). (l ++ q) ∷ xs) (joined_pulled ls qs port m more (omega arith) (omega arith) front)

-- what was taken on a port is the first part of the list of the node that it reads
joined_at : (given : Lists) (inputs : List ℕ) (ls qs : Lists) (k : ℕ) → lists_joined ls qs ≡ map (list_at given) inputs → length ls ≡ length qs → k < length ls → (i : ℕ) × (list_at ls k ++ list_at qs k ≡ list_at given i)
joined_at given [] [] qs k e len within = absurd (omega arith)
joined_at given [] (l ∷ ls) [] k e len within = absurd (omega arith)
joined_at given [] (l ∷ ls) (q ∷ qs) k e len within = cc
joined_at given (i ∷ inputs) [] qs k e len within = absurd (omega arith)
joined_at given (i ∷ inputs) (l ∷ ls) [] k e len within = absurd (omega arith)
joined_at given (i ∷ inputs) (l ∷ ls) (q ∷ qs) zero e len within = (i, ap (λ (xs : Lists). list_at xs 0) e)
joined_at given (i ∷ inputs) (l ∷ ls) (q ∷ qs) (suc k) e len within = joined_at given inputs ls qs k (ap rest_of e) (omega arith) (omega arith) where
  rest_of : Lists → Lists
  rest_of [] = []
  rest_of (x ∷ xs) = xs

-- two places are the same, or they aren't
pub same_or_not : (k place : ℕ) → (k ≡ place) ⊎ (k ≢ place)
same_or_not k place = elim (cases_lt k place) [
  | inl h ↦ inr (λ e. absurd (omega arith))
  | inr h ↦ elim (cases_lt place k) [
    | inl j ↦ inr (λ e. absurd (omega arith))
    | inr j ↦ inl (omega arith)
  ]
]

-- messages of a node are sent, and come after what it gave
module _ (nodes : List PlanNode) (reads : List (List ℕ)) (waiting waiting' : List Lists) (works works' : List Work) (ports ports' : List Lists) (given : Lists) (place : ℕ) (piece : List Message) (h : Flows nodes reads waiting works ports given) (within : place < length nodes)
    (sized : AreSized reads waiting') (works_count : length works' ≡ length nodes) (ports_count : length ports' ≡ length nodes)
    (widths : (k : ℕ) → length (lists_at ports' k) ≡ length (lists_at waiting' k))
    (edges : (k : ℕ) → lists_joined (lists_at ports' k) (lists_at waiting' k) ≡ map (list_at given) (get_or reads k []))
    (work : (before after : List PlanNode) (n : PlanNode) (d : Work) → nodes ≡ before ++ n ∷ after → WorksAt (get_or works' (length before) d) n (lists_at ports' (length before)) (list_at (with_more given place piece) (length before)))
    (legal : IsLegal (list_at given place ++ piece)) where
  inside : place < length given
  inside = let e = h.given_count in omega arith

  legal_at : (k : ℕ) → (k ≡ place) ⊎ (k ≢ place) → IsLegal (list_at (with_more given place piece) k)
  legal_at k (inl e) = subst IsLegal (sym (ap (list_at (with_more given place piece)) e ∙ at_more given place piece inside)) legal
  legal_at k (inr ne) = subst IsLegal (sym (at_more_other given place k piece ne)) (h.legal k)

  width_at : (k : ℕ) → length (lists_at (sent_on place piece reads waiting') k) ≡ length (lists_at waiting' k)
  width_at k = ap (λ (qs : Lists). length qs) (sent_at place piece reads waiting' k sized) ∙ received_length place piece (get_or reads k []) (get_or waiting' k []) (sized_at reads waiting' sized k)

  pub flows_sent : Flows nodes reads (sent_on place piece reads waiting') works' ports' (with_more given place piece)
  flows_sent = record {
    are = h.are;
    reads_are = h.reads_are;
    sized = sized_sent_all place piece reads waiting' sized;
    works_count = works_count;
    ports_count = ports_count;
    given_count = length-set given place (list_at given place ++ piece) ∙ h.given_count;
    widths = λ k. widths k ∙ sym (width_at k);
    edges = λ k. ap (lists_joined (lists_at ports' k)) (sent_at place piece reads waiting' k sized)
        ∙ joined_received given place piece (get_or reads k []) (lists_at ports' k) (lists_at waiting' k) inside (widths k) (edges k);
    work = work;
    legal = λ k. legal_at k (same_or_not k place);
  }

works_same : (w : Work) (n : PlanNode) (lists : Lists) (given given' : List Message) → given' ≡ given → WorksAt w n lists given → WorksAt w n lists given'
works_same w n lists given given' e h = subst (WorksAt w n lists) (sym e) h

-- a source is fed
module _ (nodes : List PlanNode) (reads : List (List ℕ)) (waiting : List Lists) (works : List Work) (ports : List Lists) (given : Lists) (place : ℕ) (m : Message) (h : Flows nodes reads waiting works ports given) (within : place < length nodes)
    (source : (before after : List PlanNode) (n : PlanNode) → nodes ≡ before ++ n ∷ after → length before ≡ place → is_source n.kind ≡ true) (may : MayCome (list_at given place) m) where
  work_fed : (before after : List PlanNode) (n : PlanNode) (d : Work) → nodes ≡ before ++ n ∷ after → (length before ≡ place) ⊎ (length before ≢ place)
      → WorksAt (get_or works (length before) d) n (lists_at ports (length before)) (list_at (with_more given place (m ∷ [])) (length before))
  work_fed before after n d whole (inl e) = record { other = λ isnt. absurd (let is = source before after n whole e in cc); source = (h.work before after n d whole).source }
  work_fed before after n d whole (inr ne) = works_same (get_or works (length before) d) n (lists_at ports (length before)) (list_at given (length before)) _ (at_more_other given place (length before) (m ∷ []) ne) (h.work before after n d whole)

  pub flows_fed : Flows nodes reads (sent_on place (m ∷ []) reads waiting) works ports (with_more given place (m ∷ []))
  flows_fed =
      flows_sent nodes reads waiting waiting works works ports ports given place (m ∷ []) h within h.sized h.works_count h.ports_count h.widths h.edges
      (λ before after n d whole. work_fed before after n d whole (same_or_not (length before) place)) (legal-push (list_at given place) m (h.legal place) may)

-- a source has no port
pub no_inputs : (before : List DrawnNode) (n : PlanNode) (k : NodeKind) → n.kind ≡ k → IsNode before (node_of n) → is_source k ≡ true → length n.inputs.items ≡ 0
no_inputs before n (kind.Source file) e is source = let most = is.most_ports in let few = ap (λ (x : NodeKind). (operator_row (operator_of_kind x)).most) e in omega (arith, most, few)
no_inputs before n other e is source = absurd (cc source)

-- a message waits at a node
module _ (nodes : List PlanNode) (reads : List (List ℕ)) (waiting : List Lists) (works : List Work) (ports : List Lists) (given : Lists) (place port : ℕ) (m : Message) (more : List Message) (h : Flows nodes reads waiting works ports given)
    (before after : List PlanNode) (n : PlanNode) (whole : nodes ≡ before ++ n ∷ after) (here : length before ≡ place)
    (in_port : port < length (lists_at waiting place)) (front : list_at (lists_at waiting place) port ≡ m ∷ more) where
  reads_here : get_or reads place [] ≡ n.inputs.items
  reads_here = ap (λ (rs : List (List ℕ)). get_or rs place []) h.reads_are ∙ (ap (λ (k : ℕ). get_or (map (λ (x : PlanNode). x.inputs.items) nodes) k []) (sym here) ∙ reads_at nodes before after n whole)

  pub no_source_waits : is_source n.kind ≡ false
  no_source_waits = at (is_source n.kind) refl where
    at : (b : Bool) → is_source n.kind ≡ b → b ≡ false
    at false e = refl
    at true e =
        let none = no_inputs (map node_of before) n n.kind refl (node_stands nodes before after n h.are whole) e in
        absurd (omega (arith, in_port, none, ap (λ (xs : List ℕ). length xs) reads_here, sized_at reads waiting h.sized place))

  port_in : port < length (lists_at ports place)
  port_in = omega (arith, h.widths place, in_port)

  pub may_take : MayTake (lists_at ports place) port m
  may_take =
      let j = joined_at given (get_or reads place []) (lists_at ports place) (lists_at waiting place) port (h.edges place) (h.widths place) port_in in
      record {
        port_is = port_in;
        comes = may_come_in (list_at (lists_at ports place) port) more m (subst IsLegal (sym (ap (λ (xs : List Message). list_at (lists_at ports place) port ++ xs) (sym front) ∙ j.1)) (h.legal j.0));
      }

-- so many ports as before
pub sized_set : (reads : List (List ℕ)) (waiting : List Lists) (k : ℕ) (qs : Lists) → AreSized reads waiting → length qs ≡ length (lists_at waiting k) → AreSized reads (set waiting k qs)
sized_set [] [] k qs h e = h
sized_set [] (q ∷ waiting) k qs h e = absurd h
sized_set (r ∷ reads) [] k qs h e = absurd h
sized_set (r ∷ reads) (q ∷ waiting) zero qs h e = (h.0 ∙ sym e, h.1)
sized_set (r ∷ reads) (q ∷ waiting) (suc k) qs h e = (h.0, sized_set reads waiting k qs h.1 e)

-- there is no list past the last port
pub beyond : (ls : Lists) (k : ℕ) → length ls ≤ k → list_at ls k ≡ []
beyond [] k h = refl
beyond (l ∷ ls) zero h = absurd (omega arith)
beyond (l ∷ ls) (suc k) h = beyond ls k (omega arith)

-- the node at a place is one
pub one_node : (nodes before after before' after' : List PlanNode) (n n' : PlanNode) → nodes ≡ before ++ n ∷ after → nodes ≡ before' ++ n' ∷ after' → length before ≡ length before' → n ≡ n'
one_node nodes before after before' after' n n' whole whole' len =
    sym (get_or-append_seam before n after n) ∙ (ap (λ (ns : List PlanNode). get_or ns (length before) n) (sym whole ∙ whole') ∙ (ap (λ (k : ℕ). get_or (before' ++ n' ∷ after') k n) len ∙ get_or-append_seam before' n' after' n))

-- a node took the message that waited, and gave a piece
module _ (nodes : List PlanNode) (reads : List (List ℕ)) (waiting : List Lists) (works : List Work) (ports : List Lists) (given : Lists) (place port : ℕ) (m : Message) (more : List Message) (h : Flows nodes reads waiting works ports given)
    (before after : List PlanNode) (n : PlanNode) (whole : nodes ≡ before ++ n ∷ after) (here : length before ≡ place)
    (in_port : port < length (lists_at waiting place)) (front : list_at (lists_at waiting place) port ≡ m ∷ more)
    (w : Work) (piece : List Message) (works_now : WorksAt w n (with_more (lists_at ports place) port (m ∷ [])) (list_at given place ++ piece)) where
  place_in : place < length nodes
  place_in = let e = place_within nodes before after n whole in omega arith

  queues_now : Lists
  queues_now = set (lists_at waiting place) port more

  queues_length : length (set (lists_at waiting place) port more) ≡ length (lists_at waiting place)
  queues_length = length-set (lists_at waiting place) port more

  ports_in : place < length ports
  ports_in = let e = place_in in omega (arith, h.ports_count)

  waiting_in : place < length waiting
  waiting_in = let e = place_in in omega (arith, sized_length reads waiting h.sized, ap (λ (rs : List (List ℕ)). length rs) h.reads_are, length-map nodes (λ (x : PlanNode). x.inputs.items))

  works_in : place < length works
  works_in = let e = place_in in omega (arith, h.works_count)

  ports_same : lists_at (with_taken ports place port m) place ≡ with_more (lists_at ports place) port (m ∷ [])
  ports_same = get_or-set_same ports place (with_more (lists_at ports place) port (m ∷ [])) [] ports_in

  waiting_same : lists_at (set waiting place (set (lists_at waiting place) port more)) place ≡ set (lists_at waiting place) port more
  waiting_same = get_or-set_same waiting place (set (lists_at waiting place) port more) [] waiting_in

  width_now : (k : ℕ) → (k ≡ place) ⊎ (k ≢ place) → length (lists_at (with_taken ports place port m) k) ≡ length (lists_at (set waiting place (set (lists_at waiting place) port more)) k)
  width_now k (inl e) =
      ap (λ (j : ℕ). length (lists_at (with_taken ports place port m) j)) e
      ∙ (ap (λ (ls : Lists). length ls) ports_same
      ∙ (length-set (lists_at ports place) port (list_at (lists_at ports place) port ++ m ∷ [])
      ∙ (h.widths place ∙ (sym queues_length
      ∙ (sym (ap (λ (ls : Lists). length ls) waiting_same) ∙ sym (ap (λ (j : ℕ). length (lists_at (set waiting place (set (lists_at waiting place) port more)) j)) e))))))
  width_now k (inr ne) =
      ap (λ (ls : Lists). length ls) (get_or-set_other ports place k (with_more (lists_at ports place) port (m ∷ [])) [] ne)
      ∙ (h.widths k ∙ sym (ap (λ (ls : Lists). length ls) (get_or-set_other waiting place k (set (lists_at waiting place) port more) [] ne)))

  edge_now : (k : ℕ) → (k ≡ place) ⊎ (k ≢ place) → lists_joined (lists_at (with_taken ports place port m) k) (lists_at (set waiting place (set (lists_at waiting place) port more)) k) ≡ map (list_at given) (get_or reads k [])
  edge_now k (inl e) =
      ap (λ (j : ℕ). lists_joined (lists_at (with_taken ports place port m) j) (lists_at (set waiting place (set (lists_at waiting place) port more)) j)) e
      ∙ (ap (λ (ls : Lists). lists_joined ls (lists_at (set waiting place (set (lists_at waiting place) port more)) place)) ports_same
      ∙ (ap (lists_joined (with_more (lists_at ports place) port (m ∷ []))) waiting_same
      ∙ (joined_pulled (lists_at ports place) (lists_at waiting place) port m more in_port (h.widths place) front
      ∙ (h.edges place ∙ ap (λ (j : ℕ). map (list_at given) (get_or reads j [])) (sym e)))))
  edge_now k (inr ne) =
      ap (λ (ls : Lists). lists_joined ls (lists_at (set waiting place (set (lists_at waiting place) port more)) k)) (get_or-set_other ports place k (with_more (lists_at ports place) port (m ∷ [])) [] ne)
      ∙ (ap (lists_joined (lists_at ports k)) (get_or-set_other waiting place k (set (lists_at waiting place) port more) [] ne) ∙ h.edges k)

  given_in : place < length given
  given_in = let e = place_in in omega (arith, h.given_count)

  work_now : (before' after' : List PlanNode) (n' : PlanNode) (d : Work) → nodes ≡ before' ++ n' ∷ after' → (length before' ≡ place) ⊎ (length before' ≢ place)
      → WorksAt (get_or (set works place w) (length before') d) n' (lists_at (with_taken ports place port m) (length before')) (list_at (with_more given place piece) (length before'))
  work_now before' after' n' d whole' (inl e) =
      subst (λ (k : ℕ). WorksAt (get_or (set works place w) k d) n' (lists_at (with_taken ports place port m) k) (list_at (with_more given place piece) k)) (sym e)
      (subst (λ (x : Work). WorksAt x n' (lists_at (with_taken ports place port m) place) (list_at (with_more given place piece) place)) (sym (get_or-set_same works place w d works_in))
      (subst (λ (ls : Lists). WorksAt w n' ls (list_at (with_more given place piece) place)) (sym ports_same)
      (subst (λ (g : List Message). WorksAt w n' (with_more (lists_at ports place) port (m ∷ [])) g) (sym (at_more given place piece given_in))
      (subst (λ (x : PlanNode). WorksAt w x (with_more (lists_at ports place) port (m ∷ [])) (list_at given place ++ piece)) (one_node nodes before after before' after' n n' whole whole' (here ∙ sym e)) works_now))))
  work_now before' after' n' d whole' (inr ne) =
      subst (λ (x : Work). WorksAt x n' (lists_at (with_taken ports place port m) (length before')) (list_at (with_more given place piece) (length before'))) (sym (get_or-set_other works place (length before') w d ne))
      (subst (λ (ls : Lists). WorksAt (get_or works (length before') d) n' ls (list_at (with_more given place piece) (length before'))) (sym (get_or-set_other ports place (length before') (with_more (lists_at ports place) port (m ∷ [])) [] ne))
      (subst (λ (g : List Message). WorksAt (get_or works (length before') d) n' (lists_at ports (length before')) g) (sym (at_more_other given place (length before') piece ne)) (h.work before' after' n' d whole')))

  gave_legal : IsLegal (list_at given place ++ piece)
  gave_legal =
      let isnt = no_source_waits nodes reads waiting works ports given place port m more h before after n whole here in_port front in
      let x = works_now.other isnt in
      let lists = with_more (lists_at ports place) port (m ∷ []) in
      lawful_legal (meaning_of (made_of x.0)) (port_levels (made_of x.0)) lists (list_at given place ++ piece) (stands_lawful x.0 lists (list_at given place ++ piece) x.3) (stands_legal x.0 lists (list_at given place ++ piece) x.3)

  pub flows_turned : Flows nodes reads (sent_on place piece reads (set waiting place (set (lists_at waiting place) port more))) (set works place w) (with_taken ports place port m) (with_more given place piece)
  flows_turned =
      flows_sent nodes reads waiting (set waiting place (set (lists_at waiting place) port more)) works (set works place w) ports (with_taken ports place port m) given place piece h place_in
      (sized_set reads waiting place (set (lists_at waiting place) port more) h.sized queues_length) (length-set works place w ∙ h.works_count) (length-set ports place (with_more (lists_at ports place) port (m ∷ [])) ∙ h.ports_count)
      (λ k. width_now k (same_or_not k place)) (λ k. edge_now k (same_or_not k place)) (λ before' after' n' d whole'. work_now before' after' n' d whole' (same_or_not (length before') place)) gave_legal

-- for each node of a plan there are lists of what waits on its ports
pub waits_within : (nodes : List PlanNode) (reads : List (List ℕ)) (waiting : List Lists) (works : List Work) (ports : List Lists) (given : Lists) (place : ℕ) → Flows nodes reads waiting works ports given → place < length nodes → place < length waiting
waits_within nodes reads waiting works ports given place h within = omega (arith, within, sized_length reads waiting h.sized, ap (λ (rs : List (List ℕ)). length rs) h.reads_are, length-map nodes (λ (x : PlanNode). x.inputs.items))

-- a node that reads none but earlier ones is sent nothing
received_none : (place n : ℕ) (ms : List Message) (inputs : List ℕ) (qs : Lists) → n ≤ place → All (λ (i : ℕ). i < n) inputs → received place ms inputs qs ≡ qs
received_none place n ms [] qs low within = refl
received_none place n ms (i ∷ inputs) [] low within = refl
received_none place n ms (i ∷ inputs) (q ∷ qs) low within =
    let h = All-head (λ (j : ℕ). j < n) i inputs within in
    let a : nat_eq i place ≡ false = ne_eqb i place (λ e. absurd (omega arith)) in
    let b = received_none place n ms inputs qs low (All-tail (λ (j : ℕ). j < n) i inputs within) in
    ap (λ (c : Bool). cond c (q ++ ms) q ∷ received place ms inputs qs) a ∙ ap (λ (xs : Lists). q ∷ xs) b

unsent : (nodes : List PlanNode) (reads : List (List ℕ)) (waiting waiting' : List Lists) (works : List Work) (ports : List Lists) (given : Lists) (place k : ℕ) (piece : List Message) → Flows nodes reads waiting works ports given → place < length nodes → k ≤ place → AreSized reads waiting'
    → lists_at (sent_on place piece reads waiting') k ≡ lists_at waiting' k
unsent nodes reads waiting waiting' works ports given place k piece h within low sized =
    let s = split nodes k (omega arith) in
    let all = inputs_are s.before s.node (node_stands nodes s.before s.after s.node h.are s.whole) in
    let here : get_or reads k [] ≡ s.node.inputs.items = ap (λ (rs : List (List ℕ)). get_or rs k []) h.reads_are ∙ (ap (λ (j : ℕ). get_or (map (λ (x : PlanNode). x.inputs.items) nodes) j []) (sym s.place) ∙ reads_at nodes s.before s.after s.node s.whole) in
    sent_at place piece reads waiting' k sized
    ∙ (ap (λ (is : List ℕ). received place piece is (get_or waiting' k [])) here ∙ received_none place (length s.before) piece s.node.inputs.items (get_or waiting' k []) (let e = s.place in omega arith) all)

-- the first message was pulled
module _ (nodes : List PlanNode) (reads : List (List ℕ)) (waiting waiting' : List Lists) (works : List Work) (ports : List Lists) (given : Lists) (place port : ℕ) (m : Message) (h : Flows nodes reads waiting works ports given) (within : place < length nodes)
    (pulled : IsPulled (lists_at waiting place) (lists_at waiting' place) port m) (rest : waiting' ≡ set waiting place (lists_at waiting' place)) where
  more_now : List Message
  more_now = list_at (lists_at waiting' place) port

  work_at : (s : Split nodes place) (d : Work) → WorksAt (get_or works place d) s.node (lists_at ports place) (list_at given place)
  work_at s d = subst (λ (k : ℕ). WorksAt (get_or works k d) s.node (lists_at ports k) (list_at given k)) s.place (h.work s.before s.after s.node d s.whole)

  -- the node may take it
  pub may_work : (n : PlanNode) × (lists : Lists) × (g : List Message) × (is_source n.kind ≡ false) × ((d : Work) → WorksAt (get_or works place d) n lists g) × MayTake lists port m
  may_work =
      let s = split nodes place within in (
        s.node,
        lists_at ports place,
        list_at given place,
        no_source_waits nodes reads waiting works ports given place port m (list_at (lists_at waiting' place) port) h s.before s.after s.node s.whole s.place pulled.within pulled.front,
        work_at s,
        may_take nodes reads waiting works ports given place port m (list_at (lists_at waiting' place) port) h s.before s.after s.node s.whole s.place pulled.within pulled.front,
      )

  waiting_now : waiting' ≡ set waiting place (set (lists_at waiting place) port (list_at (lists_at waiting' place) port))
  waiting_now = rest ∙ ap (set waiting place) pulled.rest

  pub pulled_sized : AreSized reads waiting'
  pulled_sized = subst (AreSized reads) (sym waiting_now) (sized_set reads waiting place _ h.sized (length-set (lists_at waiting place) port (list_at (lists_at waiting' place) port)))

  -- and has taken it
  pub turned : (works' : List Work) (piece : List Message) (waiting'' : List Lists)
      → ((n : PlanNode) (lists : Lists) (g : List Message) → is_source n.kind ≡ false → ((d : Work) → WorksAt (get_or works place d) n lists g) → MayTake lists port m → IsWorked works works' place n (with_more lists port (m ∷ [])) (g ++ piece))
      → waiting'' ≡ sent_on place piece reads waiting' → MovesOn nodes reads waiting waiting'' works' ports given place port m piece
  unfolding may_work
  turned works' piece waiting'' worked sent =
      let s = split nodes place within in
      let may = may_work in
      let w = worked may.0 may.1 may.2 may.3 may.4 may.5 in
      record {
        more = list_at (lists_at waiting' place) port;
        first = pulled.first;
        front = pulled.front;
        own = ap (λ (ws : List Lists). lists_at ws place) sent ∙ (unsent nodes reads waiting waiting' works ports given place place piece h within (omega arith) pulled_sized ∙ pulled.rest);
        earlier = λ k before. ap (λ (ws : List Lists). lists_at ws k) sent ∙ (unsent nodes reads waiting waiting' works ports given place k piece h within (omega arith) pulled_sized
            ∙ (ap (λ (ws : List Lists). lists_at ws k) rest ∙ get_or-set_other waiting place k (lists_at waiting' place) [] (λ e. absurd (omega arith))));
        flows = subst (λ (ws : List Lists). Flows nodes reads ws works' (with_taken ports place port m) (with_more given place piece)) (sym (sent ∙ ap (sent_on place piece reads) waiting_now))
            (subst (λ (vs : List Work). Flows nodes reads (sent_on place piece reads (set waiting place (set (lists_at waiting place) port (list_at (lists_at waiting' place) port)))) vs (with_taken ports place port m) (with_more given place piece)) (sym w.stands_at)
            (flows_turned nodes reads waiting works ports given place port m (list_at (lists_at waiting' place) port) h s.before s.after s.node s.whole s.place pulled.within pulled.front w.now piece w.works));
      }

-- a port on which a message waits is one
pub waits_port : (qs : Lists) (port : ℕ) (m : Message) (more : List Message) → list_at qs port ≡ m ∷ more → port < length qs
waits_port qs port m more front = elim (cases_lt port (length qs)) [
  | inl h ↦ h
  | inr h ↦ absurd (let e = ap (λ (ms : List Message). length ms) (sym front ∙ beyond qs port h) in omega arith)
]

-- a source has no port on which anything came
pub source_has_none : (nodes : List PlanNode) (reads : List (List ℕ)) (waiting : List Lists) (works : List Work) (ports : List Lists) (given : Lists) (place : ℕ) → Flows nodes reads waiting works ports given → place < length nodes
    → ((before after : List PlanNode) (n : PlanNode) → nodes ≡ before ++ n ∷ after → length before ≡ place → is_source n.kind ≡ true) → length (lists_at ports place) ≡ 0
source_has_none nodes reads waiting works ports given place h within source =
    let s = split nodes place within in
    let none = no_inputs (map node_of s.before) s.node s.node.kind refl (node_stands nodes s.before s.after s.node h.are s.whole) (source s.before s.after s.node s.whole s.place) in
    let here : get_or reads place [] ≡ s.node.inputs.items = ap (λ (rs : List (List ℕ)). get_or rs place []) h.reads_are ∙ (ap (λ (k : ℕ). get_or (map (λ (x : PlanNode). x.inputs.items) nodes) k []) (sym s.place) ∙ reads_at nodes s.before s.after s.node s.whole) in
    omega (arith, none, ap (λ (xs : List ℕ). length xs) here, sized_at reads waiting h.sized place, h.widths place)

-- what the node at a place reads
pub read_at : (nodes : List PlanNode) (k : ℕ) (d : PlanNode) → k < length nodes → get_or (map (λ (m : PlanNode). m.inputs.items) nodes) k [] ≡ (get_or nodes k d).inputs.items
read_at [] k d within = absurd (omega arith)
read_at (n ∷ nodes) zero d within = refl
read_at (n ∷ nodes) (suc k) d within = read_at nodes k d (omega arith)

-- A network goes on when a node takes a message.
use Rattle.std.proofs.Common.{◌≡◌, ◌≢◌, ℕ, ◌<◌, List, [], ◌∷◌, ◌++◌, Bool, true, false, length, max, set, get_or, ap, sym, ◌∙◌, subst, arith, refl, inl, inr, ◌⊎◌, eq-eqb, get_or-set_same, get_or-set_other}
use Rattle.std.specs.Prelude.{nat_eq}
use Rattle.std.proofs.lemmas.Bool.{eqb-true}
use Rattle.std.proofs.lemmas.List.{length-set}
use Rattle.cedr_base.specs.declared.change.Message.{Message}
use Rattle.cedr_base.specs.Messages.{IsLegalBehind, IsLegal, MayCome, mark_of}
use Rattle.change_laws.proofs.Legal.{mark-append, legal_rest}
use Rattle.node_laws.specs.Lists.{Lists, list_at, with_more}
use Rattle.op_driver.specs.Driving.{MayTake}
use Rattle.cedr_plan.specs.declared.plan.PlanNode.{PlanNode}
use Rattle.cedr_plan.specs.Places.{is_source, output_place}
use Rattle.plan_runs.specs.Runs.{lists_at}
use Rattle.cedr_net.specs.declared.work.Work.{Work}
use Rattle.cedr_net.specs.declared.answer.Answer.{Answer}
use Rattle.cedr_net.specs.declared.flow.Flow.{Flow}
use Rattle.cedr_net.specs.Edges.{readers_from, all_wait, ArePorts, IsPulled, sent_on}
use Rattle.cedr_net.specs.Flows.{reads_of, WorksAt, IsWorked, IsSourceAt, Flows, MovesOn, with_taken}
use Rattle.cedr_net.specs.Networks.{IsAnswerOf, FlowStands, IsTurn}
use Rattle.node_laws.proofs.ListLemmas.{at_more_other, at_more}
use Rattle.cedr_net.proofs.EdgeLemmas.{all_sent, readers_are_ports}
use Rattle.cedr_net.proofs.FlowLemmas.{same_or_not, pulled_sized, turned, flows_fed, source_has_none}

-- where nobody reads nothing more waits
no_readers : (waiting : List Lists) (ms : List Message) → all_wait waiting [] ms ≡ waiting
no_readers waiting [] = refl
no_readers waiting (m ∷ ms) = no_readers waiting ms

module _ (nodes : List PlanNode) (old : Flow) (ports : List Lists) (given : Lists) (h : FlowStands nodes old ports given) (place : ℕ) (within : place < length nodes) (port : ℕ) (m : Message) (waiting' : List Lists)
    (pulled : IsPulled (lists_at old.waiting.items place) (lists_at waiting' place) port m) (rest : waiting' ≡ set old.waiting.items place (lists_at waiting' place)) (works' : List Work) (piece : List Message)
    (worked : (n : PlanNode) (lists : Lists) (g : List Message) → is_source n.kind ≡ false → ((d : Work) → WorksAt (get_or old.works.items place d) n lists g) → MayTake lists port m → IsWorked old.works.items works' place n (with_more lists port (m ∷ [])) (g ++ piece)) where
  moves : (waiting'' : List Lists) → waiting'' ≡ sent_on place piece (reads_of nodes) waiting' → MovesOn nodes (reads_of nodes) old.waiting.items waiting'' works' ports given place port m piece
  moves waiting'' sent = turned nodes (reads_of nodes) old.waiting.items waiting' old.works.items ports given place port m h.flows within pulled rest works' piece waiting'' worked sent

  given_in : place < length given
  given_in = omega (arith, h.flows.given_count, within)

  ports_in : place < length ports
  ports_in = omega (arith, h.flows.ports_count, within)

  -- the piece is legal after what the node gave
  pub piece_legal : IsLegalBehind (list_at given place) piece
  piece_legal = legal_rest [] (list_at given place) piece (subst IsLegal (at_more given place piece given_in) ((moves (sent_on place piece (reads_of nodes) waiting') refl).flows.legal place))

  all_sent_on : all_wait waiting' (readers_from place 0 (reads_of nodes)) piece ≡ sent_on place piece (reads_of nodes) waiting'
  all_sent_on = all_sent place (reads_of nodes) waiting' piece (pulled_sized nodes (reads_of nodes) old.waiting.items waiting' old.works.items ports given place port m h.flows within pulled rest)

  module _ (new : Flow) (same_readers : new.readers.items ≡ old.readers.items) (same_works : new.works.items ≡ works') (same_output : new.output ≡ old.output) where
    one_port_still : length (lists_at (with_taken ports place port m) (output_place nodes)) ≡ length (lists_at ports (output_place nodes))
    one_port_still = at (same_or_not (output_place nodes) place) where
      at : (output_place nodes ≡ place) ⊎ (output_place nodes ≢ place) → length (lists_at (with_taken ports place port m) (output_place nodes)) ≡ length (lists_at ports (output_place nodes))
      at (inl e) =
          ap (λ (k : ℕ). length (lists_at (with_taken ports place port m) k)) e
          ∙ (ap (λ (ls : Lists). length ls) (get_or-set_same ports place (with_more (lists_at ports place) port (m ∷ [])) [] ports_in)
          ∙ (length-set (lists_at ports place) port (list_at (lists_at ports place) port ++ m ∷ []) ∙ ap (λ (k : ℕ). length (lists_at ports k)) (sym e)))
      at (inr ne) = ap (λ (ls : Lists). length ls) (get_or-set_other ports place (output_place nodes) (with_more (lists_at ports place) port (m ∷ [])) [] ne)

    turn_is : MovesOn nodes (reads_of nodes) old.waiting.items new.waiting.items works' ports given place port m piece
        → IsAnswerOf new.answer (list_at (with_more given place piece) (output_place nodes))
        → new.reach ≡ mark_of (list_at (lists_at (with_taken ports place port m) (output_place nodes)) 0) → IsTurn nodes old new ports given place piece
    turn_is mo answer reach = record {
      port = port;
      message = m;
      more = mo.more;
      first = mo.first;
      front = mo.front;
      own = mo.own;
      earlier = mo.earlier;
      stands = record {
        flows = subst (λ (ws : List Work). Flows nodes (reads_of nodes) new.waiting.items ws (with_taken ports place port m) (with_more given place piece)) (sym same_works) mo.flows;
        readers_count = ap (λ (rs : List (List (ℕ × ℕ))). length rs) same_readers ∙ h.readers_count;
        readers = λ k inside. ap (λ (rs : List (List (ℕ × ℕ))). get_or rs k []) same_readers ∙ h.readers k inside;
        output = same_output ∙ h.output;
        output_within = h.output_within;
        unread = h.unread;
        one_port = one_port_still ∙ h.one_port;
        answer = answer;
        reach = reach;
      };
    }

    -- a node that isn't the output gave a piece, which waits on the ports that read it
    other_turn : nat_eq place old.output ≡ false → new.waiting.items ≡ all_wait waiting' (get_or old.readers.items place []) piece → new.answer ≡ old.answer → new.reach ≡ old.reach → IsTurn nodes old new ports given place piece
    other_turn different sent same_answer same_reach =
        let apart : output_place nodes ≢ place = λ e. absurd (let k = eq-eqb place old.output (sym e ∙ sym h.output) in cc) in
        turn_is (moves new.waiting.items (sent ∙ (ap (λ (rs : List (ℕ × ℕ)). all_wait waiting' rs piece) (h.readers place within) ∙ all_sent_on)))
        (subst (λ (a : Answer). IsAnswerOf a (list_at (with_more given place piece) (output_place nodes))) (sym same_answer)
        (subst (λ (ms : List Message). IsAnswerOf old.answer ms) (sym (at_more_other given place (output_place nodes) piece apart)) h.answer))
        (same_reach ∙ (h.reach ∙ ap (λ (ls : Lists). mark_of (list_at ls 0)) (sym (get_or-set_other ports place (output_place nodes) (with_more (lists_at ports place) port (m ∷ [])) [] apart))))

    -- the output gave a piece, which is noted
    output_turn : nat_eq place old.output ≡ true → new.waiting.items ≡ waiting' → new.reach ≡ max old.reach (mark_of (m ∷ []))
        → ((g : List Message) → IsAnswerOf old.answer g → IsLegalBehind g piece → IsAnswerOf new.answer (g ++ piece)) → IsTurn nodes old new ports given place piece
    output_turn is kept risen noted =
        let same : output_place nodes ≡ place = sym (eqb-true place old.output is ∙ h.output) in
        let nobody : readers_from place 0 (reads_of nodes) ≡ [] = ap (λ (k : ℕ). readers_from k 0 (reads_of nodes)) (sym same) ∙ h.unread in
        let ls = lists_at ports place in
        let here : lists_at (with_taken ports place port m) (output_place nodes) ≡ with_more (lists_at ports place) port (m ∷ []) =
        ap (λ (k : ℕ). lists_at (with_taken ports place port m) k) same ∙ get_or-set_same ports place (with_more (lists_at ports place) port (m ∷ [])) [] ports_in in
        let one : length (lists_at ports place) ≡ 1 = ap (λ (k : ℕ). length (lists_at ports k)) (sym same) ∙ h.one_port in
        let only : port ≡ 0 = let p = pulled.within in let w = h.flows.widths place in omega arith in
        let first : list_at (with_more (lists_at ports place) port (m ∷ [])) 0 ≡ list_at (lists_at ports place) 0 ++ m ∷ [] =
        ap (λ (k : ℕ). list_at (with_more (lists_at ports place) k (m ∷ [])) 0) only ∙ at_more ls 0 (m ∷ []) (omega arith) in
        let answer_is : IsAnswerOf old.answer (list_at given place) = subst (λ (k : ℕ). IsAnswerOf old.answer (list_at given k)) same h.answer in
        turn_is (moves new.waiting.items (kept ∙ (sym (no_readers waiting' piece) ∙ (ap (λ (rs : List (ℕ × ℕ)). all_wait waiting' rs piece) (sym nobody) ∙ all_sent_on))))
        (subst (λ (ms : List Message). IsAnswerOf new.answer ms) (sym (ap (list_at (with_more given place piece)) same ∙ at_more given place piece given_in)) (noted (list_at given place) answer_is piece_legal))
        (risen ∙ (ap (λ (t : ℕ). max t (mark_of (m ∷ []))) (h.reach ∙ ap (λ (k : ℕ). mark_of (list_at (lists_at ports k) 0)) same)
        ∙ (sym (mark-append (list_at ls 0) (m ∷ [])) ∙ ap mark_of (sym (ap (λ (xs : Lists). list_at xs 0) here ∙ first)))))

    -- whichever it was
    pub turn_done : (nat_eq place old.output ≡ false → (new.waiting.items ≡ all_wait waiting' (get_or old.readers.items place []) piece) × (new.answer ≡ old.answer) × (new.reach ≡ old.reach))
        → (nat_eq place old.output ≡ true → (new.waiting.items ≡ waiting') × (new.reach ≡ max old.reach (mark_of (m ∷ []))) × ((g : List Message) → IsAnswerOf old.answer g → IsLegalBehind g piece → IsAnswerOf new.answer (g ++ piece)))
        → IsTurn nodes old new ports given place piece
    turn_done other noted = at (nat_eq place old.output) refl where
      at : (b : Bool) → nat_eq place old.output ≡ b → IsTurn nodes old new ports given place piece
      at false e = let x = other e in other_turn e x.0 x.1 x.2
      at true e = let x = noted e in output_turn e x.0 x.1 x.2

-- a source isn't the output
source_apart : (nodes : List PlanNode) (flow : Flow) (ports : List Lists) (given : Lists) (place : ℕ) → FlowStands nodes flow ports given → place < length nodes → IsSourceAt nodes place → output_place nodes ≢ place
source_apart nodes flow ports given place h within source = λ e.
    absurd (omega (arith, h.one_port, ap (λ (k : ℕ). length (lists_at ports k)) e, source_has_none nodes (reads_of nodes) flow.waiting.items flow.works.items ports given place h.flows within source))

-- a source was fed
pub flow_fed : (nodes : List PlanNode) (old new : Flow) (ports : List Lists) (given : Lists) (place : ℕ) (m : Message) → (h : FlowStands nodes old ports given) → place < length nodes → IsSourceAt nodes place → MayCome (list_at given place) m
    → new.waiting.items ≡ all_wait old.waiting.items (get_or old.readers.items place []) (m ∷ []) → new.readers.items ≡ old.readers.items → new.works.items ≡ old.works.items → new.output ≡ old.output → new.answer ≡ old.answer → new.reach ≡ old.reach
    → FlowStands nodes new ports (with_more given place (m ∷ []))
flow_fed nodes old new ports given place m h within source may sent same_readers same_works same_output same_answer same_reach =
    let apart = source_apart nodes old ports given place h within source in
    let all : new.waiting.items ≡ sent_on place (m ∷ []) (reads_of nodes) old.waiting.items =
    sent ∙ (ap (λ (rs : List (ℕ × ℕ)). all_wait old.waiting.items rs (m ∷ [])) (h.readers place within) ∙ all_sent place (reads_of nodes) old.waiting.items (m ∷ []) h.flows.sized) in
    record {
      flows = subst (λ (ws : List Lists). Flows nodes (reads_of nodes) ws new.works.items ports (with_more given place (m ∷ []))) (sym all)
          (subst (λ (ws : List Work). Flows nodes (reads_of nodes) (sent_on place (m ∷ []) (reads_of nodes) old.waiting.items) ws ports (with_more given place (m ∷ []))) (sym same_works)
          (flows_fed nodes (reads_of nodes) old.waiting.items old.works.items ports given place m h.flows within source may));
      readers_count = ap (λ (rs : List (List (ℕ × ℕ))). length rs) same_readers ∙ h.readers_count;
      readers = λ k inside. ap (λ (rs : List (List (ℕ × ℕ))). get_or rs k []) same_readers ∙ h.readers k inside;
      output = same_output ∙ h.output;
      output_within = h.output_within;
      unread = h.unread;
      one_port = h.one_port;
      answer = subst (λ (a : Answer). IsAnswerOf a (list_at (with_more given place (m ∷ [])) (output_place nodes))) (sym same_answer)
          (subst (λ (ms : List Message). IsAnswerOf old.answer ms) (sym (at_more_other given place (output_place nodes) (m ∷ []) apart)) h.answer);
      reach = same_reach ∙ h.reach;
    }

-- the ports that read a node are there
pub flow_ports : (nodes : List PlanNode) (flow : Flow) (ports : List Lists) (given : Lists) (place : ℕ) → FlowStands nodes flow ports given → place < length nodes → ArePorts flow.waiting.items (get_or flow.readers.items place [])
flow_ports nodes flow ports given place h within = subst (ArePorts flow.waiting.items) (sym (h.readers place within)) (readers_are_ports place (reads_of nodes) flow.waiting.items h.flows.sized)

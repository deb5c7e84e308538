-- A network that is turned until nothing waits.
use Rattle.std.proofs.Common.{◌≡◌, ◌≢◌, ◌⊎◌, ℕ, zero, suc, ◌+◌, ◌≤◌, ◌<◌, inl, inr, false, List, [], ◌∷◌, ◌++◌, length, set, refl, ap, sym, ◌∙◌, subst, arith, append_assoc, get_or-set_same, get_or-set_other}
use Rattle.std.specs.Prelude.{None}
use Rattle.std.proofs.lemmas.Bool.{cases_lt}
use Rattle.std.proofs.lemmas.List.{append-nil}
use Rattle.std.proofs.lemmas.List.Sums.{sum_by-cons}
use Rattle.cedr_base.specs.declared.change.Message.{Message}
use Rattle.cedr_base.specs.declared.level.Level.{Level}
use Rattle.cedr_table.specs.Operators.{Meaning}
use Rattle.node_laws.specs.Lists.{Lists, list_at, with_more}
use Rattle.node_laws.specs.Lawful.{IsLawful, Step, lists_after, lists_behind, given_by}
use Rattle.op_node.specs.Meanings.{meaning_of, port_levels}
use Rattle.cedr_plan.specs.Places.{is_source}
use Rattle.cedr_plan.specs.declared.plan.PlanNode.{PlanNode}
use Rattle.plan_runs.specs.Runs.{lists_at}
use Rattle.cedr_net.specs.declared.flow.Flow.{Flow}
use Rattle.cedr_net.specs.Edges.{NothingWaits}
use Rattle.cedr_net.specs.Flows.{reads_of, IsSourceAt, waiting_count, with_taken}
use Rattle.cedr_net.specs.Networks.{FlowStands, AllGrow, AllTake, IsAsBefore, IsTurn, IsOnTheWay, IsDrained, IsSettledUpTo}
use Rattle.cedr_net.specs.Settling.{AreInPortOrder, AreUpToPort, AreLawfulBehind, TakesPortByPort}
use Rattle.node_laws.proofs.ListLemmas.{at_more_other, at_more}
use Rattle.cedr_net.proofs.FlowLemmas.{same_or_not, no_source_waits, waits_port, works_lawful}
use Rattle.plan_runs.proofs.PlanNodes.{split}

-- one message fewer waits
pub fewer : (qs : Lists) (port : ℕ) (m : Message) (more : List Message) → list_at qs port ≡ m ∷ more → waiting_count (set qs port more) < waiting_count qs
fewer [] port m more front = absurd (let e = ap (λ (ms : List Message). length ms) front in omega arith)
fewer (q ∷ qs) zero m more front = let e = ap (λ (ms : List Message). length ms) front in omega (arith, e, sum_by-cons (λ (x : List Message). length x) q qs, sum_by-cons (λ (x : List Message). length x) more qs)
fewer (q ∷ qs) (suc port) m more front = omega (arith, fewer qs port m more front, sum_by-cons (λ (x : List Message). length x) q qs, sum_by-cons (λ (x : List Message). length x) q (set qs port more))

-- after a turn of a node fewer messages wait on its ports
pub turn_fewer : (nodes : List PlanNode) (old new : Flow) (ports : List Lists) (given : Lists) (place : ℕ) (piece : List Message) → IsTurn nodes old new ports given place piece → waiting_count (lists_at new.waiting.items place) < waiting_count (lists_at old.waiting.items place)
turn_fewer nodes old new ports given place piece t = omega (arith, ap waiting_count t.own, fewer (lists_at old.waiting.items place) t.port t.message t.more t.front)

-- lists go on from themselves
pub grow_none : (given : Lists) → AllGrow given given
grow_none given = record { grows = λ k. ([], sym (append-nil (list_at given k))) }

-- lists that go on from others that go on from first ones go on from the first ones
pub grow_along : (a b c : Lists) → AllGrow a b → AllGrow b c → AllGrow a c
grow_along a b c h j = record {
  grows = λ k. let x = h.grows k in let y = j.grows k in (x.0 ++ y.0, y.1 ∙ (ap (λ (ms : List Message). ms ++ y.0) x.1 ∙ append_assoc (list_at a k) x.0 y.0));
}

-- lists with more messages go on
pub grow_more : (given : Lists) (place : ℕ) (piece : List Message) → place < length given → AllGrow given (with_more given place piece)
grow_more given place piece within = record { grows = λ k. at k (same_or_not k place) } where
  at : (k : ℕ) → (k ≡ place) ⊎ (k ≢ place) → (more : List Message) × (list_at (with_more given place piece) k ≡ list_at given k ++ more)
  at k (inl e) = (piece, ap (list_at (with_more given place piece)) e ∙ (at_more given place piece within ∙ ap (λ (j : ℕ). list_at given j ++ piece) (sym e)))
  at k (inr ne) = ([], at_more_other given place k piece ne ∙ sym (append-nil (list_at given k)))

-- a turn leaves what the sources gave
pub turn_sources : (nodes : List PlanNode) (old new : Flow) (ports : List Lists) (given : Lists) (place : ℕ) (piece : List Message) → FlowStands nodes old ports given → place < length nodes → IsTurn nodes old new ports given place piece
    → (k : ℕ) → IsSourceAt nodes k → list_at (with_more given place piece) k ≡ list_at given k
turn_sources nodes old new ports given place piece h within t k source = at (same_or_not k place) where
  at : (k ≡ place) ⊎ (k ≢ place) → list_at (with_more given place piece) k ≡ list_at given k
  at (inl e) =
      let s = split nodes place within in
      let is = source s.before s.after s.node s.whole (s.place ∙ sym e) in
      let isnt = no_source_waits nodes (reads_of nodes) old.waiting.items old.works.items ports given place t.port t.message t.more h.flows s.before s.after s.node s.whole s.place (waits_port (lists_at old.waiting.items place) t.port t.message t.more t.front) t.front in
      absurd (let a = is in let b = isnt in cc)
  at (inr ne) = at_more_other given place k piece ne

-- ---- port by port

behind_push : (lists : Lists) (ss : List Step) (s : Step) → lists_behind lists (ss ++ s ∷ []) ≡ lists_after (lists_behind lists ss) s
behind_push lists [] s = refl
behind_push lists (x ∷ ss) s = behind_push (lists_after lists x) ss s

given_push : (ss : List Step) (s : Step) → given_by (ss ++ s ∷ []) ≡ given_by ss ++ s.piece
given_push [] s = append-nil s.piece
given_push (x ∷ ss) s = ap (λ (ms : List Message). x.piece ++ ms) (given_push ss s) ∙ sym (append_assoc x.piece (given_by ss) s.piece)

up_more : (port later : ℕ) (ss : List Step) → AreUpToPort port ss → port ≤ later → AreUpToPort later ss
up_more port later [] up low = tt
up_more port later (x ∷ ss) up low = (omega (arith, up.0, low), up_more port later ss up.1 low)

up_push : (port : ℕ) (ss : List Step) (s : Step) → AreUpToPort port ss → port ≤ s.port → AreUpToPort s.port (ss ++ s ∷ [])
up_push port [] s up low = (omega arith, tt)
up_push port (x ∷ ss) s up low = (omega (arith, up.0, low), up_push port ss s up.1 low)

order_push : (port : ℕ) (ss : List Step) (s : Step) → AreInPortOrder port ss → AreUpToPort s.port ss → port ≤ s.port → AreInPortOrder port (ss ++ s ∷ [])
order_push port [] s order up low = (low, tt)
order_push port (x ∷ ss) s order up low = (order.0, order_push x.port ss s order.1 up.1 up.0)

lawful_push : (meaning : Meaning) (levels : List Level) (lists : Lists) (given : List Message) (ss : List Step) (s : Step) → AreLawfulBehind meaning levels lists given ss
    → IsLawful meaning levels (lists_after (lists_behind lists ss) s) ((given ++ given_by ss) ++ s.piece) → AreLawfulBehind meaning levels lists given (ss ++ s ∷ [])
lawful_push meaning levels lists given [] s are one = (subst (λ (g : List Message). IsLawful meaning levels (lists_after lists s) (g ++ s.piece)) (append-nil given) one, tt)
lawful_push meaning levels lists given (x ∷ ss) s are one = (
  are.0,
  lawful_push meaning levels (lists_after lists x) (given ++ x.piece) ss s are.1
      (subst (λ (g : List Message). IsLawful meaning levels (lists_after (lists_behind (lists_after lists x) ss) s) (g ++ s.piece)) (sym (append_assoc given x.piece (given_by ss))) one),
)

-- one step more, on the last port or a later one
takes_more : (n : PlanNode) (lists lists' : Lists) (given given' : List Message) (s : Step) (port : ℕ) → (t : TakesPortByPort n lists given lists' given') → AreUpToPort port t.steps → port ≤ s.port
    → IsLawful (meaning_of n) (port_levels n) (lists_after lists' s) (given' ++ s.piece) → (now : TakesPortByPort n lists given (lists_after lists' s) (given' ++ s.piece)) × AreUpToPort s.port now.steps
takes_more n lists lists' given given' s port t up low lawful = (
  record {
    steps = t.steps ++ s ∷ [];
    lists_are = behind_push lists t.steps s ∙ ap (λ (ls : Lists). lists_after ls s) t.lists_are;
    given_is = ap (λ (ms : List Message). given ++ ms) (given_push t.steps s) ∙ (sym (append_assoc given (given_by t.steps) s.piece) ∙ ap (λ (ms : List Message). ms ++ s.piece) t.given_is);
    order = order_push 0 t.steps s t.order (up_more port s.port t.steps up low) (omega arith);
    lawful = lawful_push (meaning_of n) (port_levels n) lists given t.steps s t.lawful
        (subst (λ (ls : Lists). IsLawful (meaning_of n) (port_levels n) (lists_after ls s) ((given ++ given_by t.steps) ++ s.piece)) (sym t.lists_are)
        (subst (λ (ms : List Message). IsLawful (meaning_of n) (port_levels n) (lists_after lists' s) (ms ++ s.piece)) (sym t.given_is) lawful));
  },
  up_push port t.steps s up low,
)

-- what a node took and gave is the same by other names
pub takes_as : (n : PlanNode) (a a' b b' : Lists) (g g' h h' : List Message) → a' ≡ a → g' ≡ g → b' ≡ b → h' ≡ h → TakesPortByPort n a g b h → TakesPortByPort n a' g' b' h'
takes_as n a a' b b' g g' h h' a_is g_is b_is h_is t = record {
  steps = t.steps;
  lists_are = ap (λ (ls : Lists). lists_behind ls t.steps) a_is ∙ (t.lists_are ∙ sym b_is);
  given_is = ap (λ (ms : List Message). ms ++ given_by t.steps) g_is ∙ (t.given_is ∙ sym h_is);
  order = t.order;
  lawful = subst (λ (ls : Lists). AreLawfulBehind (meaning_of n) (port_levels n) ls g' t.steps) (sym a_is) (subst (λ (ms : List Message). AreLawfulBehind (meaning_of n) (port_levels n) a ms t.steps) (sym g_is) t.lawful);
}

-- ---- the node at a place

-- the node at a place has taken one message more
module _ (nodes : List PlanNode) (first old new : Flow) (taken : List Lists) (given : Lists) (place : ℕ) (piece : List Message) (within : place < length nodes) (w : IsOnTheWay nodes first old taken given place) (t : IsTurn nodes old new w.ports w.given' place piece) where
  later_port : w.port ≤ t.port
  later_port = elim (cases_lt t.port w.port) [
    | inl h ↦ absurd (let e = ap (λ (ms : List Message). length ms) (sym t.front ∙ w.first t.port h) in omega arith)
    | inr h ↦ h
  ]

  step_now : Step
  step_now = record { port = t.port; message = t.message; piece = piece }

  took_here : (k : ℕ) → k ≡ place → lists_at (with_taken w.ports place t.port t.message) k ≡ with_more (lists_at w.ports k) t.port (t.message ∷ [])
  took_here k here =
      ap (lists_at (with_taken w.ports place t.port t.message)) here
      ∙ (get_or-set_same w.ports place (with_more (lists_at w.ports place) t.port (t.message ∷ [])) [] (omega (arith, w.stands.flows.ports_count, within))
      ∙ ap (λ (j : ℕ). with_more (lists_at w.ports j) t.port (t.message ∷ [])) (sym here))

  gave_here : (k : ℕ) → k ≡ place → list_at (with_more w.given' place piece) k ≡ list_at w.given' k ++ piece
  gave_here k here =
      ap (list_at (with_more w.given' place piece)) here ∙ (at_more w.given' place piece (omega (arith, w.stands.flows.given_count, within)) ∙ ap (λ (j : ℕ). list_at w.given' j ++ piece) (sym here))

  takes_now : (before after : List PlanNode) (n : PlanNode) → nodes ≡ before ++ n ∷ after → is_source n.kind ≡ false → length before ≡ place
      → (now : TakesPortByPort n (lists_at taken (length before)) (list_at given (length before)) (lists_at (with_taken w.ports place t.port t.message) (length before)) (list_at (with_more w.given' place piece) (length before))) × AreUpToPort t.port now.steps
  unfolding step_now
  takes_now before after n whole isnt here =
      let k = length before in
      let old_takes = w.takes before after n whole isnt here in
      let lawful = works_lawful _ n (lists_at (with_taken w.ports place t.port t.message) k) (list_at (with_more w.given' place piece) k) (t.stands.flows.work before after n (record { node = None }) whole) isnt in
      let lawful_so = subst (λ (ls : Lists). IsLawful (meaning_of n) (port_levels n) ls (list_at w.given' k ++ piece)) (took_here k here)
      (subst (λ (ms : List Message). IsLawful (meaning_of n) (port_levels n) (lists_at (with_taken w.ports place t.port t.message) k) ms) (gave_here k here) lawful) in
      let more = takes_more n (lists_at taken k) (lists_at w.ports k) (list_at given k) (list_at w.given' k) step_now w.port old_takes.0 old_takes.1 later_port lawful_so in
      subst (λ (ls : Lists). (now : TakesPortByPort n (lists_at taken k) (list_at given k) ls (list_at (with_more w.given' place piece) k)) × AreUpToPort t.port now.steps) (sym (took_here k here))
      (subst (λ (ms : List Message). (now : TakesPortByPort n (lists_at taken k) (list_at given k) (with_more (lists_at w.ports k) t.port (t.message ∷ [])) ms) × AreUpToPort t.port now.steps) (sym (gave_here k here)) more)

  first_now : (k : ℕ) → k < t.port → list_at (lists_at new.waiting.items place) k ≡ []
  first_now k before = ap (λ (qs : Lists). list_at qs k) t.own ∙ (get_or-set_other (lists_at old.waiting.items place) t.port k t.more [] (λ e. absurd (omega arith)) ∙ t.first k before)

  others_now : (k : ℕ) → k ≢ place → IsAsBefore taken (with_taken w.ports place t.port t.message) given (with_more w.given' place piece) k
  others_now k ne = record {
    taken = get_or-set_other w.ports place k (with_more (lists_at w.ports place) t.port (t.message ∷ [])) [] ne ∙ (w.others k ne).taken;
    gave = at_more_other w.given' place k piece ne ∙ (w.others k ne).gave;
  }

  pub way_on : IsOnTheWay nodes first new taken given place
  way_on = record {
    ports = with_taken w.ports place t.port t.message;
    given' = with_more w.given' place piece;
    stands = t.stands;
    sources = λ k source. turn_sources nodes old new w.ports w.given' place piece w.stands within t k source ∙ w.sources k source;
    grow = grow_along given w.given' (with_more w.given' place piece) w.grow (grow_more w.given' place piece (omega (arith, w.stands.flows.given_count, within)));
    earlier = λ k before. t.earlier k before ∙ w.earlier k before;
    others = others_now;
    port = t.port;
    first = first_now;
    takes = takes_now;
  }

-- a network that took no turn is on its way
pub way_first : (nodes : List PlanNode) (flow : Flow) (ports : List Lists) (given : Lists) (place : ℕ) → FlowStands nodes flow ports given → IsOnTheWay nodes flow flow ports given place
way_first nodes flow ports given place h = record {
  ports = ports;
  given' = given;
  stands = h;
  sources = λ k source. refl;
  grow = grow_none given;
  earlier = λ k before. refl;
  others = λ k ne. record { taken = refl; gave = refl };
  port = 0;
  first = λ k before. absurd (omega arith);
  takes = λ before after n whole isnt here. (record { steps = []; lists_are = refl; given_is = append-nil (list_at given (length before)); order = tt; lawful = tt }, tt);
}

-- nothing waited any more
pub drained : (nodes : List PlanNode) (first old new : Flow) (taken : List Lists) (given : Lists) (place : ℕ) → (w : IsOnTheWay nodes first old taken given place) → FlowStands nodes new w.ports w.given' → new.waiting.items ≡ old.waiting.items → NothingWaits (lists_at old.waiting.items place) → IsDrained nodes first new taken given place
drained nodes first old new taken given place w stands same none = record {
  way = record {
    ports = w.ports;
    given' = w.given';
    stands = stands;
    sources = w.sources;
    grow = w.grow;
    earlier = λ k before. ap (λ (ws : List Lists). lists_at ws k) same ∙ w.earlier k before;
    others = w.others;
    port = w.port;
    first = λ k before. ap (λ (ws : List Lists). list_at (lists_at ws place) k) same ∙ w.first k before;
    takes = w.takes;
  };
  empty = subst (λ (ws : List Lists). NothingWaits (lists_at ws place)) (sym same) none;
}

-- a network that took no turn is settled at the first 0 places
pub settled_first : (nodes : List PlanNode) (flow : Flow) (ports : List Lists) (given : Lists) → FlowStands nodes flow ports given → IsSettledUpTo nodes flow ports given 0
settled_first nodes flow ports given h = record {
  ports = ports;
  given' = given;
  stands = h;
  sources = λ k source. refl;
  grow = grow_none given;
  empty = λ k within. absurd (omega arith);
  others = λ k within. record { taken = refl; gave = refl };
  takes = λ before after n whole isnt within. absurd (omega arith);
}

-- one place more is drained
module _ (nodes : List PlanNode) (old new : Flow) (taken : List Lists) (given : Lists) (place : ℕ) (u : IsSettledUpTo nodes old taken given place) (d : IsDrained nodes old new u.ports u.given' place) where
  took_by_now : AllTake nodes (λ k. k < place + 1) taken given d.way.ports d.way.given'
  took_by_now before after n whole isnt within = elim (cases_lt (length before) place) [
    | inl h ↦
        let k = length before in
        let same = d.way.others k (λ e. absurd (omega arith)) in
        takes_as n (lists_at taken k) (lists_at taken k) (lists_at u.ports k) (lists_at d.way.ports k) (list_at given k) (list_at given k) (list_at u.given' k) (list_at d.way.given' k) refl refl same.taken same.gave (u.takes before after n whole isnt h)
    | inr h ↦
        let k = length before in
        let here : k ≡ place = omega arith in
        let same = u.others k (omega arith) in
        takes_as n (lists_at u.ports k) (lists_at taken k) (lists_at d.way.ports k) (lists_at d.way.ports k) (list_at u.given' k) (list_at given k) (list_at d.way.given' k) (list_at d.way.given' k) (sym same.taken) (sym same.gave) refl refl (d.way.takes before after n whole isnt here).0
  ]

  rest_by_now : (k : ℕ) → place + 1 ≤ k → IsAsBefore taken d.way.ports given d.way.given' k
  rest_by_now k later =
      let apart = d.way.others k (λ e. absurd (omega arith)) in
      let same = u.others k (omega arith) in
      record { taken = apart.taken ∙ same.taken; gave = apart.gave ∙ same.gave }

  pub settled_on : IsSettledUpTo nodes new taken given (place + 1)
  settled_on = record {
    ports = d.way.ports;
    given' = d.way.given';
    stands = d.way.stands;
    sources = λ k source. d.way.sources k source ∙ u.sources k source;
    grow = grow_along given u.given' d.way.given' u.grow d.way.grow;
    empty = λ k within. elim (cases_lt k place) [
      | inl h ↦ subst NothingWaits (sym (d.way.earlier k h)) (u.empty k h)
      | inr h ↦ subst (λ (j : ℕ). NothingWaits (lists_at new.waiting.items j)) (let e : place ≡ k = omega arith in e) d.empty
    ];
    others = rest_by_now;
    takes = took_by_now;
  }

-- The sources of a plan come to their states, one after the other.
use Rattle.std.proofs.Common.{◌≡◌, ℕ, zero, suc, ◌+◌, ◌<◌, inl, inr, List, [], ◌∷◌, ◌++◌, Bool, true, false, cond, length, get_or, set, take, refl, ap, sym, ◌∙◌, subst, arith, get_or-set_same, get_or-set_other}
use Rattle.std.proofs.lemmas.Bool.{cases_lt}
use Rattle.std.proofs.lemmas.List.{take_more, get_or-map, length-map, length-set, ext_get_or}
use Rattle.std.proofs.lemmas.List.Sums.{sum_by-cons, sum_by-append}
use Rattle.cedr_base.specs.declared.change.Message.{Message}
use Rattle.cedr_guard.specs.Messages.{messages_behind}
use Rattle.cedr_guard.specs.Spelt.{State, state_in, lines_of, IsFit}
use Rattle.cedr_guard.specs.declared.state.SourceState.{SourceState}
use Rattle.cedr_net.specs.Flows.{IsSourceAt}
use Rattle.cedr_net.proofs.PlaceLemmas.{source_here}
use Rattle.cedr_plan.specs.declared.plan.PlanNode.{PlanNode}
use Rattle.cedr_plan.specs.Places.{is_source, source_count}
use Rattle.cedr_plan.proofs.PlaceLemmas.{counted, sources_before}
use Rattle.cedr_text.specs.declared.event_line.EventLine.{EventLine}
use Rattle.plan_live.specs.Scripts.{Accepted, lines_at, no_lines}
use Rattle.plan_live.specs.Resumed.{lines_from, states_in, AreStates}
use Rattle.plan_live.specs.Restoring.{IsRestoredTo}
use Rattle.plan_live.proofs.GuardLemmas.{no_line, no_lines_count}

-- ---- the lines of states, at their places

-- as many nodes as there are have lines of states
pub from_count : (nodes : List PlanNode) (states : List State) → length (lines_from nodes states) ≡ length nodes
from_count [] states = refl
from_count (n ∷ nodes) [] = omega (arith, from_count nodes [])
from_count (n ∷ nodes) (s ∷ states) = count_at (is_source n.kind) s (lines_from nodes states) (lines_from nodes (s ∷ states)) (length nodes) (from_count nodes states) (from_count nodes (s ∷ states)) where
  count_at : (b : Bool) (s : State) (taken left : Accepted) (count : ℕ) → length taken ≡ count → length left ≡ count → length (cond b (lines_of s ∷ taken) ([] ∷ left)) ≡ suc count
  count_at true s taken left count mine other = omega (arith, mine)
  count_at false s taken left count mine other = omega (arith, other)

later_source : (b : Bool) (n : PlanNode) (nodes : List PlanNode) (t s : State) (states : List State) (k : ℕ) → is_source n.kind ≡ b
    → (source_count (take k nodes) < length states → lines_at (lines_from nodes states) k ≡ lines_of (get_or states (source_count (take k nodes)) s))
    → (source_count (take k nodes) < length (t ∷ states) → lines_at (lines_from nodes (t ∷ states)) k ≡ lines_of (get_or (t ∷ states) (source_count (take k nodes)) s))
    → source_count (n ∷ take k nodes) < length (t ∷ states)
    → lines_at (cond b (lines_of t ∷ lines_from nodes states) ([] ∷ lines_from nodes (t ∷ states))) (suc k) ≡ lines_of (get_or (t ∷ states) (source_count (n ∷ take k nodes)) s)
later_source true n nodes t s states k is taken left within =
    let one : counted n ≡ 1 = ap {B = ℕ} (λ b. cond b 1 0) is in
    let more : source_count (n ∷ take k nodes) ≡ suc (source_count (take k nodes)) = omega (arith, one, sum_by-cons counted n (take k nodes)) in
    taken (omega (arith, within, more)) ∙ ap (λ (j : ℕ). lines_of (get_or (t ∷ states) j s)) (sym more)
later_source false n nodes t s states k isnt taken left within =
    let none : counted n ≡ 0 = ap {B = ℕ} (λ b. cond b 1 0) isnt in
    let same : source_count (n ∷ take k nodes) ≡ source_count (take k nodes) = omega (arith, none, sum_by-cons counted n (take k nodes)) in
    left (omega (arith, within, same)) ∙ ap (λ (j : ℕ). lines_of (get_or (t ∷ states) j s)) (sym same)

-- a source has those of the state of its number
pub from_source : (nodes : List PlanNode) (states : List State) (k : ℕ) (d : PlanNode) (s : State) → k < length nodes → is_source (get_or nodes k d).kind ≡ true → source_count (take k nodes) < length states
    → lines_at (lines_from nodes states) k ≡ lines_of (get_or states (source_count (take k nodes)) s)
from_source [] states k d s within is some = absurd (omega arith)
from_source (n ∷ nodes) [] k d s within is some = absurd (omega arith)
from_source (n ∷ nodes) (t ∷ states) zero d s within is some = ap (λ (b : Bool). lines_at (cond b (lines_of t ∷ lines_from nodes states) ([] ∷ lines_from nodes (t ∷ states))) 0) is
from_source (n ∷ nodes) (t ∷ states) (suc k) d s within is some =
    later_source (is_source n.kind) n nodes t s states k refl (from_source nodes states k d s (omega arith) is) (from_source nodes (t ∷ states) k d s (omega arith) is) some

later_other : (b : Bool) (t : State) (taken left : Accepted) (k : ℕ) → lines_at taken k ≡ [] → lines_at left k ≡ [] → lines_at (cond b (lines_of t ∷ taken) ([] ∷ left)) (suc k) ≡ []
later_other true t taken left k mine other = mine
later_other false t taken left k mine other = other

-- and any other node has none
pub from_other : (nodes : List PlanNode) (states : List State) (k : ℕ) (d : PlanNode) → k < length nodes → is_source (get_or nodes k d).kind ≡ false → lines_at (lines_from nodes states) k ≡ []
from_other [] states k d within isnt = absurd (omega arith)
from_other (n ∷ nodes) [] zero d within isnt = refl
from_other (n ∷ nodes) [] (suc k) d within isnt = from_other nodes [] k d (omega arith) isnt
from_other (n ∷ nodes) (t ∷ states) zero d within isnt = ap (λ (b : Bool). lines_at (cond b (lines_of t ∷ lines_from nodes states) ([] ∷ lines_from nodes (t ∷ states))) 0) isnt
from_other (n ∷ nodes) (t ∷ states) (suc k) d within isnt =
    later_other (is_source n.kind) t (lines_from nodes states) (lines_from nodes (t ∷ states)) k (from_other nodes states k d (omega arith) isnt) (from_other nodes (t ∷ states) k d (omega arith) isnt)

-- ---- one node after the other

-- at first no source has come to its state
pub none_restored : (nodes : List PlanNode) (states : List State) → IsRestoredTo nodes states 0 (no_lines nodes)
none_restored nodes states = record { done = λ k below. absurd (omega arith); left = λ k above. no_line nodes k }

-- a source comes to its state
pub source_restored : (nodes : List PlanNode) (states : List State) (place : ℕ) (before : Accepted) (lines : List EventLine) → length before ≡ length nodes → place < length nodes → lines_at (lines_from nodes states) place ≡ lines → IsRestoredTo nodes states place before
    → IsRestoredTo nodes states (place + 1) (set before place lines)
source_restored nodes states place before lines count within is r = record {
  done = λ k below. elim (cases_lt k place) [
    | inl earlier ↦ get_or-set_other before place k lines [] (omega arith) ∙ r.done k earlier
    | inr here ↦
        let same : k ≡ place = omega arith in
        subst (λ (j : ℕ). lines_at (set before place lines) j ≡ lines_at (lines_from nodes states) j) (sym same) (get_or-set_same before place lines [] (omega (arith, count, within)) ∙ sym is)
  ];
  left = λ k above. get_or-set_other before place k lines [] (omega arith) ∙ r.left k (omega arith);
}

-- any other node has none to come to
pub other_restored : (nodes : List PlanNode) (states : List State) (place : ℕ) (before : Accepted) → lines_at (lines_from nodes states) place ≡ [] → IsRestoredTo nodes states place before → IsRestoredTo nodes states (place + 1) before
other_restored nodes states place before none r = record {
  done = λ k below. elim (cases_lt k place) [
    | inl earlier ↦ r.done k earlier
    | inr here ↦
        let same : k ≡ place = omega arith in
        subst (λ (j : ℕ). lines_at before j ≡ lines_at (lines_from nodes states) j) (sym same) (r.left place (omega arith) ∙ sym none)
  ];
  left = λ k above. r.left k (omega arith);
}

-- once all have, the accepted lines are those of the states
pub all_restored : (nodes : List PlanNode) (states : List State) (before : Accepted) → length before ≡ length nodes → IsRestoredTo nodes states (length nodes) before → before ≡ lines_from nodes states
all_restored nodes states before count r = ext_get_or [] before (lines_from nodes states) (count ∙ sym (from_count nodes states)) (λ k within. r.done k (omega (arith, count, within)))

-- ---- the loop

-- the messages of a source's first lines
pub first_messages : (before lines : List EventLine) (ms : List Message) → before ≡ [] → ms ≡ messages_behind [] lines → messages_behind [] lines ≡ messages_behind [] before ++ ms
first_messages before lines ms none are = sym are ∙ ap (λ (ls : List EventLine). messages_behind [] ls ++ ms) (sym none)

-- the sources before a place have come to their states, and this is the number of the next one
pub record IsOnTheWayTo (nodes : List PlanNode) (states : List State) (place number : ℕ) (stands_for : Accepted → Type 0) : Type 0 where
  pub before : Accepted
  pub stands : stands_for before
  pub count : length before ≡ length nodes
  pub restored : IsRestoredTo nodes states place before
  pub number_is : number ≡ source_count (take place nodes)

-- where no line was accepted, it is at the first place
pub begun : (nodes : List PlanNode) (states : List State) (stands_for : Accepted → Type 0) → stands_for (no_lines nodes) → IsOnTheWayTo nodes states 0 0 stands_for
begun nodes states stands_for stands = record { before = no_lines nodes; stands = stands; count = no_lines_count nodes; restored = none_restored nodes states; number_is = refl }

count_more : (nodes : List PlanNode) (i : ℕ) (n : PlanNode) (b : Bool) → i < length nodes → n ≡ get_or nodes i n → is_source n.kind ≡ b → source_count (take (i + 1) nodes) ≡ source_count (take i nodes) + cond b 1 0
count_more nodes i n b within at is =
    let one : counted n ≡ cond b 1 0 = ap {B = ℕ} (λ c. cond c 1 0) is in
    ap source_count (take_more nodes i n within ∙ ap (λ (m : PlanNode). take i nodes ++ m ∷ []) (sym at)) ∙ omega (arith, one, sum_by-append counted (take i nodes) (n ∷ []), sum_by-cons counted n [])

module _ (nodes : List PlanNode) (states : List SourceState) (are : AreStates nodes states) (place number : ℕ) (old : Accepted → Type 0) (w : IsOnTheWayTo nodes (states_in states) place number old) (n : PlanNode) (within : place < length nodes) (at : n ≡ get_or nodes place n) where
  node_kind : (b : Bool) → is_source n.kind ≡ b → is_source (get_or nodes place n).kind ≡ b
  node_kind b is = ap (λ (m : PlanNode). is_source m.kind) (sym at) ∙ is

  -- for a source there is a state
  pub state_within : is_source n.kind ≡ true → number < length states
  state_within is = let low = sources_before nodes place n within (node_kind true is) in omega (arith, low, w.number_is, are.count)

  -- which is fit
  pub state_fit : (s : SourceState) → number < length states → s ≡ get_or states number s → IsFit (state_in s)
  state_fit s some here = subst (λ (t : SourceState). IsFit (state_in t)) (sym here) (are.fit number s some)

  pub source_at : is_source n.kind ≡ true → IsSourceAt nodes place
  source_at is = source_here nodes place n within (sym at) is

  own_lines : (s : SourceState) → is_source n.kind ≡ true → s ≡ get_or states number s → lines_at (lines_from nodes (states_in states)) place ≡ lines_of (state_in s)
  own_lines s is here =
      let some = state_within is in
      from_source nodes (states_in states) place n (state_in s) within (node_kind true is) (omega (arith, some, w.number_is, length-map states state_in))
      ∙ (ap (λ (k : ℕ). lines_of (get_or (states_in states) k (state_in s))) (sym w.number_is)
      ∙ (ap lines_of (get_or-map state_in states number s (state_in s) some) ∙ ap (λ (t : SourceState). lines_of (state_in t)) (sym here)))

  -- it has come to it
  pub with_source : (s : SourceState) (new : Accepted → Type 0) → is_source n.kind ≡ true → s ≡ get_or states number s → new (set w.before place (lines_of (state_in s))) → IsOnTheWayTo nodes (states_in states) (place + 1) (number + 1) new
  with_source s new is here stands = record {
    before = set w.before place (lines_of (state_in s));
    stands = stands;
    count = length-set w.before place (lines_of (state_in s)) ∙ w.count;
    restored = source_restored nodes (states_in states) place w.before (lines_of (state_in s)) w.count within (own_lines s is here) w.restored;
    number_is = let more = count_more nodes place n true within at is in omega (arith, more, w.number_is);
  }

  -- any other node is passed over
  pub with_other : is_source n.kind ≡ false → IsOnTheWayTo nodes (states_in states) (place + 1) number old
  with_other isnt = record {
    before = w.before;
    stands = w.stands;
    count = w.count;
    restored = other_restored nodes (states_in states) place w.before (from_other nodes (states_in states) place n within (node_kind false isnt)) w.restored;
    number_is = let same = count_more nodes place n false within at isnt in omega (arith, same, w.number_is);
  }

-- behind the last node all sources have come to their states
pub ended_way : (nodes : List PlanNode) (states : List State) (place number : ℕ) (stands_for : Accepted → Type 0) → place ≡ length nodes → IsOnTheWayTo nodes states place number stands_for → stands_for (lines_from nodes states)
ended_way nodes states place number stands_for end w = subst stands_for (all_restored nodes states w.before w.count (subst (λ (k : ℕ). IsRestoredTo nodes states k w.before) end w.restored)) w.stands

-- Which bytes a line that may come next begins with.
use Rattle.std.proofs.Common.{◌≡◌, ℕ, ◌<◌, ◌≤◌, inl, inr, List, [], ◌∷◌, ◌++◌, map, drop, arith, Bool, true, false, None, Some, refl, ap, sym, ◌∙◌, subst, append_assoc, append-nil}
use Rattle.std.specs.Prelude.{MatchBool, AllPairs, nat_eq, Result, Ok, Err, IfOk}
use Rattle.std.specs.List.{starts_with}
use Rattle.std.proofs.lemmas.List.{map-append}
use Rattle.std.proofs.lemmas.List.Elements.{All-push}
use Rattle.cedr_guard.specs.declared.state.EventState.{EventState}
use Rattle.cedr_guard.specs.Spelt.{State, HasBare}
use Rattle.cedr_text.specs.Shapes.{ShapeHasTypes}
use Rattle.cedr_plan.specs.declared.plan.PlanNode.{PlanNode}
use Rattle.cedr_save.specs.declared.states.Spot.{Spot}
use Rattle.cedr_save.specs.declared.states.Spot.TheVariants.{Begun, InSource}
use Rattle.cedr_save.specs.declared.states.StateReader.{StateReader}
use Rattle.cedr_save.specs.Checkpoints.{Source, plan_sources, event_line, source_line, states_lines, head_line, end_line, checkpoint_lines}
use Rattle.cedr_save.specs.Lines.{ComesNext, IsFront, AreLower, ids_of, IsEventLine, IsNextLine, EventOfFront}
use Rattle.cedr_save.specs.Reading.{open_state, read_states, other_sources, HasNoSource, IsInSource, IsEnded, StandsAtSpot, Stands}
use Rattle.cedr_save.proofs.GoOnLemmas.{saved-append, states-append, CanReach, reach_begun, reach_in_source, reach_ended, reach_next}
use Rattle.cedr_save.proofs.StandLemmas.{IsClosed, empty_fit, saved_more, comes_in_source, comes_begun, comes_head, comes_ended}
use Rattle.cedr_save.proofs.SourceFronts.{starts_is, is_starts}

-- ---- lines that may come next

-- the lines of sources with that of the one that is read
closed_of : (reader : StateReader) (nodes : List PlanNode) (before : List (List ℕ)) → IsInSource reader nodes before → IsClosed (read_states reader ++ open_state reader ∷ []) (other_sources reader nodes) nodes before
closed_of reader nodes before stands = record {
  front = stands.front ++ stands.source ∷ [];
  sources = stands.sources ∙ sym (append_assoc stands.front (stands.source ∷ []) (other_sources reader nodes));
  saved = saved-append stands.front (stands.source ∷ []) (read_states reader) (open_state reader ∷ []) stands.saved (stands.open_saved, tt);
  bare = All-push HasBare (read_states reader) (open_state reader) stands.bare stands.open_bare;
  lines = stands.lines
      ∙ ap (λ (ls : List (List ℕ)). head_line ∷ ls)
      (ap (λ (ls : List (List ℕ)). states_lines stands.front (read_states reader) ++ (source_line stands.source.name reader.mark ∷ ls)) (sym (append-nil (map event_line reader.events.items)))
      ∙ sym (states-append stands.front (stands.source ∷ []) (read_states reader) (open_state reader ∷ []) stands.saved));
}

next_at : (left : List Source) (states : List State) (nodes : List PlanNode) (before : List (List ℕ)) (line : List ℕ) → IsClosed states left nodes before → IsNextLine left line → ComesNext (plan_sources nodes) before line
next_at [] states nodes before line closed is =
    let all : plan_sources nodes ≡ closed.front = closed.sources ∙ append-nil closed.front in
    let lines : before ++ line ∷ [] ≡ checkpoint_lines closed.front states = ap (λ (ls : List (List ℕ)). ls ++ line ∷ []) closed.lines ∙ ap (λ (l : List ℕ). head_line ∷ (states_lines closed.front states ++ l ∷ [])) is in
    reach_next (plan_sources nodes) before line (subst (λ (ss : List Source). CanReach ss (before ++ line ∷ [])) (sym all) (subst (CanReach closed.front) (sym lines) (reach_ended closed.front states closed.saved)))
next_at (source ∷ left) states nodes before line closed is =
    let lines : before ++ line ∷ [] ≡ head_line ∷ (states_lines closed.front states ++ (source_line source.name is.0 ∷ [])) =
    ap (λ (ls : List (List ℕ)). ls ++ line ∷ []) closed.lines ∙ ap (λ (l : List ℕ). head_line ∷ (states_lines closed.front states ++ l ∷ [])) is.2 in
    reach_next (plan_sources nodes) before line (subst (λ (ss : List Source). CanReach ss (before ++ line ∷ [])) (sym closed.sources)
    (subst (CanReach (closed.front ++ source ∷ left)) (sym lines) (reach_in_source closed.front source left states (record { mark = is.0; events = [] }) closed.saved (empty_fit source is.0 is.1))))

event_comes : (reader : StateReader) (nodes : List PlanNode) (before : List (List ℕ)) (line : List ℕ) (stands : IsInSource reader nodes before) → IsEventLine stands.source (ids_of reader.events.items) line → ComesNext (plan_sources nodes) before line
event_comes reader nodes before line stands is =
    let events = reader.events.items ++ is.event ∷ [] in
    let saved = saved_more stands.source reader.mark reader.events.items is.event stands.open_saved is.saved is.above in
    let lines : before ++ line ∷ [] ≡ head_line ∷ (states_lines stands.front (read_states reader) ++ (source_line stands.source.name reader.mark ∷ map event_line (reader.events.items ++ is.event ∷ []))) =
    ap (λ (ls : List (List ℕ)). ls ++ line ∷ []) stands.lines
    ∙ (ap (λ (ls : List (List ℕ)). head_line ∷ ls) (append_assoc (states_lines stands.front (read_states reader)) (source_line stands.source.name reader.mark ∷ map event_line reader.events.items) (line ∷ []))
    ∙ (ap (λ (l : List ℕ). head_line ∷ (states_lines stands.front (read_states reader) ++ (source_line stands.source.name reader.mark ∷ (map event_line reader.events.items ++ l ∷ [])))) is.is
    ∙ ap (λ (ls : List (List ℕ)). head_line ∷ (states_lines stands.front (read_states reader) ++ (source_line stands.source.name reader.mark ∷ ls))) (sym (map-append event_line reader.events.items (is.event ∷ []))))) in
    reach_next (plan_sources nodes) before line (subst (λ (ss : List Source). CanReach ss (before ++ line ∷ [])) (sym stands.sources)
    (subst (CanReach (stands.front ++ stands.source ∷ other_sources reader nodes)) (sym lines)
    (reach_in_source stands.front stands.source (other_sources reader nodes) (read_states reader) (record { mark = reader.mark; events = reader.events.items ++ is.event ∷ [] }) stands.saved saved)))

-- ---- what bytes they begin with

not_both : (b : Bool) → b ≡ true → b ≡ false → ⊥
not_both b one other = let e = sym one ∙ other in cc

front_word : (word front : List ℕ) (b : Bool) → starts_with nat_eq word front ≡ b → MatchBool b ((rest : List ℕ) × (word ≡ front ++ rest)) ((rest : List ℕ) → front ++ rest ≡ word → ⊥)
front_word word front true is = starts_is word front is
front_word word front false is = λ rest h. not_both (starts_with nat_eq word front) (ap (λ (bs : List ℕ). starts_with nat_eq bs front) (sym h) ∙ is_starts front rest) is

-- at first
may_head_at : (nodes : List PlanNode) (before : List (List ℕ)) (front : List ℕ) (b : Bool) → starts_with nat_eq head_line front ≡ b → before ≡ [] → MatchBool b (IsFront (plan_sources nodes) before front) (IsFront (plan_sources nodes) before front → ⊥)
may_head_at nodes before front true is none =
    let r = starts_is head_line front is in
    let reach : CanReach (plan_sources nodes) (before ++ (front ++ r.0) ∷ []) =
    subst (λ (l : List ℕ). CanReach (plan_sources nodes) (before ++ l ∷ [])) r.1 (subst (λ (ls : List (List ℕ)). CanReach (plan_sources nodes) (ls ++ head_line ∷ [])) (sym none) (reach_begun (plan_sources nodes))) in
    record { rest = r.0; follows = reach_next (plan_sources nodes) before (front ++ r.0) reach }
may_head_at nodes before front false is none = λ f. front_word head_line front false is f.rest (comes_head nodes before (front ++ f.rest) none f.follows)

pub may_head : (nodes : List PlanNode) (before : List (List ℕ)) (front : List ℕ) → before ≡ [] → MatchBool (starts_with nat_eq head_line front) (IsFront (plan_sources nodes) before front) (IsFront (plan_sources nodes) before front → ⊥)
may_head nodes before front none = may_head_at nodes before front (starts_with nat_eq head_line front) refl none

-- what the reader answers of the next line
abbrev pub MayNext : Bool → List Source → List ℕ → Type 0
MayNext b left front = MatchBool b ((rest : List ℕ) × IsNextLine left (front ++ rest)) ((rest : List ℕ) → IsNextLine left (front ++ rest) → ⊥)

-- behind the first line
pub may_begun : (b : Bool) (reader : StateReader) (nodes : List PlanNode) (before : List (List ℕ)) (front : List ℕ) → (before ≡ head_line ∷ []) × HasNoSource reader nodes → MayNext b (other_sources reader nodes) front
    → MatchBool b (IsFront (plan_sources nodes) before front) (IsFront (plan_sources nodes) before front → ⊥)
may_begun true reader nodes before front stands may =
    let closed : IsClosed [] (other_sources reader nodes) nodes before = record { front = []; sources = ap (λ (n : ℕ). plan_sources (drop n nodes)) (sym stands.1.next); saved = tt; bare = λ k d within. absurd (omega arith); lines = stands.0 } in
    record { rest = may.0; follows = next_at (other_sources reader nodes) [] nodes before (front ++ may.0) closed may.1 }
may_begun false reader nodes before front stands never = λ f. never f.rest (comes_begun reader nodes before (front ++ f.rest) stands f.follows)

-- what the reader answers of an event's line
abbrev pub MayEvent : Bool → Source → List ℕ → List ℕ → Type 0
MayEvent b source ids front = MatchBool b ((rest : List ℕ) × IsEventLine source ids (front ++ rest)) ((rest : List ℕ) → IsEventLine source ids (front ++ rest) → ⊥)

-- in a source an event may come
pub may_event : (reader : StateReader) (nodes : List PlanNode) (before : List (List ℕ)) (front : List ℕ) (stands : IsInSource reader nodes before) → MayEvent true stands.source (ids_of reader.events.items) front → IsFront (plan_sources nodes) before front
may_event reader nodes before front stands may = record { rest = may.0; follows = event_comes reader nodes before (front ++ may.0) stands may.1 }

-- or the next line
pub may_other : (b : Bool) (reader : StateReader) (nodes : List PlanNode) (before : List (List ℕ)) (front : List ℕ) (stands : IsInSource reader nodes before) → MayEvent false stands.source (ids_of reader.events.items) front → MayNext b (other_sources reader nodes) front
    → MatchBool b (IsFront (plan_sources nodes) before front) (IsFront (plan_sources nodes) before front → ⊥)
may_other true reader nodes before front stands never may =
    record { rest = may.0; follows = next_at (other_sources reader nodes) (read_states reader ++ open_state reader ∷ []) nodes before (front ++ may.0) (closed_of reader nodes before stands) may.1 }
may_other false reader nodes before front stands never none = λ f. elim (comes_in_source reader nodes before (front ++ f.rest) stands f.follows) [
  | inl event ↦ never f.rest event
  | inr next ↦ none f.rest next
]

pub may_ended : (reader : StateReader) (nodes : List PlanNode) (before : List (List ℕ)) (front : List ℕ) → IsEnded reader nodes before → IsFront (plan_sources nodes) before front → ⊥
may_ended reader nodes before front stands f = comes_ended reader nodes before (front ++ f.rest) stands f.follows

-- ---- what an event of a front says

lower_more : (low high : ℕ) (ids : List ℕ) → low ≤ high → AreLower low ids → AreLower high ids
lower_more low high [] more are = tt
lower_more low high (id ∷ ids) more are = let first = are.0 in (omega arith, lower_more low high ids more are.1)

pub event_may : (b : Bool) (source : Source) (ids front : List ℕ) (e : EventState) → EventOfFront (Some e) source.types front → MatchBool b (AreLower e.id ids) (AreLower e.id ids → ⊥) → MayEvent b source ids front
event_may true source ids front e is low = (is.1.0, record { event = e; saved = is.0; above = low; is = is.1.1 })
event_may false source ids front e is high = λ rest other. high (lower_more other.event.id e.id ids (is.2 other.event rest other.saved other.is) other.above)

pub event_never : (source : Source) (ids front : List ℕ) → EventOfFront None source.types front → MayEvent false source ids front
event_never source ids front none = λ rest is. none is.event rest is.saved is.is

-- ---- what the reader answers

end_may_at : (b : Bool) (front : List ℕ) → starts_with nat_eq end_line front ≡ b → MayNext b [] front
end_may_at true front is = let r = starts_is end_line front is in (r.0, sym r.1)
end_may_at false front is = λ rest h. front_word end_line front false is rest h

-- of the last line, where no source is left
pub end_may : (b : Bool) (left : List Source) (front : List ℕ) → left ≡ [] → b ≡ starts_with nat_eq end_line front → MayNext b left front
end_may b left front none is = subst (λ (ss : List Source). MayNext b ss front) (sym none) (subst (λ (t : Bool). MayNext t [] front) (sym is) (end_may_at (starts_with nat_eq end_line front) front refl))

abbrev pub MayBegin : StateReader → List PlanNode → List ℕ → Bool → Type 0
MayBegin reader nodes front may = (before : List (List ℕ)) → Stands reader nodes before → MatchBool may (IsFront (plan_sources nodes) before front) (IsFront (plan_sources nodes) before front → ⊥)

-- behind the first line
pub begun_front : {E : Type 0} (result : Result Bool E) (reader : StateReader) (nodes : List PlanNode) (front : List ℕ) → reader.spot ≡ Begun → IfOk result (λ may. MayNext may (other_sources reader nodes) front) → IfOk result (λ may. MayBegin reader nodes front may)
begun_front (Ok may) reader nodes front spot is = λ before stands. may_begun may reader nodes before front (subst (λ (s : Spot). StandsAtSpot s reader nodes before) spot stands) is
begun_front (Err e) reader nodes front spot is = tt

abbrev pub MayBeEvent : StateReader → List ℕ → Bool → Type 0
MayBeEvent reader front may = (source : Source) → ShapeHasTypes reader.shape source.types → AllPairs (λ (e : EventState) (later : EventState). e.id < later.id) reader.events.items → MayEvent may source (ids_of reader.events.items) front

-- in a source: of an event
pub event_front : (event : Bool) (reader : StateReader) (nodes : List PlanNode) (front : List ℕ) → reader.spot ≡ InSource → event ≡ true → MayBeEvent reader front event → MayBegin reader nodes front event
event_front true reader nodes front spot is may = λ before stands.
    let here : IsInSource reader nodes before = subst (λ (s : Spot). StandsAtSpot s reader nodes before) spot stands in
    may_event reader nodes before front here (may here.source here.shape here.open_saved.fit.ascend)
event_front false reader nodes front spot is may = absurd (let e = is in cc)

-- of the next line
pub other_front : (event other : Bool) (reader : StateReader) (nodes : List PlanNode) (front : List ℕ) → reader.spot ≡ InSource → event ≡ false → MayBeEvent reader front event → MayNext other (other_sources reader nodes) front → MayBegin reader nodes front other
other_front true other reader nodes front spot is never next = absurd (let e = is in cc)
other_front false other reader nodes front spot is never next = λ before stands.
    let here : IsInSource reader nodes before = subst (λ (s : Spot). StandsAtSpot s reader nodes before) spot stands in
    may_other other reader nodes before front here (never here.source here.shape here.open_saved.fit.ascend) next

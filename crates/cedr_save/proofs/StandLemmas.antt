-- What a reader stands for once it has taken one more line, and which lines it may not take.
use Rattle.std.proofs.Common.{◌≡◌, ℕ, ◌<◌, ◌≤◌, ◌⊎◌, inl, inr, List, [], ◌∷◌, ◌++◌, length, map, drop, false, None, ap, sym, ◌∙◌, subst, arith, append_assoc, append-nil}
use Rattle.std.specs.Prelude.{All}
use Rattle.std.proofs.lemmas.List.{map-append}
use Rattle.std.proofs.lemmas.List.Elements.{All-push}
use Rattle.cedr_base.specs.declared.time.TheConstants.{FOREVER}
use Rattle.cedr_text.specs.Shapes.{ShapeHasTypes}
use Rattle.cedr_guard.specs.declared.state.EventState.{EventState}
use Rattle.cedr_guard.specs.Spelt.{State, state_in, IsState, HasBare, IsBareEvent}
use Rattle.cedr_guard.proofs.SpeltLemmas.{AllAbove, IdsAscend, ascend_from, pairs_from}
use Rattle.cedr_plan.specs.declared.plan.PlanNode.{PlanNode}
use Rattle.cedr_save.specs.declared.states.Spot.{Spot}
use Rattle.cedr_save.specs.declared.states.Spot.TheVariants.{Head, Begun, InSource, Ended}
use Rattle.cedr_save.specs.declared.states.StateReader.{StateReader}
use Rattle.cedr_save.specs.Checkpoints.{Source, plan_sources, HasId, HasFields, IsSaved, AreSaved, event_line, source_line, states_lines, head_line, end_line, checkpoint_lines}
use Rattle.cedr_save.specs.Lines.{IsSavedEvent, ReadsEvent, ComesNext, AreLower, ids_of, IsEventLine, IsNextLine}
use Rattle.cedr_save.specs.Reading.{open_state, read_states, other_sources, HasNoSource, IsInSource, IsEnded, StandsAtSpot, Stands, CanCloseAt, CanClose, KeepsRest, ClosesOne, ClosesSource}
use Rattle.cedr_save.proofs.LineLemmas.{starts_digit, event_starts, id_same}
use Rattle.cedr_save.proofs.FollowLemmas.{next_head, next_begun, next_in_source, next_ended}
use Rattle.cedr_save.proofs.GoOnLemmas.{saved-append, states-append, CanReach, reach_head, reach_begun, reach_in_source, reach_ended}

-- ---- behind the sources that were read

-- the lines are those of some sources, and others are left
pub record IsClosed (states : List State) (left : List Source) (nodes : List PlanNode) (before : List (List ℕ)) : Type 0 where
  pub front : List Source
  pub sources : plan_sources nodes ≡ front ++ left
  pub saved : AreSaved front states
  pub bare : All HasBare states
  pub lines : before ≡ head_line ∷ states_lines front states

closed_begun : (old new : StateReader) (nodes : List PlanNode) (before : List (List ℕ)) → (before ≡ head_line ∷ []) × HasNoSource old nodes → new ≡ old → IsClosed (read_states new) (other_sources old nodes) nodes before × (new.events.items ≡ [])
closed_begun old new nodes before stands same =
    let none = stands.1 in
    let states : read_states new ≡ [] = ap (λ (r : StateReader). read_states r) same ∙ ap (map state_in) none.states in (
      record {
        front = [];
        sources = ap (λ (n : ℕ). plan_sources (drop n nodes)) (sym none.next);
        saved = subst (AreSaved []) (sym states) tt;
        bare = subst (All HasBare) (sym states) (λ k d within. absurd (omega arith));
        lines = stands.0;
      },
      ap (λ (r : StateReader). r.events.items) same ∙ none.events,
    )

closed_source : (old new : StateReader) (nodes : List PlanNode) (before : List (List ℕ)) → IsInSource old nodes before → ClosesOne old new → IsClosed (read_states new) (other_sources old nodes) nodes before × (new.events.items ≡ [])
closed_source old new nodes before stands closes = (
  record {
    front = stands.front ++ stands.source ∷ [];
    sources = stands.sources ∙ sym (append_assoc stands.front (stands.source ∷ []) (other_sources old nodes));
    saved = subst (AreSaved (stands.front ++ stands.source ∷ [])) (sym closes.states) (saved-append stands.front (stands.source ∷ []) (read_states old) (open_state old ∷ []) stands.saved (stands.open_saved, tt));
    bare = subst (All HasBare) (sym closes.states) (All-push HasBare (read_states old) (open_state old) stands.bare stands.open_bare);
    lines = stands.lines
        ∙ ap (λ (ls : List (List ℕ)). head_line ∷ ls)
        (ap (λ (ls : List (List ℕ)). states_lines stands.front (read_states old) ++ (source_line stands.source.name old.mark ∷ ls)) (sym (append-nil (map event_line old.events.items)))
        ∙ (sym (states-append stands.front (stands.source ∷ []) (read_states old) (open_state old ∷ []) stands.saved)
        ∙ ap (states_lines (stands.front ++ stands.source ∷ [])) (sym closes.states)));
  },
  closes.events,
)

closed_at : (spot : Spot) (old new : StateReader) (nodes : List PlanNode) (before : List (List ℕ)) → CanCloseAt spot old nodes before → ClosesSource spot old new → IsClosed (read_states new) (other_sources old nodes) nodes before × (new.events.items ≡ [])
closed_at Head old new nodes before can closes = absurd can
closed_at Begun old new nodes before can closes = closed_begun old new nodes before can closes
closed_at InSource old new nodes before can closes = closed_source old new nodes before can closes
closed_at Ended old new nodes before can closes = absurd can

-- once the source is closed, the lines are those of the sources before the others
pub closed : (old new : StateReader) (nodes : List PlanNode) (before : List (List ℕ)) → CanClose old nodes before → ClosesSource old.spot old new → IsClosed (read_states new) (other_sources old nodes) nodes before × (new.events.items ≡ [])
closed old new nodes before can closes = closed_at old.spot old new nodes before can closes

-- with the last line they are all, where no source is left
pub ended : (final : StateReader) (states : List State) (left : List Source) (nodes : List PlanNode) (before : List (List ℕ)) → IsClosed states left nodes before → left ≡ [] → read_states final ≡ states → IsEnded final nodes (before ++ end_line ∷ [])
ended final states left nodes before closed none same =
    let all : plan_sources nodes ≡ closed.front = closed.sources ∙ (ap (λ (ss : List Source). closed.front ++ ss) none ∙ append-nil closed.front) in
    let saved : AreSaved closed.front (read_states final) = subst (AreSaved closed.front) (sym same) closed.saved in
    record {
      saved = subst (λ (ss : List Source). AreSaved ss (read_states final)) (sym all) saved;
      bare = subst (All HasBare) (sym same) closed.bare;
      lines = ap (λ (ls : List (List ℕ)). ls ++ end_line ∷ []) closed.lines
          ∙ (ap (λ (sts : List State). checkpoint_lines closed.front sts) (sym same) ∙ ap (λ (ss : List Source). checkpoint_lines ss (read_states final)) (sym all));
    }

pub empty_fit : (source : Source) (mark : ℕ) → mark ≤ FOREVER → IsSaved source (record { mark = mark; events = [] })
empty_fit source mark low = record {
  fit = record { ascend = λ i j d before within. absurd (omega arith); sound = λ k d within. absurd (omega arith); time = low };
  ids = λ k d within. absurd (omega arith);
  fields = λ k d within. absurd (omega arith);
}

-- with the line of the next source this one is read
pub opened : (final : StateReader) (states : List State) (left : List Source) (source : Source) (nodes : List PlanNode) (before : List (List ℕ)) (line : List ℕ) → IsClosed states left nodes before → left ≡ source ∷ other_sources final nodes
    → read_states final ≡ states → final.next ≤ length nodes → final.events.items ≡ [] → ShapeHasTypes final.shape source.types → final.mark ≤ FOREVER → line ≡ source_line source.name final.mark → IsInSource final nodes (before ++ line ∷ [])
opened final states left source nodes before line closed more same within none shape time is = record {
  front = closed.front;
  source = source;
  sources = closed.sources ∙ ap (λ (ss : List Source). closed.front ++ ss) more;
  within = within;
  saved = subst (AreSaved closed.front) (sym same) closed.saved;
  bare = subst (All HasBare) (sym same) closed.bare;
  shape = shape;
  open_saved = subst (λ (es : List EventState). IsSaved source (record { mark = final.mark; events = es })) (sym none) (empty_fit source final.mark time);
  open_bare = subst (All IsBareEvent) (sym none) (λ k d w. absurd (omega arith));
  lines = ap (λ (ls : List (List ℕ)). ls ++ line ∷ []) closed.lines
      ∙ (ap (λ (sts : List State). head_line ∷ (states_lines closed.front sts ++ line ∷ [])) (sym same)
      ∙ (ap (λ (l : List ℕ). head_line ∷ (states_lines closed.front (read_states final) ++ l ∷ [])) is
      ∙ ap (λ (es : List EventState). head_line ∷ (states_lines closed.front (read_states final) ++ (source_line source.name final.mark ∷ map event_line es))) (sym none)));
}

-- ---- with one more event

above_push : (id : ℕ) (es : List EventState) (e : EventState) → AllAbove id es → id < e.id → AllAbove id (es ++ e ∷ [])
above_push id [] e above low = (low, tt)
above_push id (x ∷ es) e above low = (above.0, above_push id es e above.1 low)

ascend_push : (es : List EventState) (e : EventState) → IdsAscend es → AreLower e.id (ids_of es) → IdsAscend (es ++ e ∷ [])
ascend_push [] e up low = (tt, tt)
ascend_push (x ∷ es) e up low = (above_push x.id es e up.0 low.0, ascend_push es e up.1 low.1)

-- a state with an event whose id is above the others
pub saved_more : (source : Source) (mark : ℕ) (es : List EventState) (e : EventState) → IsSaved source (record { mark = mark; events = es }) → IsSavedEvent source.types e → AreLower e.id (ids_of es) → IsSaved source (record { mark = mark; events = es ++ e ∷ [] })
saved_more source mark es e saved event low = record {
  fit = record {
    ascend = pairs_from (es ++ e ∷ []) (ascend_push es e (ascend_from es saved.fit.ascend) low);
    sound = All-push IsState es e saved.fit.sound event.state;
    time = saved.fit.time;
  };
  ids = All-push HasId es e saved.ids event.id;
  fields = All-push (HasFields source.types) es e saved.fields event.fields;
}

-- the source that is read has one more event
pub event_taken : (old new : StateReader) (nodes : List PlanNode) (before : List (List ℕ)) (line : List ℕ) (e : EventState) (stands : IsInSource old nodes before) → IsSavedEvent stands.source.types e × IsBareEvent e × (line ≡ event_line e) → AreLower e.id (ids_of old.events.items)
    → KeepsRest old new → read_states new ≡ read_states old → new.events.items ≡ old.events.items ++ e ∷ [] → IsInSource new nodes (before ++ line ∷ [])
event_taken old new nodes before line e stands reads low keeps states events =
    let saved = saved_more stands.source old.mark old.events.items e stands.open_saved reads.0 low in
    record {
      front = stands.front;
      source = stands.source;
      sources = stands.sources ∙ ap (λ (n : ℕ). stands.front ++ stands.source ∷ plan_sources (drop n nodes)) (sym keeps.next);
      within = subst (λ (n : ℕ). n ≤ length nodes) (sym keeps.next) stands.within;
      saved = subst (AreSaved stands.front) (sym states) stands.saved;
      bare = subst (All HasBare) (sym states) stands.bare;
      shape = subst (λ s. ShapeHasTypes s stands.source.types) (sym keeps.shape) stands.shape;
      open_saved = subst (λ (m : ℕ). IsSaved stands.source (record { mark = m; events = new.events.items })) (sym keeps.mark)
          (subst (λ (es : List EventState). IsSaved stands.source (record { mark = old.mark; events = es })) (sym events) saved);
      open_bare = subst (All IsBareEvent) (sym events) (All-push IsBareEvent old.events.items e stands.open_bare reads.1);
      lines = ap (λ (ls : List (List ℕ)). ls ++ line ∷ []) stands.lines
          ∙ (ap (λ (ls : List (List ℕ)). head_line ∷ ls) (append_assoc (states_lines stands.front (read_states old)) (source_line stands.source.name old.mark ∷ map event_line old.events.items) (line ∷ []))
          ∙ (ap (λ (l : List ℕ). head_line ∷ (states_lines stands.front (read_states old) ++ (source_line stands.source.name old.mark ∷ (map event_line old.events.items ++ l ∷ [])))) reads.2
          ∙ (ap (λ (ls : List (List ℕ)). head_line ∷ (states_lines stands.front (read_states old) ++ (source_line stands.source.name old.mark ∷ ls))) (sym (map-append event_line old.events.items (e ∷ [])))
          ∙ (ap (λ (es : List EventState). head_line ∷ (states_lines stands.front (read_states old) ++ (source_line stands.source.name old.mark ∷ map event_line es))) (sym events)
          ∙ (ap (λ (m : ℕ). head_line ∷ (states_lines stands.front (read_states old) ++ (source_line stands.source.name m ∷ map event_line new.events.items))) (sym keeps.mark)
          ∙ ap (λ (sts : List State). head_line ∷ (states_lines stands.front sts ++ (source_line stands.source.name new.mark ∷ map event_line new.events.items))) (sym states))))));
    }

-- ---- lines that may not come next

-- the line that may come behind those of some source
pub comes_in_source : (reader : StateReader) (nodes : List PlanNode) (before : List (List ℕ)) (line : List ℕ) (stands : IsInSource reader nodes before) → ComesNext (plan_sources nodes) before line
    → IsEventLine stands.source (ids_of reader.events.items) line ⊎ IsNextLine (other_sources reader nodes) line
comes_in_source reader nodes before line stands next =
    next_in_source stands.front stands.source (other_sources reader nodes) (read_states reader) reader.mark reader.events.items line stands.saved stands.open_saved.ids
    (subst (λ (ls : List (List ℕ)). ComesNext (stands.front ++ stands.source ∷ other_sources reader nodes) ls line) stands.lines (subst (λ (ss : List Source). ComesNext ss before line) stands.sources next))

not_next : (sources : List Source) (e : EventState) → HasId e → IsNextLine sources (event_line e) → ⊥
not_next [] e id is = let digit = event_starts e id in let other : starts_digit (event_line e) ≡ false = ap starts_digit is in cc
not_next (source ∷ sources) e id is = let digit = event_starts e id in let other : starts_digit (event_line e) ≡ false = ap starts_digit is.2 in cc

-- an event whose id isn't above the others may not come
pub event_refused : (reader : StateReader) (nodes : List PlanNode) (before : List (List ℕ)) (line : List ℕ) (e : EventState) (stands : IsInSource reader nodes before) → HasId e → line ≡ event_line e → (AreLower e.id (ids_of reader.events.items) → ⊥)
    → ComesNext (plan_sources nodes) before line → ⊥
event_refused reader nodes before line e stands id is high next = elim (comes_in_source reader nodes before line stands next) [
  | inl event ↦ high (subst (λ (n : ℕ). AreLower n (ids_of reader.events.items)) (sym (id_same e event.event id event.saved.id (sym is ∙ event.is))) event.above)
  | inr other ↦ not_next (other_sources reader nodes) e id (subst (IsNextLine (other_sources reader nodes)) is other)
]

-- a line that is neither an event's nor the next one may not come
pub neither_comes : (reader : StateReader) (nodes : List PlanNode) (before : List (List ℕ)) (line : List ℕ) (stands : IsInSource reader nodes before) → ReadsEvent None stands.source.types line → (IsNextLine (other_sources reader nodes) line → ⊥)
    → ComesNext (plan_sources nodes) before line → ⊥
neither_comes reader nodes before line stands none other next = elim (comes_in_source reader nodes before line stands next) [
  | inl event ↦ none event.event event.saved event.is
  | inr is ↦ other is
]

-- behind the first line comes that of the first source alone
pub comes_begun : (reader : StateReader) (nodes : List PlanNode) (before : List (List ℕ)) (line : List ℕ) → (before ≡ head_line ∷ []) × HasNoSource reader nodes → ComesNext (plan_sources nodes) before line → IsNextLine (other_sources reader nodes) line
comes_begun reader nodes before line stands next =
    subst (λ (n : ℕ). IsNextLine (plan_sources (drop n nodes)) line) (sym stands.1.next) (next_begun (plan_sources nodes) line (subst (λ (ls : List (List ℕ)). ComesNext (plan_sources nodes) ls line) stands.0 next))

pub comes_head : (nodes : List PlanNode) (before : List (List ℕ)) (line : List ℕ) → before ≡ [] → ComesNext (plan_sources nodes) before line → line ≡ head_line
comes_head nodes before line none next = next_head (plan_sources nodes) line (subst (λ (ls : List (List ℕ)). ComesNext (plan_sources nodes) ls line) none next)

pub comes_ended : (reader : StateReader) (nodes : List PlanNode) (before : List (List ℕ)) (line : List ℕ) → IsEnded reader nodes before → ComesNext (plan_sources nodes) before line → ⊥
comes_ended reader nodes before line stands next = next_ended (plan_sources nodes) (read_states reader) line stands.saved (subst (λ (ls : List (List ℕ)). ComesNext (plan_sources nodes) ls line) stands.lines next)

-- ---- what was taken goes on to a checkpoint

reach_at : (spot : Spot) (reader : StateReader) (nodes : List PlanNode) (before : List (List ℕ)) → StandsAtSpot spot reader nodes before → CanReach (plan_sources nodes) before
reach_at Head reader nodes before stands = subst (CanReach (plan_sources nodes)) (sym stands.0) (reach_head (plan_sources nodes))
reach_at Begun reader nodes before stands = subst (CanReach (plan_sources nodes)) (sym stands.0) (reach_begun (plan_sources nodes))
reach_at InSource reader nodes before stands =
    subst (CanReach (plan_sources nodes)) (sym stands.lines)
    (subst (λ (ss : List Source). CanReach ss (head_line ∷ (states_lines stands.front (read_states reader) ++ (source_line stands.source.name reader.mark ∷ map event_line reader.events.items)))) (sym stands.sources)
    (reach_in_source stands.front stands.source (other_sources reader nodes) (read_states reader) (open_state reader) stands.saved stands.open_saved))
reach_at Ended reader nodes before stands = subst (CanReach (plan_sources nodes)) (sym stands.lines) (reach_ended (plan_sources nodes) (read_states reader) stands.saved)

pub reach : (reader : StateReader) (nodes : List PlanNode) (before : List (List ℕ)) → Stands reader nodes before → CanReach (plan_sources nodes) before
reach reader nodes before stands = reach_at reader.spot reader nodes before stands

-- What a reader answers of a line behind the events of a source.
use Rattle.std.proofs.Common.{◌≡◌, ℕ, List, [], ◌∷◌, ◌++◌, Bool, true, false, None, sym, subst}
use Rattle.std.specs.Prelude.{Result, Ok, Err, IfOk, MatchBool}
use Rattle.cedr_base.specs.declared.field.FieldType.{FieldType}
use Rattle.cedr_text.specs.Shapes.{ShapeHasTypes}
use Rattle.cedr_plan.specs.declared.plan.PlanNode.{PlanNode}
use Rattle.cedr_save.specs.declared.states.Spot.{Spot}
use Rattle.cedr_save.specs.declared.states.Spot.TheVariants.{Begun, InSource}
use Rattle.cedr_save.specs.declared.states.StateReader.{StateReader}
use Rattle.cedr_save.specs.Checkpoints.{plan_sources}
use Rattle.cedr_save.specs.Lines.{ReadsEvent, ComesNext, IsNextLine}
use Rattle.cedr_save.specs.Reading.{StandsAtSpot, Stands, CanCloseAt, CanClose, IsInSource, other_sources}
use Rattle.cedr_save.proofs.StandLemmas.{neither_comes, comes_begun}

-- the next line was taken, or may not come
abbrev pub TakesNext : StateReader → StateReader → List PlanNode → List ℕ → Bool → Type 0
TakesNext old new nodes line taken = (before : List (List ℕ)) → CanClose old nodes before → MatchBool taken (Stands new nodes (before ++ line ∷ [])) (IsNextLine (other_sources old nodes) line → ⊥)

abbrev pub Takes : StateReader → StateReader → List PlanNode → List ℕ → Bool → Type 0
Takes old new nodes line taken = (before : List (List ℕ)) → Stands old nodes before → MatchBool taken (Stands new nodes (before ++ line ∷ [])) (ComesNext (plan_sources nodes) before line → ⊥)

behind : (taken : Bool) (old new : StateReader) (nodes : List PlanNode) (line : List ℕ) → old.spot ≡ InSource → ((types : List FieldType) → ShapeHasTypes old.shape types → ReadsEvent None types line) → TakesNext old new nodes line taken → Takes old new nodes line taken
behind true old new nodes line spot none takes = λ before stands. takes before (subst (λ (s : Spot). CanCloseAt s old nodes before) (sym spot) (subst (λ (s : Spot). StandsAtSpot s old nodes before) spot stands))
behind false old new nodes line spot none takes = λ before stands next.
    let here : IsInSource old nodes before = subst (λ (s : Spot). StandsAtSpot s old nodes before) spot stands in
    neither_comes old nodes before line here (none here.source.types here.shape) (takes before (subst (λ (s : Spot). CanCloseAt s old nodes before) (sym spot) here)) next

-- behind the events of a source, where the line is none's
pub behind_events : {E : Type 0} (result : Result Bool E) (old new : StateReader) (nodes : List PlanNode) (line : List ℕ) → old.spot ≡ InSource → ((types : List FieldType) → ShapeHasTypes old.shape types → ReadsEvent None types line)
    → IfOk result (λ taken. TakesNext old new nodes line taken) → IfOk result (λ taken. Takes old new nodes line taken)
behind_events (Ok taken) old new nodes line spot none takes = behind taken old new nodes line spot none takes
behind_events (Err e) old new nodes line spot none takes = tt

first : (taken : Bool) (old new : StateReader) (nodes : List PlanNode) (line : List ℕ) → old.spot ≡ Begun → TakesNext old new nodes line taken → Takes old new nodes line taken
first true old new nodes line spot takes = λ before stands. takes before (subst (λ (s : Spot). CanCloseAt s old nodes before) (sym spot) (subst (λ (s : Spot). StandsAtSpot s old nodes before) spot stands))
first false old new nodes line spot takes = λ before stands next.
    let here = subst (λ (s : Spot). StandsAtSpot s old nodes before) spot stands in
    takes before (subst (λ (s : Spot). CanCloseAt s old nodes before) (sym spot) here) (comes_begun old nodes before line here next)

-- behind the first line
pub behind_head : {E : Type 0} (result : Result Bool E) (old new : StateReader) (nodes : List PlanNode) (line : List ℕ) → old.spot ≡ Begun → IfOk result (λ taken. TakesNext old new nodes line taken) → IfOk result (λ taken. Takes old new nodes line taken)
behind_head (Ok taken) old new nodes line spot takes = first taken old new nodes line spot takes
behind_head (Err e) old new nodes line spot takes = tt

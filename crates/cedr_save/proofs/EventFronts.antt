-- The line of an event that begins with some bytes.
use Rattle.std.proofs.Common.{◌≡◌, ℕ, List, ◌++◌, true, false, Option, None, Some, Vec, ap, sym, ◌∙◌, subst, arith}
use Rattle.std.specs.Prelude.{nat_eq, Result, Ok, Err, IfOk}
use Rattle.std.specs.Global.{Global}
use Rattle.std.specs.List.{starts_with}
use Rattle.cedr_base.specs.declared.field.FieldType.{FieldType}
use Rattle.cedr_text.specs.Shapes.{ShapeHasTypes}
use Rattle.cedr_text.specs.declared.event_line.Shape.{Shape}
use Rattle.cedr_text.specs.declared.event_line.Shape.TheVariants.{Fields}
use Rattle.cedr_guard.specs.declared.state.EventState.{EventState}
use Rattle.cedr_save.specs.Checkpoints.{event_line}
use Rattle.cedr_save.specs.Lines.{IsSavedEvent, ReadsEvent, EventOfFront}
use Rattle.cedr_save.specs.Fronts.{CompletesEvent}
use Rattle.cedr_save.proofs.LineLemmas.{id_same}
use Rattle.cedr_save.proofs.SourceFronts.{starts_is, is_starts}

-- ---- what a line that goes on from the bytes says of all events

-- where it doesn't begin with them, no event's line does
pub none_begins : (types : List FieldType) (front line : List ℕ) → CompletesEvent types front line → starts_with nat_eq line front ≡ false → (e : EventState) (rest : List ℕ) → IsSavedEvent types e → front ++ rest ≡ event_line e → ⊥
none_begins types front line completes not e rest saved h =
    let g = completes e rest saved h in
    let begins : starts_with nat_eq line front ≡ true = ap (λ (bs : List ℕ). starts_with nat_eq bs front) g.begins ∙ is_starts front g.more in
    let no = sym begins ∙ not in cc

-- what is read from it is an event with the greatest id
pub front_read : (found : Option EventState) (types : List FieldType) (front line : List ℕ) → CompletesEvent types front line → starts_with nat_eq line front ≡ true → ReadsEvent found types line → EventOfFront found types front
front_read (Some e) types front line completes begins reads =
    let r = starts_is line front begins in (
      reads.0,
      (r.0, sym r.1 ∙ reads.2),
      λ other rest saved h.
          let g = completes other rest saved h in
          let above = g.above in
          let same : e.id ≡ g.event.id = id_same e g.event reads.0.id g.saved.id (sym reads.2 ∙ g.is) in
          omega arith,
    )
front_read None types front line completes begins reads = λ e rest saved h. let g = completes e rest saved h in reads g.event g.saved g.is

-- the types of a shape
pub shape_types : (shape : Shape) (fields : Vec FieldType Global) (types : List FieldType) → shape ≡ Fields fields → ShapeHasTypes shape types → fields.items ≡ types
shape_types shape fields types is has = subst (λ (s : Shape). ShapeHasTypes s types) is has

pub result_read : {E : Type 0} (result : Result (Option EventState) E) (shape : Shape) (front line text : List ℕ) → line ≡ text → starts_with nat_eq line front ≡ true
    → ((types : List FieldType) → ShapeHasTypes shape types → CompletesEvent types front line)
    → IfOk result (λ found. (types : List FieldType) → ShapeHasTypes shape types → ReadsEvent found types text)
    → IfOk result (λ found. (types : List FieldType) → ShapeHasTypes shape types → EventOfFront found types front)
result_read (Ok found) shape front line text same begins completes reads = λ types has.
    front_read found types front line (completes types has) begins (subst (ReadsEvent found types) (sym same) (reads types has))
result_read (Err e) shape front line text same begins completes reads = tt

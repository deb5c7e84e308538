-- The sources of a plan from a place on, and what a reader stands for with one more line.
use Rattle.std.proofs.Common.{◌≡◌, ℕ, zero, suc, ◌+◌, ◌-◌, ◌<◌, ◌≤◌, inl, inr, List, [], ◌∷◌, length, drop, get_or, Bool, true, false, cond, refl, ap, sym, ◌∙◌, subst, arith, add-one}
use Rattle.std.specs.Prelude.{AllPairs, MatchBool, nat_lt}
use Rattle.std.proofs.lemmas.Bool.{cases_lt, ltb-true, ltb-false}
use Rattle.std.proofs.Math.Seq.{drop-cons}
use Rattle.std.proofs.lemmas.List.{get_or_default}
use Rattle.cedr_guard.specs.declared.state.EventState.{EventState}
use Rattle.cedr_plan.specs.declared.plan.PlanNode.{PlanNode}
use Rattle.cedr_plan.specs.Places.{is_source}
use Rattle.cedr_save.specs.Checkpoints.{Source, plan_sources}
use Rattle.cedr_save.specs.Lines.{AreLower, ids_of}

abbrev pub source_of : PlanNode → Source
source_of node = record { name = node.name; types = node.types.items }

-- the sources from a place on, by the node there
pub sources_at : (nodes : List PlanNode) (place : ℕ) (d : PlanNode) → place < length nodes → plan_sources (drop place nodes) ≡ cond (is_source (get_or nodes place d).kind) (source_of (get_or nodes place d) ∷ plan_sources (drop (place + 1) nodes)) (plan_sources (drop (place + 1) nodes))
sources_at nodes place d within = ap plan_sources (drop-cons nodes place d within) ∙ ap (λ (n : ℕ). cond (is_source (get_or nodes place d).kind) (source_of (get_or nodes place d) ∷ plan_sources (drop n nodes)) (plan_sources (drop n nodes))) (sym (add-one place))

-- a node that is no source adds none
pub sources_skip : (nodes : List PlanNode) (place : ℕ) (d : PlanNode) → place < length nodes → is_source (get_or nodes place d).kind ≡ false → plan_sources (drop place nodes) ≡ plan_sources (drop (place + 1) nodes)
sources_skip nodes place d within none = sources_at nodes place d within ∙ ap (λ (b : Bool). cond b (source_of (get_or nodes place d) ∷ plan_sources (drop (place + 1) nodes)) (plan_sources (drop (place + 1) nodes))) none

pub sources_here : (nodes : List PlanNode) (place : ℕ) (d : PlanNode) → place < length nodes → is_source (get_or nodes place d).kind ≡ true → plan_sources (drop place nodes) ≡ source_of (get_or nodes place d) ∷ plan_sources (drop (place + 1) nodes)
sources_here nodes place d within is = sources_at nodes place d within ∙ ap (λ (b : Bool). cond b (source_of (get_or nodes place d) ∷ plan_sources (drop (place + 1) nodes)) (plan_sources (drop (place + 1) nodes))) is

-- ---- an id above those of events

lower_from : (id : ℕ) (es : List EventState) → ((k : ℕ) (d : EventState) → k < length es → (get_or es k d).id < id) → AreLower id (ids_of es)
lower_from id [] low = tt
lower_from id (e ∷ es) low = (low 0 e (omega arith), lower_from id es (λ k d within. low (suc k) d (omega arith)))

lower_at : (id : ℕ) (es : List EventState) (k : ℕ) (d : EventState) → AreLower id (ids_of es) → k < length es → (get_or es k d).id < id
lower_at id [] k d low within = absurd (omega arith)
lower_at id (e ∷ es) zero d low within = low.0
lower_at id (e ∷ es) (suc k) d low within = lower_at id es k d low.1 (omega arith)

above_all : (id : ℕ) (es : List EventState) (last : EventState) → last.id < id → AllPairs (λ (e : EventState) (later : EventState). e.id < later.id) es → 0 < length es → last ≡ get_or es (length es - 1) last → AreLower id (ids_of es)
above_all id es last high up some is =
    lower_from id es (λ k d within.
    let end : (get_or es (length es - 1) d).id < id = subst (λ (e : EventState). e.id < id) (is ∙ get_or_default es (length es - 1) last d (omega arith)) high in
    elim (cases_lt k (length es - 1)) [
      | inl before ↦ omega (arith, end, up k (length es - 1) d before (omega arith))
      | inr after ↦ subst (λ (n : ℕ). (get_or es n d).id < id) (omega arith) end
    ])

not_above : (id : ℕ) (es : List EventState) (last : EventState) → id ≤ last.id → 0 < length es → last ≡ get_or es (length es - 1) last → AreLower id (ids_of es) → ⊥
not_above id es last high some is low =
    let below : last.id < id = subst (λ (e : EventState). e.id < id) (sym is) (lower_at id es (length es - 1) last low (omega arith)) in
    omega arith

above_at : (b : Bool) (id : ℕ) (es : List EventState) (last : EventState) → nat_lt last.id id ≡ b → AllPairs (λ (e : EventState) (later : EventState). e.id < later.id) es → 0 < length es → last ≡ get_or es (length es - 1) last
    → MatchBool b (AreLower id (ids_of es)) (AreLower id (ids_of es) → ⊥)
above_at true id es last test up some is = above_all id es last (ltb-true last.id id test) up some is
above_at false id es last test up some is = not_above id es last (ltb-false last.id id test) some is

-- an id is above those of events that ascend where it is above the last one's
pub above_last : (id : ℕ) (es : List EventState) (last : EventState) → AllPairs (λ (e : EventState) (later : EventState). e.id < later.id) es → 0 < length es → last ≡ get_or es (length es - 1) last
    → MatchBool (nat_lt last.id id) (AreLower id (ids_of es)) (AreLower id (ids_of es) → ⊥)
above_last id es last up some is = above_at (nat_lt last.id id) id es last refl up some is

-- What a change does to the rows of two ports.
use Rattle.std.proofs.Common.{◌≡◌, ℕ, ◌<◌, ◌≤◌, List, [], ◌∷◌, ◌++◌, take, refl, ap, sym, ◌∙◌, subst, arith, length}
use Rattle.cedr_base.specs.declared.row.Row.{Row}
use Rattle.cedr_base.specs.declared.change.Change.{Change}
use Rattle.cedr_base.specs.Rows.{SameRows}
use Rattle.cedr_base.specs.Changes.{puts, takes}
use Rattle.cedr_table.specs.Operators.{Tables}
use Rattle.cedr_expr.specs.declared.test.Test.{Test}
use Rattle.pat_state.specs.Steps.{picked, matches}
use Rattle.pat_state.specs.Starts.{all_endless}
use Rattle.pat_state.specs.Answers.{IsKeptStep}

first_steps : (old : Tables) (lefts rights left right : List Row) (change : Change) → old ≡ lefts ∷ rights ∷ [] → right ≡ rights → SameRows (left ++ all_endless (takes change)) (lefts ++ all_endless (puts change)) → IsKeptStep (lefts ∷ rights ∷ []) (left ∷ right ∷ []) 0 change
first_steps old lefts rights left right change is same step = record { rows = left; kept_is = ap (λ rows. left ∷ rows ∷ []) same; step = step }

-- the rows of the first port went through a change
pub left_steps : (old : Tables) (lefts rights left right : List Row) (port : ℕ) (change : Change) → old ≡ lefts ∷ rights ∷ [] → port ≡ 0 → right ≡ rights → SameRows (left ++ all_endless (takes change)) (lefts ++ all_endless (puts change))
    → IsKeptStep old (left ∷ right ∷ []) port change
left_steps old lefts rights left right port change is at same step =
    subst (λ (p : ℕ). IsKeptStep old (left ∷ right ∷ []) p change) (sym at)
    (subst (λ (ts : Tables). IsKeptStep ts (left ∷ right ∷ []) 0 change) (sym is) (first_steps old lefts rights left right change is same step))

-- the rows of the second port did
pub right_steps : (old : Tables) (lefts rights left right : List Row) (port : ℕ) (change : Change) → old ≡ lefts ∷ rights ∷ [] → port < length old → (port ≡ 0 → ⊥) → left ≡ lefts → SameRows (right ++ all_endless (takes change)) (rights ++ all_endless (puts change))
    → IsKeptStep old (left ∷ right ∷ []) port change
right_steps old lefts rights left right port change is within other same step =
    let size = ap (λ (ts : Tables). length ts) is in
    let one : port ≡ 1 = omega arith in
    subst (λ (p : ℕ). IsKeptStep old (left ∷ right ∷ []) p change) (sym one)
    (subst (λ (ts : Tables). IsKeptStep ts (left ∷ right ∷ []) 1 change) (sym is) (record { rows = right; kept_is = ap (λ rows. rows ∷ right ∷ []) same; step = step }))

-- tables of at most four ports, picked in their order
all_picked : (ts : Tables) → length ts ≤ 4 → picked (take (length ts) (0 ∷ 1 ∷ 2 ∷ 3 ∷ [])) ts ≡ ts
all_picked [] few = refl
all_picked (a ∷ []) few = refl
all_picked (a ∷ b ∷ []) few = refl
all_picked (a ∷ b ∷ c ∷ []) few = refl
all_picked (a ∷ b ∷ c ∷ d ∷ []) few = refl
all_picked (a ∷ b ∷ c ∷ d ∷ e ∷ ts) few = absurd (omega arith)

-- what is found among them
pub found_in_order : (scope : ℕ) (tests : List Test) (x : Row) (changed count : ℕ) (ts us : Tables) (found : List Row) → ts ≡ us → count ≡ length us → length us ≤ 4 → SameRows found (matches scope tests x changed (picked (take count (0 ∷ 1 ∷ 2 ∷ 3 ∷ [])) us))
    → SameRows found (matches scope tests x changed ts)
found_in_order scope tests x changed count ts us found is many few same =
    subst (λ (vs : Tables). SameRows found (matches scope tests x changed vs)) ((λ i. picked (take (many i) (0 ∷ 1 ∷ 2 ∷ 3 ∷ [])) us) ∙ (all_picked us few ∙ sym is)) same

-- Which plans can be saved.
use Rattle.std.specs.Prelude.{ℕ, ◌+◌, ◌==◌, ◌&&◌, Bool, true, List, [], ◌∷◌, Option, None, Some, is_none, if◌then◌else◌}
use Rattle.std.specs.Option.{option_map_or}
use Rattle.cedr_base.specs.declared.level.Level.{Level}
use Rattle.cedr_plan.specs.declared.plan.PlanNode.{PlanNode}

-- ports of this level can be saved: their memory is without limit, and their block is 0 or without limit
abbrev pub is_saved_level : Level → Bool
is_saved_level level = is_none level.memory && option_map_or (λ block. block == 0) level.block true

-- the number, from 1, of the first node whose ports can't be saved. The first one of the list stands at this place in
-- the plan
abbrev pub first_unsaved : ℕ → List PlanNode → Option ℕ
first_unsaved place [] = None
first_unsaved place (node ∷ nodes) = if is_saved_level node.level then first_unsaved (place + 1) nodes else Some (place + 1)

-- How the choices with one changed row are found, order by order.
use Rattle.std.specs.Prelude.{ℕ, suc, List, [], ◌∷◌, nat_eq, nat_lt, length, if◌then◌else◌}
use Rattle.std.specs.List.{flat_map}
use Rattle.cedr_base.specs.declared.row.Row.{Row}
use Rattle.cedr_table.specs.Operators.{Tables}
use Rattle.cedr_table.specs.Choices.{chosen}
use Rattle.cedr_expr.specs.declared.test.Test.{Test}
use Rattle.pat_state.specs.Ascending.{sequence}
use Rattle.pat_state.specs.Steps.{picked, matches}
use Rattle.pat_atleast.specs.Arrangements.{arranged}

-- the place of a port in an order, and the number of its places where it isn't there
abbrev pub order_place : ℕ → List ℕ → ℕ
order_place port [] = 0
order_place port (q ∷ qs) = if nat_eq q port then 0 else suc (order_place port qs)

-- the rows of the choices that begin one after the other in an order, with a changed row of a port, where the order has that
abbrev pub found_in : ℕ → List Test → Row → ℕ → Tables → List ℕ → List Row
found_in scope tests x port kept order = if nat_lt (order_place port order) (length order) then matches scope tests x (order_place port order) (picked order kept) else []

-- those of each of some orders
abbrev pub all_found : ℕ → List Test → Row → ℕ → Tables → List (List ℕ) → List Row
all_found scope tests x port kept orders = flat_map (found_in scope tests x port kept) orders

-- what the sequences of so many of the tables give, in each order
abbrev pub in_each_order : ℕ → ℕ → List Test → Tables → List Row
in_each_order number scope tests tables = flat_map (chosen (sequence scope tests)) (arranged number tables)

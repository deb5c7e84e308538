-- The plan of the workload keeps the rules of plans.
use Rattle.std.proofs.Common.{◌≡◌, ℕ, true, false, List, [], ◌∷◌, Some, refl, sym, subst, arith}
use Rattle.std.specs.Prelude.{All}
use Rattle.std.specs.List.{list_any, slice_get}
use Rattle.std.proofs.lemmas.List.Elements.{All-from_recursion}
use Rattle.cedr_base.specs.declared.field.FieldType.TheVariants as field_type
use Rattle.cedr_plan.specs.Drawn.{Node}
use Rattle.cedr_plan.specs.Levels.{middle}
use Rattle.cedr_plan.specs.Nodes.{is_name, is_named}
use Rattle.cedr_plan.specs.Rules.{IsInput, IsLevel, IsNumber, IsNode, IsSound}
use Rattle.cedr_make.specs.BuiltIn.{source_node, left_source, right_source, pair_types, pairs_node, totals_node, out_node, built_in}

middle_is : IsLevel middle
middle_is = record { block = omega arith; memory = tt; block_within_memory = refl }

no_numbers : All IsNumber []
no_numbers = All-from_recursion IsNumber [] tt

-- a source of a new name fits any nodes
source_is : (earlier : List Node) (name : List ℕ) → is_name name ≡ true → list_any (is_named name) earlier ≡ false → IsNode earlier (source_node name)
source_is earlier name is new = record {
  name = is;
  new_name = new;
  least_ports = omega arith;
  most_ports = omega arith;
  inputs = All-from_recursion (IsInput earlier) [] tt;
  level = middle_is;
  source_level = refl;
  numbers = no_numbers;
  fits = tt;
  types = tt;
  width = omega arith;
}

-- what stands before each of the other nodes
abbrev sources : List Node
sources = left_source ∷ right_source ∷ []

abbrev joined : List Node
joined = left_source ∷ right_source ∷ pairs_node ∷ []

abbrev grouped : List Node
grouped = left_source ∷ right_source ∷ pairs_node ∷ totals_node ∷ []

pairs_are : IsNode sources pairs_node
pairs_are = record {
  name = refl;
  new_name = refl;
  least_ports = omega arith;
  most_ports = omega arith;
  inputs = All-from_recursion (IsInput sources) (0 ∷ 1 ∷ []) ((omega arith, refl), ((omega arith, refl), tt));
  level = middle_is;
  source_level = tt;
  numbers = no_numbers;
  fits = (omega arith, refl);
  types = refl;
  width = omega arith;
}

totals_are : IsNode joined totals_node
totals_are = record {
  name = refl;
  new_name = refl;
  least_ports = omega arith;
  most_ports = omega arith;
  inputs = All-from_recursion (IsInput joined) (2 ∷ []) ((omega arith, refl), tt);
  level = middle_is;
  source_level = tt;
  numbers = no_numbers;
  fits = (refl, All-from_recursion (λ column. slice_get pair_types column ≡ Some field_type.Number) (1 ∷ []) (refl, tt), refl, refl);
  types = refl;
  width = omega arith;
}

out_is : IsNode grouped out_node
out_is = record {
  name = refl;
  new_name = refl;
  least_ports = omega arith;
  most_ports = omega arith;
  inputs = All-from_recursion (IsInput grouped) (3 ∷ []) ((omega arith, refl), tt);
  level = middle_is;
  source_level = tt;
  numbers = no_numbers;
  fits = tt;
  types = refl;
  width = omega arith;
}

-- each node fits those before it, one is an output, and all others are read
built_in_sound : IsSound built_in
built_in_sound = record {
  nodes = (source_is [] left_source.name refl refl, (source_is (left_source ∷ []) right_source.name refl refl, (pairs_are, (totals_are, (out_is, tt)))));
  count = omega arith;
  least_edge = omega arith;
  most_edge = omega arith;
  one_output = refl;
  used = refl;
}

-- so a plan of these nodes is sound
pub sound_where : (nodes : List Node) → nodes ≡ built_in.nodes → IsSound (record { nodes = nodes; edge = 64 })
sound_where nodes is = subst (λ these. IsSound (record { nodes = these; edge = 64 })) (sym is) built_in_sound

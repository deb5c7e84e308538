-- Parts of a list of changes.
use Rattle.std.proofs.Common.{◌≡◌, ◌∙◌, ℕ, List, map, take, drop, sym, ap}
use Rattle.std.proofs.lemmas.List.{take-map, drop-map}
use Rattle.cedr_history.specs.Ends.{part}

-- the part of what is mapped is what the part is mapped to
pub map_part : {A B : Type 0} (f : A → B) (from max : ℕ) (xs : List A) → map f (part from max xs) ≡ part from max (map f xs)
map_part f from max xs = sym (take-map f max (drop from xs)) ∙ ap (take max) (sym (drop-map f from xs))

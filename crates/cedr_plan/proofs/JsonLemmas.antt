-- Arrays of JSON values beside the lists of their values.
use Rattle.std.proofs.Common.{◌≡◌, ℕ, Bool, true, false, List, [], ◌∷◌, Some, None, map, refl, ap, sym, ◌∙◌}
use Rattle.std.specs.Option.{option_map_or}
use Rattle.std.specs.List.{list_all, list_any}
use Rattle.std.specs.Bool.{if◌then◌else◌}
use Rattle.std.specs.Str.{is_utf8, IsUtf8}
use Rattle.std.proofs.lemmas.Str.{is_utf8-from_IsUtf8, IsUtf8-from_is_utf8}
use Rattle.serde_json.specs.Data.{Data}
use Rattle.serde_json.specs.Read.{read}
use Rattle.cedr_plan.specs.Plans.{json_of}
use Rattle.serde_json.specs.View.{view, items_of}
use Rattle.serde_json.specs.declared.value.Value.{Value}
use Rattle.cedr_plan.specs.Json.{data_list, as_list}
use Rattle.cedr_plan.proofs.ListLemmas.{all_of_map, any_of_map}

-- the values of an array are those that it was made of
pub list_of-items_of : (ds : List Data) → data_list (items_of ds) ≡ ds
list_of-items_of [] = refl
list_of-items_of (d ∷ ds) = ap (λ rest. d ∷ rest) (list_of-items_of ds)

-- a test of each value of an array, asked of the values themselves
pub each_of_array : (p : Data → Bool) (values : List Value) (d : Data) → Some (map view values) ≡ as_list d → list_all (λ value. p (view value)) values ≡ option_map_or (list_all p) (as_list d) false
each_of_array p values d e = sym (all_of_map p view values) ∙ ap (λ list. option_map_or (list_all p) list false) e

-- a test of some value of an array, asked of the values themselves
pub some_of_array : (p : Data → Bool) (values : List Value) (d : Data) → Some (map view values) ≡ as_list d → list_any (λ value. p (view value)) values ≡ option_map_or (list_any p) (as_list d) false
some_of_array p values d e = sym (any_of_map p view values) ∙ ap (λ list. option_map_or (list_any p) list false) e

-- bytes that are UTF-8 are what the text of them reads as
pub json_of-text : (bytes : List ℕ) → IsUtf8 bytes → json_of bytes ≡ read bytes
json_of-text bytes text = ap (λ b. if b then read bytes else None) (is_utf8-from_IsUtf8 bytes text)

no_text : (bytes : List ℕ) (b : Bool) → is_utf8 bytes ≡ b → (IsUtf8 bytes → ⊥) → (if b then read bytes else None) ≡ None
no_text bytes true e other = absurd (other (IsUtf8-from_is_utf8 bytes e))
no_text bytes false e other = refl

-- bytes that aren't UTF-8 are no value
pub json_of-other : (bytes : List ℕ) → (IsUtf8 bytes → ⊥) → json_of bytes ≡ None
json_of-other bytes other = no_text bytes (is_utf8 bytes) refl other

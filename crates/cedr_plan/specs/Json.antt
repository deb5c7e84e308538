-- Looking into JSON values: what kind a value has, and the members of an object. An array is a list here.
use Rattle.std.specs.Prelude.{ℕ, Bool, false, ◌&&◌, List, [], ◌∷◌, nat_le, bytes_eq, Option, is_some, option_map, option_and_then, unwrap_or}
use Rattle.std.specs.Option.{option_map_or}
use Rattle.std.specs.List.{list_all}
use Rattle.serde_json.specs.Data.{Data, Items, no_items, item}
use Rattle.serde_json.specs.Find.{get, as_str, as_array, as_number, as_u64}

-- the values of an array
abbrev pub data_list : Items → List Data
data_list no_items = []
data_list (item d ds) = d ∷ data_list ds

-- the values of an array, and nothing where the value is no array
abbrev pub as_list : Data → Option (List Data)
as_list d = option_map data_list (as_array d)

-- a whole number of 64 bits without a sign: no fraction, no exponent
abbrev pub as_whole : Data → Option ℕ
as_whole d = option_and_then as_u64 (as_number d)

-- the value is a number
abbrev pub is_number : Data → Bool
is_number d = is_some (as_number d)

-- the value is a text
abbrev pub is_text : Data → Bool
is_text d = is_some (as_str d)

-- the value is this text
abbrev pub is_word : List ℕ → Data → Bool
is_word word d = option_map_or (bytes_eq word) (as_str d) false

-- whole, and from the least number to the greatest
abbrev pub is_whole_within : ℕ → ℕ → Data → Bool
is_whole_within least most d = option_map_or (λ n. nat_le least n && nat_le n most) (as_whole d) false

-- an array of which each value passes
abbrev pub is_list : (Data → Bool) → Data → Bool
is_list passes d = option_map_or (list_all passes) (as_list d) false

-- the values of an array, and none where there is no array
abbrev pub values_of : Option Data → List Data
values_of d = unwrap_or (option_and_then as_list d) []

-- the member is there, and passes
abbrev pub has : List ℕ → (Data → Bool) → Data → Bool
has key passes d = option_map_or passes (get key d) false

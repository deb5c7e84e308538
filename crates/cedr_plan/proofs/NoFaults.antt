-- What a node without a fault is: each predicate that doesn't hold gives a rule of the node.
use Rattle.std.proofs.Common.{◌≡◌, ℕ, zero, suc, ◌^◌, ◌≤◌, ◌<◌, Bool, true, false, not, ◌&&◌, ◌||◌, List, [], ◌∷◌, length, Option, Some, None, is_some, IfSome, codes, option_and_then, unwrap_or, nat_le, nat_lt, refl, ap, sym, true≢false, arith}
use Rattle.std.specs.Bool.{if◌then◌else◌}
use Rattle.std.specs.Option.{option_map_or}
use Rattle.std.specs.List.{AllByRecursion, list_any, filter_map, cons_option, slice_get}
use Rattle.std.proofs.lemmas.Bool.{or_parts, and_parts, leb-true, leb-false, ltb-false}
use Rattle.std.proofs.lemmas.Option.{slice_get_within}
use Rattle.serde_json.specs.Data.{Data, Num}
use Rattle.serde_json.specs.Find.{get, as_str, as_u64, as_number}
use Rattle.cedr_base.specs.declared.field.FieldType.{FieldType}
use Rattle.cedr_base.specs.declared.field.FieldType.TheVariants as field_type
use Rattle.cedr_expr.specs.Types.{first_type_fault, first_bad_column, first_differing, first_past_end, keep_fault_of, same_type, type_fault_of}
use Rattle.cedr_plan.specs.Drawn.{Node}
use Rattle.cedr_plan.specs.Places.{is_output}
use Rattle.cedr_plan.specs.Json.{as_list, as_whole, is_number, is_text, is_whole_within, is_word, has, values_of}
use Rattle.cedr_plan.specs.Levels.{strong, middle, is_bad_bound, has_bad_bound, is_unknown_level, bound_at, level_of, has_block_over_memory}
use Rattle.cedr_plan.specs.Nodes.{is_name, is_name_value, text_at, number_at, place_of, is_unknown, tests_at, is_text_column, same_types}
use Rattle.cedr_plan.specs.Rules.{IsInput, IsBound, IsLevel}
use Rattle.cedr_plan.specs.Tests.{test_of}
use Rattle.cedr_plan.proofs.TestLemmas.{not_false, length-filter_map, nowhere}

-- ---- names

named_text : (s : Option (List ℕ)) → option_map_or is_name s false ≡ true → is_name (unwrap_or s []) ≡ true
named_text None h = absurd (true≢false (sym h))
named_text (Some text) h = h

named : (o : Option Data) → option_map_or is_name_value o false ≡ true → is_name (unwrap_or (option_and_then as_str o) []) ≡ true
named None h = absurd (true≢false (sym h))
named (Some x) h = named_text (as_str x) h

-- a name in its form is the node's
pub name_there : (d : Data) → has (codes "name") is_name_value d ≡ true → is_name (text_at (codes "name") d) ≡ true
name_there d h = named (get (codes "name") d) h

-- ---- inputs

known : (earlier : List Node) (place : ℕ) (found : Option Node) → slice_get earlier place ≡ found → option_map_or (λ (node : Node). is_output node.kind) found true ≡ false → (place < length earlier) × IfSome found (λ node. is_output node.kind ≡ false)
known earlier place None e h = absurd (true≢false h)
known earlier place (Some node) e h = (slice_get_within earlier place node e, h)

known_first : (earlier : List Node) (o : Option ℕ) (rest : List ℕ) (n : ℕ) → option_map_or (λ place. option_map_or (λ (node : Node). is_output node.kind) (slice_get earlier place) true) o true ≡ false
    → (length rest ≡ n) × AllByRecursion (IsInput earlier) rest → (length (cons_option o rest) ≡ suc n) × AllByRecursion (IsInput earlier) (cons_option o rest)
known_first earlier None rest n h r = absurd (true≢false h)
known_first earlier (Some place) rest n h r = (ap suc r.0, (known earlier place (slice_get earlier place) refl h, r.1))

-- values that are all known name an earlier node each
pub inputs_known : (earlier : List Node) (values : List Data) → list_any (is_unknown earlier) values ≡ false
    → (length (filter_map (place_of earlier) values) ≡ length values) × AllByRecursion (IsInput earlier) (filter_map (place_of earlier) values)
inputs_known earlier [] h = (refl, tt)
inputs_known earlier (v ∷ vs) h =
    let parts = or_parts (is_unknown earlier v) (list_any (is_unknown earlier) vs) h in
    known_first earlier (place_of earlier v) (filter_map (place_of earlier) vs) (length vs) parts.0 (inputs_known earlier vs parts.1)

-- ---- numbers

number_in : (low high : ℕ) (w : Option ℕ) → option_map_or (λ n. nat_le low n && nat_le n high) w false ≡ true → (low ≤ unwrap_or w 0) × (unwrap_or w 0 ≤ high)
number_in low high None h = absurd (true≢false (sym h))
number_in low high (Some n) h =
    let parts = and_parts (nat_le low n) (nat_le n high) h in
    (leb-true low n parts.0, leb-true n high parts.1)

number_found : (most : ℕ) (o : Option Data) → option_map_or is_number o false ≡ true → option_map_or (λ x. not (is_whole_within 1 most x)) o false ≡ false
    → (1 ≤ unwrap_or (option_and_then as_whole o) 0) × (unwrap_or (option_and_then as_whole o) 0 ≤ most)
number_found most None there whole = absurd (true≢false (sym there))
number_found most (Some x) there whole = number_in 1 most (as_whole x) (not_false _ whole)

-- a number that is there, whole and in its range
pub number_there : (most : ℕ) (key : List ℕ) (d : Data) → has key is_number d ≡ true → has key (λ x. not (is_whole_within 1 most x)) d ≡ false → (1 ≤ number_at key d) × (number_at key d ≤ most)
number_there most key d there whole = number_found most (get key d) there whole

-- ---- levels

bound_whole : (w : Option ℕ) → not (option_map_or (λ n. nat_le 0 n && nat_le n (2 ^ 40)) w false) ≡ false → IsBound w
bound_whole None h = tt
bound_whole (Some n) h = (number_in 0 (2 ^ 40) (Some n) (not_false _ h)).1

bound_number : (n : Option Num) → (is_some n && not (option_map_or (λ n. nat_le 0 n && nat_le n (2 ^ 40)) (option_and_then as_u64 n) false)) ≡ false → IsBound (option_and_then as_u64 n)
bound_number None h = tt
bound_number (Some n) h = bound_whole (as_u64 n) h

bound_found : (o : Option Data) → option_map_or is_bad_bound o false ≡ false → IsBound (option_and_then as_whole o)
bound_found None h = tt
bound_found (Some x) h = bound_number (as_number x) h

level_by : (text strong_word : Bool) (block memory : Option ℕ) → IsBound block → IsBound memory
    → has_block_over_memory (if text then (if strong_word then strong else middle) else record { block = block; memory = memory }) ≡ false
    → IsLevel (if text then (if strong_word then strong else middle) else record { block = block; memory = memory })
level_by true true block memory b m h = record { block = tt; memory = tt; block_within_memory = h }
level_by true false block memory b m h = record { block = omega arith; memory = tt; block_within_memory = h }
level_by false w block memory b m h = record { block = b; memory = m; block_within_memory = h }

-- a level without a fault keeps its rules
pub level_there : (d : Data) → has_bad_bound d ≡ false → (is_unknown_level d || has_block_over_memory (level_of d)) ≡ false → IsLevel (level_of d)
level_there d bounds h =
    let parts = or_parts (has (codes "block") is_bad_bound d) (has (codes "memory") is_bad_bound d) bounds in
    let over = or_parts (is_unknown_level d) (has_block_over_memory (level_of d)) h in
    level_by (is_text d) (is_word (codes "strong") d) (bound_at (codes "block") d) (bound_at (codes "memory") d)
    (bound_found (get (codes "block") d) parts.0) (bound_found (get (codes "memory") d) parts.1) over.1

-- the middle level keeps the rules of a level
pub middle_level : IsLevel middle
middle_level = record { block = omega arith; memory = tt; block_within_memory = refl }

level_found : (o : Option Data) → option_map_or has_bad_bound o false ≡ false → option_map_or (λ level. is_unknown_level level || has_block_over_memory (level_of level)) o false ≡ false → IsLevel (option_map_or level_of o middle)
level_found None bounds bad = middle_level
level_found (Some level) bounds bad = level_there level bounds bad

level_in : (ports : Bool) (o : Option Data) → (ports && option_map_or has_bad_bound o false) ≡ false → (ports && option_map_or (λ level. is_unknown_level level || has_block_over_memory (level_of level)) o false) ≡ false
    → IsLevel (if ports then option_map_or level_of o middle else middle)
level_in true o bounds bad = level_found o bounds bad
level_in false o bounds bad = middle_level

-- a node's level without a fault keeps the rules of a level; without ports, or where none is given, it is the
-- middle one
pub level_at_ports : (ports : Bool) (d : Data) → (ports && has (codes "level") has_bad_bound d) ≡ false → (ports && has (codes "level") (λ level. is_unknown_level level || has_block_over_memory (level_of level)) d) ≡ false
    → IsLevel (if ports then option_map_or level_of (get (codes "level") d) middle else middle)
level_at_ports ports d = level_in ports (get (codes "level") d)

-- ---- tests and columns

few_listed : (l : Option (List Data)) → option_map_or (λ tests. nat_lt 16 (length tests)) l false ≡ false → length (filter_map test_of (unwrap_or l [])) ≤ 16
few_listed None h = omega arith
few_listed (Some values) h = omega (arith, ltb-false 16 (length values) h, length-filter_map test_of values)

few_found : (o : Option Data) → option_map_or (λ x. option_map_or (λ tests. nat_lt 16 (length tests)) (as_list x) false) o false ≡ false → length (filter_map test_of (values_of o)) ≤ 16
few_found None h = omega arith
few_found (Some x) h = few_listed (as_list x) h

-- at most 16 values make at most 16 tests
pub few_tests : (d : Data) → has (codes "where") (λ x. option_map_or (λ tests. nat_lt 16 (length tests)) (as_list x) false) d ≡ false → length (tests_at d) ≤ 16
few_tests d h = few_found (get (codes "where") d) h

no_type_fault : (bad differing : Option ℕ) → is_some bad ≡ false → is_some differing ≡ false → first_type_fault bad differing ≡ None
no_type_fault None None b e = refl
no_type_fault None (Some place) b e = absurd (true≢false e)
no_type_fault (Some place) differing b e = absurd (true≢false b)

-- tests with no bad column and no difference of types fit
pub tests_fit : (d : Data) (types : List FieldType) → is_some (first_bad_column (tests_at d) types []) ≡ false → is_some (first_differing (tests_at d) types []) ≡ false → type_fault_of (tests_at d) types [] ≡ None
tests_fit d types b e = no_type_fault (first_bad_column (tests_at d) types []) (first_differing (tests_at d) types []) b e

no_keep_fault : (columns : List ℕ) (types : List FieldType) (o : Option ℕ) → first_past_end columns types ≡ o → is_some o ≡ false → keep_fault_of columns types ≡ None
no_keep_fault columns types None e h = rw e
no_keep_fault columns types (Some place) e h = absurd (true≢false h)

-- columns of which none is past the end fit
pub columns_fit : (columns : List ℕ) (types : List FieldType) → is_some (first_past_end columns types) ≡ false → keep_fault_of columns types ≡ None
columns_fit columns types h = no_keep_fault columns types (first_past_end columns types) refl h

number_column : (types : List FieldType) (column : ℕ) → column < length types → is_text_column types column ≡ false → slice_get types column ≡ Some field_type.Number
number_column [] column within text = absurd (omega arith)
number_column (field_type.Number ∷ types) zero within text = refl
number_column (field_type.Bytes ∷ types) zero within text = absurd (true≢false text)
number_column (type ∷ types) (suc column) within text = number_column types column (omega arith) text

all_numbers : (types : List FieldType) (columns : List ℕ) → list_any (λ column. nat_le (length types) column) columns ≡ false → list_any (is_text_column types) columns ≡ false
    → AllByRecursion (λ column. slice_get types column ≡ Some field_type.Number) columns
all_numbers types [] past text = tt
all_numbers types (column ∷ columns) past text =
    let here = or_parts (nat_le (length types) column) (list_any (λ column. nat_le (length types) column) columns) past in
    let typed = or_parts (is_text_column types column) (list_any (is_text_column types) columns) text in
    (number_column types column (leb-false (length types) column here.0) typed.0, all_numbers types columns here.1 typed.1)

-- columns that are there and are no texts are numbers
pub sums_fit : (types : List FieldType) (columns : List ℕ) → is_some (first_past_end columns types) ≡ false → list_any (is_text_column types) columns ≡ false
    → AllByRecursion (λ column. slice_get types column ≡ Some field_type.Number) columns
sums_fit types columns past text = all_numbers types columns (nowhere (λ column. nat_le (length types) column) columns past) text

same_is_equal : (a b : FieldType) → same_type a b ≡ true → b ≡ a
same_is_equal field_type.Number field_type.Number h = refl
same_is_equal field_type.Number field_type.Bytes h = absurd (true≢false (sym h))
same_is_equal field_type.Bytes field_type.Number h = absurd (true≢false (sym h))
same_is_equal field_type.Bytes field_type.Bytes h = refl

-- lists of types that are the same are equal
pub same_are_equal : (xs ys : List FieldType) → same_types xs ys ≡ true → ys ≡ xs
same_are_equal [] [] h = refl
same_are_equal [] (y ∷ ys) h = absurd (true≢false (sym h))
same_are_equal (x ∷ xs) [] h = absurd (true≢false (sym h))
same_are_equal (x ∷ xs) (y ∷ ys) h =
    let parts = and_parts (same_type x y) (same_types xs ys) h in
    let here = same_is_equal x y parts.0 in
    let rest = same_are_equal xs ys parts.1 in
    cc

-- ports of which none is unlike the first are all alike
pub ports_alike : (first : List FieldType) (ports : List (List FieldType)) → list_any (λ types. not (same_types first types)) ports ≡ false → AllByRecursion (λ types. types ≡ first) ports
ports_alike first [] h = tt
ports_alike first (types ∷ ports) h =
    let parts = or_parts (not (same_types first types)) (list_any (λ types. not (same_types first types)) ports) h in
    (same_are_equal first types (not_false _ parts.0), ports_alike first ports parts.1)

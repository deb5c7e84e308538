-- What the rows of a choice that passes tests have in common, and what the search among rows with one tag finds.
use Rattle.std.proofs.Common.{◌≡◌, ℕ, zero, suc, ◌+◌, ◌-◌, ◌<◌, ◌≤◌, List, [], ◌∷◌, ◌++◌, length, Bool, true, false, cond, ◌&&◌, Option, Some, None, refl, ap, sym, ◌∙◌, subst, arith, append_assoc}
use Rattle.std.specs.Prelude.{map, nat_eq, IfSome}
use Rattle.std.specs.List.{filter, flat_map, slice_get, All}
use Rattle.std.specs.declared.cmp.Ordering.TheVariants.{Greater}
use Rattle.std.specs.Ordering.{is_le, nat_cmp, ordering_then}
use Rattle.std.specs.Cmp.{nat_cmp_is}
use Rattle.std.proofs.lemmas.Bool.{eq-eqb, eqb-true, and_parts}
use Rattle.std.proofs.lemmas.List.{length-append, map-set, length-set}
use Rattle.std.proofs.lemmas.List.Elements.{All-head, All-tail}
use Rattle.cedr_base.specs.declared.field.Field.{Field}
use Rattle.cedr_base.specs.declared.row.Row.{Row}
use Rattle.cedr_base.specs.Order.{payload_cmp}
use Rattle.cedr_base.specs.Rows.{count_of, one_if_same, same_row, SameRows}
use Rattle.cedr_base.proofs.Bags.{count_of-cons, one_of_itself, same_row_exact}
use Rattle.change_laws.specs.Times.{later}
use Rattle.change_laws.proofs.BagSums.{sum_by-same}
use Rattle.cedr_table.specs.Counted.{IsFirst}
use Rattle.cedr_table.specs.Operators.{Tables, SameTables, table_at, with_table}
use Rattle.cedr_table.specs.PortLaws.{same_at}
use Rattle.cedr_table.specs.Choices.{choices, chosen}
use Rattle.cedr_table.proofs.ChoiceLemmas.{same_chosen}
use Rattle.cedr_expr.specs.declared.test.Test.{Test}
use Rattle.cedr_expr.specs.Tests.{passes}
use Rattle.cedr_expr.proofs.TieLemmas.{column_left, column_right}
use Rattle.pat_state.specs.declared.keyed.Keyed.{Keyed}
use Rattle.pat_state.specs.Starts.{endless, all_endless, endless_tables}
use Rattle.pat_state.specs.Ascending.{ascends, payloads_joined, choice_row, sequence}
use Rattle.pat_state.specs.Steps.{matches, picked}
use Rattle.pat_state.specs.Keys.{AreAllEqual, IsKey, tag_of_field, column_tag, key_tag, LackTag}
use Rattle.pat_state.specs.Groups.{seen, all_seen, IsKeyed, LacksOthers}
use Rattle.pat_state.proofs.FlatLemmas.{flat_map-none, flat_map-filter}
use Rattle.pat_state.proofs.EndlessLemmas.{endless_at, endless_with, same_with}
use Rattle.pat_state.proofs.TagLemmas.{with_tag, sum_by-filter, sum_by-changed}
use Rattle.pat_state.proofs.ReachLemmas.{all_pass}
use Rattle.pat_state.proofs.MatchLemmas.{chosen-cons, matches_are}
use Rattle.pat_state.proofs.FindLemmas.{length-picked}
use Rattle.pat_state.proofs.ChosenLemmas.{chosen_same}

-- the rows' payloads have the width
abbrev AllWide : ℕ → List Row → Type 0
AllWide width [] = Unit {0}
AllWide width (r ∷ rs) = (length r.payload ≡ width) × AllWide width rs

-- the rows' payloads have the field in the column
abbrev AllHave : ℕ → Option Field → List Row → Type 0
AllHave column field [] = Unit {0}
AllHave column field (r ∷ rs) = (slice_get r.payload column ≡ field) × AllHave column field rs

column_after : (before rest : List Field) (column : ℕ) → slice_get (before ++ rest) (length before + column) ≡ slice_get rest column
column_after before rest column =
    let e : (length before + column) - length before ≡ column = omega arith in
    column_right before rest (length before + column) (omega arith) ∙ ap (slice_get rest) e

-- where columns of the joined payload are equal, each row has the field
each_has : (tests : List Test) (column width : ℕ) (field : Option Field) (joined : List Field) → passes tests joined [] ≡ true → slice_get joined column ≡ field → column < width
    → (rs : List Row) (before : List Field) (at : ℕ) → joined ≡ before ++ payloads_joined rs → at ≡ length before + column → AllWide width rs → AreAllEqual tests column width at (length rs) → AllHave column field rs
each_has tests column width field joined h has within [] before at is place wide all = tt
each_has tests column width field joined h has within (r ∷ rs) before at is place wide all =
    let fits = wide.0 in
    let inside : column < length r.payload = omega arith in
    let here : slice_get joined at ≡ slice_get r.payload column =
    (λ i. slice_get (is i) (place i))
    ∙ (column_after before (r.payload ++ payloads_joined rs) column
    ∙ column_left r.payload (payloads_joined rs) column inside) in
    let next : at + width ≡ length (before ++ r.payload) + column = omega (arith, place, fits, length-append before r.payload) in (
      sym here ∙ (sym (all.0 joined h) ∙ has),
      each_has tests column width field joined h has within rs (before ++ r.payload) (at + width) (is ∙ sym (append_assoc before r.payload (payloads_joined rs))) next wide.1 all.1,
    )

-- a row has a tag
abbrev pub has_key : ℕ → Option ℕ → ℕ → Row → Bool
has_key width column tag r = nat_eq (key_tag width column r.payload) tag

all_with : (width column : ℕ) (field : Option Field) (tag : ℕ) (rs : List Row) → tag ≡ tag_of_field field → AllWide width rs → AllHave column field rs → all_pass (has_key width (Some column) tag) rs ≡ true
all_with width column field tag [] at wide has = refl
all_with width column field tag (r ∷ rs) at wide has =
    let fits = eq-eqb (length r.payload) width wide.0 in
    let one = eq-eqb (key_tag width (Some column) r.payload) tag ((λ i. cond (fits i) (tag_of_field (has.0 i)) 0) ∙ sym at) in
    λ i. one i && all_with width column field tag rs at wide.1 has.1 i

all_without : (width tag : ℕ) (rs : List Row) → tag ≡ 1 → AllWide width rs → all_pass (has_key width None tag) rs ≡ true
all_without width tag [] at wide = refl
all_without width tag (r ∷ rs) at wide =
    let fits = eq-eqb (length r.payload) width wide.0 in
    let one = eq-eqb (key_tag width None r.payload) tag (ap {B = ℕ} (λ b. cond b 1 0) fits ∙ sym at) in
    λ i. one i && all_without width tag rs at wide.1 i

-- the rows of a choice that passes have one tag
all_alike : (tests : List Test) (number width : ℕ) (column : Option ℕ) (x : Row) (rs : List Row) → IsKey tests number width column → length rs ≡ number → AllWide width rs → length x.payload ≡ width
    → ((c : ℕ) (field : Option Field) → AllHave c field rs → slice_get x.payload c ≡ field) → passes tests (payloads_joined rs) [] ≡ true → all_pass (has_key width column (key_tag width column x.payload)) rs ≡ true
all_alike tests number width None x rs key size wide fits has h =
    let same = eq-eqb (length x.payload) width fits in
    all_without width (key_tag width None x.payload) rs (ap {B = ℕ} (λ b. cond b 1 0) same) wide
all_alike tests number width (Some column) x rs key size wide fits has h =
    let same = eq-eqb (length x.payload) width fits in
    let all = each_has tests column width (slice_get (payloads_joined rs) column) (payloads_joined rs) h refl key.0 rs [] column refl (omega arith) wide (subst (λ (n : ℕ). AreAllEqual tests column width column n) (sym size) key.1) in
    let field = has column (slice_get (payloads_joined rs) column) all in
    all_with width column (slice_get (payloads_joined rs) column) (key_tag width (Some column) x.payload) rs (λ i. cond (same i) (tag_of_field (field i)) 0) wide all

none_whatever : (b : Bool) (rows : List Row) → rows ≡ [] → rows ≡ cond b rows []
none_whatever true rows none = refl
none_whatever false rows none = none

-- so a choice gives nothing unless its rows have one tag
gated_at : (scope : ℕ) (tests : List Test) (q : Row → Bool) (e : Row) (es : List Row) (b : Bool) → (ascends e.begin (later e.begin scope) es && passes tests (payloads_joined (e ∷ es)) []) ≡ b → (passes tests (payloads_joined (e ∷ es)) [] ≡ true → all_pass q (e ∷ es) ≡ true)
    → sequence scope tests (e ∷ es) ≡ cond (all_pass q (e ∷ es)) (sequence scope tests (e ∷ es)) []
gated_at scope tests q e es true is all =
    let passed = (and_parts (ascends e.begin (later e.begin scope) es) (passes tests (payloads_joined (e ∷ es)) []) is).1 in
    ap (λ d. cond d (sequence scope tests (e ∷ es)) []) (sym (all passed))
gated_at scope tests q e es false is all = none_whatever (all_pass q (e ∷ es)) (sequence scope tests (e ∷ es)) (ap (λ d. cond d (choice_row scope e es ∷ []) []) is)

gated : (scope : ℕ) (tests : List Test) (q : Row → Bool) (rs : List Row) → (passes tests (payloads_joined rs) [] ≡ true → all_pass q rs ≡ true) → sequence scope tests rs ≡ cond (all_pass q rs) (sequence scope tests rs) []
gated scope tests q [] all = refl
gated scope tests q (e ∷ es) all = gated_at scope tests q e es (ascends e.begin (later e.begin scope) es && passes tests (payloads_joined (e ∷ es)) []) refl all

-- the rows are one of each table
abbrev IsChoice : Tables → List Row → Type 0
IsChoice [] [] = Unit {0}
IsChoice [] (r ∷ rs) = ⊥
IsChoice (t ∷ ts) [] = ⊥
IsChoice (t ∷ ts) (r ∷ rs) = (0 < count_of r t) × IsChoice ts rs

made_alike : (f g : Row → List Row) (xs : List Row) → ((x : Row) → 0 < count_of x xs → f x ≡ g x) → flat_map f xs ≡ flat_map g xs
made_alike f g [] same = refl
made_alike f g (x ∷ xs) same = λ i. same x (omega (arith, count_of-cons x x xs, one_of_itself x)) i ++ made_alike f g xs (λ y there. same y (omega (arith, there, count_of-cons y x xs))) i

chosen_alike : (f g : List Row → List Row) (ts : Tables) → ((rs : List Row) → IsChoice ts rs → f rs ≡ g rs) → chosen f ts ≡ chosen g ts
chosen_alike f g [] same = ap (λ rows. rows ++ []) (same [] tt)
chosen_alike f g (t ∷ ts) same =
    chosen-cons f t ts
    ∙ (made_alike (λ r. chosen (λ rs. f (r ∷ rs)) ts) (λ r. chosen (λ rs. g (r ∷ rs)) ts) t (λ r there. chosen_alike (λ rs. f (r ∷ rs)) (λ rs. g (r ∷ rs)) ts (λ rs is. same (r ∷ rs) (there, is)))
    ∙ sym (chosen-cons g t ts))

-- the choices of rows that pass are the choices of which all rows pass
sifted : (f : List Row → List Row) (q : Row → Bool) (ts : Tables) → chosen f (map (filter q) ts) ≡ chosen (λ rs. cond (all_pass q rs) (f rs) []) ts
sifted f q [] = refl
sifted f q (t ∷ ts) =
    chosen-cons f (filter q t) (map (filter q) ts)
    ∙ (flat_map-filter (λ r. chosen (λ rs. f (r ∷ rs)) (map (filter q) ts)) (λ r. chosen (λ rs. cond (all_pass q (r ∷ rs)) (f (r ∷ rs)) []) ts) q t
    (λ r is. sifted (λ rs. f (r ∷ rs)) q ts ∙ ap (λ b. chosen (λ rs. cond (b && all_pass q rs) (f (r ∷ rs)) []) ts) (sym is))
    (λ r fails. sym (flat_map-none (λ rs. cond (all_pass q (r ∷ rs)) (f (r ∷ rs)) []) (choices ts) (λ rs. ap (λ b. cond (b && all_pass q rs) (f (r ∷ rs)) []) fails)))
    ∙ sym (chosen-cons (λ rs. cond (all_pass q rs) (f rs) []) t ts))

choice_length : (ts : Tables) (rs : List Row) → IsChoice ts rs → length rs ≡ length ts
choice_length [] [] is = refl
choice_length [] (r ∷ rs) is = absurd is
choice_length (t ∷ ts) [] is = absurd is
choice_length (t ∷ ts) (r ∷ rs) is = ap (λ n. suc n) (choice_length ts rs is.1)

-- the payloads of a table's rows have the width
abbrev IsWide : ℕ → List Row → Type 0
IsWide width t = (r : Row) → 0 < count_of r t → length r.payload ≡ width

abbrev AreWide : ℕ → Tables → Type 0
AreWide width [] = Unit {0}
AreWide width (t ∷ ts) = IsWide width t × AreWide width ts

choice_wide : (width : ℕ) (ts : Tables) (rs : List Row) → AreWide width ts → IsChoice ts rs → AllWide width rs
choice_wide width [] [] wide is = tt
choice_wide width [] (r ∷ rs) wide is = absurd is
choice_wide width (t ∷ ts) [] wide is = absurd is
choice_wide width (t ∷ ts) (r ∷ rs) wide is = (wide.0 r is.0, choice_wide width ts rs wide.1 is.1)

only_row_at : (r x : Row) (b : Bool) → same_row r x ≡ b → 0 < cond {A = ℕ} b 1 0 → r ≡ x
only_row_at r x true is there = same_row_exact r x is
only_row_at r x false is there = absurd (omega (arith, there))

only_row : (r x : Row) → 0 < count_of r (x ∷ []) → r ≡ x
only_row r x there = only_row_at r x (same_row r x) refl (omega (arith, there, count_of-cons r x []))

-- a changed row is in each choice with it
choice_has : (x : Row) (port : ℕ) (ts : Tables) (rs : List Row) → port < length ts → IsChoice (with_table ts port (x ∷ [])) rs → (c : ℕ) (field : Option Field) → AllHave c field rs → slice_get x.payload c ≡ field
choice_has x port [] rs within is c field has = absurd (omega arith)
choice_has x zero (t ∷ ts) [] within is c field has = absurd is
choice_has x zero (t ∷ ts) (r ∷ rs) within is c field has = ap (λ (e : Row). slice_get e.payload c) (sym (only_row r x is.0)) ∙ has.0
choice_has x (suc port) (t ∷ ts) [] within is c field has = absurd is
choice_has x (suc port) (t ∷ ts) (r ∷ rs) within is c field has = choice_has x port ts rs (omega arith) is.1 c field has.1

wide_with : (width : ℕ) (x : Row) (port : ℕ) (ts : Tables) → length x.payload ≡ width → AreWide width ts → AreWide width (with_table ts port (x ∷ []))
wide_with width x port [] fits wide = tt
wide_with width x zero (t ∷ ts) fits wide = (λ r there. ap (λ (e : Row). length e.payload) (only_row r x there) ∙ fits, wide.1)
wide_with width x (suc port) (t ∷ ts) fits wide = (wide.0, wide_with width x port ts fits wide.1)

-- the rows with the changed row's tag give the choices with it
chosen_by_key : (scope : ℕ) (tests : List Test) (number width : ℕ) (column : Option ℕ) (x : Row) (port : ℕ) (ts : Tables) → IsKey tests number width column → length ts ≡ number → port < length ts → AreWide width ts → length x.payload ≡ width
    → chosen (sequence scope tests) (with_table (map (filter (has_key width column (key_tag width column x.payload))) ts) port (x ∷ [])) ≡ chosen (sequence scope tests) (with_table ts port (x ∷ []))
chosen_by_key scope tests number width column x port ts key size within wide fits =
    let q = has_key width column (key_tag width column x.payload) in
    let with_x = with_table ts port (x ∷ []) in
    let itself = eq-eqb (key_tag width column x.payload) (key_tag width column x.payload) refl in
    let one : filter (has_key width column (key_tag width column x.payload)) (x ∷ []) ≡ x ∷ [] = ap (λ b. cond b (x ∷ []) []) itself in
    let tables = map-set (filter q) ts port (x ∷ []) ∙ ap (with_table (map (filter q) ts) port) one in
    ap (chosen (sequence scope tests)) (sym tables)
    ∙ (sifted (sequence scope tests) q with_x
    ∙ sym (chosen_alike (sequence scope tests) (λ rs. cond (all_pass q rs) (sequence scope tests rs) []) with_x
    (λ rs is. gated scope tests q rs (all_alike tests number width column x rs key (choice_length with_x rs is ∙ (length-set ts port (x ∷ []) ∙ size)) (choice_wide width with_x rs (wide_with width x port ts fits wide) is) fits (choice_has x port ts rs within is)))))

-- a port's rows with a tag, but for their ends
seen_by_key : (width : ℕ) (column : Option ℕ) (tag : ℕ) (port : Keyed) → IsKeyed width column port → SameRows (all_endless (seen (Some tag) port)) (all_endless (filter (has_key width column tag) port.rows))
seen_by_key width column tag port keyed = record {
  each = λ r.
      let u = λ (x : Row). one_if_same r (endless x) in
      let p = λ (x : Row). nat_eq x.end tag in
      let q = has_key width column tag in
      sum_by-changed (one_if_same r) u endless (filter p port.tags) (λ x. refl)
      ∙ (sum_by-filter u p port.tags
      ∙ (sum_by-same (λ x. cond (p x) (u x) 0) port.tags (map (with_tag (key_tag width column)) port.rows) keyed.tagged.same
      ∙ (sum_by-changed (λ x. cond (p x) (u x) 0) (λ x. cond (q x) (u x) 0) (with_tag (key_tag width column)) port.rows (λ x. refl)
      ∙ (sym (sum_by-filter u q port.rows)
      ∙ sym (sum_by-changed (one_if_same r) u endless (filter q port.rows) (λ x. refl))))));
}

all_seen_by_key : (width : ℕ) (column : Option ℕ) (tag : ℕ) (ports : List Keyed) → All (IsKeyed width column) ports → SameTables (endless_tables (all_seen (Some tag) ports)) (endless_tables (map (filter (has_key width column tag)) (all_seen None ports)))
all_seen_by_key width column tag [] keyed = tt
all_seen_by_key width column tag (p ∷ ports) keyed = (seen_by_key width column tag p (All-head (IsKeyed width column) p ports keyed), all_seen_by_key width column tag ports (All-tail (IsKeyed width column) p ports keyed))

same_picked : (order : List ℕ) (ts us : Tables) → SameTables (endless_tables ts) (endless_tables us) → SameTables (endless_tables (picked order ts)) (endless_tables (picked order us))
same_picked [] ts us same = tt
same_picked (port ∷ order) ts us same = (subst (λ (xs : List Row). SameRows xs (all_endless (table_at us port))) (endless_at ts port) (subst (SameRows (table_at (endless_tables ts) port)) (endless_at us port) (same_at port (endless_tables ts) (endless_tables us) same)), same_picked order ts us same)

filtered_at : (q : Row → Bool) (ts : Tables) (port : ℕ) → filter q (table_at ts port) ≡ table_at (map (filter q) ts) port
filtered_at q [] port = refl
filtered_at q (t ∷ ts) zero = refl
filtered_at q (t ∷ ts) (suc port) = filtered_at q ts port

filtered_picked : (q : Row → Bool) (order : List ℕ) (ts : Tables) → map (filter q) (picked order ts) ≡ picked order (map (filter q) ts)
filtered_picked q [] ts = refl
filtered_picked q (port ∷ order) ts = λ i. filtered_at q ts port i ∷ filtered_picked q order ts i

mapped_there : (f : Row → Row) (r : Row) (xs : List Row) → count_of r xs ≤ count_of (f r) (map f xs)
mapped_there f r [] = omega arith
mapped_there f r (x ∷ xs) = omega (arith, count_of-cons r x xs, count_of-cons (f r) (f x) (map f xs), one x (same_row r x) refl, mapped_there f r xs) where
  one : (x : Row) (b : Bool) → same_row r x ≡ b → cond {A = ℕ} b 1 0 ≤ one_if_same (f r) (f x)
  one x true is = omega (arith, ap (λ (y : Row). one_if_same (f r) (f y)) (same_row_exact r x is), one_of_itself (f r))
  one x false is = omega arith

wide_at : (width : ℕ) (column : Option ℕ) (r : Row) (b : Bool) → nat_eq (length r.payload) width ≡ b → (key_tag width column r.payload ≡ 0 → ⊥) → length r.payload ≡ width
wide_at width column r true is some = eqb-true (length r.payload) width is
wide_at width column r false is some = absurd (some (ap {B = ℕ} (λ b. cond b (column_tag column r.payload) 0) is))

-- a port's rows have the width where none has the tag 0
wide_port : (width : ℕ) (column : Option ℕ) (port : Keyed) → IsKeyed width column port → LacksOthers port → IsWide width port.rows
wide_port width column port keyed lacks = λ r there.
    let tag = key_tag width column in
    wide_at width column r (nat_eq (length r.payload) width) refl (lacks (with_tag tag r) (omega (arith, there, mapped_there (with_tag tag) r port.rows, keyed.tagged.same.each (with_tag tag r))))

wide_ports : (width : ℕ) (column : Option ℕ) (ports : List Keyed) → All (IsKeyed width column) ports → All LacksOthers ports → AreWide width (all_seen None ports)
wide_ports width column [] keyed lacks = tt
wide_ports width column (p ∷ ports) keyed lacks = (wide_port width column p (All-head (IsKeyed width column) p ports keyed) (All-head LacksOthers p ports lacks), wide_ports width column ports (All-tail (IsKeyed width column) p ports keyed) (All-tail LacksOthers p ports lacks))

wide_table : (width : ℕ) (ts : Tables) (port : ℕ) → AreWide width ts → IsWide width (table_at ts port)
wide_table width [] port wide = λ r there. absurd (omega (arith, there))
wide_table width (t ∷ ts) zero wide = wide.0
wide_table width (t ∷ ts) (suc port) wide = wide_table width ts port wide.1

wide_picked : (width : ℕ) (order : List ℕ) (ts : Tables) → AreWide width ts → AreWide width (picked order ts)
wide_picked width [] ts wide = tt
wide_picked width (port ∷ order) ts wide = (wide_table width ts port wide, wide_picked width order ts wide)

-- the choices depend on bags alone, and not on the rows' ends
chosen_bags : (scope : ℕ) (tests : List Test) (ts us : Tables) (port : ℕ) (x : Row) → SameTables (endless_tables ts) (endless_tables us) → SameRows (chosen (sequence scope tests) (with_table ts port (x ∷ []))) (chosen (sequence scope tests) (with_table us port (x ∷ [])))
chosen_bags scope tests ts us port x same =
    let f = sequence scope tests in
    let rows = λ (vs : Tables). chosen f (with_table vs port (x ∷ [])) in
    let ends = λ (vs : Tables). sym (ap (chosen f) (endless_with vs port (x ∷ []))) ∙ chosen_same scope tests (with_table vs port (x ∷ [])) in
    subst (λ xs. SameRows xs (rows us)) (ends ts)
    (subst (SameRows (chosen f (with_table (endless_tables ts) port (all_endless (x ∷ []))))) (ends us)
    (same_chosen f (with_table (endless_tables ts) port (all_endless (x ∷ []))) (with_table (endless_tables us) port (all_endless (x ∷ [])))
    (same_with (endless_tables ts) (endless_tables us) port (all_endless (x ∷ [])) (all_endless (x ∷ [])) same (record { each = λ r. refl }))))

-- what is found among the rows with the changed row's tag is what is found among all rows
found_by_key : (scope : ℕ) (tests : List Test) (number width : ℕ) (column : Option ℕ) (x : Row) (changed : ℕ) (order : List ℕ) (ports : List Keyed) (tag : ℕ) (found : List Row)
    → IsKey tests number width column → All (IsKeyed width column) ports → All LacksOthers ports → length order ≡ number → changed < length order → length x.payload ≡ width → tag ≡ key_tag width column x.payload
    → found ≡ matches scope tests x changed (picked order (all_seen (Some tag) ports)) → SameRows found (matches scope tests x changed (picked order (all_seen None ports)))
found_by_key scope tests number width column x changed order ports tag found key keyed lacks size within fits at is =
    let f = sequence scope tests in
    let t = key_tag width column x.payload in
    let q = has_key width column t in
    let all = picked order (all_seen None ports) in
    let some = picked order (all_seen (Some t) ports) in
    let few = picked order (map (filter q) (all_seen None ports)) in
    let here : found ≡ chosen (sequence scope tests) (with_table (picked order (all_seen (Some (key_tag width column x.payload)) ports)) changed (x ∷ [])) =
    is ∙ (ap (λ (n : ℕ). matches scope tests x changed (picked order (all_seen (Some n) ports))) at ∙ matches_are scope tests x changed some (omega (arith, within, length-picked order (all_seen (Some t) ports)))) in
    let there : chosen (sequence scope tests) (with_table (picked order (map (filter (has_key width column (key_tag width column x.payload))) (all_seen None ports))) changed (x ∷ [])) ≡ matches scope tests x changed (picked order (all_seen None ports)) =
    ap (λ (ts : Tables). chosen f (with_table ts changed (x ∷ []))) (sym (filtered_picked q order (all_seen None ports)))
    ∙ (chosen_by_key scope tests number width column x changed all key (length-picked order (all_seen None ports) ∙ size) (omega (arith, within, length-picked order (all_seen None ports))) (wide_picked width order (all_seen None ports) (wide_ports width column ports keyed lacks)) fits
    ∙ sym (matches_are scope tests x changed all (omega (arith, within, length-picked order (all_seen None ports))))) in
    subst (λ rows. SameRows rows (matches scope tests x changed (picked order (all_seen None ports)))) (sym here)
    (subst (SameRows (chosen (sequence scope tests) (with_table (picked order (all_seen (Some (key_tag width column x.payload)) ports)) changed (x ∷ [])))) there
    (chosen_bags scope tests some few changed x (same_picked order (all_seen (Some t) ports) (map (filter q) (all_seen None ports)) (all_seen_by_key width column t ports keyed))))

-- where the first row's tag is above 0, so are all
pub first_above : (a : Row) (rows : List Row) → IsFirst a rows → 0 < a.end → LackTag 0 rows
first_above a rows first above = λ r there zero.
    let after = sym (nat_cmp_is a.end r.end Greater (omega (arith, zero, above))) in
    let k : ordering_then (nat_cmp a.end r.end) (ordering_then (nat_cmp a.begin r.begin) (payload_cmp a.payload r.payload)) ≡ Greater = (λ i. ordering_then (after i) (ordering_then (nat_cmp a.begin r.begin) (payload_cmp a.payload r.payload))) in
    absurd (let z = ap is_le k in let least = first.least r there in cc)

-- so it is with a tag that may not be known
pub found_seen : (scope : ℕ) (tests : List Test) (number width : ℕ) (column : Option ℕ) (x : Row) (changed : ℕ) (order : List ℕ) (ports : List Keyed) (tag : Option ℕ) (found : List Row)
    → IsKey tests number width column → All (IsKeyed width column) ports → IfSome tag (λ _. length order ≡ number) → IfSome tag (λ _. length x.payload ≡ width) → IfSome tag (λ t. t ≡ key_tag width column x.payload) → IfSome tag (λ _. All LacksOthers ports) → changed < length order
    → found ≡ matches scope tests x changed (picked order (all_seen tag ports)) → SameRows found (matches scope tests x changed (picked order (all_seen None ports)))
found_seen scope tests number width column x changed order ports None found key keyed size fits at lacks within is = record { each = λ r. ap (count_of r) is }
found_seen scope tests number width column x changed order ports (Some tag) found key keyed size fits at lacks within is = found_by_key scope tests number width column x changed order ports tag found key keyed lacks size within fits at is

-- What keeps the key with some columns may keep it with ranges that have them.
use Rattle.std.proofs.Common.{◌≡◌, ℕ, zero, suc, ◌+◌, ◌-◌, ◌<◌, ◌≤◌, ◌⊎◌, inl, inr, arith, List, [], ◌∷◌, ◌++◌, length, Bool, true, false, cond, ◌&&◌, leb, refl, subst, sym, ◌∙◌, eqb-true, eq-eqb, replicate, min, max}
use Rattle.std.specs.Prelude.{Option, Some, None, ◌==◌}
use Rattle.std.specs.List.{slice_get, list_any, list_all, AllByRecursion}
use Rattle.std.proofs.lemmas.Bool.{le-leb, lt-ltb, leb-true, and_from, and_parts, or_cases, or_left, or_right}
use Rattle.cedr_expr.specs.declared.test.Op.{Op}
use Rattle.cedr_expr.specs.declared.test.Op.TheVariants.{Eq, Ne, Lt, Le, Gt, Ge}
use Rattle.cedr_expr.specs.declared.test.Operand.{Operand}
use Rattle.cedr_expr.specs.declared.test.Operand.TheVariants as operand
use Rattle.cedr_expr.specs.declared.test.Test.{Test}
use Rattle.cedr_plan.specs.declared.plan.NodeKind.{NodeKind}
use Rattle.cedr_plan.specs.declared.plan.NodeKind.TheVariants as kind
use Rattle.plan_keys.specs.Keys.{KeyedPort, key_places, compares_both, ties, AreTiedTo, AreTiedPlaces, AreInWidth, HaveColumn, IsOneOf, IsTiedJoin, IsTiedFirst, first_repeated, AreOneKind, KeepsKey}
use Rattle.plan_key_choice.specs.declared.range.ColumnRange.{ColumnRange}
use Rattle.plan_key_choice.specs.declared.range.RangedPort.{RangedPort}
use Rattle.plan_key_choice.specs.Ranges.{is_in, one_column, shifted_range, place_ranges, may_compare, may_tie, is_tied_behind, are_tied, is_wide, may_be_tied, may_have, may_have_some, may_keep_first, is_alike, are_alike, common_range, may_repeat, may_keep}

-- a column between the ends of a range is in it
pub in_range : (c : ℕ) (range : ColumnRange) → range.least ≤ c → c ≤ range.most → is_in c range ≡ true
in_range c range low high = and_from (leb range.least c) (leb c range.most) (le-leb range.least c low) (le-leb c range.most high)

-- a column is in a range
pub record Has (range : ColumnRange) (c : ℕ) : Type 0 where
  pub least : range.least ≤ c
  pub most : c ≤ range.most

-- and one that is in it is between its ends
pub has_range : (c : ℕ) (range : ColumnRange) → is_in c range ≡ true → Has range c
has_range c range h =
    let both = and_parts (leb range.least c) (leb c range.most) h in
    record { least = leb-true range.least c both.0; most = leb-true c range.most both.1 }

-- a port's key column is in its range, which its width bounds
pub record IsAdmitted (range : RangedPort) (port : KeyedPort) : Type 0 where
  pub columns : Has range.columns port.column
  pub inside : range.columns.most ≤ range.width - 1
  pub width : range.width ≡ port.width

-- the key column of each port is in its range
abbrev pub AreAdmitted : List RangedPort → List KeyedPort → Type 0
AreAdmitted [] [] = Unit {0}
AreAdmitted [] (p ∷ ports) = ⊥
AreAdmitted (r ∷ ranges) [] = ⊥
AreAdmitted (r ∷ ranges) (p ∷ ports) = IsAdmitted r p × AreAdmitted ranges ports

-- ---- one column for all ports

have_may : (c : ℕ) (ranges : List RangedPort) (ports : List KeyedPort) → AreAdmitted ranges ports → HaveColumn c ports → may_have c ranges ≡ true
have_may c [] ports admitted have = refl
have_may c (r ∷ ranges) [] admitted have = absurd admitted
have_may c (r ∷ ranges) (p ∷ ports) admitted have =
    let inside = admitted.0.columns in
    let same = have.0 in
    and_from (is_in c r.columns) (may_have c ranges) (in_range c r.columns (omega arith) (omega arith)) (have_may c ranges ports admitted.1 have.1)

unwrapped : (c : ℕ) (ports : List KeyedPort) → AllByRecursion (λ (p : KeyedPort). Some c ≡ Some p.column) ports → HaveColumn c ports
unwrapped c [] renamed = tt
unwrapped c (p ∷ ports) renamed = (let e = renamed.0 in cc, unwrapped c ports renamed.1)

renamed_may : (o : Option ℕ) (ranges : List RangedPort) (ports : List KeyedPort) → AreAdmitted ranges ports → AllByRecursion (λ (p : KeyedPort). o ≡ Some p.column) ports → may_have_some o ranges ≡ true
renamed_may (Some c) ranges ports admitted renamed = have_may c ranges ports admitted (unwrapped c ports renamed)
renamed_may None [] ports admitted renamed = refl
renamed_may None (r ∷ ranges) [] admitted renamed = absurd admitted
renamed_may None (r ∷ ranges) (p ∷ ports) admitted renamed = let e = renamed.0 in cc

-- ---- places

-- each place is in its range
abbrev pub HaveAll : List ColumnRange → List ℕ → Type 0
HaveAll [] [] = Unit {0}
HaveAll [] (x ∷ places) = ⊥
HaveAll (r ∷ ranges) [] = ⊥
HaveAll (r ∷ ranges) (x ∷ places) = Has r x × HaveAll ranges places

-- a place of ports behind so many columns isn't among these
places_above : (first column : ℕ) (ports : List KeyedPort) → IsOneOf column (key_places first ports) → first ≤ column
places_above first column [] h = cc
places_above first column (p ∷ ports) h = elim (or_cases (first + p.column == column) (list_any (λ (x : ℕ). x == column) (key_places (first + p.width) ports)) h) [
  | inl here ↦ let e = eqb-true (first + p.column) column here in omega arith
  | inr later ↦ let e = places_above (first + p.width) column ports later in omega arith
]

-- the column is before the places, or is one of them
abbrev Passed : ℕ → ℕ → List KeyedPort → Type 0
Passed first column ports = (column < first) ⊎ IsOneOf column (key_places first ports)

head_in : (first column : ℕ) (r : RangedPort) (p : KeyedPort) (ports : List KeyedPort) (b : Bool) → is_in column (shifted_range first r.columns) ≡ b → IsAdmitted r p → p.column < p.width → Passed first column (p ∷ ports)
    → Has (cond b (one_column column) (shifted_range first r.columns)) (first + p.column)
head_in first column r p ports false e admitted within passed =
    let inside = admitted.columns in
    record { least = omega arith; most = omega arith }
head_in first column r p ports true e admitted within passed =
    let inside = admitted.columns in
    let there = has_range column (shifted_range first r.columns) e in
    elim passed [
      | inl before ↦ absurd (omega arith)
      | inr one ↦ elim (or_cases (first + p.column == column) (list_any (λ (x : ℕ). x == column) (key_places (first + p.width) ports)) one) [
        | inl here ↦ let same = eqb-true (first + p.column) column here in record { least = omega arith; most = omega arith }
        | inr later ↦ let above = places_above (first + p.width) column ports later in absurd (omega arith)
      ]
    ]

passed_on : (first column : ℕ) (p : KeyedPort) (ports : List KeyedPort) → p.column < p.width → Passed first column (p ∷ ports) → Passed (first + p.width) column ports
passed_on first column p ports within (inl before) = inl (omega arith)
passed_on first column p ports within (inr one) = elim (or_cases (first + p.column == column) (list_any (λ (x : ℕ). x == column) (key_places (first + p.width) ports)) one) [
  | inl here ↦ let same = eqb-true (first + p.column) column here in inl (omega arith)
  | inr later ↦ inr later
]

places_in : (first column : ℕ) (ranges : List RangedPort) (ports : List KeyedPort) → AreAdmitted ranges ports → AreInWidth ports → Passed first column ports → HaveAll (place_ranges first column ranges) (key_places first ports)
places_in first column [] [] admitted within passed = tt
places_in first column [] (p ∷ ports) admitted within passed = absurd admitted
places_in first column (r ∷ ranges) [] admitted within passed = absurd admitted
places_in first column (r ∷ ranges) (p ∷ ports) admitted within passed = (
  head_in first column r p ports (is_in column (shifted_range first r.columns)) refl admitted.0 within.0 passed,
  subst (λ (w : ℕ). HaveAll (place_ranges (first + w) column ranges) (key_places (first + p.width) ports)) (sym admitted.0.width) (places_in (first + p.width) column ranges ports admitted.1 within.1 (passed_on first column p ports within.0 passed)),
)

-- what holds of a place holds of a range that has it
abbrev Carries : (ℕ → Bool) → (ColumnRange → Bool) → Type 0
Carries f g = (x : ℕ) (r : ColumnRange) → Has r x → f x ≡ true → g r ≡ true

any_carried : (f : ℕ → Bool) (g : ColumnRange → Bool) (ranges : List ColumnRange) (places : List ℕ) → Carries f g → HaveAll ranges places → list_any f places ≡ true → list_any g ranges ≡ true
any_carried f g ranges [] carries have h = cc
any_carried f g [] (x ∷ places) carries have h = absurd have
any_carried f g (r ∷ ranges) (x ∷ places) carries have h = elim (or_cases (f x) (list_any f places) h) [
  | inl here ↦ or_left (g r) (list_any g ranges) (carries x r have.0 here)
  | inr later ↦ or_right (g r) (list_any g ranges) (any_carried f g ranges places carries have.1 later)
]

-- ---- ties

both_in : (one other : ColumnRange) (x y i j : ℕ) → Has one x → Has other y → (i == x) && (j == y) ≡ true → is_in i one && is_in j other ≡ true
both_in one other x y i j in_one in_other h =
    let both = and_parts (i == x) (j == y) h in
    let left = eqb-true i x both.0 in
    let right = eqb-true j y both.1 in
    and_from (is_in i one) (is_in j other) (in_range i one (omega arith) (omega arith)) (in_range j other (omega arith) (omega arith))

compare_may : (one other : ColumnRange) (x y i : ℕ) (op : Op) (o : Operand) → Has one x → Has other y → compares_both x y i op o ≡ true → may_compare one other i op o ≡ true
compare_may one other x y i Eq (operand.Column j) in_one in_other h = elim (or_cases ((i == x) && (j == y)) ((i == y) && (j == x)) h) [
  | inl this ↦ or_left (is_in i one && is_in j other) (is_in i other && is_in j one) (both_in one other x y i j in_one in_other this)
  | inr that ↦ or_right (is_in i one && is_in j other) (is_in i other && is_in j one) (both_in other one y x i j in_other in_one that)
]
compare_may one other x y i Eq (operand.Number n) in_one in_other h = cc
compare_may one other x y i Eq (operand.Bytes t) in_one in_other h = cc
compare_may one other x y i Ne o in_one in_other h = cc
compare_may one other x y i Lt o in_one in_other h = cc
compare_may one other x y i Le o in_one in_other h = cc
compare_may one other x y i Gt o in_one in_other h = cc
compare_may one other x y i Ge o in_one in_other h = cc

tests_may : (one other : ColumnRange) (x y : ℕ) (tests : List Test) → Has one x → Has other y → list_any (ties x y) tests ≡ true → list_any (may_tie one other) tests ≡ true
tests_may one other x y [] in_one in_other h = cc
tests_may one other x y (t ∷ tests) in_one in_other h = elim (or_cases (ties x y t) (list_any (ties x y) tests) h) [
  | inl this ↦ or_left (may_tie one other t) (list_any (may_tie one other) tests) (compare_may one other x y t.left t.op t.right in_one in_other this)
  | inr later ↦ or_right (may_tie one other t) (list_any (may_tie one other) tests) (tests_may one other x y tests in_one in_other later)
]

-- what holds of one of the places holds of one of the ranges
abbrev Covers : List ColumnRange → List ℕ → Type 0
Covers ranges places = (f : ℕ → Bool) (g : ColumnRange → Bool) → Carries f g → list_any f places ≡ true → list_any g ranges ≡ true

any_before : (g : ColumnRange → Bool) (ranges more : List ColumnRange) → list_any g ranges ≡ true → list_any g (ranges ++ more) ≡ true
any_before g [] more h = cc
any_before g (r ∷ ranges) more h = elim (or_cases (g r) (list_any g ranges) h) [
  | inl here ↦ or_left (g r) (list_any g (ranges ++ more)) here
  | inr later ↦ or_right (g r) (list_any g (ranges ++ more)) (any_before g ranges more later)
]

any_last : (g : ColumnRange → Bool) (ranges : List ColumnRange) (r : ColumnRange) → g r ≡ true → list_any g (ranges ++ r ∷ []) ≡ true
any_last g [] r h = or_left (g r) false h
any_last g (x ∷ ranges) r h = or_right (g x) (list_any g (ranges ++ r ∷ [])) (any_last g ranges r h)

covers_more : (ranges : List ColumnRange) (places : List ℕ) (r : ColumnRange) (x : ℕ) → Covers ranges places → Has r x → Covers (ranges ++ r ∷ []) (x ∷ places)
covers_more ranges places r x covers has f g carries h = elim (or_cases (f x) (list_any f places) h) [
  | inl here ↦ any_last g ranges r (carries x r has here)
  | inr later ↦ any_before g ranges (r ∷ []) (covers f g carries later)
]

behind_may : (tests : List Test) (earlier : List ColumnRange) (r : ColumnRange) → list_any (λ (one : ColumnRange). list_any (may_tie one r) tests) earlier ≡ true → is_tied_behind tests earlier r ≡ true
behind_may tests earlier r h = or_right (length earlier == 0) (list_any (λ (one : ColumnRange). list_any (may_tie one r) tests) earlier) h

tied_may : (tests : List Test) (earlier ranges : List ColumnRange) (before places : List ℕ) → Covers earlier before → HaveAll ranges places → AreTiedTo tests before places → are_tied tests earlier ranges ≡ true
tied_may tests earlier [] before places covers have tied = refl
tied_may tests earlier (r ∷ ranges) before [] covers have tied = absurd have
tied_may tests earlier (r ∷ ranges) before (x ∷ places) covers have tied =
    and_from (is_tied_behind tests earlier r) (are_tied tests (earlier ++ r ∷ []) ranges)
    (behind_may tests earlier r (covers (λ (e : ℕ). list_any (ties e x) tests) (λ (one : ColumnRange). list_any (may_tie one r) tests) (λ e one has h. tests_may one r e x tests has have.0 h) tied.0))
    (tied_may tests (earlier ++ r ∷ []) ranges (x ∷ before) places (covers_more earlier before r x covers have.0) have.1 tied.1)

places_may : (tests : List Test) (ranges : List ColumnRange) (places : List ℕ) → HaveAll ranges places → AreTiedPlaces tests places → are_tied tests [] ranges ≡ true
places_may tests [] places have tied = refl
places_may tests (r ∷ ranges) [] have tied = absurd have
places_may tests (r ∷ ranges) (x ∷ places) have tied = tied_may tests (r ∷ []) ranges (x ∷ []) places (covers_more [] [] r x (λ f g carries h. cc) have.0) have.1 tied

wide_may : (ranges : List RangedPort) (ports : List KeyedPort) → AreAdmitted ranges ports → AreInWidth ports → list_all is_wide ranges ≡ true
wide_may [] ports admitted within = refl
wide_may (r ∷ ranges) [] admitted within = absurd admitted
wide_may (r ∷ ranges) (p ∷ ports) admitted within =
    let inside = admitted.0.columns in
    let width = admitted.0.width in
    let there = within.0 in
    and_from (is_wide r) (list_all is_wide ranges) (lt-ltb r.columns.least r.width (omega arith)) (wide_may ranges ports admitted.1 within.1)

join_may : (tests : List Test) (ranges : List RangedPort) (ports : List KeyedPort) (column : ℕ) → AreAdmitted ranges ports → IsTiedJoin tests ports column → may_be_tied tests ranges column ≡ true
join_may tests ranges ports column admitted join =
    let places = place_ranges 0 column ranges in
    let have = places_in 0 column ranges ports admitted join.within (inr join.column_is) in
    and_from (list_all is_wide ranges) (list_any (is_in column) places && are_tied tests [] places) (wide_may ranges ports admitted join.within)
    (and_from (list_any (is_in column) places) (are_tied tests [] places)
    (any_carried (λ (x : ℕ). x == column) (is_in column) places (key_places 0 ports) (λ x r has h. let same = eqb-true x column h in in_range column r (omega arith) (omega arith)) have join.column_is)
    (places_may tests places (key_places 0 ports) have join.tied))

first_may : (tests : List Test) (ranges : List RangedPort) (ports : List KeyedPort) (column : ℕ) → AreAdmitted ranges ports → IsTiedFirst tests ports column → may_keep_first tests ranges column ≡ true
first_may tests [] ports column admitted first = refl
first_may tests (r ∷ ranges) [] column admitted first = absurd admitted
first_may tests (r ∷ ranges) (p ∷ ports) column admitted first =
    let same : p.column ≡ column = first.column_is.0 in
    let inside = admitted.0.columns in
    and_from (is_in column r.columns) (may_be_tied tests (r ∷ ranges) column) (in_range column r.columns (omega arith) (omega arith))
    (join_may tests (r ∷ ranges) (p ∷ ports) column admitted
    (record { within = first.within; tied = first.tied; column_is = or_left (0 + p.column == column) (list_any (λ (x : ℕ). x == column) (key_places (0 + p.width) ports)) (eq-eqb (0 + p.column) column (omega arith)) }))

-- ---- several payloads of one kind

-- ranges of ports that are all this one
abbrev AllAdmit : KeyedPort → List RangedPort → Type 0
AllAdmit p ranges = AllByRecursion (λ (r : RangedPort). IsAdmitted r p) ranges

all_admit : (p : KeyedPort) (ranges : List RangedPort) (ports : List KeyedPort) → AreAdmitted ranges ports → AllByRecursion (λ (other : KeyedPort). other ≡ p) ports → AllAdmit p ranges
all_admit p [] ports admitted alike = tt
all_admit p (r ∷ ranges) [] admitted alike = absurd admitted
all_admit p (r ∷ ranges) (q ∷ ports) admitted alike = (subst (λ (x : KeyedPort). IsAdmitted r x) alike.0 admitted.0, all_admit p ranges ports admitted.1 alike.1)

alike_may : (p : KeyedPort) (first : RangedPort) (ranges : List RangedPort) → IsAdmitted first p → AllAdmit p ranges → are_alike first ranges ≡ true
alike_may p first [] one all = refl
alike_may p first (r ∷ ranges) one all =
    let a = one.columns in
    let b = all.0.columns in
    and_from (is_alike first r) (are_alike first ranges)
    (and_from (first.width == r.width) (leb first.columns.least r.columns.most && leb r.columns.least first.columns.most) (eq-eqb first.width r.width (one.width ∙ sym all.0.width))
    (and_from (leb first.columns.least r.columns.most) (leb r.columns.least first.columns.most) (le-leb first.columns.least r.columns.most (omega arith)) (le-leb r.columns.least first.columns.most (omega arith))))
    (alike_may p first ranges one all.1)

common_has : (p : KeyedPort) (ranges : List RangedPort) (range : ColumnRange) → AllAdmit p ranges → Has range p.column → Has (common_range ranges range) p.column
common_has p [] range all has = has
common_has p (r ∷ ranges) range all has =
    let b = all.0.columns in
    common_has p ranges (record { least = max range.least r.columns.least; most = min range.most r.columns.most }) all.1 (record { least = omega arith; most = omega arith })

-- the common range is a part of the range
pub common_least : (ranges : List RangedPort) (range : ColumnRange) → range.least ≤ (common_range ranges range).least
common_least [] range = omega arith
common_least (r ∷ ranges) range = omega (arith, common_least ranges (record { least = max range.least r.columns.least; most = min range.most r.columns.most }))

pub common_most : (ranges : List RangedPort) (range : ColumnRange) → (common_range ranges range).most ≤ range.most
common_most [] range = omega arith
common_most (r ∷ ranges) range = omega (arith, common_most ranges (record { least = max range.least r.columns.least; most = min range.most r.columns.most }))

replicate_admitted : (number : ℕ) (r : RangedPort) (p : KeyedPort) → IsAdmitted r p → AreAdmitted (replicate number r) (replicate number p)
replicate_admitted zero r p one = tt
replicate_admitted (suc number) r p one = (one, replicate_admitted number r p one)

repeat_may : (number : ℕ) (tests : List Test) (ranges : List RangedPort) (ports : List KeyedPort) (column : ℕ) → AreAdmitted ranges ports → AreOneKind ports → IsTiedJoin tests (first_repeated number ports) column → may_repeat number tests ranges column ≡ true
repeat_may number tests [] [] column admitted alike join = join_may tests [] [] column tt join
repeat_may number tests [] (p ∷ ports) column admitted alike join = absurd admitted
repeat_may number tests (r ∷ ranges) [] column admitted alike join = absurd admitted
repeat_may number tests (r ∷ ranges) (p ∷ ports) column admitted alike join =
    let all : AllAdmit p (r ∷ ranges) = (admitted.0, all_admit p ranges ports admitted.1 alike) in
    let common : RangedPort = record { columns = common_range (r ∷ ranges) r.columns; width = r.width } in
    let inside = admitted.0.inside in
    let less = common_most (r ∷ ranges) r.columns in
    let one : IsAdmitted common p = record { columns = common_has p (r ∷ ranges) r.columns all admitted.0.columns; inside = omega (arith, less, inside); width = admitted.0.width } in
    and_from (are_alike r (r ∷ ranges)) (may_be_tied tests (replicate number common) column) (alike_may p r (r ∷ ranges) admitted.0 all)
    (join_may tests (replicate number common) (replicate number p) column (replicate_admitted number common p one) join)

-- a node that keeps the key with some columns may keep it with ranges that have them
pub keeps_may : (what : NodeKind) (ranges : List RangedPort) (ports : List KeyedPort) (column : ℕ) → AreAdmitted ranges ports → KeepsKey what ports column → may_keep what ranges column ≡ true
keeps_may (kind.Source file) ranges ports column admitted keeps = refl
keeps_may (kind.Select tests) ranges ports column admitted keeps = have_may column ranges ports admitted keeps
keeps_may (kind.Project keep) ranges ports column admitted keeps = renamed_may (slice_get keep column) ranges ports admitted keeps
keeps_may kind.Union ranges ports column admitted keeps = have_may column ranges ports admitted keeps
keeps_may (kind.Join tests) ranges ports column admitted keeps = join_may tests ranges ports column admitted keeps
keeps_may (kind.Window width) ranges ports column admitted keeps = have_may column ranges ports admitted keeps
keeps_may (kind.Shift by) ranges ports column admitted keeps = have_may column ranges ports admitted keeps
keeps_may (kind.Hop every width) ranges ports column admitted keeps = have_may column ranges ports admitted keeps
keeps_may kind.Starts ranges ports column admitted keeps = have_may column ranges ports admitted keeps
keeps_may kind.Ends ranges ports column admitted keeps = have_may column ranges ports admitted keeps
keeps_may (kind.Group keys count sums least greatest) ranges ports column admitted keeps = renamed_may (slice_get keys column) ranges ports admitted keeps
keeps_may (kind.Sequence scope tests) ranges ports column admitted keeps = join_may tests ranges ports column admitted keeps
keeps_may (kind.Unless scope hold tests) ranges ports column admitted keeps = first_may tests ranges ports column admitted keeps
keeps_may (kind.AtLeast number scope tests) ranges ports column admitted keeps = repeat_may number tests ranges ports column admitted keeps.0 keeps.1
keeps_may (kind.Except tests) ranges ports column admitted keeps = first_may tests ranges ports column admitted keeps
keeps_may kind.Output ranges ports column admitted keeps = have_may column ranges ports admitted keeps

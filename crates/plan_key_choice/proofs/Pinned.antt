-- What may keep the key with ranges that have one column each keeps it with these.
use Rattle.std.proofs.Common.{◌≡◌, ℕ, zero, suc, ◌+◌, ◌≤◌, inl, inr, arith, List, [], ◌∷◌, ◌++◌, length, Bool, true, false, cond, ◌&&◌, ◌||◌, leb, refl, ap, subst, sym, ◌∙◌, eqb-true, eq-eqb, replicate}
use Rattle.std.specs.Prelude.{Option, Some, None, ◌==◌}
use Rattle.std.specs.List.{slice_get, list_any, list_all, AllByRecursion}
use Rattle.std.proofs.lemmas.Bool.{ltb-true, leb-true, and_parts, or_cases, or_left, or_right, and_from}
use Rattle.cedr_expr.specs.declared.test.Op.{Op}
use Rattle.cedr_expr.specs.declared.test.Op.TheVariants.{Eq, Ne, Lt, Le, Gt, Ge}
use Rattle.cedr_expr.specs.declared.test.Operand.{Operand}
use Rattle.cedr_expr.specs.declared.test.Operand.TheVariants as operand
use Rattle.cedr_expr.specs.declared.test.Test.{Test}
use Rattle.cedr_plan.specs.declared.plan.NodeKind.{NodeKind}
use Rattle.cedr_plan.specs.declared.plan.NodeKind.TheVariants as kind
use Rattle.plan_keys.specs.Keys.{KeyedPort, key_places, compares_both, ties, AreTiedTo, AreTiedPlaces, AreInWidth, HaveColumn, IsTiedJoin, IsTiedFirst, first_repeated, AreOneKind, KeepsKey}
use Rattle.plan_key_choice.specs.declared.range.ColumnRange.{ColumnRange}
use Rattle.plan_key_choice.specs.declared.range.RangedPort.{RangedPort}
use Rattle.plan_key_choice.specs.Ranges.{is_in, one_column, shifted_range, place_ranges, may_compare, may_tie, is_tied_behind, are_tied, is_wide, may_be_tied, may_have, may_have_some, may_keep_first, is_alike, are_alike, common_range, may_repeat, may_keep}
use Rattle.plan_key_choice.proofs.Admitted.{has_range, common_least, common_most}

-- a range has at most this column
pub record Pins (range : ColumnRange) (c : ℕ) : Type 0 where
  pub least : c ≤ range.least
  pub most : range.most ≤ c

-- a port's range has at most its key column
pub record IsPinned (range : RangedPort) (port : KeyedPort) : Type 0 where
  pub columns : Pins range.columns port.column
  pub width : range.width ≡ port.width

-- the range of each port has at most its key column
abbrev pub ArePinned : List RangedPort → List KeyedPort → Type 0
ArePinned [] [] = Unit {0}
ArePinned [] (p ∷ ports) = ⊥
ArePinned (r ∷ ranges) [] = ⊥
ArePinned (r ∷ ranges) (p ∷ ports) = IsPinned r p × ArePinned ranges ports

pinned_is : (c k : ℕ) (range : ColumnRange) → Pins range k → is_in c range ≡ true → k ≡ c
pinned_is c k range pins h = let has = has_range c range h in omega arith

-- ---- one column for all ports

may_have_it : (c : ℕ) (ranges : List RangedPort) (ports : List KeyedPort) → ArePinned ranges ports → may_have c ranges ≡ true → HaveColumn c ports
may_have_it c ranges [] pinned h = tt
may_have_it c [] (p ∷ ports) pinned h = absurd pinned
may_have_it c (r ∷ ranges) (p ∷ ports) pinned h =
    let both = and_parts (is_in c r.columns) (may_have c ranges) h in
    (pinned_is c p.column r.columns pinned.0.columns both.0, may_have_it c ranges ports pinned.1 both.1)

wrapped : (c : ℕ) (ports : List KeyedPort) → HaveColumn c ports → AllByRecursion (λ (p : KeyedPort). Some c ≡ Some p.column) ports
wrapped c [] have = tt
wrapped c (p ∷ ports) have = (ap (λ (n : ℕ). Some n) (sym have.0), wrapped c ports have.1)

may_be_renamed : (o : Option ℕ) (ranges : List RangedPort) (ports : List KeyedPort) → ArePinned ranges ports → may_have_some o ranges ≡ true → AllByRecursion (λ (p : KeyedPort). o ≡ Some p.column) ports
may_be_renamed o ranges [] pinned h = tt
may_be_renamed o [] (p ∷ ports) pinned h = absurd pinned
may_be_renamed (Some c) (r ∷ ranges) (p ∷ ports) pinned h = wrapped c (p ∷ ports) (may_have_it c (r ∷ ranges) (p ∷ ports) pinned h)
may_be_renamed None (r ∷ ranges) (p ∷ ports) pinned h = cc

-- ---- places

-- each range has at most its place
abbrev PinAll : List ColumnRange → List ℕ → Type 0
PinAll [] [] = Unit {0}
PinAll [] (x ∷ places) = ⊥
PinAll (r ∷ ranges) [] = ⊥
PinAll (r ∷ ranges) (x ∷ places) = Pins r x × PinAll ranges places

head_pinned : (first column : ℕ) (r : RangedPort) (p : KeyedPort) (b : Bool) → is_in column (shifted_range first r.columns) ≡ b → IsPinned r p → Pins (cond b (one_column column) (shifted_range first r.columns)) (first + p.column)
head_pinned first column r p false e pinned = let pins = pinned.columns in record { least = omega arith; most = omega arith }
head_pinned first column r p true e pinned =
    let pins = pinned.columns in
    let has = has_range column (shifted_range first r.columns) e in
    record { least = omega arith; most = omega arith }

places_pinned : (first column : ℕ) (ranges : List RangedPort) (ports : List KeyedPort) → ArePinned ranges ports → PinAll (place_ranges first column ranges) (key_places first ports)
places_pinned first column [] [] pinned = tt
places_pinned first column [] (p ∷ ports) pinned = absurd pinned
places_pinned first column (r ∷ ranges) [] pinned = absurd pinned
places_pinned first column (r ∷ ranges) (p ∷ ports) pinned = (
  head_pinned first column r p (is_in column (shifted_range first r.columns)) refl pinned.0,
  subst (λ (w : ℕ). PinAll (place_ranges (first + w) column ranges) (key_places (first + p.width) ports)) (sym pinned.0.width) (places_pinned (first + p.width) column ranges ports pinned.1),
)

-- what holds of a range holds of its place
abbrev Returns : (ℕ → Bool) → (ColumnRange → Bool) → Type 0
Returns f g = (x : ℕ) (r : ColumnRange) → Pins r x → g r ≡ true → f x ≡ true

any_returned : (f : ℕ → Bool) (g : ColumnRange → Bool) (ranges : List ColumnRange) (places : List ℕ) → Returns f g → PinAll ranges places → list_any g ranges ≡ true → list_any f places ≡ true
any_returned f g [] places returns pins h = cc
any_returned f g (r ∷ ranges) [] returns pins h = absurd pins
any_returned f g (r ∷ ranges) (x ∷ places) returns pins h = elim (or_cases (g r) (list_any g ranges) h) [
  | inl here ↦ or_left (f x) (list_any f places) (returns x r pins.0 here)
  | inr later ↦ or_right (f x) (list_any f places) (any_returned f g ranges places returns pins.1 later)
]

-- ---- ties

both_pinned : (one other : ColumnRange) (x y i j : ℕ) → Pins one x → Pins other y → is_in i one && is_in j other ≡ true → (i == x) && (j == y) ≡ true
both_pinned one other x y i j pins_one pins_other h =
    let both = and_parts (is_in i one) (is_in j other) h in
    and_from (i == x) (j == y) (eq-eqb i x (sym (pinned_is i x one pins_one both.0))) (eq-eqb j y (sym (pinned_is j y other pins_other both.1)))

compare_pinned : (one other : ColumnRange) (x y i : ℕ) (op : Op) (o : Operand) → Pins one x → Pins other y → may_compare one other i op o ≡ true → compares_both x y i op o ≡ true
compare_pinned one other x y i Eq (operand.Column j) pins_one pins_other h = elim (or_cases (is_in i one && is_in j other) (is_in i other && is_in j one) h) [
  | inl this ↦ or_left ((i == x) && (j == y)) ((i == y) && (j == x)) (both_pinned one other x y i j pins_one pins_other this)
  | inr that ↦ or_right ((i == x) && (j == y)) ((i == y) && (j == x)) (both_pinned other one y x i j pins_other pins_one that)
]
compare_pinned one other x y i Eq (operand.Number n) pins_one pins_other h = cc
compare_pinned one other x y i Eq (operand.Bytes t) pins_one pins_other h = cc
compare_pinned one other x y i Ne o pins_one pins_other h = cc
compare_pinned one other x y i Lt o pins_one pins_other h = cc
compare_pinned one other x y i Le o pins_one pins_other h = cc
compare_pinned one other x y i Gt o pins_one pins_other h = cc
compare_pinned one other x y i Ge o pins_one pins_other h = cc

tests_pinned : (one other : ColumnRange) (x y : ℕ) (tests : List Test) → Pins one x → Pins other y → list_any (may_tie one other) tests ≡ true → list_any (ties x y) tests ≡ true
tests_pinned one other x y [] pins_one pins_other h = cc
tests_pinned one other x y (t ∷ tests) pins_one pins_other h = elim (or_cases (may_tie one other t) (list_any (may_tie one other) tests) h) [
  | inl this ↦ or_left (ties x y t) (list_any (ties x y) tests) (compare_pinned one other x y t.left t.op t.right pins_one pins_other this)
  | inr later ↦ or_right (ties x y t) (list_any (ties x y) tests) (tests_pinned one other x y tests pins_one pins_other later)
]

-- what holds of one of the ranges holds of one of the places
abbrev Gives : List ColumnRange → List ℕ → Type 0
Gives ranges places = (f : ℕ → Bool) (g : ColumnRange → Bool) → Returns f g → list_any g ranges ≡ true → list_any f places ≡ true

any_split : (g : ColumnRange → Bool) (ranges : List ColumnRange) (r : ColumnRange) → list_any g (ranges ++ r ∷ []) ≡ true → g r || list_any g ranges ≡ true
any_split g [] r h = h
any_split g (x ∷ ranges) r h = elim (or_cases (g x) (list_any g (ranges ++ r ∷ [])) h) [
  | inl here ↦ or_right (g r) (list_any g (x ∷ ranges)) (or_left (g x) (list_any g ranges) here)
  | inr later ↦ elim (or_cases (g r) (list_any g ranges) (any_split g ranges r later)) [
    | inl last ↦ or_left (g r) (list_any g (x ∷ ranges)) last
    | inr before ↦ or_right (g r) (list_any g (x ∷ ranges)) (or_right (g x) (list_any g ranges) before)
  ]
]

gives_more : (ranges : List ColumnRange) (places : List ℕ) (r : ColumnRange) (x : ℕ) → Gives ranges places → Pins r x → Gives (ranges ++ r ∷ []) (x ∷ places)
gives_more ranges places r x gives pins f g returns h = elim (or_cases (g r) (list_any g ranges) (any_split g ranges r h)) [
  | inl here ↦ or_left (f x) (list_any f places) (returns x r pins here)
  | inr before ↦ or_right (f x) (list_any f places) (gives f g returns before)
]

some_behind : (tests : List Test) (e : ColumnRange) (earlier : List ColumnRange) (r : ColumnRange) → is_tied_behind tests (e ∷ earlier) r ≡ true → list_any (λ (one : ColumnRange). list_any (may_tie one r) tests) (e ∷ earlier) ≡ true
some_behind tests e earlier r h = elim (or_cases (length (e ∷ earlier) == 0) (list_any (λ (one : ColumnRange). list_any (may_tie one r) tests) (e ∷ earlier)) h) [
  | inl none ↦ let empty = eqb-true (length (e ∷ earlier)) 0 none in absurd (omega arith)
  | inr some ↦ some
]

tied_pinned : (tests : List Test) (e : ColumnRange) (earlier ranges : List ColumnRange) (before places : List ℕ) → Gives (e ∷ earlier) before → PinAll ranges places → are_tied tests (e ∷ earlier) ranges ≡ true → AreTiedTo tests before places
tied_pinned tests e earlier ranges before [] gives pins tied = tt
tied_pinned tests e earlier [] before (x ∷ places) gives pins tied = absurd pins
tied_pinned tests e earlier (r ∷ ranges) before (x ∷ places) gives pins tied =
    let both = and_parts (is_tied_behind tests (e ∷ earlier) r) (are_tied tests (e ∷ (earlier ++ r ∷ [])) ranges) tied in (
      gives (λ (k : ℕ). list_any (ties k x) tests) (λ (one : ColumnRange). list_any (may_tie one r) tests) (λ k one own h. tests_pinned one r k x tests own pins.0 h) (some_behind tests e earlier r both.0),
      tied_pinned tests e (earlier ++ r ∷ []) ranges (x ∷ before) places (gives_more (e ∷ earlier) before r x gives pins.0) pins.1 both.1,
    )

places_tied : (tests : List Test) (ranges : List ColumnRange) (places : List ℕ) → PinAll ranges places → are_tied tests [] ranges ≡ true → AreTiedPlaces tests places
places_tied tests ranges [] pins tied = tt
places_tied tests [] (x ∷ places) pins tied = absurd pins
places_tied tests (r ∷ ranges) (x ∷ places) pins tied =
    let both = and_parts true (are_tied tests (r ∷ []) ranges) tied in
    tied_pinned tests r [] ranges (x ∷ []) places (gives_more [] [] r x (λ f g returns h. cc) pins.0) pins.1 both.1

wide_within : (ranges : List RangedPort) (ports : List KeyedPort) → ArePinned ranges ports → list_all is_wide ranges ≡ true → AreInWidth ports
wide_within ranges [] pinned h = tt
wide_within [] (p ∷ ports) pinned h = absurd pinned
wide_within (r ∷ ranges) (p ∷ ports) pinned h =
    let both = and_parts (is_wide r) (list_all is_wide ranges) h in
    let pins = pinned.0.columns in
    let width = pinned.0.width in
    let wide = ltb-true r.columns.least r.width both.0 in
    (omega arith, wide_within ranges ports pinned.1 both.1)

may_join : (tests : List Test) (ranges : List RangedPort) (ports : List KeyedPort) (column : ℕ) → ArePinned ranges ports → may_be_tied tests ranges column ≡ true → IsTiedJoin tests ports column
may_join tests ranges ports column pinned h =
    let places = place_ranges 0 column ranges in
    let pins = places_pinned 0 column ranges ports pinned in
    let wide = and_parts (list_all is_wide ranges) (list_any (is_in column) places && are_tied tests [] places) h in
    let both = and_parts (list_any (is_in column) places) (are_tied tests [] places) wide.1 in
    record {
      within = wide_within ranges ports pinned wide.0;
      tied = places_tied tests places (key_places 0 ports) pins both.1;
      column_is = any_returned (λ (x : ℕ). x == column) (is_in column) places (key_places 0 ports) (λ x r own i. eq-eqb x column (pinned_is column x r own i)) pins both.0;
    }

may_first : (tests : List Test) (ranges : List RangedPort) (ports : List KeyedPort) (column : ℕ) → ArePinned ranges ports → may_keep_first tests ranges column ≡ true → IsTiedFirst tests ports column
may_first tests ranges [] column pinned h = record { within = tt; tied = tt; column_is = tt }
may_first tests [] (p ∷ ports) column pinned h = absurd pinned
may_first tests (r ∷ ranges) (p ∷ ports) column pinned h =
    let both = and_parts (is_in column r.columns) (may_be_tied tests (r ∷ ranges) column) h in
    let join = may_join tests (r ∷ ranges) (p ∷ ports) column pinned both.1 in
    record { within = join.within; tied = join.tied; column_is = (pinned_is column p.column r.columns pinned.0.columns both.0, tt) }

-- ---- several payloads of one kind

same_port : (p q : KeyedPort) → p.column ≡ q.column → p.width ≡ q.width → p ≡ q
same_port p q c w =
    let by_column : p ≡ record { column = q.column; width = p.width } = ap (λ (n : ℕ). let made : KeyedPort = record { column = n; width = p.width } in made) c in
    by_column ∙ ap (λ (n : ℕ). let made : KeyedPort = record { column = q.column; width = n } in made) w

one_kind : (first : RangedPort) (p : KeyedPort) (ranges : List RangedPort) (ports : List KeyedPort) → IsPinned first p → ArePinned ranges ports → are_alike first ranges ≡ true → AllByRecursion (λ (other : KeyedPort). other ≡ p) ports
one_kind first p ranges [] one pinned h = tt
one_kind first p [] (q ∷ ports) one pinned h = absurd pinned
one_kind first p (r ∷ ranges) (q ∷ ports) one pinned h =
    let both = and_parts (is_alike first r) (are_alike first ranges) h in
    let alike = and_parts (first.width == r.width) (leb first.columns.least r.columns.most && leb r.columns.least first.columns.most) both.0 in
    let ends = and_parts (leb first.columns.least r.columns.most) (leb r.columns.least first.columns.most) alike.1 in
    let low = leb-true first.columns.least r.columns.most ends.0 in
    let high = leb-true r.columns.least first.columns.most ends.1 in
    let a = one.columns in
    let b = pinned.0.columns in
    (same_port q p (omega arith) (sym pinned.0.width ∙ (sym (eqb-true first.width r.width alike.0) ∙ one.width)), one_kind first p ranges ports one pinned.1 both.1)

replicate_pinned : (number : ℕ) (r : RangedPort) (p : KeyedPort) → IsPinned r p → ArePinned (replicate number r) (replicate number p)
replicate_pinned zero r p one = tt
replicate_pinned (suc number) r p one = (one, replicate_pinned number r p one)

may_be_repeated : (number : ℕ) (tests : List Test) (ranges : List RangedPort) (ports : List KeyedPort) (column : ℕ) → ArePinned ranges ports → may_repeat number tests ranges column ≡ true → AreOneKind ports × IsTiedJoin tests (first_repeated number ports) column
may_be_repeated number tests [] [] column pinned h = (tt, may_join tests [] [] column tt h)
may_be_repeated number tests [] (p ∷ ports) column pinned h = absurd pinned
may_be_repeated number tests (r ∷ ranges) [] column pinned h = absurd pinned
may_be_repeated number tests (r ∷ ranges) (p ∷ ports) column pinned h =
    let common : RangedPort = record { columns = common_range (r ∷ ranges) r.columns; width = r.width } in
    let both = and_parts (are_alike r (r ∷ ranges)) (may_be_tied tests (replicate number common) column) h in
    let rest = and_parts (is_alike r r) (are_alike r ranges) both.0 in
    let low = common_least (r ∷ ranges) r.columns in
    let high = common_most (r ∷ ranges) r.columns in
    let pins = pinned.0.columns in
    let one : IsPinned common p = record { columns = record { least = omega (arith, low, pins.least); most = omega (arith, high, pins.most) }; width = pinned.0.width } in
    (one_kind r p ranges ports pinned.0 pinned.1 rest.1, may_join tests (replicate number common) (replicate number p) column (replicate_pinned number common p one) both.1)

-- a node that may keep the key with ranges of one column each keeps it with these columns
pub may_keeps : (what : NodeKind) (ranges : List RangedPort) (ports : List KeyedPort) (column : ℕ) → ArePinned ranges ports → may_keep what ranges column ≡ true → KeepsKey what ports column
may_keeps (kind.Source file) ranges ports column pinned h = tt
may_keeps (kind.Select tests) ranges ports column pinned h = may_have_it column ranges ports pinned h
may_keeps (kind.Project keep) ranges ports column pinned h = may_be_renamed (slice_get keep column) ranges ports pinned h
may_keeps kind.Union ranges ports column pinned h = may_have_it column ranges ports pinned h
may_keeps (kind.Join tests) ranges ports column pinned h = may_join tests ranges ports column pinned h
may_keeps (kind.Window width) ranges ports column pinned h = may_have_it column ranges ports pinned h
may_keeps (kind.Shift by) ranges ports column pinned h = may_have_it column ranges ports pinned h
may_keeps (kind.Hop every width) ranges ports column pinned h = may_have_it column ranges ports pinned h
may_keeps kind.Starts ranges ports column pinned h = may_have_it column ranges ports pinned h
may_keeps kind.Ends ranges ports column pinned h = may_have_it column ranges ports pinned h
may_keeps (kind.Group keys count sums least greatest) ranges ports column pinned h = may_be_renamed (slice_get keys column) ranges ports pinned h
may_keeps (kind.Sequence scope tests) ranges ports column pinned h = may_join tests ranges ports column pinned h
may_keeps (kind.Unless scope hold tests) ranges ports column pinned h = may_first tests ranges ports column pinned h
may_keeps (kind.AtLeast number scope tests) ranges ports column pinned h = may_be_repeated number tests ranges ports column pinned h
may_keeps (kind.Except tests) ranges ports column pinned h = may_first tests ranges ports column pinned h
may_keeps kind.Output ranges ports column pinned h = may_have_it column ranges ports pinned h

-- What the bags hold at a mark may be held.
use Rattle.std.proofs.Common.{◌≡◌, ℕ, ◌<◌, ◌≤◌, ◌⊎◌, inl, inr, List, [], ◌∷◌, ◌++◌, Bool, true, false, cond, None, Some, refl, ap, sym, ◌∙◌, subst, arith}
use Rattle.std.specs.Prelude.{nat_eq, nat_le, ◌&&◌, ◌||◌, not, map, Option, option_map}
use Rattle.std.specs.List.{AllByRecursion, flat_map, list_any, slice_get, cons_option}
use Rattle.std.specs.List.Sorted.{IsStrictlySortedBy}
use Rattle.std.specs.Map.{lookup, keys_of}
use Rattle.std.specs.BTreeMap.{is_at}
use Rattle.std.specs.Ordering.{is_eq}
use Rattle.std.specs.declared.cmp.Ordering.TheVariants.{Less}
use Rattle.std.proofs.lemmas.Bool.{cases_lt, lt-ltb, le-leb, eq-eqb}
use Rattle.cedr_base.specs.declared.field.Field.{Field}
use Rattle.cedr_base.specs.declared.row.Row.{Row}
use Rattle.cedr_base.specs.Order.{payload_cmp}
use Rattle.cedr_base.specs.Rows.{count_of, one_if_same}
use Rattle.cedr_base.proofs.Bags.{count_of-append, count_of-cons, one_if_same_exact}
use Rattle.cedr_expr.specs.Columns.{kept_columns}
use Rattle.change_laws.proofs.BagSums.{count_of-itself}
use Rattle.cedr_living.specs.Lives.{Living}
use Rattle.cedr_living.specs.declared.living.LivingFields.{LivingFields}
use Rattle.op_group.specs.declared.bags.Bags.{Bags}
use Rattle.op_group.specs.declared.points.CutPoint.{CutPoint}
use Rattle.op_group.specs.declared.segment.Totalled.{Totalled}
use Rattle.cedr_living.specs.Bags.{KeepsLives, held_lives, IsAmongLives}
use Rattle.cedr_living.specs.BagLaws.{held_is}
use Rattle.op_group.specs.Bags.{BagKeeps, bag_at, field_lives, columns_but, indexed, lives_of}
use Rattle.op_group.specs.Groups.{Grouping, key_of, same_payload, rows_of, ranked_fields, shows_field, field_may_be_held}
use Rattle.op_group.specs.Measures.{edges_of, is_cut_of}
use Rattle.op_group.specs.SegmentLaws.{edge_there}
use Rattle.op_group.specs.Points.{NoneBefore, has_point}
use Rattle.op_group.specs.PayloadLaws.{payload_exact, payload_itself}
use Rattle.op_group.specs.Held.{field_row, bag_rows}
use Rattle.op_group.specs.State.{KeepsFields}
use Rattle.op_group.proofs.SideLemmas.{IsIn}

-- a row is that of a life that a bag holds
record IsOfBag (bags : List (List Field × LivingFields)) (r : Row) : Type 0 where
  key : List Field
  bag : LivingFields
  found : bag_at bags key ≡ Some bag
  life : Living
  held : IsAmongLives life (held_lives bag)
  is : r ≡ field_row key life

record IsLifeRow (key : List Field) (lives : List Living) (r : Row) : Type 0 where
  life : Living
  held : IsAmongLives life lives
  is : r ≡ field_row key life

life_there : (key : List Field) (lives : List Living) (r : Row) → 0 < count_of r (map (field_row key) lives) → IsLifeRow key lives r
life_there key [] r there = absurd (omega arith)
life_there key (l ∷ lives) r there = elim (cases_lt 0 (one_if_same r (field_row key l))) [
  | inl here ↦ record { life = l; held = inl refl; is = one_if_same_exact r (field_row key l) here }
  | inr not_here ↦
      let rest = life_there key lives r (omega (arith, there, not_here, count_of-cons r (field_row key l) (map (field_row key) lives))) in
      record { life = rest.life; held = inr rest.held; is = rest.is }
]

later_at : (key other : List Field) (first : List Field × LivingFields) (bags : List (List Field × LivingFields)) (bag : LivingFields) (c : Bool) → same_payload key first.0 ≡ c → key ≡ other → payload_cmp other first.0 ≡ Less
    → lookup (is_at (payload_cmp key)) (first ∷ bags) ≡ Some bag → (lookup (is_at (payload_cmp key)) bags ≡ Some bag → ⊥) → ⊥
later_at key other first bags bag true here same less found rest =
    let own = payload_exact key first.0 here in
    let itself : payload_cmp other other ≡ Less = ap (payload_cmp other) (sym same ∙ own) ∙ less in
    let clash : is_eq Less ≡ true = sym (ap is_eq itself) ∙ payload_itself other in
    cc
later_at key other first bags bag false apart same less found rest = rest (sym (ap (λ d. cond d (Some first.1) (lookup (is_at (payload_cmp key)) bags)) apart) ∙ found)

not_later : (bags : List (List Field × LivingFields)) (key other : List Field) (bag : LivingFields) → key ≡ other → AllByRecursion (λ k. payload_cmp other k ≡ Less) (keys_of bags) → lookup (is_at (payload_cmp key)) bags ≡ Some bag → ⊥
not_later [] key other bag same above found = cc
not_later (first ∷ bags) key other bag same above found = later_at key other first bags bag (same_payload key first.0) refl same above.0 found (not_later bags key other bag same above.1)

-- a key that stands behind another one is another
later_key : (bags : List (List Field × LivingFields)) (key other : List Field) (bag : LivingFields) (b : Bool) → same_payload key other ≡ b → AllByRecursion (λ k. payload_cmp other k ≡ Less) (keys_of bags) → lookup (is_at (payload_cmp key)) bags ≡ Some bag → b ≡ false
later_key bags key other bag true is above found = absurd (not_later bags key other bag (payload_exact key other is) above found)
later_key bags key other bag false is above found = refl

of_bag : (bags : List (List Field × LivingFields)) (r : Row) → IsStrictlySortedBy payload_cmp (keys_of bags) → 0 < count_of r (bag_rows bags) → IsOfBag bags r
unfolding IsStrictlySortedBy
of_bag [] r sorted there = absurd (omega arith)
of_bag (first ∷ bags) r sorted there = elim (cases_lt 0 (count_of r (map (field_row first.0) (held_lives first.1)))) [
  | inl here ↦
      let row = life_there first.0 (held_lives first.1) r here in
      record {
        key = first.0;
        bag = first.1;
        found = ap (λ b. cond b (Some first.1) (lookup (is_at (payload_cmp first.0)) bags)) (payload_itself first.0);
        life = row.life;
        held = row.held;
        is = row.is;
      }
  | inr not_here ↦
      let later = of_bag bags r sorted.1 (omega (arith, there, not_here, count_of-append r (map (field_row first.0) (held_lives first.1)) (bag_rows bags))) in
      record {
        key = later.key;
        bag = later.bag;
        found = ap (λ b. cond b (Some first.1) (lookup (is_at (payload_cmp later.key)) bags)) (later_key bags later.key first.0 later.bag (same_payload later.key first.0) refl sorted.0 later.found) ∙ later.found;
        life = later.life;
        held = later.held;
        is = later.is;
      }
]

-- a life is that of a row's field in a column
record IsRowLife (columns : List ℕ) (r : Row) (l : Living) : Type 0 where
  column : ℕ
  listed : IsIn column columns
  field_is : slice_get r.payload column ≡ Some l.field
  begin_is : l.begin ≡ r.begin
  end_is : l.end ≡ r.end

one_split : (l : Living) (xs ys : List Living) → IsAmongLives l (xs ++ ys) → IsAmongLives l xs ⊎ IsAmongLives l ys
one_split l [] ys h = inr h
one_split l (x ∷ xs) ys (inl h) = inl (inl h)
one_split l (x ∷ xs) ys (inr h) = elim (one_split l xs ys h) [ inl k ↦ inl (inr k) | inr k ↦ inr k ]

row_life_at : (columns : List ℕ) (r : Row) (l : Living) (c : ℕ) (o : Option Field) → slice_get r.payload c ≡ o → (IsAmongLives l (field_lives columns r) → IsRowLife columns r l) → IsAmongLives l (cons_option (option_map (λ f. record { column = c; begin = r.begin; end = r.end; field = f }) o) (field_lives columns r)) → IsRowLife (c ∷ columns) r l
row_life_at columns r l c None found rest h = let later = rest h in record { column = later.column; listed = inr later.listed; field_is = later.field_is; begin_is = later.begin_is; end_is = later.end_is }
row_life_at columns r l c (Some f) found rest (inl same) = record {
  column = c;
  listed = inl refl;
  field_is = found ∙ ap (λ x. Some x) (sym (ap (λ (k : Living). k.field) same));
  begin_is = ap (λ (k : Living). k.begin) same;
  end_is = ap (λ (k : Living). k.end) same;
}
row_life_at columns r l c (Some f) found rest (inr h) = let later = rest h in record { column = later.column; listed = inr later.listed; field_is = later.field_is; begin_is = later.begin_is; end_is = later.end_is }

row_life : (columns : List ℕ) (r : Row) (l : Living) → IsAmongLives l (field_lives columns r) → IsRowLife columns r l
row_life [] r l h = absurd h
row_life (c ∷ columns) r l h = row_life_at columns r l c (slice_get r.payload c) refl (row_life columns r l) h

record IsLifeOf (columns : List ℕ) (rows : List Row) (l : Living) : Type 0 where
  row : Row
  there : 0 < count_of row rows
  life : IsRowLife columns row l

life_of : (columns : List ℕ) (rows : List Row) (l : Living) → IsAmongLives l (flat_map (field_lives columns) rows) → IsLifeOf columns rows l
life_of columns [] l h = absurd h
life_of columns (r ∷ rows) l h = elim (one_split l (field_lives columns r) (flat_map (field_lives columns) rows) h) [
  | inl own ↦ record { row = r; there = count_of-itself r rows; life = row_life columns r l own }
  | inr rest ↦ let later = life_of columns rows l rest in record { row = later.row; there = (let t = later.there in omega (arith, count_of-cons later.row r rows)); life = later.life }
]

-- a test that holds of a row of some holds of one
any_at : (p : Row → Bool) (x r : Row) (rows : List Row) (b : Bool) → p r ≡ b → (r ≡ x → p r ≡ true) → (0 < one_if_same x r) ⊎ (list_any p rows ≡ true) → (b || list_any p rows) ≡ true
any_at p x r rows true is own h = refl
any_at p x r rows false is own (inl here) = let same = sym (one_if_same_exact x r here) in let e = sym is ∙ own same in cc
any_at p x r rows false is own (inr h) = h

any_there : (p : Row → Bool) (x : Row) (rows : List Row) → 0 < count_of x rows → p x ≡ true → list_any p rows ≡ true
any_there p x [] there holds = absurd (omega arith)
any_there p x (r ∷ rows) there holds = any_at p x r rows (p r) refl (λ same. ap p same ∙ holds) (elim (cases_lt 0 (one_if_same x r)) [
  | inl here ↦ inl here
  | inr not_here ↦ inr (any_there p x rows (omega (arith, there, not_here, count_of-cons x r rows)) holds)
])

field_at : (p : Field → Bool) (f : Field) (payload : List Field) (c : ℕ) (columns : List ℕ) (o : Option Field) → slice_get payload c ≡ o → p f ≡ true → (o ≡ Some f) ⊎ (list_any p (kept_columns columns payload) ≡ true) → list_any p (cons_option o (kept_columns columns payload)) ≡ true
field_at p f payload c columns None found holds (inl e) = cc
field_at p f payload c columns None found holds (inr h) = h
field_at p f payload c columns (Some g) found holds (inl e) = let same : g ≡ f = cc in ap (λ b. b || list_any p (kept_columns columns payload)) (ap p same ∙ holds)
field_at p f payload c columns (Some g) found holds (inr h) = or_true (p g) h
  where
    or_true : (b : Bool) → list_any p (kept_columns columns payload) ≡ true → (b || list_any p (kept_columns columns payload)) ≡ true
    or_true true k = refl
    or_true false k = k

field_there : (p : Field → Bool) (f : Field) (payload : List Field) (c : ℕ) (columns : List ℕ) → IsIn c columns → slice_get payload c ≡ Some f → p f ≡ true → list_any p (kept_columns columns payload) ≡ true
field_there p f payload c [] there found holds = absurd there
field_there p f payload c (d ∷ columns) (inl same) found holds = field_at p f payload d columns (slice_get payload d) refl holds (inl (ap (slice_get payload) (sym same) ∙ found))
field_there p f payload c (d ∷ columns) (inr there) found holds = field_at p f payload d columns (slice_get payload d) refl holds (inr (field_there p f payload c columns there found holds))

in_left : (c : ℕ) (xs ys : List ℕ) → IsIn c xs → IsIn c (xs ++ ys)
in_left c [] ys h = absurd h
in_left c (x ∷ xs) ys (inl h) = inl h
in_left c (x ∷ xs) ys (inr h) = inr (in_left c xs ys h)

in_right : (c : ℕ) (xs ys : List ℕ) → IsIn c ys → IsIn c (xs ++ ys)
in_right c [] ys h = h
in_right c (x ∷ xs) ys h = inr (in_right c xs ys h)

in_split : (c : ℕ) (xs ys : List ℕ) → IsIn c (xs ++ ys) → IsIn c xs ⊎ IsIn c ys
in_split c [] ys h = inr h
in_split c (x ∷ xs) ys (inl h) = inl (inl h)
in_split c (x ∷ xs) ys (inr h) = elim (in_split c xs ys h) [ inl k ↦ inl (inr k) | inr k ↦ inr k ]

but_back_at : (c x : ℕ) (but xs : List ℕ) (b : Bool) → IsIn c (cond (not b) (x ∷ columns_but but xs) (columns_but but xs)) → (IsIn c (columns_but but xs) → IsIn c xs) → IsIn c (x ∷ xs)
but_back_at c x but xs true h rest = inr (rest h)
but_back_at c x but xs false (inl h) rest = inl h
but_back_at c x but xs false (inr h) rest = inr (rest h)

but_back : (c : ℕ) (but xs : List ℕ) → IsIn c (columns_but but xs) → IsIn c xs
but_back c but [] h = absurd h
but_back c but (x ∷ xs) h = but_back_at c x but xs (list_any (λ other. nat_eq other x) but) h (but_back c but xs)

-- the columns whose fields are kept are those of which the least or the greatest field is asked for
ranked : (asked : Totalled) (c : ℕ) → IsIn c (indexed asked) → IsIn c (asked.least ++ asked.greatest)
ranked asked c h = elim (in_split c (columns_but [] asked.least) (columns_but asked.least asked.greatest) h) [
  | inl k ↦ in_left c asked.least asked.greatest (but_back c [] asked.least k)
  | inr k ↦ in_right c asked.least asked.greatest (but_back c asked.least asked.greatest k)
]

row_there : (g : Grouping) (key : List Field) (x : Row) (rows : List Row) → 0 < count_of x (rows_of g key rows) → (0 < count_of x rows) × (key ≡ key_of g x)
row_there g key x [] there = absurd (omega arith)
row_there g key x (r ∷ rows) there = at (same_payload key (key_of g r)) refl there (row_there g key x rows)
  where
    at : (b : Bool) → same_payload key (key_of g r) ≡ b → 0 < count_of x (cond b (r ∷ rows_of g key rows) (rows_of g key rows)) → (0 < count_of x (rows_of g key rows) → (0 < count_of x rows) × (key ≡ key_of g x)) → (0 < count_of x (r ∷ rows)) × (key ≡ key_of g x)
    at false is h rest = let later = rest h in (let t = later.0 in omega (arith, count_of-cons x r rows), later.1)
    at true is h rest = elim (cases_lt 0 (one_if_same x r)) [
      | inl here ↦ (omega (arith, count_of-cons x r rows, here), payload_exact key (key_of g r) is ∙ ap (key_of g) (sym (one_if_same_exact x r here)))
      | inr not_here ↦ let later = rest (omega (arith, h, not_here, count_of-cons x r (rows_of g key rows))) in (let t = later.0 in omega (arith, count_of-cons x r rows), later.1)
    ]

kept_of : (o : Option LivingFields) (bag : LivingFields) (passed : ℕ) (lives : List Living) → o ≡ Some bag → BagKeeps o passed lives → KeepsLives bag lives
kept_of None bag passed lives e h = cc
kept_of (Some own) bag passed lives e h = let same : own ≡ bag = cc in subst (λ (b : LivingFields). KeepsLives b lives) same h.0

both_true : (a b c : Bool) → a ≡ true → b ≡ true → c ≡ true → ((a && b) && c) ≡ true
both_true true true true h i j = refl
both_true false b c h i j = cc
both_true true false c h i j = cc
both_true true true false h i j = cc

late_true : (b c : Bool) → b ≡ true → c ≡ true → (b && c) ≡ true
late_true true c h i = i
late_true false c h i = cc

-- a row's end is a cut point of its group
end_is_cut : (g : Grouping) (key : List Field) (x : Row) (rows : List Row) → 0 < count_of x (rows_of g key rows) → is_cut_of (rows_of g key rows) x.end ≡ true
end_is_cut g key x rows there = lt-ltb 0 (edges_of (rows_of g key rows) x.end) (edge_there (rows_of g key rows) x there)

-- a field that a bag holds may be held
pub field_may : (g : Grouping) (bags : Bags) (due : List CutPoint) (rows : List Row) (mark : ℕ) → KeepsFields g bags due rows mark → NoneBefore due mark → (r : Row) → 0 < count_of r (bag_rows bags.all.entries) → field_may_be_held g rows mark r ≡ true
field_may g bags due rows mark keeps passed r there =
    let of = of_bag bags.all.entries r keeps.sorted there in
    let kept = kept_of (bag_at bags.all.entries of.key) of.bag bags.passed (lives_of g.totalled (rows_of g of.key rows)) of.found (keeps.each of.key) in
    let held = held_is of.bag (lives_of g.totalled (rows_of g of.key rows)) kept of.life of.held in
    let from = life_of (indexed g.totalled) (rows_of g of.key rows) of.life held.0 in
    let own = row_there g of.key from.row rows from.there in
    let life = from.life in
    let begins : r.begin ≡ from.row.begin = ap (λ (y : Row). y.begin) of.is ∙ life.begin_is in
    let ends : r.end ≡ from.row.end = ap (λ (y : Row). y.end) of.is ∙ life.end_is in
    let ended = held.1 in
    let end = life.end_is in
    let late : mark ≤ from.row.end = elim (cases_lt from.row.end mark) [
      | inr late ↦ late
      | inl early ↦
          let low = (keeps.forgotten from.row.end of.key (end_is_cut g of.key from.row rows from.there) (not_due from.row.end of.key (has_point due from.row.end of.key) refl early)).from_there of.bag of.found in
          absurd (omega arith)
    ] in
    late_true (nat_le mark r.end) (list_any (shows_field g r) rows) (le-leb mark r.end (omega arith))
    (any_there (shows_field g r) from.row rows own.0
    (both_true (nat_eq r.begin from.row.begin) (nat_eq r.end from.row.end) (list_any (λ field. same_payload r.payload (key_of g from.row ++ (field ∷ []))) (ranked_fields g from.row))
    (eq-eqb r.begin from.row.begin begins) (eq-eqb r.end from.row.end ends)
    (field_there (λ field. same_payload r.payload (key_of g from.row ++ (field ∷ []))) of.life.field from.row.payload life.column (g.totalled.least ++ g.totalled.greatest) (ranked g.totalled life.column life.listed) life.field_is
    (ap (same_payload r.payload) (ap (λ k. k ++ (of.life.field ∷ [])) (sym own.1)) ∙ (ap (λ p. same_payload p (of.key ++ (of.life.field ∷ []))) (ap (λ (y : Row). y.payload) of.is) ∙ payload_itself (of.key ++ (of.life.field ∷ [])))))))
  where
    not_due : (t : ℕ) (key : List Field) (b : Bool) → has_point due t key ≡ b → t < mark → b ≡ false
    not_due t key true is early = let late = passed t key is in absurd (omega arith)
    not_due t key false is early = refl

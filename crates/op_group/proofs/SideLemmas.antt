-- The first fields of rows, side by side, after a row came or went.
use Rattle.std.proofs.Common.{◌≡◌, ℕ, zero, suc, ◌+◌, ◌-◌, ◌<◌, ◌≤◌, ◌⊎◌, inl, inr, List, [], ◌∷◌, ◌++◌, Bool, true, false, cond, length, take, drop, get_or, refl, ap, sym, ◌∙◌, subst, arith}
use Rattle.std.specs.Prelude.{nat_eq, ◌&&◌, ◌||◌, map, sum_by, Option, None, Some, option_map, not}
use Rattle.std.specs.List.{filter, filter_map, flat_map, list_any, slice_get, cons_option}
use Rattle.std.specs.declared.cmp.Ordering.{Ordering}
use Rattle.std.proofs.Math.ListN.{set}
use Rattle.std.proofs.lemmas.Bool.{eqb-true, eq-eqb}
use Rattle.std.proofs.lemmas.List.{map-append, length-map, take_all, append-nil, drop_all}
use Rattle.std.proofs.lemmas.Option.{slice_get-map, slice_get-get_or, get_or_from_slice_get}
use Rattle.std.proofs.lemmas.List.Elements.{filter-append}
use Rattle.cedr_base.specs.declared.field.Field.{Field}
use Rattle.cedr_base.specs.declared.row.Row.{Row}
use Rattle.cedr_living.specs.Fields.{first_of, first_by}
use Rattle.cedr_living.specs.FieldLaws.{field_order, field_order_back, first_by_same, first_by_is, first_alike, first_unique}
use Rattle.cedr_living.specs.LawWords.{IsAmong, IsFieldOrder}
use Rattle.cedr_living.specs.Lives.{Living, fields_at}
use Rattle.cedr_living.specs.Bags.{KeepsLives}
use Rattle.cedr_living.specs.declared.living.LivingFields.{LivingFields}
use Rattle.op_group.specs.declared.extremes.Side.{Side}
use Rattle.op_group.specs.declared.segment.Totalled.{Totalled}
use Rattle.op_group.specs.Groups.{column_fields, least_in, greatest_in, lives_at}
use Rattle.op_group.specs.Measures.{extremes_of}
use Rattle.op_group.specs.Sides.{sides, side_cmp, extreme_in, extreme_at, met_side, Passes, Tells}
use Rattle.op_group.specs.Bags.{field_lives, columns_but, indexed, lives_of}
use Rattle.op_group.specs.ExtremeLaws.{fields_sum, sum_cons}
use Rattle.op_group.specs.LawWords.{weighed}

map_map : {X Y : Type 0} (f : Y → Option Field) (h : X → Y) (g : X → Option Field) → ((x : X) → f (h x) ≡ g x) → (xs : List X) → map f (map h xs) ≡ map g xs
map_map f h g e [] = refl
map_map f h g e (x ∷ xs) = ap (λ y. y ∷ map f (map h xs)) (e x) ∙ ap (λ ys. g x ∷ ys) (map_map f h g e xs)

-- what is asked of rows is asked side by side
pub extremes_sides : (asked : Totalled) (rows : List Row) → extremes_of asked rows ≡ map (extreme_in rows) (sides asked)
extremes_sides asked rows = sym (
    map-append (extreme_in rows) (map (λ column. record { is_least = true; column = column }) asked.least) (map (λ column. record { is_least = false; column = column }) asked.greatest)
    ∙ (ap (λ ys. ys ++ map (extreme_in rows) (map (λ column. record { is_least = false; column = column }) asked.greatest)) (map_map (extreme_in rows) (λ column. record { is_least = true; column = column }) (least_in rows) (λ column. refl) asked.least)
    ∙ ap (λ ys. map (least_in rows) asked.least ++ ys) (map_map (extreme_in rows) (λ column. record { is_least = false; column = column }) (greatest_in rows) (λ column. refl) asked.greatest))
    )

order_at : (b : Bool) (side : Side) → side.is_least ≡ b → IsFieldOrder (side_cmp side)
order_at true side h = subst (λ (cmp : Field → Field → Ordering). IsFieldOrder cmp) (ap (λ b. cond b Rattle.cedr_base.specs.Order.field_cmp Rattle.cedr_living.specs.Fields.field_cmp_back) (sym h)) field_order
order_at false side h = subst (λ (cmp : Field → Field → Ordering). IsFieldOrder cmp) (ap (λ b. cond b Rattle.cedr_base.specs.Order.field_cmp Rattle.cedr_living.specs.Fields.field_cmp_back) (sym h)) field_order_back

pub side_order : (side : Side) → IsFieldOrder (side_cmp side)
side_order side = order_at side.is_least side refl

met_first : (side : Side) (o : Option Field) (fs : List Field) → first_by (side_cmp side) (cons_option o fs) ≡ met_side side o (first_by (side_cmp side) fs)
met_first side None fs = refl
met_first side (Some f) fs = refl

-- the first field of rows, and of a payload more
more_rows : (side : Side) (payload : List Field) (less more : List Row) → ((w : List Field → ℕ) → sum_by (λ (r : Row). w r.payload) more ≡ w payload + sum_by (λ (r : Row). w r.payload) less)
    → extreme_in more side ≡ met_side side (slice_get payload side.column) (extreme_in less side)
more_rows side payload less more h =
    first_by_same (side_cmp side) (side_order side) (column_fields more side.column) (cons_option (slice_get payload side.column) (column_fields less side.column))
    (λ w. omega (
      arith,
      fields_sum w side.column more,
      fields_sum w side.column less,
      h (λ p. weighed w (slice_get p side.column)),
      sum_cons w (slice_get payload side.column) (column_fields less side.column),
    ))
    ∙ met_first side (slice_get payload side.column) (column_fields less side.column)

-- a row that comes may be the first one
pub comes_first : (side : Side) (payload : List Field) (old new : List Row) → Passes true payload old new → extreme_in new side ≡ met_side side (slice_get payload side.column) (extreme_in old side)
comes_first side payload old new h = more_rows side payload old new h

-- and so may have been one that goes
pub went_first : (side : Side) (payload : List Field) (old new : List Row) → Passes false payload old new → extreme_in old side ≡ met_side side (slice_get payload side.column) (extreme_in new side)
went_first side payload old new h = more_rows side payload new old h

-- up to a place some items are these, and from there on those
abbrev pub turned_at : {X : Type 0} → ℕ → List X → List X → List X
turned_at n news olds = take n news ++ drop n olds

-- one item more
pub turned_more : {X : Type 0} (news olds : List X) (n : ℕ) (x d : X) → n < length olds → slice_get news n ≡ Some x → set (turned_at n news olds) n x ≡ turned_at (suc n) news olds
turned_more [] olds n x d h e = absurd (let k = Rattle.std.proofs.lemmas.Option.slice_get_within [] n x e in omega arith)
turned_more (y ∷ news) [] n x d h e = absurd (omega arith)
turned_more (y ∷ news) (o ∷ olds) zero x d h e = let is : y ≡ x = cc in ap (λ z. z ∷ olds) (sym is)
turned_more (y ∷ news) (o ∷ olds) (suc n) x d h e = ap (λ zs. y ∷ zs) (turned_more news olds n x d (omega arith) e)

-- the next item is still the old one
pub turned_still : {X : Type 0} (news olds : List X) (n : ℕ) (d : X) → n < length olds → length news ≡ length olds → get_or (turned_at n news olds) n d ≡ get_or olds n d
turned_still [] [] n d h e = absurd (omega arith)
turned_still [] (o ∷ olds) n d h e = absurd (omega arith)
turned_still (y ∷ news) [] n d h e = absurd (omega arith)
turned_still (y ∷ news) (o ∷ olds) zero d h e = refl
turned_still (y ∷ news) (o ∷ olds) (suc n) d h e = turned_still news olds n d (omega arith) (omega arith)

among_left : (f : Field) (xs ys : List Field) → IsAmong f xs → IsAmong f (xs ++ ys)
among_left f [] ys h = absurd h
among_left f (x ∷ xs) ys (inl h) = inl h
among_left f (x ∷ xs) ys (inr h) = inr (among_left f xs ys h)

among_right : (f : Field) (xs ys : List Field) → IsAmong f ys → IsAmong f (xs ++ ys)
among_right f [] ys h = h
among_right f (x ∷ xs) ys h = inr (among_right f xs ys h)

among_split : (f : Field) (xs ys : List Field) → IsAmong f (xs ++ ys) → IsAmong f xs ⊎ IsAmong f ys
among_split f [] ys h = inr h
among_split f (x ∷ xs) ys (inl h) = inl (inl h)
among_split f (x ∷ xs) ys (inr h) = elim (among_split f xs ys h) [ inl k ↦ inl (inr k) | inr k ↦ inr k ]

-- a column is one of some
abbrev pub IsIn : ℕ → List ℕ → Type 0
IsIn c [] = ⊥
IsIn c (d ∷ columns) = (c ≡ d) ⊎ IsIn c columns

module _ (f : Field) (c t : ℕ) (r : Row) where
  abbrev Own : Type 0
  Own = (lives_at t r ≡ true) × (slice_get r.payload c ≡ Some f)

  abbrev here : List ℕ → List Field
  here columns = fields_at c t (field_lives columns r)

  abbrev with_one : ℕ → Option Field → List ℕ → List Field
  with_one d o columns = fields_at c t (cons_option (option_map (λ g. record { column = d; begin = r.begin; end = r.end; field = g }) o) (field_lives columns r))

  own_at : (d : ℕ) (g : Field) (columns : List ℕ) (b e : Bool) → nat_eq c d ≡ b → lives_at t r ≡ e → slice_get r.payload d ≡ Some g → (IsAmong f (here columns) → Own)
      → IsAmong f (map (λ (l : Living). l.field) (cond (b && e) (record { column = d; begin = r.begin; end = r.end; field = g } ∷ filter (λ (l : Living). nat_eq c l.column && Rattle.cedr_living.specs.Lives.is_living_at t l) (field_lives columns r)) (filter (λ (l : Living). nat_eq c l.column && Rattle.cedr_living.specs.Lives.is_living_at t l) (field_lives columns r)))) → Own
  own_at d g columns true true is lives found rest (inl same) =
      let column = eqb-true c d is in
      (lives, ap (slice_get r.payload) column ∙ (found ∙ ap (λ x. Some x) (sym same)))
  own_at d g columns true true is lives found rest (inr h) = rest h
  own_at d g columns true false is lives found rest h = rest h
  own_at d g columns false e is lives found rest h = rest h

  own_option : (d : ℕ) (o : Option Field) (columns : List ℕ) → slice_get r.payload d ≡ o → (IsAmong f (here columns) → Own) → IsAmong f (with_one d o columns) → Own
  own_option d None columns found rest h = rest h
  own_option d (Some g) columns found rest h = own_at d g columns (nat_eq c d) (lives_at t r) refl refl found rest h

  -- a field that a row has in a column at a time is its own
  own_to : (columns : List ℕ) → IsAmong f (here columns) → Own
  own_to [] h = absurd h
  own_to (d ∷ columns) h = own_option d (slice_get r.payload d) columns refl (own_to columns) h

  back_at : (d : ℕ) (g : Field) (columns : List ℕ) (b e : Bool) → ((c ≡ d) × (b && e ≡ true) × (f ≡ g)) ⊎ IsAmong f (here columns)
      → IsAmong f (map (λ (l : Living). l.field) (cond (b && e) (record { column = d; begin = r.begin; end = r.end; field = g } ∷ filter (λ (l : Living). nat_eq c l.column && Rattle.cedr_living.specs.Lives.is_living_at t l) (field_lives columns r)) (filter (λ (l : Living). nat_eq c l.column && Rattle.cedr_living.specs.Lives.is_living_at t l) (field_lives columns r))))
  back_at d g columns true true (inl h) = inl h.2
  back_at d g columns true true (inr h) = inr h
  back_at d g columns true false (inl h) = let k = h.1 in cc
  back_at d g columns true false (inr h) = h
  back_at d g columns false e (inl h) = let k = h.1 in cc
  back_at d g columns false e (inr h) = h

  back_option : (d : ℕ) (o : Option Field) (columns : List ℕ) → slice_get r.payload d ≡ o → Own → (c ≡ d) ⊎ IsAmong f (here columns) → IsAmong f (with_one d o columns)
  back_option d None columns found own (inl same) = let k : Some f ≡ None = sym own.1 ∙ (ap (slice_get r.payload) same ∙ found) in cc
  back_option d None columns found own (inr h) = h
  back_option d (Some g) columns found own (inl same) =
      let e : Some f ≡ Some g = sym own.1 ∙ (ap (slice_get r.payload) same ∙ found) in
      let is : f ≡ g = cc in
      back_at d g columns (nat_eq c d) (lives_at t r) (inl (same, ap (λ b. b && lives_at t r) (eq-eqb c d same) ∙ own.0, is))
  back_option d (Some g) columns found own (inr h) = back_at d g columns (nat_eq c d) (lives_at t r) (inr h)

  own_back : (columns : List ℕ) → IsIn c columns → Own → IsAmong f (here columns)
  own_back [] there own = absurd there
  own_back (d ∷ columns) (inl same) own = back_option d (slice_get r.payload d) columns refl own (inl same)
  own_back (d ∷ columns) (inr there) own = back_option d (slice_get r.payload d) columns refl own (inr (own_back columns there own))

module _ (c t : ℕ) (columns : List ℕ) (there : IsIn c columns) where
  fields_split : (r : Row) (rows : List Row) → fields_at c t (field_lives columns r ++ flat_map (field_lives columns) rows) ≡ fields_at c t (field_lives columns r) ++ fields_at c t (flat_map (field_lives columns) rows)
  fields_split r rows =
      ap (map (λ (l : Living). l.field)) (filter-append (λ (l : Living). nat_eq c l.column && Rattle.cedr_living.specs.Lives.is_living_at t l) (field_lives columns r) (flat_map (field_lives columns) rows))
      ∙ map-append (λ (l : Living). l.field) (filter (λ (l : Living). nat_eq c l.column && Rattle.cedr_living.specs.Lives.is_living_at t l) (field_lives columns r)) (filter (λ (l : Living). nat_eq c l.column && Rattle.cedr_living.specs.Lives.is_living_at t l) (flat_map (field_lives columns) rows))

  alive_at : (f : Field) (r : Row) (rows : List Row) (b : Bool) (o : Option Field) → lives_at t r ≡ b → slice_get r.payload c ≡ o → Own f c t r → IsAmong f (column_fields (cond b (r ∷ filter (lives_at t) rows) (filter (lives_at t) rows)) c)
  alive_at f r rows false o is found own = let k : true ≡ false = sym own.0 ∙ is in cc
  alive_at f r rows true o is found own = subst (λ (x : Option Field). IsAmong f (cons_option x (column_fields (filter (lives_at t) rows) c))) (sym own.1) (inl refl)

  alive_rest : (f : Field) (r : Row) (rows : List Row) (b : Bool) → IsAmong f (column_fields (filter (lives_at t) rows) c) → IsAmong f (column_fields (cond b (r ∷ filter (lives_at t) rows) (filter (lives_at t) rows)) c)
  alive_rest f r rows false h = h
  alive_rest f r rows true h = among_cons (slice_get r.payload c)
    where
      among_cons : (o : Option Field) → IsAmong f (cons_option o (column_fields (filter (lives_at t) rows) c))
      among_cons None = h
      among_cons (Some g) = inr h

  -- a field that lives at a time is one of a row that is valid at it
  fields_to : (f : Field) (rows : List Row) → IsAmong f (fields_at c t (flat_map (field_lives columns) rows)) → IsAmong f (column_fields (filter (lives_at t) rows) c)
  fields_to f [] h = absurd h
  fields_to f (r ∷ rows) h = elim (among_split f (fields_at c t (field_lives columns r)) (fields_at c t (flat_map (field_lives columns) rows)) (subst (IsAmong f) (fields_split r rows) h)) [
    | inl own ↦ alive_at f r rows (lives_at t r) (slice_get r.payload c) refl refl (own_to f c t r columns own)
    | inr rest ↦ alive_rest f r rows (lives_at t r) (fields_to f rows rest)
  ]

  alive_split : (f : Field) (r : Row) (rows : List Row) (b : Bool) → lives_at t r ≡ b → IsAmong f (column_fields (cond b (r ∷ filter (lives_at t) rows) (filter (lives_at t) rows)) c) → Own f c t r ⊎ IsAmong f (column_fields (filter (lives_at t) rows) c)
  alive_split f r rows false is h = inr h
  alive_split f r rows true is h = split (slice_get r.payload c) refl h
    where
      split : (o : Option Field) → slice_get r.payload c ≡ o → IsAmong f (cons_option o (column_fields (filter (lives_at t) rows) c)) → Own f c t r ⊎ IsAmong f (column_fields (filter (lives_at t) rows) c)
      split None found k = inr k
      split (Some g) found (inl same) = inl (is, found ∙ ap (λ x. Some x) (sym same))
      split (Some g) found (inr k) = inr k

  fields_back : (f : Field) (rows : List Row) → IsAmong f (column_fields (filter (lives_at t) rows) c) → IsAmong f (fields_at c t (flat_map (field_lives columns) rows))
  fields_back f [] h = absurd h
  fields_back f (r ∷ rows) h = subst (IsAmong f) (sym (fields_split r rows)) (elim (alive_split f r rows (lives_at t r) refl h) [
    | inl own ↦ among_left f (fields_at c t (field_lives columns r)) (fields_at c t (flat_map (field_lives columns) rows)) (own_back f c t r columns there own)
    | inr rest ↦ among_right f (fields_at c t (field_lives columns r)) (fields_at c t (flat_map (field_lives columns) rows)) (fields_back f rows rest)
  ])

  -- the first field that lives at a time is that of the rows that are valid at it
  first_same : (cmp : Field → Field → Ordering) → IsFieldOrder cmp → (rows : List Row) → first_by cmp (fields_at c t (flat_map (field_lives columns) rows)) ≡ first_by cmp (column_fields (filter (lives_at t) rows) c)
  first_same cmp order rows = first_unique cmp order (λ f. IsAmong f (column_fields (filter (lives_at t) rows) c)) (first_by cmp (fields_at c t (flat_map (field_lives columns) rows))) (first_by cmp (column_fields (filter (lives_at t) rows) c))
      (first_alike cmp order (λ f. IsAmong f (fields_at c t (flat_map (field_lives columns) rows))) (λ f. IsAmong f (column_fields (filter (lives_at t) rows) c)) (first_by cmp (fields_at c t (flat_map (field_lives columns) rows)))
      (λ f. fields_to f rows) (λ f. fields_back f rows) (first_by_is cmp order (fields_at c t (flat_map (field_lives columns) rows))))
      (first_by_is cmp order (column_fields (filter (lives_at t) rows) c))

in_left : (c : ℕ) (xs ys : List ℕ) → IsIn c xs → IsIn c (xs ++ ys)
in_left c [] ys h = absurd h
in_left c (x ∷ xs) ys (inl h) = inl h
in_left c (x ∷ xs) ys (inr h) = inr (in_left c xs ys h)

in_right : (c : ℕ) (xs ys : List ℕ) → IsIn c ys → IsIn c (xs ++ ys)
in_right c [] ys h = h
in_right c (x ∷ xs) ys h = inr (in_right c xs ys h)

any_at : (c x : ℕ) (xs : List ℕ) (b : Bool) → nat_eq x c ≡ b → (b || list_any (λ other. nat_eq other c) xs) ≡ true → (list_any (λ other. nat_eq other c) xs ≡ true → IsIn c xs) → IsIn c (x ∷ xs)
any_at c x xs true is k rest = inl (sym (eqb-true x c is))
any_at c x xs false is k rest = inr (rest k)

any_in : (c : ℕ) (xs : List ℕ) → list_any (λ other. nat_eq other c) xs ≡ true → IsIn c xs
any_in c [] h = cc
any_in c (x ∷ xs) h = any_at c x xs (nat_eq x c) refl h (any_in c xs)

but_at : (c x : ℕ) (but xs : List ℕ) (b : Bool) → list_any (λ other. nat_eq other x) but ≡ b → list_any (λ other. nat_eq other c) but ≡ false → IsIn c (x ∷ xs) → (IsIn c xs → IsIn c (columns_but but xs)) → IsIn c (cond (not b) (x ∷ columns_but but xs) (columns_but but xs))
but_at c x but xs false is none (inl same) rest = inl same
but_at c x but xs false is none (inr there) rest = inr (rest there)
but_at c x but xs true is none (inl same) rest = let k : true ≡ false = sym is ∙ (ap (λ d. list_any (λ other. nat_eq other d) but) (sym same) ∙ none) in cc
but_at c x but xs true is none (inr there) rest = rest there

but_in : (c : ℕ) (but xs : List ℕ) → list_any (λ other. nat_eq other c) but ≡ false → IsIn c xs → IsIn c (columns_but but xs)
but_in c but [] none h = absurd h
but_in c but (x ∷ xs) none h = but_at c x but xs (list_any (λ other. nat_eq other x) but) refl none h (but_in c but xs none)

got_in : (c : ℕ) (xs : List ℕ) (i : ℕ) → slice_get xs i ≡ Some c → IsIn c xs
got_in c [] i h = absurd (let k = Rattle.std.proofs.lemmas.Option.slice_get_within [] i c h in omega arith)
got_in c (x ∷ xs) zero h = inl cc
got_in c (x ∷ xs) (suc i) h = inr (got_in c xs i h)

-- the column of each side is one of those whose fields are kept
sides_in : (asked : Totalled) (b : Bool) (c : ℕ) → list_any (λ other. nat_eq other c) asked.least ≡ b → IsIn c asked.least ⊎ IsIn c asked.greatest → IsIn c (indexed asked)
sides_in asked b c is (inl h) = in_left c (columns_but [] asked.least) (columns_but asked.least asked.greatest) (but_in c [] asked.least refl h)
sides_in asked true c is (inr h) = in_left c (columns_but [] asked.least) (columns_but asked.least asked.greatest) (but_in c [] asked.least refl (any_in c asked.least is))
sides_in asked false c is (inr h) = in_right c (columns_but [] asked.least) (columns_but asked.least asked.greatest) (but_in c asked.least asked.greatest is h)

side_in : (b : Bool) (columns : List ℕ) (rest : List Side) (place : ℕ) (side : Side) → slice_get (map (λ column. record { is_least = b; column = column }) columns ++ rest) place ≡ Some side → IsIn side.column columns ⊎ (i : ℕ) × (slice_get rest i ≡ Some side)
side_in b [] rest place side h = inr (place, h)
side_in b (c ∷ columns) rest zero side h = let is : record { is_least = b; column = c } ≡ side = cc in inl (inl (sym (ap (λ (s : Side). s.column) is)))
side_in b (c ∷ columns) rest (suc place) side h = elim (side_in b columns rest place side h) [ inl k ↦ inl (inr k) | inr k ↦ inr k ]

side_there : (asked : Totalled) (place : ℕ) (side : Side) → slice_get (sides asked) place ≡ Some side → IsIn side.column (indexed asked)
side_there asked place side h = sides_in asked (list_any (λ other. nat_eq other side.column) asked.least) side.column refl (elim (side_in true asked.least (map (λ column. record { is_least = false; column = column }) asked.greatest) place side h) [
  | inl k ↦ inl k
  | inr k ↦ elim (side_in false asked.greatest [] k.0 side (subst (λ (xs : List Side). slice_get xs k.0 ≡ Some side) (sym (Rattle.std.proofs.Common.append-nil (map (λ column. record { is_least = false; column = column }) asked.greatest))) k.1)) [
    | inl there ↦ inr there
    | inr none ↦ absurd (let n = Rattle.std.proofs.lemmas.Option.slice_get_within [] none.0 side none.1 in omega arith)
  ]
])

-- a bag that keeps the fields of rows tells at a time the first ones of the rows that are valid at it
pub tells_alive : (asked : Totalled) (living : LivingFields) (rows : List Row) (t : ℕ) → KeepsLives living (lives_of asked rows) → living.from ≤ t → Tells asked living t (filter (lives_at t) rows)
tells_alive asked living rows t keeps low = record {
  lives = lives_of asked rows;
  keeps = keeps;
  low = low;
  same = λ place side is. first_same side.column t (indexed asked) (side_there asked place side is) (side_cmp side) (side_order side) rows;
}

other_at : (cmp : Field → Field → Ordering) (f g : Field) (e : Option Field) (b : Bool) → e ≡ cond {A = Option Field} b (Some g) (Some f) → (e ≡ Some f → ⊥) → e ≡ Some g
other_at cmp f g e true is other = is
other_at cmp f g e false is other = absurd (other is)

-- a first field that isn't the one that goes stays
pub other_stays : (cmp : Field → Field → Ordering) (f : Field) (e x : Option Field) → e ≡ first_of cmp f x → (e ≡ Some f → ⊥) → e ≡ x
other_stays cmp f e None is other = absurd (other is)
other_stays cmp f e (Some g) is other = other_at cmp f g e (Rattle.std.specs.Ordering.is_gt (cmp f g)) is other

-- all of them
pub turned_whole : {X : Type 0} (news olds : List X) (n : ℕ) → length news ≡ length olds → length olds ≤ n → turned_at n news olds ≡ news
turned_whole news olds n same h =
    ap (λ xs. xs ++ drop n olds) (take_all n news (omega (arith, same))) ∙ (ap (λ xs. news ++ xs) (drop_all n olds h) ∙ append-nil news)

-- as many fields as are asked for
pub many_sides : (asked : Totalled) (rows : List Row) → length (extremes_of asked rows) ≡ length (sides asked)
many_sides asked rows = ap (λ (xs : List (Option Field)). length xs) (extremes_sides asked rows) ∙ length-map (sides asked) (extreme_in rows)

-- what is asked for at a place
side_found : (asked : Totalled) (rows : List Row) (place : ℕ) (side : Side) → slice_get (sides asked) place ≡ Some side → slice_get (extremes_of asked rows) place ≡ Some (extreme_in rows side)
side_found asked rows place side is = ap (λ (xs : List (Option Field)). slice_get xs place) (extremes_sides asked rows) ∙ (slice_get-map (extreme_in rows) (sides asked) place ∙ ap (option_map (extreme_in rows)) is)

-- each place has something that is asked for
pub side_missing : (asked : Totalled) (rows : List Row) (place : ℕ) (xs : List (Option Field)) → xs ≡ extremes_of asked rows → place < length xs → slice_get (sides asked) place ≡ None → ⊥
side_missing asked rows place xs is less none =
    let within : place < length (sides asked) = omega (arith, less, ap (λ (ys : List (Option Field)). length ys) is, many_sides asked rows) in
    slice_missing (sides asked) place within none
  where
    slice_missing : (ys : List Side) (k : ℕ) → k < length ys → slice_get ys k ≡ None → ⊥
    slice_missing ys k h e = let there = slice_get-get_or ys k (record { is_least = true; column = 0 }) h in let clash = sym there ∙ e in cc

module _ (asked : Totalled) (living : LivingFields) (at : ℕ) (payload : List Field) (old new : List Row) (place : ℕ) (side : Side) (is : slice_get (sides asked) place ≡ Some side) (x o : Option Field) where
  renewed_at : (up : Bool) → Passes up payload old new → Tells asked living at new → o ≡ extreme_in old side → (up ≡ true → x ≡ met_side side (slice_get payload side.column) o)
      → (up ≡ false → (lives : List Living) → KeepsLives living lives → living.from ≤ at → o ≡ met_side side (slice_get payload side.column) (extreme_at side at lives) → x ≡ extreme_at side at lives) → x ≡ extreme_in new side
  renewed_at true passes tells was came went = came refl ∙ (ap (met_side side (slice_get payload side.column)) was ∙ sym (comes_first side payload old new passes))
  renewed_at false passes tells was came went =
      let told = tells.same place side is in
      went refl tells.lives tells.keeps tells.low (was ∙ (went_first side payload old new passes ∙ ap (met_side side (slice_get payload side.column)) (sym told))) ∙ told

  -- the first fields after one more was renewed
  pub renewed_more : (up : Bool) (nows : List (Option Field)) → Passes up payload old new → Tells asked living at new → nows ≡ turned_at place (extremes_of asked new) (extremes_of asked old) → place < length nows → length nows ≡ length (extremes_of asked old)
      → o ≡ get_or nows place o → (up ≡ true → x ≡ met_side side (slice_get payload side.column) o)
      → (up ≡ false → (lives : List Living) → KeepsLives living lives → living.from ≤ at → o ≡ met_side side (slice_get payload side.column) (extreme_at side at lives) → x ≡ extreme_at side at lives)
      → set nows place x ≡ turned_at (place + 1) (extremes_of asked new) (extremes_of asked old)
  renewed_more up nows passes tells turned less wide item came went =
      let same : length (extremes_of asked new) ≡ length (extremes_of asked old) = many_sides asked new ∙ sym (many_sides asked old) in
      let within : place < length (extremes_of asked old) = omega (arith, less, wide) in
      let found = side_found asked old place side is in
      let was : o ≡ extreme_in old side =
      item ∙ (ap (λ xs. get_or xs place o) turned ∙ (turned_still (extremes_of asked new) (extremes_of asked old) place o within same ∙ get_or_from_slice_get (extremes_of asked old) place (extreme_in old side) o found)) in
      let more : place + 1 ≡ suc place = omega arith in
      ap (λ xs. set xs place x) turned
      ∙ (ap (λ y. set (turned_at place (extremes_of asked new) (extremes_of asked old)) place y) (renewed_at up passes tells was came went)
      ∙ (turned_more (extremes_of asked new) (extremes_of asked old) place (extreme_in new side) o within (side_found asked new place side is)
      ∙ ap (λ n. turned_at n (extremes_of asked new) (extremes_of asked old)) (sym more)))

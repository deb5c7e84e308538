-- The first field of a piece and of several.
use Rattle.std.proofs.Common.{◌≡◌, ℕ, suc, zero, ◌+◌, ◌/◌, ◌<◌, ◌≤◌, ◌⊎◌, inl, inr, List, ◌∷◌, Bool, true, false, cond, Option, Some, None, refl, ap, sym, ◌∙◌, subst, arith}
use Rattle.std.specs.Prelude.{nat_eq, ◌&&◌, IsSome, IfSome, slice_get, ⊤}
use Rattle.std.specs.BTreeMap.{BTreeMap, get}
use Rattle.std.specs.declared.cmp.Ordering.{Ordering}
use Rattle.std.specs.declared.cmp.Ordering.TheVariants.{Less, Equal, Greater}
use Rattle.std.specs.Ordering.{nat_cmp, ordering_then, ordering_reverse, is_gt, is_lt}
use Rattle.std.specs.Option.{option_cmp}
use Rattle.std.specs.Cmp.{nat_cmp_is}
use Rattle.std.proofs.lemmas.Bool.{cases_lt, eq-eqb, eqb-true}
use Rattle.std.proofs.lemmas.Cmp.{upto}
use Rattle.cedr_base.specs.declared.field.Field.{Field}
use Rattle.cedr_base.specs.Order.{field_cmp}
use Rattle.cedr_base.specs.OrderLaws.{field_total}
use Rattle.cedr_living.specs.declared.place.Place.{Place}
use Rattle.cedr_living.specs.declared.pieces.Pieces.{Pieces}
use Rattle.cedr_living.specs.declared.outer.Side.{Side}
use Rattle.cedr_living.specs.declared.outer.Side.TheVariants.{Least, Greatest}
use Rattle.cedr_living.specs.Fields.{first_of, IsFirstField, field_cmp_back}
use Rattle.cedr_living.specs.FieldLaws.{field_order, field_order_back, first_of_is, first_alike}
use Rattle.cedr_living.specs.LawWords.{IsFieldOrder}
use Rattle.cedr_living.specs.Pieces.{halved, seen_piece}
use Rattle.cedr_living.specs.Indexes.{IsIn, count_at, place_cmp}
use Rattle.cedr_living.specs.Outer.{first_of_both, outer_cmp, field_in, IsNextPlace, IsLastPlace, IsSeenField, IsSeenBelow}
use Rattle.cedr_living.specs.CompareLaws.{both_true}

-- a lesser number compares as less
lt_cmp : (t u : ℕ) → t < u → nat_cmp t u ≡ Less
lt_cmp t u h = sym (nat_cmp_is t u Less h)

-- a greater number compares as greater
gt_cmp : (t u : ℕ) → u < t → nat_cmp t u ≡ Greater
gt_cmp t u h = sym (nat_cmp_is t u Greater h)

-- the same number compares as equal
eq_cmp : (t u : ℕ) → t ≡ u → nat_cmp t u ≡ Equal
eq_cmp t u h = sym (nat_cmp_is t u Equal h)

-- what is between two with one number has it too
between : (x y : ℕ) (r s : Ordering) → ordering_then (nat_cmp x y) r ≡ Less → is_gt (ordering_then (nat_cmp y x) s) ≡ false → (x ≡ y) × (r ≡ Less) × (is_gt s ≡ false)
between x y r s h k = elim (cases_lt x y) [
  | inl below ↦ let e : true ≡ false = sym (ap (λ o. is_gt (ordering_then o s)) (gt_cmp y x below)) ∙ k in cc
  | inr not_below ↦ elim (cases_lt y x) [
    | inl above ↦ let e : Greater ≡ Less = sym (ap (λ o. ordering_then o r) (gt_cmp x y above)) ∙ h in cc
    | inr not_above ↦
        let same : x ≡ y = omega arith in
        (same, sym (ap (λ o. ordering_then o r) (eq_cmp x y same)) ∙ h, sym (ap (λ o. is_gt (ordering_then o s)) (eq_cmp y x (sym same))) ∙ k)
  ]
]

-- the same the other way round
between_back : (x y : ℕ) (r s : Ordering) → ordering_then (nat_cmp y x) r ≡ Less → is_lt (ordering_then (nat_cmp y x) s) ≡ false → (y ≡ x) × (r ≡ Less) × (is_lt s ≡ false)
between_back x y r s h k = elim (cases_lt y x) [
  | inl below ↦ let e : true ≡ false = sym (ap (λ o. is_lt (ordering_then o s)) (lt_cmp y x below)) ∙ k in cc
  | inr not_below ↦ elim (cases_lt x y) [
    | inl above ↦ let e : Greater ≡ Less = sym (ap (λ o. ordering_then o r) (gt_cmp y x above)) ∙ h in cc
    | inr not_above ↦
        let same : y ≡ x = omega arith in
        (same, sym (ap (λ o. ordering_then o r) (eq_cmp y x same)) ∙ h, sym (ap (λ o. is_lt (ordering_then o s)) (eq_cmp y x same)) ∙ k)
  ]
]

-- no field comes before none
none_first : (o : Option Field) → option_cmp field_cmp o None ≡ Less → ⊥
none_first None h = cc
none_first (Some f) h = cc

-- a piece that ends before the next one begins, and not before itself
last_piece : (at p : ℕ) (o : Option Field) (s : Ordering) → ordering_then (nat_cmp p (at + 1)) (option_cmp field_cmp o None) ≡ Less → is_lt (ordering_then (nat_cmp p at) s) ≡ false → (p ≡ at) × (is_lt s ≡ false)
last_piece at p o s h k = elim (cases_lt p at) [
  | inl below ↦ let e : true ≡ false = sym (ap (λ o. is_lt (ordering_then o s)) (lt_cmp p at below)) ∙ k in cc
  | inr not_below ↦ elim (cases_lt at p) [
    | inl above ↦ elim (cases_lt (at + 1) p) [
      | inl beyond ↦ let e : Greater ≡ Less = sym (ap (λ c. ordering_then c (option_cmp field_cmp o None)) (gt_cmp p (at + 1) beyond)) ∙ h in cc
      | inr next ↦
          let same : p ≡ at + 1 = omega arith in
          absurd (none_first o (sym (ap (λ c. ordering_then c (option_cmp field_cmp o None)) (eq_cmp p (at + 1) same)) ∙ h))
    ]
    | inr not_above ↦
        let same : p ≡ at = omega arith in
        (same, sym (ap (λ o. is_lt (ordering_then o s)) (eq_cmp p at same)) ∙ k)
  ]
]

-- places that differ in the field at most compare by it
same_piece : (column level at : ℕ) (o p : Option Field) → place_cmp (record { column = column; level = level; at = at; field = o }) (record { column = column; level = level; at = at; field = p }) ≡ option_cmp field_cmp o p
same_piece c l a o p =
    ap (λ x. ordering_then x (ordering_then (nat_cmp l l) (ordering_then (nat_cmp a a) (option_cmp field_cmp o p)))) (eq_cmp c c refl)
    ∙ (ap (λ x. ordering_then x (ordering_then (nat_cmp a a) (option_cmp field_cmp o p))) (eq_cmp l l refl)
    ∙ ap (λ x. ordering_then x (option_cmp field_cmp o p)) (eq_cmp a a refl))

-- a piece is before the next one
next_piece : (column level at : ℕ) (o p : Option Field) → place_cmp (record { column = column; level = level; at = at; field = o }) (record { column = column; level = level; at = at + 1; field = p }) ≡ Less
next_piece c l a o p =
    ap (λ x. ordering_then x (ordering_then (nat_cmp l l) (ordering_then (nat_cmp a (a + 1)) (option_cmp field_cmp o p)))) (eq_cmp c c refl)
    ∙ (ap (λ x. ordering_then x (ordering_then (nat_cmp a (a + 1)) (option_cmp field_cmp o p))) (eq_cmp l l refl)
    ∙ ap (λ x. ordering_then x (option_cmp field_cmp o p)) (lt_cmp a (a + 1) (omega arith)))

in_at : (column level at : ℕ) (p : Place) (f : Field) (b : Bool) → (nat_eq p.column column && (nat_eq p.level level && nat_eq p.at at)) ≡ b → cond b p.field None ≡ Some f → p ≡ record { column = column; level = level; at = at; field = Some f }
in_at c l a p f true h e =
    let all = both_true (nat_eq p.column c) (nat_eq p.level l && nat_eq p.at a) h in
    let rest = both_true (nat_eq p.level l) (nat_eq p.at a) all.1 in
    let column = eqb-true p.column c all.0 in
    let level = eqb-true p.level l rest.0 in
    let at = eqb-true p.at a rest.1 in
    λ i. record { column = column i; level = level i; at = at i; field = e i }
in_at c l a p f false h e = cc

-- the field of a place is there
field_there : (entries : List (Place × ℕ)) (column level at : ℕ) (o : Option Place) → ((p : Place) → o ≡ Some p → IsSome (count_at entries p)) → (f : Field) → field_in column level at o ≡ Some f → IsIn entries column level at f
field_there entries c l a None there f e = cc
field_there entries c l a (Some p) there f e =
    let is = in_at c l a p f (nat_eq p.column c && (nat_eq p.level l && nat_eq p.at a)) refl e in
    record { some = there (record { column = c; level = l; at = a; field = Some f }) (ap (λ x. Some x) is) }

field_is : (column level at : ℕ) (p : Place) (o : Option Field) → p.column ≡ column → p.level ≡ level → p.at ≡ at → p.field ≡ o → field_in column level at (Some p) ≡ o
field_is c l a p o column level at field =
    ap (λ b. cond b p.field None)
    (ap (λ b. b && (nat_eq p.level l && nat_eq p.at a)) (eq-eqb p.column c column)
    ∙ (ap (λ b. b && nat_eq p.at a) (eq-eqb p.level l level) ∙ eq-eqb p.at a at))
    ∙ field

record IsBefore (cmp : Field → Field → Ordering) (o : Option Field) (g : Field) : Type 0 where
  first : Field
  is : o ≡ Some first
  before : is_gt (cmp first g) ≡ false

least_field : (o : Option Field) (g : Field) → option_cmp field_cmp None o ≡ Less → is_gt (option_cmp field_cmp o (Some g)) ≡ false → IsBefore field_cmp o g
least_field None g h k = cc
least_field (Some f) g h k = record { first = f; is = refl; before = k }

not_less_back : (o p : Ordering) → o ≡ ordering_reverse p → is_lt o ≡ false → is_gt p ≡ false
not_less_back o Less h k = refl
not_less_back o Equal h k = refl
not_less_back o Greater h k = let e : true ≡ false = sym (ap is_lt h) ∙ k in cc

greatest_field : (o : Option Field) (g : Field) → is_lt (option_cmp field_cmp o (Some g)) ≡ false → IsBefore field_cmp_back o g
greatest_field None g k = cc
greatest_field (Some f) g k = record { first = f; is = refl; before = not_less_back (field_cmp f g) (field_cmp g f) (field_total.antisymm f g) k }

-- the least place of a piece after the one without a field
least_place : (column level at : ℕ) (p : Place) (g : Field) → place_cmp (record { column = column; level = level; at = at; field = None }) p ≡ Less → is_gt (place_cmp p (record { column = column; level = level; at = at; field = Some g })) ≡ false → IsBefore field_cmp (field_in column level at (Some p)) g
least_place c l a p g after before =
    let column = between c p.column _ _ after before in
    let level = between l p.level _ _ column.1 column.2 in
    let at = between a p.at _ _ level.1 level.2 in
    let least = least_field p.field g at.1 at.2 in
    record { first = least.first; is = field_is c l a p (Some least.first) (sym column.0) (sym level.0) (sym at.0) least.is; before = least.before }

-- the next place has the least field of a piece, if there is any
pub least_from : (entries : List (Place × ℕ)) (column level at : ℕ) (o : Option Place) → IsNextPlace entries (record { column = column; level = level; at = at; field = None }) o → IsFirstField field_cmp (IsIn entries column level at) (field_in column level at o)
least_from entries c l a o next = record {
  among = field_there entries c l a o next.there;
  before = λ g there.
      let found = next.first (record { column = c; level = l; at = a; field = Some g }) (same_piece c l a None (Some g)) there.some in
      let least = least_place c l a found.0 g found.2 found.3 in
      (least.first, ap (field_in c l a) found.1 ∙ least.is, least.before);
}

-- the greatest place of a piece before the next one
greatest_place : (column level at : ℕ) (p : Place) (g : Field) → place_cmp p (record { column = column; level = level; at = at + 1; field = None }) ≡ Less → is_lt (place_cmp p (record { column = column; level = level; at = at; field = Some g })) ≡ false → IsBefore field_cmp_back (field_in column level at (Some p)) g
greatest_place c l a p g before after =
    let column = between_back c p.column _ _ before after in
    let level = between_back l p.level _ _ column.1 column.2 in
    let at = last_piece a p.at p.field _ level.1 level.2 in
    let greatest = greatest_field p.field g at.1 in
    record { first = greatest.first; is = field_is c l a p (Some greatest.first) column.0 level.0 at.0 greatest.is; before = greatest.before }

-- the last place has the greatest field of a piece, if there is any
pub greatest_before : (entries : List (Place × ℕ)) (column level at : ℕ) (o : Option Place) → IsLastPlace entries (record { column = column; level = level; at = at + 1; field = None }) o → IsFirstField field_cmp_back (IsIn entries column level at) (field_in column level at o)
greatest_before entries c l a o last = record {
  among = field_there entries c l a o last.there;
  before = λ g there.
      let found = last.final (record { column = c; level = l; at = a; field = Some g }) (next_piece c l a (Some g) None) there.some in
      let greatest = greatest_place c l a found.0 g found.2 found.3 in
      (greatest.first, ap (field_in c l a) found.1 ∙ greatest.is, greatest.before);
}

-- the order from each side on
pub side_order : (side : Side) → IsFieldOrder (outer_cmp side)
side_order Least = field_order
side_order Greatest = field_order_back

module _ (cmp : Field → Field → Ordering) (order : IsFieldOrder cmp) where
  reaches : (f g : Field) (r : Option Field) → (h : Field) × (r ≡ Some h) × (is_gt (cmp h f) ≡ false) → is_gt (cmp f g) ≡ false → (h : Field) × (r ≡ Some h) × (is_gt (cmp h g) ≡ false)
  reaches f g r first next = (first.0, first.1, upto order.total first.0 f g first.2 next)

  -- the first of two first ones
  pub both_first : (here there : Field → Type 0) (o p : Option Field) → IsFirstField cmp here o → IsFirstField cmp there p → IsFirstField cmp (λ x. here x ⊎ there x) (first_of_both cmp o p)
  both_first here there None p one other = record {
    among = λ f e. inr (other.among f e);
    before = λ g h. elim h [
      | inl a ↦ let b = one.before g a in let e = b.1 in cc
      | inr a ↦ other.before g a
    ];
  }
  both_first here there (Some f) p one other =
      let first = first_of_is cmp order there f p other in
      record {
        among = λ x e. elim (first.among x e) [
          | inl is ↦ inl (one.among x (ap (λ y. Some y) (sym is)))
          | inr a ↦ inr a
        ];
        before = λ g h. elim h [
          | inl a ↦ let b = one.before g a in
              let is : f ≡ b.0 = (let e = b.1 in cc) in
              reaches f g (first_of cmp f p) (first.before f (inl refl)) (subst (λ y. is_gt (cmp y g) ≡ false) (sym is) b.2)
          | inr a ↦ first.before g (inr a)
        ];
      }

-- a time in units of the next level
pub halved_next : (level t : ℕ) → halved (suc level) t ≡ halved level t / 2
halved_next zero t = refl
halved_next (suc level) t = halved_next level (t / 2)

-- a piece in units of the next level
pub halved_up : (level piece t : ℕ) → piece ≡ halved level t → piece / 2 ≡ halved (level + 1) t
halved_up level piece t is =
    let next : suc level ≡ level + 1 = omega arith in
    ap (λ n. n / 2) is ∙ (sym (halved_next level t) ∙ ap (λ l. halved l t) next)

-- what is looked at is no later piece
pub seen_small : (rests : Bool) (piece : ℕ) → seen_piece rests piece ≤ piece
seen_small true piece = omega arith
seen_small false piece = omega arith

-- below no level nothing is seen
pub none_below : (cmp : Field → Field → Ordering) (bag : Pieces) (rests : Bool) (column t : ℕ) → IsFirstField cmp (IsSeenBelow bag rests column t 0) None
none_below cmp bag rests column t = record { among = λ f e. cc; before = λ g h. let high = h.high in absurd (omega arith) }

record IsHere (bag : Pieces) (rests : Bool) (column level piece : ℕ) (field : Field) : Type 0 where
  low : bag.low ≤ level
  there : IsIn bag.counts.entries column level (seen_piece rests piece) field

here_first : (side : Side) (bag : Pieces) (rests : Bool) (column level piece : ℕ) (p : Option Field) → (level < bag.low → p ≡ None) → (bag.low ≤ level → IsFirstField (outer_cmp side) (IsIn bag.counts.entries column level (seen_piece rests piece)) p) → IsFirstField (outer_cmp side) (IsHere bag rests column level piece) p
here_first side bag rests column level piece p skipped here = elim (cases_lt level bag.low) [
  | inl below ↦ record {
    among = λ f e. let none = skipped below in cc;
    before = λ g h. let low = h.low in absurd (omega arith);
  }
  | inr low ↦ let first = here low in record {
    among = λ f e. record { low = low; there = first.among f e };
    before = λ g h. first.before g h.there;
  }
]

-- with one level more
pub below_next : (side : Side) (bag : Pieces) (rests : Bool) (column t level piece : ℕ) (o p : Option Field) → piece ≡ halved level t → IsFirstField (outer_cmp side) (IsSeenBelow bag rests column t level) o
    → (level < bag.low → p ≡ None) → (bag.low ≤ level → IsFirstField (outer_cmp side) (IsIn bag.counts.entries column level (seen_piece rests piece)) p)
    → IsFirstField (outer_cmp side) (IsSeenBelow bag rests column t (level + 1)) (first_of_both (outer_cmp side) o p)
below_next side bag rests column t level piece o p is below skipped here =
    first_alike (outer_cmp side) (side_order side) (λ x. IsSeenBelow bag rests column t level x ⊎ IsHere bag rests column level piece x) (IsSeenBelow bag rests column t (level + 1)) (first_of_both (outer_cmp side) o p)
    (λ f h. elim h [
      | inl a ↦ record { level = a.level; low = a.low; high = let high = a.high in omega arith; there = a.there }
      | inr a ↦ record { level = level; low = a.low; high = omega arith; there = subst (λ n. IsIn bag.counts.entries column level (seen_piece rests n) f) is a.there }
    ])
    (λ f a. elim (cases_lt a.level level) [
      | inl less ↦ inl (record { level = a.level; low = a.low; high = less; there = a.there })
      | inr not_less ↦
          let same : a.level ≡ level = (let high = a.high in omega arith) in
          inr (record {
            low = subst (λ n. bag.low ≤ n) same a.low;
            there = subst (λ n. IsIn bag.counts.entries column level (seen_piece rests n) f) (sym is) (subst (λ n. IsIn bag.counts.entries column n (seen_piece rests (halved n t)) f) same a.there);
          })
    ])
    (both_first (outer_cmp side) (side_order side) (IsSeenBelow bag rests column t level) (IsHere bag rests column level piece) o p below (here_first side bag rests column level piece p skipped here))

-- below the level from which on there is nothing all is seen
pub all_seen : (side : Side) (bag : Pieces) (rests : Bool) (column t level : ℕ) (o : Option Field) → level ≡ bag.high → IsFirstField (outer_cmp side) (IsSeenBelow bag rests column t level) o → IsFirstField (outer_cmp side) (IsSeenField bag rests column t) o
all_seen side bag rests column t level o is first =
    first_alike (outer_cmp side) (side_order side) (IsSeenBelow bag rests column t level) (IsSeenField bag rests column t) o
    (λ f a. record { level = a.level; low = a.low; high = let high = a.high in omega arith; there = a.there })
    (λ f a. record { level = a.level; low = a.low; high = let high = a.high in omega arith; there = a.there })
    first

-- the first entry after a place
pub next_place : (counts : BTreeMap Place ℕ) (from p : Place) (n : ℕ) (range rest : List (Place × ℕ)) → range ≡ (p, n) ∷ rest
    → IfSome (slice_get range 0) (λ e. ((place_cmp from e.0 ≡ Less) × ⊤) × (get place_cmp counts e.0 ≡ Some e.1))
    → ((q : Place) → (place_cmp from q ≡ Less) × ⊤ → IsSome (get place_cmp counts q) → IfSome (slice_get range 0) (λ e. is_gt (place_cmp e.0 q) ≡ false))
    → IsNextPlace counts.entries from (Some p)
next_place counts from p n range rest is found least =
    let here = subst (λ (es : List (Place × ℕ)). IfSome (slice_get es 0) (λ e. ((place_cmp from e.0 ≡ Less) × ⊤) × (get place_cmp counts e.0 ≡ Some e.1))) is found in
    let some : IsSome (count_at counts.entries p) = subst (λ (o : Option ℕ). IsSome o) (sym here.1) (search Rattle.std.proofs.Common.rules) in
    record {
      there = λ x e. let same : p ≡ x = cc in subst (λ (y : Place). IsSome (count_at counts.entries y)) same some;
      first = λ q after there. (p, refl, here.0.0, subst (λ (es : List (Place × ℕ)). IfSome (slice_get es 0) (λ e. is_gt (place_cmp e.0 q) ≡ false)) is (least q (after, tt) there));
    }

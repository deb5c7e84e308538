-- The laws of the least and the greatest of some fields.
use Rattle.std.specs.Prelude.{ℕ, ◌≡◌, ◌<◌, ◌⊎◌, List, [], ◌∷◌, Option, Some, None, Bool, true, false, cond, sum_by, refl}
use Rattle.std.specs.declared.cmp.Ordering.{Ordering}
use Rattle.std.specs.declared.cmp.Ordering.TheVariants.{Less, Equal, Greater}
use Rattle.std.specs.Ordering.{is_gt, is_eq, ordering_reverse, ordering_then}
use Rattle.std.specs.Cmp.{IsTotalOrder}
use Rattle.std.proofs.Common.{ap, sym, subst, inl, inr, arith}
use Rattle.std.proofs.lemmas.Cmp.{tied_itself, upto, back_total}
use Rattle.std.proofs.lemmas.List.Sums.{sum_by-cons}
use Rattle.std.proofs.lemmas.Bool.{cases_lt}
use Rattle.cedr_base.specs.declared.field.Field.{Field}
use Rattle.cedr_base.specs.declared.row.Row.{Row}
use Rattle.cedr_base.specs.Order.{field_cmp}
use Rattle.cedr_base.proofs.RowLemmas.{exact_rows}
use Rattle.cedr_base.specs.OrderLaws.{field_total}
use Rattle.cedr_living.specs.Fields.{first_of, first_by, lesser, greater, least_field, greatest_field, field_cmp_back, IsFirstField}
use Rattle.cedr_living.specs.LawWords.{IsAmong, SameFields, IsFieldOrder}

-- fields that compare as equal are one
pub field_exact : (f g : Field) → field_cmp f g ≡ Equal → f ≡ g
field_exact f g h =
    let rows = exact_rows (record { end = 0; begin = 0; payload = f ∷ [] }) (record { end = 0; begin = 0; payload = g ∷ [] }) (ap (λ o. ordering_then o Equal) h) in
    let lists : f ∷ [] ≡ g ∷ [] = ap (λ (r : Row). r.payload) rows in cc

-- what is equal to an equal comparison is equal
pub from_is_eq : (o : Ordering) → is_eq o ≡ true → o ≡ Equal
from_is_eq Less h = cc
from_is_eq Equal h = refl
from_is_eq Greater h = cc

pub field_order : IsFieldOrder field_cmp
field_order = record { total = field_total; exact = field_exact }

pub field_order_back : IsFieldOrder field_cmp_back
field_order_back = record { total = back_total field_total; exact = λ f g h. sym (field_exact g f h) }

neither : (o p : Ordering) → o ≡ ordering_reverse p → is_gt o ≡ false → is_gt p ≡ false → o ≡ Equal
neither Less Less h k l = cc
neither Less Equal h k l = cc
neither Less Greater h k l = cc
neither Equal p h k l = refl
neither Greater p h k l = cc

greater_back : (o p : Ordering) → o ≡ ordering_reverse p → is_gt o ≡ true → is_gt p ≡ false
greater_back Less p h k = cc
greater_back Equal p h k = cc
greater_back Greater Less h k = refl
greater_back Greater Equal h k = cc
greater_back Greater Greater h k = cc

one_if_field : Field → Field → ℕ
one_if_field g f = cond (is_eq (field_cmp g f)) 1 0

one_itself : (g : Field) → one_if_field g g ≡ 1
unfolding one_if_field
one_itself g = ap {B = ℕ} (λ o. cond (is_eq o) 1 0) (tied_itself field_total g)

one_exact : (g f : Field) (b : Bool) → is_eq (field_cmp g f) ≡ b → 0 < cond {A = ℕ} b 1 0 → g ≡ f
one_exact g f true h k = field_exact g f (from_is_eq (field_cmp g f) h)
one_exact g f false h k = absurd (omega arith)

among_counts : (g : Field) (fs : List Field) → IsAmong g fs → 0 < sum_by (one_if_field g) fs
among_counts g [] h = absurd h
among_counts g (f ∷ fs) h = elim h [
  | inl here ↦ omega (arith, sum_by-cons (one_if_field g) f fs, one_itself g, ap (one_if_field g) here)
  | inr there ↦ omega (arith, sum_by-cons (one_if_field g) f fs, among_counts g fs there)
]

counts_among : (g : Field) (fs : List Field) → 0 < sum_by (one_if_field g) fs → IsAmong g fs
unfolding one_if_field
counts_among g [] h = absurd (omega arith)
counts_among g (f ∷ fs) h = elim (cases_lt 0 (one_if_field g f)) [
  | inl here ↦ inl (one_exact g f (is_eq (field_cmp g f)) refl here)
  | inr none ↦ inr (counts_among g fs (omega (arith, sum_by-cons (one_if_field g) f fs)))
]

-- what is among some fields is among the same bag of fields
pub among_same : (g : Field) (fs gs : List Field) → SameFields fs gs → IsAmong g fs → IsAmong g gs
among_same g fs gs same h = counts_among g gs (let some = among_counts g fs h in let e = same (one_if_field g) in omega arith)

module _ (cmp : Field → Field → Ordering) (order : IsFieldOrder cmp) where
  first_at : (f g : Field) (b : Bool) → is_gt (cmp f g) ≡ b → is_gt (cmp f g) ≡ false → is_gt (cmp g f) ≡ false → f ≡ g
  first_at f g b h k l = order.exact f g (neither (cmp f g) (cmp g f) (order.total.antisymm f g) k l)

  unique_at : (there : Field → Type 0) (o p : Option Field) → IsFirstField cmp there o → IsFirstField cmp there p → o ≡ p
  unique_at there None None one other = refl
  unique_at there None (Some g) one other = let b = one.before g (other.among g refl) in let e = b.1 in cc
  unique_at there (Some f) None one other = let b = other.before f (one.among f refl) in let e = b.1 in cc
  unique_at there (Some f) (Some g) one other =
      let b = one.before g (other.among g refl) in
      let d = other.before f (one.among f refl) in
      let f_is : f ≡ b.0 = (let e = b.1 in cc) in
      let g_is : g ≡ d.0 = (let e = d.1 in cc) in
      let fg : is_gt (cmp f g) ≡ false = subst (λ x. is_gt (cmp x g) ≡ false) (sym f_is) b.2 in
      let gf : is_gt (cmp g f) ≡ false = subst (λ x. is_gt (cmp x f) ≡ false) (sym g_is) d.2 in
      ap (λ x. Some x) (order.exact f g (neither (cmp f g) (cmp g f) (order.total.antisymm f g) fg gf))

  -- there is one first field at most
  pub first_unique : (there : Field → Type 0) (o p : Option Field) → IsFirstField cmp there o → IsFirstField cmp there p → o ≡ p
  first_unique = unique_at

  -- the first one of what is the same
  pub first_alike : (there other : Field → Type 0) (o : Option Field) → ((f : Field) → there f → other f) → ((f : Field) → other f → there f) → IsFirstField cmp there o → IsFirstField cmp other o
  first_alike there other o to back first = record { among = λ f e. to f (first.among f e); before = λ g h. first.before g (back g h) }

  itself : (f : Field) → is_gt (cmp f f) ≡ false
  itself f = ap is_gt (tied_itself order.total f)

  some_is : (f g : Field) → Some f ≡ Some g → f ≡ g
  some_is f g e = cc

  of_two_at : (there : Field → Type 0) (f g : Field) (b : Bool) → is_gt (cmp f g) ≡ b → IsFirstField cmp there (Some g) → IsFirstField cmp (λ x. (x ≡ f) ⊎ there x) (cond b (Some g) (Some f))
  of_two_at there f g true greater first = record {
    among = λ x e. inr (first.among x e);
    before = λ x h. elim h [
      | inl is ↦ (g, refl, subst (λ y. is_gt (cmp g y) ≡ false) (sym is) (greater_back (cmp f g) (cmp g f) (order.total.antisymm f g) greater))
      | inr rest ↦ first.before x rest
    ];
  }
  of_two_at there f g false not_greater first = record {
    among = λ x e. inl (sym (some_is f x e));
    before = λ x h. elim h [
      | inl is ↦ (f, refl, subst (λ y. is_gt (cmp f y) ≡ false) (sym is) (itself f))
      | inr rest ↦ let b = first.before x rest in
          (f, refl, upto order.total f g x not_greater (subst (λ y. is_gt (cmp y x) ≡ false) (sym (some_is g b.0 b.1)) b.2))
    ];
  }

  -- of a field and those of which something holds the first one
  pub first_of_is : (there : Field → Type 0) (f : Field) (o : Option Field) → IsFirstField cmp there o → IsFirstField cmp (λ x. (x ≡ f) ⊎ there x) (first_of cmp f o)
  first_of_is there f None first = record {
    among = λ x e. inl (sym (some_is f x e));
    before = λ x h. elim h [
      | inl is ↦ (f, refl, subst (λ y. is_gt (cmp f y) ≡ false) (sym is) (itself f))
      | inr rest ↦ let b = first.before x rest in let e = b.1 in cc
    ];
  }
  first_of_is there f (Some g) first = of_two_at there f g (is_gt (cmp f g)) refl first

  -- the first of some fields is among them, and none of them comes before it
  pub first_by_is : (fs : List Field) → IsFirstField cmp (λ g. IsAmong g fs) (first_by cmp fs)
  first_by_is [] = record { among = λ f e. cc; before = λ g h. absurd h }
  first_by_is (f ∷ fs) = first_of_is (λ g. IsAmong g fs) f (first_by cmp fs) (first_by_is fs)

  -- the first of some fields depends on their bag alone
  pub first_by_same : (fs gs : List Field) → SameFields fs gs → first_by cmp fs ≡ first_by cmp gs
  first_by_same fs gs same =
      first_unique (λ g. IsAmong g gs) (first_by cmp fs) (first_by cmp gs)
      (first_alike (λ g. IsAmong g fs) (λ g. IsAmong g gs) (first_by cmp fs) (λ f. among_same f fs gs same) (λ f. among_same f gs fs (λ w. sym (same w))) (first_by_is fs))
      (first_by_is gs)

  stays_at : (f g : Field) (b : Bool) → (cond b (Some g) (Some f) ≡ Some f → ⊥) → cond b (Some g) (Some f) ≡ Some g
  stays_at f g true other = refl
  stays_at f g false other = absurd (other refl)

  stays_of : (f : Field) (o : Option Field) → (first_of cmp f o ≡ Some f → ⊥) → first_of cmp f o ≡ o
  stays_of f None other = absurd (other refl)
  stays_of f (Some g) other = stays_at f g (is_gt (cmp f g)) other

  -- where a field that isn't the first one goes, the first one stays
  pub first_by_stays : (f : Field) (fs : List Field) → (first_by cmp (f ∷ fs) ≡ Some f → ⊥) → first_by cmp fs ≡ first_by cmp (f ∷ fs)
  first_by_stays f fs other = sym (stays_of f (first_by cmp fs) other)

-- the least of some fields depends on their bag alone
pub least_same : (fs gs : List Field) → SameFields fs gs → least_field fs ≡ least_field gs
least_same = first_by_same field_cmp field_order

-- the greatest of some fields depends on their bag alone
pub greatest_same : (fs gs : List Field) → SameFields fs gs → greatest_field fs ≡ greatest_field gs
greatest_same = first_by_same field_cmp_back field_order_back

-- the least of some fields is among them, and none of them is less
pub least_is : (fs : List Field) → IsFirstField field_cmp (λ g. IsAmong g fs) (least_field fs)
least_is = first_by_is field_cmp field_order

-- the greatest of some fields is among them, and none of them is greater
pub greatest_is : (fs : List Field) → IsFirstField field_cmp_back (λ g. IsAmong g fs) (greatest_field fs)
greatest_is = first_by_is field_cmp_back field_order_back

-- where a field that isn't the least goes, the least stays
pub least_stays : (f : Field) (fs : List Field) → (least_field (f ∷ fs) ≡ Some f → ⊥) → least_field fs ≡ least_field (f ∷ fs)
least_stays = first_by_stays field_cmp field_order

-- where a field that isn't the greatest goes, the greatest stays
pub greatest_stays : (f : Field) (fs : List Field) → (greatest_field (f ∷ fs) ≡ Some f → ⊥) → greatest_field fs ≡ greatest_field (f ∷ fs)
greatest_stays = first_by_stays field_cmp_back field_order_back

-- the least of a field and some others
pub least_with : (f : Field) (fs : List Field) → least_field (f ∷ fs) ≡ lesser f (least_field fs)
least_with f fs = refl

-- the greatest of a field and some others
pub greatest_with : (f : Field) (fs : List Field) → greatest_field (f ∷ fs) ≡ greater f (greatest_field fs)
greatest_with f fs = refl

-- The laws of lives in the order of their ends.
use Rattle.std.proofs.Common.{◌≡◌, ℕ, ◌<◌, ◌≤◌, inl, inr, Bool, true, false, cond, refl, ap, sym, ◌∙◌, arith}
use Rattle.std.specs.Prelude.{nat_eq, ◌&&◌}
use Rattle.std.specs.declared.cmp.Ordering.{Ordering}
use Rattle.std.specs.declared.cmp.Ordering.TheVariants.{Greater}
use Rattle.std.specs.Ordering.{nat_cmp, ordering_then, is_eq, is_gt}
use Rattle.std.specs.BTreeMap.{is_at}
use Rattle.std.proofs.lemmas.Bool.{eq-eqb, eqb-true, cases_lt}
use Rattle.std.proofs.lemmas.Bool.Decides.{nat_tests}
use Rattle.std.proofs.lemmas.Cmp.{tied_itself}
use Rattle.cedr_base.specs.Order.{field_cmp}
use Rattle.cedr_base.specs.OrderLaws.{field_total}
use Rattle.cedr_living.specs.declared.ending.Ending.{Ending}
use Rattle.cedr_living.specs.FieldLaws.{field_exact, from_is_eq}
use Rattle.cedr_living.specs.Lives.{Living}
use Rattle.cedr_living.specs.Ends.{ending_cmp, ending_of, life_of, is_end}
use Rattle.cedr_living.specs.CompareLaws.{at_is, four_at, both_true}

-- a map finds an ending by its end, its field, its begin and its column
ending_test : (p q : Ending) → is_at (ending_cmp p) q ≡ (((nat_eq p.end q.end && is_eq (field_cmp p.field q.field)) && nat_eq p.begin q.begin) && nat_eq p.column q.column)
ending_test p q =
    four_at (nat_cmp p.end q.end) (nat_cmp p.begin q.begin) (nat_cmp p.column q.column) (field_cmp p.field q.field)
    ∙ (ap (λ b. ((b && is_eq (field_cmp p.field q.field)) && is_eq (nat_cmp p.begin q.begin)) && is_eq (nat_cmp p.column q.column)) (at_is p.end q.end)
    ∙ (ap (λ b. ((nat_eq p.end q.end && is_eq (field_cmp p.field q.field)) && b) && is_eq (nat_cmp p.column q.column)) (at_is p.begin q.begin)
    ∙ ap (λ b. ((nat_eq p.end q.end && is_eq (field_cmp p.field q.field)) && nat_eq p.begin q.begin) && b) (at_is p.column q.column)))

-- endings that a map takes for one are one
pub ending_exact : (p q : Ending) → is_at (ending_cmp p) q ≡ true → p ≡ q
ending_exact p q h =
    let all = both_true ((nat_eq p.end q.end && is_eq (field_cmp p.field q.field)) && nat_eq p.begin q.begin) (nat_eq p.column q.column) (sym (ending_test p q) ∙ h) in
    let three = both_true (nat_eq p.end q.end && is_eq (field_cmp p.field q.field)) (nat_eq p.begin q.begin) all.0 in
    let two = both_true (nat_eq p.end q.end) (is_eq (field_cmp p.field q.field)) three.0 in
    let end = eqb-true p.end q.end two.0 in
    let begin = eqb-true p.begin q.begin three.1 in
    let column = eqb-true p.column q.column all.1 in
    let field = field_exact p.field q.field (from_is_eq (field_cmp p.field q.field) two.1) in
    λ i. record { end = end i; begin = begin i; column = column i; field = field i }

-- a map takes an ending for itself
pub ending_itself : (p : Ending) → is_at (ending_cmp p) p ≡ true
ending_itself p =
    ending_test p p
    ∙ (ap (λ b. ((b && is_eq (field_cmp p.field p.field)) && nat_eq p.begin p.begin) && nat_eq p.column p.column) (eq-eqb p.end p.end refl)
    ∙ (ap (λ o. (is_eq o && nat_eq p.begin p.begin) && nat_eq p.column p.column) (tied_itself field_total p.field)
    ∙ (ap (λ b. b && nat_eq p.column p.column) (eq-eqb p.begin p.begin refl)
    ∙ eq-eqb p.column p.column refl)))

-- a life has its own ending
pub is_end_own : (l : Living) → is_end (ending_of l) l ≡ 1
is_end_own l = ap {B = ℕ} (λ b. cond b 1 0) (ending_itself (ending_of l))

is_end_some_at : (e : Ending) (l : Living) (b : Bool) → is_at (ending_cmp (ending_of l)) e ≡ b → 0 < cond {A = ℕ} b 1 0 → l ≡ life_of e
is_end_some_at e l true is some = ap life_of (ending_exact (ending_of l) e is)
is_end_some_at e l false is some = absurd (omega arith)

-- a life of some ending is the life of that one
pub is_end_some : (e : Ending) (l : Living) → 0 < is_end e l → l ≡ life_of e
is_end_some e l some = is_end_some_at e l (is_at (ending_cmp (ending_of l)) e) refl some

not_after_at : (x y : ℕ) (o : Ordering) → is_gt (ordering_then (nat_cmp x y) o) ≡ false → x ≤ y
not_after_at x y o h = elim (cases_lt y x) [
  | inl more ↦ let is : nat_cmp x y ≡ Greater = grind (arith, nat_tests) in let greater : is_gt (ordering_then (nat_cmp x y) o) ≡ true = ap (λ p. is_gt (ordering_then p o)) is in cc
  | inr not_more ↦ omega arith
]

-- what doesn't come after another one doesn't end after it
pub not_after : (a b : Ending) → is_gt (ending_cmp a b) ≡ false → a.end ≤ b.end
not_after a b h = not_after_at a.end b.end (ordering_then (nat_cmp a.begin b.begin) (ordering_then (nat_cmp a.column b.column) (field_cmp a.field b.field))) h

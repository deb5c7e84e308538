-- The laws of counts in a map.
use Rattle.std.specs.Prelude.{ℕ, ◌≡◌, ◌<◌, List, [], Bool, true, false, cond, Option, Some, None, refl, nat_eq, IsSome}
use Rattle.std.specs.declared.cmp.Ordering.{Ordering}
use Rattle.std.proofs.Common.{ap, sym, ◌∙◌, subst, arith}
use Rattle.std.proofs.lemmas.Bool.{eq-eqb, eqb-true, eqb-false}
use Rattle.std.proofs.lemmas.Bool.Decides.{nat_tests}
use Rattle.cedr_living.specs.Counts.{counted, key_count}

-- a count that isn't 0 is kept
pub counted_some : (n : ℕ) → 0 < n → counted n ≡ Some n
counted_some n h = let many : nat_eq n 0 ≡ false = grind (arith, nat_tests) in ap {B = Option ℕ} (λ b. cond b None (Some n)) many

-- a count of 0 isn't kept
pub counted_none : (n : ℕ) → n ≡ 0 → counted n ≡ None
counted_none n h = ap {B = Option ℕ} (λ b. cond b None (Some n)) (eq-eqb n 0 h)

some_counted_at : (n : ℕ) (b : Bool) → nat_eq n 0 ≡ b → IsSome (cond b None (Some n)) → 0 < n
some_counted_at n true is some = search Rattle.std.proofs.Common.rules
some_counted_at n false is some = let not_none = eqb-false n 0 is in omega arith

-- what a map has is counted
pub some_counted : (n : ℕ) (o : Option ℕ) → o ≡ counted n → IsSome o → 0 < n
some_counted n o e some = some_counted_at n (nat_eq n 0) refl (subst (λ (x : Option ℕ). IsSome x) e some)

-- what is counted a map has
pub counted_there : (n : ℕ) (o : Option ℕ) → o ≡ counted n → 0 < n → IsSome o
counted_there n o e some = subst (λ (x : Option ℕ). IsSome x) (sym (e ∙ counted_some n some)) (search Rattle.std.proofs.Common.rules)

counted_zero_at : (n : ℕ) (b : Bool) → nat_eq n 0 ≡ b → cond b None (Some n) ≡ None → n ≡ 0
counted_zero_at n true is e = eqb-true n 0 is
counted_zero_at n false is e = cc

-- what isn't kept counts 0
pub counted_zero : (n : ℕ) → counted n ≡ None → n ≡ 0
counted_zero n e = counted_zero_at n (nat_eq n 0) refl e

-- a map without entries has nothing
pub none_there : {K : Type 0} (cmp : K → K → Ordering) (entries : List (K × ℕ)) → entries ≡ [] → (q : K) → key_count cmp entries q ≡ None
none_there cmp entries is q = ap (λ es. key_count cmp es q) is

-- Counts in a map.
use Rattle.std.proofs.Common.{◌≡◌, ℕ, ◌+◌, ◌-◌, ◌<◌, ◌≤◌, List, Bool, true, false, cond, Option, Some, None, refl, ap, sym, ◌∙◌, arith}
use Rattle.std.specs.Prelude.{nat_eq, ◌&&◌, unwrap_or}
use Rattle.std.specs.declared.cmp.Ordering.{Ordering}
use Rattle.std.specs.BTreeMap.{is_at}
use Rattle.std.proofs.lemmas.Bool.{eqb-true}
use Rattle.cedr_living.specs.declared.place.Place.{Place}
use Rattle.cedr_living.specs.Pieces.{one_if}
use Rattle.cedr_living.specs.Counts.{counted, moved_by, key_count, IsUpdate, CountsOne, Shifts}
use Rattle.cedr_living.specs.CountLaws.{counted_some, counted_none}
use Rattle.cedr_living.specs.Indexes.{place_cmp, is_on}
use Rattle.cedr_living.proofs.PlaceLemmas.{place_test}

was_counted_at : (n : ℕ) (b : Bool) → nat_eq n 0 ≡ b → unwrap_or (cond b None (Some n)) 0 ≡ n
was_counted_at n true h = sym (eqb-true n 0 h)
was_counted_at n false h = refl

-- what is counted
pub was_counted : (n : ℕ) (o : Option ℕ) → o ≡ counted n → unwrap_or o 0 ≡ n
was_counted n o e = ap (λ x. unwrap_or x 0) e ∙ was_counted_at n (nat_eq n 0) refl

-- none more and none less
pub shifted_none : (up : Bool) (n : ℕ) → moved_by up n 0 ≡ n
shifted_none true n = omega arith
shifted_none false n = omega arith

on_one : (s a : Bool) → cond {A = ℕ} s (cond (true && a) 1 0) 0 ≡ cond (s && a) 1 0
on_one true true = refl
on_one true false = refl
on_one false a = refl

-- one for a place
pub one_at_place : (place q : Place) → cond (is_on place q) (one_if true place.at q.at) 0 ≡ cond {A = ℕ} (is_at (place_cmp place) q) 1 0
one_at_place place q = on_one (is_on place q) (nat_eq place.at q.at) ∙ ap {B = ℕ} (λ b. cond b 1 0) (sym (place_test place q))

module _ {K : Type 0} (cmp : K → K → Ordering) (exact : (p q : K) → is_at (cmp p) q ≡ true → p ≡ q) where
  shifts_at : (up : Bool) (key q : K) (old new : List (K × ℕ)) (counts : K → ℕ) (b : Bool) → is_at (cmp key) q ≡ b → ((q : K) → key_count cmp old q ≡ counted (counts q))
      → key_count cmp new q ≡ cond b (counted (moved_by up (unwrap_or (key_count cmp old key) 0) 1)) (key_count cmp old q)
      → key_count cmp new q ≡ counted (moved_by up (counts q) (cond {A = ℕ} b 1 0))
  shifts_at up key q old new counts true is was e = e ∙ (ap (λ n. counted (moved_by up n 1)) (was_counted (counts key) (key_count cmp old key) (was key)) ∙ ap (λ p. counted (moved_by up (counts p) 1)) (exact key q is))
  shifts_at up key q old new counts false is was e = e ∙ (was q ∙ ap counted (sym (shifted_none up (counts q))))

  -- where a map counts one more or one less of a key, it does so whatever the counts
  pub shifts : (up : Bool) (key : K) (old new : List (K × ℕ)) → CountsOne up cmp key old new → Shifts up cmp key old new
  shifts up key old new one counts was q = shifts_at up key q old new counts (is_at (cmp key) q) refl was (one q)

-- one more
pub raised : (count : ℕ) (o : Option ℕ) → count ≡ unwrap_or o 0 → Some (count + 1) ≡ counted (moved_by true (unwrap_or o 0) 1)
raised count o is = ap (λ k. Some (k + 1)) is ∙ sym (counted_some (unwrap_or o 0 + 1) (omega arith))

-- one less where there was one at most
pub lowered_out : (count : ℕ) (o : Option ℕ) → count ≡ unwrap_or o 0 → count ≤ 1 → None ≡ counted (moved_by false (unwrap_or o 0) 1)
lowered_out count o is few = sym (counted_none (unwrap_or o 0 - 1) (omega arith))

-- one less where there were more
pub lowered : (count : ℕ) (o : Option ℕ) → count ≡ unwrap_or o 0 → 1 < count → Some (count - 1) ≡ counted (moved_by false (unwrap_or o 0) 1)
lowered count o is many = ap (λ k. Some (k - 1)) is ∙ sym (counted_some (unwrap_or o 0 - 1) (omega arith))

-- an update to what is the same
pub updated : {K : Type 0} (cmp : K → K → Ordering) (key : K) (w v : Option ℕ) (old new : List (K × ℕ)) → w ≡ v → IsUpdate cmp key w old new → IsUpdate cmp key v old new
updated cmp key w v old new same update q = update q ∙ ap (λ x. cond (is_at (cmp key) q) x (key_count cmp old q)) same

-- A bag that keeps some lives, as they come and go and are forgotten.
use Rattle.std.proofs.Common.{◌≡◌, ℕ, suc, zero, ◌+◌, ◌-◌, ◌*◌, ◌<◌, ◌≤◌, ◌⊎◌, inl, inr, List, [], ◌∷◌, length, Bool, true, false, cond, Option, Some, None, refl, ap, sym, ◌∙◌, subst, arith}
use Rattle.std.specs.Prelude.{nat_eq, nat_le, nat_lt, not, ◌&&◌, sum_by, map, IsSome}
use Rattle.std.specs.List.{filter}
use Rattle.std.specs.BTreeMap.{is_at}
use Rattle.std.proofs.Math.Nat.{suc-mul}
use Rattle.std.proofs.lemmas.Bool.{lt-ltb, le-ltb}
use Rattle.std.proofs.lemmas.List.Sums.{sum_by-cons}
use borrow.Author.Tests.{ltb-false}
use Rattle.cedr_base.specs.declared.field.Field.{Field}
use Rattle.cedr_living.specs.declared.ending.Ending.{Ending}
use Rattle.cedr_living.specs.declared.index.Index.{Index}
use Rattle.cedr_living.specs.Lives.{Living, is_living_at, fields_at, IsWith}
use Rattle.cedr_living.specs.Counts.{counted, IsUpdate, CountsOne}
use Rattle.cedr_living.specs.CountLaws.{counted_none, counted_there}
use Rattle.cedr_living.specs.Ends.{ending_cmp, end_count, ending_of, life_of, is_end}
use Rattle.cedr_living.specs.EndLaws.{ending_exact, is_end_own}
use Rattle.cedr_living.specs.Indexes.{Changes, Loses}
use Rattle.cedr_living.specs.Bags.{after, Holds, IsAmongLives}
use Rattle.cedr_living.specs.BagLaws.{sum_after, late_ended, sum_alike, holds_alike}
use Rattle.cedr_living.specs.LawWords.{late_only}
use Rattle.cedr_living.proofs.CountLemmas.{shifts}
use Rattle.cedr_living.proofs.IndexLemmas.{added, lost}

-- a map without entries counts no ending
pub none_without : (entries : List (Ending × ℕ)) → (0 < length entries → ⊥) → (e : Ending) → IsSome (end_count entries e) → ⊥
none_without [] none e there = search Rattle.std.proofs.Common.rules
none_without (x ∷ entries) none e there = none (omega arith)

-- a life that comes is held
pub added_late : (old new : Index) (ends more : List (Ending × ℕ)) (from : ℕ) (life : Living) → from < life.end → CountsOne true ending_cmp (ending_of life) ends more → Changes true old new life
    → (lives : List Living) → Holds old ends (after from lives) → Holds new more (after from (life ∷ lives))
added_late old new ends more from life lasts one change lives holds =
    subst (λ (b : Bool). Holds new more (cond b (life ∷ after from lives) (after from lives))) (sym (lt-ltb from life.end lasts))
    (record {
      index = added life old new change (after from lives) holds.index;
      ends = λ e. shifts ending_cmp ending_exact true (ending_of life) ends more one (λ q. sum_by (is_end q) (after from lives)) holds.ends e
          ∙ ap counted (omega (arith, sum_by-cons (is_end e) life (after from lives)));
    })

-- one life more among those that end after a time, if it does
with_late : (from : ℕ) (life : Living) (lives rest : List Living) → IsWith lives life rest → (w : Living → ℕ) → sum_by w (after from lives) ≡ late_only from w life + sum_by w (after from rest)
with_late from life lives rest with w = sum_after from w lives ∙ (with (late_only from w) ∙ ap (λ n. late_only from w life + n) (sym (sum_after from w rest)))

-- where a life goes that has ended, the rest is held
pub taken_ended : (index : Index) (ends : List (Ending × ℕ)) (from : ℕ) (life : Living) → life.end ≤ from → (lives rest : List Living) → Holds index ends (after from lives) → IsWith lives life rest → Holds index ends (after from rest)
taken_ended index ends from life ended lives rest holds with =
    holds_alike index ends (after from lives) (after from rest)
    (λ w. omega (arith, with_late from life lives rest with w, late_ended from w life ended)) holds

one_less : (n k m : ℕ) → n ≡ k + m → n - k ≡ m
one_less n k m is = omega arith

-- where a life goes the rest is held
pub taken_late : (old new : Index) (ends fewer : List (Ending × ℕ)) (from : ℕ) (life : Living) → from < life.end → CountsOne false ending_cmp (ending_of life) ends fewer → Loses 1 old new life
    → (lives rest : List Living) → Holds old ends (after from lives) → IsWith lives life rest → Holds new fewer (after from rest)
taken_late old new ends fewer from life lasts one loses lives rest holds with =
    let late_with : (w : Living → ℕ) → sum_by w (after from lives) ≡ w life + sum_by w (after from rest) =
    λ w. with_late from life lives rest with w ∙ ap (λ b. cond b (w life) 0 + sum_by w (after from rest)) (lt-ltb from life.end lasts) in
    record {
      index = lost 1 life old new loses (after from lives) (after from rest) (λ w. omega (arith, late_with w, suc-mul 0 (w life))) holds.index;
      ends = λ e. shifts ending_cmp ending_exact false (ending_of life) ends fewer one (λ q. sum_by (is_end q) (after from lives)) holds.ends e
          ∙ ap counted (one_less (sum_by (is_end e) (after from lives)) (is_end e life) (sum_by (is_end e) (after from rest)) (late_with (is_end e)));
    }

and_false : (a b : Bool) → b ≡ false → (a && b) ≡ false
and_false true b is = is
and_false false b is = refl

module _ (column at from : ℕ) (early : from ≤ at) where
  abbrev asked : Living → Bool
  asked l = nat_eq column l.column && is_living_at at l

  abbrev fields : List Living → List Field
  fields lives = map (λ (l : Living). l.field) lives

  not_asked : (l : Living) → nat_lt from l.end ≡ false → asked l ≡ false
  not_asked l ended = and_false (nat_eq column l.column) (is_living_at at l) (and_false (nat_le l.begin at) (nat_lt at l.end) (le-ltb at l.end (omega (arith, ltb-false from l.end ended))))

  fields_next : (l : Living) (some others : List Living) (b : Bool) → fields some ≡ fields others → fields (cond b (l ∷ some) some) ≡ fields (cond b (l ∷ others) others)
  fields_next l some others true same = ap (λ fs. l.field ∷ fs) same
  fields_next l some others false same = same

  fields_step : (l : Living) (some others : List Living) (b : Bool) → nat_lt from l.end ≡ b → fields (filter asked some) ≡ fields (filter asked others)
      → fields (filter asked (cond b (l ∷ some) some)) ≡ fields (filter asked (l ∷ others))
  fields_step l some others true is same = fields_next l (filter asked some) (filter asked others) (asked l) same
  fields_step l some others false is same = same ∙ sym (ap (λ b. fields (cond b (l ∷ filter asked others) (filter asked others))) (not_asked l is))

  -- at a time that isn't before that from which on lives are kept, all that live then are kept
  pub fields_after : (lives : List Living) → fields_at column at (after from lives) ≡ fields_at column at lives
  fields_after [] = refl
  fields_after (l ∷ lives) = fields_step l (after from lives) lives (nat_lt from l.end) refl (fields_after lives)

-- the lives that are not those of an ending
abbrev without : Ending → List Living → List Living
without e lives = filter (λ (l : Living). not (is_at (ending_cmp (ending_of l)) e)) lives

apart_at : (w : Living → ℕ) (e : Ending) (l : Living) (lives : List Living) (n : ℕ) (b : Bool) → is_at (ending_cmp (ending_of l)) e ≡ b
    → sum_by w lives ≡ n * w (life_of e) + sum_by w (without e lives)
    → sum_by w (l ∷ lives) ≡ (cond b 1 0 + n) * w (life_of e) + sum_by w (cond (not b) (l ∷ without e lives) (without e lives))
apart_at w e l lives n true is rest =
    let same : w l ≡ w (life_of e) = ap (λ x. w (life_of x)) (ending_exact (ending_of l) e is) in
    omega (arith, sum_by-cons w l lives, suc-mul n (w (life_of e)), same, rest)
apart_at w e l lives n false is rest = omega (arith, sum_by-cons w l lives, sum_by-cons w l (without e lives), rest)

-- a sum over some lives is one over those of an ending and one over the others
apart : (w : Living → ℕ) (e : Ending) (lives : List Living) → sum_by w lives ≡ sum_by (is_end e) lives * w (life_of e) + sum_by w (without e lives)
apart w e [] = omega arith
apart w e (l ∷ lives) =
    apart_at w e l lives (sum_by (is_end e) lives) (is_at (ending_cmp (ending_of l)) e) refl (apart w e lives)
    ∙ ap (λ n. n * w (life_of e) + sum_by w (without e (l ∷ lives))) (sym (sum_by-cons (is_end e) l lives))

-- Of some lives those are still held that are left where others went, all of which end at a time or before it.
pub record IsLeft (index : Index) (ends : List (Ending × ℕ)) (time : ℕ) (lives : List Living) : Type 0 where
  pub left : List Living
  pub holds : Holds index ends left
  pub same : (w : Living → ℕ) → ((l : Living) → l.end ≤ time → w l ≡ 0) → sum_by w left ≡ sum_by w lives

counted_is_at : (n m : ℕ) (b : Bool) → nat_eq n 0 ≡ b → cond b None (Some n) ≡ Some m → n ≡ m
counted_is_at n m true is e = cc
counted_is_at n m false is e = cc

counted_is : (n m : ℕ) → counted n ≡ Some m → n ≡ m
counted_is n m e = counted_is_at n m (nat_eq n 0) refl e

none_of : (n m : ℕ) → n ≡ n * 1 + m → m ≡ 0
none_of n m is = omega arith

popped_at : (e q : Ending) (ends : List (Ending × ℕ)) (left : List Living) (b : Bool) → is_at (ending_cmp e) q ≡ b
    → end_count ends q ≡ counted (sum_by (is_end q) left) → cond b None (end_count ends q) ≡ counted (sum_by (is_end q) (without e left))
popped_at e q ends left true is was =
    let same = ending_exact e q is in
    let none : sum_by (is_end e) (without e left) ≡ 0 = none_of (sum_by (is_end e) left) (sum_by (is_end e) (without e left)) (apart (is_end e) e left ∙ ap (λ n. sum_by (is_end e) left * n + sum_by (is_end e) (without e left)) (is_end_own (life_of e))) in
    sym (counted_none (sum_by (is_end q) (without e left)) (subst (λ x. sum_by (is_end x) (without e left) ≡ 0) same none))
popped_at e q ends left false is was =
    let other : is_end q (life_of e) ≡ 0 = ap {B = ℕ} (λ b. cond b 1 0) is in
    was ∙ ap counted (omega (arith, apart (is_end q) e left, ap (λ n. sum_by (is_end e) left * n) other))

-- where the lives of an ending go, the others are left
pub popped : (old new : Index) (ends fewer : List (Ending × ℕ)) (time : ℕ) (e : Ending) (count : ℕ) → e.end ≤ time → end_count ends e ≡ Some count → IsUpdate ending_cmp e None ends fewer → Loses count old new (life_of e)
    → (lives : List Living) → IsLeft old ends time lives → IsLeft new fewer time lives
popped old new ends fewer time e count over there gone loses lives was =
    let many : sum_by (is_end e) was.left ≡ count = counted_is (sum_by (is_end e) was.left) count (sym (was.holds.ends e) ∙ there) in
    record {
      left = without e was.left;
      holds = record {
        index = lost count (life_of e) old new loses was.left (without e was.left) (λ w. apart w e was.left ∙ ap (λ n. n * w (life_of e) + sum_by w (without e was.left)) many) was.holds.index;
        ends = λ q. gone q ∙ popped_at e q ends was.left (is_at (ending_cmp e) q) refl (was.holds.ends q);
      };
      same = λ w ended. omega (arith, apart w e was.left, ap (λ n. sum_by (is_end e) was.left * n) (ended (life_of e) over), was.same w ended);
    }

among_counts : (l : Living) (lives : List Living) → IsAmongLives l lives → 0 < sum_by (is_end (ending_of l)) lives
among_counts l [] among = absurd among
among_counts l (x ∷ lives) among = elim among [
  | inl here ↦ omega (arith, sum_by-cons (is_end (ending_of l)) x lives, is_end_own l, ap (is_end (ending_of l)) here)
  | inr later ↦ omega (arith, sum_by-cons (is_end (ending_of l)) x lives, among_counts l lives later)
]

all_late : (time : ℕ) (w : Living → ℕ) (lives : List Living) → ((l : Living) → IsAmongLives l lives → time < l.end) → sum_by w lives ≡ sum_by (late_only time w) lives
all_late time w [] lasts = refl
all_late time w (l ∷ lives) lasts =
    omega (arith, sum_by-cons w l lives, sum_by-cons (late_only time w) l lives, all_late time w lives (λ x among. lasts x (inr among)), ap (λ b. cond b (w l) 0) (lt-ltb time l.end (lasts l (inl refl))))

later_late_at : (from time : ℕ) (w : Living → ℕ) (l : Living) (b : Bool) → nat_lt from l.end ≡ b → from ≤ time → cond b (late_only time w l) 0 ≡ late_only time w l
later_late_at from time w l true is before = refl
later_late_at from time w l false is before = sym (late_ended time w l (omega (arith, ltb-false from l.end is)))

-- where no ending at a time or before it is there, those lives are held that end after it
pub forgotten : (index : Index) (ends : List (Ending × ℕ)) (from time : ℕ) → from ≤ time → ((e : Ending) → IsSome (end_count ends e) → time < e.end)
    → (lives : List Living) → IsLeft index ends time (after from lives) → Holds index ends (after time lives)
forgotten index ends from time before none lives was =
    let lasts : (l : Living) → IsAmongLives l was.left → time < l.end =
    λ l among. none (ending_of l) (counted_there (sum_by (is_end (ending_of l)) was.left) (end_count ends (ending_of l)) (was.holds.ends (ending_of l)) (among_counts l was.left among)) in
    holds_alike index ends was.left (after time lives)
    (λ w. all_late time w was.left lasts
    ∙ (was.same (late_only time w) (late_ended time w)
    ∙ (sum_after from (late_only time w) lives
    ∙ (sum_alike (late_only from (late_only time w)) (late_only time w) lives (λ l. later_late_at from time w l (nat_lt from l.end) refl before)
    ∙ sym (sum_after time w lives)))))
    was.holds

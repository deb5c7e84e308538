-- What a bag keeps depends on the bag of lives alone, and what it holds are lives that it keeps.
use Rattle.std.specs.Prelude.{ℕ, ◌≡◌, ◌<◌, ◌≤◌, ◌+◌, List, [], ◌∷◌, Bool, true, false, cond, Some, refl, nat_lt, map, sum_by, IsSome}
use Rattle.std.specs.BTreeMap.{is_at}
use Rattle.std.proofs.Common.{ap, sym, ◌∙◌, subst, inl, inr, arith}
use Rattle.std.proofs.lemmas.Bool.{cases_lt, le-ltb}
use Rattle.std.proofs.lemmas.List.Sums.{sum_by-cons}
use borrow.Author.Tests.{ltb-true, ltb-false}
use Rattle.cedr_living.specs.declared.ending.Ending.{Ending}
use Rattle.cedr_living.specs.declared.index.Index.{Index}
use Rattle.cedr_living.specs.declared.living.LivingFields.{LivingFields}
use Rattle.cedr_living.specs.Lives.{Living, SameLives}
use Rattle.cedr_living.specs.Counts.{counted}
use Rattle.cedr_living.specs.Ends.{ending_cmp, end_count, ending_of, life_of, is_end}
use Rattle.cedr_living.specs.IndexLaws.{indexes_same, bare_keeps}
use Rattle.cedr_living.specs.Bags.{after, Holds, KeepsLives, IsEmpty, AllEnd, held_lives, IsAmongLives}
use Rattle.cedr_living.specs.CountLaws.{counted_none, counted_zero, some_counted, none_there}
use Rattle.cedr_living.specs.EndLaws.{ending_itself, is_end_own, is_end_some}
use Rattle.cedr_living.specs.LawWords.{late_only}

sum_after_at : (w : Living → ℕ) (l : Living) (rest : List Living) (b : Bool) → sum_by w (cond b (l ∷ rest) rest) ≡ cond b (w l) 0 + sum_by w rest
sum_after_at w l rest true = sum_by-cons w l rest
sum_after_at w l rest false = omega arith

-- a sum over the lives that end after a time
pub sum_after : (t : ℕ) (w : Living → ℕ) (lives : List Living) → sum_by w (after t lives) ≡ sum_by (late_only t w) lives
sum_after t w [] = refl
sum_after t w (l ∷ lives) =
    sum_after_at w l (after t lives) (nat_lt t l.end)
    ∙ (ap (λ n. late_only t w l + n) (sum_after t w lives) ∙ sym (sum_by-cons (late_only t w) l lives))

-- the same summed
pub sum_alike : (v w : Living → ℕ) (lives : List Living) → ((l : Living) → v l ≡ w l) → sum_by v lives ≡ sum_by w lives
sum_alike v w lives same = λ i. sum_by (λ l. same l i) lives

-- of the same bag of lives the same ones end after a time
pub after_same : (t : ℕ) (lives others : List Living) → SameLives lives others → SameLives (after t lives) (after t others)
after_same t lives others same w = sum_after t w lives ∙ (same (late_only t w) ∙ sym (sum_after t w others))

-- what is held is held as a bag
pub holds_alike : (index : Index) (ends : List (Ending × ℕ)) (lives others : List Living) → SameLives lives others → Holds index ends lives → Holds index ends others
holds_alike index ends lives others same holds = record {
  index = indexes_same index lives others same holds.index;
  ends = λ e. holds.ends e ∙ ap counted (same (is_end e));
}

-- a bag keeps lives as a bag
pub keeps_alike : (bag : LivingFields) (lives others : List Living) → SameLives lives others → KeepsLives bag lives → KeepsLives bag others
keeps_alike bag lives others same keeps = holds_alike bag.index bag.ends.entries (after bag.from lives) (after bag.from others) (after_same bag.from lives others same) keeps

-- what has ended by a time counts nothing after it
pub late_ended : (t : ℕ) (w : Living → ℕ) (l : Living) → l.end ≤ t → late_only t w l ≡ 0
late_ended t w l ended = ap (λ b. cond b (w l) 0) (le-ltb t l.end ended)

-- a bag of which nothing is kept keeps lives that have all ended
pub empty_keeps : (bag : LivingFields) (lives : List Living) → IsEmpty bag → AllEnd bag.from lives → KeepsLives bag lives
empty_keeps bag lives empty ended =
    let none : (w : Living → ℕ) → sum_by w (after bag.from lives) ≡ 0 = λ w. sum_after bag.from w lives ∙ ended (late_only bag.from w) (late_ended bag.from w) in
    record {
      index = bare_keeps bag.index (after bag.from lives) empty.1 none;
      ends = λ e. none_there ending_cmp bag.ends.entries empty.0 e ∙ sym (counted_none (sum_by (is_end e) (after bag.from lives)) (none (is_end e)));
    }

late_all_at : (t : ℕ) (w : Living → ℕ) (l : Living) (b : Bool) → nat_lt t l.end ≡ b → (l.end ≤ t → w l ≡ 0) → w l ≡ cond b (w l) 0
late_all_at t w l true is ended = refl
late_all_at t w l false is ended = ended (ltb-false t l.end is)

-- where what has ended counts nothing, what counts is late
pub late_all : (t : ℕ) (w : Living → ℕ) → ((l : Living) → l.end ≤ t → w l ≡ 0) → (l : Living) → w l ≡ late_only t w l
late_all t w ended l = late_all_at t w l (nat_lt t l.end) refl (ended l)

no_lives : (lives : List Living) → ((e : Ending) → sum_by (is_end e) lives ≡ 0) → lives ≡ []
no_lives [] none = refl
no_lives (l ∷ lives) none = absurd (omega (arith, sum_by-cons (is_end (ending_of l)) l lives, is_end_own l, none (ending_of l)))

-- of lives that a bag keeps, of which nothing is kept, all have ended
pub empty_ended : (bag : LivingFields) (lives : List Living) → IsEmpty bag → KeepsLives bag lives → AllEnd bag.from lives
empty_ended bag lives empty keeps w ended =
    let none = no_lives (after bag.from lives) (λ e. counted_zero (sum_by (is_end e) (after bag.from lives)) (sym (keeps.ends e) ∙ none_there ending_cmp bag.ends.entries empty.0 e)) in
    sum_alike w (late_only bag.from w) lives (late_all bag.from w ended) ∙ (sym (sum_after bag.from w lives) ∙ ap (sum_by w) none)

found_at : (e : Ending × ℕ) (rest : List (Ending × ℕ)) (q : Ending) (b : Bool) → is_at (ending_cmp q) e.0 ≡ b → (b ≡ false → IsSome (end_count rest q)) → IsSome (cond b (Some e.1) (end_count rest q))
found_at e rest q true is later = search Rattle.std.proofs.Common.rules
found_at e rest q false is later = later refl

apart_not : (b : Bool) → b ≡ true → b ≡ false → ⊥
apart_not true is not = cc
apart_not false is not = cc

-- a life that is held counts among the ends
held_there : (entries : List (Ending × ℕ)) (l : Living) → IsAmongLives l (map (λ (e : Ending × ℕ). life_of e.0) entries) → IsSome (end_count entries (ending_of l))
held_there [] l among = absurd among
held_there (e ∷ entries) l among = elim among [
  | inl is ↦ found_at e entries (ending_of l) (is_at (ending_cmp (ending_of l)) e.0) refl
      (λ not. absurd (apart_not (is_at (ending_cmp (ending_of l)) e.0) (subst (λ q. is_at (ending_cmp (ending_of l)) q ≡ true) (ap ending_of is) (ending_itself (ending_of l))) not))
  | inr later ↦ found_at e entries (ending_of l) (is_at (ending_cmp (ending_of l)) e.0) refl (λ not. held_there entries l later)
]

kept_at : (t : ℕ) (e : Ending) (l : Living) (lives : List Living) (b : Bool) → nat_lt t l.end ≡ b → 0 < cond b (is_end e l) 0 → IsAmongLives (life_of e) (l ∷ lives) × (t < e.end)
kept_at t e l lives true is some =
    let own = is_end_some e l some in
    (inl (sym own), subst (λ (x : Living). t < x.end) own (ltb-true t l.end is))
kept_at t e l lives false is some = absurd (omega arith)

-- what counts among the lives that end after a time is one of them
kept_among : (t : ℕ) (e : Ending) (lives : List Living) → 0 < sum_by (late_only t (is_end e)) lives → IsAmongLives (life_of e) lives × (t < e.end)
kept_among t e [] some = absurd (omega arith)
kept_among t e (l ∷ lives) some = elim (cases_lt 0 (late_only t (is_end e) l)) [
  | inl here ↦ kept_at t e l lives (nat_lt t l.end) refl here
  | inr none ↦ let later = kept_among t e lives (omega (arith, sum_by-cons (late_only t (is_end e)) l lives)) in (inr later.0, later.1)
]

-- a life that a bag holds is one of those that it keeps, and ends after its time
pub held_is : (bag : LivingFields) (lives : List Living) → KeepsLives bag lives → (l : Living) → IsAmongLives l (held_lives bag) → IsAmongLives l lives × (bag.from < l.end)
held_is bag lives keeps l among =
    let there = held_there bag.ends.entries l among in
    kept_among bag.from (ending_of l) lives
    (subst (λ n. 0 < n) (sum_after bag.from (is_end (ending_of l)) lives)
    (some_counted (sum_by (is_end (ending_of l)) (after bag.from lives)) (end_count bag.ends.entries (ending_of l)) (keeps.ends (ending_of l)) there))

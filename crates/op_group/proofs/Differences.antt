-- The difference between two lists of rows turns the one into the other.
use Rattle.std.proofs.Common.{◌≡◌, ℕ, ◌+◌, ◌<◌, ◌≤◌, ◌⊎◌, inl, inr, List, [], ◌∷◌, Bool, true, false, cond, refl, ap, sym, ◌∙◌, arith}
use Rattle.std.specs.Prelude.{nat_lt}
use Rattle.std.specs.List.{flat_map}
use Rattle.std.proofs.lemmas.Bool.{cases_lt, lt-ltb, le-ltb, ltb-false}
use Rattle.cedr_base.specs.declared.row.Row.{Row}
use Rattle.cedr_base.specs.declared.change.Change.TheVariants.{Add, Cut}
use Rattle.cedr_base.specs.Rows.{IsRow, AreRows, one_if_same, count_of}
use Rattle.cedr_base.specs.Changes.{all_puts, all_takes, remnant}
use Rattle.cedr_base.proofs.Bags.{count_of-cons, count_of-append, one_if_same_exact}
use Rattle.change_laws.specs.Repairs.{AllFrom}
use Rattle.change_laws.proofs.BagSums.{count_of-itself}
use Rattle.change_laws.proofs.Moves.{remnant_none}
use Rattle.change_laws.proofs.RepairLemmas.{AllChanges, AllChanges-append, AllFrom-append, takes-append, puts-append, Turns}
use Rattle.op_group.specs.Cuts.{withdrawn_unless, added_unless, differences}
use Rattle.cedr_table.proofs.RowsLemmas.{first_is, others_are}

-- a copy of a row counts where the row isn't among others
same_choice : (r x : Row) (rows : List Row) → cond (nat_lt 0 (count_of x rows)) 0 (one_if_same r x) ≡ cond (nat_lt 0 (count_of r rows)) 0 (one_if_same r x)
same_choice r x rows = elim (cases_lt 0 (one_if_same r x)) [
  | inl same ↦ ap (λ y. cond (nat_lt 0 (count_of y rows)) 0 (one_if_same r x)) (sym (one_if_same_exact r x same))
  | inr other ↦ nothing_at (nat_lt 0 (count_of x rows)) (omega arith) ∙ sym (nothing_at (nat_lt 0 (count_of r rows)) (omega arith))
]
  where
    nothing_at : (b : Bool) → one_if_same r x ≡ 0 → cond b 0 (one_if_same r x) ≡ 0
    nothing_at true h = refl
    nothing_at false h = h

chosen_sum : (b : Bool) (m n : ℕ) → cond b 0 m + cond b 0 n ≡ cond b 0 (m + n)
chosen_sum true m n = refl
chosen_sum false m n = refl

nothing_chosen : (b : Bool) → cond {A = ℕ} b 0 0 ≡ 0
nothing_chosen true = refl
nothing_chosen false = refl

one_taken : (r x : Row) (b : Bool) → count_of r (all_takes (cond b [] (Cut x x.begin ∷ []))) ≡ cond b 0 (one_if_same r x)
one_taken r x true = refl
one_taken r x false = omega arith

takes_withdrawn : (r : Row) (news olds : List Row) → count_of r (all_takes (flat_map (withdrawn_unless news) olds)) ≡ cond (nat_lt 0 (count_of r news)) 0 (count_of r olds)
takes_withdrawn r news [] = sym (nothing_chosen (nat_lt 0 (count_of r news)))
takes_withdrawn r news (x ∷ olds) =
    let both = chosen_sum (nat_lt 0 (count_of r news)) (one_if_same r x) (count_of r olds) in
    let all : cond (nat_lt 0 (count_of r news)) 0 (one_if_same r x + count_of r olds) ≡ cond (nat_lt 0 (count_of r news)) 0 (count_of r (x ∷ olds)) = ap (λ n. cond (nat_lt 0 (count_of r news)) 0 n) (sym (count_of-cons r x olds)) in
    omega (arith, takes-append r (withdrawn_unless news x) (flat_map (withdrawn_unless news) olds), one_taken r x (nat_lt 0 (count_of x news)), same_choice r x news, takes_withdrawn r news olds, both, all)

no_puts_at : (r x : Row) (b : Bool) → count_of r (all_puts (cond b [] (Cut x x.begin ∷ []))) ≡ 0
no_puts_at r x true = refl
no_puts_at r x false = omega (arith, count_of-append r (remnant x x.begin) [], ap (count_of r) (remnant_none x x.begin (omega arith)))

puts_withdrawn : (r : Row) (news olds : List Row) → count_of r (all_puts (flat_map (withdrawn_unless news) olds)) ≡ 0
puts_withdrawn r news [] = refl
puts_withdrawn r news (x ∷ olds) = omega (arith, puts-append r (withdrawn_unless news x) (flat_map (withdrawn_unless news) olds), no_puts_at r x (nat_lt 0 (count_of x news)), puts_withdrawn r news olds)

one_put : (r x : Row) (b : Bool) → count_of r (all_puts (cond b [] (Add x ∷ []))) ≡ cond b 0 (one_if_same r x)
one_put r x true = refl
one_put r x false = omega arith

puts_added : (r : Row) (olds news : List Row) → count_of r (all_puts (flat_map (added_unless olds) news)) ≡ cond (nat_lt 0 (count_of r olds)) 0 (count_of r news)
puts_added r olds [] = sym (nothing_chosen (nat_lt 0 (count_of r olds)))
puts_added r olds (x ∷ news) =
    let both = chosen_sum (nat_lt 0 (count_of r olds)) (one_if_same r x) (count_of r news) in
    let all : cond (nat_lt 0 (count_of r olds)) 0 (one_if_same r x + count_of r news) ≡ cond (nat_lt 0 (count_of r olds)) 0 (count_of r (x ∷ news)) = ap (λ n. cond (nat_lt 0 (count_of r olds)) 0 n) (sym (count_of-cons r x news)) in
    omega (arith, puts-append r (added_unless olds x) (flat_map (added_unless olds) news), one_put r x (nat_lt 0 (count_of x olds)), same_choice r x olds, puts_added r olds news, both, all)

no_takes_at : (r x : Row) (b : Bool) → count_of r (all_takes (cond b [] (Add x ∷ []))) ≡ 0
no_takes_at r x true = refl
no_takes_at r x false = refl

takes_added : (r : Row) (olds news : List Row) → count_of r (all_takes (flat_map (added_unless olds) news)) ≡ 0
takes_added r olds [] = refl
takes_added r olds (x ∷ news) = omega (arith, takes-append r (added_unless olds x) (flat_map (added_unless olds) news), no_takes_at r x (nat_lt 0 (count_of x olds)), takes_added r olds news)

one_withdrawn : (x : Row) (t : ℕ) (b : Bool) → IsRow x → (b ≡ false → t ≤ x.begin) → AllChanges (cond b [] (Cut x x.begin ∷ [])) × AllFrom t (cond b [] (Cut x x.begin ∷ []))
one_withdrawn x t true is from = (tt, tt)
one_withdrawn x t false is from = (((is, omega arith, is.lives), tt), (from refl, tt))

one_added : (x : Row) (t : ℕ) (b : Bool) → IsRow x → (b ≡ false → t ≤ x.begin) → AllChanges (cond b [] (Add x ∷ [])) × AllFrom t (cond b [] (Add x ∷ []))
one_added x t true is from = (tt, tt)
one_added x t false is from = ((is, tt), (from refl, tt))

none_there : (x : Row) (rows : List Row) → nat_lt 0 (count_of x rows) ≡ false → count_of x rows ≡ 0
none_there x rows h = let none = ltb-false 0 (count_of x rows) h in omega arith

withdrawals : (t : ℕ) (news olds : List Row) → AreRows olds → ((r : Row) → 0 < count_of r olds → count_of r news ≡ 0 → t ≤ r.begin) → AllChanges (flat_map (withdrawn_unless news) olds) × AllFrom t (flat_map (withdrawn_unless news) olds)
withdrawals t news [] are from = (tt, tt)
withdrawals t news (x ∷ olds) are from =
    let one = one_withdrawn x t (nat_lt 0 (count_of x news)) (first_is x olds are) (λ h. from x (count_of-itself x olds) (none_there x news h)) in
    let rest = withdrawals t news olds (others_are x olds are) (λ r there. from r (omega (arith, there, count_of-cons r x olds))) in
    (AllChanges-append (withdrawn_unless news x) (flat_map (withdrawn_unless news) olds) one.0 rest.0, AllFrom-append t (withdrawn_unless news x) (flat_map (withdrawn_unless news) olds) one.1 rest.1)

additions : (t : ℕ) (olds news : List Row) → AreRows news → ((r : Row) → 0 < count_of r news → count_of r olds ≡ 0 → t ≤ r.begin) → AllChanges (flat_map (added_unless olds) news) × AllFrom t (flat_map (added_unless olds) news)
additions t olds [] are from = (tt, tt)
additions t olds (x ∷ news) are from =
    let one = one_added x t (nat_lt 0 (count_of x olds)) (first_is x news are) (λ h. from x (count_of-itself x news) (none_there x olds h)) in
    let rest = additions t olds news (others_are x news are) (λ r there. from r (omega (arith, there, count_of-cons r x news))) in
    (AllChanges-append (added_unless olds x) (flat_map (added_unless olds) news) one.0 rest.0, AllFrom-append t (added_unless olds x) (flat_map (added_unless olds) news) one.1 rest.1)

-- counts of the old rows, the new ones, those that are taken and those that are put
record IsDifference (o n taken put : ℕ) : Type 0 where
  sums : n + taken ≡ o + put
  there : taken ≤ o
  apart : (taken ≡ 0) ⊎ (put ≡ 0)

difference_at : (o n : ℕ) (b c : Bool) → nat_lt 0 n ≡ b → nat_lt 0 o ≡ c → o ≤ 1 → n ≤ 1 → IsDifference o n (cond b 0 o) (cond c 0 n)
difference_at o n true true h k one other =
    let some = Rattle.std.proofs.lemmas.Bool.ltb-true 0 n h in
    let more = Rattle.std.proofs.lemmas.Bool.ltb-true 0 o k in
    record { sums = omega arith; there = omega arith; apart = inl refl }
difference_at o n true false h k one other = let none = ltb-false 0 o k in record { sums = omega arith; there = omega arith; apart = inl refl }
difference_at o n false true h k one other = let none = ltb-false 0 n h in record { sums = omega arith; there = omega arith; apart = inr refl }
difference_at o n false false h k one other =
    let none = ltb-false 0 n h in
    let nothing = ltb-false 0 o k in
    record { sums = omega arith; there = omega arith; apart = inl (omega arith) }

-- where no row is there twice, the difference takes old rows and puts new ones, and leaves those that are both
pub differences_turn : (t : ℕ) (olds news : List Row) → AreRows olds → AreRows news → ((r : Row) → count_of r olds ≤ 1) → ((r : Row) → count_of r news ≤ 1)
    → ((r : Row) → 0 < count_of r olds → count_of r news ≡ 0 → t ≤ r.begin) → ((r : Row) → 0 < count_of r news → count_of r olds ≡ 0 → t ≤ r.begin)
    → Turns t olds news (differences olds news)
differences_turn t olds news old_rows new_rows one other from_old from_new =
    let out = withdrawals t news olds old_rows from_old in
    let back = additions t olds news new_rows from_new in
    let taken : (r : Row) → count_of r (all_takes (differences olds news)) ≡ cond (nat_lt 0 (count_of r news)) 0 (count_of r olds) =
    λ r. omega (arith, takes-append r (flat_map (withdrawn_unless news) olds) (flat_map (added_unless olds) news), takes_withdrawn r news olds, takes_added r olds news) in
    let put : (r : Row) → count_of r (all_puts (differences olds news)) ≡ cond (nat_lt 0 (count_of r olds)) 0 (count_of r news) =
    λ r. omega (arith, puts-append r (flat_map (withdrawn_unless news) olds) (flat_map (added_unless olds) news), puts_withdrawn r news olds, puts_added r olds news) in
    let is : (r : Row) → IsDifference (count_of r olds) (count_of r news) (cond (nat_lt 0 (count_of r news)) 0 (count_of r olds)) (cond (nat_lt 0 (count_of r olds)) 0 (count_of r news)) =
    λ r. difference_at (count_of r olds) (count_of r news) (nat_lt 0 (count_of r news)) (nat_lt 0 (count_of r olds)) refl refl (one r) (other r) in
    record {
      changes = AllChanges-append (flat_map (withdrawn_unless news) olds) (flat_map (added_unless olds) news) out.0 back.0;
      from = AllFrom-append t (flat_map (withdrawn_unless news) olds) (flat_map (added_unless olds) news) out.1 back.1;
      sums = λ r. omega (arith, taken r, put r, (is r).sums);
      there = λ r. omega (arith, taken r, (is r).there);
      apart = λ r. elim (is r).apart [ inl h ↦ inl (taken r ∙ h) | inr h ↦ inr (put r ∙ h) ];
    }

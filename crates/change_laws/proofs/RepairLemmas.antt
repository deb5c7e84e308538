-- How to show that changes repair a table.
use Rattle.std.proofs.Common.{◌≡◌, ℕ, ◌+◌, ◌-◌, ◌≤◌, ◌⊎◌, inl, inr, List, [], ◌∷◌, ◌++◌, refl, ap, sym, ◌∙◌, arith, min, max, append_assoc}
use Rattle.std.specs.Prelude.{sum_by, map}
use Rattle.std.proofs.lemmas.List.Sums.{sum_by-cons}
use Rattle.std.specs.List.{flat_map}
use Rattle.std.proofs.lemmas.List.Concat.{flat_map-append}
use Rattle.cedr_base.specs.declared.row.Row.{Row}
use Rattle.cedr_base.specs.declared.change.Change.{Change}
use Rattle.cedr_base.specs.declared.change.Change.TheVariants.{Add, Cut}
use Rattle.cedr_base.specs.Rows.{count_of, one_if_same}
use Rattle.cedr_base.specs.Changes.{sync_of, IsChange, puts, takes, all_puts, all_takes, count_after, MayFollow}
use Rattle.cedr_base.proofs.Bags.{count_of-append}
use Rattle.change_laws.specs.Repairs.{IsMoved, AreLegal, AllFrom, Repair}
use Rattle.change_laws.proofs.Moves.{may_is, apart_change, sum_by-there}
use Rattle.change_laws.proofs.BagSums.{count_of-itself}

-- each is a change
abbrev pub AllChanges : List Change → Type 0
AllChanges [] = Unit {0}
AllChanges (c ∷ cs) = IsChange c × AllChanges cs

-- the copies of a row that two lists of changes take are those of the first and those of the second
pub takes-append : (r : Row) (cs ds : List Change) → count_of r (all_takes (cs ++ ds)) ≡ count_of r (all_takes cs) + count_of r (all_takes ds)
takes-append r cs ds = ap (count_of r) (flat_map-append takes cs ds) ∙ count_of-append r (all_takes cs) (all_takes ds)

-- the copies of a row that two lists of changes put are those of the first and those of the second
pub puts-append : (r : Row) (cs ds : List Change) → count_of r (all_puts (cs ++ ds)) ≡ count_of r (all_puts cs) + count_of r (all_puts ds)
puts-append r cs ds = ap (count_of r) (flat_map-append puts cs ds) ∙ count_of-append r (all_puts cs) (all_puts ds)

-- where all rows that the changes take are there, a retraction's row is there when its turn comes
follows : (old : List Row) (before : List Change) (c : Change) (cs : List Change) → IsChange c → ((r : Row) → count_of r (all_takes (before ++ c ∷ cs)) ≤ count_of r old) → MayFollow old before c
follows old before (Add a) cs is there = is
follows old before (Cut a e) cs is there = (is, omega (arith, there a, takes-append a before (Cut a e ∷ cs), count_of-itself a (all_takes cs), count_of-append a (a ∷ []) (all_takes cs)))

legal_behind : (old : List Row) (before cs : List Change) → AllChanges cs → ((r : Row) → count_of r (all_takes (before ++ cs)) ≤ count_of r old) → AreLegal old before cs
legal_behind old before [] is there = tt
legal_behind old before (c ∷ cs) is there =
    (follows old before c cs is.0 there, legal_behind old (before ++ c ∷ []) cs is.1 (λ r. rw append_assoc (there r)))

between_at : (r : Row) (o n p t : ℕ) (p1 p2 t1 t2 : ℕ) → n + t ≡ o + p → p ≡ p1 + p2 → t ≡ t1 + t2 → t ≤ o → (t ≡ 0) ⊎ (p ≡ 0) → (min o n ≤ (o + p1) - t1) × ((o + p1) - t1 ≤ max o n)
between_at r o n p t p1 p2 t1 t2 sums ps ts there (inl h) = (omega arith, omega arith)
between_at r o n p t p1 p2 t1 t2 sums ps ts there (inr h) = (omega arith, omega arith)

-- changes that take rows of the old table alone, and put none that they take, repair it
pub repair : (old new : List Row) (t : ℕ) (cs : List Change) → AllChanges cs → AllFrom t cs
    → ((r : Row) → count_of r new + count_of r (all_takes cs) ≡ count_of r old + count_of r (all_puts cs))
    → ((r : Row) → count_of r (all_takes cs) ≤ count_of r old)
    → ((r : Row) → (count_of r (all_takes cs) ≡ 0) ⊎ (count_of r (all_puts cs) ≡ 0))
    → Repair old new t cs
repair old new t cs are from sums there apart =
    let at : (before after : List Change) → cs ≡ before ++ after → (r : Row) → (min (count_of r old) (count_of r new) ≤ count_after old before r) × (count_after old before r ≤ max (count_of r old) (count_of r new)) =
    λ before after e r. between_at r (count_of r old) (count_of r new) (count_of r (all_puts cs)) (count_of r (all_takes cs)) (count_of r (all_puts before)) (count_of r (all_puts after)) (count_of r (all_takes before)) (count_of r (all_takes after))
    (sums r) (ap (λ ds. count_of r (all_puts ds)) e ∙ puts-append r before after) (ap (λ ds. count_of r (all_takes ds)) e ∙ takes-append r before after) (there r) (apart r) in
    record {
      legal = legal_behind old [] cs are there;
      leads = record { sums = record { each = λ r. count_of-append r new (all_takes cs) ∙ (sums r ∙ sym (count_of-append r old (all_puts cs))) } };
      from = from;
      between = record { least = λ before after e r. (at before after e r).0; most = λ before after e r. (at before after e r).1 };
    }

-- two lists, one after the other, are changes throughout where each of them is
pub AllChanges-append : (cs ds : List Change) → AllChanges cs → AllChanges ds → AllChanges (cs ++ ds)
AllChanges-append [] ds h k = k
AllChanges-append (c ∷ cs) ds h k = (h.0, AllChanges-append cs ds h.1 k)

-- no change of two lists, one after the other, is seen before a time where that holds of each list
pub AllFrom-append : (t : ℕ) (cs ds : List Change) → AllFrom t cs → AllFrom t ds → AllFrom t (cs ++ ds)
AllFrom-append t [] ds h k = k
AllFrom-append t (c ∷ cs) ds h k = (h.0, AllFrom-append t cs ds h.1 k)

-- additions take no row
pub takes_adds : (rows : List Row) → all_takes (map (λ r. Add r) rows) ≡ []
takes_adds [] = refl
takes_adds (r ∷ rows) = takes_adds rows

-- additions put their rows
pub puts_adds : (rows : List Row) → all_puts (map (λ r. Add r) rows) ≡ rows
puts_adds [] = refl
puts_adds (r ∷ rows) = ap (λ xs. r ∷ xs) (puts_adds rows)

-- where changes are made one list at a time, the copies of a row that they take are the sum over the lists
pub takes-flat_map : {X : Type 0} (r : Row) (f : X → List Change) (xs : List X) → count_of r (all_takes (flat_map f xs)) ≡ sum_by (λ x. count_of r (all_takes (f x))) xs
takes-flat_map r f [] = refl
takes-flat_map r f (x ∷ xs) = omega (arith, takes-append r (f x) (flat_map f xs), takes-flat_map r f xs, sum_by-cons (λ x. count_of r (all_takes (f x))) x xs)

-- and so are the copies of it that they put
pub puts-flat_map : {X : Type 0} (r : Row) (f : X → List Change) (xs : List X) → count_of r (all_puts (flat_map f xs)) ≡ sum_by (λ x. count_of r (all_puts (f x))) xs
puts-flat_map r f [] = refl
puts-flat_map r f (x ∷ xs) = omega (arith, puts-append r (f x) (flat_map f xs), puts-flat_map r f xs, sum_by-cons (λ x. count_of r (all_puts (f x))) x xs)

-- a change repairs the table that it changes
pub own_repair : (old new : List Row) (t : ℕ) (c : Change) → MayFollow old [] c → t ≤ sync_of c → IsMoved c old new → Repair old new t (c ∷ [])
own_repair old new t c may from moved =
    repair old new t (c ∷ []) (may_is old [] c may, tt) (from, tt)
    (λ r. omega (arith, moved.sums.each r, count_of-append r new (takes c), count_of-append r old (puts c), count_of-append r (takes c) [], count_of-append r (puts c) []))
    (λ r. omega (arith, sum_by-there (one_if_same r) c old may, count_of-append r (takes c) []))
    (λ r. elim (apart_change c r (may_is old [] c may)) [ inl h ↦ inl (omega (arith, h, count_of-append r (takes c) [])) | inr h ↦ inr (omega (arith, h, count_of-append r (puts c) [])) ])

-- changes that take some rows and put others
pub record Turns (t : ℕ) (olds news : List Row) (cs : List Change) : Type 0 where
  pub changes : AllChanges cs
  pub from : AllFrom t cs
  pub sums : (r : Row) → count_of r news + count_of r (all_takes cs) ≡ count_of r olds + count_of r (all_puts cs)
  pub there : (r : Row) → count_of r (all_takes cs) ≤ count_of r olds
  pub apart : (r : Row) → (count_of r (all_takes cs) ≡ 0) ⊎ (count_of r (all_puts cs) ≡ 0)

-- changes that turn one part of a table into another repair the table
pub repair_by_turns : (old new olds news : List Row) (t : ℕ) (cs : List Change) → Turns t olds news cs
    → ((r : Row) → count_of r new + count_of r olds ≡ count_of r old + count_of r news)
    → ((r : Row) → count_of r olds ≤ count_of r old)
    → Repair old new t cs
repair_by_turns old new olds news t cs turns sums part =
    repair old new t cs turns.changes turns.from
    (λ r. omega (arith, turns.sums r, sums r))
    (λ r. omega (arith, turns.there r, part r))
    turns.apart

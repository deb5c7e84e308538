-- All that is held of a port after rows were forgotten reaches beyond the time: the rows, and those that are noted to be due.
use Rattle.std.proofs.Common.{◌≡◌, ℕ, zero, suc, ◌<◌, inl, inr, List, [], ◌∷◌, ◌++◌, Bool, true, false, cond, ap, subst, sym, refl, arith}
use Rattle.std.specs.Prelude.{All}
use Rattle.std.specs.List.{filter, Contains}
use Rattle.std.proofs.lemmas.Bool.{cases_lt}
use Rattle.std.proofs.lemmas.List.Elements.{All-contains, Contains-append_left, Contains-append_right, Contains-push}
use Rattle.cedr_base.specs.declared.row.Row.{Row}
use Rattle.cedr_base.specs.Rows.{count_of, SameRows}
use Rattle.cedr_base.proofs.Bags.{count_of-append, count_of-cons, one_if_same_exact}
use Rattle.cedr_table.proofs.FilterLemmas.{count-filter}
use Rattle.pat_state.specs.Starts.{endless, all_endless, scope_reaches, AllReach, PortsReach}
use Rattle.pat_state.specs.Tags.{bag_of}
use Rattle.pat_state.proofs.BagLemmas.{bag_left}

-- a row that is there without its end is one of the rows
endless_from : (r : Row) (rows : List Row) → 0 < count_of r (all_endless rows) → (x : Row) × (Contains rows x) × (r ≡ endless x)
endless_from r [] there = absurd (omega arith)
endless_from r (x ∷ xs) there = elim (cases_lt 0 (count_of r (all_endless xs))) [
  | inl later ↦ (let rest = endless_from r xs later in (rest.0, Contains-append_right (x ∷ []) xs rest.0 rest.1, rest.2))
  | inr none ↦ (x, Contains-append_left (x ∷ []) xs x (Contains-push [] x), one_if_same_exact r (endless x) (omega (arith, there, none, count_of-cons r (endless x) (all_endless xs))))
]

-- a row that is left passes
left_pass : (p : Row → Bool) (r : Row) (rows old : List Row) → SameRows rows (filter p old) → 0 < count_of r rows → p r ≡ true
left_pass p r rows old same there = pick (p r) refl (omega (arith, there, same.each r, count-filter r p old)) where
  pick : (b : Bool) → p r ≡ b → 0 < cond (p r) (count_of r old) 0 → p r ≡ true
  pick true is some = is
  pick false is some = absurd (let none = ap {B = ℕ} (λ b. cond b (count_of r old) 0) is in omega (arith, some, none))

-- the rows that are left of a bag, and those that are noted to be due, reach beyond the time
pub held_reach : (scope time : ℕ) (old new due : List Row) → SameRows new (filter (scope_reaches scope time) old) → All (λ (row : Row). scope_reaches scope time row ≡ true) due → AllReach scope time (bag_of new ++ all_endless due)
held_reach scope time old new due same reach r there = elim (cases_lt 0 (count_of r (all_endless due))) [
  | inl noted ↦
      (let from = endless_from r due noted in
      subst (λ (x : Row). scope_reaches scope time x ≡ true) (sym from.2) (All-contains (λ (row : Row). scope_reaches scope time row ≡ true) due from.0 reach from.1))
  | inr none ↦ left_pass (scope_reaches scope time) r (bag_of new) (bag_of old) (bag_left scope time old new same) (omega (arith, there, none, count_of-append r (bag_of new) (all_endless due)))
]

-- what is held of two ports reaches beyond the time, port by port
pub both_reach : (scope time : ℕ) (left right : List Row) → AllReach scope time left × AllReach scope time right → PortsReach scope time (left ∷ right ∷ [])
both_reach scope time left right reach zero r there = reach.0 r there
both_reach scope time left right reach (suc zero) r there = reach.1 r there
both_reach scope time left right reach (suc (suc port)) r there = absurd (omega arith)

-- What one message does to the kept, the held and the passed rows.
use Rattle.std.proofs.Common.{◌≡◌, ℕ, ◌+◌, ◌-◌, ◌<◌, ◌≤◌, inl, inr, List, [], ◌∷◌, ◌++◌, Bool, true, false, cond, refl, ap, sym, ◌∙◌, subst, arith}
use Rattle.std.proofs.lemmas.Bool.{cases_lt}
use Rattle.cedr_base.specs.declared.row.Row.{Row}
use Rattle.cedr_base.specs.declared.time.TheConstants.{FOREVER}
use Rattle.cedr_base.specs.declared.change.Change.{Change}
use Rattle.cedr_base.specs.declared.change.Message.{Message}
use Rattle.cedr_base.specs.Rows.{IsRow, count_of}
use Rattle.cedr_base.specs.Changes.{all_puts, all_takes}
use Rattle.cedr_base.specs.Messages.{mark_of, IsOpen, IsTableOf, MayCome, IsLegal}
use Rattle.cedr_base.proofs.Bags.{count_of-append}
use Rattle.change_laws.proofs.RepairLemmas.{takes-append, puts-append}
use Rattle.cedr_base.specs.declared.level.Level.{Level}
use Rattle.node_laws.specs.Surplus.{less, table_of}
use Rattle.node_laws.specs.Kept.{high_of, kept_of, kept, kept_table}
use Rattle.node_laws.specs.Pass.{has_end, holds, held, passed_table, front, front_at, itself, gained, pass}
use Rattle.node_laws.proofs.Order.{count-less, count-in_order}
use Rattle.node_laws.proofs.Grows.{kept-push, count-table}
use Rattle.node_laws.proofs.Holds.{holds_before, held_ends, least-from, least-mark, count-held, count-passed, mark_up}
use Rattle.node_laws.proofs.Splits.{to_held, split, front_low, front_there}

-- what is known of a legal list
pub record Stands (level : Level) (ms : List Message) : Type 0 where
  pub sound : (r : Row) → count_of r (all_takes (kept level.memory ms)) ≤ count_of r (all_puts (kept level.memory ms))
  pub rows : (r : Row) → 0 < count_of r (kept_table level.memory ms) → IsRow r
  pub time : mark_of ms ≤ FOREVER
  pub legal : IsLegal (pass level ms)
  pub opened : IsOpen ms → IsOpen (pass level ms)
  pub table : IsTableOf (pass level ms) (passed_table level ms)
  pub mark : mark_of (pass level ms) ≡ front level ms

cond_sum : (b : Bool) (n : ℕ) → cond b n 0 + cond b 0 n ≡ n
cond_sum true n = omega arith
cond_sum false n = omega arith

-- the held copies of a row and its passed copies are together its kept ones
pub count-both : (level : Level) (ms : List Message) (r : Row) → count_of r (held level ms) + count_of r (passed_table level ms) ≡ count_of r (kept_table level.memory ms)
count-both level ms r = omega (arith, count-held level ms r, count-passed level ms r, cond_sum (holds level ms r) (count_of r (kept_table level.memory ms)))

part_held : (b : Bool) (n c p : ℕ) → n ≡ c + p → (b ≡ true → p ≡ 0) → cond b n 0 ≡ cond b c 0
part_held true n c p h k = let e = k refl in omega arith
part_held false n c p h k = refl

part_passed : (b : Bool) (n c p : ℕ) → n ≡ c + p → (b ≡ true → p ≡ 0) → cond b 0 n ≡ p + cond b 0 c
part_passed true n c p h k = let e = k refl in omega arith
part_passed false n c p h k = omega arith

-- what is 0 or a number, as a test says, is above 0 only where the number is
pub cond_some : (b : Bool) (n : ℕ) → 0 < cond b 0 n → 0 < n
cond_some true n h = absurd (omega arith)
cond_some false n h = h

-- what is a number where a test holds, and else 0, is above 0 only where the test holds and the number
-- is above 0
pub cond_some_true : (b : Bool) (n : ℕ) → 0 < cond b n 0 → (b ≡ true) × (0 < n)
cond_some_true true n h = (refl, h)
cond_some_true false n h = absurd (omega arith)

-- what is 0 or a number, as a test says, is 0 where the number is
pub cond_none : (b : Bool) (n : ℕ) → n ≡ 0 → cond b 0 n ≡ 0
cond_none true n h = refl
cond_none false n h = h

-- what is kept of a message that comes after others
abbrev pub part : Level → List Message → Message → List Change
part level ms m = kept_of level.memory ms (kept level.memory ms) m

-- what is kept of a message that comes after others, and goes to the held rows
abbrev pub other : Level → List Message → Message → List Change
other level ms m = to_held level ms (part level ms m)

module _ (level : Level) (ms : List Message) (m : Message) (may : MayCome ms m) (sound : (r : Row) → count_of r (all_takes (kept level.memory ms)) ≤ count_of r (all_puts (kept level.memory ms))) where
  part_takes : (r : Row) → count_of r (all_takes (part level ms m)) ≤ count_of r (kept_table level.memory ms)
  part_takes r = let s = split level ms m may in omega (arith, s.takes_are r, s.from_passed r, s.from_held r, count-both level ms r)

  pub kept-moved : (r : Row) → count_of r (kept_table level.memory (ms ++ m ∷ [])) + count_of r (all_takes (part level ms m)) ≡ count_of r (kept_table level.memory ms) + count_of r (all_puts (part level ms m))
  kept-moved r =
      let e : count_of r (kept_table level.memory (ms ++ m ∷ [])) ≡ count_of r (all_puts (kept level.memory ms ++ part level ms m)) - count_of r (all_takes (kept level.memory ms ++ part level ms m)) =
      ap (λ (cs : List Change). count_of r (table_of cs)) (kept-push level.memory ms m) ∙ count-table r (kept level.memory ms ++ part level ms m) in
      omega (arith, e, sound r, part_takes r, takes-append r (kept level.memory ms) (part level ms m), puts-append r (kept level.memory ms) (part level ms m), count-table r (kept level.memory ms))

  pub sound_after : (r : Row) → count_of r (all_takes (kept level.memory (ms ++ m ∷ []))) ≤ count_of r (all_puts (kept level.memory (ms ++ m ∷ [])))
  sound_after r = subst (λ (cs : List Change). count_of r (all_takes cs) ≤ count_of r (all_puts cs)) (sym (kept-push level.memory ms m))
      (omega (arith, sound r, part_takes r, takes-append r (kept level.memory ms) (part level ms m), puts-append r (kept level.memory ms) (part level ms m), count-table r (kept level.memory ms)))

  pub rows_after : ((r : Row) → 0 < count_of r (kept_table level.memory ms) → IsRow r) → (r : Row) → 0 < count_of r (kept_table level.memory (ms ++ m ∷ [])) → IsRow r
  rows_after rows r there = elim (cases_lt 0 (count_of r (kept_table level.memory ms))) [
    | inl was ↦ rows r was
    | inr came ↦ (let s = split level ms m may in s.new_rows r (omega (arith, kept-moved r)))
  ]

  -- the passed rows after the message's own cut, and the candidates: the held rows after their part of it
  unfoldable pub rest : Row → ℕ
  rest r = (count_of r (passed_table level ms) + count_of r (all_puts (itself level ms m))) - count_of r (all_takes (itself level ms m))

  unfoldable pub candidates : Row → ℕ
  candidates r = (count_of r (held level ms) + count_of r (all_puts (other level ms m))) - count_of r (all_takes (other level ms m))

  pub all_rows : (r : Row) → count_of r (kept_table level.memory (ms ++ m ∷ [])) ≡ candidates r + rest r
  unfolding candidates rest
  all_rows r = let s = split level ms m may in omega (arith, kept-moved r, s.takes_are r, s.puts_are r, s.from_passed r, s.from_held r, count-both level ms r)

  pub no_rest : (r : Row) → holds level (ms ++ m ∷ []) r ≡ true → rest r ≡ 0
  unfolding rest
  no_rest r h =
      let s = split level ms m may in
      let was = holds_before level ms m may.0 r h in
      let none = ap (λ b. cond b 0 (count_of r (kept_table level.memory ms))) was in
      elim (cases_lt 0 (count_of r (all_puts (itself level ms m)))) [
        | inl came ↦ (let k = s.stays_passed r came in cc)
        | inr gone ↦ omega (arith, count-passed level ms r, none)
      ]

  pub held_after : (r : Row) → count_of r (held level (ms ++ m ∷ [])) ≡ cond (holds level (ms ++ m ∷ []) r) (candidates r) 0
  held_after r = count-held level (ms ++ m ∷ []) r ∙ part_held (holds level (ms ++ m ∷ []) r) _ (candidates r) (rest r) (all_rows r) (no_rest r)

  pub passed_after : (r : Row) → count_of r (passed_table level (ms ++ m ∷ [])) ≡ rest r + cond (holds level (ms ++ m ∷ []) r) 0 (candidates r)
  passed_after r = count-passed level (ms ++ m ∷ []) r ∙ part_passed (holds level (ms ++ m ∷ []) r) _ (candidates r) (rest r) (all_rows r) (no_rest r)

  pub gained_count : (r : Row) → count_of r (gained level ms m) ≡ cond (holds level (ms ++ m ∷ []) r) 0 (candidates r)
  unfolding rest
  gained_count r =
      let own = itself level ms m in
      let e = count-in_order r (less (passed_table level (ms ++ m ∷ [])) (less (passed_table level ms ++ all_puts own) (all_takes own))) in
      omega (arith, e, count-less r (passed_table level (ms ++ m ∷ [])) (less (passed_table level ms ++ all_puts own) (all_takes own)), count-less r (passed_table level ms ++ all_puts own) (all_takes own), count_of-append r (passed_table level ms) (all_puts own), passed_after r)

  pub candidate_begins : (r : Row) → 0 < candidates r → front level ms ≤ r.begin
  unfolding candidates
  candidate_begins r there = elim (cases_lt 0 (count_of r (held level ms))) [
    | inl was ↦ front_there level ms may.0 r was
    | inr came ↦ (let s = split level ms m may in s.new_begins r (omega arith))
  ]

  pub candidate_ends : (r : Row) → 0 < candidates r → mark_of ms ≤ r.end
  unfolding candidates
  candidate_ends r there = elim (cases_lt 0 (count_of r (held level ms))) [
    | inl was ↦ (let k = cond_some_true (holds level ms r) _ (let e = count-held level ms r in let f : 0 < cond (holds level ms r) (count_of r (kept_table level.memory ms)) 0 = omega arith in f) in (held_ends level.block (has_end ms) (mark_of ms) (high_of ms) r k.0).1)
    | inr came ↦ (let s = split level ms m may in s.new_ends r (omega arith))
  ]

  -- the front never falls
  pub front_up : mark_of (ms ++ m ∷ []) ≤ FOREVER → front level ms ≤ front level (ms ++ m ∷ [])
  front_up time = up (has_end (ms ++ m ∷ [])) where
    up : (b : Bool) → front level ms ≤ front_at b (mark_of (ms ++ m ∷ [])) (held level (ms ++ m ∷ []))
    up true = omega (arith, front_low level ms may.0, mark_up level ms m may.0)
    up false = least-from (mark_of (ms ++ m ∷ [])) (front level ms) (held level (ms ++ m ∷ [])) (omega (arith, front_low level ms may.0, mark_up level ms m may.0))
        (λ r there. candidate_begins r (cond_some_true (holds level (ms ++ m ∷ []) r) (candidates r) (let e = held_after r in omega arith)).1)

-- the front isn't above FOREVER where the mark isn't
pub front_time : (level : Level) (ms : List Message) → mark_of ms ≤ FOREVER → front level ms ≤ FOREVER
front_time level ms time = at (has_end ms) where
  at : (b : Bool) → front_at b (mark_of ms) (held level ms) ≤ FOREVER
  at true = omega arith
  at false = omega (arith, least-mark (mark_of ms) (held level ms))

-- A port without a block holds nothing, and at its end no port does.
use Rattle.std.proofs.Common.{◌≡◌, ℕ, ◌+◌, ◌<◌, ◌≤◌, inl, inr, List, [], ◌∷◌, ◌++◌, Bool, true, false, cond, not, ◌&&◌, refl, ap, ◌∙◌, arith}
use Rattle.std.specs.Prelude.{Option, Some, None, nat_lt, filter}
use Rattle.std.proofs.lemmas.Bool.{ltb-true, le-ltb, cases_lt}
use Rattle.cedr_base.specs.declared.time.TheConstants.{FOREVER}
use Rattle.cedr_base.specs.declared.level.Level.{Level}
use Rattle.cedr_base.specs.declared.row.Row.{Row}
use Rattle.cedr_base.specs.declared.change.Change.{Change}
use Rattle.cedr_base.specs.declared.change.Change.TheVariants.{Add, Cut}
use Rattle.cedr_base.specs.declared.change.Message.{Message}
use Rattle.cedr_base.specs.declared.change.Message.TheVariants as message
use Rattle.cedr_base.specs.Rows.{count_of}
use Rattle.cedr_base.specs.Changes.{sync_of, puts, all_puts, all_takes}
use Rattle.cedr_base.specs.Messages.{changes_of, mark_of, IsTableOf, IsLegal}
use Rattle.cedr_base.proofs.Bags.{count_of-append, count_of-cons}
use Rattle.change_laws.proofs.BagSums.{count_of-itself}
use Rattle.change_laws.proofs.RepairLemmas.{puts-append, takes-append}
use Rattle.node_laws.specs.declared.forgotten.Cause.{Cause}
use Rattle.node_laws.specs.declared.forgotten.Forgotten.{Forgotten}
use Rattle.node_laws.specs.Kept.{high_of, cause_of, kept, kept_of, kept_alone, kept_table, forgot, changes_in}
use Rattle.node_laws.specs.Pass.{has_end, is_blocked, is_held, holds, held, passed_table, front_at, front}
use Rattle.node_laws.proofs.Grows.{kept-push, count-table, high-append}
use Rattle.node_laws.proofs.Holds.{held_ends}
use Rattle.node_laws.proofs.Splits.{in_one}
use Rattle.node_laws.proofs.Induct.{by_messages}
use Rattle.node_laws.proofs.Parts.{all_put, all_taken, kept_sound, none_forgot}

-- a test that no row of a list passes keeps none of them, and its opposite keeps all
filters_none : (p : Row → Bool) (xs : List Row) → ((r : Row) → 0 < count_of r xs → p r ≡ false) → (filter p xs ≡ []) × (filter (λ r. not (p r)) xs ≡ xs)
filters_none p [] none = (refl, refl)
filters_none p (x ∷ xs) none =
    let here = none x (count_of-itself x xs) in
    let rest = filters_none p xs (λ r there. none r (omega (arith, count_of-cons r x xs))) in
    let a = rest.0 in
    let b = rest.1 in
    (cc, cc)

remnant_low : (a : Row) (e : ℕ) (r : Row) (b : Bool) → nat_lt a.begin e ≡ b → 0 < count_of r (cond b (record a { end = e } ∷ []) []) → r.begin ≤ e
remnant_low a e r true h there = let low = ltb-true a.begin e h in let same = ap (λ (x : Row). x.begin) (in_one r (record a { end = e }) there) in omega (arith, low, same)
remnant_low a e r false h there = absurd (omega arith)

-- what a change puts begins no later than it is seen
puts_low : (c : Change) (r : Row) → 0 < count_of r (puts c) → r.begin ≤ sync_of c
puts_low (Add b) r there = let same = ap (λ (x : Row). x.begin) (in_one r b there) in omega (arith, same)
puts_low (Cut a e) r there = remnant_low a e r (nat_lt a.begin e) refl there

alone_low : (cause : Option Cause) (c : Change) (r : Row) → 0 < count_of r (all_puts (kept_alone cause c)) → r.begin ≤ sync_of c
alone_low None c r there = puts_low c r (omega (arith, there, count_of-append r (puts c) []))
alone_low (Some cause) c r there = absurd (omega arith)

of_low : (memory : Option ℕ) (ms : List Message) (m : Message) (r : Row) → 0 < count_of r (all_puts (kept_of memory ms (kept memory ms) m)) → r.begin ≤ high_of (m ∷ [])
of_low memory ms (message.Change c) r there = let low = alone_low (cause_of memory (high_of ms) (kept memory ms) c) c r there in omega arith
of_low memory ms (message.Mark t) r there = absurd (omega arith)
of_low memory ms message.End r there = absurd (omega arith)
of_low memory ms message.Broken r there = absurd (omega arith)

-- what was kept begins no later than the greatest time
abbrev AllLow : Option ℕ → List Message → Type 0
AllLow memory ms = (r : Row) → 0 < count_of r (all_puts (kept memory ms)) → r.begin ≤ high_of ms

low_more : (memory : Option ℕ) (ms : List Message) (m : Message) → AllLow memory ms → AllLow memory (ms ++ m ∷ [])
low_more memory ms m low r there =
    let e = ap (λ (cs : List Change). count_of r (all_puts cs)) (kept-push memory ms m) ∙ puts-append r (kept memory ms) (kept_of memory ms (kept memory ms) m) in
    elim (cases_lt 0 (count_of r (all_puts (kept memory ms)))) [
      | inl h ↦ omega (arith, low r h, high-append ms (m ∷ []))
      | inr h ↦ omega (arith, of_low memory ms m r (omega (arith, e, there, h)), high-append ms (m ∷ []))
    ]

no_low : (memory : Option ℕ) → AllLow memory []
unfolding kept
no_low memory r there = absurd (omega arith)

kept_low : (memory : Option ℕ) (ms : List Message) (r : Row) → 0 < count_of r (kept_table memory ms) → r.begin ≤ high_of ms
kept_low memory ms r there = by_messages (AllLow memory) (low_more memory) (no_low memory) ms r (omega (arith, there, count-table r (kept memory ms)))

not_blocked : (block : Option ℕ) (high : ℕ) (r : Row) → block ≡ Some 0 → r.begin ≤ high → is_blocked block high r ≡ false
not_blocked block high r e low = ap (λ (b : Option ℕ). is_blocked b high r) e ∙ le-ltb high (r.begin + 0) (omega arith)

not_held : (level : Level) (ms : List Message) (r : Row) → level.block ≡ Some 0 → 0 < count_of r (kept_table level.memory ms) → (b : Bool) → holds level ms r ≡ b → b ≡ false
not_held level ms r unblocked there true h =
    let blocked = (held_ends level.block (has_end ms) (mark_of ms) (high_of ms) r h).2 in
    let free = not_blocked level.block (high_of ms) r unblocked (kept_low level.memory ms r there) in
    cc
not_held level ms r unblocked there false h = refl

module _ (level : Level) (ms : List Message) (unblocked : level.block ≡ Some 0) where
  middle_parts : (held level ms ≡ []) × (passed_table level ms ≡ kept_table level.memory ms)
  middle_parts = filters_none (holds level ms) (kept_table level.memory ms) (λ r there. not_held level ms r unblocked there (holds level ms r) refl)

  pub middle_held : held level ms ≡ []
  middle_held = middle_parts.0

  pub middle_front : has_end ms ≡ false → front level ms ≡ mark_of ms
  middle_front opened = ap (λ (b : Bool). front_at b (mark_of ms) (held level ms)) opened ∙ ap (front_at false (mark_of ms)) middle_held

  pub middle_table : level.memory ≡ None → IsLegal ms → IsTableOf ms (passed_table level ms)
  middle_table endless legal = record {
    sums = record {
      each = λ r.
          let none : forgot level.memory ms ≡ [] = ap (λ (m : Option ℕ). forgot m ms) endless ∙ none_forgot ms legal in
          let no_puts = ap (λ (fs : List Forgotten). count_of r (all_puts (changes_in fs))) none in
          let no_takes = ap (λ (fs : List Forgotten). count_of r (all_takes (changes_in fs))) none in
          omega (
            arith,
            no_puts,
            no_takes,
            ap (count_of r) middle_parts.1,
            (kept_sound level ms legal).each r,
            (all_put level.memory ms).each r,
            (all_taken level.memory ms).each r,
            count_of-append r (passed_table level ms) (all_takes (changes_of ms)),
            count_of-append r (kept_table level.memory ms) (all_takes (kept level.memory ms)),
            puts-append r (kept level.memory ms) (changes_in (forgot level.memory ms)),
            takes-append r (kept level.memory ms) (changes_in (forgot level.memory ms)),
          );
    };
  }

-- nothing is held after the end
none_held : (block : Option ℕ) (b : Bool) (mark high : ℕ) (r : Row) → b ≡ true → is_held block b mark high r ≡ false
none_held block b mark high r h = ap (λ (d : Bool). not d && (not (nat_lt r.end mark) && is_blocked block high r)) h

-- after the end all that was kept is passed
pub ended_passed : (level : Level) (ms : List Message) → has_end ms ≡ true → passed_table level ms ≡ kept_table level.memory ms
ended_passed level ms ended = (filters_none (holds level ms) (kept_table level.memory ms) (λ r there. none_held level.block (has_end ms) (mark_of ms) (high_of ms) r ended)).1

-- after the end the front is FOREVER
pub ended_front : (level : Level) (ms : List Message) → has_end ms ≡ true → front level ms ≡ FOREVER
ended_front level ms ended = ap (λ (b : Bool). front_at b (mark_of ms) (held level ms)) ended

-- What a port kept and what it forgot make up what came.
use Rattle.std.proofs.Common.{◌≡◌, ℕ, ◌+◌, List, [], ◌∷◌, ◌++◌, refl, ap, ◌∙◌, arith}
use Rattle.std.specs.Prelude.{Option, Some, None}
use Rattle.std.proofs.lemmas.List.{map-append}
use Rattle.cedr_base.specs.declared.level.Level.{Level}
use Rattle.cedr_base.specs.declared.row.Row.{Row}
use Rattle.cedr_base.specs.declared.change.Change.{Change}
use Rattle.cedr_base.specs.declared.change.Message.{Message}
use Rattle.cedr_base.specs.declared.change.Message.TheVariants as message
use Rattle.cedr_base.specs.Rows.{count_of, SameRows}
use Rattle.cedr_base.specs.Changes.{all_puts, all_takes}
use Rattle.cedr_base.specs.Messages.{changes_of, IsLegal}
use Rattle.cedr_base.proofs.Bags.{count_of-append}
use Rattle.change_laws.proofs.RepairLemmas.{takes-append, puts-append}
use Rattle.change_laws.proofs.Legal.{changes-append}
use Rattle.node_laws.specs.declared.forgotten.Cause.{Cause}
use Rattle.node_laws.specs.declared.forgotten.Forgotten.{Forgotten}
use Rattle.node_laws.specs.Kept.{high_of, cause_of, kept, kept_of, kept_alone, forgotten_alone, forgotten_of, forgot, changes_in, kept_table, AreOld}
use Rattle.node_laws.proofs.Grows.{kept-push, forgot-push, count-table}
use Rattle.node_laws.proofs.Induct.{by_messages}
use Rattle.node_laws.proofs.Passes.{passes}
use Rattle.node_laws.proofs.Recent.{agrees}

-- what came is what was kept and what was forgotten
pub record Parts (memory : Option ℕ) (ms : List Message) : Type 0 where
  pub puts : (r : Row) → count_of r (all_puts (changes_of ms)) ≡ count_of r (all_puts (kept memory ms)) + count_of r (all_puts (changes_in (forgot memory ms)))
  pub takes : (r : Row) → count_of r (all_takes (changes_of ms)) ≡ count_of r (all_takes (kept memory ms)) + count_of r (all_takes (changes_in (forgot memory ms)))

changes_in-append : (xs ys : List Forgotten) → changes_in (xs ++ ys) ≡ changes_in xs ++ changes_in ys
changes_in-append xs ys = map-append (λ (f : Forgotten). f.change) xs ys

-- a change is kept, or forgotten
one_puts : (cause : Option Cause) (high : ℕ) (c : Change) (r : Row) → count_of r (all_puts (c ∷ [])) ≡ count_of r (all_puts (kept_alone cause c)) + count_of r (all_puts (changes_in (forgotten_alone cause high c)))
one_puts None high c r = omega arith
one_puts (Some cause) high c r = omega arith

one_takes : (cause : Option Cause) (high : ℕ) (c : Change) (r : Row) → count_of r (all_takes (c ∷ [])) ≡ count_of r (all_takes (kept_alone cause c)) + count_of r (all_takes (changes_in (forgotten_alone cause high c)))
one_takes None high c r = omega arith
one_takes (Some cause) high c r = omega arith

message_puts : (memory : Option ℕ) (ms : List Message) (m : Message) (r : Row) → count_of r (all_puts (changes_of (m ∷ []))) ≡ count_of r (all_puts (kept_of memory ms (kept memory ms) m)) + count_of r (all_puts (changes_in (forgotten_of memory ms m)))
message_puts memory ms (message.Change c) r = one_puts (cause_of memory (high_of ms) (kept memory ms) c) (high_of ms) c r
message_puts memory ms (message.Mark t) r = refl
message_puts memory ms message.End r = refl
message_puts memory ms message.Broken r = refl

message_takes : (memory : Option ℕ) (ms : List Message) (m : Message) (r : Row) → count_of r (all_takes (changes_of (m ∷ []))) ≡ count_of r (all_takes (kept_of memory ms (kept memory ms) m)) + count_of r (all_takes (changes_in (forgotten_of memory ms m)))
message_takes memory ms (message.Change c) r = one_takes (cause_of memory (high_of ms) (kept memory ms) c) (high_of ms) c r
message_takes memory ms (message.Mark t) r = refl
message_takes memory ms message.End r = refl
message_takes memory ms message.Broken r = refl

parts_more : (memory : Option ℕ) (ms : List Message) (m : Message) → Parts memory ms → Parts memory (ms ++ m ∷ [])
parts_more memory ms m h =
    let came = changes-append ms (m ∷ []) in
    let kept_now = kept-push memory ms m in
    let listed = ap changes_in (forgot-push memory ms m) ∙ changes_in-append (forgot memory ms) (forgotten_of memory ms m) in
    let k = kept_of memory ms (kept memory ms) m in
    let f = changes_in (forgotten_of memory ms m) in
    record {
      puts = λ r. omega (
        arith,
        h.puts r,
        message_puts memory ms m r,
        ap (λ (cs : List Change). count_of r (all_puts cs)) came,
        puts-append r (changes_of ms) (changes_of (m ∷ [])),
        ap (λ (cs : List Change). count_of r (all_puts cs)) kept_now,
        puts-append r (kept memory ms) k,
        ap (λ (cs : List Change). count_of r (all_puts cs)) listed,
        puts-append r (changes_in (forgot memory ms)) f,
      );
      takes = λ r. omega (
        arith,
        h.takes r,
        message_takes memory ms m r,
        ap (λ (cs : List Change). count_of r (all_takes cs)) came,
        takes-append r (changes_of ms) (changes_of (m ∷ [])),
        ap (λ (cs : List Change). count_of r (all_takes cs)) kept_now,
        takes-append r (kept memory ms) k,
        ap (λ (cs : List Change). count_of r (all_takes cs)) listed,
        takes-append r (changes_in (forgot memory ms)) f,
      );
    }

no_parts : (memory : Option ℕ) → Parts memory []
unfolding kept
no_parts memory = record { puts = λ r. refl; takes = λ r. refl }

parts : (memory : Option ℕ) (ms : List Message) → Parts memory ms
parts memory ms = by_messages (Parts memory) (parts_more memory) (no_parts memory) ms

-- what came puts the same rows as what is kept and what is forgotten put together
pub all_put : (memory : Option ℕ) (ms : List Message) → SameRows (all_puts (changes_of ms)) (all_puts (kept memory ms ++ changes_in (forgot memory ms)))
all_put memory ms = record { each = λ r. omega (arith, (parts memory ms).puts r, puts-append r (kept memory ms) (changes_in (forgot memory ms))) }

-- what came takes the same rows as what is kept and what is forgotten take together
pub all_taken : (memory : Option ℕ) (ms : List Message) → SameRows (all_takes (changes_of ms)) (all_takes (kept memory ms ++ changes_in (forgot memory ms)))
all_taken memory ms = record { each = λ r. omega (arith, (parts memory ms).takes r, takes-append r (kept memory ms) (changes_in (forgot memory ms))) }

-- of a legal list what was kept takes away nothing that it didn't put
pub kept_sound : (level : Level) (ms : List Message) → IsLegal ms → SameRows (kept_table level.memory ms ++ all_takes (kept level.memory ms)) (all_puts (kept level.memory ms))
kept_sound level ms legal = record {
  each = λ r. omega (arith, (passes level ms legal).sound r, count-table r (kept level.memory ms), count_of-append r (kept_table level.memory ms) (all_takes (kept level.memory ms)));
}

none_old : (fs : List Forgotten) → AreOld None fs → fs ≡ []
none_old [] old = refl
none_old (f ∷ fs) old = absurd (old.0 tt)

-- without a limit on the memory nothing of a legal list is forgotten
pub none_forgot : (ms : List Message) → IsLegal ms → forgot None ms ≡ []
none_forgot ms legal = none_old (forgot None ms) (agrees (record { block = None; memory = None }) ms legal).old

-- What is forgotten is old, and on recent rows the kept table is the full one.
use Rattle.std.proofs.Common.{◌≡◌, ℕ, ◌+◌, ◌-◌, ◌<◌, ◌≤◌, inl, inr, List, [], ◌∷◌, ◌++◌, Bool, true, false, cond, refl, ap, sym, ◌∙◌, subst, arith}
use Rattle.std.specs.Prelude.{Option, Some, None}
use Rattle.std.proofs.lemmas.Bool.{ltb-true, eqb-true, cases_Bool, cases_lt}
use Rattle.std.proofs.lemmas.List.{append-nil}
use Rattle.cedr_base.specs.declared.row.Row.{Row}
use Rattle.cedr_base.specs.declared.change.Change.{Change}
use Rattle.cedr_base.specs.declared.change.Change.TheVariants.{Add, Cut}
use Rattle.cedr_base.specs.declared.change.Message.{Message}
use Rattle.cedr_base.specs.declared.change.Message.TheVariants as message
use Rattle.cedr_base.specs.Rows.{same_row, count_of}
use Rattle.cedr_base.specs.Changes.{IsChange, sync_of, puts, takes, all_puts, all_takes, MayFollow, changed_row}
use Rattle.cedr_base.specs.Messages.{changes_of, MayCome, IsLegal}
use Rattle.cedr_base.proofs.Bags.{count_of-cons}
use Rattle.change_laws.proofs.Moves.{may_is}
use Rattle.change_laws.proofs.RepairLemmas.{takes-append, puts-append}
use Rattle.change_laws.proofs.Legal.{changes-append}
use Rattle.cedr_base.specs.declared.level.Level.{Level}
use Rattle.node_laws.specs.declared.forgotten.Forgotten.{Forgotten}
use Rattle.node_laws.specs.declared.forgotten.Cause.TheVariants.{Late, Orphan}
use Rattle.node_laws.specs.Surplus.{table_of}
use Rattle.node_laws.specs.Kept.{high_of, is_late, is_orphan, kept_alone, kept, kept_table, forgotten_alone, forgotten_of, forgot, IsRecent, AreOld, AgreeOnRecent}
use Rattle.node_laws.proofs.Grows.{forgot-push, high-append, count-table}
use Rattle.node_laws.proofs.Splits.{in_one, in_remnant, takes-one, puts-one}
use Rattle.node_laws.proofs.Steps.{Stands, part, kept-moved}
use Rattle.node_laws.proofs.Passes.{passes}
use Rattle.node_laws.proofs.Induct.{by_legal}

recent_before : (memory : Option ℕ) (high high' : ℕ) (r : Row) → high ≤ high' → IsRecent memory high' r → IsRecent memory high r
recent_before None high high' r up h = tt
recent_before (Some m) high high' r up h = omega arith

recent_begin : (memory : Option ℕ) (high : ℕ) (r s : Row) → r.begin ≡ s.begin → IsRecent memory high r → IsRecent memory high s
recent_begin None high r s e h = tt
recent_begin (Some m) high r s e h = omega arith

-- the rows that a change touches begin with its own row
touched : (c : Change) (r : Row) → 0 < count_of r (takes c) + count_of r (puts c) → r.begin ≡ (changed_row c).begin
touched (Add b) r h = ap (λ (x : Row). x.begin) (in_one r b (omega arith))
touched (Cut a e) r h = elim (cases_lt 0 (count_of r (a ∷ []))) [
  | inl t ↦ ap (λ (x : Row). x.begin) (in_one r a t)
  | inr p ↦ ap (λ (x : Row). x.begin) (in_remnant a r e (omega arith))
]

begins_by : (c : Change) → IsChange c → (changed_row c).begin ≤ sync_of c
begins_by (Add b) h = omega arith
begins_by (Cut a e) h = h.1

-- a late change's row is old
late_old : (memory : Option ℕ) (high : ℕ) (c : Change) → IsChange c → is_late memory high c ≡ true → IsRecent memory high (changed_row c) → ⊥
late_old None high c is h recent = cc
late_old (Some m) high c is h recent = let l = ltb-true (sync_of c + m) high h in omega (arith, begins_by c is)

-- the row of an orphan is old, since it stands in the full table
orphan_old : (memory : Option ℕ) (ms : List Message) (c : Change) → MayFollow [] (changes_of ms) c → AgreeOnRecent memory ms → is_orphan (kept memory ms) c ≡ true → IsRecent memory (high_of ms) (changed_row c) → ⊥
orphan_old memory ms (Add b) may agree h recent = cc
orphan_old memory ms (Cut a e) may agree h recent = let none = eqb-true (count_of a (kept_table memory ms)) 0 h in let there = may.1 in absurd (omega (arith, agree a recent, count-table a (changes_of ms)))

one_most_at : (b : Bool) → cond {A = ℕ} b 1 0 ≤ 1
one_most_at true = omega arith
one_most_at false = omega arith

one_most : (r a : Row) → count_of r (a ∷ []) ≤ 1
one_most r a = omega (arith, count_of-cons r a [], one_most_at (same_row r a))

follows_there : (ms : List Message) (c : Change) → MayFollow [] (changes_of ms) c → (r : Row) → count_of r (takes c) ≤ count_of r (table_of (changes_of ms))
follows_there ms (Add b) may r = omega arith
follows_there ms (Cut a e) may r = elim (cases_lt 0 (count_of r (a ∷ []))) [
  | inl t ↦ (let same = ap (λ (x : Row). count_of x (table_of (changes_of ms))) (in_one r a t) in let there = may.1 in omega (arith, count-table a (changes_of ms), one_most r a))
  | inr n ↦ omega arith
]

AreOld-append : (memory : Option ℕ) (fs gs : List Forgotten) → AreOld memory fs → AreOld memory gs → AreOld memory (fs ++ gs)
AreOld-append memory [] gs h k = k
AreOld-append memory (f ∷ fs) gs h k = (h.0, AreOld-append memory fs gs h.1 k)

-- the full table adds up, what is kept agrees with it on recent rows, and what is forgotten is old
pub record Agrees (memory : Option ℕ) (ms : List Message) : Type 0 where
  pub sound : (r : Row) → count_of r (all_takes (changes_of ms)) ≤ count_of r (all_puts (changes_of ms))
  pub agree : AgreeOnRecent memory ms
  pub old : AreOld memory (forgot memory ms)

module _ (level : Level) (ms : List Message) (c : Change) (may : MayCome ms (message.Change c)) (s : Stands level ms) (g : Agrees level.memory ms) where
  changes_now : changes_of (ms ++ message.Change c ∷ []) ≡ changes_of ms ++ c ∷ []
  changes_now = changes-append ms (message.Change c ∷ [])

  full_sound : (r : Row) → count_of r (all_takes (changes_of (ms ++ message.Change c ∷ []))) ≤ count_of r (all_puts (changes_of (ms ++ message.Change c ∷ [])))
  full_sound r = subst (λ (cs : List Change). count_of r (all_takes cs) ≤ count_of r (all_puts cs)) (sym changes_now)
      (omega (arith, g.sound r, follows_there ms c may.1.0 r, count-table r (changes_of ms), takes-append r (changes_of ms) (c ∷ []), puts-append r (changes_of ms) (c ∷ []), takes-one r c, puts-one r c))

  full_moved : (r : Row) → count_of r (table_of (changes_of (ms ++ message.Change c ∷ []))) + count_of r (takes c) ≡ count_of r (table_of (changes_of ms)) + count_of r (puts c)
  full_moved r =
      let e : count_of r (table_of (changes_of (ms ++ message.Change c ∷ []))) ≡ count_of r (all_puts (changes_of ms ++ c ∷ [])) - count_of r (all_takes (changes_of ms ++ c ∷ [])) =
      ap (λ (cs : List Change). count_of r (table_of cs)) changes_now ∙ count-table r (changes_of ms ++ c ∷ []) in
      omega (arith, e, g.sound r, follows_there ms c may.1.0 r, count-table r (changes_of ms), takes-append r (changes_of ms) (c ∷ []), puts-append r (changes_of ms) (c ∷ []), takes-one r c, puts-one r c)

  high_now : high_of ms ≤ high_of (ms ++ message.Change c ∷ [])
  high_now = omega (arith, high-append ms (message.Change c ∷ []))

  -- a forgotten change leaves the counts of recent rows
  forgot_agrees : (IsRecent level.memory (high_of ms) (changed_row c) → ⊥) → (r : Row) → IsRecent level.memory (high_of ms) r → count_of r (takes c) + count_of r (puts c) ≡ 0
  forgot_agrees old r recent = elim (cases_lt 0 (count_of r (takes c) + count_of r (puts c))) [
    | inl t ↦ absurd (old (recent_begin level.memory (high_of ms) r (changed_row c) (touched c r t) recent))
    | inr n ↦ omega arith
  ]

  agree_at : (late orphan : Bool) → is_late level.memory (high_of ms) c ≡ late → is_orphan (kept level.memory ms) c ≡ orphan
      → (r : Row) → IsRecent level.memory (high_of ms) r
      → (n : ℕ) → n + count_of r (all_takes (kept_alone (cond late (Some Late) (cond orphan (Some Orphan) None)) c)) ≡ count_of r (kept_table level.memory ms) + count_of r (all_puts (kept_alone (cond late (Some Late) (cond orphan (Some Orphan) None)) c))
      → n ≡ count_of r (table_of (changes_of (ms ++ message.Change c ∷ [])))
  agree_at true orphan h k r recent n e = omega (arith, e, g.agree r recent, full_moved r, forgot_agrees (late_old level.memory (high_of ms) c (may_is [] (changes_of ms) c may.1.0) h) r recent)
  agree_at false true h k r recent n e = omega (arith, e, g.agree r recent, full_moved r, forgot_agrees (orphan_old level.memory ms c may.1.0 g.agree k) r recent)
  agree_at false false h k r recent n e = omega (arith, e, g.agree r recent, full_moved r, takes-one r c, puts-one r c)

  agree_now : AgreeOnRecent level.memory (ms ++ message.Change c ∷ [])
  agree_now r recent = agree_at (is_late level.memory (high_of ms) c) (is_orphan (kept level.memory ms) c) refl refl r (recent_before level.memory _ _ r high_now recent) _ (kept-moved level ms (message.Change c) may s.sound r)

  old_at : (late orphan : Bool) → is_late level.memory (high_of ms) c ≡ late → is_orphan (kept level.memory ms) c ≡ orphan → AreOld level.memory (forgotten_alone (cond late (Some Late) (cond orphan (Some Orphan) None)) (high_of ms) c)
  old_at true orphan h k = (late_old level.memory (high_of ms) c (may_is [] (changes_of ms) c may.1.0) h, tt)
  old_at false true h k = (orphan_old level.memory ms c may.1.0 g.agree k, tt)
  old_at false false h k = tt

  change_agrees : Agrees level.memory (ms ++ message.Change c ∷ [])
  change_agrees = record {
    sound = full_sound;
    agree = agree_now;
    old = subst (AreOld level.memory) (sym (forgot-push level.memory ms (message.Change c))) (AreOld-append level.memory (forgot level.memory ms) _ g.old (old_at (is_late level.memory (high_of ms) c) (is_orphan (kept level.memory ms) c) refl refl));
  }

other_agrees : (level : Level) (ms : List Message) (m : Message) → MayCome ms m → Stands level ms → Agrees level.memory ms → changes_of (m ∷ []) ≡ [] → part level ms m ≡ [] → forgotten_of level.memory ms m ≡ [] → Agrees level.memory (ms ++ m ∷ [])
other_agrees level ms m may s g no_change no_part none_forgotten =
    let same : changes_of (ms ++ m ∷ []) ≡ changes_of ms = changes-append ms (m ∷ []) ∙ (ap (λ (cs : List Change). changes_of ms ++ cs) no_change ∙ append-nil (changes_of ms)) in
    record {
      sound = subst (λ (cs : List Change). (r : Row) → count_of r (all_takes cs) ≤ count_of r (all_puts cs)) (sym same) g.sound;
      agree = λ r recent.
          let e = kept-moved level ms m may s.sound r in
          let t = ap (λ (cs : List Change). count_of r (all_takes cs)) no_part in
          let p = ap (λ (cs : List Change). count_of r (all_puts cs)) no_part in
          let u = ap (λ (cs : List Change). count_of r (table_of cs)) same in
          omega (arith, g.agree r (recent_before level.memory _ _ r (omega (arith, high-append ms (m ∷ []))) recent));
      old = subst (AreOld level.memory) (sym (forgot-push level.memory ms m ∙ (ap (λ (fs : List Forgotten). forgot level.memory ms ++ fs) none_forgotten ∙ append-nil (forgot level.memory ms)))) g.old;
    }

agrees_step : (level : Level) (ms : List Message) (m : Message) → IsLegal ms → MayCome ms m → Agrees level.memory ms → Agrees level.memory (ms ++ m ∷ [])
agrees_step level ms (message.Change c) legal may g = change_agrees level ms c may (passes level ms legal) g
agrees_step level ms (message.Mark t) legal may g = other_agrees level ms (message.Mark t) may (passes level ms legal) g refl refl refl
agrees_step level ms message.End legal may g = other_agrees level ms message.End may (passes level ms legal) g refl refl refl
agrees_step level ms message.Broken legal may g = other_agrees level ms message.Broken may (passes level ms legal) g refl refl refl

agrees_first : (memory : Option ℕ) → Agrees memory []
unfolding kept
agrees_first memory = record { sound = λ r. omega arith; agree = λ r recent. refl; old = tt }

-- of a legal list the full table adds up, what is kept agrees with it on recent rows, and what is
-- forgotten is old
pub agrees : (level : Level) (ms : List Message) → IsLegal ms → Agrees level.memory ms
agrees level ms legal = by_legal (Agrees level.memory) (agrees_step level) (agrees_first level.memory) ms legal

-- without a limit of the memory no change of a legal list is an orphan
pub no_orphan : (level : Level) (ms : List Message) (c : Change) → level.memory ≡ None → IsLegal ms → MayCome ms (message.Change c) → is_orphan (kept level.memory ms) c ≡ false
no_orphan level ms c none legal may = elim (cases_Bool (is_orphan (kept level.memory ms) c)) [
  | inl orphan ↦ absurd (orphan_old level.memory ms c may.1.0 (agrees level ms legal).agree orphan (subst (λ (v : Option ℕ). IsRecent v (high_of ms) (changed_row c)) (sym none) tt))
  | inr there ↦ there
]

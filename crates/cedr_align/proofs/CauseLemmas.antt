-- Why a change is forgotten, and where a kept one goes.
use Rattle.std.proofs.Common.{◌≡◌, ℕ, ◌+◌, ◌<◌, inl, inr, List, [], ◌∷◌, Bool, true, false, cond, refl, ap, sym, ◌∙◌, arith}
use Rattle.std.specs.Prelude.{Option, Some, None, nat_lt, nat_eq, ◌&&◌}
use Rattle.std.specs.List.{flat_map}
use Rattle.std.proofs.lemmas.Bool.{lt-ltb, le-ltb, eqb-false, cases_lt}
use Rattle.std.proofs.lemmas.Bool.Decides.{nat_tests}
use Rattle.std.proofs.lemmas.List.{append-nil}
use Rattle.cedr_base.specs.declared.row.Row.{Row}
use Rattle.cedr_base.specs.declared.change.Change.{Change}
use Rattle.cedr_base.specs.declared.change.Change.TheVariants.{Add, Cut}
use Rattle.cedr_base.specs.declared.change.Message.{Message}
use Rattle.cedr_base.specs.declared.change.Message.TheVariants as message
use Rattle.cedr_base.specs.Rows.{count_of, SameRows}
use Rattle.cedr_base.specs.Messages.{MayCome, IsLegal}
use Rattle.cedr_base.specs.declared.level.Level.{Level}
use Rattle.node_laws.specs.declared.forgotten.Cause.{Cause}
use Rattle.node_laws.specs.declared.forgotten.Cause.TheVariants.{Late, Orphan}
use Rattle.node_laws.specs.Kept.{high_of, is_late, is_orphan, cause_of, kept_alone, kept, kept_table}
use Rattle.node_laws.specs.Pass.{holds, held, itself, cuts_passed}
use Rattle.node_laws.proofs.Holds.{count-held}
use Rattle.node_laws.proofs.Splits.{cuts_held}
use Rattle.node_laws.proofs.Steps.{other, count-both}
use Rattle.node_laws.proofs.Recent.{no_orphan}
use Rattle.cedr_align.specs.Remembered.{remembered}
use Rattle.cedr_align.specs.Released.{is_missing, cause_at, own_of, other_of}
use Rattle.cedr_align.proofs.RememberedLemmas.{named, all_remembered}

both_none : (h p k : ℕ) → h + p ≡ k → (nat_eq h 0 && nat_eq p 0) ≡ nat_eq k 0
both_none h p k e = grind (arith, nat_tests)

-- the row of a retraction that isn't late is missing where it isn't in the kept table
missing_is : (level : Level) (ms : List Message) (held0 passed0 : List Row) (c : Change) (m : ℕ) → level.memory ≡ Some m → MayCome ms (message.Change c) → is_late (Some m) (high_of ms) c ≡ false → SameRows held0 (held level ms) → SameRows passed0 (remembered level ms)
    → is_missing held0 passed0 c ≡ is_orphan (kept level.memory ms) c
missing_is level ms held0 passed0 (Add r) m is may late h p = refl
missing_is level ms held0 passed0 (Cut a e) m is may late h p = let x = h.each a in let y = p.each a in
    both_none (count_of a held0) (count_of a passed0) (count_of a (kept_table level.memory ms)) (omega (arith, count-both level ms a, all_remembered level ms a (named level ms a e m is may late)))

cause_at_late : (late : Bool) (missing orphan : Bool) → (late ≡ false → missing ≡ orphan) → cond late (Some Late) (cond missing (Some Orphan) None) ≡ cond late (Some Late) (cond orphan (Some Orphan) None)
cause_at_late true missing orphan h = refl
cause_at_late false missing orphan h = ap (λ (b : Bool). cond b (Some Orphan) None) (h refl)

cause_is_at : (level : Level) (ms : List Message) (held0 passed0 : List Row) (c : Change) (memory : Option ℕ) → level.memory ≡ memory → IsLegal ms → MayCome ms (message.Change c) → SameRows held0 (held level ms) → SameRows passed0 (remembered level ms)
    → cause_at memory (high_of ms) held0 passed0 c ≡ cause_of memory (high_of ms) (kept level.memory ms) c
cause_is_at level ms held0 passed0 c None is legal may h p = sym (ap (λ (b : Bool). cond b (Some Orphan) None) (no_orphan level ms c is legal may))
cause_is_at level ms held0 passed0 c (Some m) is legal may h p =
    cause_at_late (is_late (Some m) (high_of ms) c) (is_missing held0 passed0 c) (is_orphan (kept level.memory ms) c) (λ late. missing_is level ms held0 passed0 c m is may late h p)

-- a change is forgotten as the definition says, though most of what passed isn't remembered
pub cause_is : (level : Level) (ms : List Message) (high : ℕ) (held0 passed0 : List Row) (c : Change) → high ≡ high_of ms → IsLegal ms → MayCome ms (message.Change c) → SameRows held0 (held level ms) → SameRows passed0 (remembered level ms)
    → cause_at level.memory high held0 passed0 c ≡ cause_of level.memory (high_of ms) (kept level.memory ms) c
cause_is level ms high held0 passed0 c e legal may h p = ap (λ n. cause_at level.memory n held0 passed0 c) e ∙ cause_is_at level ms held0 passed0 c level.memory refl legal may h p

-- a row that was kept is held where it is among the held ones
held_test_at : (level : Level) (ms : List Message) (held0 : List Row) (a : Row) (b : Bool) → holds level ms a ≡ b → SameRows held0 (held level ms) → 0 < count_of a (kept_table level.memory ms) → nat_lt 0 (count_of a held0) ≡ b
held_test_at level ms held0 a true e h there = let f = ap (λ (b : Bool). cond b (count_of a (kept_table level.memory ms)) 0) e in let g = h.each a in lt-ltb 0 (count_of a held0) (omega (arith, count-held level ms a))
held_test_at level ms held0 a false e h there = let f = ap (λ (b : Bool). cond b (count_of a (kept_table level.memory ms)) 0) e in let g = h.each a in le-ltb 0 (count_of a held0) (omega (arith, count-held level ms a))

not_orphan : (late orphan : Bool) → cond late (Some Late) (cond orphan (Some Orphan) None) ≡ None → orphan ≡ false
not_orphan true orphan h = cc
not_orphan false true h = cc
not_orphan false false h = refl

some_of : (n : ℕ) → nat_eq n 0 ≡ false → 0 < n
some_of n h = elim (cases_lt 0 n) [ inl l ↦ l | inr g ↦ absurd (eqb-false n 0 h (omega arith)) ]

own_at : (level : Level) (ms : List Message) (held0 : List Row) (c : Change) → SameRows held0 (held level ms) → is_orphan (kept level.memory ms) c ≡ false → (own_of held0 c ≡ cuts_passed level ms c) × (other_of held0 c ≡ cuts_held level ms c)
own_at level ms held0 (Add r) h k = (refl, refl)
own_at level ms held0 (Cut a e) h k =
    let t = held_test_at level ms held0 a (holds level ms a) refl h (some_of (count_of a (kept_table level.memory ms)) k) in
    (ap (λ (b : Bool). cond b [] (Cut a e ∷ [])) t, ap (λ (b : Bool). cond b (Cut a e ∷ []) []) t)

-- changes, where there is no cause to forget them
abbrev pub when_kept : Option Cause → List Change → List Change
when_kept None cs = cs
when_kept (Some cause) cs = []

own_when : (level : Level) (ms : List Message) (held0 : List Row) (c : Change) (cz : Option Cause) → cz ≡ cause_of level.memory (high_of ms) (kept level.memory ms) c → SameRows held0 (held level ms)
    → (when_kept cz (own_of held0 c) ≡ flat_map (cuts_passed level ms) (kept_alone cz c)) × (when_kept cz (other_of held0 c) ≡ flat_map (cuts_held level ms) (kept_alone cz c))
own_when level ms held0 c None e h =
    let both = own_at level ms held0 c h (not_orphan (is_late level.memory (high_of ms) c) (is_orphan (kept level.memory ms) c) (sym e)) in
    (both.0 ∙ sym (append-nil (cuts_passed level ms c)), both.1 ∙ sym (append-nil (cuts_held level ms c)))
own_when level ms held0 c (Some cause) e h = (refl, refl)

-- what a change passes on itself, and what of it goes to the held rows, are as the definitions say
pub own_is : (level : Level) (ms : List Message) (held0 : List Row) (c : Change) (cz : Option Cause) → cz ≡ cause_of level.memory (high_of ms) (kept level.memory ms) c → SameRows held0 (held level ms)
    → (when_kept cz (own_of held0 c) ≡ itself level ms (message.Change c)) × (when_kept cz (other_of held0 c) ≡ other level ms (message.Change c))
own_is level ms held0 c cz e h =
    let k = own_when level ms held0 c cz e h in
    (k.0 ∙ ap (λ (z : Option Cause). flat_map (cuts_passed level ms) (kept_alone z c)) e, k.1 ∙ ap (λ (z : Option Cause). flat_map (cuts_held level ms) (kept_alone z c)) e)

-- Which rows are remembered, message by message.
use Rattle.std.proofs.Common.{◌≡◌, ℕ, ◌+◌, ◌-◌, ◌<◌, ◌≤◌, List, [], ◌∷◌, ◌++◌, Bool, true, false, cond, not, ap, ◌∙◌, arith, max}
use Rattle.std.specs.Prelude.{Option, Some, None, nat_lt}
use Rattle.std.proofs.lemmas.Bool.{and_parts, ltb-true, ltb-false, lt-ltb}
use Rattle.cedr_base.specs.declared.row.Row.{Row}
use Rattle.cedr_base.specs.declared.change.Change.{Change}
use Rattle.cedr_base.specs.declared.change.Change.TheVariants.{Cut}
use Rattle.cedr_base.specs.declared.change.Message.{Message}
use Rattle.cedr_base.specs.declared.change.Message.TheVariants as message
use Rattle.cedr_base.specs.declared.level.Level.{Level}
use Rattle.cedr_base.specs.Rows.{count_of}
use Rattle.cedr_base.specs.Changes.{all_puts, all_takes}
use Rattle.cedr_base.specs.Messages.{mark_of, IsOpen, MayCome}
use Rattle.cedr_base.proofs.Bags.{count_of-append}
use Rattle.change_laws.proofs.BagSums.{same_itself}
use Rattle.node_laws.specs.Kept.{high_of, is_late}
use Rattle.node_laws.specs.Pass.{has_end, passed_table}
use Rattle.node_laws.proofs.Holds.{open_is, mark_up, high_up}
use Rattle.cedr_table.proofs.FilterLemmas.{count-filter}
use Rattle.cedr_align.specs.Remembered.{is_remembered, remembers, remembered}
use Rattle.cedr_align.specs.Released.{AreApplied}

-- what is remembered at a later mark and a greater time would be at earlier ones
before_then : (memory : Option ℕ) (ended : Bool) (mark mark' high high' : ℕ) (r : Row) → mark ≤ mark' → high ≤ high' → is_remembered memory ended mark' high' r ≡ true → is_remembered memory false mark high r ≡ true
before_then None ended mark mark' high high' r up up' h = h
before_then (Some m) ended mark mark' high high' r up up' h =
    let k = and_parts (not ended) (nat_lt (max mark' (high' - m)) r.end) h in
    let above = ltb-true (max mark' (high' - m)) r.end k.1 in
    lt-ltb (max mark (high - m)) r.end (omega arith)

-- what is remembered after a message was remembered before it, if it had passed
pub remembers_before : (level : Level) (ms : List Message) (m : Message) → IsOpen ms → (r : Row) → remembers level (ms ++ m ∷ []) r ≡ true → remembers level ms r ≡ true
remembers_before level ms m opened r h =
    ap (λ (b : Bool). is_remembered level.memory b (mark_of ms) (high_of ms) r) (open_is ms opened)
    ∙ before_then level.memory (has_end (ms ++ m ∷ [])) (mark_of ms) (mark_of (ms ++ m ∷ [])) (high_of ms) (high_of (ms ++ m ∷ [])) r (mark_up level ms m opened) (high_up level ms m opened) h

named_at : (m mark high : ℕ) (a : Row) (e : ℕ) → mark ≤ e → e < a.end → is_late (Some m) high (Cut a e) ≡ false → is_remembered (Some m) false mark high a ≡ true
named_at m mark high a e from shorter late = let in_time = ltb-false (e + m) high late in lt-ltb (max mark (high - m)) a.end (omega arith)

-- with a limit of the memory the row of a retraction that isn't late is remembered, if it had passed
pub named : (level : Level) (ms : List Message) (a : Row) (e m : ℕ) → level.memory ≡ Some m → MayCome ms (message.Change (Cut a e)) → is_late (Some m) (high_of ms) (Cut a e) ≡ false → remembers level ms a ≡ true
named level ms a e m is may late =
    ap (λ (v : Option ℕ). is_remembered v (has_end ms) (mark_of ms) (high_of ms) a) is
    ∙ (ap (λ (b : Bool). is_remembered (Some m) b (mark_of ms) (high_of ms) a) (open_is ms may.0) ∙ named_at m (mark_of ms) (high_of ms) a e may.1.1 may.1.0.0.2 late)

-- the copies of a row that are remembered
pub count-remembered : (level : Level) (ms : List Message) (r : Row) → count_of r (remembered level ms) ≡ cond (remembers level ms r) (count_of r (passed_table level ms)) 0
count-remembered level ms r = count-filter r (remembers level ms) (passed_table level ms)

-- all copies are, where the row is remembered
pub all_remembered : (level : Level) (ms : List Message) (r : Row) → remembers level ms r ≡ true → count_of r (remembered level ms) ≡ count_of r (passed_table level ms)
all_remembered level ms r h = count-remembered level ms r ∙ ap (λ (b : Bool). cond b (count_of r (passed_table level ms)) 0) h

-- no change changes nothing
pub none_applied : (memory : Option ℕ) (passed : List Row) → AreApplied memory [] passed passed
none_applied None passed = tt
none_applied (Some m) passed = same_itself (passed ++ [])

-- changes are applied to each row that is remembered
pub applied_there : (memory : Option ℕ) (ended : Bool) (mark high : ℕ) (cs : List Change) (passed passed' : List Row) (r : Row) → AreApplied memory cs passed passed' → is_remembered memory ended mark high r ≡ true
    → count_of r passed' + count_of r (all_takes cs) ≡ count_of r passed + count_of r (all_puts cs)
applied_there None ended mark high cs passed passed' r applied h = cc
applied_there (Some m) ended mark high cs passed passed' r applied h = omega (arith, applied.each r, count_of-append r passed' (all_takes cs), count_of-append r passed (all_puts cs))

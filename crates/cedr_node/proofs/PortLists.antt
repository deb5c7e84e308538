-- Ports and lists side by side.
use Rattle.std.proofs.Common.{◌≡◌, ℕ, ◌+◌, ◌<◌, zero, suc, List, [], ◌∷◌, ◌++◌, Bool, true, false, cond, ◌&&◌, ◌||◌, refl, ap, sym, ◌∙◌, arith, length, set, get_or}
use Rattle.std.specs.Prelude.{map, nat_eq}
use Rattle.std.proofs.lemmas.Bool.{ne_eqb}
use Rattle.cedr_base.specs.declared.change.Message.{Message}
use Rattle.cedr_base.specs.declared.change.Message.TheVariants as message
use Rattle.cedr_base.specs.Messages.{mark_of, IsOpen}
use Rattle.cedr_table.specs.Operators.{SameTables, Tables}
use Rattle.cedr_base.specs.declared.level.Level.{Level}
use Rattle.node_laws.specs.Pass.{has_end, passed_of, passed_table, pass}
use Rattle.node_laws.specs.Lists.{Lists, list_at, AreTables, with_more}
use Rattle.node_laws.specs.Lawful.{tables_of, fronts_of, passes_of, has_broken, is_over, any_broken, all_over}
use Rattle.cedr_node.specs.Standing.{is_broken, is_closing, PortStands, AllStand, levels_of, waiting_of}
use Rattle.node_laws.proofs.Grows.{pass-push, end-append}
use Rattle.node_laws.proofs.Ends.{open_unbroken, broken-append, over_open}
use Rattle.node_laws.proofs.Holds.{open_is}
use Rattle.node_laws.proofs.Passes.{passes, one_table}
use Rattle.cedr_node.specs.declared.port.Port.{Port}

-- there are as many ports as lists for which they stand
pub all_length : (ps : List Port) (ls : Lists) → AllStand ps ls → length ps ≡ length ls
all_length [] [] h = refl
all_length [] (l ∷ ls) h = absurd h
all_length (p ∷ ps) [] h = absurd h
all_length (p ∷ ps) (l ∷ ls) h = ap (λ n. suc n) (all_length ps ls h.1)

-- the port at a place stands for the list there
pub all_at : (k : ℕ) (ps : List Port) (ls : Lists) (d : Port) → AllStand ps ls → k < length ls → PortStands (get_or ps k d) (list_at ls k)
all_at k [] [] d h within = absurd (omega arith)
all_at k [] (l ∷ ls) d h within = absurd h
all_at k (p ∷ ps) [] d h within = absurd h
all_at zero (p ∷ ps) (l ∷ ls) d h within = h.0
all_at (suc k) (p ∷ ps) (l ∷ ls) d h within = all_at k ps ls d h.1 (omega arith)

-- where one port gives way to another one that stands for another list, all ports stand for theirs
pub all_set : (k : ℕ) (ps : List Port) (ls : Lists) (p : Port) (l : List Message) → AllStand ps ls → PortStands p l → AllStand (set ps k p) (set ls k l)
all_set k [] [] p l h s = tt
all_set k [] (m ∷ ls) p l h s = absurd h
all_set k (q ∷ ps) [] p l h s = absurd h
all_set zero (q ∷ ps) (m ∷ ls) p l h s = (s, h.1)
all_set (suc k) (q ∷ ps) (m ∷ ls) p l h s = (h.0, all_set k ps ls p l h.1 s)

-- the levels of ports stay the same where one port gives way to another one with its level
pub levels_set : (k : ℕ) (ps : List Port) (p d : Port) → p.aligner.level ≡ (get_or ps k d).aligner.level → levels_of (set ps k p) ≡ levels_of ps
levels_set k [] p d h = refl
levels_set zero (q ∷ ps) p d h = ap (λ (v : Level). v ∷ levels_of ps) h
levels_set (suc k) (q ∷ ps) p d h = ap (λ (vs : List Level). q.aligner.level ∷ vs) (levels_set k ps p d h)

-- there are as many passed lists as lists that came
pub passes_length : (ps : List Port) (ls : Lists) → AllStand ps ls → length (passes_of (levels_of ps) ls) ≡ length ls
passes_length [] [] h = refl
passes_length [] (l ∷ ls) h = absurd h
passes_length (p ∷ ps) [] h = absurd h
passes_length (p ∷ ps) (l ∷ ls) h = ap (λ n. suc n) (passes_length ps ls h.1)

-- the passed list of the port at a place is what its level passes on of the list there
pub passes_at : (k : ℕ) (ps : List Port) (ls : Lists) (d : Port) → AllStand ps ls → k < length ls → list_at (passes_of (levels_of ps) ls) k ≡ pass (get_or ps k d).aligner.level (list_at ls k)
passes_at k [] [] d h within = absurd (omega arith)
passes_at k [] (l ∷ ls) d h within = absurd h
passes_at k (p ∷ ps) [] d h within = absurd h
passes_at zero (p ∷ ps) (l ∷ ls) d h within = refl
passes_at (suc k) (p ∷ ps) (l ∷ ls) d h within = passes_at k ps ls d h.1 (omega arith)

-- a message more on one port adds to its passed list what it passes on
pub passes_more : (k : ℕ) (ps : List Port) (ls : Lists) (d : Port) (m : Message) → AllStand ps ls → k < length ls
    → passes_of (levels_of ps) (with_more ls k (m ∷ [])) ≡ with_more (passes_of (levels_of ps) ls) k (passed_of (get_or ps k d).aligner.level (list_at ls k) m)
passes_more k [] [] d m h within = absurd (omega arith)
passes_more k [] (l ∷ ls) d m h within = absurd h
passes_more k (p ∷ ps) [] d m h within = absurd h
passes_more zero (p ∷ ps) (l ∷ ls) d m h within = ap (λ (x : List Message). x ∷ passes_of (levels_of ps) ls) (pass-push p.aligner.level l m)
passes_more (suc k) (p ∷ ps) (l ∷ ls) d m h within = ap (λ (xs : Lists). pass p.aligner.level l ∷ xs) (passes_more k ps ls d m h.1 (omega arith))

-- tables of the passed lists are the same bags as the passed tables
pub tables_same : (ps : List Port) (ls : Lists) (ts : Tables) → AllStand ps ls → AreTables (passes_of (levels_of ps) ls) ts → SameTables ts (tables_of (levels_of ps) ls)
tables_same [] [] [] h k = tt
tables_same [] [] (t ∷ ts) h k = absurd k
tables_same [] (l ∷ ls) ts h k = absurd h
tables_same (p ∷ ps) [] ts h k = absurd h
tables_same (p ∷ ps) (l ∷ ls) [] h k = absurd k
tables_same (p ∷ ps) (l ∷ ls) (t ∷ ts) h k =
    let a = h.0 in
    (one_table (pass p.aligner.level l) t (passed_table p.aligner.level l) k.0 (passes p.aligner.level l a.aligns.legal).table, tables_same ps ls ts h.1 k.1)

-- the marks of the passed lists are the fronts of the ports
pub fronts_are : (ps : List Port) (ls : Lists) → AllStand ps ls → map mark_of (passes_of (levels_of ps) ls) ≡ fronts_of (levels_of ps) ls
fronts_are [] [] h = refl
fronts_are [] (l ∷ ls) h = absurd h
fronts_are (p ∷ ps) [] h = absurd h
fronts_are (p ∷ ps) (l ∷ ls) h =
    let a = h.0 in
    let here = (passes p.aligner.level l a.aligns.legal).mark in
    let rest = fronts_are ps ls h.1 in
    cc

broken_one : (m : Message) → has_broken (m ∷ []) ≡ is_broken m
broken_one (message.Change c) = refl
broken_one (message.Mark t) = refl
broken_one message.End = refl
broken_one message.Broken = refl

over_one : (m : Message) → is_over (m ∷ []) ≡ is_closing m
over_one (message.Change c) = refl
over_one (message.Mark t) = refl
over_one message.End = refl
over_one message.Broken = refl

-- an open list with one more message is over exactly where that message closes it
pub over_pushed : (l : List Message) (m : Message) → IsOpen l → is_over (l ++ m ∷ []) ≡ is_closing m
over_pushed l m h =
    ap (λ (b : Bool). b || has_broken (l ++ m ∷ [])) (end-append l (m ∷ []) (open_is l h)) ∙ (ap (λ (b : Bool). has_end (m ∷ []) || b) (broken-append l (m ∷ []) (open_unbroken l h)) ∙ over_one m)

or_turned : (a b : Bool) → (a || b) ≡ (b || a)
or_turned true true = refl
or_turned true false = refl
or_turned false true = refl
or_turned false false = refl

or_along : (a b c : Bool) → (a || (b || c)) ≡ ((a || b) || c)
or_along true b c = refl
or_along false b c = refl

-- after one more message on an open list some list is broken where one was or the message is Broken, and
-- nowhere else
pub broken_set : (k : ℕ) (ls : Lists) (m : Message) → k < length ls → IsOpen (list_at ls k) → any_broken (with_more ls k (m ∷ [])) ≡ (any_broken ls || is_broken m)
broken_set k [] m within h = absurd (omega arith)
broken_set zero (l ∷ ls) m within h =
    ap (λ (b : Bool). b || any_broken ls) (broken-append l (m ∷ []) (open_unbroken l h) ∙ broken_one m)
    ∙ (or_turned (is_broken m) (any_broken ls) ∙ ap (λ (b : Bool). (b || any_broken ls) || is_broken m) (sym (open_unbroken l h)))
broken_set (suc k) (l ∷ ls) m within h = ap (λ (b : Bool). has_broken l || b) (broken_set k ls m (omega arith) h) ∙ or_along (has_broken l) (any_broken ls) (is_broken m)

-- after one more message on an open list as many lists may go on, or one fewer where it closes that list
pub waiting_set : (k : ℕ) (ls : Lists) (m : Message) → k < length ls → IsOpen (list_at ls k) → waiting_of (with_more ls k (m ∷ [])) + cond (is_closing m) 1 0 ≡ waiting_of ls
waiting_set k [] m within h = absurd (omega arith)
waiting_set zero (l ∷ ls) m within h =
    let a = ap {B = ℕ} (λ b. cond b 0 1) (over_pushed l m h) in
    let b = ap {B = ℕ} (λ b. cond b 0 1) (over_open l h) in
    omega (arith, one (is_closing m)) where
      one : (b : Bool) → cond {A = ℕ} b 0 1 + cond b 1 0 ≡ 1
      one true = refl
      one false = refl
waiting_set (suc k) (l ∷ ls) m within h = omega (arith, waiting_set k ls m (omega arith) h)

-- all lists are over exactly where none of them may go on
pub over_is : (ls : Lists) → all_over ls ≡ nat_eq (waiting_of ls) 0
over_is [] = refl
over_is (l ∷ ls) = at (is_over l) (over_is ls) where
  at : (b : Bool) → all_over ls ≡ nat_eq (waiting_of ls) 0 → (b && all_over ls) ≡ nat_eq (cond b 0 1 + waiting_of ls) 0
  at true h = h ∙ ap (λ n. nat_eq n 0) (let e : waiting_of ls ≡ 0 + waiting_of ls = omega arith in e)
  at false h = sym (ne_eqb (1 + waiting_of ls) 0 (λ e. absurd (omega arith)))

-- Legal lists go on message by message.
use Rattle.std.proofs.Common.{◌≡◌, ℕ, ◌≤◌, List, [], ◌∷◌, ◌++◌, refl, ap, sym, ◌∙◌, subst, arith, max, append_assoc}
use Rattle.std.proofs.lemmas.List.{map-append, append-nil}
use Rattle.cedr_base.specs.declared.row.Row.{Row}
use Rattle.cedr_base.specs.declared.change.Change.{Change}
use Rattle.cedr_base.specs.declared.change.Change.TheVariants.{Add, Cut}
use Rattle.cedr_base.specs.declared.change.Message.{Message}
use Rattle.cedr_base.specs.declared.change.Message.TheVariants as message
use Rattle.cedr_base.specs.Rows.{count_of, SameRows}
use Rattle.cedr_base.specs.Changes.{sync_of, puts, takes, all_puts, all_takes, MayFollow}
use Rattle.cedr_base.specs.Messages.{changes_of, mark_of, IsOpen, IsTableOf, MayCome, IsLegalBehind, IsLegal}
use Rattle.cedr_base.proofs.Bags.{count_of-append}
use Rattle.change_laws.specs.Repairs.{IsMoved, AreLegal, AllFrom, Repair, wrapped}
use Rattle.change_laws.proofs.RepairLemmas.{takes-append, puts-append}

-- a legal list, and a list that is legal after it, are legal one after the other
pub legal-append : (before xs ys : List Message) → IsLegalBehind before xs → IsLegalBehind (before ++ xs) ys → IsLegalBehind before (xs ++ ys)
legal-append before [] ys h k = rw append-nil at k
legal-append before (x ∷ xs) ys h k = (h.0, legal-append (before ++ x ∷ []) xs ys h.1 (rw append_assoc k))

-- a legal list stays legal with one more message that may come after it
pub legal-push : (ms : List Message) (m : Message) → IsLegal ms → MayCome ms m → IsLegal (ms ++ m ∷ [])
legal-push ms m h k = legal-append [] ms (m ∷ []) h (k, tt)

-- the first messages of a legal list are legal
pub legal_first : (before xs ys : List Message) → IsLegalBehind before (xs ++ ys) → IsLegalBehind before xs
legal_first before [] ys h = tt
legal_first before (x ∷ xs) ys h = (h.0, legal_first (before ++ x ∷ []) xs ys h.1)

-- the rest of a legal list is legal after its first messages
pub legal_rest : (before xs ys : List Message) → IsLegalBehind before (xs ++ ys) → IsLegalBehind (before ++ xs) ys
legal_rest before [] ys h = rw append-nil h
legal_rest before (x ∷ xs) ys h = rw append_assoc at (legal_rest (before ++ x ∷ []) xs ys h.1)

-- a message of a legal list may come after those before it
pub may_come_in : (xs ys : List Message) (m : Message) → IsLegal (xs ++ m ∷ ys) → MayCome xs m
may_come_in xs ys m h = (legal_rest [] xs (m ∷ ys) h).0

-- the changes of two lists, one after the other, are those of the first and then those of the second
pub changes-append : (xs ys : List Message) → changes_of (xs ++ ys) ≡ changes_of xs ++ changes_of ys
changes-append [] ys = refl
changes-append (message.Change c ∷ xs) ys = ap (λ cs. c ∷ cs) (changes-append xs ys)
changes-append (message.Mark t ∷ xs) ys = changes-append xs ys
changes-append (message.End ∷ xs) ys = changes-append xs ys
changes-append (message.Broken ∷ xs) ys = changes-append xs ys

-- the changes of the messages that bring some changes are these changes
pub changes-wrapped : (cs : List Change) → changes_of (wrapped cs) ≡ cs
changes-wrapped [] = refl
changes-wrapped (c ∷ cs) = ap (λ ds. c ∷ ds) (changes-wrapped cs)

-- the mark of two lists, one after the other, is the greater one of theirs
pub mark-append : (xs ys : List Message) → mark_of (xs ++ ys) ≡ max (mark_of xs) (mark_of ys)
mark-append [] ys = omega arith
mark-append (message.Change c ∷ xs) ys = mark-append xs ys
mark-append (message.Mark t ∷ xs) ys = omega (arith, mark-append xs ys)
mark-append (message.End ∷ xs) ys = mark-append xs ys
mark-append (message.Broken ∷ xs) ys = mark-append xs ys

-- messages that bring changes have no mark: theirs is 0
pub mark-wrapped : (cs : List Change) → mark_of (wrapped cs) ≡ 0
mark-wrapped [] = refl
mark-wrapped (c ∷ cs) = mark-wrapped cs

-- two lists, one after the other, have neither an end nor a break where each has none
pub open-append : (xs ys : List Message) → IsOpen xs → IsOpen ys → IsOpen (xs ++ ys)
open-append [] ys h k = k
open-append (message.Change c ∷ xs) ys h k = open-append xs ys h k
open-append (message.Mark t ∷ xs) ys h k = open-append xs ys h k
open-append (message.End ∷ xs) ys h k = absurd h
open-append (message.Broken ∷ xs) ys h k = absurd h

-- messages that bring changes have neither an end nor a break
pub open-wrapped : (cs : List Change) → IsOpen (wrapped cs)
open-wrapped [] = tt
open-wrapped (c ∷ cs) = open-wrapped cs

-- a change that may follow others from a table may come after the messages that made the table
follows_behind : (given : List Message) (rows : List Row) (before : List Change) (c : Change) → IsTableOf given rows → MayFollow rows before c → MayFollow [] (changes_of given ++ before) c
follows_behind given rows before (Add a) table h = h
follows_behind given rows before (Cut a e) table h = (
  h.0,
  (let t = table.sums.each a in let there = h.1 in
      omega (arith, count_of-append a rows (all_takes (changes_of given)), takes-append a (changes_of given) before, puts-append a (changes_of given) before)),
)

-- changes that are legal from a table are legal after the messages that made it
pub legal_behind : (given : List Message) (rows : List Row) (before cs : List Change) → IsTableOf given rows → IsOpen given → AreLegal rows before cs → AllFrom (mark_of given) cs
    → IsLegalBehind (given ++ wrapped before) (wrapped cs)
legal_behind given rows before [] table opened h late = tt
legal_behind given rows before (c ∷ cs) table opened h late =
    let so_far = given ++ wrapped before in
    let same : changes_of (given ++ wrapped before) ≡ changes_of given ++ before = changes-append given _ ∙ ap (λ ds. changes_of given ++ ds) (changes-wrapped before) in
    let mark : mark_of (given ++ wrapped before) ≤ sync_of c = omega (arith, mark-append given (wrapped before), mark-wrapped before, late.0) in (
      (open-append given _ opened (open-wrapped before), (subst (λ (ds : List Change). MayFollow [] ds c) (sym same) (follows_behind given rows before c table h.0), mark)),
      subst (λ (ms : List Message). IsLegalBehind ms (wrapped cs)) (ap (λ (ms : List Message). given ++ ms) (map-append (λ c. message.Change c) before (c ∷ [])) ∙ sym (append_assoc given (wrapped before) (message.Change c ∷ []))) (legal_behind given rows (before ++ c ∷ []) cs table opened h.1 late.1),
    )

-- messages that made a result, and then its repair, are legal
pub legal_repaired : (given : List Message) (old new : List Row) (cs : List Change) → IsLegal given → IsOpen given → IsTableOf given old → Repair old new (mark_of given) cs → IsLegal (given ++ wrapped cs)
legal_repaired given old new cs legal opened table fix =
    legal-append [] given _ legal (subst (λ (ms : List Message). IsLegalBehind ms (wrapped cs)) (append-nil given) (legal_behind given old [] cs table opened fix.legal fix.from))

-- messages, and then a repair of their table, have the table that the repair leads to
pub table_repaired : (given : List Message) (old new : List Row) (m : ℕ) (cs : List Change) → IsTableOf given old → Repair old new m cs → IsTableOf (given ++ wrapped cs) new
table_repaired given old new m cs table fix =
    let same : changes_of (given ++ wrapped cs) ≡ changes_of given ++ cs = changes-append given _ ∙ ap (λ ds. changes_of given ++ ds) (changes-wrapped cs) in
    record {
      sums = record {
        each = λ r.
            subst (λ (ds : List Change). count_of r (new ++ all_takes ds) ≡ count_of r (all_puts ds)) (sym same)
            (let t = table.sums.each r in let f = fix.leads.sums.each r in
            omega (arith, takes-append r (changes_of given) cs, puts-append r (changes_of given) cs, count_of-append r old (all_takes (changes_of given)), count_of-append r new (all_takes (changes_of given ++ cs)), count_of-append r new (all_takes cs), count_of-append r old (all_puts cs)));
      };
    }

-- a change after the messages that made a table makes the table that it leads to
pub table_moved : (ms : List Message) (c : Change) (old new : List Row) → IsTableOf ms old → IsMoved c old new → IsTableOf (ms ++ message.Change c ∷ []) new
table_moved ms c old new table moved = record {
  sums = record {
    each = λ r.
        subst (λ (ds : List Change). count_of r (new ++ all_takes ds) ≡ count_of r (all_puts ds)) (sym (changes-append ms (message.Change c ∷ [])))
        (let t = table.sums.each r in let f = moved.sums.each r in
        omega (arith, takes-append r (changes_of ms) (c ∷ []), puts-append r (changes_of ms) (c ∷ []), count_of-append r old (all_takes (changes_of ms)), count_of-append r new (all_takes (changes_of ms ++ c ∷ [])), count_of-append r new (takes c), count_of-append r old (puts c), count_of-append r (takes c) [], count_of-append r (puts c) []));
  };
}

-- what may follow messages may follow the table that they make
pub may_follow_table : (ms : List Message) (rows : List Row) (c : Change) → IsTableOf ms rows → MayFollow [] (changes_of ms) c → MayFollow rows [] c
may_follow_table ms rows (Add a) table h = h
may_follow_table ms rows (Cut a e) table h = (h.0, (let t = table.sums.each a in let there = h.1 in omega (arith, count_of-append a rows (all_takes (changes_of ms)))))

-- a message that is no change leaves the table as it is
pub table_stays : (ms : List Message) (m : Message) (rows : List Row) → IsTableOf ms rows → changes_of (m ∷ []) ≡ [] → IsTableOf (ms ++ m ∷ []) rows
table_stays ms m rows table none =
    let same : changes_of (ms ++ m ∷ []) ≡ changes_of ms = changes-append ms (m ∷ []) ∙ (ap (λ cs. changes_of ms ++ cs) none ∙ append-nil (changes_of ms)) in
    record { sums = subst (λ (cs : List Change). SameRows (rows ++ all_takes cs) (all_puts cs)) (sym same) table.sums }

-- Two lists of messages that go on alike, one of which has more rows in its table.
use Rattle.std.proofs.Common.{◌≡◌, ℕ, ◌+◌, List, [], ◌∷◌, ◌++◌, ap, ◌∙◌, arith, Option, Some, None, Bool, true, false, cond}
use Rattle.std.specs.Prelude.{nat_lt}
use Rattle.cedr_base.specs.declared.row.Row.{Row}
use Rattle.cedr_base.specs.declared.change.Change.{Change}
use Rattle.cedr_base.specs.declared.change.Change.TheVariants.{Add, Cut}
use Rattle.cedr_base.specs.declared.change.Message.{Message}
use Rattle.cedr_base.specs.declared.change.Message.TheVariants as message
use Rattle.cedr_base.specs.Rows.{count_of}
use Rattle.cedr_base.specs.Changes.{all_puts, all_takes}
use Rattle.cedr_base.specs.Messages.{changes_of, mark_of, IsOpen, Suits, IsLegalBehind}
use Rattle.change_laws.proofs.Legal.{changes-append, mark-append, open-append}
use Rattle.change_laws.proofs.RepairLemmas.{takes-append, puts-append}
use Rattle.cedr_text.specs.declared.event_line.EventLine.{EventLine}
use Rattle.cedr_text.specs.declared.event_line.EventLine.TheVariants.{Insert, Retract, Revise, Promise}
use Rattle.cedr_guard.specs.Judging.{guarantee_of, event_with, row_lives}
use Rattle.cedr_guard.specs.Messages.{cut_of, withdrawal_of, line_messages}

-- the long list has the mark of the short one, and in its table these rows more
pub record GoesBeside (short long : List Message) (gone : List Row) : Type 0 where
  pub goes_on : IsOpen long
  pub mark : mark_of long ≡ mark_of short
  pub table : (r : Row) → count_of r (all_puts (changes_of long)) + count_of r (all_takes (changes_of short)) ≡ count_of r (all_puts (changes_of short)) + count_of r (all_takes (changes_of long)) + count_of r gone

puts_parts : (r : Row) (xs ys : List Message) → count_of r (all_puts (changes_of (xs ++ ys))) ≡ count_of r (all_puts (changes_of xs)) + count_of r (all_puts (changes_of ys))
puts_parts r xs ys = ap (λ (cs : List Change). count_of r (all_puts cs)) (changes-append xs ys) ∙ puts-append r (changes_of xs) (changes_of ys)

takes_parts : (r : Row) (xs ys : List Message) → count_of r (all_takes (changes_of (xs ++ ys))) ≡ count_of r (all_takes (changes_of xs)) + count_of r (all_takes (changes_of ys))
takes_parts r xs ys = ap (λ (cs : List Change). count_of r (all_takes cs)) (changes-append xs ys) ∙ takes-append r (changes_of xs) (changes_of ys)

-- more messages behind both
pub beside_more : (short long : List Message) (gone : List Row) (ms : List Message) → IsOpen ms → GoesBeside short long gone → GoesBeside (short ++ ms) (long ++ ms) gone
beside_more short long gone ms opened b = record {
  goes_on = open-append long ms b.goes_on opened;
  mark = omega (arith, b.mark, mark-append short ms, mark-append long ms);
  table = λ r. omega (arith, b.table r, puts_parts r short ms, puts_parts r long ms, takes_parts r short ms, takes_parts r long ms);
}

-- what may come behind the short one may come behind the long one
may_beside : (short long : List Message) (gone : List Row) (m : Message) → GoesBeside short long gone → Suits short m → Suits long m
may_beside short long gone (message.Change (Add row)) b h = (h.0, (let late = h.1 in let same = b.mark in omega arith))
may_beside short long gone (message.Change (Cut row end)) b h = ((h.0.0, (let there = h.0.1 in let t = b.table row in omega arith)), (let late = h.1 in let same = b.mark in omega arith))
may_beside short long gone (message.Mark time) b h = ((let later = h.0 in let same = b.mark in omega arith), h.1)
may_beside short long gone message.End b h = tt
may_beside short long gone message.Broken b h = tt

open_first : (m : Message) (ms : List Message) → IsOpen (m ∷ ms) → IsOpen (m ∷ []) × IsOpen ms
open_first (message.Change c) ms h = (tt, h)
open_first (message.Mark t) ms h = (tt, h)
open_first message.End ms h = absurd h
open_first message.Broken ms h = absurd h

-- so messages that are legal behind the short one are behind the long one
pub legal_beside : (short long : List Message) (gone : List Row) (ms : List Message) → IsOpen ms → GoesBeside short long gone → IsLegalBehind short ms → IsLegalBehind long ms
legal_beside short long gone [] opened b h = tt
legal_beside short long gone (m ∷ ms) opened b h =
    let o = open_first m ms opened in
    ((b.goes_on, may_beside short long gone m b h.0.1), legal_beside (short ++ m ∷ []) (long ++ m ∷ []) gone ms o.1 (beside_more short long gone (m ∷ []) o.0 b) h.1)

-- the messages of a line have neither an end nor a break
cut_open : (event : Option Row) (end : ℕ) → IsOpen (cut_of event end)
cut_open None end = tt
cut_open (Some row) end = tt

gone_open : (row : Row) (b : Bool) → IsOpen (cond b (message.Change (Cut row row.begin) ∷ []) [])
gone_open row true = tt
gone_open row false = tt

withdrawal_open : (event : Option Row) → IsOpen (withdrawal_of event)
withdrawal_open None = tt
withdrawal_open (Some row) = gone_open row (row_lives row)

rise_open : (time : ℕ) (b : Bool) → IsOpen (cond b (message.Mark time ∷ []) [])
rise_open time true = tt
rise_open time false = tt

pub line_open : (before : List EventLine) (line : EventLine) → IsOpen (line_messages before line)
line_open before (Insert id row) = tt
line_open before (Retract id end) = cut_open (event_with id before) end
line_open before (Revise id row) = open-append (withdrawal_of (event_with id before)) (message.Change (Add row) ∷ []) (withdrawal_open (event_with id before)) tt
line_open before (Promise time) = rise_open time (nat_lt (guarantee_of before) time)

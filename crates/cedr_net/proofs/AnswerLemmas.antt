-- What came of an output goes on.
use Rattle.std.proofs.Common.{◌≡◌, true, false, ℕ, zero, suc, ◌+◌, ◌<◌, ◌≤◌, inl, inr, List, [], ◌∷◌, ◌++◌, Bool, cond, not, length, get_or, take, refl, ap, sym, ◌∙◌, subst, arith, append_assoc}
use Rattle.std.specs.Prelude.{map, filter, nat_lt, drop, ◌≢◌}
use Rattle.std.proofs.lemmas.Bool.{cases_lt, ltb-true, ltb-false, eqb-true, eqb-false}
use Rattle.std.proofs.lemmas.List.{append-nil, drop_all, drop-append-le, length-append, length-drop}
use Rattle.cedr_base.specs.declared.change.Change.{Change}
use Rattle.cedr_base.specs.declared.change.Change.TheVariants.{Add, Cut}
use Rattle.cedr_base.specs.declared.change.Message.{Message}
use Rattle.cedr_base.specs.declared.change.Message.TheVariants as message
use Rattle.cedr_base.specs.declared.row.Row.{Row}
use Rattle.cedr_base.specs.Changes.{IsChange, sync_of, puts, takes, all_takes, MayFollow}
use Rattle.cedr_base.specs.Messages.{changes_of, mark_of, IsTableOf, MayCome, IsLegalBehind}
use Rattle.cedr_base.specs.Rows.{count_of, in_order, SameRows}
use Rattle.cedr_base.proofs.Bags.{count_of-append, one_if_same_exact}
use Rattle.cedr_base.proofs.Sorting.{in_order_counts, same_in_order}
use Rattle.change_laws.specs.Repairs.{IsMoved}
use Rattle.change_laws.proofs.Legal.{changes-append, mark-append, may_follow_table, table_moved, table_stays}
use Rattle.change_laws.proofs.Moves.{row_came}
use Rattle.cedr_table.specs.Counted.{ends_after}
use Rattle.cedr_table.proofs.FilterLemmas.{count-filter}
use Rattle.cedr_net.specs.declared.answer.Answer.{Answer}
use Rattle.cedr_net.specs.declared.keeping.Keeping.{Keeping}
use Rattle.cedr_net.specs.declared.keeping.Keeping.TheVariants as keeping
use Rattle.cedr_net.specs.Keeping.{keeps_all, hands_on, taken_number, is_next}
use Rattle.cedr_net.specs.Networks.{AreAnswerRows, HoldsAnswer, IsAnswerOf, TakesOn}
use Rattle.cedr_net.proofs.FinalLemmas.{StandBefore, both_in_order, ends_before, passed}

-- the rows that are final stand before the others
final_first : (answer : Answer) (given : List Message) → HoldsAnswer answer given → StandBefore answer.final_rows.items answer.table
final_first answer given a = λ x there q in_table. let low = a.below x there in let high = a.above q in_table in ends_before x q (omega arith)

-- the same bag is the table of a list too
same_table : (given : List Message) (xs ys : List Row) → IsTableOf given xs → SameRows ys xs → IsTableOf given ys
same_table given xs ys table same = record {
  sums = record {
    each = λ r. let t = table.sums.each r in let e = same.each r in omega (arith, count_of-append r xs (all_takes (changes_of given)), count_of-append r ys (all_takes (changes_of given)));
  };
}

-- the rows that are final, and then the others in order, are the table of the output in order
pub rows_of_answer : (answer : Answer) (given : List Message) (rows : List Row) → HoldsAnswer answer given → rows ≡ answer.final_rows.items ++ in_order answer.table → AreAnswerRows given rows
rows_of_answer answer given rows a is =
    let final = answer.final_rows.items in
    let whole = final ++ answer.table in
    let ordered : rows ≡ in_order whole = is ∙ (ap (λ (rs : List Row). rs ++ in_order answer.table) (sym a.ordered) ∙ sym (both_in_order final answer.table (final_first answer given a))) in
    let same : SameRows rows whole = record { each = λ r. ap (count_of r) ordered ∙ sym ((in_order_counts whole).each r) } in
    record { table = same_table given whole rows a.table same; ordered = same_in_order rows whole same ∙ sym ordered }

-- ---- changes

-- a change behind a mark puts rows alone that end at the mark or later
put_above : (c : Change) (mark : ℕ) (r : Row) → IsChange c → mark ≤ sync_of c → 0 < count_of r (puts c) → mark ≤ r.end
put_above (Add a) mark r is late there = subst (λ (x : Row). mark ≤ x.end) (sym (one_if_same_exact r a (omega arith))) (let lives = is.lives in omega arith)
put_above (Cut a e) mark r is late there = put_at (nat_lt a.begin e) there where
  put_at : (b : Bool) → 0 < count_of r (cond b (record a { end = e } ∷ []) []) → mark ≤ r.end
  put_at true one = subst (λ (x : Row). mark ≤ x.end) (sym (one_if_same_exact r (record a { end = e }) (omega arith))) late
  put_at false none = absurd (omega arith)

-- what follows in a list is a change
is_change : (before : List Change) (c : Change) → MayFollow [] before c → IsChange c
is_change before (Add a) may = may
is_change before (Cut a e) may = may.0

among_others : (c : Change) (mark : ℕ) (final others : List Row) → ((r : Row) → 0 < count_of r final → r.end < mark) → mark ≤ sync_of c → MayFollow (final ++ others) [] c → MayFollow others [] c
among_others (Add a) mark final others below late may = may
among_others (Cut a e) mark final others below late may = (
  may.0,
  elim (cases_lt 0 (count_of a final)) [
    | inl there ↦ (let low = below a there in let shorter = may.0.2 in absurd (omega arith))
    | inr none ↦ (let there = may.1 in omega (arith, count_of-append a final others))
  ],
)

-- a change of an output names no row that is final
pub follows_others : (answer : Answer) (given : List Message) (c : Change) → HoldsAnswer answer given → MayCome given (message.Change c) → MayFollow answer.table [] c
follows_others answer given c a may =
    among_others c (mark_of given) answer.final_rows.items answer.table a.below may.1.1 (may_follow_table given (answer.final_rows.items ++ answer.table) c a.table may.1.0)

-- with one more change of an output, its answer has that change where changes are kept, and the table with its delta
pub change_noted : (old new : Answer) (given : List Message) (c : Change) → HoldsAnswer old given → MayCome given (message.Change c) → new.keeps ≡ old.keeps → (keeps_all old.keeps ≡ true → new.changes.items ≡ old.changes.items ++ c ∷ []) → new.final_rows.items ≡ old.final_rows.items
    → IsMoved c old.table new.table → HoldsAnswer new (given ++ message.Change c ∷ [])
change_noted old new given c a may keeps kept final moved =
    let was = old.final_rows.items in
    let mark : mark_of (given ++ message.Change c ∷ []) ≡ mark_of given = omega (arith, mark-append given (message.Change c ∷ [])) in
    let both : IsMoved c (was ++ old.table) (was ++ new.table) = record {
      sums = record {
        each = λ r. let m = moved.sums.each r in
            omega (arith, count_of-append r (was ++ new.table) (takes c), count_of-append r was new.table, count_of-append r (was ++ old.table) (puts c), count_of-append r was old.table, count_of-append r new.table (takes c), count_of-append r old.table (puts c));
      };
    } in
    record {
      changes_are = λ is. let kept_before : keeps_all old.keeps ≡ true = ap keeps_all (sym keeps) ∙ is in kept kept_before ∙ (ap (λ (cs : List Change). cs ++ c ∷ []) (a.changes_are kept_before) ∙ sym (changes-append given (message.Change c ∷ [])));
      table = subst (λ (rs : List Row). IsTableOf (given ++ message.Change c ∷ []) (rs ++ new.table)) (sym final) (table_moved given c (was ++ old.table) (was ++ new.table) a.table both);
      ordered = subst (λ (rs : List Row). in_order rs ≡ rs) (sym final) a.ordered;
      below = λ r there. let low = a.below r (subst (λ (rs : List Row). 0 < count_of r rs) final there) in omega arith;
      above = λ r there. elim (row_came c old.table new.table r moved there) [
        | inl stays ↦ (let high = a.above r stays in omega arith)
        | inr put ↦ (let high = put_above c (mark_of given) r (is_change (changes_of given) c may.1.0) may.1.1 put in omega arith)
      ];
    }

-- ---- marks

split_at : (time : ℕ) (r : Row) (n : ℕ) (b : Bool) → ends_after time r ≡ b → cond (not b) n 0 + cond b n 0 ≡ n
split_at time r n true is = omega arith
split_at time r n false is = omega arith

-- what ends at a time or before, in order, and the others are together the same bag
pub split_same : (time : ℕ) (final table left : List Row) → SameRows left (filter (ends_after time) table) → SameRows ((final ++ in_order (filter (λ r. not (ends_after time r)) table)) ++ left) (final ++ table)
split_same time final table left same = record {
  each = λ r.
      let gone = filter (λ x. not (ends_after time x)) table in
      let e = same.each r in
      let o = (in_order_counts gone).each r in
      omega (arith, count_of-append r (final ++ in_order gone) left, count_of-append r final (in_order gone), count_of-append r final table, count-filter r (λ x. not (ends_after time x)) table, count-filter r (ends_after time) table, split_at time r (count_of r table) (ends_after time r) refl);
}

not_false : (b : Bool) → not b ≡ true → b ≡ false
not_false true h = cc
not_false false h = refl

-- with one more mark of an output, its rows that end below it are final
pub mark_noted : (old new : Answer) (given : List Message) (mark time : ℕ) → HoldsAnswer old given → MayCome given (message.Mark mark) → time + 1 ≡ mark → new.keeps ≡ old.keeps → new.changes.items ≡ old.changes.items
    → new.final_rows.items ≡ old.final_rows.items ++ in_order (filter (λ r. not (ends_after time r)) old.table) → SameRows new.table (filter (ends_after time) old.table) → HoldsAnswer new (given ++ message.Mark mark ∷ [])
mark_noted old new given mark time a may next keeps changes taken left =
    let was = old.final_rows.items in
    let gone = filter (λ r. not (ends_after time r)) old.table in
    let rise : mark_of (given ++ message.Mark mark ∷ []) ≡ mark = let later = may.1.0 in omega (arith, mark-append given (message.Mark mark ∷ [])) in
    let first : StandBefore was (in_order gone) = λ x there q in_gone.
    final_first old given a x there q (passed q (λ r. not (ends_after time r)) old.table (let e = (in_order_counts gone).each q in omega arith)).1 in
    record {
      changes_are = λ is. changes ∙ (a.changes_are (ap keeps_all (sym keeps) ∙ is) ∙ sym (changes-append given (message.Mark mark ∷ []) ∙ append-nil (changes_of given)));
      table = table_stays given (message.Mark mark) (new.final_rows.items ++ new.table)
          (same_table given (was ++ old.table) (new.final_rows.items ++ new.table) a.table
          (subst (λ (rs : List Row). SameRows (rs ++ new.table) (was ++ old.table)) (sym taken) (split_same time was old.table new.table left)))
          refl;
      ordered = subst (λ (rs : List Row). in_order rs ≡ rs) (sym taken)
          (both_in_order was (in_order gone) first
          ∙ (ap (λ (rs : List Row). rs ++ in_order (in_order gone)) a.ordered ∙ ap (λ (rs : List Row). was ++ rs) (sym (same_in_order gone (in_order gone) (in_order_counts gone)))));
      below = λ r there. elim (cases_lt 0 (count_of r was)) [
        | inl before ↦ (let low = a.below r before in let later = may.1.0 in omega arith)
        | inr fresh ↦ (
            let both : 0 < count_of r (was ++ in_order gone) = subst (λ (rs : List Row). 0 < count_of r rs) taken there in
            let among : 0 < count_of r gone = let e = (in_order_counts gone).each r in omega (arith, count_of-append r was (in_order gone)) in
            let ends = ltb-false time r.end (not_false (ends_after time r) (passed r (λ x. not (ends_after time x)) old.table among).0) in
            omega arith
            )
      ];
      above = λ r there. let stays = passed r (ends_after time) old.table (let e = left.each r in omega arith) in let high = ltb-true time r.end stays.0 in omega arith;
    }

-- with one more message of an output that is neither a change nor a mark, its answer stays
pub other_noted : (answer : Answer) (given : List Message) (m : Message) → HoldsAnswer answer given → changes_of (m ∷ []) ≡ [] → mark_of (m ∷ []) ≡ 0 → HoldsAnswer answer (given ++ m ∷ [])
other_noted answer given m a none unmarked =
    let mark : mark_of (given ++ m ∷ []) ≡ mark_of given = omega (arith, mark-append given (m ∷ [])) in
    record {
      changes_are = λ is. a.changes_are is ∙ sym (changes-append given (m ∷ []) ∙ (ap (λ (cs : List Change). changes_of given ++ cs) none ∙ append-nil (changes_of given)));
      table = table_stays given m (answer.final_rows.items ++ answer.table) a.table none;
      ordered = a.ordered;
      below = λ r there. let low = a.below r there in omega arith;
      above = λ r there. let high = a.above r there in omega arith;
    }

may_come_at : (given piece : List Message) (i : ℕ) (d : Message) → IsLegalBehind given piece → i < length piece → MayCome (given ++ take i piece) (get_or piece i d)
may_come_at given [] i d legal within = absurd (omega arith)
may_come_at given (m ∷ piece) zero d legal within = subst (λ (ms : List Message). MayCome ms m) (sym (append-nil given)) legal.0
may_come_at given (m ∷ piece) (suc i) d legal within = subst (λ (ms : List Message). MayCome ms (get_or piece i d)) (append_assoc given (m ∷ []) (take i piece)) (may_come_at (given ++ m ∷ []) piece i d legal.1 (omega arith))

-- the next message of a piece that is legal may come after those before it
pub next_may_come : (given piece yielded : List Message) (m : Message) → IsLegalBehind given piece → yielded ≡ take (length yielded) piece → (length yielded < length piece) × (m ≡ get_or piece (length yielded) m) → MayCome (given ++ yielded) m
next_may_come given piece yielded m legal so_far next =
    subst (λ (x : Message). MayCome (given ++ yielded) x) (sym next.1)
    (subst (λ (ms : List Message). MayCome (given ++ ms) (get_or piece (length yielded) m)) (sym so_far) (may_come_at given piece (length yielded) m legal next.0))

-- a list of elements, each as it is, is the same list
pub map_itself : {X : Type 0} (xs : List X) → map (λ x. x) xs ≡ xs
map_itself [] = refl
map_itself (x ∷ xs) = ap (λ ys. x ∷ ys) (map_itself xs)

-- ---- what is kept of a list

-- nothing came: its table, or no message
pub nothing_kept : (answer : Answer) → HoldsAnswer answer [] → taken_number answer.keeps ≡ 0 → answer.fresh.items ≡ [] → IsAnswerOf answer []
nothing_kept answer holds none left = record {
  rows = λ is. holds;
  fresh = λ is. record { within = omega (arith, none); left = left ∙ ap (λ (n : ℕ). drop n []) (sym none) };
}

-- a piece was noted among the rows
pub rows_noted : (old new : Answer) (given piece : List Message) → hands_on old.keeps ≡ false → new.keeps ≡ old.keeps → HoldsAnswer new (given ++ piece) → IsAnswerOf new (given ++ piece)
rows_noted old new given piece isnt keeps holds = record { rows = λ is. holds; fresh = λ is. absurd (let e = sym isnt ∙ (ap hands_on (sym keeps) ∙ is) in cc) }

-- a piece is handed on
pub piece_left : (old new : Answer) (given piece : List Message) → IsAnswerOf old given → hands_on old.keeps ≡ true → new.keeps ≡ old.keeps → new.fresh.items ≡ old.fresh.items ++ piece → IsAnswerOf new (given ++ piece)
piece_left old new given piece a is keeps fresh =
    let was = a.fresh is in
    let first = ap taken_number keeps in
    record {
      rows = λ isnt. absurd (let e = sym isnt ∙ (ap hands_on keeps ∙ is) in cc);
      fresh = λ same. record {
        within = omega (arith, was.within, first, length-append given piece);
        left = fresh ∙ (ap (λ (ms : List Message). ms ++ piece) was.left ∙ (sym (drop-append-le (taken_number old.keeps) given piece was.within) ∙ ap (λ (n : ℕ). drop n (given ++ piece)) (sym first)));
      };
    }

-- the messages that weren't taken are those from this number on
pub untaken_end : (old : Answer) (given : List Message) → IsAnswerOf old given → hands_on old.keeps ≡ true → TakesOn given (taken_number old.keeps) old.fresh.items
untaken_end old given a is = let was = a.fresh is in record { left = was.left; ends = omega (arith, was.within, ap (λ (ms : List Message). length ms) was.left, length-drop (taken_number old.keeps) given) }

-- where a message is the next one, messages are handed on, and so many were taken
pub next_hands_on : (keeps : Keeping) (number : ℕ) → is_next keeps number ≡ true → (hands_on keeps ≡ true) × (number ≡ taken_number keeps)
next_hands_on keeping.Rows number is = absurd cc
next_hands_on keeping.Changes number is = absurd cc
next_hands_on (keeping.Messages first) number is = (refl, sym (eqb-true first number is))

-- where it isn't, another number of them was taken
pub another_next : (keeps : Keeping) (number : ℕ) → is_next keeps number ≡ false → hands_on keeps ≡ true → number ≢ taken_number keeps
another_next keeping.Rows number isnt is = absurd cc
another_next keeping.Changes number isnt is = absurd cc
another_next (keeping.Messages first) number isnt is = λ same. eqb-false first number isnt (sym same)

-- the messages that weren't taken are taken, and none is left
pub all_taken : (old new : Answer) (given : List Message) → IsAnswerOf old given → hands_on old.keeps ≡ true → new.keeps ≡ keeping.Messages (taken_number old.keeps + length old.fresh.items) → new.fresh.items ≡ [] → IsAnswerOf new given
all_taken old new given a is keeps none =
    let t = untaken_end old given a is in
    let first : taken_number new.keeps ≡ taken_number old.keeps + length old.fresh.items = ap taken_number keeps in
    record {
      rows = λ isnt. absurd (let e = sym isnt ∙ ap hands_on keeps in cc);
      fresh = λ same. record { within = omega (arith, first, t.ends); left = none ∙ sym (drop_all (taken_number new.keeps) given (omega (arith, first, t.ends))) };
    }

-- both, as they are answered
pub took_all : (old new : Answer) (given : List Message) (from : ℕ) (taken : List Message) → IsAnswerOf old given → is_next old.keeps from ≡ true → taken ≡ old.fresh.items → new.keeps ≡ keeping.Messages (from + length old.fresh.items) → new.fresh.items ≡ [] → TakesOn given from taken × IsAnswerOf new given
took_all old new given from taken a next taken_are keeps none =
    let is = next_hands_on old.keeps from next in (
      subst (λ (n : ℕ). TakesOn given n taken) (sym is.1) (subst (TakesOn given (taken_number old.keeps)) (sym taken_are) (untaken_end old given a is.0)),
      all_taken old new given a is.0 (keeps ∙ ap (λ (n : ℕ). keeping.Messages (n + length old.fresh.items)) is.1) none,
    )

-- What a port passes on is legal; its table is the passed table, and its mark is the front.
use Rattle.std.proofs.Common.{◌≡◌, ℕ, ◌+◌, ◌<◌, ◌≤◌, ◌⊎◌, inl, inr, List, [], ◌∷◌, ◌++◌, Bool, true, false, cond, refl, ap, sym, ◌∙◌, subst, arith, append_assoc}
use Rattle.std.specs.Prelude.{nat_lt, map}
use Rattle.std.proofs.lemmas.Bool.{ltb-true, ltb-false, cases_lt}
use Rattle.std.proofs.lemmas.List.{append-nil, map-append}
use Rattle.cedr_base.specs.declared.row.Row.{Row}
use Rattle.cedr_base.specs.declared.time.TheConstants.{FOREVER}
use Rattle.cedr_base.specs.declared.change.Change.{Change}
use Rattle.cedr_base.specs.declared.change.Change.TheVariants.{Add}
use Rattle.cedr_base.specs.declared.change.Message.{Message}
use Rattle.cedr_base.specs.declared.change.Message.TheVariants as message
use Rattle.cedr_base.specs.Rows.{IsRow, count_of, SameRows}
use Rattle.cedr_base.specs.Changes.{all_puts, all_takes}
use Rattle.change_laws.specs.Repairs.{AllFrom, Repair, wrapped}
use Rattle.cedr_base.specs.Messages.{changes_of, mark_of, IsOpen, IsTableOf, MayCome, IsLegal}
use Rattle.cedr_base.proofs.Bags.{count_of-append, count_of-cons}
use Rattle.change_laws.proofs.BagSums.{count_of-itself}
use Rattle.change_laws.proofs.RepairLemmas.{AllChanges, AllChanges-append, AllFrom-append, takes-append, puts-append, takes_adds, puts_adds, repair}
use Rattle.change_laws.proofs.Legal.{legal-push, changes-append, mark-append, mark-wrapped, open-append, open-wrapped, legal_repaired, table_repaired}
use Rattle.cedr_base.specs.declared.level.Level.{Level}
use Rattle.node_laws.specs.Surplus.{table_of}
use Rattle.node_laws.specs.Kept.{high_of, kept, kept_table}
use Rattle.node_laws.specs.Lists.{mark_above}
use Rattle.node_laws.specs.Pass.{has_end, is_held, holds, held, passed_table, front, front_at, itself, gained, additions, closing, answer, passed_of, pass}
use Rattle.node_laws.proofs.Grows.{kept-push, pass-push, pass-nil, end-append, high-append}
use Rattle.node_laws.proofs.Holds.{open_is, front-same, count-held, count-passed}
use Rattle.node_laws.proofs.Splits.{split, front_low}
use Rattle.node_laws.proofs.Steps.{Stands, other, rest, candidates, all_rows, passed_after, gained_count, candidate_begins, sound_after, rows_after, front_up, front_time, cond_some}
use Rattle.node_laws.proofs.Induct.{by_legal}

-- messages that are legal, make a table and have a mark
pub record IsGiven (given : List Message) (rows : List Row) (t : ℕ) : Type 0 where
  pub legal : IsLegal given
  pub opened : IsOpen given
  pub table : IsTableOf given rows
  pub mark : mark_of given ≡ t

-- a message that is no change leaves the table as it is
pub table_stays : (given : List Message) (m : Message) (rows : List Row) → changes_of (m ∷ []) ≡ [] → IsTableOf given rows → IsTableOf (given ++ m ∷ []) rows
table_stays given m rows none table =
    record { sums = subst (λ (cs : List Change). SameRows (rows ++ all_takes cs) (all_puts cs)) (sym (changes-append given (m ∷ []) ∙ (ap (λ cs. changes_of given ++ cs) none ∙ append-nil (changes_of given)))) table.sums }

-- a mark after messages, where it is above theirs
marked_at : (given : List Message) (rows : List Row) (old t : ℕ) (b : Bool) → nat_lt old t ≡ b → old ≤ t → t ≤ FOREVER → IsGiven given rows old → IsGiven (given ++ cond b (message.Mark t ∷ []) []) rows t
marked_at given rows old t true h up time k =
    let above = ltb-true old t h in
    let e = k.mark in
    record {
      legal = legal-push given (message.Mark t) k.legal (k.opened, (omega arith, time));
      opened = open-append given (message.Mark t ∷ []) k.opened tt;
      table = table_stays given (message.Mark t) rows refl k.table;
      mark = omega (arith, mark-append given (message.Mark t ∷ []));
    }
marked_at given rows old t false h up time k =
    let same : old ≡ t = let f = ltb-false old t h in omega arith in
    subst (λ (ms : List Message). IsGiven ms rows t) (sym (append-nil given)) (subst (λ (n : ℕ). IsGiven given rows n) same k)

-- given messages to which a mark is added, where it is above theirs, have that mark and the same table
pub marked : (given : List Message) (rows : List Row) (old t : ℕ) → old ≤ t → t ≤ FOREVER → IsGiven given rows old → IsGiven (given ++ mark_above old t) rows t
marked given rows old t up time k = marked_at given rows old t (nat_lt old t) refl up time k

-- a repair after messages
pub repaired : (given : List Message) (old new : List Row) (t : ℕ) (cs : List Change) → IsGiven given old t → Repair old new t cs → IsGiven (given ++ wrapped cs) new t
repaired given old new t cs k fix = record {
  legal = legal_repaired given old new cs k.legal k.opened k.table (subst (λ (n : ℕ). Repair old new n cs) (sym k.mark) fix);
  opened = open-append given (wrapped cs) k.opened (open-wrapped cs);
  table = table_repaired given old new t cs k.table fix;
  mark = let e = k.mark in omega (arith, mark-append given (wrapped cs), mark-wrapped cs);
}

-- the changes that add rows
abbrev pub adds : List Row → List Change
adds rows = map (λ r. Add r) rows

-- the messages that add rows are those that bring the changes that add them
pub additions_wrapped : (rows : List Row) → additions rows ≡ wrapped (adds rows)
additions_wrapped [] = refl
additions_wrapped (r ∷ rows) = ap (λ (ms : List Message). message.Change (Add r) ∷ ms) (additions_wrapped rows)

-- the messages that bring joined changes are those that bring the first ones, and then the others
pub wrapped-append : (cs ds : List Change) → wrapped (cs ++ ds) ≡ wrapped cs ++ wrapped ds
wrapped-append cs ds = map-append (λ c. message.Change c) cs ds

adds_are : (rows : List Row) → ((r : Row) → 0 < count_of r rows → IsRow r) → AllChanges (adds rows)
adds_are [] h = tt
adds_are (x ∷ rows) h = (h x (count_of-itself x rows), adds_are rows (λ r there. h r (omega (arith, count_of-cons r x rows))))

adds_from : (t : ℕ) (rows : List Row) → ((r : Row) → 0 < count_of r rows → t ≤ r.begin) → AllFrom t (adds rows)
adds_from t [] h = tt
adds_from t (x ∷ rows) h = (h x (count_of-itself x rows), adds_from t rows (λ r there. h r (omega (arith, count_of-cons r x rows))))

-- changes from a time on are from each earlier one on
pub from-weaker : (t u : ℕ) (cs : List Change) → t ≤ u → AllFrom u cs → AllFrom t cs
from-weaker t u [] h k = tt
from-weaker t u (c ∷ cs) h k = (let e = k.0 in omega arith, from-weaker t u cs h k.1)

-- the counts of the changes that one message passes on
takes_passed : (r : Row) (own : List Change) (rows : List Row) → count_of r (all_takes (own ++ adds rows)) ≡ count_of r (all_takes own)
takes_passed r own rows = omega (arith, takes-append r own (adds rows), ap (λ (xs : List Row). count_of r xs) (takes_adds rows))

puts_passed : (r : Row) (own : List Change) (rows : List Row) → count_of r (all_puts (own ++ adds rows)) ≡ count_of r (all_puts own) + count_of r rows
puts_passed r own rows = omega (arith, puts-append r own (adds rows), ap (λ (xs : List Row). count_of r xs) (puts_adds rows))

module _ (level : Level) (ms : List Message) (m : Message) (may : MayCome ms m) (s : Stands level ms) where
  gained_rows : (r : Row) → 0 < count_of r (gained level ms m) → IsRow r
  gained_rows r there =
      let c : 0 < candidates level ms m may s.sound r = cond_some (holds level (ms ++ m ∷ []) r) _ (let e = gained_count level ms m may s.sound r in omega arith) in
      rows_after level ms m may s.sound s.rows r (omega (arith, all_rows level ms m may s.sound r))

  gained_begins : (r : Row) → 0 < count_of r (gained level ms m) → front level ms ≤ r.begin
  gained_begins r there = candidate_begins level ms m may s.sound r (cond_some (holds level (ms ++ m ∷ []) r) _ (let e = gained_count level ms m may s.sound r in omega arith))

  -- a row that was passed and is cut isn't gained
  apart_at : (r : Row) → (count_of r (all_takes (itself level ms m)) ≡ 0) ⊎ (count_of r (gained level ms m) ≡ 0)
  unfolding candidates
  apart_at r =
      let k = split level ms m may in
      elim (cases_lt 0 (count_of r (all_takes (itself level ms m)))) [
        | inr gone ↦ inl (omega arith)
        | inl cut ↦ elim (k.one_only r) [
          | inl zero ↦ inl zero
          | inr none ↦ inr (at (holds level ms r) refl (holds level (ms ++ m ∷ []) r) (omega (arith, k.from_passed r)) none)
        ]
      ] where
        at : (b : Bool) → holds level ms r ≡ b → (d : Bool) → 0 < count_of r (passed_table level ms) → count_of r (all_puts (other level ms m)) ≡ 0 → count_of r (gained level ms m) ≡ 0
        at true h d there none = absurd (let e = ap (λ x. cond x 0 (count_of r (kept_table level.memory ms))) h in omega (arith, count-passed level ms r))
        at false h d there none =
            let e = ap (λ x. cond x (count_of r (kept_table level.memory ms)) 0) h in
            let zero : candidates level ms m may s.sound r ≡ 0 = omega (arith, count-held level ms r) in
            gained_count level ms m may s.sound r ∙ (ap (λ n. cond (holds level (ms ++ m ∷ []) r) 0 n) zero ∙ both (holds level (ms ++ m ∷ []) r)) where
              both : (b : Bool) → cond {A = ℕ} b 0 0 ≡ 0
              both true = refl
              both false = refl

  pub passes_repair : Repair (passed_table level ms) (passed_table level (ms ++ m ∷ [])) (front level ms) (itself level ms m ++ adds (gained level ms m))
  unfolding rest
  passes_repair =
      let k = split level ms m may in
      let own = itself level ms m in
      let rows = gained level ms m in
      repair (passed_table level ms) (passed_table level (ms ++ m ∷ [])) (front level ms) (itself level ms m ++ adds (gained level ms m))
      (AllChanges-append own (adds rows) k.are (adds_are rows gained_rows))
      (AllFrom-append (front level ms) own (adds rows) (from-weaker (front level ms) (mark_of ms) own (front_low level ms may.0) k.seen) (adds_from (front level ms) rows gained_begins))
      (λ r. omega (arith, takes_passed r own rows, puts_passed r own rows, passed_after level ms m may s.sound r, gained_count level ms m may s.sound r, k.from_passed r))
      (λ r. omega (arith, takes_passed r own rows, k.from_passed r))
      (λ r. elim (k.apart r) [
        | inl a ↦ inl (omega (arith, takes_passed r own rows, a))
        | inr b ↦ elim (apart_at r) [ inl c ↦ inl (omega (arith, takes_passed r own rows, c)) | inr d ↦ inr (omega (arith, puts_passed r own rows, b, d)) ]
      ])

  -- what is given once the rows and the mark are passed on
  pub given_after : mark_of (ms ++ m ∷ []) ≤ FOREVER
      → IsGiven (pass level ms ++ (wrapped (itself level ms m) ++ (additions (gained level ms m) ++ mark_above (front level ms) (front level (ms ++ m ∷ []))))) (passed_table level (ms ++ m ∷ [])) (front level (ms ++ m ∷ []))
  given_after time =
      let own = itself level ms m in
      let rows = gained level ms m in
      let was : IsGiven (pass level ms) (passed_table level ms) (front level ms) = record { legal = s.legal; opened = s.opened may.0; table = s.table; mark = s.mark } in
      let all = marked (pass level ms ++ wrapped (own ++ adds rows)) (passed_table level (ms ++ m ∷ [])) (front level ms) (front level (ms ++ m ∷ []))
      (front_up level ms m may s.sound time) (front_time level (ms ++ m ∷ []) time)
      (repaired (pass level ms) (passed_table level ms) (passed_table level (ms ++ m ∷ [])) (front level ms) (own ++ adds rows) was passes_repair) in
      let seam : (pass level ms ++ wrapped (own ++ adds rows)) ++ mark_above (front level ms) (front level (ms ++ m ∷ [])) ≡ pass level ms ++ (wrapped own ++ (additions rows ++ mark_above (front level ms) (front level (ms ++ m ∷ [])))) =
      append_assoc (pass level ms) (wrapped (own ++ adds rows)) _
      ∙ ap (λ (xs : List Message). pass level ms ++ xs) (ap (λ (xs : List Message). xs ++ mark_above (front level ms) (front level (ms ++ m ∷ []))) (wrapped-append own (adds rows) ∙ ap (λ (xs : List Message). wrapped own ++ xs) (sym (additions_wrapped rows))) ∙ append_assoc (wrapped own) (additions rows) _) in
      subst (λ (xs : List Message). IsGiven xs (passed_table level (ms ++ m ∷ [])) (front level (ms ++ m ∷ []))) seam all

time_after : (ms : List Message) (m : Message) → MayCome ms m → mark_of ms ≤ FOREVER → mark_of (ms ++ m ∷ []) ≤ FOREVER
time_after ms (message.Change c) may time = omega (arith, mark-append ms (message.Change c ∷ []))
time_after ms (message.Mark t) may time = let e = may.1.1 in omega (arith, mark-append ms (message.Mark t ∷ []))
time_after ms message.End may time = omega (arith, mark-append ms (message.End ∷ []))
time_after ms message.Broken may time = omega (arith, mark-append ms (message.Broken ∷ []))

-- a list to which End is added isn't open
pub not_open_end : (ms : List Message) → IsOpen (ms ++ message.End ∷ []) → ⊥
not_open_end [] h = h
not_open_end (message.Change c ∷ ms) h = not_open_end ms h
not_open_end (message.Mark t ∷ ms) h = not_open_end ms h
not_open_end (message.End ∷ ms) h = h
not_open_end (message.Broken ∷ ms) h = h

-- a list to which Broken is added isn't open
pub not_open_broken : (ms : List Message) → IsOpen (ms ++ message.Broken ∷ []) → ⊥
not_open_broken [] h = h
not_open_broken (message.Change c ∷ ms) h = not_open_broken ms h
not_open_broken (message.Mark t ∷ ms) h = not_open_broken ms h
not_open_broken (message.End ∷ ms) h = h
not_open_broken (message.Broken ∷ ms) h = h

-- the same messages, less what closes them
module _ (level : Level) (ms : List Message) (m : Message) (may : MayCome ms m) (s : Stands level ms) where
  seam : (xs : List Message) → pass level ms ++ (wrapped (itself level ms m) ++ (additions (gained level ms m) ++ (mark_above (front level ms) (front level (ms ++ m ∷ [])) ++ xs)))
      ≡ (pass level ms ++ (wrapped (itself level ms m) ++ (additions (gained level ms m) ++ mark_above (front level ms) (front level (ms ++ m ∷ []))))) ++ xs
  seam xs =
      let p = pass level ms in
      let w = wrapped (itself level ms m) in
      let a = additions (gained level ms m) in
      let k = mark_above (front level ms) (front level (ms ++ m ∷ [])) in
      sym (append_assoc p (w ++ (a ++ k)) xs ∙ ap (λ (ys : List Message). p ++ ys) (append_assoc w (a ++ k) xs ∙ ap (λ (ys : List Message). w ++ ys) (append_assoc a k xs)))

  stands_more : passed_of level ms m ≡ answer level ms m → closing m ≡ [] → Stands level (ms ++ m ∷ [])
  stands_more is none =
      let time = time_after ms m may s.time in
      let k = given_after level ms m may s time in
      let whole : pass level (ms ++ m ∷ []) ≡ pass level ms ++ (wrapped (itself level ms m) ++ (additions (gained level ms m) ++ mark_above (front level ms) (front level (ms ++ m ∷ [])))) =
      pass-push level ms m ∙ (ap (λ (xs : List Message). pass level ms ++ xs) is ∙ (seam (closing m) ∙ (ap (λ (xs : List Message). (pass level ms ++ (wrapped (itself level ms m) ++ (additions (gained level ms m) ++ mark_above (front level ms) (front level (ms ++ m ∷ []))))) ++ xs) none ∙ append-nil _))) in
      record {
        sound = sound_after level ms m may s.sound;
        rows = rows_after level ms m may s.sound s.rows;
        time = time;
        legal = subst IsLegal (sym whole) k.legal;
        opened = λ _. subst IsOpen (sym whole) k.opened;
        table = subst (λ (xs : List Message). IsTableOf xs (passed_table level (ms ++ m ∷ []))) (sym whole) k.table;
        mark = ap (λ (xs : List Message). mark_of xs) whole ∙ k.mark;
      }

  stands_closed : (e : Message) → e ≡ m → passed_of level ms m ≡ answer level ms m → closing m ≡ e ∷ [] → e ≡ message.End → Stands level (ms ++ m ∷ [])
  stands_closed e same is closes end =
      let time = time_after ms m may s.time in
      let k = given_after level ms m may s time in
      let given = pass level ms ++ (wrapped (itself level ms m) ++ (additions (gained level ms m) ++ mark_above (front level ms) (front level (ms ++ m ∷ [])))) in
      let whole : pass level (ms ++ m ∷ []) ≡ (pass level ms ++ (wrapped (itself level ms m) ++ (additions (gained level ms m) ++ mark_above (front level ms) (front level (ms ++ m ∷ []))))) ++ message.End ∷ [] =
      pass-push level ms m ∙ (ap (λ (xs : List Message). pass level ms ++ xs) is ∙ (seam (closing m) ∙ ap (λ (xs : List Message). (pass level ms ++ (wrapped (itself level ms m) ++ (additions (gained level ms m) ++ mark_above (front level ms) (front level (ms ++ m ∷ []))))) ++ xs) (closes ∙ ap (λ (x : Message). x ∷ []) end))) in
      record {
        sound = sound_after level ms m may s.sound;
        rows = rows_after level ms m may s.sound s.rows;
        time = time;
        legal = subst IsLegal (sym whole) (legal-push _ message.End k.legal (k.opened, tt));
        opened = λ o. absurd (not_open_end ms (subst (λ (x : Message). IsOpen (ms ++ x ∷ [])) (sym same ∙ end) o));
        table = subst (λ (xs : List Message). IsTableOf xs (passed_table level (ms ++ m ∷ []))) (sym whole) (table_stays _ message.End _ refl k.table);
        mark = ap (λ (xs : List Message). mark_of xs) whole ∙ (let f = k.mark in omega (arith, mark-append (pass level ms ++ (wrapped (itself level ms m) ++ (additions (gained level ms m) ++ mark_above (front level ms) (front level (ms ++ m ∷ []))))) (message.End ∷ [])));
      }

-- a break changes nothing of what is held
module _ (level : Level) (ms : List Message) (opened : IsOpen ms) where
  broken_end : has_end (ms ++ message.Broken ∷ []) ≡ has_end ms
  broken_end = end-append ms (message.Broken ∷ []) (open_is ms opened) ∙ sym (open_is ms opened)

  broken_mark : mark_of (ms ++ message.Broken ∷ []) ≡ mark_of ms
  broken_mark = omega (arith, mark-append ms (message.Broken ∷ []))

  broken_high : high_of (ms ++ message.Broken ∷ []) ≡ high_of ms
  broken_high = omega (arith, high-append ms (message.Broken ∷ []))

  broken_kept : kept level.memory (ms ++ message.Broken ∷ []) ≡ kept level.memory ms
  broken_kept = kept-push level.memory ms message.Broken ∙ append-nil (kept level.memory ms)

  broken_holds : (r : Row) → holds level (ms ++ message.Broken ∷ []) r ≡ holds level ms r
  broken_holds r =
      ap (λ (b : Bool). is_held level.block b (mark_of (ms ++ message.Broken ∷ [])) (high_of (ms ++ message.Broken ∷ [])) r) broken_end
      ∙ (ap (λ n. is_held level.block (has_end ms) n (high_of (ms ++ message.Broken ∷ [])) r) broken_mark ∙ ap (λ n. is_held level.block (has_end ms) (mark_of ms) n r) broken_high)

  broken_count : (r : Row) → count_of r (kept_table level.memory (ms ++ message.Broken ∷ [])) ≡ count_of r (kept_table level.memory ms)
  broken_count r = ap (λ (cs : List Change). count_of r (table_of cs)) broken_kept

  pub broken_held : SameRows (held level (ms ++ message.Broken ∷ [])) (held level ms)
  broken_held = record {
    each = λ r. count-held level (ms ++ message.Broken ∷ []) r ∙ (ap (λ b. cond b (count_of r (kept_table level.memory (ms ++ message.Broken ∷ []))) 0) (broken_holds r) ∙ (ap (λ n. cond (holds level ms r) n 0) (broken_count r) ∙ sym (count-held level ms r)));
  }

  pub broken_passed : SameRows (passed_table level (ms ++ message.Broken ∷ [])) (passed_table level ms)
  broken_passed = record {
    each = λ r. count-passed level (ms ++ message.Broken ∷ []) r ∙ (ap (λ b. cond b 0 (count_of r (kept_table level.memory (ms ++ message.Broken ∷ [])))) (broken_holds r) ∙ (ap (λ n. cond (holds level ms r) 0 n) (broken_count r) ∙ sym (count-passed level ms r)));
  }

  pub broken_front : front level (ms ++ message.Broken ∷ []) ≡ front level ms
  broken_front =
      ap (λ b. front_at b (mark_of (ms ++ message.Broken ∷ [])) (held level (ms ++ message.Broken ∷ []))) broken_end
      ∙ (ap (λ n. front_at (has_end ms) n (held level (ms ++ message.Broken ∷ []))) broken_mark ∙ front-same (has_end ms) (mark_of ms) _ _ broken_held)

-- what is the same bag as the table of messages is their table too
pub table_alike : (given : List Message) (rows others : List Row) → SameRows others rows → IsTableOf given rows → IsTableOf given others
table_alike given rows others same table = record {
  sums = record {
    each = λ r. let a = table.sums.each r in let b = same.each r in omega (arith, count_of-append r rows (all_takes (changes_of given)), count_of-append r others (all_takes (changes_of given)));
  };
}

-- the tables of one list are the same bag
pub one_table : (ms : List Message) (xs ys : List Row) → IsTableOf ms xs → IsTableOf ms ys → SameRows xs ys
one_table ms xs ys h k = record {
  each = λ r. omega (arith, h.sums.each r, k.sums.each r, count_of-append r xs (all_takes (changes_of ms)), count_of-append r ys (all_takes (changes_of ms)));
}

stands_broken : (level : Level) (ms : List Message) → MayCome ms message.Broken → Stands level ms → Stands level (ms ++ message.Broken ∷ [])
stands_broken level ms may s =
    let whole : pass level (ms ++ message.Broken ∷ []) ≡ pass level ms ++ message.Broken ∷ [] = pass-push level ms message.Broken in
    record {
      sound = sound_after level ms message.Broken may s.sound;
      rows = rows_after level ms message.Broken may s.sound s.rows;
      time = time_after ms message.Broken may s.time;
      legal = subst IsLegal (sym whole) (legal-push (pass level ms) message.Broken s.legal (s.opened may.0, tt));
      opened = λ o. absurd (not_open_broken ms o);
      table = subst (λ (xs : List Message). IsTableOf xs (passed_table level (ms ++ message.Broken ∷ []))) (sym whole) (table_stays (pass level ms) message.Broken _ refl (table_alike (pass level ms) (passed_table level ms) _ (broken_passed level ms may.0) s.table));
      mark = ap (λ (xs : List Message). mark_of xs) whole ∙ (let f = s.mark in omega (arith, mark-append (pass level ms) (message.Broken ∷ []), broken_front level ms may.0));
    }

-- what is known of a legal list is known of it with one more message that may come
pub stands_step : (level : Level) (ms : List Message) (m : Message) → IsLegal ms → MayCome ms m → Stands level ms → Stands level (ms ++ m ∷ [])
stands_step level ms (message.Change c) legal may s = stands_more level ms (message.Change c) may s refl refl
stands_step level ms (message.Mark t) legal may s = stands_more level ms (message.Mark t) may s refl refl
stands_step level ms message.End legal may s = stands_closed level ms message.End may s message.End refl refl refl refl
stands_step level ms message.Broken legal may s = stands_broken level ms may s

stands_first : (level : Level) → Stands level []
unfolding kept
stands_first level =
    let none : pass level [] ≡ [] = pass-nil level in
    record {
      sound = λ r. omega arith;
      rows = λ r there. absurd (omega arith);
      time = omega arith;
      legal = subst IsLegal (sym none) tt;
      opened = λ _. subst IsOpen (sym none) tt;
      table = subst (λ (xs : List Message). IsTableOf xs (passed_table level [])) (sym none) (record { sums = record { each = λ r. refl } });
      mark = ap (λ (xs : List Message). mark_of xs) none;
    }

-- what a legal list passes on
pub passes : (level : Level) (ms : List Message) → IsLegal ms → Stands level ms
passes level ms legal = by_legal (Stands level) (stands_step level) (stands_first level) ms legal

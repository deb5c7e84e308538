-- Where each row gives one row or none, the answer to a change repairs the result.
use Rattle.std.proofs.Common.{◌≡◌, ℕ, ◌<◌, ◌≤◌, ◌≢◌, ◌⊎◌, inl, inr, List, [], ◌∷◌, ◌++◌, Bool, true, false, ◌&&◌, cond, nat_lt, nat_eq, Option, Some, None, refl, ap, sym, ◌∙◌, subst, arith, length}
use Rattle.std.proofs.lemmas.Bool.{le-ltb, ltb-true, ltb-false, eqb-true, eqb-false}
use Rattle.std.specs.Prelude.{sum_by}
use Rattle.std.specs.List.{flat_map}
use Rattle.std.proofs.lemmas.List.{append-nil}
use Rattle.cedr_base.specs.declared.field.Field.{Field}
use Rattle.cedr_base.specs.declared.row.Row.{Row}
use Rattle.cedr_base.specs.declared.change.Change.{Change}
use Rattle.cedr_base.specs.declared.change.Change.TheVariants.{Add, Cut}
use Rattle.cedr_base.specs.Rows.{IsRow, count_of, one_if_same}
use Rattle.cedr_base.specs.Changes.{sync_of, IsChange, puts, takes, remnant, MayFollow}
use Rattle.cedr_base.proofs.Bags.{count_of-append}
use Rattle.change_laws.specs.Repairs.{IsMoved, Repair}
use Rattle.change_laws.proofs.BagSums.{sum_by-flat_map, count_of-itself}
use Rattle.change_laws.proofs.Moves.{remnant_some, remnant_none, one_of_two, may_is, sum_by-moved, sum_by-there}
use Rattle.change_laws.proofs.RepairLemmas.{Turns, repair_by_turns}
use Rattle.cedr_base.specs.declared.interval.Interval.{Interval}
use Rattle.cedr_table.specs.Operators.{Tables, table_at, mark_at, with_table, CanTake, Gains}
use Rattle.cedr_table.specs.PortLaws.{table_at-with}
use Rattle.cedr_table.specs.RowWise.{IsLife, lives, row_during, made, replaced, emptied, Shortens, MayBecome, answer_to}

-- what a change of the result from one interval to another needs
record MayTurn (t : ℕ) (old new : Interval) (was is : Bool) : Type 0 where
  old_life : was ≡ true → IsLife old.begin old.end
  new_life : is ≡ true → IsLife new.begin new.end
  kept : was ≡ true → is ≡ true → old.begin ≡ new.begin → (new.end ≤ old.end) × (new.end < old.end → t ≤ new.end)
  goes : was ≡ true → (is ≡ true → old.begin ≢ new.begin) → t ≤ old.begin
  comes : is ≡ true → (was ≡ true → old.begin ≢ new.begin) → t ≤ new.begin

module _ (t : ℕ) (p : List Field) (old new : Interval) where
  abbrev old_row : Row
  old_row = row_during old p

  abbrev new_row : Row
  new_row = row_during new p

  is_row : (life : Interval) → IsLife life.begin life.end → IsRow (row_during life p)
  is_row life h = record { lives = h.lives; begins = h.begins; ends = h.ends }

  -- the row that a cut leaves of the old one
  cut_is_new : old.begin ≡ new.begin → new.begin < new.end → remnant old_row new.end ≡ new_row ∷ []
  cut_is_new same h = remnant_some old_row new.end (omega arith) ∙ (λ i. record { end = new.end; begin = same i; payload = p } ∷ [])

  gone : remnant old_row old.begin ≡ []
  gone = remnant_none old_row old.begin (omega arith)

  one_cut : (e : ℕ) (left : List Row) → remnant old_row e ≡ left → IsLife old.begin old.end → old.begin ≤ e → e < old.end → t ≤ e → ((r : Row) → (count_of r (old_row ∷ []) ≡ 0) ⊎ (count_of r left ≡ 0))
      → Turns t (old_row ∷ []) left (Cut old_row e ∷ [])
  one_cut e left is life above below from apart = record {
    changes = ((is_row old life, above, below), tt);
    from = (from, tt);
    sums = λ r. omega (arith, count_of-append r (old_row ∷ []) [], count_of-append r (remnant old_row e) [], ap (count_of r) is);
    there = λ r. omega (arith, count_of-append r (old_row ∷ []) []);
    apart = λ r. elim (apart r) [ inl h ↦ inl (omega (arith, h, count_of-append r (old_row ∷ []) [])) | inr h ↦ inr (omega (arith, h, count_of-append r (remnant old_row e) [], ap (count_of r) is)) ];
  }

  differ : old.begin ≢ new.begin → (r : Row) → (count_of r (old_row ∷ []) ≡ 0) ⊎ (count_of r (new_row ∷ []) ≡ 0)
  differ other r = elim (one_of_two r old_row new_row _ refl (λ same. other (ap (λ (x : Row). x.begin) same))) [ inl h ↦ inl (omega (arith, h)) | inr h ↦ inr (omega (arith, h)) ]

  shorter : new.end < old.end → (r : Row) → (count_of r (old_row ∷ []) ≡ 0) ⊎ (count_of r (new_row ∷ []) ≡ 0)
  shorter below r = elim (one_of_two r old_row new_row _ refl (λ same. let e = ap (λ (x : Row). x.end) same in absurd (omega arith))) [ inl h ↦ inl (omega (arith, h)) | inr h ↦ inr (omega (arith, h)) ]

  cut_and_add : IsLife old.begin old.end → IsLife new.begin new.end → old.begin ≢ new.begin → t ≤ old.begin → t ≤ new.begin → Turns t (old_row ∷ []) (new_row ∷ []) (Cut old_row old.begin ∷ Add new_row ∷ [])
  cut_and_add lo ln other old_from new_from = record {
    changes = ((is_row old lo, omega arith, lo.lives), (is_row new ln, tt));
    from = (old_from, (new_from, tt));
    sums = λ r. omega (arith, count_of-append r (old_row ∷ []) [], count_of-append r (remnant old_row old.begin) (new_row ∷ []), ap (count_of r) gone);
    there = λ r. omega (arith, count_of-append r (old_row ∷ []) []);
    apart = λ r. elim (differ other r) [ inl h ↦ inl (omega (arith, h, count_of-append r (old_row ∷ []) [])) | inr h ↦ inr (omega (arith, h, count_of-append r (remnant old_row old.begin) (new_row ∷ []), ap (count_of r) gone)) ];
  }

  one_add : IsLife new.begin new.end → t ≤ new.begin → Turns t [] (new_row ∷ []) (Add new_row ∷ [])
  one_add ln from = record {
    changes = (is_row new ln, tt);
    from = (from, tt);
    sums = λ r. omega (arith, count_of-append r (new_row ∷ []) []);
    there = λ r. omega arith;
    apart = λ r. inl refl;
  }

  nothing_turns : (rows : List Row) → Turns t rows rows []
  nothing_turns rows = record { changes = tt; from = tt; sums = λ r. refl; there = λ r. omega arith; apart = λ r. inl refl }

  turns_at : (was is same less : Bool) → lives old ≡ was → lives new ≡ is → nat_eq old.begin new.begin ≡ same → nat_lt new.end old.end ≡ less → MayTurn t old new was is
      → Turns t (cond was (old_row ∷ []) []) (cond is (new_row ∷ []) []) (cond (was && (is && same)) (cond less (Cut old_row new.end ∷ []) []) (cond was (Cut old_row old.begin ∷ []) [] ++ cond is (Add new_row ∷ []) []))
  turns_at true true true true w i s l may =
      let begins = eqb-true old.begin new.begin s in
      let below = ltb-true new.end old.end l in
      let ln = may.new_life refl in
      one_cut new.end (new_row ∷ []) (cut_is_new begins ln.lives) (may.old_life refl) (let x = ln.lives in omega arith) below ((may.kept refl refl begins).1 below) (shorter below)
  turns_at true true true false w i s l may =
      let begins = eqb-true old.begin new.begin s in
      let above = ltb-false new.end old.end l in
      let within = (may.kept refl refl begins).0 in
      let ends : old.end ≡ new.end = omega arith in
      subst (λ (rows : List Row). Turns t (old_row ∷ []) rows []) (λ i. record { end = ends i; begin = begins i; payload = p } ∷ []) (nothing_turns (old_row ∷ []))
  turns_at true true false less w i s l may =
      let other = eqb-false old.begin new.begin s in
      cut_and_add (may.old_life refl) (may.new_life refl) other (may.goes refl (λ _. other)) (may.comes refl (λ _. other))
  turns_at true false same less w i s l may =
      let lo = may.old_life refl in
      one_cut old.begin [] gone lo (omega arith) lo.lives (may.goes refl (λ x. cc)) (λ r. inr refl)
  turns_at false true same less w i s l may = one_add (may.new_life refl) (may.comes refl (λ x. cc))
  turns_at false false same less w i s l may = nothing_turns []

-- the changes that put one row of the result in another's place take the one and put the other
replaced_turns : (t : ℕ) (payload : Option (List Field)) (old new : Interval) → MayTurn t old new (lives old) (lives new) → Turns t (made old payload) (made new payload) (replaced payload old new)
replaced_turns t None old new may = record { changes = tt; from = tt; sums = λ r. refl; there = λ r. omega arith; apart = λ r. inl refl }
replaced_turns t (Some p) old new may = turns_at t p old new (lives old) (lives new) (nat_eq old.begin new.begin) (nat_lt new.end old.end) refl refl refl refl may

-- a row comes
adds : (t : ℕ) (life : Interval) → (lives life ≡ true → IsLife life.begin life.end) → t ≤ life.begin → MayTurn t (emptied life) life (lives (emptied life)) (lives life)
adds t life proper from =
    let none : (lives (emptied life) ≡ true) → ⊥ = λ h. let x = ltb-true life.begin life.begin h in absurd (omega arith) in
    record {
      old_life = λ h. absurd (none h);
      new_life = proper;
      kept = λ h k s. absurd (none h);
      goes = λ h k. absurd (none h);
      comes = λ h k. from;
    }

-- a row goes
goes_away : (t : ℕ) (life : Interval) → (lives life ≡ true → IsLife life.begin life.end) → t ≤ life.begin → MayTurn t life (emptied life) (lives life) (lives (emptied life))
goes_away t life proper from =
    let none : (lives (emptied life) ≡ true) → ⊥ = λ h. let x = ltb-true life.begin life.begin h in absurd (omega arith) in
    record {
      old_life = proper;
      new_life = λ h. absurd (none h);
      kept = λ h k s. absurd (none k);
      goes = λ h k. from;
      comes = λ h k. absurd (none h);
    }

goes_from : (t : ℕ) (old new : Interval) → Shortens t old new → lives old ≡ true → (lives new ≡ true → old.begin ≢ new.begin) → (b : Bool) → lives new ≡ b → t ≤ old.begin
goes_from t old new short was other true h = absurd (other h (sym short.same_begin))
goes_from t old new short was other false h =
    let lived = ltb-true old.begin old.end was in
    let dead = ltb-false new.begin new.end h in
    let begins = short.same_begin in
    let from = short.from (omega arith) in
    omega arith

-- a row that is shortened and isn't empty was not empty
comes_from : (t : ℕ) (old new : Interval) → Shortens t old new → lives new ≡ true → (b : Bool) → lives old ≡ b → (lives old ≡ true → old.begin ≢ new.begin) → t ≤ new.begin
comes_from t old new short is true h other = absurd (other h (sym short.same_begin))
comes_from t old new short is false h other =
    let lived = ltb-true new.begin new.end is in
    let dead = ltb-false old.begin old.end h in
    let begins = short.same_begin in
    let within = short.within in
    absurd (omega arith)

-- a row is cut
cuts : (t : ℕ) (old new : Interval) → (lives old ≡ true → IsLife old.begin old.end) → (lives new ≡ true → IsLife new.begin new.end) → MayBecome t old new → MayTurn t old new (lives old) (lives new)
cuts t old new old_proper new_proper (inl short) = record {
  old_life = old_proper;
  new_life = new_proper;
  kept = λ h k s. (short.within, short.from);
  goes = λ h k. goes_from t old new short h k (lives new) refl;
  comes = λ h k. comes_from t old new short h (lives old) refl k;
}
cuts t old new old_proper new_proper (inr moves) = record {
  old_life = old_proper;
  new_life = new_proper;
  kept = λ h k s. absurd (moves.other_begin (sym s));
  goes = λ h k. moves.old_from;
  comes = λ h k. moves.new_from;
}

-- of an empty interval no row is made
made_none : (life : Interval) (payload : Option (List Field)) → made (emptied life) payload ≡ []
made_none life None = refl
made_none life (Some p) = ap {B = List Row} (λ b. cond b (row_during (emptied life) p ∷ []) []) (le-ltb life.begin life.begin (omega arith))

row_is_life : (r : Row) → IsRow r → IsLife r.begin r.end
row_is_life r h = record { lives = h.lives; begins = h.begins; ends = h.ends }

turns_to : (t : ℕ) (olds olds' news news' : List Row) (cs : List Change) → olds' ≡ olds → news' ≡ news → Turns t olds news cs → Turns t olds' news' cs
turns_to t olds olds' news news' cs o n turns = subst (λ (rows : List Row). Turns t rows news' cs) (sym o) (subst (λ (rows : List Row). Turns t olds rows cs) (sym n) turns)

module _ (image : Row → List Row) (life : ℕ → ℕ → Interval) (payload : List Field → Option (List Field)) (t g : ℕ)
    (one_row : (r : Row) → IsRow r → image r ≡ made (life r.begin r.end) (payload r.payload))
    (is_life : (begin end : ℕ) → IsLife begin end → (life begin end).begin < (life begin end).end → IsLife (life begin end).begin (life begin end).end)
    (begins_from : (begin end : ℕ) → IsLife begin end → t ≤ begin → g ≤ (life begin end).begin)
    (becomes : (begin end earlier : ℕ) → IsLife begin end → begin < earlier → earlier < end → t ≤ earlier → MayBecome g (life begin end) (life begin earlier)) where
  proper : (begin end : ℕ) → IsLife begin end → lives (life begin end) ≡ true → IsLife (life begin end).begin (life begin end).end
  proper begin end h k = is_life begin end h (ltb-true (life begin end).begin (life begin end).end k)

  image_of_one : (r : Row) → IsRow r → flat_map image (r ∷ []) ≡ made (life r.begin r.end) (payload r.payload)
  image_of_one r h = append-nil (image r) ∙ one_row r h

  cut_turns : (a : Row) (e : ℕ) → IsRow a → a.begin ≤ e → e < a.end → t ≤ e → (b : Bool) → nat_lt a.begin e ≡ b
      → Turns g (flat_map image (a ∷ [])) (flat_map image (cond b (record a { end = e } ∷ []) [])) (replaced (payload a.payload) (life a.begin a.end) (cond b (life a.begin e) (emptied (life a.begin a.end))))
  cut_turns a e row above below from true h =
      let lives_on = ltb-true a.begin e h in
      let long = row_is_life a row in
      let ends = long.ends in
      let short : IsLife a.begin e = record { lives = lives_on; begins = long.begins; ends = omega arith } in
      turns_to g (made (life a.begin a.end) (payload a.payload)) (flat_map image (a ∷ [])) (made (life a.begin e) (payload a.payload)) (flat_map image (record a { end = e } ∷ [])) (replaced (payload a.payload) (life a.begin a.end) (life a.begin e))
      (image_of_one a row) (image_of_one (record a { end = e }) (record { lives = short.lives; begins = short.begins; ends = short.ends }))
      (replaced_turns g (payload a.payload) (life a.begin a.end) (life a.begin e) (cuts g (life a.begin a.end) (life a.begin e) (proper a.begin a.end long) (proper a.begin e short) (becomes a.begin a.end e long lives_on below from)))
  cut_turns a e row above below from false h =
      let long = row_is_life a row in
      let dead = ltb-false a.begin e h in
      turns_to g (made (life a.begin a.end) (payload a.payload)) (flat_map image (a ∷ [])) (made (emptied (life a.begin a.end)) (payload a.payload)) [] (replaced (payload a.payload) (life a.begin a.end) (emptied (life a.begin a.end)))
      (image_of_one a row) (sym (made_none (life a.begin a.end) (payload a.payload)))
      (replaced_turns g (payload a.payload) (life a.begin a.end) (emptied (life a.begin a.end)) (goes_away g (life a.begin a.end) (proper a.begin a.end long) (begins_from a.begin a.end long (omega arith))))

  change_turns : (c : Change) → IsChange c → t ≤ sync_of c → Turns g (flat_map image (takes c)) (flat_map image (puts c)) (answer_to life payload c)
  change_turns (Add a) row from =
      let long = row_is_life a row in
      turns_to g (made (emptied (life a.begin a.end)) (payload a.payload)) [] (made (life a.begin a.end) (payload a.payload)) (flat_map image (a ∷ [])) (replaced (payload a.payload) (emptied (life a.begin a.end)) (life a.begin a.end))
      (sym (made_none (life a.begin a.end) (payload a.payload))) (image_of_one a row)
      (replaced_turns g (payload a.payload) (emptied (life a.begin a.end)) (life a.begin a.end) (adds g (life a.begin a.end) (proper a.begin a.end long) (begins_from a.begin a.end long from)))
  change_turns (Cut a e) is from = cut_turns a e is.0 is.1 is.2 from (nat_lt a.begin e) refl

  -- the answer to a change repairs the result
  pub row_wise_repairs : (old new : List Row) (c : Change) → MayFollow old [] c → t ≤ sync_of c → IsMoved c old new → Repair (flat_map image old) (flat_map image new) g (answer_to life payload c)
  row_wise_repairs old new c may from moved =
      let share : Row → Row → ℕ = λ r x. count_of r (image x) in
      let all : (r : Row) (rows : List Row) → count_of r (flat_map image rows) ≡ sum_by (share r) rows = λ r rows. sum_by-flat_map (one_if_same r) image rows in
      repair_by_turns (flat_map image old) (flat_map image new) (flat_map image (takes c)) (flat_map image (puts c)) g (answer_to life payload c) (change_turns c (may_is old [] c may) from)
      (λ r. omega (arith, all r old, all r new, all r (takes c), all r (puts c), sum_by-moved (share r) c old new moved.sums))
      (λ r. omega (arith, all r old, all r (takes c), sum_by-there (share r) c old may))

  -- the same, on the only port
  pub row_wise_gains : (tables : Tables) (marks : List ℕ) (port : ℕ) (c : Change) (after : List Row) (outs outs' : List Change) → length tables ≡ 1 → t ≡ mark_at marks 0 → CanTake tables marks port c → IsMoved c (table_at tables port) after
      → outs' ≡ outs ++ answer_to life payload c → Gains (flat_map image (table_at tables 0)) (flat_map image (table_at (with_table tables port after) 0)) g outs outs'
  row_wise_gains tables marks port c after outs outs' one mark can moved appended =
      let only : port ≡ 0 = let h = can.port_is in omega arith in
      let can0 = subst (λ (n : ℕ). CanTake tables marks n c) only can in
      let moved0 = subst (λ (n : ℕ). IsMoved c (table_at tables n) after) only moved in
      let from = can0.from in
      let new_table : table_at (with_table tables port after) 0 ≡ after = ap (λ n. table_at (with_table tables n after) 0) only ∙ table_at-with tables 0 after (omega arith) in
      record {
        changes = answer_to life payload c;
        appended = appended;
        repair = subst (λ (rows : List Row). Repair (flat_map image (table_at tables 0)) (flat_map image rows) g (answer_to life payload c)) (sym new_table)
            (row_wise_repairs (table_at tables 0) after c can0.legal (omega arith) moved0);
      }

may_alone : (c : Change) → IsChange c → MayFollow (takes c) [] c
may_alone (Add a) is = is
may_alone (Cut a e) is = (is, omega (arith, count_of-itself a []))

-- a change may come on an only port whose table is what it takes
pub alone_takes : (c : Change) → IsChange c → CanTake (takes c ∷ []) (0 ∷ []) 0 c
alone_takes c is = record { port_is = omega arith; legal = may_alone c is; from = omega arith }

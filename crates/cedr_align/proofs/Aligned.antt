-- An aligner goes on when a message comes.
use Rattle.std.proofs.Common.{◌≡◌, ℕ, ◌≤◌, List, [], ◌∷◌, ◌++◌, Bool, true, false, cond, refl, ap, sym, ◌∙◌, subst, arith, append_assoc, max}
use Rattle.std.specs.Prelude.{Option}
use Rattle.std.proofs.lemmas.List.{append-nil}
use Rattle.cedr_base.specs.declared.row.Row.{Row}
use Rattle.cedr_base.specs.declared.change.Change.{Change}
use Rattle.cedr_base.specs.declared.change.Message.{Message}
use Rattle.cedr_base.specs.declared.change.Message.TheVariants as message
use Rattle.cedr_base.specs.Rows.{count_of, SameRows}
use Rattle.cedr_base.specs.Changes.{sync_of, all_puts, all_takes}
use Rattle.cedr_base.specs.Messages.{mark_of, IsOpen, MayCome, IsLegal}
use Rattle.cedr_base.proofs.Bags.{count_of-append}
use Rattle.change_laws.proofs.Legal.{legal-push, mark-append}
use Rattle.cedr_base.specs.declared.level.Level.{Level}
use Rattle.node_laws.specs.declared.forgotten.Cause.{Cause}
use Rattle.node_laws.specs.Kept.{high_of, cause_of, kept, forgotten_alone, forgotten_of}
use Rattle.node_laws.specs.Pass.{has_end, is_held, holds, held, passed_table, front, front_at, itself, gained, additions, closing, answer, passed_of}
use Rattle.change_laws.specs.Repairs.{wrapped}
use Rattle.node_laws.specs.Lists.{mark_above}
use Rattle.cedr_table.proofs.FilterLemmas.{count-filter, count-rest}
use Rattle.node_laws.proofs.Order.{one_order}
use Rattle.node_laws.proofs.Grows.{end-append, end-pushed, high-append}
use Rattle.node_laws.proofs.Holds.{open_is, front-same}
use Rattle.node_laws.proofs.Splits.{split}
use Rattle.node_laws.proofs.Steps.{other, candidates, rest, held_after, passed_after, gained_count}
use Rattle.node_laws.proofs.Strong.{gained_ascends}
use Rattle.node_laws.proofs.Passes.{passes, broken_held, broken_passed}
use Rattle.change_laws.proofs.BagSums.{same_itself, same_along}
use Rattle.cedr_align.specs.Remembered.{is_remembered, remembers, remembered}
use Rattle.cedr_align.specs.Released.{IsSettled, AreApplied, cause_at, own_of, other_of}
use Rattle.cedr_align.specs.declared.aligner.Aligner.{Aligner}
use Rattle.cedr_align.specs.declared.fate.Fate.{Fate}
use Rattle.cedr_align.specs.Aligner.{Aligns, IsTaken, forgotten_in}
use Rattle.cedr_align.proofs.RememberedLemmas.{remembers_before, count-remembered, all_remembered, none_applied, applied_there}
use Rattle.cedr_align.proofs.CauseLemmas.{cause_is, own_is, when_kept}

module _ (level : Level) (ms : List Message) (m : Message) (may : MayCome ms m) (legal : IsLegal ms)
    (held0 passed0 held1 passed1 held2 passed2 : List Row) (out0 out1 out2 : List Message) (ended : Bool) (mark high before : ℕ)
    (held_are : SameRows held0 (held level ms)) (passed_are : SameRows passed0 (remembered level ms))
    (mark_is : mark ≡ mark_of (ms ++ m ∷ [])) (high_is : high ≡ high_of (ms ++ m ∷ [])) (ended_is : ended ≡ has_end (ms ++ m ∷ [])) (before_is : before ≡ front level ms)
    (held_moved : SameRows (held1 ++ all_takes (other level ms m)) (held0 ++ all_puts (other level ms m)))
    (passed_moved : AreApplied level.memory (itself level ms m) passed0 passed1)
    (out_is : out1 ≡ out0 ++ wrapped (itself level ms m))
    (s : IsSettled (is_held level.block ended mark high) (is_remembered level.memory ended mark high) ended mark before held1 passed1 out1 held2 passed2 out2) where
  sound : (r : Row) → count_of r (all_takes (kept level.memory ms)) ≤ count_of r (all_puts (kept level.memory ms))
  sound = (passes level ms legal).sound

  test_is : (r : Row) → is_held level.block ended mark high r ≡ holds level (ms ++ m ∷ []) r
  test_is r = ap (λ (b : Bool). is_held level.block b mark high r) ended_is ∙ (ap (λ n. is_held level.block (has_end (ms ++ m ∷ [])) n high r) mark_is ∙ ap (λ n. is_held level.block (has_end (ms ++ m ∷ [])) (mark_of (ms ++ m ∷ [])) n r) high_is)

  held1_is : (r : Row) → count_of r held1 ≡ candidates level ms m may sound r
  unfolding candidates
  held1_is r = let k = split level ms m may in let a = held_are.each r in let b = held_moved.each r in
      omega (arith, k.from_held r, count_of-append r held1 (all_takes (other level ms m)), count_of-append r held0 (all_puts (other level ms m)))

  remembers_is : (r : Row) → is_remembered level.memory ended mark high r ≡ remembers level (ms ++ m ∷ []) r
  remembers_is r = ap (λ (b : Bool). is_remembered level.memory b mark high r) ended_is ∙ (ap (λ n. is_remembered level.memory (has_end (ms ++ m ∷ [])) n high r) mark_is ∙ ap (λ n. is_remembered level.memory (has_end (ms ++ m ∷ [])) (mark_of (ms ++ m ∷ [])) n r) high_is)

  -- what is still remembered are the passed rows after the message's own change
  passed1_is : (r : Row) → remembers level (ms ++ m ∷ []) r ≡ true → count_of r passed1 ≡ rest level ms m may sound r
  unfolding rest
  passed1_is r h =
      let k = split level ms m may in
      omega (arith, k.from_passed r, passed_are.each r, all_remembered level ms r (remembers_before level ms m may.0 r h), applied_there level.memory ended mark high (itself level ms m) passed0 passed1 r passed_moved (remembers_is r ∙ h))

  pub held_now : SameRows held2 (held level (ms ++ m ∷ []))
  held_now = record {
    each = λ r.
        s.held_are.each r
        ∙ (count-filter r (is_held level.block ended mark high) held1
        ∙ (ap (λ (b : Bool). cond b (count_of r held1) 0) (test_is r)
        ∙ (ap (λ n. cond (holds level (ms ++ m ∷ []) r) n 0) (held1_is r) ∙ sym (held_after level ms m may sound r))));
  }

  released_is : (r : Row) → count_of r s.released ≡ cond (holds level (ms ++ m ∷ []) r) 0 (candidates level ms m may sound r)
  released_is r =
      s.are.same.each r
      ∙ (count-rest r (is_held level.block ended mark high) held1
      ∙ (ap (λ (b : Bool). cond b 0 (count_of r held1)) (test_is r) ∙ ap (λ n. cond (holds level (ms ++ m ∷ []) r) 0 n) (held1_is r)))

  remembered_at : (r : Row) (b : Bool) → remembers level (ms ++ m ∷ []) r ≡ b → cond b (count_of r (passed1 ++ s.released)) 0 ≡ cond b (count_of r (passed_table level (ms ++ m ∷ []))) 0
  remembered_at r true h = omega (arith, count_of-append r passed1 s.released, released_is r, passed1_is r h, passed_after level ms m may sound r)
  remembered_at r false h = refl

  pub passed_now : SameRows passed2 (remembered level (ms ++ m ∷ []))
  passed_now = record {
    each = λ r.
        s.passed_are.each r
        ∙ (count-filter r (is_remembered level.memory ended mark high) (passed1 ++ s.released)
        ∙ (ap (λ (b : Bool). cond b (count_of r (passed1 ++ s.released)) 0) (remembers_is r)
        ∙ (remembered_at r (remembers level (ms ++ m ∷ []) r) refl ∙ sym (count-remembered level (ms ++ m ∷ []) r))));
  }

  gained_is : gained level ms m ≡ s.released
  gained_is = one_order (gained level ms m) s.released (gained_ascends level ms m) s.are.ascend (record { each = λ r. gained_count level ms m may sound r ∙ sym (released_is r) })

  front_now : front_at ended mark held2 ≡ front level (ms ++ m ∷ [])
  front_now = ap (λ (b : Bool). front_at b mark held2) ended_is ∙ (ap (λ n. front_at (has_end (ms ++ m ∷ [])) n held2) mark_is ∙ front-same (has_end (ms ++ m ∷ [])) (mark_of (ms ++ m ∷ [])) held2 _ held_now)

  pub out_now : out2 ≡ out0 ++ (wrapped (itself level ms m) ++ (additions (gained level ms m) ++ mark_above (front level ms) (front level (ms ++ m ∷ []))))
  out_now =
      s.out_is
      ∙ (ap (λ (xs : List Message). xs ++ (additions s.released ++ mark_above before (front_at ended mark held2))) out_is
      ∙ (append_assoc out0 (wrapped (itself level ms m)) _
      ∙ ap (λ (xs : List Message). out0 ++ (wrapped (itself level ms m) ++ xs))
      (ap (λ (rows : List Row). additions rows ++ mark_above before (front_at ended mark held2)) (sym gained_is)
      ∙ (ap (λ n. additions (gained level ms m) ++ mark_above n (front_at ended mark held2)) before_is ∙ ap (λ n. additions (gained level ms m) ++ mark_above (front level ms) n) front_now))))

  -- with what closes the message's piece
  pub answered : (out3 : List Message) → out3 ≡ out2 ++ closing m → out3 ≡ out0 ++ answer level ms m
  answered out3 e =
      let w = wrapped (itself level ms m) in
      let a = additions (gained level ms m) in
      let k = mark_above (front level ms) (front level (ms ++ m ∷ [])) in
      e ∙ (ap (λ (xs : List Message). xs ++ closing m) out_now
      ∙ (append_assoc out0 (w ++ (a ++ k)) (closing m) ∙ ap (λ (xs : List Message). out0 ++ xs) (append_assoc w (a ++ k) (closing m) ∙ ap (λ (xs : List Message). w ++ xs) (append_assoc a k (closing m)))))

  pub aligned : (a a' : Aligner) (fate : Fate) (out3 : List Message) → a.level ≡ level → a'.level ≡ level → a'.mark ≡ mark → a'.high ≡ high → a'.ended ≡ ended → a'.held ≡ held2 → a'.passed ≡ passed2
      → passed_of level ms m ≡ answer level ms m → out3 ≡ out2 ++ closing m → forgotten_in fate ≡ forgotten_of level.memory ms m → IsTaken a a' ms m out0 out3 fate
  aligned a a' fate out3 level_is level_now mark_now high_now ended_now held_now_is passed_now_is is closes fates = record {
    aligns = record {
      legal = legal-push ms m legal may;
      mark_is = mark_now ∙ mark_is;
      high_is = high_now ∙ high_is;
      ended_is = ended_now ∙ ended_is;
      held_are = subst (λ (v : Level). SameRows a'.held (held v (ms ++ m ∷ []))) (sym level_now) (subst (λ (rows : List Row). SameRows rows (held level (ms ++ m ∷ []))) (sym held_now_is) held_now);
      passed_are = subst (λ (v : Level). SameRows a'.passed (remembered v (ms ++ m ∷ []))) (sym level_now) (subst (λ (rows : List Row). SameRows rows (remembered level (ms ++ m ∷ []))) (sym passed_now_is) passed_now);
    };
    passed_on = subst (λ (v : Level). out3 ≡ out0 ++ passed_of v ms m) (sym level_is) (answered out3 closes ∙ ap (λ (xs : List Message). out0 ++ xs) (sym is));
    fate_is = subst (λ (v : Level). forgotten_in fate ≡ forgotten_of v.memory ms m) (sym level_is) fates;
    same_level = level_now ∙ sym level_is;
  }

-- the guarantee at an aligner's times and rows is the front
pub front_is : (a : Aligner) (ms : List Message) → Aligns a ms → front_at a.ended a.mark a.held ≡ front a.level ms
front_is a ms al =
    ap (λ (b : Bool). front_at b a.mark a.held) al.ended_is ∙ (ap (λ n. front_at (has_end ms) n a.held) al.mark_is ∙ front-same (has_end ms) (mark_of ms) a.held (held a.level ms) al.held_are)

-- what a change does, as the code has it
pub changed : (a a' : Aligner) (ms : List Message) (c : Change) (cz : Option Cause) (fate : Fate) (before high : ℕ) (held1 passed1 : List Row) (out0 out1 out2 : List Message)
    → Aligns a ms → MayCome ms (message.Change c) → before ≡ front_at a.ended a.mark a.held → cz ≡ cause_at a.level.memory a.high a.held a.passed c
    → SameRows (held1 ++ all_takes (when_kept cz (other_of a.held c))) (a.held ++ all_puts (when_kept cz (other_of a.held c)))
    → AreApplied a.level.memory (when_kept cz (own_of a.held c)) a.passed passed1
    → out1 ≡ out0 ++ wrapped (when_kept cz (own_of a.held c))
    → IsSettled (is_held a.level.block a.ended a.mark high) (is_remembered a.level.memory a.ended a.mark high) a.ended a.mark before held1 passed1 out1 a'.held a'.passed out2
    → a'.level ≡ a.level → a'.mark ≡ a.mark → a'.ended ≡ a.ended → a'.high ≡ high → high ≡ max a.high (sync_of c) → forgotten_in fate ≡ forgotten_alone cz a.high c
    → IsTaken a a' ms (message.Change c) out0 out2 fate
changed a a' ms c cz fate before high held1 passed1 out0 out1 out2 al may before_is cause_found held_moved passed_moved out_is settled level_now mark_now ended_now high_now high_is fates =
    let m = message.Change c in
    let cause_e : cz ≡ cause_of a.level.memory (high_of ms) (kept a.level.memory ms) c = cause_found ∙ cause_is a.level ms a.high a.held a.passed c al.high_is al.legal may al.held_are al.passed_are in
    let own_e = own_is a.level ms a.held c cz cause_e al.held_are in
    let mark_e : a.mark ≡ mark_of (ms ++ message.Change c ∷ []) = let e = al.mark_is in omega (arith, mark-append ms (message.Change c ∷ [])) in
    let high_e : high ≡ high_of (ms ++ message.Change c ∷ []) = let e = al.high_is in omega (arith, high-append ms (message.Change c ∷ [])) in
    let ended_e : a.ended ≡ has_end (ms ++ message.Change c ∷ []) = al.ended_is ∙ (open_is ms may.0 ∙ sym (end-append ms (message.Change c ∷ []) (open_is ms may.0))) in
    aligned a.level ms (message.Change c) may al.legal a.held a.passed held1 passed1 a'.held a'.passed out0 out1 out2 a.ended a.mark high before
    al.held_are al.passed_are mark_e high_e ended_e (before_is ∙ front_is a ms al)
    (subst (λ (cs : List Change). SameRows (held1 ++ all_takes cs) (a.held ++ all_puts cs)) own_e.1 held_moved)
    (subst (λ (cs : List Change). AreApplied a.level.memory cs a.passed passed1) own_e.0 passed_moved)
    (out_is ∙ ap (λ (cs : List Change). out0 ++ wrapped cs) own_e.0)
    settled
    a a' fate out2 refl level_now mark_now high_now ended_now refl refl refl (sym (append-nil out2))
    (fates ∙ (ap (λ n. forgotten_alone cz n c) al.high_is ∙ ap (λ (z : Option Cause). forgotten_alone z (high_of ms) c) cause_e))

-- what a mark or the end does
pub other_came : (a a' : Aligner) (ms : List Message) (m : Message) (fate : Fate) (before mark high : ℕ) (ended : Bool) (out0 out2 out3 : List Message)
    → Aligns a ms → MayCome ms m → before ≡ front_at a.ended a.mark a.held
    → itself a.level ms m ≡ [] → other a.level ms m ≡ []
    → IsSettled (is_held a.level.block ended mark high) (is_remembered a.level.memory ended mark high) ended mark before a.held a.passed out0 a'.held a'.passed out2
    → a'.level ≡ a.level → a'.mark ≡ mark → a'.high ≡ high → a'.ended ≡ ended → mark ≡ mark_of (ms ++ m ∷ []) → high ≡ high_of (ms ++ m ∷ []) → ended ≡ has_end (ms ++ m ∷ [])
    → passed_of a.level ms m ≡ answer a.level ms m → out3 ≡ out2 ++ closing m → forgotten_in fate ≡ forgotten_of a.level.memory ms m
    → IsTaken a a' ms m out0 out3 fate
other_came a a' ms m fate before mark high ended out0 out2 out3 al may before_is no_own no_other settled level_now mark_now high_now ended_now mark_is high_is ended_is is closes fates =
    aligned a.level ms m may al.legal a.held a.passed a.held a.passed a'.held a'.passed out0 out0 out2 ended mark high before
    al.held_are al.passed_are mark_is high_is ended_is (before_is ∙ front_is a ms al)
    (subst (λ (cs : List Change). SameRows (a.held ++ all_takes cs) (a.held ++ all_puts cs)) (sym no_other) (same_itself (a.held ++ [])))
    (subst (λ (cs : List Change). AreApplied a.level.memory cs a.passed a.passed) (sym no_own) (none_applied a.level.memory a.passed))
    (sym (append-nil out0) ∙ ap (λ (cs : List Change). out0 ++ wrapped cs) (sym no_own))
    settled
    a a' fate out3 refl level_now mark_now high_now ended_now refl refl is closes fates

-- a break
broken_remembers : (a : Aligner) (ms : List Message) → IsOpen ms → (r : Row) → remembers a.level (ms ++ message.Broken ∷ []) r ≡ remembers a.level ms r
broken_remembers a ms opened r =
    ap (λ (b : Bool). is_remembered a.level.memory b (mark_of (ms ++ message.Broken ∷ [])) (high_of (ms ++ message.Broken ∷ [])) r) (end-append ms (message.Broken ∷ []) (open_is ms opened) ∙ sym (open_is ms opened))
    ∙ (ap (λ n. is_remembered a.level.memory (has_end ms) n (high_of (ms ++ message.Broken ∷ [])) r) (let e : mark_of (ms ++ message.Broken ∷ []) ≡ mark_of ms = omega (arith, mark-append ms (message.Broken ∷ [])) in e) ∙ ap (λ n. is_remembered a.level.memory (has_end ms) (mark_of ms) n r) (let e : high_of (ms ++ message.Broken ∷ []) ≡ high_of ms = omega (arith, high-append ms (message.Broken ∷ [])) in e))

broken_remembered : (a : Aligner) (ms : List Message) → IsOpen ms → SameRows (remembered a.level ms) (remembered a.level (ms ++ message.Broken ∷ []))
broken_remembered a ms opened = let f = broken_passed a.level ms opened in record {
  each = λ r.
      count-remembered a.level ms r
      ∙ (ap (λ n. cond (remembers a.level ms r) n 0) (sym (f.each r))
      ∙ (ap (λ (b : Bool). cond b (count_of r (passed_table a.level (ms ++ message.Broken ∷ []))) 0) (sym (broken_remembers a ms opened r)) ∙ sym (count-remembered a.level (ms ++ message.Broken ∷ []) r)));
}

-- a break is passed on alone, and leaves the aligner as it is
pub broke : (a : Aligner) (ms : List Message) (out0 out3 : List Message) (fate : Fate) → Aligns a ms → MayCome ms message.Broken → out3 ≡ out0 ++ message.Broken ∷ [] → forgotten_in fate ≡ [] → IsTaken a a ms message.Broken out0 out3 fate
broke a ms out0 out3 fate al may out_is fates = record {
  aligns = record {
    legal = legal-push ms message.Broken al.legal may;
    mark_is = let e = al.mark_is in omega (arith, mark-append ms (message.Broken ∷ []));
    high_is = let e = al.high_is in omega (arith, high-append ms (message.Broken ∷ []));
    ended_is = al.ended_is ∙ (open_is ms may.0 ∙ sym (end-append ms (message.Broken ∷ []) (open_is ms may.0)));
    held_are = record { each = λ r. let e = al.held_are in let f = broken_held a.level ms may.0 in e.each r ∙ sym (f.each r) };
    passed_are = same_along _ _ _ al.passed_are (broken_remembered a ms may.0);
  };
  passed_on = out_is;
  fate_is = fates;
  same_level = refl;
}

-- what a mark does, as the code has it
pub mark_came : (a a' : Aligner) (ms : List Message) (m : Message) (t high : ℕ) (fate : Fate) (before : ℕ) (out0 out2 : List Message)
    → Aligns a ms → MayCome ms m → m ≡ message.Mark t → before ≡ front_at a.ended a.mark a.held
    → IsSettled (is_held a.level.block a.ended t high) (is_remembered a.level.memory a.ended t high) a.ended t before a.held a.passed out0 a'.held a'.passed out2
    → a'.level ≡ a.level → a'.mark ≡ t → a'.high ≡ high → a'.ended ≡ a.ended → high ≡ max a.high t → forgotten_in fate ≡ [] → IsTaken a a' ms m out0 out2 fate
mark_came a a' ms m t high fate before out0 out2 al may0 is before_is settled level_now mark_now high_now ended_now high_is fates =
    let may : MayCome ms (message.Mark t) = subst (λ (x : Message). MayCome ms x) is may0 in
    let above = may.1.0 in
    let ma = al.mark_is in
    let ha = al.high_is in
    subst (λ (x : Message). IsTaken a a' ms x out0 out2 fate) (sym is)
    (other_came a a' ms (message.Mark t) fate before t high a.ended out0 out2 out2 al may before_is refl refl settled level_now mark_now high_now ended_now
    (omega (arith, mark-append ms (message.Mark t ∷ []))) (omega (arith, high-append ms (message.Mark t ∷ [])))
    (al.ended_is ∙ (open_is ms may.0 ∙ sym (end-append ms (message.Mark t ∷ []) (open_is ms may.0)))) refl (sym (append-nil out2)) fates)

-- what the end does, as the code has it
pub end_came : (a a' : Aligner) (ms : List Message) (m : Message) (fate : Fate) (before : ℕ) (out0 out2 out3 : List Message)
    → Aligns a ms → MayCome ms m → m ≡ message.End → before ≡ front_at a.ended a.mark a.held
    → IsSettled (is_held a.level.block true a.mark a.high) (is_remembered a.level.memory true a.mark a.high) true a.mark before a.held a.passed out0 a'.held a'.passed out2
    → a'.level ≡ a.level → a'.mark ≡ a.mark → a'.high ≡ a.high → a'.ended ≡ true → out3 ≡ out2 ++ message.End ∷ [] → forgotten_in fate ≡ [] → IsTaken a a' ms m out0 out3 fate
end_came a a' ms m fate before out0 out2 out3 al may0 is before_is settled level_now mark_now high_now ended_now closes fates =
    let may : MayCome ms message.End = subst (λ (x : Message). MayCome ms x) is may0 in
    let ma = al.mark_is in
    let ha = al.high_is in
    subst (λ (x : Message). IsTaken a a' ms x out0 out3 fate) (sym is)
    (other_came a a' ms message.End fate before a.mark a.high true out0 out2 out3 al may before_is refl refl settled level_now mark_now high_now ended_now
    (omega (arith, mark-append ms (message.End ∷ []))) (omega (arith, high-append ms (message.End ∷ [])))
    (sym (end-pushed ms)) refl closes fates)

-- what a break does, as the code has it
pub broken_came : (a : Aligner) (ms : List Message) (m : Message) (fate : Fate) (out0 out3 : List Message) → Aligns a ms → MayCome ms m → m ≡ message.Broken → out3 ≡ out0 ++ message.Broken ∷ [] → forgotten_in fate ≡ [] → IsTaken a a ms m out0 out3 fate
broken_came a ms m fate out0 out3 al may is out_is fates =
    subst (λ (x : Message). IsTaken a a ms x out0 out3 fate) (sym is) (broke a ms out0 out3 fate al (subst (λ (x : Message). MayCome ms x) is may) out_is fates)

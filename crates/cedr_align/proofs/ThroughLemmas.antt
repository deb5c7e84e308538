-- A change goes through where no row waits.
use Rattle.std.proofs.Common.{◌≡◌, ℕ, ◌<◌, List, [], ◌∷◌, ◌++◌, Bool, true, false, cond, not, refl, ap, sym, ◌∙◌, subst, arith}
use Rattle.std.specs.Prelude.{Option, filter}
use Rattle.std.proofs.lemmas.Bool.{lt-ltb, le-ltb}
use Rattle.std.proofs.lemmas.List.{append-nil}
use Rattle.cedr_base.specs.declared.row.Row.{Row}
use Rattle.cedr_base.specs.declared.change.Change.{Change}
use Rattle.cedr_base.specs.declared.change.Change.TheVariants.{Add, Cut}
use Rattle.cedr_base.specs.declared.change.Message.{Message}
use Rattle.cedr_base.specs.declared.change.Message.TheVariants as message
use Rattle.cedr_base.specs.Rows.{count_of, SameRows}
use Rattle.cedr_base.proofs.Bags.{count_of-append}
use Rattle.cedr_table.proofs.FilterLemmas.{count-filter}
use Rattle.change_laws.proofs.BagSums.{same_itself}
use Rattle.node_laws.specs.Lists.{mark_above}
use Rattle.node_laws.specs.Pass.{front_at}
use Rattle.cedr_align.specs.Remembered.{is_remembered}
use Rattle.cedr_align.specs.Released.{AreApplied, GoesThrough, IsSettled, IsKeptAndSettled}
use Rattle.cedr_align.proofs.RememberedLemmas.{none_applied, applied_there}

-- no mark is above itself
none_above : (t : ℕ) → mark_above t t ≡ []
none_above t = ap (λ (b : Bool). cond b (message.Mark t ∷ []) []) (le-ltb t t (omega arith))

module _ (memory : Option ℕ) (ended : Bool) (mark high : ℕ) (stays : Row → Bool) (passed passed1 passed2 : List Row) (out out' : List Message) where
  abbrev pub remembers : Row → Bool
  remembers r = is_remembered memory ended mark high r

  added_at : (r x : Row) (b : Bool) → remembers x ≡ b → AreApplied memory (Add r ∷ []) passed passed1 → cond b (count_of x passed1) 0 ≡ cond b (count_of x (passed ++ r ∷ [])) 0
  added_at r x true h applied = omega (arith, applied_there memory ended mark high (Add r ∷ []) passed passed1 x applied h, count_of-append x passed (r ∷ []))
  added_at r x false h applied = refl

  -- it is as if the row had waited, and had then been the only one released
  added_through : (r : Row) → stays r ≡ false → AreApplied memory (Add r ∷ []) passed passed1 → SameRows passed2 (filter remembers passed1) → out' ≡ out ++ message.Change (Add r) ∷ []
      → IsKeptAndSettled memory stays remembers ended mark (Add r) [] passed out [] passed2 out'
  added_through r goes applied forgot out_is = record {
    held_between = r ∷ [];
    passed_between = passed;
    out_between = out;
    held_moved = same_itself (r ∷ []);
    passed_moved = none_applied memory passed;
    out_is = sym (append-nil out);
    settled = record {
      released = r ∷ [];
      are = record {
        ascend = (tt, tt);
        same = record { each = λ x. sym (ap (λ (b : Bool). count_of x (cond (not b) (r ∷ []) [])) goes) };
      };
      held_are = record { each = λ x. sym (ap (λ (b : Bool). count_of x (cond b (r ∷ []) [])) goes) };
      passed_are = record { each = λ x. forgot.each x ∙ (count-filter x remembers passed1 ∙ (added_at r x (remembers x) refl applied ∙ sym (count-filter x remembers (passed ++ r ∷ [])))) };
      out_is = out_is ∙ ap (λ (ms : List Message). out ++ message.Change (Add r) ∷ ms) (sym (none_above (front_at ended mark [])));
    };
  }

  -- a cut is passed on itself, and no row is released
  cut_through : (r : Row) (e : ℕ) → AreApplied memory (Cut r e ∷ []) passed passed1 → SameRows passed2 (filter remembers passed1) → out' ≡ out ++ message.Change (Cut r e) ∷ []
      → IsKeptAndSettled memory stays remembers ended mark (Cut r e) [] passed out [] passed2 out'
  cut_through r e applied forgot out_is = record {
    held_between = [];
    passed_between = passed1;
    out_between = out';
    held_moved = same_itself [];
    passed_moved = applied;
    out_is = out_is;
    settled = record {
      released = [];
      are = record { ascend = tt; same = same_itself [] };
      held_are = same_itself [];
      passed_are = subst (λ (rows : List Row). SameRows passed2 (filter remembers rows)) (sym (append-nil passed1)) forgot;
      out_is = sym (append-nil out') ∙ ap (λ (ms : List Message). out' ++ ms) (sym (none_above (front_at ended mark [])));
    };
  }

  -- what goes through is kept and settled
  pub gone_through : (c : Change) (held : List Row) → GoesThrough stays held c → AreApplied memory (c ∷ []) passed passed1 → SameRows passed2 (filter remembers passed1) → out' ≡ out ++ message.Change c ∷ []
      → IsKeptAndSettled memory stays remembers ended mark c held passed out held passed2 out'
  gone_through (Add r) held goes applied forgot out_is =
      subst (λ (rows : List Row). IsKeptAndSettled memory stays remembers ended mark (Add r) rows passed out rows passed2 out') (sym goes.0) (added_through r goes.1 applied forgot out_is)
  gone_through (Cut r e) held goes applied forgot out_is =
      subst (λ (rows : List Row). IsKeptAndSettled memory stays remembers ended mark (Cut r e) rows passed out rows passed2 out') (sym goes) (cut_through r e applied forgot out_is)

  -- where no row waits, a mark above the one before is all that is passed on
  pub mark_alone : (old : ℕ) (held : List Row) → held ≡ [] → ended ≡ false → old < mark → SameRows passed2 (filter remembers passed)
      → IsSettled stays remembers ended mark old held passed [] held passed2 (message.Mark mark ∷ [])
  mark_alone old held none going above forgot =
      subst (λ (rows : List Row). IsSettled stays remembers ended mark old rows passed [] rows passed2 (message.Mark mark ∷ [])) (sym none) (record {
        released = [];
        are = record { ascend = tt; same = same_itself [] };
        held_are = same_itself [];
        passed_are = subst (λ (rows : List Row). SameRows passed2 (filter remembers rows)) (sym (append-nil passed)) forgot;
        out_is =
            sym (ap (λ (b : Bool). mark_above old (front_at b mark [])) going
            ∙ ap (λ (b : Bool). cond b (message.Mark mark ∷ []) []) (lt-ltb old mark above));
      })

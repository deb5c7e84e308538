-- Under a block without limit additions alone are passed on, and they ascend over the whole run.
use Rattle.std.proofs.Common.{◌≡◌, ℕ, ◌<◌, inl, inr, List, [], ◌∷◌, ◌++◌, Bool, true, false, cond, refl, ap, sym, ◌∙◌, subst, arith}
use Rattle.std.specs.Prelude.{Option, None, nat_lt}
use Rattle.std.specs.List.{flat_map}
use Rattle.std.proofs.lemmas.Bool.{ltb-true, ltb-false, lt-ltb, cases_lt}
use Rattle.std.proofs.lemmas.List.{append-nil}
use Rattle.std.specs.declared.cmp.Ordering.TheVariants.{Less}
use Rattle.std.specs.Ordering.{is_gt, ordering_then, nat_cmp}
use Rattle.cedr_base.specs.Order.{payload_cmp}
use Rattle.cedr_base.specs.declared.row.Row.{Row}
use Rattle.cedr_base.specs.declared.change.Change.{Change}
use Rattle.cedr_base.specs.declared.change.Change.TheVariants.{Add, Cut}
use Rattle.cedr_base.specs.declared.change.Message.{Message}
use Rattle.cedr_base.specs.declared.change.Message.TheVariants as message
use Rattle.cedr_base.specs.Rows.{count_of}
use Rattle.cedr_base.specs.Changes.{all_puts, all_takes}
use Rattle.cedr_base.specs.Messages.{changes_of, mark_of, IsOpen, MayCome, IsLegal}
use Rattle.cedr_base.proofs.Bags.{count_of-append}
use Rattle.change_laws.proofs.Legal.{changes-append, changes-wrapped}
use Rattle.cedr_base.specs.declared.level.Level.{Level}
use Rattle.node_laws.specs.Surplus.{less, is_after, Ascend}
use Rattle.node_laws.specs.Kept.{high_of, kept, kept_of}
use Rattle.node_laws.specs.Lists.{mark_above}
use Rattle.node_laws.specs.Pass.{has_end, is_held, holds, passed_table, front, itself, gained, additions, closing, answer, passed_of, pass, cuts_passed, added, HasNoCut}
use Rattle.change_laws.specs.Repairs.{wrapped}
use Rattle.node_laws.proofs.Order.{ascend-append, ascend-in_order}
use Rattle.node_laws.proofs.Grows.{pass-push, pass-nil}
use Rattle.node_laws.proofs.Holds.{open_is, held_from, mark_up}
use Rattle.node_laws.proofs.Splits.{IsPart, IsKept, none, one, part_of}
use Rattle.node_laws.proofs.Steps.{Stands, candidates, gained_count, candidate_ends, cond_some}
use Rattle.node_laws.proofs.Passes.{adds, additions_wrapped, passes, not_open_broken}
use Rattle.node_laws.proofs.Induct.{by_legal}

added-append : (cs ds : List Change) → added (cs ++ ds) ≡ added cs ++ added ds
added-append [] ds = refl
added-append (Add r ∷ cs) ds = ap (λ rs. r ∷ rs) (added-append cs ds)
added-append (Cut r e ∷ cs) ds = added-append cs ds

no_cut-append : (cs ds : List Change) → HasNoCut cs → HasNoCut ds → HasNoCut (cs ++ ds)
no_cut-append [] ds h k = k
no_cut-append (Add r ∷ cs) ds h k = no_cut-append cs ds h k
no_cut-append (Cut r e ∷ cs) ds h k = absurd h

added_adds : (rows : List Row) → added (adds rows) ≡ rows
added_adds [] = refl
added_adds (r ∷ rows) = ap (λ rs. r ∷ rs) (added_adds rows)

no_cut_adds : (rows : List Row) → HasNoCut (adds rows)
no_cut_adds [] = tt
no_cut_adds (r ∷ rows) = no_cut_adds rows

after_at : (a b : Row) (t : Bool) → t ≡ true → is_gt (ordering_then (cond t Less (nat_cmp a.end b.end)) (ordering_then (nat_cmp a.begin b.begin) (payload_cmp a.payload b.payload))) ≡ false
after_at a b true h = refl
after_at a b false h = cc

-- a row that ends earlier comes earlier
pub ends_first : (a b : Row) → a.end < b.end → is_after a b ≡ false
ends_first a b h = let e = lt-ltb a.end b.end h in rw e refl

-- a mark, where there is one, is no change
pub changes_marks : (old t : ℕ) (b : Bool) → changes_of (cond b (message.Mark t ∷ []) []) ≡ []
changes_marks old t true = refl
changes_marks old t false = refl

-- what closes a list brings no change
pub changes_closing : (m : Message) → changes_of (closing m) ≡ []
changes_closing (message.Change c) = refl
changes_closing (message.Mark t) = refl
changes_closing message.End = refl
changes_closing message.Broken = refl

-- the changes of what one message passes on
pub changes_answer : (level : Level) (ms : List Message) (m : Message) → changes_of (answer level ms m) ≡ itself level ms m ++ adds (gained level ms m)
changes_answer level ms m =
    let own = itself level ms m in
    let rows = gained level ms m in
    let tail = mark_above (front level ms) (front level (ms ++ m ∷ [])) ++ closing m in
    changes-append (wrapped own) (additions rows ++ tail)
    ∙ (ap (λ (cs : List Change). cs ++ changes_of (additions rows ++ tail)) (changes-wrapped own)
    ∙ ap (λ (cs : List Change). own ++ cs) (changes-append (additions rows) tail
    ∙ (ap (λ (cs : List Change). cs ++ changes_of tail) (ap (λ (xs : List Message). changes_of xs) (additions_wrapped rows) ∙ changes-wrapped (adds rows))
    ∙ (ap (λ (cs : List Change). adds rows ++ cs) (changes-append (mark_above (front level ms) (front level (ms ++ m ∷ []))) (closing m) ∙ (ap (λ (cs : List Change). cs ++ changes_of (closing m)) (changes_marks (front level ms) (front level (ms ++ m ∷ [])) (nat_lt (front level ms) (front level (ms ++ m ∷ [])))) ∙ changes_closing m)) ∙ append-nil (adds rows)))))

-- the rows that the passed table gains besides ascend
pub gained_ascends : (level : Level) (ms : List Message) (m : Message) → Ascend (gained level ms m)
gained_ascends level ms m = ascend-in_order (less (passed_table level (ms ++ m ∷ [])) (less (passed_table level ms ++ all_puts (itself level ms m)) (all_takes (itself level ms m))))

-- what counts for something is kept
pub cond_false : (b : Bool) (n : ℕ) → 0 < cond b 0 n → b ≡ false
cond_false true n h = absurd (omega arith)
cond_false false n h = refl

module _ (level : Level) (strong : level.block ≡ None) where
  strong_cut : (ms : List Message) (c : Change) → IsOpen ms → IsKept level ms c → cuts_passed level ms c ≡ []
  strong_cut ms (Add r) opened k = refl
  strong_cut ms (Cut a e) opened k =
      let from = k.from in
      let ends = k.is.2 in
      let h : is_held None false (mark_of ms) (high_of ms) a ≡ true = held_from None (mark_of ms) (high_of ms) a (omega arith) refl in
      let holding : holds level ms a ≡ true = ap (λ (b : Option ℕ). is_held b (has_end ms) (mark_of ms) (high_of ms) a) strong ∙ (ap (λ (b : Bool). is_held None b (mark_of ms) (high_of ms) a) (open_is ms opened) ∙ h) in
      ap (λ (b : Bool). cond b [] (Cut a e ∷ [])) holding

  strong_part : (ms : List Message) (cs : List Change) → IsOpen ms → IsPart level ms cs → flat_map (cuts_passed level ms) cs ≡ []
  strong_part ms cs opened (none e) = ap (λ (ds : List Change). flat_map (cuts_passed level ms) ds) e
  strong_part ms cs opened (one c e k) = ap (λ (ds : List Change). flat_map (cuts_passed level ms) ds) e ∙ (append-nil (cuts_passed level ms c) ∙ strong_cut ms c opened k)

  strong_itself : (ms : List Message) (m : Message) → MayCome ms m → itself level ms m ≡ []
  strong_itself ms m may = strong_part ms (kept_of level.memory ms (kept level.memory ms) m) may.0 (part_of level ms m may)

  -- what is released ends below the mark, or all is over
  released_ends : (ms : List Message) (r : Row) (b : Bool) → nat_lt r.end (mark_of ms) ≡ b → IsOpen ms → holds level ms r ≡ false → r.end < mark_of ms
  released_ends ms r true h opened k = ltb-true r.end (mark_of ms) h
  released_ends ms r false h opened k =
      let l = ltb-false r.end (mark_of ms) h in
      let up : is_held None false (mark_of ms) (high_of ms) r ≡ true = held_from None (mark_of ms) (high_of ms) r l refl in
      let holding : holds level ms r ≡ true = ap (λ (b : Option ℕ). is_held b (has_end ms) (mark_of ms) (high_of ms) r) strong ∙ (ap (λ (b : Bool). is_held None b (mark_of ms) (high_of ms) r) (open_is ms opened) ∙ up) in
      cc

  pub record Goes (ms : List Message) : Type 0 where
    pub no_cut : HasNoCut (changes_of (pass level ms))
    pub ascend : Ascend (added (changes_of (pass level ms)))
    pub below : IsOpen ms → (r : Row) → 0 < count_of r (added (changes_of (pass level ms))) → r.end < mark_of ms

  goes_on : (ms : List Message) (m : Message) → MayCome ms m → Stands level ms → Goes ms → passed_of level ms m ≡ answer level ms m → Goes (ms ++ m ∷ [])
  goes_on ms m may s g is =
      let rows = gained level ms m in
      let was = changes_of (pass level ms) in
      let whole : changes_of (pass level (ms ++ m ∷ [])) ≡ changes_of (pass level ms) ++ adds (gained level ms m) =
      ap (λ (xs : List Message). changes_of xs) (pass-push level ms m ∙ ap (λ (xs : List Message). pass level ms ++ xs) is)
      ∙ (changes-append (pass level ms) (answer level ms m) ∙ ap (λ (cs : List Change). changes_of (pass level ms) ++ cs) (changes_answer level ms m ∙ ap (λ (cs : List Change). cs ++ adds (gained level ms m)) (strong_itself ms m may))) in
      let all : added (changes_of (pass level (ms ++ m ∷ []))) ≡ added (changes_of (pass level ms)) ++ gained level ms m =
      ap (λ (cs : List Change). added cs) whole ∙ (added-append was (adds rows) ∙ ap (λ (rs : List Row). added (changes_of (pass level ms)) ++ rs) (added_adds rows)) in
      let came : (r : Row) → 0 < count_of r (gained level ms m) → 0 < candidates level ms m may s.sound r = λ r there. cond_some (holds level (ms ++ m ∷ []) r) _ (let e = gained_count level ms m may s.sound r in omega arith) in
      record {
        no_cut = subst HasNoCut (sym whole) (no_cut-append was (adds rows) g.no_cut (no_cut_adds rows));
        ascend = subst Ascend (sym all) (ascend-append (added was) rows g.ascend (gained_ascends level ms m) (λ x y p q.
            let ends = g.below may.0 x p in
            let starts = candidate_ends level ms m may s.sound y (came y q) in
            ends_first x y (omega arith)));
        below = λ opened r there. elim (cases_lt 0 (count_of r (added was))) [
          | inl old ↦ (let e = g.below may.0 r old in omega (arith, mark_up level ms m may.0))
          | inr new ↦ released_ends (ms ++ m ∷ []) r (nat_lt r.end (mark_of (ms ++ m ∷ []))) refl opened
              (cond_false (holds level (ms ++ m ∷ []) r) (candidates level ms m may s.sound r) (let e = gained_count level ms m may s.sound r in let f = ap (count_of r) all in omega (arith, count_of-append r (added was) rows)))
        ];
      }

  goes_broken : (ms : List Message) → Goes ms → Goes (ms ++ message.Broken ∷ [])
  goes_broken ms g =
      let whole : changes_of (pass level (ms ++ message.Broken ∷ [])) ≡ changes_of (pass level ms) = ap (λ (xs : List Message). changes_of xs) (pass-push level ms message.Broken) ∙ (changes-append (pass level ms) (message.Broken ∷ []) ∙ append-nil _) in
      record {
        no_cut = subst HasNoCut (sym whole) g.no_cut;
        ascend = subst (λ (cs : List Change). Ascend (added cs)) (sym whole) g.ascend;
        below = λ opened. absurd (not_open_broken ms opened);
      }

  goes_step : (ms : List Message) (m : Message) → IsLegal ms → MayCome ms m → Goes ms → Goes (ms ++ m ∷ [])
  goes_step ms (message.Change c) legal may g = goes_on ms (message.Change c) may (passes level ms legal) g refl
  goes_step ms (message.Mark t) legal may g = goes_on ms (message.Mark t) may (passes level ms legal) g refl
  goes_step ms message.End legal may g = goes_on ms message.End may (passes level ms legal) g refl
  goes_step ms message.Broken legal may g = goes_broken ms g

  goes_first : Goes []
  goes_first =
      let none : changes_of (pass level []) ≡ [] = ap (λ (xs : List Message). changes_of xs) (pass-nil level) in
      record {
        no_cut = subst HasNoCut (sym none) tt;
        ascend = subst (λ (cs : List Change). Ascend (added cs)) (sym none) tt;
        below = λ opened r there. absurd (let e = ap (λ (cs : List Change). count_of r (added cs)) none in omega arith);
      }

  pub strong_goes : (ms : List Message) → IsLegal ms → Goes ms
  strong_goes ms legal = by_legal Goes goes_step goes_first ms legal

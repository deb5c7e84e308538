-- A kept change is one of the passed rows or one of the held rows.
use Rattle.std.proofs.Common.{◌≡◌, ℕ, ◌+◌, ◌<◌, ◌≤◌, ◌⊎◌, inl, inr, List, [], ◌∷◌, ◌++◌, Bool, true, false, cond, refl, ap, sym, ◌∙◌, subst, arith}
use Rattle.std.specs.Prelude.{Some, None, nat_lt}
use Rattle.std.specs.List.{flat_map}
use Rattle.std.proofs.lemmas.Bool.{eqb-false, cases_Bool, cases_lt}
use Rattle.std.proofs.lemmas.List.{append-nil}
use Rattle.cedr_base.specs.declared.row.Row.{Row}
use Rattle.cedr_base.specs.declared.change.Change.{Change}
use Rattle.cedr_base.specs.declared.change.Change.TheVariants.{Add, Cut}
use Rattle.cedr_base.specs.declared.change.Message.{Message}
use Rattle.cedr_base.specs.declared.change.Message.TheVariants as message
use Rattle.cedr_base.specs.Rows.{IsRow, same_row, count_of}
use Rattle.cedr_base.specs.Changes.{IsChange, sync_of, puts, takes, all_puts, all_takes, remnant}
use Rattle.change_laws.specs.Repairs.{AllFrom}
use Rattle.cedr_base.specs.Messages.{changes_of, mark_of, IsOpen, MayCome}
use Rattle.cedr_base.proofs.Bags.{count_of-append, count_of-cons, same_row_exact, one_if_same_exact}
use Rattle.change_laws.proofs.BagSums.{count_of-itself}
use Rattle.change_laws.proofs.Moves.{may_is, apart_change, puts_are_rows}
use Rattle.change_laws.proofs.RepairLemmas.{AllChanges}
use Rattle.cedr_base.specs.declared.level.Level.{Level}
use Rattle.node_laws.specs.declared.forgotten.Cause.TheVariants.{Late, Orphan}
use Rattle.node_laws.specs.Surplus.{table_of}
use Rattle.node_laws.specs.Kept.{high_of, is_late, is_orphan, kept_alone, kept_of, kept, kept_table}
use Rattle.node_laws.specs.Pass.{holds, held, passed_table, front, front_at, cuts_passed, itself}
use Rattle.node_laws.proofs.Holds.{open_is, holds_whole, least-mark, least-there, count-held, count-passed}

-- the changes that go to the held rows
abbrev pub cuts_held : Level → List Message → Change → List Change
cuts_held level before (Add r) = Add r ∷ []
cuts_held level before (Cut r e) = cond (holds level before r) (Cut r e ∷ []) []

-- of some changes those that go to the held rows: the additions, and the cuts of rows that are held
abbrev pub to_held : Level → List Message → List Change → List Change
to_held level before cs = flat_map (cuts_held level before) cs

-- of some changes those that go to the passed rows: the cuts of rows that aren't held
abbrev pub to_passed : Level → List Message → List Change → List Change
to_passed level before cs = flat_map (cuts_passed level before) cs

-- a kept change: it is one, is seen from the mark on, and its row is in the kept table
pub record IsKept (level : Level) (ms : List Message) (c : Change) : Type 0 where
  pub is : IsChange c
  pub from : mark_of ms ≤ sync_of c
  pub there : (r : Row) → count_of r (takes c) ≤ count_of r (kept_table level.memory ms)

-- nothing of a message is kept, or its change
pub data IsPart (level : Level) (ms : List Message) (cs : List Change) : Type 0 where
  none : cs ≡ [] → IsPart level ms cs
  one : (c : Change) → cs ≡ c ∷ [] → IsKept level ms c → IsPart level ms cs

one_at : (a r : Row) (n : ℕ) (rows : List Row) (b : Bool) → same_row r a ≡ b → 0 < count_of a rows → cond {A = ℕ} b 1 0 ≤ count_of r rows
one_at a r n rows true h there = let e : r ≡ a = same_row_exact r a h in let f = ap (λ (x : Row). count_of x rows) e in omega arith
one_at a r n rows false h there = omega arith

-- a cut that is no orphan has its row in the kept table
there_of : (so_far : List Change) (c : Change) → is_orphan so_far c ≡ false → (r : Row) → count_of r (takes c) ≤ count_of r (table_of so_far)
there_of so_far (Add a) h r = omega arith
there_of so_far (Cut a e) h r =
    let some = eqb-false (count_of a (table_of so_far)) 0 h in
    let at = one_at a r 0 (table_of so_far) (same_row r a) refl (elim (cases_lt 0 (count_of a (table_of so_far))) [ inl l ↦ l | inr g ↦ absurd (some (omega arith)) ]) in
    omega (arith, count_of-cons r a [])

part_at : (level : Level) (ms : List Message) (c : Change) (late orphan : Bool) → is_orphan (kept level.memory ms) c ≡ orphan → IsChange c → mark_of ms ≤ sync_of c
    → IsPart level ms (kept_alone (cond late (Some Late) (cond orphan (Some Orphan) None)) c)
part_at level ms c true orphan h is from = none refl
part_at level ms c false true h is from = none refl
part_at level ms c false false h is from = one c refl (record { is = is; from = from; there = there_of (kept level.memory ms) c h })

-- what is kept of a message that may come is nothing or one kept change
pub part_of : (level : Level) (ms : List Message) (m : Message) → MayCome ms m → IsPart level ms (kept_of level.memory ms (kept level.memory ms) m)
part_of level ms (message.Change c) may = part_at level ms c (is_late level.memory (high_of ms) c) (is_orphan (kept level.memory ms) c) refl (may_is [] (changes_of ms) c may.1.0) may.1.1
part_of level ms (message.Mark t) may = none refl
part_of level ms message.End may = none refl
part_of level ms message.Broken may = none refl

-- what is known of the two parts
pub record Split (level : Level) (ms : List Message) (cs own other : List Change) : Type 0 where
  pub takes_are : (r : Row) → count_of r (all_takes own) + count_of r (all_takes other) ≡ count_of r (all_takes cs)
  pub puts_are : (r : Row) → count_of r (all_puts own) + count_of r (all_puts other) ≡ count_of r (all_puts cs)
  pub from_passed : (r : Row) → count_of r (all_takes own) ≤ count_of r (passed_table level ms)
  pub from_held : (r : Row) → count_of r (all_takes other) ≤ count_of r (held level ms)
  pub stays_passed : (r : Row) → 0 < count_of r (all_puts own) → holds level ms r ≡ false
  pub new_begins : (r : Row) → 0 < count_of r (all_puts other) → front level ms ≤ r.begin
  pub new_ends : (r : Row) → 0 < count_of r (all_puts other) → mark_of ms ≤ r.end
  pub new_rows : (r : Row) → 0 < count_of r (all_puts cs) → IsRow r
  pub are : AllChanges own
  pub seen : AllFrom (mark_of ms) own
  pub one_only : (r : Row) → (count_of r (all_takes own) ≡ 0) ⊎ (count_of r (all_puts other) ≡ 0)
  pub apart : (r : Row) → (count_of r (all_takes own) ≡ 0) ⊎ (count_of r (all_puts own) ≡ 0)

-- a row of a list of one row is that row
pub in_one : (r x : Row) → 0 < count_of r (x ∷ []) → r ≡ x
in_one r x there = one_if_same_exact r x (omega (arith, count_of-cons r x []))

in_remnant_at : (a r : Row) (e : ℕ) (b : Bool) → 0 < count_of r (cond b (record a { end = e } ∷ []) []) → r ≡ record a { end = e }
in_remnant_at a r e true there = in_one r (record a { end = e }) there
in_remnant_at a r e false there = absurd (omega arith)

-- a row that a cut leaves is the cut row with its new end
pub in_remnant : (a r : Row) (e : ℕ) → 0 < count_of r (remnant a e) → r ≡ record a { end = e }
in_remnant a r e there = in_remnant_at a r e (nat_lt a.begin e) there

-- a list of one change takes what that change takes
pub takes-one : (r : Row) (c : Change) → count_of r (all_takes (c ∷ [])) ≡ count_of r (takes c)
takes-one r c = omega (arith, count_of-append r (takes c) [])

-- a list of one change puts what that change puts
pub puts-one : (r : Row) (c : Change) → count_of r (all_puts (c ∷ [])) ≡ count_of r (puts c)
puts-one r c = omega (arith, count_of-append r (puts c) [])

module _ (level : Level) (ms : List Message) (opened : IsOpen ms) where
  pub front_low : front level ms ≤ mark_of ms
  front_low = subst (λ (b : Bool). front_at b (mark_of ms) (held level ms) ≤ mark_of ms) (sym (open_is ms opened)) (least-mark (mark_of ms) (held level ms))

  pub front_there : (r : Row) → 0 < count_of r (held level ms) → front level ms ≤ r.begin
  front_there r there = subst (λ (b : Bool). front_at b (mark_of ms) (held level ms) ≤ r.begin) (sym (open_is ms opened)) (least-there (mark_of ms) (held level ms) r there)

  split_none : Split level ms [] [] []
  split_none = record {
    takes_are = λ r. refl;
    puts_are = λ r. refl;
    from_passed = λ r. omega arith;
    from_held = λ r. omega arith;
    stays_passed = λ r there. absurd (omega arith);
    new_begins = λ r there. absurd (omega arith);
    new_ends = λ r there. absurd (omega arith);
    new_rows = λ r there. absurd (omega arith);
    are = tt;
    seen = tt;
    one_only = λ r. inl refl;
    apart = λ r. inl refl;
  }

  rows_of : (c : Change) → IsChange c → (r : Row) → 0 < count_of r (all_puts (c ∷ [])) → IsRow r
  rows_of c is r there = puts_are_rows c r is (omega (arith, puts-one r c))

  split_add : (b : Row) → IsKept level ms (Add b) → Split level ms (Add b ∷ []) [] (Add b ∷ [])
  split_add b k = record {
    takes_are = λ r. refl;
    puts_are = λ r. omega arith;
    from_passed = λ r. omega arith;
    from_held = λ r. omega arith;
    stays_passed = λ r there. absurd (omega arith);
    new_begins = λ r there. let e = ap (λ (x : Row). x.begin) (in_one r b there) in let f = k.from in omega (arith, front_low);
    new_ends = λ r there. let e = ap (λ (x : Row). x.end) (in_one r b there) in let f = k.from in let l = k.is.lives in omega arith;
    new_rows = rows_of (Add b) k.is;
    are = tt;
    seen = tt;
    one_only = λ r. inl refl;
    apart = λ r. inl refl;
  }

  -- the copies of a row that is cut
  copies : (a r : Row) (n : ℕ) (b : Bool) → holds level ms a ≡ b → 0 < count_of r (a ∷ []) → (count_of r (held level ms) ≡ cond b (count_of r (kept_table level.memory ms)) 0) × (count_of r (passed_table level ms) ≡ cond b 0 (count_of r (kept_table level.memory ms)))
  copies a r n b h there =
      let e : holds level ms r ≡ b = ap (holds level ms) (in_one r a there) ∙ h in (
        count-held level ms r ∙ ap (λ x. cond x (count_of r (kept_table level.memory ms)) 0) e,
        count-passed level ms r ∙ ap (λ x. cond x 0 (count_of r (kept_table level.memory ms))) e,
      )

  split_cut : (a : Row) (e : ℕ) (b : Bool) → holds level ms a ≡ b → IsKept level ms (Cut a e) → Split level ms (Cut a e ∷ []) (cond b [] (Cut a e ∷ [])) (cond b (Cut a e ∷ []) [])
  split_cut a e true h k =
      let all : (r : Row) → count_of r (all_takes (Cut a e ∷ [])) ≤ count_of r (held level ms) =
      λ r. elim (cases_lt 0 (count_of r (a ∷ []))) [ inl there ↦ omega (arith, (copies a r 0 true h there).0, k.there r, takes-one r (Cut a e)) | inr gone ↦ omega (arith, takes-one r (Cut a e)) ] in
      let there : 0 < count_of a (held level ms) = omega (arith, all a, takes-one a (Cut a e), count_of-itself a []) in
      record {
        takes_are = λ r. omega arith;
        puts_are = λ r. omega arith;
        from_passed = λ r. omega arith;
        from_held = all;
        stays_passed = λ r there. absurd (omega arith);
        new_begins = λ r p. let is = in_remnant a r e (omega (arith, puts-one r (Cut a e))) in let f = ap (λ (x : Row). x.begin) is in omega (arith, front_there a there);
        new_ends = λ r p. let is = in_remnant a r e (omega (arith, puts-one r (Cut a e))) in let f = ap (λ (x : Row). x.end) is in let g = k.from in omega arith;
        new_rows = rows_of (Cut a e) k.is;
        are = tt;
        seen = tt;
        one_only = λ r. inl refl;
        apart = λ r. inl refl;
      }
  split_cut a e false h k = record {
    takes_are = λ r. omega arith;
    puts_are = λ r. omega arith;
    from_passed = λ r. elim (cases_lt 0 (count_of r (a ∷ []))) [ inl there ↦ omega (arith, (copies a r 0 false h there).1, k.there r, takes-one r (Cut a e)) | inr gone ↦ omega (arith, takes-one r (Cut a e)) ];
    from_held = λ r. omega arith;
    stays_passed = λ r p.
        let is = in_remnant a r e (omega (arith, puts-one r (Cut a e))) in
        ap (holds level ms) is ∙ elim (cases_Bool (holds level ms (record a { end = e }))) [ inl t ↦ (let u = holds_whole level ms (message.End) opened a e k.is.2 t in cc) | inr f ↦ f ];
    new_begins = λ r there. absurd (omega arith);
    new_ends = λ r there. absurd (omega arith);
    new_rows = rows_of (Cut a e) k.is;
    are = (k.is, tt);
    seen = (k.from, tt);
    one_only = λ r. inr refl;
    apart = λ r. elim (apart_change (Cut a e) r k.is) [ inl p ↦ inl (omega (arith, takes-one r (Cut a e), p)) | inr q ↦ inr (omega (arith, puts-one r (Cut a e), q)) ];
  }

  split_one : (c : Change) → IsKept level ms c → Split level ms (c ∷ []) (cuts_passed level ms c ++ []) (cuts_held level ms c ++ [])
  split_one (Add b) k = split_add b k
  split_one (Cut a e) k = rw (append-nil, append-nil) (split_cut a e (holds level ms a) refl k)

  split_of : (cs : List Change) → IsPart level ms cs → Split level ms cs (to_passed level ms cs) (to_held level ms cs)
  split_of cs (none e) = subst (λ (ds : List Change). Split level ms ds (to_passed level ms ds) (to_held level ms ds)) (sym e) split_none
  split_of cs (one c e k) = subst (λ (ds : List Change). Split level ms ds (to_passed level ms ds) (to_held level ms ds)) (sym e) (split_one c k)

-- what is kept of a message that may come has a part that goes to the passed rows and one that goes to
-- the held rows
pub split : (level : Level) (ms : List Message) (m : Message) → MayCome ms m
    → Split level ms (kept_of level.memory ms (kept level.memory ms) m) (itself level ms m) (to_held level ms (kept_of level.memory ms (kept level.memory ms) m))
split level ms m may = split_of level ms may.0 (kept_of level.memory ms (kept level.memory ms) m) (part_of level ms m may)

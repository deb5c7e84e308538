-- Rows that ended before a change is seen, or begin once its row ended, say nothing to it.
use Rattle.std.proofs.Common.{◌≡◌, ◌<◌, ◌≤◌, ◌+◌, inl, inr, ℕ, List, [], ◌∷◌, ◌++◌, Bool, true, false, cond, refl, ap, sym, ◌∙◌, subst, arith, min, max, append_assoc}
use Rattle.std.specs.Prelude.{nat_lt}
use Rattle.std.specs.List.{filter, flat_map}
use Rattle.std.proofs.lemmas.Bool.{cases_lt}
use Rattle.std.proofs.lemmas.List.Concat.{flat_map-append}
use Rattle.std.proofs.lemmas.Bool.Decides.{nat_tests}
use Rattle.cedr_base.specs.declared.field.Field.{Field}
use Rattle.cedr_base.specs.declared.row.Row.{Row}
use Rattle.cedr_base.specs.declared.change.Change.{Change}
use Rattle.cedr_base.specs.declared.change.Change.TheVariants.{Add, Cut}
use Rattle.cedr_base.specs.Rows.{count_of}
use Rattle.cedr_base.specs.Changes.{sync_of, changed_row}
use Rattle.cedr_base.proofs.Bags.{count_of-cons, one_of_itself}
use Rattle.cedr_expr.specs.declared.side.Side.{Side}
use Rattle.op_join.specs.Joins.{PairTest, meet}
use Rattle.cedr_table.specs.Counted.{ends_after}
use Rattle.filed_rows.specs.Spans.{lives_within}
use Rattle.op_join.specs.Pairs.{met, passes_on, both_on, cut_to, pair_changes, all_changes}

never_meet : (b : Bool) (w : List Field) (s t : ℕ) → nat_lt s t ≡ false → meet b w s t ≡ []
never_meet true w s t h = ap {B = List Row} (λ d. cond d (record { end = t; begin = s; payload = w } ∷ []) []) h
never_meet false w s t h = refl

stays : (x : Row) (e : ℕ) (d : Bool) → nat_lt e x.end ≡ false → flat_map (cut_to e) (cond d (x ∷ []) []) ≡ []
stays x e true h = ap {B = List Change} (λ b. cond b (Cut x (max e x.begin) ∷ []) [] ++ []) h
stays x e false h = refl

-- no row that ended by then is cut
never_cut : (b : Bool) (w : List Field) (s t e : ℕ) → nat_lt e t ≡ false → flat_map (cut_to e) (meet b w s t) ≡ []
never_cut true w s t e h = stays (record { end = t; begin = s; payload = w }) e (nat_lt s t) h
never_cut false w s t e h = refl

module _ (p : PairTest) (side : Side) where
  -- a row that ended by the time that a change is seen gives no change
  pub ended_alone : (c : Change) (o : Row) → ends_after (sync_of c) o ≡ false → pair_changes c (met p side (changed_row c) o) ≡ []
  ended_alone (Add a) o h =
      ap (λ rows. pair_changes (Add a) rows)
      (never_meet (passes_on p side a.payload o.payload) (both_on side a.payload o.payload) (max a.begin o.begin) (min a.end o.end) (grind (arith, nat_tests, h)))
  ended_alone (Cut a e) o h =
      never_cut (passes_on p side a.payload o.payload) (both_on side a.payload o.payload) (max a.begin o.begin) (min a.end o.end) e (grind (arith, nat_tests, h))

  -- a row that begins once the changed row ended gives none
  pub begun_alone : (c : Change) (o : Row) → (changed_row c).end ≤ o.begin → pair_changes c (met p side (changed_row c) o) ≡ []
  begun_alone (Add a) o h =
      ap (λ rows. pair_changes (Add a) rows)
      (never_meet (passes_on p side a.payload o.payload) (both_on side a.payload o.payload) (max a.begin o.begin) (min a.end o.end) (grind (arith, nat_tests, h)))
  begun_alone (Cut a e) o h =
      ap (λ rows. pair_changes (Cut a e) rows)
      (never_meet (passes_on p side a.payload o.payload) (both_on side a.payload o.payload) (max a.begin o.begin) (min a.end o.end) (grind (arith, nat_tests, h)))

  first_skipped : (q : Row → Bool) (c : Change) (o : Row) (os : List Row) (b : Bool) → q o ≡ b → (q o ≡ false → pair_changes c (met p side (changed_row c) o) ≡ []) → all_changes p side c (cond b (o ∷ os) os) ≡ pair_changes c (met p side (changed_row c) o) ++ all_changes p side c os
  first_skipped q c o os true h none = refl
  first_skipped q c o os false h none = ap (λ (cs : List Change). cs ++ all_changes p side c os) (sym (none h))

  -- where those are left out that give no change, the others give the same
  pub skip : (q : Row → Bool) (c : Change) (os : List Row) → ((o : Row) → 0 < count_of o os → q o ≡ false → pair_changes c (met p side (changed_row c) o) ≡ []) → all_changes p side c (filter q os) ≡ all_changes p side c os
  skip q c [] none = refl
  skip q c (o ∷ os) none =
      first_skipped q c o (filter q os) (q o) refl (none o (omega (arith, count_of-cons o o os, one_of_itself o)))
      ∙ ap (λ (cs : List Change). pair_changes c (met p side (changed_row c) o) ++ cs) (skip q c os (λ r there. none r (omega (arith, count_of-cons r o os))))

  away_alone : (c : Change) (o : Row) → lives_within (sync_of c) (changed_row c).end o ≡ false → pair_changes c (met p side (changed_row c) o) ≡ []
  away_alone c o out = elim (cases_lt (sync_of c) o.end) [
    | inr ended ↦ ended_alone c o (grind (arith, nat_tests, ended))
    | inl later ↦ begun_alone c o (grind (arith, nat_tests, later, out))
  ]

  -- and those that begin once the changed row ended
  skip_away : (c : Change) (os : List Row) → all_changes p side c (filter (lives_within (sync_of c) (changed_row c).end) os) ≡ all_changes p side c os
  skip_away c os = skip (lives_within (sync_of c) (changed_row c).end) c os (λ o there out. away_alone c o out)

  -- rows that are the same but for those say the same
  pub same_within : (c : Change) (os others : List Row) → filter (lives_within (sync_of c) (changed_row c).end) os ≡ filter (lives_within (sync_of c) (changed_row c).end) others → all_changes p side c os ≡ all_changes p side c others
  same_within c os others same = sym (skip_away c os) ∙ (ap (all_changes p side c) same ∙ skip_away c others)

  -- what both ranges of rows say is what all say that they were found among
  pub both_ranges : (c : Change) (found begun others : List Row) (outs outs' outs'' : List Change) (time last : ℕ) → time ≡ sync_of c → last ≡ (changed_row c).end → outs' ≡ outs ++ all_changes p side c found → outs'' ≡ outs' ++ all_changes p side c begun
      → filter (lives_within time last) (found ++ begun) ≡ filter (lives_within time last) others → outs'' ≡ outs ++ all_changes p side c others
  both_ranges c found begun others outs outs' outs'' time last at end one two same =
      let there : filter (lives_within (sync_of c) (changed_row c).end) (found ++ begun) ≡ filter (lives_within (sync_of c) (changed_row c).end) others =
      subst (λ (t : ℕ). filter (lives_within t (changed_row c).end) (found ++ begun) ≡ filter (lives_within t (changed_row c).end) others) at
      (subst (λ (t : ℕ). filter (lives_within time t) (found ++ begun) ≡ filter (lives_within time t) others) end same) in
      two
      ∙ (ap (λ (cs : List Change). cs ++ all_changes p side c begun) one
      ∙ (append_assoc outs (all_changes p side c found) (all_changes p side c begun)
      ∙ ap (λ (cs : List Change). outs ++ cs) (sym (flat_map-append (λ o. pair_changes c (met p side (changed_row c) o)) found begun) ∙ same_within c (found ++ begun) others there)))

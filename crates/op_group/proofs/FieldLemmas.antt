-- The bags of the groups' fields after a change, and after a mark passed a cut point.
use Rattle.std.proofs.Common.{◌≡◌, ℕ, ◌≤◌, ◌⊎◌, inl, inr, List, Bool, true, false, cond, max, refl, ap, sym, ◌∙◌, subst, arith}
use Rattle.std.specs.Prelude.{nat_eq, nat_lt, ◌&&◌, ◌||◌, is_some, Option, None, Some}
use Rattle.std.specs.BTreeMap.{BTreeMap}
use Rattle.std.specs.List.Sorted.{IsStrictlySortedBy}
use Rattle.std.specs.Map.{keys_of}
use Rattle.cedr_base.specs.Order.{payload_cmp}
use Rattle.std.proofs.lemmas.Bool.{cases_lt, eqb-true}
use Rattle.cedr_base.specs.declared.field.Field.{Field}
use Rattle.cedr_base.specs.declared.row.Row.{Row}
use Rattle.cedr_base.specs.declared.change.Change.{Change}
use Rattle.cedr_base.specs.Changes.{IsChange, changed_row, sync_of}
use Rattle.change_laws.specs.Repairs.{IsMoved}
use Rattle.op_group.specs.declared.bags.Bags.{Bags}
use Rattle.cedr_living.specs.declared.living.LivingFields.{LivingFields}
use Rattle.op_group.specs.declared.points.CutPoint.{CutPoint}
use Rattle.op_group.specs.declared.segment.Segment.{Segment}
use Rattle.op_group.specs.Groups.{Grouping, key_of, same_payload, rows_of}
use Rattle.cedr_living.specs.Lives.{Living, SameLives}
use Rattle.cedr_living.specs.Bags.{KeepsLives, IsEmpty, AllEnd}
use Rattle.cedr_living.specs.BagLaws.{empty_ended}
use Rattle.op_group.specs.Bags.{BagKeeps, IsLive, bag_at, lives_of}
use Rattle.op_group.specs.BagLaws.{lives_same, bag_alike}
use Rattle.op_group.specs.Cuts.{segment_at}
use Rattle.op_group.specs.Points.{has_point, Follows, IsFirstTaken}
use Rattle.op_group.specs.PayloadLaws.{payload_exact, payload_itself}
use Rattle.op_group.specs.State.{KeepsGroups, KeepsFields, IsForgotten, SettlesFields, cuts_of}
use Rattle.op_group.specs.Measures.{is_cut_of}
use Rattle.op_group.specs.LawWords.{last_time}
use Rattle.op_group.specs.BoundLaws.{same_outside}
use Rattle.op_group.specs.TimeLaws.{above_test}
use Rattle.op_group.proofs.GroupRepairs.{other_sum}
use Rattle.op_group.proofs.SinceLemmas.{cut_is}
use Rattle.op_group.proofs.Answered.{seen_before, turned_test}

-- lives that have ended by a time have ended by a later one
pub end_later : (t u : ℕ) (lives : List Living) → t ≤ u → AllEnd t lives → AllEnd u lives
end_later t u lives h all w early = all w (λ l before. early l (omega arith))

-- what bags tell of is told of at a later mark
pub bag_later : (o : Option LivingFields) (passed later : ℕ) (lives : List Living) → passed ≤ later → BagKeeps o passed lives → BagKeeps o later lives
bag_later None passed later lives h all = end_later passed later lives h all
bag_later (Some bag) passed later lives h keeps = (keeps.0, let low = keeps.1 in omega arith)

-- an empty bag needs no place
pub none_kept : (bag : LivingFields) (passed : ℕ) (lives : List Living) → IsEmpty bag → KeepsLives bag lives → bag.from ≤ passed → BagKeeps None passed lives
none_kept bag passed lives empty keeps low = end_later bag.from passed lives low (empty_ended bag lives empty keeps)

-- a change's row is of the group of its key
pub own_test : (g : Grouping) (c : Change) (key : List Field) → key ≡ key_of g (changed_row c) → same_payload key (key_of g (changed_row c)) ≡ true
own_test g c key own = ap (same_payload key) (sym own) ∙ payload_itself key

module _ (g : Grouping) (key : List Field) (bags between after : Bags) (c : Change) (old new : List Row) (mark : ℕ) (living : LivingFields)
    (passed : between.passed ≡ bags.passed) (passed' : after.passed ≡ between.passed)
    (without_it : (other : List Field) → bag_at between.all.entries other ≡ cond (same_payload key other) None (bag_at bags.all.entries other))
    (others : (other : List Field) → same_payload key other ≡ false → bag_at after.all.entries other ≡ bag_at between.all.entries other)
    (own : key ≡ key_of g (changed_row c)) (moved : IsMoved c old new)
    (kept : BagKeeps (bag_at after.all.entries key) between.passed (lives_of g.totalled (rows_of g key new)))
    (is_living : (bag : LivingFields) → bag_at after.all.entries key ≡ Some bag → bag ≡ living)
    (from_there : (t : ℕ) → IsForgotten bags t key → t ≤ living.from) (own_live : IsLive after.all.entries key) where
  other_bag : (other : List Field) → same_payload key other ≡ false → bag_at after.all.entries other ≡ bag_at bags.all.entries other
  other_bag other h = others other h ∙ (without_it other ∙ ap (λ b. cond b None (bag_at bags.all.entries other)) h)

  other_lives : (other : List Field) → same_payload key other ≡ false → SameLives (lives_of g.totalled (rows_of g other old)) (lives_of g.totalled (rows_of g other new))
  other_lives other h =
      let apart : same_payload other (key_of g (changed_row c)) ≡ false = ap (same_payload other) (sym own) ∙ turned_test key other (same_payload other key) refl h in
      lives_same g.totalled (rows_of g other old) (rows_of g other new) (λ w. other_sum g other w c old new apart moved)

  each_at : (other : List Field) (b : Bool) → same_payload key other ≡ b → BagKeeps (bag_at bags.all.entries other) bags.passed (lives_of g.totalled (rows_of g other old)) → BagKeeps (bag_at after.all.entries other) after.passed (lives_of g.totalled (rows_of g other new))
  each_at other true h was =
      subst (λ k. BagKeeps (bag_at after.all.entries k) after.passed (lives_of g.totalled (rows_of g k new))) (payload_exact key other h)
      (subst (λ (n : ℕ). BagKeeps (bag_at after.all.entries key) n (lives_of g.totalled (rows_of g key new))) (sym passed') kept)
  each_at other false h was =
      bag_alike (bag_at after.all.entries other) after.passed (lives_of g.totalled (rows_of g other old)) (lives_of g.totalled (rows_of g other new)) (other_lives other h)
      (subst (λ o. BagKeeps o after.passed (lives_of g.totalled (rows_of g other old))) (sym (other_bag other h))
      (subst (λ (n : ℕ). BagKeeps (bag_at bags.all.entries other) n (lives_of g.totalled (rows_of g other old))) (sym (passed' ∙ passed)) was))

  forgotten_at : (t : ℕ) (other : List Field) (b : Bool) → same_payload key other ≡ b → IsForgotten bags t other → IsForgotten after t other
  forgotten_at t other true h was =
      let within = was.within in
      let same = payload_exact key other h in
      record {
        within = omega (arith, passed, passed');
        from_there = λ bag there. subst (λ (l : LivingFields). t ≤ l.from) (sym (is_living bag (ap (bag_at after.all.entries) same ∙ there))) (from_there t (subst (IsForgotten bags t) (sym same) was));
      }
  forgotten_at t other false h was =
      let within = was.within in
      record { within = omega (arith, passed, passed'); from_there = λ bag there. was.from_there bag (sym (other_bag other h) ∙ there) }

  live_at : (other : List Field) (b : Bool) → same_payload key other ≡ b → IsLive bags.all.entries other → IsLive after.all.entries other
  live_at other true h was = subst (IsLive after.all.entries) (payload_exact key other h) own_live
  live_at other false h was = λ bag there. was bag (sym (other_bag other h) ∙ there)

  -- the bags keep the fields of the new rows
  pub fields_after : (groups : List (List Field × BTreeMap ℕ Segment)) (all' due due' : List CutPoint) (cuts' : List (ℕ × Segment)) → IsChange c → mark ≤ sync_of c → KeepsGroups g groups all' due' new mark
      → Follows due due' key cuts' (sync_of c) (last_time c) → IsStrictlySortedBy payload_cmp (keys_of after.all.entries) → KeepsFields g bags due old mark → KeepsFields g after due' new mark
  fields_after groups all' due due' cuts' is late keeps' follows sorted keeps =
      let within = keeps.within in
      record {
        sorted = sorted;
        within = omega (arith, passed, passed');
        each = λ other. each_at other (same_payload key other) refl (keeps.each other);
        forgotten = λ t other cut gone. elim (cases_lt t mark) [
          | inr high ↦
              let shown = (keeps'.shown other).shown in
              let below = shown.below in
              let entered : has_point all' t other ≡ true = keeps'.entered t other ∙ (cut_is g.totalled mark (keeps'.shown other).from (cuts_of groups other) (rows_of g other new) t shown (omega arith) ∙ cut) in
              let past = (keeps'.passed t other entered gone).past in
              absurd (omega arith)
          | inl early ↦
              let seen = seen_before c is in
              let was : is_cut_of (rows_of g other old) t ≡ true = ap (nat_lt 0) (same_outside g other c old new t is moved (inl (omega arith))).edges ∙ cut in
              let still : has_point due' t other ≡ has_point due t other = follows t other
              ∙ (ap (λ b. cond ((b || nat_eq (last_time c) t) && same_payload key other) (is_some (segment_at t cuts')) (has_point due t other)) (above_test (sync_of c) t (omega arith))
              ∙ ap (λ b. cond (b && same_payload key other) (is_some (segment_at t cuts')) (has_point due t other)) (above_test (last_time c) t (omega arith))) in
              forgotten_at t other (same_payload key other) refl (keeps.forgotten t other was (sym still ∙ gone))
        ];
        live = λ other. live_at other (same_payload key other) refl (keeps.live other);
      }

module _ (g : Grouping) (bags bags' : Bags) (due due' : List CutPoint) (rows : List Row) (mark : ℕ) (point : CutPoint)
    (taken : IsFirstTaken due due' mark point) (settles : SettlesFields point.at point.key bags bags') (own_live : IsLive bags'.all.entries point.key) (passed : bags.passed ≡ mark) (keeps : KeepsFields g bags due rows mark) where
  settled_each : (key : List Field) (b : Bool) → same_payload point.key key ≡ b → BagKeeps (bag_at bags'.all.entries key) bags'.passed (lives_of g.totalled (rows_of g key rows))
  settled_each key true h =
      let before = taken.before in
      let low : point.at ≤ bags.passed = omega (arith, passed) in
      subst (λ k. BagKeeps (bag_at bags'.all.entries k) bags'.passed (lives_of g.totalled (rows_of g k rows))) (payload_exact point.key key h)
      (subst (λ (n : ℕ). BagKeeps (bag_at bags'.all.entries point.key) n (lives_of g.totalled (rows_of g point.key rows))) (sym settles.passed) (settles.keeps (lives_of g.totalled (rows_of g point.key rows)) low (keeps.each point.key)))
  settled_each key false h =
      subst (λ o. BagKeeps o bags'.passed (lives_of g.totalled (rows_of g key rows))) (sym (settles.others key h))
      (subst (λ (n : ℕ). BagKeeps (bag_at bags.all.entries key) n (lives_of g.totalled (rows_of g key rows))) (sym settles.passed) (keeps.each key))

  was_due : (e s : Bool) (d d' : Bool) → d' ≡ cond (e && s) false d → d' ≡ false → (d ≡ false) ⊎ ((e ≡ true) × (s ≡ true))
  was_due true true d d' is gone = inr (refl, refl)
  was_due true false d d' is gone = inl (sym is ∙ gone)
  was_due false s d d' is gone = inl (sym is ∙ gone)

  settled_forgotten : (t : ℕ) (key : List Field) (b : Bool) → same_payload point.key key ≡ b → is_cut_of (rows_of g key rows) t ≡ true → (has_point due t key ≡ false) ⊎ ((nat_eq point.at t ≡ true) × (b ≡ true)) → IsForgotten bags' t key
  settled_forgotten t key b h cut (inr now) =
      let at_is = eqb-true point.at t now.0 in
      let same = payload_exact point.key key (h ∙ now.1) in
      let before = taken.before in
      record {
        within = omega (arith, settles.passed, passed);
        from_there = λ bag found. subst (λ (n : ℕ). n ≤ bag.from) at_is (settles.from_there bag (ap (bag_at bags'.all.entries) same ∙ found));
      }
  settled_forgotten t key true h cut (inl was) =
      let same = payload_exact point.key key h in
      let old = keeps.forgotten t key cut was in
      let within = old.within in
      record {
        within = omega (arith, settles.passed);
        from_there = λ bag found. settles.stays t (subst (IsForgotten bags t) (sym same) old) bag (ap (bag_at bags'.all.entries) same ∙ found);
      }
  settled_forgotten t key false h cut (inl was) =
      let old = keeps.forgotten t key cut was in
      let within = old.within in
      record { within = omega (arith, settles.passed); from_there = λ bag found. old.from_there bag (sym (settles.others key h) ∙ found) }

  settled_live : (key : List Field) (b : Bool) → same_payload point.key key ≡ b → IsLive bags'.all.entries key
  settled_live key true h = subst (IsLive bags'.all.entries) (payload_exact point.key key h) own_live
  settled_live key false h = λ bag there. keeps.live key bag (sym (settles.others key h) ∙ there)

  -- the bags keep the fields of the rows as before
  pub fields_settled : KeepsFields g bags' due' rows mark
  fields_settled =
      let within = keeps.within in
      record {
        sorted = settles.sorted;
        within = omega (arith, settles.passed);
        each = λ key. settled_each key (same_payload point.key key) refl;
        forgotten = λ t key cut gone. settled_forgotten t key (same_payload point.key key) refl cut (was_due (nat_eq point.at t) (same_payload point.key key) (has_point due t key) (has_point due' t key) (taken.taken t key) gone);
        live = λ key. settled_live key (same_payload point.key key) refl;
      }

empty_gone : (o : Option LivingFields) (passed : ℕ) (lives : List Living) → ((bag : LivingFields) → o ≡ Some bag → IsEmpty bag) → BagKeeps o passed lives → BagKeeps None passed lives
empty_gone None passed lives empty keeps = keeps
empty_gone (Some bag) passed lives empty keeps = none_kept bag passed lives (empty bag refl) keeps.0 keeps.1

-- where a group's bag is gone, none without a life is left of it
pub none_live : (key : List Field) (between after : Bags) → ((other : List Field) → bag_at after.all.entries other ≡ cond (same_payload key other) None (bag_at between.all.entries other)) → IsLive after.all.entries key
none_live key between after gone bag there =
    let none : bag_at after.all.entries key ≡ None = gone key ∙ ap (λ b. cond b None (bag_at between.all.entries key)) (payload_itself key) in
    absurd (let e = sym none ∙ there in cc)

-- a bag that is empty then may go
pub settled_without : (at : ℕ) (key : List Field) (bags between after : Bags) → SettlesFields at key bags between → ((bag : LivingFields) → bag_at between.all.entries key ≡ Some bag → IsEmpty bag) → after.passed ≡ between.passed
    → IsStrictlySortedBy payload_cmp (keys_of after.all.entries) → ((other : List Field) → bag_at after.all.entries other ≡ cond (same_payload key other) None (bag_at between.all.entries other)) → SettlesFields at key bags after
settled_without at key bags between after settles empty passed sorted gone =
    let none : bag_at after.all.entries key ≡ None = gone key ∙ ap (λ b. cond b None (bag_at between.all.entries key)) (payload_itself key) in
    record {
      sorted = sorted;
      passed = passed ∙ settles.passed;
      others = λ other apart. gone other ∙ (ap (λ b. cond b None (bag_at between.all.entries other)) apart ∙ settles.others other apart);
      keeps = λ lives low kept. subst (λ o. BagKeeps o bags.passed lives) (sym none) (empty_gone (bag_at between.all.entries key) bags.passed lives empty (settles.keeps lives low kept));
      from_there = λ bag there. let e = sym none ∙ there in cc;
      stays = λ t was bag there. let e = sym none ∙ there in cc;
    }

-- at a mark the bags tell of what lives from it on
pub fields_risen : (g : Grouping) (bags : Bags) (due : List CutPoint) (rows : List Row) (mark passed : ℕ) → passed ≡ max bags.passed mark → KeepsFields g bags due rows mark
    → KeepsFields g (record bags { passed = passed }) due rows mark × (passed ≡ mark)
fields_risen g bags due rows mark passed risen keeps =
    let within = keeps.within in
    let is : passed ≡ mark = omega (arith, risen) in (
      record {
        sorted = keeps.sorted;
        within = omega (arith, is);
        each = λ key. bag_later (bag_at bags.all.entries key) bags.passed passed (lives_of g.totalled (rows_of g key rows)) (omega (arith, is)) (keeps.each key);
        forgotten = λ t key cut gone. let was = keeps.forgotten t key cut gone in let low = was.within in record { within = omega (arith, is); from_there = was.from_there };
        live = keeps.live;
      },
      is,
    )

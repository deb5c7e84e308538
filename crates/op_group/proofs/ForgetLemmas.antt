-- What a group loses at a mark that passed one of its cut points.
use Rattle.std.proofs.Common.{◌≡◌, ℕ, ◌<◌, inl, inr, List, [], Bool, true, false, cond, length, Option, Some, None, not, refl, ap, sym, ◌∙◌, subst, arith}
use Rattle.std.specs.Prelude.{nat_eq, nat_lt, ◌&&◌, ◌||◌, is_some}
use Rattle.std.specs.List.Sorted.{IsStrictlySortedBy}
use Rattle.std.specs.Map.{lookup, keys_of}
use Rattle.std.specs.BTreeMap.{BTreeMap, is_at}
use Rattle.std.specs.Ordering.{nat_cmp}
use Rattle.std.proofs.lemmas.Bool.{cases_lt}
use Rattle.cedr_base.specs.declared.field.Field.{Field}
use Rattle.cedr_base.specs.Order.{payload_cmp}
use Rattle.op_group.specs.declared.segment.Segment.{Segment}
use Rattle.op_group.specs.declared.points.CutPoint.{CutPoint}
use Rattle.op_group.specs.Groups.{same_payload}
use Rattle.op_group.specs.Cuts.{segment_at}
use Rattle.op_group.specs.Points.{has_point, Leaves, left_from}
use Rattle.op_group.specs.PayloadLaws.{payload_exact}
use Rattle.op_group.specs.State.{NoneEmpty, AllOrdered, Settles, cuts_of, entries_of}
use Rattle.op_group.proofs.Answered.{nil_from_length}

module _ (at : ℕ) (key : List Field) (groups groups' : List (List Field × BTreeMap ℕ Segment)) (all all' : List CutPoint) (cuts cuts' : List (ℕ × Segment))
    (was : cuts ≡ cuts_of groups key) (is : (other : List Field) → cuts_of groups' other ≡ cond (same_payload key other) cuts' (cuts_of groups other))
    (left : (u : ℕ) → segment_at u cuts' ≡ left_from at cuts u) (leaves : Leaves key cuts cuts' all all') where
  own_is : (other : List Field) → same_payload key other ≡ true → cuts_of groups' other ≡ cuts'
  own_is other h = is other ∙ ap (λ b. cond b cuts' (cuts_of groups other)) h

  own_was : (other : List Field) → same_payload key other ≡ true → cuts ≡ cuts_of groups other
  own_was other h = was ∙ ap (cuts_of groups) (payload_exact key other h)

  other_is : (other : List Field) → same_payload key other ≡ false → cuts_of groups' other ≡ cuts_of groups other
  other_is other h = is other ∙ ap (λ b. cond b cuts' (cuts_of groups other)) h

  cuts_at : (u : ℕ) (other : List Field) (b : Bool) → same_payload key other ≡ b → segment_at u (cuts_of groups' other) ≡ cond b (left_from at (cuts_of groups other) u) (segment_at u (cuts_of groups other))
  cuts_at u other true h = ap (segment_at u) (own_is other h) ∙ (left u ∙ ap (λ cs. left_from at cs u) (own_was other h))
  cuts_at u other false h = ap (segment_at u) (other_is other h)

  same_leaves : (x h : Bool) → h ≡ cond (x && not x) false h
  same_leaves true h = refl
  same_leaves false h = refl

  points_at : (u : ℕ) (other : List Field) (b : Bool) → same_payload key other ≡ b → has_point all' u other ≡ cond (b && (is_some (segment_at u cuts) && not (is_some (segment_at u cuts')))) false (has_point all u other)
      → has_point all' u other ≡ cond (is_some (segment_at u (cuts_of groups other)) && not (is_some (segment_at u (cuts_of groups' other)))) false (has_point all u other)
  points_at u other true h e =
      e ∙ (ap (λ cs. cond (is_some (segment_at u cs) && not (is_some (segment_at u cuts'))) false (has_point all u other)) (own_was other h)
      ∙ ap (λ cs. cond (is_some (segment_at u (cuts_of groups other)) && not (is_some (segment_at u cs))) false (has_point all u other)) (sym (own_is other h)))
  points_at u other false h e =
      e ∙ (same_leaves (is_some (segment_at u (cuts_of groups other))) (has_point all u other)
      ∙ ap (λ cs. cond (is_some (segment_at u (cuts_of groups other)) && not (is_some (segment_at u cs))) false (has_point all u other)) (sym (other_is other h)))

  -- a group that has lost what was before one of its cut points
  pub settled : IsStrictlySortedBy payload_cmp (keys_of groups') → IsStrictlySortedBy nat_cmp (keys_of cuts') → (NoneEmpty groups → NoneEmpty groups') → Settles at key groups groups' all all'
  settled sorted new_ordered some_cuts = record {
    sorted = sorted;
    ordered = λ ordered other. ordered_at ordered other (same_payload key other) refl;
    some_cuts = some_cuts;
    cuts_left = λ u other. cuts_at u other (same_payload key other) refl;
    points_left = λ u other. points_at u other (same_payload key other) refl (leaves u other);
  }
    where
      ordered_at : AllOrdered groups → (other : List Field) (b : Bool) → same_payload key other ≡ b → IsStrictlySortedBy nat_cmp (keys_of (cuts_of groups' other))
      ordered_at ordered other true h = subst (λ cs. IsStrictlySortedBy nat_cmp (keys_of cs)) (sym (own_is other h)) new_ordered
      ordered_at ordered other false h = subst (λ cs. IsStrictlySortedBy nat_cmp (keys_of cs)) (sym (other_is other h)) (ordered other)

some_at : (groups : List (List Field × BTreeMap ℕ Segment)) (q : List Field) (w o : Option (BTreeMap ℕ Segment)) (b : Bool) (cuts : BTreeMap ℕ Segment) → o ≡ cond b w (lookup (is_at (payload_cmp q)) groups) → ((c : BTreeMap ℕ Segment) → w ≡ Some c → 0 < length c.entries) → NoneEmpty groups → o ≡ Some cuts → 0 < length cuts.entries
some_at groups q w o true cuts e some none_empty found = some cuts (sym e ∙ found)
some_at groups q w o false cuts e some none_empty found = none_empty q cuts (sym e ∙ found)

entries_at : (w o : Option (BTreeMap ℕ Segment)) (b : Bool) → entries_of (cond b w o) ≡ cond b (entries_of w) (entries_of o)
entries_at w o true = refl
entries_at w o false = refl

-- a group that has others of its cut points, or goes
pub settled_by : (at : ℕ) (key : List Field) (groups groups' : List (List Field × BTreeMap ℕ Segment)) (all all' : List CutPoint) (cuts cuts' : BTreeMap ℕ Segment) (w : Option (BTreeMap ℕ Segment)) → lookup (is_at (payload_cmp key)) groups ≡ Some cuts
    → ((q : List Field) → lookup (is_at (payload_cmp q)) groups' ≡ cond (is_at (payload_cmp key) q) w (lookup (is_at (payload_cmp q)) groups)) → entries_of w ≡ cuts'.entries → ((c : BTreeMap ℕ Segment) → w ≡ Some c → 0 < length c.entries)
    → ((u : ℕ) → segment_at u cuts'.entries ≡ left_from at cuts.entries u) → Leaves key cuts.entries cuts'.entries all all' → IsStrictlySortedBy payload_cmp (keys_of groups') → IsStrictlySortedBy nat_cmp (keys_of cuts'.entries) → Settles at key groups groups' all all'
settled_by at key groups groups' all all' cuts cuts' w found update w_is some left leaves sorted ordered =
    settled at key groups groups' all all' cuts.entries cuts'.entries (sym (ap entries_of found))
    (λ other. ap entries_of (update other) ∙ (entries_at w (lookup (is_at (payload_cmp other)) groups) (same_payload key other) ∙ ap (λ cs. cond (same_payload key other) cs (cuts_of groups other)) w_is))
    left leaves sorted ordered
    (λ none_empty q c there. some_at groups q w (lookup (is_at (payload_cmp q)) groups') (is_at (payload_cmp key) q) c (update q) some none_empty there)

updated_twice : (b : Bool) (w o x y : Option (BTreeMap ℕ Segment)) → x ≡ cond b w o → y ≡ cond b None x → y ≡ cond b None o
updated_twice true w o x y e f = f
updated_twice false w o x y e f = f ∙ e

-- a group that has no cut point left goes
pub settled_gone : (at : ℕ) (key : List Field) (groups between groups' : List (List Field × BTreeMap ℕ Segment)) (all all' : List CutPoint) (cuts cuts' : BTreeMap ℕ Segment) → lookup (is_at (payload_cmp key)) groups ≡ Some cuts
    → ((q : List Field) → lookup (is_at (payload_cmp q)) between ≡ cond (is_at (payload_cmp key) q) (Some cuts') (lookup (is_at (payload_cmp q)) groups)) → ((q : List Field) → lookup (is_at (payload_cmp q)) groups' ≡ cond (is_at (payload_cmp key) q) None (lookup (is_at (payload_cmp q)) between))
    → length cuts'.entries ≡ 0 → ((u : ℕ) → segment_at u cuts'.entries ≡ left_from at cuts.entries u) → Leaves key cuts.entries cuts'.entries all all' → IsStrictlySortedBy payload_cmp (keys_of groups') → IsStrictlySortedBy nat_cmp (keys_of cuts'.entries) → Settles at key groups groups' all all'
settled_gone at key groups between groups' all all' cuts cuts' found written removed none left leaves sorted ordered =
    settled_by at key groups groups' all all' cuts cuts' None found
    (λ q. updated_twice (is_at (payload_cmp key) q) (Some cuts') (lookup (is_at (payload_cmp q)) groups) (lookup (is_at (payload_cmp q)) between) (lookup (is_at (payload_cmp q)) groups') (written q) (removed q))
    (sym (nil_from_length cuts'.entries none)) (λ c e. cc) left leaves sorted ordered

nothing_left : (at u : ℕ) → ◌≡◌ {A = Option Segment} None (left_from at [] u)
nothing_left at u = nothing_at (nat_lt u at || (nat_eq u at && false)) where
  nothing_at : (b : Bool) → ◌≡◌ {A = Option Segment} None (cond b None None)
  nothing_at true = refl
  nothing_at false = refl

-- a group that isn't there loses nothing
pub settled_none : (at : ℕ) (key : List Field) (groups : List (List Field × BTreeMap ℕ Segment)) (all : List CutPoint) → lookup (is_at (payload_cmp key)) groups ≡ None → IsStrictlySortedBy payload_cmp (keys_of groups) → Settles at key groups groups all all
settled_none at key groups all gone sorted = record {
  sorted = sorted;
  ordered = λ ordered. ordered;
  some_cuts = λ some. some;
  cuts_left = λ u other. same_cuts u other (same_payload key other) refl;
  points_left = λ u other. same_points (is_some (segment_at u (cuts_of groups other))) (has_point all u other);
}
  where
    same_points : (x h : Bool) → h ≡ cond (x && not x) false h
    same_points true h = refl
    same_points false h = refl

    same_cuts : (u : ℕ) (other : List Field) (b : Bool) → same_payload key other ≡ b → segment_at u (cuts_of groups other) ≡ cond b (left_from at (cuts_of groups other) u) (segment_at u (cuts_of groups other))
    same_cuts u other true h =
        let none : cuts_of groups other ≡ [] = ap (cuts_of groups) (sym (payload_exact key other h)) ∙ ap entries_of gone in
        subst (λ cs. segment_at u cs ≡ left_from at cs u) (sym none) (nothing_left at u)
    same_cuts u other false h = refl

-- a map that isn't said to be empty has some cut point
pub some_cuts_left : (cuts : BTreeMap ℕ Segment) (empty : Bool) → (length cuts.entries ≡ 0 → empty ≡ true) → empty ≡ false → (c : BTreeMap ℕ Segment) → Some cuts ≡ Some c → 0 < length c.entries
some_cuts_left cuts empty is h c e =
    let same : cuts ≡ c = cc in
    subst (λ (m : BTreeMap ℕ Segment). 0 < length m.entries) same
    (elim (cases_lt 0 (length cuts.entries)) [ inl some ↦ some | inr none ↦ absurd (let z = is (omega arith) in let e2 : true ≡ false = sym z ∙ h in cc) ])

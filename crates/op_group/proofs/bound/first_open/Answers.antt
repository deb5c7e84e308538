use Rattle.std.proofs.Common.{◌≡◌, ◌∷◌, true, sym, subst, refl, inl, inr, arith}
use Rattle.std.specs.List.Sorted.{IsStrictlySortedBy}
use Rattle.op_group.specs.Points.{point_cmp, has_point}
use Rattle.op_group.proofs.BoundLemmas.{head_least, head_there, tail_sorted, in_rest, from_rest, not_open}
use Rattle.op_group.proofs.bound.first_open.Goals as goal

pub returns-then-point-mark : goal.returns-then-point-mark
returns-then-point-mark c =
    let inv = c.loop-point.invariant in
    let p = c.in-Some.point.now in
    let rest = c.next.new.self in
    let is : c.loop-point.point-iterator ≡ c.in-Some.point.now ∷ c.next.new.self = c.in-Some.ensures.steps in
    record {
      is = inl refl;
      first = λ t key there before is_open. let low = head_least c.in-Some.point.now c.next.new.self t key (subst (λ ps. IsStrictlySortedBy point_cmp ps) is inv.sorted) (subst (λ ps. has_point ps t key ≡ true) is (inv.rest t key there before is_open)) in let late = c.if-point-mark.true in omega arith;
      within = omega arith;
    }

pub returns-then-is_open : goal.returns-then-is_open
returns-then-is_open c =
    let inv = c.loop-point.invariant in
    let is : c.loop-point.point-iterator ≡ c.in-Some.point.now ∷ c.next.new.self = c.in-Some.ensures.steps in
    let before = c.if-point-mark.false in
    record {
      is = inr (c.in-Some.point.now.key, inv.part c.in-Some.point.now.at c.in-Some.point.now.key (subst (λ ps. has_point ps c.in-Some.point.now.at c.in-Some.point.now.key ≡ true) (sym is) (head_there c.in-Some.point.now c.next.new.self)), before, c.is_open.ensures.0 c.if-is_open.true);
      first = λ t key there before is_open. head_least c.in-Some.point.now c.next.new.self t key (subst (λ ps. IsStrictlySortedBy point_cmp ps) is inv.sorted) (subst (λ ps. has_point ps t key ≡ true) is (inv.rest t key there before is_open));
      within = omega arith;
    }

pub loop-point-preserved : goal.loop-point-preserved
loop-point-preserved c =
    let inv = c.loop-point.invariant in
    let is : c.loop-point.point-iterator ≡ c.in-Some.point.now ∷ c.next.new.self = c.in-Some.ensures.steps in
    record {
      sorted = tail_sorted c.in-Some.point.now c.next.new.self (subst (λ ps. IsStrictlySortedBy point_cmp ps) is inv.sorted);
      part = λ t key there. inv.part t key (subst (λ ps. has_point ps t key ≡ true) (sym is) (from_rest c.in-Some.point.now c.next.new.self t key there));
      rest = λ t key there before is_open. in_rest c.in-Some.point.now c.next.new.self t key (λ same. not_open c.args.groups.now.entries c.in-Some.point.now t key c.args.mark c.is_open.result c.is_open.ensures.1 c.if-is_open.false same.0 same.1 is_open) (subst (λ ps. has_point ps t key ≡ true) is (inv.rest t key there before is_open));
    }

use Rattle.std.proofs.Common.{◌≡◌, ◌∙◌, ap, sym, subst, cond, Some, None, true, false, rules, refl}
use Rattle.std.specs.Map.{lookup}
use Rattle.std.specs.BTreeMap.{is_at}
use Rattle.cedr_base.specs.Order.{payload_cmp}
use Rattle.op_group.specs.declared.points.CutPoint.{CutPoint}
use Rattle.op_group.specs.State.{Settles}
use Rattle.op_group.proofs.ForgetLemmas.{settled_by, settled_gone, settled_none, some_cuts_left}
use Rattle.op_group.proofs.forget.settle.Goals as goal
use Rattle.op_group.proofs.forget.settle.Goals.{in-Some, in-None}

pub returns-then-is_gone : goal.returns-then-is_gone
returns-then-is_gone c = elim c.match-get_mut.branch [
  | in-Some w ↦
      let point_is : c.match-get_mut.point ≡ c.args.point = w.point-is ∙ w.settle_cuts-is_gone.ensures.point in
      let written = ((c.get_mut.follows.holds w.settle_cuts-is_gone.new.cuts).3 (search rules)).0 in
      subst (λ points. Settles c.args.point.at c.args.point.key c.args.groups.now.entries c.remove.new.self.entries c.args.all.now.keys points) (sym (ap (λ s. s.keys) w.all-is))
      (settled_gone c.args.point.at c.args.point.key c.args.groups.now.entries (c.get_mut.follows.lender w.settle_cuts-is_gone.new.cuts).entries c.remove.new.self.entries c.args.all.now.keys w.settle_cuts-is_gone.new.all.keys w.in-Some.cuts.now w.settle_cuts-is_gone.new.cuts
      (sym w.in-Some.ensures.value) written
      (λ q. c.remove.ensures.updates.0 q ∙ (ap (λ (p : CutPoint). cond (is_at (payload_cmp p.key) q) None (lookup (is_at (payload_cmp q)) c.match-get_mut.groups.entries)) point_is
      ∙ ap (λ m. cond (is_at (payload_cmp c.args.point.key) q) None (lookup (is_at (payload_cmp q)) m.entries)) w.groups-is))
      (w.settle_cuts-is_gone.ensures.empty.0 (sym w.is_gone-is ∙ c.if-is_gone.true)) w.settle_cuts-is_gone.ensures.cuts w.settle_cuts-is_gone.ensures.points c.remove.ensures.ordered w.settle_cuts-is_gone.ensures.ordered)
  | in-None w ↦ absurd (let e : true ≡ false = sym c.if-is_gone.true ∙ w.is_gone-is in cc)
]

pub returns : goal.returns
returns c = elim c.match-get_mut.branch [
  | in-Some w ↦
      let written = c.get_mut.follows.holds w.settle_cuts-is_gone.new.cuts in
      subst (λ groups. Settles c.args.point.at c.args.point.key c.args.groups.now.entries groups c.args.all.now.keys c.match-get_mut.all.keys) (sym (ap (λ m. m.entries) w.groups-is))
      (subst (λ points. Settles c.args.point.at c.args.point.key c.args.groups.now.entries (c.get_mut.follows.lender w.settle_cuts-is_gone.new.cuts).entries c.args.all.now.keys points) (sym (ap (λ s. s.keys) w.all-is))
      (settled_by c.args.point.at c.args.point.key c.args.groups.now.entries (c.get_mut.follows.lender w.settle_cuts-is_gone.new.cuts).entries c.args.all.now.keys w.settle_cuts-is_gone.new.all.keys w.in-Some.cuts.now w.settle_cuts-is_gone.new.cuts (Some w.settle_cuts-is_gone.new.cuts)
      (sym w.in-Some.ensures.value) ((written.3 (search rules)).0) refl
      (some_cuts_left w.settle_cuts-is_gone.new.cuts w.settle_cuts-is_gone.result w.settle_cuts-is_gone.ensures.empty.1 (sym w.is_gone-is ∙ c.if-is_gone.false))
      w.settle_cuts-is_gone.ensures.cuts w.settle_cuts-is_gone.ensures.points written.4 w.settle_cuts-is_gone.ensures.ordered))
  | in-None w ↦
      subst (λ groups. Settles c.args.point.at c.args.point.key c.args.groups.now.entries groups c.args.all.now.keys c.match-get_mut.all.keys) (sym (ap (λ m. m.entries) (w.groups-is ∙ c.get_mut.follows.holds-at-none)))
      (subst (λ points. Settles c.args.point.at c.args.point.key c.args.groups.now.entries c.args.groups.now.entries c.args.all.now.keys points) (sym (ap (λ s. s.keys) w.all-is))
      (settled_none c.args.point.at c.args.point.key c.args.groups.now.entries c.args.all.now.keys (sym w.in-None.ensures.value) c.get_mut.ensures.ordered))
]

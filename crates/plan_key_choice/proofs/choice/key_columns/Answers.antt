use Rattle.std.proofs.Common.{ℕ, List, arith, subst, sym}
use Rattle.std.specs.Prelude.{Vec}
use Rattle.std.specs.Global.{Global}
use Rattle.plan_key_choice.specs.Partial.{AreUnchosen, IsBarren}
use Rattle.plan_key_choice.proofs.Chosen.{barren_none, extends_none}
use Rattle.plan_key_choice.proofs.Clamped.{unkeyed}
use Rattle.plan_key_choice.proofs.choice.key_columns.Goals as goal

pub returns-in-Some-clause-fault : goal.returns-in-Some-clause-fault
returns-in-Some-clause-fault c =
    let nodes = c.as_slice-nodes.result.now in
    let candidates = c.in_ok-candidates.candidates.items in
    let barren : IsBarren candidates c.in-Some.node = subst (λ (items : List (Vec ℕ Global)). IsBarren items c.in-Some.node) c.deref.ensures.value c.in-Some.ensures in
    let there = barren.there in
    unkeyed c.args.plan.now.nodes.items nodes c.in-Some.node c.as_slice-nodes.ensures.value c.requires.nodes (barren_none candidates nodes c.in-Some.node c.in_ok-candidates.ensures.known barren) (omega (arith, there, c.in_ok-candidates.ensures.many))

pub returns-clause-fault : goal.returns-clause-fault
returns-clause-fault c =
    let unchosen : AreUnchosen c.deref_mut-2.result.now = subst AreUnchosen (sym c.deref_mut-2.ensures.value) c.in_ok-choice.ensures.unchosen in
    unkeyed c.args.plan.now.nodes.items c.as_slice-nodes.result.now c.search.new.progress.node c.as_slice-nodes.ensures.value c.requires.nodes
    (λ columns. c.in_ok-search.ensures.none c.if-branch.false columns (extends_none c.deref_mut-2.result.now columns unchosen)) c.search.ensures.node

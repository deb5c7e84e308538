use Rattle.std.proofs.Common.{◌≡◌, ◌++◌, ◌∷◌, [], ℕ, List, rules, sym, subst}
use Rattle.std.specs.Prelude.{Vec}
use Rattle.std.specs.Global.{Global}
use Rattle.plan_key_choice.specs.Partial.{AreCandidates}
use Rattle.plan_key_choice.proofs.Chosen.{IsNext, candidates_more, same_on}
use Rattle.plan_key_choice.proofs.candidate.candidates.Goals as goal

pub loop-place-preserved : goal.loop-place-preserved
loop-place-preserved c =
    let nodes = c.args.nodes.now in
    let before = c.loop-place.candidates.items in
    let made : c.push.new.self.items ≡ before ++ c.in_ok-own.own ∷ [] = search rules in
    record {
      known = subst (λ (items : List (Vec ℕ Global)). AreCandidates items nodes) (sym made)
          (candidates_more before c.in_ok-own.own nodes c.loop-place.place c.loop-place.invariant.many c.loop-place-test.true c.loop-place.invariant.known
          (subst (λ (items : List (Vec ℕ Global)). IsNext items c.in_ok-own.own nodes c.loop-place.place) c.deref.ensures.value c.in_ok-own.ensures.all));
      many = search rules;
      same = same_on c.candidates_of.new.choice c.loop-place.choice c.args.choice.now c.in_ok-own.ensures.same c.loop-place.invariant.same;
    }

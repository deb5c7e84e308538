use Rattle.std.proofs.Common.{◌≡◌, [], ◌∷◌, ◌++◌, List, sym, ◌∙◌, subst, rules, IsPermutation}
use Rattle.std.proofs.lemmas.List.Elements.{All-head}
use Rattle.std.specs.List.{All}
use Rattle.pool_queue.specs.declared.claim.Entry.{Entry}
use Rattle.pool_queue.specs.Passes.{IsOf, held_by}
use Rattle.pool_queue.proofs.Moves.{entries_of}
use Rattle.pool_queue.proofs.Seating.{joins_first, joins_next, joins_last}
use Rattle.pool_queue.proofs.close.close_tasks.Goals as goal

pub loop-other-init : goal.loop-other-init
loop-other-init g c =
    let is : c.args.passes.items ≡ c.in-Some.first ∷ c.pop_front.new.self.items = search rules in
    λ opened all. joins_first all.queue opened c.args.passes.items c.pop_front.new.self.items c.in-Some.first all.same is

pub absorb-requires : goal.absorb-requires
absorb-requires g c =
    let opened = c.requires.0 in
    let all = c.requires.1 in
    let so = c.loop-other.invariant opened all in
    let is : c.loop-other.left.items ≡ c.in-Some-pop_front.other ∷ c.pop_front-in-loop-other.new.self.items = search rules in
    (All-head (IsOf all.queue opened) c.in-Some-pop_front.other c.pop_front-in-loop-other.new.self.items (subst (All (IsOf all.queue opened)) is so.same)).0 ∙ sym so.of

pub loop-other-preserved : goal.loop-other-preserved
loop-other-preserved g c =
    let is : c.loop-other.left.items ≡ c.in-Some-pop_front.other ∷ c.pop_front-in-loop-other.new.self.items = search rules in
    λ opened all. joins_next all.queue opened c.args.passes.items c.loop-other.left.items c.pop_front-in-loop-other.new.self.items c.loop-other.whole c.absorb.new.self c.in-Some-pop_front.other (c.loop-other.invariant opened all) is c.absorb.ensures

pub drain-requires : goal.drain-requires
drain-requires g c =
    let opened = c.requires.0 in
    let all = c.requires.1 in
    let none : c.loop-other.left.items ≡ [] = search rules in
    (joins_last all.queue opened c.args.passes.items c.loop-other.left.items c.loop-other.whole (c.loop-other.invariant opened all) none).0 ∙ all.whole

pub returns : goal.returns
returns g c =
    let none : c.loop-other.left.items ≡ [] = search rules in
    λ opened all.
    let last = joins_last all.queue opened c.args.passes.items c.loop-other.left.items c.loop-other.whole (c.loop-other.invariant opened all) none in
    let left = entries_of g.T.Placed.place c.drain.result.items in
    subst (λ (o : List (Entry _)). IsPermutation (left ++ held_by c.args.passes.items) o) last.2 (subst (λ (h : List (Entry _)). IsPermutation (left ++ h) c.loop-other.whole.opened) last.1 c.drain.ensures)

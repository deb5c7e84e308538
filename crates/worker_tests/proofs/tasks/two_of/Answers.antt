use Rattle.std.proofs.Common.{◌≡◌, ◌∷◌, rules}
use Rattle.worker_tests.proofs.TwoPasses.{two_items}
use Rattle.worker_tests.proofs.tasks.two_of.Goals as goal

pub returns : goal.returns
returns c =
    let first : c.args.passes.items ≡ c.in-Some.first ∷ c.pop_front.new.self.items = search rules in
    let second : c.pop_front.new.self.items ≡ c.in-Some-pop_front.second ∷ c.pop_front-2.new.self.items = search rules in
    two_items c.args.passes.items c.pop_front.new.self.items c.pop_front-2.new.self.items c.in-Some.first c.in-Some-pop_front.second first second c.requires

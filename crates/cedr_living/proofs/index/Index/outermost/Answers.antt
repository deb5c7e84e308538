use Rattle.std.proofs.Common.{false, true, ◌∙◌}
use Rattle.std.specs.Option.{option_copied}
use Rattle.cedr_living.specs.Outer.{outer_cmp, IsSeenField, first_of_both}
use Rattle.cedr_living.proofs.OuterLemmas.{side_order, both_first}
use Rattle.cedr_living.proofs.IndexLemmas.{first_seen}
use Rattle.cedr_living.proofs.index.Index.outermost.Goals as goal

pub returns : goal.returns
returns c = λ lives keeps.
    let one = option_copied c.outermost-piece.result in
    let other = option_copied c.outermost-rest.result in
    c.outer.ensures
    ∙ first_seen c.args.self.now lives keeps c.args.column c.args.at c.requires c.args.side (first_of_both (outer_cmp c.args.side) one other)
    (both_first (outer_cmp c.args.side) (side_order c.args.side) (IsSeenField c.args.self.now.pieces false c.args.column c.args.at) (IsSeenField c.args.self.now.rests true c.args.column c.args.at) one other c.outermost-piece.ensures c.outermost-rest.ensures)

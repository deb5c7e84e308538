use Rattle.std.proofs.Common.{◌∙◌, ap, sym}
use Rattle.std.specs.List.{filter}
use Rattle.pat_state.specs.Starts.{begins_within}
use Rattle.pat_state.specs.Groups.{seen}
use Rattle.pat_state.proofs.FindLemmas.{seen_within}
use Rattle.pat_state.proofs.keyed.Keyed.within.Goals as goal

pub returns-in-Some-clause-rows : goal.returns-in-Some-clause-rows
returns-in-Some-clause-rows c =
    c.within.ensures.rows
    ∙ (seen_within c.in-Some.tag c.args.from c.args.before c.args.self.now.tags
    ∙ ap (λ tag. filter (begins_within c.args.from c.args.before) (seen tag c.args.self.now)) (sym c.in-Some.is))

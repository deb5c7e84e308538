use Rattle.std.proofs.Common.{◌∙◌}
use Rattle.pat_state.proofs.WithinLemmas.{all_within}
use Rattle.pat_state.proofs.by_tag.ByTag.all.Goals as goal

pub returns-clause-rows : goal.returns-clause-rows
returns-clause-rows c = c.range.ensures.rows tt ∙ (all_within c.self.inside.rows ∙ c.self.view_is)

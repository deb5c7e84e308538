use Rattle.std.proofs.Common.{◌++◌, ◌∙◌, ap, sym}
use Rattle.std.proofs.lemmas.List.{append-nil}
use Rattle.pat_state.specs.Steps.{begun}
use Rattle.pat_state.proofs.PairLemmas.{fails_copies}
use Rattle.pat_state.proofs.pairs.push_first.Goals as goal

pub returns-then-not-holds : goal.returns-then-not-holds
returns-then-not-holds c = sym (ap (λ rows. c.args.rows.now.items ++ rows) (fails_copies c.args.tests.now (begun c.args.scope c.args.first.now) c.args.second.now c.args.count (sym c.holds.ensures ∙ c.if-not-holds.true)) ∙ append-nil c.args.rows.now.items)

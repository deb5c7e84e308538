use Rattle.std.proofs.Common.{subst}
use Rattle.pat_state.proofs.ForgetLemmas.{forgotten_reach}
use Rattle.pat_state.proofs.HeldLemmas.{both_reach}
use Rattle.pat_state.specs.Groups.{grouped_rows}
use Rattle.pat_seq.specs.Keeping.{AreKept}
use Rattle.pat_seq.specs.declared.kept.Kept.{Kept}
use Rattle.pat_seq.proofs.kept.Kept.forget.Goals as goal

pub returns-in-Two-clause-tags : goal.returns-in-Two-clause-tags
returns-in-Two-clause-tags c = c.forget.ensures.tied c.args.tests.now (subst (λ (kept : Kept). AreKept c.args.tests.now kept) c.in-Two.is c.requires)

pub returns-in-Two-clause-held : goal.returns-in-Two-clause-held
returns-in-Two-clause-held c = both_reach c.args.scope c.args.time _ _ c.forget.ensures.held

pub returns-in-More-clause-held : goal.returns-in-More-clause-held
returns-in-More-clause-held c = forgotten_reach c.args.scope c.args.time (grouped_rows c.in-More.grouped) (grouped_rows c.forget-in-More.new.self) c.forget-in-More.ensures.rows

use Rattle.std.proofs.Common.{sym, subst}
use Rattle.cedr_base.specs.Stored.{AreWritten}
use Rattle.cedr_base.proofs.writer.counted.Goals as goal

pub written-requires : goal.written-requires
written-requires c = (c.requires.0, subst (λ w. AreWritten c.args.code w c.requires.0) (sym c.in_ok-width.ensures) c.requires.1)

pub returns : goal.returns
returns c = λ fields holds. c.written.ensures fields (subst (λ w. AreWritten c.args.code w fields) (sym c.in_ok-width.ensures) holds)

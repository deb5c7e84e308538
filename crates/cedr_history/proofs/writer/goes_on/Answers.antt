use Rattle.std.proofs.Common.{sym, subst}
use Rattle.cedr_history.specs.declared.listed.Listed.{Listed}
use Rattle.cedr_history.specs.Lists.{Extends}
use Rattle.cedr_history.specs.Ends.{list_of}
use Rattle.cedr_history.proofs.Extending.{extends_begins}
use Rattle.cedr_history.proofs.writer.goes_on.Goals as goal

pub returns : goal.returns
returns c = subst (λ (l : Listed). Extends l (list_of c.args.all.now)) (sym c.requires.0) (extends_begins c.args.version.now.front c.args.all.now c.requires.1)

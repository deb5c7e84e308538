use Rattle.std.proofs.Common.{subst}
use Rattle.cedr_history.specs.Lists.{Extends}
use Rattle.cedr_history.specs.Ends.{ReaderSeen, NoteSeen, list_of}
use Rattle.cedr_history.proofs.Extending.{extends_begins}
use Rattle.cedr_history.proofs.reader.Reader.learn.Goals as goal

pub returns-then-last-clause-seen : goal.returns-then-last-clause-seen
returns-then-last-clause-seen c = subst (λ (r : ReaderSeen). Extends r.seen (list_of c.longer.result)) c.self.view_is (extends_begins c.self.inside.floor c.longer.result c.longer.ensures.this)

pub returns-then-last-clause-noted : goal.returns-then-last-clause-noted
returns-then-last-clause-noted c = subst (λ (n : NoteSeen). Extends n.list (list_of c.longer.result)) c.note.view_is (extends_begins c.note.inside.front c.longer.result c.longer.ensures.that)

pub returns-else-last-clause-seen : goal.returns-else-last-clause-seen
returns-else-last-clause-seen c = subst (λ (r : ReaderSeen). Extends r.seen (list_of c.longer.result)) c.self.view_is (extends_begins c.self.inside.floor c.longer.result c.longer.ensures.this)

pub returns-else-last-clause-noted : goal.returns-else-last-clause-noted
returns-else-last-clause-noted c = subst (λ (n : NoteSeen). Extends n.list (list_of c.longer.result)) c.note.view_is (extends_begins c.note.inside.front c.longer.result c.longer.ensures.that)

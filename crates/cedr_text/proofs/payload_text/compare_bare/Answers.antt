use Rattle.std.proofs.Common.{sym}
use Rattle.cedr_text.proofs.TextRowLemmas.{after_none, none_first}
use Rattle.cedr_text.proofs.payload_text.compare_bare.Goals as goal

pub returns-in-Some-None : goal.returns-in-Some-None
returns-in-Some-None c = rw (← c.bare.view_is, ← c.other.view_is, c.in-Some-None.is-0, c.in-Some-None.is-1) (sym (after_none c.in-Some-None.field-0-0.now))

pub returns-in-None-Some : goal.returns-in-None-Some
returns-in-None-Some c = rw (← c.bare.view_is, ← c.other.view_is, c.in-None-Some.is-0, c.in-None-Some.is-1) (sym (none_first c.in-None-Some.field-0-1.now))

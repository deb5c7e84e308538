use Rattle.cedr_table.proofs.either.EitherOperator.trim.Goals as goal

pub returns-in-First-clause-stands : goal.returns-in-First-clause-stands
returns-in-First-clause-stands g c = rw c.in-First.is c.trim.ensures.stands

pub returns-in-First-clause-held : goal.returns-in-First-clause-held
returns-in-First-clause-held g c = rw c.in-First.is c.trim.ensures.held

pub returns-in-Second-clause-stands : goal.returns-in-Second-clause-stands
returns-in-Second-clause-stands g c = rw c.in-Second.is c.trim-in-Second.ensures.stands

pub returns-in-Second-clause-held : goal.returns-in-Second-clause-held
returns-in-Second-clause-held g c = rw c.in-Second.is c.trim-in-Second.ensures.held

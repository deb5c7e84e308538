use Rattle.node_laws.proofs.Ends.{ends_broken}
use Rattle.node_laws.proofs.Giving.{lists_count, lawful_fits, lawful_waits, lawful_breaks, lawful_unbroken, lawful_legal, lawful_opened, lawful_echo}
use Rattle.node_laws.proofs.laws.lawful_giving.Goals as goal

pub returns-clause-count : goal.returns-clause-count
returns-clause-count c = lists_count

pub returns-clause-fits : goal.returns-clause-fits
returns-clause-fits c = lawful_fits

pub returns-clause-nothing : goal.returns-clause-nothing
returns-clause-nothing c = lawful_waits

pub returns-clause-broken : goal.returns-clause-broken
returns-clause-broken c = lawful_breaks

pub returns-clause-unbroken : goal.returns-clause-unbroken
returns-clause-unbroken c = lawful_unbroken

pub returns-clause-legal : goal.returns-clause-legal
returns-clause-legal c = lawful_legal

pub returns-clause-opened : goal.returns-clause-opened
returns-clause-opened c = lawful_opened

pub returns-clause-once : goal.returns-clause-once
returns-clause-once c = λ meaning levels lists given lawful legal broken. ends_broken given (lawful_legal meaning levels lists given lawful legal) broken

pub returns-clause-echo : goal.returns-clause-echo
returns-clause-echo c = λ meaning levels lists given lawful legal echoes one. lawful_echo meaning echoes levels lists given lawful legal one

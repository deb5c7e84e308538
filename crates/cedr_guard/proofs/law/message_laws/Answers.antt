use Rattle.cedr_guard.proofs.MessageLemmas.{accepted_messages, messages-more, table_is_history}
use Rattle.cedr_guard.proofs.LineMessages.{by_line}
use Rattle.cedr_guard.proofs.SourceLemmas.{source_messages_legal, source_messages_table}
use Rattle.cedr_guard.specs.Messages.{messages_behind}
use Rattle.std.specs.Prelude.{[]}
use Rattle.cedr_guard.proofs.law.message_laws.Goals as goal

pub returns-clause-guard : goal.returns-clause-guard
returns-clause-guard c = λ guard lines guards.
    let are = accepted_messages lines guards.accepted in
    (are.legal, table_is_history lines (messages_behind [] lines) are.all)

pub returns-clause-answers : goal.returns-clause-answers
returns-clause-answers c = messages-more

pub returns-clause-legal : goal.returns-clause-legal
returns-clause-legal c = λ lines accepted. (accepted_messages lines accepted).legal

pub returns-clause-table : goal.returns-clause-table
returns-clause-table c = λ lines accepted. table_is_history lines (messages_behind [] lines) (accepted_messages lines accepted).all

pub returns-clause-source_legal : goal.returns-clause-source_legal
returns-clause-source_legal c = source_messages_legal c.reading_law.ensures

pub returns-clause-source_table : goal.returns-clause-source_table
returns-clause-source_table c = source_messages_table c.reading_law.ensures

pub returns-clause-by_line : goal.returns-clause-by_line
returns-clause-by_line c = by_line

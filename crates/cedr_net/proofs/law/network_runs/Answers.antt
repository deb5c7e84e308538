use Rattle.std.proofs.Common.{subst}
use Rattle.cedr_base.specs.Rows.{SameRows}
use Rattle.cedr_table.specs.Operators.{Tables, table_at}
use Rattle.cedr_plan.specs.Places.{output_place}
use Rattle.cedr_net.specs.Flows.{reads_of}
use Rattle.cedr_net.proofs.PortLemmas.{port_width, has_port}
use Rattle.cedr_net.proofs.RunLemmas.{partial_run, settled_run, answer_is, query_is}
use Rattle.cedr_net.proofs.law.network_runs.Goals as goal

pub returns-clause-widths : goal.returns-clause-widths
returns-clause-widths c = λ nodes net ports given h. port_width nodes net.flow ports given h.stands

pub returns-clause-ports : goal.returns-clause-ports
returns-clause-ports c = λ nodes net ports given h. has_port nodes net.flow ports given h.stands

pub returns-clause-legal : goal.returns-clause-legal
returns-clause-legal c = λ nodes net ports given h. h.stands.flows.legal

pub returns-clause-partial : goal.returns-clause-partial
returns-clause-partial c = λ nodes net ports given h. partial_run nodes (reads_of nodes) net.flow.waiting.items net.flow.works.items ports given h.stands.flows

pub returns-clause-settled : goal.returns-clause-settled
returns-clause-settled c = λ nodes net ports given h none. settled_run nodes (reads_of nodes) net.flow.waiting.items net.flow.works.items ports given h.stands.flows none

pub returns-clause-answer : goal.returns-clause-answer
returns-clause-answer c = λ nodes net ports given h none whole tables are rows table.
    answer_is nodes (reads_of nodes) net.flow.waiting.items net.flow.works.items ports given h.stands.flows none whole tables are (output_place nodes) rows h.stands.output_within table

pub returns-clause-query : goal.returns-clause-query
returns-clause-query c = λ nodes net ports given h none whole remembers tables are rows table.
    subst (λ (all : Tables). SameRows rows (table_at all (output_place nodes))) (query_is nodes (reads_of nodes) net.flow.waiting.items net.flow.works.items ports given h.stands.flows none remembers tables)
    (answer_is nodes (reads_of nodes) net.flow.waiting.items net.flow.works.items ports given h.stands.flows none whole tables are (output_place nodes) rows h.stands.output_within table)

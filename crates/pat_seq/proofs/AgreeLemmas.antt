-- Sequences of tables that agree.
use Rattle.std.proofs.Common.{ℕ, List, refl}
use Rattle.cedr_table.specs.Operators.{least_of}
use Rattle.cedr_table.specs.Agreements.{KeepsAgreement}
use Rattle.cedr_table.proofs.PortsAgree.{least_agree}
use Rattle.cedr_table.proofs.ChoicesAgree.{chosen_agree}
use Rattle.cedr_expr.specs.declared.test.Test.{Test}
use Rattle.pat_state.specs.Ascending.{sequence}
use Rattle.pat_state.proofs.SeenLemmas.{sequence_sees}
use Rattle.pat_seq.specs.Sequences.{sequence_of}

-- a sequence keeps agreement
pub sequence_keeps : (ports scope : ℕ) (tests : List Test) → KeepsAgreement (sequence_of ports scope tests)
sequence_keeps ports scope tests = record {
  agree = λ tables others marks rows others_rows h. chosen_agree (least_of marks) (sequence scope tests) tables others (λ q. sequence_sees (least_of marks) q scope tests) (least_agree marks tables others rows others_rows h);
  same_bound = λ tables others marks rows others_rows h. refl;
}

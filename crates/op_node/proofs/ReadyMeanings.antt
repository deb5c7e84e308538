-- What a node means that is as an accepted plan has it keeps the laws of meanings.
use Rattle.std.specs.List.{flat_map}
use Rattle.std.proofs.Common.{◌≡◌, ℕ, zero, suc, ◌<◌, ◌≤◌, List, length, replicate, ap, refl, subst, sym, arith}
use Rattle.cedr_base.specs.declared.time.TheConstants.{FOREVER}
use Rattle.cedr_base.specs.declared.row.Row.{Row}
use Rattle.cedr_base.specs.Rows.{AreRows}
use Rattle.cedr_expr.specs.declared.test.Test.{Test}
use Rattle.cedr_expr.specs.Tests.{passes}
use Rattle.cedr_plan.specs.declared.plan.NodeKind.{NodeKind}
use Rattle.cedr_plan.specs.declared.plan.NodeKind.TheVariants as kind
use Rattle.cedr_plan.specs.declared.plan.PlanNode.{PlanNode}
use Rattle.cedr_plan.specs.Drawn.{Node, node_of}
use Rattle.change_laws.proofs.BagSums.{same_flat_map}
use Rattle.cedr_table.specs.Operators.{Tables, HaveRows, table_at, mark_at, least_of}
use Rattle.cedr_table.specs.PortLaws.{same_at, rise_at, time_at, least_rises, least_is_time}
use Rattle.cedr_table.specs.RowWise.{row_wise}
use Rattle.op_row.specs.Rows.{selected, projected}
use Rattle.op_row.specs.Unions.{union_of}
use Rattle.op_row.specs.UnionLaws.{same_united, nothing_united}
use Rattle.op_join.specs.Joins.{join_of, joined_rows}
use Rattle.op_except.specs.Parts.{except_of, all_excepted}
use Rattle.op_except.specs.ExceptLaws.{same_result, same_bound}
use Rattle.op_except.specs.OpenLaws.{open_mark, open_rises as parts_rise}
use Rattle.op_life.specs.Lifetimes.{with_life, windowed, shifted, shifted_mark, hopped, hopped_mark, started, ended}
use Rattle.op_life.specs.LifetimeLaws.{multiple_least, shifted_rises, shifted_is_time, hopped_rises, hopped_is_time}
use Rattle.op_group.specs.Groups.{Grouping, grouping_by, group_of, grouped}
use Rattle.op_group.specs.GroupLaws.{same_grouped}
use Rattle.op_group.specs.BoundLaws.{open_rises, same_open}
use Rattle.op_group.specs.StateLaws.{open_is_time}
use Rattle.pat_seq.specs.Sequences.{sequence, sequence_of}
use Rattle.pat_seq.specs.SequenceLaws.{no_sequence}
use Rattle.cedr_table.proofs.ChoiceLemmas.{same_chosen, nothing_chosen}
use Rattle.pat_unless.specs.Blocking.{unless_of}
use Rattle.pat_unless.specs.BlockingLaws.{same_unblocked}
use Rattle.pat_atleast.specs.AtLeasts.{at_least_of}
use Rattle.pat_atleast.specs.AtLeastLaws.{same_at_least, no_at_least}
use Rattle.cedr_table.specs.Agreements.{KeepsAgreement}
use Rattle.op_row.proofs.AgreeLemmas.{select_keeps, project_keeps, union_keeps}
use Rattle.op_row.proofs.RowsMade.{select_rows, project_rows, union_rows}
use Rattle.op_life.proofs.AgreeLemmas.{window_keeps, shift_keeps, hop_keeps, starts_keep, ends_keep}
use Rattle.op_life.proofs.RowsMade.{life_rows}
use Rattle.op_join.proofs.AgreeLemmas.{join_keeps}
use Rattle.op_join.proofs.RowsMade.{join_rows}
use Rattle.pat_seq.proofs.AgreeLemmas.{sequence_keeps}
use Rattle.pat_seq.proofs.RowsMade.{sequence_rows}
use Rattle.pat_unless.proofs.AgreeLemmas.{unless_keeps}
use Rattle.pat_unless.proofs.RowsMade.{unless_rows}
use Rattle.pat_atleast.proofs.AgreeLemmas.{at_least_keeps}
use Rattle.pat_atleast.proofs.RowsMade.{at_least_rows}
use Rattle.op_except.proofs.AgreeLemmas.{except_keeps}
use Rattle.op_except.proofs.RowsMade.{except_rows}
use Rattle.op_group.proofs.AgreeLemmas.{group_keeps}
use Rattle.op_group.proofs.RowsMade.{group_rows}
use Rattle.op_node.specs.Outputs.{handed_on}
use Rattle.op_node.specs.Meanings.{node_meaning, meaning_of}
use Rattle.op_node.specs.MeaningLaws.{MeaningLaws}
use Rattle.op_node.specs.Ready.{IsReady}

-- a mark is handed on as it is, or as a time that rises with it and is 0 at 0
row_wise_meaning : (image : Row → List Row) (guarantee : ℕ → ℕ) → KeepsAgreement (row_wise image guarantee) → ((tables : Tables) → HaveRows tables → AreRows (flat_map image (table_at tables 0))) → guarantee 0 ≡ 0 → ((mark higher : ℕ) → mark ≤ higher → guarantee mark ≤ guarantee higher) → ((mark : ℕ) → mark ≤ FOREVER → guarantee mark ≤ FOREVER)
    → MeaningLaws (row_wise image guarantee) 1
row_wise_meaning image guarantee agrees rows first rises is_time = record {
  agrees = agrees;
  rows = rows;
  ports = (refl, omega arith);
  same_result = λ tables others k. same_flat_map image (table_at tables 0) (table_at others 0) (same_at 0 tables others k);
  same_bound = λ tables others marks k. refl;
  bound_is_time = λ tables marks table mark k. is_time (mark_at marks 0) (time_at 0 marks k);
  bound_rises = λ tables marks later k. rises (mark_at marks 0) (mark_at later 0) (rise_at 0 marks later k);
  nothing = record { each = λ r. refl };
  first_bound = first;
  echo = λ e. cc;
}

-- the mark is the bound
plain_meaning : (image : Row → List Row) → KeepsAgreement (row_wise image (λ mark. mark)) → ((tables : Tables) → HaveRows tables → AreRows (flat_map image (table_at tables 0))) → MeaningLaws (row_wise image (λ mark. mark)) 1
plain_meaning image agrees rows = row_wise_meaning image (λ mark. mark) agrees rows refl (λ mark higher rise. rise) (λ mark h. h)

-- the least of marks of 0
least_zeros : (n : ℕ) → 0 < n → least_of (replicate n 0) ≡ 0
least_zeros zero h = absurd (omega arith)
least_zeros (suc n) h = omega arith

union_meaning : (n : ℕ) → 2 ≤ n → MeaningLaws (union_of n) n
union_meaning n many = record {
  agrees = union_keeps n;
  rows = union_rows;
  ports = (refl, omega arith);
  same_result = same_united;
  same_bound = λ tables others marks k. refl;
  bound_is_time = λ tables marks table mark k. least_is_time marks;
  bound_rises = λ tables marks later k. least_rises marks later k;
  nothing = nothing_united n;
  first_bound = least_zeros n (omega arith);
  echo = λ e. cc;
}

join_meaning : (tests : List Test) → MeaningLaws (join_of tests) 2
join_meaning tests = record {
  agrees = join_keeps tests;
  rows = join_rows tests;
  ports = (refl, omega arith);
  same_result = λ tables others k. same_chosen (joined_rows (passes tests)) tables others k;
  same_bound = λ tables others marks k. refl;
  bound_is_time = λ tables marks table mark k. least_is_time marks;
  bound_rises = λ tables marks later k. least_rises marks later k;
  nothing = nothing_chosen (joined_rows (passes tests)) 1;
  first_bound = refl;
  echo = λ e. cc;
}

sequence_meaning : (n scope : ℕ) (tests : List Test) → 2 ≤ n → MeaningLaws (sequence_of n scope tests) n
sequence_meaning n scope tests many = record {
  agrees = sequence_keeps n scope tests;
  rows = sequence_rows scope tests;
  ports = (refl, omega arith);
  same_result = λ tables others k. same_chosen (sequence scope tests) tables others k;
  same_bound = λ tables others marks k. refl;
  bound_is_time = λ tables marks table mark k. least_is_time marks;
  bound_rises = λ tables marks later k. least_rises marks later k;
  nothing = no_sequence scope tests n;
  first_bound = least_zeros n (omega arith);
  echo = λ e. cc;
}

unless_meaning : (scope hold : ℕ) (tests : List Test) → MeaningLaws (unless_of scope hold tests) 2
unless_meaning scope hold tests = record {
  agrees = unless_keeps scope hold tests;
  rows = unless_rows scope hold tests;
  ports = (refl, omega arith);
  same_result = λ tables others k. same_unblocked scope hold tests tables others k;
  same_bound = λ tables others marks k. refl;
  bound_is_time = λ tables marks table mark k. least_is_time marks;
  bound_rises = λ tables marks later k. least_rises marks later k;
  nothing = record { each = λ r. refl };
  first_bound = refl;
  echo = λ e. cc;
}

at_least_meaning : (n number scope : ℕ) (tests : List Test) → 2 ≤ n → MeaningLaws (at_least_of n number scope tests) n
at_least_meaning n number scope tests many = record {
  agrees = at_least_keeps n number scope tests;
  rows = at_least_rows number scope tests;
  ports = (refl, omega arith);
  same_result = λ tables others k. same_at_least number scope tests tables others k;
  same_bound = λ tables others marks k. refl;
  bound_is_time = λ tables marks table mark k. least_is_time marks;
  bound_rises = λ tables marks later k. least_rises marks later k;
  nothing = no_at_least number scope tests n;
  first_bound = least_zeros n (omega arith);
  echo = λ e. cc;
}

except_meaning : (tests : List Test) → MeaningLaws (except_of tests) 2
except_meaning tests = record {
  agrees = except_keeps tests;
  rows = except_rows tests;
  ports = (refl, omega arith);
  same_result = same_result tests;
  same_bound = same_bound tests;
  bound_is_time = λ tables marks table mark k. omega (arith, open_mark (least_of marks) (all_excepted tests tables), least_is_time marks);
  bound_rises = λ tables marks later k. parts_rise (least_of marks) (least_of later) (all_excepted tests tables) (least_rises marks later k);
  nothing = record { each = λ r. refl };
  first_bound = refl;
  echo = λ e. cc;
}

group_meaning : (g : Grouping) → MeaningLaws (group_of g) 1
group_meaning g = record {
  agrees = group_keeps g;
  rows = group_rows g;
  ports = (refl, omega arith);
  same_result = λ tables others k. same_grouped g (table_at tables 0) (table_at others 0) (same_at 0 tables others k);
  same_bound = λ tables others marks k. same_open (mark_at marks 0) (grouped g (table_at tables 0)) (grouped g (table_at others 0)) (same_grouped g (table_at tables 0) (table_at others 0) (same_at 0 tables others k));
  bound_is_time = λ tables marks table mark k. open_is_time (mark_at marks 0) (grouped g (table_at tables 0)) (time_at 0 marks k);
  bound_rises = λ tables marks later k. open_rises (mark_at marks 0) (mark_at later 0) (grouped g (table_at tables 0)) (rise_at 0 marks later k);
  nothing = record { each = λ r. refl };
  first_bound = refl;
  echo = λ e. cc;
}

output_keeps : KeepsAgreement handed_on
output_keeps = record { agree = λ tables others marks rows others_rows h. h.each 0; same_bound = λ tables others marks rows others_rows h. refl }

output_meaning : MeaningLaws handed_on 1
output_meaning = record {
  agrees = output_keeps;
  rows = λ tables have. have.each 0;
  ports = (refl, omega arith);
  same_result = λ tables others k. same_at 0 tables others k;
  same_bound = λ tables others marks k. refl;
  bound_is_time = λ tables marks table mark k. time_at 0 marks k;
  bound_rises = λ tables marks later k. rise_at 0 marks later k;
  nothing = record { each = λ r. refl };
  first_bound = refl;
  echo = λ e. (refl, λ tables mark. refl);
}

at_count : (k : NodeKind) (count ports : ℕ) → ports ≡ count → MeaningLaws (node_meaning k count) count → MeaningLaws (node_meaning k ports) ports
at_count k count ports is laws = subst (λ (n : ℕ). MeaningLaws (node_meaning k n) n) (sym is) laws

-- a node that is ready keeps the laws
pub ready_meaning : (k : NodeKind) (ports : ℕ) → IsReady k ports → MeaningLaws (node_meaning k ports) ports
ready_meaning (kind.Source file) ports ready = absurd ready
ready_meaning (kind.Select tests) ports ready = at_count (kind.Select tests) 1 ports ready (plain_meaning (selected tests) (select_keeps tests) (select_rows tests))
ready_meaning (kind.Project keep) ports ready = at_count (kind.Project keep) 1 ports ready (plain_meaning (projected keep) (project_keeps keep) (project_rows keep))
ready_meaning kind.Union ports ready = union_meaning ports ready.0
ready_meaning (kind.Join tests) ports ready = at_count (kind.Join tests) 2 ports ready (join_meaning tests)
ready_meaning (kind.Window width) ports ready = at_count (kind.Window width) 1 ports ready.0 (plain_meaning (with_life (windowed width)) (window_keeps width) (life_rows (windowed width) (λ begin end is_time. omega arith)))
ready_meaning (kind.Shift by) ports ready =
    at_count (kind.Shift by) 1 ports ready.0 (row_wise_meaning (with_life (shifted by)) (shifted_mark by) (shift_keeps by) (life_rows (shifted by) (λ begin end is_time. omega arith)) refl (shifted_rises by) (λ mark h. shifted_is_time by mark))
ready_meaning (kind.Hop every width) ports ready =
    at_count (kind.Hop every width) 1 ports ready.0
    (row_wise_meaning (with_life (hopped every width)) (hopped_mark every) (hop_keeps every width ready.1.least) (life_rows (hopped every width) (λ begin end is_time. omega arith)) (let h = multiple_least every 0 in omega arith) (λ mark higher rise. hopped_rises every mark higher ready.1.least rise) (λ mark h. hopped_is_time every mark))
ready_meaning kind.Starts ports ready = at_count kind.Starts 1 ports ready (plain_meaning (with_life started) starts_keep (life_rows started (λ begin end is_time. omega arith)))
ready_meaning kind.Ends ports ready = at_count kind.Ends 1 ports ready (plain_meaning (with_life ended) ends_keep (life_rows ended (λ begin end is_time. omega arith)))
ready_meaning (kind.Group keys count sums least greatest) ports ready = at_count (kind.Group keys count sums least greatest) 1 ports ready (group_meaning (grouping_by keys count sums least greatest))
ready_meaning (kind.Sequence scope tests) ports ready = sequence_meaning ports scope tests ready.0
ready_meaning (kind.Unless scope hold tests) ports ready = at_count (kind.Unless scope hold tests) 2 ports ready.0 (unless_meaning scope hold tests)
ready_meaning (kind.AtLeast number scope tests) ports ready = at_least_meaning ports number scope tests ready.0
ready_meaning (kind.Except tests) ports ready = at_count (kind.Except tests) 2 ports ready (except_meaning tests)
ready_meaning kind.Output ports ready = at_count kind.Output 1 ports ready output_meaning

-- nodes that are the same as parts of a plan mean the same
pub alike : (a b : PlanNode) → node_of a ≡ node_of b → meaning_of a ≡ meaning_of b
alike a b same = ap (λ (node : Node). node_meaning node.kind (length node.inputs)) same

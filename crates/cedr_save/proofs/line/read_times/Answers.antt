use Rattle.std.proofs.Common.{ℕ, Option, Some, ap, ◌∙◌}
use Rattle.cedr_save.proofs.ReadLemmas.{id_cut, begin_cut, end_cut, left_none, left_some, none_some, some_number}
use Rattle.cedr_save.proofs.line.read_times.Goals as goal

pub returns-in_err-rest-clause-all : goal.returns-in_err-rest-clause-all
returns-in_err-rest-clause-all c = λ e state fits is.
    let one = id_cut c.args.line.now e c.cut_number-id.result.0 c.cut_number-id.result.1 state fits is c.cut_number-id.ensures in
    absurd (left_none c.cut_number-id.result.1 _ _ c.in_err-rest.was one.1.1)

pub returns-in_err-rest-2-clause-all : goal.returns-in_err-rest-2-clause-all
returns-in_err-rest-2-clause-all c = λ e state fits is.
    let one = id_cut c.args.line.now e c.cut_number-id.result.0 c.cut_number-id.result.1 state fits is c.cut_number-id.ensures in
    let two = begin_cut c.in_ok-rest.field-0.now e one.1.0 c.cut_number-begin.result.0 c.cut_number-begin.result.1 state (left_some c.cut_number-id.result.1 c.in_ok-rest.field-0 _ c.in_ok-rest.was one.1.1) c.cut_number-begin.ensures in
    absurd (left_none c.cut_number-begin.result.1 _ _ c.in_err-rest-2.was two.1)

pub returns-in_err-id-clause-all : goal.returns-in_err-id-clause-all
returns-in_err-id-clause-all c = λ e state fits is.
    let one = id_cut c.args.line.now e c.cut_number-id.result.0 c.cut_number-id.result.1 state fits is c.cut_number-id.ensures in
    absurd (none_some c.cut_number-id.result.0 e.id c.in_err-id.was one.0)

pub returns-in_err-begin-clause-all : goal.returns-in_err-begin-clause-all
returns-in_err-begin-clause-all c = λ e state fits is.
    let one = id_cut c.args.line.now e c.cut_number-id.result.0 c.cut_number-id.result.1 state fits is c.cut_number-id.ensures in
    let two = begin_cut c.in_ok-rest.field-0.now e one.1.0 c.cut_number-begin.result.0 c.cut_number-begin.result.1 state (left_some c.cut_number-id.result.1 c.in_ok-rest.field-0 _ c.in_ok-rest.was one.1.1) c.cut_number-begin.ensures in
    absurd (none_some c.cut_number-begin.result.0 e.begin c.in_err-begin.was two.0)

pub returns-in_err-end-clause-all : goal.returns-in_err-end-clause-all
returns-in_err-end-clause-all c = λ e state fits is.
    let one = id_cut c.args.line.now e c.cut_number-id.result.0 c.cut_number-id.result.1 state fits is c.cut_number-id.ensures in
    let two = begin_cut c.in_ok-rest.field-0.now e one.1.0 c.cut_number-begin.result.0 c.cut_number-begin.result.1 state (left_some c.cut_number-id.result.1 c.in_ok-rest.field-0 _ c.in_ok-rest.was one.1.1) c.cut_number-begin.ensures in
    let three = end_cut c.in_ok-rest-2.field-0.now e one.1.0 c.cut_time-end.result.0 _ state (left_some c.cut_number-begin.result.1 c.in_ok-rest-2.field-0 _ c.in_ok-rest-2.was two.1) c.cut_time-end.ensures in
    absurd (none_some c.cut_time-end.result.0 e.end c.in_err-end.was three)

pub returns-clause-all : goal.returns-clause-all
returns-clause-all c = λ e state fits is.
    let one = id_cut c.args.line.now e c.cut_number-id.result.0 c.cut_number-id.result.1 state fits is c.cut_number-id.ensures in
    let two = begin_cut c.in_ok-rest.field-0.now e one.1.0 c.cut_number-begin.result.0 c.cut_number-begin.result.1 state (left_some c.cut_number-id.result.1 c.in_ok-rest.field-0 _ c.in_ok-rest.was one.1.1) c.cut_number-begin.ensures in
    let three = end_cut c.in_ok-rest-2.field-0.now e one.1.0 c.cut_time-end.result.0 _ state (left_some c.cut_number-begin.result.1 c.in_ok-rest-2.field-0 _ c.in_ok-rest-2.was two.1) c.cut_time-end.ensures in
    let id = some_number c.cut_number-id.result.0 c.in_ok-id.field-0 e.id c.in_ok-id.was one.0 in
    let begin = some_number c.cut_number-begin.result.0 c.in_ok-begin.field-0 e.begin c.in_ok-begin.was two.0 in
    let end = some_number c.cut_time-end.result.0 c.in_ok-end.field-0 e.end c.in_ok-end.was three in
    ap {B = Option (ℕ × ℕ × ℕ)} (λ (n : ℕ). Some (n, c.in_ok-begin.field-0, c.in_ok-end.field-0)) id
    ∙ (ap {B = Option (ℕ × ℕ × ℕ)} (λ (n : ℕ). Some (e.id, n, c.in_ok-end.field-0)) begin ∙ ap {B = Option (ℕ × ℕ × ℕ)} (λ (n : ℕ). Some (e.id, e.begin, n)) end)

use Rattle.pat_state.proofs.KeyLemmas.{wanted_equal, equal_by, equal_turned}
use Rattle.pat_state.proofs.key.partner.Goals as goal

pub returns-then-not-has_other : goal.returns-then-not-has_other
returns-then-not-has_other c = λ tests column wanted all.
    let test = c.args.test.now in
    equal_by tests column test.left c.in-Eq-Column.other (c.is_among-has_left.ensures c.if-has_left.true tests column all) (wanted_equal tests test c.in-Eq-Column.other c.in-Eq-Column.is-0 c.in-Eq-Column.is-1 wanted)

pub returns-then-not-has_left : goal.returns-then-not-has_left
returns-then-not-has_left c = λ tests column wanted all.
    let test = c.args.test.now in
    equal_by tests column c.in-Eq-Column.other test.left (c.is_among-has_other.ensures c.if-has_other.true tests column all) (equal_turned tests test.left c.in-Eq-Column.other (wanted_equal tests test c.in-Eq-Column.other c.in-Eq-Column.is-0 c.in-Eq-Column.is-1 wanted))

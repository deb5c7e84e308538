use Rattle.std.proofs.Common.{ℕ, sym, subst, arith}
use Rattle.op_except.specs.Parts.{row_since}
use Rattle.op_except.specs.Around.{Narrows}
use Rattle.op_except.proofs.AroundLemmas.{narrow_none, narrow_begin}
use Rattle.op_except.proofs.around.narrow_begin.Goals as goal

pub returns-in-Some : goal.returns-in-Some
returns-in-Some c = λ to.
    let found = c.in-Some.ensures in
    let ended = found.4 in
    subst (λ (b : ℕ). Narrows c.args.tests.now c.args.from to c.args.rows.now c.args.part.now (record { end = c.args.part.now.end; begin = b; payload = c.args.part.now.payload })) (sym c.max-part.ensures)
    (subst (λ (e : ℕ). Narrows c.args.tests.now c.args.from to c.args.rows.now c.args.part.now (row_since e c.args.part.now)) found.3
    (narrow_begin c.args.tests.now c.args.from to c.args.rows.now c.args.part.now found.0 found.1 found.2 (omega (arith, found.3))))

pub returns-in_default : goal.returns-in_default
returns-in_default c = λ to. narrow_none c.args.tests.now c.args.from to c.args.rows.now c.args.part.now

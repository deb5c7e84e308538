use Rattle.std.proofs.Common.{◌∷◌, subst}
use Rattle.cedr_base.specs.declared.row.Row.{Row}
use Rattle.cedr_base.specs.Rows.{SameRows}
use Rattle.op_except.proofs.LifeLemmas.{lives_added}
use Rattle.op_except.proofs.lives.Lives.add.Goals as goal

pub returns : goal.returns
returns c = λ were.
    let rows = subst (λ (r : Row). SameRows c.insert.new.self (r ∷ c.args.self.now.by_end)) c.life_row.ensures c.in_ok-insert.ensures.ok in
    (lives_added c.args.self.now.by_begin.keys c.insert-2.new.self.keys c.args.self.now.by_end c.insert.new.self c.args.begin c.args.end were c.in_ok-insert-2.ensures.updates.0 rows, rows)

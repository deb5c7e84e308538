use Rattle.std.proofs.Common.{subst, List}
use Rattle.cedr_base.specs.declared.row.Row.{Row}
use Rattle.cedr_align.specs.Moving.{has_ended, IsMovedOut}
use Rattle.cedr_align.proofs.MoveLemmas.{stays_held, is_released}
use Rattle.cedr_align.proofs.held.Held.release.Goals as goal

pub returns-clause-kept : goal.returns-clause-kept
returns-clause-kept c =
    stays_held c.args.block c.args.ended c.args.mark c.args.high c.args.self.now c.release_ended.new.self c.release_unblocked.new.self c.release_ended.new.released.items c.release_unblocked.new.released.items
    (subst (λ (rows : List Row). IsMovedOut (has_ended c.args.ended c.args.mark) c.args.self.now c.release_ended.new.self rows c.release_ended.new.released.items) c.clear.ensures.items c.in_ok-release_ended.ensures)
    c.in_ok-release_unblocked.ensures

pub returns-clause-released : goal.returns-clause-released
returns-clause-released c =
    is_released c.args.block c.args.ended c.args.mark c.args.high c.args.self.now c.release_ended.new.self c.release_unblocked.new.self c.release_ended.new.released.items c.release_unblocked.new.released.items
    (subst (λ (rows : List Row). IsMovedOut (has_ended c.args.ended c.args.mark) c.args.self.now c.release_ended.new.self rows c.release_ended.new.released.items) c.clear.ensures.items c.in_ok-release_ended.ensures)
    c.in_ok-release_unblocked.ensures c.sort_rows.new.rows.items c.in_ok-sort_rows.ensures.ok

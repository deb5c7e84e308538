use Rattle.std.proofs.Common.{[], ◌∷◌, refl, sym, subst, List}
use Rattle.cedr_base.specs.declared.row.Row.{Row}
use Rattle.cedr_base.specs.declared.change.Message.TheVariants as message
use Rattle.cedr_align.specs.Aligner.{must_wait, must_remember}
use Rattle.cedr_align.specs.Released.{IsKeptAndSettled}
use Rattle.cedr_align.proofs.ThroughLemmas.{gone_through}
use Rattle.cedr_align.proofs.aligner.Aligner.keep_through.Goals as goal

pub returns-clause-settled : goal.returns-clause-settled
returns-clause-settled c =
    let me = c.args.self.now in
    let change = c.args.change.now in
    subst (λ (rows : List Row). IsKeptAndSettled me.level.memory (must_wait me) (must_remember me) me.ended me.mark c.args.change.now me.held me.passed [] rows c.forget.new.self.passed (message.Change c.args.change.now ∷ [])) (sym c.forget.ensures.held)
    (gone_through me.level.memory me.ended me.mark me.high (must_wait me) me.passed c.apply_where.new.passed c.forget.new.self.passed [] (message.Change change ∷ []) change me.held
    c.requires c.in_ok-apply_where.ensures c.forget.ensures.passed refl)

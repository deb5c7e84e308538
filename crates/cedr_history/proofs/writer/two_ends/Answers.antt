use Rattle.std.proofs.Common.{sym, subst, refl}
use Rattle.cedr_history.specs.declared.version.Version.{Version}
use Rattle.cedr_history.specs.Ends.{IsOpening}
use Rattle.cedr_history.proofs.Rules.{admits, turns, forks, merges}
use Rattle.cedr_history.proofs.Opening.{opens}
use Rattle.cedr_history.proofs.writer.two_ends.Goals as goal

pub publish_as-inner-requires : goal.publish_as-inner-requires
publish_as-inner-requires g c next is =
    let shown = c.in_ok-inner.inner.desk.shown.value in
    let opening : IsOpening shown c.args.all.now = subst (λ (x : Version). IsOpening x c.args.all.now) (sym c.in_ok-inner.ensures.0) c.empty-first.ensures in
    let o = opens shown next c.args.all.now _ c.requires opening c.in_ok-inner.ensures.1 is in
    turns _ _ shown next o.0 o.1

pub reader-requires : goal.reader-requires
reader-requires g c = admits _ refl

pub tell-requires : goal.tell-requires
tell-requires g c = forks _ _

pub learn-requires-clause-rule : goal.learn-requires-clause-rule
learn-requires-clause-rule g c = merges _ _ _ _ _ refl

use Rattle.std.proofs.Common.{List, ℕ, Result, sym, subst}
use Rattle.std.proofs.lemmas.Result.{err_from_is_err_and}
use Rattle.std.specs.Prelude.{OnOk, OnErr}
use Rattle.std.specs.Io.KnownBytes.{Appends}
use Rattle.cedr_io.specs.Asked.{AppendsFront}
use Rattle.cedr_io.specs.declared.fault.OutsideFault.{OutsideFault}
use Rattle.plan_live.specs.Playing.{Shows}
use Rattle.plan_live.proofs.ShownLemmas.{shows_none, shows_so}
use Rattle.plan_live.proofs.player.Player.show.Goals as goal

pub returns-in_err-text-clause-shown : goal.returns-in_err-text-clause-shown
returns-in_err-text-clause-shown g c = λ nodes before shown p.
    let old = g.K.Sink.written c.args.out.now in
    let q = err_from_is_err_and c.from_residual.result c.from_residual.ensures.1 in
    subst (λ (r : Result (Unit {0}) OutsideFault). Shows r nodes c.args.self.now before shown old old) (sym q.1) (shows_none q.0 nodes c.args.self.now before shown old p)

pub returns-clause-shown : goal.returns-clause-shown
returns-clause-shown g c = λ nodes before shown p.
    let old = g.K.Sink.written c.args.out.now in
    let new = g.K.Sink.written c.write_all.new.sink in
    let result = c.write_all.result in
    let text = c.in_ok-text.text.items in
    shows_so result nodes c.args.self.now before shown text old new p (c.in_ok-text.ensures nodes p.settled.ports p.given p.settled.stands)
    (subst (λ (bytes : List ℕ). OnOk result (Appends old new bytes)) c.as_slice.ensures.value c.write_all.ensures.ok)
    (subst (λ (bytes : List ℕ). OnErr result (AppendsFront old new bytes)) c.as_slice.ensures.value c.write_all.ensures.err)

use Rattle.std.proofs.Common.{◌∙◌, ◌∷◌, [], sym, ap, refl, max, ℕ}
use Rattle.std.specs.Prelude.{None}
use Rattle.cedr_base.specs.declared.change.Message.TheVariants as message
use Rattle.cedr_align.specs.declared.fate.Fate.TheVariants as fate
use Rattle.cedr_align.proofs.Aligned.{changed}
use Rattle.cedr_align.proofs.aligner.Aligner.change_through.Goals as goal

pub returns-in_ok-keep_through-in-None-clause-through : goal.returns-in_ok-keep_through-in-None-clause-through
returns-in_ok-keep_through-in-None-clause-through c = λ went ms al may.
    let me = c.args.self.now in
    let k = c.in_ok-keep_through-in-None.ensures.settled in
    let same = c.in_ok-keep_through-in-None.ensures.same in
    changed c.args.self.now _ ms c.args.change.now None fate.Kept _ _ k.held_between k.passed_between [] k.out_between (message.Change c.args.change.now ∷ [])
    al may refl (sym c.in-None.is ∙ c.find_cause.ensures) k.held_moved k.passed_moved k.out_is k.settled same.level same.mark same.ended same.high
    (c.max-high.ensures ∙ ap (λ (n : ℕ). max me.high n) c.sync.ensures)
    refl

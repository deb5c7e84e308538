use Rattle.std.proofs.Common.{◌≡◌, ◌<◌, ◌∙◌, ◌∷◌, [], false, refl, sym, ap, subst, arith, List}
use Rattle.cedr_base.specs.declared.row.Row.{Row}
use Rattle.cedr_base.specs.declared.change.Message.TheVariants as message
use Rattle.node_laws.specs.Pass.{front_at, is_held}
use Rattle.node_laws.proofs.Holds.{open_is}
use Rattle.cedr_align.specs.Remembered.{is_remembered}
use Rattle.cedr_align.specs.Released.{IsSettled}
use Rattle.cedr_align.specs.declared.fate.Fate.TheVariants as fate
use Rattle.cedr_align.proofs.Aligned.{mark_came}
use Rattle.cedr_align.proofs.ThroughLemmas.{mark_alone}
use Rattle.cedr_align.proofs.aligner.Aligner.mark_through.Goals as goal

pub returns-clause-through : goal.returns-clause-through
returns-clause-through c = λ went ms al may.
    let me = c.args.self.now in
    let forgot = c.forget.ensures in
    let none = c.if-not-is_empty.ensures in
    let mark_is = al.mark_is in
    let comes_above = may.1.0 in
    let above : me.mark < c.args.mark = omega arith in
    let going : c.args.self.now.ended ≡ false = al.ended_is ∙ open_is ms may.0 in
    let before : c.args.self.now.mark ≡ front_at c.args.self.now.ended c.args.self.now.mark c.args.self.now.held =
    sym (ap (λ b. front_at b me.mark me.held) going ∙ ap (λ (rows : List Row). front_at false me.mark rows) none) in
    mark_came c.args.self.now c.forget.new.self ms (message.Mark c.args.mark) c.args.mark c.max-self.result fate.Kept me.mark [] (message.Mark c.args.mark ∷ []) al may refl before
    (subst (λ (rows : List Row). IsSettled (is_held me.level.block me.ended c.args.mark c.max-self.result) (is_remembered me.level.memory me.ended c.args.mark c.max-self.result) me.ended c.args.mark me.mark me.held me.passed [] rows c.forget.new.self.passed (message.Mark c.args.mark ∷ [])) (sym forgot.held)
    (mark_alone me.level.memory me.ended c.args.mark c.max-self.result (is_held me.level.block me.ended c.args.mark c.max-self.result) me.passed [] c.forget.new.self.passed [] [] me.mark me.held none going above forgot.passed))
    forgot.same.level forgot.same.mark forgot.same.high forgot.same.ended c.max-self.ensures refl

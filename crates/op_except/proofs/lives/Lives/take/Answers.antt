use Rattle.std.proofs.Common.{◌<◌, ◌∷◌, ap, sym, ◌∙◌, subst}
use Rattle.cedr_base.specs.declared.row.Row.{Row}
use Rattle.cedr_base.specs.Rows.{count_of, SameRows}
use Rattle.op_except.proofs.LifeLemmas.{lives_gone, lives_stay, some_or}
use Rattle.op_except.proofs.lives.Lives.take.Goals as goal

pub returns-then-count-eq0 : goal.returns-then-count-eq0
returns-then-count-eq0 c = λ were there.
    let same = subst (λ (r : Row). SameRows (r ∷ c.take.new.self) c.args.self.now.by_end) c.life_row-row.ensures (c.take.ensures.taken (subst (λ (r : Row). 0 < count_of r c.args.self.now.by_end) (sym c.life_row-row.ensures) there)) in (
      lives_gone c.args.self.now.by_begin.keys c.remove.new.self.keys c.args.self.now.by_end c.take.new.self c.args.begin c.args.end were c.remove.ensures.updates.0 same
          (sym (ap (λ (r : Row). count_of r c.take.new.self) c.life_row-row.ensures) ∙ (sym c.count.ensures ∙ c.if-count-eq0.true)),
      same,
    )

pub returns : goal.returns
returns c = λ were there.
    let same = subst (λ (r : Row). SameRows (r ∷ c.take.new.self) c.args.self.now.by_end) c.life_row-row.ensures (c.take.ensures.taken (subst (λ (r : Row). 0 < count_of r c.args.self.now.by_end) (sym c.life_row-row.ensures) there)) in (
      lives_stay c.args.self.now.by_begin.keys c.args.self.now.by_begin.keys c.args.self.now.by_end c.take.new.self c.args.begin c.args.end were same
          (some_or (count_of _ c.take.new.self) (λ none. c.if-count-eq0.false (c.count.ensures ∙ (ap (λ (r : Row). count_of r c.take.new.self) c.life_row-row.ensures ∙ none)))),
      same,
    )

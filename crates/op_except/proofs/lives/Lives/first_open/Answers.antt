use Rattle.std.proofs.Common.{◌≡◌, ◌<◌, ◌⊎◌, ℕ, ◌∷◌, true, sym, subst, List}
use Rattle.std.specs.List.Sorted.{IsStrictlySortedBy}
use Rattle.op_except.specs.declared.lives.Life.{Life}
use Rattle.op_except.specs.Lives.{life_cmp, has_life}
use Rattle.op_except.proofs.LifeLemmas.{open_none, open_found, first_from, rest_passed, none_in, tail_sorted, from_rest}
use Rattle.op_except.proofs.lives.Lives.first_open.Goals as goal

pub returns-then-life-mark : goal.returns-then-life-mark
returns-then-life-mark c = λ are.
    let inv = c.loop-life.invariant in
    open_none c.args.self.now.by_begin.keys c.args.self.now.by_end c.loop-life.life-iterator c.args.mark are inv.rest
    (λ begin end there. let is : c.loop-life.life-iterator ≡ c.in-Some.life.now ∷ c.next.new.self = c.in-Some.ensures.steps in
    first_from c.in-Some.life.now c.next.new.self begin end c.args.mark (subst (λ (ls : List Life). IsStrictlySortedBy life_cmp ls) is inv.sorted) c.if-life-mark.true (subst (λ (ls : List Life). has_life ls begin end ≡ true) is there))

pub returns-then-life-mark-2 : goal.returns-then-life-mark-2
returns-then-life-mark-2 c = λ are.
    let inv = c.loop-life.invariant in
    let is : c.loop-life.life-iterator ≡ c.in-Some.life.now ∷ c.next.new.self = c.in-Some.ensures.steps in
    open_found c.args.self.now.by_begin.keys c.args.self.now.by_end c.in-Some.life.now c.next.new.self c.args.mark are (subst (λ (ls : List Life). IsStrictlySortedBy life_cmp ls) is inv.sorted)
    (subst (λ (ls : List Life). (begin end : ℕ) → has_life ls begin end ≡ true → has_life c.args.self.now.by_begin.keys begin end ≡ true) is inv.part)
    (subst (λ (ls : List Life). (begin end : ℕ) → has_life c.args.self.now.by_begin.keys begin end ≡ true → (has_life ls begin end ≡ true) ⊎ (end < c.args.mark)) is inv.rest)
    c.if-life-mark.false c.if-life-mark-2.true

pub loop-life-preserved : goal.loop-life-preserved
loop-life-preserved c =
    let inv = c.loop-life.invariant in
    let is : c.loop-life.life-iterator ≡ c.in-Some.life.now ∷ c.next.new.self = c.in-Some.ensures.steps in
    record {
      sorted = tail_sorted c.in-Some.life.now c.next.new.self (subst (λ (ls : List Life). IsStrictlySortedBy life_cmp ls) is inv.sorted);
      part = λ begin end there. inv.part begin end (subst (λ (ls : List Life). has_life ls begin end ≡ true) (sym is) (from_rest c.in-Some.life.now c.next.new.self begin end there));
      rest = λ begin end there. rest_passed c.in-Some.life.now c.next.new.self c.args.mark begin end c.if-life-mark-2.false (subst (λ (ls : List Life). (has_life ls begin end ≡ true) ⊎ (end < c.args.mark)) is (inv.rest begin end there));
    }

pub returns : goal.returns
returns c = λ are.
    let inv = c.loop-life.invariant in
    open_none c.args.self.now.by_begin.keys c.args.self.now.by_end c.loop-life.life-iterator c.args.mark are inv.rest
    (λ begin end there. none_in c.loop-life.life-iterator begin end c.args.mark c.in-None.ensures.steps.0 there)

use Rattle.std.proofs.Common.{◌≡◌, ℕ, true, false, Option, Some, None, cond, eqb, length, [], ◌∷◌, ◌++◌, arith, refl, ap, sym, ◌∙◌}
use Rattle.std.specs.Prelude.{is_some, is_none}
use Rattle.std.specs.Option.{option_or}
use Rattle.cedr_text.specs.declared.fault.LineFault.TheVariants.{KnownId}
use Rattle.cedr_guard.specs.Judging.{guarantee_fault}
use Rattle.cedr_guard.specs.Standing.{place_in}
use Rattle.cedr_base.specs.declared.interval.Interval.{Interval}
use Rattle.cedr_guard.proofs.StandingLemmas.{fault-insert, stands-insert}
use Rattle.cedr_guard.proofs.judge.Judge.insert.Goals as goal

pub returns-then-known-clause-judged : goal.returns-then-known-clause-judged
returns-then-known-clause-judged c = λ before row stands is.
    fault-insert c.args.self.now before c.args.id row stands
    ∙ ap (λ known. cond known (Some KnownId) (guarantee_fault row.begin c.args.self.now.mark)) (ap is_some (sym c.place.ensures) ∙ sym c.if-known.ensures)

pub returns-else-known-clause-judged : goal.returns-else-known-clause-judged
returns-else-known-clause-judged c = λ before row stands is.
    fault-insert c.args.self.now before c.args.id row stands
    ∙ (ap (λ known. cond known (Some KnownId) (guarantee_fault row.begin c.args.self.now.mark)) (ap is_some (sym c.place.ensures) ∙ sym c.if-known.ensures)
    ∙ (ap (λ (i : Interval). guarantee_fault i.begin c.args.self.now.mark) is ∙ sym c.guarantee_fault.ensures ∙ c.in-Some.is))

known_at : (place : Option ℕ) → is_none place ≡ false → is_some place ≡ true
known_at None h = cc
known_at (Some p) h = refl

none_at : (place : Option ℕ) → is_none place ≡ true → place ≡ None
none_at None h = refl
none_at (Some p) h = cc

pub returns-then-not-branch-clause-judged : goal.returns-then-not-branch-clause-judged
returns-then-not-branch-clause-judged c = λ before row stands is.
    let facts = c.in_ok-insert.ensures in
    fault-insert c.args.self.now before c.args.id row stands
    ∙ ap (λ known. cond known (Some KnownId) (guarantee_fault row.begin c.args.self.now.mark))
    (known_at (place_in c.args.self.now.ids c.args.id) (sym facts.new ∙ c.if-not-branch.true))

pub returns-clause-judged : goal.returns-clause-judged
returns-clause-judged c = λ before row stands is.
    let facts = c.in_ok-insert.ensures in
    let nowhere = none_at (place_in c.args.self.now.ids c.args.id) (sym facts.new ∙ c.if-not-branch.false) in
    fault-insert c.args.self.now before c.args.id row stands
    ∙ (ap (λ place. cond (is_some place) (Some KnownId) (guarantee_fault row.begin c.args.self.now.mark)) nowhere
    ∙ (ap (λ (i : Interval). guarantee_fault i.begin c.args.self.now.mark) is ∙ sym c.guarantee_fault.ensures ∙ c.in_default.is))

pub returns-clause-stands : goal.returns-clause-stands
returns-clause-stands c = λ before row stands is.
    let facts = c.in_ok-insert.ensures in
    let nowhere = none_at (place_in c.args.self.now.ids c.args.id) (sym facts.new ∙ c.if-not-branch.false) in
    let here : c.len-place.result ≡ length c.args.self.now.intervals.items = omega (arith, c.len-place.ensures, ap length c.reserve.ensures.items, c.args.self.now.intervals.ok.0) in
    stands-insert c.args.self.now _ before c.args.id row stands (sym (stands.places c.args.id) ∙ nowhere)
    (c.in_ok-push.ensures.items ∙ (ap (λ olds. olds ++ record { begin = c.args.begin; end = c.args.end } ∷ []) c.reserve.ensures.items ∙ ap (λ (i : Interval). c.args.self.now.intervals.items ++ i ∷ []) (sym is)))
    (λ q. facts.places q ∙ ap (λ (n : ℕ). option_or (place_in c.args.self.now.ids q) (cond (eqb c.args.id q) (Some n) None)) here)
    refl

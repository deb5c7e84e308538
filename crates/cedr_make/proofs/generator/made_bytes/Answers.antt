use Rattle.std.proofs.Common.{◌≡◌, ◌+◌, suc, ◌++◌, ap, ◌∙◌, arith}
use Rattle.cedr_make.specs.Generator.{event_text, made_text}
use Rattle.cedr_make.proofs.generator.made_bytes.Goals as goal

pub loop-i-preserved : goal.loop-i-preserved
loop-i-preserved c =
    let source = c.args.source in
    let i = c.loop-i.i in
    let next : suc i ≡ i + 1 = omega arith in
    c.in_ok-push_event.ensures ∙ ap (λ bytes. bytes ++ event_text source i) c.loop-i.invariant ∙ ap (made_text source) next

pub returns : goal.returns
returns c =
    let all : c.loop-i.i ≡ c.args.n = omega (arith, c.loop-i-test.false, c.loop-i.auto.i-end) in
    c.loop-i.invariant ∙ ap (made_text c.args.source) all

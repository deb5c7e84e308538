use Rattle.std.proofs.Common.{◌+◌, ◌∙◌, get_or, drop, is_some, ap, sym}
use Rattle.std.proofs.lemmas.List.{drop_more}
use Rattle.cedr_text.proofs.QuotingLemmas.{fields_from, keeps_on, rule_starts, rule_steps}
use Rattle.cedr_text.proofs.quoting.keeps_rule.Goals as goal

pub loop-byte-init : goal.loop-byte-init
loop-byte-init c = rule_starts c.args.line.now

pub loop-byte-preserved : goal.loop-byte-preserved
loop-byte-preserved c =
    let line = c.args.line.now in
    let at = c.loop-byte.byte-index in
    let place = c.loop-byte.place in
    let step = rule_steps place (get_or line at 0) (drop (at + 1) line) ∙ ap (keeps_on (drop (at + 1) line)) (sym c.after.ensures ∙ c.in-Some.is) in
    sym step ∙ ap (λ rest. is_some (fields_from place rest)) (sym (drop_more line at 0 c.loop-byte-test.true)) ∙ c.loop-byte.invariant

use Rattle.std.proofs.Common.{◌≡◌, get_or, rules, ◌∙◌}
use Rattle.cedr_save.proofs.FieldFronts.{open_after, open_next, at_quote, at_other}
use Rattle.cedr_save.proofs.front.is_quote_open.Goals.{then-byte-eq34, else-byte-eq34}
use Rattle.cedr_save.proofs.front.is_quote_open.Goals as goal

pub loop-byte-preserved : goal.loop-byte-preserved
loop-byte-preserved c =
    let byte = get_or c.args.text.now c.loop-byte.byte-index 0 in
    let turns : open_after c.loop-byte.is_open byte ≡ c.if-byte-eq34.is_open = elim c.if-byte-eq34.branch [
      | then-byte-eq34 w ↦ at_quote c.loop-byte.is_open c.if-byte-eq34.is_open byte (search rules) (search rules)
      | else-byte-eq34 w ↦ at_other c.loop-byte.is_open c.if-byte-eq34.is_open byte (search rules) (search rules)
    ] in
    open_next c.args.text.now c.loop-byte.byte-index c.loop-byte.is_open c.loop-byte-test.true c.loop-byte.invariant ∙ turns

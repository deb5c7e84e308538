use Rattle.std.proofs.Common.{◌≡◌, ◌&&◌, not, false, eqb, get_or, rules, ◌∙◌}
use Rattle.cedr_base.specs.Bytes.{comma}
use Rattle.cedr_save.proofs.FieldFronts.{open_after, open_next, uncut_next, at_quote, at_other, no_end_open, no_end_other}
use Rattle.cedr_save.proofs.front.field_end.Goals.{else-byte-eq44-via-then-byte-eq44+else-not-is_open, else-byte-eq44-via-else-byte-eq44, then-byte-eq34, else-byte-eq34}
use Rattle.cedr_save.proofs.front.field_end.Goals as goal

pub loop-at-preserved : goal.loop-at-preserved
loop-at-preserved c =
    let byte = get_or c.args.text.now c.loop-at.at 0 in
    let none : (eqb byte comma && not c.loop-at.is_open) ≡ false = elim c.else-byte-eq44.branch [
      | else-byte-eq44-via-then-byte-eq44+else-not-is_open w ↦ no_end_open c.loop-at.is_open byte (search rules)
      | else-byte-eq44-via-else-byte-eq44 w ↦ no_end_other c.loop-at.is_open byte (search rules)
    ] in
    let turns : open_after c.loop-at.is_open byte ≡ c.if-byte-eq34.is_open = elim c.if-byte-eq34.branch [
      | then-byte-eq34 w ↦ at_quote c.loop-at.is_open c.if-byte-eq34.is_open byte (search rules) (search rules)
      | else-byte-eq34 w ↦ at_other c.loop-at.is_open c.if-byte-eq34.is_open byte (search rules) (search rules)
    ] in
    record {
      uncut = uncut_next c.args.text.now c.loop-at.at c.loop-at.is_open c.loop-at-test.true c.loop-at.invariant.opened c.loop-at.invariant.uncut none;
      opened = open_next c.args.text.now c.loop-at.at c.loop-at.is_open c.loop-at-test.true c.loop-at.invariant.opened ∙ turns;
    }

use Rattle.std.proofs.Common.{refl}
use Rattle.cedr_base.proofs.FieldLemmas.{plain_is_text}
use Rattle.cedr_base.proofs.text_code.plain_text.Goals as goal

pub returns-then-run-rest : goal.returns-then-run-rest
returns-then-run-rest c = λ field is.
    plain_is_text c.args.code.now _ c.in_ok-tag.field-0.now c.run_len-run.result field is (c.in_ok-tag.ensures.item.3.1 0) c.if-tag-ne-TEXT_TAG.false refl c.if-run-rest.true c.run_len-run.ensures.before

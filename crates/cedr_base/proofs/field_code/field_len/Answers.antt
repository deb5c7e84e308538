use Rattle.cedr_base.proofs.FieldReading.{text_first, number_first}
use Rattle.cedr_base.proofs.field_code.field_len.Goals as goal

pub returns-then-tag-ge-TEXT_TAG-clause-first : goal.returns-then-tag-ge-TEXT_TAG-clause-first
returns-then-tag-ge-TEXT_TAG-clause-first c = λ f rest begins.
    text_first c.args.bytes.now rest c.in-Some.tag.now c.text_len.result f begins (c.in-Some.ensures.item.3.1 0) c.if-tag-ge-TEXT_TAG.true (λ t is. c.text_len.ensures.first t rest is)

pub returns-else-tag-ge-TEXT_TAG-clause-first : goal.returns-else-tag-ge-TEXT_TAG-clause-first
returns-else-tag-ge-TEXT_TAG-clause-first c = λ f rest begins.
    number_first c.args.bytes.now rest c.in-Some.tag.now c.number_len.result c.min.result f begins (c.in-Some.ensures.item.3.1 0) c.if-tag-ge-TEXT_TAG.false c.number_len.ensures.number c.min.ensures

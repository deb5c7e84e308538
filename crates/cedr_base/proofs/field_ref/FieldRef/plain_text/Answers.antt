use Rattle.std.proofs.Common.{◌≡◌, subst}
use Rattle.std.specs.Option.{IfSome}
use Rattle.cedr_base.specs.declared.field.Field.TheVariants.{Bytes}
use Rattle.cedr_base.proofs.field_ref.FieldRef.plain_text.Goals as goal

pub returns : goal.returns
returns c = subst (λ f. IfSome c.plain_text.result (λ text. f ≡ Bytes text.now)) c.self.view_is (c.plain_text.ensures c.self.inside.held.0 c.self.inside.held.1.1)

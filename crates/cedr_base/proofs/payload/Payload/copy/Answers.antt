use Rattle.std.proofs.Common.{◌∙◌}
use Rattle.cedr_base.proofs.payload.Payload.copy.Goals as goal

pub returns : goal.returns
returns c = c.stored.ensures c.self.inside.held.0 (c.in_ok-bytes.ensures c.self.inside.held.0 c.self.inside.held.1) ∙ c.self.view_is

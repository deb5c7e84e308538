use Rattle.cedr_base.proofs.FieldBytes.{width_by_zeros}
use Rattle.cedr_base.proofs.field_code.width_of.Goals as goal

pub returns-clause-width : goal.returns-clause-width
returns-clause-width c = width_by_zeros c.args.size c.ranges.size.fits

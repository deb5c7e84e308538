use Rattle.std.proofs.Common.{arith}
use Rattle.cedr_base.proofs.FieldReading.{size_step, size_fits, size_end}
use Rattle.cedr_base.proofs.field_code.read_size.Goals as goal

pub overflow_mul-size : goal.overflow_mul-size
overflow_mul-size c = record { fits = omega (arith, (size_fits c.loop-byte.size 0 c.loop-byte.byte-index (omega arith) c.loop-byte.invariant.fits (omega arith)).1) }

pub overflow_add-size : goal.overflow_add-size
overflow_add-size c = record { fits = (size_fits c.loop-byte.size c.digit.result c.loop-byte.byte-index (omega arith) c.loop-byte.invariant.fits c.digit.type_inv).1 }

pub loop-byte-preserved : goal.loop-byte-preserved
loop-byte-preserved c = record {
  fits = (size_fits c.loop-byte.size c.digit.result c.loop-byte.byte-index (omega arith) c.loop-byte.invariant.fits c.digit.type_inv).0;
  highest = λ k n fits is. size_step c.args.negative c.args.bytes.now c.loop-byte.size c.loop-byte.byte-index c.digit.result k n c.requires c.loop-byte-test.true c.digit.ensures fits is (c.loop-byte.invariant.highest k n fits is);
}

pub returns : goal.returns
returns c = λ k n fits is. size_end c.args.negative c.args.bytes.now c.loop-byte.size c.loop-byte.byte-index k n c.loop-byte-test.false is (c.loop-byte.invariant.highest k n fits is)

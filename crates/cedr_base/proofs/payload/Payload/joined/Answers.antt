use Rattle.std.proofs.Common.{◌∙◌, ◌+◌, ◌++◌, ap₂}
use Rattle.cedr_base.proofs.StoredLemmas.{stored_joined, wide_enough}
use Rattle.cedr_base.proofs.payload.Payload.joined.Goals as goal

pub finish-requires : goal.finish-requires
finish-requires c = wide_enough c.in_ok-code.code c.in_ok-width.width c.args.self.now c.args.other.now (c.in_ok-code.ensures ∙ ap₂ (λ xs ys. xs ++ ys) c.code.ensures.code c.code-2.ensures.code) (c.in_ok-width.ensures ∙ ap₂ (λ m n. m + n) c.len.ensures c.len-2.ensures)

pub stored-requires : goal.stored-requires
stored-requires c = (c.args.self.now ++ c.args.other.now, stored_joined c.in_ok-bytes.bytes c.in_ok-code.code c.in_ok-width.width c.args.self.now c.args.other.now c.in_ok-bytes.ensures c.code.ensures.fits c.code-2.ensures.fits (c.in_ok-code.ensures ∙ ap₂ (λ xs ys. xs ++ ys) c.code.ensures.code c.code-2.ensures.code) (c.in_ok-width.ensures ∙ ap₂ (λ m n. m + n) c.len.ensures c.len-2.ensures))

pub returns : goal.returns
returns c = c.stored.ensures (c.args.self.now ++ c.args.other.now) (stored_joined c.in_ok-bytes.bytes c.in_ok-code.code c.in_ok-width.width c.args.self.now c.args.other.now c.in_ok-bytes.ensures c.code.ensures.fits c.code-2.ensures.fits (c.in_ok-code.ensures ∙ ap₂ (λ xs ys. xs ++ ys) c.code.ensures.code c.code-2.ensures.code) (c.in_ok-width.ensures ∙ ap₂ (λ m n. m + n) c.len.ensures c.len-2.ensures))

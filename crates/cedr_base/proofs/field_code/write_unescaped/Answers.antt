use Rattle.std.proofs.Common.{sym, ◌∙◌, true≢false}
use Rattle.cedr_base.proofs.FieldReading.{unescaped_step, unescaped_end}
use Rattle.cedr_base.proofs.field_code.write_unescaped.Goals as goal

pub loop-out-preserved : goal.loop-out-preserved
loop-out-preserved c =
    let more = c.is_end.ensures.0 c.if-is_end.false in
    unescaped_step c.loop-out.out.items c.extend_from_slice.new.self.items c.push.new.self.items c.loop-out.rest.now _ c.run_len-run.result c.saturating_sub.result c.loop-out.invariant more.0 more.1 c.run_len-run.ensures.before c.run_len-run.ensures.found c.in_ok-extend_from_slice.ensures.items c.in_ok-push.ensures.items c.saturating_sub.ensures

pub returns-then-is_end : goal.returns-then-is_end
returns-then-is_end c =
    unescaped_end c.loop-out.out.items c.extend_from_slice.new.self.items c.loop-out.rest.now _ c.run_len-run.result c.loop-out.invariant c.run_len-run.ensures.within c.run_len-run.ensures.before c.run_len-run.ensures.found (λ both. true≢false (sym c.if-is_end.true ∙ c.is_end.ensures.1 both)) c.in_ok-extend_from_slice.ensures.items

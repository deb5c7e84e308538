use Rattle.std.proofs.Common.{◌∙◌, sym, ap, refl, max, ℕ}
use Rattle.std.specs.Prelude.{Some, None}
use Rattle.std.proofs.lemmas.List.{append-nil}
use Rattle.change_laws.proofs.BagSums.{same_itself}
use Rattle.cedr_align.proofs.RememberedLemmas.{none_applied}
use Rattle.cedr_align.proofs.Aligned.{changed}
use Rattle.cedr_align.proofs.aligner.Aligner.take_change.Goals as goal

pub returns-in_ok-keep_and_settle-in-None-clause-taken : goal.returns-in_ok-keep_and_settle-in-None-clause-taken
returns-in_ok-keep_and_settle-in-None-clause-taken c = λ ms al may.
    let me = c.args.self.now in
    let k = c.in_ok-keep_and_settle-in-None.ensures.settled in
    let same = c.in_ok-keep_and_settle-in-None.ensures.same in
    changed c.args.self.now _ ms c.args.change None _ _ _ k.held_between k.passed_between c.args.out.now.items k.out_between c.keep_and_settle.new.out.items
    al may refl (sym c.in-None.is ∙ c.find_cause-cause.ensures) k.held_moved k.passed_moved k.out_is k.settled same.level same.mark same.ended same.high
    (c.max-self.ensures ∙ ap (λ (n : ℕ). max me.high n) c.sync.ensures)
    refl

pub returns-in_ok-settle-in-Some-clause-taken : goal.returns-in_ok-settle-in-Some-clause-taken
returns-in_ok-settle-in-Some-clause-taken c = λ ms al may.
    let me = c.args.self.now in
    let same = c.in_ok-settle-in-Some.ensures.same in
    changed c.args.self.now _ ms c.args.change (Some c.in-Some.cause) _ c.guarantee-before.result _ me.held me.passed c.args.out.now.items c.args.out.now.items c.settle.new.out.items
    al may c.guarantee-before.ensures (sym c.in-Some.is ∙ c.find_cause-cause.ensures) (same_itself _) (none_applied me.level.memory me.passed) (sym (append-nil c.args.out.now.items)) c.in_ok-settle-in-Some.ensures.settled same.level same.mark same.ended same.high
    (c.max-self.ensures ∙ ap (λ (n : ℕ). max me.high n) c.sync.ensures)
    refl

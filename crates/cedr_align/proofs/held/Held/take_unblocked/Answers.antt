use Rattle.std.proofs.Common.{◌≡◌, ◌<◌, ◌∙◌, sym, subst, refl, List, not, true, false}
use Rattle.cedr_base.specs.declared.row.Row.{Row}
use Rattle.cedr_base.specs.Rows.{SameRows, count_of}
use Rattle.node_laws.specs.Pass.{is_blocked}
use Rattle.cedr_align.specs.Moving.{turned, all_turned}
use Rattle.cedr_align.proofs.TurnLemmas.{none_waits, first_waits, unblocked_taken}
use Rattle.cedr_align.proofs.held.Held.take_unblocked.Goals as goal

pub returns-in-None : goal.returns-in-None
returns-in-None c = (
  refl,
  subst (λ (rows : List Row). (r : Row) → 0 < count_of r rows → not (is_blocked c.args.block c.args.high r) ≡ false) c.self.view_is
      (none_waits c.args.block c.args.high c.self.inside.by_begin c.self.inside.by_end c.self.invariant c.in-None.ensures.none),
)

pub returns-then-not-has_passed : goal.returns-then-not-has_passed
returns-then-not-has_passed c =
    let waits : not (is_blocked c.args.block c.args.high (turned c.in-Some.other.now)) ≡ false = sym (c.has_passed.ensures (turned c.in-Some.other.now) refl) ∙ c.if-not-has_passed.true in (
      refl,
      subst (λ (rows : List Row). (r : Row) → 0 < count_of r rows → not (is_blocked c.args.block c.args.high r) ≡ false) c.self.view_is
          (first_waits c.args.block c.args.high c.self.inside.by_begin c.self.inside.by_end c.self.invariant c.in-Some.other.now c.in-Some.ensures.some waits),
    )

pub returns-else-not-has_passed : goal.returns-else-not-has_passed
returns-else-not-has_passed c =
    let passed : not (is_blocked c.args.block c.args.high (turned c.in-Some.other.now)) ≡ true = sym (c.has_passed.ensures (turned c.in-Some.other.now) refl) ∙ c.if-not-has_passed.false in
    unblocked_taken c.args.block c.args.high c.self.inside.by_begin c.args.self.now (subst (λ (rows : List Row). SameRows c.self.inside.by_begin (all_turned rows)) c.self.view_is c.self.invariant)
    c.in-Some.other.now c.in-Some.ensures.some passed c.pop_by_begin.new.self c.pop_by_begin.result c.pop_by_begin.ensures.some c.pop_by_begin.ensures.none

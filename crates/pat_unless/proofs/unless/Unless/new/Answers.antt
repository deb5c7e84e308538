use Rattle.std.proofs.Common.{List, [], ◌∷◌, sym, subst}
use Rattle.cedr_base.specs.declared.row.Row.{Row}
use Rattle.pat_state.specs.Answers.{StandsByBegin}
use Rattle.pat_state.proofs.EndlessLemmas.{stands_new}
use Rattle.pat_state.specs.Tied.{left_rows}
use Rattle.pat_unless.specs.Blocking.{AreWhiles}
use Rattle.pat_unless.proofs.unless.Unless.new.Goals as goal

pub returns-clause-stands : goal.returns-clause-stands
returns-clause-stands c = record {
  kept =
      subst (λ (rows : List Row). StandsByBegin (AreWhiles c.args.scope c.args.hold) c.args.scope (left_rows c.new.result ∷ rows ∷ []) ([] ∷ [] ∷ []) (0 ∷ 0 ∷ [])) (sym c.new.ensures.right)
      (subst (λ (rows : List Row). StandsByBegin (AreWhiles c.args.scope c.args.hold) c.args.scope (rows ∷ [] ∷ []) ([] ∷ [] ∷ []) (0 ∷ 0 ∷ [])) (sym c.new.ensures.left)
      (stands_new c.args.scope 2 (record { scope_is = c.requires.scope; hold_is = c.requires.hold })));
  tags = c.new.ensures.tied c.args.tests;
}

use Rattle.std.proofs.Common.{◌≡◌, ◌∷◌, ◌++◌, [], List, ℕ, refl, sym, subst, rules}
use Rattle.cedr_save.specs.declared.states.Spot.TheVariants.{Ended}
use Rattle.cedr_save.specs.declared.states.StateReader.{StateReader}
use Rattle.cedr_save.specs.Checkpoints.{end_line}
use Rattle.cedr_save.specs.Reading.{IsEnded, read_states, other_sources}
use Rattle.cedr_save.proofs.StandLemmas.{closed, ended}
use Rattle.cedr_save.proofs.states.StateReader.take_end.Goals as goal

pub returns : goal.returns
returns c = λ nodes before none can.
    let old = c.args.self.now in
    let new = c.close_source.new.self in
    let final : StateReader = record c.close_source.new.self { spot = Ended } in
    let line : c.args.line.now ≡ end_line = search rules in
    let all = closed c.args.self.now c.close_source.new.self nodes before can c.in_ok-close_source.ensures in
    subst (λ (l : List ℕ). IsEnded (record c.close_source.new.self { spot = Ended }) nodes (before ++ l ∷ [])) (sym line)
    (ended (record c.close_source.new.self { spot = Ended }) (read_states c.close_source.new.self) (other_sources c.args.self.now nodes) nodes before all.0 none refl)

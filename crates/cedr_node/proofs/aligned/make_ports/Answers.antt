use Rattle.std.proofs.Common.{◌≡◌, ◌+◌, ◌++◌, ◌∷◌, ◌∙◌, [], sym, ap, subst, List, arith, rules, take, get_or, replicate}
use Rattle.std.proofs.lemmas.List.{take_more, map-append}
use Rattle.cedr_base.specs.declared.change.Message.{Message}
use Rattle.cedr_base.specs.declared.level.Level.{Level}
use Rattle.node_laws.specs.Lists.{Lists}
use Rattle.cedr_node.specs.declared.port.Port.{Port}
use Rattle.cedr_node.specs.Standing.{AllStand, levels_of}
use Rattle.cedr_node.proofs.First.{all-push, replicate-push}
use Rattle.cedr_node.proofs.aligned.make_ports.Goals as goal

pub loop-level-preserved : goal.loop-level-preserved
loop-level-preserved c =
    let l = c.loop-level in
    let i = l.level-index in
    let levels = c.args.levels.now in
    let at : get_or levels i c.new.result.aligner.level ≡ c.new.result.aligner.level = search rules in
    let more : take (i + 1) levels ≡ take i levels ++ c.new.result.aligner.level ∷ [] = take_more levels i c.new.result.aligner.level (omega arith) ∙ ap (λ (v : Level). take i levels ++ v ∷ []) at in
    record {
      stand = subst (λ (ls : Lists). AllStand c.push.new.self.items ls) (sym (replicate-push {X = List Message} i []))
          (subst (λ (ps : List Port). AllStand ps (replicate i [] ++ [] ∷ [])) (sym c.in_ok-push.ensures.items) (all-push l.ports.items (replicate i []) c.new.result [] l.invariant.stand c.new.ensures.stands));
      levels_are =
          ap (λ (ps : List Port). levels_of ps) c.in_ok-push.ensures.items
          ∙ (map-append (λ (p : Port). p.aligner.level) l.ports.items (c.new.result ∷ [])
          ∙ (ap (λ (vs : List Level). vs ++ c.new.result.aligner.level ∷ []) l.invariant.levels_are ∙ sym more));
    }

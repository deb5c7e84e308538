use Rattle.std.proofs.Common.{◌∙◌, ap, sym, List}
use Rattle.cedr_base.specs.declared.row.Row.{Row}
use Rattle.node_laws.specs.Pass.{least_begin}
use Rattle.std.proofs.Common.{None}
use Rattle.cedr_align.proofs.TurnLemmas.{least_first, least_none}
use Rattle.cedr_align.proofs.held.Held.least_begin.Goals as goal

pub returns-in-None : goal.returns-in-None
returns-in-None c =
    sym (least_none None 0 c.self.inside.by_begin c.self.inside.by_end c.self.invariant c.args.time c.in-None.ensures.none) ∙ ap (λ (rows : List Row). least_begin c.args.time rows) c.self.view_is

pub returns-in-Some : goal.returns-in-Some
returns-in-Some c =
    c.min.ensures
    ∙ (sym (least_first None 0 c.self.inside.by_begin c.self.inside.by_end c.self.invariant c.args.time c.in-Some.other.now c.in-Some.ensures.some)
    ∙ ap (λ (rows : List Row). least_begin c.args.time rows) c.self.view_is)

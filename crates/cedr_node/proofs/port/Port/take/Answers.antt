use Rattle.std.proofs.Common.{◌∙◌, sym, ap, subst, ◌++◌, List}
use Rattle.std.proofs.lemmas.List.{append-nil}
use Rattle.cedr_base.specs.declared.change.Message.{Message}
use Rattle.cedr_align.specs.declared.fate.Fate.{Fate}
use Rattle.cedr_align.specs.Aligner.{forgotten_in}
use Rattle.cedr_node.specs.Standing.{IsPortTaken}
use Rattle.cedr_node.proofs.PortLemmas.{port_taken}
use Rattle.cedr_node.proofs.port.Port.take.Goals as goal

pub returns-in-Kept-clause-taken : goal.returns-in-Kept-clause-taken
returns-in-Kept-clause-taken c = λ ms stands may.
    let me = c.args.self.now in
    subst (λ (xs : List Message). IsPortTaken me (record me { aligner = c.take.new.self }) ms c.args.message xs c.take.new.out.items) c.clear.ensures.items
    (port_taken me _ ms c.args.message c.clear.new.self.items c.take.new.out.items c.in_ok-take.field-0 stands (c.in_ok-take.ensures.taken ms stands.aligns may)
    (sym (append-nil me.forgotten.items) ∙ ap (λ (f : Fate). me.forgotten.items ++ forgotten_in f) (sym c.in-Kept.is)))

pub returns-in_ok-push-in-Forgotten-clause-taken : goal.returns-in_ok-push-in-Forgotten-clause-taken
returns-in_ok-push-in-Forgotten-clause-taken c = λ ms stands may.
    let me = c.args.self.now in
    subst (λ (xs : List Message). IsPortTaken me (record { aligner = c.take.new.self; forgotten = c.push.new.self }) ms c.args.message xs c.take.new.out.items) c.clear.ensures.items
    (port_taken me _ ms c.args.message c.clear.new.self.items c.take.new.out.items c.in_ok-take.field-0 stands (c.in_ok-take.ensures.taken ms stands.aligns may)
    (c.in_ok-push-in-Forgotten.ensures.items ∙ ap (λ (f : Fate). me.forgotten.items ++ forgotten_in f) (sym c.in-Forgotten.is)))

use Rattle.std.proofs.Common.{Bool, [], ◌∷◌, ◌++◌, sym, ◌∙◌, ap, subst}
use Rattle.cedr_history.specs.Ends.{Writing}
use Rattle.cedr_worker.specs.Outputs.{passed_by, Writes}
use Rattle.cedr_worker.proofs.OutputLemmas.{may_take_one, list_passed, found_state, outputs_told, outputs_lost}
use Rattle.cedr_worker.proofs.WorkLemmas.{stands_given}
use Rattle.cedr_worker.proofs.hearing.hear.Goals as goal

pub returns-then-lacked-clause-outputs : goal.returns-then-lacked-clause-outputs
returns-then-lacked-clause-outputs c taken o legal =
    let a = c.args in
    subst (λ (b : Bool). Writes a.node.now (taken ++ a.message ∷ []) a.writer.now b a.pending) (sym c.if-lacked.true)
    (outputs_lost a.node.now a.node.now taken a.message a.writer.now a.lacked a.pending (λ i. a.node.now.made_of) legal o)

pub take_on-requires : goal.take_on-requires
take_on-requires c =
    let r = c.requires.outputs in
    (r.0 ∷ [], passed_by c.args.node.now r.0, (r.1.found c.if-lacked.false).stands, may_take_one r.0 c.args.message r.2)

pub tell_all-requires : goal.tell_all-requires
tell_all-requires c =
    let r = c.requires.outputs in
    let m = c.args.message in
    let given = passed_by c.args.node.now r.0 in
    let found = r.1.found c.if-lacked.false in
    let stands = c.in-Ok.ensures.taken (r.0 ∷ []) given found.stands (may_take_one r.0 m r.2) in
    (given, found.list_is ∙ sym (list_passed c.args.node.now r.0 r.1.legal), stands_given c.take_on.new.node ((r.0 ++ m ∷ []) ∷ []) (given ++ c.take_on.new.piece.items) stands)

pub returns-in-Ok-clause-outputs : goal.returns-in-Ok-clause-outputs
returns-in-Ok-clause-outputs c taken o legal =
    let m = c.args.message in
    let given = passed_by c.args.node.now taken in
    let found = o.found c.if-lacked.false in
    let stands = c.in-Ok.ensures.taken (taken ∷ []) given found.stands (may_take_one taken m legal) in
    let told = c.tell_all.ensures given (found.list_is ∙ sym (list_passed c.args.node.now taken o.legal)) (stands_given c.take_on.new.node ((taken ++ m ∷ []) ∷ []) (given ++ c.take_on.new.piece.items) stands) in
    outputs_told c.args.node.now c.take_on.new.node taken c.take_on.new.piece.items m c.args.writer.now c.tell_all.new.writer c.tell_all.result.lacked c.tell_all.result.pending c.take_on.ensures.made legal
    (found_state c.args.node.now taken c.args.writer.now c.args.lacked c.args.pending c.if-lacked.false (c.requires.published c.if-lacked.false) o) stands told

pub returns-in-Ok-clause-kept : goal.returns-in-Ok-clause-kept
returns-in-Ok-clause-kept c =
    let r = c.requires.outputs in
    let m = c.args.message in
    let given = passed_by c.args.node.now r.0 in
    let found = r.1.found c.if-lacked.false in
    let stands = c.in-Ok.ensures.taken (r.0 ∷ []) given found.stands (may_take_one r.0 m r.2) in
    let told = c.tell_all.ensures given (found.list_is ∙ sym (list_passed c.args.node.now r.0 r.1.legal)) (stands_given c.take_on.new.node ((r.0 ++ m ∷ []) ∷ []) (given ++ c.take_on.new.piece.items) stands) in
    (ap (λ (w : Writing). w.history) told.writer, ap (λ (w : Writing). w.published) told.writer)

pub returns-in-Err-clause-outputs : goal.returns-in-Err-clause-outputs
returns-in-Err-clause-outputs c taken o legal = outputs_lost c.args.node.now c.take_on.new.node taken c.args.message c.args.writer.now c.args.lacked c.args.pending c.take_on.ensures.made legal o

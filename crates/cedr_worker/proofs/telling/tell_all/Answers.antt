use Rattle.std.proofs.Common.{List, [], ◌∷◌, ◌++◌, refl, ap, sym, ◌∙◌, append_assoc}
use Rattle.std.proofs.lemmas.Iterator.Consumers.{YieldsList-turn, YieldsList-so_far}
use mathlib.Core.List.{IsPrefix}
use Rattle.cedr_base.specs.declared.change.Message.{Message}
use Rattle.cedr_history.specs.Ends.{Writing}
use Rattle.cedr_history.proofs.Fronts.{prefix_trans}
use Rattle.op_driver.proofs.DrainLemmas.{drain_yields}
use Rattle.worker_outlets.proofs.FanLemmas.{map_itself}
use Rattle.cedr_worker.specs.Outputs.{list_from}
use Rattle.cedr_worker.proofs.OutputLists.{next_first, next_comes, pushed_some}
use Rattle.cedr_worker.proofs.telling.tell_all.Goals as goal

pub tell-requires : goal.tell-requires
tell-requires c =
    let l = c.loop-message in
    let yields = drain_yields c.args.piece.now c.into_iter-message-iterator.ensures.into_iter_gives c.drain-message-items.ensures.rest in
    let so_far = sym (map_itself l.yielded) ∙ YieldsList-so_far yields l.yielded l.message-iterator l.yielded_by in
    let next = YieldsList-turn yields l.yielded l.message-iterator l.yielded_by c.next.result c.next.new.self c.in-Some.message c.in-Some.is c.next.ensures.steps in
    let first = next_first l.yielded c.args.piece.now.items c.in-Some.message so_far next in
    let given = c.requires.0 in
    (given ++ l.yielded, ap (λ (w : Writing). w.all) (l.invariant.0 given c.requires.1 c.requires.2), next_comes given c.args.piece.now.items l.yielded c.in-Some.message c.requires.2 first)

pub loop-message-preserved : goal.loop-message-preserved
loop-message-preserved c =
    let l = c.loop-message in
    let yields = drain_yields c.args.piece.now c.into_iter-message-iterator.ensures.into_iter_gives c.drain-message-items.ensures.rest in
    let so_far = sym (map_itself l.yielded) ∙ YieldsList-so_far yields l.yielded l.message-iterator l.yielded_by in
    let next = YieldsList-turn yields l.yielded l.message-iterator l.yielded_by c.next.result c.next.new.self c.in-Some.message c.in-Some.is c.next.ensures.steps in
    let first = next_first l.yielded c.args.piece.now.items c.in-Some.message so_far next in (
      λ given is legal.
          let before = l.invariant.0 given is legal in
          c.in-Ok.ensures.ok (given ++ l.yielded) (ap (λ (w : Writing). w.all) before) (next_comes given c.args.piece.now.items l.yielded c.in-Some.message legal first)
          ∙ (ap (λ (w : Writing). record w { all = list_from ((given ++ l.yielded) ++ c.in-Some.message ∷ []) }) before
          ∙ ap (λ (ms : List Message). record c.args.writer.now { all = list_from ms }) (append_assoc given l.yielded (c.in-Some.message ∷ []))),
      pushed_some l.yielded c.in-Some.message,
    )

pub returns-in-Err : goal.returns-in-Err
returns-in-Err c given is legal =
    let l = c.loop-message in
    let yields = drain_yields c.args.piece.now c.into_iter-message-iterator.ensures.into_iter_gives c.drain-message-items.ensures.rest in
    let so_far = sym (map_itself l.yielded) ∙ YieldsList-so_far yields l.yielded l.message-iterator l.yielded_by in
    let next = YieldsList-turn yields l.yielded l.message-iterator l.yielded_by c.next.result c.next.new.self c.in-Some.message c.in-Some.is c.next.ensures.steps in
    let first = next_first l.yielded c.args.piece.now.items c.in-Some.message so_far next in
    let one : IsPrefix l.yielded (l.yielded ++ c.in-Some.message ∷ []) = (c.in-Some.message ∷ [], refl) in
    record {
      done = l.yielded;
      first = prefix_trans l.yielded (l.yielded ++ c.in-Some.message ∷ []) c.args.piece.now.items one first;
      writer = c.in-Err.ensures.err ∙ l.invariant.0 given is legal;
      whole = λ e. cc e;
      some = l.invariant.1;
    }

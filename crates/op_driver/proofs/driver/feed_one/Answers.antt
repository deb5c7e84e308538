use Rattle.std.proofs.Common.{◌≡◌, ◌++◌, ◌∷◌, [], ◌∙◌, ap, sym, subst, refl, List, set}
use Rattle.std.proofs.lemmas.List.{append-nil}
use Rattle.cedr_base.specs.declared.change.Change.{Change}
use Rattle.cedr_base.specs.declared.change.Message.{Message}
use Rattle.cedr_base.specs.declared.change.Message.TheVariants as message
use Rattle.change_laws.specs.Repairs.{IsMoved, wrapped}
use Rattle.change_laws.proofs.Legal.{mark-wrapped}
use Rattle.change_laws.proofs.Moves.{applied, applied_moves}
use Rattle.cedr_table.specs.Operators.{table_at}
use Rattle.op_driver.specs.Driving.{MayTake, IsFed}
use Rattle.op_driver.proofs.DriveLemmas.{can_take, feed_change, feed_mark, fed_close}
use Rattle.op_driver.proofs.driver.feed_one.Goals as goal

pub apply-requires : goal.apply-requires
apply-requires g c =
    let w = c.requires.2 in
    let op = g.O.Operator in
    let old = c.args.op.now in
    let may : MayTake c.requires.0 c.args.port (message.Change c.in-Change.change) = subst (λ (m : Message). MayTake c.requires.0 c.args.port m) c.in-Change.is c.requires.3 in
    (w.tables, c.args.marks.now.items, w.op, can_take (op.meaning old) (op.stands old) (op.stands old) c.args.marks.now.items c.requires.0 c.requires.1 c.args.port w c.in-Change.change may)

pub returns-in_ok-push_changes-in-Change-clause-fed : goal.returns-in_ok-push_changes-in-Change-clause-fed
returns-in_ok-push_changes-in-Change-clause-fed g c = λ lists given w may0.
    let op = g.O.Operator in
    let laws = g.met.O.Operator in
    let old = c.args.op.now in
    let new = c.apply.new.self in
    let marks = c.args.marks.now.items in
    let change = c.in-Change.change in
    let port = c.args.port in
    let may : MayTake lists port (message.Change change) = subst (λ (m : Message). MayTake lists port m) c.in-Change.is may0 in
    let can = can_take (op.meaning old) (op.stands old) (op.stands old) marks lists given port w change may in
    let rows = table_at w.tables port in
    let moved : IsMoved change rows (applied change rows) = applied_moves change rows can.legal in
    let stands_now = c.in_ok-apply-in-Change.ensures.stands w.tables marks (applied change rows) w.op can moved in
    let fixed = c.in_ok-apply-in-Change.ensures.repairs w.tables marks (applied change rows) w.op can moved in
    let changes_are : c.apply.new.out.items ≡ fixed.changes = (fixed.appended ∙ ap (λ (cs : List Change). cs ++ fixed.changes) c.empty.ensures) in
    subst (λ (m : Message). IsFed (op.meaning old) (op.stands new) marks lists port (m ∷ []) given c.args.out.now.items c.push_changes.new.out.items) (sym c.in-Change.is) (record {
      gained = wrapped fixed.changes;
      appended = c.in_ok-push_changes-in-Change.ensures.out ∙ ap (λ (cs : List Change). c.args.out.now.items ++ wrapped cs) changes_are;
      works = feed_change (op.meaning old) (op.stands old) (op.stands new) marks lists given port w change fixed.changes may stands_now fixed.repair
          ((laws.lawful old).bound_stays w.tables marks port change (applied change rows) w.op can moved);
      no_mark = mark-wrapped fixed.changes;
      echo = λ e. ap (λ (cs : List Change). wrapped cs) (sym changes_are ∙ (c.in_ok-apply-in-Change.ensures.echoes e ∙ ap (λ (cs : List Change). cs ++ c.in-Change.change ∷ []) c.empty.ensures));
    })

pub returns-in-Mark-clause-fed : goal.returns-in-Mark-clause-fed
returns-in-Mark-clause-fed g c = λ lists given w may0.
    let op = g.O.Operator in
    let laws = g.met.O.Operator in
    let old = c.args.op.now in
    let marks = c.args.marks.now.items in
    let port = c.args.port in
    let may : MayTake lists port (message.Mark c.in-Mark.t) = subst (λ (m : Message). MayTake lists port m) c.in-Mark.is may0 in
    subst (λ (m : Message). IsFed (op.meaning old) (op.stands old) (set c.args.marks.now.items c.args.port c.in-Mark.t) lists port (m ∷ []) given c.args.out.now.items c.args.out.now.items) (sym c.in-Mark.is) (record {
      gained = [];
      appended = sym (append-nil c.args.out.now.items);
      works = feed_mark (op.meaning old) (op.stands old) (op.stands old) marks lists given port w c.in-Mark.t may ((laws.lawful old).rising w.tables marks _ w.op) ((laws.lawful old).bound_rises w.tables marks _ w.op);
      no_mark = refl;
      echo = λ e. refl;
    })

pub returns-in-End-clause-fed : goal.returns-in-End-clause-fed
returns-in-End-clause-fed g c = λ lists given w may0.
    let op = g.O.Operator in
    let old = c.args.op.now in
    subst (λ (m : Message). IsFed (op.meaning old) (op.stands old) c.args.marks.now.items lists c.args.port (m ∷ []) given c.args.out.now.items c.args.out.now.items) (sym c.in-End.is)
    (fed_close (op.meaning old) (op.stands old) (op.stands old) c.args.marks.now.items lists given c.args.port w message.End c.args.out.now.items refl refl w.op)

pub returns-in-Broken-clause-fed : goal.returns-in-Broken-clause-fed
returns-in-Broken-clause-fed g c = λ lists given w may0.
    let op = g.O.Operator in
    let old = c.args.op.now in
    subst (λ (m : Message). IsFed (op.meaning old) (op.stands old) c.args.marks.now.items lists c.args.port (m ∷ []) given c.args.out.now.items c.args.out.now.items) (sym c.in-Broken.is)
    (fed_close (op.meaning old) (op.stands old) (op.stands old) c.args.marks.now.items lists given c.args.port w message.Broken c.args.out.now.items refl refl w.op)

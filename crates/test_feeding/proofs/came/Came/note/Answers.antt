use Rattle.std.proofs.Common.{◌++◌, refl, subst}
use Rattle.cedr_base.specs.declared.change.Change.{Change}
use Rattle.cedr_base.specs.declared.change.Message.TheVariants as message
use Rattle.cedr_base.specs.Rows.{SameRows}
use Rattle.cedr_base.specs.Changes.{puts, takes}
use Rattle.test_feeding.proofs.CameLemmas.{change_came, mark_came, last_came}
use Rattle.test_feeding.proofs.came.Came.note.Goals as goal

pub returns-in_ok-note-in-Change : goal.returns-in_ok-note-in-Change
returns-in_ok-note-in-Change c = λ ms stands may.
    change_came c.args.self.now ms c.args.message.now c.in-Change.change c.note.new.table c.in-Change.is stands may
    (subst (λ (change : Change). SameRows (c.note.new.table ++ takes change) (c.args.self.now.table ++ puts change)) c.in_ok-copy-in-Change.ensures c.in_ok-note-in-Change.ensures)

pub returns-in-Mark : goal.returns-in-Mark
returns-in-Mark c = λ ms stands may. mark_came c.args.self.now ms c.args.message.now c.in-Mark.time c.in-Mark.is stands may

pub returns-in-End : goal.returns-in-End
returns-in-End c = λ ms stands may. last_came c.args.self.now ms c.args.message.now message.End c.in-End.is refl refl stands

pub returns-in-Broken : goal.returns-in-Broken
returns-in-Broken c = λ ms stands may. last_came c.args.self.now ms c.args.message.now message.Broken c.in-Broken.is refl refl stands

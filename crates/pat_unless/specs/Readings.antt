-- How the states of an unless are read.
use Rattle.std.specs.Prelude.{[], ◌∷◌}
use Rattle.cedr_table.specs.Readings.{Reading}
use Rattle.pat_state.specs.Tied.{left_held, right_held}
use Rattle.pat_unless.specs.declared.unless.Unless.{Unless}
use Rattle.pat_unless.specs.Blocking.{unless_of}
use Rattle.pat_unless.specs.Standing.{UnlessStands}

abbrev pub unless_reading : Reading Unless
unless_reading = record {
  meaning = λ op. unless_of op.terms.scope op.terms.hold op.terms.tests;
  stands = λ op. UnlessStands op.terms op.tied;
  held = λ op. left_held op.tied ∷ right_held op.tied ∷ [];
}

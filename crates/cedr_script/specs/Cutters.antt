-- What a cutter has kept of the line that has begun.
use Rattle.cedr_script.specs.Begun.{Begun}
use Rattle.cedr_script.specs.declared.cutter.LineCutter.{LineCutter}

-- what came of the line that has begun, and whether the rest of it is left out
abbrev pub begun_of : LineCutter → Begun
begun_of cutter = record { line = cutter.begun.items; leaves = cutter.leaves }

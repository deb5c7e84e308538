-- What is left of a plan's workers, by what it is.
use Rattle.std.specs.Prelude.{List, [], ◌∷◌}
use Rattle.std.specs.List.{flat_map}
use Rattle.cedr_worker.specs.declared.source.SourceEnd.{SourceEnd}
use Rattle.plan_workers.specs.declared.ended.Part.{Part}
use Rattle.plan_workers.specs.declared.ended.Part.TheVariants as part
use Rattle.plan_workers.specs.declared.held.HeldWriter.{HeldWriter}
use Rattle.plan_workers.specs.Wents.{source_left}

-- the ends of the sources, in order
abbrev pub source_ends_in : {S R : Type 0} → List (Part S R) → List (SourceEnd S)
source_ends_in parts = flat_map source_left parts

-- the writer that is left of an output, and none of any other node
abbrev pub writer_left : {S R : Type 0} → Part S R → List (HeldWriter R)
writer_left (part.Source end) = []
writer_left (part.Operator node lacked) = []
writer_left (part.Output node lacked held) = held ∷ []

-- the writers of the outputs, in order
abbrev pub writers_in : {S R : Type 0} → List (Part S R) → List (HeldWriter R)
writers_in parts = flat_map writer_left parts

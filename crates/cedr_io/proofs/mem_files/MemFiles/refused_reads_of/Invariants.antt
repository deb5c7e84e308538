use Rattle.std.proofs.Common.{◌≡◌, ◌++◌, drop}
use Rattle.cedr_io.specs.Memory.{calls_under}
use Rattle.cedr_io.proofs.mem_files.MemFiles.refused_reads_of.Given as goal

abbrev pub invariant-loop-read : goal.invariant-loop-read
invariant-loop-read l = l.calls.items ++ calls_under l.name (drop l.read-index l.self.refused_reads.items) ≡ calls_under l.name l.self.refused_reads.items

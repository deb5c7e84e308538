-- What the objects in memory refuse: the calls whose numbers they were given.
use Rattle.std.specs.Prelude.{ℕ, ◌+◌, List, [], ◌∷◌, Bool, min, if◌then◌else◌}
use Rattle.std.specs.Ordering.{is_eq}
use Rattle.cedr_base.specs.Order.{text_cmp}
use Rattle.cedr_io.specs.Counts.{last_count}
use Rattle.cedr_io.specs.declared.mem_files.MemFiles.{MemFiles}
use Rattle.cedr_io.specs.declared.mem_files.ListSource.{ListSource}
use Rattle.cedr_io.specs.declared.mem_files.RefusedRead.{RefusedRead}
use Rattle.cedr_io.specs.declared.mem_sink.MemSink.{MemSink}

-- two names have the same bytes
abbrev pub same_name : List ℕ → List ℕ → Bool
same_name m n = is_eq (text_cmp m n)

-- the number of the next find: from 1 on, and it stays at its last value
abbrev pub find_number : MemFiles → ℕ
find_number f = min (f.finds + 1) last_count

-- the number of a source's next read: from 1 on, and it stays at its last value
abbrev pub read_number : ListSource → ℕ
read_number s = min (s.reads + 1) last_count

-- the number of the next write: from 1 on, and it stays at its last value
abbrev pub write_number : MemSink → ℕ
write_number s = min (s.writes + 1) last_count

-- how many bytes a read gives at most, of sources that are found later
abbrev pub piece_of_files : MemFiles → ℕ
piece_of_files f = f.piece

-- how many bytes a read of this source gives at most
abbrev pub piece_of_source : ListSource → ℕ
piece_of_source s = s.piece

-- how many bytes a write takes at most
abbrev pub piece_of_sink : MemSink → ℕ
piece_of_sink s = s.piece

-- the numbers of the finds that will be refused
abbrev pub refused_finds : MemFiles → List ℕ
refused_finds f = f.refused_finds.items

-- the numbers of the writes that will be refused
abbrev pub refused_writes : MemSink → List ℕ
refused_writes s = s.refused.items

-- the numbers of this source's reads that will be refused
abbrev pub refused_of_source : ListSource → List ℕ
refused_of_source s = s.refused.items

-- the numbers of the reads under a name, among these reads
abbrev pub calls_under : List ℕ → List RefusedRead → List ℕ
calls_under name [] = []
calls_under name (read ∷ reads) = if same_name read.name name then read.call ∷ calls_under name reads else calls_under name reads

-- the numbers of the reads that will be refused, of each source that is found under this name
abbrev pub refused_reads : MemFiles → List ℕ → List ℕ
refused_reads f name = calls_under name f.refused_reads.items

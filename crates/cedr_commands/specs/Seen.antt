-- What contracts see of the files and the sinks, before a call and after it, and what changed between.
use Rattle.std.specs.Prelude.{ℕ, ◌≡◌, ◌⊎◌, List, Option}
use Rattle.std.specs.Io.KnownBytes.{Appends}
use Rattle.cedr_io.specs.Counts.{Rose}
use Rattle.cedr_io.specs.Asked.{AppendsFront}

-- of files: what each holds, where that is known, the count of their faults, and which names were asked for
pub record FilesSeen : Type 0 where
  pub content : List ℕ → Option (List ℕ)
  pub faults : ℕ
  pub asked : List (List ℕ)

-- of a sink: what was written to it, where that is known, and the count of its faults
pub record SinkSeen : Type 0 where
  pub written : Option (List ℕ)
  pub faults : ℕ

-- what is seen of files
abbrev pub seen_files : {F : Type 0} → (F → List ℕ → Option (List ℕ)) → (F → ℕ) → (F → List (List ℕ)) → F → FilesSeen
seen_files content faults asked files = record { content = content files; faults = faults files; asked = asked files }

-- what is seen of a sink
abbrev pub seen_sink : {K : Type 0} → (K → Option (List ℕ)) → (K → ℕ) → K → SinkSeen
seen_sink written faults sink = record { written = written sink; faults = faults sink }

-- nothing outside refused
pub record NoneRose (files files' : FilesSeen) (out out' : SinkSeen) : Type 0 where
  pub files_count : files'.faults ≡ files.faults
  pub out_count : out'.faults ≡ out.faults

-- a sink took the text, or only a front of it and its count rose
abbrev pub SinkGains : SinkSeen → SinkSeen → List ℕ → Type 0
SinkGains old new text = Appends old.written new.written text ⊎ (Rose old.faults new.faults × AppendsFront old.written new.written text)

-- a sink took only a front of the text and refused nothing, since it lacked memory itself
pub record BreaksOff (old new : SinkSeen) (text : List ℕ) : Type 0 where
  pub front : AppendsFront old.written new.written text
  pub unrefused : new.faults ≡ old.faults

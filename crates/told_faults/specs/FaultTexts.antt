-- What is told of a line of events that isn't accepted.
use Rattle.std.specs.Prelude.{ℕ, List, [], ◌∷◌, ◌++◌, codes, decimal}
use Rattle.cedr_base.specs.Bytes.{line_feed}
use Rattle.cedr_guard.specs.declared.refusal.Refusal.{Refusal}
use Rattle.cedr_text.specs.declared.fault.LineFault.{LineFault}
use Rattle.cedr_text.specs.declared.fault.LineFault.TheVariants.{LineTooLong, BadForm, BadNumber, EmptyLife, BadField, KnownId, UnknownId, BadEnd, BeforeGuarantee, TooLarge}
use Rattle.cedr_text.specs.Faults.{line_fault_number}
use Rattle.cedr_text.specs.Texts.{time_text}

-- the numbers that a fault carries
abbrev pub kept_text : LineFault → List ℕ
kept_text (BadEnd begin end) = codes " begin " ++ (time_text begin ++ (codes " end " ++ time_text end))
kept_text (BeforeGuarantee sync mark) = codes " sync " ++ (time_text sync ++ (codes " mark " ++ time_text mark))
kept_text LineTooLong = []
kept_text BadForm = []
kept_text BadNumber = []
kept_text EmptyLife = []
kept_text BadField = []
kept_text KnownId = []
kept_text UnknownId = []
kept_text TooLarge = []

-- the file's name, the number of the line and of its fault
abbrev pub refusal_text : List ℕ → Refusal → List ℕ
refusal_text file refusal =
    codes "events " ++ (file ++ (codes " line " ++ (decimal refusal.line ++ (codes " fault " ++ (decimal (line_fault_number refusal.fault) ++ (kept_text refusal.fault ++ line_feed ∷ []))))))

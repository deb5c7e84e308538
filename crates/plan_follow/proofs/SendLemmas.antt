-- What is read and sent over a wire.
use Rattle.std.proofs.Common.{ℕ, List, Result, Ok, Err}
use Rattle.std.specs.Io.KnownBytes.{Appends, Keeps}
use Rattle.cedr_script.specs.Logs.{Sends}
use Rattle.plan_follow.specs.Following.{OutsideSeen}
use Rattle.plan_follow.specs.Sending.{TellsOf, SendsBoth}
use Rattle.plan_follow.specs.declared.fault.FollowFault.{FollowFault}
use Rattle.plan_follow.specs.declared.fault.FollowFault.TheVariants as follow_fault
use Rattle.plan_live.proofs.ShownLemmas.{front_all}

-- the text is whole, and what is told follows
pub both_sent : (result : Result (Unit {0}) FollowFault) (old new : OutsideSeen) (text said : List ℕ) → Keeps old.rest new.rest → Sends old.log new.log text → Appends old.written new.written text → TellsOf result old.told_faults new.told_faults old.told new.told said → SendsBoth result old new text said
both_sent (Ok done) old new text said rest sent all told = (rest, sent, all, told)
both_sent (Err follow_fault.Read) old new text said rest sent all told = absurd told
both_sent (Err follow_fault.Write) old new text said rest sent all told = absurd told
both_sent (Err follow_fault.OutOfMemory) old new text said rest sent all told = (record { rest = rest; log = (text, sent) }, front_all old.written new.written text all, told)

-- A script that is followed, read by read: what was read, which lines were taken, and what was written and told of them.
use Rattle.std.specs.Prelude.{ℕ, ◌≡◌, false, List, ◌++◌, Bool, true, Option, Result, Ok, Err}
use Rattle.std.specs.Io.KnownBytes.{Appends, Consumes}
use Rattle.cedr_plan.specs.declared.plan.PlanNode.{PlanNode}
use Rattle.cedr_script.specs.Begun.{Begun}
use Rattle.cedr_script.specs.Cutting.{script_answers, answers_left}
use Rattle.cedr_script.specs.Logs.{came, went, LogGrows}
use Rattle.cedr_script.specs.declared.step.WireStep.{WireStep}
use Rattle.cedr_text.specs.Lines.{has_line_feed}
use Rattle.cedr_text.specs.declared.event_line.Shape.{Shape}
use Rattle.node_laws.specs.Lists.{Lists}
use Rattle.plan_follow.specs.Followers.{FollowerAt, Gone, IsClear}
use Rattle.plan_follow.specs.Following.{OutsideSeen, ToldAll, IsPrompt, FollowsOn}
use Rattle.plan_follow.specs.Sending.{SendsBoth}
use Rattle.plan_follow.specs.Sifted.{Sifted, sifted}
use Rattle.plan_follow.specs.declared.fault.FollowFault.{FollowFault}
use Rattle.plan_follow.specs.declared.follower.Follower.{Follower}

-- what is followed: a script of this name over a plan, behind lines that came to this and for which the nodes had given these lists
pub record Followed : Type 0 where
  pub nodes : List PlanNode
  pub shapes : List Shape
  pub name : List ℕ
  pub first : Sifted
  pub start : Lists

abbrev pub followed : List PlanNode → List Shape → List ℕ → Sifted → Lists → Followed
followed nodes shapes name first start = record { nodes = nodes; shapes = shapes; name = name; first = first; start = start }

-- These bytes were read and these lines taken; and what was written and told is what the follower doesn't keep of what comes of
-- them.
pub record IsHeld (f : Followed) (follower : Follower) (old new : OutsideSeen) (bytes : List ℕ) (answers : List (Option (List ℕ))) : Type 0 where
  pub took : Consumes old.rest new.rest bytes
  pub gone : Gone
  pub came_to : FollowerAt f.nodes f.name follower (sifted f.nodes f.shapes f.first answers) f.start gone
  pub written : Appends old.written new.written gone.written
  pub told : ToldAll old.told_faults new.told_faults old.told new.told gone.told
  pub steps : List WireStep
  pub grows : LogGrows old.log new.log steps
  pub came_is : came steps ≡ bytes
  pub went_is : went steps ≡ gone.written
  pub prompt : IsPrompt f.nodes f.first f.start steps

-- the follower keeps no text any more, and is as before
pub record IsSent (old new : Follower) : Type 0 where
  pub clear : IsClear new
  pub player : new.player ≡ old.player
  pub taken : new.taken ≡ old.taken
  pub number : new.number ≡ old.number
  pub faulty : new.faulty ≡ old.faulty

-- whatever may still come, these lines come first, and then those that go on with what has begun
pub record AreHeard (begun : Begun) (bytes : List ℕ) (answers : List (Option (List ℕ))) : Type 0 where
  pub first : (more : List ℕ) → script_answers (bytes ++ more) ≡ answers ++ answers_left begun more
  pub unended : has_line_feed begun.line ≡ false

-- before a read: nothing is kept
pub record IsUpTo (f : Followed) (begun : Begun) (follower : Follower) (old new : OutsideSeen) : Type 0 where
  pub bytes : List ℕ
  pub answers : List (Option (List ℕ))
  pub heard : AreHeard begun bytes answers
  pub held : IsHeld f follower old new bytes answers
  pub clear : IsClear follower

-- What is kept was written and told, and nothing is kept any more; or a front of it was.
abbrev pub SendsKept : Result (Unit {0}) FollowFault → Follower → Follower → OutsideSeen → OutsideSeen → Type 0
SendsKept (Ok done) old new first then = SendsBoth (Ok done) first then old.text.items old.said.items × IsSent old new
SendsKept (Err fault) old new first then = SendsBoth (Err fault) first then old.text.items old.said.items

-- behind a read and what comes of it: the script goes on, it has ended, or following is broken off
abbrev pub FollowsNext : Result Bool FollowFault → Followed → Begun → Follower → OutsideSeen → OutsideSeen → Type 0
FollowsNext (Ok false) f begun follower old new = IsUpTo f begun follower old new
FollowsNext (Ok true) f begun follower old new = FollowsOn (Ok follower.faulty) f.nodes f.first f.start f.name old new
FollowsNext (Err fault) f begun follower old new = FollowsOn (Err fault) f.nodes f.first f.start f.name old new

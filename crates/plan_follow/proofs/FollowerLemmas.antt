-- A follower that goes on with a line, and what it starts from.
use Rattle.std.proofs.Common.{◌≡◌, ℕ, ◌+◌, List, [], ◌∷◌, ◌++◌, Bool, false, length, get_or, Option, None, Some, refl, ap, sym, ◌∙◌, subst, append_assoc, append-nil}
use Rattle.std.specs.Prelude.{drop}
use Rattle.std.proofs.lemmas.Grind.{flat_map-append}
use Rattle.std.proofs.Math.Seq.{drop-append_seam}
use Rattle.cedr_base.specs.declared.change.Message.{Message}
use Rattle.cedr_guard.specs.declared.refusal.Refusal.{Refusal}
use Rattle.cedr_net.proofs.EdgeLemmas.{any_default}
use Rattle.cedr_net.proofs.PlaceLemmas.{source_here}
use Rattle.cedr_net.proofs.RunLemmas.{settled_run}
use Rattle.cedr_net.proofs.SettleLemmas.{grow_along}
use Rattle.cedr_net.specs.Flows.{reads_of}
use Rattle.cedr_net.specs.Networks.{AllGrow, TakesOn}
use Rattle.cedr_plan.specs.Places.{output_place}
use Rattle.cedr_plan.specs.declared.plan.PlanNode.{PlanNode}
use Rattle.cedr_text.specs.declared.fault.LineFault.{LineFault}
use Rattle.node_laws.specs.Lists.{Lists, list_at}
use Rattle.plan_follow.specs.declared.follower.Follower.{Follower}
use Rattle.plan_follow.specs.declared.player.OpenPlayer.{OpenPlayer}
use Rattle.plan_follow.specs.Followers.{Gone, nothing_gone, FollowerAt, GoesAhead, faulty_with, CountsLine, TakesFresh, IsClear}
use Rattle.plan_follow.specs.Following.{GaveMore, refusals_text, any_refused}
use Rattle.plan_follow.specs.Playing.{PlayerHolds, refused_as}
use Rattle.plan_follow.specs.Sifted.{Sifted}
use Rattle.plan_live.specs.Scripts.{Accepted}
use Rattle.plan_runs.proofs.SourceLists.{same_sources}
use Rattle.plan_runs.specs.Runs.{sources_in, IsRun}
use Rattle.stream_text.specs.MessageTexts.{message_text, messages_text}
use Rattle.told_faults.specs.FaultTexts.{refusal_text}

-- what the output of a plan gave
abbrev output_of : List PlanNode → Lists → List Message
output_of nodes given = list_at given (output_place nodes)

-- ---- runs

-- the sources gave what they were sent
sources_sent : (nodes : List PlanNode) (player : OpenPlayer) (kept : Accepted) (sent given : Lists) → PlayerHolds nodes player kept sent given → sources_in nodes given ≡ sources_in nodes sent
sources_sent nodes player kept sent given p = same_sources nodes given sent (λ k d within is.
    p.sources k within (source_here nodes k (get_or nodes k d) within (any_default nodes k (get_or nodes k d) d within) is))

-- a network in which no message waits is a run
pub still_run : (nodes : List PlanNode) (player : OpenPlayer) (kept : Accepted) (sent given : Lists) (p : PlayerHolds nodes player kept sent given) → IsRun nodes (sources_in nodes sent) p.still.ports given
still_run nodes player kept sent given p =
    subst (λ (sources : Lists). IsRun nodes sources p.still.ports given) (sources_sent nodes player kept sent given p)
    (settled_run nodes (reads_of nodes) player.net.flow.waiting.items player.net.flow.works.items p.still.ports given p.still.stands.stands.flows p.still.empty)

-- so what the output gave is what it gives for the lines
pub gave_more : (nodes : List PlanNode) (name : List ℕ) (follower : Follower) (s : Sifted) (start : Lists) (gone : Gone) (c : FollowerAt nodes name follower s start gone) → GaveMore nodes start s.sent c.gathered.more
gave_more nodes name follower s start gone c = record {
  ports = c.holds.still.ports;
  given = c.given;
  run = still_run nodes follower.player s.kept s.sent c.given c.holds;
  goes_on = c.gathered.grew;
  all = c.gathered.all;
}

-- ---- texts

pub text_along : (xs ys : List Message) → messages_text (xs ++ ys) ≡ messages_text xs ++ messages_text ys
text_along xs ys = flat_map-append message_text xs ys

told_along : (name : List ℕ) (xs ys : List Refusal) → refusals_text name (xs ++ ys) ≡ refusals_text name xs ++ refusals_text name ys
told_along name xs ys = flat_map-append (refusal_text name) xs ys

-- a line more is faulty or not
refused_more : (refusals : List Refusal) (number : ℕ) (fault : Option LineFault) → any_refused (refusals ++ refused_as number fault) ≡ faulty_with (any_refused refusals) fault
refused_more [] number None = refl
refused_more [] number (Some fault) = refl
refused_more (r ∷ refusals) number None = refl
refused_more (r ∷ refusals) number (Some fault) = refl

-- ---- a line more

module _ (nodes : List PlanNode) (name : List ℕ) (old mid new : Follower) (s now : Sifted) (start : Lists) (gone : Gone) (fault : Option LineFault) (g : GoesAhead nodes name old s now start gone fault) (noted : CountsLine name old mid fault) (gathers : TakesFresh mid new) where
  took : TakesOn (output_of nodes g.ahead.given') mid.taken gathers.fresh × PlayerHolds nodes new.player now.kept now.sent g.ahead.given'
  took = gathers.took nodes now.kept now.sent g.ahead.given' (subst (λ (p : OpenPlayer). PlayerHolds nodes p now.kept now.sent g.ahead.given') (sym noted.player) g.ahead.holds)

  grown : (x : List Message) × (output_of nodes g.ahead.given' ≡ output_of nodes g.given ++ x)
  grown = g.ahead.grew.grows (output_place nodes)

  fresh_is : gathers.fresh ≡ grown.0
  fresh_is =
      took.0.left
      ∙ (ap (λ (n : ℕ). drop n (output_of nodes g.ahead.given')) (noted.taken ∙ g.gathered.taken)
      ∙ (ap (λ (all : List Message). drop (length (output_of nodes g.given)) all) grown.1 ∙ drop-append_seam (output_of nodes g.given) grown.0))

  all_is : output_of nodes g.ahead.given' ≡ output_of nodes start ++ (g.gathered.more ++ gathers.fresh)
  all_is =
      grown.1
      ∙ (ap (λ (all : List Message). all ++ grown.0) g.gathered.all
      ∙ (append_assoc (output_of nodes start) g.gathered.more grown.0 ∙ ap (λ (some : List Message). output_of nodes start ++ (g.gathered.more ++ some)) (sym fresh_is)))

  text_is : gone.written ++ new.text.items ≡ messages_text (g.gathered.more ++ gathers.fresh)
  text_is =
      ap (λ (bytes : List ℕ). gone.written ++ bytes) (gathers.text ∙ ap (λ v. v.items ++ messages_text gathers.fresh) noted.text)
      ∙ (sym (append_assoc gone.written old.text.items (messages_text gathers.fresh))
      ∙ (ap (λ (bytes : List ℕ). bytes ++ messages_text gathers.fresh) g.gathered.text ∙ sym (text_along g.gathered.more gathers.fresh)))

  refused : List Refusal
  refused = refused_as (s.count + 1) fault

  said_is : gone.told ++ new.said.items ≡ refusals_text name now.refusals
  said_is =
      ap (λ (bytes : List ℕ). gone.told ++ bytes) (ap (λ v. v.items) gathers.said ∙ (noted.said ∙ ap (λ (n : ℕ). old.said.items ++ refusals_text name (refused_as (n + 1) fault)) g.gathered.number))
      ∙ (sym (append_assoc gone.told old.said.items (refusals_text name (refused_as (s.count + 1) fault)))
      ∙ (ap (λ (bytes : List ℕ). bytes ++ refusals_text name (refused_as (s.count + 1) fault)) g.gathered.said
      ∙ (sym (told_along name s.refusals (refused_as (s.count + 1) fault)) ∙ ap (refusals_text name) (sym g.ahead.refusals))))

  -- it came to where the lines come with it
  pub came_on : FollowerAt nodes name new now start gone
  came_on = record {
    given = g.ahead.given';
    holds = took.1;
    gathered = record {
      grew = grow_along start g.given g.ahead.given' g.gathered.grew g.ahead.grew;
      more = g.gathered.more ++ gathers.fresh;
      all = all_is;
      taken = gathers.taken ∙ took.0.ends;
      number = gathers.number ∙ (noted.number ∙ (ap (λ (n : ℕ). n + 1) g.gathered.number ∙ sym g.ahead.count));
      faulty = gathers.faulty ∙ (noted.faulty ∙ (ap (λ (b : Bool). faulty_with b fault) g.gathered.faulty ∙ (sym (refused_more s.refusals (s.count + 1) fault) ∙ ap any_refused (sym g.ahead.refusals))));
      text = text_is;
      said = said_is;
    };
  }

-- ---- before the first line

none_kept : (xs : List ℕ) → xs ≡ [] → [] ++ xs ≡ []
none_kept xs none = none

-- nothing came of no line
pub first_came : (nodes : List PlanNode) (name : List ℕ) (follower : Follower) (s : Sifted) (start given : Lists) → s.count ≡ 0 → s.refusals ≡ [] → PlayerHolds nodes follower.player s.kept s.sent given → AllGrow start given → output_of nodes given ≡ output_of nodes start
    → follower.taken ≡ length (output_of nodes given) → follower.number ≡ 0 → follower.faulty ≡ false → IsClear follower → FollowerAt nodes name follower s start nothing_gone
first_came nodes name follower s start given count refusals p grew same taken number faulty clear = record {
  given = given;
  holds = p;
  gathered = record {
    grew = grew;
    more = [];
    all = same ∙ sym (append-nil (output_of nodes start));
    taken = taken;
    number = number ∙ sym count;
    faulty = faulty ∙ ap any_refused (sym refusals);
    text = clear.text;
    said = clear.said ∙ ap (refusals_text name) (sym refusals);
  };
}

-- lists that go on from none
pub grow_first : (given : Lists) → AllGrow [] given
grow_first given = record { grows = λ k. (list_at given k, refl) }

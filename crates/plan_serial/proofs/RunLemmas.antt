-- The run of a plan whose sources gave all that they had.
use Rattle.std.proofs.Common.{◌≡◌, ◌≤◌, ℕ, zero, suc, List, [], ◌∷◌, length, get_or, refl, ap, sym, ◌∙◌, subst, arith}
use Rattle.std.specs.Prelude.{map, replicate}
use Rattle.std.proofs.lemmas.List.{length-drop, take_all}
use Rattle.cedr_base.specs.declared.change.Message.{Message}
use Rattle.cedr_guard.specs.Messages.{messages_in}
use Rattle.node_laws.specs.Lists.{Lists, list_at}
use Rattle.cedr_plan.specs.declared.plan.PlanNode.{PlanNode}
use Rattle.cedr_net.proofs.EdgeLemmas.{any_default}
use Rattle.cedr_net.proofs.NewLemmas.{no_list}
use Rattle.cedr_net.proofs.PlaceLemmas.{source_here}
use Rattle.plan_runs.specs.Runs.{sources_in, IsRun}
use Rattle.plan_runs.proofs.SourceLists.{same_sources}
use Rattle.cedr_net.specs.declared.net.SerialNet.{SerialNet}
use Rattle.cedr_net.specs.Flows.{reads_of, no_ports}
use Rattle.cedr_net.specs.Networks.{NetStands}
use Rattle.cedr_net.proofs.RunLemmas.{settled_run}
use Rattle.plan_serial.specs.Rounds.{ByLine, entries_at, all_messages}
use Rattle.plan_serial.specs.Feeding.{AreSources, StandsAfterRounds, IsSettledAt, IsWholeRun}
use Rattle.plan_serial.proofs.RoundLemmas.{gave_so_far}

messages_at : (lines : ByLine) (k : ℕ) → list_at (all_messages lines) k ≡ messages_in (entries_at lines k)
messages_at [] k = refl
messages_at (l ∷ lines) zero = refl
messages_at (l ∷ lines) (suc k) = messages_at lines k

-- sources that gave nothing yet
pub fed_first : (nodes : List PlanNode) (net : SerialNet) (whole : ByLine) → NetStands nodes net (map no_ports nodes) (replicate (length nodes) []) → AreSources nodes whole → StandsAfterRounds nodes net whole whole 0
fed_first nodes net whole stands sources = record {
  ports = map no_ports nodes;
  given = replicate (length nodes) [];
  stands = stands;
  sources = sources;
  wide = sources.count;
  left_are = λ k. refl;
  came = (refl, no_list (length nodes));
}

-- sources that gave all
module _ (nodes : List PlanNode) (net : SerialNet) (left whole : ByLine) (rounds : ℕ) (s : StandsAfterRounds nodes net left whole rounds) (none : (k : ℕ) → entries_at left k ≡ []) where
  few : (k : ℕ) → length (entries_at whole k) ≤ rounds
  few k = let gone = ap (λ (es : List (List Message)). length es) (sym (s.left_are k) ∙ none k) in omega (arith, gone, length-drop rounds (entries_at whole k))

  all_given : sources_in nodes s.given ≡ sources_in nodes (all_messages whole)
  all_given = same_sources nodes s.given (all_messages whole) (λ k d within is.
      gave_so_far nodes whole rounds s.ports s.given s.came k within (source_here nodes k (get_or nodes k d) within (any_default nodes k (get_or nodes k d) d within) is)
      ∙ (ap messages_in (take_all rounds (entries_at whole k) (few k)) ∙ sym (messages_at whole k)))

  pub whole_run : IsSettledAt nodes net → IsWholeRun nodes net whole
  whole_run settled = record {
    ports = s.ports;
    given = s.given;
    stands = s.stands;
    settled = settled;
    sources = all_given;
    run = subst (λ (sources : Lists). IsRun nodes sources s.ports s.given) all_given (settled_run nodes (reads_of nodes) net.flow.waiting.items net.flow.works.items s.ports s.given s.stands.stands.flows settled);
    came = record { rounds = rounds; all = few; came = s.came };
  }

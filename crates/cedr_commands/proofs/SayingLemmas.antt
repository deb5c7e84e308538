-- What is said of sources that aren't accepted.
use Rattle.std.proofs.Common.{◌≡◌, ℕ, ◌+◌, ◌<◌, List, [], ◌∷◌, ◌++◌, length, get_or, take, Option, None, Some, Err, refl, ap, sym, subst, ◌∙◌, arith, append_assoc}
use Rattle.std.specs.List.{slice_get}
use Rattle.std.proofs.lemmas.List.{append-nil, length-append, take_more}
use Rattle.cedr_guard.specs.declared.refusal.Refusal.{Refusal}
use Rattle.node_laws.specs.Lists.{Lists}
use Rattle.cedr_plan.specs.declared.plan.PlanNode.{PlanNode}
use Rattle.plan_answer.specs.declared.faulty.FaultySource.{FaultySource}
use Rattle.plan_answer.specs.Sources.{AllHaveGiven, AreRead, fault_here, faulty_from}
use Rattle.cedr_commands.specs.Answers.{fault_text, faults_text}
use Rattle.cedr_commands.specs.declared.outcome.Outcome.{Outcome}
use Rattle.cedr_commands.specs.declared.outcome.Outcome.TheVariants as outcome
use Rattle.cedr_commands.specs.Steps.{Says, OpensSources, named_text, faulty_text}

-- one more
pub faulty_more : (nodes : List PlanNode) (fs : List FaultySource) (f : FaultySource) → faulty_text nodes (fs ++ f ∷ []) ≡ faulty_text nodes fs ++ named_text (slice_get nodes f.place) f.refusal
faulty_more nodes [] f = append-nil (named_text (slice_get nodes f.place) f.refusal)
faulty_more nodes (x ∷ fs) f =
    ap (λ (t : List ℕ). named_text (slice_get nodes x.place) x.refusal ++ t) (faulty_more nodes fs f)
    ∙ sym (append_assoc (named_text (slice_get nodes x.place) x.refusal) (faulty_text nodes fs) (named_text (slice_get nodes f.place) f.refusal))

-- one more line was said
pub said_more : (nodes : List PlanNode) (fs : List FaultySource) (i : ℕ) (d : FaultySource) (old new : List ℕ) → i < length fs → old ≡ faulty_text nodes (take i fs) → new ≡ old ++ named_text (slice_get nodes (get_or fs i d).place) (get_or fs i d).refusal
    → new ≡ faulty_text nodes (take (i + 1) fs)
said_more nodes fs i d old new within before now =
    now
    ∙ (ap (λ (t : List ℕ). t ++ named_text (slice_get nodes (get_or fs i d).place) (get_or fs i d).refusal) before
    ∙ sym (ap (faulty_text nodes) (take_more fs i d within) ∙ faulty_more nodes (take i fs) (get_or fs i d)))

-- the node after others
pub node_at : (before : List PlanNode) (n : PlanNode) (nodes : List PlanNode) → slice_get (before ++ n ∷ nodes) (length before) ≡ Some n
node_at [] n nodes = refl
node_at (b ∷ before) n nodes = node_at before n nodes

texts_one : (before : List PlanNode) (n : PlanNode) (nodes : List PlanNode) (f : Option Refusal) (more : List FaultySource) → faulty_text (before ++ n ∷ nodes) (fault_here (length before) f ++ more) ≡ fault_text n.name f ++ faulty_text (before ++ n ∷ nodes) more
texts_one before n nodes None more = refl
texts_one before n nodes (Some refusal) more = ap (λ (found : Option PlanNode). named_text found refusal ++ faulty_text (before ++ n ∷ nodes) more) (node_at before n nodes)

texts_from : (told : List ℕ → List ℕ) (all before nodes : List PlanNode) (left : Lists) (faults : List (Option Refusal)) → all ≡ before ++ nodes → AllHaveGiven told nodes left faults → faulty_text all (faulty_from (length before) faults) ≡ faults_text nodes faults
texts_from told all before [] [] [] is h = refl
texts_from told all before [] (l ∷ ls) faults is h = absurd h
texts_from told all before [] [] (f ∷ faults) is h = absurd h
texts_from told all before (n ∷ nodes) [] faults is h = absurd h
texts_from told all before (n ∷ nodes) (l ∷ ls) [] is h = absurd h
texts_from told all before (n ∷ nodes) (l ∷ ls) (f ∷ faults) is h =
    let next : length before + 1 ≡ length (before ++ n ∷ []) = omega (arith, length-append before (n ∷ [])) in
    ap (λ (ns : List PlanNode). faulty_text ns (fault_here (length before) f ++ faulty_from (length before + 1) faults)) is
    ∙ (texts_one before n nodes f (faulty_from (length before + 1) faults)
    ∙ (ap (λ (ns : List PlanNode). fault_text n.name f ++ faulty_text ns (faulty_from (length before + 1) faults)) (sym is)
    ∙ (ap (λ (place : ℕ). fault_text n.name f ++ faulty_text all (faulty_from place faults)) next
    ∙ ap (λ (t : List ℕ). fault_text n.name f ++ t) (texts_from told all (before ++ n ∷ []) nodes ls faults (is ∙ sym (append_assoc before (n ∷ []) nodes)) h.1))))

-- the faulty sources by their places are those by the nodes' names
pub named_faults : (told : List ℕ → List ℕ) (nodes : List PlanNode) (left : Lists) (faults : List (Option Refusal)) → AllHaveGiven told nodes left faults → faulty_text nodes (faulty_from 0 faults) ≡ faults_text nodes faults
named_faults told nodes left faults h = texts_from told nodes [] nodes left faults refl h

-- what is said of the sources that were found faulty
pub opened_refused : (told : List ℕ → List ℕ) (nodes seen_nodes : List PlanNode) (faulty seen : List FaultySource) (o : Outcome) → Says o (faulty_text seen_nodes seen) → seen_nodes ≡ nodes → seen ≡ faulty
    → (left : Lists) × AreRead told nodes left faulty × (0 < length faulty) → OpensSources (Err o) told nodes
opened_refused told nodes seen_nodes faulty seen (outcome.Events said) says same_nodes same h =
    let read = h.1 in
    record {
      left = h.0;
      faults = read.faults;
      given = read.given;
      some = subst (λ (fs : List FaultySource). 0 < length fs) read.faulty_are h.2;
      said_is = says ∙ (ap (λ (ns : List PlanNode). faulty_text ns seen) same_nodes ∙ (ap (faulty_text nodes) (same ∙ read.faulty_are) ∙ named_faults told nodes h.0 read.faults read.given));
    }
opened_refused told nodes seen_nodes faulty seen outcome.OutOfMemory says same_nodes same h = tt
opened_refused told nodes seen_nodes faulty seen outcome.Done says same_nodes same h = tt
opened_refused told nodes seen_nodes faulty seen outcome.Usage says same_nodes same h = tt
opened_refused told nodes seen_nodes faulty seen (outcome.BadPlan kind node) says same_nodes same h = tt
opened_refused told nodes seen_nodes faulty seen (outcome.Unsaved node) says same_nodes same h = tt
opened_refused told nodes seen_nodes faulty seen (outcome.BadCheckpoint line) says same_nodes same h = tt
opened_refused told nodes seen_nodes faulty seen outcome.Read says same_nodes same h = tt
opened_refused told nodes seen_nodes faulty seen outcome.Write says same_nodes same h = tt

-- What a lawful node gave up to the first break is lawful from the first messages of its lists.
use Rattle.std.proofs.Common.{◌≡◌, ℕ, zero, suc, ◌<◌, Bool, true, false, List, [], ◌∷◌, ◌++◌, length, map, refl, sym, ap, ◌∙◌, subst, append_assoc}
use Rattle.std.proofs.lemmas.Bool.{or_parts, or_from}
use Rattle.std.proofs.lemmas.List.{append-nil}
use Rattle.cedr_base.specs.declared.change.Message.{Message}
use Rattle.cedr_base.specs.declared.change.Message.TheVariants as message
use Rattle.cedr_base.specs.declared.level.Level.{Level}
use Rattle.cedr_base.specs.Messages.{changes_of, IsLegal}
use Rattle.change_laws.proofs.Legal.{changes-append, legal_first}
use Rattle.cedr_table.specs.Operators.{Meaning}
use Rattle.node_laws.specs.Lists.{Lists, with_more}
use Rattle.node_laws.specs.Lawful.{any_broken, all_over, has_broken, lists_after, no_lists, IsLawful, IsRight, Step}
use Rattle.node_laws.proofs.Ends.{ends_broken, unbroken_front}
use Rattle.node_laws.proofs.Giving.{by_steps}
use Rattle.cedr_node.proofs.Goes.{lawful_push}
use Rattle.plan_runs.specs.Runs.{ArePrefixes, IsPrefix}
use Rattle.plan_runs.proofs.Partial.{prefixes_itself}
use Rattle.plan_report.specs.SoFar.{unbroken}
use Rattle.cedr_worker.proofs.WorkLemmas.{prefixes_more}

-- they are all messages of a list that isn't broken
pub unbroken_all : (ms : List Message) → has_broken ms ≡ false → unbroken ms ≡ ms
unbroken_all [] h = refl
unbroken_all (message.Change c ∷ ms) h = ap (λ (xs : List Message). message.Change c ∷ xs) (unbroken_all ms h)
unbroken_all (message.Mark t ∷ ms) h = ap (λ (xs : List Message). message.Mark t ∷ xs) (unbroken_all ms h)
unbroken_all (message.End ∷ ms) h = ap (λ (xs : List Message). message.End ∷ xs) (unbroken_all ms h)
unbroken_all (message.Broken ∷ ms) h = absurd (cc h)

-- none of them is a break
pub unbroken_none : (ms : List Message) → has_broken (unbroken ms) ≡ false
unbroken_none [] = refl
unbroken_none (message.Change c ∷ ms) = unbroken_none ms
unbroken_none (message.Mark t ∷ ms) = unbroken_none ms
unbroken_none (message.End ∷ ms) = unbroken_none ms
unbroken_none (message.Broken ∷ ms) = refl

-- they are the first ones
pub unbroken_first : (ms : List Message) → IsPrefix (unbroken ms) ms
unbroken_first [] = record { rest = []; all = refl }
unbroken_first (message.Change c ∷ ms) = let h = unbroken_first ms in record { rest = h.rest; all = ap (λ (xs : List Message). message.Change c ∷ xs) h.all }
unbroken_first (message.Mark t ∷ ms) = let h = unbroken_first ms in record { rest = h.rest; all = ap (λ (xs : List Message). message.Mark t ∷ xs) h.all }
unbroken_first (message.End ∷ ms) = let h = unbroken_first ms in record { rest = h.rest; all = ap (λ (xs : List Message). message.End ∷ xs) h.all }
unbroken_first (message.Broken ∷ ms) = record { rest = message.Broken ∷ ms; all = refl }

-- after a list that isn't broken
pub unbroken_behind : (xs ys : List Message) → has_broken xs ≡ false → unbroken (xs ++ ys) ≡ xs ++ unbroken ys
unbroken_behind [] ys h = refl
unbroken_behind (message.Change c ∷ xs) ys h = ap (λ (zs : List Message). message.Change c ∷ zs) (unbroken_behind xs ys h)
unbroken_behind (message.Mark t ∷ xs) ys h = ap (λ (zs : List Message). message.Mark t ∷ zs) (unbroken_behind xs ys h)
unbroken_behind (message.End ∷ xs) ys h = ap (λ (zs : List Message). message.End ∷ zs) (unbroken_behind xs ys h)
unbroken_behind (message.Broken ∷ xs) ys h = absurd (cc h)

-- a break as the last message leaves them
pub unbroken_pushed : (ms : List Message) → unbroken (ms ++ message.Broken ∷ []) ≡ unbroken ms
unbroken_pushed [] = refl
unbroken_pushed (message.Change c ∷ ms) = ap (λ (xs : List Message). message.Change c ∷ xs) (unbroken_pushed ms)
unbroken_pushed (message.Mark t ∷ ms) = ap (λ (xs : List Message). message.Mark t ∷ xs) (unbroken_pushed ms)
unbroken_pushed (message.End ∷ ms) = ap (λ (xs : List Message). message.End ∷ xs) (unbroken_pushed ms)
unbroken_pushed (message.Broken ∷ ms) = refl

-- those of a legal list are legal
pub unbroken_legal : (ms : List Message) → IsLegal ms → IsLegal (unbroken ms)
unbroken_legal ms legal = let h = unbroken_first ms in legal_first [] (unbroken ms) h.rest (subst IsLegal (sym h.all) legal)

-- and its changes are all among them
pub unbroken_changes : (ms : List Message) → IsLegal ms → changes_of (unbroken ms) ≡ changes_of ms
unbroken_changes ms legal = at (has_broken ms) refl
  where
    at : (b : Bool) → has_broken ms ≡ b → changes_of (unbroken ms) ≡ changes_of ms
    at false none = ap changes_of (unbroken_all ms none)
    at true some =
        let h = ends_broken ms legal some in
        ap (λ (xs : List Message). changes_of (unbroken xs)) h.whole
        ∙ (ap changes_of (unbroken_pushed h.before ∙ unbroken_all h.before h.unbroken)
        ∙ (sym (append-nil (changes_of h.before)) ∙ (sym (changes-append h.before (message.Broken ∷ [])) ∙ ap changes_of (sym h.whole))))

-- first messages without a break are among those before the first break
prefix_before : (ms whole : List Message) → IsPrefix ms whole → has_broken ms ≡ false → IsPrefix ms (unbroken whole)
prefix_before ms whole h none = record { rest = unbroken h.rest; all = sym (unbroken_behind ms h.rest none) ∙ ap unbroken h.all }

-- of each list
pub prefixes_before : (ls ws : Lists) → ArePrefixes ls ws → any_broken ls ≡ false → ArePrefixes ls (map unbroken ws)
prefixes_before [] [] h none = tt
prefixes_before [] (w ∷ ws) h none = absurd h
prefixes_before (l ∷ ls) [] h none = absurd h
prefixes_before (l ∷ ls) (w ∷ ws) h none =
    let parts = or_parts (has_broken l) (any_broken ls) none in
    (prefix_before l w h.0 parts.0, prefixes_before ls ws h.1 parts.1)

-- the first messages of first messages
pub prefixes_along : (ks ls ws : Lists) → ArePrefixes ks ls → ArePrefixes ls ws → ArePrefixes ks ws
prefixes_along [] [] ws h g = g
prefixes_along [] (l ∷ ls) ws h g = absurd h
prefixes_along (k ∷ ks) [] ws h g = absurd h
prefixes_along (k ∷ ks) (l ∷ ls) [] h g = absurd g
prefixes_along (k ∷ ks) (l ∷ ls) (w ∷ ws) h g =
    let a = h.0 in
    let b = g.0 in
    (record { rest = a.rest ++ b.rest; all = sym (append_assoc k a.rest b.rest) ∙ (ap (λ (xs : List Message). xs ++ b.rest) a.all ∙ b.all) }, prefixes_along ks ls ws h.1 g.1)

-- lists that aren't broken weren't before more came
were_unbroken : (k : ℕ) (ls : Lists) (ms : List Message) → any_broken (with_more ls k ms) ≡ false → any_broken ls ≡ false
were_unbroken k [] ms h = refl
were_unbroken zero (l ∷ ls) ms h = let parts = or_parts (has_broken (l ++ ms)) (any_broken ls) h in or_from (has_broken l) (any_broken ls) (unbroken_front l ms parts.0) parts.1
were_unbroken (suc k) (l ∷ ls) ms h = let parts = or_parts (has_broken l) (any_broken (with_more ls k ms)) h in or_from (has_broken l) (any_broken ls) parts.0 (were_unbroken k ls ms parts.1)

-- lists without a message aren't broken
none_broken : (levels : List Level) → any_broken (no_lists levels) ≡ false
none_broken [] = refl
none_broken (v ∷ vs) = none_broken vs

-- The first messages of a node's lists, none of them a break, and what the node gave before its first break is lawful
-- from these.
pub record IsCut (meaning : Meaning) (levels : List Level) (lists : Lists) (given : List Message) : Type 0 where
  pub before : Lists
  pub prefixes : ArePrefixes before lists
  pub lawful : IsLawful meaning levels before (unbroken given)
  pub sound : any_broken before ≡ false

module _ (meaning : Meaning) (levels : List Level) where
  -- and while no list is broken, what it gave is lawful from the lists
  record Cuts (lists : Lists) (given : List Message) : Type 0 where
    cut : IsCut meaning levels lists given
    whole : any_broken lists ≡ false → IsLawful meaning levels lists given

  -- the piece for a message after a break leaves what came before it
  same_before : (lists : Lists) (given piece : List Message) → IsRight meaning levels lists (given ++ piece) piece → any_broken lists ≡ true → unbroken given ≡ unbroken (given ++ piece)
  same_before lists given piece right some = at (all_over lists) refl
    where
      at : (b : Bool) → all_over lists ≡ b → unbroken given ≡ unbroken (given ++ piece)
      at true over = sym (ap (λ (p : List Message). unbroken (given ++ p)) (right.last some over) ∙ unbroken_pushed given)
      at false over = sym (ap (λ (p : List Message). unbroken (given ++ p)) (right.empty some over) ∙ ap unbroken (append-nil given))

  -- one message more
  cuts_more : (lists : Lists) (given : List Message) (s : Step) → length lists ≡ length levels → s.port < length lists → Cuts lists given → IsRight meaning levels (lists_after lists s) (given ++ s.piece) s.piece → Cuts (lists_after lists s) (given ++ s.piece)
  cuts_more lists given s count within h right = at (any_broken (lists_after lists s)) refl
    where
      at : (b : Bool) → any_broken (lists_after lists s) ≡ b → Cuts (lists_after lists s) (given ++ s.piece)
      at false none =
          let lawful = lawful_push meaning levels lists given s.port s.message s.piece (subst (λ (n : ℕ). s.port < n) count within) (h.whole (were_unbroken s.port lists (s.message ∷ []) none)) right in
          record {
            cut = record {
              before = lists_after lists s;
              prefixes = prefixes_itself (lists_after lists s);
              lawful = subst (IsLawful meaning levels (lists_after lists s)) (sym (unbroken_all (given ++ s.piece) (right.whole none).unbroken)) lawful;
              sound = none;
            };
            whole = λ _. lawful;
          }
      at true some =
          let c = h.cut in
          record {
            cut = record {
              before = c.before;
              prefixes = prefixes_more s.port c.before lists (s.message ∷ []) c.prefixes;
              lawful = subst (IsLawful meaning levels c.before) (same_before (lists_after lists s) given s.piece right some) c.lawful;
              sound = c.sound;
            };
            whole = λ none. absurd (cc (some, none));
          }

  -- where nothing came nothing was given
  lawful_first : IsLawful meaning levels (no_lists levels) []
  lawful_first = record { steps = []; on_ports = tt; lists_are = refl; given_is = refl; right = tt }

  -- a lawful node can be cut so
  pub cut_of : (lists : Lists) (given : List Message) → IsLawful meaning levels lists given → IsCut meaning levels lists given
  cut_of lists given lawful =
      (by_steps meaning levels Cuts cuts_more (record {
        cut = record { before = no_lists levels; prefixes = prefixes_itself (no_lists levels); lawful = lawful_first; sound = none_broken levels };
        whole = λ _. lawful_first;
      }) lists given lawful).cut

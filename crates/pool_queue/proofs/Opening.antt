-- How the tasks are put into a new queue, one after the other.
use Rattle.std.proofs.Common.{◌≡◌, ◌≤◌, ℕ, List, [], ◌∷◌, ◌++◌, length, sym, ap, ◌∙◌, subst, append_assoc, length-append, arith}
use Rattle.std.proofs.lemmas.List.{append-nil, length-map}
use Rattle.crossbeam_queue.specs.Fifo.{Held}
use Rattle.pool_queue.specs.declared.claim.Claim.{Claim}
use Rattle.pool_queue.specs.declared.numbered.Numbered.{Numbered}
use Rattle.pool_queue.specs.Entries.{AreNumberedApart, entry_of}
use Rattle.pool_queue.specs.Once.{all_parts, claim}
use Rattle.pool_queue.proofs.Counts.{apart_first}
use Rattle.pool_queue.proofs.Moves.{entries_of}

module _ {X : Type 0} where
  -- so far: the view of the one pass, and the tasks that are left
  pub record Opening {T : Type 0} (place : T → X) (tasks left : List (Numbered T)) (v : Claim X) : Type 0 where
    pub parts : v.parts ≡ all_parts
    pub held : v.held ≡ []
    pub all : v.opened ++ entries_of place left ≡ entries_of place tasks

  module _ {T : Type 0} (place : T → X) (all left left' : List (Numbered T)) (x : Numbered T) (v : Claim X) (so : Opening place all left v) (is : left ≡ x ∷ left') where
    -- with the next task
    with_next : (v.opened ++ entry_of place x ∷ []) ++ entries_of place left' ≡ entries_of place all
    with_next = append_assoc v.opened (entry_of place x ∷ []) (entries_of place left') ∙ (ap (λ (l : List (Numbered T)). v.opened ++ entries_of place l) (sym is) ∙ so.all)

    pub opens_apart : AreNumberedApart (entries_of place all) → AreNumberedApart (v.opened ++ entry_of place x ∷ [])
    opens_apart apart = apart_first (v.opened ++ entry_of place x ∷ []) (entries_of place left') (subst AreNumberedApart (sym with_next) apart)

    pub opens_next : (w : Claim X) → w ≡ claim v.parts (v.opened ++ entry_of place x ∷ []) v.held → Opening place all left' w
    opens_next w now = record {
      parts = ap (λ (u : Claim X). u.parts) now ∙ so.parts;
      held = ap (λ (u : Claim X). u.held) now ∙ so.held;
      all = ap (λ (u : Claim X). u.opened ++ entries_of place left') now ∙ with_next;
    }

    -- the queue isn't full
    pub opens_room : (capacity : ℕ) → capacity ≡ length all → Held capacity (λ (items : List (Numbered T)). length items ≤ length v.opened) → ⊥
    opens_room capacity size seen =
        let len : length ((v.opened ++ entry_of place x ∷ []) ++ entries_of place left') ≡ length (entries_of place all) = ap length with_next in
        let full = seen.1 in
        let fact = seen.2 in
        omega (arith, len, full, fact, length-map all (entry_of place), length-append (v.opened ++ entry_of place x ∷ []) (entries_of place left'), length-append v.opened (entry_of place x ∷ []))

  pub opens_first : {T : Type 0} (place : T → X) (all left : List (Numbered T)) (v : Claim X) → v ≡ claim all_parts [] [] → left ≡ all → Opening place all left v
  opens_first place all left v is same = record {
    parts = ap (λ (u : Claim X). u.parts) is;
    held = ap (λ (u : Claim X). u.held) is;
    all = ap (λ (u : Claim X). u.opened ++ entries_of place left) is ∙ ap (entries_of place) same;
  }

  pub opens_last : {T : Type 0} (place : T → X) (all left : List (Numbered T)) (v : Claim X) → Opening place all left v → left ≡ [] → v ≡ claim all_parts (entries_of place all) []
  opens_last {T} place all left v so none =
      let opened : v.opened ≡ entries_of place all = sym (append-nil v.opened) ∙ (ap (λ (l : List (Numbered T)). v.opened ++ entries_of place l) (sym none) ∙ so.all) in
      λ i. claim (so.parts i) (opened i) (so.held i)

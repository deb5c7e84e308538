-- How the passes of a new queue are made, one after the other, and how all of them are joined.
use Rattle.std.proofs.Common.{◌≡◌, ◌<◌, ◌+◌, ◌-◌, ℕ, List, [], ◌∷◌, ◌++◌, length, sym, ap, ◌∙◌, subst, append_assoc, arith}
use Rattle.std.specs.List.{All}
use Rattle.std.proofs.lemmas.List.{append-nil}
use Rattle.std.proofs.lemmas.List.Sums.{sum_by-cons, sum_by-append}
use Rattle.std.proofs.lemmas.List.Elements.{All-head, All-tail, All-nil, All-push, All-weaker}
use Rattle.atomic_table.specs.Seated.{TableId}
use Rattle.pool_queue.specs.declared.claim.Entry.{Entry}
use Rattle.pool_queue.specs.Once.{all_parts}
use Rattle.pool_queue.specs.Passes.{Holding, Blankness, IsOf, IsNewPass, AreAllOf, AreBlank, held_by, parts_in}

-- shares of a queue, with one more
pub blanks_next : (queue : TableId) (size : ℕ) (bs bs' : List Blankness) (b : Blankness) → AreBlank queue size bs → b ≡ record { queue = queue; size = size } → bs' ≡ bs ++ b ∷ [] → AreBlank queue size bs'
blanks_next queue size bs bs' b all one is =
    subst (AreBlank queue size) (sym is) (All-push (λ (k : Blankness). (k.queue ≡ queue) × (k.size ≡ size)) bs b all (ap (λ (k : Blankness). k.queue) one, ap (λ (k : Blankness). k.size) one))

-- the first of some shares
pub first_blank : (queue : TableId) (size : ℕ) (blanks blanks' : List Blankness) (b : Blankness) → AreBlank queue size blanks → blanks ≡ b ∷ blanks' → (b.queue ≡ queue) × (b.size ≡ size)
first_blank queue size blanks blanks' b all is = All-head (λ (k : Blankness). (k.queue ≡ queue) × (k.size ≡ size)) b blanks' (subst (AreBlank queue size) is all)

-- and the others
pub rest_blank : (queue : TableId) (size : ℕ) (blanks blanks' : List Blankness) (b : Blankness) → AreBlank queue size blanks → blanks ≡ b ∷ blanks' → AreBlank queue size blanks'
rest_blank queue size blanks blanks' b all is = All-tail (λ (k : Blankness). (k.queue ≡ queue) × (k.size ≡ size)) b blanks' (subst (AreBlank queue size) is all)

module _ {X : Type 0} where
  -- so far: the passes that were made, the shares that are left, and the parts of the pass that they are cut off
  pub record Seating (queue : TableId) (opened : List (Entry X)) (parts : ℕ) (made : List (Holding X)) (left : List Blankness) : Type 0 where
    pub whole : parts + parts_in made ≡ all_parts
    pub more : length left < parts
    pub new : All (IsNewPass queue opened) made
    pub blank : AreBlank queue (length opened) left

  -- with one pass more
  pub seats_next : (queue : TableId) (opened : List (Entry X)) (parts : ℕ) (made : List (Holding X)) (left left' : List Blankness) (b : Blankness) (h : Holding X) → Seating queue opened parts made left → left ≡ b ∷ left' → IsNewPass queue opened h → h.parts ≡ 1 → Seating queue opened (parts - 1) (made ++ h ∷ []) left'
  seats_next queue opened parts made left left' b h so is new one =
      let len : length left ≡ length (b ∷ left') = ap length is in
      let all = so.whole in
      let more = so.more in
      record {
        whole = omega (arith, sum_by-append (λ (k : Holding X). k.parts) made (h ∷ []), all, one);
        more = omega arith;
        new = All-push (IsNewPass queue opened) made h so.new new;
        blank = All-tail (λ (k : Blankness). (k.queue ≡ queue) × (k.size ≡ length opened)) b left' (subst (AreBlank queue (length opened)) is so.blank);
      }

  pub seats_next_as : (queue : TableId) (opened : List (Entry X)) (parts parts' : ℕ) (made made' : List (Holding X)) (left left' : List Blankness) (b : Blankness) (h : Holding X) → Seating queue opened parts made left → left ≡ b ∷ left' → IsNewPass queue opened h → h.parts ≡ 1 → parts' ≡ parts - 1 → made' ≡ made ++ h ∷ [] → Seating queue opened parts' made' left'
  seats_next_as queue opened parts parts' made made' left left' b h so is new one fewer longer =
      subst (λ (l : List (Holding X)). Seating queue opened parts' l left') (sym longer) (subst (λ (n : ℕ). Seating queue opened n (made ++ h ∷ []) left') (sym fewer) (seats_next queue opened parts made left left' b h so is new one))

  -- the last pass, which has all the parts that are left
  pub seats_last : (queue : TableId) (opened : List (Entry X)) (parts : ℕ) (made made' : List (Holding X)) (left : List Blankness) (h : Holding X) → Seating queue opened parts made left → made' ≡ made ++ h ∷ [] → IsNewPass queue opened h → h.parts ≡ parts → All (IsNewPass queue opened) made' × AreAllOf opened made'
  seats_last queue opened parts made made' left h so is new rest =
      let all : All (IsNewPass queue opened) made' = subst (All (IsNewPass queue opened)) (sym is) (All-push (IsNewPass queue opened) made h so.new new) in
      let sum : parts_in made' ≡ parts_in (made ++ h ∷ []) = ap parts_in is in
      let some = so.whole in (
        all,
        record {
          queue = queue;
          same = All-weaker (IsNewPass queue opened) (IsOf queue opened) (λ k new'. new'.of) made' all;
          whole = omega (arith, sum, sum_by-append (λ (k : Holding X). k.parts) made (h ∷ []));
        },
      )

  -- before the first is cut off
  pub seats_first : (queue : TableId) (opened : List (Entry X)) (parts : ℕ) (made : List (Holding X)) (left : List Blankness) → parts ≡ all_parts → made ≡ [] → length left < parts → AreBlank queue (length opened) left → Seating queue opened parts made left
  seats_first queue opened parts made left whole none more blank =
      let sum : parts_in made ≡ 0 = ap parts_in none in
      record {
        whole = omega arith;
        more = more;
        new = subst (All (IsNewPass queue opened)) (sym none) (All-nil (IsNewPass queue opened));
        blank = blank;
      }

  -- the passes that were joined to the first, and those that are left
  pub record Joining (queue : TableId) (opened : List (Entry X)) (passes : List (Holding X)) (whole : Holding X) (left : List (Holding X)) : Type 0 where
    pub of : whole.queue ≡ queue
    pub knows : whole.opened ≡ opened
    pub parts : whole.parts + parts_in left ≡ parts_in passes
    pub held : whole.held ++ held_by left ≡ held_by passes
    pub same : All (IsOf queue opened) left

  -- the first alone
  pub joins_first : (queue : TableId) (opened : List (Entry X)) (passes left : List (Holding X)) (h : Holding X) → All (IsOf queue opened) passes → passes ≡ h ∷ left → Joining queue opened passes h left
  joins_first queue opened passes left h all is =
      let all' : All (IsOf queue opened) (h ∷ left) = subst (All (IsOf queue opened)) is all in
      let first = All-head (IsOf queue opened) h left all' in
      record {
        of = first.0;
        knows = first.1;
        parts = sym (sum_by-cons (λ (k : Holding X). k.parts) h left) ∙ ap parts_in (sym is);
        held = ap held_by (sym is);
        same = All-tail (IsOf queue opened) h left all';
      }

  -- with the next one
  pub joins_next : (queue : TableId) (opened : List (Entry X)) (passes left left' : List (Holding X)) (whole whole' h : Holding X) → Joining queue opened passes whole left → left ≡ h ∷ left' → whole' ≡ record whole { parts = whole.parts + h.parts; held = whole.held ++ h.held } → Joining queue opened passes whole' left'
  joins_next queue opened passes left left' whole whole' h so is now =
      let parts : whole'.parts ≡ whole.parts + h.parts = ap (λ (k : Holding X). k.parts) now in
      let sum : parts_in left ≡ parts_in (h ∷ left') = ap parts_in is in
      let before = so.parts in
      record {
        of = ap (λ (k : Holding X). k.queue) now ∙ so.of;
        knows = ap (λ (k : Holding X). k.opened) now ∙ so.knows;
        parts = omega (arith, parts, sum, before, sum_by-cons (λ (k : Holding X). k.parts) h left');
        held = ap (λ (k : Holding X). k.held ++ held_by left') now ∙ (append_assoc whole.held h.held (held_by left') ∙ (ap (λ (l : List (Holding X)). whole.held ++ held_by l) (sym is) ∙ so.held));
        same = All-tail (IsOf queue opened) h left' (subst (All (IsOf queue opened)) is so.same);
      }

  -- a queue has a pass
  pub some_pass : (opened : List (Entry X)) (passes left : List (Holding X)) → AreAllOf opened passes → left ≡ passes → left ≡ [] → ⊥
  some_pass opened passes left all same none =
      let sum : parts_in passes ≡ 0 = ap parts_in (sym same ∙ none) in
      let whole = all.whole in
      omega arith

  -- all are joined
  pub joins_last : (queue : TableId) (opened : List (Entry X)) (passes left : List (Holding X)) (whole : Holding X) → Joining queue opened passes whole left → left ≡ [] → (whole.parts ≡ parts_in passes) × (whole.held ≡ held_by passes) × (whole.opened ≡ opened)
  joins_last queue opened passes left whole so none =
      let sum : parts_in left ≡ 0 = ap parts_in none in
      let parts = so.parts in
      (omega arith, sym (append-nil whole.held) ∙ (ap (λ (l : List (Holding X)). whole.held ++ held_by l) (sym none) ∙ so.held), so.knows)

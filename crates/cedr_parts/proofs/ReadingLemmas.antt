-- Sources that are found, read by themselves and given back.
use Rattle.std.proofs.Common.{◌≡◌, ℕ, zero, suc, ◌+◌, ◌<◌, ◌≤◌, inl, inr, List, [], ◌∷◌, ◌++◌, Bool, true, false, cond, length, get_or, map, take, drop, refl, ap, sym, ◌∙◌, subst, arith}
use Rattle.std.specs.Prelude.{Option, Result, Ok, Err, IfOk, IfSome, ◌||◌}
use Rattle.std.specs.List.{All, list_any}
use Rattle.std.proofs.Math.ListN.{get_or-append}
use Rattle.std.proofs.Math.Seq.{get_or-append_seam, take-append_seam}
use Rattle.std.proofs.lemmas.Bool.{cases_order}
use Rattle.std.proofs.lemmas.List.{drop_more, get_or-map, get_or_default, length-append, length-drop, length-map, take_all, take_more}
use Rattle.std.proofs.lemmas.List.Elements.{All-cons, All-head, All-map, All-tail}
use Rattle.std.proofs.lemmas.Option.{slice_get_cases}
use Rattle.std.proofs.lemmas.List.Sums.{sum_by-append, sum_by-cons}
use Rattle.cedr_base.specs.declared.change.Message.{Message}
use Rattle.cedr_base.specs.Messages.{IsLegal}
use Rattle.cedr_guard.specs.Messages.{messages_in}
use Rattle.cedr_io.specs.Counts.{Rose, count_sum, last_count}
use Rattle.cedr_plan.specs.declared.plan.PlanNode.{PlanNode}
use Rattle.cedr_plan.specs.Places.{is_source, source_count}
use Rattle.cedr_plan.proofs.PlaceLemmas.{counted, sources_before}
use Rattle.cedr_source.specs.declared.fault.Unread.{Unread}
use Rattle.cedr_source.specs.declared.fault.Unread.TheVariants as unread
use Rattle.cedr_source.specs.Whole.{CountsSource}
use Rattle.plan_answer.specs.Finds.{AreFound, count_with}
use Rattle.plan_answer.specs.Sources.{AsksFirst, file_of, source_files}
use Rattle.plan_serial.specs.Sources.{AnswersFile, AreReadOf, is_failed}
use Rattle.cedr_parts.specs.declared.reading.FoundSource.{FoundSource}
use Rattle.cedr_parts.specs.Reading.{AreFoundFor, IsRead, IsUnread, ReadsFound, found_read, found_source}

-- ---- files by their numbers

-- the file of a source is that of its number
file_at : (nodes : List PlanNode) (place : ℕ) (n : PlanNode) → place < length nodes → n ≡ get_or nodes place n → is_source n.kind ≡ true → get_or (source_files nodes) (source_count (take place nodes)) [] ≡ file_of n.kind
file_at [] place n within at is = absurd (omega (arith, within))
file_at (m ∷ nodes) zero n within at is = by m n at is where
  by : (m n : PlanNode) → n ≡ m → is_source n.kind ≡ true → get_or (source_files (m ∷ nodes)) 0 [] ≡ file_of n.kind
  by m n at is = ap (λ (b : Bool). get_or ((cond b (file_of m.kind ∷ []) []) ++ source_files nodes) 0 []) (ap (λ (x : PlanNode). is_source x.kind) (sym at) ∙ is) ∙ ap (λ (x : PlanNode). file_of x.kind) (sym at)
file_at (m ∷ nodes) (suc place) n within at is = behind (is_source m.kind) refl (file_at nodes place n (omega (arith, within)) at is) where
  behind : (b : Bool) → is_source m.kind ≡ b → get_or (source_files nodes) (source_count (take place nodes)) [] ≡ file_of n.kind → get_or (source_files (m ∷ nodes)) (source_count (m ∷ take place nodes)) [] ≡ file_of n.kind
  behind true b_is later =
      let one : counted m ≡ 1 = ap {B = ℕ} (λ c. cond c 1 0) b_is in
      let more : source_count (m ∷ take place nodes) ≡ suc (source_count (take place nodes)) = omega (arith, one, sum_by-cons counted m (take place nodes)) in
      ap (λ (k : ℕ). get_or (source_files (m ∷ nodes)) k []) more ∙ (ap (λ (c : Bool). get_or ((cond c (file_of m.kind ∷ []) []) ++ source_files nodes) (suc (source_count (take place nodes))) []) b_is ∙ later)
  behind false b_is later =
      let none : counted m ≡ 0 = ap {B = ℕ} (λ c. cond c 1 0) b_is in
      let same : source_count (m ∷ take place nodes) ≡ source_count (take place nodes) = omega (arith, none, sum_by-cons counted m (take place nodes)) in
      ap (λ (k : ℕ). get_or (source_files (m ∷ nodes)) k []) same ∙ (ap (λ (c : Bool). get_or ((cond c (file_of m.kind ∷ []) []) ++ source_files nodes) (source_count (take place nodes)) []) b_is ∙ later)

-- one node more counts where it is a source
pub count_more : (nodes : List PlanNode) (place : ℕ) (n : PlanNode) (b : Bool) → place < length nodes → n ≡ get_or nodes place n → is_source n.kind ≡ b → source_count (take (place + 1) nodes) ≡ source_count (take place nodes) + cond b 1 0
count_more nodes place n b within at is =
    let one : counted n ≡ cond b 1 0 = ap {B = ℕ} (λ c. cond c 1 0) is in
    ap source_count (take_more nodes place n within ∙ ap (λ (m : PlanNode). take place nodes ++ m ∷ []) (sym at)) ∙ omega (arith, one, sum_by-append counted (take place nodes) (n ∷ []), sum_by-cons counted n [])

module _ {S : Type 0} (nodes : List PlanNode) (place : ℕ) (n : PlanNode) (within : place < length nodes) (at : n ≡ get_or nodes place n) (sources : List S) (count : length sources ≡ source_count nodes) where
  -- the number of a source is that of one of them
  pub number_within : is_source n.kind ≡ true → source_count (take place nodes) < length sources
  number_within is = omega (arith, sources_before nodes place n within (ap (λ (m : PlanNode). is_source m.kind) (sym at) ∙ is), count)

  -- what is left before a source is not empty
  pub left_some : (rest : List S) → rest ≡ drop (source_count (take place nodes)) sources → is_source n.kind ≡ true → 0 < length rest
  left_some rest left is = let among = number_within is in omega (arith, ap length left, length-drop (source_count (take place nodes)) sources, among)

  -- the first of what is left is its own, and the others are left behind it
  pub left_source : (rest rest' : List S) (s : S) → rest ≡ drop (source_count (take place nodes)) sources → is_source n.kind ≡ true → rest ≡ s ∷ rest' → (s ≡ get_or sources (source_count (take place nodes)) s) × (rest' ≡ drop (source_count (take (place + 1) nodes)) sources)
  left_source rest rest' s left is first =
      let number = source_count (take place nodes) in
      let parts : s ∷ rest' ≡ get_or sources number s ∷ drop (number + 1) sources = sym first ∙ (left ∙ drop_more sources number s (number_within is)) in
      (let own : s ≡ get_or sources number s = cc in own, (let others : rest' ≡ drop (number + 1) sources = cc in others) ∙ ap (λ (k : ℕ). drop k sources) (sym (count_more nodes place n true within at is)))

  -- and of any other node nothing is taken
  pub left_other : (rest : List S) → rest ≡ drop (source_count (take place nodes)) sources → is_source n.kind ≡ false → rest ≡ drop (source_count (take (place + 1) nodes)) sources
  left_other rest left isnt =
      let same : source_count (take place nodes) ≡ source_count (take place nodes) + 0 = omega arith in
      left ∙ ap (λ (k : ℕ). drop k sources) (same ∙ sym (count_more nodes place n false within at isnt))

-- before a source there are fewer sources than before a later node
fewer_before : (nodes : List PlanNode) (place index : ℕ) (n : PlanNode) → place < index → place < length nodes → n ≡ get_or nodes place n → is_source n.kind ≡ true → source_count (take place nodes) < source_count (take index nodes)
fewer_before [] place index n less within at is = absurd (omega (arith, within))
fewer_before (m ∷ nodes) place zero n less within at is = absurd (omega (arith, less))
fewer_before (m ∷ nodes) zero (suc index) n less within at is =
    let one : counted m ≡ 1 = ap {B = ℕ} (λ c. cond c 1 0) (ap (λ (x : PlanNode). is_source x.kind) (sym at) ∙ is) in
    omega (arith, one, sum_by-cons counted m (take index nodes))
fewer_before (m ∷ nodes) (suc place) (suc index) n less within at is =
    omega (arith, fewer_before nodes place index n (omega (arith, less)) (omega (arith, within)) at is, sum_by-cons counted m (take place nodes), sum_by-cons counted m (take index nodes))

module _ {S : Type 0} (rest : S → Option (List ℕ)) (content : List ℕ → Option (List ℕ)) (nodes : List PlanNode) where
  -- the source of a node has left what its file holds
  pub found_at : (sources : List S) (place : ℕ) (n : PlanNode) (s : S) → AreFound rest content nodes sources → place < length nodes → n ≡ get_or nodes place n → is_source n.kind ≡ true → source_count (take place nodes) < length sources → s ≡ get_or sources (source_count (take place nodes)) s → rest s ≡ content (file_of n.kind)
  found_at sources place n s found within at is among here =
      let number = source_count (take place nodes) in
      let wide : number < length (source_files nodes) = omega (arith, among, length-map sources rest, ap length found, length-map (source_files nodes) content) in
      ap rest here
      ∙ (sym (get_or-map rest sources number s (rest s) among)
      ∙ (ap (λ known. get_or known number (rest s)) found
      ∙ (get_or-map content (source_files nodes) number [] (rest s) wide ∙ ap content (file_at nodes place n within at is))))

  -- the sources before a place have theirs
  pub FoundUpTo : ℕ → List (FoundSource S) → Type 0
  FoundUpTo index found =
      (place : ℕ) (node : PlanNode) (one : FoundSource S) → place < index → place < length nodes → node ≡ get_or nodes place node → is_source node.kind ≡ true → one ≡ get_or found (source_count (take place nodes)) one
      → (rest one.source ≡ content (file_of node.kind)) × (one.types.now ≡ node.types.items)

  -- none at the first place
  pub found_none : (found : List (FoundSource S)) → FoundUpTo 0 found
  unfolding FoundUpTo
  found_none found place node one less within at is here = absurd (omega (arith, less))

  -- and all at the end
  pub found_all : (index : ℕ) (found : List (FoundSource S)) → index ≡ length nodes → FoundUpTo index found → AreFoundFor rest content nodes found
  unfolding FoundUpTo
  found_all index found end upto place node one within at is here = upto place node one (omega (arith, end, within)) within at is here

  module _ (index : ℕ) (n : PlanNode) (within : index < length nodes) (at : n ≡ get_or nodes index n) (found : List (FoundSource S)) (upto : FoundUpTo index found) where
    -- one that is no source has none
    pub found_other : is_source n.kind ≡ false → FoundUpTo (index + 1) found
    unfolding FoundUpTo
    found_other isnt place node one less inside there is here = elim (cases_order place index) [
      | inl same ↦ let node_is : node ≡ n = there ∙ (ap (λ (k : ℕ). get_or nodes k node) same ∙ (get_or_default nodes index node n within ∙ sym at)) in absurd (let x : true ≡ false = sym is ∙ (ap (λ (m : PlanNode). is_source m.kind) node_is ∙ isnt) in cc)
      | inr (inl below) ↦ upto place node one below inside there is here
      | inr (inr above) ↦ absurd (omega (arith, less, above))
    ]

    -- a source has its own
    pub found_source_more : (one : FoundSource S) → length found ≡ source_count (take index nodes) → rest one.source ≡ content (file_of n.kind) → one.types.now ≡ n.types.items → FoundUpTo (index + 1) (found ++ one ∷ [])
    unfolding FoundUpTo
    found_source_more own count rest_is types_are place node one less inside there is here = elim (cases_order place index) [
      | inl same ↦
          let node_is : node ≡ n = there ∙ (ap (λ (k : ℕ). get_or nodes k node) same ∙ (get_or_default nodes index node n within ∙ sym at)) in
          let one_is : one ≡ own = here ∙ (ap (λ (k : ℕ). get_or (found ++ own ∷ []) k one) (ap (λ (k : ℕ). source_count (take k nodes)) same ∙ sym count) ∙ get_or-append_seam found own [] one) in
          (ap (λ (o : FoundSource S). rest o.source) one_is ∙ (rest_is ∙ ap (λ (m : PlanNode). content (file_of m.kind)) (sym node_is)), ap (λ (o : FoundSource S). o.types.now) one_is ∙ (types_are ∙ ap (λ (m : PlanNode). m.types.items) (sym node_is)))
      | inr (inl below) ↦ upto place node one below inside there is (here ∙ get_or-append found (own ∷ []) one (source_count (take place nodes)) (omega (arith, count, fewer_before nodes place index node below inside there is)))
      | inr (inr above) ↦ absurd (omega (arith, less, above))
    ]

-- ---- what was read

module _ {S : Type 0} (rest : S → Option (List ℕ)) (faults : S → ℕ) where
  -- where each was read, what was read is that of the files
  pub read_all : (content : List ℕ → Option (List ℕ)) (nodes : List PlanNode) (old new : List (FoundSource S)) → length new ≡ length old → length old ≡ source_count nodes
      → ((k : ℕ) (d : FoundSource S) → k < length old → ReadsFound rest faults (get_or old k d) (get_or new k d)) → AreFoundFor rest content nodes old → AreReadOf content nodes (map found_read new)
  read_all content nodes old new same count reads found place node read within at is here =
      by (source_count (take place nodes)) (omega (arith, count, sources_before nodes place node within (ap (λ (m : PlanNode). is_source m.kind) (sym at) ∙ is))) (λ one here. found place node one within at is here) here where
        by : (number : ℕ) → number < length old → ((one : FoundSource S) → one ≡ get_or old number one → (rest one.source ≡ content (file_of node.kind)) × (one.types.now ≡ node.types.items)) → read ≡ get_or (map found_read new) number read → IfSome (content (file_of node.kind)) (λ all. AnswersFile read node.types.items all)
        by number among own here = elim (slice_get_cases old number).1 [
          | inl one ↦
              let before = one.0 in
              let old_is : get_or old number before ≡ before = one.3 in
              let after = get_or new number before in
              let theirs = own before (sym old_is) in
              let reads_it = reads number before among in
              let read_is : read ≡ after.read = here ∙ get_or-map found_read new number before read (omega (arith, among, same)) in
              subst (λ known. IfSome known (λ all. AnswersFile read node.types.items all)) (ap (λ (o : FoundSource S). rest o.source) old_is ∙ theirs.0)
              (subst (λ types. IfSome (rest (get_or old number before).source) (λ all. AnswersFile read types all)) (ap (λ (o : FoundSource S). o.types.now) old_is ∙ theirs.1)
              (subst (λ (r : Result (List (List Message)) Unread). IfSome (rest (get_or old number before).source) (λ all. AnswersFile r (get_or old number before).types.now all)) (sym read_is) reads_it.answer))
          | inr none ↦ absurd (omega (arith, among, none.0))
        ]

  -- and each is legal, and counts as it was read
  pub each_read : (old new : List (FoundSource S)) → length new ≡ length old → All (IsUnread faults) old → ((k : ℕ) (d : FoundSource S) → k < length old → ReadsFound rest faults (get_or old k d) (get_or new k d)) → All (IsRead faults) new
  each_read old new same fresh reads k d within =
      let there : k < length old = omega (arith, same, within) in
      let one = reads k d there in
      record { legal = one.legal; counted = subst (λ n. CountsSource (get_or new k d).read n (faults (get_or new k d).source)) (fresh k d there) one.counted }

module _ {S : Type 0} (faults : S → ℕ) where
  kept_one : {T : Type 0} (read : Result T Unread) (n : ℕ) → CountsSource read 0 n → is_failed read ≡ false → n ≡ 0
  kept_one (Ok entries) n counted calm = counted
  kept_one (Err (unread.Refused refusal)) n counted calm = counted
  kept_one (Err unread.Failed) n counted calm = absurd (let x = calm in cc)
  kept_one (Err unread.OutOfMemory) n counted calm = counted

  rose_one : {T : Type 0} (read : Result T Unread) (n : ℕ) → CountsSource read 0 n → is_failed read ≡ true → 0 < n
  rose_one (Ok entries) n counted failed = absurd (let x = failed in cc)
  rose_one (Err (unread.Refused refusal)) n counted failed = absurd (let x = failed in cc)
  rose_one (Err unread.Failed) n counted failed = omega (arith, counted.more)
  rose_one (Err unread.OutOfMemory) n counted failed = absurd (let x = failed in cc)

  none_of : (b c : Bool) → (b || c) ≡ false → (b ≡ false) × (c ≡ false)
  none_of false c none = (refl, none)
  none_of true c none = absurd (let x = none in cc)

  behind : (one : FoundSource S) (found : List (FoundSource S)) → All (IsRead faults) (one ∷ found) → All (IsRead faults) found
  behind one found each k d within = each (suc k) d (omega (arith, within))

  -- where no read was refused, giving the sources back leaves the count
  pub found_kept : (found : List (FoundSource S)) → All (IsRead faults) found → list_any is_failed (map found_read found) ≡ false → (count : ℕ) → count ≤ last_count → count_with faults count (map found_source found) ≡ count
  found_kept [] each calm count few = refl
  found_kept (one ∷ found) each calm count few =
      let parts = none_of (is_failed one.read) (list_any is_failed (map found_read found)) calm in
      let none : faults one.source ≡ 0 = kept_one one.read (faults one.source) (each 0 one (omega arith)).counted parts.0 in
      let same : count_sum count (faults one.source) ≡ count = omega (arith, none, few) in
      ap (λ (c : ℕ). count_with faults c (map found_source found)) same ∙ found_kept found (behind one found each) parts.1 count few

  -- a count never falls
  found_grows : (found : List (FoundSource S)) (count : ℕ) → count ≤ last_count → count ≤ count_with faults count (map found_source found)
  found_grows [] count few = omega arith
  found_grows (one ∷ found) count few = let later = found_grows found (count_sum count (faults one.source)) (omega arith) in omega (arith, later, few)

  -- where one was, it rises
  pub found_rose : (found : List (FoundSource S)) → All (IsRead faults) found → list_any is_failed (map found_read found) ≡ true → (count : ℕ) → count < last_count → count < count_with faults count (map found_source found)
  found_rose [] each failed count few = absurd (let x = failed in cc)
  found_rose (one ∷ found) each failed count few = by (is_failed one.read) refl (λ others. found_rose found (behind one found each) others count few) where
    counted_one : CountsSource one.read 0 (faults one.source)
    counted_one = (each 0 one (omega arith)).counted

    by : (b : Bool) → is_failed one.read ≡ b → (list_any is_failed (map found_read found) ≡ true → count < count_with faults count (map found_source found)) → count < count_with faults count (map found_source (one ∷ found))
    by true is rest = let rose = rose_one one.read (faults one.source) counted_one is in let later = found_grows found (count_sum count (faults one.source)) (omega arith) in omega (arith, later, rose, few)
    by false is rest =
        let none : faults one.source ≡ 0 = kept_one one.read (faults one.source) counted_one is in
        let same : count_sum count (faults one.source) ≡ count = omega (arith, none, few) in
        let later = rest (ap (λ (b : Bool). b || list_any is_failed (map found_read found)) (sym is) ∙ failed) in
        subst (λ (c : ℕ). count < count_with faults c (map found_source found)) (sym same) later

-- a count that is greater rose
pub rose : (old new : ℕ) → old < new → Rose old new
rose old new more = record { kept = omega (arith, more); more = omega (arith, more) }

-- all names were asked for, so first ones were
pub asked_all : (old new names : List (List ℕ)) → new ≡ old ++ names → AsksFirst old new names
asked_all old new names is = record { count = length names; added = is ∙ ap (λ (ns : List (List ℕ)). old ++ ns) (sym (take_all (length names) names (omega arith))) }

-- what holds of all elements and of one more holds of all with it
pub all_more : {X : Type 0} (P : X → Type 0) (xs : List X) (x : X) → All P xs → P x → All P (xs ++ x ∷ [])
all_more {X = X} P [] x all one = λ k d h. only k d h where
  only : (k : ℕ) (d : X) → k < 1 → P (get_or (x ∷ []) k d)
  only zero d h = one
  only (suc k) d h = absurd (omega (arith, h))
all_more {X = X} P (y ∷ xs) x all one = All-cons P y (xs ++ x ∷ []) (All-head P y xs all) (all_more P xs x (All-tail P y xs all) one)

-- all that was read is legal
pub reads_legal : {S : Type 0} (faults : S → ℕ) (found : List (FoundSource S)) (reads : List (Result (List (List Message)) Unread)) → reads ≡ map found_read found → All (IsRead faults) found → All (λ (read : Result (List (List Message)) Unread). IfOk read (λ entries. IsLegal (messages_in entries))) reads
reads_legal faults found reads are each =
    subst (λ (rs : List (Result (List (List Message)) Unread)). All (λ (read : Result (List (List Message)) Unread). IfOk read (λ entries. IsLegal (messages_in entries))) rs) (sym are)
    (All-map (λ (read : Result (List (List Message)) Unread). IfOk read (λ entries. IsLegal (messages_in entries))) found_read found (λ k d h. (each k d h).legal))

-- one element more
pub length_more : {X : Type 0} (xs : List X) (x : X) → length (xs ++ x ∷ []) ≡ length xs + 1
length_more xs x = length-append xs (x ∷ [])

-- what was changed in place of the first elements, as many as they were, is what the first ones are
pub changed_whole : {X : Type 0} (n : ℕ) (xs ys : List X) → length xs ≡ n → take n (xs ++ ys) ≡ xs
changed_whole n xs ys wide = ap (λ (k : ℕ). take k (xs ++ ys)) (sym wide) ∙ take-append_seam xs ys

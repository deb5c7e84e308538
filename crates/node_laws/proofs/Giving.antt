-- What a lawful node gives.
use Rattle.std.proofs.Common.{◌≡◌, ℕ, zero, suc, ◌<◌, List, [], ◌∷◌, ◌++◌, Bool, true, false, length, replicate, refl, ap, subst, sym, ◌∙◌, arith, append_assoc, get_or-set_same, get_or-set_other, ◌≢◌, inl, inr}
use Rattle.std.proofs.lemmas.List.{append-nil, length-set, length-replicate}
use Rattle.std.proofs.lemmas.Bool.{cases_lt}
use Rattle.cedr_base.specs.declared.level.Level.{Level}
use Rattle.cedr_base.specs.declared.change.Message.{Message}
use Rattle.cedr_base.specs.declared.change.Message.TheVariants as message
use Rattle.cedr_base.specs.Messages.{IsOpen, MayCome, IsLegal}
use Rattle.change_laws.proofs.Legal.{legal-push, legal_first, may_come_in}
use Rattle.cedr_table.specs.Operators.{Meaning}
use Rattle.node_laws.specs.Lists.{Lists, list_at, with_more}
use Rattle.node_laws.specs.Pass.{has_end, pass}
use Rattle.node_laws.specs.Lawful.{passes_of, has_broken, any_broken, all_over, any_came, Fits, IsRight, Step, lists_after, AreRightBehind, lists_behind, given_by, no_lists, AreOnPorts, IsLawful}
use Rattle.node_laws.proofs.Grows.{pass-push, pass-nil}
use Rattle.node_laws.proofs.Ends.{or_true, open_unbroken, open_from, broken-append, broken-pushed, over_before, open_not_over, ends_over, came_set}

-- What holds where nothing came, and goes on with each right step, holds of what a lawful node took and gave.
module _ (meaning : Meaning) (levels : List Level) (P : Lists → List Message → Type 0)
    (goes : (lists : Lists) (given : List Message) (s : Step) → length lists ≡ length levels → s.port < length lists → P lists given → IsRight meaning levels (lists_after lists s) (given ++ s.piece) s.piece → P (lists_after lists s) (given ++ s.piece)) where
  goes_along : (lists : Lists) (given : List Message) (ss : List Step) → length lists ≡ length levels → AreOnPorts (length levels) ss → AreRightBehind meaning levels lists given ss → P lists given → P (lists_behind lists ss) (given ++ given_by ss)
  goes_along lists given [] count on right h = subst (P lists) (sym (append-nil given)) h
  goes_along lists given (s ∷ ss) count on right h =
      let within = on.0 in
      let count_now : length (lists_after lists s) ≡ length levels = omega (arith, count, length-set lists s.port (list_at lists s.port ++ s.message ∷ [])) in
      subst (P (lists_behind (lists_after lists s) ss)) (append_assoc given s.piece (given_by ss))
      (goes_along (lists_after lists s) (given ++ s.piece) ss count_now on.1 right.1 (goes lists given s count (omega arith) h right.0))

  pub by_steps : P (no_lists levels) [] → (lists : Lists) (given : List Message) → IsLawful meaning levels lists given → P lists given
  by_steps h lists given lawful =
      subst (λ (ls : Lists). P ls given) lawful.lists_are
      (subst (P (lists_behind (no_lists levels) lawful.steps)) lawful.given_is
      (goes_along (no_lists levels) [] lawful.steps (length-replicate (length levels) []) lawful.on_ports lawful.right h))

came_none : (n : ℕ) → any_came (replicate n []) ≡ false
came_none zero = refl
came_none (suc n) = came_none n

-- no list without a message is broken
pub unbroken_none : (n : ℕ) → any_broken (replicate n []) ≡ false
unbroken_none zero = refl
unbroken_none (suc n) = unbroken_none n

-- of lists without a message nothing is passed on
pub passes_none : (vs : List Level) → passes_of vs (replicate (length vs) []) ≡ replicate (length vs) []
passes_none [] = refl
passes_none (v ∷ vs) = let a = pass-nil v in let b = passes_none vs in cc

abbrev AllLegal : Lists → Type 0
AllLegal lists = (port : ℕ) → IsLegal (list_at lists port)

-- lists that are legal with one message more were legal, and it may come
module _ (lists : Lists) (port : ℕ) (m : Message) (within : port < length lists) (legal : AllLegal (with_more lists port (m ∷ []))) where
  legal_here : IsLegal (list_at lists port ++ m ∷ [])
  legal_here = subst IsLegal (get_or-set_same lists port (list_at lists port ++ m ∷ []) [] within) (legal port)

  comes : MayCome (list_at lists port) m
  comes = may_come_in (list_at lists port) [] m legal_here

  legal_other : (k : ℕ) → k ≢ port → IsLegal (list_at lists k)
  legal_other k other = subst IsLegal (get_or-set_other lists port k (list_at lists port ++ m ∷ []) [] other) (legal k)

  legal_same : (k : ℕ) → port ≡ k → IsLegal (list_at lists k)
  legal_same k same = subst (λ (i : ℕ). IsLegal (list_at lists i)) same (legal_first [] (list_at lists port) (m ∷ []) legal_here)

  were_legal : AllLegal lists
  were_legal k = elim (cases_lt k port) [
    | inl h ↦ legal_other k (λ e. absurd (omega arith))
    | inr h ↦ elim (cases_lt port k) [ inl j ↦ legal_other k (λ e. absurd (omega arith)) | inr j ↦ legal_same k (omega arith) ]
  ]

module _ (meaning : Meaning) (levels : List Level) where
  -- there are as many lists as levels
  pub lists_count : (lists : Lists) (given : List Message) → IsLawful meaning levels lists given → length lists ≡ length levels
  lists_count lists given lawful =
      by_steps meaning levels (λ ls ms. length ls ≡ length levels) (λ ls ms s count within h right. length-set ls s.port (list_at ls s.port ++ s.message ∷ []) ∙ count)
      (length-replicate (length levels) []) lists given lawful

  -- what was given once a message came, and where none did
  record IsBegun (lists : Lists) (given : List Message) : Type 0 where
    begun : any_came lists ≡ true → any_broken lists ≡ false → Fits meaning levels lists given
    waits : any_came lists ≡ false → given ≡ []

  begun_more : (lists : Lists) (given : List Message) (s : Step) → length lists ≡ length levels → s.port < length lists → IsBegun lists given → IsRight meaning levels (lists_after lists s) (given ++ s.piece) s.piece → IsBegun (lists_after lists s) (given ++ s.piece)
  begun_more lists given s count within h right =
      let came = came_set lists s.port s.message within in
      record { begun = λ _ unbroken. right.whole unbroken; waits = λ none. cc }

  begun_is : (lists : Lists) (given : List Message) → IsLawful meaning levels lists given → IsBegun lists given
  begun_is lists given lawful = by_steps meaning levels IsBegun begun_more (record { begun = λ some. absurd (let e = came_none (length levels) in cc); waits = λ none. refl }) lists given lawful

  pub lawful_fits : (lists : Lists) (given : List Message) → IsLawful meaning levels lists given → any_came lists ≡ true → any_broken lists ≡ false → Fits meaning levels lists given
  lawful_fits lists given lawful = (begun_is lists given lawful).begun

  pub lawful_waits : (lists : Lists) (given : List Message) → IsLawful meaning levels lists given → any_came lists ≡ false → given ≡ []
  lawful_waits lists given lawful = (begun_is lists given lawful).waits

  -- whether what was given is broken
  record IsBroken (lists : Lists) (given : List Message) : Type 0 where
    broken : any_broken lists ≡ true → has_broken given ≡ all_over lists
    unbroken : any_broken lists ≡ false → has_broken given ≡ false

  not_broken : (lists : Lists) (given : List Message) (b : Bool) → any_broken lists ≡ b → IsBroken lists given → all_over lists ≡ false → has_broken given ≡ false
  not_broken lists given true some h over = h.broken some ∙ over
  not_broken lists given false none h over = h.unbroken none

  broken_at : (lists : Lists) (given piece : List Message) (before : all_over lists ≡ false → has_broken given ≡ false) → IsRight meaning levels lists (given ++ piece) piece → any_broken lists ≡ true → (b : Bool) → all_over lists ≡ b → has_broken (given ++ piece) ≡ b
  broken_at lists given piece before right some true over = ap (λ (p : List Message). has_broken (given ++ p)) (right.last some over) ∙ broken-pushed given
  broken_at lists given piece before right some false over = ap (λ (p : List Message). has_broken (given ++ p)) (right.empty some over) ∙ (ap has_broken (append-nil given) ∙ before over)

  broken_more : (lists : Lists) (given : List Message) (s : Step) → length lists ≡ length levels → s.port < length lists → IsBroken lists given → IsRight meaning levels (lists_after lists s) (given ++ s.piece) s.piece → IsBroken (lists_after lists s) (given ++ s.piece)
  broken_more lists given s count within h right = record {
    broken = λ some.
        broken_at (lists_after lists s) given s.piece (λ over. not_broken lists given (any_broken lists) refl h (over_before lists s.port (s.message ∷ []) over)) right some (all_over (lists_after lists s)) refl;
    unbroken = λ none. (right.whole none).unbroken;
  }

  broken_is : (lists : Lists) (given : List Message) → IsLawful meaning levels lists given → IsBroken lists given
  broken_is lists given lawful =
      by_steps meaning levels IsBroken broken_more (record { broken = λ some. absurd (let e = unbroken_none (length levels) in cc); unbroken = λ none. refl }) lists given lawful

  pub lawful_breaks : (lists : Lists) (given : List Message) → IsLawful meaning levels lists given → any_broken lists ≡ true → has_broken given ≡ all_over lists
  lawful_breaks lists given lawful = (broken_is lists given lawful).broken

  pub lawful_unbroken : (lists : Lists) (given : List Message) → IsLawful meaning levels lists given → any_broken lists ≡ false → has_broken given ≡ false
  lawful_unbroken lists given lawful = (broken_is lists given lawful).unbroken

  -- what was given of legal lists, and whether it goes on
  record IsSent (lists : Lists) (given : List Message) : Type 0 where
    legal : IsLegal given
    opened : all_over lists ≡ false → IsOpen given

  sent_at : (lists : Lists) (given piece : List Message) → IsRight meaning levels lists (given ++ piece) piece → IsLegal given → IsOpen given → (b c : Bool) → any_broken lists ≡ b → all_over lists ≡ c → IsSent lists (given ++ piece)
  sent_at lists given piece right legal opened false c unbroken over =
      let fits = right.whole unbroken in
      record { legal = fits.legal; opened = λ e. open_from (given ++ piece) (fits.ended ∙ (ends_over lists unbroken ∙ e)) fits.unbroken }
  sent_at lists given piece right legal opened true true broken over =
      record { legal = subst (λ (p : List Message). IsLegal (given ++ p)) (sym (right.last broken over)) (legal-push given message.Broken legal (opened, tt)); opened = λ e. cc }
  sent_at lists given piece right legal opened true false broken over =
      let same : given ++ piece ≡ given = ap (λ (p : List Message). given ++ p) (right.empty broken over) ∙ append-nil given in
      record { legal = subst IsLegal (sym same) legal; opened = λ e. subst IsOpen (sym same) opened }

  sent_more : (lists : Lists) (given : List Message) (s : Step) → length lists ≡ length levels → s.port < length lists → (AllLegal lists → IsSent lists given) → IsRight meaning levels (lists_after lists s) (given ++ s.piece) s.piece → AllLegal (lists_after lists s) → IsSent (lists_after lists s) (given ++ s.piece)
  sent_more lists given s count within h right legal =
      let sent = h (were_legal lists s.port s.message within legal) in
      let opened = sent.opened (open_not_over s.port lists within (comes lists s.port s.message within legal).0) in
      sent_at (lists_after lists s) given s.piece right sent.legal opened (any_broken (lists_after lists s)) (all_over (lists_after lists s)) refl refl

  sent_is : (lists : Lists) (given : List Message) → IsLawful meaning levels lists given → AllLegal lists → IsSent lists given
  sent_is lists given lawful legal = by_steps meaning levels (λ ls ms. AllLegal ls → IsSent ls ms) sent_more (λ none. record { legal = tt; opened = λ e. tt }) lists given lawful legal

  -- what a lawful node gave of legal lists is legal
  pub lawful_legal : (lists : Lists) (given : List Message) → IsLawful meaning levels lists given → ((port : ℕ) → IsLegal (list_at lists port)) → IsLegal given
  lawful_legal lists given lawful legal = (sent_is lists given lawful legal).legal

  -- and open while one of them is
  pub lawful_opened : (lists : Lists) (given : List Message) → IsLawful meaning levels lists given → ((port : ℕ) → IsLegal (list_at lists port)) → all_over lists ≡ false → IsOpen given
  lawful_opened lists given lawful legal = (sent_is lists given lawful legal).opened

-- What echoes gives what its port passes on, a break included.
module _ (meaning : Meaning) (echoes : meaning.echoes ≡ true) where
  whole_passes : (v : Level) (l given piece : List Message) (m : Message) → IsOpen l → has_broken (m ∷ []) ≡ false → IsRight meaning (v ∷ []) ((l ++ m ∷ []) ∷ []) (given ++ piece) piece → pass v (l ++ m ∷ []) ∷ [] ≡ (given ++ piece) ∷ []
  whole_passes v l given piece m opened unbroken right =
      let e : has_broken (l ++ m ∷ []) ≡ false = broken-append l (m ∷ []) (open_unbroken l opened) ∙ unbroken in
      let none : any_broken ((l ++ m ∷ []) ∷ []) ≡ false = cc in
      (right.whole none).passed_on echoes

  echo_at : (levels : List Level) (lists : Lists) (given piece : List Message) (port : ℕ) (m : Message) → length levels ≡ 1 → length lists ≡ length levels → port < length lists → MayCome (list_at lists port) m → passes_of levels lists ≡ given ∷ []
      → IsRight meaning levels (with_more lists port (m ∷ [])) (given ++ piece) piece → passes_of levels (with_more lists port (m ∷ [])) ≡ (given ++ piece) ∷ []
  echo_at [] lists given piece port m one count within may h right = absurd (omega arith)
  echo_at (v ∷ w ∷ vs) lists given piece port m one count within may h right = absurd (omega arith)
  echo_at (v ∷ []) [] given piece port m one count within may h right = absurd (omega arith)
  echo_at (v ∷ []) (l ∷ k ∷ ls) given piece port m one count within may h right = absurd (omega arith)
  echo_at (v ∷ []) (l ∷ []) given piece (suc k) m one count within may h right = absurd (omega arith)
  echo_at (v ∷ []) (l ∷ []) given piece zero (message.Change c) one count within may h right = whole_passes v l given piece (message.Change c) may.0 refl right
  echo_at (v ∷ []) (l ∷ []) given piece zero (message.Mark t) one count within may h right = whole_passes v l given piece (message.Mark t) may.0 refl right
  echo_at (v ∷ []) (l ∷ []) given piece zero message.End one count within may h right = whole_passes v l given piece message.End may.0 refl right
  echo_at (v ∷ []) (l ∷ []) given piece zero message.Broken one count within may h right =
      let e = broken-pushed l in
      let some : any_broken ((l ++ message.Broken ∷ []) ∷ []) ≡ true = cc in
      let either = or_true (has_end (l ++ message.Broken ∷ [])) in
      let over : all_over ((l ++ message.Broken ∷ []) ∷ []) ≡ true = cc in
      let last = right.last some over in
      let grown = pass-push v l message.Broken in
      cc

  pub lawful_echo : (levels : List Level) (lists : Lists) (given : List Message) → IsLawful meaning levels lists given → ((port : ℕ) → IsLegal (list_at lists port)) → length levels ≡ 1 → passes_of levels lists ≡ given ∷ []
  lawful_echo levels lists given lawful legal one =
      by_steps meaning levels (λ ls ms. AllLegal ls → passes_of levels ls ≡ ms ∷ [])
      (λ ls ms s count within h right all. echo_at levels ls ms s.piece s.port s.message one count within (comes ls s.port s.message within all) (h (were_legal ls s.port s.message within all)) right)
      (λ none. passes_none levels ∙ ap (λ (n : ℕ). replicate {A = List Message} n []) one) lists given lawful legal

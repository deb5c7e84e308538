-- What comes of a message, as the code has it.
use Rattle.std.proofs.Common.{◌≡◌, refl, ℕ, ◌+◌, ◌-◌, ◌<◌, ◌≤◌, List, [], ◌∷◌, ◌++◌, Bool, true, false, cond, ◌||◌, ap, sym, ◌∙◌, subst, arith, length, set, get_or}
use Rattle.std.specs.Prelude.{nat_eq}
use Rattle.std.proofs.lemmas.Bool.{or_parts}
use Rattle.std.proofs.lemmas.List.{append-nil}
use Rattle.cedr_base.specs.declared.change.Message.{Message}
use Rattle.cedr_base.specs.declared.change.Message.TheVariants as message
use Rattle.cedr_base.specs.Messages.{IsLegalBehind, IsLegal}
use Rattle.change_laws.proofs.Legal.{legal-push, legal_rest}
use Rattle.node_laws.specs.Pass.{passed_of, pass}
use Rattle.cedr_table.specs.Operators.{Tables, Meaning}
use Rattle.node_laws.specs.Lists.{Lists, list_at, with_more}
use Rattle.node_laws.specs.Lawful.{passes_of, any_broken}
use Rattle.cedr_node.specs.Standing.{is_broken, is_closing, levels_of, waiting_of, StandsBetween, IsPortTaken, IsTakenOn, HoldsAtFronts, end_of_ports, breaking}
use Rattle.node_laws.proofs.Grows.{pass-push}
use Rattle.node_laws.proofs.Passes.{passes}
use Rattle.cedr_node.specs.declared.port.Port.{Port}
use Rattle.op_driver.specs.Driving.{MayTake, Drives, Answers}
use Rattle.node_laws.proofs.Ends.{open_not_over}
use Rattle.cedr_node.proofs.PortLists.{all_at, passes_length, passes_at, broken_set, waiting_set, over_is}
use Rattle.cedr_node.proofs.Echo.{echo_single}
use Rattle.cedr_node.proofs.Goes.{goes, breaks_off, passes_now, holds_now}

closing_low : (b : Bool) → cond {A = ℕ} b 1 0 ≤ 1
closing_low true = omega arith
closing_low false = omega arith

-- a message that may come closes at most as many lists as may go on
pub count_fits : (b : Bool) (w : ℕ) (lists : Lists) (port : ℕ) (m : Message) → MayTake lists port m → w ≡ waiting_of lists → b ≡ is_closing m → cond b 1 0 < w + 1
count_fits b w lists port m may w_is b_is = let e = ap (λ (c : Bool). cond {A = ℕ} c 1 0) b_is in omega (arith, waiting_set port lists m may.port_is may.comes.0)

module _ (meaning : Meaning) (stands : Tables → List ℕ → Type 0) (ports ports' : List Port) (marks : List ℕ) (sent waiting waiting' : ℕ) (broken broken' closed broke : Bool) (lists : Lists) (given : List Message)
    (port : ℕ) (m : Message) (passed : List Message)
    (h : StandsBetween meaning stands ports marks sent waiting broken lists given) (may : MayTake lists port m) (t : IsTakenOn ports ports' port (list_at lists port) m passed)
    (closed_is : closed ≡ is_closing m) (broke_is : broke ≡ is_broken m) (waiting_is : waiting' ≡ waiting - cond closed 1 0) (broken_is : broken' ≡ (broken || broke)) where
  taken_now : IsPortTaken (get_or ports port t.was) t.now (list_at lists port) m [] passed
  taken_now = subst (λ (p : Port). IsPortTaken p t.now (list_at lists port) m [] passed) (sym t.stood_at) t.taken

  waiting_now : waiting' ≡ waiting_of (with_more lists port (m ∷ []))
  waiting_now = let a = h.waiting_is in let e = ap (λ (c : Bool). cond {A = ℕ} c 1 0) closed_is in omega (arith, waiting_set port lists m may.port_is may.comes.0)

  -- a port broke exactly where the new lists have one that is broken
  pub broken_now : broken' ≡ any_broken (with_more lists port (m ∷ []))
  broken_now = broken_is ∙ (ap (λ (b : Bool). b || broke) h.broken_is ∙ (ap (λ (b : Bool). any_broken lists || b) broke_is ∙ sym (broken_set port lists m may.port_is may.comes.0)))

  pub takes_broken : broken' ≡ true → StandsBetween meaning stands ports' marks sent waiting' broken' (with_more lists port (m ∷ [])) (given ++ breaking waiting')
  takes_broken some =
      subst (λ (ps : List Port). StandsBetween meaning stands ps marks sent waiting' broken' (with_more lists port (m ∷ [])) (given ++ breaking waiting')) (sym t.stands_at)
      (breaks_off meaning stands stands [] ports marks marks sent sent waiting waiting' broken lists given port m t.was t.now passed given given h may taken_now waiting_now (sym broken_now ∙ some) broken' broken_now)

  module _ (whole : broken' ≡ false) where
    was_whole : any_broken lists ≡ false
    was_whole = sym h.broken_is ∙ (or_parts broken broke (sym broken_is ∙ whole)).0

    m_whole : is_broken m ≡ false
    m_whole = sym broke_is ∙ (or_parts broken broke (sym broken_is ∙ whole)).1

    driven : Drives meaning stands marks sent (passes_of (levels_of ports) lists) given
    driven = h.drives was_whole (open_not_over port lists may.port_is may.comes.0)

    port_within : port < length (passes_of (levels_of ports) lists)
    port_within = let e = may.port_is in omega (arith, passes_length ports lists h.ports_stand)

    may_pass : IsLegalBehind (list_at (passes_of (levels_of ports) lists) port) passed
    may_pass =
        let v = (get_or ports port t.was).aligner.level in
        let l = list_at lists port in
        let stood = all_at port ports lists t.was h.ports_stand may.port_is in
        let legal : IsLegal (pass (get_or ports port t.was).aligner.level (list_at lists port ++ m ∷ [])) = (passes v (l ++ m ∷ []) (legal-push l m stood.aligns.legal may.comes)).legal in
        let all : IsLegal (pass (get_or ports port t.was).aligner.level (list_at lists port) ++ passed_of (get_or ports port t.was).aligner.level (list_at lists port) m) = subst IsLegal (pass-push v l m) legal in
        subst (λ (ms : List Message). IsLegalBehind (list_at (passes_of (levels_of ports) lists) port) ms) (sym taken_now.passed_on)
        (subst (λ (ms : List Message). IsLegalBehind ms (passed_of (get_or ports port t.was).aligner.level (list_at lists port) m)) (sym (passes_at port ports lists t.was h.ports_stand may.port_is))
        (legal_rest [] (pass v l) (passed_of v l m) all))

    -- what passed may come to the operator
    pub passes_on : Drives meaning stands marks sent (passes_of (levels_of ports) lists) given × (port < length (passes_of (levels_of ports) lists)) × IsLegalBehind (list_at (passes_of (levels_of ports) lists) port) passed
    passes_on = (driven, port_within, may_pass)

    module _ (stands' : Tables → List ℕ → Type 0) (held : Tables) (marks' : List ℕ) (sent' : ℕ) (before after : List Message)
        (a : Answers meaning stands' held marks' sent sent' (passes_of (levels_of ports) lists) port passed given before after) where
      echo_next : meaning.echoes ≡ true → passes_of (levels_of (set ports port t.now)) (with_more lists port (m ∷ [])) ≡ (given ++ (a.gained ++ end_of_ports waiting')) ∷ []
      echo_next e =
          sym (passes_now meaning stands stands' held ports marks marks' sent sent' waiting waiting' broken lists given port m t.was t.now passed before after h may taken_now waiting_now)
          ∙ echo_single ports lists port m t.was given a.gained passed marks' sent sent' waiting' h.ports_stand may.port_is may.comes m_whole (h.echo was_whole e) driven.sent_is waiting_now taken_now.passed_on a.drives.works.marks_are
          (a.echo_mark e) (a.echo e)

      pub takes_whole : StandsBetween meaning stands' ports' marks' sent' waiting' broken' (with_more lists port (m ∷ [])) (given ++ (a.gained ++ end_of_ports waiting'))
      takes_whole =
          subst (λ (ps : List Port). StandsBetween meaning stands' ps marks' sent' waiting' broken' (with_more lists port (m ∷ [])) (given ++ (a.gained ++ end_of_ports waiting'))) (sym t.stands_at)
          (goes meaning stands stands' held ports marks marks' sent sent' waiting waiting' broken lists given port m t.was t.now passed before after h may taken_now waiting_now (sym broken_now ∙ whole) a echo_next broken' broken_now)

      -- the operator holds only rows that it may hold at its ports' fronts
      pub takes_holds : HoldsAtFronts meaning (levels_of ports') (with_more lists port (m ∷ [])) held
      takes_holds =
          subst (λ (ps : List Port). HoldsAtFronts meaning (levels_of ps) (with_more lists port (m ∷ [])) held) (sym t.stands_at)
          (holds_now meaning stands stands' held ports marks marks' sent sent' waiting waiting' broken lists given port m t.was t.now passed before after h may taken_now waiting_now (sym broken_now ∙ whole) a echo_next)

on_unbroken : (m : Message) → is_closing m ≡ false → is_broken m ≡ false
on_unbroken (message.Change c) h = refl
on_unbroken (message.Mark t) h = refl
on_unbroken message.End h = refl
on_unbroken message.Broken h = h

-- a message that goes through a port, and closes nothing, is what the operator takes
module _ (meaning : Meaning) (stands : Tables → List ℕ → Type 0) (ports ports' : List Port) (marks : List ℕ) (sent waiting : ℕ) (broken : Bool) (lists : Lists) (given : List Message) (port : ℕ) (m : Message)
    (h : StandsBetween meaning stands ports marks sent waiting broken lists given) (may : MayTake lists port m) (t : IsTakenOn ports ports' port (list_at lists port) m (m ∷ [])) (goes_on : is_closing m ≡ false) (whole : broken ≡ false) where
  same_waiting : waiting ≡ waiting - cond (is_closing m) 1 0
  same_waiting = let e = ap (λ (c : Bool). cond {A = ℕ} c 1 0) goes_on in omega (arith, e)

  same_broken : broken ≡ (broken || is_broken m)
  same_broken = whole ∙ sym (ap (λ (b : Bool). b || is_broken m) whole ∙ on_unbroken m goes_on)

  -- it may come to the operator
  pub through_comes : Drives meaning stands marks sent (passes_of (levels_of ports) lists) given × MayTake (passes_of (levels_of ports) lists) port m
  through_comes =
      let on = passes_on meaning stands ports ports' marks sent waiting waiting broken broken (is_closing m) (is_broken m) lists given port m (m ∷ []) h may t refl refl same_waiting same_broken whole in
      (on.0, record { port_is = on.1; comes = on.2.0 })

  no_end : (ms : List Message) → ms ++ end_of_ports waiting ≡ ms
  no_end ms =
      let some_waits : nat_eq waiting 0 ≡ false = ap (λ n. nat_eq n 0) h.waiting_is ∙ (sym (over_is lists) ∙ open_not_over port lists may.port_is may.comes.0) in
      ap (λ (b : Bool). ms ++ cond b (message.End ∷ []) []) some_waits ∙ append-nil ms

  module _ (stands' : Tables → List ℕ → Type 0) (held : Tables) (marks' : List ℕ) (sent' : ℕ) (before after : List Message)
      (a : Answers meaning stands' held marks' sent sent' (passes_of (levels_of ports) lists) port (m ∷ []) given before after) where
    pub through_whole : StandsBetween meaning stands' ports' marks' sent' waiting broken (with_more lists port (m ∷ [])) (given ++ a.gained)
    through_whole =
        subst (λ (g : List Message). StandsBetween meaning stands' ports' marks' sent' waiting broken (with_more lists port (m ∷ [])) (given ++ g)) (no_end a.gained)
        (takes_whole meaning stands ports ports' marks sent waiting waiting broken broken (is_closing m) (is_broken m) lists given port m (m ∷ []) h may t refl refl same_waiting same_broken whole stands' held marks' sent' before after a)

    pub through_holds : HoldsAtFronts meaning (levels_of ports') (with_more lists port (m ∷ [])) held
    through_holds = takes_holds meaning stands ports ports' marks sent waiting waiting broken broken (is_closing m) (is_broken m) lists given port m (m ∷ []) h may t refl refl same_waiting same_broken whole stands' held marks' sent' before after a

-- An operator with an aligner on each port, to which nothing came.
use Rattle.std.proofs.Common.{◌≡◌, ℕ, ◌+◌, zero, suc, List, [], ◌∷◌, ◌++◌, true, false, refl, ap, sym, ◌∙◌, subst, arith, length, replicate}
use Rattle.std.specs.Prelude.{map}
use Rattle.cedr_base.specs.declared.change.Message.{Message}
use Rattle.cedr_base.specs.Messages.{mark_of}
use Rattle.cedr_table.specs.Operators.{Tables, Meaning}
use Rattle.cedr_base.specs.declared.level.Level.{Level}
use Rattle.node_laws.specs.Lists.{Lists}
use Rattle.node_laws.specs.Lawful.{passes_of}
use Rattle.cedr_node.specs.declared.port.Port.{Port}
use Rattle.cedr_node.specs.Standing.{PortStands, AllStand, levels_of, waiting_of, StandsBetween}
use Rattle.op_driver.specs.Driving.{Drives}
use Rattle.node_laws.proofs.Giving.{unbroken_none, passes_none}

-- where ports stand for their lists and one more does for its own, all of them do
pub all-push : (ps : List Port) (ls : Lists) (p : Port) (l : List Message) → AllStand ps ls → PortStands p l → AllStand (ps ++ p ∷ []) (ls ++ l ∷ [])
all-push [] [] p l h s = (s, tt)
all-push [] (k ∷ ls) p l h s = absurd h
all-push (q ∷ ps) [] p l h s = absurd h
all-push (q ∷ ps) (k ∷ ls) p l h s = (h.0, all-push ps ls p l h.1 s)

-- a list of copies with one copy more ends with that one
pub replicate-push : {X : Type 0} (n : ℕ) (x : X) → replicate (n + 1) x ≡ replicate n x ++ x ∷ []
replicate-push zero x = refl
replicate-push (suc n) x = ap (λ (k : ℕ). replicate k x) (let e : suc n + 1 ≡ suc (n + 1) = omega arith in e) ∙ ap (λ xs. x ∷ xs) (replicate-push n x)

marks_none : (n : ℕ) → map mark_of (replicate n []) ≡ replicate n 0
marks_none zero = refl
marks_none (suc n) = ap (λ ns. 0 ∷ ns) (marks_none n)

waiting_none : (n : ℕ) → waiting_of (replicate n []) ≡ n
waiting_none zero = refl
waiting_none (suc n) = omega (arith, waiting_none n)

one : (n b : ℕ) → replicate n 0 ≡ b ∷ [] → replicate {A = List Message} n [] ≡ [] ∷ []
one zero b h = cc
one (suc zero) b h = refl
one (suc (suc n)) b h = cc

-- an operator with its ports, to which nothing came, stands between empty lists
pub first_stands : (meaning : Meaning) (stands : Tables → List ℕ → Type 0) (ports : List Port) (marks : List ℕ) (sent : ℕ) (vs : List Level)
    → length vs ≡ meaning.ports → levels_of ports ≡ vs → AllStand ports (replicate (length vs) []) → Drives meaning stands marks sent (replicate meaning.ports []) []
    → (meaning.echoes ≡ true → (tables : Tables) (ms : List ℕ) → stands tables ms → ms ≡ meaning.bound tables ms ∷ [])
    → StandsBetween meaning stands ports marks sent (length vs) false (replicate (length vs) []) []
first_stands meaning stands ports marks sent vs count levels_are all drives echo_bound =
    let passes_are : passes_of (levels_of ports) (replicate (length vs) []) ≡ replicate (length vs) [] = ap (λ (ws : List Level). passes_of ws (replicate (length vs) [])) levels_are ∙ passes_none vs in
    let driven : Drives meaning stands marks sent (replicate (length vs) []) [] = subst (λ (n : ℕ). Drives meaning stands marks sent (replicate n []) []) (sym count) drives in
    record {
      ports_stand = all;
      waiting_is = sym (waiting_none (length vs));
      broken_is = sym (unbroken_none (length vs));
      lawful = record { steps = []; on_ports = tt; lists_are = ap (λ (ws : List Level). replicate (length ws) []) levels_are; given_is = refl; right = tt };
      drives = λ _ _. subst (λ (ls : Lists). Drives meaning stands marks sent ls []) (sym passes_are) driven;
      echo = λ _ e.
          let w = driven.works in
          let zeros : replicate (length vs) 0 ≡ meaning.bound w.tables marks ∷ [] = sym (marks_none (length vs)) ∙ (sym w.marks_are ∙ echo_bound e w.tables marks w.op) in
          passes_are ∙ one (length vs) (meaning.bound w.tables marks) zeros;
    }

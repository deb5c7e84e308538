-- A log that grows by writes.
use Rattle.std.proofs.Common.{◌≡◌, ℕ, List, [], ◌∷◌, ◌++◌, Option, None, Some, Ok, take, refl, ap, sym, ◌∙◌, append_assoc, append-nil}
use Rattle.cedr_script.specs.declared.step.WireStep.{WireStep}
use Rattle.cedr_script.specs.declared.step.WireStep.TheVariants as wire_step
use Rattle.cedr_script.specs.Logs.{LogGrows, came, went, AreWrites, LogsRead, LogsWrite, Sends}

pub grows_none : (log : Option (List WireStep)) → LogGrows log log []
grows_none None = tt
grows_none (Some steps) = sym (append-nil steps)

pub grows_along : (a b c : Option (List WireStep)) (xs ys : List WireStep) → LogGrows a b xs → LogGrows b c ys → LogGrows a c (xs ++ ys)
grows_along None b c xs ys one two = tt
grows_along (Some x) None c xs ys one two = absurd one
grows_along (Some x) (Some y) None xs ys one two = absurd two
grows_along (Some x) (Some y) (Some z) xs ys one two = two ∙ (ap (λ (l : List WireStep). l ++ ys) one ∙ append_assoc x xs ys)

writes_more : (xs : List WireStep) (bytes : List ℕ) → AreWrites xs → AreWrites (xs ++ wire_step.Went bytes ∷ [])
writes_more [] bytes are = tt
writes_more (wire_step.Came b ∷ xs) bytes are = absurd are
writes_more (wire_step.Refused ∷ xs) bytes are = absurd are
writes_more (wire_step.Went b ∷ xs) bytes are = writes_more xs bytes are

pub went-append : (xs ys : List WireStep) → went (xs ++ ys) ≡ went xs ++ went ys
went-append [] ys = refl
went-append (wire_step.Came b ∷ xs) ys = went-append xs ys
went-append (wire_step.Refused ∷ xs) ys = went-append xs ys
went-append (wire_step.Went b ∷ xs) ys = ap (λ (l : List ℕ). b ++ l) (went-append xs ys) ∙ sym (append_assoc b (went xs) (went ys))

-- nothing was written
pub sends_none : (log : Option (List WireStep)) → Sends log log []
sends_none log = record { steps = []; grows = grows_none log; writes = tt; all = refl }

-- one more write
pub sends_more : (a b c : Option (List WireStep)) (bytes more : List ℕ) → Sends a b bytes → LogGrows b c (wire_step.Went more ∷ []) → Sends a c (bytes ++ more)
sends_more a b c bytes more s grows = record {
  steps = s.steps ++ wire_step.Went more ∷ [];
  grows = grows_along a b c s.steps (wire_step.Went more ∷ []) s.grows grows;
  writes = writes_more s.steps more s.writes;
  all = went-append s.steps (wire_step.Went more ∷ []) ∙ (ap (λ (l : List ℕ). l ++ (more ++ [])) s.all ∙ ap (λ (l : List ℕ). bytes ++ l) (append-nil more));
}

pub came-append : (xs ys : List WireStep) → came (xs ++ ys) ≡ came xs ++ came ys
came-append [] ys = refl
came-append (wire_step.Came b ∷ xs) ys = ap (λ (l : List ℕ). b ++ l) (came-append xs ys) ∙ sym (append_assoc b (came xs) (came ys))
came-append (wire_step.Refused ∷ xs) ys = came-append xs ys
came-append (wire_step.Went b ∷ xs) ys = came-append xs ys

-- of writes nothing came
pub none_came : (xs : List WireStep) → AreWrites xs → came xs ≡ []
none_came [] are = refl
none_came (wire_step.Came b ∷ xs) are = absurd are
none_came (wire_step.Refused ∷ xs) are = absurd are
none_came (wire_step.Went b ∷ xs) are = none_came xs are

-- what came and what went behind some steps more
grown_came : (first last steps : List WireStep) (bytes : List ℕ) → last ≡ first ++ steps → came steps ≡ bytes → came last ≡ came first ++ bytes
grown_came first last steps bytes is all = ap came is ∙ (came-append first steps ∙ ap (λ (l : List ℕ). came first ++ l) all)

grown_went : (first last steps : List WireStep) (bytes : List ℕ) → last ≡ first ++ steps → went steps ≡ bytes → went last ≡ went first ++ bytes
grown_went first last steps bytes is all = ap went is ∙ (went-append first steps ∙ ap (λ (l : List ℕ). went first ++ l) all)

-- a read adds to what came
pub read_came : (first last : List WireStep) (count : ℕ) (buf : List ℕ) → LogsRead (Ok count) (Some first) (Some last) buf → (came last ≡ came first ++ take count buf) × (went last ≡ went first)
read_came first last count buf is =
    let step = wire_step.Came (take count buf) ∷ [] in
    (grown_came first last step (take count buf) is (append-nil (take count buf)), grown_went first last step [] is refl ∙ append-nil (went first))

-- a write adds to what went
pub write_went : (first last : List WireStep) (count : ℕ) (piece : List ℕ) → LogsWrite (Ok count) (Some first) (Some last) piece → (went last ≡ went first ++ take count piece) × (came last ≡ came first)
write_went first last count piece is =
    let step = wire_step.Went (take count piece) ∷ [] in
    (grown_went first last step (take count piece) is (append-nil (take count piece)), grown_came first last step [] is refl ∙ append-nil (came first))

-- and so does a text that is sent
pub sent_went : (first last : List WireStep) (bytes : List ℕ) → Sends (Some first) (Some last) bytes → (went last ≡ went first ++ bytes) × (came last ≡ came first)
sent_went first last bytes s =
    (grown_went first last s.steps bytes s.grows s.all, grown_came first last s.steps [] s.grows (none_came s.steps s.writes) ∙ append-nil (came first))

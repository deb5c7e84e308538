-- Induction over a list message by message.
use Rattle.std.proofs.Common.{List, [], ◌∷◌, ◌++◌, subst, sym, append_assoc}
use Rattle.std.proofs.lemmas.List.{append-nil}
use Rattle.cedr_base.specs.declared.change.Message.{Message}
use Rattle.cedr_base.specs.Messages.{MayCome, IsLegalBehind, IsLegal}
use Rattle.change_laws.proofs.Legal.{legal-push}

module _ (P : List Message → Type 0) (step : (ms : List Message) (m : Message) → P ms → P (ms ++ m ∷ [])) where
  grown : (before ms : List Message) → P before → P (before ++ ms)
  grown before [] h = subst P (sym (append-nil before)) h
  grown before (m ∷ ms) h = subst P (append_assoc before (m ∷ []) ms) (grown (before ++ m ∷ []) ms (step before m h))

  pub by_messages : P [] → (ms : List Message) → P ms
  by_messages h ms = grown [] ms h

module _ (P : List Message → Type 0) (step : (ms : List Message) (m : Message) → IsLegal ms → MayCome ms m → P ms → P (ms ++ m ∷ [])) where
  grown_legal : (before ms : List Message) → IsLegal before → IsLegalBehind before ms → P before → P (before ++ ms)
  grown_legal before [] legal more h = subst P (sym (append-nil before)) h
  grown_legal before (m ∷ ms) legal more h =
      subst P (append_assoc before (m ∷ []) ms) (grown_legal (before ++ m ∷ []) ms (legal-push before m legal more.0) more.1 (step before m legal more.0 h))

  pub by_legal : P [] → (ms : List Message) → IsLegal ms → P ms
  by_legal h ms legal = grown_legal [] ms tt legal h

-- What is asked of who turns a worker.
use denote.Ref.{MutBor}
use denote.Param.Members.{Shared}
use Rattle.cedr_worker.specs.declared.turn.Turn.{Turn}

-- a call takes whatever works, and leaves it as what it was made for
pub record TurnsWell {F W : Type 0} (g : Shared F (MutBor W × Unit {0}) (Turn × (MutBor W × Unit {0}))) (f : F) (works : W → Type 0) (stays : W → W → Type 0) : Type 0 where
  pub takes : (p : MutBor W) → works p.now → g.pre f (p, tt)
  pub leaves : (p q : MutBor W) (turn : Turn) → g.post f (p, tt) (turn, (q, tt)) → stays p.now q.now

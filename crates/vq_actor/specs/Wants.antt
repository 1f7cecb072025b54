-- The wants for which each call may make no event. This project's own.
use Rattle.std.specs.Prelude.{ℕ, ◌≡◌, true, List, Some}
use Rattle.vq_model.specs.Plan.{Plan, chain_of, job_of}
use Rattle.vq_ground.specs.Lists.{has}
use Rattle.vq_point_laws.specs.Points.{smaller_ops}
use Rattle.vq_turns.specs.declared.outcome.Want.{Want}
use Rattle.vq_turns.specs.declared.outcome.Want.TheVariants.{Next, Released, Exchange, Listed}

-- another actor has changed the word of a point: of one of these operations, or of this one
abbrev pub IsExchangeAmong : List ℕ → Want → Type 0
IsExchangeAmong es (Exchange f found) = has es f ≡ true
IsExchangeAmong es other = ⊥

abbrev pub IsExchangeOf : ℕ → Want → Type 0
IsExchangeOf e (Exchange f found) = f ≡ e
IsExchangeOf e other = ⊥

-- an operation stands before another one in its chain
pub record IsBefore (p : Plan) (f e : ℕ) : Type 0 where
  pub chain : ℕ
  pub in_chain : chain_of p e ≡ Some chain
  pub smaller : has (smaller_ops p chain e) f ≡ true

-- An operation isn't bound: one before it isn't, its job isn't released, or its lists are in use.
abbrev pub HoldsBackBind : Plan → ℕ → Want → Type 0
HoldsBackBind p e (Next f) = IsBefore p f e
HoldsBackBind p e (Released j) = job_of p e ≡ Some j
HoldsBackBind p e (Listed f) = f ≡ e
HoldsBackBind p e other = ⊥

-- From each operation of a chain that rises in a sure order on, the chain rises so.
use Rattle.std.proofs.Common.{ℕ, List, [], ◌∷◌, ◌++◌}
use Rattle.vq_model.specs.Plan.{Plan}
use Rattle.vq_model.specs.SureOrder.{KeepsRising, RisesFrom}

-- from an operation that stands in a chain on, the values rise
rising_on : (p : Plan) (x : ℕ) (front back : List ℕ) (r : ℕ) → KeepsRising p x (front ++ r ∷ back) → KeepsRising p r back
rising_on p x [] back r k = k.2
rising_on p x (y ∷ front) back r k = rising_on p y front back r k.2

pub rising_at : (p : Plan) (n : ℕ) (front back : List ℕ) (r : ℕ) → RisesFrom p n (front ++ r ∷ back) → KeepsRising p r back
rising_at p n [] back r k = k.1
rising_at p n (y ∷ front) back r k = rising_on p y front back r k.1

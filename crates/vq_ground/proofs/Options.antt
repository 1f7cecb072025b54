-- Options and results.
use Rattle.std.proofs.Common.{◌≡◌, Option, Some, None, option_map, Result, Ok, Err, refl, ap}
use Rattle.std.specs.Result.{IsErr, IsErrAnd}

pub some_of : {X Y : Type 0} (f : X → Y) (o : Option X) (y : Y) → option_map f o ≡ Some y → (x : X) × (o ≡ Some x) × (f x ≡ y)
some_of f None y e = absurd (let c : None ≡ Some y = e in cc)
some_of f (Some x) y e = (x, refl, cc)

-- what an exit by `?` returns
pub returned : {A E : Type 0} (r : Result A E) (e : E) → IsErr r → IsErrAnd r (λ x. x ≡ e) → r ≡ Err e
returned (Ok a) e h i = absurd (cc)
returned (Err x) e h i = ap (λ y. Err y) i

-- The number of an operation's state is small.
use Rattle.std.proofs.Common.{◌≡◌, ℕ, ◌+◌, ◌<◌, ◌^◌, arith, refl}
use Rattle.vq_board_laws.specs.declared.view.OpState.{OpState}
use Rattle.vq_board_laws.specs.declared.view.OpState.TheVariants.{Unbound, Bound, Past}
use Rattle.vq_board_laws.specs.PointSteps.{op_number}

-- where points are few the number is small
pub small_number : (s : OpState) (n few : ℕ) → n ≡ op_number s → ((q : ℕ) → s ≡ Bound q → q < few) → few < 2 ^ 32 → n < 2 ^ 32 + 2
small_number Unbound n few e below l = omega arith
small_number Past n few e below l = omega arith
small_number (Bound q) n few e below l = let b = below q refl in omega arith

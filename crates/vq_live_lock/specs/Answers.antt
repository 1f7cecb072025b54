-- What each call answers and leaves, by the words of the timeline's own contracts. This project's own.
use Rattle.std.specs.Prelude.{ℕ, ◌≡◌, ◌⊎◌, ◌<◌, Some, None, Ok, Err, Result}
use Rattle.vq_live.specs.declared.answers.Given.{Given}
use Rattle.vq_live.specs.declared.answers.Held.{Held}
use Rattle.vq_live.specs.declared.answers.TakeFault.{TakeFault}
use Rattle.vq_live.specs.declared.answers.InstallFault.{InstallFault}
use Rattle.vq_live.specs.declared.answers.CancelFault.{CancelFault}
use Rattle.vq_live.specs.declared.answers.ReferFault.{ReferFault}
use Rattle.vq_live.specs.declared.answers.SignalFault.{SignalFault}
use Rattle.vq_live.specs.declared.answers.ReserveFault.{ReserveFault}
use Rattle.vq_live.specs.Live.{Live, slot_at, no_slot, IsUnused}
use Rattle.vq_live.specs.Calls.{take_fault, given_to, after_take, MayLack, install_fault, after_install}
use Rattle.vq_live.specs.Calls.{cancel_fault, after_cancel, refer_answer, after_refer, after_unref}
use Rattle.vq_live.specs.Calls.{signal_fault, after_signal, LacksNumbers, LacksRoom, after_reserve}

-- the point that is given carries nothing, and nobody holds it
abbrev pub HasTaken : Live → Live → ℕ → Result Given TakeFault → Type 0
HasTaken x y value (Ok given) =
    (take_fault x value ≡ None) × (given ≡ given_to x value) × IsUnused given.point x.ops
    × (slot_at x.slots given.point ≡ no_slot) × (y ≡ after_take x value)
HasTaken x y value (Err fault) = ((take_fault x value ≡ Some fault) ⊎ MayLack x fault) × (y ≡ x)

abbrev pub HasReserved : Live → Live → ℕ → Result (Unit {0}) ReserveFault → Type 0
HasReserved x y count (Ok done) = (LacksNumbers x count → ⊥) × (y ≡ after_reserve x count)
HasReserved x y count (Err fault) = LacksRoom x count fault × (y ≡ x)

abbrev pub HasInstalled : Live → Live → Given → Result (Unit {0}) InstallFault → Type 0
HasInstalled x y given (Ok done) = (install_fault x given ≡ None) × (y ≡ after_install x)
HasInstalled x y given (Err fault) = (install_fault x given ≡ Some fault) × (y ≡ x)

abbrev pub HasCancelled : Live → Live → Given → Result (Unit {0}) CancelFault → Type 0
HasCancelled x y given (Ok done) = (cancel_fault x given ≡ None) × (y ≡ after_cancel x given)
HasCancelled x y given (Err fault) = (cancel_fault x given ≡ Some fault) × (y ≡ x)

abbrev pub HasReferred : Live → Live → ℕ → Result Held ReferFault → Type 0
HasReferred x y point (Ok held) = (refer_answer x point ≡ Ok held) × (y ≡ after_refer x point)
HasReferred x y point (Err fault) = (refer_answer x point ≡ Err fault) × (y ≡ x)

abbrev pub HasReturned : Live → Live → Held → Result (Unit {0}) Held → Type 0
HasReturned x y held (Ok done) = (0 < (slot_at x.slots held.point).refs) × (y ≡ after_unref x held.point)
HasReturned x y held (Err back) = ((slot_at x.slots held.point).refs ≡ 0) × (back ≡ held) × (y ≡ x)

abbrev pub HasSignaled : Live → Live → ℕ → Result (Unit {0}) SignalFault → Type 0
HasSignaled x y value (Ok done) = (signal_fault x value ≡ None) × (y ≡ after_signal x value)
HasSignaled x y value (Err fault) = (signal_fault x value ≡ Some fault) × (y ≡ x)

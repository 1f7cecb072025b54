-- What each call of C's answers and leaves, by the words of the calls of a live timeline.
use Rattle.std.specs.List.{slice_get}
use Rattle.std.specs.Prelude.{ℕ, ◌≡◌, ◌⊎◌, Option, Some, None, Result, Ok, Err}
use Rattle.vq_live.specs.declared.answers.Given.{Given}
use Rattle.vq_live.specs.declared.answers.Held.{Held}
use Rattle.vq_live.specs.declared.answers.TakeFault.{TakeFault}
use Rattle.vq_live.specs.declared.answers.ReferFault.{ReferFault}
use Rattle.vq_live.specs.Live.{Live, slot_at}
use Rattle.vq_live.specs.declared.answers.CancelFault.{CancelFault}
use Rattle.vq_live.specs.declared.answers.InstallFault.{InstallFault}
use Rattle.vq_live.specs.declared.answers.SignalFault.{SignalFault}
use Rattle.vq_live.specs.declared.answers.Found.{Found}
use Rattle.vq_live.specs.Calls.{after_cancel, after_complete, after_install, after_refer, after_signal}
use Rattle.vq_live.specs.Calls.{after_take, after_unref, given_to, refer_answer, take_fault, MayLack}
use Rattle.vq_live.specs.Calls.{cancel_fault, first_pending, found, install_fault, signal_fault}
use Rattle.vq_live_c.specs.declared.reply.Reply.TheVariants as call_as
use Rattle.vq_live_c.specs.declared.rows.GivenRow.{GivenRow}
use Rattle.vq_live_c.specs.Codes.{call_code, find_code}
use Rattle.vq_live_c.specs.Told.{cancel_answer, find_told, given_or, given_told, install_answer, install_told}
use Rattle.vq_live_c.specs.Told.{refer_answer_code, signal_answer, signal_told, take_answer, take_told}

-- what is left by a call that changes nothing where it is refused
abbrev pub unless_refused : {F : Type 0} → Option F → Live → Live → Live
unless_refused None before after = after
unless_refused (Some fault) before after = before

-- Opening: there was no memory only where what stood for the timeline stays.
abbrev pub HasOpened : {A : Type 0} → A → A → ℕ → Type 0
HasOpened before after code =
    (code ≡ call_code call_as.Done) ⊎ ((code ≡ call_code call_as.NoMemory) × (after ≡ before))

-- A take gave a point; or none, and changed nothing.
abbrev pub HasTaken : Live → Live → ℕ → Result Given TakeFault → Type 0
HasTaken before after value (Ok given) =
    (take_fault before value ≡ None) × (given ≡ given_to before value) × (after ≡ after_take before value)
HasTaken before after value (Err fault) =
    ((take_fault before value ≡ Some fault) ⊎ MayLack before fault) × (after ≡ before)

-- What it answers and tells.
abbrev pub HasGiven : Live → Live → ℕ → GivenRow → GivenRow → ℕ → Type 0
HasGiven before after value old new code =
    (taken : Result Given TakeFault) × HasTaken before after value taken × (new ≡ take_told taken old)
    × (code ≡ take_answer taken)

-- why a point isn't held
abbrev pub fault_of : Result Held ReferFault → Option ReferFault
fault_of (Ok held) = None
fault_of (Err fault) = Some fault

abbrev pub refer_fault : Live → ℕ → Option ReferFault
refer_fault t point = fault_of (refer_answer t point)

-- A reference is given back; or nobody holds the point, and nothing is changed.
abbrev pub HasReturned : Live → Live → ℕ → ℕ → Type 0
HasReturned before after point code =
    (((slot_at before.slots point).refs ≡ 0 → ⊥) × (after ≡ after_unref before point)
    × (code ≡ call_code call_as.Done))
    ⊎ (((slot_at before.slots point).refs ≡ 0) × (after ≡ before) × (code ≡ call_code call_as.NotHeld))

-- The operation is installed; or why not, and nothing is changed.
abbrev pub HasTriedInstall : Live → Given → Live → Option InstallFault → Type 0
HasTriedInstall t g u fault = (fault ≡ install_fault t g) × (u ≡ unless_refused fault t (after_install t))

abbrev pub HasInstalled : Live → Given → Live → GivenRow → GivenRow → ℕ → Type 0
HasInstalled t g u old new code =
    HasTriedInstall t g u (install_fault t g) × (new ≡ install_told (install_fault t g) old)
    × (code ≡ install_answer (install_fault t g))

-- The operation is taken back; or why not, and nothing is changed.
abbrev pub HasTriedCancel : Live → Given → Live → Option CancelFault → Type 0
HasTriedCancel t g u fault = (fault ≡ cancel_fault t g) × (u ≡ unless_refused fault t (after_cancel t g))

abbrev pub HasCancelled : Live → Given → Live → ℕ → Type 0
HasCancelled t g u code = HasTriedCancel t g u (cancel_fault t g) × (code ≡ cancel_answer (cancel_fault t g))

-- The first pending operation is completed, if there is one.
abbrev pub HasTriedComplete : Live → Live → Option Given → Type 0
HasTriedComplete t u first = (first ≡ first_pending t) × (u ≡ after_complete t)

abbrev pub HasCompleted : Live → Live → GivenRow → GivenRow → ℕ → Type 0
HasCompleted t u old new code =
    (u ≡ after_complete t) × (new ≡ given_told (first_pending t) old)
    × (code ≡ given_or (first_pending t) call_as.NothingPending)

-- The point is held; or why not, and nothing is changed.
abbrev pub HasTriedRefer : Live → ℕ → Live → Option ReferFault → Type 0
HasTriedRefer t p u fault = (fault ≡ refer_fault t p) × (u ≡ unless_refused fault t (after_refer t p))

abbrev pub HasReferred : Live → ℕ → Live → ℕ → Type 0
HasReferred t p u code = HasTriedRefer t p u (refer_fault t p) × (code ≡ refer_answer_code (refer_fault t p))

-- The host's value is set; or why not, and nothing is changed.
abbrev pub HasTriedSignal : Live → ℕ → Live → Option SignalFault → Type 0
HasTriedSignal t n u fault = (fault ≡ signal_fault t n) × (u ≡ unless_refused fault t (after_signal t n))

abbrev pub HasSignaled : Live → ℕ → Live → ℕ → ℕ → ℕ → Type 0
HasSignaled t n u old new code =
    HasTriedSignal t n u (signal_fault t n) × (new ≡ signal_told (signal_fault t n) old)
    × (code ≡ signal_answer (signal_fault t n))

-- A question, which changes nothing.
abbrev pub HasSought : Live → ℕ → Live → Found → Type 0
HasSought t n u f = (f ≡ found t n) × (u ≡ t)

abbrev pub HasFound : Live → ℕ → Live → GivenRow → GivenRow → ℕ → Type 0
HasFound t n u old new code = (u ≡ t) × (new ≡ find_told (found t n) old) × (code ≡ find_code (found t n))

abbrev pub IsFirst : Live → Live → Option Given → Type 0
IsFirst t u first = (first ≡ first_pending t) × (u ≡ t)

abbrev pub HasToldFirst : Live → Live → GivenRow → GivenRow → ℕ → Type 0
HasToldFirst t u old new code =
    (u ≡ t) × (new ≡ given_told (first_pending t) old) × (code ≡ given_or (first_pending t) call_as.NothingPending)

-- the taken operation of least value
abbrev pub least_taken : Live → Option Given
least_taken t = slice_get t.ops t.installed

abbrev pub IsLeastTaken : Live → Live → Option Given → Type 0
IsLeastTaken t u least = (least ≡ least_taken t) × (u ≡ t)

abbrev pub HasToldLeast : Live → Live → GivenRow → GivenRow → ℕ → Type 0
HasToldLeast t u old new code =
    (u ≡ t) × (new ≡ given_told (least_taken t) old) × (code ≡ given_or (least_taken t) call_as.NothingTaken)

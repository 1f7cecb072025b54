-- Signals that are left.
use Rattle.std.proofs.Common.{◌≡◌, ◌∙◌, Bool, true, false, List, [], ◌∷◌, cond, filter, refl, ap}
use Rattle.std.specs.Prelude.{not}
use Rattle.vq_capture.specs.declared.statement.Statement.{Statement}
use Rattle.vq_capture_check.specs.declared.signals.Signal.{Signal}
use Rattle.vq_capture_check.specs.declared.signals.SignalLine.{SignalLine}
use Rattle.vq_capture_check.specs.Watching.{SignalClock, ends_signal, without_ended}
use Rattle.vq_capture_check.specs.Watches.{signal_clock, signals_of}

pub signals_left : (said : Statement) (xs : List SignalLine) → signals_of (filter (λ x. not (ends_signal said x.signal)) xs) ≡ without_ended said (signals_of xs)
signals_left said [] = refl
signals_left said (x ∷ xs) = case (not (ends_signal said x.signal)) (signals_left said xs)
  where
    case : (b : Bool) → signals_of (filter (λ x. not (ends_signal said x.signal)) xs) ≡ without_ended said (signals_of xs) →
        signals_of (cond b (x ∷ filter (λ x. not (ends_signal said x.signal)) xs) (filter (λ x. not (ends_signal said x.signal)) xs))
        ≡ cond b (signal_clock x ∷ without_ended said (signals_of xs)) (without_ended said (signals_of xs))
    case true e = ap (λ (ys : List SignalClock). signal_clock x ∷ ys) e
    case false e = e

-- a line that ends no signal leaves all
pub all_left : (said : Statement) (xs : List SignalClock) → ((s : Signal) → ends_signal said s ≡ false) → without_ended said xs ≡ xs
all_left said [] h = refl
all_left said (x ∷ xs) h =
    ap (λ (b : Bool). cond (not b) (x ∷ without_ended said xs) (without_ended said xs)) (h x.signal)
    ∙ ap (λ (ys : List SignalClock). x ∷ ys) (all_left said xs h)

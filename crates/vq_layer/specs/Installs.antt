-- Installing and cancelling the operations of a batch.
use Rattle.std.specs.Prelude.{Bool, false, List, [], ◌∷◌, Option, None, Some, slice_set, nat_lt, length, if◌then◌else◌}
use Rattle.std.specs.List.{slice_get}
use Rattle.vq_live.specs.declared.answers.Given.{Given}
use Rattle.vq_live.specs.declared.answers.InstallFault.{InstallFault}
use Rattle.vq_live.specs.declared.answers.CancelFault.{CancelFault}
use Rattle.vq_live.specs.Live.{Live}
use Rattle.vq_live.specs.Calls.{install_fault, after_install, cancel_fault, after_cancel, is_same}
use Rattle.vq_layer.specs.declared.answers.Signal.{Signal}
use Rattle.vq_layer.specs.Layer.{live_at}

-- one operation, which stays taken where it may not be installed, or is gone
abbrev pub install_unless : Live → Option InstallFault → Live
install_unless t None = after_install t
install_unless t (Some fault) = t

abbrev pub install_in : List Live → Signal → List Live
install_in ts s =
    slice_set ts s.timeline
    (install_unless (live_at ts s.timeline) (install_fault (live_at ts s.timeline) s.given))

abbrev pub installed_all : List Live → List Signal → List Live
installed_all ts [] = ts
installed_all ts (s ∷ ss) = installed_all (install_in ts s) ss

abbrev pub cancel_unless : Live → Given → Option CancelFault → Live
cancel_unless t given None = after_cancel t given
cancel_unless t given (Some fault) = t

abbrev pub cancel_in : List Live → Signal → List Live
cancel_in ts s =
    slice_set ts s.timeline
    (cancel_unless (live_at ts s.timeline) s.given (cancel_fault (live_at ts s.timeline) s.given))

-- the last one is taken back first
abbrev pub cancelled_all : List Live → List Signal → List Live
cancelled_all ts [] = ts
cancelled_all ts (s ∷ ss) = cancel_in (cancelled_all ts ss) s

-- whether an operation is the next of its timeline to be installed
abbrev pub is_first : Option Given → Given → Bool
is_first None given = false
is_first (Some x) given = is_same x given

abbrev pub is_next : List Live → Signal → Bool
is_next ts s =
    if nat_lt s.timeline (length ts)
    then is_first (slice_get (live_at ts s.timeline).ops (live_at ts s.timeline).installed) s.given
    else false

-- the first that isn't
abbrev pub unless_next : Bool → Signal → Option Signal → Option Signal
unless_next next s later = if next then later else Some s

abbrev pub first_behind : List Live → List Signal → Option Signal
first_behind ts [] = None
first_behind ts (s ∷ ss) = unless_next (is_next ts s) s (first_behind ts ss)

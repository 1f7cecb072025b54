-- The codes by which answers cross to C: `c/codes` makes this file out of `c/live_codes.txt`.
use Rattle.std.specs.Prelude.{ℕ}
use Rattle.vq_live_c.specs.declared.reply.Reply.{Reply}
use Rattle.vq_live_c.specs.declared.reply.Reply.TheVariants as call_as
use Rattle.vq_live.specs.declared.answers.TakeFault.{TakeFault}
use Rattle.vq_live.specs.declared.answers.TakeFault.TheVariants as take_as
use Rattle.vq_live.specs.declared.answers.InstallFault.{InstallFault}
use Rattle.vq_live.specs.declared.answers.InstallFault.TheVariants as install_as
use Rattle.vq_live.specs.declared.answers.CancelFault.{CancelFault}
use Rattle.vq_live.specs.declared.answers.CancelFault.TheVariants as cancel_as
use Rattle.vq_live.specs.declared.answers.Found.{Found}
use Rattle.vq_live.specs.declared.answers.Found.TheVariants as find_as
use Rattle.vq_live.specs.declared.answers.ReferFault.{ReferFault}
use Rattle.vq_live.specs.declared.answers.ReferFault.TheVariants as refer_as
use Rattle.vq_live.specs.declared.answers.SignalFault.{SignalFault}
use Rattle.vq_live.specs.declared.answers.SignalFault.TheVariants as signal_as

-- what a call answers
abbrev pub call_code : Reply → ℕ
call_code call_as.Done = 0
call_code call_as.NoMemory = 1
call_code call_as.NoHandle = 2
call_code call_as.NothingTaken = 25
call_code call_as.NotHeld = 41
call_code call_as.NothingPending = 42

-- why no point was given
abbrev pub take_code : TakeFault → ℕ
take_code take_as.NoMemory = 1
take_code (take_as.NotAbove x) = 16
take_code take_as.Twice = 17
take_code take_as.Full = 18

-- why a point wasn't installed
abbrev pub install_code : InstallFault → ℕ
install_code install_as.Already = 24
install_code install_as.NothingTaken = 25
install_code (install_as.NotNext x) = 26

-- why an operation wasn't taken back
abbrev pub cancel_code : CancelFault → ℕ
cancel_code cancel_as.Already = 24
cancel_code cancel_as.NotTaken = 27

-- where a value stands
abbrev pub find_code : Found → ℕ
find_code find_as.Past = 32
find_code (find_as.Pending x) = 33
find_code find_as.NotYet = 34

-- why a point wasn't held
abbrev pub refer_code : ReferFault → ℕ
refer_code refer_as.Full = 18
refer_code refer_as.NotOut = 40

-- why a value wasn't set
abbrev pub signal_code : SignalFault → ℕ
signal_code (signal_as.NotAbove x) = 16
signal_code (signal_as.Outstanding x) = 43

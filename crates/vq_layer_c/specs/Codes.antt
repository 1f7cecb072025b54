-- The codes by which answers cross to C: `c/codes` makes this file out of `c/layer_codes.txt`.
use Rattle.std.specs.Prelude.{ℕ}
use Rattle.vq_layer_c.specs.declared.reply.Reply.{Reply}
use Rattle.vq_layer_c.specs.declared.reply.Reply.TheVariants as call_as

-- what a call answers
abbrev pub call_code : Reply → ℕ
call_code call_as.Done = 0
call_code call_as.NoMemory = 1
call_code call_as.NoHandle = 2
call_code call_as.NoQueue = 3
call_code call_as.NoTimeline = 4
call_code call_as.NoBatch = 5
call_code call_as.NoRoom = 6
call_code call_as.NotAbove = 16
call_code call_as.Twice = 17
call_code call_as.Full = 18
call_code call_as.TooManyWaits = 19
call_code call_as.Unsignaled = 20
call_code call_as.Signaled = 21
call_code call_as.Repeated = 22
call_code call_as.Past = 32
call_code call_as.Pending = 33
call_code call_as.NotYet = 34
call_code call_as.NotOut = 40
call_code call_as.NotHeld = 41
call_code call_as.NothingPending = 42
call_code call_as.Outstanding = 43
call_code call_as.NoBinary = 44
call_code call_as.InUse = 45
call_code call_as.Named = 46
call_code call_as.Held = 47
call_code call_as.Empty = 48
call_code call_as.Waits = 49
call_code call_as.Behind = 50
call_code call_as.Used = 51
call_code call_as.NoneReady = 52
call_code call_as.NothingReleased = 53
call_code call_as.Missing = 54

-- The codes by which turns and answers cross to C: `c/codes` makes this file out of `c/codes.txt`.
-- This project's own.
use Rattle.std.specs.Prelude.{ℕ}
use Rattle.vq_face.specs.declared.reply.Reply.{Reply}
use Rattle.vq_face.specs.declared.reply.Reply.TheVariants.{NoMemory, Done, Moved, Blocked, Ended, NoActor}
use Rattle.vq_face.specs.declared.reply.Reply.TheVariants.{NoOp, NoBuffer, Unfinished, NoRoom, NotHost, Shared}
use Rattle.vq_face.specs.declared.reply.Reply.TheVariants.{WrongKind, Closed, NoHandle}
use Rattle.vq_model.specs.declared.plan.Event.{Event}
use Rattle.vq_model.specs.declared.plan.Event.TheVariants.{Submit, Take, Release, Bind, Refer, Look}
use Rattle.vq_model.specs.declared.plan.Event.TheVariants.{Unref, Complete, Free, Start, Apply, Signal}
use Rattle.vq_model.specs.declared.plan.Event.TheVariants.{Finish, Answer as AnswerAs}
use Rattle.vq_turns.specs.declared.outcome.Want.{Want}
use Rattle.vq_turns.specs.declared.outcome.Want.TheVariants.{Submitted, Released, Bound, Next, Signaled, Finished}
use Rattle.vq_turns.specs.declared.outcome.Want.TheVariants.{MemoryTurn, Exchange, Listed}
use Rattle.vq_model.specs.declared.plan.Answer.{Answer}
use Rattle.vq_model.specs.declared.plan.Answer.TheVariants.{Reached, Timeout, NotReady, Value}

abbrev pub reply_code : Reply → ℕ
reply_code NoMemory = 1
reply_code Done = 0
reply_code Moved = 64
reply_code Blocked = 65
reply_code Ended = 66
reply_code NoActor = 80
reply_code NoOp = 82
reply_code NoBuffer = 83
reply_code Unfinished = 84
reply_code NoRoom = 85
reply_code NotHost = 86
reply_code Shared = 87
reply_code WrongKind = 88
reply_code Closed = 89
reply_code NoHandle = 90

abbrev pub event_code : Event → ℕ
event_code (Submit a) = 1
event_code (Take a b c) = 2
event_code (Release a) = 3
event_code (Bind a b) = 4
event_code (Refer a b c) = 5
event_code (Look a b c) = 6
event_code (Unref a b c) = 7
event_code (Complete a) = 8
event_code (Free a) = 9
event_code (Start a) = 10
event_code (Apply a b) = 11
event_code (Signal a) = 12
event_code (Finish a) = 13
event_code (AnswerAs a b) = 14

abbrev pub want_code : Want → ℕ
want_code (Submitted a) = 1
want_code (Released a) = 2
want_code (Bound a) = 3
want_code (Next a) = 4
want_code (Signaled a) = 5
want_code (Finished a) = 6
want_code MemoryTurn = 7
want_code (Exchange a b) = 8
want_code (Listed a) = 9

abbrev pub answer_code : Answer → ℕ
answer_code Reached = 1
answer_code Timeout = 2
answer_code NotReady = 3
answer_code (Value a) = 4

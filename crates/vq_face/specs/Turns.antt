-- What crosses to C of a turn. This project's own.
use Rattle.std.specs.Prelude.{ℕ, if◌then◌else◌}
use Rattle.vq_model.specs.declared.plan.Answer.{Answer}
use Rattle.vq_model.specs.declared.plan.Answer.TheVariants.{Value}
use Rattle.vq_model.specs.declared.plan.Event.{Event}
use Rattle.vq_model.specs.declared.plan.Event.TheVariants.{Submit, Take, Release, Bind, Refer, Look}
use Rattle.vq_model.specs.declared.plan.Event.TheVariants.{Unref, Complete, Free, Start, Apply, Signal}
use Rattle.vq_model.specs.declared.plan.Event.TheVariants.{Finish, Answer as AnswerAs}
use Rattle.vq_turns.specs.declared.outcome.Want.{Want}
use Rattle.vq_turns.specs.declared.outcome.Want.TheVariants.{Submitted, Released, Bound, Next, Signaled, Finished}
use Rattle.vq_turns.specs.declared.outcome.Want.TheVariants.{MemoryTurn, Exchange, Listed}
use Rattle.vq_turns.specs.declared.outcome.Outcome.{Outcome}
use Rattle.vq_turns.specs.declared.outcome.Outcome.TheVariants.{Moved as HasMoved, Blocked as IsBlocked}
use Rattle.vq_turns.specs.declared.outcome.Outcome.TheVariants.{Ended as HasEnded}
use Rattle.vq_face.specs.declared.reply.Reply.{Reply}
use Rattle.vq_face.specs.declared.reply.Reply.TheVariants.{Moved, Blocked, Ended}
use Rattle.vq_face.specs.declared.turn.Turn.{Turn}
use Rattle.vq_face.specs.Kinds.{answer_code, event_code, want_code}

-- the number of no job, operation, point or command
abbrev pub no_number : ℕ
no_number = 4294967295

abbrev pub blank : ℕ → Turn
blank kind =
    record {
      kind = kind;
      job = no_number;
      op = no_number;
      point = no_number;
      command = no_number;
      more = 0;
      value = 0;
    }

abbrev pub at_job : ℕ → ℕ → Turn
at_job kind j = record (blank kind) { job = j }

abbrev pub at_op : ℕ → ℕ → Turn
at_op kind e = record (blank kind) { op = e }

abbrev pub at_point : ℕ → ℕ → ℕ → Turn
at_point kind e q = record (at_op kind e) { point = q }

-- the payload that was read, 0 for another answer
abbrev pub answer_number : Answer → ℕ
answer_number (Value n) = n
answer_number other = 0

abbrev pub event_turn : Event → Turn
event_turn (Submit j) = at_job (event_code (Submit j)) j
event_turn (Take e q fresh) =
    record (at_point (event_code (Take e q fresh)) e q) { more = if fresh then 1 else 0 }
event_turn (Release j) = at_job (event_code (Release j)) j
event_turn (Bind e q) = at_point (event_code (Bind e q)) e q
event_turn (Refer a q e) = at_point (event_code (Refer a q e)) e q
event_turn (Look a q e) = at_point (event_code (Look a q e)) e q
event_turn (Unref a q e) = at_point (event_code (Unref a q e)) e q
event_turn (Complete e) = at_op (event_code (Complete e)) e
event_turn (Free q) = record (blank (event_code (Free q))) { point = q }
event_turn (Start j) = at_job (event_code (Start j)) j
event_turn (Apply j c) = record (at_job (event_code (Apply j c)) j) { command = c }
event_turn (Signal e) = at_op (event_code (Signal e)) e
event_turn (Finish j) = at_job (event_code (Finish j)) j
event_turn (AnswerAs j a) =
    record (at_job (event_code (AnswerAs j a)) j) { more = answer_code a; value = answer_number a }

abbrev pub want_turn : Want → Turn
want_turn (Submitted j) = at_job (want_code (Submitted j)) j
want_turn (Released j) = at_job (want_code (Released j)) j
want_turn (Bound e) = at_op (want_code (Bound e)) e
want_turn (Next e) = at_op (want_code (Next e)) e
want_turn (Signaled e) = at_op (want_code (Signaled e)) e
want_turn (Finished j) = at_job (want_code (Finished j)) j
want_turn MemoryTurn = blank (want_code MemoryTurn)
want_turn (Exchange e n) = at_op (want_code (Exchange e n)) e
want_turn (Listed e) = at_op (want_code (Listed e)) e

-- what a call answers that took a turn
abbrev pub reply_of : Outcome → Reply
reply_of (HasMoved event) = Moved
reply_of (IsBlocked want) = Blocked
reply_of HasEnded = Ended

-- what crosses of it; of one that has ended nothing, and what was there stays
abbrev pub told : Outcome → Turn → Turn
told (HasMoved event) before = event_turn event
told (IsBlocked want) before = want_turn want
told HasEnded before = before

-- What crosses to C of answers and of signal operations, and how much of it goes into a room. This project's own.
use Rattle.std.specs.Prelude.{ℕ, ◌≡◌, ◌++◌, List, ◌⊎◌, length, map, take, drop, nat_le, if◌then◌else◌}
use Rattle.std.specs.Prelude.{Option, Some, None}
use Rattle.std.specs.List.{slice_get}
use Rattle.vq_model.specs.declared.plan.AnswerLine.{AnswerLine}
use Rattle.vq_model.specs.declared.plan.Op.{Op}
use Rattle.vq_face.specs.declared.reply.Reply.{Reply}
use Rattle.vq_face.specs.declared.reply.Reply.TheVariants.{Done, NoOp, NoRoom}
use Rattle.vq_face.specs.declared.rows.AnswerRow.{AnswerRow}
use Rattle.vq_face.specs.declared.rows.OpRow.{OpRow}
use Rattle.vq_face.specs.Kinds.{answer_code, reply_code}
use Rattle.vq_face.specs.Turns.{answer_number}

-- Rooms

-- a room with as many items in front as go into it; the rest is as it was
abbrev pub with_front_of : {A : Type 0} → List A → List A → List A
with_front_of items room = take (length room) items ++ drop (length items) room

-- whether so many items go into so much room
abbrev pub fit_reply : ℕ → ℕ → Reply
fit_reply items room = if nat_le items room then Done else NoRoom

-- Items that are so stand in front of the room, as many as go in, and how many there are is told; or none were written,
-- for this reason, and room and number stay.
abbrev pub HasPut : {A : Type 0} → (List A → Type 0) → (Reply → Type 0) → List A → List A → ℕ → ℕ → ℕ → Type 0
HasPut {A} are why old new before needed code =
    ((items : List A) × are items × (new ≡ with_front_of items old) × (needed ≡ length items)
    × (code ≡ reply_code (fit_reply (length items) (length old))))
    ⊎ ((r : Reply) × why r × (new ≡ old) × (needed ≡ before) × (code ≡ reply_code r))

-- Answers

abbrev pub row_of : AnswerLine → AnswerRow
row_of x = record { line = x.line; kind = answer_code x.answer; value = answer_number x.answer }

abbrev pub rows_of : List AnswerLine → List AnswerRow
rows_of lines = map row_of lines

-- Signal operations

abbrev pub op_row : Op → OpRow
op_row o = record { chain = o.chain; index = o.index; job = o.job; line = o.line; value = o.value }

abbrev pub op_told : Option Op → OpRow → OpRow
op_told None before = before
op_told (Some o) before = op_row o

abbrev pub op_reply : Option Op → Reply
op_reply None = NoOp
op_reply (Some o) = Done

-- the operation with a number among these, if it is there
abbrev pub HasOp : List Op → ℕ → OpRow → OpRow → ℕ → Type 0
HasOp ops e before after code =
    let found : Option Op = slice_get ops e in
    (after ≡ op_told found before) × (code ≡ reply_code (op_reply found))

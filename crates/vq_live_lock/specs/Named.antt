-- A gauge, its pen, a bell and what shows a value or a note, as contracts name them. This project's own.
use Rattle.std.specs.Prelude.{ℕ, [], Option, ◌≡◌, ◌≤◌, ◌%◌, ◌^◌}
use Rattle.vq_live_lock.specs.declared.bell.Bell.{Bell}
use Rattle.vq_live_lock.specs.declared.bell.Heard.{Heard}
use Rattle.vq_live_lock.specs.declared.gauge.Gauge.{Gauge}
use Rattle.vq_live_lock.specs.declared.gauge.Note.{Note}
use Rattle.vq_live_lock.specs.declared.gauge.Pen.{Pen}
use Rattle.vq_live_lock.specs.declared.gauge.Reached.{Reached}
use Rattle.vq_live_lock.specs.Gauges.{reads, pen_at, note_at}
use Rattle.vq_live_lock.specs.Rings.{times}

-- the value that a gauge started with
abbrev pub initial_of : Gauge → ℕ
initial_of g = g.table.shared.key.initial

-- the pen is the gauge's, which has this value; it keeps this note, and knows of so many rings
abbrev pub IsPenOf : Gauge → Pen → ℕ → Option ℕ → ℕ → Type 0
IsPenOf g pen n least rings =
    (pen.seat.table_id ≡ g.table.shared.table_id) × (pen.seat.me ≡ (pen_at n least rings, [])) × (initial_of g ≤ n)

-- it shows that the gauge reached this value
abbrev pub Shows : Gauge → Reached → ℕ → Type 0
Shows g r n = (r.seat.table_id ≡ g.table.shared.table_id) × (r.seat.me ≡ (reads n, []))

-- the note is one at this gauge, for this value, since the bell was rung so often
abbrev pub IsNoteOf : Gauge → Note → ℕ → ℕ → Type 0
IsNoteOf g note value rings =
    (note.seat.table_id ≡ g.table.shared.table_id) × ((n : ℕ) × (note.seat.me ≡ (note_at n value rings, [])))

-- It is left for this value or for one below it, and has the number of rings of then, modulo 2^32.
abbrev pub IsLeft : Gauge → Note → ℕ → Type 0
IsLeft g note value =
    (least : ℕ) × (k : ℕ) × IsNoteOf g note least k × (least ≤ value) × (note.rings ≡ k % 2 ^ 32)

-- it knows that the bell was rung at least so often
abbrev pub IsHeardOf : Bell → Heard → ℕ → Type 0
IsHeardOf b h k = (h.seat.table_id ≡ b.table.shared.table_id) × (h.seat.me ≡ (times k, []))

-- An ending in words, and how the words go into a room. This project's own.
use Rattle.std.specs.Prelude.{ℕ, ◌≡◌, ◌++◌, List, length, take, drop, codes}
use Rattle.vq_model.specs.Refusals.{too_long, line_refusal, plan_refusal, order_refusal}
use Rattle.vq_messages.specs.Mends.{mend_of_size, mend_of_line, mend_of_plan, mend_of_order}
use Rattle.vq_face.specs.declared.ending.Ending.{Ending}
use Rattle.vq_face.specs.declared.ending.Ending.TheVariants.{Lawful, NoMemory, TooLong, FaultyLine, NoPlan, Unlawful}
use Rattle.vq_face.specs.declared.verdict.Verdict.{Verdict}
use Rattle.vq_face.specs.Endings.{IsEnding}
use Rattle.vq_face.specs.Verdicts.{verdict_of}

-- a refusal, and what mends it
abbrev pub with_mend : List ℕ → List ℕ → List ℕ
with_mend refusal mend = refusal ++ codes "mend: " ++ mend

abbrev pub explanation : Ending → List ℕ
explanation Lawful = codes "lawful\n"
explanation NoMemory = codes "no memory\n"
explanation TooLong = with_mend too_long mend_of_size
explanation (FaultyLine line kind) = with_mend (line_refusal line kind) (mend_of_line kind)
explanation (NoPlan fault) = with_mend (plan_refusal fault) (mend_of_plan fault)
explanation (Unlawful fault) = with_mend (order_refusal fault) (mend_of_order fault)

-- A room with as many bytes of a text in front as go into it; the rest is as it was.
abbrev pub with_front : List ℕ → List ℕ → List ℕ
with_front text room = take (length room) text ++ drop (length text) room

-- The words of what the check of the text ends with stand in front of the room, and the number says how many there
-- are.
abbrev pub IsExplained : List ℕ → List ℕ → List ℕ → ℕ → Verdict → Type 0
IsExplained text old new needed v =
    (e : Ending) × IsEnding text e × (v ≡ verdict_of e) × (needed ≡ length (explanation e))
    × (new ≡ with_front (explanation e) old)

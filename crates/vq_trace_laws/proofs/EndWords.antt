-- The words of the lines of answers and of buffers. The format is this project's own.
use Rattle.std.specs.Prelude.{ℕ, List, [], ◌∷◌, ◌+◌, ◌++◌, ◌/◌, ◌*◌, codes, length, map}
use Rattle.std.specs.Fmt.{decimal}
use Rattle.std.specs.List.{flat_map, range_with_len, slice_range}
use Rattle.vq_model.specs.declared.plan.AnswerLine.{AnswerLine}
use Rattle.vq_model.specs.declared.script.Buffer.{Buffer}
use Rattle.vq_model.specs.Memory.{Memory}
use Rattle.vq_model.specs.OutputText.{hex_byte, lines_answered}
use Rattle.vq_model.specs.Machine.{State}
use Rattle.vq_model.specs.SlowRun.{bytes_after}
use Rattle.vq_model.specs.Plan.{Plan}
use Rattle.vq_trace_laws.proofs.SaidWords.{answer_parts}

abbrev pub answer_line_parts : AnswerLine → List (List ℕ)
answer_line_parts x = decimal x.line ∷ answer_parts x.answer

-- one word for sixteen bytes, or for the rest
abbrev pub hex_parts : List ℕ → ℕ → List (List ℕ)
hex_parts bytes row = flat_map hex_byte (slice_range bytes (16 * row) (16 * row + 16)) ∷ []

abbrev pub buffer_parts : Buffer → List ℕ → List (List (List ℕ))
buffer_parts b bytes =
    (codes "buffer" ∷ b.name ∷ decimal b.size ∷ [])
    ∷ map (hex_parts bytes) (range_with_len 0 ((length bytes + 15) / 16))

abbrev pub all_buffer_parts : List Buffer → Memory → List (List (List ℕ))
all_buffer_parts [] m = []
all_buffer_parts (b ∷ bs) [] = buffer_parts b [] ++ all_buffer_parts bs []
all_buffer_parts (b ∷ bs) (bytes ∷ m) = buffer_parts b bytes ++ all_buffer_parts bs m

-- the lines of the answers and of the buffers of a state
abbrev pub rest_parts : Plan → State → List (List (List ℕ))
rest_parts p s =
    map answer_line_parts (lines_answered p s)
    ++ (all_buffer_parts p.script.buffers (bytes_after p s.progress.applied) ++ (codes "end" ∷ []) ∷ [])

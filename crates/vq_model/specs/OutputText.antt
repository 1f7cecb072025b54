-- The text of answers and of buffers. The format is this project's own.
use Rattle.std.specs.Prelude.{ℕ, List, [], ◌∷◌, ◌+◌, ◌++◌, codes, length, nat_lt, if◌then◌else◌}
use Rattle.std.specs.Prelude.{◌/◌, ◌%◌, ◌*◌}
use Rattle.std.specs.Fmt.{decimal}
use Rattle.std.specs.List.{flat_map, range_with_len, filter_map, slice_range}
use Rattle.std.specs.Option.{option_map}
use Rattle.vq_model.specs.declared.plan.Answer.{Answer}
use Rattle.vq_model.specs.declared.plan.Answer.TheVariants.{Reached, Timeout, NotReady, Value}
use Rattle.vq_model.specs.declared.plan.AnswerLine.{AnswerLine}
use Rattle.vq_model.specs.declared.script.Buffer.{Buffer}
use Rattle.vq_model.specs.Plan.{Plan, line_of_job}
use Rattle.vq_model.specs.Machine.{State}
use Rattle.vq_model.specs.Memory.{Memory}

-- Answers

abbrev pub line_feed : List ℕ
line_feed = 10 ∷ []

abbrev pub answer_words : Answer → List ℕ
answer_words Reached = codes "ok"
answer_words Timeout = codes "timeout"
answer_words NotReady = codes "not-ready"
answer_words (Value n) = codes "value " ++ decimal n

-- a line of the text of answers
abbrev pub answer_line : AnswerLine → List ℕ
answer_line x = decimal x.line ++ codes " " ++ answer_words x.answer ++ line_feed

abbrev pub answer_text : List AnswerLine → List ℕ
answer_text xs = flat_map answer_line xs

-- the answer of a job with the job's line
abbrev pub answer_at : Plan → ℕ → Answer → AnswerLine
answer_at p j a = record { line = line_of_job p j; answer = a }

-- the answers of a state, in the order of the script
abbrev pub lines_answered : Plan → State → List AnswerLine
lines_answered p s =
    filter_map (λ j. option_map (answer_at p j) (s.answer j)) (range_with_len 0 (length p.jobs))

abbrev pub answers_of : Plan → State → List ℕ
answers_of p s = answer_text (lines_answered p s)

-- Buffers

-- a lower-case hexadecimal digit
abbrev pub hex_digit : ℕ → ℕ
hex_digit d = if nat_lt d 10 then 48 + d else 87 + d

abbrev pub hex_byte : ℕ → List ℕ
hex_byte b = hex_digit (b / 16) ∷ hex_digit (b % 16) ∷ []

-- line number `row` of bytes, sixteen to a line
abbrev pub hex_line : List ℕ → ℕ → List ℕ
hex_line bytes row = flat_map hex_byte (slice_range bytes (16 * row) (16 * row + 16)) ++ line_feed

-- sixteen bytes to a line, the last line with the rest
abbrev pub hex_lines : List ℕ → List ℕ
hex_lines bytes = flat_map (hex_line bytes) (range_with_len 0 ((length bytes + 15) / 16))

abbrev pub buffer_text : Buffer → List ℕ → List ℕ
buffer_text b bytes =
    codes "buffer " ++ b.name ++ codes " " ++ decimal b.size ++ line_feed ++ hex_lines bytes

abbrev pub all_buffers : List Buffer → Memory → List ℕ
all_buffers [] m = []
all_buffers (b ∷ bs) [] = buffer_text b [] ++ all_buffers bs []
all_buffers (b ∷ bs) (bytes ∷ m) = buffer_text b bytes ++ all_buffers bs m

abbrev pub buffers_text : List Buffer → Memory → List ℕ
buffers_text bs m = all_buffers bs m ++ codes "end" ++ line_feed

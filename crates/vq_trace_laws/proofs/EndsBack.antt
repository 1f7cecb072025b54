-- The text of answers and of buffers is one of lines of words.
use Rattle.std.proofs.Common.{◌≡◌, ℕ, zero, suc, ◌<◌, ◌≤◌, ◌^◌, ◌+◌, ◌*◌, ◌/◌, ◌%◌, ◌==◌, not, Bool, true, false, List, [], ◌∷◌, ◌++◌, length, map, Option, Some, None}
use Rattle.std.proofs.Common.{option_map, refl, sym, ap, ◌∙◌, arith, codes, append_assoc, ne_eqb, take, drop, ◌-◌}
use Rattle.std.specs.Prelude.{nat_lt, nat_le, if◌then◌else◌}
use Rattle.std.specs.Fmt.{decimal}
use Rattle.std.specs.List.{slice_get, list_all, flat_map, filter_map, cons_option, sum_by, range_with_len, slice_range, join_with_byte}
use Rattle.std.proofs.lemmas.Bool.{and_from, lt-ltb, le-leb}
use Rattle.std.proofs.lemmas.Grind.{flat_map-append}
use Rattle.std.proofs.lemmas.List.Folds.{list_all-append}
use Rattle.std.proofs.lemmas.List.Sums.{sum_by-cons, sum-map}
use Rattle.vq_model.specs.declared.script.Buffer.{Buffer}
use Rattle.vq_model.specs.declared.plan.Answer.{Answer as Answered}
use Rattle.vq_model.specs.declared.plan.Answer.TheVariants.{Reached, Timeout, NotReady, Value}
use Rattle.vq_model.specs.declared.plan.AnswerLine.{AnswerLine}
use Rattle.vq_model.specs.Canonical.{line_text}
use Rattle.vq_model.specs.LoweredPlans.{IsPlan}
use Rattle.vq_model.specs.Machine.{State}
use Rattle.vq_model.specs.Memory.{Memory}
use Rattle.vq_model.specs.OutputText.{answer_words, answer_line, answer_text, answer_at, answers_of, lines_answered, line_feed}
use Rattle.vq_model.specs.OutputText.{hex_digit, hex_byte, hex_line, hex_lines, buffer_text, all_buffers, buffers_text}
use Rattle.vq_model.specs.Plan.{Plan}
use Rattle.vq_model.specs.SlowRun.{bytes_after}
use Rattle.vq_model.specs.Text.{is_name}
use Rattle.vq_reading_laws.proofs.Cited.{read_valid}
use Rattle.vq_canonical_laws.proofs.Cited.{is_kept_byte, are_kept_words, text_to_kept, name_word, read_names}
use Rattle.vq_trace_laws.specs.ReadsBack.{HasSmallLines}
use Rattle.vq_trace_laws.proofs.SaidWords.{answer_parts, IsSmallAnswer}
use Rattle.vq_trace_laws.proofs.EndWords.{answer_line_parts, hex_parts, buffer_parts, all_buffer_parts, rest_parts}
use Rattle.vq_trace_laws.proofs.TurnsBack.{answer_kept, decimal_kept, kept_on}

-- Answers

-- a line of an answer
answer_spelled : (x : AnswerLine) → answer_line x ≡ line_text (answer_line_parts x)
answer_spelled x =
    ap (λ (xs : List ℕ). xs ++ line_feed)
    (append_assoc (decimal x.line) (codes " ") (answer_words x.answer) ∙ by_answer x.answer)
  where
    by_answer : (r : Answered) → decimal x.line ++ (codes " " ++ answer_words r)
        ≡ join_with_byte 32 (decimal x.line ∷ answer_parts r)
    by_answer Reached = refl
    by_answer Timeout = refl
    by_answer NotReady = refl
    by_answer (Value n) = refl

answers_spelled : (xs : List AnswerLine) → answer_text xs ≡ flat_map line_text (map answer_line_parts xs)
answers_spelled [] = refl
answers_spelled (x ∷ xs) = λ i. answer_spelled x i ++ answers_spelled xs i

-- Buffers

hex_spelled : (bytes rows : List ℕ) → flat_map (hex_line bytes) rows ≡ flat_map line_text (map (hex_parts bytes) rows)
hex_spelled bytes [] = refl
hex_spelled bytes (row ∷ rows) = ap (λ (xs : List ℕ). hex_line bytes row ++ xs) (hex_spelled bytes rows)

buffer_spelled : (b : Buffer) (bytes : List ℕ) → buffer_text b bytes ≡ flat_map line_text (buffer_parts b bytes)
buffer_spelled b bytes =
    (λ i. (codes "buffer " ++ append_assoc b.name (codes " ") (decimal b.size) i ++ line_feed) ++ hex_lines bytes)
    ∙ ap (λ (xs : List ℕ). line_text (codes "buffer" ∷ b.name ∷ decimal b.size ∷ []) ++ xs)
    (hex_spelled bytes (range_with_len 0 ((length bytes + 15) / 16)))

-- one list of lines before another
pub spelled_both : (xs ys : List (List (List ℕ))) (a b : List ℕ) → a ≡ flat_map line_text xs → b ≡ flat_map line_text ys →
    a ++ b ≡ flat_map line_text (xs ++ ys)
spelled_both xs ys a b e f = (λ i. e i ++ f i) ∙ sym (flat_map-append line_text xs ys)

all_spelled : (bs : List Buffer) (m : Memory) → all_buffers bs m ≡ flat_map line_text (all_buffer_parts bs m)
all_spelled [] m = refl
all_spelled (b ∷ bs) [] =
    spelled_both (buffer_parts b []) (all_buffer_parts bs []) (buffer_text b []) (all_buffers bs []) (buffer_spelled b [])
    (all_spelled bs [])
all_spelled (b ∷ bs) (bytes ∷ m) =
    spelled_both (buffer_parts b bytes) (all_buffer_parts bs m) (buffer_text b bytes) (all_buffers bs m)
    (buffer_spelled b bytes) (all_spelled bs m)

-- The text of the answers and the buffers of a state is that of their lines.
pub rest_spelled : (p : Plan) (s : State) →
    answers_of p s ++ buffers_text p.script.buffers (bytes_after p s.progress.applied)
    ≡ flat_map line_text (rest_parts p s)
rest_spelled p s =
    spelled_both (map answer_line_parts (lines_answered p s))
    (all_buffer_parts p.script.buffers m ++ (codes "end" ∷ []) ∷ [])
    (answers_of p s) (buffers_text p.script.buffers m) (answers_spelled (lines_answered p s))
    (append_assoc (all_buffers p.script.buffers m) (codes "end") line_feed
    ∙ spelled_both (all_buffer_parts p.script.buffers m) ((codes "end" ∷ []) ∷ []) (all_buffers p.script.buffers m)
    (codes "end" ++ line_feed) (all_spelled p.script.buffers m) refl)
  where
    m : Memory
    m = bytes_after p s.progress.applied

-- Words

-- a hexadecimal digit stays in its word
digit_kept : (d : ℕ) → is_kept_byte (hex_digit d) ≡ true
digit_kept d = by_test (nat_lt d 10)
  where
    byte : (b : ℕ) → 48 ≤ b → is_kept_byte b ≡ true
    byte b l =
        and_from (nat_le 33 b) (not (b == 35)) (le-leb 33 b (omega arith)) (ap not (ne_eqb b 35 (λ e. omega arith)))

    by_test : (t : Bool) → is_kept_byte (if t then 48 + d else 87 + d) ≡ true
    by_test true = byte (48 + d) (omega arith)
    by_test false = byte (87 + d) (omega arith)

digits_kept : (bytes : List ℕ) → list_all is_kept_byte (flat_map hex_byte bytes) ≡ true
digits_kept [] = refl
digits_kept (b ∷ bytes) =
    and_from (is_kept_byte (hex_digit (b / 16))) (list_all is_kept_byte (hex_digit (b % 16) ∷ flat_map hex_byte bytes))
    (digit_kept (b / 16))
    (and_from (is_kept_byte (hex_digit (b % 16))) (list_all is_kept_byte (flat_map hex_byte bytes))
    (digit_kept (b % 16)) (digits_kept bytes))

-- bytes from a place on that exists
some_bytes : (bytes : List ℕ) (k n : ℕ) → k < length bytes → 0 < n → 0 < length (flat_map hex_byte (take n (drop k bytes)))
some_bytes [] k n l m = absurd (omega arith)
some_bytes (b ∷ bytes) k zero l m = absurd (omega arith)
some_bytes (b ∷ bytes) zero (suc n) l m = omega arith
some_bytes (b ∷ bytes) (suc k) (suc n) l m = some_bytes bytes k (suc n) (omega arith) (omega arith)

hex_kept : (bytes : List ℕ) (row : ℕ) → 16 * row < length bytes → are_kept_words (hex_parts bytes row) ≡ true
hex_kept bytes row l =
    let part = slice_range bytes (16 * row) (16 * row + 16) in
    kept_on (flat_map hex_byte part) []
    (and_from (nat_lt 0 (length (flat_map hex_byte part))) (list_all is_kept_byte (flat_map hex_byte part))
    (lt-ltb 0 (length (flat_map hex_byte part))
    (some_bytes bytes (16 * row) (16 * row + 16 - 16 * row) l (omega arith)))
    (digits_kept part))
    refl

rows_kept : (bytes : List ℕ) (a n : ℕ) → 16 * (a + n) < length bytes + 16 →
    list_all are_kept_words (map (hex_parts bytes) (range_with_len a n)) ≡ true
rows_kept bytes a zero l = refl
rows_kept bytes a (suc n) l =
    and_from (are_kept_words (hex_parts bytes a)) (list_all are_kept_words (map (hex_parts bytes) (range_with_len (a + 1) n)))
    (hex_kept bytes a (omega arith)) (rows_kept bytes (a + 1) n (omega arith))

-- buffers with names and sizes that a line can hold
abbrev AreSaid : List Buffer → Type 0
AreSaid [] = Unit {0}
AreSaid (b ∷ bs) = (is_name b.name ≡ true) × (b.size < 2 ^ 64) × AreSaid bs

buffers_said : (bs : List Buffer) → ((k : ℕ) (b : Buffer) → slice_get bs k ≡ Some b → is_name b.name ≡ true) →
    sum_by (λ b. b.size) bs < 2 ^ 64 → AreSaid bs
buffers_said [] f l = tt
buffers_said (b ∷ bs) f l =
    let both = sum_by-cons (λ (x : Buffer). x.size) b bs in
    (f 0 b refl, omega arith, buffers_said bs (λ k c e. f (suc k) c e) (omega arith))

buffer_kept : (b : Buffer) (bytes : List ℕ) → is_name b.name ≡ true → b.size < 2 ^ 64 →
    list_all are_kept_words (buffer_parts b bytes) ≡ true
buffer_kept b bytes named l =
    and_from (are_kept_words (codes "buffer" ∷ b.name ∷ decimal b.size ∷ []))
    (list_all are_kept_words (map (hex_parts bytes) (range_with_len 0 ((length bytes + 15) / 16))))
    (kept_on (codes "buffer") (b.name ∷ decimal b.size ∷ []) refl
    (kept_on b.name (decimal b.size ∷ []) (text_to_kept b.name (name_word b.name named))
    (kept_on (decimal b.size) [] (decimal_kept b.size l) refl)))
    (rows_kept bytes 0 ((length bytes + 15) / 16) (omega arith))

kept_both : (xs ys : List (List (List ℕ))) → list_all are_kept_words xs ≡ true → list_all are_kept_words ys ≡ true →
    list_all are_kept_words (xs ++ ys) ≡ true
kept_both xs ys h k =
    list_all-append are_kept_words xs ys ∙ and_from (list_all are_kept_words xs) (list_all are_kept_words ys) h k

all_kept : (bs : List Buffer) (m : Memory) → AreSaid bs → list_all are_kept_words (all_buffer_parts bs m) ≡ true
all_kept [] m s = refl
all_kept (b ∷ bs) [] s =
    kept_both (buffer_parts b []) (all_buffer_parts bs []) (buffer_kept b [] s.0 s.1) (all_kept bs [] s.2)
all_kept (b ∷ bs) (bytes ∷ m) s =
    kept_both (buffer_parts b bytes) (all_buffer_parts bs m) (buffer_kept b bytes s.0 s.1) (all_kept bs m s.2)

module _ (p : Plan) (small : HasSmallLines p) (s : State)
    (answers : (j : ℕ) (a : Answered) → s.answer j ≡ Some a → IsSmallAnswer a) where
  answers_kept : (js : List ℕ) →
      list_all are_kept_words (map answer_line_parts (filter_map (λ j. option_map (answer_at p j) (s.answer j)) js)) ≡ true
  answers_kept [] = refl
  answers_kept (j ∷ js) = by_answer (s.answer j) refl (answers_kept js)
    where
      others : List AnswerLine
      others = filter_map (λ j. option_map (answer_at p j) (s.answer j)) js

      by_answer : (o : Option Answered) → s.answer j ≡ o → list_all are_kept_words (map answer_line_parts others) ≡ true →
          list_all are_kept_words (map answer_line_parts (cons_option (option_map (answer_at p j) o) others)) ≡ true
      by_answer None e h = h
      by_answer (Some a) e h =
          and_from (are_kept_words (answer_line_parts (answer_at p j a)))
          (list_all are_kept_words (map answer_line_parts others))
          (kept_on (decimal _) (answer_parts a) (decimal_kept _ (small.jobs j)) (answer_kept a (answers j a e))) h

  -- The lines of the answers and the buffers are of words.
  pub rest_kept : IsPlan p → list_all are_kept_words (rest_parts p s) ≡ true
  rest_kept is =
      let bytes = (read_valid p.script is.of_script).limits.bytes in
      let same = sum-map (λ (b : Buffer). b.size) p.script.buffers in
      kept_both (map answer_line_parts (lines_answered p s))
      (all_buffer_parts p.script.buffers (bytes_after p s.progress.applied) ++ (codes "end" ∷ []) ∷ [])
      (answers_kept (range_with_len 0 (length p.jobs)))
      (kept_both (all_buffer_parts p.script.buffers (bytes_after p s.progress.applied)) ((codes "end" ∷ []) ∷ [])
      (all_kept p.script.buffers (bytes_after p s.progress.applied)
      (buffers_said p.script.buffers (read_names p.script is.of_script).buffers.names (omega arith)))
      refl)

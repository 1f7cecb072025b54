-- The text of each generated script is far shorter than an input may be.
use Rattle.std.proofs.Common.{ℕ, zero, suc, ◌≡◌, ◌<◌, ◌≤◌, ◌+◌, ◌-◌, ◌*◌, ◌%◌, List, [], ◌∷◌, ◌++◌, length, length-append, map, flat_map, codes, ap, ◌∙◌, arith}
use Rattle.std.specs.List.{AllByRecursion as Every, range_with_len, join_with_byte}
use Rattle.std.specs.Fmt.{decimal}
use Rattle.std.proofs.lemmas.Fmt.{length-decimal-le}
use Rattle.std.proofs.lemmas.List.{length-map}
use Rattle.std.proofs.lemmas.Grind.{flat_map-append}
use Rattle.vq_ground.proofs.Every.{every_append}
use Rattle.vq_model.specs.declared.script.Job.{Job}
use Rattle.vq_model.specs.Canonical.{line_text, wait_words, signal_words, command_words, job_words, canonical_lines, canonical_text, buffer_words, semaphore_words, queue_words}
use Rattle.vq_model.specs.Naming.{buffer_name, queue_name}
use Rattle.vq_generator.specs.Generated.{buffer_names, timeline_names, queue_names, small_buffer, timeline_from_zero, threaded_queue, generated_script, generated_round, generated_batch, mark_at, others, buffer_in_round, copy_of_round, fill_of_round}
use Rattle.vq_generator.proofs.GeneratedScripts.{others_below, few_others, batches_counted}

-- Lines

-- at most six words of at most ten bytes
record IsShortLine (words : List (List ℕ)) : Type 0 where
  few : length words ≤ 6
  short : Every (λ word. length word ≤ 10) words

joined_short : (words : List (List ℕ)) → Every (λ word. length word ≤ 10) words →
    length (join_with_byte 32 words) ≤ 11 * length words
joined_short [] h = omega arith
joined_short (word ∷ []) h = let l = h.0 in omega arith
joined_short (word ∷ next ∷ words) h =
    let l = h.0 in
    let rest = joined_short (next ∷ words) h.1 in
    let e = length-append word (32 ∷ join_with_byte 32 (next ∷ words)) in
    omega arith

line_short : (words : List (List ℕ)) → IsShortLine words → length (line_text words) ≤ 67
line_short words h =
    let few = h.few in
    let joined = joined_short words h.short in
    let e = length-append (join_with_byte 32 words) (10 ∷ []) in
    omega arith

-- a text as short as so many such lines make
abbrev AreShort : ℕ → List (List (List ℕ)) → Type 0
AreShort k lines = length (flat_map line_text lines) ≤ 67 * k

both_short : (j k : ℕ) (xs ys : List (List (List ℕ))) → AreShort j xs → AreShort k ys →
    AreShort (j + k) (xs ++ ys)
both_short j k xs ys h g =
    let both : length (flat_map line_text (xs ++ ys))
    ≡ length (flat_map line_text xs) + length (flat_map line_text ys) =
    ap length (flat_map-append line_text xs ys)
    ∙ length-append (flat_map line_text xs) (flat_map line_text ys) in
    omega arith

lines_short : (lines : List (List (List ℕ))) → Every IsShortLine lines → AreShort (length lines) lines
lines_short [] h = omega arith
lines_short (line ∷ lines) h =
    let l = line_short line h.0 in
    let rest = lines_short lines h.1 in
    let e = length-append (line_text line) (flat_map line_text lines) in
    omega arith

-- Words

number_short : (k : ℕ) → k < 10000 → length (decimal k) ≤ 10
number_short k l = let few = length-decimal-le 4 k (omega arith) (omega arith) (omega arith) in omega arith

buffer_short : (n b : ℕ) → b < 8 → length (buffer_name (generated_script n) b) ≤ 10
buffer_short n zero l = omega arith
buffer_short n (suc zero) l = omega arith
buffer_short n (suc (suc zero)) l = omega arith
buffer_short n (suc (suc (suc zero))) l = omega arith
buffer_short n (suc (suc (suc (suc zero)))) l = omega arith
buffer_short n (suc (suc (suc (suc (suc zero))))) l = omega arith
buffer_short n (suc (suc (suc (suc (suc (suc zero)))))) l = omega arith
buffer_short n (suc (suc (suc (suc (suc (suc (suc zero))))))) l = omega arith
buffer_short n (suc (suc (suc (suc (suc (suc (suc (suc b)))))))) l = absurd (omega arith)

-- three words, the last one a number
three_short : (a b : List ℕ) (k : ℕ) → length a ≤ 10 → length b ≤ 10 → k < 10000 →
    IsShortLine (a ∷ b ∷ decimal k ∷ [])
three_short a b k ha hb l = record { few = omega arith; short = (ha, (hb, (number_short k l, tt))) }

-- The lines of a batch

wait_short : (n value t : ℕ) → value < 10000 → t < 4 →
    IsShortLine (wait_words (generated_script n) (mark_at value t))
wait_short n value zero v l = three_short _ _ value (omega arith) (omega arith) v
wait_short n value (suc zero) v l = three_short _ _ value (omega arith) (omega arith) v
wait_short n value (suc (suc zero)) v l = three_short _ _ value (omega arith) (omega arith) v
wait_short n value (suc (suc (suc zero))) v l = three_short _ _ value (omega arith) (omega arith) v
wait_short n value (suc (suc (suc (suc t)))) v l = absurd (omega arith)

signal_short : (n value t : ℕ) → value < 10000 → t < 4 →
    IsShortLine (signal_words (generated_script n) (mark_at value t))
signal_short n value zero v l = three_short _ _ value (omega arith) (omega arith) v
signal_short n value (suc zero) v l = three_short _ _ value (omega arith) (omega arith) v
signal_short n value (suc (suc zero)) v l = three_short _ _ value (omega arith) (omega arith) v
signal_short n value (suc (suc (suc zero))) v l = three_short _ _ value (omega arith) (omega arith) v
signal_short n value (suc (suc (suc (suc t)))) v l = absurd (omega arith)

waits_short : (n value : ℕ) (ts : List ℕ) → value < 10000 → Every (λ t. t < 4) ts →
    Every IsShortLine (map (wait_words (generated_script n)) (map (mark_at value) ts))
waits_short n value [] v h = tt
waits_short n value (t ∷ ts) v h = (wait_short n value t v h.0, waits_short n value ts v h.1)

copy_short : (n r q : ℕ) → q < 4 → IsShortLine (command_words (generated_script n) (copy_of_round r q))
copy_short n r q l =
    let source = buffer_short n (buffer_in_round (r - 1) ((q + 1) % 4)) (omega arith) in
    let target = buffer_short n (buffer_in_round r q) (omega arith) in
    let zero_short = number_short 0 (omega arith) in
    let size = number_short 64 (omega arith) in
    record {
      few = omega arith;
      short = (omega arith, (source, (zero_short, (target, (zero_short, (size, tt))))));
    }

fill_short : (n r q : ℕ) → q < 4 → IsShortLine (command_words (generated_script n) (fill_of_round r q))
fill_short n r q l =
    let target = buffer_short n (buffer_in_round r q) (omega arith) in
    let offset = number_short (4 * (r % 16)) (omega arith) in
    let size = number_short 4 (omega arith) in
    record {
      few = omega arith;
      short = (omega arith, (target, (offset, (size, (omega arith, tt)))));
    }

submit_short : (n q : ℕ) → q < 4 → IsShortLine (codes "submit" ∷ queue_name (generated_script n) q ∷ [])
submit_short n zero l = record { few = omega arith; short = (omega arith, (omega arith, tt)) }
submit_short n (suc zero) l = record { few = omega arith; short = (omega arith, (omega arith, tt)) }
submit_short n (suc (suc zero)) l = record { few = omega arith; short = (omega arith, (omega arith, tt)) }
submit_short n (suc (suc (suc zero))) l = record { few = omega arith; short = (omega arith, (omega arith, tt)) }
submit_short n (suc (suc (suc (suc q)))) l = absurd (omega arith)

end_short : IsShortLine (codes "end" ∷ [])
end_short = record { few = omega arith; short = (omega arith, tt) }

-- 21 lines at most
abbrev IsShortJob : ℕ → Job → Type 0
IsShortJob n job = AreShort 21 (job_words (generated_script n) job)

batch_short : (n r q : ℕ) → r ≤ 500 → q < 4 → IsShortJob n (generated_batch r q)
batch_short n r q last l =
    let s = generated_script n in
    let marks = map (mark_at (r - 1)) (others q) in
    let begins = (codes "submit" ∷ queue_name s q ∷ []) ∷ map (wait_words s) marks in
    let commands = command_words s (copy_of_round r q) ∷ command_words s (fill_of_round r q) ∷ [] in
    let signals = signal_words s (mark_at r q) ∷ [] in
    let ends = (codes "end" ∷ []) ∷ [] in
    let few = few_others r q in
    let same = length-map marks (wait_words s) in
    let begun = lines_short begins
    (submit_short n q l, waits_short n (r - 1) (others q) (omega arith) (others_below q)) in
    let begins_short : AreShort 17 begins = omega arith in
    both_short 20 1 (begins ++ commands ++ signals ++ []) ends
    (both_short 20 0 (begins ++ commands ++ signals) []
    (both_short 19 1 (begins ++ commands) signals
    (both_short 17 2 begins commands begins_short
    (lines_short commands (copy_short n r q l, (fill_short n r q l, tt))))
    (lines_short signals (signal_short n r q (omega arith) l, tt)))
    (omega arith))
    (lines_short ends (end_short, tt))

round_short : (n r : ℕ) → r ≤ 500 → Every (IsShortJob n) (generated_round r)
round_short n r last = (
  batch_short n r 0 last (omega arith),
  (
    batch_short n r 1 last (omega arith),
    (batch_short n r 2 last (omega arith), (batch_short n r 3 last (omega arith), tt)),
  ),
)

-- The rounds

rounds_short : (n a m : ℕ) → a + m ≤ 501 →
    Every (IsShortJob n) (flat_map generated_round (range_with_len a m))
rounds_short n a zero last = tt
rounds_short n a (suc m) last =
    every_append (IsShortJob n) (generated_round a) (flat_map generated_round (range_with_len (a + 1) m))
    (round_short n a (omega arith)) (rounds_short n (a + 1) m (omega arith))

jobs_short : (n : ℕ) (jobs : List Job) → Every (IsShortJob n) jobs →
    AreShort (21 * length jobs) (flat_map (job_words (generated_script n)) jobs)
jobs_short n [] h = omega arith
jobs_short n (job ∷ jobs) h =
    let s = generated_script n in
    let both = both_short 21 (21 * length jobs) (job_words s job) (flat_map (job_words s) jobs)
    h.0 (jobs_short n jobs h.1) in
    omega arith

-- The declarations

-- what is made of short names
made_short : (made : List ℕ → List (List ℕ)) (names : List (List ℕ)) →
    ((name : List ℕ) → length name ≤ 3 → IsShortLine (made name)) →
    Every (λ name. length name ≤ 3) names → Every IsShortLine (map made names)
made_short made [] h l = tt
made_short made (name ∷ names) h l = (h name l.0, made_short made names h l.1)

abbrev buffer_lines : List (List (List ℕ))
buffer_lines = map (λ name. buffer_words (small_buffer name)) buffer_names

abbrev timeline_lines : List (List (List ℕ))
timeline_lines = map (λ name. semaphore_words (timeline_from_zero name)) timeline_names

abbrev queue_lines : List (List (List ℕ))
queue_lines = map (λ name. queue_words (threaded_queue name)) queue_names

buffers_short : Every IsShortLine buffer_lines
buffers_short =
    made_short (λ name. buffer_words (small_buffer name)) buffer_names
    (λ name l. three_short _ name 64 (omega arith) (omega arith) (omega arith)) (
      omega arith,
      (omega arith, (omega arith, (omega arith, (omega arith, (omega arith, (omega arith, (omega arith, tt))))))),
    )

timelines_short : Every IsShortLine timeline_lines
timelines_short =
    made_short (λ name. semaphore_words (timeline_from_zero name)) timeline_names
    (λ name l. three_short _ name 0 (omega arith) (omega arith) (omega arith))
    (omega arith, (omega arith, (omega arith, (omega arith, tt))))

queues_short : Every IsShortLine queue_lines
queues_short =
    made_short (λ name. queue_words (threaded_queue name)) queue_names
    (λ name l. record { few = omega arith; short = (omega arith, (omega arith, (omega arith, tt))) })
    (omega arith, (omega arith, (omega arith, (omega arith, tt))))

-- The text of each generated script is far shorter than an input may be.
pub generated_is_short : (n : ℕ) → n ≤ 500 → length (canonical_text (generated_script n)) ≤ 4194304
generated_is_short n last =
    let s = generated_script n in
    let declared = buffer_lines ++ timeline_lines ++ queue_lines in
    let declarations = lines_short declared
    (every_append IsShortLine (buffer_lines ++ timeline_lines) queue_lines
    (every_append IsShortLine buffer_lines timeline_lines buffers_short timelines_short) queues_short) in
    let jobs = jobs_short n s.jobs (rounds_short n 1 n (omega arith)) in
    let batches = batches_counted 1 n in
    let counted : AreShort (84 * n) (flat_map (job_words s) s.jobs) = omega arith in
    let all : AreShort (16 + 84 * n + 0) (canonical_lines s) =
    both_short (16 + 84 * n) 0 (declared ++ flat_map (job_words s) s.jobs) []
    (both_short 16 (84 * n) declared (flat_map (job_words s) s.jobs) declarations counted)
    (omega arith) in
    omega arith

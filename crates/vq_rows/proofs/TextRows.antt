-- Small texts, read: each line holds by evaluation.
use Rattle.std.proofs.Common.{ℕ, Ok, Err, List, ◌≡◌, [], refl, ◌∷◌, ◌++◌}
use Rattle.std.specs.Prelude.{Result, codes}
use Rattle.vq_model.specs.declared.statement.FaultKind.{FaultKind}
use Rattle.vq_model.specs.declared.script.Script.{Script}
use Rattle.vq_model.specs.Memory.{Memory}
use Rattle.vq_model.specs.SlowRun.{final}
use Rattle.vq_model.specs.Lowering.{plan_of}
use Rattle.vq_model.specs.declared.statement.Form.TheVariants.{Plain, Scheduled}
use Rattle.vq_model.specs.Reading.{read_script}
use Rattle.vq_model.specs.declared.statement.FaultKind.TheVariants.{Syntax, Number, Order, Name, Twice, Range, Overlap, Limit}
use Rattle.std.specs.List.{repeat}

-- the bytes that a text's script leaves, or its first fault
abbrev pub bytes_left : Result Script (ℕ × FaultKind) → Result Memory (ℕ × FaultKind)
bytes_left (Ok script) = Ok (final (plan_of script))
bytes_left (Err fault) = Err fault

abbrev pub bytes_of : List ℕ → Result Memory (ℕ × FaultKind)
bytes_of text = bytes_left (read_script text Plain)

-- the same of a text with a schedule
abbrev scheduled : List ℕ → Result Memory (ℕ × FaultKind)
scheduled text = bytes_left (read_script text Scheduled)

-- Texts without a fault

nothing : bytes_of [] ≡ Ok []
nothing = refl

one_fill :
    bytes_of
    (codes "buffer X 8\nqueue Q immediate\nsubmit Q\nfill X 0 8 0x01020304\nend\n")
    ≡ Ok ((4 ∷ 3 ∷ 2 ∷ 1 ∷ 4 ∷ 3 ∷ 2 ∷ 1 ∷ []) ∷ [])
one_fill = refl

whole :
    bytes_of
    (codes "buffer X 7\nqueue Q immediate\nsubmit Q\nfill X 0 whole 0xffffffff\n"
    ++ codes "end\n")
    ≡ Ok ((255 ∷ 255 ∷ 255 ∷ 255 ∷ 0 ∷ 0 ∷ 0 ∷ []) ∷ [])
whole = refl

copy_beside :
    bytes_of
    (codes "buffer X 16\nqueue Q immediate\nsubmit Q\nfill X 0 8 0x04030201\n"
    ++ codes "copy X 0 X 8 8\nend\n")
    ≡ Ok ((1 ∷ 2 ∷ 3 ∷ 4 ∷ 1 ∷ 2 ∷ 3 ∷ 4 ∷ 1 ∷ 2 ∷ 3 ∷ 4 ∷ 1 ∷ 2 ∷ 3 ∷ 4 ∷ []) ∷ [])
copy_beside = refl

update :
    bytes_of
    (codes "buffer X 4\nqueue Q immediate\nsubmit Q\nupdate X 0 0aFF00b1\nend\n")
    ≡ Ok ((10 ∷ 255 ∷ 0 ∷ 177 ∷ []) ∷ [])
update = refl

no_last_line_feed : bytes_of (codes "buffer X 4") ≡ Ok ((0 ∷ 0 ∷ 0 ∷ 0 ∷ []) ∷ [])
no_last_line_feed = refl

two_queues :
    bytes_of
    (codes "buffer X 8\nbuffer Y 8\ntimeline A 0\nqueue P threaded\n"
    ++ codes "queue Q threaded\nsubmit P\nwait A 1\ncopy X 0 Y 0 8\nend\nsubmit Q\n"
    ++ codes "fill X 0 8 0x0a0b0c0d\nsignal A 1\nend\n")
    ≡ Ok ((13 ∷ 12 ∷ 11 ∷ 10 ∷ 13 ∷ 12 ∷ 11 ∷ 10 ∷ []) ∷ (13 ∷ 12 ∷ 11 ∷ 10 ∷ 13 ∷ 12 ∷ 11 ∷ 10 ∷ []) ∷ [])
two_queues = refl

a_wait_on_an_immediate_queue :
    bytes_of
    (codes "buffer X 4\ntimeline A 0\nqueue P deferred\nqueue Q immediate\nsubmit P\n"
    ++ codes "fill X 0 4 1\nsignal A 1\nend\nsubmit Q\nwait A 1\nfill X 0 4 2\nend\n")
    ≡ Ok ((2 ∷ 0 ∷ 0 ∷ 0 ∷ []) ∷ [])
a_wait_on_an_immediate_queue = refl

no_word_is_reserved :
    bytes_of
    (codes "buffer host 4\nqueue submit immediate\nsubmit submit\nfill host 0 4 1\nend\n")
    ≡ Ok ((1 ∷ 0 ∷ 0 ∷ 0 ∷ []) ∷ [])
no_word_is_reserved = refl

an_empty_batch : bytes_of (codes "queue Q threaded\nsubmit Q\nend\n") ≡ Ok []
an_empty_batch = refl

binary_and_fence :
    bytes_of
    (codes "binary S\nfence F\nqueue Q threaded\nsubmit Q\nsignal S\nfence F\n"
    ++ codes "end\nsubmit Q\nwait S\nend\n")
    ≡ Ok []
binary_and_fence = refl

the_largest_value :
    bytes_of
    (codes "timeline A 18446744073709551615\ntimeline B 0xffffffffffffffff\n")
    ≡ Ok []
the_largest_value = refl

comments :
    bytes_of
    (codes "# nothing\n\n  buffer\tX 0x4 # four\r\n")
    ≡ Ok ((0 ∷ 0 ∷ 0 ∷ 0 ∷ []) ∷ [])
comments = refl

-- One fault of each kind

open_batch : bytes_of (codes "queue Q immediate\nsubmit Q\n") ≡ Err (3, Syntax)
open_batch = refl

open_batch_before_a_return : bytes_of (codes "queue Q immediate\nsubmit Q\n\r") ≡ Err (4, Syntax)
open_batch_before_a_return = refl

a_byte : bytes_of (codes "buffer X 4\nbuffer Y\u{1} 4\n") ≡ Err (2, Syntax)
a_byte = refl

a_long_name :
    bytes_of
    (codes "buffer ABCDEFGHIJKLMNOP 4\nbuffer ABCDEFGHIJKLMNOPQ 4\n")
    ≡ Err (2, Syntax)
a_long_name = refl

a_digit_first : bytes_of (codes "buffer 4X 4\n") ≡ Err (1, Syntax)
a_digit_first = refl

an_unknown_mode : bytes_of (codes "queue Q immediate\nqueue P eager\n") ≡ Err (2, Syntax)
an_unknown_mode = refl

a_command_outside : bytes_of (codes "buffer X 4\nfill X 0 4 1\n") ≡ Err (2, Syntax)
a_command_outside = refl

a_buffer_inside : bytes_of (codes "queue Q immediate\nsubmit Q\nbuffer X 4\n") ≡ Err (3, Syntax)
a_buffer_inside = refl

a_schedule_in_a_plain_text : bytes_of (codes "queue Q immediate\nschedule\n") ≡ Err (2, Syntax)
a_schedule_in_a_plain_text = refl

no_schedule : scheduled (codes "queue Q immediate\n") ≡ Err (2, Syntax)
no_schedule = refl

a_wait_from_a_later_command :
    bytes_of
    (codes "timeline A 0\nqueue Q immediate\nsubmit Q\nwait A 0 from 1\nend\n")
    ≡ Err (4, Syntax)
a_wait_from_a_later_command = refl

a_large_mark : bytes_of (codes "buffer X 0X4\n") ≡ Err (1, Number)
a_large_mark = refl

a_late_declaration :
    bytes_of
    (codes "queue Q immediate\nsubmit Q\nend\nbuffer X 4\n")
    ≡ Err (4, Order)
a_late_declaration = refl

a_wait_after_a_command :
    bytes_of
    (codes "buffer X 4\ntimeline A 0\nqueue Q threaded\nsubmit Q\nfill X 0 4 1\n"
    ++ codes "wait A 1\nend\n")
    ≡ Err (6, Order)
a_wait_after_a_command = refl

a_command_after_a_signal :
    bytes_of
    (codes "buffer X 4\ntimeline A 0\nqueue Q threaded\nsubmit Q\nsignal A 1\n"
    ++ codes "fill X 0 4 1\nend\n")
    ≡ Err (6, Order)
a_command_after_a_signal = refl

a_second_fence :
    bytes_of
    (codes "fence F\nfence G\nqueue Q threaded\nsubmit Q\nfence F\nfence G\nend\n")
    ≡ Err (6, Order)
a_second_fence = refl

a_signal_after_a_fence :
    bytes_of
    (codes "fence F\ntimeline A 0\nqueue Q threaded\nsubmit Q\nfence F\n"
    ++ codes "signal A 1\nend\n")
    ≡ Err (6, Order)
a_signal_after_a_fence = refl

too_large_a_number : bytes_of (codes "buffer X 18446744073709551616\n") ≡ Err (1, Number)
too_large_a_number = refl

too_many_digits : bytes_of (codes "buffer X 000000000000000000004\n") ≡ Err (1, Number)
too_many_digits = refl

a_word_of_33_bits :
    bytes_of
    (codes "buffer X 4\nqueue Q immediate\nsubmit Q\nfill X 0 4 4294967296\n")
    ≡ Err (4, Number)
a_word_of_33_bits = refl

a_wrong_size_word :
    bytes_of
    (codes "buffer X 4\nqueue Q immediate\nsubmit Q\nfill X 0 all 1\n")
    ≡ Err (4, Number)
a_wrong_size_word = refl

an_odd_digit :
    bytes_of
    (codes "buffer X 4\nqueue Q immediate\nsubmit Q\nupdate X 0 0000000\n")
    ≡ Err (4, Number)
an_odd_digit = refl

no_hex_digit :
    bytes_of
    (codes "buffer X 4\nqueue Q immediate\nsubmit Q\nupdate X 0 0000000g\n")
    ≡ Err (4, Number)
no_hex_digit = refl

no_queue : bytes_of (codes "buffer X 4\nsubmit Q\n") ≡ Err (2, Name)
no_queue = refl

a_buffer_for_a_queue : bytes_of (codes "buffer X 4\nsubmit X\n") ≡ Err (2, Name)
a_buffer_for_a_queue = refl

a_binary_with_a_value :
    bytes_of
    (codes "binary S\nqueue Q threaded\nsubmit Q\nwait S 1\n")
    ≡ Err (4, Name)
a_binary_with_a_value = refl

a_timeline_without_a_value :
    bytes_of
    (codes "timeline A 0\nqueue Q threaded\nsubmit Q\nsignal A\n")
    ≡ Err (4, Name)
a_timeline_without_a_value = refl

declared_twice : bytes_of (codes "buffer X 4\nqueue X immediate\n") ≡ Err (2, Twice)
declared_twice = refl

no_bytes : bytes_of (codes "buffer X 0\n") ≡ Err (1, Range)
no_bytes = refl

past_the_end :
    bytes_of
    (codes "buffer X 8\nqueue Q immediate\nsubmit Q\nfill X 4 8 1\n")
    ≡ Err (4, Range)
past_the_end = refl

whole_at_the_end :
    bytes_of
    (codes "buffer X 8\nqueue Q immediate\nsubmit Q\nfill X 8 whole 1\n")
    ≡ Err (4, Range)
whole_at_the_end = refl

whole_near_the_end :
    bytes_of
    (codes "buffer X 6\nqueue Q immediate\nsubmit Q\nfill X 4 whole 1\nend\n")
    ≡ Ok ((0 ∷ 0 ∷ 0 ∷ 0 ∷ 0 ∷ 0 ∷ []) ∷ [])
whole_near_the_end = refl

unaligned :
    bytes_of
    (codes "buffer X 8\nqueue Q immediate\nsubmit Q\nfill X 2 4 1\n")
    ≡ Err (4, Range)
unaligned = refl

unaligned_size :
    bytes_of
    (codes "buffer X 8\nqueue Q immediate\nsubmit Q\nupdate X 0 0000\n")
    ≡ Err (4, Range)
unaligned_size = refl

an_empty_copy :
    bytes_of
    (codes "buffer X 8\nbuffer Y 8\nqueue Q immediate\nsubmit Q\ncopy X 0 Y 0 0\n")
    ≡ Err (5, Range)
an_empty_copy = refl

overlap :
    bytes_of
    (codes "buffer X 16\nqueue Q immediate\nsubmit Q\nfill X 0 8 0x04030201\n"
    ++ codes "copy X 0 X 7 8\nend\n")
    ≡ Err (5, Overlap)
overlap = refl

too_many_bytes : bytes_of (codes "buffer X 1048577\n") ≡ Err (1, Limit)
too_many_bytes = refl

too_many_bytes_together : bytes_of (codes "buffer X 1048576\nbuffer Y 1\n") ≡ Err (2, Limit)
too_many_bytes_together = refl

nine_queues :
    bytes_of
    (codes "queue Q1 threaded\nqueue Q2 threaded\nqueue Q3 threaded\n"
    ++ codes "queue Q4 threaded\nqueue Q5 threaded\nqueue Q6 threaded\n"
    ++ codes "queue Q7 threaded\nqueue Q8 threaded\nqueue Q9 threaded\n")
    ≡ Err (9, Limit)
nine_queues = refl

sixty_five_commands :
    bytes_of
    (codes "buffer X 4\nqueue Q immediate\nsubmit Q\n" ++ repeat 65 (codes "fill X 0 4 1\n"))
    ≡ Err (68, Limit)
sixty_five_commands = refl

seventeen_waits :
    bytes_of
    (codes "timeline A 0\nqueue Q threaded\nsubmit Q\n" ++ repeat 17 (codes "wait A 0\n"))
    ≡ Err (20, Limit)
seventeen_waits = refl

seventeen_signals :
    bytes_of
    (codes "timeline A 0\nqueue Q threaded\nsubmit Q\n" ++ repeat 17 (codes "signal A 1\n"))
    ≡ Err (20, Limit)
seventeen_signals = refl

-- Several kinds on one line: the first one is named

twice_and_no_bytes : bytes_of (codes "buffer X 4\nbuffer X 0\n") ≡ Err (2, Twice)
twice_and_no_bytes = refl

past_the_end_and_overlapping :
    bytes_of
    (codes "buffer X 8\nqueue Q immediate\nsubmit Q\ncopy X 0 X 4 8\n")
    ≡ Err (4, Range)
past_the_end_and_overlapping = refl

no_name_and_no_number : bytes_of (codes "buffer 4 X\n") ≡ Err (1, Syntax)
no_name_and_no_number = refl

no_number_and_unknown :
    bytes_of
    (codes "queue Q immediate\nsubmit Q\nfill X 0 4 z\n")
    ≡ Err (3, Number)
no_number_and_unknown = refl

unknown_and_unaligned :
    bytes_of
    (codes "queue Q immediate\nsubmit Q\nfill X 1 4 0\n")
    ≡ Err (3, Name)
unknown_and_unaligned = refl

twice_and_too_large : bytes_of (codes "buffer X 4\nbuffer X 1048577\n") ≡ Err (2, Twice)
twice_and_too_large = refl

the_first_line_decides : bytes_of (codes "buffer X 0\nbuffer\n") ≡ Err (1, Range)
the_first_line_decides = refl

-- A text that is cut off

cut_after_five :
    bytes_of
    (codes "buffer X 8\nbuffer Y 8\ntimeline A 0\nqueue P threaded\n"
    ++ codes "queue Q threaded\n")
    ≡ Ok ((0 ∷ 0 ∷ 0 ∷ 0 ∷ 0 ∷ 0 ∷ 0 ∷ 0 ∷ []) ∷ (0 ∷ 0 ∷ 0 ∷ 0 ∷ 0 ∷ 0 ∷ 0 ∷ 0 ∷ []) ∷ [])
cut_after_five = refl

cut_after_six :
    bytes_of
    (codes "buffer X 8\nbuffer Y 8\ntimeline A 0\nqueue P threaded\n"
    ++ codes "queue Q threaded\nsubmit P\n")
    ≡ Err (7, Syntax)
cut_after_six = refl

cut_after_seven :
    bytes_of
    (codes "buffer X 8\nbuffer Y 8\ntimeline A 0\nqueue P threaded\n"
    ++ codes "queue Q threaded\nsubmit P\nwait A 1\n")
    ≡ Err (8, Syntax)
cut_after_seven = refl

cut_after_eight :
    bytes_of
    (codes "buffer X 8\nbuffer Y 8\ntimeline A 0\nqueue P threaded\n"
    ++ codes "queue Q threaded\nsubmit P\nwait A 1\ncopy X 0 Y 0 8\n")
    ≡ Err (9, Syntax)
cut_after_eight = refl

cut_after_twelve :
    bytes_of
    (codes "buffer X 8\nbuffer Y 8\ntimeline A 0\nqueue P threaded\n"
    ++ codes "queue Q threaded\nsubmit P\nwait A 1\ncopy X 0 Y 0 8\nend\nsubmit Q\n"
    ++ codes "fill X 0 8 0x0a0b0c0d\nsignal A 1\n")
    ≡ Err (13, Syntax)
cut_after_twelve = refl

-- Captures with a fault of each kind: the verdict on each, by evaluation.
use Rattle.std.proofs.Common.{◌≡◌, ◌++◌, refl}
use Rattle.std.specs.Prelude.{codes}
use Rattle.vq_capture.specs.declared.capture.Verdict.TheVariants.{Faulty}
use Rattle.vq_capture.specs.declared.capture.FaultKind.TheVariants.{Syntax, Order, Number, Stages as StagesFault}
use Rattle.vq_capture.specs.declared.capture.FaultKind.TheVariants.{Name, Twice, Range, NoSignal}
use Rattle.vq_capture_laws.proofs.Examples.{verdict_on}

-- no line has this word
no_line_has_this_word :
    verdict_on
    (codes "nothing\n")
    ≡ Faulty (record { line = 9; kind = Syntax })
no_line_has_this_word = refl

-- no line of this word has so many words
no_line_of_this_word_has_so_many_words :
    verdict_on
    (codes "queue\n")
    ≡ Faulty (record { line = 9; kind = Syntax })
no_line_of_this_word_has_so_many_words = refl

-- a line of a batch outside of one
a_line_of_a_batch_outside_of_one :
    verdict_on
    (codes "end\n")
    ≡ Faulty (record { line = 9; kind = Syntax })
a_line_of_a_batch_outside_of_one = refl

-- a declaration in a batch
a_declaration_in_a_batch :
    verdict_on
    (codes "submit Q\nqueue R\nend\n")
    ≡ Faulty (record { line = 10; kind = Syntax })
a_declaration_in_a_batch = refl

-- a name that isn't one
a_name_that_isn_t_one :
    verdict_on
    (codes "queue 9\n")
    ≡ Faulty (record { line = 9; kind = Syntax })
a_name_that_isn_t_one = refl

-- as a letter too long
a_name_that_isn_t_one_as_a_letter_too_long :
    verdict_on
    (codes "queue ABCDEFGHIJKLMNOPQ\n")
    ≡ Faulty (record { line = 9; kind = Syntax })
a_name_that_isn_t_one_as_a_letter_too_long = refl

-- a wait behind an access
a_wait_behind_an_access :
    verdict_on
    (codes "submit Q\nread X 0 8 copy\nwait S all\nend\n")
    ≡ Faulty (record { line = 11; kind = Order })
a_wait_behind_an_access = refl

-- a second fence
a_second_fence :
    verdict_on
    (codes "submit Q\nfence F\nfence F\nend\n")
    ≡ Faulty (record { line = 11; kind = Order })
a_second_fence = refl

-- an access behind a signal
an_access_behind_a_signal :
    verdict_on
    (codes "submit Q\nsignal S all\nread X 0 8 copy\nend\n")
    ≡ Faulty (record { line = 11; kind = Order })
an_access_behind_a_signal = refl

-- no numeral
no_numeral :
    verdict_on
    (codes "timeline T one\n")
    ≡ Faulty (record { line = 9; kind = Number })
no_numeral = refl

-- a numeral of more than 64 bits
a_numeral_of_more_than_64_bits :
    verdict_on
    (codes "timeline T 18446744073709551616\n")
    ≡ Faulty (record { line = 9; kind = Number })
a_numeral_of_more_than_64_bits = refl

-- no stages
no_stages :
    verdict_on
    (codes "submit Q\nbarrier copy top\nend\n")
    ≡ Faulty (record { line = 10; kind = StagesFault })
no_stages = refl

-- no stage behind a plus sign
no_stage_behind_a_plus_sign :
    verdict_on
    (codes "submit Q\nbarrier copy+ all\nend\n")
    ≡ Faulty (record { line = 10; kind = StagesFault })
no_stage_behind_a_plus_sign = refl

-- all among others
all_among_others :
    verdict_on
    (codes "submit Q\nbarrier copy+all all\nend\n")
    ≡ Faulty (record { line = 10; kind = StagesFault })
all_among_others = refl

-- an access at no stage
an_access_at_no_stage :
    verdict_on
    (codes "submit Q\nread X 0 8 none\nend\n")
    ≡ Faulty (record { line = 10; kind = StagesFault })
an_access_at_no_stage = refl

-- no access behind a colon
no_access_behind_a_colon :
    verdict_on
    (codes "submit Q\nbarrier copy:now all\nend\n")
    ≡ Faulty (record { line = 10; kind = StagesFault })
no_access_behind_a_colon = refl

-- accesses of no stage
accesses_of_no_stage :
    verdict_on
    (codes "submit Q\nbarrier none:read all\nend\n")
    ≡ Faulty (record { line = 10; kind = StagesFault })
accesses_of_no_stage = refl

-- a name that isn't declared
a_name_that_isn_t_declared :
    verdict_on
    (codes "submit R\n")
    ≡ Faulty (record { line = 9; kind = Name })
a_name_that_isn_t_declared = refl

-- a name of another kind
a_name_of_another_kind :
    verdict_on
    (codes "submit X\n")
    ≡ Faulty (record { line = 9; kind = Name })
a_name_of_another_kind = refl

-- the thread that goes on doesn't end
the_thread_that_goes_on_doesn_t_end :
    verdict_on
    (codes "thread H\ngone H\n")
    ≡ Faulty (record { line = 10; kind = Name })
the_thread_that_goes_on_doesn_t_end = refl

-- and one that has ended isn't known
the_thread_that_goes_on_doesn_t_end_and_one_that_has_ende :
    verdict_on
    (codes "thread H\nthread J\ngone H\nafter H\n")
    ≡ Faulty (record { line = 12; kind = Name })
the_thread_that_goes_on_doesn_t_end_and_one_that_has_ende = refl

-- a batch that was handed over is used once
a_batch_that_was_handed_over_is_used_once :
    verdict_on
    (codes "hand K\nsubmit Q K\nend\nsubmit Q K\nend\n")
    ≡ Faulty (record { line = 12; kind = Name })
a_batch_that_was_handed_over_is_used_once = refl

-- a name that is gone
a_name_that_is_gone :
    verdict_on
    (codes "gone Q\nsubmit Q\n")
    ≡ Faulty (record { line = 10; kind = Name })
a_name_that_is_gone = refl

-- a name that is declared
a_name_that_is_declared :
    verdict_on
    (codes "queue X\n")
    ≡ Faulty (record { line = 9; kind = Twice })
a_name_that_is_declared = refl

-- by a batch that was handed over
a_name_that_is_declared_by_a_batch_that_was_handed_over :
    verdict_on
    (codes "hand X\n")
    ≡ Faulty (record { line = 9; kind = Twice })
a_name_that_is_declared_by_a_batch_that_was_handed_over = refl

-- a resource of no units
a_resource_of_no_units :
    verdict_on
    (codes "resource R 0\n")
    ≡ Faulty (record { line = 9; kind = Range })
a_resource_of_no_units = refl

-- an access of no units
an_access_of_no_units :
    verdict_on
    (codes "read X 0 0\n")
    ≡ Faulty (record { line = 9; kind = Range })
an_access_of_no_units = refl

-- units past the end
units_past_the_end :
    verdict_on
    (codes "write X 1 8\n")
    ≡ Faulty (record { line = 9; kind = Range })
units_past_the_end = refl

-- past 64 bits
units_past_the_end_past_64_bits :
    verdict_on
    (codes "write X 18446744073709551615 2\n")
    ≡ Faulty (record { line = 9; kind = Range })
units_past_the_end_past_64_bits = refl

-- a value that nothing reaches
a_value_that_nothing_reaches :
    verdict_on
    (codes "signal A 1\nsaw A 2\n")
    ≡ Faulty (record { line = 10; kind = NoSignal })
a_value_that_nothing_reaches = refl

-- a binary semaphore that nothing signals
a_binary_semaphore_that_nothing_signals :
    verdict_on
    (codes "submit Q\nwait S all\nend\n")
    ≡ Faulty (record { line = 10; kind = NoSignal })
a_binary_semaphore_that_nothing_signals = refl

-- since its last wait
a_binary_semaphore_that_nothing_signals_since_its_last_wa :
    verdict_on
    (codes "submit P\nsignal S all\nend\nsubmit Q\nwait S all\nend\nsubmit Q\nwait S all\n"
    ++ codes "end\n")
    ≡ Faulty (record { line = 16; kind = NoSignal })
a_binary_semaphore_that_nothing_signals_since_its_last_wa = refl

-- a fence that no batch names
a_fence_that_no_batch_names :
    verdict_on
    (codes "saw F\n")
    ≡ Faulty (record { line = 9; kind = NoSignal })
a_fence_that_no_batch_names = refl

-- an event that another queue sets
an_event_that_another_queue_sets :
    verdict_on
    (codes "submit P\nset E all\nend\nsubmit Q\nawait E all\nend\n")
    ≡ Faulty (record { line = 13; kind = NoSignal })
an_event_that_another_queue_sets = refl

-- syntax comes before name
syntax_comes_before_name :
    verdict_on
    (codes "after 9\n")
    ≡ Faulty (record { line = 9; kind = Syntax })
syntax_comes_before_name = refl

-- order comes before number
order_comes_before_number :
    verdict_on
    (codes "submit Q\nread X 0 8 copy\nwait A one all\nend\n")
    ≡ Faulty (record { line = 11; kind = Order })
order_comes_before_number = refl

-- number comes before stages
number_comes_before_stages :
    verdict_on
    (codes "submit Q\nwait A one top\nend\n")
    ≡ Faulty (record { line = 10; kind = Number })
number_comes_before_stages = refl

-- stages come before name
stages_come_before_name :
    verdict_on
    (codes "submit Q\nwait B 1 top\nend\n")
    ≡ Faulty (record { line = 10; kind = StagesFault })
stages_come_before_name = refl

-- twice comes before range
twice_comes_before_range :
    verdict_on
    (codes "resource X 0\n")
    ≡ Faulty (record { line = 9; kind = Twice })
twice_comes_before_range = refl

-- Worked captures: the verdict on each, by evaluation. The law `slow_verdict_decides` makes it that of the definition.
use Rattle.std.proofs.Common.{◌≡◌, ◌++◌, refl}
use Rattle.std.specs.Prelude.{codes}
use Rattle.vq_capture.specs.declared.capture.Verdict.TheVariants.{Ordered, Race, Faulty}
use Rattle.vq_capture.specs.declared.capture.FaultKind.TheVariants.{Syntax, Name, NoSignal}
use Rattle.vq_capture_laws.proofs.Examples.{verdict_on}

-- a queue alone orders nothing
a_queue_alone_orders_nothing :
    verdict_on
    (codes "submit Q\nwrite X 0 8 copy\nend\nsubmit Q\nread X 0 8 copy\nend\n")
    ≡ Race 10 13
a_queue_alone_orders_nothing = refl

-- nor in one batch; next begins a command
nor_in_one_batch_next_begins_a_command :
    verdict_on
    (codes "submit Q\nwrite X 0 8 copy\nnext\nread X 0 8 copy\nend\n")
    ≡ Race 10 12
nor_in_one_batch_next_begins_a_command = refl

-- accesses of one command don't conflict
accesses_of_one_command_don_t_conflict :
    verdict_on
    (codes "submit Q\nread X 0 8 copy\nwrite X 0 8 copy\nend\n")
    ≡ Ordered
accesses_of_one_command_don_t_conflict = refl

-- a barrier does, for the stages that it names
a_barrier_does_for_the_stages_that_it_names :
    verdict_on
    (codes "submit Q\nwrite X 0 8 copy\nbarrier copy compute\nread X 0 8 compute\nend\n")
    ≡ Ordered
a_barrier_does_for_the_stages_that_it_names = refl

-- and for no others (second scope)
a_barrier_does_for_the_stages_that_it_names_and_for_no_o :
    verdict_on
    (codes "submit Q\nwrite X 0 8 copy\nbarrier copy compute\nread X 0 8 copy\nend\n")
    ≡ Race 10 12
a_barrier_does_for_the_stages_that_it_names_and_for_no_o = refl

-- logically earlier stages are in a first scope
logically_earlier_stages_are_in_a_first_scope :
    verdict_on
    (codes "submit Q\nwrite X 0 8 vertex\nbarrier fragment copy\nread X 0 8 copy\nend\n")
    ≡ Ordered
logically_earlier_stages_are_in_a_first_scope = refl

-- later ones aren't
logically_earlier_stages_are_in_a_first_scope_later_ones :
    verdict_on
    (codes "submit Q\nwrite X 0 8 color\nbarrier fragment copy\nread X 0 8 copy\nend\n")
    ≡ Race 10 12
logically_earlier_stages_are_in_a_first_scope_later_ones = refl

-- barriers chain where scopes meet
barriers_chain_where_scopes_meet :
    verdict_on
    (codes "submit Q\nwrite X 0 8 copy\nbarrier copy compute\nbarrier compute color\n"
    ++ codes "read X 0 8 color\nend\n")
    ≡ Ordered
barriers_chain_where_scopes_meet = refl

-- and don't where they don't
barriers_chain_where_scopes_meet_and_don_t_where_they_don :
    verdict_on
    (codes "submit Q\nwrite X 0 8 copy\nbarrier copy compute\nbarrier fragment color\n"
    ++ codes "read X 0 8 color\nend\n")
    ≡ Race 10 13
barriers_chain_where_scopes_meet_and_don_t_where_they_don = refl

-- a semaphore orders queues
a_semaphore_orders_queues :
    verdict_on
    (codes "submit P\nwrite X 0 8 copy\nsignal S all\nend\nsubmit Q\nwait S all\n"
    ++ codes "read X 0 8 copy\nend\n")
    ≡ Ordered
a_semaphore_orders_queues = refl

-- for the stages of the wait
a_semaphore_orders_queues_for_the_stages_of_the_wait :
    verdict_on
    (codes "submit P\nwrite X 0 8 copy\nsignal S all\nend\nsubmit Q\nwait S color\n"
    ++ codes "read X 0 8 copy\nend\n")
    ≡ Race 10 15
a_semaphore_orders_queues_for_the_stages_of_the_wait = refl

-- for those of the signal
a_semaphore_orders_queues_for_those_of_the_signal :
    verdict_on
    (codes "submit P\nwrite X 0 8 copy\nsignal S compute\nend\nsubmit Q\nwait S all\n"
    ++ codes "read X 0 8 copy\nend\n")
    ≡ Race 10 15
a_semaphore_orders_queues_for_those_of_the_signal = refl

-- a wait holds for later batches of its queue
a_wait_holds_for_later_batches_of_its_queue :
    verdict_on
    (codes "submit P\nwrite X 0 8 copy\nsignal A 1 all\nend\nsubmit Q\nwait A 1 all\nend\n"
    ++ codes "submit Q\nread X 0 8 copy\nend\n")
    ≡ Ordered
a_wait_holds_for_later_batches_of_its_queue = refl

-- the first signal that reaches the value releases
the_first_signal_that_reaches_the_value_releases :
    verdict_on
    (codes "submit P\nsignal A 1 all\nend\nsubmit P\nwrite X 0 8 copy\nsignal A 2 all\nend\n"
    ++ codes "submit Q\nwait A 1 all\nread X 0 8 copy\nend\n")
    ≡ Race 13 18
the_first_signal_that_reaches_the_value_releases = refl

-- a transition is a write of the barrier
a_transition_is_a_write_of_the_barrier :
    verdict_on
    (codes "submit P\nwrite X 0 8 copy\nsignal S all\nend\nsubmit Q\nwait S color\n"
    ++ codes "barrier none color X 0 8\nend\n")
    ≡ Race 10 15
a_transition_is_a_write_of_the_barrier = refl

-- none chains behind a wait of all
a_transition_is_a_write_of_the_barrier_none_chains_behind :
    verdict_on
    (codes "submit P\nwrite X 0 8 copy\nsignal S all\nend\nsubmit Q\nwait S all\n"
    ++ codes "barrier none color X 0 8\nread X 0 8 color\nend\n")
    ≡ Ordered
a_transition_is_a_write_of_the_barrier_none_chains_behind = refl

-- a fence that the host saw
a_fence_that_the_host_saw :
    verdict_on
    (codes "submit Q\nwrite X 0 8 copy\nfence F\nend\nsaw F\nread X 0 8\n")
    ≡ Ordered
a_fence_that_the_host_saw = refl

-- and one that it didn't
a_fence_that_the_host_saw_and_one_that_it_didn_t :
    verdict_on
    (codes "submit Q\nwrite X 0 8 copy\nfence F\nend\nread X 0 8\n")
    ≡ Race 10 13
a_fence_that_the_host_saw_and_one_that_it_didn_t = refl

-- the host before a submit; not behind it
the_host_before_a_submit_not_behind_it :
    verdict_on
    (codes "write X 0 8\nsubmit Q\nread X 0 8 copy\nend\nwrite X 0 4\n")
    ≡ Race 11 13
the_host_before_a_submit_not_behind_it = refl

-- threads, if one is told
threads_if_one_is_told :
    verdict_on
    (codes "thread H\nwrite X 0 8\nthread J\nafter H\nread X 0 8\n")
    ≡ Ordered
threads_if_one_is_told = refl

-- and if not
threads_if_one_is_told_and_if_not :
    verdict_on
    (codes "thread H\nwrite X 0 8\nthread J\nread X 0 8\n")
    ≡ Race 10 12
threads_if_one_is_told_and_if_not = refl

-- a batch that was handed over sooner
a_batch_that_was_handed_over_sooner :
    verdict_on
    (codes "hand K\nwrite X 0 8\nsubmit Q K\nread X 0 8 copy\nend\n")
    ≡ Race 10 12
a_batch_that_was_handed_over_sooner = refl

-- an event
an_event :
    verdict_on
    (codes "submit Q\nwrite X 0 8 copy\nset E copy\nawait E compute\nread X 0 8 compute\n"
    ++ codes "end\n")
    ≡ Ordered
an_event = refl

-- all above a cut is before all below
all_above_a_cut_is_before_all_below :
    verdict_on
    (codes "submit Q\nwrite X 0 8 copy\nend\ncut\nsubmit P\nwrite X 0 8 copy\nend\n")
    ≡ Ordered
all_above_a_cut_is_before_all_below = refl

-- a wait stands below its signal
a_wait_stands_below_its_signal :
    verdict_on
    (codes "submit Q\nwait A 1 all\nend\nsignal A 1\n")
    ≡ Faulty (record { line = 10; kind = NoSignal })
a_wait_stands_below_its_signal = refl

-- all of a first scope is every stage
all_of_a_first_scope_is_every_stage :
    verdict_on
    (codes "submit Q\nwrite X 0 8 other\nbarrier all host\nread X 0 8 host\nend\n")
    ≡ Ordered
all_of_a_first_scope_is_every_stage = refl

-- no stage as a second scope orders nothing behind it
no_stage_as_a_second_scope_orders_nothing_behind_it :
    verdict_on
    (codes "submit Q\nwrite X 0 8 copy\nbarrier copy none\nread X 0 8 copy\nend\n")
    ≡ Race 10 12
no_stage_as_a_second_scope_orders_nothing_behind_it = refl

-- but what it waited for is over at a fence
no_stage_as_a_second_scope_orders_nothing_behind_it_but_w :
    verdict_on
    (codes "submit Q\nwrite X 0 8 copy\nbarrier copy none\nend\nsubmit Q\nfence F\nend\n"
    ++ codes "saw F\nread X 0 8\n")
    ≡ Ordered
no_stage_as_a_second_scope_orders_nothing_behind_it_but_w = refl

-- a fence is behind all earlier batches of its queue
a_fence_is_behind_all_earlier_batches_of_its_queue :
    verdict_on
    (codes "submit Q\nwrite X 0 8 copy\nend\nsubmit Q\nfence F\nend\nsaw F\nwrite X 0 8\n")
    ≡ Ordered
a_fence_is_behind_all_earlier_batches_of_its_queue = refl

-- and not behind another queue's
a_fence_is_behind_all_earlier_batches_of_its_queue_and_no :
    verdict_on
    (codes "submit P\nwrite X 0 8 copy\nend\nsubmit Q\nfence F\nend\nsaw F\nwrite X 0 8\n")
    ≡ Race 10 16
a_fence_is_behind_all_earlier_batches_of_its_queue_and_no = refl

-- a queue that is idle
a_queue_that_is_idle :
    verdict_on
    (codes "submit Q\nwrite X 0 8 copy\nend\nidle Q\nwrite X 0 8\n")
    ≡ Ordered
a_queue_that_is_idle = refl

-- units that aren't shared
units_that_aren_t_shared :
    verdict_on
    (codes "submit Q\nwrite X 0 4 copy\nnext\nwrite X 4 4 copy\nend\n")
    ≡ Ordered
units_that_aren_t_shared = refl

-- and one that is
units_that_aren_t_shared_and_one_that_is :
    verdict_on
    (codes "submit Q\nwrite X 0 5 copy\nnext\nwrite X 4 4 copy\nend\n")
    ≡ Race 10 12
units_that_aren_t_shared_and_one_that_is = refl

-- two reads don't conflict
two_reads_don_t_conflict :
    verdict_on
    (codes "submit Q\nread X 0 8 copy\nnext\nread X 0 8 copy\nend\n")
    ≡ Ordered
two_reads_don_t_conflict = refl

-- other resources don't conflict
other_resources_don_t_conflict :
    verdict_on
    (codes "submit Q\nwrite X 0 8 copy\nnext\nwrite Y 0 8 copy\nend\n")
    ≡ Ordered
other_resources_don_t_conflict = refl

-- an access at two stages is ordered at both
an_access_at_two_stages_is_ordered_at_both :
    verdict_on
    (codes "submit Q\nwrite X 0 8 copy+compute\nbarrier copy color\nread X 0 8 color\nend\n")
    ≡ Race 10 12
an_access_at_two_stages_is_ordered_at_both = refl

-- the greatest line that races is named
the_greatest_line_that_races_is_named :
    verdict_on
    (codes "submit Q\nwrite X 0 8 copy\nend\nsubmit P\nwrite X 0 8 copy\nend\n")
    ≡ Race 10 13
the_greatest_line_that_races_is_named = refl

-- of two that do
the_greatest_line_that_races_is_named_of_two_that_do :
    verdict_on
    (codes "submit Q\nread X 0 4 copy\nnext\nread X 4 4 copy\nend\nsubmit P\n"
    ++ codes "write X 0 8 copy\nend\n")
    ≡ Race 12 15
the_greatest_line_that_races_is_named_of_two_that_do = refl

-- the least line at which a race ends is named
the_least_line_at_which_a_race_ends_is_named :
    verdict_on
    (codes "submit Q\nwrite X 0 8 copy\nwrite Y 0 8 copy\nnext\nread Y 0 8 copy\nnext\n"
    ++ codes "read X 0 8 copy\nend\n")
    ≡ Race 11 13
the_least_line_at_which_a_race_ends_is_named = refl

-- a race above a faulty line is named
a_race_above_a_faulty_line_is_named :
    verdict_on
    (codes "submit Q\nwrite X 0 8 copy\nnext\nread X 0 8 copy\nend\nnothing\n")
    ≡ Race 10 12
a_race_above_a_faulty_line_is_named = refl

-- and one behind it isn't
a_race_above_a_faulty_line_is_named_and_one_behind_it_isn :
    verdict_on
    (codes "nothing\nsubmit Q\nwrite X 0 8 copy\nnext\nread X 0 8 copy\nend\n")
    ≡ Faulty (record { line = 9; kind = Syntax })
a_race_above_a_faulty_line_is_named_and_one_behind_it_isn = refl

-- a fresh declaration is another resource
a_fresh_declaration_is_another_resource :
    verdict_on
    (codes "submit Q\nwrite X 0 8 copy\nend\ngone X\nresource X 8\nsubmit Q\n"
    ++ codes "read X 0 8 copy\nend\n")
    ≡ Ordered
a_fresh_declaration_is_another_resource = refl

-- a binary semaphore is used again
a_binary_semaphore_is_used_again :
    verdict_on
    (codes "submit P\nsignal S all\nend\nsubmit Q\nwait S all\nend\nsubmit P\n"
    ++ codes "write X 0 8 copy\nsignal S all\nend\nsubmit Q\nwait S all\nread X 0 8 copy\n"
    ++ codes "end\n")
    ≡ Ordered
a_binary_semaphore_is_used_again = refl

-- and its wait is released by the signals behind the last wait
a_binary_semaphore_is_used_again_and_its_wait_is_released :
    verdict_on
    (codes "submit P\nwrite X 0 8 copy\nsignal S all\nend\nsubmit P\nwait S all\nend\n"
    ++ codes "submit P\nsignal S none\nend\nsubmit Q\nwait S all\nread X 0 8 copy\nend\n")
    ≡ Ordered
a_binary_semaphore_is_used_again_and_its_wait_is_released = refl

-- a value that is reached from the start waits for nothing
a_value_that_is_reached_from_the_start_waits_for_nothing :
    verdict_on
    (codes "submit P\nwrite X 0 8 copy\nsignal A 1 all\nend\nsubmit Q\nwait A 0 all\n"
    ++ codes "read X 0 8 copy\nend\n")
    ≡ Race 10 15
a_value_that_is_reached_from_the_start_waits_for_nothing = refl

-- a host's signal
a_host_s_signal :
    verdict_on
    (codes "write X 0 8\nsignal A 1\nsubmit Q\nwait A 1 all\nread X 0 8 copy\nend\n")
    ≡ Ordered
a_host_s_signal = refl

-- what a host saw
what_a_host_saw :
    verdict_on
    (codes "submit Q\nwrite X 0 8 copy\nsignal A 1 all\nend\nsaw A 1\nread X 0 8\n")
    ≡ Ordered
what_a_host_saw = refl

-- a wait alone orders its queue
a_wait_alone_orders_its_queue :
    verdict_on
    (codes "submit Q\nwrite X 0 8 copy\nend\nsubmit Q\nwait A 0 all\nread X 0 8 copy\nend\n")
    ≡ Race 10 14
a_wait_alone_orders_its_queue = refl

-- a wait doesn't hold back what stands above it
a_wait_doesn_t_hold_back_what_stands_above_it :
    verdict_on
    (codes "submit P\nwrite X 0 8 copy\nsignal S all\nend\nsubmit Q\nread X 0 8 copy\nend\n"
    ++ codes "submit Q\nwait S all\nend\n")
    ≡ Race 10 14
a_wait_doesn_t_hold_back_what_stands_above_it = refl

-- a read before another read is ordered too
a_read_before_another_read_is_ordered_too :
    verdict_on
    (codes "submit P\nread X 0 8 copy\nend\nsubmit Q\nread X 0 8 copy\nbarrier copy copy\n"
    ++ codes "write X 0 8 copy\nend\n")
    ≡ Race 10 15
a_read_before_another_read_is_ordered_too = refl

-- an event of other stages
an_event_of_other_stages :
    verdict_on
    (codes "submit Q\nwrite X 0 8 copy\nset E compute\nawait E compute\nread X 0 8 compute\n"
    ++ codes "end\n")
    ≡ Race 10 13
an_event_of_other_stages = refl

-- accesses behind a colon change nothing yet
accesses_behind_a_colon_change_nothing_yet :
    verdict_on
    (codes "submit Q\nwrite X 0 8 copy:write\n"
    ++ codes "barrier copy:write compute:sampled+storage-read\nread X 0 8 compute:sampled\n"
    ++ codes "end\n")
    ≡ Ordered
accesses_behind_a_colon_change_nothing_yet = refl

-- a text may end in a batch
a_text_may_end_in_a_batch :
    verdict_on
    (codes "submit Q\nwrite X 0 8 copy\n")
    ≡ Ordered
a_text_may_end_in_a_batch = refl

-- a numeral in hexadecimal, a comment, blanks
a_numeral_in_hexadecimal_a_comment_blanks :
    verdict_on
    (codes "submit Q # a batch\n\n  write X 0x0 0x8 copy\nend\n")
    ≡ Ordered
a_numeral_in_hexadecimal_a_comment_blanks = refl

-- a thread's name comes again as another thread
a_thread_s_name_comes_again_as_another_thread :
    verdict_on
    (codes "thread H\nwrite X 0 8\nthread J\ngone H\nthread H\nread X 0 8\n")
    ≡ Race 10 14
a_thread_s_name_comes_again_as_another_thread = refl

-- names of threads are those of other things too
names_of_threads_are_those_of_other_things_too :
    verdict_on
    (codes "thread X\n")
    ≡ Faulty (record { line = 9; kind = Name })
names_of_threads_are_those_of_other_things_too = refl

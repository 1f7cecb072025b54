-- Worked captures with memory: the verdict on each, by evaluation. The law `slow_memory_verdict_decides` makes it that
-- of the definition.
use Rattle.std.proofs.Common.{◌≡◌, ◌++◌, refl}
use Rattle.std.specs.Prelude.{codes}
use Rattle.vq_capture.specs.declared.capture.FaultKind.TheVariants.{Syntax}
use Rattle.vq_capture_memory.specs.declared.verdict.MemoryVerdict.TheVariants.{AllSeen, Racing, NotSeen, Refused}
use Rattle.vq_capture_memory.proofs.Examples.{verdict_on}

-- a barrier that names no kinds has all
a_barrier_that_names_no_kinds_has_all :
    verdict_on
    (codes "submit Q\nwrite X 0 8 copy\nbarrier copy compute\nread X 0 8 compute\nend\n")
    ≡ AllSeen
a_barrier_that_names_no_kinds_has_all = refl

-- kinds that fit
kinds_that_fit :
    verdict_on
    (codes "submit Q\nwrite X 0 8 copy:write\nbarrier copy:write compute:sampled\n"
    ++ codes "read X 0 8 compute:sampled\nend\n")
    ≡ AllSeen
kinds_that_fit = refl

-- a barrier that makes no write available
a_barrier_that_makes_no_write_available :
    verdict_on
    (codes "submit Q\nwrite X 0 8 copy:write\nbarrier copy:read compute\nread X 0 8 compute\n"
    ++ codes "end\n")
    ≡ NotSeen 10 12
a_barrier_that_makes_no_write_available = refl

-- and one that makes what is available visible to other reads
a_barrier_that_makes_no_write_available_and_one_that_mak :
    verdict_on
    (codes "submit Q\nwrite X 0 8 copy:write\nbarrier copy:write compute:uniform\n"
    ++ codes "read X 0 8 compute:sampled\nend\n")
    ≡ NotSeen 10 12
a_barrier_that_makes_no_write_available_and_one_that_mak = refl

-- `read` is all reads
read_is_all_reads :
    verdict_on
    (codes "submit Q\nwrite X 0 8 copy:write\nbarrier copy:write compute:read\n"
    ++ codes "read X 0 8 compute:sampled\nend\n")
    ≡ AllSeen
read_is_all_reads = refl

-- `write` is all writes
write_is_all_writes :
    verdict_on
    (codes "submit Q\nwrite X 0 8 compute:storage-write\nbarrier compute:write copy:read\n"
    ++ codes "read X 0 8 copy:read\nend\n")
    ≡ AllSeen
write_is_all_writes = refl

-- a stage's other writes are no storage writes
a_stage_s_other_writes_are_no_storage_writes :
    verdict_on
    (codes "submit Q\nwrite X 0 8 color:write\nbarrier fragment+color:storage-write copy:read\n"
    ++ codes "read X 0 8 copy:read\nend\n")
    ≡ NotSeen 10 12
a_stage_s_other_writes_are_no_storage_writes = refl

-- a write that names no kind may be of any
a_write_that_names_no_kind_may_be_of_any :
    verdict_on
    (codes "submit Q\nwrite X 0 8 compute\nbarrier compute:storage-write copy:read\n"
    ++ codes "read X 0 8 copy:read\nend\n")
    ≡ AllSeen
a_write_that_names_no_kind_may_be_of_any = refl

-- and so may a read
a_write_that_names_no_kind_may_be_of_any_and_so_may_a_re :
    verdict_on
    (codes "submit Q\nwrite X 0 8 copy\nbarrier copy:write compute:uniform\nread X 0 8 compute\n"
    ++ codes "end\n")
    ≡ AllSeen
a_write_that_names_no_kind_may_be_of_any_and_so_may_a_re = refl

-- logically earlier stages are in no first access scope
logically_earlier_stages_are_in_no_first_access_scope :
    verdict_on
    (codes "submit Q\nwrite X 0 8 vertex\nbarrier fragment copy\nread X 0 8 copy\nend\n")
    ≡ NotSeen 10 12
logically_earlier_stages_are_in_no_first_access_scope = refl

-- and later ones in no second one
logically_earlier_stages_are_in_no_first_access_scope_an :
    verdict_on
    (codes "submit Q\nwrite X 0 8 copy\nbarrier copy vertex\nread X 0 8 fragment\nend\n")
    ≡ NotSeen 10 12
logically_earlier_stages_are_in_no_first_access_scope_an = refl

-- two barriers: the first makes available, the second visible
two_barriers_the_first_makes_available_the_second_visibl :
    verdict_on
    (codes "submit Q\nwrite X 0 8 copy:write\nbarrier copy:write compute:write\n"
    ++ codes "barrier compute:write color:attachment\nread X 0 8 color:attachment\nend\n")
    ≡ AllSeen
two_barriers_the_first_makes_available_the_second_visibl = refl

-- not the other way round
two_barriers_the_first_makes_available_the_second_visibl_2 :
    verdict_on
    (codes "submit Q\nwrite X 0 8 copy:write\nbarrier copy:read compute:read\n"
    ++ codes "barrier compute+copy:write color:write\nread X 0 8 color:attachment\nend\n")
    ≡ NotSeen 10 13
two_barriers_the_first_makes_available_the_second_visibl_2 = refl

-- a write stays available, and a later barrier makes it visible
a_write_stays_available_and_a_later_barrier_makes_it_vis :
    verdict_on
    (codes "submit Q\nwrite X 0 8 copy:write\nbarrier copy:write none\n"
    ++ codes "barrier all:read compute:sampled\nread X 0 8 compute:sampled\nend\n")
    ≡ AllSeen
a_write_stays_available_and_a_later_barrier_makes_it_vis = refl

-- a write behind a read needs no memory
a_write_behind_a_read_needs_no_memory :
    verdict_on
    (codes "submit Q\nread X 0 8 copy\nbarrier copy:read compute:read\nwrite X 0 8 compute\n"
    ++ codes "end\n")
    ≡ AllSeen
a_write_behind_a_read_needs_no_memory = refl

-- a write behind a write needs it available
a_write_behind_a_write_needs_it_available :
    verdict_on
    (codes "submit Q\nwrite X 0 8 copy\nbarrier copy:read compute:write\nwrite X 0 8 compute\n"
    ++ codes "end\n")
    ≡ NotSeen 10 12
a_write_behind_a_write_needs_it_available = refl

-- and not visible
a_write_behind_a_write_needs_it_available_and_not_visibl :
    verdict_on
    (codes "submit Q\nwrite X 0 8 copy\nbarrier copy:write compute:read\nwrite X 0 8 compute\n"
    ++ codes "end\n")
    ≡ AllSeen
a_write_behind_a_write_needs_it_available_and_not_visibl = refl

-- a semaphore makes all available, and visible
a_semaphore_makes_all_available_and_visible :
    verdict_on
    (codes "submit P\nwrite X 0 8 copy:write\nsignal S all\nend\nsubmit Q\nwait S all\n"
    ++ codes "read X 0 8 compute:sampled\nend\n")
    ≡ AllSeen
a_semaphore_makes_all_available_and_visible = refl

-- visible to the stages of its wait
a_semaphore_makes_all_available_and_visible_visible_to_t :
    verdict_on
    (codes "submit P\nwrite X 0 8 copy\nsignal S all\nend\nsubmit Q\nwait S color\n"
    ++ codes "barrier color:write compute:write\nread X 0 8 compute\nend\n")
    ≡ NotSeen 10 16
a_semaphore_makes_all_available_and_visible_visible_to_t = refl

-- and available in its first scope
a_semaphore_makes_all_available_and_visible_and_availabl :
    verdict_on
    (codes "submit P\nwrite X 0 8 copy\nbarrier copy:read compute:read\nsignal S compute\nend\n"
    ++ codes "submit Q\nwait S all\nread X 0 8 copy\nend\n")
    ≡ NotSeen 10 16
a_semaphore_makes_all_available_and_visible_and_availabl = refl

-- a signal makes available what no barrier did
a_signal_makes_available_what_no_barrier_did :
    verdict_on
    (codes "submit P\nwrite X 0 8 copy\nsignal A 1 copy\nend\nsubmit Q\nwait A 1 all\n"
    ++ codes "write X 0 8 copy\nend\n")
    ≡ AllSeen
a_signal_makes_available_what_no_barrier_did = refl

-- a host's write is available, and visible to what is submitted behind it
a_host_s_write_is_available_and_visible_to_what_is_submi :
    verdict_on
    (codes "write X 0 8\nsubmit Q\nread X 0 8 compute:uniform\nend\n")
    ≡ AllSeen
a_host_s_write_is_available_and_visible_to_what_is_submi = refl

-- what the host waited for, it sees
what_the_host_waited_for_it_sees :
    verdict_on
    (codes "submit Q\nwrite X 0 8 copy:write\nbarrier copy:read host:write\nfence F\nend\n"
    ++ codes "saw F\nread X 0 8\n")
    ≡ AllSeen
what_the_host_waited_for_it_sees = refl

-- and what it submits then sees it too
what_the_host_waited_for_it_sees_and_what_it_submits_the :
    verdict_on
    (codes "submit Q\nwrite X 0 8 copy:write\nfence F\nend\nsaw F\nsubmit P\n"
    ++ codes "read X 0 8 copy:read\nend\n")
    ≡ AllSeen
what_the_host_waited_for_it_sees_and_what_it_submits_the = refl

-- a transition makes available what it writes over
a_transition_makes_available_what_it_writes_over :
    verdict_on
    (codes "submit Q\nwrite X 0 8 copy:write\nbarrier copy:write compute:sampled X 0 8\n"
    ++ codes "read X 0 8 compute:sampled\nend\n")
    ≡ AllSeen
a_transition_makes_available_what_it_writes_over = refl

-- or does not
a_transition_makes_available_what_it_writes_over_or_does :
    verdict_on
    (codes "submit Q\nwrite X 0 8 copy:write\nbarrier copy:read compute:sampled X 0 8\n"
    ++ codes "read X 0 8 compute:sampled\nend\n")
    ≡ NotSeen 10 11
a_transition_makes_available_what_it_writes_over_or_does = refl

-- what a transition writes is available, and visible to its second access scope
what_a_transition_writes_is_available_and_visible_to_its :
    verdict_on
    (codes "submit Q\nbarrier none color:attachment X 0 8\nread X 0 8 color:attachment\nend\n")
    ≡ AllSeen
what_a_transition_writes_is_available_and_visible_to_its = refl

-- and to no other read
what_a_transition_writes_is_available_and_visible_to_its_2 :
    verdict_on
    (codes "submit Q\nbarrier none color:write X 0 8\nread X 0 8 color:attachment\nend\n")
    ≡ NotSeen 10 11
what_a_transition_writes_is_available_and_visible_to_its_2 = refl

-- but a later barrier makes it so
what_a_transition_writes_is_available_and_visible_to_its_3 :
    verdict_on
    (codes "submit Q\nbarrier none color:write X 0 8\nbarrier color:read fragment:sampled\n"
    ++ codes "read X 0 8 fragment:sampled\nend\n")
    ≡ AllSeen
what_a_transition_writes_is_available_and_visible_to_its_3 = refl

-- an event
an_event :
    verdict_on
    (codes "submit Q\nwrite X 0 8 copy\nset E copy:write\nawait E compute:sampled\n"
    ++ codes "read X 0 8 compute:sampled\nend\n")
    ≡ AllSeen
an_event = refl

-- that makes no write available
an_event_that_makes_no_write_available :
    verdict_on
    (codes "submit Q\nwrite X 0 8 copy\nset E copy:read\nawait E compute:sampled\n"
    ++ codes "read X 0 8 compute:sampled\nend\n")
    ≡ NotSeen 10 13
an_event_that_makes_no_write_available = refl

-- a cut makes all available, and visible
a_cut_makes_all_available_and_visible :
    verdict_on
    (codes "submit Q\nwrite X 0 8 copy:write\nend\ncut\nsubmit P\nread X 0 8 compute:sampled\n"
    ++ codes "end\n")
    ≡ AllSeen
a_cut_makes_all_available_and_visible = refl

-- each point of an access asks
each_point_of_an_access_asks :
    verdict_on
    (codes "submit Q\nwrite X 0 8 copy\nbarrier copy:write compute+color:sampled\n"
    ++ codes "barrier copy:write color:attachment\nread X 0 8 compute+color:attachment\nend\n")
    ≡ NotSeen 10 13
each_point_of_an_access_asks = refl

-- the greatest line that is unseen is named
the_greatest_line_that_is_unseen_is_named :
    verdict_on
    (codes "submit Q\nwrite X 0 4 copy\nnext\nwrite X 4 4 copy\nbarrier copy:read copy:read\n"
    ++ codes "read X 0 8 copy\nend\n")
    ≡ NotSeen 12 14
the_greatest_line_that_is_unseen_is_named = refl

-- a race at the same line is named first
a_race_at_the_same_line_is_named_first :
    verdict_on
    (codes "submit Q\nwrite X 0 4 copy\nbarrier copy:read copy:read\nwrite X 4 4 copy\nnext\n"
    ++ codes "read X 0 8 copy\nend\n")
    ≡ Racing 12 14
a_race_at_the_same_line_is_named_first = refl

-- an unseen write above a race is named
an_unseen_write_above_a_race_is_named :
    verdict_on
    (codes "submit Q\nwrite X 0 8 copy\nbarrier copy:read copy:read\nread X 0 8 copy\nnext\n"
    ++ codes "write X 0 8 copy\nend\n")
    ≡ NotSeen 10 12
an_unseen_write_above_a_race_is_named = refl

-- a race above an unseen write is named
a_race_above_an_unseen_write_is_named :
    verdict_on
    (codes "submit Q\nwrite X 0 8 copy\nnext\nread X 0 8 copy\nbarrier copy:read copy:read\n"
    ++ codes "read X 0 8 copy\nend\n")
    ≡ Racing 10 12
a_race_above_an_unseen_write_is_named = refl

-- an unseen write above a faulty line is named
an_unseen_write_above_a_faulty_line_is_named :
    verdict_on
    (codes "submit Q\nwrite X 0 8 copy\nbarrier copy:read copy:read\nread X 0 8 copy\nend\n"
    ++ codes "nothing\n")
    ≡ NotSeen 10 12
an_unseen_write_above_a_faulty_line_is_named = refl

-- and one behind it is not
an_unseen_write_above_a_faulty_line_is_named_and_one_beh :
    verdict_on
    (codes "submit Q\nwrite X 0 8 copy\nbarrier copy:read copy:read\nnothing\nread X 0 8 copy\n"
    ++ codes "end\n")
    ≡ Refused (record { line = 12; kind = Syntax })
an_unseen_write_above_a_faulty_line_is_named_and_one_beh = refl

-- A batch whose wait holds back only its second command or its end: the order, the bytes and the races of small scripts.
use Rattle.std.proofs.Common.{ℕ, [], ◌∷◌, false, None, ◌≡◌, refl, zero, suc, arith, true, ◌⊎◌, inl, inr, ap, ◌∙◌, subst, sym, ◌+◌, ◌≤◌, List, length, Some, ◌≢◌, ◌<◌, fold, Option, IfSome, option_map}
use Rattle.std.proofs.lemmas.Option.{same_Some, slice_get_past}
use Rattle.vq_model.specs.declared.script.Queue.{Queue}
use Rattle.vq_model.specs.declared.script.Mode.TheVariants.{Threaded}
use Rattle.vq_model.specs.Plan.{value, Plan, chain, chain_of, initial, needs, commands_of, line_of_command}
use Rattle.vq_ground.specs.Lists.{has}
use Rattle.vq_model.specs.declared.script.Script.{Script}
use Rattle.vq_model.specs.declared.script.SemaphoreKind.TheVariants.{Timeline, Binary}
use Rattle.vq_model.specs.declared.script.Job.TheVariants.{Batch}
use Rattle.vq_model.specs.declared.script.Command.TheVariants.{Fill, Copy}
use Rattle.vq_model.specs.declared.script.FillSize.TheVariants.{Count}
use Rattle.vq_model.specs.Lowering.{plan_of, resets_fence, batch_commands}
use Rattle.vq_model.specs.LoweringFaults.{lowering_fault}
use Rattle.vq_model.specs.SlowRun.{slow_order, final, left_over, bytes_after}
use Rattle.vq_model.specs.ProgressRuns.{HasOneResult}
use Rattle.vq_model.specs.EdgeReasons.{edges_to}
use Rattle.vq_model.specs.Edges.{At, edges_at, Stage, stage_of, AtEnd}
use Rattle.vq_model.specs.HappensBefore.{HappensBeforeCommand, one, HappensBeforeAt, more}
use Rattle.vq_model.specs.SureOrder.{KeepsChains}
use Rattle.vq_model.specs.Sure.{IsSureAt, finished_first, waited_for, passed_on}
use Rattle.std.proofs.lemmas.Bool.{false≢true}
use Rattle.vq_ground.proofs.Lists.{has_cases}
use Rattle.vq_model.specs.Races.{conflicts}
use Rattle.vq_model.specs.SureOrder.{HasNoRace}
use Rattle.vq_model.specs.Checks.{IsRaceAt, AreNeighbours, IsUnordered, too_low, equal, unsure, unsure_back, unawaited, NoLines, is_immediate_batch, IsFirstPlanFault, IsLawful}
use Rattle.std.specs.List.{slice_get, list_any, flat_map}
use Rattle.std.specs.Option.{option_map_or}
use Rattle.vq_model.specs.declared.plan.Need.{Need}
use Rattle.vq_model.specs.Signals.{kind_of, Signaling, all_signals}
use Rattle.vq_model.specs.declared.plan.OrderFault.TheVariants.{Race}
use Rattle.vq_model.specs.Machine.{StartStep, ApplyStep, SignalStep, FinishStep, Run, next, are_reached, CanApply, state_after}
use Rattle.vq_point_laws.specs.Points.{opening_points, HistoryFrom, PointState, after_event, CanRefer, resolves, needs_now}
use Rattle.vq_model.specs.declared.script.ActorName.TheVariants.{Ring}
use Rattle.vq_model.specs.declared.plan.Event.TheVariants.{Submit, Take, Release, Bind, Refer, Start as Starts, Apply as Applies}
use Rattle.vq_model.specs.FittingCommands.{Fits}
use Rattle.vq_model.specs.ValidScripts.{IsValid, KeepsLimits}
use Rattle.vq_model.specs.declared.script.CommandLine.{CommandLine}
use Rattle.vq_model.specs.declared.script.Job.{Job}
use Rattle.vq_plan_laws.proofs.Cited.{well_formed}
use Rattle.vq_model.specs.WellFormed.{IsWellFormed}
use Rattle.vq_run_laws.proofs.Cited.{one_result}

abbrev queue : ℕ → ℕ → Queue
queue line letter = record { line = line; name = letter ∷ []; mode = Threaded }

-- A batch fills Y, and then copies the first half of X to it; another fills X and signals. The wait for this signal holds
-- back the first batch from a place on.
abbrev pub held_from : ℕ → Script
held_from k =
    record {
      version = 2;
      buffers = record { line = 2; name = 88 ∷ []; size = 8 } ∷ record { line = 3; name = 89 ∷ []; size = 8 } ∷ [];
      semaphores = record { line = 4; name = 65 ∷ []; kind = Timeline 0 } ∷ [];
      queues = queue 5 80 ∷ queue 6 81 ∷ [];
      jobs = Batch (record {
        line = 7;
        queue = 0;
        waits = record { line = 8; semaphore = 0; value = 1; from = k } ∷ [];
        commands = record { line = 9; command = Fill 1 0 (Count 8) 5 } ∷ record { line = 10; command = Copy 0 0 1 0 4 } ∷ [];
        signals = [];
        fence = None;
      })
          ∷ Batch (record {
            line = 12;
            queue = 1;
            waits = [];
            commands = record { line = 13; command = Fill 0 0 (Count 8) 9 } ∷ [];
            signals = record { line = 14; semaphore = 0; value = 1; from = 1 } ∷ [];
            fence = None;
          })
          ∷ [];
      scheduled = false;
      turns = [];
    }

-- the plan of such a script
abbrev pub held : ℕ → Plan
held k = plan_of (held_from k)

-- the wait holds back the copy

abbrev copy_held : Plan
copy_held = plan_of (held_from 2)

copy_held_lowers : lowering_fault (held_from 2) ≡ None
copy_held_lowers = refl

copy_held_order : slow_order copy_held ≡ 1 ∷ 0 ∷ []
copy_held_order = refl

copy_held_edges : edges_to copy_held 0 ≡ 1 ∷ []
copy_held_edges = refl

-- no edge leads to the place of the fill, one to that of the copy
fill_free : edges_at copy_held 0 (At 1) ≡ []
fill_free = refl

copy_waits : edges_at copy_held 0 (At 2) ≡ 1 ∷ []
copy_waits = refl

copy_held_final : final copy_held ≡ (9 ∷ 0 ∷ 0 ∷ 0 ∷ 9 ∷ 0 ∷ 0 ∷ 0 ∷ []) ∷ (9 ∷ 0 ∷ 0 ∷ 0 ∷ 5 ∷ 0 ∷ 0 ∷ 0 ∷ []) ∷ []
copy_held_final = refl

fill_before_copy : HappensBeforeCommand copy_held 1 0 1
fill_before_copy = one (record { edge = refl; earlier = refl })

copy_held_chains : KeepsChains copy_held
copy_held_chains zero = (omega arith, tt)
copy_held_chains (suc t) = tt

-- the commands of the two jobs
first_commands : (c : ℕ) → has (0 ∷ 1 ∷ []) c ≡ true → (0 ≡ c) ⊎ (1 ≡ c)
first_commands c h = elim (has_cases 0 (1 ∷ []) c h) [ inl e ↦ inl e | inr m ↦ elim (has_cases 1 [] c m) [ inl e ↦ inr e | inr n ↦ absurd (false≢true n) ] ]

second_commands : (c : ℕ) → has (2 ∷ []) c ≡ true → 2 ≡ c
second_commands c h = elim (has_cases 2 [] c h) [ inl e ↦ e | inr n ↦ absurd (false≢true n) ]

copy_held_no_race : HasNoRace copy_held
copy_held_no_race c d zero zero hc hd n x = absurd (n refl)
copy_held_no_race c d zero (suc zero) hc hd n x =
    let ed : 2 ≡ d = second_commands d hd in
    elim (first_commands c hc) [
      | inl ec ↦ absurd (false≢true (ap (λ z. conflicts copy_held z 2) ec ∙ (ap (conflicts copy_held c) ed ∙ x)))
      | inr ec ↦ inr (subst (HappensBeforeCommand copy_held 1 0) ec fill_before_copy)
    ]
copy_held_no_race c d (suc zero) zero hc hd n x =
    let ec : 2 ≡ c = second_commands c hc in
    elim (first_commands d hd) [
      | inl ed ↦ absurd (false≢true (ap (conflicts copy_held 2) ed ∙ (ap (λ z. conflicts copy_held z d) ec ∙ x)))
      | inr ed ↦ inl (subst (HappensBeforeCommand copy_held 1 0) ed fill_before_copy)
    ]
copy_held_no_race c d (suc zero) (suc zero) hc hd n x = absurd (n refl)
copy_held_no_race c d (suc (suc i)) j hc hd n x = absurd (false≢true hc)
copy_held_no_race c d zero (suc (suc j)) hc hd n x = absurd (false≢true hd)
copy_held_no_race c d (suc zero) (suc (suc j)) hc hd n x = absurd (false≢true hd)

-- the wait holds back the end alone: the copy and the other batch's fill race

abbrev end_held : Plan
end_held = plan_of (held_from 3)

end_held_reachable : left_over end_held ≡ []
end_held_reachable = refl

end_held_edges : edges_to end_held 0 ≡ 1 ∷ []
end_held_edges = refl

end_held_chains : KeepsChains end_held
end_held_chains zero = (omega arith, tt)
end_held_chains (suc t) = tt

-- no edge, no path
no_path : (p : Plan) (i j : ℕ) (k : Stage) → edges_at p j k ≡ [] → ¬ HappensBeforeAt p i j k
no_path p i j k e (one h) = false≢true (ap (λ zs. has zs i) (sym e) ∙ h.edge)
no_path p i j k e (more {h = q} b h) = false≢true (ap (λ zs. has zs q) (sym e) ∙ h.edge)

end_held_race : IsRaceAt end_held 10 13
end_held_race =
    record {
      first = 1;
      second = 2;
      race = record {
        first_job = 0;
        second_job = 1;
        first = refl;
        second = refl;
        two_jobs = λ e. absurd (omega arith);
        conflict = refl;
        unordered = no_path end_held 0 1 (At 1) refl;
        unordered_back = no_path end_held 1 0 (At 2) refl;
      };
      in_order = omega arith;
      first_line = refl;
      second_line = refl;
    }

-- Two neighbours in a chain of at most one operation

no_neighbours : (xs : List ℕ) (place e f : ℕ) → length xs ≤ 1 → slice_get xs place ≡ Some e → slice_get xs (place + 1) ≡ Some f → ⊥
no_neighbours xs place e f l a b = none_some (slice_get_past xs (place + 1) (omega arith)) b
  where
    none_some : slice_get xs (place + 1) ≡ None → slice_get xs (place + 1) ≡ Some f → ⊥
    none_some n s = cc

held_short : (k t : ℕ) → length (chain (held k) t) ≤ 1
held_short k zero = omega arith
held_short k (suc t) = omega arith

held_neighbours : (k t e f : ℕ) → AreNeighbours (held k) t e f → ⊥
held_neighbours k t e f n = no_neighbours (chain (held k) t) n.place e f (held_short k t) n.first n.second

held_too_low : (k t e : ℕ) → chain_of (held k) e ≡ Some t → value (held k) e ≤ initial (held k) t → ⊥
held_too_low k t zero c l =
    let i : 0 ≡ t = cc in
    let m : value (held k) 0 ≤ initial (held k) 0 = subst (λ z. value (held k) 0 ≤ initial (held k) z) (sym i) l in
    absurd (omega arith)
held_too_low k t (suc e) c l = cc

held_binary : (k i place : ℕ) (n : Need) → slice_get (needs (held k) i) place ≡ Some n → kind_of (held_from k) n.chain ≡ Some Binary → ⊥
held_binary k zero zero n s b = timeline_binary (ap (λ o. option_map_or (λ m. kind_of (held_from k) m.chain) o (Some Binary)) s ∙ b)
  where
    timeline_binary : Some (Timeline 0) ≡ Some Binary → ⊥
    timeline_binary e = cc
held_binary k zero (suc place) n s b = cc
held_binary k (suc zero) place n s b = cc
held_binary k (suc (suc i)) place n s b = cc

held_ordered : (k : ℕ) → NoLines (IsUnordered (held k))
held_ordered k a b (too_low t e i c l) = held_too_low k t e c l
held_ordered k a b (equal t e f i n v) = held_neighbours k t e f n
held_ordered k a b (unsure t e f j i n o u l) = held_neighbours k t e f n
held_ordered k a b (unsure_back t e f j i n o u l) = held_neighbours k t e f n
held_ordered k a b (unawaited n e i j place s q x o d u) = held_binary k i place n s q

held_no_reset : (k j f : ℕ) → option_map_or (resets_fence f) (slice_get (held_from k).jobs j) false ≡ true → ⊥
held_no_reset k zero f h = false≢true h
held_no_reset k (suc zero) f h = false≢true h
held_no_reset k (suc (suc j)) f h = false≢true h

held_not_immediate : (k j : ℕ) → is_immediate_batch (held k) j ≡ true → ⊥
held_not_immediate k zero h = false≢true h
held_not_immediate k (suc zero) h = false≢true h
held_not_immediate k (suc (suc j)) h = false≢true h

-- the one pair of commands of two jobs that conflict
end_held_pair : (c d i j : ℕ) → has (commands_of end_held i) c ≡ true → has (commands_of end_held j) d ≡ true → i ≢ j → conflicts end_held c d ≡ true → ((1 ≡ c) × (2 ≡ d)) ⊎ ((2 ≡ c) × (1 ≡ d))
end_held_pair c d zero zero hc hd n x = absurd (n refl)
end_held_pair c d zero (suc zero) hc hd n x =
    let ed : 2 ≡ d = second_commands d hd in
    elim (first_commands c hc) [
      | inl ec ↦ absurd (false≢true (ap (λ z. conflicts end_held z 2) ec ∙ (ap (conflicts end_held c) ed ∙ x)))
      | inr ec ↦ inl (ec, ed)
    ]
end_held_pair c d (suc zero) zero hc hd n x =
    let ec : 2 ≡ c = second_commands c hc in
    elim (first_commands d hd) [
      | inl ed ↦ absurd (false≢true (ap (conflicts end_held 2) ed ∙ (ap (λ z. conflicts end_held z d) ec ∙ x)))
      | inr ed ↦ inr (ec, ed)
    ]
end_held_pair c d (suc zero) (suc zero) hc hd n x = absurd (n refl)
end_held_pair c d (suc (suc i)) j hc hd n x = absurd (false≢true hc)
end_held_pair c d zero (suc (suc j)) hc hd n x = absurd (false≢true hd)
end_held_pair c d (suc zero) (suc (suc j)) hc hd n x = absurd (false≢true hd)

end_held_least : (a b : ℕ) → IsRaceAt end_held a b → (13 < b) ⊎ ((13 ≡ b) × (10 ≤ a))
end_held_least a b r =
    let q = r.race in
    elim (end_held_pair r.first r.second q.first_job q.second_job q.first q.second q.two_jobs q.conflict) [
      | inl e ↦ inr (ap (line_of_command end_held) e.1 ∙ sym r.second_line, at_least (ap (line_of_command end_held) e.0 ∙ sym r.first_line))
      | inr e ↦
          let o : 13 ≤ 10 = subst (λ z. 13 ≤ line_of_command end_held z) (sym e.1) (subst (λ z. line_of_command end_held z ≤ line_of_command end_held r.second) (sym e.0) r.in_order) in
          absurd (omega arith)
    ]
  where
    at_least : 10 ≡ a → 10 ≤ a
    at_least e = omega arith

-- the script's first fault
end_held_fault : IsFirstPlanFault end_held (Race 10 13)
end_held_fault =
    (refl, held_ordered 3, (λ line b. held_no_reset 3 b.job b.fence b.effective.resets), (λ line b. held_not_immediate 3 b.job b.immediate), record { holds = end_held_race; least = end_held_least })

-- A run in which the fill comes beside the other batch, before the signal for which the copy waits
copy_held_run : Run copy_held (StartStep 0 ∷ ApplyStep 0 ∷ StartStep 1 ∷ ApplyStep 2 ∷ SignalStep 0 ∷ FinishStep 1 ∷ ApplyStep 1 ∷ FinishStep 0 ∷ [])
copy_held_run = (
  record { exists = omega arith; waiting = refl; ready = refl },
  (
    (0, record { started = refl; unfinished = refl; next = refl; ready = refl }),
    (
      record { exists = omega arith; waiting = refl; ready = refl },
      (
        (1, record { started = refl; unfinished = refl; next = refl; ready = refl }),
        (
          record { job = 1; chain = 0; in_chain = refl; started = refl; unfinished = refl; commands = refl; next = refl; ready = refl; rises = omega arith },
          (
            record { done = record { started = refl; unfinished = refl; commands = refl; signals = refl; ready = refl }; answered = refl },
            (
              (0, record { started = refl; unfinished = refl; next = refl; ready = refl }),
              (
                record { done = record { started = refl; unfinished = refl; commands = refl; signals = refl; ready = refl }; answered = refl },
                tt,
              ),
            ),
          ),
        ),
      ),
    ),
  ),
)

-- A history up to the first command and the reference that the second one needs
copy_held_history : HistoryFrom copy_held (opening_points copy_held) (Submit 0 ∷ Submit 1 ∷ Take 0 0 true ∷ Release 1 ∷ Bind 0 0 ∷ Release 0 ∷ Starts 0 ∷ Applies 0 0 ∷ Refer (Ring 0) 0 0 ∷ [])
copy_held_history = (
  record { batch = refl; waiting = refl; in_order = refl },
  (
    record { batch = refl; waiting = refl; in_order = refl },
    (
      record { job = 1; of_job = refl; chain = 0; in_chain = refl; without = refl; in_turn = refl; point = (refl, refl) },
      (
        record { batch = refl; submitted = refl; waiting = refl; in_order = refl; needs = refl; taken = refl },
        (
          record { job = 1; of_job = refl; chain = 0; in_chain = refl; carries = refl; unbound = refl; ready = refl; in_order = refl },
          (
            record { batch = refl; submitted = refl; waiting = refl; in_order = refl; needs = refl; taken = refl },
            (
              record { exists = omega arith; waiting = refl; lane = refl; ready = refl; idle = refl; released = refl },
              (
                record { started = refl; unfinished = refl; next = refl; ready = refl },
                (
                  record { job = 0; is_next = refl; carries = refl; bound = refl; released = refl; needed = refl; wanted = omega arith },
                  tt,
                ),
              ),
            ),
          ),
        ),
      ),
    ),
  ),
)

-- The reference isn't made before the start
abbrev before_start : PointState
before_start = fold (after_event copy_held) (opening_points copy_held) (Submit 0 ∷ Submit 1 ∷ Take 0 0 true ∷ Release 1 ∷ Bind 0 0 ∷ Release 0 ∷ [])

no_early_reference : ¬ CanRefer copy_held before_start (Ring 0) 0 0
no_early_reference c = false≢true (subst (λ j. list_any (resolves copy_held 0) (needs_now copy_held before_start j) ≡ true) (same_Some c.job 0 (sym c.is_next)) c.needed)

-- The copy isn't applied before the signal
abbrev before_signal : PointState
before_signal = fold (after_event copy_held) before_start (Starts 0 ∷ Applies 0 0 ∷ [])

no_early_copy : (j : ℕ) → ¬ CanApply copy_held before_signal.machine.progress j 1
no_early_copy j c = by_job j c.next c.ready
  where
    by_job : (j : ℕ) → next (has before_signal.machine.progress.applied) (commands_of copy_held j) ≡ Some 1 → are_reached copy_held before_signal.machine.progress.payload j (stage_of copy_held j 1) ≡ true → ⊥
    by_job zero n r = false≢true r
    by_job (suc zero) n r = cc
    by_job (suc (suc j)) n r = cc

-- Two waits of one batch for the two signals of another, the second one held: each is an edge of its own. The first batch
-- may start when the first signal is made, so the second isn't sure for its first place.

abbrev two_waits : Plan
two_waits =
    plan_of (record {
      version = 2;
      buffers = record { line = 2; name = 88 ∷ []; size = 4 } ∷ [];
      semaphores = record { line = 3; name = 65 ∷ []; kind = Timeline 0 } ∷ record { line = 4; name = 66 ∷ []; kind = Timeline 0 } ∷ [];
      queues = queue 5 80 ∷ queue 6 81 ∷ [];
      jobs = Batch (record {
        line = 7;
        queue = 0;
        waits = record { line = 8; semaphore = 0; value = 1; from = 1 } ∷ record { line = 9; semaphore = 1; value = 1; from = 2 } ∷ [];
        commands = record { line = 10; command = Fill 0 0 (Count 4) 1 } ∷ [];
        signals = [];
        fence = None;
      })
          ∷ Batch (record {
            line = 12;
            queue = 1;
            waits = [];
            commands = [];
            signals = record { line = 13; semaphore = 0; value = 1; from = 1 } ∷ record { line = 14; semaphore = 1; value = 1; from = 1 } ∷ [];
            fence = None;
          })
          ∷ [];
      scheduled = false;
      turns = [];
    })

two_waits_run : Run two_waits (StartStep 1 ∷ SignalStep 0 ∷ StartStep 0 ∷ [])
two_waits_run = (
  record { exists = omega arith; waiting = refl; ready = refl },
  (
    record { job = 1; chain = 0; in_chain = refl; started = refl; unfinished = refl; commands = refl; next = refl; ready = refl; rises = omega arith },
    (record { exists = omega arith; waiting = refl; ready = refl }, tt),
  ),
)

two_waits_started : (state_after two_waits (StartStep 1 ∷ SignalStep 0 ∷ StartStep 0 ∷ [])).progress.started 0 ≡ true
two_waits_started = refl

two_waits_unmade : (state_after two_waits (StartStep 1 ∷ SignalStep 0 ∷ StartStep 0 ∷ [])).progress.made 1 ≡ false
two_waits_unmade = refl

second_not_sure : ¬ IsSureAt two_waits 1 0 (At 1)
second_not_sure (finished_first f) = false≢true f.first
second_not_sure (waited_for f) =
    elim (has_cases 0 [] f.by_op f.waits) [
      | inl e ↦ let l = f.at_or_later in absurd (omega arith)
      | inr m ↦ false≢true m
    ]
second_not_sure (passed_on {i = i} s h) =
    elim (has_cases 1 [] i h.edge) [
      | inl e ↦ nothing_sure (subst (λ z. IsSureAt two_waits 1 z AtEnd) (sym e) s)
      | inr m ↦ false≢true m
    ]
  where
    nothing_sure : IsSureAt two_waits 1 1 AtEnd → ⊥
    nothing_sure (finished_first f) = false≢true f.first
    nothing_sure (waited_for f) = false≢true f.waits
    nothing_sure (passed_on t g) = false≢true g.edge

second_sure : IsSureAt two_waits 1 0 (At 2)
second_sure = waited_for (record { job = 1; of_job = refl; by_op = 1; same_job = refl; at_or_later = omega arith; waits = refl; earlier = refl })

-- The run leaves the bytes of the slow run, in another order of commands.
copy_held_applied : (state_after copy_held (StartStep 0 ∷ ApplyStep 0 ∷ StartStep 1 ∷ ApplyStep 2 ∷ SignalStep 0 ∷ FinishStep 1 ∷ ApplyStep 1 ∷ FinishStep 0 ∷ [])).progress.applied ≡ 0 ∷ 2 ∷ 1 ∷ []
copy_held_applied = refl

copy_held_slow : flat_map (commands_of copy_held) (slow_order copy_held) ≡ 2 ∷ 0 ∷ 1 ∷ []
copy_held_slow = refl

copy_held_same : bytes_after copy_held (0 ∷ 2 ∷ 1 ∷ []) ≡ final copy_held
copy_held_same = refl

-- so the premises of the laws are met

copy_held_race_free : NoLines (IsRaceAt copy_held)
copy_held_race_free a b r =
    let q = r.race in
    elim (copy_held_no_race r.first r.second q.first_job q.second_job q.first q.second q.two_jobs q.conflict) [ inl o ↦ q.unordered o | inr o ↦ q.unordered_back o ]

copy_held_lawful : IsLawful copy_held
copy_held_lawful =
    record {
      reachable = refl;
      ordered = held_ordered 2;
      resettable = λ line b. held_no_reset 2 b.job b.fence b.effective.resets;
      pending = λ line b. held_not_immediate 2 b.job b.immediate;
      race_free = copy_held_race_free;
    }

copy_held_valid : IsValid (held_from 2)
copy_held_valid = record { version = inr refl; signals = signals; commands = commands; limits = limits }
  where
    signals : (e : ℕ) (x : Signaling) → slice_get (all_signals (held_from 2)) e ≡ Some x → x.semaphore < 1
    signals zero x h = some_below (ap (option_map (λ y. y.semaphore)) h)
      where
        some_below : Some 0 ≡ Some x.semaphore → x.semaphore < 1
        some_below q = let i : 0 ≡ x.semaphore = cc in omega arith
    signals (suc e) x h = cc

    limits : KeepsLimits (held_from 2)
    limits = record { buffers = omega arith; bytes = omega arith; semaphores = omega arith; queues = omega arith; jobs = omega arith; commands = omega arith }

    of_command : (o : Option CommandLine) (x : CommandLine) → o ≡ Some x → IfSome o (λ y. Fits (8 ∷ 8 ∷ []) y.command) → Fits (8 ∷ 8 ∷ []) x.command
    of_command o x h f = let P : Option CommandLine → Type 0 = λ z. IfSome z (λ y. Fits (8 ∷ 8 ∷ []) y.command) in subst P h f

    fits : (j k : ℕ) → IfSome (option_map_or (λ job. slice_get (batch_commands job) k) (slice_get (held_from 2).jobs j) None) (λ y. Fits (8 ∷ 8 ∷ []) y.command)
    fits zero zero = record { written = record { exists = omega arith; ends = omega arith }; read = tt; aligned = refl; apart = refl }
    fits zero (suc zero) = record { written = record { exists = omega arith; ends = omega arith }; read = record { exists = omega arith; ends = omega arith }; aligned = refl; apart = refl }
    fits zero (suc (suc k)) = tt
    fits (suc zero) zero = record { written = record { exists = omega arith; ends = omega arith }; read = tt; aligned = refl; apart = refl }
    fits (suc zero) (suc k) = tt
    fits (suc (suc j)) k = tt

    commands : (j k : ℕ) (job : Job) (x : CommandLine) → slice_get (held_from 2).jobs j ≡ Some job → slice_get (batch_commands job) k ≡ Some x → Fits (8 ∷ 8 ∷ []) x.command
    commands j k job x hj hk =
        of_command (option_map_or (λ z. slice_get (batch_commands z) k) (slice_get (held_from 2).jobs j) None) x (ap (λ o. option_map_or (λ z. slice_get (batch_commands z) k) o None) hj ∙ hk) (fits j k)

copy_held_well_formed : IsWellFormed copy_held
copy_held_well_formed = well_formed (held_from 2) copy_held_valid

copy_held_result : HasOneResult copy_held
copy_held_result =
    one_result copy_held copy_held_well_formed (record { reachable = refl; chains = copy_held_chains; no_race = copy_held_no_race })

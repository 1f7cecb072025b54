-- Small schedules: the outcomes of their turns, each by evaluation.
use Rattle.std.proofs.Common.{◌≡◌, ℕ, List, [], ◌∷◌, ◌++◌, None, false, true, refl, zero, suc}
use Rattle.vq_model.specs.declared.script.Script.{Script}
use Rattle.vq_model.specs.declared.script.ActorName.{ActorName}
use Rattle.vq_model.specs.declared.script.ActorName.TheVariants.{Host as HostActor, Submit as SubmitActor}
use Rattle.vq_model.specs.declared.script.ActorName.TheVariants.{Ring as RingActor}
use Rattle.vq_model.specs.declared.script.SemaphoreKind.TheVariants.{Timeline}
use Rattle.vq_model.specs.declared.script.Queue.{Queue}
use Rattle.vq_model.specs.declared.script.Mode.{Mode}
use Rattle.vq_model.specs.declared.script.Mode.TheVariants.{Threaded, Immediate, Deferred}
use Rattle.vq_model.specs.declared.script.Job.{Job}
use Rattle.vq_model.specs.declared.script.Job.TheVariants.{Batch, Host}
use Rattle.vq_model.specs.declared.script.HostStep.{HostStep}
use Rattle.vq_model.specs.declared.script.HostStep.TheVariants.{Signal as HostSignal, Read, WaitAny}
use Rattle.vq_model.specs.declared.script.Mark.{Mark}
use Rattle.vq_model.specs.declared.script.CommandLine.{CommandLine}
use Rattle.vq_model.specs.declared.script.Command.TheVariants.{Fill}
use Rattle.vq_model.specs.declared.script.FillSize.TheVariants.{Count}
use Rattle.vq_model.specs.declared.plan.Answer.TheVariants.{Value, Reached}
use Rattle.vq_model.specs.declared.plan.Event.TheVariants.{Submit, Take, Release, Bind, Refer, Look, Unref, Complete}
use Rattle.vq_model.specs.declared.plan.Event.TheVariants.{Free, Start, Apply, Signal, Finish, Answer}
use Rattle.vq_model.specs.Lowering.{plan_of}
use Rattle.vq_point_laws.specs.Points.{opening_points}
use Rattle.vq_turns.specs.declared.outcome.Outcome.{Outcome}
use Rattle.vq_turns.specs.declared.outcome.Outcome.TheVariants.{Moved, Blocked, Ended}
use Rattle.vq_turns.specs.declared.outcome.Want.TheVariants.{Submitted, Released, Bound, Signaled}
use Rattle.vq_turns.specs.Turns.{played_from, first_scene}

abbrev times : ℕ → ActorName → List ActorName
times zero a = []
times (suc n) a = a ∷ times n a

abbrev pub script : List Mode → List Job → Script
script modes jobs =
    record {
      version = 2;
      buffers = record { line = 1; name = 88 ∷ []; size = 4 } ∷ [];
      semaphores = record { line = 2; name = 65 ∷ []; kind = Timeline 0 } ∷ record
          { line = 2; name = 66 ∷ []; kind = Timeline 0 } ∷ [];
      queues = queues_of modes;
      jobs = jobs;
      scheduled = false;
      turns = [];
    }
  where
    queues_of : List Mode → List Queue
    queues_of [] = []
    queues_of (m ∷ ms) = record { line = 3; name = 80 ∷ []; mode = m } ∷ queues_of ms

abbrev pub wait : ℕ → ℕ → Mark
wait value from = record { line = 1; semaphore = 0; value = value; from = from }

abbrev signal : ℕ → Mark
signal value = record { line = 1; semaphore = 0; value = value; from = 1 }

abbrev fill : CommandLine
fill = record { line = 6; command = Fill 0 0 (Count 4) 1 }

abbrev pub batch : ℕ → ℕ → List Mark → List CommandLine → List Mark → Job
batch line q waits commands signals = Batch
    (record { line = line; queue = q; waits = waits; commands = commands; signals = signals; fence = None })

abbrev host : ℕ → HostStep → Job
host line step = Host (record { line = line; step = step })

abbrev played : Script → List ActorName → List Outcome
played s turns = played_from (plan_of s) (first_scene (opening_points (plan_of s))) turns

-- A point is completed while it is referenced, and used again once it is freed.
abbrev three_signals : Script
three_signals =
    script
    (Threaded ∷ Threaded ∷ [])
    (batch 5 0 [] (fill ∷ []) (signal 1 ∷ []) ∷ batch 9 1 (wait 1 1 ∷ []) [] [] ∷ batch 12 0 [] []
    (signal 2 ∷ []) ∷ batch 15 0 [] [] (signal 3 ∷ []) ∷ [])

three_signals_played : played
    three_signals
    (HostActor ∷ times 3 (SubmitActor 0) ++ HostActor ∷ SubmitActor 1 ∷ RingActor 1 ∷ times 4
    (RingActor 0) ++ HostActor ∷ times 4 (SubmitActor 0) ++ times 2 (RingActor 1) ++ HostActor ∷ times 2
    (SubmitActor 0))
    ≡ Moved (Submit 0) ∷ Moved (Take 0 0 true) ∷ Moved (Release 0) ∷ Moved (Bind 0 0) ∷ Moved (Submit 1) ∷ Moved
    (Release 1) ∷ Moved (Refer (RingActor 1) 0 0) ∷ Moved (Start 0) ∷ Moved (Apply 0 0) ∷ Moved (Signal 0) ∷ Moved
    (Finish 0) ∷ Moved (Submit 2) ∷ Moved (Complete 0) ∷ Moved (Take 1 1 true) ∷ Moved (Release 2) ∷ Moved
    (Bind 1 1) ∷ Moved (Look (RingActor 1) 0 0) ∷ Moved (Unref (RingActor 1) 0 0) ∷ Moved (Submit 3) ∷ Moved
    (Free 0) ∷ Moved (Take 2 0 false) ∷ []
three_signals_played = refl

-- A ring without a released batch is blocked; one turn on an empty schedule is none.
blocked_ring : played (script (Threaded ∷ []) (batch 4 0 [] [] [] ∷ [])) (RingActor 0 ∷ SubmitActor 0 ∷ []) ≡ Blocked
    (Released 0) ∷ Blocked (Submitted 0) ∷ []
blocked_ring = refl

no_turns : played (script (Threaded ∷ []) (batch 4 0 [] [] [] ∷ [])) [] ≡ []
no_turns = refl

-- The host moves the batches of an immediate queue.
immediate : played (script (Immediate ∷ []) (batch 3 0 [] (fill ∷ []) [] ∷ []))
    (times 2 HostActor ++ times 4 (RingActor 0))
    ≡ Moved (Submit 0) ∷ Moved (Release 0) ∷ Moved (Start 0) ∷ Moved (Apply 0 0) ∷ Moved (Finish 0) ∷ Ended ∷ []
immediate = refl

-- The host signals and reads.
host_reads : played (script [] (host 2 (HostSignal (record { semaphore = 0; value = 1 })) ∷ host 3 (Read 0) ∷ []))
    (times 11 HostActor)
    ≡ Moved (Start 0) ∷ Moved (Take 0 0 true) ∷ Moved (Bind 0 0) ∷ Moved (Signal 0) ∷ Moved (Finish 0) ∷ Moved
    (Start 1) ∷ Moved (Complete 0) ∷ Moved (Free 0) ∷ Moved (Answer 1 (Value 1)) ∷ Moved (Finish 1) ∷ Ended ∷ []
host_reads = refl

-- The host serves a deferred queue.
deferred : played (script (Deferred ∷ []) (batch 3 0 [] [] (signal 1 ∷ []) ∷ []))
    (times 5 HostActor ++ times 4 (RingActor 0))
    ≡ Moved (Submit 0) ∷ Moved (Take 0 0 true) ∷ Moved (Release 0) ∷ Moved (Bind 0 0) ∷ Ended ∷ Moved (Start 0) ∷ Moved
    (Signal 0) ∷ Moved (Finish 0) ∷ Ended ∷ []
deferred = refl

-- A held wait: the ring starts and applies a command, and then waits.
held : played
    (script (Threaded ∷ Threaded ∷ [])
    (batch 7 0 (wait 1 2 ∷ []) (fill ∷ fill ∷ []) [] ∷ batch 12 1 [] (fill ∷ []) (signal 1 ∷ []) ∷ []))
    (times 2 HostActor ++ times 3 (SubmitActor 1) ++ SubmitActor 0 ∷ times 4 (RingActor 0))
    ≡ Moved (Submit 0) ∷ Moved (Submit 1) ∷ Moved (Take 0 0 true) ∷ Moved (Release 1) ∷ Moved (Bind 0 0) ∷ Moved
    (Release 0) ∷ Moved (Start 0) ∷ Moved (Apply 0 0) ∷ Moved (Refer (RingActor 0) 0 0) ∷ Blocked (Signaled 0) ∷ []
held = refl

-- A wait for any of two pairs: nothing ever reaches the first, and the second is met by collection or by a look.
waits_any : played
    (script (Threaded ∷ [])
    (batch 4 0 [] [] (signal 1 ∷ []) ∷ host 8
    (WaitAny (record { semaphore = 1; value = 1 } ∷ record { semaphore = 0; value = 1 } ∷ [])) ∷ []))
    (times 2 HostActor ++ times 3 (SubmitActor 0) ++ times 2 HostActor ++ times 3 (RingActor 0) ++ times 6 HostActor)
    ≡ Moved (Submit 0) ∷ Blocked (Bound 0) ∷ Moved (Take 0 0 true) ∷ Moved (Release 0) ∷ Moved (Bind 0 0) ∷ Moved
    (Refer HostActor 0 0) ∷ Blocked (Signaled 0) ∷ Moved (Start 0) ∷ Moved (Signal 0) ∷ Moved (Finish 0) ∷ Moved
    (Look HostActor 0 0) ∷ Moved (Unref HostActor 0 0) ∷ Moved (Start 1) ∷ Moved (Answer 1 Reached) ∷ Moved
    (Finish 1) ∷ Ended ∷ []
waits_any = refl

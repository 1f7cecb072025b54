-- Small scripts, lowered and run slowly: each line holds by evaluation.
use Rattle.std.proofs.Common.{ℕ, [], ◌∷◌, List, Option, false, None, ◌≡◌, refl, Some}
use Rattle.vq_model.specs.declared.script.Queue.{Queue}
use Rattle.vq_model.specs.declared.script.Mode.TheVariants.{Threaded}
use Rattle.vq_model.specs.declared.script.Mark.{Mark}
use Rattle.vq_model.specs.declared.script.Command.TheVariants.{Fill}
use Rattle.vq_model.specs.declared.script.CommandLine.{CommandLine}
use Rattle.vq_model.specs.declared.script.FillSize.TheVariants.{Count}
use Rattle.vq_model.specs.declared.script.Job.{Job}
use Rattle.vq_model.specs.declared.script.Job.TheVariants.{Batch, Host}
use Rattle.vq_model.specs.declared.script.Script.{Script}
use Rattle.vq_model.specs.declared.script.Semaphore.{Semaphore}
use Rattle.vq_model.specs.declared.script.SemaphoreKind.{SemaphoreKind}
use Rattle.vq_model.specs.declared.script.SemaphoreKind.TheVariants.{Binary, Timeline, Fence}
use Rattle.vq_model.specs.LoweringFaults.{lowering_fault, SignaledTwice, NoSignal, FenceUsed}
use Rattle.vq_model.specs.EdgeReasons.{edges_to}
use Rattle.vq_model.specs.Lowering.{plan_of}
use Rattle.vq_model.specs.SlowRun.{final, slow_order, left_over}
use Rattle.std.specs.Prelude.{codes}
use Rattle.vq_model.specs.OutputText.{hex_lines}
use Rattle.vq_model.specs.Plan.{resolver}
use Rattle.vq_model.specs.declared.script.HostStep.TheVariants.{WaitAll, FenceReset, FencePoll}

abbrev queue : ℕ → ℕ → Queue
queue line letter = record { line = line; name = letter ∷ []; mode = Threaded }

abbrev at : ℕ → ℕ → ℕ → Mark
at line semaphore value = record { line = line; semaphore = semaphore; value = value; from = 1 }

abbrev fill : ℕ → ℕ → CommandLine
fill line word = record { line = line; command = Fill 0 0 (Count 4) word }

abbrev batch : ℕ → ℕ → List Mark → List CommandLine → List Mark → Option Mark → Job
batch line q waits commands signals fence =
    Batch (record { line = line; queue = q; waits = waits; commands = commands; signals = signals; fence = fence })

abbrev script : List SemaphoreKind → List Job → Script
script kinds jobs =
    record {
      version = 1;
      buffers = record { line = 1; name = 88 ∷ []; size = 4 } ∷ [];
      semaphores = named kinds;
      queues = queue 3 80 ∷ queue 4 81 ∷ [];
      jobs = jobs;
      scheduled = false;
      turns = [];
    }
  where
    named : List SemaphoreKind → List Semaphore
    named [] = []
    named (k ∷ ks) = record { line = 2; name = 83 ∷ []; kind = k } ∷ named ks

-- A binary semaphore goes back and forth between two queues.
abbrev ping_pong : Script
ping_pong =
    script (Binary ∷ []) (batch 5 0 [] (fill 6 1 ∷ []) (at 7 0 0 ∷ []) None ∷ batch 9 1 (at 10 0 0 ∷ []) (fill 11 2 ∷ []) (at 12 0 0 ∷ []) None ∷ batch 14 0 (at 15 0 0 ∷ []) (fill 16 3 ∷ []) [] None ∷ [])

ping_pong_lawful : lowering_fault ping_pong ≡ None
ping_pong_lawful = refl

ping_pong_edges : edges_to (plan_of ping_pong) 2 ≡ 0 ∷ 1 ∷ []
ping_pong_edges = refl

ping_pong_final : final (plan_of ping_pong) ≡ (3 ∷ 0 ∷ 0 ∷ 0 ∷ []) ∷ []
ping_pong_final = refl

some_hex : hex_lines (3 ∷ 0 ∷ 0 ∷ 0 ∷ 5 ∷ 6 ∷ 7 ∷ 8 ∷ 9 ∷ 10 ∷ 11 ∷ 12 ∷ 13 ∷ 14 ∷ 15 ∷ 16 ∷ 255 ∷ []) ≡ codes "0300000005060708090a0b0c0d0e0f10\nff\n"
some_hex = refl

-- a wait is resolved by the first value that is great enough
abbrev two_signals : Script
two_signals =
    script (Timeline 0 ∷ []) (batch 5 0 (at 6 0 3 ∷ []) (fill 7 5 ∷ []) [] None ∷ batch 9 1 [] [] (at 10 0 2 ∷ []) None ∷ batch 12 1 [] [] (at 13 0 7 ∷ []) None ∷ [])

two_signals_resolver : resolver (plan_of two_signals) 0 3 ≡ Some 1
two_signals_resolver = refl

two_signals_none : resolver (plan_of two_signals) 0 8 ≡ None
two_signals_none = refl

two_signals_order : slow_order (plan_of two_signals) ≡ 1 ∷ 2 ∷ 0 ∷ []
two_signals_order = refl

two_signals_final : final (plan_of two_signals) ≡ (5 ∷ 0 ∷ 0 ∷ 0 ∷ []) ∷ []
two_signals_final = refl

-- faults
twice : lowering_fault (script (Binary ∷ []) (batch 3 0 [] [] (at 4 0 0 ∷ []) None ∷ batch 6 0 [] [] (at 7 0 0 ∷ []) None ∷ [])) ≡ Some (7, SignaledTwice)
twice = refl

unsignaled : lowering_fault (script (Binary ∷ []) (batch 3 0 (at 4 0 0 ∷ []) [] [] None ∷ [])) ≡ Some (4, NoSignal)
unsignaled = refl

used : lowering_fault (script (Fence ∷ []) (batch 3 0 [] [] [] (Some (at 4 0 0)) ∷ batch 6 0 [] [] [] (Some (at 7 0 0)) ∷ [])) ≡ Some (7, FenceUsed)
used = refl

-- a wait for a value that nothing signals is left over
abbrev too_high : Script
too_high = script (Timeline 0 ∷ []) (batch 3 0 [] [] (at 4 0 4 ∷ []) None ∷ Host (record { line = 6; step = WaitAll (record { semaphore = 0; value = 5 } ∷ []) }) ∷ [])

too_high_left : left_over (plan_of too_high) ≡ 1 ∷ []
too_high_left = refl

-- a fence that was reset is used again: its second naming is value 2, and a poll after the reset asks for that
abbrev reset : Script
reset =
    script (Fence ∷ []) (batch 5 0 [] [] [] (Some (at 6 0 0)) ∷ Host (record { line = 8; step = FenceReset 0 }) ∷ Host (record { line = 9; step = FencePoll 0 }) ∷ batch 10 0 [] [] [] (Some (at 11 0 0)) ∷ [])

reset_lawful : lowering_fault reset ≡ None
reset_lawful = refl

reset_values : resolver (plan_of reset) 0 2 ≡ Some 1
reset_values = refl

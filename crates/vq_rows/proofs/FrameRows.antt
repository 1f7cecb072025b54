-- A frame loop: upload, work and readback on three queues, three frames in flight, one fence a frame, four frames.
use Rattle.std.proofs.Common.{ℕ, List, [], ◌∷◌, false, Some, None, ◌≡◌, refl}
use Rattle.vq_model.specs.declared.script.Script.{Script}
use Rattle.vq_model.specs.declared.script.SemaphoreKind.TheVariants.{Timeline, Fence}
use Rattle.vq_model.specs.declared.script.Mode.TheVariants.{Threaded}
use Rattle.vq_model.specs.declared.script.Job.{Job}
use Rattle.vq_model.specs.declared.script.Job.TheVariants.{Host, Batch}
use Rattle.vq_model.specs.declared.script.HostStep.TheVariants.{FenceWait, FenceReset, Idle, Read}
use Rattle.vq_model.specs.declared.script.Command.TheVariants.{Fill, Update, Copy}
use Rattle.vq_model.specs.declared.script.FillSize.TheVariants.{Count}
use Rattle.vq_model.specs.LoweringFaults.{lowering_fault, FenceUsed}
use Rattle.vq_model.specs.SlowRun.{left_over, final}
use Rattle.vq_model.specs.Lowering.{plan_of}
use Rattle.std.specs.Prelude.{codes, ◌++◌}

-- sixteen times a byte
abbrev sixteen : ℕ → List ℕ
sixteen b = b ∷ b ∷ b ∷ b ∷ b ∷ b ∷ b ∷ b ∷ b ∷ b ∷ b ∷ b ∷ b ∷ b ∷ b ∷ b ∷ []

-- a word and twelve times a byte
abbrev worked : ℕ → ℕ → List ℕ
worked w b = w ∷ 0 ∷ 0 ∷ 0 ∷ b ∷ b ∷ b ∷ b ∷ b ∷ b ∷ b ∷ b ∷ b ∷ b ∷ b ∷ b ∷ []

abbrev loop : List Job → Script
loop jobs =
    record {
      version = 1;
      buffers = record { line = 1; name = 73 ∷ 48 ∷ []; size = 16 } ∷ record { line = 2; name = 73 ∷ 49 ∷ []; size = 16 } ∷ record { line = 3; name = 73 ∷ 50 ∷ []; size = 16 } ∷ record { line = 4; name = 87 ∷ []; size = 16 } ∷ record { line = 5; name = 79 ∷ 48 ∷ []; size = 16 } ∷ record { line = 6; name = 79 ∷ 49 ∷ []; size = 16 } ∷ record { line = 7; name = 79 ∷ 50 ∷ []; size = 16 } ∷ [];
      semaphores = record { line = 8; name = 84 ∷ 85 ∷ []; kind = Timeline 0 } ∷ record { line = 9; name = 84 ∷ 71 ∷ []; kind = Timeline 0 } ∷ record { line = 10; name = 84 ∷ 68 ∷ []; kind = Timeline 0 } ∷ record { line = 11; name = 70 ∷ 48 ∷ []; kind = Fence } ∷ record { line = 12; name = 70 ∷ 49 ∷ []; kind = Fence } ∷ record { line = 13; name = 70 ∷ 50 ∷ []; kind = Fence } ∷ [];
      queues = record { line = 14; name = 85 ∷ []; mode = Threaded } ∷ record { line = 15; name = 71 ∷ []; mode = Threaded } ∷ record { line = 16; name = 68 ∷ []; mode = Threaded } ∷ [];
      jobs = jobs;
      scheduled = false;
      turns = [];
    }

abbrev pub frames : Script
frames =
    loop (
    Batch (record { line = 17; queue = 0; waits = []; commands = record { line = 18; command = Update 0 0 (sixteen 1) } ∷ []; signals = record { line = 19; semaphore = 0; value = 1; from = 1 } ∷ []; fence = None })
    ∷ Batch (record { line = 21; queue = 1; waits = record { line = 22; semaphore = 0; value = 1; from = 1 } ∷ record { line = 23; semaphore = 2; value = 0; from = 1 } ∷ []; commands = record { line = 24; command = Copy 0 0 3 0 16 } ∷ record { line = 25; command = Fill 3 0 (Count 4) 1 } ∷ []; signals = record { line = 26; semaphore = 1; value = 1; from = 1 } ∷ []; fence = None })
    ∷ Batch (record { line = 28; queue = 2; waits = record { line = 29; semaphore = 1; value = 1; from = 1 } ∷ []; commands = record { line = 30; command = Copy 3 0 4 0 16 } ∷ []; signals = record { line = 31; semaphore = 2; value = 1; from = 1 } ∷ []; fence = Some (record { line = 32; semaphore = 3; value = 0; from = 1 }) })
    ∷ Batch (record { line = 34; queue = 0; waits = []; commands = record { line = 35; command = Update 1 0 (sixteen 2) } ∷ []; signals = record { line = 36; semaphore = 0; value = 2; from = 1 } ∷ []; fence = None })
    ∷ Batch (record { line = 38; queue = 1; waits = record { line = 39; semaphore = 0; value = 2; from = 1 } ∷ record { line = 40; semaphore = 2; value = 1; from = 1 } ∷ []; commands = record { line = 41; command = Copy 1 0 3 0 16 } ∷ record { line = 42; command = Fill 3 0 (Count 4) 2 } ∷ []; signals = record { line = 43; semaphore = 1; value = 2; from = 1 } ∷ []; fence = None })
    ∷ Batch (record { line = 45; queue = 2; waits = record { line = 46; semaphore = 1; value = 2; from = 1 } ∷ []; commands = record { line = 47; command = Copy 3 0 5 0 16 } ∷ []; signals = record { line = 48; semaphore = 2; value = 2; from = 1 } ∷ []; fence = Some (record { line = 49; semaphore = 4; value = 0; from = 1 }) })
    ∷ Batch (record { line = 51; queue = 0; waits = []; commands = record { line = 52; command = Update 2 0 (sixteen 3) } ∷ []; signals = record { line = 53; semaphore = 0; value = 3; from = 1 } ∷ []; fence = None })
    ∷ Batch (record { line = 55; queue = 1; waits = record { line = 56; semaphore = 0; value = 3; from = 1 } ∷ record { line = 57; semaphore = 2; value = 2; from = 1 } ∷ []; commands = record { line = 58; command = Copy 2 0 3 0 16 } ∷ record { line = 59; command = Fill 3 0 (Count 4) 3 } ∷ []; signals = record { line = 60; semaphore = 1; value = 3; from = 1 } ∷ []; fence = None })
    ∷ Batch (record { line = 62; queue = 2; waits = record { line = 63; semaphore = 1; value = 3; from = 1 } ∷ []; commands = record { line = 64; command = Copy 3 0 6 0 16 } ∷ []; signals = record { line = 65; semaphore = 2; value = 3; from = 1 } ∷ []; fence = Some (record { line = 66; semaphore = 5; value = 0; from = 1 }) })
    ∷ Host (record { line = 68; step = FenceWait 3 })
    ∷ Host (record { line = 69; step = FenceReset 3 })
    ∷ Batch (record { line = 70; queue = 0; waits = []; commands = record { line = 71; command = Update 0 0 (sixteen 4) } ∷ []; signals = record { line = 72; semaphore = 0; value = 4; from = 1 } ∷ []; fence = None })
    ∷ Batch (record { line = 74; queue = 1; waits = record { line = 75; semaphore = 0; value = 4; from = 1 } ∷ record { line = 76; semaphore = 2; value = 3; from = 1 } ∷ []; commands = record { line = 77; command = Copy 0 0 3 0 16 } ∷ record { line = 78; command = Fill 3 0 (Count 4) 4 } ∷ []; signals = record { line = 79; semaphore = 1; value = 4; from = 1 } ∷ []; fence = None })
    ∷ Batch (record { line = 81; queue = 2; waits = record { line = 82; semaphore = 1; value = 4; from = 1 } ∷ []; commands = record { line = 83; command = Copy 3 0 4 0 16 } ∷ []; signals = record { line = 84; semaphore = 2; value = 4; from = 1 } ∷ []; fence = Some (record { line = 85; semaphore = 3; value = 0; from = 1 }) })
    ∷ Host (record { line = 87; step = Idle })
    ∷ Host (record { line = 88; step = Read 2 })
    ∷ []
    )

lawful : lowering_fault frames ≡ None
lawful = refl

nothing_left : left_over (plan_of frames) ≡ []
nothing_left = refl

bytes : final (plan_of frames) ≡ sixteen 4 ∷ sixteen 2 ∷ sixteen 3 ∷ worked 4 4 ∷ worked 4 4 ∷ worked 2 2 ∷ worked 3 3 ∷ []
bytes = refl

-- without the wait and the reset the fence is used twice
used_twice : lowering_fault (loop (
    Batch (record { line = 17; queue = 0; waits = []; commands = record { line = 18; command = Update 0 0 (sixteen 1) } ∷ []; signals = record { line = 19; semaphore = 0; value = 1; from = 1 } ∷ []; fence = None })
    ∷ Batch (record { line = 21; queue = 1; waits = record { line = 22; semaphore = 0; value = 1; from = 1 } ∷ record { line = 23; semaphore = 2; value = 0; from = 1 } ∷ []; commands = record { line = 24; command = Copy 0 0 3 0 16 } ∷ record { line = 25; command = Fill 3 0 (Count 4) 1 } ∷ []; signals = record { line = 26; semaphore = 1; value = 1; from = 1 } ∷ []; fence = None })
    ∷ Batch (record { line = 28; queue = 2; waits = record { line = 29; semaphore = 1; value = 1; from = 1 } ∷ []; commands = record { line = 30; command = Copy 3 0 4 0 16 } ∷ []; signals = record { line = 31; semaphore = 2; value = 1; from = 1 } ∷ []; fence = Some (record { line = 32; semaphore = 3; value = 0; from = 1 }) })
    ∷ Batch (record { line = 34; queue = 0; waits = []; commands = record { line = 35; command = Update 1 0 (sixteen 2) } ∷ []; signals = record { line = 36; semaphore = 0; value = 2; from = 1 } ∷ []; fence = None })
    ∷ Batch (record { line = 38; queue = 1; waits = record { line = 39; semaphore = 0; value = 2; from = 1 } ∷ record { line = 40; semaphore = 2; value = 1; from = 1 } ∷ []; commands = record { line = 41; command = Copy 1 0 3 0 16 } ∷ record { line = 42; command = Fill 3 0 (Count 4) 2 } ∷ []; signals = record { line = 43; semaphore = 1; value = 2; from = 1 } ∷ []; fence = None })
    ∷ Batch (record { line = 45; queue = 2; waits = record { line = 46; semaphore = 1; value = 2; from = 1 } ∷ []; commands = record { line = 47; command = Copy 3 0 5 0 16 } ∷ []; signals = record { line = 48; semaphore = 2; value = 2; from = 1 } ∷ []; fence = Some (record { line = 49; semaphore = 4; value = 0; from = 1 }) })
    ∷ Batch (record { line = 51; queue = 0; waits = []; commands = record { line = 52; command = Update 2 0 (sixteen 3) } ∷ []; signals = record { line = 53; semaphore = 0; value = 3; from = 1 } ∷ []; fence = None })
    ∷ Batch (record { line = 55; queue = 1; waits = record { line = 56; semaphore = 0; value = 3; from = 1 } ∷ record { line = 57; semaphore = 2; value = 2; from = 1 } ∷ []; commands = record { line = 58; command = Copy 2 0 3 0 16 } ∷ record { line = 59; command = Fill 3 0 (Count 4) 3 } ∷ []; signals = record { line = 60; semaphore = 1; value = 3; from = 1 } ∷ []; fence = None })
    ∷ Batch (record { line = 62; queue = 2; waits = record { line = 63; semaphore = 1; value = 3; from = 1 } ∷ []; commands = record { line = 64; command = Copy 3 0 6 0 16 } ∷ []; signals = record { line = 65; semaphore = 2; value = 3; from = 1 } ∷ []; fence = Some (record { line = 66; semaphore = 5; value = 0; from = 1 }) })
    ∷ Batch (record { line = 68; queue = 0; waits = []; commands = record { line = 69; command = Update 0 0 (sixteen 4) } ∷ []; signals = record { line = 70; semaphore = 0; value = 4; from = 1 } ∷ []; fence = None })
    ∷ Batch (record { line = 72; queue = 1; waits = record { line = 73; semaphore = 0; value = 4; from = 1 } ∷ record { line = 74; semaphore = 2; value = 3; from = 1 } ∷ []; commands = record { line = 75; command = Copy 0 0 3 0 16 } ∷ record { line = 76; command = Fill 3 0 (Count 4) 4 } ∷ []; signals = record { line = 77; semaphore = 1; value = 4; from = 1 } ∷ []; fence = None })
    ∷ Batch (record { line = 79; queue = 2; waits = record { line = 80; semaphore = 1; value = 4; from = 1 } ∷ []; commands = record { line = 81; command = Copy 3 0 4 0 16 } ∷ []; signals = record { line = 82; semaphore = 2; value = 4; from = 1 } ∷ []; fence = Some (record { line = 83; semaphore = 3; value = 0; from = 1 }) })
    ∷ Host (record { line = 85; step = Idle })
    ∷ Host (record { line = 86; step = Read 2 })
    ∷ []
    )) ≡ Some (83, FenceUsed)
used_twice = refl

-- the text of the frame loop
abbrev frame_text : List ℕ
frame_text =
    codes "buffer I0 16\nbuffer I1 16\nbuffer I2 16\nbuffer W 16\nbuffer O0 16\n"
    ++ codes "buffer O1 16\nbuffer O2 16\ntimeline TU 0\ntimeline TG 0\ntimeline TD 0\n"
    ++ codes "fence F0\nfence F1\nfence F2\nqueue U threaded\nqueue G threaded\n"
    ++ codes "queue D threaded\nsubmit U\nupdate I0 0 01010101010101010101010101010101\n"
    ++ codes "signal TU 1\nend\nsubmit G\nwait TU 1\nwait TD 0\ncopy I0 0 W 0 16\n"
    ++ codes "fill W 0 4 1\nsignal TG 1\nend\nsubmit D\nwait TG 1\ncopy W 0 O0 0 16\n"
    ++ codes "signal TD 1\nfence F0\nend\nsubmit U\n"
    ++ codes "update I1 0 02020202020202020202020202020202\nsignal TU 2\nend\nsubmit G\n"
    ++ codes "wait TU 2\nwait TD 1\ncopy I1 0 W 0 16\nfill W 0 4 2\nsignal TG 2\nend\n"
    ++ codes "submit D\nwait TG 2\ncopy W 0 O1 0 16\nsignal TD 2\nfence F1\nend\nsubmit U\n"
    ++ codes "update I2 0 03030303030303030303030303030303\nsignal TU 3\nend\nsubmit G\n"
    ++ codes "wait TU 3\nwait TD 2\ncopy I2 0 W 0 16\nfill W 0 4 3\nsignal TG 3\nend\n"
    ++ codes "submit D\nwait TG 3\ncopy W 0 O2 0 16\nsignal TD 3\nfence F2\nend\n"
    ++ codes "host fence wait F0\nhost fence reset F0\nsubmit U\n"
    ++ codes "update I0 0 04040404040404040404040404040404\nsignal TU 4\nend\nsubmit G\n"
    ++ codes "wait TU 4\nwait TD 3\ncopy I0 0 W 0 16\nfill W 0 4 4\nsignal TG 4\nend\n"
    ++ codes "submit D\nwait TG 4\ncopy W 0 O0 0 16\nsignal TD 4\nfence F0\nend\nhost idle\n"
    ++ codes "host read TD\n"

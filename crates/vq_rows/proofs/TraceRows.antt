-- A history on three batches of one queue and one of another: a point is completed while it is referenced, and used again
-- once it is freed. Each guard holds by evaluation.
use Rattle.std.proofs.Common.{[], ◌∷◌, None, false, List, true, refl, lit<}
use Rattle.vq_model.specs.declared.script.Script.{Script}
use Rattle.vq_model.specs.declared.script.SemaphoreKind.TheVariants.{Timeline}
use Rattle.vq_model.specs.declared.script.Mode.TheVariants.{Threaded}
use Rattle.vq_model.specs.declared.script.Job.TheVariants.{Batch}
use Rattle.vq_model.specs.declared.script.Command.TheVariants.{Fill}
use Rattle.vq_model.specs.declared.script.FillSize.TheVariants.{Count}
use Rattle.vq_model.specs.Plan.{Plan}
use Rattle.vq_model.specs.Lowering.{plan_of}
use Rattle.vq_model.specs.declared.script.ActorName.TheVariants.{Ring}
use Rattle.vq_model.specs.declared.plan.Event.{Event}
use Rattle.vq_model.specs.declared.plan.Event.TheVariants.{Submit, Take, Release, Bind, Refer, Look, Unref, Complete, Free, Start, Apply, Signal, Finish}
use Rattle.vq_point_laws.specs.Points.{HistoryFrom, opening_points}

abbrev three_signals : Script
three_signals =
    record {
      version = 1;
      buffers = record { line = 1; name = 88 ∷ []; size = 4 } ∷ [];
      semaphores = record { line = 2; name = 65 ∷ []; kind = Timeline 0 } ∷ [];
      queues = record { line = 3; name = 80 ∷ []; mode = Threaded } ∷ record { line = 4; name = 81 ∷ []; mode = Threaded } ∷ [];
      jobs =
          Batch (record { line = 5; queue = 0; waits = []; commands = record { line = 6; command = Fill 0 0 (Count 4) 1 } ∷ []; signals = record { line = 7; semaphore = 0; value = 1; from = 1 } ∷ []; fence = None })
          ∷ Batch (record { line = 9; queue = 1; waits = record { line = 10; semaphore = 0; value = 1; from = 1 } ∷ []; commands = []; signals = []; fence = None })
          ∷ Batch (record { line = 12; queue = 0; waits = []; commands = []; signals = record { line = 13; semaphore = 0; value = 2; from = 1 } ∷ []; fence = None })
          ∷ Batch (record { line = 15; queue = 0; waits = []; commands = []; signals = record { line = 16; semaphore = 0; value = 3; from = 1 } ∷ []; fence = None })
          ∷ [];
      scheduled = false;
      turns = [];
    }

abbrev plan : Plan
plan = plan_of three_signals

abbrev events : List Event
events =
    Submit 0 ∷ Take 0 0 true ∷ Release 0 ∷ Bind 0 0 ∷ Submit 1 ∷ Release 1 ∷ Refer (Ring 1) 0 0 ∷ Start 0 ∷ Apply 0 0 ∷ Signal 0 ∷ Finish 0
    ∷ Submit 2 ∷ Complete 0 ∷ Take 1 1 true ∷ Release 2 ∷ Bind 1 1 ∷ Look (Ring 1) 0 0 ∷ Unref (Ring 1) 0 0 ∷ Submit 3 ∷ Free 0 ∷ Take 2 0 false ∷ []

history : HistoryFrom plan (opening_points plan) events
history = (
  record { batch = refl; waiting = refl; in_order = refl },
  (
    record { job = 0; of_job = refl; chain = 0; in_chain = refl; without = refl; in_turn = refl; point = (refl, refl) },
    (
      record { batch = refl; submitted = refl; waiting = refl; in_order = refl; needs = refl; taken = refl },
      (
        record { job = 0; of_job = refl; chain = 0; in_chain = refl; carries = refl; unbound = refl; ready = refl; in_order = refl },
        (
          record { batch = refl; waiting = refl; in_order = refl },
          (
            record { batch = refl; submitted = refl; waiting = refl; in_order = refl; needs = refl; taken = refl },
            (
              record { job = 1; is_next = refl; carries = refl; bound = refl; released = refl; needed = refl; wanted = lit< tt },
              (
                record { exists = lit< tt; waiting = refl; lane = refl; ready = refl; idle = refl; released = refl },
                (
                  record { started = refl; unfinished = refl; next = refl; ready = refl },
                  (
                    record { job = 0; chain = 0; in_chain = refl; started = refl; unfinished = refl; commands = refl; next = refl; ready = refl; bound = refl },
                    (
                      record { step = record { done = record { started = refl; unfinished = refl; commands = refl; signals = refl; ready = refl }; answered = refl }; unreferring = refl },
                      (
                        record { batch = refl; waiting = refl; in_order = refl },
                        (
                          record { chain = 0; in_chain = refl; pending = refl; in_order = refl; signaled = refl },
                          (
                            record { job = 2; of_job = refl; chain = 0; in_chain = refl; without = refl; in_turn = refl; point = (refl, refl) },
                            (
                              record { batch = refl; submitted = refl; waiting = refl; in_order = refl; needs = refl; taken = refl },
                              (
                                record { job = 2; of_job = refl; chain = 0; in_chain = refl; carries = refl; unbound = refl; ready = refl; in_order = refl },
                                (
                                  record { job = 1; is_next = refl; holds = refl; signaled = refl; fewer = lit< tt },
                                  (
                                    refl,
                                    (
                                      record { batch = refl; waiting = refl; in_order = refl },
                                      (
                                        record { waiting = refl; unreferenced = refl },
                                        (record { job = 3; of_job = refl; chain = 0; in_chain = refl; without = refl; in_turn = refl; point = refl }, tt),
                                      ),
                                    ),
                                  ),
                                ),
                              ),
                            ),
                          ),
                        ),
                      ),
                    ),
                  ),
                ),
              ),
            ),
          ),
        ),
      ),
    ),
  ),
)

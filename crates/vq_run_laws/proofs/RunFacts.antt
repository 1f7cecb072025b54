-- The laws on runs, each of a well-formed plan with a sure order.
use Rattle.std.proofs.Common.{List, sym}
use Rattle.std.proofs.lemmas.Bool.{false_from_ne_true}
use Rattle.vq_model.specs.Plan.{Plan}
use Rattle.vq_model.specs.Edges.{At, AtEnd, stage_of}
use Rattle.vq_model.specs.Machine.{Step, Run, Progress, state_after}
use Rattle.vq_model.specs.WellFormed.{IsWellFormed, KeepsHostOrder}
use Rattle.vq_model.specs.SureOrder.{HasSureOrder}
use Rattle.vq_point_laws.specs.Points.{opening_points}
use Rattle.vq_plan_laws.proofs.Cited.{needs_alike, same_sure}
use Rattle.vq_run_laws.specs.RunFacts.{IsSureInTime, SlowRunIsRun, MakesAsPayloadsSay, MakesNoneAfter, ReadsPayloads, HistoriesAreRuns}
use Rattle.vq_run_laws.proofs.HistoryRuns.{history_leads, follows_opening}
use Rattle.vq_run_laws.proofs.KeptRuns.{run_keeps, commands_before}
use Rattle.vq_run_laws.proofs.KeptSteps.{end_commands}
use Rattle.vq_run_laws.proofs.Payloads.{reached_made, made_reached}
use Rattle.vq_run_laws.proofs.PlacesReached.{host_sure, none_after}
use Rattle.vq_run_laws.proofs.SinceStart.{value_since, since_value}
use Rattle.vq_run_laws.proofs.SlowSteps as steps
use Rattle.vq_run_laws.proofs.StateFacts.{Invariant, by_start, by_command, by_signal, by_finish}

module _ (p : Plan) (w : IsWellFormed p) (o : HasSureOrder p) where
  kept : (xs : List Step) → Run p xs → Invariant p (state_after p xs).progress
  kept xs run = run_keeps p w o.chains xs run

  pub is_sure_in_time : IsSureInTime p
  is_sure_in_time =
      record {
        started = λ xs run e j s q. (kept xs run).sure e j (At 1) (by_start s) q;
        started_commands = λ xs run i j c s b m.
            (let s' : Progress = (state_after p xs).progress in
            let k : Invariant p s' = kept xs run in
            end_commands p w o.chains s'.payload s'.started s'.finished s'.made s'.applied k i c
            (k.before i j (At 1) (by_start s) b) m);
        applied = λ xs run e j c m a q.
            (kept xs run).sure e j (stage_of p j c) (by_command c m a) q;
        applied_commands = λ xs run i j c d m n a b.
            commands_before p w o.chains xs run i j c d m n a b;
        signaled = λ xs run e j f i m q. (kept xs run).sure e j AtEnd (by_signal f i m) q;
        finished = λ xs run e j f q. (kept xs run).sure e j AtEnd (by_finish f) q;
        host_steps = λ xs run e j host s q. host_sure p w o.chains xs run e j host s q;
        unheld = λ n xs run e j s q.
            (kept xs run).sure e j (At 1) (by_start s)
            (same_sure p e j AtEnd (At 1) (sym (needs_alike p j 0 (n j))) q);
      }

  pub slow_is_run : SlowRunIsRun p
  slow_is_run =
      let both = steps.slow_run_is_a_run p w o in record { run = both.0; finished = both.1 }

  pub makes_as_payloads_say : MakesAsPayloadsSay p
  makes_as_payloads_say xs run e t i =
      (made_reached p xs run e t i, reached_made p w o.chains xs run e t i)

  pub makes_none_after : MakesNoneAfter p
  makes_none_after xs run e i j n f b q =
      false_from_ne_true ((state_after p xs).progress.made e)
      (none_after p w o.chains xs run e i j n f b q)

  pub reads_payloads : ReadsPayloads p
  reads_payloads =
      record {
        was = λ a b j t n run h. value_since p w o.chains a b j t n run h;
        may = λ a b j t n run front back q h. since_value p w o.chains a b j t n run front back q h;
      }

  pub histories_are_runs : KeepsHostOrder p → HistoriesAreRuns p
  histories_are_runs hosts events h =
      (history_leads p w hosts o.chains (opening_points p) events (follows_opening p) h).run

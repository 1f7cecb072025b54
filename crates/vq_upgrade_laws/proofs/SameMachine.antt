-- The machine's steps and runs, of a plan of one version and of another.
use Rattle.std.proofs.Common.{ℕ, List, [], ◌∷◌, subst}
use Rattle.vq_model.specs.Machine.{State, Step, StartStep, ApplyStep, SignalStep, FinishStep, AnswerStep, CanStep, RunFrom, after_step}
use Rattle.vq_model.specs.Plan.{Plan}
use Rattle.vq_upgrade_laws.proofs.SameRuns.{same_step_after}
use Rattle.vq_upgrade_laws.specs.Upgrades.{plan_of_version}

same_step : (v w : ℕ) (p : Plan) (s : State) (x : Step) → CanStep (plan_of_version v p) s x → CanStep (plan_of_version w p) s x
same_step v w p s (StartStep j) c = record { exists = c.exists; waiting = c.waiting; ready = c.ready }
same_step v w p s (ApplyStep d) c = (c.0, record { started = c.1.started; unfinished = c.1.unfinished; next = c.1.next; ready = c.1.ready })
same_step v w p s (SignalStep e) c =
    record {
      job = c.job;
      chain = c.chain;
      in_chain = c.in_chain;
      started = c.started;
      unfinished = c.unfinished;
      commands = c.commands;
      next = c.next;
      ready = c.ready;
      rises = c.rises;
    }
same_step v w p s (FinishStep j) c =
    record {
      done = record {
        started = c.done.started;
        unfinished = c.done.unfinished;
        commands = c.done.commands;
        signals = c.done.signals;
        ready = c.done.ready;
      };
      answered = c.answered;
    }
same_step v w p s (AnswerStep j a) c = record { started = c.started; unanswered = c.unanswered; allowed = c.allowed }

pub same_run : (v w : ℕ) (p : Plan) (s : State) (steps : List Step) → RunFrom (plan_of_version v p) s steps → RunFrom (plan_of_version w p) s steps
same_run v w p s [] r = r
same_run v w p s (x ∷ xs) r = (
  same_step v w p s x r.0,
  subst (λ (u : State). RunFrom (plan_of_version w p) u xs) (same_step_after v w p s x)
      (same_run v w p (after_step (plan_of_version v p) s x) xs r.1),
)

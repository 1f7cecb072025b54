-- A run without its answers is a run of progress.
use Rattle.std.proofs.Common.{◌≡◌, List, fold, [], ◌∷◌, refl}
use Rattle.vq_model.specs.Plan.{Plan}
use Rattle.vq_model.specs.Machine.{Progress, State, Step, after_progress, StartStep, ApplyStep, SignalStep, FinishStep, AnswerStep, after_step, RunFrom}
use Rattle.vq_model.specs.ProgressRuns.{ProgressFrom, without_answers}

pub record RunsAs (p : Plan) (s : Progress) (steps : List Step) (end : State) : Type 0 where
  pub run : ProgressFrom p s (without_answers steps)
  pub leads : end.progress ≡ fold (after_progress p) s (without_answers steps)

pub run_progresses : (p : Plan) (s : State) (xs : List Step) → RunFrom p s xs → RunsAs p s.progress xs (fold (after_step p) s xs)
run_progresses p s [] r = record { run = tt; leads = refl }
run_progresses p s (StartStep j ∷ xs) r = let f = run_progresses p (after_step p s (StartStep j)) xs r.1 in record { run = (r.0, f.run); leads = f.leads }
run_progresses p s (ApplyStep c ∷ xs) r = let f = run_progresses p (after_step p s (ApplyStep c)) xs r.1 in record { run = (r.0, f.run); leads = f.leads }
run_progresses p s (SignalStep e ∷ xs) r = let f = run_progresses p (after_step p s (SignalStep e)) xs r.1 in record { run = (r.0, f.run); leads = f.leads }
run_progresses p s (FinishStep j ∷ xs) r = let f = run_progresses p (after_step p s (FinishStep j)) xs r.1 in record { run = (r.0.done, f.run); leads = f.leads }
run_progresses p s (AnswerStep j a ∷ xs) r = let f = run_progresses p (after_step p s (AnswerStep j a)) xs r.1 in record { run = f.run; leads = f.leads }

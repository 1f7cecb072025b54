-- Each state of a run keeps what a state keeps.
use Rattle.std.proofs.Common.{ℕ, Option, sym, subst, false, [], refl, inl, List, ◌∷◌, fold, ◌≡◌, true}
use Rattle.vq_model.specs.Plan.{Plan, commands_of}
use Rattle.vq_ground.specs.Lists.{has}
use Rattle.vq_model.specs.WellFormed.{IsWellFormed}
use Rattle.vq_model.specs.Machine.{Progress, Step, StartStep, ApplyStep, SignalStep, FinishStep, AnswerStep, with_signal, after_progress, State, after_step, CanStep, opening_progress, RunFrom, opening_state, Run, state_after}
use Rattle.vq_model.specs.ProgressRuns.{CanProgress, ProgressFrom, progress_after, ProgressRun}
use Rattle.vq_model.specs.SureOrder.{KeepsChains}
use Rattle.vq_run_laws.proofs.StateFacts.{Invariant, HasCome, by_start, by_command, by_signal, by_finish}
use Rattle.vq_run_laws.proofs.KeptSteps.{keep_start, keep_finish, keep_apply, keep_signal, end_commands}
use Rattle.std.proofs.lemmas.Bool.{false≢true}
use Rattle.vq_model.specs.Edges.{Stage, stage_of}
use Rattle.vq_model.specs.HappensBefore.{HappensBeforeCommand}

-- Runs

pub keep_progress : (p : Plan) → IsWellFormed p → KeepsChains p → (s : Progress) (x : Step) → Invariant p s → CanProgress p s x → Invariant p (after_progress p s x)
keep_progress p w ch s (StartStep j) k c = keep_start p w ch s.payload s.started s.finished s.made s.applied k j c.ready
keep_progress p w ch s (ApplyStep c) k (j, g) = keep_apply p w ch s.payload s.started s.finished s.made s.applied k j c g.started g.next g.ready
keep_progress p w ch s (SignalStep e) k g =
    let P : Option ℕ → Type 0 = λ o. Invariant p (with_signal p s e o) in
    subst P (sym g.in_chain) (keep_signal p w ch s.payload s.started s.finished s.made s.applied k g.job e g.chain g.started g.commands g.next g.ready g.in_chain)
keep_progress p w ch s (FinishStep j) k g = keep_finish p w ch s.payload s.started s.finished s.made s.applied k j g.started g.commands g.signals g.ready
keep_progress p w ch s (AnswerStep j a) k g = absurd g

pub keep : (p : Plan) → IsWellFormed p → KeepsChains p → (s : State) (x : Step) → Invariant p s.progress → CanStep p s x → Invariant p (after_step p s x).progress
keep p w ch s (StartStep j) k g = keep_progress p w ch s.progress (StartStep j) k g
keep p w ch s (ApplyStep c) k g = keep_progress p w ch s.progress (ApplyStep c) k g
keep p w ch s (SignalStep e) k g = keep_progress p w ch s.progress (SignalStep e) k g
keep p w ch s (FinishStep j) k g = keep_progress p w ch s.progress (FinishStep j) k g.done
keep p w ch s (AnswerStep j a) k g = k

pub holds_at_opening : (p : Plan) → Invariant p (opening_progress p)
holds_at_opening p =
    record {
      finished_started = λ j h. absurd (false≢true h);
      finished_commands = λ j c h m. absurd (false≢true h);
      finished_signals = λ j e h m. absurd (false≢true h);
      started_after = λ j i h m. absurd (false≢true h);
      made_job = λ e h. absurd (false≢true h);
      made_commands = λ e j c h i m. absurd (false≢true h);
      made_earlier = λ e f j h i i' l. absurd (false≢true h);
      raised = λ t. inl refl;
      sure = λ e j k h m. absurd (nowhere j k h);
      before = λ i j k h b. absurd (nowhere j k h);
      applied_job = λ c h. absurd (false≢true h);
      applied_earlier = λ j c x mc mx l h. absurd (false≢true h);
      distinct = tt;
      extends = tt;
    }
  where
    nowhere : (j : ℕ) (k : Stage) → HasCome p (λ i. false) (λ i. false) (λ e. false) [] j k → ⊥
    nowhere j k (by_start h) = false≢true h
    nowhere j k (by_command c m h) = false≢true h
    nowhere j k (by_signal e m h) = false≢true h
    nowhere j k (by_finish h) = false≢true h

pub keep_run : (p : Plan) → IsWellFormed p → KeepsChains p → (s : State) (xs : List Step) → Invariant p s.progress → RunFrom p s xs → Invariant p (fold (after_step p) s xs).progress
keep_run p w ch s [] k r = k
keep_run p w ch s (x ∷ xs) k r = keep_run p w ch (after_step p s x) xs (keep p w ch s x k r.0) r.1

-- each state of a run keeps the invariant
pub run_keeps : (p : Plan) → IsWellFormed p → KeepsChains p → (xs : List Step) → Run p xs → Invariant p (state_after p xs).progress
run_keeps p w ch xs r = keep_run p w ch (opening_state p) xs (holds_at_opening p) r

-- and so does each that a run without answers leads to
pub keep_progress_run : (p : Plan) → IsWellFormed p → KeepsChains p → (s : Progress) (xs : List Step) → Invariant p s → ProgressFrom p s xs → Invariant p (fold (after_progress p) s xs)
keep_progress_run p w ch s [] k r = k
keep_progress_run p w ch s (x ∷ xs) k r = keep_progress_run p w ch (after_progress p s x) xs (keep_progress p w ch s x k r.0) r.1

pub progress_keeps : (p : Plan) → IsWellFormed p → KeepsChains p → (xs : List Step) → ProgressRun p xs → Invariant p (progress_after p xs)
progress_keeps p w ch xs r = keep_progress_run p w ch (opening_progress p) xs (holds_at_opening p) r

-- with each applied command the commands before it are applied
pub commands_before : (p : Plan) → IsWellFormed p → KeepsChains p → (xs : List Step) → Run p xs → (i j c d : ℕ) → has (commands_of p i) c ≡ true → has (commands_of p j) d ≡ true → has (state_after p xs).progress.applied d ≡ true → HappensBeforeCommand p i j d → has (state_after p xs).progress.applied c ≡ true
commands_before p w ch xs r i j c d m n h b =
    let s : Progress = (state_after p xs).progress in
    let k : Invariant p s = run_keeps p w ch xs r in
    end_commands p w ch s.payload s.started s.finished s.made s.applied k i c (k.before i j (stage_of p j d) (by_command d n h) b) m

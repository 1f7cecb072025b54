-- What each state of a run keeps.
use Rattle.std.proofs.Common.{◌≡◌, ℕ, ◌<◌, true, ◌⊎◌, Bool, Some, List, ◌≤◌}
use Rattle.vq_model.specs.Plan.{Plan, commands_of, job_of, chain, value, signals_of, initial}
use Rattle.vq_ground.specs.Lists.{has}
use Rattle.vq_model.specs.HappensBefore.{HappensBeforeCommand, HappensBeforeAt}
use Rattle.vq_model.specs.Edges.{Stage, At, AtEnd, stage_of, must_finish}
use Rattle.vq_model.specs.Sure.{IsSureAt}
use Rattle.vq_ground.proofs.Lists.{AreDistinct}
use Rattle.vq_run_laws.proofs.Swaps.{Extends}
use Rattle.vq_model.specs.Machine.{Progress}

-- What each state keeps

-- a command that must come before another: of a job before it, or earlier in its job
pub record Must (p : Plan) (c d : ℕ) : Type 0 where
  pub first_job : ℕ
  pub second_job : ℕ
  pub first : has (commands_of p first_job) c ≡ true
  pub second : has (commands_of p second_job) d ≡ true
  pub order : HappensBeforeCommand p first_job second_job d ⊎ ((first_job ≡ second_job) × (c < d))

-- the job of an operation, which has started
pub record OfStarted (p : Plan) (started : ℕ → Bool) (e : ℕ) : Type 0 where
  pub job : ℕ
  pub is : job_of p e ≡ Some job
  pub has_started : started job ≡ true

-- an operation that raised a chain to this number
pub record RaisedTo (p : Plan) (made : ℕ → Bool) (t n : ℕ) : Type 0 where
  pub op : ℕ
  pub in_chain : has (chain p t) op ≡ true
  pub was_made : made op ≡ true
  pub sets : value p op ≡ n

-- a job with this command, which has started
pub record OfJob (p : Plan) (started : ℕ → Bool) (c : ℕ) : Type 0 where
  pub job : ℕ
  pub in_job : has (commands_of p job) c ≡ true
  pub has_started : started job ≡ true

-- A job has come to a place: to the first by its start, to that of an applied command, to the end by a signal or its finish.
pub data HasCome (p : Plan) (started finished made : ℕ → Bool) (applied : List ℕ) (j : ℕ) : Stage → Type 0 where
  by_start : started j ≡ true → HasCome p started finished made applied j (At 1)
  by_command : (c : ℕ) → has (commands_of p j) c ≡ true → has applied c ≡ true → HasCome p started finished made applied j (stage_of p j c)
  by_signal : (e : ℕ) → job_of p e ≡ Some j → made e ≡ true → HasCome p started finished made applied j AtEnd
  by_finish : finished j ≡ true → HasCome p started finished made applied j AtEnd

-- What is before a place to which a job has come is at its end, and what is sure for that place is made.
pub record Keeps (p : Plan) (payload : ℕ → ℕ) (started finished made : ℕ → Bool) (applied : List ℕ) : Type 0 where
  pub finished_started : (j : ℕ) → finished j ≡ true → started j ≡ true
  pub finished_commands : (j c : ℕ) → finished j ≡ true → has (commands_of p j) c ≡ true → has applied c ≡ true
  pub finished_signals : (j e : ℕ) → finished j ≡ true → has (signals_of p j) e ≡ true → made e ≡ true
  pub started_after : (j i : ℕ) → started j ≡ true → has (must_finish p j) i ≡ true → finished i ≡ true
  pub made_job : (e : ℕ) → made e ≡ true → OfStarted p started e
  pub made_commands : (e j c : ℕ) → made e ≡ true → job_of p e ≡ Some j → has (commands_of p j) c ≡ true → has applied c ≡ true
  pub made_earlier : (e f j : ℕ) → made f ≡ true → job_of p e ≡ Some j → job_of p f ≡ Some j → e ≤ f → made e ≡ true
  pub raised : (t : ℕ) → (payload t ≡ initial p t) ⊎ RaisedTo p made t (payload t)
  pub sure : (e j : ℕ) (k : Stage) → HasCome p started finished made applied j k → IsSureAt p e j k → made e ≡ true
  pub before : (i j : ℕ) (k : Stage) → HasCome p started finished made applied j k → HappensBeforeAt p i j k → HasCome p started finished made applied i AtEnd
  pub applied_job : (c : ℕ) → has applied c ≡ true → OfJob p started c
  pub applied_earlier : (j c x : ℕ) → has (commands_of p j) c ≡ true → has (commands_of p j) x ≡ true → x < c → has applied c ≡ true → has applied x ≡ true
  pub distinct : AreDistinct applied
  pub extends : Extends (Must p) applied

abbrev pub Invariant : Plan → Progress → Type 0
Invariant p s = Keeps p s.payload s.started s.finished s.made s.applied

-- a job that has come to a place has still come there later
pub come_later : (p : Plan) (started finished made : ℕ → Bool) (applied : List ℕ) (started' finished' made' : ℕ → Bool) (applied' : List ℕ) → ((j : ℕ) → started j ≡ true → started' j ≡ true) → ((j : ℕ) → finished j ≡ true → finished' j ≡ true) → ((e : ℕ) → made e ≡ true → made' e ≡ true) → ((c : ℕ) → has applied c ≡ true → has applied' c ≡ true) → (j : ℕ) (k : Stage) → HasCome p started finished made applied j k → HasCome p started' finished' made' applied' j k
come_later p started finished made applied started' finished' made' applied' s f m a j k (by_start h) = by_start (s j h)
come_later p started finished made applied started' finished' made' applied' s f m a j k (by_command c i h) = by_command c i (a c h)
come_later p started finished made applied started' finished' made' applied' s f m a j k (by_signal e i h) = by_signal e i (m e h)
come_later p started finished made applied started' finished' made' applied' s f m a j k (by_finish h) = by_finish (f j h)

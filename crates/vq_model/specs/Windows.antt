-- Between which values a payload stands when a host step looks at it.
-- Vulkan 1.3, "Host Operations on Semaphores" (vkWaitSemaphores, vkGetSemaphoreCounterValue),
-- "Fences" (vkGetFenceStatus).
use Rattle.std.specs.Prelude.{ℕ, ◌≡◌, Some, ◌≢◌, ◌<◌}
use Rattle.vq_model.specs.Plan.{Plan, chain_of, initial, value, job_of}
use Rattle.vq_model.specs.Sure.{IsSure}
use Rattle.vq_model.specs.HappensBefore.{HappensBefore}

-- The numbers of which a floor is the greatest: what a chain has surely reached when a job starts.
pub data IsSurelyReached (p : Plan) (h t : ℕ) : ℕ → Type 0 where
  at_first : IsSurelyReached p h t (initial p t)
  sure : {e : ℕ} → chain_of p e ≡ Some t → IsSure p e h → IsSurelyReached p h t (value p e)

-- An operation of a job that isn't this one and doesn't come after it.
pub record IsPossible (p : Plan) (h t e : ℕ) : Type 0 where
  pub in_chain : chain_of p e ≡ Some t
  pub job : ℕ
  pub of_job : job_of p e ≡ Some job
  pub other : job ≢ h
  pub not_after : ¬ HappensBefore p h job

-- the numbers of which a ceiling is the greatest: what a chain may have reached while a job runs
pub data IsPossiblyReached (p : Plan) (h t : ℕ) : ℕ → Type 0 where
  at_first : IsPossiblyReached p h t (initial p t)
  possible : {e : ℕ} → IsPossible p h t e → IsPossiblyReached p h t (value p e)

-- What is made with an operation: itself, the earlier signals of its job, and all that is sure for
-- that job.
pub data IsMadeWith (p : Plan) (e : ℕ) : ℕ → Type 0 where
  itself : IsMadeWith p e e
  signaled_earlier : {f j : ℕ} → job_of p e ≡ Some j → job_of p f ≡ Some j → f < e →
      IsMadeWith p e f
  sure : {f j : ℕ} → job_of p e ≡ Some j → IsSure p f j → IsMadeWith p e f

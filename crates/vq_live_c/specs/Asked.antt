-- What is asked of the timeline that a handle holds, if it holds one.
use Rattle.std.specs.Prelude.{ℕ, ◌≡◌, Option, Some, None}
use Rattle.vq_live.specs.Live.{Live}
use Rattle.vq_live_c.specs.declared.reply.Reply.TheVariants as call_as
use Rattle.vq_live_c.specs.Codes.{call_code}

-- No timeline is held, nothing is done, and there is no answer; or the timeline, what becomes of it and the answer are so.
abbrev pub HasAsked : {A : Type 0} → (Live → Live → A → Type 0) → Option Live → Option Live → Option A → Type 0
HasAsked IsSo None after None = after ≡ None
HasAsked IsSo None after (Some answer) = ⊥
HasAsked IsSo (Some t) after None = ⊥
HasAsked IsSo (Some t) after (Some answer) = (u : Live) × (after ≡ Some u) × IsSo t u answer

-- No timeline is held, nothing is done, what can be told stays, and the code says so; or the timeline and what becomes of
-- it are so.
abbrev pub HasAnswered : (Live → Live → Type 0) → Type 0 → Option Live → Option Live → ℕ → Type 0
HasAnswered IsSo Stays None after code = (after ≡ None) × (code ≡ call_code call_as.NoHandle) × Stays
HasAnswered IsSo Stays (Some t) after code = (u : Live) × (after ≡ Some u) × IsSo t u

-- the value that the timeline reached, and 0 where none is held
abbrev pub payload_of : Option Live → ℕ
payload_of None = 0
payload_of (Some t) = t.payload

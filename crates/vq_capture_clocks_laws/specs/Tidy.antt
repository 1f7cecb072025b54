-- What reading leaves of each capture, beside the order of its lines.
use Rattle.std.specs.Prelude.{ℕ, Bool, List, ◌≡◌, ◌<◌, ◌==◌, true, false, Some, None, is_some}
use Rattle.std.specs.Option.{option_map_or}
use Rattle.vq_capture.specs.declared.statement.Statement.{Statement}
use Rattle.vq_capture.specs.declared.statement.Statement.TheVariants.{Forget, WaitBinary, SignalBinary, SawFence, SignalFence}
use Rattle.vq_capture.specs.declared.capture.Step.{Step}
use Rattle.vq_capture.specs.Points.{IsMember}
use Rattle.vq_capture.specs.Before.{was_handed}
use Rattle.vq_capture.specs.Races.{access_of}
use Rattle.vq_capture_check.specs.Watching.{is_command_access, is_lasting}

-- whether a line names a binary semaphore, a fence or a resource, which is told by the line of its declaration
abbrev pub names_thing : Statement → ℕ → Bool
names_thing (WaitBinary s scope) x = s == x
names_thing (SignalBinary s scope) x = s == x
names_thing (SawFence f) x = f == x
names_thing (SignalFence f) x = f == x
names_thing other x = option_map_or (λ a. a.resource == x) (access_of other) false

-- A command accesses on a queue, and no host thread does; it begins above what it does; whatever accesses between its
-- beginning and what it does is of it; what is submitted was handed over; and what is gone is named no more.
pub record AreTidy (steps : List Step) : Type 0 where
  pub queue : (s : Step) → IsMember s steps → is_command_access s.statement ≡ true → (q : ℕ) × (s.queue ≡ Some q)
  pub thread : (s : Step) → IsMember s steps → is_command_access s.statement ≡ true → s.thread ≡ None
  pub command : (s : Step) (c : ℕ) → IsMember s steps → s.command ≡ Some c → c < s.line
  pub apart : (a b : Step) (c : ℕ) → IsMember a steps → IsMember b steps → a.line < b.line → is_some (access_of a.statement) ≡ true → b.command ≡ Some c → c < a.line → a.command ≡ Some c
  pub handed : (a b : Step) → IsMember a steps → IsMember b steps → was_handed b.statement a.line ≡ true → is_lasting a.statement ≡ true
  pub gone : (a b : Step) (x : ℕ) → IsMember a steps → IsMember b steps → a.line < b.line → a.statement ≡ Forget x → names_thing b.statement x ≡ false

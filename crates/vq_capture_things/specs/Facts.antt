-- What is kept of the steps above, by the lines of declarations, is what the definition reads off them.
use Rattle.std.specs.Prelude.{ℕ, Bool, false, List, [], ◌∷◌, ◌++◌, ◌≡◌, ◌<◌, ◌-◌, nat_le, find, reverse, length}
use Rattle.std.specs.Prelude.{unwrap_or, slice_get, if◌then◌else◌, Option, Some}
use Rattle.std.proofs.Math.ListN.{get_or}
use Rattle.std.specs.Option.{option_map, option_map_or, option_to_list}
use Rattle.vq_capture.specs.declared.capture.Step.{Step}
use Rattle.vq_capture.specs.Releases.{initial_of, length_of, value_releases, binary_releases, fence_releases}
use Rattle.vq_capture.specs.Releases.{event_releases}
use Rattle.vq_capture_things.specs.declared.rise.Rise.{Rise}

-- the line of the first signal that reaches a value
abbrev pub first_rise : ℕ → List Rise → List ℕ
first_rise v rises = option_to_list (option_map (λ r. r.line) (find (λ r. nat_le v r.value) rises))

-- values rise from signal to signal
abbrev pub IsRising : List Rise → Type 0
IsRising rises = (i k : ℕ) (d : Rise) → i < k → k < length rises → (get_or rises i d).value < (get_or rises k d).value

-- whether the last of some signals reaches a value
abbrev pub is_reached : ℕ → List Rise → Bool
is_reached v rises = option_map_or (λ r. nat_le v r.value) (slice_get rises (length rises - 1)) false

-- some signals, with one more where it raises the value
abbrev pub with_rise : List Rise → Rise → List Rise
with_rise rises r = if is_reached r.value rises then rises else rises ++ r ∷ []

-- initial values, lengths, the signals that raised each timeline, those of each binary semaphore behind its last wait,
-- the last signal of each fence, and the last line that sets each event on each queue
pub record Describes (initials lengths : ℕ → Option ℕ) (rises : ℕ → List Rise) (signals : ℕ → List ℕ)
    (fences : ℕ → Option ℕ) (events : ℕ → ℕ → Option ℕ) (steps : List Step) : Type 0 where
  pub initial : (t : ℕ) → unwrap_or (initials t) 0 ≡ initial_of steps t
  pub units : (r : ℕ) → unwrap_or (lengths r) 0 ≡ length_of steps r
  pub rising : (t : ℕ) → IsRising (rises t)
  pub value : (t v : ℕ) → first_rise v (rises t) ≡ value_releases steps t v
  pub binary : (s : ℕ) → reverse (signals s) ≡ binary_releases steps s
  pub fence : (f : ℕ) → option_to_list (fences f) ≡ fence_releases steps f
  pub event : (e q : ℕ) → option_to_list (events e q) ≡ event_releases steps e (Some q)

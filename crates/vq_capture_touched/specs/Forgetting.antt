-- What an access leaves of those in an index: those for which it doesn't stand.
use Rattle.std.specs.Prelude.{ℕ, Bool, true, List, ◌≡◌, filter, not, Some}
use Rattle.std.specs.Ordering.{nat_cmp}
use Rattle.std.specs.BTreeMap.{BTreeMap, get, values}
use Rattle.vq_ground.specs.Lists.{has}
use Rattle.vq_capture.specs.declared.capture.Step.{Step}
use Rattle.vq_capture_touched.specs.declared.kind.Kind.{Kind}
use Rattle.vq_capture_touched.specs.declared.touch.Touch.{Touch}
use Rattle.vq_capture_touched.specs.Kinds.{is_listed}
use Rattle.vq_capture_touched.specs.Standing.{stands_for}

abbrev pub is_left : Step → Touch → Bool
is_left w t = not (stands_for w t.step)

-- the listed accesses for which one stands have their stamps among some
abbrev pub AreCovered : Step → List Kind → List ℕ → Type 0
AreCovered w kinds stamps =
    (s : ℕ) (t : Touch) → is_listed kinds s t ≡ true → stands_for w t.step ≡ true → has stamps s ≡ true

-- A map lost only accesses for which one stands: at one stamp,
pub record Drops (w : Step) (old new : BTreeMap ℕ Touch) (stamp : ℕ) : Type 0 where
  pub same : filter (is_left w) (values new) ≡ filter (is_left w) (values old)
  pub fewer : (s : ℕ) (t : Touch) → get nat_cmp new s ≡ Some t → get nat_cmp old s ≡ Some t
  pub gone : (t : Touch) → get nat_cmp new stamp ≡ Some t → is_left w t ≡ true

-- and at each of some stamps.
pub record Forgets (w : Step) (old new : BTreeMap ℕ Touch) (stamps : List ℕ) : Type 0 where
  pub same : filter (is_left w) (values new) ≡ filter (is_left w) (values old)
  pub fewer : (s : ℕ) (t : Touch) → get nat_cmp new s ≡ Some t → get nat_cmp old s ≡ Some t
  pub gone : (s : ℕ) (t : Touch) → has stamps s ≡ true → get nat_cmp new s ≡ Some t → is_left w t ≡ true

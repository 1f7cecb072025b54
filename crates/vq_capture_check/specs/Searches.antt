-- What a search of an index for accesses that are loose has found.
use Rattle.std.specs.Prelude.{ℕ, true, false, List, ◌≡◌, Some}
use Rattle.std.specs.Ordering.{nat_cmp}
use Rattle.std.specs.BTreeMap.{BTreeMap, get}
use Rattle.vq_ground.specs.Lists.{has}
use Rattle.vq_capture.specs.declared.capture.Step.{Step}
use Rattle.vq_capture_touched.specs.declared.kind.Kind.{Kind}
use Rattle.vq_capture_touched.specs.declared.touch.Touch.{Touch}
use Rattle.vq_capture_touched.specs.Kinds.{is_listed}
use Rattle.vq_capture_check.specs.Watching.{Clocking, is_loose}

module _ (cut : ℕ) (ys : List Clocking) (b : Step) where
  -- the loose ones that some kinds list have their stamps among some
  abbrev pub AreFound : List Kind → List ℕ → Type 0
  AreFound kinds stamps =
      (s : ℕ) (t : Touch) → is_listed kinds s t ≡ true → is_loose cut ys b t ≡ true → has stamps s ≡ true

  -- none of those that have some stamps is loose
  abbrev pub AreFast : BTreeMap ℕ Touch → List ℕ → Type 0
  AreFast m stamps =
      (s : ℕ) (t : Touch) → has stamps s ≡ true → get nat_cmp m s ≡ Some t → is_loose cut ys b t ≡ false

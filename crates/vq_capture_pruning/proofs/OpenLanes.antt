-- The lanes that a step takes aren't gone, where it is open.
use Rattle.std.proofs.Common.{◌≡◌, ◌⊎◌, ◌<◌, ◌+◌, ◌∙◌, Bool, true, false, ℕ, List, [], ◌∷◌, ◌++◌, cond, map, filter, refl, sym, ap, inl, inr, arith, None}
use Rattle.std.specs.Prelude.{◌||◌, is_some}
use Rattle.std.proofs.lemmas.Bool.{or_left, or_right}
use Rattle.vq_ground.proofs.Bools.{never}
use Rattle.vq_capture.specs.declared.stage.Stage.{Stage}
use Rattle.vq_capture.specs.declared.stage.Stage.TheVariants.{Begin, Indirect, Input, Vertex, Early, Fragment, Late}
use Rattle.vq_capture.specs.declared.stage.Stage.TheVariants.{Color, Compute, Copy, Host, Other, End}
use Rattle.vq_capture.specs.declared.stage.StageMask.{StageMask}
use Rattle.vq_capture.specs.declared.statement.Statement.{Statement}
use Rattle.vq_capture.specs.declared.statement.Statement.TheVariants.{CommandAccess, Forget}
use Rattle.vq_capture.specs.declared.capture.Step.{Step}
use Rattle.vq_capture.specs.Before.{follows_them}
use Rattle.vq_capture.specs.Masks.{has_stage}
use Rattle.vq_capture.specs.Points.{IsMember, Point, points_at, takes}
use Rattle.vq_capture_laws.proofs.Cited.{in_either}
use Rattle.vq_capture_touched.specs.declared.touch.StepLanes.{StepLanes}
use Rattle.vq_capture_check.specs.declared.sites.Site.{Site}
use Rattle.vq_capture_check.specs.GoneSites.{IsOpen, gone_with}
use Rattle.vq_capture_check.specs.Lanes.{is_told, last_if, own_taken, stage_lanes, stage_number, every_stage, taken}
use Rattle.vq_capture_check.specs.Watching.{is_command_access, whole}

stage_below : (s : Stage) → stage_number s < 14
stage_below Begin = omega arith
stage_below Indirect = omega arith
stage_below Input = omega arith
stage_below Vertex = omega arith
stage_below Early = omega arith
stage_below Fragment = omega arith
stage_below Late = omega arith
stage_below Color = omega arith
stage_below Compute = omega arith
stage_below Copy = omega arith
stage_below Host = omega arith
stage_below Other = omega arith
stage_below End = omega arith

-- lanes that a test gives
last_open : (gone : ℕ → Bool) (t : Bool) (first : ℕ) → (t ≡ true → gone (first + 13) ≡ false) → (k : ℕ) → IsMember k (last_if t first) → gone k ≡ false
last_open gone true first f k (inl e) = ap gone e ∙ f refl
last_open gone true first f k (inr m) = absurd m
last_open gone false first f k m = absurd m

stages_open : (gone : ℕ → Bool) (first : ℕ) (mask : StageMask) → ((p : ℕ) → p < 14 → gone (first + p) ≡ false) → (ss : List Stage) (k : ℕ) → IsMember k (map (λ s. first + stage_number s) (filter (has_stage mask) ss)) → gone k ≡ false
stages_open gone first mask f [] k m = absurd m
stages_open gone first mask f (s ∷ ss) k m = by (has_stage mask s) m (stages_open gone first mask f ss k)
  where
    by : (t : Bool) → IsMember k (map (λ s. first + stage_number s) (cond t (s ∷ filter (has_stage mask) ss) (filter (has_stage mask) ss))) →
        (IsMember k (map (λ s. first + stage_number s) (filter (has_stage mask) ss)) → gone k ≡ false) → gone k ≡ false
    by true (inl e) g = ap gone e ∙ f (stage_number s) (stage_below s)
    by true (inr n) g = g n
    by false n g = g n

module _ (gone : ℕ → Bool) (at : StepLanes) (b : Step) (open_step : IsOpen gone at b) where
  -- what is brought to a stage of its queue, where it is an access of a command
  pub stage_open : is_command_access b.statement ≡ true → (s : Stage) → gone (at.queue + stage_number s) ≡ false
  stage_open e s =
      open_step.queue (ap (λ (t : Bool). is_some b.queue || t) e ∙ or_right (is_some b.queue) true refl) (stage_number s) (stage_below s)

  own_open : (k : ℕ) → IsMember k (own_taken at (whole b)) → gone k ≡ false
  own_open k m = by (is_some b.queue) refl m
    where
      by : (t : Bool) → is_some b.queue ≡ t → IsMember k (cond t (stage_lanes at.queue (takes (whole b)) ++ last_if (follows_them b.statement) at.queue) []) → gone k ≡ false
      by true e n =
          let lanes : (p : ℕ) → p < 14 → gone (at.queue + p) ≡ false = open_step.queue (or_left (is_some b.queue) (is_command_access b.statement) e) in
          elim (in_either k (stage_lanes at.queue (takes (whole b))) (last_if (follows_them b.statement) at.queue) n) [
            | inl j ↦ stages_open gone at.queue (takes (whole b)) lanes every_stage k j
            | inr j ↦ last_open gone (follows_them b.statement) at.queue (λ f. lanes 13 (omega arith)) k j
          ]
      by false e n = absurd n

  pub taken_open : (k : ℕ) → IsMember k (taken at (whole b)) → gone k ≡ false
  taken_open k m =
      elim (in_either k (own_taken at (whole b) ++ last_if (is_some b.thread) at.thread) (last_if (is_told b.statement) at.after) m) [
        | inl j ↦ elim (in_either k (own_taken at (whole b)) (last_if (is_some b.thread) at.thread) j) [
          | inl i ↦ own_open k i
          | inr i ↦ last_open gone (is_some b.thread) at.thread open_step.thread k i
        ]
        | inr j ↦ last_open gone (is_told b.statement) at.after open_step.after k j
      ]

-- a point of a step is all of it, or the step is an access of a command
pub whole_or_access : (s : Step) (said : Statement) (y : Point) → IsMember y (points_at s said) → (y.stage ≡ None) ⊎ (is_command_access said ≡ true)
whole_or_access s (CommandAccess access scope) y m = inr refl
whole_or_access s other y (inl e) = inl (ap (λ (p : Point). p.stage) e)
whole_or_access s other y (inr m) = absurd m

-- what isn't gone behind a line wasn't above it
pub was_open : (sites : List Site) (gone : ℕ → Bool) (said : Statement) (k : ℕ) → gone_with sites gone said k ≡ false → gone k ≡ false
was_open sites gone (Forget x) k e = first (gone k) _ _ e
  where
    first : (r s t : Bool) → ((r || s) || t) ≡ false → r ≡ false
    first true s t f = never (sym f)
    first false s t f = refl
was_open sites gone other k e = e

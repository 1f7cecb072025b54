-- An access of a command takes one lane, and gives the same.
use Rattle.std.proofs.Common.{◌≡◌, ◌⊎◌, ◌+◌, Bool, true, false, ℕ, List, [], ◌∷◌, refl, sym, ◌∙◌, ap, subst, inl, inr, Some, None}
use Rattle.std.proofs.lemmas.Bool.{eq-eqb}
use Rattle.vq_ground.proofs.Bools.{never}
use Rattle.vq_capture.specs.declared.stage.Stage.{Stage}
use Rattle.vq_capture.specs.declared.stage.StageMask.{StageMask}
use Rattle.vq_capture.specs.declared.statement.Statement.{Statement}
use Rattle.vq_capture.specs.declared.statement.Statement.TheVariants.{After}
use Rattle.vq_capture.specs.Masks.{has_stage, at_stage}
use Rattle.vq_capture.specs.Points.{Point, takes, gives, IsMember}
use Rattle.vq_capture.specs.Before.{is_semaphore_operation, follows_them, is_after}
use Rattle.vq_capture_laws.proofs.Cited.{in_front}
use Rattle.vq_capture_check.specs.declared.sites.Site.{Site}
use Rattle.vq_capture_check.specs.Sites.{some_lane, queue_site, thread_site, after_site}
use Rattle.vq_capture_check.specs.Lanes.{stage_number, stage_lanes, last_if}
use Rattle.vq_capture_check.specs.Watching.{is_command_access}
use Rattle.vq_capture_clocks_laws.proofs.StageNumbers.{one_lane}
use Rattle.vq_capture_clocks_laws.proofs.LaneEdges.{gives_lanes, takes_lanes, OfQueue, OfThread, OfTold, from_given, from_taken, to_stages, takes_queue}
use Rattle.vq_capture_clocks_laws.proofs.PointKinds.{takes_stage, gives_stage, follows_none, no_operation, not_after}

module _ (sites : List Site) (p : Point) (t : Stage) (e : p.stage ≡ Some t) (c : is_command_access p.step.statement ≡ true) (q : ℕ) (queue : p.step.queue ≡ Some q) (thread : p.step.thread ≡ None) where
  abbrev first : ℕ
  first = some_lane sites (queue_site p.step.queue)

  one_of : (mask : StageMask) → mask ≡ at_stage t → (s : Stage) → has_stage mask s ≡ true → first + stage_number s ≡ first + stage_number t
  one_of mask same s h =
      by (subst (λ (l : List ℕ). IsMember (first + stage_number s) l) (ap (λ (m : StageMask). stage_lanes first m) same ∙ one_lane first t) (to_stages first mask s h))
    where
      by : IsMember (first + stage_number s) ((first + stage_number t) ∷ []) → first + stage_number s ≡ first + stage_number t
      by (inl f) = f
      by (inr m) = absurd m

  of_queue : (mask : StageMask) (test : Bool) (k : ℕ) → mask ≡ at_stage t → test ≡ false → OfQueue p.step.queue first mask test k → k ≡ first + stage_number t
  of_queue mask test k same fails a = by a.2
    where
      by : (((s : Stage) × (has_stage mask s ≡ true) × (k ≡ first + stage_number s)) ⊎ ((test ≡ true) × (k ≡ first + 13))) → k ≡ first + stage_number t
      by (inl s) = s.2 ∙ one_of mask same s.0 s.1
      by (inr s) = never (sym fails ∙ s.0)

  no_thread : (f k : ℕ) → OfThread p.step.thread f k → ⊥
  no_thread f k a = apart (sym thread ∙ a.1)
    where
      apart : None ≡ Some a.0 → ⊥
      apart x = cc

  no_told : (f k : ℕ) → OfTold p.step.statement f k → ⊥
  no_told f k a = never (sym (not_after p t e c (Some a.0)) ∙ (ap (λ (s : Statement). is_after s (Some a.0)) a.1 ∙ itself))
    where
      itself : is_after (After a.0) (Some a.0) ≡ true
      itself = eq-eqb a.0 a.0 refl

  pub only_taken : (k : ℕ) → IsMember k (takes_lanes sites p) → k ≡ first + stage_number t
  only_taken k m = by (from_taken sites p k m)
    where
      by : (OfQueue p.step.queue first (takes p) (follows_them p.step.statement) k
          ⊎ OfThread p.step.thread (some_lane sites (thread_site p.step.thread)) k)
          ⊎ OfTold p.step.statement (some_lane sites (after_site p.step.statement)) k → k ≡ first + stage_number t
      by (inl (inl a)) = of_queue (takes p) (follows_them p.step.statement) k (takes_stage p t e c) (follows_none p t e c) a
      by (inl (inr a)) = absurd (no_thread (some_lane sites (thread_site p.step.thread)) k a)
      by (inr a) = absurd (no_told (some_lane sites (after_site p.step.statement)) k a)

  pub only_given : (k : ℕ) → IsMember k (gives_lanes sites p) → k ≡ first + stage_number t
  only_given k m = by (from_given sites p k m)
    where
      by : OfQueue p.step.queue first (gives p) (is_semaphore_operation p.step.statement) k
          ⊎ OfThread p.step.thread (some_lane sites (thread_site p.step.thread)) k → k ≡ first + stage_number t
      by (inl a) = of_queue (gives p) (is_semaphore_operation p.step.statement) k (gives_stage p t e c) (no_operation p t e c) a
      by (inr a) = absurd (no_thread (some_lane sites (thread_site p.step.thread)) k a)

  in_one : (mask : StageMask) → mask ≡ at_stage t → IsMember (first + stage_number t) (stage_lanes first mask)
  in_one mask same =
      subst (λ (l : List ℕ). IsMember (first + stage_number t) l) (sym (ap (λ (m : StageMask). stage_lanes first m) same ∙ one_lane first t)) (inl refl)

  pub taken_one : IsMember (first + stage_number t) (takes_lanes sites p)
  taken_one =
      takes_queue sites p q (first + stage_number t) queue
      (in_front (first + stage_number t) (stage_lanes first (takes p)) (last_if (follows_them p.step.statement) first) (in_one (takes p) (takes_stage p t e c)))

-- What is behind the latest access of a kind is behind each of that kind.
use Rattle.std.proofs.Common.{◌≡◌, ◌≤◌, ◌∙◌, true, ℕ, List, [], ◌∷◌, ◌++◌, map, filter, refl, sym, ap, inl, inr, arith, Option, Some, None}
use Rattle.std.specs.Prelude.{◌&&◌, ◌||◌, not, is_some, nat_lt, if◌then◌else◌}
use Rattle.std.specs.List.{list_all}
use Rattle.std.proofs.lemmas.Bool.{or_cases, or_left, or_right, and_from, and_parts}
use Rattle.vq_ground.proofs.Bools.{never}
use Rattle.vq_ground.proofs.Tests.{below_test, below_of_test}
use Rattle.vq_capture.specs.declared.stage.Stage.{Stage}
use Rattle.vq_capture.specs.declared.stage.StageMask.{StageMask}
use Rattle.vq_capture.specs.declared.statement.Statement.{Statement}
use Rattle.vq_capture.specs.declared.statement.Statement.TheVariants.{HostAccess, CommandAccess, Transition}
use Rattle.vq_capture.specs.declared.capture.Step.{Step}
use Rattle.vq_capture.specs.Masks.{has_stage, later, meets}
use Rattle.vq_capture.specs.Releases.{same_queue}
use Rattle.vq_capture.specs.Points.{Point, gives, points_at, stages_with_word, takes}
use Rattle.vq_capture.specs.Before.{by_scopes, is_semaphore_operation}
use Rattle.vq_capture.specs.Races.{access_of}
use Rattle.vq_capture_touched.specs.declared.touch.Touch.{Touch}
use Rattle.vq_capture_touched.specs.Kinds.{are_alike, same_kind}
use Rattle.vq_capture_touched.proofs.Cited.{Alike, alike, masks_are_one, said_alike}
use Rattle.vq_capture_check.specs.Clocks.{knows}
use Rattle.vq_capture_check.specs.Lanes.{given, last_if, stage_lanes}
use Rattle.vq_capture_check.specs.Watching.{Clocking, all_known, is_known, whole}

-- what is known of a line is known of those above it
knows_lower : (c : ℕ → ℕ) (m n : ℕ) (lanes : List ℕ) → m ≤ n → knows c n lanes ≡ true → knows c m lanes ≡ true
knows_lower c m n [] l e = never e
knows_lower c m n (k ∷ ks) l e = elim (or_cases (nat_lt n (c k)) (knows c n ks) e) [
  | inl h ↦ let f = below_of_test n (c k) h in or_left (nat_lt m (c k)) (knows c m ks) (below_test m (c k) (omega arith))
  | inr h ↦ or_right (nat_lt m (c k)) (knows c m ks) (knows_lower c m n ks l h)
]

module _ (cut : ℕ) (y : Clocking) (a b : Touch) (k : Alike a b) (l : b.step.line ≤ a.step.line) where
  -- A point of each at one stage, which give the same

  module _ (o : Option Stage) where
    abbrev above : Point
    above = record { step = a.step; stage = o }

    abbrev own : Point
    own = record { step = b.step; stage = o }

    module _ (g : gives above ≡ gives own) (none : is_semaphore_operation a.step.statement ≡ is_semaphore_operation b.step.statement) where
      same_scopes : by_scopes above y.point ≡ by_scopes own y.point
      same_scopes = λ i.
          same_queue (k.queue i) y.point.step.queue && not (is_some o && is_some y.point.stage) && meets (g i) (takes y.point)

      same_given : given a.at above ≡ given b.at own
      same_given = λ i.
          (if is_some (k.queue i) then stage_lanes (k.queue_lane i) (g i) ++ last_if (none i) (k.queue_lane i) else [])
          ++ last_if (is_some (k.thread i)) (k.thread_lane i)

      known_too : is_known cut y a.at above ≡ true → is_known cut y b.at own ≡ true
      known_too e = elim (or_cases (nat_lt a.step.line cut || by_scopes above y.point) (knows y.clock a.step.line (given a.at above)) e) [
        | inl h ↦ or_left (nat_lt b.step.line cut || by_scopes own y.point) (knows y.clock b.step.line (given b.at own))
            (elim (or_cases (nat_lt a.step.line cut) (by_scopes above y.point) h) [
              | inl i ↦ let f = below_of_test a.step.line cut i in
                  or_left (nat_lt b.step.line cut) (by_scopes own y.point) (below_test b.step.line cut (omega arith))
              | inr i ↦ or_right (nat_lt b.step.line cut) (by_scopes own y.point) (sym same_scopes ∙ i)
            ])
        | inr h ↦ or_right (nat_lt b.step.line cut || by_scopes own y.point) (knows y.clock b.step.line (given b.at own))
            (knows_lower y.clock b.step.line a.step.line (given b.at own) l
            (ap (λ (lanes : List ℕ). knows y.clock a.step.line lanes) (sym same_given) ∙ h))
      ]

  -- All points

  known_whole : gives (whole a.step) ≡ gives (whole b.step) → is_semaphore_operation a.step.statement ≡ is_semaphore_operation b.step.statement → list_all (is_known cut y a.at) (whole a.step ∷ []) ≡ true → list_all (is_known cut y b.at) (whole b.step ∷ []) ≡ true
  known_whole g n e =
      and_from (is_known cut y b.at (whole b.step)) true
      (known_too None g n ((and_parts (is_known cut y a.at (whole a.step)) true e).0)) refl

  abbrev point_of : Step → Stage → Point
  point_of step s = record { step = step; stage = Some s }

  known_stages : ((s : Stage) → gives (point_of a.step s) ≡ gives (point_of b.step s)) → is_semaphore_operation a.step.statement ≡ is_semaphore_operation b.step.statement → (xs : List Stage) → list_all (is_known cut y a.at) (map (point_of a.step) xs) ≡ true → list_all (is_known cut y b.at) (map (point_of b.step) xs) ≡ true
  known_stages g n [] e = refl
  known_stages g n (x ∷ xs) e =
      and_from (is_known cut y b.at (point_of b.step x)) (list_all (is_known cut y b.at) (map (point_of b.step) xs))
      (known_too (Some x) (g x) n ((and_parts (is_known cut y a.at (point_of a.step x)) (list_all (is_known cut y a.at) (map (point_of a.step) xs)) e).0))
      (known_stages g n xs ((and_parts (is_known cut y a.at (point_of a.step x)) (list_all (is_known cut y a.at) (map (point_of a.step) xs)) e).1))

  gives_said : (step : Step) (o : Option Stage) (s : Statement) → step.statement ≡ s → gives (record { step = step; stage = o }) ≡ gives (record { step = record step { statement = s }; stage = o })
  gives_said step o s e = λ i. gives (record { step = record step { statement = e i }; stage = o })

  by_said : (s r : Statement) → a.step.statement ≡ s → b.step.statement ≡ r → are_alike s r ≡ true → list_all (is_known cut y a.at) (points_at a.step s) ≡ true → list_all (is_known cut y b.at) (points_at b.step r) ≡ true
  by_said (HostAccess c) (HostAccess d) e f h =
      known_whole
      (gives_said a.step None (HostAccess c) e ∙ sym (gives_said b.step None (HostAccess d) f))
      (ap (λ (x : Statement). is_semaphore_operation x) e ∙ sym (ap (λ (x : Statement). is_semaphore_operation x) f))
  by_said (CommandAccess c m) (CommandAccess d n) e f h =
      λ all. known_stages
      (λ s. gives_said a.step (Some s) (CommandAccess c m) e ∙ sym (gives_said b.step (Some s) (CommandAccess d n) f))
      (ap (λ (x : Statement). is_semaphore_operation x) e ∙ sym (ap (λ (x : Statement). is_semaphore_operation x) f))
      (filter (has_stage n.stages) stages_with_word)
      (ap (λ (mask : StageMask). list_all (is_known cut y a.at) (map (point_of a.step) (filter (has_stage mask) stages_with_word)))
      (sym (masks_are_one m.stages n.stages h)) ∙ all)
  by_said (Transition p m c) (Transition q n d) e f h =
      known_whole
      (gives_said a.step None (Transition p m c) e
      ∙ (ap (λ (mask : StageMask). later mask) (masks_are_one m.stages n.stages h)
      ∙ sym (gives_said b.step None (Transition q n d) f)))
      (ap (λ (x : Statement). is_semaphore_operation x) e ∙ sym (ap (λ (x : Statement). is_semaphore_operation x) f))
  by_said (HostAccess c) other e f h = never h
  by_said (CommandAccess c m) other e f h = never h
  by_said (Transition p m c) other e f h = never h
  by_said s r e f h = never h

  pub all_too : is_some (access_of b.step.statement) ≡ true → all_known cut a y ≡ true → all_known cut b y ≡ true
  all_too f e =
      by_said a.step.statement b.step.statement refl refl (said_alike a.step.statement b.step.statement k.said f) e

pub known_alike : (cut : ℕ) (y : Clocking) (a b : Touch) → same_kind a b ≡ true → b.step.line ≤ a.step.line → is_some (access_of b.step.statement) ≡ true → all_known cut a y ≡ true → all_known cut b y ≡ true
known_alike cut y a b k l f e = all_too cut y a b (alike a b k) l f e

-- The last task of a program makes an event. So a turn that has ended asked nothing of its access.
use Rattle.std.proofs.Common.{◌≡◌, ℕ, zero, suc, ◌+◌, ◌≤◌, ◌==◌, ◌&&◌, nat_lt, Bool, true, false, if◌then◌else◌, List, [], ◌∷◌, ◌++◌, length, map}
use Rattle.std.proofs.Common.{Some, refl, sym, subst, ◌∙◌, arith}
use Rattle.std.specs.List.{slice_get, flat_map, range_with_len, enumerate_from}
use Rattle.std.proofs.lemmas.Bool.{false≢true}
use Rattle.vq_model.specs.declared.plan.Lane.TheVariants.{Queue as QueueLane}
use Rattle.vq_model.specs.declared.script.ActorName.{ActorName}
use Rattle.vq_model.specs.declared.script.ActorName.TheVariants.{Host as HostActor, Submit as SubmitActor}
use Rattle.vq_model.specs.declared.script.ActorName.TheVariants.{Ring as RingActor}
use Rattle.vq_model.specs.Checks.{is_immediate_batch}
use Rattle.vq_model.specs.Edges.{AtEnd, awaited_at}
use Rattle.vq_model.specs.Plan.{Plan, asked, commands_of, idle_after, is_host_step, is_silent, question, signals_of}
use Rattle.vq_point_laws.specs.Points.{jobs_of_lane}
use Rattle.vq_turns.specs.declared.task.Task.{Task}
use Rattle.vq_turns.specs.declared.task.Task.TheVariants.{AwaitSubmitted, AwaitReleased, AwaitFinished, AwaitBound}
use Rattle.vq_turns.specs.declared.task.Task.TheVariants.{Submit, Release, Bind, Start, Signal, Compare, Answer, Finish}
use Rattle.vq_turns.specs.Programs.{program, takes, moves_batch, submits_batch, runs_batch, runs_command, waits_where}
use Rattle.vq_turns.specs.Programs.{does_step, host_does, host_waits}
use Rattle.vq_actor.specs.Doings.{makes_event}

-- the last of these tasks makes an event, where there is one
abbrev EndsMoving : List Task → Type 0
EndsMoving [] = Unit {0}
EndsMoving (t ∷ []) = makes_event t ≡ true
EndsMoving (t ∷ u ∷ ts) = EndsMoving (u ∷ ts)

ends_append : (xs ys : List Task) → EndsMoving xs → EndsMoving ys → EndsMoving (xs ++ ys)
ends_append [] ys h k = k
ends_append (x ∷ []) [] h k = h
ends_append (x ∷ []) (y ∷ ys) h k = k
ends_append (x ∷ u ∷ xs) ys h k = ends_append (u ∷ xs) ys h k

ends_with : (xs : List Task) (t : Task) → makes_event t ≡ true → EndsMoving (xs ++ t ∷ [])
ends_with [] t h = h
ends_with (x ∷ []) t h = h
ends_with (x ∷ u ∷ xs) t h = ends_with (u ∷ xs) t h

ends_binds : (es : List ℕ) → EndsMoving (map Bind es)
ends_binds [] = tt
ends_binds (e ∷ []) = refl
ends_binds (e ∷ f ∷ es) = ends_binds (f ∷ es)

ends_flat : (f : ℕ → List Task) (xs : List ℕ) → ((x : ℕ) → EndsMoving (f x)) → EndsMoving (flat_map f xs)
ends_flat f [] h = tt
ends_flat f (x ∷ xs) h = ends_append (f x) (flat_map f xs) (h x) (ends_flat f xs h)

module _ (p : Plan) (j : ℕ) where
  -- a batch and a step before they finish
  abbrev runs_first : List Task
  runs_first =
      AwaitReleased j ∷ []
      ++ waits_where p j (λ n. n.from == 1)
      ++ Start j ∷ []
      ++ flat_map (runs_command p j) (enumerate_from 1 (commands_of p j))
      ++ waits_where p j (λ n. nat_lt 1 n.from && nat_lt (length (commands_of p j)) n.from)
      ++ map Signal (signals_of p j)

  abbrev does_first : List Task
  does_first =
      host_waits p j
      ++ map AwaitFinished (idle_after p j)
      ++ Start j ∷ []
      ++ takes p j
      ++ map Bind (signals_of p j)
      ++ map Signal (signals_of p j)
      ++ map (λ n. Compare n.chain n.value) (asked p j)
      ++ (if is_silent (question p j) then [] else Answer j (question p j) ∷ [])

  ends_moves : EndsMoving (moves_batch p j)
  ends_moves =
      ends_append ((map AwaitBound (awaited_at p j AtEnd) ++ takes p j) ++ Release j ∷ []) (map Bind (signals_of p j))
      (ends_with (map AwaitBound (awaited_at p j AtEnd) ++ takes p j) (Release j) refl) (ends_binds (signals_of p j))

  ends_submits : EndsMoving (submits_batch p j)
  ends_submits =
      ends_append ((AwaitSubmitted j ∷ (map AwaitBound (awaited_at p j AtEnd) ++ takes p j)) ++ Release j ∷ [])
      (map Bind (signals_of p j))
      (ends_with (AwaitSubmitted j ∷ (map AwaitBound (awaited_at p j AtEnd) ++ takes p j)) (Release j) refl)
      (ends_binds (signals_of p j))

  ends_host : EndsMoving (host_does p j)
  ends_host = by_step (is_host_step p j)
    where
      by_mode : (b : Bool) → EndsMoving (Submit j ∷ (if b then moves_batch p j else []))
      by_mode true = ends_append (Submit j ∷ []) (moves_batch p j) refl ends_moves
      by_mode false = refl

      by_step : (b : Bool) → EndsMoving (if b then does_step p j
          else Submit j ∷ (if is_immediate_batch p j then moves_batch p j else []))
      by_step true = ends_with does_first (Finish j) refl
      by_step false = by_mode (is_immediate_batch p j)

  ends_runs : EndsMoving (runs_batch p j)
  ends_runs = ends_with runs_first (Finish j) refl

ends_program : (p : Plan) (a : ActorName) → EndsMoving (program p a)
ends_program p HostActor = ends_flat (host_does p) (range_with_len 0 (length p.jobs)) (ends_host p)
ends_program p (SubmitActor q) = ends_flat (submits_batch p) (jobs_of_lane p (QueueLane q)) (ends_submits p)
ends_program p (RingActor q) = ends_flat (runs_batch p) (jobs_of_lane p (QueueLane q)) (ends_runs p)

last_moves : (ts : List Task) → EndsMoving ts → (n : ℕ) (t : Task) → slice_get ts n ≡ Some t → length ts ≤ n + 1 →
    makes_event t ≡ true
last_moves [] h n t at le = absurd (cc)
last_moves (x ∷ []) h zero t at le = let same : x ≡ t = cc in subst (λ (u : Task). makes_event u ≡ true) same h
last_moves (x ∷ []) h (suc n) t at le = absurd (cc)
last_moves (x ∷ u ∷ ts) h zero t at le = absurd (omega arith)
last_moves (x ∷ u ∷ ts) h (suc n) t at le = last_moves (u ∷ ts) h n t at (omega arith)

-- The task before this one was done without an event.
pub record WentOn (tasks : List Task) (k : ℕ) : Type 0 where
  pub before : ℕ
  pub task : Task
  pub behind : k ≡ before + 1
  pub at : slice_get tasks before ≡ Some task
  pub quiet : makes_event task ≡ false

pub none_went_on : (p : Plan) (a : ActorName) (tasks : List Task) (k : ℕ) → tasks ≡ program p a → length tasks ≤ k →
    WentOn tasks k → ⊥
none_went_on p a tasks k e past w =
    let behind = w.behind in
    let moves = last_moves tasks (subst EndsMoving (sym e) (ends_program p a)) w.before w.task w.at
    (omega (arith, past, behind)) in
    false≢true (sym w.quiet ∙ moves)

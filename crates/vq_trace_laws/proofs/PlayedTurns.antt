-- The turns of a schedule are made by their actors, and their numbers rise; so do those of rounds that moved.
use Rattle.std.proofs.Common.{◌≡◌, ℕ, zero, suc, ◌≤◌, ◌^◌, ◌+◌, Bool, true, false, if◌then◌else◌, List, [], ◌∷◌, ◌++◌, length, map, filter}
use Rattle.std.proofs.Common.{refl, arith}
use Rattle.std.specs.List.{range_with_len}
use Rattle.vq_model.specs.declared.script.ActorName.{ActorName}
use Rattle.vq_model.specs.declared.script.ActorName.TheVariants.{Submit as SubmitActor, Ring as RingActor}
use Rattle.vq_model.specs.Plan.{Plan}
use Rattle.vq_model.specs.ValidScripts.{IsActor, is_threaded_queue}
use Rattle.vq_model.specs.WellFormed.{IsWellFormed}
use Rattle.vq_turns.specs.declared.outcome.Outcome.{Outcome}
use Rattle.vq_turns.specs.Turns.{Scene, plays, played_from}
use Rattle.vq_progress_laws.specs.Movers.{all_queues, round, rounds_of}
use Rattle.vq_replay.specs.declared.played.Played.{Played}
use Rattle.vq_replay.specs.Traces.{numbered_from}
use Rattle.vq_replay.specs.Rounds.{has_moved}
use Rattle.vq_trace_laws.proofs.LinesBack.{RiseFrom}
use Rattle.vq_trace_laws.proofs.Makers.{plays_made}
use Rattle.vq_trace_laws.proofs.TracesBack.{ArePlayed}

-- these actors are of the plan's script
abbrev pub AreActors : Plan → List ActorName → Type 0
AreActors p [] = Unit {0}
AreActors p (a ∷ actors) = IsActor p.script a × AreActors p actors

-- Turns

module _ (p : Plan) (wf : IsWellFormed p) where
  -- Turns of actors are made by them, ..
  pub turns_played : (actors : List ActorName) → AreActors p actors → (s : Scene) (n : ℕ) →
      n + length actors ≤ 2 ^ 64 → ArePlayed p (numbered_from n actors (played_from p s actors))
  turns_played [] h s n l = tt
  turns_played (a ∷ actors) h s n l = (
    record { number = omega arith; actor = h.0; made = plays_made p wf s a h.0 },
    turns_played actors h.1 (plays p s a).1 (n + 1) (omega arith),
  )

-- .. and their numbers rise.
pub turns_rise : (actors : List ActorName) (outcomes : List Outcome) (n : ℕ) →
    RiseFrom n (numbered_from n actors outcomes)
turns_rise [] outcomes n = tt
turns_rise (a ∷ actors) [] n = tt
turns_rise (a ∷ actors) (o ∷ outcomes) n = (omega arith, turns_rise actors outcomes (n + 1))

-- Some of them

rise_earlier : (m n : ℕ) (xs : List Played) → m ≤ n → RiseFrom n xs → RiseFrom m xs
rise_earlier m n [] l r = tt
rise_earlier m n (x ∷ xs) l r = let k = r.0 in (omega arith, r.1)

pub some_rise : (m : ℕ) (xs : List Played) → RiseFrom m xs → RiseFrom m (filter has_moved xs)
some_rise m [] r = tt
some_rise m (x ∷ xs) r = by_test (has_moved x) (some_rise (x.number + 1) xs r.1)
  where
    by_test : (b : Bool) → RiseFrom (x.number + 1) (filter has_moved xs) →
        RiseFrom m (if b then x ∷ filter has_moved xs else filter has_moved xs)
    by_test true more = (r.0, more)
    by_test false more = let l = r.0 in rise_earlier m (x.number + 1) (filter has_moved xs) (omega arith) more

pub some_played : (p : Plan) (xs : List Played) → ArePlayed p xs → ArePlayed p (filter has_moved xs)
some_played p [] h = tt
some_played p (x ∷ xs) h = by_test (has_moved x) (some_played p xs h.1)
  where
    by_test : (b : Bool) → ArePlayed p (filter has_moved xs) →
        ArePlayed p (if b then x ∷ filter has_moved xs else filter has_moved xs)
    by_test true more = (h.0, more)
    by_test false more = more

-- Rounds

module _ (p : Plan) where
  actors_join : (xs ys : List ActorName) → AreActors p xs → AreActors p ys → AreActors p (xs ++ ys)
  actors_join [] ys h k = k
  actors_join (x ∷ xs) ys h k = (h.0, actors_join xs ys h.1 k)

  submits_act : (qs : List ℕ) → AreActors p (map SubmitActor (filter (is_threaded_queue p.script) qs))
  submits_act [] = tt
  submits_act (q ∷ qs) = by_test (is_threaded_queue p.script q) refl (submits_act qs)
    where
      others : List ℕ
      others = filter (is_threaded_queue p.script) qs

      by_test : (b : Bool) → is_threaded_queue p.script q ≡ b → AreActors p (map SubmitActor others) →
          AreActors p (map SubmitActor (if b then q ∷ others else others))
      by_test true e more = (e, more)
      by_test false e more = more

  rings_act : (a n : ℕ) → a + n ≤ length p.script.queues → AreActors p (map RingActor (range_with_len a n))
  rings_act a zero l = tt
  rings_act a (suc n) l = (omega arith, rings_act (a + 1) n (omega arith))

  -- A round is of actors.
  pub rounds_act : (n : ℕ) → AreActors p (rounds_of n p)
  rounds_act zero = tt
  rounds_act (suc n) =
      actors_join (round p) (rounds_of n p) (
        tt,
        actors_join (map SubmitActor (filter (is_threaded_queue p.script) (all_queues p)))
            (map RingActor (all_queues p)) (submits_act (all_queues p))
            (rings_act 0 (length p.script.queues) (omega arith)),
      )
      (rounds_act n)

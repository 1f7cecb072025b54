-- The actors of a run before their first turns, each with a share of it. This project's own.
use Rattle.std.specs.Prelude.{◌≡◌, ◌∷◌, List, All, map}
use Rattle.std.specs.Global.{Box}
use Rattle.vq_model.specs.declared.script.ActorName.TheVariants.{Host as HostActor}
use Rattle.vq_model.specs.Plan.{Plan}
use Rattle.vq_board_run.specs.Crews.{workers}
use Rattle.vq_board_run.specs.Unused.{IsUnused, IsUnusedLead}
use Rattle.vq_shared_run.specs.declared.run.Run.{Run}
use Rattle.vq_shared_run.specs.declared.player.Player.{Player}
use Rattle.vq_shared_run.specs.declared.player.Player.TheVariants.{Playing as IsPlaying, Left as HasLeft}
use Rattle.vq_shared_run.specs.declared.stand.Stand.{Stand}
use Rattle.vq_shared_run.specs.declared.stand.Stand.TheVariants.{Worker, Host, Ended}
use Rattle.vq_shared_run.specs.Players.{actor_of, run_of}

-- The actor took no turn: all places are the first, nothing was told, and its pass made no step.
abbrev pub IsUnplayedAt : Plan → Stand → Type 0
IsUnplayedAt p (Worker r) = IsUnused p r
IsUnplayedAt p (Host l) = IsUnusedLead p l
IsUnplayedAt p (Ended w) = ⊥

-- the actor has a share of this run, and took no turn in it
abbrev pub IsUnplayedOn : Run → Player → Type 0
IsUnplayedOn g (IsPlaying p) = (run_of p ≡ g) × IsUnplayedAt g.ordered p.stand
IsUnplayedOn g (HasLeft l) = ⊥

-- All actors of the plan, in order, share one run of it, and none took a turn.
pub record AreShared (p : Plan) (xs : List (Box Player)) : Type 0 where
  pub run : Run
  pub plan : run.ordered ≡ p
  pub unplayed : All (λ x. IsUnplayedOn run x.value) xs
  pub actors : map (λ x. actor_of x.value) xs ≡ HostActor ∷ workers p.script

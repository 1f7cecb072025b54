-- The jobs of a plan's commands. This project's own.
use Rattle.std.specs.Prelude.{ℕ, List, ◌≡◌, ◌<◌, true, length}
use Rattle.std.specs.List.{slice_index_or}
use Rattle.vq_model.specs.Plan.{Plan, commands_of}
use Rattle.vq_ground.specs.Lists.{has}

-- These are the jobs of a plan's commands, one for each command.
pub record HasOwners (p : Plan) (owners : List ℕ) : Type 0 where
  pub count : length owners ≡ length p.commands
  pub each : (c : ℕ) → c < length p.commands →
      has (commands_of p (slice_index_or owners c 0)) c ≡ true

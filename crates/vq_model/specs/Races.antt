-- Races: commands that conflict, neither before the other.
-- Vulkan 1.3, "Execution and Memory Dependencies" (data hazards).
use Rattle.std.specs.Prelude.{ℕ, Bool, ◌≡◌, true, ◌≢◌}
use Rattle.std.specs.List.{list_any}
use Rattle.std.specs.Option.{option_to_list}
use Rattle.vq_model.specs.Ranges.{conflict}
use Rattle.vq_model.specs.Plan.{Plan, command_at, commands_of}
use Rattle.vq_ground.specs.Lists.{has}
use Rattle.vq_model.specs.HappensBefore.{HappensBeforeCommand}

-- whether two commands of a plan conflict
abbrev pub conflicts : Plan → ℕ → ℕ → Bool
conflicts p c d =
    list_any (λ x. list_any (conflict p.sizes x) (option_to_list (command_at p d)))
    (option_to_list (command_at p c))

-- commands of two jobs that conflict, neither before the other
pub record IsRace (p : Plan) (c d : ℕ) : Type 0 where
  pub first_job : ℕ
  pub second_job : ℕ
  pub first : has (commands_of p first_job) c ≡ true
  pub second : has (commands_of p second_job) d ≡ true
  pub two_jobs : first_job ≢ second_job
  pub conflict : conflicts p c d ≡ true
  pub unordered : ¬ HappensBeforeCommand p first_job second_job d
  pub unordered_back : ¬ HappensBeforeCommand p second_job first_job c

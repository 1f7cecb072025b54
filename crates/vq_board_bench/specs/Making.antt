-- How many points a shelf may make. This project's own.
use Rattle.std.specs.Prelude.{ℕ, ◌≤◌}
use Rattle.vq_model.specs.Plan.{Plan}
use Rattle.vq_board_laws.specs.declared.view.Role.TheVariants.{Shelf}
use Rattle.vq_board_laws.specs.Roles.{role_number, share_of}

-- the shelf of a chain may own so many points
abbrev pub HasShare : Plan → ℕ → ℕ → Type 0
HasShare p t count = count ≤ share_of p (role_number p (Shelf t))

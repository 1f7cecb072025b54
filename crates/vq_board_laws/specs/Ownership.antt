-- Who has which role, and who owns which point. This project's own.
use Rattle.std.specs.Prelude.{ℕ, List, ◌≡◌, ◌<◌, ◌≤◌, ◌+◌, length, true, sum_by}
use mathlib.Core.Option.{some}
use lib.ListN.{get_elem?}
use Rattle.vq_model.specs.Plan.{Plan}
use Rattle.vq_ground.specs.Lists.{has}
use Rattle.vq_board_laws.specs.declared.view.View.{View}
use Rattle.vq_board_laws.specs.Roles.{role_count, share_of}
use Rattle.vq_board_laws.specs.Knowledge.{Each}

pub record Ownership (p : Plan) (count : ℕ) (views : List View) : Type 0 where
  -- roles are given out in their order, and the host's pass has how many were given
  pub roles : Each (λ i v. v.role ≡ i) views
  pub given : (v : View) → get_elem? views 0 ≡ some v → v.given + 1 ≡ length views
  pub within : length views ≤ role_count p
  pub plans : Each (λ i v. v.plan ≡ p) views
  -- no point is owned twice, and the count of points is the number of those owned
  pub owners : (i k q : ℕ) (v w : View) → get_elem? views i ≡ some v → get_elem? views k ≡ some w →
      has v.owned q ≡ true → has w.owned q ≡ true → i ≡ k
  pub owned : Each (λ i v. (q : ℕ) → has v.owned q ≡ true → q < count) views
  pub shares : Each (λ i v. length v.owned ≤ share_of p v.role) views
  pub counted : count ≡ sum_by (λ v. length v.owned) views

-- References to points. This project's own.
use Rattle.std.specs.Prelude.{ℕ, List, ◌≡◌, ◌≤◌, ◌==◌, length, count_by, sum_by}
use Rattle.vq_point_laws.specs.PointWord.{parts}
use Rattle.vq_board_laws.specs.declared.view.View.{View}
use Rattle.vq_board_laws.specs.Words.{Carries}
use Rattle.vq_board_laws.specs.Points.{reference, Lists}
use Rattle.vq_board_laws.specs.Knowledge.{Each}

-- how many references to a point a pass holds
abbrev pub refs_to : ℕ → View → ℕ
refs_to q v = count_by (λ r. r.point == q) v.refs

pub record References (point : ℕ → ℕ) (views : List View) : Type 0 where
  -- a reference means that the point carries the operation
  pub carried : Each (λ i v. (q e : ℕ) → Lists v.refs (reference q e) → Carries (point q) e) views
  pub few : Each (λ i v. length v.refs ≤ 16) views
  -- a point's word has the number of references to it
  pub counts : (q : ℕ) → (parts (point q)).refs ≡ sum_by (refs_to q) views

-- What the host's pass knows after it looked at a job.
use Rattle.std.proofs.Common.{◌≡◌, ◌+◌, ℕ, sym, ap, ◌∙◌, subst, arith, inl, inr}
use mathlib.Core.Logic.{dite}
use native.Mathlib.Decide.{ℕ_discrete}
use Rattle.vq_board_laws.specs.declared.view.Fact.TheVariants.{Job}
use Rattle.vq_board_laws.specs.declared.view.JobState.{JobState}
use Rattle.vq_board_laws.specs.declared.view.JobState.TheVariants.{Finished}
use Rattle.vq_board_laws.specs.declared.view.View.{View}
use Rattle.vq_board_laws.specs.Knowledge.{Knows}
use Rattle.vq_board_laws.specs.Steps.{looks}
use Rattle.vq_board.specs.declared.parts.Board.{Board}
use Rattle.vq_board.specs.declared.parts.Pass.{Pass}
use Rattle.vq_board.specs.Named.{view, IsOf, Turns}
use Rattle.vq_board_run.specs.Answered.{HasSeen}

-- A pass looked at a job and found it in this state.
module _ (b : Board) (x y : Pass) (n : ℕ) (s : JobState) (before : HasSeen b x n)
    (turned : Turns x y (looks (view x) n s)) where
  after : View
  after = looks (view x) n s

  it_is : IsOf b y
  it_is = (
    turned.0 ∙ before.board.0,
    ap (λ (v : View). v.plan) turned.2 ∙ before.board.1,
  )

  its_role : (view y).role ≡ 0
  its_role = ap (λ (v : View). v.role) turned.2 ∙ before.role

  -- it knows the jobs finished that it knew so,
  pub seen_still : HasSeen b y n
  seen_still =
      record {
        board = it_is;
        role = its_role;
        finished = λ j l. subst (λ (v : View). Knows v.known (Job j Finished)) (sym turned.2)
            (inr (before.finished j l));
      }

  -- and this one, where it found it finished,
  pub seen_next : s ≡ Finished → HasSeen b y (n + 1)
  seen_next found =
      record {
        board = it_is;
        role = its_role;
        finished = λ j l. subst (λ (v : View). Knows v.known (Job j Finished)) (sym turned.2)
            (dite (ℕ_discrete n j)
            (λ e. inl (λ i. Job (e i) (found i)))
            (λ ne. inr (before.finished j (omega arith))));
      }

  -- and told nothing
  pub told_still : (view y).told ≡ (view x).told
  told_still = ap (λ (v : View). v.told) turned.2

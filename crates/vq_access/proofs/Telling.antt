-- The answers that an actor at a board gives: that it may, and that the places stay true.
use Rattle.std.proofs.Common.{◌≡◌, ℕ, sym, ap, ◌∙◌}
use Rattle.vq_model.specs.Checks.{IsLawful}
use Rattle.vq_model.specs.LoweredPlans.{IsPlan}
use Rattle.vq_model.specs.declared.plan.Answer.{Answer as GivenAnswer}
use Rattle.vq_model.specs.declared.plan.Question.{Question}
use Rattle.vq_turns.specs.declared.task.Task.TheVariants.{Answer}
use Rattle.vq_turns.specs.Turns.{Place, answer_by}
use Rattle.vq_actor.specs.Answers.{answered}
use Rattle.vq_board_laws.specs.PointSteps.{answers}
use Rattle.vq_board_laws.specs.Shows.{MayAnswer}
use Rattle.vq_board.specs.Named.{plan_of}
use Rattle.vq_access_laws.proofs.Cited.{may_answer, true_answered}
use Rattle.vq_access.specs.declared.post.Post.{Post}
use Rattle.vq_access.specs.Seatings.{places_of}
use Rattle.vq_access.proofs.Posting.{at, here, seen_by, IsNextTask, AreTrueOf, served, next_there, goes_to, there, of_board_plan}

module _ (x : Post) (i : IsPlan x.ordered.now) (l : IsLawful x.ordered.now) (j : ℕ) (asks : Question)
    (n : IsNextTask x (Answer j asks)) where
  pub answers_may : (r : GivenAnswer) → r ≡ answer_by asks (here x).seen →
      MayAnswer (plan_of x.board.now) (seen_by x) j r
  answers_may r e =
      of_board_plan x (λ p. MayAnswer p (seen_by x) j r)
      (may_answer x.ordered.now i l x.owner (seen_by x) (at x (here x)) x.places x.actor (served x) j asks
      (next_there x (Answer j asks) n) r
      (e ∙ ap (λ (y : Place). answer_by asks y.seen) (sym (there (places_of x.owner x.seats.now.value) x.actor (here x)))))

  pub answers_truly : (r : GivenAnswer) → AreTrueOf x (answers (seen_by x) j r) (answered (here x))
  answers_truly r =
      true_answered x.ordered.now i l x.owner (seen_by x) (at x (here x)) x.places x.actor (served x)
      (at x (answered (here x))) j asks r (next_there x (Answer j asks) n)
      (goes_to x (answered (here x)) (answered (at x (here x) x.actor))
      (ap answered (there (places_of x.owner x.seats.now.value) x.actor (here x))))

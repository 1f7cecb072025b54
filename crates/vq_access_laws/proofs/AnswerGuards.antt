-- Where the places are true of a pass, the host may answer by what it compared.
use Rattle.std.proofs.Common.{◌≡◌, ℕ, ◌+◌, true, false, List, ◌∷◌, ◌++◌, Option, Some, None, drop, map, refl, sym, ap, ◌∙◌, subst, is_some, option_map}
use Rattle.std.specs.List.{slice_get}
use Rattle.std.proofs.lemmas.Bool.{false≢true, not-true}
use Rattle.vq_model.specs.Checks.{IsLawful}
use Rattle.vq_model.specs.LoweredPlans.{IsPlan}
use Rattle.vq_model.specs.declared.plan.Answer.{Answer as GivenAnswer}
use Rattle.vq_model.specs.declared.plan.Need.{Need}
use Rattle.vq_model.specs.declared.plan.Question.{Question}
use Rattle.vq_model.specs.declared.plan.Question.TheVariants.{Value as AsksValue}
use Rattle.vq_model.specs.declared.script.ActorName.{ActorName}
use Rattle.vq_model.specs.declared.script.ActorName.TheVariants.{Host as HostActor, Submit as SubmitActor}
use Rattle.vq_model.specs.declared.script.ActorName.TheVariants.{Ring as RingActor}
use Rattle.vq_model.specs.Plan.{Plan, asked, question, is_silent}
use Rattle.vq_turns.specs.declared.task.Task.{Task}
use Rattle.vq_turns.specs.declared.task.Task.TheVariants.{Answer}
use Rattle.vq_turns.specs.Programs.{program}
use Rattle.vq_turns.specs.Turns.{Place, answer_by}
use Rattle.vq_turn_laws.specs.Orders.{AsksAnswer}
use Rattle.vq_turn_laws.specs.Running.{Running, runs_after, InTurn, IsRunnerOf}
use Rattle.vq_turn_laws.specs.Tasks.{compared_now}
use Rattle.vq_turn_laws.proofs.Cited.{plan_orderly}
use Rattle.vq_core_laws.proofs.Cited.{facts}
use Rattle.vq_actor.specs.Stages.{Serves}
use Rattle.vq_board_laws.specs.declared.view.View.{View}
use Rattle.vq_board_laws.specs.Reached.{answer_told}
use Rattle.vq_board_laws.specs.Roles.{role_number}
use Rattle.vq_board_laws.specs.Shows.{MayAnswer, ShowsBy}
use Rattle.vq_access_laws.specs.Tests.{saw_values}
use Rattle.vq_access_laws.specs.TruePasses.{AreTrue, tasks_before, role_of_actor}
use Rattle.vq_access_laws.proofs.AnswerLaws.{pair_of, compared_onto, shows_answer}
use Rattle.vq_access_laws.proofs.Guards.{asks, kind, not_done, role, runner_own, turn}
use Rattle.vq_access_laws.proofs.OwnRules.{own_here}
use Rattle.vq_access_laws.proofs.ServedActors.{serves_itself}
use Rattle.vq_access_laws.proofs.TaskKinds.{is_task_of}

module _ (p : Plan) (i : IsPlan p) (l : IsLawful p) (a : ActorName) (v : View) (places : ActorName → Place)
    (k : AreTrue p a v places) (b : ActorName) (s : Serves p a b) (j : ℕ) (asked_for : Question)
    (next : slice_get (program p b) (places b).done ≡ Some (Answer j asked_for)) where
  own : b ≡ a
  own = runner_own p i l a v places k b s (Answer j asked_for) next (λ q. refl)

  next_own : slice_get (program p a) (places a).done ≡ Some (Answer j asked_for)
  next_own = subst (λ (c : ActorName). slice_get (program p c) (places c).done ≡ Some (Answer j asked_for)) own next

  abbrev before : List Task
  before = tasks_before p a (places a)

  order : AsksAnswer p before j asked_for (drop ((places a).done + 1) (program p a))
  order = asks p i l a v places k a (serves_itself p a) (Answer j asked_for) next_own

  loud : is_silent asked_for ≡ false
  loud = ap is_silent order.is ∙ order.loud

  compared : compared_now before ≡ map pair_of (asked p j)
  compared = ap compared_now order.compared ∙ (compared_onto (asked p j) order.earlier
      ∙ ap (λ (z : List (ℕ × ℕ)). z ++ map pair_of (asked p j)) order.alone)

  saw : saw_values p v (map pair_of (asked p j)) (places a).seen ≡ true
  saw = subst (λ (z : List (ℕ × ℕ)). saw_values p v z (places a).seen ≡ true) compared
      ((own_here p a v (places a) (Answer j asked_for) next_own k.own).rest.saw refl)

  value : (t : ℕ) → asked_for ≡ AsksValue t → (n : Need) × (ns : List Need) × (asked p j ≡ n ∷ ns) × (n.chain ≡ t)
  value t is = (plan_orderly p i l).parts.value j t (sym order.is ∙ is)

  shows : ShowsBy p v j (question p j) (answer_by asked_for (places b).seen)
  shows = subst (λ (c : ActorName). ShowsBy p v j (question p j) (answer_by asked_for (places c).seen)) (sym own)
      (subst (λ (z : Question). ShowsBy p v j z (answer_by asked_for (places a).seen)) order.is
      (shows_answer p (facts p i l) v j asked_for (places a).seen loud saw value))

  runs : v.runs ≡ Some j
  runs = by_run (runs_after before) refl (turn p i l a v places k a (serves_itself p a) (Answer j asked_for) next_own)
    where
      by_run : (r : Option Running) → runs_after before ≡ r → InTurn p (IsRunnerOf p a) (Answer j asked_for) r → v.runs ≡ Some j
      by_run None at t = absurd t
      by_run (Some y) at t = k.own.runs.job ∙ (ap (option_map (λ (z : Running). z.job)) at ∙ ap Some t)

  pub may_answer : (r : GivenAnswer) → r ≡ answer_by asked_for (places b).seen → MayAnswer p v j r
  may_answer r is = record {
    host = by_actor b (role p i l a v places k b s) (kind p i l a v places k b s (Answer j asked_for) next);
    runs = runs;
    asks = order.loud;
    unanswered = not-true (is_some (answer_told v.told j)) (not_done p i l a v places k b s (Answer j asked_for) next);
    shows = subst (ShowsBy p v j (question p j)) (sym is) shows;
  }
    where
      by_actor : (c : ActorName) → v.role ≡ role_number p (role_of_actor p c) → is_task_of p c (Answer j asked_for) ≡ true → v.role ≡ 0
      by_actor HostActor r h = r
      by_actor (SubmitActor q) r h = absurd (false≢true h)
      by_actor (RingActor q) r h = absurd (false≢true h)

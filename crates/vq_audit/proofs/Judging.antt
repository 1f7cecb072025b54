-- What follows from the steps of an audit.
use Rattle.std.proofs.Common.{◌≡◌, ◌∙◌, ℕ, List, Option, Some, None, refl, sym, ap, subst}
use Rattle.vq_model.specs.declared.plan.Event.{Event}
use Rattle.vq_point_laws.specs.Points.{HistoryFrom, opening_points}
use Rattle.vq_history_laws.specs.Histories.{points_after}
use Rattle.vq_core.specs.CoreState.{Course, world}
use Rattle.vq_core.specs.Tables.{jobs_left}
use Rattle.vq_given.specs.declared.given.GivenTrace.{GivenTrace}
use Rattle.vq_audit.specs.Comparing.{first_difference}
use Rattle.vq_audit.specs.Verdicts.{AtEnd, EndsTruly, InRest, IsBroken, IsLawful, SaysLeft, left_after, lines_left, made_events, true_rest}
use Rattle.vq_audit.proofs.Differences.{Finds, finds}

-- A core with the events of a trace.
module _ (d : Course) (given : GivenTrace) (played : d.history ≡ made_events given.events) where
  pub left_is : jobs_left d.plan (world d).machine.progress.finished ≡ left_after d.plan given
  left_is = ap (λ (h : List Event). jobs_left d.plan (points_after d.plan h).machine.progress.finished) played

  pub rest_is : lines_left d.plan (world d).machine (jobs_left d.plan (world d).machine.progress.finished)
      ≡ true_rest d.plan given
  rest_is = ap (λ (h : List Event). lines_left d.plan (points_after d.plan h).machine
      (jobs_left d.plan (points_after d.plan h).machine.progress.finished)) played

  module _ (course : HistoryFrom d.plan (opening_points d.plan) d.history) where
    may : HistoryFrom d.plan (opening_points d.plan) (made_events given.events)
    may = subst (λ (h : List Event). HistoryFrom d.plan (opening_points d.plan) h) played course

    pub end_is_wrong : (left : ℕ) → left ≡ jobs_left d.plan (world d).machine.progress.finished →
        (SaysLeft given.finished given.left left → ⊥) → IsBroken d.plan given given.end_line
    end_is_wrong left is untrue =
        AtEnd may (λ e. untrue (subst (λ (n : ℕ). SaysLeft given.finished given.left n) (sym (is ∙ left_is)) e)) refl

    module _ (left : ℕ) (is : left ≡ jobs_left d.plan (world d).machine.progress.finished)
        (says : SaysLeft given.finished given.left left) (lines : List (List ℕ))
        (all : lines ≡ lines_left d.plan (world d).machine (jobs_left d.plan (world d).machine.progress.finished)) where
      ends : EndsTruly d.plan given
      ends = subst (λ (n : ℕ). SaysLeft given.finished given.left n) (is ∙ left_is) says

      found_is : (found : Option ℕ) → found ≡ first_difference lines given.rest given.end_line →
          Finds (true_rest d.plan given) given.rest given.end_line found
      found_is found is =
          subst (λ (o : Option ℕ). Finds (true_rest d.plan given) given.rest given.end_line o)
          (sym (is ∙ ap (λ (xs : List (List ℕ)). first_difference xs given.rest given.end_line) (all ∙ rest_is)))
          (finds (true_rest d.plan given) given.rest given.end_line)

      pub rest_is_wrong : (line : ℕ) → Some line ≡ first_difference lines given.rest given.end_line →
          IsBroken d.plan given line
      rest_is_wrong line is = let f = found_is (Some line) is in InRest may ends f.0 f.1 f.2

      pub all_is_lawful : None ≡ first_difference lines given.rest given.end_line → IsLawful d.plan given
      all_is_lawful is = record { may = may; end = ends; rest = found_is None is }

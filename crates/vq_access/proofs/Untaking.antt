-- A release is refused where a point doesn't carry its operation.
use Rattle.std.proofs.Common.{◌≡◌, ◌≤◌, ◌+◌, ℕ, List, false, Err, Result, length, refl, sym, ap, ◌∙◌, subst, arith, inl}
use Rattle.std.proofs.lemmas.List.{length-append}
use Rattle.std.specs.Borrow.{GName}
use Rattle.vq_model.specs.declared.script.ActorName.{ActorName}
use Rattle.vq_model.specs.declared.plan.Event.{Event}
use Rattle.vq_model.specs.Plan.{Plan}
use Rattle.vq_point_laws.specs.Points.{PointState}
use Rattle.vq_turns.specs.declared.outcome.Want.{Want}
use Rattle.vq_turns.specs.declared.outcome.Want.TheVariants.{Submitted, Released, Bound, Next, Signaled, Finished}
use Rattle.vq_turns.specs.declared.outcome.Want.TheVariants.{MemoryTurn, Exchange, Listed}
use Rattle.vq_turns.specs.Turns.{Place}
use Rattle.vq_actor.specs.Answers.{AnswersTry}
use Rattle.vq_actor.specs.Meanings.{Recent}
use Rattle.vq_board_laws.specs.declared.view.OwnStep.{OwnStep}
use Rattle.vq_board_laws.specs.declared.view.View.{View}
use Rattle.vq_board_laws.specs.PointSteps.{sees}
use Rattle.vq_board_laws.specs.Words.{Carries}
use Rattle.vq_point_laws.specs.PointWord.{parts}
use Rattle.vq_access.specs.Shown.{IsShownAt}
use Rattle.vq_access_laws.specs.AccessMeanings.{meaning_of}
use Rattle.vq_access_laws.specs.Causes.{Refusals, IsShown}
use Rattle.vq_board_laws.specs.Learning.{Learns}
use Rattle.vq_access.specs.Taken.{SawUntaken, IsUntaken}
use Rattle.vq_access.proofs.Replies.{refuses}

-- a pass that learned has no fewer steps, and told the same
pub learned_steps : (v w : View) → Learns v w → length v.steps ≤ length w.steps
learned_steps v w k =
    let whole : length w.steps ≡ length k.steps.0 + length v.steps =
    ap (λ (ss : List OwnStep). length ss) k.steps.1 ∙ length-append k.steps.0 v.steps in
    omega arith

pub learned_told : (v w : View) → Learns v w → w.told ≡ v.told
learned_told v w k = ap (λ (z : View). z.told) k.same

module _ (l : List GName) (p : Plan) (a : ActorName) (x : Place) (r s : Recent) (v w : View)
    (f : Refusals) where
  refused_for : (es : List ℕ) (e found : ℕ) → IsUntaken v w es e found → (to : Place)
      (expected : PointState → Result Event Want) (Names : Event → Type 0) →
      AnswersTry (meaning_of l p a x r v f) (meaning_of l p a x s w f) to expected Names
      (λ o t. IsShownAt w f o t) (Err (Exchange e found))
  refused_for es e found k to expected Names =
      let low = learned_steps v k.before k.learned in
      let more : length v.steps ≤ length w.steps =
      subst (λ (z : View). length v.steps ≤ length z.steps) (sym k.last) (omega arith) in
      refuses l p a x x r s v w f f more (omega arith) to expected Names (Exchange e found)
      (ap (λ (z : View). z.told) k.last ∙ learned_told v k.before k.learned) refl
      (λ t le. subst (λ (z : View). IsShown z.steps f (Exchange e found) t) (sym k.last)
      (inl (inl (
        at_most t.0 (length v.steps) (length k.before.steps) le.0 low,
        (k.point, refl, refl, inl k.not_carried),
      ))))
    where
      at_most : (a b c : ℕ) → a ≤ b → b ≤ c → a ≤ c
      at_most a b c g h = omega arith

  pub refused_release : (es : List ℕ) (want : Want) → SawUntaken v w es want → (to : Place)
      (expected : PointState → Result Event Want) (Names : Event → Type 0) →
      AnswersTry (meaning_of l p a x r v f) (meaning_of l p a x s w f) to expected Names
      (λ o t. IsShownAt w f o t) (Err want)
  refused_release es (Exchange e found) k to expected Names = refused_for es e found k to expected Names
  refused_release es (Submitted j) k to expected Names = absurd k
  refused_release es (Released j) k to expected Names = absurd k
  refused_release es (Bound e) k to expected Names = absurd k
  refused_release es (Next e) k to expected Names = absurd k
  refused_release es (Signaled e) k to expected Names = absurd k
  refused_release es (Finished j) k to expected Names = absurd k
  refused_release es MemoryTurn k to expected Names = absurd k
  refused_release es (Listed e) k to expected Names = absurd k

-- A look at a point that carries an operation unsignaled.
module _ (l : List GName) (p : Plan) (a : ActorName) (x : Place) (r s : Recent) (v w : View)
    (f : Refusals) where
  pub refused_look : (q n e : ℕ) → w ≡ sees v q n → Carries n e → (parts n).signaled ≡ false → (to : Place)
      (expected : PointState → Result Event Want) (Names : Event → Type 0) →
      AnswersTry (meaning_of l p a x r v f) (meaning_of l p a x s w f) to expected Names
      (λ o t. IsShownAt w f o t) (Err (Signaled e))
  refused_look q n e same c clear to expected Names =
      let more : length v.steps ≤ length w.steps =
      subst (λ (z : View). length v.steps ≤ length z.steps) (sym same) (omega arith) in
      refuses l p a x x r s v w f f more (omega arith) to expected Names (Signaled e)
      (ap (λ (z : View). z.told) same) refl
      (λ t le. subst (λ (z : View). IsShown z.steps f (Signaled e) t) (sym same)
      (inl (inl (le.0, (q, refl, c, clear)))))

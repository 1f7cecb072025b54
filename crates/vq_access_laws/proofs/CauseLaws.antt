-- A refusal is shown by the pass's last step, since the call's start, or by the refusal that is kept; and what is shown
-- stays shown as the record grows.
use Rattle.std.proofs.Common.{◌≡◌, ◌≢◌, ℕ, ◌+◌, ◌<◌, ◌≤◌, ◌⊎◌, true, false, List, [], ◌∷◌, ◌++◌, length, refl, sym, subst, arith, inl, inr, min}
use Rattle.std.proofs.lemmas.Bool.{cases_lt}
use Rattle.vq_point_laws.specs.PointWord.{parts}
use Rattle.vq_turns.specs.declared.outcome.Want.{Want}
use Rattle.vq_turns.specs.declared.outcome.Want.TheVariants.{Submitted, Released, Bound, Next, Signaled, Finished, MemoryTurn, Exchange}
use Rattle.vq_actor.specs.Meanings.{IsShownSince}
use Rattle.vq_board_laws.specs.declared.view.JobState.{JobState}
use Rattle.vq_board_laws.specs.declared.view.OpState.TheVariants.{Unbound as UnboundOp}
use Rattle.vq_board_laws.specs.declared.view.OwnStep.{OwnStep}
use Rattle.vq_board_laws.specs.declared.view.View.{View}
use Rattle.vq_board_laws.specs.Knowledge.{state_number}
use Rattle.vq_board_laws.specs.OwnSteps.{HasStep}
use Rattle.vq_board_laws.specs.PointSteps.{recalls, sees, misses_point}
use Rattle.vq_board_laws.specs.Steps.{looks, misses_turn}
use Rattle.vq_board_laws.specs.Words.{Carries}
use Rattle.vq_access_laws.specs.Causes.{IsStepFor, IsShown, Refusals, refused, is_of_lists}
use Rattle.vq_board_laws.specs.Learning.{Grows}

-- The last step

module _ (v : View) (r : Refusals) where
  pub unsubmitted : (j : ℕ) (s : JobState) → state_number s < 1 →
      IsShownSince (length v.steps, r.count) (IsShown (looks v j s).steps r (Submitted j))
  unsubmitted j s low t b = inl (inl (b.0, (refl, low)))

  pub unreleased : (j : ℕ) (s : JobState) → state_number s < 2 →
      IsShownSince (length v.steps, r.count) (IsShown (looks v j s).steps r (Released j))
  unreleased j s low t b = inl (inl (b.0, (refl, low)))

  pub unfinished : (j : ℕ) (s : JobState) → state_number s < 4 →
      IsShownSince (length v.steps, r.count) (IsShown (looks v j s).steps r (Finished j))
  unfinished j s low t b = inl (inl (b.0, (refl, low)))

  pub unbound : (e : ℕ) → IsShownSince (length v.steps, r.count) (IsShown (recalls v e UnboundOp).steps r (Bound e))
  unbound e t b = inl (inl (b.0, (refl, omega arith)))

  pub not_next : (e : ℕ) → IsShownSince (length v.steps, r.count) (IsShown (recalls v e UnboundOp).steps r (Next e))
  not_next e t b = inl (inl (b.0, (refl, omega arith)))

  pub unsignaled : (q e n : ℕ) → Carries n e → (parts n).signaled ≡ false →
      IsShownSince (length v.steps, r.count) (IsShown (sees v q n).steps r (Signaled e))
  unsignaled q e n c clear t b = inl (inl (b.0, (q, refl, c, clear)))

  pub turn_taken : (n : ℕ) → n ≢ 0 → IsShownSince (length v.steps, r.count) (IsShown (misses_turn v n).steps r MemoryTurn)
  turn_taken n ne t b = inl (inl (b.0, (refl, ne)))

  -- a look found a word that doesn't carry the operation
  pub moved_on : (q e found : ℕ) → ¬ Carries found e →
      IsShownSince (length v.steps, r.count) (IsShown (sees v q found).steps r (Exchange e found))
  moved_on q e found not_it t b = inl (inl (b.0, (q, refl, refl, inl not_it)))

  -- an exchange found another word than was loaded
  pub lost : (q e n found : ℕ) → found ≢ n →
      IsShownSince (length v.steps, r.count) (IsShown (misses_point (sees v q n) q found).steps r (Exchange e found))
  lost q e n found ne t b = inl (inl ((let low = b.0 in omega arith), (q, refl, refl, inr (inl (refl, b.0, ne)))))

-- a refusal of lists, with which the count goes on or stands still
pub refused_now : (steps : List OwnStep) (r : Refusals) (n : ℕ) (want : Want) → is_of_lists want ≡ true →
    IsShownSince (n, r.count) (IsShown steps (refused r want) want)
refused_now steps r n want lists t b = inr record { of_lists = lists; last = refl; later = by_count (cases_lt r.count 18446744073709551615) }
  where
    by_count : (r.count < 18446744073709551615) ⊎ (18446744073709551615 ≤ r.count) →
        (t.1 < min (r.count + 1) 18446744073709551615) ⊎ (min (r.count + 1) 18446744073709551615 ≡ 18446744073709551615)
    by_count (inl l) = inl (let low = b.1 in omega arith)
    by_count (inr g) = inr (omega arith)

-- More steps

pub step_still : (n : ℕ) (P : OwnStep → List OwnStep → Type 0) (front ss : List OwnStep) → HasStep n P ss → HasStep n P (front ++ ss)
step_still n P [] ss h = h
step_still n P (s ∷ front) ss h = inr (step_still n P front ss h)

-- what is shown stays shown while nothing is refused
pub shown_still : (steps more : List OwnStep) (r : Refusals) (want : Want) (since : ℕ × ℕ) → Grows steps more →
    IsShown steps r want since → IsShown more r want since
shown_still steps more r want since grows (inl h) = inl (subst (HasStep since.0 (IsStepFor since.0 want)) (sym grows.1)
    (step_still since.0 (IsStepFor since.0 want) grows.0 steps h))
shown_still steps more r want since grows (inr h) = inr h

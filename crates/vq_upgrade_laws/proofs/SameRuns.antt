-- The slow run of a plan of one version and of another, and what the steps of the machine leave.
use Rattle.std.proofs.Common.{◌≡◌, ◌==◌, nat_lt, ℕ, zero, suc, true, List, [], ◌∷◌, ◌++◌, Option, Some, None, refl, ap, ◌∙◌, fold, subst}
use Rattle.std.specs.List.{position_or_len}
use Rattle.std.specs.Option.{option_map_or}
use Rattle.vq_model.specs.HappensBefore.{comes_earlier}
use Rattle.vq_model.specs.Machine.{State, Step, StartStep, ApplyStep, SignalStep, FinishStep, AnswerStep, after_step, with_signal}
use Rattle.vq_model.specs.Plan.{Plan, chain_of}
use Rattle.vq_model.specs.SlowRun.{lowest_ready, slow_from, slow_order}
use Rattle.vq_upgrade_laws.specs.Upgrades.{plan_of_version}

same_ready : (v w : ℕ) (p : Plan) (n : ℕ) (done : List ℕ) →
    ((j : ℕ) → slow_from n (plan_of_version v p) (done ++ j ∷ []) ≡ slow_from n (plan_of_version w p) (done ++ j ∷ [])) →
    (o : Option ℕ) → option_map_or (λ j. slow_from n (plan_of_version v p) (done ++ j ∷ [])) o done
    ≡ option_map_or (λ j. slow_from n (plan_of_version w p) (done ++ j ∷ [])) o done
same_ready v w p n done more None = refl
same_ready v w p n done more (Some j) = more j

same_slow_from : (v w : ℕ) (p : Plan) (n : ℕ) (done : List ℕ) → slow_from n (plan_of_version v p) done ≡ slow_from n (plan_of_version w p) done
same_slow_from v w p zero done = refl
same_slow_from v w p (suc n) done =
    same_ready v w p n done (λ j. same_slow_from v w p n (done ++ j ∷ [])) (lowest_ready (plan_of_version v p) done)

pub same_slow : (v w : ℕ) (p : Plan) → slow_order (plan_of_version v p) ≡ slow_order (plan_of_version w p)
same_slow v w p = same_slow_from v w p _ []

pub same_earlier : (v w : ℕ) (p : Plan) (i j : ℕ) → comes_earlier (plan_of_version v p) i j ≡ true → comes_earlier (plan_of_version w p) i j ≡ true
same_earlier v w p i j h =
    subst (λ (order : List ℕ). nat_lt (position_or_len (λ k. k == i) order) (position_or_len (λ k. k == j) order) ≡ true)
    (same_slow v w p) h

pub same_step_after : (v w : ℕ) (p : Plan) (s : State) (x : Step) → after_step (plan_of_version v p) s x ≡ after_step (plan_of_version w p) s x
same_step_after v w p s (StartStep j) = refl
same_step_after v w p s (ApplyStep c) = refl
same_step_after v w p s (SignalStep e) = by_chain (chain_of p e)
  where
    by_chain : (o : Option ℕ) → record s { progress = with_signal (plan_of_version v p) s.progress e o }
        ≡ record s { progress = with_signal (plan_of_version w p) s.progress e o }
    by_chain None = refl
    by_chain (Some t) = refl
same_step_after v w p s (FinishStep j) = refl
same_step_after v w p s (AnswerStep j a) = refl

pub same_after : (v w : ℕ) (p : Plan) (s : State) (steps : List Step) → fold (after_step (plan_of_version v p)) s steps ≡ fold (after_step (plan_of_version w p)) s steps
same_after v w p s [] = refl
same_after v w p s (x ∷ xs) =
    same_after v w p (after_step (plan_of_version v p) s x) xs
    ∙ ap (λ (u : State). fold (after_step (plan_of_version w p)) u xs) (same_step_after v w p s x)

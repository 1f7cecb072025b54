-- What a pass that only looks still knows, and what its steps still show.
use Rattle.std.proofs.Common.{◌≡◌, ℕ, ◌+◌, ◌≤◌, List, [], ◌∷◌, ◌++◌, length, sym, ap, ◌∙◌, subst, arith, inl, inr}
use Rattle.std.proofs.lemmas.List.{length-append}
use Rattle.vq_model.specs.Plan.{Plan}
use Rattle.vq_board_laws.specs.declared.view.Fact.{Fact}
use Rattle.vq_board_laws.specs.declared.view.OwnStep.{OwnStep}
use Rattle.vq_board_laws.specs.declared.view.View.{View}
use Rattle.vq_board_laws.specs.Knowledge.{IsKnownValue}
use Rattle.vq_board_laws.specs.OwnSteps.{HasStep}
use Rattle.vq_board_laws.specs.Learning.{Grows, Learns}
use Rattle.vq_payload.proofs.Cited.{made_grown}

pub value_grown : (p : Plan) (known more : List Fact) (t n : ℕ) → Grows known more → IsKnownValue p known t n → IsKnownValue p more t n
value_grown p known more t n g (inl h) = inl h
value_grown p known more t n g (inr (e, chain, value, made)) = inr (e, chain, value, made_grown p known more e g made)

steps_behind : (P : OwnStep → List OwnStep → Type 0) (n m : ℕ) (front ss : List OwnStep) → m ≤ n → HasStep n P ss → HasStep m P (front ++ ss)
steps_behind P n m [] [] l h = absurd h
steps_behind P n m [] (s ∷ ss) l (inl h) = let a = h.0 in inl (omega arith, h.1)
steps_behind P n m [] (s ∷ ss) l (inr h) = inr (steps_behind P n m [] ss l h)
steps_behind P n m (s ∷ front) ss l h = inr (steps_behind P n m front ss l h)

-- a step between two views is one between an earlier and a later one
pub step_still : (P : OwnStep → List OwnStep → Type 0) (u v w z : View) → Learns u v → Learns w z → HasStep (length v.steps) P w.steps → HasStep (length u.steps) P z.steps
step_still P u v w z a b h =
    let more : List OwnStep = a.steps.0 in
    let size : length v.steps ≡ length more + length u.steps = ap (λ (ss : List OwnStep). length ss) a.steps.1 ∙ length-append more u.steps in
    subst (λ (ss : List OwnStep). HasStep (length u.steps) P ss) (sym b.steps.1)
    (steps_behind P (length v.steps) (length u.steps) b.steps.0 w.steps (omega arith) h)

-- Events that the lists of a chain made, and looks behind them.
use Rattle.std.proofs.Common.{◌≡◌, ◌+◌, ◌⊎◌, ℕ, Bool, true, false, Some, length, refl, sym, ap, subst, arith}
use Rattle.std.proofs.lemmas.Option.{same_Some}
use Rattle.vq_ground.specs.Lists.{has}
use Rattle.vq_model.specs.Plan.{Plan, chain}
use Rattle.vq_actor.specs.Collections.{IsCollection}
use Rattle.vq_model.specs.declared.plan.Event.{Event}
use Rattle.vq_model.specs.declared.plan.Event.TheVariants.{Take, Bind, Complete, Free}
use Rattle.vq_timeline_core.specs.declared.answers.Taken.{Taken}
use Rattle.vq_timeline_core.specs.declared.answers.Taken.TheVariants.{Reused, Fresh}
use Rattle.vq_timeline.specs.declared.parts.Collected.{Collected}
use Rattle.vq_timeline.specs.declared.parts.Collected.TheVariants.{Completed, Freed, Nothing}
use Rattle.vq_timeline.specs.Answers.{taken_point}
use Rattle.vq_point_laws.specs.PointWord.{parts}
use Rattle.vq_board_laws.specs.declared.view.OpState.{OpState}
use Rattle.vq_board_laws.specs.declared.view.OwnStep.{OwnStep}
use Rattle.vq_board_laws.specs.declared.view.View.{View}
use Rattle.vq_board_laws.specs.Learning.{Learns}
use Rattle.vq_board_laws.specs.PointSteps.{op_number, recalls, sees}
use Rattle.vq_board_laws.specs.Steps.{own_step}
use Rattle.vq_board_laws.specs.Words.{op_word, Carries}
use Rattle.vq_board_laws.proofs.Cited.{learns_look, learns_recall}
use Rattle.vq_board.specs.declared.parts.Pass.{Pass}
use Rattle.vq_board.specs.Named.{board_of, view}
use Rattle.vq_access_laws.specs.AccessMeanings.{is_answer}
use Rattle.vq_access_laws.specs.Causes.{IsMade}
use Rattle.vq_access.specs.Asking.{take_of}
use Rattle.vq_access.specs.LookedBehind.{IsUnshown, LooksBehind}
use Rattle.vq_access.specs.Timelines.{collection}

-- no such event is an answer

pub take_quiet : (e : ℕ) (taken : Taken) → is_answer (take_of e taken) ≡ false
take_quiet e (Reused q) = refl
take_quiet e (Fresh q) = refl

pub collection_quiet : (r : Collected) (event : Event) → collection r ≡ Some event → is_answer event ≡ false
collection_quiet (Completed e) event is =
    subst (λ (z : Event). is_answer z ≡ false) (same_Some (Complete e) event is) refl
collection_quiet (Freed q) event is = subst (λ (z : Event). is_answer z ≡ false) (same_Some (Free q) event is) refl
collection_quiet Nothing event is = absurd (cc)

-- it is one of the chain
pub is_collection : (p : Plan) (t : ℕ) (r : Collected) (event : Event) →
    ((e : ℕ) → r ≡ Completed e → has (chain p t) e ≡ true) → collection r ≡ Some event → IsCollection p t event
is_collection p t (Completed e) event h is = subst (IsCollection p t) (same_Some (Complete e) event is) (h e refl)
is_collection p t (Freed q) event h is = subst (IsCollection p t) (same_Some (Free q) event is) tt
is_collection p t Nothing event h is = absurd (cc)

-- the pass has this view after its look behind an event
pub behind : (x y : Pass) → board_of y ≡ board_of x → (event : Event) (w : View) → view y ≡ w → Learns (view x) w →
    (answer : Bool) → (answer ≡ true → IsMade w event (length (view x).steps)) → (answer ≡ false → IsUnshown w event) →
    LooksBehind x y event answer
behind x y same event w e learned answer seen unseen =
    record {
      learned = (same, subst (λ (z : View). Learns (view x) z) (sym e) learned);
      shown = λ t. subst (λ (z : View). IsMade z event (length (view x).steps)) (sym e) (seen t);
      unshown = λ t made. unseen t (subst (λ (z : View). IsMade z event 0) e made);
    }

module _ (x y : Pass) (same : board_of y ≡ board_of x) (answer : Bool) where
  at_point : (e p q n : ℕ) (fresh : Bool) → q ≡ p → view y ≡ sees (view x) q n → (answer ≡ true → Carries n e) →
      (answer ≡ false → ¬ Carries n e) → LooksBehind x y (Take e p fresh) answer
  at_point e p q n fresh at is seen unseen =
      let here = subst (λ (z : ℕ). view y ≡ sees (view x) z n) at is in
      behind x y same (Take e p fresh) (sees (view x) p n) here (learns_look (view x) p n) answer
      (λ t. (omega arith, (refl, seen t))) (λ t made. unseen t made.1.1)

  -- behind a take it looked at the point, and found this word
  pub given_behind : (e : ℕ) (taken : Taken) (q n : ℕ) → q ≡ taken_point taken → view y ≡ sees (view x) q n →
      (answer ≡ true → Carries n e) → (answer ≡ false → ¬ Carries n e) → LooksBehind x y (take_of e taken) answer
  given_behind e (Reused p) q n at is seen unseen = at_point e p q n false at is seen unseen
  given_behind e (Fresh p) q n at is seen unseen = at_point e p q n true at is seen unseen

  -- behind a bind it found the operation in this state
  pub bound_behind : (e q : ℕ) (s : OpState) → view y ≡ recalls (view x) e s →
      (answer ≡ true → (op_number s ≡ q + 2) ⊎ (op_number s ≡ 1)) →
      (answer ≡ false → ((op_number s ≡ q + 2) ⊎ (op_number s ≡ 1)) → ⊥) → LooksBehind x y (Bind e q) answer
  bound_behind e q s is seen unseen =
      behind x y same (Bind e q) (recalls (view x) e s) is (learns_recall (view x) e s) answer
      (λ t. (omega arith, (refl, seen t))) (λ t made. unseen t made.1.1)

  -- behind a completion it found the operation in this state
  pub past_behind : (e : ℕ) (s : OpState) → view y ≡ recalls (view x) e s → (answer ≡ true → op_number s ≡ 1) →
      (answer ≡ false → op_number s ≡ 1 → ⊥) → LooksBehind x y (Complete e) answer
  past_behind e s is seen unseen =
      behind x y same (Complete e) (recalls (view x) e s) is (learns_recall (view x) e s) answer
      (λ t. (omega arith, ap (own_step (op_word e)) (seen t)))
      (λ t made. unseen t (ap (λ (o : OwnStep). o.found) made.1))

  -- behind a freeing it found this word of the point
  pub freed_behind : (q n : ℕ) → view y ≡ sees (view x) q n → (answer ≡ true → (parts n).signaled ≡ false) →
      (answer ≡ false → (parts n).signaled ≡ false → ⊥) → LooksBehind x y (Free q) answer
  freed_behind q n is seen unseen =
      behind x y same (Free q) (sees (view x) q n) is (learns_look (view x) q n) answer
      (λ t. (omega arith, (refl, seen t))) (λ t made. unseen t made.1.1)

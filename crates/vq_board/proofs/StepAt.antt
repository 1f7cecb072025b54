-- The step of a call, as its clause says it: on the board's plan, and on the word of what the call is about.
use Rattle.std.proofs.Common.{◌≡◌, ℕ, subst, sym}
use Rattle.vq_model.specs.Plan.{Plan}
use Rattle.vq_board_laws.specs.declared.view.View.{View}
use Rattle.vq_board_laws.specs.Moments.{IsStep}

-- the same step
same_step : (p q : Plan) (v w x : View) (a b found left : ℕ) → p ≡ q → a ≡ b → x ≡ w → IsStep p v w a found left → IsStep q v x b found left
same_step p q v w x a b found left plan word view h = subst (λ (t : Plan × View × ℕ). IsStep t.0 v t.1 t.2 found left) (λ i. (plan i, sym view i, word i)) h

pub loaded_step : (p q : Plan) (v w x : View) (a b n m : ℕ) → p ≡ q → a ≡ b → w ≡ x → n ≡ m → IsStep p v w a n n → IsStep q v x b m m
loaded_step p q v w x a b n m plan word view found h = subst (λ (k : ℕ). IsStep q v x b k k) found (same_step p q v w x a b n n plan word (sym view) h)

pub stored_step : (p q : Plan) (v w : View) (a b n : ℕ) → p ≡ q → a ≡ b → ((found : ℕ) × IsStep p v w a found n) → (found : ℕ) × IsStep q v w b found n
stored_step p q v w a b n plan word h = (h.0, subst (λ (t : Plan × ℕ). IsStep t.0 v w t.1 h.0 n) (λ i. (plan i, word i)) h.1)

-- where the pass has noted something since
pub stored_step_of : (p q : Plan) (v w x : View) (a b n : ℕ) → p ≡ q → a ≡ b → x ≡ w → ((found : ℕ) × IsStep p v w a found n) → (found : ℕ) × IsStep q v x b found n
stored_step_of p q v w x a b n plan word view h = (h.0, same_step p q v w x a b h.0 n plan word view h.1)

pub changed_step : (p q : Plan) (v w : View) (a b n : ℕ) → p ≡ q → a ≡ b → ((left : ℕ) × IsStep p v w a n left) → (left : ℕ) × IsStep q v w b n left
changed_step p q v w a b n plan word h = (h.0, subst (λ (t : Plan × ℕ). IsStep t.0 v w t.1 n h.0) (λ i. (plan i, word i)) h.1)

pub changed_step_of : (p q : Plan) (v w x : View) (a b n : ℕ) → p ≡ q → a ≡ b → x ≡ w → ((left : ℕ) × IsStep p v w a n left) → (left : ℕ) × IsStep q v x b n left
changed_step_of p q v w x a b n plan word view h = (h.0, same_step p q v w x a b n h.0 plan word view h.1)

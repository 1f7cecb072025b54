-- What a pass keeps of the payloads since it started its job, when the machine steps.
use Rattle.std.proofs.Common.{◌≡◌, ℕ, ◌≤◌, List, Option, None, sym, ap, subst, arith}
use Rattle.vq_model.specs.Machine.{State}
use Rattle.vq_model.specs.Plan.{Plan}
use Rattle.vq_board_laws.specs.Reached.{SinceStart, IsPayload}

-- payloads rise, and what was at the starts is as it was
pub since_rises : (p : Plan) (s t : State) (runs : Option ℕ) (unmade : List ℕ) → t.at_start ≡ s.at_start → ((a : ℕ) → s.progress.payload a ≤ t.progress.payload a) → SinceStart p s runs unmade → SinceStart p t runs unmade
since_rises p s t runs unmade same up k =
    let at : (j a : ℕ) → t.at_start j a ≡ s.at_start j a = λ j a. ap (λ (f : ℕ → ℕ → ℕ). f j a) same in record {
      payload = λ j a e. subst (IsPayload p a) (sym (at j a)) (k.payload j a e);
      rises = λ j a e. let h = at j a in let r = k.rises j a e in let u = up a in omega arith;
      noted = λ j e a i m c. let h = at j a in let r = k.noted j e a i m c in omega arith;
    }

-- the pass runs nothing
pub since_nothing : (p : Plan) (s : State) (unmade : List ℕ) → SinceStart p s None unmade
since_nothing p s unmade = record { payload = λ j t e. absurd cc; rises = λ j t e. absurd cc; noted = λ j e t h. absurd cc }

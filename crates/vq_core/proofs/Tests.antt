-- Tests and what they say.
use Rattle.std.proofs.Common.{◌≡◌, ℕ, Bool, true, false, Option, Some, None, is_some, eqb, refl, ap, sym, ◌∙◌}
use Rattle.std.specs.Prelude.{IsTrue, ◌↔◌}
use Rattle.std.proofs.lemmas.Bool.{eq-eqb, eqb-true, false≢true}

pub some_iff : {Q : Type 0} (n j : ℕ) → (Some n ≡ Some j → Q) → (Q → Some n ≡ Some j) → IsTrue (eqb n j) ↔ Q
some_iff n j to from = ((λ h. to (ap Some (eqb-true n j h))), (λ q. eq-eqb n j (let e = from q in cc)))

pub none_iff : {Q : Type 0} (j : ℕ) → (Q → ◌≡◌ {A = Option ℕ} None (Some j)) → IsTrue false ↔ Q
none_iff j from = ((λ h. absurd (false≢true h)), (λ q. absurd (let e = from q in cc)))

pub never : {Q : Type 0} → (Q → ⊥) → IsTrue false ↔ Q
never no_q = ((λ h. absurd (false≢true h)), (λ q. absurd (no_q q)))

pub always : {Q : Type 0} → Q → IsTrue true ↔ Q
always q = ((λ h. q), (λ h. refl))

-- what a test that failed rules out, and what one that passed says
pub refuted : {Q : Type 0} (b : Bool) → IsTrue b ↔ Q → b ≡ false → Q → ⊥
refuted b iff h q = false≢true (sym h ∙ iff.1 q)

pub confirmed : {Q : Type 0} (b : Bool) → IsTrue b ↔ Q → b ≡ true → Q
confirmed b iff h = iff.0 h

pub none_of : (o : Option ℕ) → is_some o ≡ false → o ≡ None
none_of None h = refl
none_of (Some x) h = absurd (false≢true (sym h))

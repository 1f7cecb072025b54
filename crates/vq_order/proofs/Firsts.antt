-- The first numbers of a list, of which something holds.
use Rattle.std.proofs.Common.{◌≡◌, ◌↔◌, IsTrue, true, false, ℕ, ◌<◌, ◌≤◌, ◌-◌, List, length, get_or, refl, sym, inl, inr, subst, arith}
use Rattle.std.proofs.lemmas.Bool.{cases_eq, false≢true}
use Rattle.vq_order.specs.Counts.{AreFirst}

-- Where what holds of a number holds of those before it, it is enough to know the last of which it
-- holds and the next.
pub first_from : (S : ℕ → Type 0) (xs : List ℕ) → ((k m : ℕ) → k < m → m < length xs → S (get_or xs m 0) → S (get_or xs k 0)) → (n : ℕ) → n ≤ length xs → (0 < n → S (get_or xs (n - 1) 0)) → (n < length xs → ¬ S (get_or xs n 0)) → AreFirst S xs n
first_from S xs down n within last next =
    record {
      within = within;
      below = λ k l. elim (cases_eq k (n - 1)) [
        | inl e ↦ subst (λ (i : ℕ). S (get_or xs i 0)) (let q : n - 1 ≡ k = omega arith in q) (last (omega arith))
        | inr d ↦ down k (n - 1) (grind arith) (omega arith) (last (omega arith))
      ];
      above = λ k l h s. elim (cases_eq k n) [
        | inl e ↦ next (omega arith) (subst (λ (i : ℕ). S (get_or xs i 0)) e s)
        | inr d ↦ next (omega arith) (down n k (grind arith) h s)
      ];
    }

-- what a search by halves finds
pub first_found : (S : ℕ → Type 0) (xs ys : List ℕ) → ys ≡ xs → ((k m : ℕ) → k < m → m < length xs → S (get_or xs m 0) → S (get_or xs k 0)) → (n : ℕ) → n ≤ length ys → (0 < n → IsTrue true ↔ S (get_or ys (n - 1) 0)) → (n < length ys → IsTrue false ↔ S (get_or ys n 0)) → AreFirst S xs n
first_found S xs ys e down n within last next =
    subst (λ (zs : List ℕ). n ≤ length zs → (0 < n → IsTrue true ↔ S (get_or zs (n - 1) 0)) → (n < length zs → IsTrue false ↔ S (get_or zs n 0)) → AreFirst S xs n) (sym e)
    (λ w l r. first_from S xs down n w (λ h. (l h).0 refl) (λ h s. false≢true ((r h).1 s))) within last next

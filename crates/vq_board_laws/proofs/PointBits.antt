-- A point's word as a number: its parts where a reference more or less is counted, where it is signaled, and where it is new.
use Rattle.std.proofs.Common.{◌≡◌, ℕ, zero, suc, ◌+◌, ◌-◌, ◌/◌, ◌%◌, ◌^◌, ◌<◌, true, false, eqb, refl, ap, sym, ◌∙◌, arith, inl, inr, eq-eqb, ne_eqb}
use Rattle.std.proofs.lemmas.Bool.{eqb-true, false≢true}
use Rattle.vq_point_laws.specs.PointWord.{parts}
use Rattle.vq_board_laws.specs.Points.{IsWord}
use Rattle.vq_board_laws.specs.PointSteps.{carrying_word}
use Rattle.vq_board_laws.specs.Words.{Carries}

-- a word with the same parts but for the references
pub record SameBits (n m : ℕ) : Type 0 where
  pub held : (parts n).held ≡ (parts m).held
  pub signaled : (parts n).signaled ≡ (parts m).signaled
  pub op : (parts n).op ≡ (parts m).op

held_number : (n : ℕ) → (parts n).held ≡ true → n / 2 ^ 49 % 2 ≡ 1
held_number n h = eqb-true (n / 2 ^ 49 % 2) 1 h

clear_number : (n : ℕ) → (parts n).signaled ≡ false → n / 2 ^ 48 % 2 ≡ 0
clear_number n h = zero_or_one (n / 2 ^ 48 % 2) (omega arith) h
  where
    zero_or_one : (b : ℕ) → b < 2 → eqb b 1 ≡ false → b ≡ 0
    zero_or_one zero l e = refl
    zero_or_one (suc zero) l e = absurd (false≢true (sym e))
    zero_or_one (suc (suc b)) l e = absurd (omega arith)

-- a reference more

module _ (n : ℕ) (room : (parts n).refs < 65535) where
  pub more_bits : SameBits (n + 2 ^ 32) n
  more_bits = record { held = (λ i. eqb (held i) 1); signaled = (λ i. eqb (bit i) 1); op = omega arith }
    where
      held : (n + 2 ^ 32) / 2 ^ 49 % 2 ≡ n / 2 ^ 49 % 2
      held = omega arith

      bit : (n + 2 ^ 32) / 2 ^ 48 % 2 ≡ n / 2 ^ 48 % 2
      bit = omega arith

  pub more_refs : (parts (n + 2 ^ 32)).refs ≡ (parts n).refs + 1
  more_refs = omega arith

  pub more_word : IsWord n → (parts n).held ≡ true → IsWord (n + 2 ^ 32)
  more_word w h = (let l = w.0 in omega arith, inl (more_bits.held ∙ h))

-- a reference less

module _ (n : ℕ) (some_left : 0 < (parts n).refs) where
  pub less_bits : SameBits (n - 2 ^ 32) n
  less_bits = record { held = (λ i. eqb (held i) 1); signaled = (λ i. eqb (bit i) 1); op = omega arith }
    where
      held : (n - 2 ^ 32) / 2 ^ 49 % 2 ≡ n / 2 ^ 49 % 2
      held = omega arith

      bit : (n - 2 ^ 32) / 2 ^ 48 % 2 ≡ n / 2 ^ 48 % 2
      bit = omega arith

  pub less_refs : (parts (n - 2 ^ 32)).refs + 1 ≡ (parts n).refs
  less_refs = omega arith

  pub less_word : IsWord n → (parts n).held ≡ true → IsWord (n - 2 ^ 32)
  less_word w h = (let l = w.0 in omega arith, inl (less_bits.held ∙ h))

-- the signal

module _ (n : ℕ) (clear : (parts n).signaled ≡ false) where
  pub signaled_held : (parts (n + 2 ^ 48)).held ≡ (parts n).held
  signaled_held = (λ i. eqb (held i) 1)
    where
      held : (n + 2 ^ 48) / 2 ^ 49 % 2 ≡ n / 2 ^ 49 % 2
      held = let z = clear_number n clear in omega arith

  pub signaled_set : (parts (n + 2 ^ 48)).signaled ≡ true
  signaled_set = eq-eqb ((n + 2 ^ 48) / 2 ^ 48 % 2) 1 (let z = clear_number n clear in omega arith)

  pub signaled_op : (parts (n + 2 ^ 48)).op ≡ (parts n).op
  signaled_op = omega arith

  pub signaled_refs : (parts (n + 2 ^ 48)).refs ≡ (parts n).refs
  signaled_refs = let z = clear_number n clear in omega arith

  pub signaled_word : IsWord n → (parts n).held ≡ true → IsWord (n + 2 ^ 48)
  signaled_word w h = (let l = w.0 in let z = clear_number n clear in let o = held_number n h in omega arith, inl (signaled_held ∙ h))

  -- the number doesn't run over
  pub signaled_fits : IsWord n → (n + 2 ^ 48) % 2 ^ 64 ≡ n + 2 ^ 48
  signaled_fits w = let l = w.0 in omega arith

-- a new word

module _ (e : ℕ) (small : e < 2 ^ 32) where
  pub new_held : (parts (carrying_word e)).held ≡ true
  new_held = eq-eqb ((e + 2 ^ 49) / 2 ^ 49 % 2) 1 (omega arith)

  pub new_clear : (parts (carrying_word e)).signaled ≡ false
  new_clear = ne_eqb ((e + 2 ^ 49) / 2 ^ 48 % 2) 1 (λ h. omega arith)

  pub new_op : (parts (carrying_word e)).op ≡ e
  new_op = omega arith

  pub new_refs : (parts (carrying_word e)).refs ≡ 0
  new_refs = omega arith

  pub new_word : IsWord (carrying_word e)
  new_word = (omega arith, inl new_held)

  pub new_carries : Carries (carrying_word e) e
  new_carries = record { held = new_held; op = new_op }

-- the word 0 carries nothing

pub zero_word : IsWord 0
zero_word = (omega arith, inr refl)

pub no_word : (n e : ℕ) → n ≡ 0 → ¬ Carries n e
no_word n e z c = let h : (parts n).held ≡ true = c.held in let g : (parts n).held ≡ false = ap (λ m. (parts m).held) z in false≢true (sym g ∙ h)

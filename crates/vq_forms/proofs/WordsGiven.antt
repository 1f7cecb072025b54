-- A function of words that are so many, one by one, where it is known for every text of some of them.
use Rattle.std.proofs.Common.{◌≡◌, ℕ, ◌<◌, ◌≤◌, ◌-◌, List, [], ◌∷◌, drop, take, length, get_or, arith}
use Rattle.std.specs.Borrow.{Bor}
use Rattle.vq_lexer.specs.Words.{texts}

module _ {X : Type 0} (f : List (List ℕ) → X) (x : X) where
  pub of_two : (words : List (Bor (List ℕ))) (d : Bor (List ℕ)) → 2 ≤ length words → length words < 3 →
      ((second : List ℕ) → x ≡ f ((get_or words 0 d).now ∷ second ∷ [])) → x ≡ f (texts words)
  of_two [] d l m h = absurd (omega arith)
  of_two (a ∷ []) d l m h = absurd (omega arith)
  of_two (a ∷ b ∷ []) d l m h = h b.now
  of_two (a ∷ b ∷ c ∷ words) d l m h = absurd (omega arith)

  pub of_three : (words : List (Bor (List ℕ))) (d : Bor (List ℕ)) → 3 ≤ length words → length words < 4 →
      ((second third : List ℕ) → x ≡ f ((get_or words 0 d).now ∷ second ∷ third ∷ [])) → x ≡ f (texts words)
  of_three [] d l m h = absurd (omega arith)
  of_three (a ∷ []) d l m h = absurd (omega arith)
  of_three (a ∷ b ∷ []) d l m h = absurd (omega arith)
  of_three (a ∷ b ∷ c ∷ []) d l m h = h b.now c.now
  of_three (a ∷ b ∷ c ∷ more ∷ words) d l m h = absurd (omega arith)

  -- .. known for every third word
  pub of_three_first : (words : List (Bor (List ℕ))) (d : Bor (List ℕ)) → 3 ≤ length words → length words < 4 →
      ((third : List ℕ) → x ≡ f ((get_or words 0 d).now ∷ (get_or words 1 d).now ∷ third ∷ [])) →
      x ≡ f (texts words)
  of_three_first [] d l m h = absurd (omega arith)
  of_three_first (a ∷ []) d l m h = absurd (omega arith)
  of_three_first (a ∷ b ∷ []) d l m h = absurd (omega arith)
  of_three_first (a ∷ b ∷ c ∷ []) d l m h = h c.now
  of_three_first (a ∷ b ∷ c ∷ more ∷ words) d l m h = absurd (omega arith)

  -- .. known for every second word, where the third is read from the words after the first
  pub of_three_behind : (words : List (Bor (List ℕ))) (d : Bor (List ℕ)) → 3 ≤ length words → length words < 4 →
      ((second : List ℕ) →
      x ≡ f ((get_or words 0 d).now ∷ second ∷ (get_or (take (length words - 1) (drop 1 words)) 1 d).now ∷ [])) →
      x ≡ f (texts words)
  of_three_behind [] d l m h = absurd (omega arith)
  of_three_behind (a ∷ []) d l m h = absurd (omega arith)
  of_three_behind (a ∷ b ∷ []) d l m h = absurd (omega arith)
  of_three_behind (a ∷ b ∷ c ∷ []) d l m h = h b.now
  of_three_behind (a ∷ b ∷ c ∷ more ∷ words) d l m h = absurd (omega arith)

  pub of_five : (words : List (Bor (List ℕ))) (d : Bor (List ℕ)) → 5 ≤ length words → length words < 6 →
      ((second third fifth : List ℕ) →
      x ≡ f ((get_or words 0 d).now ∷ second ∷ third ∷ (get_or words 3 d).now ∷ fifth ∷ [])) →
      x ≡ f (texts words)
  of_five [] d l m h = absurd (omega arith)
  of_five (a ∷ []) d l m h = absurd (omega arith)
  of_five (a ∷ b ∷ []) d l m h = absurd (omega arith)
  of_five (a ∷ b ∷ c ∷ []) d l m h = absurd (omega arith)
  of_five (a ∷ b ∷ c ∷ e ∷ []) d l m h = absurd (omega arith)
  of_five (a ∷ b ∷ c ∷ e ∷ i ∷ []) d l m h = h b.now c.now i.now
  of_five (a ∷ b ∷ c ∷ e ∷ i ∷ more ∷ words) d l m h = absurd (omega arith)

-- Lists of rounds and of queues, one more.
use Rattle.std.proofs.Common.{◌≡◌, ℕ, zero, suc, ◌+◌, Bool, List, [], ◌∷◌, ◌++◌, append-nil, map, filter, flat_map, sym, ap, ◌∙◌, arith}
use Rattle.std.specs.List.{range_with_len}
use Rattle.std.proofs.lemmas.List.{map-append}
use Rattle.std.proofs.lemmas.Grind.{flat_map-append}
use Rattle.std.proofs.lemmas.List.Elements.{filter-append}

-- one number more
range_next : (a n k : ℕ) → k ≡ a + n → range_with_len a (suc n) ≡ range_with_len a n ++ k ∷ []
range_next a zero k e = let f : a ≡ k = omega arith in ap (λ (x : ℕ). x ∷ []) f
range_next a (suc n) k e =
    ap (λ (xs : List ℕ). a ∷ xs) (range_next (a + 1) n k (omega arith))

range_more : (a n : ℕ) → range_with_len a (n + 1) ≡ range_with_len a n ++ (n + a) ∷ []
range_more a n =
    let next : n + 1 ≡ suc n = omega arith in
    ap (range_with_len a) next ∙ range_next a n (n + a) (omega arith)

-- one more of those that are kept
pub kept_more : {A : Type 0} (f : ℕ → A) (test : ℕ → Bool) (n : ℕ) →
    map f (filter test (range_with_len 0 n)) ++ map f (filter test (n ∷ []))
    ≡ map f (filter test (range_with_len 0 (n + 1)))
kept_more f test n =
    let zero_more : n + 0 ≡ n = omega arith in
    sym (ap (λ (xs : List ℕ). map f (filter test xs))
    (range_more 0 n ∙ ap (λ (k : ℕ). range_with_len 0 n ++ k ∷ []) zero_more)
    ∙ (ap (map f) (filter-append test (range_with_len 0 n) (n ∷ []))
    ∙ map-append f (filter test (range_with_len 0 n)) (filter test (n ∷ []))))

-- one more round
pub rounds_more : {A : Type 0} (f : ℕ → List A) (n : ℕ) →
    flat_map f (range_with_len 1 n) ++ f (n + 1) ≡ flat_map f (range_with_len 1 (n + 1))
rounds_more f n =
    sym (ap (flat_map f) (range_more 1 n)
    ∙ (flat_map-append f (range_with_len 1 n) ((n + 1) ∷ [])
    ∙ ap (λ (xs : List _). flat_map f (range_with_len 1 n) ++ xs) (append-nil (f (n + 1)))))

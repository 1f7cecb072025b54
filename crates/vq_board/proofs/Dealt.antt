-- The passes that are dealt, in the order of their roles.
use Rattle.std.proofs.Common.{◌≡◌, ℕ, zero, suc, ◌+◌, ◌-◌, ◌<◌, ◌≤◌, Bool, true, false, List, [], ◌∷◌, ◌++◌, length, filter, Some, None, refl, ap, ◌∙◌, subst, arith, ◌⊎◌, inl, inr, length-append, append-nil}
use Rattle.std.specs.List.{slice_get, range_with_len}
use Rattle.std.proofs.lemmas.Bool.{cond-true, cond-false}
use Rattle.vq_model.specs.Plan.{Plan}
use Rattle.vq_ground.proofs.Numbers.{range_more}
use Rattle.vq_board_laws.specs.declared.view.Role.{Role}
use Rattle.vq_board_laws.specs.declared.view.Role.TheVariants.{Submit}
use Rattle.vq_board_laws.specs.Roles.{is_threaded, threaded_before, role_number, role_count}
use Rattle.vq_board.specs.declared.parts.Board.{Board}
use Rattle.vq_board.specs.declared.parts.Pass.{Pass}
use Rattle.vq_board.specs.Named.{role_of, IsFresh, AreFresh}
use Rattle.vq_board.proofs.Copied.{map_push}

at_end : {A : Type 0} (xs : List A) (x y : A) (k : ℕ) → slice_get (xs ++ x ∷ []) k ≡ Some y → (slice_get xs k ≡ Some y) ⊎ (x ≡ y)
at_end [] x y zero e = inr (let g : Some x ≡ Some y = e in cc)
at_end [] x y (suc k) e = absurd (let g : None ≡ Some y = e in cc)
at_end (z ∷ xs) x y zero e = inl e
at_end (z ∷ xs) x y (suc k) e = at_end xs x y k e

-- one more fresh pass
pub fresh_push : (b : Board) (xs : List Pass) (x : Pass) (roles : List Role) (role : Role) → AreFresh b xs roles → IsFresh b x → role_of x ≡ role → AreFresh b (xs ++ x ∷ []) (roles ++ role ∷ [])
fresh_push b xs x roles role h fresh is = (
  map_push role_of xs x ∙ (λ i. h.0 i ++ is i ∷ []),
  λ k y e. elim (at_end xs x y k e) [ inl g ↦ h.1 k y g | inr same ↦ subst (IsFresh b) same fresh ],
)

filter_push : (t : ℕ → Bool) (xs : List ℕ) (x : ℕ) → filter t (xs ++ x ∷ []) ≡ filter t xs ++ filter t (x ∷ [])
filter_push t [] x = refl
filter_push t (y ∷ xs) x = by_test (t y) refl (filter_push t xs x)
  where
    by_test : (b : Bool) → t y ≡ b → filter t (xs ++ x ∷ []) ≡ filter t xs ++ filter t (x ∷ []) → filter t (y ∷ xs ++ x ∷ []) ≡ filter t (y ∷ xs) ++ filter t (x ∷ [])
    by_test true e h = rw e (ap (λ zs. y ∷ zs) h)
    by_test false e h = rw e h

-- a queue more that is threaded, or isn't
pub threaded_more : (p : Plan) (q : ℕ) → is_threaded p q ≡ true → threaded_before p (q + 1) ≡ threaded_before p q ++ q ∷ []
threaded_more p q e = ap (filter (is_threaded p)) (range_more q) ∙ (filter_push (is_threaded p) (range_with_len 0 q) q ∙ ap (λ zs. threaded_before p q ++ zs) (cond-true (is_threaded p q) (q ∷ []) [] e))

pub threaded_same : (p : Plan) (q : ℕ) → is_threaded p q ≡ false → threaded_before p (q + 1) ≡ threaded_before p q
threaded_same p q e = ap (filter (is_threaded p)) (range_more q) ∙ (filter_push (is_threaded p) (range_with_len 0 q) q ∙ (ap (λ zs. threaded_before p q ++ zs) (cond-false (is_threaded p q) (q ∷ []) [] e) ∙ append-nil (threaded_before p q)))

threaded_rises : (p : Plan) (q n : ℕ) → length (threaded_before p q) ≤ length (threaded_before p (q + n))
threaded_rises p q zero = let e : length (threaded_before p q) ≡ length (threaded_before p (q + 0)) = ap (λ k. length (threaded_before p k)) (let g : q ≡ q + 0 = omega arith in g) in omega arith
threaded_rises p q (suc n) =
    let rest = threaded_rises p q n in
    let next : q + suc n ≡ (q + n) + 1 = omega arith in
    let e : length (threaded_before p (q + suc n)) ≡ length (threaded_before p ((q + n) + 1)) = ap (λ k. length (threaded_before p k)) next in
    let more : length (threaded_before p (q + n)) ≤ length (threaded_before p ((q + n) + 1)) = by_test (is_threaded p (q + n)) refl in
    omega arith
  where
    by_test : (b : Bool) → is_threaded p (q + n) ≡ b → length (threaded_before p (q + n)) ≤ length (threaded_before p ((q + n) + 1))
    by_test true t = let e = ap length (threaded_more p (q + n) t) in let l = length-append (threaded_before p (q + n)) ((q + n) ∷ []) in omega arith
    by_test false t = let e = ap length (threaded_same p (q + n) t) in omega arith

-- the number of a submitter's role
pub submit_within : (p : Plan) (q : ℕ) → q < length p.script.queues → role_number p (Submit q) < role_count p
submit_within p q l =
    let n : ℕ = length p.script.queues in
    let rises = threaded_rises p q (n - q) in
    let e : length (threaded_before p (q + (n - q))) ≡ length (threaded_before p n) = ap (λ k. length (threaded_before p k)) (let g : q + (n - q) ≡ n = omega arith in g) in
    omega arith

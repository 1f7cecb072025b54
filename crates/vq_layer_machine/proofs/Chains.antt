-- The chains of the plan of any script: the operations of a semaphore, by value and then by number. `vq_plan_laws` says
-- it of scripts within the limits of their version; what is submitted to a layer has none.
use Rattle.std.proofs.Common.{◌≡◌, ◌⊎◌, ℕ, ◌<◌, ◌≤◌, Bool, true, false, ◌||◌, cond, eqb, leb, List, [], ◌∷◌, length, filter, fold, option_map, inl, inr, refl, sym, ap, ◌∙◌, subst, arith}
use Rattle.std.specs.List.{slice_get, range_with_len}
use Rattle.std.specs.Option.{option_map_or}
use Rattle.std.proofs.lemmas.Bool.{false≢true, cases_lt, leb-true, leb-false}
use Rattle.vq_model.specs.declared.script.Script.{Script}
use Rattle.vq_model.specs.Plan.{value, chain}
use Rattle.vq_model.specs.Signals.{insert_op, value_at, all_signals, chain_ops, signals_semaphore}
use Rattle.vq_model.specs.Lowering.{plan_of}
use Rattle.vq_model.specs.WellFormed.{AreInOrder}
use Rattle.vq_ground.specs.Lists.{has, AreRising}
use Rattle.vq_ground.proofs.Bools.{or_false}
use Rattle.vq_ground.proofs.Lists.{has_here, has_there, has_cases}
use Rattle.vq_ground.proofs.Gets.{get-map, get-range_past}
use Rattle.vq_ground.proofs.Numbers.{rising_range}
use Rattle.vq_ground.proofs.Filters.{rising_filter}
use Rattle.vq_plan_laws.proofs.Cited.{chain_is, op_value_is}

-- the operations of a semaphore by number
abbrev pub own_ops : Script → ℕ → List ℕ
own_ops s t =
    filter (λ e. option_map_or (signals_semaphore t) (slice_get (all_signals s) e) false) (range_with_len 0 (length (all_signals s)))

module _ (s : Script) where
  has_inserted : (e : ℕ) (xs : List ℕ) (x : ℕ) → has (insert_op s e xs) x ≡ (eqb e x || has xs x)
  has_inserted e [] x = refl
  has_inserted e (f ∷ fs) x = by_test (leb (value_at s f) (value_at s e)) (has_inserted e fs x)
    where
      swap : (a b c : Bool) → (a || (b || c)) ≡ (b || (a || c))
      swap true true c = refl
      swap true false c = refl
      swap false b c = refl

      by_test : (b : Bool) → has (insert_op s e fs) x ≡ (eqb e x || has fs x) → has (cond b (f ∷ insert_op s e fs) (e ∷ f ∷ fs)) x ≡ (eqb e x || (eqb f x || has fs x))
      by_test true i = ap (λ (b : Bool). eqb f x || b) i ∙ swap (eqb f x) (eqb e x) (has fs x)
      by_test false i = refl

  has_all_inserted : (es acc : List ℕ) (x : ℕ) → has (fold (λ ops e. insert_op s e ops) acc es) x ≡ (has es x || has acc x)
  has_all_inserted [] acc x = refl
  has_all_inserted (e ∷ es) acc x =
      has_all_inserted es (insert_op s e acc) x ∙ ap (λ (b : Bool). has es x || b) (has_inserted e acc x) ∙ turn (has es x) (eqb e x) (has acc x)
    where
      turn : (a b c : Bool) → (a || (b || c)) ≡ ((b || a) || c)
      turn true true c = refl
      turn true false c = refl
      turn false true c = refl
      turn false false c = refl

  pub has_chain : (t x : ℕ) → has (chain_ops s t) x ≡ has (own_ops s t) x
  has_chain t x = has_all_inserted (own_ops s t) [] x ∙ or_false (has (own_ops s t) x)

  -- this operation comes before that one
  abbrev ComesFirst : ℕ → ℕ → Type 0
  ComesFirst e f = (value (plan_of s) e < value (plan_of s) f) ⊎ ((value (plan_of s) e ≡ value (plan_of s) f) × (e < f))

  -- an insertion behind smaller numbers
  inserted : (e : ℕ) (xs : List ℕ) → ((f : ℕ) → has xs f ≡ true → f < e) → AreInOrder (plan_of s) xs → AreInOrder (plan_of s) (insert_op s e xs)
  inserted e [] below r = ((λ f h. absurd (false≢true h)), tt)
  inserted e (x ∷ xs) below r = by_test (leb (value_at s x) (value_at s e)) refl (inserted e xs (λ f h. below f (has_there x xs f h)) r.1)
    where
      at_x : value (plan_of s) x ≡ value_at s x
      at_x = op_value_is s x

      at_e : value (plan_of s) e ≡ value_at s e
      at_e = op_value_is s e

      by_test : (b : Bool) → leb (value_at s x) (value_at s e) ≡ b → AreInOrder (plan_of s) (insert_op s e xs) → AreInOrder (plan_of s) (cond b (x ∷ insert_op s e xs) (e ∷ x ∷ xs))
      by_test true q i = ((λ f h. elim (has_cases e xs f (sym (has_inserted e xs f) ∙ h)) [ inl j ↦ subst (ComesFirst x) j here | inr j ↦ r.0 f j ]), i)
        where
          here : ComesFirst x e
          here =
              let m = leb-true (value_at s x) (value_at s e) q in
              let k = below x (has_here x xs) in
              let a = at_x in
              let b = at_e in
              elim (cases_lt (value (plan_of s) x) (value (plan_of s) e)) [ inl l ↦ inl l | inr l ↦ inr (omega arith, k) ]
      by_test false q i = ((λ f h. inl (elim (has_cases x xs f h) [ inl j ↦ subst (λ (z : ℕ). value (plan_of s) e < value (plan_of s) z) j here | inr j ↦ behind f (r.0 f j) ])), r)
        where
          here : value (plan_of s) e < value (plan_of s) x
          here = let m = leb-false (value_at s x) (value_at s e) q in let a = at_x in let b = at_e in omega arith

          behind : (f : ℕ) → ComesFirst x f → value (plan_of s) e < value (plan_of s) f
          behind f (inl l) = let h = here in omega arith
          behind f (inr l) = let h = here in let same = l.0 in omega arith

  all_inserted : (es acc : List ℕ) → AreRising es → ((f e : ℕ) → has acc f ≡ true → has es e ≡ true → f < e) → AreInOrder (plan_of s) acc → AreInOrder (plan_of s) (fold (λ ops e. insert_op s e ops) acc es)
  all_inserted [] acc rise below r = r
  all_inserted (x ∷ es) acc rise below r =
      all_inserted es (insert_op s x acc) rise.1
      (λ f e h m. elim (has_cases x acc f (sym (has_inserted x acc f) ∙ h)) [
        | inl i ↦ subst (λ (z : ℕ). z < e) i (rise.0 e m)
        | inr i ↦ below f e i (has_there x es e m)
      ])
      (inserted x acc (λ f h. below f x h (has_here x es)) r)

  pub chain_past : (t : ℕ) → length s.semaphores ≤ t → chain (plan_of s) t ≡ []
  chain_past t l =
      ap (λ o. option_map_or (λ x. x) o []) (get-map (chain_ops s) (range_with_len 0 (length s.semaphores)) t ∙ ap (option_map (chain_ops s)) (get-range_past (length s.semaphores) 0 t l))

  pub chain_in_order : (t : ℕ) → AreInOrder (plan_of s) (chain (plan_of s) t)
  chain_in_order t = elim (cases_lt t (length s.semaphores)) [
    | inl l ↦
        subst (AreInOrder (plan_of s)) (sym (chain_is s t l))
        (all_inserted (own_ops s t) [] (rising_filter (λ e. option_map_or (signals_semaphore t) (slice_get (all_signals s) e) false) (range_with_len 0 (length (all_signals s))) (rising_range (length (all_signals s)) 0)) (λ f e h m. absurd (false≢true h)) tt)
    | inr l ↦ subst (AreInOrder (plan_of s)) (sym (chain_past t l)) tt
  ]

-- The chains of a plan: the operations of a semaphore or a fence, in order.
use Rattle.std.proofs.Common.{◌≡◌, ℕ, Bool, true, false, ◌||◌, cond, eqb, leb, List, [], ◌∷◌, refl, ap, ◌∙◌, fold, ◌<◌, ◌⊎◌, sym, inl, inr, subst, arith, zero, suc, ◌++◌, Some, None, Option, option_map, length, filter, ◌+◌, ◌≤◌}
use Rattle.vq_model.specs.declared.script.Script.{Script}
use Rattle.vq_model.specs.Plan.{value, chain}
use Rattle.vq_ground.specs.Lists.{has, AreRising}
use Rattle.vq_model.specs.Signals.{insert_op, value_at, Signaling, values_from, all_signals, op_at, chain_ops, signals_semaphore}
use Rattle.std.proofs.lemmas.Bool.{false≢true, cases_lt, leb-true, leb-false}
use Rattle.vq_ground.proofs.Lists.{has_here, has_there, has_cases}
use Rattle.vq_model.specs.WellFormed.{AreInOrder}
use Rattle.std.specs.List.{slice_get, range_with_len}
use Rattle.std.specs.Option.{option_map_or}
use Rattle.vq_model.specs.Lowering.{plan_of}
use Rattle.vq_plan_laws.proofs.PlanParts.{op_is}
use Rattle.vq_ground.proofs.Gets.{get-map, get-range, get-range_past}
use Rattle.vq_ground.proofs.Bools.{or_false}

-- Chains

has-insert : (s : Script) (e : ℕ) (xs : List ℕ) (x : ℕ) → has (insert_op s e xs) x ≡ (eqb e x || has xs x)
has-insert s e [] x = refl
has-insert s e (f ∷ fs) x = by_test (leb (value_at s f) (value_at s e)) (has-insert s e fs x)
  where
    swap : (a b c : Bool) → (a || (b || c)) ≡ (b || (a || c))
    swap true true c = refl
    swap true false c = refl
    swap false b c = refl

    by_test : (b : Bool) → has (insert_op s e fs) x ≡ (eqb e x || has fs x) → has (cond b (f ∷ insert_op s e fs) (e ∷ f ∷ fs)) x ≡ (eqb e x || (eqb f x || has fs x))
    by_test true i = ap (λ b. eqb f x || b) i ∙ swap (eqb f x) (eqb e x) (has fs x)
    by_test false i = refl

has-fold_insert : (s : Script) (es acc : List ℕ) (x : ℕ) → has (fold (λ ops e. insert_op s e ops) acc es) x ≡ (has es x || has acc x)
has-fold_insert s [] acc x = refl
has-fold_insert s (e ∷ es) acc x = has-fold_insert s es (insert_op s e acc) x ∙ (ap (λ b. has es x || b) (has-insert s e acc x) ∙ swap (has es x) (eqb e x) (has acc x))
  where
    swap : (a b c : Bool) → (a || (b || c)) ≡ ((b || a) || c)
    swap true true c = refl
    swap true false c = refl
    swap false true c = refl
    swap false false c = refl

-- operations by value, and then by number
abbrev AreSorted : Script → List ℕ → Type 0
AreSorted s [] = Unit {0}
AreSorted s (e ∷ es) = ((f : ℕ) → has es f ≡ true → (value_at s e < value_at s f) ⊎ ((value_at s e ≡ value_at s f) × (e < f))) × AreSorted s es

sorted-insert : (s : Script) (e : ℕ) (xs : List ℕ) → ((f : ℕ) → has xs f ≡ true → f < e) → AreSorted s xs → AreSorted s (insert_op s e xs)
sorted-insert s e [] below r = ((λ f h. absurd (false≢true h)), tt)
sorted-insert s e (x ∷ xs) below r = by_test (leb (value_at s x) (value_at s e)) refl (sorted-insert s e xs (λ f h. below f (has_there x xs f h)) r.1)
  where
    by_test : (b : Bool) → leb (value_at s x) (value_at s e) ≡ b → AreSorted s (insert_op s e xs) → AreSorted s (cond b (x ∷ insert_op s e xs) (e ∷ x ∷ xs))
    by_test true q i = ((λ f h. elim (has_cases e xs f (sym (has-insert s e xs f) ∙ h)) [ inl j ↦ here f j | inr j ↦ r.0 f j ]), i)
      where
        here : (f : ℕ) → e ≡ f → (value_at s x < value_at s f) ⊎ ((value_at s x ≡ value_at s f) × (x < f))
        here f j = subst (λ z. (value_at s x < value_at s z) ⊎ ((value_at s x ≡ value_at s z) × (x < z))) j (elim (cases_lt (value_at s x) (value_at s e)) [
          | inl l ↦ inl l
          | inr l ↦ (let m = leb-true (value_at s x) (value_at s e) q in let k = below x (has_here x xs) in inr (omega arith, k))
        ])
    by_test false q i = (
      (λ f h. inl (elim (has_cases x xs f h) [
        | inl j ↦ subst (λ z. value_at s e < value_at s z) j (leb-false (value_at s x) (value_at s e) q)
        | inr j ↦ (let m = leb-false (value_at s x) (value_at s e) q in elim (r.0 f j) [ inl l ↦ (let k : value_at s e < value_at s f = omega arith in k) | inr l ↦ (let o = l.0 in let k : value_at s e < value_at s f = omega arith in k) ])
      ])),
      r,
    )

pub sorted-fold_insert : (s : Script) (es acc : List ℕ) → AreRising es → ((f e : ℕ) → has acc f ≡ true → has es e ≡ true → f < e) → AreSorted s acc → AreSorted s (fold (λ ops e. insert_op s e ops) acc es)
sorted-fold_insert s [] acc rise below r = r
sorted-fold_insert s (x ∷ es) acc rise below r =
    sorted-fold_insert s es (insert_op s x acc) rise.1 (λ f e h m. elim (has_cases x acc f (sym (has-insert s x acc f) ∙ h)) [ inl i ↦ subst (λ z. z < e) i (rise.0 e m) | inr i ↦ below f e i (has_there x es e m) ]) (sorted-insert s x acc (λ f h. below f x h (has_here x es)) r)

pub no_value : (s : Script) (earlier xs : List Signaling) (e : ℕ) → slice_get xs e ≡ None → slice_get (values_from s earlier xs) e ≡ None
no_value s earlier [] e h = refl
no_value s earlier (x ∷ xs) zero h = absurd (let c : Some x ≡ None = h in cc)
no_value s earlier (x ∷ xs) (suc e) h = no_value s (earlier ++ x ∷ []) xs e h

pub op_value_is : (s : Script) (e : ℕ) → value (plan_of s) e ≡ value_at s e
op_value_is s e = ap (λ o. option_map_or (λ x. x.value) o 0) (op_is s e) ∙ by_op (slice_get (all_signals s) e) refl
  where
    by_op : (o : Option Signaling) → slice_get (all_signals s) e ≡ o → option_map_or (λ x. x.value) (option_map (λ x. op_at s (e, x)) o) 0 ≡ value_at s e
    by_op None h = sym (ap (λ o. option_map_or (λ v. v) o 0) (no_value s [] (all_signals s) e h))
    by_op (Some x) h = refl

pub in_order_of : (s : Script) (es : List ℕ) → AreSorted s es → AreInOrder (plan_of s) es
in_order_of s [] r = tt
in_order_of s (e ∷ es) r =
    ((λ f h. subst (λ v. (v < value (plan_of s) f) ⊎ ((v ≡ value (plan_of s) f) × (e < f))) (sym (op_value_is s e)) (subst (λ v. (value_at s e < v) ⊎ ((value_at s e ≡ v) × (e < f))) (sym (op_value_is s f)) (r.0 f h))), in_order_of s es r.1)

pub has-chain_ops : (s : Script) (t x : ℕ) → has (chain_ops s t) x ≡ has (filter (λ e. option_map_or (signals_semaphore t) (slice_get (all_signals s) e) false) (range_with_len 0 (length (all_signals s)))) x
has-chain_ops s t x = has-fold_insert s (filter (λ e. option_map_or (signals_semaphore t) (slice_get (all_signals s) e) false) (range_with_len 0 (length (all_signals s)))) [] x ∙ or_false (has (filter (λ e. option_map_or (signals_semaphore t) (slice_get (all_signals s) e) false) (range_with_len 0 (length (all_signals s)))) x)

pub chain_is : (s : Script) (t : ℕ) → t < length s.semaphores → chain (plan_of s) t ≡ chain_ops s t
chain_is s t l =
    ap (λ o. option_map_or (λ x. x) o []) (get-map (chain_ops s) (range_with_len 0 (length s.semaphores)) t ∙ ap (option_map (chain_ops s)) (get-range (length s.semaphores) 0 t l))
    ∙ ap (chain_ops s) (let e : 0 + t ≡ t = omega arith in e)

pub chain_past : (s : Script) (t : ℕ) → length s.semaphores ≤ t → chain (plan_of s) t ≡ []
chain_past s t l = ap (λ o. option_map_or (λ x. x) o []) (get-map (chain_ops s) (range_with_len 0 (length s.semaphores)) t ∙ ap (option_map (chain_ops s)) (get-range_past (length s.semaphores) 0 t l))

-- The chains of a compiled plan: the operations of the rest, and those of threads.
use Rattle.std.proofs.Common.{◌≡◌, ℕ, ◌+◌, ◌-◌, ◌<◌, ◌≤◌, ◌⊎◌, inl, inr, Bool, true, false, ◌||◌, cond, eqb, leb}
use Rattle.std.proofs.Common.{List, [], ◌∷◌, length, fold, filter, Option, Some, None, option_map, refl, sym, ap, ◌∙◌}
use Rattle.std.proofs.Common.{arith}
use Rattle.std.specs.List.{slice_get, range_with_len, list_any}
use Rattle.std.specs.Option.{option_map_or}
use Rattle.std.proofs.lemmas.Bool.{false≢true, cases_lt, eqb-true, eq-eqb}
use Rattle.vq_model.specs.declared.script.Script.{Script}
use Rattle.vq_model.specs.Context.{is_timeline}
use Rattle.vq_model.specs.Lowering.{plan_of}
use Rattle.vq_model.specs.Plan.{Plan, chain, chain_of}
use Rattle.vq_ground.specs.Lists.{has}
use Rattle.vq_model.specs.Signals.{Signaling, all_signals, signals_semaphore, value_at, insert_op, chain_ops}
use Rattle.vq_ground.proofs.Bools.{or_false}
use Rattle.vq_ground.proofs.Filters.{filter-has_cases, filter-has}
use Rattle.vq_ground.proofs.Gets.{get-map, get-range_past, get_within}
use Rattle.vq_ground.proofs.Lists.{any_has, any_at}
use Rattle.vq_ground.proofs.Numbers.{has_range}
use Rattle.vq_ground.proofs.Options.{some_of}
use Rattle.vq_plan_laws.proofs.Cited.{chain_is, op_chain_is}
use Rattle.vq_reading_laws.proofs.Cited.{kind_exists}
use Rattle.vq_blocks.specs.declared.block.HostThread.{HostThread}
use Rattle.vq_blocks.specs.HostsRuns.{signals_in_order}
use Rattle.vq_hosts_laws.proofs.PlainScripts.{plain_script}
use Rattle.vq_hosts_laws.proofs.CompiledSignals.{AreFit, thread_signal, on_timeline, thread_chain, rest_chain}

-- The chain of a semaphore

module _ (s : Script) where
  has_inserted : (e : ℕ) (xs : List ℕ) (x : ℕ) → has (insert_op s e xs) x ≡ (eqb e x || has xs x)
  has_inserted e [] x = refl
  has_inserted e (f ∷ fs) x = by_test (leb (value_at s f) (value_at s e)) (has_inserted e fs x)
    where
      swap : (a b c : Bool) → (a || (b || c)) ≡ (b || (a || c))
      swap true true c = refl
      swap true false c = refl
      swap false b c = refl

      by_test : (b : Bool) → has (insert_op s e fs) x ≡ (eqb e x || has fs x) →
          has (cond b (f ∷ insert_op s e fs) (e ∷ f ∷ fs)) x ≡ (eqb e x || (eqb f x || has fs x))
      by_test true i = ap (λ b. eqb f x || b) i ∙ swap (eqb f x) (eqb e x) (has fs x)
      by_test false i = refl

  has_all_inserted : (es acc : List ℕ) (x : ℕ) → has (fold (λ ops e. insert_op s e ops) acc es) x
      ≡ (has es x || has acc x)
  has_all_inserted [] acc x = refl
  has_all_inserted (e ∷ es) acc x =
      has_all_inserted es (insert_op s e acc) x ∙ (ap (λ b. has es x || b) (has_inserted e acc x)
      ∙ swap (has es x) (eqb e x) (has acc x))
    where
      swap : (a b c : Bool) → (a || (b || c)) ≡ ((b || a) || c)
      swap true true c = refl
      swap true false c = refl
      swap false true c = refl
      swap false false c = refl

  -- whether an operation signals a semaphore
  abbrev signals_at : ℕ → ℕ → Bool
  signals_at t e = option_map_or (signals_semaphore t) (slice_get (all_signals s) e) false

  abbrev places : List ℕ
  places = range_with_len 0 (length (all_signals s))

  has_ops : (t x : ℕ) → has (chain_ops s t) x ≡ has (filter (signals_at t) places) x
  has_ops t x = has_all_inserted (filter (signals_at t) places) [] x ∙ or_false (has (filter (signals_at t) places) x)

  pub in_chain : (t e : ℕ) → t < length s.semaphores → has (chain (plan_of s) t) e ≡ true → chain_of (plan_of s) e
      ≡ Some t
  in_chain t e l h =
      let c = filter-has_cases (signals_at t) places e (sym (has_ops t e)
      ∙ (ap (λ xs. has xs e) (sym (chain_is s t l)) ∙ h)) in
      op_chain_is s e ∙ by_get (slice_get (all_signals s) e) c.1
    where
      by_get : (o : Option Signaling) → option_map_or (signals_semaphore t) o false ≡ true →
          option_map (λ x. x.semaphore) o ≡ Some t
      by_get None g = absurd (false≢true g)
      by_get (Some x) g = ap Some (eqb-true x.semaphore t g)

  pub chain_has : (t e : ℕ) → t < length s.semaphores → chain_of (plan_of s) e ≡ Some t → has (chain (plan_of s) t) e
      ≡ true
  chain_has t e l h =
      let m = some_of (λ (x : Signaling). x.semaphore) (slice_get (all_signals s) e) t (sym (op_chain_is s e) ∙ h) in
      let w = get_within (all_signals s) e m.0 m.1 in
      ap (λ xs. has xs e) (chain_is s t l)
      ∙ (has_ops t e
      ∙ filter-has (signals_at t) places e (has_range (length (all_signals s)) 0 e (omega arith) (omega arith))
      (ap (λ o. option_map_or (signals_semaphore t) o false) m.1 ∙ eq-eqb m.0.semaphore t m.2))

  -- a chain with an operation exists
  pub chain_within : (f : ℕ → Bool) (t : ℕ) → list_any f (chain (plan_of s) t) ≡ true → t < length s.semaphores
  chain_within f t h = by_place (cases_lt t (length s.semaphores))
    where
      by_place : ((t < length s.semaphores) ⊎ (length s.semaphores ≤ t)) → t < length s.semaphores
      by_place (inl l) = l
      by_place (inr l) =
          let none : chain (plan_of s) t ≡ [] =
          ap (λ o. option_map_or (λ x. x) o []) (get-map (chain_ops s) (range_with_len 0 (length s.semaphores)) t
          ∙ ap (option_map (chain_ops s)) (get-range_past (length s.semaphores) 0 t l)) in
          absurd (false≢true (ap (list_any f) (sym none) ∙ h))

module _ (s : Script) (threads : List HostThread) (fit : AreFit s threads) where
  abbrev script : Script
  script = plain_script s threads

  abbrev plan : Plan
  plan = plan_of script

  abbrev signals : ℕ
  signals = length (signals_in_order threads)

  -- An operation of a thread that signals a semaphore.
  pub record IsThreadOp (t e : ℕ) : Type 0 where
    pub below : e < signals
    pub signal : Signaling
    pub is : slice_get (all_signals script) e ≡ Some signal
    pub of_chain : signal.semaphore ≡ t

  pub chain_cases : (f : ℕ → Bool) (t : ℕ) → list_any f (chain plan t) ≡ true →
      (list_any (λ e. f (signals + e)) (chain (plan_of s) t) ≡ true) ⊎ ((e : ℕ) × IsThreadOp t e × (f e ≡ true))
  chain_cases f t h =
      let l = chain_within script f t h in
      let a = any_at f (chain plan t) h in
      by_place a.0 (in_chain script t a.0 l a.1) a.2 l (cases_lt a.0 signals)
    where
      by_place : (e : ℕ) → chain_of plan e ≡ Some t → f e ≡ true → t < length s.semaphores →
          ((e < signals) ⊎ (signals ≤ e)) → (list_any (λ e. f (signals + e)) (chain (plan_of s) t) ≡ true) ⊎ ((e : ℕ)
          × IsThreadOp t e × (f e ≡ true))
      by_place e c g l (inl b) =
          let m = some_of (λ (x : Signaling). x.semaphore) (slice_get (all_signals script) e) t
          (sym (op_chain_is script e) ∙ c) in
          inr (e, record { below = b; signal = m.0; is = m.1; of_chain = m.2 }, g)
      by_place e c g l (inr b) =
          let z : signals + (e - signals) ≡ e = omega arith in
          let d = sym (rest_chain s threads fit (e - signals)) ∙ (ap (chain_of plan) z ∙ c) in
          inl (any_has (λ x. f (signals + x)) (chain (plan_of s) t) (e - signals) (chain_has s t (e - signals) l d)
          (ap f z ∙ g))

  pub chain_rest : (f : ℕ → Bool) (t : ℕ) → list_any (λ e. f (signals + e)) (chain (plan_of s) t) ≡ true →
      list_any f (chain plan t) ≡ true
  chain_rest f t h =
      let l = chain_within s (λ e. f (signals + e)) t h in
      let a = any_at (λ e. f (signals + e)) (chain (plan_of s) t) h in
      any_has f (chain plan t) (signals + a.0) (chain_has script t (signals + a.0) l (rest_chain s threads fit a.0
      ∙ in_chain s t a.0 l a.1)) a.2

  pub chain_thread : (f : ℕ → Bool) (t e : ℕ) → IsThreadOp t e → f e ≡ true → list_any f (chain plan t) ≡ true
  chain_thread f t e k g =
      let timeline = on_timeline s threads fit e k.signal (thread_signal s threads fit e k.signal k.below k.is) in
      let l = kind_exists s is_timeline k.signal.semaphore timeline in
      let c = k.of_chain in
      any_has f (chain plan t) e (chain_has script t e (omega arith) (thread_chain s threads fit e k.signal k.is
      ∙ ap Some c)) g

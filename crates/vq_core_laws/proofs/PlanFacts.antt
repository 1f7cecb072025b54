-- What the proofs of this crate need of a lawful plan.
use Rattle.std.proofs.Common.{◌≡◌, ℕ, zero, suc, ◌<◌, true, false, List, [], ◌∷◌, map, length, All, Some, None, option_map, refl, sym, ap, ◌∙◌, ◌⊎◌, inl, inr, subst, arith, ◌==◌}
use Rattle.std.specs.List.{slice_get, position_or_len}
use Rattle.std.proofs.lemmas.Bool.{false≢true}
use Rattle.vq_ground.proofs.Gets.{get_has}
use Rattle.vq_model.specs.declared.script.Script.{Script}
use Rattle.vq_model.specs.declared.plan.Op.{Op}
use Rattle.vq_model.specs.declared.plan.Question.TheVariants.{Value as AsksValue}
use Rattle.vq_model.specs.Plan.{Plan, chain, value, question, asked}
use Rattle.vq_ground.specs.Lists.{has, AreRisingFrom}
use Rattle.vq_model.specs.Checks.{IsLawful}
use Rattle.vq_model.specs.Lanes.{KeepsLanes, KeepsSemaphores}
use Rattle.vq_model.specs.Lowering.{plan_of}
use Rattle.vq_model.specs.LoweredPlans.{IsPlan}
use Rattle.vq_model.specs.SureOrder.{HasSureOrder}
use Rattle.vq_model.specs.Signals.{chain_ops, op_at, all_signals}
use Rattle.vq_model.specs.SureOrder.{KeepsRising, RisesFrom}
use Rattle.vq_model.specs.WellFormed.{IsWellFormed, KeepsHostOrder, AreInOrder}
use Rattle.vq_ground.proofs.Lists.{has_cases}
use Rattle.vq_ground.proofs.Options.{some_of}
use Rattle.vq_ground.proofs.Searches.{at_place}
use Rattle.vq_plan_laws.proofs.Cited.{plan_asked, plan_reads, plan_well_formed, plan_lanes, plan_semaphores, plan_hosts, chain_is, op_is, op_chain_is}
use Rattle.vq_order_laws.proofs.Cited.{plan_has_sure_order}
use Rattle.vq_core_laws.specs.Firsts.{StandOnce}

pub record Facts (p : Plan) : Type 0 where
  pub formed : IsWellFormed p
  pub lanes : KeepsLanes p
  pub semaphores : KeepsSemaphores p
  pub hosts : KeepsHostOrder p
  pub order : HasSureOrder p
  -- what a host step asks for is of chains that exist
  pub asked_chain : (j : ℕ) → All (λ n. n.chain < length p.script.semaphores) (asked p j)
  pub read_chain : (j t : ℕ) → question p j ≡ AsksValue t → t < length p.script.semaphores
  -- an operation stands in its chain at its place
  pub place : (e : ℕ) (o : Op) → slice_get p.ops e ≡ Some o → slice_get (chain p o.chain) o.index ≡ Some e

module _ (s : Script) (wf : IsWellFormed (plan_of s)) (sem : KeepsSemaphores (plan_of s)) where
  place_of_op : (e : ℕ) (o : Op) → slice_get (plan_of s).ops e ≡ Some o →
      slice_get (chain (plan_of s) o.chain) o.index ≡ Some e
  place_of_op e o h =
      let f = some_of (λ x. op_at s (e, x)) (slice_get (all_signals s) e) o (sym (op_is s e) ∙ h) in
      let t = f.0.semaphore in
      let of = op_chain_is s e ∙ ap (option_map (λ x. x.semaphore)) f.1 in
      let is = chain_is s t (sem.op_chain e t of) in
      let member = subst (λ (xs : List ℕ). has xs e ≡ true) is (wf.in_chain e t of) in
      subst (λ (x : Op). slice_get (chain (plan_of s) x.chain) x.index ≡ Some e) f.2
      (ap (λ (xs : List ℕ). slice_get xs (position_or_len (λ k. k == e) (chain_ops s t))) is
      ∙ at_place (chain_ops s t) e member)

pub facts : (p : Plan) → IsPlan p → IsLawful p → Facts p
facts p i l =
    let wf = plan_well_formed p i in
    let sem = plan_semaphores p i in
    record {
      formed = wf;
      lanes = plan_lanes p i;
      semaphores = sem;
      hosts = plan_hosts p i;
      order = plan_has_sure_order p i l;
      asked_chain = plan_asked p i;
      read_chain = plan_reads p i;
      place = subst (λ (q : Plan). IsWellFormed q → KeepsSemaphores q → (e : ℕ) (o : Op) →
          slice_get q.ops e ≡ Some o → slice_get (chain q o.chain) o.index ≡ Some e) (sym i.lowered) (place_of_op
          p.script) wf sem;
    }

not_later : (p : Plan) (y x : ℕ) → y ≡ x → (value p y < value p x) ⊎ ((value p y ≡ value p x) × (y < x)) → ⊥
not_later p y x s (inl l) = let e = ap (value p) s in omega arith
not_later p y x s (inr l) = let m = l.1 in omega arith

-- no operation stands in a chain twice
pub ordered_once : (p : Plan) (xs : List ℕ) → AreInOrder p xs → StandOnce xs
ordered_once p [] r i k x a b = absurd (let c : None ≡ Some x = a in cc)
ordered_once p (y ∷ xs) r zero zero x a b = refl
ordered_once p (y ∷ xs) r zero (suc k) x a b =
    let s : y ≡ x = cc in absurd (not_later p y x s (r.0 x (get_has xs k x b)))
ordered_once p (y ∷ xs) r (suc i) zero x a b =
    let s : y ≡ x = cc in absurd (not_later p y x s (r.0 x (get_has xs i x a)))
ordered_once p (y ∷ xs) r (suc i) (suc k) x a b = ap suc (ordered_once p xs r.1 i k x a b)

-- the values of a chain rise
rising_from : (p : Plan) (e : ℕ) (xs : List ℕ) → KeepsRising p e xs → AreRisingFrom (value p e) (map (value p) xs)
rising_from p e [] k = tt
rising_from p e (f ∷ fs) k = (k.0, rising_from p f fs k.2)

pub values_rise : (p : Plan) (n : ℕ) (xs : List ℕ) → RisesFrom p n xs → AreRisingFrom n (map (value p) xs)
values_rise p n [] k = tt
values_rise p n (e ∷ es) k = (k.0, rising_from p e es k.1)

above_first : (p : Plan) (e : ℕ) (xs : List ℕ) → KeepsRising p e xs → (f : ℕ) → has xs f ≡ true → value p e < value p f
above_first p e [] k f h = absurd (false≢true h)
above_first p e (x ∷ xs) k f h = elim (has_cases x xs f h) [
  | inl s ↦ subst (λ (z : ℕ). value p e < value p z) s k.0
  | inr m ↦ let a = k.0 in let b = above_first p x xs k.2 f m in omega arith
]

-- of two operations of a chain the one behind has the greater value
rising_places : (p : Plan) (e : ℕ) (xs : List ℕ) → KeepsRising p e xs → (i k f g : ℕ) → slice_get xs i ≡ Some f →
    slice_get xs k ≡ Some g → i < k → value p f < value p g
rising_places p e [] r i k f g a b l = absurd (let c : None ≡ Some f = a in cc)
rising_places p e (x ∷ xs) r i zero f g a b l = absurd (omega arith)
rising_places p e (x ∷ xs) r zero (suc k) f g a b l =
    let s : x ≡ f = cc in subst (λ (z : ℕ). value p z < value p g) s (above_first p x xs r.2 g (get_has xs k g b))
rising_places p e (x ∷ xs) r (suc i) (suc k) f g a b l = rising_places p x xs r.2 i k f g a b (omega arith)

pub chain_places : (p : Plan) (n : ℕ) (xs : List ℕ) → RisesFrom p n xs → (i k f g : ℕ) → slice_get xs i ≡ Some f →
    slice_get xs k ≡ Some g → i < k → value p f < value p g
chain_places p n [] r i k f g a b l = absurd (let c : None ≡ Some f = a in cc)
chain_places p n (x ∷ xs) r i zero f g a b l = absurd (omega arith)
chain_places p n (x ∷ xs) r zero (suc k) f g a b l =
    let s : x ≡ f = cc in subst (λ (z : ℕ). value p z < value p g) s (above_first p x xs r.1 g (get_has xs k g b))
chain_places p n (x ∷ xs) r (suc i) (suc k) f g a b l = rising_places p x xs r.1 i k f g a b (omega arith)

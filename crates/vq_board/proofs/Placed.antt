-- Operations stand at their places in their chains, and chains are short.
use Rattle.std.proofs.Common.{◌≡◌, ℕ, ◌+◌, ◌<◌, ◌≤◌, ◌^◌, Bool, true, false, ◌==◌, cond, leb, List, [], ◌∷◌, length, filter, fold, Option, Some, None, option_map, refl, sym, ap, ◌∙◌, subst, inl, inr, arith}
use Rattle.std.specs.List.{slice_get, position_or_len, range_with_len}
use Rattle.std.specs.Option.{option_map_or}
use Rattle.std.proofs.lemmas.Bool.{cases_lt}
use Rattle.std.proofs.lemmas.List.FromFn.{length-range_with_len}
use Rattle.std.proofs.lemmas.List.Sums.{count_by-le-length, length-filter}
use Rattle.std.proofs.lemmas.Option.{slice_get_past}
use Rattle.vq_model.specs.declared.plan.Op.{Op}
use Rattle.vq_model.specs.declared.script.Script.{Script}
use Rattle.vq_model.specs.Lanes.{KeepsSemaphores}
use Rattle.vq_model.specs.Lowering.{plan_of}
use Rattle.vq_model.specs.LoweredPlans.{IsPlan}
use Rattle.vq_model.specs.Plan.{Plan, chain}
use Rattle.vq_ground.specs.Lists.{has}
use Rattle.vq_model.specs.Signals.{insert_op, value_at, all_signals, chain_ops, op_at, signals_semaphore}
use Rattle.vq_model.specs.WellFormed.{IsWellFormed}
use Rattle.vq_ground.proofs.Options.{some_of}
use Rattle.vq_ground.proofs.Searches.{at_place}
use Rattle.vq_plan_laws.proofs.Cited.{chain_is, count_ops, op_chain_is, op_is, plan_lanes, plan_semaphores, plan_well_formed}
use Rattle.vq_board.specs.Firsts.{StandInChains}

module _ (s : Script) (wf : IsWellFormed (plan_of s)) (sem : KeepsSemaphores (plan_of s)) where
  stands : StandInChains (plan_of s)
  stands e o h =
      let f = some_of (λ x. op_at s (e, x)) (slice_get (all_signals s) e) o (sym (op_is s e) ∙ h) in
      let t = f.0.semaphore in
      let of = op_chain_is s e ∙ ap (option_map (λ x. x.semaphore)) f.1 in
      let is = chain_is s t (sem.op_chain e t of) in
      let member = subst (λ (xs : List ℕ). has xs e ≡ true) is (wf.in_chain e t of) in
      subst (λ (x : Op). slice_get (chain (plan_of s) x.chain) x.index ≡ Some e) f.2
      (ap (λ (xs : List ℕ). slice_get xs (position_or_len (λ k. k == e) (chain_ops s t))) is ∙ at_place (chain_ops s t) e member)

-- each operation of a plan stands at its place in its chain
pub placed : (p : Plan) → IsPlan p → StandInChains p
placed p i = subst (λ (q : Plan). IsWellFormed q → KeepsSemaphores q → StandInChains q) (sym i.lowered) (stands p.script) (plan_well_formed p i) (plan_semaphores p i)

length-insert : (s : Script) (e : ℕ) (fs : List ℕ) → length (insert_op s e fs) ≡ length fs + 1
length-insert s e [] = refl
length-insert s e (f ∷ fs) = by_test (leb (value_at s f) (value_at s e)) (length-insert s e fs)
  where
    by_test : (b : Bool) → length (insert_op s e fs) ≡ length fs + 1 → length (cond b (f ∷ insert_op s e fs) (e ∷ f ∷ fs)) ≡ length (f ∷ fs) + 1
    by_test true i = omega arith
    by_test false i = omega arith

length-inserts : (s : Script) (es fs : List ℕ) → length (fold (λ ops e. insert_op s e ops) fs es) ≡ length fs + length es
length-inserts s [] fs = omega arith
length-inserts s (e ∷ es) fs = let rest = length-inserts s es (insert_op s e fs) in let one = length-insert s e fs in omega arith

chain-le : (s : Script) (t : ℕ) → length (chain_ops s t) ≤ length (all_signals s)
chain-le s t =
    let test : ℕ → Bool = λ e. option_map_or (signals_semaphore t) (slice_get (all_signals s) e) false in
    let all : List ℕ = range_with_len 0 (length (all_signals s)) in
    let whole = length-inserts s (filter test all) [] in
    let some = length-filter test all in
    let most = count_by-le-length test all in
    let range = length-range_with_len 0 (length (all_signals s)) in
    omega arith

-- what a chain has stands in a chain that there is
pub chain_exists : (p : Plan) (t i e : ℕ) → slice_get (chain p t) i ≡ Some e → t < length p.chains
chain_exists p t i e g = elim (cases_lt t (length p.chains)) [
  | inl l ↦ l
  | inr past ↦
      let none : chain p t ≡ [] = ap (λ (o : Option (List ℕ)). option_map_or (λ x. x) o []) (slice_get_past p.chains t past) in
      let f : None ≡ Some e = sym (ap (λ (xs : List ℕ). slice_get xs i) none) ∙ g in
      absurd cc
]

-- a chain's operations are counted in 32 bits
pub short : (p : Plan) → IsPlan p → (t : ℕ) → length (chain p t) < 2 ^ 32
short p i t = elim (cases_lt t (length p.chains)) [
  | inl l ↦
      let few = (plan_lanes p i).few_ops in
      let chains = (plan_semaphores p i).chains in
      let most = chain-le p.script t in
      let same = ap (λ (q : Plan). length q.ops) i.lowered in
      let count = count_ops p.script in
      let is = ap (λ (q : Plan). length (chain q t)) i.lowered in
      let here = ap length (chain_is p.script t (omega arith)) in
      omega arith
  | inr past ↦ let none : length (chain p t) ≡ 0 = ap (λ (o : Option (List ℕ)). length (option_map_or (λ x. x) o [])) (slice_get_past p.chains t past) in omega arith
]

-- the operation that a copy of the plan's operations names stands at its place
pub copied_place : (p q : Plan) (ops : List Op) (e : ℕ) (o : Op) (found : Option Op) → StandInChains p → ops ≡ p.ops → q ≡ p → found ≡ slice_get ops e → found ≡ Some o → slice_get (chain q o.chain) o.index ≡ Some e
copied_place p q ops e o found stands same plan is some =
    ap (λ (x : Plan). slice_get (chain x o.chain) o.index) plan ∙ stands e o (ap (λ (xs : List Op). slice_get xs e) (sym same) ∙ (sym is ∙ some))

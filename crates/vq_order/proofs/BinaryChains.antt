-- The chain of a binary semaphore is in the order of its lines: the next signal after a line is the first operation with a later one.
use Rattle.std.proofs.Common.{◌≡◌, ℕ, ◌<◌, ◌≤◌, true, false, length, Option, Some, None, refl, sym, ap, ◌⊎◌, inl, inr, subst, arith}
use Rattle.std.specs.List.{slice_get}
use Rattle.std.specs.Option.{option_map_or}
use Rattle.std.proofs.lemmas.Bool.{cases_lt, cases_eq, false≢true}
use Rattle.std.proofs.lemmas.Option.{slice_get_past}
use Rattle.vq_model.specs.declared.script.SemaphoreKind.{SemaphoreKind}
use Rattle.vq_model.specs.declared.script.SemaphoreKind.TheVariants.{Timeline, Binary, Fence}
use Rattle.vq_model.specs.Context.{is_timeline, is_binary}
use Rattle.vq_model.specs.Plan.{Plan, chain, chain_of, value, line_of_op}
use Rattle.vq_model.specs.Signals.{kind_of, is_timeline_at}
use Rattle.vq_model.specs.LoweredPlans.{IsPlan}
use Rattle.vq_model.specs.Checks.{IsNextSignal}
use Rattle.vq_model.specs.WellFormed.{IsWellFormed}
use Rattle.vq_model.specs.Lanes.{HasLinesInOrder}
use Rattle.vq_reading_laws.proofs.Cited.{read_valid, read_batches, read_steps, read_lines_rise}
use Rattle.vq_order_laws.proofs.Cited.{signal_is, numbers_rise}
use Rattle.vq_plan_laws.proofs.Cited.{plan_well_formed, plan_lines}
use Rattle.vq_order.specs.Counts.{AreFirst}
use Rattle.vq_order.specs.UnorderedLines.{op_in, IsNextOrNone}
use Rattle.vq_clocks.proofs.Cited.{at_place, place_within}
use Rattle.vq_ground.proofs.Positions.{place}
use Rattle.vq_model.proofs.Plans.{op_within}
use Rattle.vq_order.proofs.UnorderedLaws.{get_at, order_at, op_of_chain}

-- the kind of a semaphore by its test
pub binary_is : (o : Option SemaphoreKind) → option_map_or is_binary o false ≡ true → o ≡ Some Binary
binary_is None h = absurd (false≢true h)
binary_is (Some (Timeline v)) h = absurd (false≢true h)
binary_is (Some Binary) h = refl
binary_is (Some Fence) h = absurd (false≢true h)

-- one operation comes before another in a chain
abbrev ComesBefore : Plan → ℕ → ℕ → Type 0
ComesBefore q e f = (value q e < value q f) ⊎ ((value q e ≡ value q f) × (e < f))

module _ (p : Plan) (i : IsPlan p) (t : ℕ) (binary : kind_of p.script t ≡ Some Binary) where
  formed : IsWellFormed p
  formed = plan_well_formed p i

  -- the numbers of a chain's operations rise along it, ..
  numbers : (e f : ℕ) → chain_of p e ≡ Some t → chain_of p f ≡ Some t → ComesBefore p e f → e < f
  numbers =
      subst (λ (q : Plan). (e f : ℕ) → chain_of q e ≡ Some t → chain_of q f ≡ Some t → ComesBefore q e f → e < f) (sym i.lowered)
      (λ e f c d o. numbers_rise p.script (read_valid p.script i.of_script) (read_batches p.script i.of_script) (read_steps p.script i.of_script) (read_lines_rise p.script i.of_script) i.faultless t
      counted e f
      (signal_is p.script (read_steps p.script i.of_script) e t c counted) (signal_is p.script (read_steps p.script i.of_script) f t d counted) o)
    where
      counted : is_timeline_at p.script t ≡ false
      counted = ap (λ (x : Option SemaphoreKind). option_map_or is_timeline x false) binary

  -- .. and so do their lines
  pub lines_rise : (k m : ℕ) → k < m → m < length (chain p t) → line_of_op p (op_in p t k) < line_of_op p (op_in p t m)
  lines_rise k m l h =
      let c = op_of_chain p formed t k (omega arith) in
      let d = op_of_chain p formed t m h in
      (plan_lines p i).ops (op_in p t k) (op_in p t m) (numbers (op_in p t k) (op_in p t m) c d (order_at p (chain p t) (formed.chain_order t) k m l h)) (op_within p (op_in p t m) t d)

  lines_rise_to : (k m : ℕ) → k ≤ m → m < length (chain p t) → line_of_op p (op_in p t k) ≤ line_of_op p (op_in p t m)
  lines_rise_to k m l h = elim (cases_eq k m) [
    | inl e ↦ (let q = ap (λ (n : ℕ). line_of_op p (op_in p t n)) e in omega arith)
    | inr d ↦ (let r = lines_rise k m (omega (arith, d)) h in omega arith)
  ]

  pub lines_down : (line k m : ℕ) → k < m → m < length (chain p t) → line_of_op p (op_in p t m) ≤ line → line_of_op p (op_in p t k) ≤ line
  lines_down line k m l h a = let r = lines_rise k m l h in omega arith

  -- where an operation of the chain stands
  stands : (e : ℕ) → chain_of p e ≡ Some t → (k : ℕ) × (k < length (chain p t)) × (op_in p t k ≡ e)
  stands e c = let l = place_within (chain p t) e (formed.in_chain e t c) in (place (chain p t) e, l, at_place (chain p t) e l)

  -- the next signal after a line stands behind those up to it
  pub next_is : (line n : ℕ) → AreFirst (λ e. line_of_op p e ≤ line) (chain p t) n → IsNextOrNone p t line (slice_get (chain p t) n)
  next_is line n f = elim (cases_lt n (length (chain p t))) [
    | inl l ↦ subst (IsNextOrNone p t line) (sym (get_at (chain p t) n 0 l)) (here l)
    | inr g ↦ subst (IsNextOrNone p t line) (sym (slice_get_past (chain p t) n g)) (none g)
  ]
    where
      here : n < length (chain p t) → IsNextSignal p t line (op_in p t n)
      here l =
          record {
            in_chain = op_of_chain p formed t n l;
            later = elim (cases_lt line (line_of_op p (op_in p t n))) [ inl m ↦ m | inr m ↦ absurd (f.above n (omega arith) l m) ];
            first = λ g c m. first g m (stands g c);
          }
        where
          first : (g : ℕ) → line < line_of_op p g → (k : ℕ) × (k < length (chain p t)) × (op_in p t k ≡ g) → line_of_op p (op_in p t n) ≤ line_of_op p g
          first g m s =
              let q = ap (line_of_op p) s.2 in
              elim (cases_lt s.0 n) [
                | inl b ↦ (let r = f.below s.0 b in absurd (omega arith))
                | inr b ↦ (let r = lines_rise_to n s.0 b s.1 in omega arith)
              ]

      none : length (chain p t) ≤ n → (e : ℕ) → ¬ IsNextSignal p t line e
      none g e x =
          let s = stands e x.in_chain in
          let a = s.1 in
          let q = ap (line_of_op p) s.2 in
          let r = f.below s.0 (omega arith) in
          let l = x.later in
          omega arith

-- there is one next signal
pub one_next : (p : Plan) → HasLinesInOrder p → (t line e f : ℕ) → IsNextSignal p t line e → IsNextSignal p t line f → e ≡ f
one_next p lines t line e f x y = elim (cases_lt e f) [
  | inl l ↦ (let r = lines.ops e f l (op_within p f t y.in_chain) in let s = y.first e x.in_chain x.later in absurd (omega arith))
  | inr g ↦ elim (cases_eq f e) [
    | inl q ↦ sym q
    | inr d ↦ (let r = lines.ops f e (omega (arith, d)) (op_within p e t x.in_chain) in let s = x.first f y.in_chain y.later in absurd (omega arith))
  ]
]

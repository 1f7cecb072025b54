-- The only chain, its only operation, and its shelf's only point.
use Rattle.std.proofs.Common.{◌≡◌, ℕ, zero, suc, ◌+◌, ◌<◌, ◌≤◌, eqb, List, [], ◌∷◌, length, Some, None, ap, sym, ◌∙◌, arith, eq-eqb, cond}
use Rattle.std.specs.Prelude.{count_by}
use Rattle.std.specs.List.{slice_get}
use Rattle.std.specs.Option.{option_map, option_map_or}
use Rattle.std.proofs.lemmas.Option.{same_Some, slice_get_past}
use Rattle.vq_ground.proofs.Gets.{get_within}
use Rattle.vq_model.specs.declared.plan.Op.{Op}
use Rattle.vq_model.specs.Plan.{Plan, chain, chain_of, value}
use Rattle.vq_board_laws.specs.declared.view.Role.TheVariants.{Shelf}
use Rattle.vq_board_laws.specs.declared.view.View.{View}
use Rattle.vq_board_laws.specs.MayPoints.{IsSmaller, MayMake}
use Rattle.vq_board_laws.specs.Roles.{role_number, share_of}
use Rattle.vq_board_example.specs.FillAndCopy.{HasSignal}

module _ (p : Plan) (k : HasSignal p) where
  single : (t : ℕ) → length (chain p t) < 2
  single zero = let one = ap (λ (xs : List ℕ). length xs) k.alone in omega arith
  single (suc t) =
      let past = slice_get_past p.chains (suc t) (omega (arith, k.chains)) in
      let none = ap (λ o. length (option_map_or (λ x. x) o [])) past in omega arith

  -- no operation is smaller than another
  pub none_smaller : (f e : ℕ) → ¬ IsSmaller p f e
  none_smaller f e s =
      let few = single s.of_chain in
      let within = get_within (chain p s.of_chain) s.second e s.greater in
      let order = s.order in omega arith

  -- no operation sets the chain above 1
  pub value_within : (e : ℕ) → chain_of p e ≡ Some 0 → value p e ≤ 1
  value_within zero is = let v = k.its_value in omega arith
  value_within (suc e) is =
      let past = slice_get_past p.ops (suc e) (omega (arith, k.ops)) in
      let none : chain_of p (suc e) ≡ None = ap (option_map (λ o. o.chain)) past in
      absurd (let c : None ≡ Some 0 = sym none ∙ is in cc)

  counts_one : (f : ℕ → ℕ) (ops : List Op) → length ops ≡ 1 → option_map (λ o. o.chain) (slice_get ops 0) ≡ Some 0 → count_by (λ o. eqb (f o.chain) (f 0)) ops ≡ 1
  counts_one f [] few is = absurd (omega arith)
  counts_one f (a ∷ []) few is = λ i. 0 + cond {A = ℕ} (eq-eqb (f a.chain) (f 0) (ap f (same_Some a.chain 0 is)) i) 1 0
  counts_one f (a ∷ b ∷ os) few is = absurd (omega arith)

  -- the shelf may make a point while it has none
  pub may_make : (v : View) → v.role ≡ role_number p (Shelf 0) → v.owned ≡ [] → MayMake p v
  may_make v role none =
      let share = ap (share_of p) role ∙ counts_one (λ t. role_number p (Shelf t)) p.ops k.ops k.its_chain in
      let few = ap (λ (xs : List ℕ). length xs) none in omega arith

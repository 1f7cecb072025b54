-- The chains of the tests: their operations, in order.
use Rattle.std.proofs.Common.{◌≡◌, ℕ, zero, suc, ◌<◌, ◌≤◌, [], ◌∷◌, length, Some, None, ap, sym, ◌∙◌, arith}
use Rattle.std.specs.List.{slice_get}
use Rattle.std.specs.Option.{option_map, option_map_or}
use Rattle.std.proofs.lemmas.Option.{same_Some, slice_get_past}
use Rattle.vq_ground.proofs.Gets.{get_within}
use Rattle.vq_model.specs.Plan.{Plan, chain, chain_of, value}
use Rattle.vq_board_laws.specs.MayPoints.{IsSmaller}
use Rattle.vq_board_stage.specs.HostSteps.{AreSingle}
use Rattle.vq_board_stage.specs.Reads.{IsOfReads}
use Rattle.vq_board_stage.specs.ThreeSignals.{HasSignals}

-- an operation's place in the chain is its number
place_is : (k e : ℕ) → slice_get (0 ∷ 1 ∷ 2 ∷ []) k ≡ Some e → k ≡ e
place_is zero e s = same_Some 0 e s
place_is (suc zero) e s = same_Some 1 e s
place_is (suc (suc zero)) e s = same_Some 2 e s
place_is (suc (suc (suc k))) e s = absurd (let c : None ≡ Some e = s in cc)

no_second : (p : Plan) (t k e : ℕ) → length p.chains ≡ 1 → slice_get (chain p (suc t)) k ≡ Some e → ⊥
no_second p t k e alone s =
    let past = slice_get_past p.chains (suc t) (omega arith) in
    let none : slice_get (chain p (suc t)) k ≡ None = ap (λ o. slice_get (option_map_or (λ x. x) o []) k) past in
    absurd (let c : None ≡ Some e = sym none ∙ s in cc)

-- of two operations of a chain the smaller one has the smaller number
pub smaller : (p : Plan) (f e : ℕ) → HasSignals p → IsSmaller p f e → f < e
smaller p f e h s = from s.of_chain s.first s.second s.smaller s.greater s.order
  where
    from : (t k l : ℕ) → slice_get (chain p t) k ≡ Some f → slice_get (chain p t) l ≡ Some e → k < l → f < e
    from zero k l a b less =
        let first = place_is k f (sym (ap (λ xs. slice_get xs k) h.its_chain) ∙ a) in
        let second = place_is l e (sym (ap (λ xs. slice_get xs l) h.its_chain) ∙ b) in omega arith
    from (suc t) k l a b less = absurd (no_second p t l e h.alone b)

-- where no chain has two operations none is smaller than another
pub none_smaller : (p : Plan) (f e : ℕ) → AreSingle p → ¬ IsSmaller p f e
none_smaller p f e single s =
    let few = single s.of_chain in
    let within = get_within (chain p s.of_chain) s.second e s.greater in
    let order = s.order in omega arith

-- past the last chain there are no operations
pub single_past : (p : Plan) (t : ℕ) → length p.chains ≤ t → length (chain p t) < 2
single_past p t past =
    let none = ap (λ o. length (option_map_or (λ x. x) o [])) (slice_get_past p.chains t past) in omega arith

-- no operation of the test of answers has a value above 1
pub value_within : (p : Plan) → IsOfReads p → (e : ℕ) → chain_of p e ≡ Some 0 → value p e ≤ 1
value_within p h zero is = let v = h.its_value in omega arith
value_within p h (suc e) is =
    let past = slice_get_past p.ops (suc e) (omega (arith, h.ops)) in
    let none : chain_of p (suc e) ≡ None = ap (option_map (λ o. o.chain)) past in
    absurd (let c : None ≡ Some 0 = sym none ∙ is in cc)

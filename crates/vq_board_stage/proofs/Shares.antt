-- How many points the shelves of the tests may make.
use Rattle.std.proofs.Common.{◌≡◌, ℕ, ◌+◌, ◌<◌, eqb, List, [], ◌∷◌, length, zero, suc, Some, None, ap, ◌∙◌, arith, eq-eqb, cond}
use Rattle.std.specs.Prelude.{count_by}
use Rattle.std.specs.List.{slice_get}
use Rattle.std.specs.Option.{option_map}
use Rattle.std.proofs.lemmas.List.Sums.{sum_by-cons}
use Rattle.std.proofs.lemmas.Option.{same_Some}
use Rattle.vq_model.specs.Plan.{Plan, chain_of}
use Rattle.vq_model.specs.declared.plan.Op.{Op}
use Rattle.vq_board_laws.specs.declared.view.Role.TheVariants.{Shelf}
use Rattle.vq_board_laws.specs.declared.view.View.{View}
use Rattle.vq_board_laws.specs.MayPoints.{MayMake}
use Rattle.vq_board_laws.specs.Roles.{role_number, share_of}
use Rattle.vq_board_stage.specs.ThreeSignals.{HasSignals}

counts_one : (f : ℕ → ℕ) (t s : ℕ) → Some t ≡ Some s → cond {A = ℕ} (eqb (f t) (f s)) 1 0 ≡ 1
counts_one f t s e = ap (λ b. cond {A = ℕ} b 1 0) (eq-eqb (f t) (f s) (ap f (same_Some t s e)))

-- three operations of the first chain are counted
three : (f : ℕ → ℕ) (ops : List Op) → length ops ≡ 3 → option_map (λ o. o.chain) (slice_get ops 0) ≡ Some 0 → option_map (λ o. o.chain) (slice_get ops 1) ≡ Some 0 →
    option_map (λ o. o.chain) (slice_get ops 2) ≡ Some 0 → count_by (λ o. eqb (f o.chain) (f 0)) ops ≡ 3
three f [] e x y z = absurd (omega arith)
three f (a ∷ []) e x y z = absurd (omega arith)
three f (a ∷ b ∷ []) e x y z = absurd (omega arith)
three f (a ∷ b ∷ c ∷ []) e x y z = λ i. 0 + counts_one f a.chain 0 x i + counts_one f b.chain 0 y i + counts_one f c.chain 0 z i
three f (a ∷ b ∷ c ∷ d ∷ ds) e x y z = absurd (omega arith)

-- so is the operation e, among those of its chain
at_least_one : (f : ℕ → ℕ) (t : ℕ) (ops : List Op) (e : ℕ) → option_map (λ o. o.chain) (slice_get ops e) ≡ Some t → 0 < count_by (λ o. eqb (f o.chain) (f t)) ops
at_least_one f t [] e x = absurd (let c : None ≡ Some t = x in cc)
at_least_one f t (a ∷ os) zero x =
    let one = counts_one f a.chain t x in
    let all = sum_by-cons (λ (o : Op). cond {A = ℕ} (eqb (f o.chain) (f t)) 1 0) a os in omega arith
at_least_one f t (a ∷ os) (suc e) x =
    let rest = at_least_one f t os e x in
    let all = sum_by-cons (λ (o : Op). cond {A = ℕ} (eqb (f o.chain) (f t)) 1 0) a os in omega arith

pub share_is : (p : Plan) → HasSignals p → share_of p (role_number p (Shelf 0)) ≡ 3
share_is p k = three (λ t. role_number p (Shelf t)) p.ops k.count k.first.its_chain k.second.its_chain k.third.its_chain

-- the shelf may make a point while it has fewer than three
pub may_make : (p : Plan) (v : View) → HasSignals p → v.role ≡ role_number p (Shelf 0) → length v.owned < 3 → MayMake p v
may_make p v k role few = let e = ap (share_of p) role ∙ share_is p k in omega arith

-- and where its chain has an operation, while it has no point
pub may_make_one : (p : Plan) (v : View) (t e : ℕ) → chain_of p e ≡ Some t → v.role ≡ role_number p (Shelf t) → v.owned ≡ [] → MayMake p v
may_make_one p v t e in_chain role none =
    let share = ap (share_of p) role in
    let some = at_least_one (λ s. role_number p (Shelf s)) t p.ops e in_chain in
    let few = ap (λ (xs : List ℕ). length xs) none in omega arith

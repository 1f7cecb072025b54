-- How many points may be made: the passes' shares of the operations are together at most all of them.
use Rattle.std.proofs.Common.{◌≡◌, ℕ, zero, suc, ◌+◌, ◌<◌, ◌≤◌, cond, eqb, leb, List, [], ◌∷◌, length, refl, ap, sym, ◌∙◌, arith}
use mathlib.Core.Option.{some, some-injective, some-ne-none}
use lib.ListN.{get_elem?}
use native.Mathlib.Decide.{dec_le}
use Rattle.std.specs.Prelude.{sum_by, count_by}
use Rattle.std.proofs.lemmas.List.Sums.{sum_by-cons, count_by-le-length}
use Rattle.std.proofs.lemmas.Bool.Decides.{nat_tests}
use Rattle.vq_model.specs.Plan.{Plan}
use Rattle.vq_model.specs.declared.plan.Op.{Op}
use Rattle.vq_board_laws.specs.declared.view.View.{View}
use Rattle.vq_board_laws.specs.declared.view.Role.TheVariants.{Shelf}
use Rattle.vq_board_laws.specs.Roles.{role_number, share_of}
use Rattle.vq_board_laws.specs.Knowledge.{Each}
use Rattle.vq_board_laws.specs.Ownership.{Ownership}
use Rattle.vq_board_laws.specs.Points.{Points}
use Rattle.vq_board_laws.specs.Words.{Carries}
use Rattle.vq_board_laws.proofs.PointBits.{no_word}

-- Sums over the passes

sum_at_most : (f g : View → ℕ) (views : List View) → Each (λ i v. f v ≤ g v) views → sum_by f views ≤ sum_by g views
sum_at_most f g [] h = omega arith
sum_at_most f g (x ∷ xs) h = let a = sum_by-cons f x xs in let b = sum_by-cons g x xs in let here = h 0 x refl in let rest = sum_at_most f g xs (λ i v e. h (suc i) v e) in omega arith

-- where one part is less and no part is more, the sum is less
sum_smaller : (f g : View → ℕ) (views : List View) (id : ℕ) (v : View) → get_elem? views id ≡ some v → Each (λ i u. f u ≤ g u) views → f v < g v → sum_by f views < sum_by g views
sum_smaller f g [] id v e h less = absurd (some-ne-none v (sym e))
sum_smaller f g (x ∷ xs) zero v e h less =
    let a = sum_by-cons f x xs in
    let b = sum_by-cons g x xs in
    let rest = sum_at_most f g xs (λ i u t. h (suc i) u t) in
    let fx = ap f (some-injective x v e) in
    let gx = ap g (some-injective x v e) in omega arith
sum_smaller f g (x ∷ xs) (suc id) v e h less = let a = sum_by-cons f x xs in let b = sum_by-cons g x xs in let here = h 0 x refl in let rest = sum_smaller f g xs id v e (λ i u t. h (suc i) u t) less in omega arith

-- Shares

module _ {A : Type 0} (f : A → ℕ) where
  one_more : (n : ℕ) (x : A) → cond {A = ℕ} (eqb (f x) n) 1 0 + cond {A = ℕ} (leb (suc n) (f x)) 1 0 ≡ cond {A = ℕ} (leb n (f x)) 1 0
  one_more n x = grind (arith, nat_tests)

  -- those at n and those above n are those from n on
  from_on : (n : ℕ) (xs : List A) → count_by (λ x. eqb (f x) n) xs + count_by (λ x. leb (suc n) (f x)) xs ≡ count_by (λ x. leb n (f x)) xs
  from_on n [] = refl
  from_on n (x ∷ xs) =
      let a = sum_by-cons (λ y. cond (eqb (f y) n) 1 0) x xs in
      let b = sum_by-cons (λ y. cond (leb (suc n) (f y)) 1 0) x xs in
      let c = sum_by-cons (λ y. cond (leb n (f y)) 1 0) x xs in
      let d = one_more n x in
      let rest = from_on n xs in omega arith

  shares_from : (xs : List A) (views : List View) (base : ℕ) → Each (λ i v. v.role ≡ base + i) views → sum_by (λ v. count_by (λ x. eqb (f x) v.role) xs) views ≤ count_by (λ x. leb base (f x)) xs
  shares_from xs [] base h = omega arith
  shares_from xs (v ∷ views) base h =
      let role : v.role ≡ base = h 0 v refl ∙ omega arith in
      let rest = shares_from xs views (suc base) (λ i u e. h (suc i) u e ∙ omega arith) in
      let here = sum_by-cons (λ (u : View). count_by (λ x. eqb (f x) u.role) xs) v views in
      let mine : count_by (λ x. eqb (f x) v.role) xs ≡ count_by (λ x. eqb (f x) base) xs = ap (λ (n : ℕ). count_by (λ x. eqb (f x) n) xs) role in
      let all = from_on base xs in omega arith

  -- where the roles are the indexes, the shares are together at most all
  pub shares : (xs : List A) (views : List View) → Each (λ i v. v.role ≡ i) views → sum_by (λ v. count_by (λ x. eqb (f x) v.role) xs) views ≤ length xs
  shares xs views h = let a = shares_from xs views 0 (λ i v e. h i v e ∙ omega arith) in let b = count_by-le-length (λ x. leb 0 (f x)) xs in omega arith

-- Points

module _ (p : Plan) (count : ℕ) (views : List View) (k : Ownership p count views) where
  all_shares : sum_by (λ v. share_of p v.role) views ≤ length p.ops
  all_shares = shares (λ (o : Op). role_number p (Shelf o.chain)) p.ops views k.roles

  -- there are at most as many points as operations
  pub points_within : count ≤ length p.ops
  points_within =
      let sums = sum_at_most (λ v. length v.owned) (λ v. share_of p v.role) views k.shares in
      let all = all_shares in
      let c = k.counted in omega arith

  -- a pass that has made fewer points than its share finds a count below the number of operations
  pub points_below : (id : ℕ) (v : View) → get_elem? views id ≡ some v → length v.owned < share_of p v.role → count < length p.ops
  points_below id v at less =
      let sums = sum_smaller (λ u. length u.owned) (λ u. share_of p u.role) views id v at k.shares less in
      let all = all_shares in
      let c = k.counted in omega arith

  -- a point that carries an operation has a number below that of operations
  pub carried_below : (op point : ℕ → ℕ) (e q : ℕ) → Points p op point count views → Carries (point q) e → q < length p.ops
  carried_below op point e q points carries =
      let all = points_within in
      elim (dec_le count q) [ yes h ↦ absurd (no_word (point q) e (points.unmade q h) carries) | no h ↦ omega arith ]

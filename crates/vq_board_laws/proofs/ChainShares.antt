-- The share of a shelf is the length of its chain.
use Rattle.std.proofs.Common.{◌≡◌, ℕ, zero, suc, ◌+◌, Bool, true, false, cond, eqb, List, [], ◌∷◌, length, Option, Some, None, refl, ap, ◌∙◌, subst, arith, inl, inr, eq-eqb}
use Rattle.std.specs.Prelude.{count_by}
use Rattle.std.specs.List.{slice_get}
use Rattle.std.specs.Option.{option_map}
use Rattle.std.proofs.lemmas.Bool.{eqb-true, false_from_ne_true, false≢true, cond-true}
use Rattle.std.proofs.lemmas.List.Sums.{sum_by-cons}
use Rattle.vq_model.specs.declared.plan.Op.{Op}
use Rattle.vq_model.specs.LoweredPlans.{IsPlan}
use Rattle.vq_model.specs.Plan.{Plan, chain}
use Rattle.vq_ground.specs.Lists.{has}
use Rattle.vq_model.specs.WellFormed.{AreInOrder}
use Rattle.vq_ground.proofs.Lists.{AreDistinct, has_here, has_there, has_cases}
use Rattle.vq_plan_laws.proofs.Cited.{plan_well_formed}
use Rattle.vq_board_laws.specs.declared.view.Role.TheVariants.{Shelf}
use Rattle.vq_board_laws.specs.Roles.{role_number, share_of}
use Rattle.vq_board_laws.proofs.Logs.{within_length}

-- The operations of a list that are counted, by their numbers from k on

abbrev numbered : (Op → Bool) → ℕ → List Op → List ℕ
numbered test k [] = []
numbered test k (o ∷ os) = cond (test o) (k ∷ numbered test (suc k) os) (numbered test (suc k) os)

numbered_length : (test : Op → Bool) (k : ℕ) (os : List Op) → length (numbered test k os) ≡ count_by test os
numbered_length test k [] = refl
numbered_length test k (o ∷ os) = by_test (test o) refl (numbered_length test (suc k) os)
  where
    by_test : (b : Bool) → test o ≡ b → length (numbered test (suc k) os) ≡ count_by test os → length (cond b (k ∷ numbered test (suc k) os) (numbered test (suc k) os)) ≡ count_by test (o ∷ os)
    by_test true e h = let a = sum_by-cons (λ (x : Op). cond {A = ℕ} (test x) 1 0) o os in let one = ap (λ b. cond {A = ℕ} b 1 0) e in omega arith
    by_test false e h = let a = sum_by-cons (λ (x : Op). cond {A = ℕ} (test x) 1 0) o os in let none = ap (λ b. cond {A = ℕ} b 1 0) e in omega arith

-- such a number is that of an operation that is counted
pub record IsNumbered (test : Op → Bool) (k : ℕ) (os : List Op) (e : ℕ) : Type 0 where
  pub place : ℕ
  pub op : Op
  pub at : slice_get os place ≡ Some op
  pub counted : test op ≡ true
  pub number : e ≡ k + place

numbered_at : (test : Op → Bool) (k : ℕ) (os : List Op) (e : ℕ) → has (numbered test k os) e ≡ true → IsNumbered test k os e
numbered_at test k [] e h = absurd (false≢true h)
numbered_at test k (o ∷ os) e h = by_test (test o) refl h (numbered_at test (suc k) os e)
  where
    later : IsNumbered test (suc k) os e → IsNumbered test k (o ∷ os) e
    later n = record { place = suc n.place; op = n.op; at = n.at; counted = n.counted; number = (let a = n.number in omega arith) }

    by_test : (b : Bool) → test o ≡ b → has (cond b (k ∷ numbered test (suc k) os) (numbered test (suc k) os)) e ≡ true → (has (numbered test (suc k) os) e ≡ true → IsNumbered test (suc k) os e) → IsNumbered test k (o ∷ os) e
    by_test true t m rest = elim (has_cases k (numbered test (suc k) os) e m) [
      | inl is ↦ record { place = 0; op = o; at = refl; counted = t; number = (let a = is in omega arith) }
      | inr n ↦ later (rest n)
    ]
    by_test false t m rest = later (rest m)

-- and each such operation's number is there
numbered_has : (test : Op → Bool) (k : ℕ) (os : List Op) (place : ℕ) (o : Op) → slice_get os place ≡ Some o → test o ≡ true → has (numbered test k os) (k + place) ≡ true
numbered_has test k [] place o at t = absurd (let c : None ≡ Some o = at in cc)
numbered_has test k (x ∷ os) zero o at t =
    let same : x ≡ o = cc in
    let whole : numbered test k (x ∷ os) ≡ k ∷ numbered test (suc k) os = cond-true (test x) (k ∷ numbered test (suc k) os) (numbered test (suc k) os) (ap test same ∙ t) in
    let first : k ≡ k + 0 = omega arith in
    subst (λ (z : ℕ). has (numbered test k (x ∷ os)) z ≡ true) first (ap (λ (ns : List ℕ). has ns k) whole ∙ has_here k (numbered test (suc k) os))
numbered_has test k (x ∷ os) (suc place) o at t =
    let next : suc k + place ≡ k + suc place = omega arith in
    subst (λ (z : ℕ). has (numbered test k (x ∷ os)) z ≡ true) next (by_test (test x) (numbered_has test (suc k) os place o at t))
  where
    by_test : (b : Bool) → has (numbered test (suc k) os) (suc k + place) ≡ true → has (cond b (k ∷ numbered test (suc k) os) (numbered test (suc k) os)) (suc k + place) ≡ true
    by_test true h = has_there k (numbered test (suc k) os) (suc k + place) h
    by_test false h = h

numbered_distinct : (test : Op → Bool) (k : ℕ) (os : List Op) → AreDistinct (numbered test k os)
numbered_distinct test k [] = tt
numbered_distinct test k (o ∷ os) = by_test (test o) (numbered_distinct test (suc k) os)
  where
    by_test : (b : Bool) → AreDistinct (numbered test (suc k) os) → AreDistinct (cond b (k ∷ numbered test (suc k) os) (numbered test (suc k) os))
    by_test true rest = (false_from_ne_true (has (numbered test (suc k) os) k) (λ m. let a = (numbered_at test (suc k) os k m).number in omega arith), rest)
    by_test false rest = rest

-- The operations of a chain

distinct_in_order : (p : Plan) (es : List ℕ) → AreInOrder p es → AreDistinct es
distinct_in_order p [] h = tt
distinct_in_order p (e ∷ es) h = (false_from_ne_true (has es e) (λ m. elim (h.0 e m) [ inl less ↦ omega arith | inr tie ↦ let a = tie.1 in omega arith ]), distinct_in_order p es h.1)

module _ (p : Plan) (plan : IsPlan p) (t : ℕ) where
  abbrev test : Op → Bool
  test = λ o. eqb (role_number p (Shelf o.chain)) (role_number p (Shelf t))

  -- the operations that are counted are those of the chain
  same_chain : (o : Op) → test o ≡ true → o.chain ≡ t
  same_chain o h = let same = eqb-true (role_number p (Shelf o.chain)) (role_number p (Shelf t)) h in omega arith

  in_chain : (e : ℕ) → has (numbered test 0 p.ops) e ≡ true → has (chain p t) e ≡ true
  in_chain e h =
      let n = numbered_at test 0 p.ops e h in
      let number : n.place ≡ e = (let a = n.number in omega arith) in
      let there : slice_get p.ops e ≡ Some n.op = subst (λ (z : ℕ). slice_get p.ops z ≡ Some n.op) number n.at in
      (plan_well_formed p plan).in_chain e t (ap (option_map (λ (o : Op). o.chain)) there ∙ ap Some (same_chain n.op n.counted))

  of_chain : (e : ℕ) → has (chain p t) e ≡ true → has (numbered test 0 p.ops) e ≡ true
  of_chain e h = by_op (slice_get p.ops e) refl ((plan_well_formed p plan).of_chain e t h)
    where
      by_op : (o : Option Op) → slice_get p.ops e ≡ o → option_map (λ (x : Op). x.chain) o ≡ Some t → has (numbered test 0 p.ops) e ≡ true
      by_op None at is = absurd (let c : None ≡ Some t = is in cc)
      by_op (Some o) at is =
          let same : o.chain ≡ t = cc in
          let zero_more : 0 + e ≡ e = omega arith in
          subst (λ (z : ℕ). has (numbered test 0 p.ops) z ≡ true) zero_more (numbered_has test 0 p.ops e o at (eq-eqb (role_number p (Shelf o.chain)) (role_number p (Shelf t)) (ap (λ (c : ℕ). role_number p (Shelf c)) same)))

  pub share_is_chain : share_of p (role_number p (Shelf t)) ≡ length (chain p t)
  share_is_chain =
      let counted = numbered_length test 0 p.ops in
      let low = within_length (numbered test 0 p.ops) (chain p t) (numbered_distinct test 0 p.ops) in_chain in
      let high = within_length (chain p t) (numbered test 0 p.ops) (distinct_in_order p (chain p t) ((plan_well_formed p plan).chain_order t)) of_chain in
      omega arith

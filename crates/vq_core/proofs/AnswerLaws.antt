-- Which payloads a chain had: it rises through the values of its operations that are made.
use Rattle.std.proofs.Common.{◌≡◌, ℕ, suc, ◌+◌, ◌&&◌, ◌==◌, Bool, true, false, List, ◌∷◌, ◌++◌, length, Some, None, refl, sym, ap, ◌∙◌, inl, inr, subst, arith}
use Rattle.std.specs.Prelude.{nat_le}
use Rattle.std.specs.List.{slice_get, list_any}
use Rattle.std.specs.Option.{option_map_or}
use Rattle.std.proofs.lemmas.Bool.{cases_eq, eq-eqb, ne_eqb, false≢true, and_from, le-leb, leb-true}
use Rattle.vq_ground.proofs.Bools.{and_false}
use Rattle.vq_model.specs.declared.plan.Op.{Op}
use Rattle.vq_model.specs.Plan.{Plan, chain, value, initial, resolver}
use Rattle.vq_ground.specs.Lists.{has}
use Rattle.vq_model.specs.SureOrder.{RisesFrom}
use Rattle.vq_ground.proofs.Gets.{get-append, place_in}
use Rattle.vq_ground.proofs.Lists.{has_cases, has-append_cases, any_has}
use Rattle.vq_ground.proofs.Searches.{find_passes, find_fails, find_member, find_splits}
use Rattle.vq_core_laws.proofs.Cited.{Facts, chain_places}
use Rattle.vq_core.proofs.Histories.{any_from}

pub op_value : (p : Plan) (e : ℕ) (o : Op) → slice_get p.ops e ≡ Some o → value p e ≡ o.value
op_value p e o at = ap (λ x. option_map_or (λ (y : Op). y.value) x 0) at

module _ (p : Plan) (f : Facts p) (made : ℕ → Bool) (t v : ℕ) where
  abbrev is_made_so : ℕ → Bool
  is_made_so e = made e && (value p e == v)

  not_so : (e : ℕ) → (value p e ≡ v → ⊥) → is_made_so e ≡ false
  not_so e d = ap (λ b. made e && b) (ne_eqb (value p e) v d) ∙ and_false (made e)

  -- at most one operation of a chain has a value: the one that resolves it
  only_one : (op e : ℕ) → resolver p t v ≡ Some op → has (chain p t) e ≡ true → value p e ≡ v → e ≡ op
  only_one op e r m is =
      let x = find_splits (λ e. nat_le v (value p e)) (chain p t) op r in
      elim (has-append_cases x.front (op ∷ x.back) e (ap (λ xs. has xs e) (sym x.whole) ∙ m)) [
        | inl h ↦ absurd (false≢true (sym (x.fail e h) ∙ le-leb v (value p e) (omega arith)))
        | inr h ↦ elim (has_cases op x.back e h) [
          | inl s ↦ sym s
          | inr b ↦ absurd (behind x.front x.back x.whole (place_in x.back e b))
        ]
      ]
    where
      behind : (front back : List ℕ) → chain p t ≡ front ++ op ∷ back → (k : ℕ) × (slice_get back k ≡ Some e) → ⊥
      behind front back whole at =
          let rises = subst (RisesFrom p (initial p t)) whole (f.order.chains t) in
          let less = chain_places p (initial p t) (front ++ op ∷ back) rises (length front + 0) (length front + suc
          at.0) op e (get-append front (op ∷ back) 0) (get-append front (op ∷ back) (suc at.0) ∙ at.1) (omega
          arith) in
          let most = leb-true v (value p op) (find_passes (λ e. nat_le v (value p e)) (chain p t) op r) in
          omega arith

  pub none_made : resolver p t v ≡ None → false ≡ list_any is_made_so (chain p t)
  none_made r = sym (any_from is_made_so (chain p t) (λ e m. not_so e (λ s. false≢true (sym (find_fails (λ e. nat_le v
      (value p e)) (chain p t) e r m) ∙ le-leb v (value p e) (omega arith)))))

  pub other_made : (op : ℕ) → resolver p t v ≡ Some op → (value p op ≡ v → ⊥) →
      false ≡ list_any is_made_so (chain p t)
  other_made op r d = sym (any_from is_made_so (chain p t) (λ e m. not_so e (λ s. d (ap (value p) (sym (only_one op e
      r m s)) ∙ s))))

  pub found_made : (op : ℕ) → resolver p t v ≡ Some op → value p op ≡ v →
      made op ≡ list_any is_made_so (chain p t)
  found_made op r is = by_test (made op) refl
    where
      member : has (chain p t) op ≡ true
      member = find_member (λ e. nat_le v (value p e)) (chain p t) op r

      by_test : (b : Bool) → made op ≡ b → made op ≡ list_any is_made_so (chain p t)
      by_test true m = m ∙ sym (any_has is_made_so (chain p t) op member (and_from (made op) (value p op == v) m
          (eq-eqb (value p op) v is)))
      by_test false m = m ∙ sym (any_from is_made_so (chain p t) (λ e h. each e h))
        where
          each : (e : ℕ) → has (chain p t) e ≡ true → is_made_so e ≡ false
          each e h = elim (cases_eq (value p e) v) [
            | inl s ↦ ap (λ b. b && (value p e == v)) (ap made (only_one op e r h s) ∙ m)
            | inr d ↦ not_so e d
          ]

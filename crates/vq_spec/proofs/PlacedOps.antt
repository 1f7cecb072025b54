-- Operations that get their places in their chains one after another, in the list where they stand.
use Rattle.std.proofs.Common.{◌≡◌, ℕ, suc, ◌+◌, ◌<◌, ◌≤◌, List, [], ◌∷◌, ◌++◌, length, get_or, map, take, drop, refl, sym, ap, ◌∙◌, arith, append_assoc, append-nil, add-one}
use Rattle.std.proofs.Math.ListN.{set, drop_of_length-le}
use Rattle.std.proofs.Math.Seq.{drop-cons, get_or-append_seam, set-append_seam}
use Rattle.std.specs.List.{enumerate_from}
use Rattle.std.proofs.lemmas.List.{length-map, length-take-le, take_all}
use Rattle.std.proofs.lemmas.List.FromFn.{length-enumerate_from}
use Rattle.std.proofs.lemmas.Option.{slice_get-get_or}
use Rattle.vq_model.specs.declared.plan.Op.{Op}
use Rattle.vq_spec.specs.declared.chains.Chain.{Chain}
use Rattle.vq_spec.specs.ChainParts.{placed}
use Rattle.vq_spec.proofs.PlanChains.{placed_push}

module _ (chains : List Chain) (ops : List Op) where
  -- the first ones with their places
  abbrev pub front : ℕ → List Op
  front e = map (placed chains) (enumerate_from 0 (take e ops))

  front_length : (e : ℕ) → e ≤ length ops → length (front e) ≡ e
  front_length e l =
      length-map (enumerate_from 0 (take e ops)) (placed chains)
      ∙ (length-enumerate_from 0 (take e ops) ∙ length-take-le e ops l)

  module _ (now : List Op) (e : ℕ) (none : Op) (inside : e < length ops) (h : now ≡ front e ++ drop e ops) where
    split : now ≡ front e ++ get_or ops e none ∷ drop (suc e) ops
    split = h ∙ ap (λ xs. front e ++ xs) (drop-cons ops e none inside)

    -- the next one is still what it was
    pub placed_next : get_or now e none ≡ get_or ops e none
    placed_next =
        ap (λ xs. get_or xs e none) split
        ∙ (ap (λ k. get_or (front e ++ get_or ops e none ∷ drop (suc e) ops) k none)
        (sym (front_length e (omega arith)))
        ∙ get_or-append_seam (front e) (get_or ops e none) (drop (suc e) ops) none)

    -- one more has its place
    pub placed_over : (made : Op) → made ≡ placed chains (e, get_or now e none) →
        set now e made ≡ front (e + 1) ++ drop (e + 1) ops
    placed_over made is =
        ap (λ xs. set xs e made) split
        ∙ (ap (λ k. set (front e ++ get_or ops e none ∷ drop (suc e) ops) k made)
        (sym (front_length e (omega arith)))
        ∙ (set-append_seam (front e) (get_or ops e none) (drop (suc e) ops) made
        ∙ (sym (append_assoc (front e) (made ∷ []) (drop (suc e) ops))
        ∙ (ap (λ xs. xs ++ drop (suc e) ops)
        (placed_push chains ops e (get_or ops e none) (front e) (front e ++ made ∷ []) made
        (slice_get-get_or ops e none inside) refl (is ∙ ap (λ o. placed chains (e, o)) placed_next) refl)
        ∙ ap (λ k. front (e + 1) ++ drop k ops) (sym (add-one e))))))

  -- all have theirs
  pub placed_all : (now : List Op) (e : ℕ) → e ≡ length ops → now ≡ front e ++ drop e ops →
      now ≡ map (placed chains) (enumerate_from 0 ops)
  placed_all now e is h =
      h
      ∙ (ap (λ xs. front e ++ xs) (drop_of_length-le ops (omega (arith, is)))
      ∙ (append-nil (front e)
      ∙ ap (λ xs. map (placed chains) (enumerate_from 0 xs)) (take_all e ops (omega (arith, is)))))

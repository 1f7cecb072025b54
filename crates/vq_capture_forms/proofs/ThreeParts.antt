-- A word of three parts or more between colons writes no scope.
use Rattle.std.proofs.Common.{◌≡◌, ◌<◌, ◌∙◌, ℕ, List, [], ◌∷◌, Bor, Option, Some, None, refl, sym, ap, subst, arith, length}
use Rattle.std.specs.List.{slice_split}
use Rattle.std.proofs.lemmas.List.Splits.{length-slice_split}
use Rattle.vq_capture.specs.MaskWords.{is_colon, scope_in}
use Rattle.vq_capture_forms.specs.Parts.{parts_left}

module _ (stages accesses : List ℕ) where
  third : (parts : List (List ℕ)) → 0 < length parts → None ≡ scope_in (stages ∷ accesses ∷ parts)
  third [] l = absurd (omega arith)
  third (part ∷ parts) l = refl

  pub three_parts : (parts : List (List ℕ)) (left : Option (Bor (List ℕ))) (rest : Bor (List ℕ)) → left ≡ Some rest → parts ≡ accesses ∷ parts_left is_colon left → None ≡ scope_in (stages ∷ parts)
  three_parts parts left rest e q =
      subst (λ (ys : List (List ℕ)). None ≡ scope_in (stages ∷ ys))
      (sym (q ∙ ap (λ (p : Option (Bor (List ℕ))). accesses ∷ parts_left is_colon p) e))
      (third (slice_split is_colon rest.now) (omega (arith, length-slice_split is_colon rest.now)))

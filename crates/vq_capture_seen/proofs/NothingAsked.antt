-- A step that no device does isn't asked.
use Rattle.std.proofs.Common.{◌≡◌, ◌∙◌, Bool, false, ◌&&◌, ℕ, List, [], ◌∷◌, if◌then◌else◌, refl, ap, Option, Some}
use Rattle.std.specs.Prelude.{not}
use Rattle.std.specs.List.{list_all}
use Rattle.vq_ground.proofs.Bools.{and_false}
use Rattle.vq_capture.specs.declared.capture.Step.{Step}
use Rattle.vq_capture.specs.Races.{conflict}
use Rattle.vq_capture_memory.specs.UnseenWrites.{writes, is_of_device, is_read}
use Rattle.vq_capture_seen.specs.Ways.{ToldPoint, lacks, last_lacking, is_delivered, told_points}

module _ (b : Step) (released : List ℕ) (e : is_of_device b.statement ≡ false) where
  not_asked : (x : ToldPoint) (behind : List ToldPoint) → lacks b released x behind ≡ false
  not_asked x behind =
      let rest : Bool = not (list_all (is_delivered (is_read b.statement) x behind) (told_points b released)) in
      ap (λ (t : Bool). conflict x.point.step b && ((writes x.point.step && t) && rest)) e
      ∙ (ap (λ (t : Bool). conflict x.point.step b && (t && rest)) (and_false (writes x.point.step))
      ∙ and_false (conflict x.point.step b))

  pub nothing_lacks : (last : Option ℕ) (above : List ToldPoint) → last_lacking b released last above ≡ last
  nothing_lacks last [] = refl
  nothing_lacks last (x ∷ behind) =
      ap (λ (t : Bool). last_lacking b released (if t then Some x.point.step.line else last) behind) (not_asked x behind)
      ∙ nothing_lacks last behind

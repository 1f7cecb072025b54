-- The places of a scene, where one of them is put.
use Rattle.std.proofs.Common.{◌≡◌, ℕ, sym, ap, ◌∙◌, inl, inr}
use Rattle.std.proofs.lemmas.Bool.{cases_eq}
use Rattle.vq_actor.proofs.Cited.{put_here, put_there}
use Rattle.vq_turns.specs.Turns.{Place, put_place}

pub put_again : (f : ℕ → Place) (q : ℕ) (x : Place) → x ≡ f q → put_place f q x ≡ f
put_again f q x h = λ i k. at k i
  where
    at : (k : ℕ) → put_place f q x k ≡ f k
    at k = elim (cases_eq k q) [
      | inl same ↦ put_here f q k x same ∙ (h ∙ ap f (sym same))
      | inr other ↦ put_there f q k x other
    ]

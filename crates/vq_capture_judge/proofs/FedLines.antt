-- One line more that was fed.
use Rattle.std.proofs.Common.{◌≡◌, ◌++◌, ◌∷◌, ◌∙◌, ℕ, List, sym, ap}
use Rattle.vq_capture.specs.declared.capture.Verdict.{Verdict}
use Rattle.vq_capture.specs.Reading.{ended_lines}
use Rattle.vq_capture_judge.specs.Judging.{Judging, Came, Goes, Ends, judged, on_from, with_text}

module _ (j : Judging) (rest line behind : List ℕ) (first : (more : List ℕ) → ended_lines (rest ++ more) ≡ line ∷ ended_lines (behind ++ more)) where
  pub fed_on : (now : Judging) → Goes now ≡ with_text j line → (more : List ℕ) → judged now (ended_lines (behind ++ more)) ≡ judged j (ended_lines (rest ++ more))
  fed_on now e more =
      ap (λ (c : Came). on_from (λ k. judged k (ended_lines (behind ++ more))) c) e
      ∙ ap (λ (ls : List (List ℕ)). judged j ls) (sym (first more))

  pub fed_end : (verdict : Verdict) → Ends verdict ≡ with_text j line → (more : List ℕ) → judged j (ended_lines (rest ++ more)) ≡ verdict
  fed_end verdict e more =
      ap (λ (ls : List (List ℕ)). judged j ls) (first more)
      ∙ sym (ap (λ (c : Came). on_from (λ k. judged k (ended_lines (behind ++ more))) c) e)

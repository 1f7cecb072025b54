-- The verdict on a text that was fed whole.
use Rattle.std.proofs.Common.{◌≡◌, ◌∙◌, ℕ, List, [], ◌++◌, sym, ap, subst, Bor}
use Rattle.std.proofs.lemmas.List.{append-nil}
use Rattle.vq_capture.specs.declared.capture.Verdict.{Verdict}
use Rattle.vq_capture.specs.declared.capture.Verdict.TheVariants.{Ordered}
use Rattle.vq_capture.specs.Reading.{ended_lines}
use Rattle.vq_capture_judge.specs.declared.feed.Fed.{Fed}
use Rattle.vq_capture_judge.specs.declared.feed.Fed.TheVariants.{Says, Left}
use Rattle.vq_capture_judge.specs.Judging.{Judging, judged, judged_text, start_judging}
use Rattle.vq_capture_judge.specs.Feeding.{FedBy}

module _ (text : List ℕ) (j now : Judging) (starts : j ≡ start_judging) (fed : Fed) (by : FedBy j text now fed) where
  at_start : (v : Verdict) → judged j (ended_lines (text ++ [])) ≡ v → v ≡ judged_text text
  at_start v e =
      sym e
      ∙ (ap (λ (k : Judging). judged k (ended_lines (text ++ []))) starts
      ∙ ap (λ (t : List ℕ). judged_text t) (append-nil text))

  pub fed_says : (v : Verdict) → fed ≡ Says v → v ≡ judged_text text
  fed_says v e = at_start v (subst (λ (f : Fed). FedBy j text now f) e by [])

  pub fed_left : (rest : Bor (List ℕ)) → fed ≡ Left rest → Ordered ≡ judged_text text
  fed_left rest e =
      let b = subst (λ (f : Fed). FedBy j text now f) e by in
      at_start Ordered (b.1 [] ∙ ap (λ (ls : List (List ℕ)). judged now ls) (ap (λ (t : List ℕ). ended_lines t) (append-nil rest.now) ∙ b.0))

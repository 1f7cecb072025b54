-- The end of a trace.
use Rattle.std.proofs.Common.{◌≡◌, ℕ, zero, suc, ◌++◌, List, codes, append_assoc, refl, sym, ap, ◌∙◌}
use Rattle.std.specs.Fmt.{decimal}
use Rattle.vq_model.specs.Plan.{Plan}
use Rattle.vq_model.specs.Machine.{State}
use Rattle.vq_model.specs.SlowRun.{bytes_after}
use Rattle.vq_model.specs.OutputText.{answers_of, buffers_text, line_feed}
use Rattle.vq_replay.specs.Traces.{end_text, finished_text}

pub unfinished : (p : Plan) (s : State) (n : ℕ) → (n ≡ 0 → ⊥) →
    end_text p s n ≡ codes "unfinished " ++ decimal n ++ line_feed
unfinished p s zero h = absurd (h refl)
unfinished p s (suc n) h = refl

pub finished : (p : Plan) (s : State) (before out text : List ℕ) →
    out ≡ ((before ++ codes "finished\n") ++ answers_of p s) ++ text →
    text ≡ buffers_text p.script.buffers (bytes_after p s.progress.applied) → out ≡ before ++ finished_text p s
finished p s before out text is bytes =
    let word = codes "finished" ++ line_feed in
    let whole = buffers_text p.script.buffers (bytes_after p s.progress.applied) in
    is
    ∙ (ap (λ (xs : List ℕ). ((before ++ word) ++ answers_of p s) ++ xs) bytes
    ∙ (append_assoc (before ++ word) (answers_of p s) whole
    ∙ (append_assoc before word (answers_of p s ++ whole)
    ∙ ap (λ (xs : List ℕ). before ++ xs) (sym (append_assoc word (answers_of p s) whole)))))

-- Steps that are told, with one more.
use Rattle.std.proofs.Common.{◌≡◌, ◌∙◌, ℕ, List, [], ◌∷◌, ◌++◌, refl, sym, ap}
use Rattle.std.proofs.lemmas.List.{append_assoc, append-nil, map-append}
use Rattle.vq_capture.specs.declared.capture.Step.{Step}
use Rattle.vq_capture.specs.Releases.{releases}
use Rattle.vq_capture_reader.specs.declared.added.Added.{Added}
use Rattle.vq_capture_reader.specs.Lines.{step_and_lines}
use Rattle.vq_capture_memory_judge.specs.ToldSteps.{told_on, told_all, told_of}

told_more : (pre xs : List Step) (s : Step) → told_on pre (xs ++ s ∷ []) ≡ told_on pre xs ++ (s, releases (pre ++ xs) s.queue s.statement) ∷ []
told_more pre [] s =
    ap (λ (l : List Step). (s, releases l s.queue s.statement) ∷ []) (sym (append-nil pre))
told_more pre (x ∷ xs) s =
    ap (λ (l : List (Step × List ℕ)). (x, releases pre x.queue x.statement) ∷ l) (told_more (pre ++ x ∷ []) xs s
    ∙ ap (λ (l : List Step). told_on (pre ++ x ∷ []) xs ++ (s, releases l s.queue s.statement) ∷ []) (append_assoc pre (x ∷ []) xs))

pub grew : (before after : List (Step × List ℕ)) (above now : List Step) (s : Step) (lines : List ℕ) → (now ≡ above ++ s ∷ []) × (lines ≡ releases above s.queue s.statement) → after ≡ before ++ (s, lines) ∷ [] → before ≡ told_all above → after ≡ told_all now
grew before after above now s lines (e, r) a b =
    a
    ∙ (ap (λ (l : List (Step × List ℕ)). l ++ (s, lines) ∷ []) b
    ∙ (ap (λ (l : List ℕ). told_all above ++ (s, l) ∷ []) r
    ∙ (sym (told_more [] above s)
    ∙ ap (λ (l : List Step). told_all l) (sym e))))

pub stayed : (before : List (Step × List ℕ)) (above now : List Step) → now ≡ above → before ≡ told_all above → before ≡ told_all now
stayed before above now e b = b ∙ ap (λ (l : List Step). told_all l) (sym e)

pub pushed : (before after : List Added) (a : Added) → after ≡ before ++ a ∷ [] → told_of after ≡ told_of before ++ step_and_lines a ∷ []
pushed before after a e = ap (λ (l : List Added). told_of l) e ∙ map-append step_and_lines before (a ∷ [])

-- The lines of the rest from its first job on, a line more.
use Rattle.std.proofs.Common.{◌≡◌, ℕ, ◌+◌, suc, Bool, true, false, not, cond, ◌||◌, List, [], ◌∷◌, ◌++◌, drop, take, length, refl, sym, ap, ◌∙◌, arith}
use Rattle.std.specs.List.{list_any, position_or_len}
use Rattle.std.proofs.lemmas.Bool.{false≢true}
use Rattle.vq_model.specs.declared.statement.Line.{Line}
use Rattle.vq_model.specs.Context.{is_job}
use Rattle.vq_blocks.specs.Compiled.{job_lines_in}

abbrev starts : Line → Bool
starts line = is_job line.statement

-- lines whose first begins no job
skipped : (line : Line) (lines : List Line) → starts line ≡ false → job_lines_in (line ∷ lines) ≡ job_lines_in lines
skipped line lines e =
    ap (λ (b : Bool). drop (length (take (cond (not b) (1 + position_or_len starts lines) 0) (line ∷ lines))) (line ∷ lines)) e
    ∙ (let one : 1 + position_or_len starts lines ≡ suc (position_or_len starts lines) = omega arith in
    ap (λ (k : ℕ). drop (length (take k (line ∷ lines))) (line ∷ lines)) one)

-- lines whose first begins a job
stopped : (line : Line) (lines : List Line) → starts line ≡ true → job_lines_in (line ∷ lines) ≡ line ∷ lines
stopped line lines e =
    ap (λ (b : Bool). drop (length (take (cond (not b) (1 + position_or_len starts lines) 0) (line ∷ lines))) (line ∷ lines)) e

-- before the first job there are none
pub jobs_none : (lines : List Line) → list_any (λ line. is_job line.statement) lines ≡ false → job_lines_in lines ≡ []
jobs_none [] h = refl
jobs_none (line ∷ lines) h = by_test (starts line) refl (jobs_none lines) h
  where
    by_test : (b : Bool) → starts line ≡ b → (list_any starts lines ≡ false → job_lines_in lines ≡ []) →
        (b || list_any starts lines) ≡ false → job_lines_in (line ∷ lines) ≡ []
    by_test true e more g = absurd (false≢true (sym g))
    by_test false e more g = skipped line lines e ∙ more g

-- from the first job on a line more is one more
pub jobs_push : (lines : List Line) (next : Line) →
    list_any (λ line. is_job line.statement) (lines ++ next ∷ []) ≡ true →
    job_lines_in (lines ++ next ∷ []) ≡ job_lines_in lines ++ next ∷ []
jobs_push [] next h = by_test (starts next) refl h
  where
    by_test : (b : Bool) → starts next ≡ b → (b || false) ≡ true → job_lines_in (next ∷ []) ≡ next ∷ []
    by_test true e g = stopped next [] e
    by_test false e g = absurd (false≢true g)
jobs_push (line ∷ lines) next h = by_test (starts line) refl (jobs_push lines next) h
  where
    by_test : (b : Bool) → starts line ≡ b →
        (list_any starts (lines ++ next ∷ []) ≡ true →
        job_lines_in (lines ++ next ∷ []) ≡ job_lines_in lines ++ next ∷ []) →
        (b || list_any starts (lines ++ next ∷ [])) ≡ true →
        job_lines_in (line ∷ lines ++ next ∷ []) ≡ job_lines_in (line ∷ lines) ++ next ∷ []
    by_test true e more g = stopped line (lines ++ next ∷ []) e ∙ sym (ap (λ (ls : List Line). ls ++ next ∷ []) (stopped line lines e))
    by_test false e more g =
        skipped line (lines ++ next ∷ []) e ∙ more g
        ∙ sym (ap (λ (ls : List Line). ls ++ next ∷ []) (skipped line lines e))

-- What lines say with one line more.
use Rattle.std.proofs.Common.{◌≡◌, ℕ, ◌+◌, ◌-◌, Bool, true, false, cond, not, List, [], ◌∷◌, ◌++◌, length, length-append, drop, ap, ◌∙◌, arith, ◌||◌}
use Rattle.std.specs.List.{after_last, suffix_len, prefix_len}
use Rattle.std.proofs.lemmas.List.{reverse-append, drop-append-le, drop_all}
use Rattle.vq_model.specs.declared.statement.Statement.{Statement}
use Rattle.vq_model.specs.declared.statement.Line.{Line}
use Rattle.std.proofs.lemmas.List.Sums.{sum_by-append, sum_by-cons, fold-append}
use Rattle.vq_model.specs.Context.{count, section, section_after, open_batch, is_submit, is_end, some}
use Rattle.vq_model.specs.Reading.{with_line}
use Rattle.std.proofs.lemmas.List.Folds.{list_any-append}
use Rattle.vq_model.specs.declared.statement.Section.TheVariants.{Outside}

-- what stands after the last element that passes, one element more
pub after_last_push : {X : Type 0} (p : X → Bool) (xs : List X) (y : X) →
    after_last p (xs ++ y ∷ []) ≡ cond (p y) [] (after_last p xs ++ y ∷ [])
after_last_push {X} p xs y =
    ap (λ (k : ℕ). drop (length (xs ++ y ∷ []) - k) (xs ++ y ∷ []))
    (ap (prefix_len (λ x. not (p x))) (reverse-append xs (y ∷ [])))
    ∙ by_test (p y)
  where
    by_test : (b : Bool) →
        drop (length (xs ++ y ∷ []) - cond (not b) (1 + suffix_len (λ x. not (p x)) xs) 0)
        (xs ++ y ∷ [])
        ≡ cond b [] (after_last p xs ++ y ∷ [])
    by_test true = drop_all (length (xs ++ y ∷ []) - 0) (xs ++ y ∷ []) (omega arith)
    by_test false =
        let l = length-append xs (y ∷ []) in
        let same : length (xs ++ y ∷ []) - (1 + suffix_len (λ x. not (p x)) xs)
        ≡ length xs - suffix_len (λ x. not (p x)) xs = omega arith in
        ap (λ (k : ℕ). drop k (xs ++ y ∷ [])) same
        ∙ drop-append-le (length xs - suffix_len (λ x. not (p x)) xs) xs (y ∷ []) (omega arith)

-- a statement as a line
abbrev pub a_line : ℕ → Statement → Line
a_line n s = record { number = n; statement = s }

-- how many lines are such statements
pub count_push : (test : Statement → Bool) (before : List Line) (n : ℕ) (s : Statement) →
    count test (with_line before n s) ≡ count test before + cond (test s) 1 0
count_push test before n s =
    let e = sum_by-append (λ (line : Line). cond (test line.statement) 1 0) before
    (a_line n s ∷ []) in
    let f = sum_by-cons (λ (line : Line). cond (test line.statement) 1 0) (a_line n s) [] in
    omega arith

module _ (before : List Line) (n : ℕ) (s : Statement) where
  -- the part of the text
  pub section_push : section (with_line before n s) ≡ section_after (section before) s
  section_push =
      fold-append (λ was (l : Line). section_after was l.statement) Outside before
      (a_line n s ∷ [])

  -- whether some line is such a statement
  pub some_push : (test : Statement → Bool) → some test (with_line before n s)
      ≡ (some test before || (test s || false))
  some_push test = list_any-append (λ (l : Line). test l.statement) before (a_line n s ∷ [])

  -- the lines of the open batch
  pub open_push : open_batch (with_line before n s)
      ≡ cond (is_submit s || is_end s) [] (open_batch before ++ a_line n s ∷ [])
  open_push =
      after_last_push (λ (l : Line). is_submit l.statement || is_end l.statement) before
      (a_line n s)

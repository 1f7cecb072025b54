-- The numbers of the lines of a trace that was read.
use Rattle.std.proofs.Common.{◌≡◌, ◌<◌, ◌+◌, ◌^◌, ℕ, zero, suc, Bool, true, false, List, [], ◌∷◌, Ok, Err, length, All, slice_index_or, subst, arith}
use Rattle.std.specs.Prelude.{if◌then◌else◌}
use Rattle.std.proofs.lemmas.List.Elements.{All-append, All-nil}
use Rattle.vq_model.specs.Plan.{Plan}
use Rattle.vq_model.specs.Text.{words_of, lines_of}
use Rattle.vq_given.specs.declared.given.GivenLine.{GivenLine}
use Rattle.vq_given.specs.declared.given.GivenTrace.{GivenTrace}
use Rattle.vq_given.specs.declared.given.TraceLine.{TraceLine}
use Rattle.vq_given.specs.declared.given.TraceLine.TheVariants.{Blank, Turn, End, Faulty}
use Rattle.vq_given.specs.Reading.{TurnsRead, follows, go_on, read_from, rest_from, rest_line, with_turn}
use Rattle.vq_given.specs.Words.{line_said}
use Rattle.vq_audit.specs.Audits.{WasRead}

abbrev IsBelow : ℕ → GivenLine → Type 0
IsBelow n given = given.line < n

below_more : (n m : ℕ) (given : List GivenLine) → n ≡ m → All (IsBelow n) given → All (IsBelow m) given
below_more n m given is all = subst (λ (k : ℕ). All (IsBelow k) given) is all

line_below : (n m : ℕ) (words : List (List ℕ)) → n < m → All (IsBelow m) (rest_line n words)
line_below n m [] l = All-nil (IsBelow m)
line_below n m (word ∷ words) l = λ k d h. one k d h
  where
    one : (k : ℕ) (d : GivenLine) → k < 1 → IsBelow m (slice_index_or (rest_line n (word ∷ words)) k d)
    one zero d h = l
    one (suc k) d h = absurd (omega arith)

rest_below : (n : ℕ) (lines : List (List ℕ)) → All (IsBelow (n + length lines)) (rest_from n lines)
rest_below n [] = All-nil (IsBelow (n + 0))
rest_below n (line ∷ lines) =
    All-append (IsBelow (n + suc (length lines))) (rest_line n (words_of line)) (rest_from (n + 1) lines)
    (line_below n (n + suc (length lines)) (words_of line) (omega arith))
    (below_more ((n + 1) + length lines) (n + suc (length lines)) (rest_from (n + 1) lines) (omega arith)
    (rest_below (n + 1) lines))

-- the end and the lines that follow it are below a number
pub record AreBelow (n : ℕ) (given : GivenTrace) : Type 0 where
  pub end : given.end_line < n
  pub rest : All (IsBelow n) given.rest

module _ (p : Plan) (given : GivenTrace) where
  read_below : (before : TurnsRead) (n : ℕ) (lines : List (List ℕ)) → read_from p before n lines ≡ Ok given →
      AreBelow (n + length lines) given
  read_below before n [] e = absurd (let no : Err n ≡ Ok given = e in cc)
  read_below before n (line ∷ lines) e =
      by_line (line_said p (words_of line)) (λ now f. go (read_below now (n + 1) lines f)) e
    where
      go : AreBelow ((n + 1) + length lines) given → AreBelow (n + suc (length lines)) given
      go b = let is : (n + 1) + length lines ≡ n + suc (length lines) = omega arith in subst (λ (k : ℕ). AreBelow k given) is b

      by_follows : (b : Bool) (now : TurnsRead) → (read_from p now (n + 1) lines ≡ Ok given → AreBelow (n + suc (length lines)) given) →
          (if b then read_from p now (n + 1) lines else Err n) ≡ Ok given → AreBelow (n + suc (length lines)) given
      by_follows true now f e = f e
      by_follows false now f e = absurd (let no : Err n ≡ Ok given = e in cc)

      by_line : (said : TraceLine) → ((now : TurnsRead) → read_from p now (n + 1) lines ≡ Ok given → AreBelow (n + suc (length lines)) given) →
          go_on before n lines (λ now. read_from p now (n + 1) lines) said ≡ Ok given → AreBelow (n + suc (length lines)) given
      by_line Blank f e = f before e
      by_line (Turn turn) f e = by_follows (follows before.last turn.number) (with_turn before n turn) (f (with_turn before n turn)) e
      by_line (End end) f e = ended
        where
          ended : AreBelow (n + suc (length lines)) given
          ended =
              let same_line : n ≡ given.end_line = cc in
              let same_rest : rest_from (n + 1) lines ≡ given.rest = cc in
              record {
                end = omega arith;
                rest = subst (λ (xs : List GivenLine). All (IsBelow (n + suc (length lines))) xs) same_rest
                    (below_more ((n + 1) + length lines) (n + suc (length lines)) (rest_from (n + 1) lines) (omega arith) (rest_below (n + 1) lines));
              }
      by_line Faulty f e = absurd (let no : Err n ≡ Ok given = e in cc)

  -- one more than the number of each line fits
  pub end_fits : WasRead p given → given.end_line + 1 < 2 ^ 32
  end_fits r = let b = (read_below _ r.first (lines_of r.text) r.read).end in let f = r.fits in omega arith

  pub rest_fits : WasRead p given → All (λ x. x.line + 1 < 2 ^ 32) given.rest
  rest_fits r = let b = (read_below _ r.first (lines_of r.text) r.read).rest in let f = r.fits in λ k d l. let s = b k d l in omega arith

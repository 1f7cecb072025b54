use Rattle.std.proofs.Common.{◌≡◌, ◌<◌, ◌≤◌, ◌+◌, ◌++◌, ◌/◌, ◌^◌, ◌∙◌, ℕ, List, OnOk, ap, append_assoc, arith, drop, length, length-drop, subst, sym}
use Rattle.std.specs.Int.Count.{count_trailing_zeros}
use Rattle.vq_model.specs.Text.{words_in}
use Rattle.vq_lexer.specs.Words.{AreBlanks, some_word, texts}
use Rattle.vq_lexer.proofs.Blanks.{drop_blanks, first_blank, words_last, words_next}
use Rattle.vq_lexer.proofs.words.cut_at_blanks.Goals as goal

pub front-requires : goal.front-requires
front-requires c =
    let some : 0 < c.loop-left.left = omega (arith, c.loop-left-test.true) in
    let found = first_blank c.loop-left.rest.now c.loop-left.left c.loop-left.invariant.blanks
    c.loop-left.invariant.short some in
    omega (arith, found)

pub behind-rest-requires : goal.behind-rest-requires
behind-rest-requires c =
    let some : 0 < c.loop-left.left = omega (arith, c.loop-left-test.true) in
    let found = first_blank c.loop-left.rest.now c.loop-left.left c.loop-left.invariant.blanks
    c.loop-left.invariant.short some in
    omega (arith, found)

pub overflow_shr-left : goal.overflow_shr-left
overflow_shr-left c =
    let some : 0 < c.loop-left.left = omega (arith, c.loop-left-test.true) in
    let short = c.loop-left.invariant.short in
    let found = first_blank c.loop-left.rest.now c.loop-left.left c.loop-left.invariant.blanks short some in
    omega (arith, found, short)

pub loop-left-preserved : goal.loop-left-preserved
loop-left-preserved c =
    let rest = c.loop-left.rest.now in
    let left = c.loop-left.left in
    let n = count_trailing_zeros 64 left in
    let some : 0 < left = omega (arith, c.loop-left-test.true) in
    let short = c.loop-left.invariant.short in
    let found = first_blank rest left c.loop-left.invariant.blanks short some in
    let old = texts c.loop-left.words.items in
    let fewer : length (drop (n + 1) rest) ≤ 32 = omega (arith, short, length-drop (n + 1) rest) in
    record {
      blanks = subst (λ (part : List ℕ). AreBlanks part (left / 2 ^ (n + 1))) (sym c.behind-rest.ensures)
          (drop_blanks (n + 1) rest left c.loop-left.invariant.blanks);
      short = subst (λ (part : List ℕ). length part ≤ 32) (sym c.behind-rest.ensures) fewer;
      words = (λ i. c.in_ok-push_word.ensures {u = tt} i ++ words_in (c.behind-rest.ensures i))
          ∙ append_assoc old (some_word c.front.result.now) (words_in (drop (n + 1) rest))
          ∙ ap (λ (word : List ℕ). old ++ (some_word word ++ words_in (drop (n + 1) rest))) c.front.ensures
          ∙ ap (λ (more : List (List ℕ)). old ++ more) (sym (words_next rest n found.0 found.1))
          ∙ c.loop-left.invariant.words;
    }

pub returns : goal.returns
returns c =
    let rest = c.loop-left.rest.now in
    let all = ap (λ (more : List (List ℕ)). texts c.loop-left.words.items ++ more)
    (sym (words_last rest c.loop-left.left c.loop-left.invariant.blanks c.loop-left-test.false))
    ∙ c.loop-left.invariant.words in
    subst (λ (words : List (List ℕ)). OnOk c.push_word-2.result (texts c.push_word-2.new.words.items ≡ words)) all
    c.push_word-2.ensures

use Rattle.std.proofs.Common.{◌≡◌, ◌<◌, ◌≤◌, ◌+◌, ◌++◌, ℕ, true, false, List, [], drop, get_or, length, arith, refl, sym, ap, ◌∙◌}
use Rattle.std.specs.Prelude.{◌&&◌}
use Rattle.std.specs.List.{list_all}
use Rattle.std.specs.Borrow.{Bor}
use Rattle.std.proofs.lemmas.Bool.Decides.{nat_tests}
use Rattle.std.proofs.lemmas.List.{append_assoc, length-drop}
use Rattle.vq_ground.proofs.Bools.{and_true}
use Rattle.vq_model.specs.Text.{is_blank, is_plain, without_comment, words_in}
use Rattle.vq_lexer.specs.Words.{some_word, texts}
use Rattle.vq_lexer.proofs.Blanks.{plain_of_simple, words_of_simple}
use Rattle.vq_lexer.proofs.PlainParts.{and_again, blank_plain, words_plain}
use Rattle.vq_lexer.proofs.WordsCut.{cut, cut_is, cut_blank, cut_common, cut_more, is_common, is_hash, no_hash, plain_common, plain_more, plain_end}
use Rattle.vq_lexer.proofs.words.find_words.Goals as goal

pub returns-in-Some-clause-words : goal.returns-in-Some-clause-words
returns-in-Some-clause-words c =
    c.in_ok-cut_at_blanks.ensures {u = tt}
    ∙ ap (λ (ws : List (Bor (List ℕ))). texts ws ++ words_in c.args.line.now) c.clear.ensures.items
    ∙ words_of_simple c.args.line.now c.in-Some.blanks c.in-Some.ensures.0

pub returns-in-Some-clause-plain : goal.returns-in-Some-clause-plain
returns-in-Some-clause-plain c = plain_of_simple c.args.line.now c.in-Some.blanks c.in-Some.ensures.0

pub loop-length-init : goal.loop-length-init
loop-length-init c = record {
  within = omega arith;
  small = omega arith;
  words = ap (λ (ws : List (Bor (List ℕ))). texts ws ++ cut [] c.args.line.now) c.clear.ensures.items
      ∙ cut_is [] c.args.line.now refl;
  plain = refl;
}

pub loop-length-preserved-then-is_common : goal.loop-length-preserved-then-is_common
loop-length-preserved-then-is_common c =
    let part = c.loop-length.part.now in
    let n = c.loop-length.length in
    let within : n < length part = grind (arith, nat_tests) in
    let common : is_common (get_or part n 0) ≡ true = sym c.if-is_common.ensures in
    record {
      within = omega (arith, within);
      small = c.loop-length.invariant.small;
      words = ap (λ (more : List (List ℕ)). texts c.loop-length.words.items ++ more)
          (sym (cut_common part n within common))
          ∙ c.loop-length.invariant.words;
      plain = ap (λ t. c.loop-length.plain && t) (sym (plain_common part n within common))
          ∙ c.loop-length.invariant.plain;
    }

pub loop-length-preserved-then-is_blank : goal.loop-length-preserved-then-is_blank
loop-length-preserved-then-is_blank c =
    let part = c.loop-length.part.now in
    let n = c.loop-length.length in
    let within : n < length part = grind (arith, nat_tests) in
    let hash : is_hash (get_or part n 0) ≡ false = no_hash _ c.if-byte-eq35.false in
    let blank : is_blank (get_or part n 0) ≡ true = sym c.if-is_blank.ensures in
    let old = texts c.loop-length.words.items in
    let fewer = length-drop (n + 1) part in
    let small = c.loop-length.invariant.small in
    let same = ap (λ (bs : List ℕ). length bs) c.behind-part.ensures in
    record {
      within = omega arith;
      small = omega (arith, fewer, same, small);
      words = (λ i. c.in_ok-push_word.ensures {u = tt} i ++ cut [] (c.behind-part.ensures i))
          ∙ append_assoc old (some_word c.front.result.now) (cut [] (drop (n + 1) part))
          ∙ ap (λ (word : List ℕ). old ++ (some_word word ++ cut [] (drop (n + 1) part))) c.front.ensures
          ∙ ap (λ (more : List (List ℕ)). old ++ more) (sym (cut_blank part n within hash blank))
          ∙ c.loop-length.invariant.words;
      plain = ap (λ (bs : List ℕ). c.loop-length.plain && list_all is_plain (without_comment bs)) c.behind-part.ensures
          ∙ ap (λ t. c.loop-length.plain && t) (sym (plain_more part n within hash
          ∙ ap (λ t. t && list_all is_plain (without_comment (drop (n + 1) part))) (blank_plain (get_or part n 0) blank)))
          ∙ c.loop-length.invariant.plain;
    }

pub loop-length-preserved : goal.loop-length-preserved
loop-length-preserved c =
    let part = c.loop-length.part.now in
    let n = c.loop-length.length in
    let within : n < length part = grind (arith, nat_tests) in
    let hash : is_hash (get_or part n 0) ≡ false = no_hash _ c.if-byte-eq35.false in
    let blank : is_blank (get_or part n 0) ≡ false = sym c.if-is_blank.ensures in
    let rest = list_all is_plain (without_comment (drop (n + 1) part)) in
    record {
      within = omega (arith, within);
      small = c.loop-length.invariant.small;
      words = ap (λ (more : List (List ℕ)). texts c.loop-length.words.items ++ more) (sym (cut_more part n within hash blank))
          ∙ c.loop-length.invariant.words;
      plain = (λ i. (c.loop-length.plain && c.is_plain-plain.ensures i) && rest)
          ∙ and_again c.loop-length.plain (is_plain (get_or part n 0)) rest
          ∙ ap (λ t. c.loop-length.plain && t) (sym (plain_more part n within hash))
          ∙ c.loop-length.invariant.plain;
    }

pub returns-clause-plain : goal.returns-clause-plain
returns-clause-plain c =
    let part = c.loop-length.part.now in
    let n = c.loop-length.length in
    let ended : length part ≤ n = grind (arith, nat_tests) in
    sym (and_true c.loop-length.plain)
    ∙ ap (λ t. c.loop-length.plain && t) (sym (plain_end part n ended))
    ∙ c.loop-length.invariant.plain
    ∙ sym (words_plain (without_comment c.args.line.now))

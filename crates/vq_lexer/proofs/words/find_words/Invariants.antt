use Rattle.std.proofs.Common.{◌≡◌, ◌++◌, ◌-◌, ◌<◌, ◌≤◌, ◌^◌, ◌&&◌, length, take, drop}
use Rattle.std.specs.List.{list_all}
use Rattle.vq_model.specs.Text.{is_plain, without_comment, words_of}
use Rattle.vq_lexer.specs.Words.{texts}
use Rattle.vq_lexer.proofs.WordsCut.{cut}
use Rattle.vq_lexer.proofs.words.find_words.Given as goal

abbrev pub invariant-loop-length : goal.invariant-loop-length
invariant-loop-length l = record {
  within : l.length ≤ length l.part;
  small : length l.part < 2 ^ 64;
  words : texts l.words.items ++ cut (take l.length l.part) (drop l.length l.part) ≡ words_of l.fn.line;
  plain : (l.plain && list_all is_plain (without_comment (drop l.length l.part)))
      ≡ list_all is_plain (without_comment l.fn.line);
}

abbrev pub decreases-loop-length : goal.decreases-loop-length
decreases-loop-length l = length l.part - l.length

use Rattle.std.proofs.Common.{◌≡◌, ◌<◌, take, true}
use Rattle.std.specs.Char.{digit_value}
use Rattle.std.specs.List.{list_all}
use Rattle.std.specs.Prelude.{nat_lt}
use Rattle.std.specs.Str.Parse.{digits_value}
use Rattle.vq_words.proofs.rounds.number_of_rounds.Given as goal

abbrev pub invariant-loop-byte : goal.invariant-loop-byte
invariant-loop-byte l = record {
  number : l.number ≡ digits_value 10 (take l.byte-index l.word);
  digits : list_all (λ b. nat_lt (digit_value b) 10) (take l.byte-index l.word) ≡ true;
  none : l.byte-index ≡ 0 → l.number ≡ 0;
  one : l.byte-index ≡ 1 → l.number < 10;
  two : l.byte-index ≡ 2 → l.number < 100;
  three : l.byte-index ≡ 3 → l.number < 1000;
}

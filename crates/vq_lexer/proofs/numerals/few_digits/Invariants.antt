use Rattle.std.proofs.Common.{◌≡◌, ◌<◌, ◌^◌, take, true}
use Rattle.std.specs.List.{list_all}
use Rattle.std.specs.Str.Parse.{digits_value}
use Rattle.std.specs.Char.{digit_value}
use Rattle.std.specs.Prelude.{nat_lt}
use Rattle.vq_lexer.proofs.numerals.few_digits.Given as goal

abbrev pub invariant-loop-byte : goal.invariant-loop-byte
invariant-loop-byte l = record {
  small : l.number < l.base ^ l.byte-index;
  number : l.number ≡ digits_value l.base (take l.byte-index l.digits);
  digits : list_all (λ b. nat_lt (digit_value b) l.base) (take l.byte-index l.digits) ≡ true;
}

use Rattle.std.proofs.Common.{◌≡◌, ℕ, ◌+◌, ◌<◌, length, get_or, slice_set, arith, sym, ◌∙◌, subst}
use Rattle.std.proofs.lemmas.List.{ext_get_or, length-set}
use Rattle.std.proofs.lemmas.List.Edits.{fill_by_more}
use Rattle.std.proofs.lemmas.Bool.Decides.{nat_tests}
use Rattle.vq_model.specs.Meaning.{hex_bytes}
use Rattle.vq_lexer.proofs.DigitsRead.{hex_length, hex_bytes_at}
use Rattle.vq_lexer.proofs.numerals.hex_bytes.Goals as goal

pub loop-place-preserved : goal.loop-place-preserved
loop-place-preserved c =
    let digits = c.args.digits.now in
    let bytes = c.loop-place.bytes.items in
    let place = c.loop-place.place in
    let room = c.loop-place.invariant.room in
    let within : place < length bytes = grind (arith, nat_tests) in
    let value = c.hex_byte.ensures ∙ sym (hex_bytes_at digits place (omega arith)) in
    record {
      room = length-set bytes place _ ∙ room;
      written = subst (λ byte. (k : ℕ) → k < place + 1 → get_or (slice_set bytes place byte) k 0 ≡ get_or (hex_bytes digits) k 0) (sym value)
          (fill_by_more (λ k. get_or (hex_bytes digits) k 0) bytes place 0 within c.loop-place.invariant.written);
    }

pub returns : goal.returns
returns c =
    ext_get_or 0 c.loop-place.bytes.items (hex_bytes c.args.digits.now) (c.loop-place.invariant.room ∙ sym (hex_length c.args.digits.now))
    (λ k l. c.loop-place.invariant.written k (grind (arith, nat_tests)))

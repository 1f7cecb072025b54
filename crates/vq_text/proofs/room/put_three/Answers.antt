use Rattle.std.proofs.Common.{◌++◌, ◌∷◌, [], ◌∙◌, ◌%◌, ◌+◌, List, ℕ, ap, arith}
use Rattle.vq_text.proofs.ShortNumerals.{digit_behind, one_more}
use Rattle.vq_text.proofs.room.put_three.Goals as goal

pub put_two-requires-2-clause-room : goal.put_two-requires-2-clause-room
put_two-requires-2-clause-room c =
    let few = c.requires.few in
    let more = one_more c.args.number (omega (arith, c.if-number-lt100.false)) (omega arith) in
    let room = c.requires.room in
    omega arith

pub put_digit-requires-clause-room : goal.put_digit-requires-clause-room
put_digit-requires-clause-room c =
    let few = c.requires.few in
    let more = one_more c.args.number (omega (arith, c.if-number-lt100.false)) (omega arith) in
    let room = c.requires.room in
    let length = c.put_two-2.ensures.len in
    let capacity = c.put_two-2.ensures.capacity in
    omega arith

pub returns-clause-items : goal.returns-clause-items
returns-clause-items c =
    c.put_digit.ensures.items
    ∙ (ap (λ (xs : List ℕ). xs ++ (48 + c.args.number % 10) ∷ []) c.put_two-2.ensures.items
    ∙ digit_behind c.args.out.now.items c.args.number (omega (arith, c.if-number-lt100.false)) c.requires.few)

pub returns-clause-len : goal.returns-clause-len
returns-clause-len c =
    let few = c.requires.few in
    let more = one_more c.args.number (omega (arith, c.if-number-lt100.false)) (omega arith) in
    let first = c.put_two-2.ensures.len in
    let second = c.put_digit.ensures.len in
    omega arith

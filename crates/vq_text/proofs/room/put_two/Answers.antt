use Rattle.std.proofs.Common.{◌++◌, ◌∷◌, [], ◌∙◌, ◌/◌, ◌%◌, ◌+◌, List, ℕ, ap, arith, sym}
use Rattle.std.proofs.lemmas.Fmt.{decimal_digit}
use Rattle.vq_text.proofs.ShortNumerals.{one_digit, one_more, two_behind}
use Rattle.vq_text.proofs.room.put_two.Goals as goal

pub put_digit-requires-clause-room : goal.put_digit-requires-clause-room
put_digit-requires-clause-room c =
    let one = one_digit c.args.number c.if-number-lt10.true in
    let room = c.requires.room in
    omega arith

pub returns-then-number-lt10-clause-items : goal.returns-then-number-lt10-clause-items
returns-then-number-lt10-clause-items c =
    c.put_digit.ensures.items
    ∙ ap (λ (xs : List ℕ). c.args.out.now.items ++ xs) (sym (decimal_digit c.args.number c.if-number-lt10.true))

pub returns-then-number-lt10-clause-len : goal.returns-then-number-lt10-clause-len
returns-then-number-lt10-clause-len c =
    let one = one_digit c.args.number c.if-number-lt10.true in
    let more = c.put_digit.ensures.len in
    omega arith

pub put_digit-requires-2-clause-room : goal.put_digit-requires-2-clause-room
put_digit-requires-2-clause-room c =
    let few = c.requires.few in
    let more = one_more c.args.number c.if-number-lt10.false (omega arith) in
    let one = one_digit (c.args.number / 10) (omega arith) in
    let room = c.requires.room in
    omega arith

pub put_digit-requires-3-clause-room : goal.put_digit-requires-3-clause-room
put_digit-requires-3-clause-room c =
    let few = c.requires.few in
    let more = one_more c.args.number c.if-number-lt10.false (omega arith) in
    let one = one_digit (c.args.number / 10) (omega arith) in
    let room = c.requires.room in
    let length = c.put_digit-2.ensures.len in
    let capacity = c.put_digit-2.ensures.capacity in
    omega arith

pub returns-clause-items : goal.returns-clause-items
returns-clause-items c =
    c.put_digit-3.ensures.items
    ∙ (ap (λ (xs : List ℕ). xs ++ (48 + c.args.number % 10) ∷ []) c.put_digit-2.ensures.items
    ∙ two_behind c.args.out.now.items c.args.number c.if-number-lt10.false c.requires.few)

pub returns-clause-len : goal.returns-clause-len
returns-clause-len c =
    let few = c.requires.few in
    let more = one_more c.args.number c.if-number-lt10.false (omega arith) in
    let one = one_digit (c.args.number / 10) (omega arith) in
    let first = c.put_digit-2.ensures.len in
    let second = c.put_digit-3.ensures.len in
    omega arith

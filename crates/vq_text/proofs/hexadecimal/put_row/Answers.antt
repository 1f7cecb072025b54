use Rattle.std.proofs.Common.{◌∷◌, ◌++◌, [], ◌∙◌, ◌≤◌, ap, length, arith, ℕ, List}
use Rattle.std.specs.List.{flat_map}
use Rattle.std.proofs.lemmas.List.{take_all}
use Rattle.vq_model.specs.OutputText.{hex_byte}
use Rattle.vq_text.proofs.hexadecimal.put_row.Goals as goal

pub returns-clause-items : goal.returns-clause-items
returns-clause-items c =
    let few : length c.args.bytes.now ≤ 16 = let whole = c.requires.whole in omega arith in
    c.put_bytes.ensures.items ∙ ap (λ (xs : List ℕ). c.args.out.now.items ++ (xs ++ 10 ∷ []))
    (c.write_digits.ensures ∙ ap (flat_map hex_byte) (take_all 16 c.args.bytes.now few))

use Rattle.std.proofs.Common.{◌≡◌, ◌*◌, ◌<◌, ◌∷◌, ◌++◌, [], ◌∙◌, ap, length, arith, replicate, ℕ, List}
use Rattle.std.proofs.lemmas.List.{get_or-replicate}
use Rattle.vq_text.proofs.HexLines.{front_and_end, length-digits}
use Rattle.vq_text.proofs.hexadecimal.put_line.Goals as goal

pub returns-clause-items : goal.returns-clause-items
returns-clause-items c =
    let digits = c.write_digits.new.digits in
    let n = 2 * length c.args.bytes.now in
    let short : n < 33 = let few = c.requires.short in omega arith in
    let size : length digits ≡ n = ap length c.write_digits.ensures
    ∙ length-digits c.args.bytes.now in
    c.put_bytes.ensures.items ∙ ap (λ (xs : List ℕ). c.args.out.now.items ++ xs)
    (front_and_end (replicate {A = ℕ} 33 10) digits n 10 size short
    (get_or-replicate {A = ℕ} 33 n 10 0 short)
    ∙ ap (λ ds. ds ++ 10 ∷ []) c.write_digits.ensures)

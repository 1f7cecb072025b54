use Rattle.std.proofs.Common.{◌≡◌, ◌+◌, ◌^◌, ◌∙◌, arith, eqb, length, ltb, map, refl, subst, sym, w8, ℕ}
use Rattle.std.specs.Prelude.{◌==◌, nat_lt}
use Rattle.std.specs.Simd.Lanes.{chunk, mask_l}
use Rattle.std.proofs.lemmas.Simd.{bitmask_splat, length-chunk}
use Rattle.vq_lexer.specs.Words.{AreBlanks}
use Rattle.vq_lexer.proofs.Blanks.{blanks_from_tests}
use Rattle.vq_lexer.proofs.words.blanks_of_8.Goals as goal

pub returns-then-plain-eq255 : goal.returns-then-plain-eq255
returns-then-plain-eq255 c =
    let bytes = chunk c.args.from 8 c.args.part.now in
    let long = length-chunk c.args.from 8 c.args.part.now c.requires in
    let low : mask_l (map (λ b. nat_lt b 36) bytes) ≡ mask_l (map (λ b. b == 32) bytes)
    = sym (bitmask_splat w8 ltb bytes 8 36 long (omega arith)) ∙ c.if-low-blanks.true
    ∙ bitmask_splat w8 eqb bytes 8 32 long (omega arith) in
    let plain : mask_l (map (λ b. nat_lt b 127) bytes) ≡ 255
    = sym (bitmask_splat w8 ltb bytes 8 127 long (omega arith)) ∙ c.if-plain-eq255.true in
    let full : mask_l (map (λ b. nat_lt b 127) bytes) + 1 ≡ 2 ^ length bytes = rw (plain, long) refl in
    subst (λ (m : ℕ). AreBlanks bytes m) (sym (bitmask_splat w8 eqb bytes 8 32 long (omega arith)))
    (blanks_from_tests bytes low full)

use Rattle.std.proofs.Common.{◌≡◌, ◌∙◌, ℕ, List, Bool, refl, true, false, get_or, length, sym, arith}
use Rattle.std.specs.Prelude.{◌==◌}
use Rattle.std.proofs.lemmas.Bool.{eqb-true, eq-eqb, true≢false}
use Rattle.vq_ground.specs.Lists.{has}
use Rattle.vq_ground.proofs.Tests.{not_below_test}
use Rattle.vq_capture_clocks.proofs.Leveled.{among_at, not_among}
use Rattle.vq_capture_clocks.proofs.levels.is_among.Goals as goal

pub returns-then-count-lines : goal.returns-then-count-lines
returns-then-count-lines c = by (get_or lines count 0 == line) refl
  where
    lines : List ℕ
    lines = c.args.lines.now

    line : ℕ
    line = c.args.line

    count : ℕ
    count = c.count_above-count.result

    by : (b : Bool) → (get_or lines count 0 == line) ≡ b → b ≡ has lines line
    by true e = sym (among_at lines line count c.count_above-count.ensures.within c.count_above-count.ensures.above c.count_above-count.ensures.behind c.if-count-lines.true (eqb-true (get_or lines count 0) line e))
    by false e = sym (not_among lines line count c.count_above-count.ensures.within c.count_above-count.ensures.above c.count_above-count.ensures.behind c.requires (λ l q. true≢false (sym (eq-eqb (get_or lines count 0) line q) ∙ e)))

pub returns-else-count-lines : goal.returns-else-count-lines
returns-else-count-lines c =
    not_below_test c.count_above-count.result (length c.args.lines.now) (omega (arith, c.if-count-lines.false))
    ∙ sym (not_among c.args.lines.now c.args.line c.count_above-count.result c.count_above-count.ensures.within c.count_above-count.ensures.above c.count_above-count.ensures.behind c.requires (λ l q. let f = c.if-count-lines.false in absurd (omega arith)))

use Rattle.std.proofs.Common.{◌∙◌, ℕ, ap, arith}
use Rattle.std.specs.Prelude.{nat_lt}
use Rattle.vq_capture_clocks.proofs.Leveled.{level_none, level_last}
use Rattle.vq_capture_clocks.proofs.levels.level_of.Goals as goal

pub returns-then-count-eq0 : goal.returns-then-count-eq0
returns-then-count-eq0 c =
    level_none c.args.lines.now c.args.line c.count_above-count.result c.count_above-count.ensures.within c.count_above-count.ensures.above c.count_above-count.ensures.behind c.args.next (omega (arith, c.if-next-line.false)) c.if-count-eq0.true

pub returns-in-Some : goal.returns-in-Some
returns-in-Some c l h =
    ap (λ (n : ℕ). nat_lt l n) c.in-Some.ensures.1
    ∙ level_last c.args.lines.now c.args.line c.count_above-count.result c.count_above-count.ensures.within c.count_above-count.ensures.above c.count_above-count.ensures.behind c.args.next (omega (arith, c.if-next-line.false)) c.requires (omega (arith, c.if-count-eq0.false)) l h

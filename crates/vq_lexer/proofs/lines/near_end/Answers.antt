use Rattle.std.proofs.Common.{arith, sym, subst, ◌<◌, length, ◌≡◌, ℕ}
use Rattle.std.specs.List.{position_or_len}
use Rattle.std.specs.Int.Count.{count_trailing_zeros}
use Rattle.vq_model.specs.Text.{is_line_feed}
use Rattle.vq_lexer.proofs.Marks.{first_marked}
use Rattle.vq_lexer.proofs.lines.near_end.Goals as goal

pub returns : goal.returns
returns c =
    let text = c.args.text.now in
    let is = c.line_feeds-feeds.ensures in
    let some : 0 < c.line_feeds-feeds.result = omega (arith, c.if-feeds-eq0.false) in
    let found = first_marked is_line_feed text 32 (omega arith) (omega arith) (subst (λ m. 0 < m) is some) in
    subst (λ (m : ℕ). (count_trailing_zeros 64 m < length text)
    × (count_trailing_zeros 64 m ≡ position_or_len is_line_feed text)) (sym is)
    (omega (arith, found), sym found.1)

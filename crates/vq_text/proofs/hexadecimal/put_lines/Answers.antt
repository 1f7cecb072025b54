use Rattle.std.proofs.Common.{◌≡◌, ◌<◌, ◌≤◌, ◌+◌, ◌*◌, ◌/◌, ◌++◌, ◌∙◌, ℕ, List, min, length, ap, arith, vec_capacity}
use Rattle.std.specs.List.{flat_map, range_with_len}
use Rattle.vq_model.specs.OutputText.{hex_line, hex_lines}
use Rattle.vq_text.proofs.HexLines.{hex_lines_more, line_room, row_room}
use Rattle.vq_text.proofs.hexadecimal.put_lines.Goals as goal

-- what the loop keeps, at its end
at_end : (bytes old now : List ℕ) (row : ℕ) → row ≡ length bytes / 16 →
    now ≡ old ++ flat_map (hex_line bytes) (range_with_len 0 row) →
    now ≡ old ++ flat_map (hex_line bytes) (range_with_len 0 (length bytes / 16))
at_end bytes old now row e is =
    is ∙ ap (λ (k : ℕ). old ++ flat_map (hex_line bytes) (range_with_len 0 k)) e

-- a line for the rest is the last one
with_rest : (bytes old new : List ℕ) → 16 * (length bytes / 16) < length bytes →
    new ≡ old ++ flat_map (hex_line bytes) (range_with_len 0 (length bytes / 16 + 1)) →
    new ≡ old ++ hex_lines bytes
with_rest bytes old new rest is =
    let all : length bytes / 16 + 1 ≡ (length bytes + 15) / 16 = omega arith in
    is ∙ ap (λ (k : ℕ). old ++ flat_map (hex_line bytes) (range_with_len 0 k)) all

pub put_row-requires-clause-room : goal.put_row-requires-clause-room
put_row-requires-clause-room c =
    let before = c.args.out.now.ok.0 in
    let now = c.loop-row.out.ok.0 in
    let given = c.requires in
    let room : length c.args.out.now.items + length (hex_lines c.args.bytes.now) ≤ vec_capacity c.args.out.now =
    omega arith in
    let left = row_room c.args.bytes.now c.args.out.now.items c.loop-row.out.items c.loop-row.row
    (vec_capacity c.args.out.now) c.loop-row.invariant.0 c.loop-row-test.true room in
    let kept = c.loop-row.invariant.1 in
    omega arith

pub loop-row-preserved : goal.loop-row-preserved
loop-row-preserved c =
    let test = c.loop-row-test.true in
    let end : 16 * c.loop-row.row + 16 ≡ min (length c.args.bytes.now) (16 * c.loop-row.row + 16) = omega arith in
    let more = c.put_row.ensures.capacity in
    let kept = c.loop-row.invariant.1 in (
      hex_lines_more _ c.args.bytes.now c.loop-row.out.items _ c.loop-row.row (16 * c.loop-row.row + 16)
          c.loop-row.invariant.0 end c.put_row.ensures.items,
      omega arith,
    )

pub put_line-requires-clause-room : goal.put_line-requires-clause-room
put_line-requires-clause-room c =
    let bytes = c.args.bytes.now in
    let past = c.loop-row-test.false in
    let within = c.loop-row.auto.row-end in
    let rest = c.if-whole-bytes.true in
    let at : c.loop-row.row ≡ length bytes / 16 = omega arith in
    let before = c.args.out.now.ok.0 in
    let now = c.loop-row.out.ok.0 in
    let given = c.requires in
    let room : length c.args.out.now.items + length (hex_lines bytes) ≤ vec_capacity c.args.out.now = omega arith in
    let left = line_room bytes c.args.out.now.items c.loop-row.out.items (length bytes / 16) (length bytes)
    (vec_capacity c.args.out.now)
    (at_end bytes c.args.out.now.items c.loop-row.out.items c.loop-row.row at c.loop-row.invariant.0)
    (omega arith) (omega arith) room in
    let kept = c.loop-row.invariant.1 in
    omega arith

pub returns-then-whole-bytes-clause-items : goal.returns-then-whole-bytes-clause-items
returns-then-whole-bytes-clause-items c =
    let bytes = c.args.bytes.now in
    let past = c.loop-row-test.false in
    let within = c.loop-row.auto.row-end in
    let rest = c.if-whole-bytes.true in
    let at : c.loop-row.row ≡ length bytes / 16 = omega arith in
    let end : length bytes ≡ min (length bytes) (16 * (length bytes / 16) + 16) = omega arith in
    with_rest bytes c.args.out.now.items c.put_line.new.out.items rest
    (hex_lines_more c.args.out.now.items bytes c.loop-row.out.items c.put_line.new.out.items (length bytes / 16)
    (length bytes)
    (at_end bytes c.args.out.now.items c.loop-row.out.items c.loop-row.row at c.loop-row.invariant.0)
    end c.put_line.ensures.items)

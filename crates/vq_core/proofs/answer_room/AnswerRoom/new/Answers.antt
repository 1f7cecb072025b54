use Rattle.std.proofs.Common.{◌≤◌, ◌∙◌, arith}
use Rattle.std.specs.Vec.{vec_capacity}
use Rattle.vq_core.proofs.AnswersKept.{room_for}
use Rattle.vq_core.proofs.answer_room.AnswerRoom.new.Goals as goal

pub invariant_of-result : goal.invariant_of-result
invariant_of-result c =
    let fits : c.jobs.result ≤ vec_capacity c.in_ok-lines.lines =
    (let a = c.in_ok-lines.ensures.capacity in let b = c.jobs.ensures in let d = c.jobs-2.ensures in omega arith) in
    (room_for c.jobs.result (vec_capacity c.in_ok-lines.lines) c.in_ok-given.given.items c.in_ok-lines.lines.items
    (c.in_ok-given.ensures {u = tt}) c.in_ok-lines.ensures.items fits).1

pub returns : goal.returns
returns c =
    let fits : c.jobs.result ≤ vec_capacity c.in_ok-lines.lines =
    (let a = c.in_ok-lines.ensures.capacity in let b = c.jobs.ensures in let d = c.jobs-2.ensures in omega arith) in
    (room_for c.jobs.result (vec_capacity c.in_ok-lines.lines) c.in_ok-given.given.items c.in_ok-lines.lines.items
    (c.in_ok-given.ensures {u = tt}) c.in_ok-lines.ensures.items fits).0 ∙ c.jobs.ensures

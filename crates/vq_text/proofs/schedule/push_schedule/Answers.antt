use Rattle.vq_text.proofs.PrintedLines.{on_ok, schedule_added}
use Rattle.vq_text.proofs.schedule.push_schedule.Goals as goal

pub returns-in_ok-extend_from_slice : goal.returns-in_ok-extend_from_slice
returns-in_ok-extend_from_slice c =
    on_ok c.push_all_turns.result c.push_all_turns.ensures
    (schedule_added c.args.script.now (c.if-script.true) _ c.as_slice.ensures
    c.args.out.now.items _ _ (c.in_ok-extend_from_slice.ensures {u = tt}).items)

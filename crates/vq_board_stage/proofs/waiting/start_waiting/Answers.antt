use Rattle.std.proofs.Common.{◌≡◌, refl, sym, subst, inl, inr, rules}
use Rattle.vq_point.specs.Word.{bits_of}
use Rattle.vq_board_laws.specs.declared.view.Fact.{Fact}
use Rattle.vq_board_laws.specs.declared.view.Fact.TheVariants.{Job, Made}
use Rattle.vq_board_laws.specs.declared.view.JobState.TheVariants.{Released}
use Rattle.vq_board_laws.specs.declared.view.View.{View}
use Rattle.vq_board_laws.specs.Knowledge.{Knows}
use Rattle.vq_board.specs.Named.{plan_of, view}
use Rattle.vq_board_stage.proofs.Waits.{signaled_word, look_shows, look_keeps, may_start}
use Rattle.vq_board_stage.proofs.waiting.start_waiting.Goals as goal

pub start-requires-clause-may : goal.start-requires-clause-may
start-requires-clause-may c =
    let at_first = view c.job_state.new.pass in
    let between = view c.look.new.pass in
    let at_last = view c.look-2.new.pass in
    let released : Knows at_first.known (Job 2 Released) = search rules in
    let found_first : c.look.result ≡ signaled_word 0 = search rules in
    let found_second : c.look-2.result ≡ signaled_word 1 = search rules in
    let first = look_shows at_first between _ c.look.result (signaled_word 0) (Made 0) c.look.ensures.pass.2 found_first (inl refl) in
    let second = look_shows between at_last _ c.look-2.result (signaled_word 1) (Made 1) c.look-2.ensures.pass.2 found_second (inl refl) in
    let still_released = look_keeps at_first between _ (bits_of c.look.result) (Job 2 Released) c.look.ensures.pass.2 released in
    let keeps = λ (f : Fact). look_keeps between at_last _ (bits_of c.look-2.result) f c.look-2.ensures.pass.2 in
    may_start (plan_of c.args.board.now) c.requires.plan at_last (search rules) (search rules) (search rules) (keeps (Job 2 Released) still_released) (keeps (Made 0) first) second

pub returns : goal.returns
returns c = λ _.
    let at_first = view c.job_state.new.pass in
    let between = view c.look.new.pass in
    let at_last = view c.look-2.new.pass in
    let found_first : c.look.result ≡ signaled_word 0 = search rules in
    let found_second : c.look-2.result ≡ signaled_word 1 = search rules in
    let first = look_shows at_first between _ c.look.result (signaled_word 0) (Made 0) c.look.ensures.pass.2 found_first (inl refl) in
    let second = look_shows between at_last _ c.look-2.result (signaled_word 1) (Made 1) c.look-2.ensures.pass.2 found_second (inl refl) in
    let still_first = look_keeps between at_last _ (bits_of c.look-2.result) (Made 0) c.look-2.ensures.pass.2 first in
    record {
      board = search rules;
      runs = search rules;
      entered = search rules;
      signaled = search rules;
      turnless = search rules;
      refs = search rules;
      first_made = subst (λ (v : View). Knows v.known (Made 0)) (sym c.start.ensures.pass.2) (inr still_first);
      second_made = subst (λ (v : View). Knows v.known (Made 1)) (sym c.start.ensures.pass.2) (inr second);
    }

use Rattle.std.proofs.Common.{◌≡◌, ℕ, List, ◌++◌, ◌∷◌, [], Some, rules}
use Rattle.vq_model.specs.Text.{words_of}
use Rattle.vq_capture.specs.Reading.{Leaves, take_words}
use Rattle.vq_capture_reader.specs.Lines.{above_of, added_of, Adds, step_and_lines}
use Rattle.vq_capture_judge.proofs.Cited.{one_added}
use Rattle.vq_capture_memory_judge.specs.ToldSteps.{told_of}
use Rattle.vq_capture_memory_judge.proofs.ToldLists.{grew, pushed}
use Rattle.vq_capture_memory_judge.proofs.reading.take_line.Goals as goal

pub returns-in_ok-push-in-Some-take_added : goal.returns-in_ok-push-in-Some-take_added
returns-in_ok-push-in-Some-take_added c =
    let above = above_of c.args.reader.now in
    let now = above_of c.take_added.new.self in
    let added = c.in-Some-take_added.added in
    let lines : List ℕ = added.released.items in
    let takes : take_words above c.args.line (words_of c.args.text.now) ≡ Leaves now = search rules in
    let adds : Adds (added_of c.take.new.self) above.steps now.steps = search rules in
    let is : added_of c.take.new.self ≡ Some (added.step, lines) = search rules in
    let items : c.push.new.self.items ≡ c.args.steps.now.items ++ added ∷ [] = search rules in
    let more = pushed c.args.steps.now.items c.push.new.self.items added items in
    (takes, λ before. grew (told_of c.args.steps.now.items) (told_of c.push.new.self.items) above.steps now.steps added.step lines (one_added (added_of c.take.new.self) above.steps now.steps added.step lines is adds) more before)

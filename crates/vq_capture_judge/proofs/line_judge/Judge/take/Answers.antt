use Rattle.std.proofs.Common.{◌≡◌, ◌∙◌, ◌+◌, ℕ, List, Option, Some, None, IfOk, sym, ap, subst, rules}
use Rattle.vq_capture.specs.declared.capture.Verdict.{Verdict}
use Rattle.vq_capture.specs.Reading.{Leaves, take_words}
use Rattle.vq_model.specs.Text.{words_of}
use Rattle.vq_capture_check.specs.Watching.{ToldStep}
use Rattle.vq_capture_reader.specs.Lines.{above_of, added_of, Adds}
use Rattle.vq_capture_judge.specs.Judging.{Came, with_told}
use Rattle.vq_capture_judge.specs.Judges.{came_of, judging_of}
use Rattle.vq_capture_judge.proofs.ToldLines.{none_added, one_added, line_without, line_with, went}
use Rattle.vq_capture_judge.proofs.line_judge.Judge.take.Goals as goal

pub returns-in-Some-take_added : goal.returns-in-Some-take_added
returns-in-Some-take_added c =
    let j = judging_of c.args.self.now in
    let now = above_of c.take_added.new.self in
    let s = c.in-Some-take_added.added.step in
    let lines : List ℕ = c.in-Some-take_added.added.released.items in
    let follows : c.in-Some.next ≡ j.line + 1 = search rules in
    let takes : take_words j.above j.line (words_of c.args.text.now) ≡ Leaves now = search rules in
    let adds : Adds (added_of c.take.new.self) j.above.steps now.steps = search rules in
    let is : added_of c.take.new.self ≡ Some (s, lines) = search rules in
    let told : record { step = s; released = lines } ≡ c.new.result = search rules in
    subst (λ (w : Came). IfOk c.check.result (λ (v : Option Verdict). came_of v (judging_of c.check.new.self) ≡ w))
    (ap (λ (t : ToldStep). with_told (went j now c.in-Some.next c.args.text.now follows takes) t) (sym told)
    ∙ line_with j now c.in-Some.next c.args.text.now follows takes s lines (one_added (added_of c.take.new.self) j.above.steps now.steps s lines is adds))
    c.check.ensures

pub returns-in-None : goal.returns-in-None
returns-in-None c =
    let j = judging_of c.args.self.now in
    let now = above_of c.take_added.new.self in
    let follows : c.in-Some.next ≡ j.line + 1 = search rules in
    let takes : take_words j.above j.line (words_of c.args.text.now) ≡ Leaves now = search rules in
    let adds : Adds (added_of c.take.new.self) j.above.steps now.steps = search rules in
    let is : added_of c.take.new.self ≡ None = search rules in
    line_without j now c.in-Some.next c.args.text.now follows takes (none_added (added_of c.take.new.self) j.above.steps now.steps is adds)

use Rattle.std.proofs.Common.{◌≡◌, ◌∙◌, ◌+◌, ℕ, Bool, true, false, List, sym, ap, subst, rules}
use Rattle.vq_capture.specs.declared.capture.Step.{Step}
use Rattle.vq_capture.specs.Context.{Above}
use Rattle.vq_capture.specs.Reading.{read_capture, read_lines, ended_lines}
use Rattle.vq_capture_reader.specs.Lines.{above_of}
use Rattle.vq_capture_memory_judge.specs.ToldSteps.{TookLine, told_all, told_of}
use Rattle.vq_capture_memory_judge.proofs.ReadLines.{at_fault, goes_on}
use Rattle.vq_capture_memory_judge.proofs.reading.read_steps.Goals as goal

pub returns-then-not-branch : goal.returns-then-not-branch
returns-then-not-branch c =
    let above = above_of c.loop-part.reader in
    let ends : c.in_ok-take_line.field-0 ≡ false = search rules in
    let took : TookLine false c.loop-part.line c.in-Some.part.now above (above_of c.take_line.new.reader) (told_of c.loop-part.steps.items) (told_of c.take_line.new.steps.items) =
    subst (λ (b : Bool). TookLine b c.loop-part.line c.in-Some.part.now above (above_of c.take_line.new.reader) (told_of c.loop-part.steps.items) (told_of c.take_line.new.steps.items)) ends c.in_ok-take_line.ensures in
    took.1
    ∙ (c.loop-part.invariant.0
    ∙ ap (λ (l : List Step). told_all l) (sym (at_fault above c.loop-part.line (read_capture c.args.text.now) c.loop-part.rest.now c.loop-part.invariant.1 c.in-Some.part.now c.in-Some.behind.now c.in-Some.ensures.0 took.0.0 took.0.1)))

pub loop-part-preserved : goal.loop-part-preserved
loop-part-preserved c =
    let above = above_of c.loop-part.reader in
    let now = above_of c.take_line.new.reader in
    let goes : c.in_ok-take_line.field-0 ≡ true = search rules in
    let took : TookLine true c.loop-part.line c.in-Some.part.now above now (told_of c.loop-part.steps.items) (told_of c.take_line.new.steps.items) =
    subst (λ (b : Bool). TookLine b c.loop-part.line c.in-Some.part.now above now (told_of c.loop-part.steps.items) (told_of c.take_line.new.steps.items)) goes c.in_ok-take_line.ensures in
    let next : c.in-Some-checked_add.next ≡ c.loop-part.line + 1 = search rules in (
      took.1 c.loop-part.invariant.0,
      ap (λ (n : ℕ). read_lines now n (ended_lines c.in-Some.behind.now)) next
          ∙ goes_on above c.loop-part.line (read_capture c.args.text.now) c.loop-part.rest.now c.loop-part.invariant.1 c.in-Some.part.now c.in-Some.behind.now c.in-Some.ensures.0 now took.0,
    )

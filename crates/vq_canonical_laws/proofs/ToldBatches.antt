-- The batch of lines, as it is told.
use Rattle.std.proofs.Common.{◌≡◌, List, [], ◌∷◌, map, Option, Some, None, option_map, refl, ◌∙◌, ℕ, ap}
use Rattle.std.specs.List.{filter_map, cons_option}
use Rattle.vq_model.specs.declared.statement.Statement.{Statement}
use Rattle.vq_model.specs.declared.statement.Line.{Line}
use Rattle.vq_canonical_laws.proofs.ScriptParts.{statements_in, wait_in, command_in, signal_in, fence_in, a_batch}
use Rattle.vq_model.specs.declared.statement.Statement.TheVariants.{AddWait, AddCommand, AddSignal, AddFence}
use Rattle.vq_model.specs.ScriptOfLines.{wait_of, command_of, signal_of, fence_of, first_of_list, batch_of}
use Rattle.vq_model.specs.SameScript.{mark_without_line, command_without_line, job_without_lines}
use Rattle.vq_reading_laws.proofs.Cited.{a_line}
use Rattle.vq_model.specs.declared.script.Mark.{Mark}
use Rattle.vq_model.specs.declared.script.Job.TheVariants.{Batch as BatchJob}

-- The batch of lines, as it is told

-- what lines add to a batch is what their statements add
filtered : {A : Type 0} (f : Line → Option A) (g : A → A) (h : Statement → Option A) →
    ((l : Line) → option_map g (f l) ≡ h l.statement) → (lines : List Line) →
    map g (filter_map f lines) ≡ filter_map h (statements_in lines)
filtered f g h e [] = refl
filtered {A} f g h e (l ∷ lines) =
    by_item (f l) ∙ (λ i. cons_option (e l i) (filtered f g h e lines i))
  where
    by_item : (o : Option A) → map g (cons_option o (filter_map f lines))
        ≡ cons_option (option_map g o) (map g (filter_map f lines))
    by_item None = refl
    by_item (Some x) = refl

wait_told : (n : ℕ) (s : Statement) → option_map mark_without_line (wait_of (a_line n s)) ≡ wait_in s
wait_told n (AddWait pair from) = refl
wait_told n s = refl

command_told : (n : ℕ) (s : Statement) →
    option_map command_without_line (command_of (a_line n s)) ≡ command_in s
command_told n (AddCommand c) = refl
command_told n s = refl

signal_told : (n : ℕ) (s : Statement) →
    option_map mark_without_line (signal_of (a_line n s)) ≡ signal_in s
signal_told n (AddSignal pair) = refl
signal_told n s = refl

fence_told : (n : ℕ) (s : Statement) →
    option_map mark_without_line (fence_of (a_line n s)) ≡ fence_in s
fence_told n (AddFence f) = refl
fence_told n s = refl

first_same : (ms : List Mark) → option_map mark_without_line (first_of_list ms)
    ≡ first_of_list (map mark_without_line ms)
first_same [] = refl
first_same (m ∷ ms) = refl

-- the batch of lines
pub job_told : (n q : ℕ) (lines : List Line) → job_without_lines (BatchJob (batch_of n q lines))
    ≡ a_batch (q, statements_in lines)
job_told n q lines = λ i.
    BatchJob (
    record {
      line = 0;
      queue = q;
      waits = filtered wait_of mark_without_line wait_in (λ l. wait_told l.number l.statement) lines i;
      commands =
          filtered command_of command_without_line command_in
          (λ l. command_told l.number l.statement) lines i;
      signals =
          filtered signal_of mark_without_line signal_in (λ l. signal_told l.number l.statement)
          lines i;
      fence =
          (first_same (filter_map fence_of lines)
          ∙ ap (λ (ms : List Mark). first_of_list ms)
          (filtered fence_of mark_without_line fence_in (λ l. fence_told l.number l.statement)
          lines)) i;
    }
    )

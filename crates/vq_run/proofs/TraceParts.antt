-- The script and the trace of an input that is cut.
use Rattle.std.proofs.Common.{◌≡◌, ◌≤◌, ◌<◌, ◌+◌, ◌++◌, ◌^◌, ℕ, Bool, true, false, List, length, take, drop, ◌-◌, refl, sym, ap, subst, arith}
use Rattle.std.specs.Prelude.{MatchBool, Result, Ok}
use Rattle.std.proofs.lemmas.List.{length-append, length-drop}
use Rattle.std.proofs.Math.Seq.{take-length}
use Rattle.vq_model.specs.Plan.{Plan}
use Rattle.vq_model.specs.Text.{lines_of}
use Rattle.vq_reading_laws.proofs.Cited.{few_lines}
use Rattle.vq_given.specs.declared.given.Cut.{Cut}
use Rattle.vq_given.specs.declared.given.GivenTrace.{GivenTrace}
use Rattle.vq_given.specs.Cutting.{IsCut}
use Rattle.vq_given.specs.Reading.{read_trace}
use Rattle.vq_audit.specs.Audits.{WasRead}
use Rattle.vq_messages.specs.Refused.{input_limit}
use Rattle.vq_words.specs.declared.task.Task.{Task}
use Rattle.vq_run.specs.Traced.{IsTraceRead}
use Rattle.vq_run.specs.Inputs.{IsScriptText}
use Rattle.vq_run.specs.Tasks.{row_of}

abbrev IsPart : List ℕ → List ℕ → Bool → Type 0
IsPart input text reads = MatchBool reads ((cut : Cut) × IsCut input cut × (text ≡ take cut.script_end input)) (text ≡ input)

-- without a trace the whole input is the script
pub whole_script : (task : Task) (input : List ℕ) → (row_of task).reads_trace ≡ false → IsScriptText task input input
whole_script task input e = subst (IsPart input input) (sym e) refl

-- with one it is what stands before the line that cuts
pub script_before : (task : Task) (input : List ℕ) (cut : Cut) → (row_of task).reads_trace ≡ true → IsCut input cut →
    IsScriptText task input (take cut.script_end input)
script_before task input cut e is = subst (IsPart input (take cut.script_end input)) (sym e) (cut, is, refl)

module _ (input : List ℕ) (cut : Cut) (is : IsCut input cut) where
  sizes : length input ≡ length is.script + length is.line + length is.trace
  sizes =
      let whole : length input ≡ length (is.script ++ is.line ++ is.trace) = ap length is.parts in
      omega (arith, length-append (is.script ++ is.line) is.trace, length-append is.script is.line)

  pub script_within : cut.script_end ≤ length input
  script_within = let s = sizes in let e = is.script_end in omega arith

  pub trace_within : cut.trace_start ≤ length input
  trace_within = let s = sizes in let e = is.trace_start in omega arith

  -- the numbers of the lines of the trace fit
  pub lines_fit : length input ≤ input_limit → cut.first + length (lines_of (drop cut.trace_start input)) < 2 ^ 32
  lines_fit short =
      let s = sizes in
      let first = is.first in
      let before = few_lines is.script in
      let behind = few_lines (drop cut.trace_start input) in
      let size = length-drop cut.trace_start input in
      omega arith

  -- what was read of it
  pub trace_read : (p : Plan) (found : Result GivenTrace ℕ) → read_trace p cut.first (drop cut.trace_start input) ≡ found →
      IsTraceRead input p found
  trace_read p found e = record { cut = cut; is_cut = is; read = e }

  pub was_read : (p : Plan) (given : GivenTrace) → length input ≤ input_limit →
      read_trace p cut.first (drop cut.trace_start input) ≡ Ok given → WasRead p given
  was_read p given short e =
      record { first = cut.first; text = drop cut.trace_start input; read = e; fits = lines_fit short }

  -- a slice up to the end is all that stands behind its beginning
  pub behind : take (length input - cut.trace_start) (drop cut.trace_start input) ≡ drop cut.trace_start input
  behind =
      subst (λ (n : ℕ). take n (drop cut.trace_start input) ≡ drop cut.trace_start input) (length-drop cut.trace_start input)
      (take-length (drop cut.trace_start input))

  pub lines_fit_behind : length input ≤ input_limit →
      cut.first + length (lines_of (take (length input - cut.trace_start) (drop cut.trace_start input))) < 2 ^ 32
  lines_fit_behind short =
      subst (λ (t : List ℕ). cut.first + length (lines_of t) < 2 ^ 32) (sym behind) (lines_fit short)

  -- what was read of the slice, for the plan
  pub read_behind : (p q : Plan) (found : Result GivenTrace ℕ) → q ≡ p →
      read_trace q cut.first (take (length input - cut.trace_start) (drop cut.trace_start input)) ≡ found →
      read_trace p cut.first (drop cut.trace_start input) ≡ found
  read_behind p q found same e =
      subst (λ (r : Plan). read_trace r cut.first (drop cut.trace_start input) ≡ found) same
      (subst (λ (t : List ℕ). read_trace q cut.first t ≡ found) behind e)

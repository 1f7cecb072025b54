-- What the lines above a line leave: the names that are declared, the host thread that goes on, and the open batch.
-- The format is this project's own.
use Rattle.std.specs.Prelude.{ℕ, Bool, List, [], find, filter, not, Option, None}
use Rattle.std.specs.Prelude.{is_some}
use Rattle.std.specs.Str.{bytes_eq}
use Rattle.std.specs.Option.{option_map_or}
use Rattle.vq_capture.specs.declared.statement.Kind.{Kind}
use Rattle.vq_capture.specs.declared.capture.Step.{Step}

-- A name that is declared: its kind, and the line of its declaration, which is what other lines mean by it.
pub record Named : Type 0 where
  pub name : List ℕ
  pub kind : Kind
  pub line : ℕ

-- An open batch: its queue, the part that its last line belongs to, and the line behind which its last command begins.
pub record Opened : Type 0 where
  pub queue : ℕ
  pub part : ℕ
  pub command : ℕ

-- The lines above: what they say, in order; the names; the host thread that goes on, by the line that named it first,
-- or 0 where none was named; and the open batch.
pub record Above : Type 0 where
  pub steps : List Step
  pub names : List Named
  pub thread : ℕ
  pub batch : Option Opened

abbrev pub nothing_above : Above
nothing_above = record { steps = []; names = []; thread = 0; batch = None }

-- what a name stands for
abbrev pub named : List Named → List ℕ → Option Named
named names word = find (λ n. bytes_eq n.name word) names

-- the line that declared a name, 0 where none did
abbrev pub declared_at : List Named → List ℕ → ℕ
declared_at names word = option_map_or (λ n. n.line) (named names word) 0

-- the names without one
abbrev pub without_name : List Named → List ℕ → List Named
without_name names word = filter (λ n. not (bytes_eq n.name word)) names

abbrev pub is_in_batch : Above → Bool
is_in_batch above = is_some above.batch

-- Sets of stages, and what is logically earlier or later.
-- Vulkan 1.3, "Pipeline Stages" and "Execution and Memory Dependencies".
use Rattle.std.specs.Prelude.{ℕ, Bool, true, false, ◌||◌, ◌&&◌, ◌==◌}
use Rattle.vq_capture.specs.declared.stage.Stage.{Stage}
use Rattle.vq_capture.specs.declared.stage.Stage.TheVariants.{Begin, Indirect, Input, Vertex, Early, Fragment, Late}
use Rattle.vq_capture.specs.declared.stage.Stage.TheVariants.{Color, Compute, Copy, Host, Other, End}
use Rattle.vq_capture.specs.declared.stage.StageMask.{StageMask}

-- whether a stage is in a set
abbrev pub has_stage : StageMask → Stage → Bool
has_stage m Begin = m.begin
has_stage m Indirect = m.indirect
has_stage m Input = m.input
has_stage m Vertex = m.vertex
has_stage m Early = m.early
has_stage m Fragment = m.fragment
has_stage m Late = m.late
has_stage m Color = m.color
has_stage m Compute = m.compute
has_stage m Copy = m.copy
has_stage m Host = m.host
has_stage m Other = m.other
has_stage m End = m.end

abbrev pub no_stage : StageMask
no_stage = record {
  begin = false;
  indirect = false;
  input = false;
  vertex = false;
  early = false;
  fragment = false;
  late = false;
  color = false;
  compute = false;
  copy = false;
  host = false;
  other = false;
  end = false;
}

abbrev pub all_stages : StageMask
all_stages = record {
  begin = true;
  indirect = true;
  input = true;
  vertex = true;
  early = true;
  fragment = true;
  late = true;
  color = true;
  compute = true;
  copy = true;
  host = true;
  other = true;
  end = true;
}

-- the stages at which a command may access: those with a word
abbrev pub word_stages : StageMask
word_stages = record all_stages { begin = false; end = false }

-- a set with one stage more
abbrev pub with_stage : StageMask → Stage → StageMask
with_stage m Begin = record m { begin = true }
with_stage m Indirect = record m { indirect = true }
with_stage m Input = record m { input = true }
with_stage m Vertex = record m { vertex = true }
with_stage m Early = record m { early = true }
with_stage m Fragment = record m { fragment = true }
with_stage m Late = record m { late = true }
with_stage m Color = record m { color = true }
with_stage m Compute = record m { compute = true }
with_stage m Copy = record m { copy = true }
with_stage m Host = record m { host = true }
with_stage m Other = record m { other = true }
with_stage m End = record m { end = true }

-- the set of one stage
abbrev pub at_stage : Stage → StageMask
at_stage s = with_stage no_stage s

-- whether some stage is in both
abbrev pub meets : StageMask → StageMask → Bool
meets a b =
    (a.begin && b.begin) || (a.indirect && b.indirect) || (a.input && b.input) || (a.vertex && b.vertex)
    || (a.early && b.early) || (a.fragment && b.fragment) || (a.late && b.late) || (a.color && b.color)
    || (a.compute && b.compute) || (a.copy && b.copy) || (a.host && b.host) || (a.other && b.other)
    || (a.end && b.end)

-- The logical order

-- The stages of a set, those that are logically earlier than one of them, and the beginning. The stages from
-- `indirect` to `color` follow one another, and `compute` follows `indirect`.
abbrev pub earlier : StageMask → StageMask
earlier m = record {
  begin = true;
  indirect =
      m.indirect || m.input || m.vertex || m.early || m.fragment || m.late || m.color || m.compute;
  input = m.input || m.vertex || m.early || m.fragment || m.late || m.color;
  vertex = m.vertex || m.early || m.fragment || m.late || m.color;
  early = m.early || m.fragment || m.late || m.color;
  fragment = m.fragment || m.late || m.color;
  late = m.late || m.color;
  color = m.color;
  compute = m.compute;
  copy = m.copy;
  host = m.host;
  other = m.other;
  end = m.end;
}

-- The stages of a set, those that are logically later than one of them, and the end.
abbrev pub later : StageMask → StageMask
later m = record {
  begin = m.begin;
  indirect = m.indirect;
  input = m.indirect || m.input;
  vertex = m.indirect || m.input || m.vertex;
  early = m.indirect || m.input || m.vertex || m.early;
  fragment = m.indirect || m.input || m.vertex || m.early || m.fragment;
  late = m.indirect || m.input || m.vertex || m.early || m.fragment || m.late;
  color = m.indirect || m.input || m.vertex || m.early || m.fragment || m.late || m.color;
  compute = m.indirect || m.compute;
  copy = m.copy;
  host = m.host;
  other = m.other;
  end = true;
}

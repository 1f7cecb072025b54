-- What names stand for.
use Rattle.std.specs.Prelude.{ℕ, List, Option}
use Rattle.std.specs.Ordering.{nat_cmp}
use Rattle.std.specs.Cmp.Lexicographic.{slice_cmp}
use Rattle.std.specs.BTreeMap.{get_by}
use Rattle.vq_trace.specs.declared.names.Names.{Names}

-- the number of a name
abbrev pub named : Names → List ℕ → Option ℕ
named names name = get_by (λ k. slice_cmp nat_cmp name k.items) names.numbers

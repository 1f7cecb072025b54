-- The names that were declared, and a map that has what they stand for.
use Rattle.std.specs.Prelude.{ℕ, List, [], ◌≡◌, Option}
use Rattle.std.specs.Option.{option_map}
use Rattle.std.specs.Ordering.{nat_cmp}
use Rattle.std.specs.Cmp.Lexicographic.{slice_cmp}
use Rattle.std.specs.BTreeMap.{BTreeMap, get_by}
use Rattle.std.specs.Global.{Vec}
use Rattle.vq_capture.specs.Context.{Named, named, without_name}
use Rattle.vq_capture.specs.Statements.{with_name}
use Rattle.vq_capture_reader.specs.declared.past_names.Thing.{Thing}
use Rattle.vq_capture_reader.specs.declared.past_names.PastNames.{PastNames, NoNames, Declared', Ended'}
use Rattle.vq_capture_reader.specs.Things.{thing_of}

-- the names that were declared and haven't ended, in order
abbrev pub past_names : PastNames → List Named
past_names NoNames = []
past_names (Declared' shape before name thing) = with_name thing.kind thing.line name.value.items (past_names before)
past_names (Ended' shape before name) = without_name (past_names before) name.value.items

-- what a map has at some bytes
abbrev pub thing_in : BTreeMap (Vec ℕ) Thing → List ℕ → Option Thing
thing_in map word = get_by (λ k. slice_cmp nat_cmp word k.items) map

-- a map has at each word what it stands for among some names
abbrev pub StandsFor : BTreeMap (Vec ℕ) Thing → List Named → Type 0
StandsFor map names = (word : List ℕ) → thing_in map word ≡ option_map thing_of (named names word)

-- What an index has.
use Rattle.std.specs.Prelude.{List}
use Rattle.std.specs.BTreeMap.{values}
use Rattle.vq_capture_touched.specs.declared.index.TouchIndex.{TouchIndex}
use Rattle.vq_capture_touched.specs.declared.touch.Touch.{Touch}

-- the accesses in an index, in the order in which they were added
abbrev pub touches_of : TouchIndex → List Touch
touches_of index = values index.touches

-- The names that a table has.
use Rattle.std.specs.Prelude.{List}
use Rattle.vq_capture.specs.Context.{Named}
use Rattle.vq_capture_reader.specs.NameMaps.{past_names}
use Rattle.vq_capture_reader.specs.declared.names.Names.{Names}

abbrev pub names_of : Names → List Named
names_of names = past_names names.past.value

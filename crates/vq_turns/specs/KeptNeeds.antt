-- The needs of a wait, by how they are kept. This project's own.
use Rattle.std.specs.Prelude.{List, [], ◌∷◌}
use Rattle.vq_model.specs.declared.plan.Need.{Need}
use Rattle.vq_turns.specs.declared.needs.Kept.{Kept}
use Rattle.vq_turns.specs.declared.needs.Kept.TheVariants.{One, Listed}

abbrev pub needs_kept : Kept → List Need
needs_kept (One line chain from value) = record { line = line; chain = chain; value = value; from = from } ∷ []
needs_kept (Listed list) = list.value

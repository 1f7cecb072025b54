use Rattle.std.proofs.Common.{inl, refl, subst, sym}
use Rattle.vq_board_laws.specs.declared.view.Fact.TheVariants.{Past}
use Rattle.vq_board_laws.specs.declared.view.View.{View}
use Rattle.vq_board_laws.specs.Knowledge.{Knows, KnowsMade.completed}
use Rattle.vq_board_example.proofs.seeing.see.Goals as goal

pub returns-in-Past-clause-made : goal.returns-in-Past-clause-made
returns-in-Past-clause-made g c = λ _. completed (subst (λ (v : View). Knows v.known (Past 0)) (sym c.in-Past.ensures.pass.2) (inl refl))

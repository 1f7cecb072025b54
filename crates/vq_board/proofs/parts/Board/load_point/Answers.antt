use Rattle.std.proofs.Common.{◌++◌, arith, ap, sym, refl, subst, ◌∙◌}
use Rattle.vq_model.specs.Plan.{Plan}
use Rattle.vq_board_laws.specs.Knowledge.{KnowsMade}
use Rattle.vq_board_laws.specs.PointSteps.{point_facts, moved_on, sees, saw}
use Rattle.vq_board_laws.proofs.Cited.{loads_at, looks_at_point}
use Rattle.vq_board.specs.Firsts.{AreCounted}
use Rattle.vq_board.specs.Hands.{InHand}
use Rattle.vq_board.specs.Named.{view}
use Rattle.vq_board.proofs.Firsts.{firsts_more}
use Rattle.vq_board.proofs.StepAt.{loaded_step}
use Rattle.vq_board.proofs.parts.Board.load_point.Goals as goal

pub load-requires : goal.load-requires
load-requires c = (c.requires.board.0, omega (arith, c.point_word.ensures, c.args.self.now.sized, c.requires.exists), loads_at _ _ _ _ saw _ _ c.point_word.ensures (looks_at_point _ _ _ _ _ c.args.self.now.laws))

pub invariant_of-pass : goal.invariant_of-pass
invariant_of-pass c =
    let told = (c.load.ensures.2.0 c.args.point c.point_word.ensures).0 in
    record { running = c.args.pass.now.running ∙ sym (ap (λ m. m.0.runs) told); hand = subst InHand (sym told) c.args.pass.now.hand; firsts = subst (AreCounted c.args.pass.now.first_made.items) (sym told) (firsts_more _ (point_facts c.load.result ++ moved_on c.args.point c.load.result c.args.pass.now.seat.me.0.known) _ _ c.args.pass.now.firsts) }

pub returns-clause-pass : goal.returns-clause-pass
returns-clause-pass c = (c.load.ensures.0, refl, ap (λ m. m.0) (c.load.ensures.2.0 c.args.point c.point_word.ensures).0, refl)

pub returns-clause-word : goal.returns-clause-word
returns-clause-word c = (c.load.ensures.2.0 c.args.point c.point_word.ensures).1

pub returns-clause-referred : goal.returns-clause-referred
returns-clause-referred c = (c.load.ensures.2.0 c.args.point c.point_word.ensures).2

pub returns-clause-carried : goal.returns-clause-carried
returns-clause-carried c = (c.load.ensures.2.0 c.args.point c.point_word.ensures).3

pub returns-clause-unmade : goal.returns-clause-unmade
returns-clause-unmade c = λ e carries clear known.
    let told = c.load.ensures.2.0 c.args.point c.point_word.ensures in
    told.4 e carries clear (subst (λ (p : Plan). KnowsMade p (sees (view c.args.pass.now) c.args.point c.load.result).known e) (sym c.requires.board.1) (subst (λ m. KnowsMade c.args.self.now.table.shared.key m.0.known e) told.0 known))

pub returns-clause-step : goal.returns-clause-step
returns-clause-step c = loaded_step _ _ _ _ _ _ _ _ _ c.requires.board.1 c.point_word.ensures refl refl c.load.ensures.2.1

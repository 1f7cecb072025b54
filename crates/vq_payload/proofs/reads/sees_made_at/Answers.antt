use Rattle.std.proofs.Common.{◌≡◌, ◌∙◌, true, sym, subst}
use Rattle.vq_point.specs.Word.{bits_of}
use Rattle.vq_board_laws.specs.declared.view.View.{View}
use Rattle.vq_board.specs.Firsts.{shows_made}
use Rattle.vq_board.specs.Named.{view}
use Rattle.vq_payload.specs.Reading.{ShowsNext}
use Rattle.vq_payload.proofs.Growing.{learned_look}
use Rattle.vq_payload.proofs.Looking.{shows_it_made, shows_it_unmade}
use Rattle.vq_payload.proofs.reads.sees_made_at.Goals as goal

pub returns-clause-pass : goal.returns-clause-pass
returns-clause-pass c = learned_look c.args.pass.now c.look.new.pass c.args.point (bits_of c.look.result) _ c.look.ensures.pass

pub returns-clause-made : goal.returns-clause-made
returns-clause-made c = λ made.
    subst (λ (w : View). shows_made w.known c.args.op ≡ true) (sym c.look.ensures.pass.2)
    (shows_it_made (view c.args.pass.now) c.args.point (bits_of c.look.result) c.args.op c.look.result c.look.ensures.parts (sym c.shows.ensures ∙ made) c.requires.bound)

pub returns-clause-shown : goal.returns-clause-shown
returns-clause-shown c = λ unmade.
    subst (λ (w : View). ShowsNext (view c.args.pass.now) w c.args.op) (sym c.look.ensures.pass.2)
    (shows_it_unmade (view c.args.pass.now) c.args.point (bits_of c.look.result) c.args.op c.look.result c.look.ensures.parts (sym c.shows.ensures ∙ unmade))

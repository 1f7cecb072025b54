use Rattle.std.proofs.Common.{◌++◌, ◌∷◌, ◌∙◌, [], ℕ, List, refl, sym, subst}
use Rattle.vq_capture_check.specs.Alike.{TellsAsked}
use Rattle.vq_capture_check.specs.Clocks.{says}
use Rattle.vq_capture_check.specs.Least.{least_in}
use Rattle.vq_capture_check.specs.Watches.{kept_of}
use Rattle.vq_capture_check.proofs.PrunedClocks.{related_pushed}
use Rattle.vq_capture_check.proofs.kept.keep_on.Goals as goal

pub returns-clause-same : goal.returns-clause-same
returns-clause-same c before same m =
    let least : ℕ → ℕ = least_in c.args.least.now in
    let touched : List ℕ = c.args.touched.now in
    let next : ℕ = c.args.next in
    let clock : TellsAsked least touched next (says c.level.new.clock.items) (says c.args.kept.clock.items) =
    (λ line lane l h. c.level.ensures line lane h ∙ c.clear.ensures line lane l) in
    subst (λ (f : ℕ → ℕ). TellsAsked least touched next f (kept_of (before ++ c.args.kept ∷ []) m)) (sym (c.in_ok-put.ensures m))
    (related_pushed (λ f g. TellsAsked least touched next f g) c.args.lines.now.items before c.args.kept _ same clock refl m)

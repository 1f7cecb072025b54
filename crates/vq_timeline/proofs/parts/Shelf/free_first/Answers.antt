use Rattle.std.proofs.Common.{ℕ, List, sym, ap, ◌∙◌}
use Rattle.vq_ground.specs.Lists.{has}
use Rattle.vq_board.specs.Named.{plan_of, view}
use Rattle.vq_timeline_laws.specs.Waiting.{FindsFree, FindsAllInUse}
use Rattle.std.proofs.Common.{subst, refl}
use Rattle.vq_timeline_laws.proofs.Cited.{may_retire, waiting_below}
use Rattle.vq_timeline.proofs.Freed.{waits, freed_shelf, looked_shelf}
use Rattle.vq_timeline.proofs.parts.Shelf.free_first.Goals as goal

pub retire_one-requires-clause-below : goal.retire_one-requires-clause-below
retire_one-requires-clause-below c = λ q h.
    let x = c.args.self.now in
    waiting_below (plan_of c.args.board.now) x.chain x.core (view x.pass) c.requires.shelf.1.kept q
    (sym (ap (λ (qs : List ℕ). has qs q) c.waiting_free.ensures) ∙ h)

pub retire_one-requires-clause-may : goal.retire_one-requires-clause-may
retire_one-requires-clause-may c = λ q h.
    let x = c.args.self.now in
    may_retire (plan_of c.args.board.now) x.chain x.core (view x.pass) c.requires.shelf.1.kept q
    (sym (ap (λ (qs : List ℕ). has qs q) c.waiting_free.ensures) ∙ h)

pub returns-in_err-point-clause-shelf : goal.returns-in_err-point-clause-shelf
returns-in_err-point-clause-shelf c =
    let x = c.args.self.now in
    looked_shelf c.args.board.now x c.requires.shelf c.retire_one.new.pass c.retire_one.ensures.own
    (subst (λ (qs : List ℕ). FindsAllInUse qs (view x.pass) (view c.retire_one.new.pass)) c.waiting_free.ensures
    (c.in_err-point.ensures.in_use refl))

pub free-requires : goal.free-requires
free-requires c =
    let x = c.args.self.now in
    ap (λ (qs : List ℕ). has qs c.in_ok-point.point) (sym c.waiting_free.ensures)
    ∙ waits c.waiting_free.result.now (view x.pass) (view c.retire_one.new.pass) c.in_ok-point.point
    c.in_ok-point.ensures.freed

pub returns-clause-shelf : goal.returns-clause-shelf
returns-clause-shelf c =
    let x = c.args.self.now in
    let q = c.in_ok-point.point in
    let freed = subst (λ (qs : List ℕ). FindsFree qs (view x.pass) (view c.retire_one.new.pass) q)
    c.waiting_free.ensures c.in_ok-point.ensures.freed in
    let waits_for = waits x.core.waiting (view x.pass) (view c.retire_one.new.pass) q freed in
    freed_shelf c.args.board.now x c.requires.shelf c.retire_one.new.pass c.retire_one.ensures.own q c.free.new.self
    freed c.free.ensures.after c.free.ensures.kept
    (c.calls_lose_no_point.ensures.free x.core q c.requires.shelf.1.kept.kept waits_for)

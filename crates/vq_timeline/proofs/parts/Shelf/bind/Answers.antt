use Rattle.std.proofs.Common.{◌≡◌, Bool, List, option_map, refl, sym, ap, ◌∙◌, arith, inl, eq-eqb}
use Rattle.std.specs.List.{slice_index_or}
use Rattle.vq_model.specs.declared.plan.Op.{Op}
use Rattle.vq_model.specs.Plan.{chain}
use Rattle.vq_model.proofs.Plans.{op_within}
use Rattle.vq_core_laws.proofs.Cited.{facts}
use Rattle.vq_board.specs.Named.{plan_of, view}
use Rattle.vq_timeline_laws.specs.Calls.{may_bind}
use Rattle.vq_timeline_laws.proofs.Cited.{held_below, index_is, place_at}
use Rattle.vq_timeline.proofs.Bound as bound
use Rattle.vq_timeline.proofs.Shared.{host_at, within_values}
use Rattle.vq_timeline.proofs.parts.Shelf.bind.Goals as goal

pub place_of-place-requires : goal.place_of-place-requires
place_of-place-requires c =
    within_values c.args.board.now c.args.self.now c.requires.shelf c.op-found.result c.args.op c.op-found.ensures
    c.requires.op

pub job_state-seen-requires-clause-exists : goal.job_state-seen-requires-clause-exists
job_state-seen-requires-clause-exists c =
    let k = c.requires.shelf.1.kept in
    let f = facts (plan_of c.args.board.now) k.plan k.lawful in
    f.lanes.job_exists c.args.op c.op-found.result.job (ap (option_map (λ (o : Op). o.job)) c.op-found.ensures)

pub returns-then-not-may_bind-clause-refused : goal.returns-then-not-may_bind-clause-refused
returns-then-not-may_bind-clause-refused c =
    let p = plan_of c.args.board.now in
    let x = c.args.self.now in
    let s = c.requires.shelf in
    let o = c.op-found.result in
    let is = c.op-found.ensures in
    let f = facts p s.1.kept.plan s.1.kept.lawful in
    let at = place_at p f x.chain c.args.op o is c.requires.op in
    let next = c.bound-next.ensures in
    let same = c.if-next-found.false in
    let host = c.index.ensures
    ∙ ap (λ (bs : List Bool). slice_index_or bs o.index c.index.result.now) s.1.hosts
    ∙ host_at p (chain p x.chain) o.index c.args.op c.index.result.now at in
    let number : x.core.bound ≡ o.index = omega arith in (
      (c.in-Taken.point, bound.place_is c.args.board.now x s o c.args.op is c.requires.op ∙ sym c.in-Taken.ensures.answer),
      number ∙ sym (index_is p c.args.op o is),
      ap (λ (b : Bool). may_bind b c.job_state-seen.result) (sym host) ∙ sym c.may_bind.ensures ∙ c.if-not-may_bind.true,
      bound.looked_state c.args.board.now x s o c.args.op is c.requires.op c.job_state-seen.result
          c.job_state-seen.new.pass c.job_state-seen.ensures.pass,
    )

pub bind-requires-clause-exists : goal.bind-requires-clause-exists
bind-requires-clause-exists c = op_within (plan_of c.args.board.now) c.args.op c.args.self.now.chain c.requires.op

pub bind-requires-clause-may : goal.bind-requires-clause-may
bind-requires-clause-may c =
    let p = plan_of c.args.board.now in
    let x = c.args.self.now in
    let s = c.requires.shelf in
    let o = c.op-found.result in
    let is = c.op-found.ensures in
    let f = facts p s.1.kept.plan s.1.kept.lawful in
    let at = place_at p f x.chain c.args.op o is c.requires.op in
    let next = c.bound-next.ensures in
    let same = c.if-next-found.false in
    let host = c.index.ensures
    ∙ ap (λ (bs : List Bool). slice_index_or bs o.index c.index.result.now) s.1.hosts
    ∙ host_at p (chain p x.chain) o.index c.args.op c.index.result.now at in
    let number : x.core.bound ≡ o.index = omega arith in
    let point = (c.in-Taken.ensures.taken c.in-Taken.point refl).taken in
    let far = ap (λ (b : Bool). may_bind b c.job_state-seen.result) (sym host) ∙ sym c.may_bind.ensures
    ∙ c.if-not-may_bind.false in
    bound.may c.args.board.now x s o c.args.op is c.requires.op c.job_state-seen.result c.job_state-seen.new.pass
    c.job_state-seen.ensures.pass c.in-Taken.point number point far

pub returns-clause-shelf : goal.returns-clause-shelf
returns-clause-shelf c =
    let p = plan_of c.args.board.now in
    let x = c.args.self.now in
    let s = c.requires.shelf in
    let o = c.op-found.result in
    let is = c.op-found.ensures in
    let f = facts p s.1.kept.plan s.1.kept.lawful in
    let at = place_at p f x.chain c.args.op o is c.requires.op in
    let next = c.bound-next.ensures in
    let same = c.if-next-found.false in
    let host = c.index.ensures
    ∙ ap (λ (bs : List Bool). slice_index_or bs o.index c.index.result.now) s.1.hosts
    ∙ host_at p (chain p x.chain) o.index c.args.op c.index.result.now at in
    let number : x.core.bound ≡ o.index = omega arith in
    let may_take = c.in-Taken.ensures.taken c.in-Taken.point refl in
    let far = ap (λ (b : Bool). may_bind b c.job_state-seen.result) (sym host) ∙ sym c.may_bind.ensures
    ∙ c.if-not-may_bind.false in
    bound.bound_shelf c.args.board.now x s o c.args.op is c.requires.op c.job_state-seen.result
    c.job_state-seen.new.pass c.job_state-seen.ensures.pass c.in-Taken.point number may_take.taken far c.bind.new.pass
    c.bind.ensures.pass c.bind-2.new.self c.in-Ok.ensures.ok c.bind-2.ensures.kept
    (c.calls_lose_no_point.ensures.bind x.core o.index c.in-Taken.point s.1.kept.kept may_take
    (eq-eqb o.index x.core.bound (sym number)))

pub returns-clause-bound : goal.returns-clause-bound
returns-clause-bound c =
    let p = plan_of c.args.board.now in
    let x = c.args.self.now in
    let s = c.requires.shelf in
    let o = c.op-found.result in
    let is = c.op-found.ensures in
    let f = facts p s.1.kept.plan s.1.kept.lawful in
    let at = place_at p f x.chain c.args.op o is c.requires.op in
    let next = c.bound-next.ensures in
    let same = c.if-next-found.false in
    let host = c.index.ensures
    ∙ ap (λ (bs : List Bool). slice_index_or bs o.index c.index.result.now) s.1.hosts
    ∙ host_at p (chain p x.chain) o.index c.args.op c.index.result.now at in
    let number : x.core.bound ≡ o.index = omega arith in
    let may_take = c.in-Taken.ensures.taken c.in-Taken.point refl in
    let far = ap (λ (b : Bool). may_bind b c.job_state-seen.result) (sym host) ∙ sym c.may_bind.ensures
    ∙ c.if-not-may_bind.false in
    bound.has_bound c.args.board.now x s o c.args.op is c.requires.op c.job_state-seen.result
    c.job_state-seen.new.pass c.job_state-seen.ensures.pass c.in-Taken.point number may_take.taken far c.bind.new.pass
    c.bind.ensures.pass c.bind-2.new.self c.in-Ok.ensures.ok (sym c.in-Taken.ensures.answer)

pub returns-clause-below : goal.returns-clause-below
returns-clause-below c =
    let x = c.args.self.now in
    let k = c.requires.shelf.1.kept in
    let next = c.bound-next.ensures in
    let same = c.if-next-found.false in
    let order = k.kept.in_order in
    held_below (plan_of c.args.board.now) x.chain x.core (view x.pass) k c.op-found.result.index c.in-Taken.point
    ((c.in-Taken.ensures.taken c.in-Taken.point refl).taken, inl (omega arith))

use Rattle.std.proofs.Common.{ℕ, ◌≤◌, inl, inr, sym, ◌∙◌, subst, arith}
use Rattle.std.proofs.lemmas.Bool.{false≢true, cases_eq}
use Rattle.vq_order.specs.Accessed.{access_in, RaceBy}
use Rattle.vq_order.proofs.AccessLaws.{access_at, job_in_order, job_stays, own_job}
use Rattle.vq_order.proofs.races.first_racing.Goals as goal

pub loop-c-init : goal.loop-c-init
loop-c-init c = (
  (λ a l r. absurd (omega arith)),
  own_job c.args.order.now c.args.accesses.now c.args.d,
)

pub are_in_order-requires-clause-first : goal.are_in_order-requires-clause-first
are_in_order-requires-clause-first c =
    let l = c.requires.exists in
    let m = c.loop-c-test.true in
    (access_at c.args.order.now c.args.accesses.now c.requires.accesses c.loop-c.c (omega arith)).of_job

pub are_in_order-requires-clause-second : goal.are_in_order-requires-clause-second
are_in_order-requires-clause-second c = (access_at c.args.order.now c.args.accesses.now c.requires.accesses c.args.d c.requires.exists).of_job

pub returns-then-not-are_in_order : goal.returns-then-not-are_in_order
returns-then-not-are_in_order c = (
  c.loop-c-test.true,
  record {
    conflict = sym c.conflict.ensures ∙ c.if-not-conflict.false;
    apart = λ o. false≢true (sym c.if-not-are_in_order.true ∙ c.are_in_order.ensures.1 o);
  },
  c.loop-c.invariant.0,
)

pub loop-c-preserved-then-other-in_order : goal.loop-c-preserved-then-other-in_order
loop-c-preserved-then-other-in_order c =
    let p = c.args.order.now in
    let xs = c.args.accesses.now in
    let here = c.loop-c.c in
    let d = c.args.d in (
      (λ a k r. elim (cases_eq a here) [
        | inl q ↦ (subst (λ (z : ℕ). RaceBy p (access_in xs z) (access_in xs d)) q r).apart (c.loop-c.invariant.1 here (let w : here ≤ here = omega arith in w) c.loop-c-test.true c.if-other-in_order.true)
        | inr x ↦ c.loop-c.invariant.0 a (grind arith) r
      ]),
      job_stays p xs c.loop-c.in_order here d c.loop-c.invariant.1,
    )

pub loop-c-preserved-then-not-conflict : goal.loop-c-preserved-then-not-conflict
loop-c-preserved-then-not-conflict c =
    let p = c.args.order.now in
    let xs = c.args.accesses.now in
    let here = c.loop-c.c in
    let d = c.args.d in (
      (λ a k r. elim (cases_eq a here) [
        | inl q ↦ false≢true (sym c.if-not-conflict.true ∙ (c.conflict.ensures ∙ (subst (λ (z : ℕ). RaceBy p (access_in xs z) (access_in xs d)) q r).conflict))
        | inr x ↦ c.loop-c.invariant.0 a (grind arith) r
      ]),
      job_stays p xs c.loop-c.in_order here d c.loop-c.invariant.1,
    )

pub loop-c-preserved : goal.loop-c-preserved
loop-c-preserved c =
    let p = c.args.order.now in
    let xs = c.args.accesses.now in
    let here = c.loop-c.c in
    let d = c.args.d in
    let plan = c.requires.accesses.plan in
    let o = c.are_in_order.ensures.0 c.if-not-are_in_order.false in (
      (λ a k r. elim (cases_eq a here) [
        | inl q ↦ (subst (λ (z : ℕ). RaceBy p (access_in xs z) (access_in xs d)) q r).apart o
        | inr x ↦ c.loop-c.invariant.0 a (grind arith) r
      ]),
      job_in_order p plan xs c.requires.accesses here d c.loop-c-test.true c.requires.exists o,
    )

use Rattle.std.proofs.Common.{◌∙◌, sym, subst}
use Rattle.std.proofs.lemmas.Result.{err_from_is_err_and}
use Rattle.vq_model.specs.Checks.{IsFenceBusyAt, IsLawful, IsNotPendingAt}
use Rattle.vq_order.specs.Unreached.{IsLeastOrNone}
use Rattle.vq_order.proofs.CheckLaws.{busy_first, fault_is, lawful_plan, pending_first, race_first}
use Rattle.vq_order.proofs.checking.check.Goals as goal

pub returns-in_err-order : goal.returns-in_err-order
returns-in_err-order c =
    let p = err_from_is_err_and c.from_residual.result c.from_residual.ensures.1 in
    rw (p.1, p.2) (fault_is c.args.plan c.in_err-order.field-0.0 c.in_err-order.ensures)

pub returns-in-Some-2 : goal.returns-in-Some-2
returns-in-Some-2 c =
    let k = c.in_ok-order.ensures in
    busy_first c.args.plan c.in_ok-order.order k.0 k.1 c.in_default.ensures c.in-Some-2.line
    (subst (IsLeastOrNone (IsFenceBusyAt c.in_ok-order.order)) c.in-Some-2.is c.in_ok-line.ensures)

pub returns-in-Some-first_not_pending : goal.returns-in-Some-first_not_pending
returns-in-Some-first_not_pending c =
    let o = c.in_ok-order.order in
    let k = c.in_ok-order.ensures in
    let b = subst (IsLeastOrNone (IsFenceBusyAt o)) c.in_default-2.is c.in_ok-line.ensures in
    pending_first c.args.plan o k.0 k.1 c.in_default.ensures b c.in-Some-first_not_pending.line
    (subst (IsLeastOrNone (IsNotPendingAt o)) c.in-Some-first_not_pending.is c.first_not_pending.ensures)

pub returns-in-Some-3 : goal.returns-in-Some-3
returns-in-Some-3 c =
    let o = c.in_ok-order.order in
    let k = c.in_ok-order.ensures in
    let b = subst (IsLeastOrNone (IsFenceBusyAt o)) c.in_default-2.is c.in_ok-line.ensures in
    let n = subst (IsLeastOrNone (IsNotPendingAt o)) c.in_default-first_not_pending.is c.first_not_pending.ensures in
    race_first c.args.plan o k.0 k.1 c.in_default.ensures b n c.in_ok-first.field-0 c.in_ok-first.ensures c.in-Some-3.field-0 c.in-Some-3.is

pub of-requires : goal.of-requires
of-requires c =
    let o = c.in_ok-order.order in
    let k = c.in_ok-order.ensures in
    let b = subst (IsLeastOrNone (IsFenceBusyAt o)) c.in_default-2.is c.in_ok-line.ensures in
    let n = subst (IsLeastOrNone (IsNotPendingAt o)) c.in_default-first_not_pending.is c.first_not_pending.ensures in
    subst IsLawful (sym k.0) (lawful_plan c.args.plan o k.0 k.1 c.in_default.ensures b n c.in_ok-first.field-0 c.in_ok-first.ensures c.in_default-3.is)

pub returns : goal.returns
returns c =
    let o = c.in_ok-order.order in
    let k = c.in_ok-order.ensures in
    let b = subst (IsLeastOrNone (IsFenceBusyAt o)) c.in_default-2.is c.in_ok-line.ensures in
    let n = subst (IsLeastOrNone (IsNotPendingAt o)) c.in_default-first_not_pending.is c.first_not_pending.ensures in
    (c.of.ensures ∙ k.0, lawful_plan c.args.plan o k.0 k.1 c.in_default.ensures b n c.in_ok-first.field-0 c.in_ok-first.ensures c.in_default-3.is)

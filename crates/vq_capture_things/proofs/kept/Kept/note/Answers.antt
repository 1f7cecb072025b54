use Rattle.std.proofs.Common.{refl}
use Rattle.vq_capture.specs.declared.statement.Statement.TheVariants.{HostSignal, SignalTimeline}
use Rattle.vq_capture_things.specs.Lookups.{has, has_pair, items_at}
use Rattle.vq_capture_things.proofs.Noted.{on_err, on_ok, rises_same, initial_noted, length_noted, value_noted, signal_noted, wait_noted, fence_noted, not_noted}
use Rattle.vq_capture_things.proofs.kept.Kept.note.Goals as goal

pub returns-in-DeclareTimeline-clause-noted : goal.returns-in-DeclareTimeline-clause-noted
returns-in-DeclareTimeline-clause-noted c =
    let kept = c.args.self.now in
    on_ok c.put.result
    (λ put. λ steps fresh d.
    initial_noted (has kept.initials) (has kept.lengths) (items_at kept.rises) (items_at kept.signals) (has kept.fences) (has_pair kept.events) steps d c.args.step c.in-DeclareTimeline.initial c.in-DeclareTimeline.is fresh (has c.put.new.map) put)
    c.put.ensures.put

pub returns-in-DeclareResource-clause-noted : goal.returns-in-DeclareResource-clause-noted
returns-in-DeclareResource-clause-noted c =
    let kept = c.args.self.now in
    on_ok c.put-in-DeclareResource.result
    (λ put. λ steps fresh d.
    length_noted (has kept.initials) (has kept.lengths) (items_at kept.rises) (items_at kept.signals) (has kept.fences) (has_pair kept.events) steps d c.args.step c.in-DeclareResource.length c.in-DeclareResource.is fresh (has c.put-in-DeclareResource.new.map) put)
    c.put-in-DeclareResource.ensures.put

pub returns-in-HostSignal-clause-noted : goal.returns-in-HostSignal-clause-noted
returns-in-HostSignal-clause-noted c =
    let kept = c.args.self.now in
    on_ok c.raise.result
    (λ put. λ steps fresh d.
    value_noted (has kept.initials) (has kept.lengths) (items_at kept.rises) (items_at kept.signals) (has kept.fences) (has_pair kept.events) steps d c.args.step (HostSignal c.in-HostSignal.timeline c.in-HostSignal.value) c.in-HostSignal.timeline c.in-HostSignal.value c.in-HostSignal.is refl refl (λ t x. refl) (λ q. refl) (λ q. refl) (λ q. refl) (λ e q. refl) (items_at c.raise.new.map) put)
    c.raise.ensures.raised

pub returns-in-SignalTimeline-clause-noted : goal.returns-in-SignalTimeline-clause-noted
returns-in-SignalTimeline-clause-noted c =
    let kept = c.args.self.now in
    on_ok c.raise-in-SignalTimeline.result
    (λ put. λ steps fresh d.
    value_noted (has kept.initials) (has kept.lengths) (items_at kept.rises) (items_at kept.signals) (has kept.fences) (has_pair kept.events) steps d c.args.step (SignalTimeline c.in-SignalTimeline.timeline c.in-SignalTimeline.value c.in-SignalTimeline.scope) c.in-SignalTimeline.timeline c.in-SignalTimeline.value c.in-SignalTimeline.is refl refl (λ t x. refl) (λ q. refl) (λ q. refl) (λ q. refl) (λ e q. refl) (items_at c.raise-in-SignalTimeline.new.map) put)
    c.raise-in-SignalTimeline.ensures.raised

pub returns-in-SignalBinary-clause-noted : goal.returns-in-SignalBinary-clause-noted
returns-in-SignalBinary-clause-noted c =
    let kept = c.args.self.now in
    on_ok c.push.result
    (λ put. λ steps fresh d.
    signal_noted (has kept.initials) (has kept.lengths) (items_at kept.rises) (items_at kept.signals) (has kept.fences) (has_pair kept.events) steps d c.args.step c.in-SignalBinary.semaphore c.in-SignalBinary.scope c.in-SignalBinary.is (items_at c.push.new.map) put)
    c.push.ensures.pushed

pub returns-in-WaitBinary-clause-noted : goal.returns-in-WaitBinary-clause-noted
returns-in-WaitBinary-clause-noted c = λ steps fresh d.
    let kept = c.args.self.now in
    wait_noted (has kept.initials) (has kept.lengths) (items_at kept.rises) (items_at kept.signals) (has kept.fences) (has_pair kept.events) steps d c.args.step c.in-WaitBinary.semaphore c.in-WaitBinary.scope c.in-WaitBinary.is (items_at c.empty.new.map) c.empty.ensures

pub returns-in-SignalFence-clause-noted : goal.returns-in-SignalFence-clause-noted
returns-in-SignalFence-clause-noted c =
    let kept = c.args.self.now in
    on_ok c.put-in-SignalFence.result
    (λ put. λ steps fresh d.
    fence_noted (has kept.initials) (has kept.lengths) (items_at kept.rises) (items_at kept.signals) (has kept.fences) (has_pair kept.events) steps d c.args.step c.in-SignalFence.fence c.in-SignalFence.is (has c.put-in-SignalFence.new.map) put)
    c.put-in-SignalFence.ensures.put

pub returns-in_default : goal.returns-in_default
returns-in_default c = record {
  noted = λ steps fresh d.
      let kept = c.args.self.now in
      not_noted (has kept.initials) (has kept.lengths) (items_at kept.rises) (items_at kept.signals) (has kept.fences) (has_pair kept.events) steps d c.args.step
      c.in_default.not-DeclareTimeline c.in_default.not-DeclareResource c.in_default.not-HostSignal c.in_default.not-SignalTimeline c.in_default.not-SignalBinary c.in_default.not-WaitBinary c.in_default.not-SignalFence c.in_default.not-SetEvent;
  err = tt;
}

pub returns-in-HostSignal-clause-err : goal.returns-in-HostSignal-clause-err
returns-in-HostSignal-clause-err c =
    let kept = c.args.self.now in
    on_err c.raise.result (λ same. λ steps d. rises_same (has kept.initials) (has kept.lengths) (items_at kept.rises) (items_at kept.signals) (has kept.fences) (has_pair kept.events) steps d c.args.step (items_at c.raise.new.map) same) c.raise.ensures.err

pub returns-in-SignalTimeline-clause-err : goal.returns-in-SignalTimeline-clause-err
returns-in-SignalTimeline-clause-err c =
    let kept = c.args.self.now in
    on_err c.raise-in-SignalTimeline.result (λ same. λ steps d. rises_same (has kept.initials) (has kept.lengths) (items_at kept.rises) (items_at kept.signals) (has kept.fences) (has_pair kept.events) steps d c.args.step (items_at c.raise-in-SignalTimeline.new.map) same) c.raise-in-SignalTimeline.ensures.err

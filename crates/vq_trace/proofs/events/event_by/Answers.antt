use Rattle.std.proofs.Common.{◌∙◌, ap, sym}
use Rattle.vq_lexer.specs.Words.{texts}
use Rattle.vq_given.specs.Words.{event_by}
use Rattle.vq_trace.proofs.events.event_by.Goals as goal

pub returns-in-Answer : goal.returns-in-Answer
returns-in-Answer c =
    c.answer.ensures c.args.actor
    ∙ ap (λ v. event_by c.args.plan.now c.args.actor v (texts c.args.words.now)) (sym c.in-Answer.is)

pub returns-in-Apply : goal.returns-in-Apply
returns-in-Apply c =
    c.apply.ensures c.args.actor
    ∙ ap (λ v. event_by c.args.plan.now c.args.actor v (texts c.args.words.now)) (sym c.in-Apply.is)

pub returns-in-Bind : goal.returns-in-Bind
returns-in-Bind c =
    c.bind.ensures c.args.actor
    ∙ ap (λ v. event_by c.args.plan.now c.args.actor v (texts c.args.words.now)) (sym c.in-Bind.is)

pub returns-in-Complete : goal.returns-in-Complete
returns-in-Complete c =
    c.complete.ensures c.args.actor
    ∙ ap (λ v. event_by c.args.plan.now c.args.actor v (texts c.args.words.now)) (sym c.in-Complete.is)

pub returns-in-Finish : goal.returns-in-Finish
returns-in-Finish c =
    c.finish.ensures c.args.actor
    ∙ ap (λ v. event_by c.args.plan.now c.args.actor v (texts c.args.words.now)) (sym c.in-Finish.is)

pub returns-in-Free : goal.returns-in-Free
returns-in-Free c =
    c.free.ensures c.args.plan.now c.args.actor
    ∙ ap (λ v. event_by c.args.plan.now c.args.actor v (texts c.args.words.now)) (sym c.in-Free.is)

pub returns-in-Release : goal.returns-in-Release
returns-in-Release c =
    c.release.ensures c.args.actor
    ∙ ap (λ v. event_by c.args.plan.now c.args.actor v (texts c.args.words.now)) (sym c.in-Release.is)

pub returns-in-Signal : goal.returns-in-Signal
returns-in-Signal c =
    c.signal.ensures c.args.actor
    ∙ ap (λ v. event_by c.args.plan.now c.args.actor v (texts c.args.words.now)) (sym c.in-Signal.is)

pub returns-in-Start : goal.returns-in-Start
returns-in-Start c =
    c.start.ensures c.args.actor
    ∙ ap (λ v. event_by c.args.plan.now c.args.actor v (texts c.args.words.now)) (sym c.in-Start.is)

pub returns-in-Submit : goal.returns-in-Submit
returns-in-Submit c =
    c.submit.ensures c.args.actor
    ∙ ap (λ v. event_by c.args.plan.now c.args.actor v (texts c.args.words.now)) (sym c.in-Submit.is)

pub returns-in-Take : goal.returns-in-Take
returns-in-Take c =
    c.take.ensures c.args.actor
    ∙ ap (λ v. event_by c.args.plan.now c.args.actor v (texts c.args.words.now)) (sym c.in-Take.is)

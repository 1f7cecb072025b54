use Rattle.std.proofs.Common.{◌≡◌, ℕ, ◌/◌, length, sym, subst}
use Rattle.vq_model.specs.LineFaults.{pairs_of}
use Rattle.vq_script.specs.declared.host_steps.SaidStep.{SaidStep}
use Rattle.vq_script.specs.Holds.{Kept}
use Rattle.vq_script.specs.SaidSteps.{step_in, IsReadStep}
use Rattle.vq_script.proofs.PairsRead.{pairs_counted}
use Rattle.vq_script.proofs.host_steps.SaidStep.pair_count.Goals as goal

-- so many words a step has, two a pair
abbrev IsCounted : ℕ → SaidStep → Type 0
IsCounted n step = (k : Kept) → IsReadStep k step → n / 2 ≡ length (pairs_of (step_in k step))

pub returns-in-WaitAll : goal.returns-in-WaitAll
returns-in-WaitAll c =
    subst (IsCounted (length c.in-WaitAll.words.now)) (sym c.in-WaitAll.is)
    (λ k read. pairs_counted k c.in-WaitAll.words.now read)

pub returns-in-WaitAny : goal.returns-in-WaitAny
returns-in-WaitAny c =
    subst (IsCounted (length c.in-WaitAny.words.now)) (sym c.in-WaitAny.is)
    (λ k read. pairs_counted k c.in-WaitAny.words.now read)

pub returns-in-PollAll : goal.returns-in-PollAll
returns-in-PollAll c =
    subst (IsCounted (length c.in-PollAll.words.now)) (sym c.in-PollAll.is)
    (λ k read. pairs_counted k c.in-PollAll.words.now read)

pub returns-in-PollAny : goal.returns-in-PollAny
returns-in-PollAny c =
    subst (IsCounted (length c.in-PollAny.words.now)) (sym c.in-PollAny.is)
    (λ k read. pairs_counted k c.in-PollAny.words.now read)

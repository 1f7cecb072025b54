use Rattle.std.proofs.Common.{◌∷◌, ◌++◌, ◌∙◌, [], List, ap, decimal, take, ℕ}
use Rattle.vq_model.specs.Naming.{actor_word}
use Rattle.vq_replay.specs.SpacedWords.{spaced}
use Rattle.vq_replay.specs.Traces.{outcome_words}
use Rattle.vq_replay.proofs.TurnLines.{line_joined}
use Rattle.vq_replay.proofs.lines.put_turn.Goals as goal

pub returns-clause-written : goal.returns-clause-written
returns-clause-written c =
    let p = c.args.plan.now in
    let x = c.args.played.now in
    c.put_end.ensures.written
    ∙ (ap (λ (xs : List ℕ). xs ++ 10 ∷ []) (c.put_outcome-at.ensures.written
    ∙ ap (λ (xs : List ℕ). xs ++ spaced (outcome_words p x.outcome)) c.put_front-at.ensures.written)
    ∙ line_joined (take c.args.at c.args.room.now) (decimal x.number) (actor_word p.script x.actor)
    (outcome_words p x.outcome))

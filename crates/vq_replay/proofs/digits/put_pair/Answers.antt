use Rattle.std.proofs.Common.{◌≡◌, ◌+◌, ◌++◌, ◌∷◌, [], ◌∙◌, List, ℕ, ap, arith, append_assoc, length-set, set, take}
use Rattle.std.proofs.lemmas.List.{take_more_set}
use Rattle.vq_replay.specs.Digits.{two_digits}
use Rattle.vq_replay.proofs.Numerals.{pairs_at, put_two}
use Rattle.vq_replay.proofs.digits.put_pair.Goals as goal

pub returns-clause-written : goal.returns-clause-written
returns-clause-written c =
    let p = pairs_at c.args.pair c.requires.0 in
    put_two c.args.room.now c.args.at _ _ _ _ p.0 p.1 c.requires.1

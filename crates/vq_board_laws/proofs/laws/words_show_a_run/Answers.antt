use Rattle.vq_board_laws.proofs.laws.words_show_a_run.Goals as goal

pub returns : goal.returns
returns c = λ p s k. k.rule.run

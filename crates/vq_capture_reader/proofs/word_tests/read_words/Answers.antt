use Rattle.vq_capture_reader.specs.NameLists.{names_of}
use Rattle.vq_capture_reader.specs.Things.{names_and_thread}
use Rattle.vq_capture_reader.proofs.WordsRead.{said_end, said_more, tests_end, tests_more}
use Rattle.vq_capture_reader.proofs.word_tests.read_words.Goals as goal

pub loop-at-preserved : goal.loop-at-preserved
loop-at-preserved c =
    let names = names_of c.args.names.now in (
      said_more c.args.slots.now c.args.words.now c.loop-at.at _ _ c.loop-at-test.true c.if-at-words.true names
          c.loop-at.said.items c.push.new.self.items _ c.read_word-word.result.said
          c.loop-at.invariant.0 c.read_word-word.ensures.said c.in_ok-push.ensures.items,
      tests_more c.args.slots.now c.args.words.now c.loop-at.at _ _ c.loop-at-test.true c.if-at-words.true (names_and_thread names c.args.thread)
          c.loop-at.tests c.read_word-word.result.tests c.both-tests.result _
          c.loop-at.invariant.1 c.read_word-word.ensures.tests c.both-tests.ensures,
    )

pub returns-else-at-words-clause-said : goal.returns-else-at-words-clause-said
returns-else-at-words-clause-said c =
    said_end c.args.slots.now c.args.words.now c.loop-at.at (names_of c.args.names.now) c.loop-at.said.items _ c.if-at-words.false c.loop-at.invariant.0

pub returns-else-at-words-clause-tests : goal.returns-else-at-words-clause-tests
returns-else-at-words-clause-tests c =
    tests_end c.args.slots.now c.args.words.now c.loop-at.at (names_and_thread (names_of c.args.names.now) c.args.thread) c.loop-at.tests _ c.if-at-words.false c.loop-at.invariant.1

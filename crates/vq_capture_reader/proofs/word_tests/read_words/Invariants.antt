use Rattle.std.proofs.Common.{◌≡◌, ◌++◌, ◌-◌, drop, length, map}
use Rattle.std.specs.Prelude.{zip}
use Rattle.vq_lexer.specs.Words.{texts}
use Rattle.vq_capture_reader.specs.NameLists.{names_of}
use Rattle.vq_capture_reader.specs.Slots.{place}
use Rattle.vq_capture_reader.specs.Said.{both, said_at, tests_of}
use Rattle.vq_capture_reader.specs.Things.{names_and_thread}
use Rattle.vq_capture_reader.proofs.word_tests.read_words.Given as goal

-- what was said, and what the places from here on say, is all
abbrev pub invariant-loop-at : goal.invariant-loop-at
invariant-loop-at l =
    (l.said.items ++ map (said_at (names_of l.names)) (zip (map place (drop l.at l.slots)) (texts (drop l.at l.words)))
    ≡ map (said_at (names_of l.names)) (zip (map place l.slots) (texts l.words)))
    × (both l.tests (tests_of (names_and_thread (names_of l.names) l.thread) (zip (map place (drop l.at l.slots)) (texts (drop l.at l.words))))
    ≡ tests_of (names_and_thread (names_of l.names) l.thread) (zip (map place l.slots) (texts l.words)))

abbrev pub decreases-loop-at : goal.decreases-loop-at
decreases-loop-at l = length l.initial.slots - l.at

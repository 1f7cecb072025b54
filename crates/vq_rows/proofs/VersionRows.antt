-- Texts with a version, and waits that hold back a part of their batch: each line holds by evaluation.
use Rattle.std.proofs.Common.{ℕ, List, Ok, Err, ◌≡◌, [], ◌∷◌, ◌++◌, refl, inl}
use Rattle.std.specs.Prelude.{codes}
use Rattle.vq_model.specs.SameScript.{IsRead}
use Rattle.vq_model.specs.Lowering.{plan_of}
use Rattle.vq_model.specs.LoweredPlans.{IsPlan}
use Rattle.vq_model.specs.Reading.{read_script}
use Rattle.vq_model.specs.declared.statement.Form.TheVariants.{Plain}
use Rattle.vq_model.specs.declared.statement.FaultKind.TheVariants.{Syntax, Number, Order, Name, Range, Limit}
use Rattle.vq_rows.proofs.TextRows.{bytes_of}
use Rattle.vq_rows.proofs.HeldRows.{held_from}

-- The line of the version

version_alone : bytes_of (codes "version 2\n") ≡ Ok []
version_alone = refl

version_after_remarks : bytes_of (codes "# two\n\n version  2 # held\nbuffer X 1\n") ≡ Ok ((0 ∷ []) ∷ [])
version_after_remarks = refl

version_one : bytes_of (codes "version 1\n") ≡ Err (1, Syntax)
version_one = refl

version_three : bytes_of (codes "version 3\n") ≡ Err (1, Syntax)
version_three = refl

version_in_hexadecimal : bytes_of (codes "version 0x2\n") ≡ Err (1, Syntax)
version_in_hexadecimal = refl

a_late_version : bytes_of (codes "buffer X 4\nversion 2\n") ≡ Err (2, Syntax)
a_late_version = refl

a_second_version : bytes_of (codes "version 2\nversion 2\n") ≡ Err (2, Syntax)
a_second_version = refl

-- Waits that hold back a part of their batch

-- the first batch of a text, which waits; what follows that batch
abbrev waiting : List ℕ → List ℕ
waiting wait =
    codes "buffer X 8\nbuffer Y 8\ntimeline A 0\nqueue P threaded\nqueue Q threaded\nsubmit P\n"
    ++ wait ++ codes "fill Y 0 8 5\ncopy X 0 Y 0 4\nend\n"

abbrev signaling : List ℕ
signaling = codes "submit Q\nfill X 0 8 9\nsignal A 1\nend\n"

abbrev held_text : List ℕ → List ℕ
held_text wait = codes "version 2\n" ++ waiting wait ++ signaling

-- the copy is held back, or the end of the batch alone
from_two : read_script (held_text (codes "wait A 1 from 2\n")) Plain ≡ Ok (held_from 2)
from_two = refl

from_three : read_script (held_text (codes "wait A 1 from 3\n")) Plain ≡ Ok (held_from 3)
from_three = refl

-- the whole batch is held back, with and without the word
from_one : read_script (held_text (codes "wait A 1 from 1\n")) Plain ≡ Ok (held_from 1)
from_one = refl

from_the_first : read_script (held_text (codes "wait A 1\n")) Plain ≡ Ok (held_from 1)
from_the_first = refl

from_two_bytes : bytes_of (held_text (codes "wait A 1 from 2\n"))
    ≡ Ok ((9 ∷ 0 ∷ 0 ∷ 0 ∷ 9 ∷ 0 ∷ 0 ∷ 0 ∷ []) ∷ (9 ∷ 0 ∷ 0 ∷ 0 ∷ 5 ∷ 0 ∷ 0 ∷ 0 ∷ []) ∷ [])
from_two_bytes = refl

-- of the first version no wait is held back in part
held_in_version_one : bytes_of (waiting (codes "wait A 1 from 2\n") ++ signaling) ≡ Err (7, Syntax)
held_in_version_one = refl

-- places are counted from 1, and none is past the end of the batch
from_zero : bytes_of (held_text (codes "wait A 1 from 0\n")) ≡ Err (8, Range)
from_zero = refl

from_four : bytes_of (held_text (codes "wait A 1 from 4\n")) ≡ Err (11, Range)
from_four = refl

-- .. which a batch of the most commands has after 65
from_sixty_five : bytes_of (held_text (codes "wait A 1 from 65\n")) ≡ Err (11, Range)
from_sixty_five = refl

from_sixty_six : bytes_of (held_text (codes "wait A 1 from 66\n")) ≡ Err (8, Range)
from_sixty_six = refl

from_no_numeral : bytes_of (held_text (codes "wait A 1 from two\n")) ≡ Err (8, Number)
from_no_numeral = refl

from_nowhere : bytes_of (held_text (codes "wait A 1 from\n")) ≡ Err (8, Syntax)
from_nowhere = refl

from_an_unknown : bytes_of (held_text (codes "wait B 1 from 2\n")) ≡ Err (8, Name)
from_an_unknown = refl

-- a wait after a command is out of order in this form too
held_too_late : bytes_of (held_text (codes "fill Y 0 8 1\nwait A 1 from 2\n")) ≡ Err (9, Order)
held_too_late = refl

-- a batch without commands ends at place 1
held_end :
    bytes_of
    (codes "version 2\ntimeline A 1\nqueue Q threaded\nsubmit Q\nwait A 1 from 1\nend\n"
    ++ codes "submit Q\nwait A 1 from 2\nend\n")
    ≡ Err (9, Range)
held_end = refl

-- a binary semaphore, which has no value
held_binary :
    bytes_of
    (codes "version 2\nbuffer X 4\nbinary S\nqueue P deferred\nqueue Q threaded\nsubmit P\n"
    ++ codes "signal S\nend\nsubmit Q\nwait S from 2\nfill X 0 4 7\nend\n")
    ≡ Ok ((7 ∷ 0 ∷ 0 ∷ 0 ∷ []) ∷ [])
held_binary = refl

-- Limits

abbrev eight_queues : List ℕ
eight_queues =
    codes "queue Q1 threaded\nqueue Q2 threaded\nqueue Q3 threaded\nqueue Q4 threaded\n"
    ++ codes "queue Q5 threaded\nqueue Q6 threaded\nqueue Q7 threaded\nqueue Q8 threaded\n"

abbrev more_queues : List ℕ
more_queues =
    codes "queue N1 threaded\nqueue N2 threaded\nqueue N3 threaded\nqueue N4 threaded\n"
    ++ codes "queue N5 threaded\nqueue N6 threaded\nqueue N7 threaded\nqueue N8 threaded\n"

sixteen_queues : bytes_of (codes "version 2\n" ++ eight_queues ++ more_queues) ≡ Ok []
sixteen_queues = refl

seventeen_queues :
    bytes_of (codes "version 2\n" ++ eight_queues ++ more_queues ++ codes "queue Q9 threaded\n")
    ≡ Err (18, Limit)
seventeen_queues = refl

-- The plan of a script with such a wait is one of a script that was read, so the laws speak of it.
held_is_read : IsRead (held_from 2)
held_is_read =
    record {
      text = held_text (codes "wait A 1 from 2\n");
      form = Plain;
      turns = [];
      stands = refl;
      kept_or_moved = inl refl;
    }

held_is_plan : IsPlan (plan_of (held_from 2))
held_is_plan = record { of_script = held_is_read; faultless = refl; lowered = refl }

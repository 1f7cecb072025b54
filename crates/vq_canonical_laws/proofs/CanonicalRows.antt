-- Canonical lines of small scripts of both versions, by evaluation; and such a script keeps the rules.
use Rattle.std.proofs.Common.{◌≡◌, ℕ, false, List, [], ◌∷◌, ◌++◌, None, Ok, Err, refl, inr, arith, codes}
use Rattle.std.specs.Prelude.{Result}
use Rattle.std.specs.Fmt.{decimal}
use Rattle.vq_model.specs.declared.script.Command.TheVariants.{Fill}
use Rattle.vq_model.specs.declared.script.FillSize.TheVariants.{Whole}
use Rattle.vq_model.specs.declared.script.Job.TheVariants.{Batch as BatchJob}
use Rattle.vq_model.specs.declared.script.Mode.TheVariants.{Threaded}
use Rattle.vq_model.specs.declared.script.Script.{Script}
use Rattle.vq_model.specs.declared.script.SemaphoreKind.TheVariants.{Timeline, Binary}
use Rattle.vq_model.specs.declared.statement.FaultKind.{FaultKind}
use Rattle.vq_model.specs.declared.statement.Form.TheVariants.{Plain}
use Rattle.vq_model.specs.Canonical.{canonical_lines}
use Rattle.vq_model.specs.Reading.{read_script}
use Rattle.vq_model.specs.SameScript.{IsScript}
use Rattle.vq_canonical_laws.specs.FormatRules.{KeepsRules}
use Rattle.vq_canonical_laws.proofs.FittingScripts.{ruled_is_written}

-- a batch of one command waits for a timeline from a place on, and whole for a binary semaphore
abbrev waiting : ℕ → ℕ → Script
waiting version from =
    record {
      version = version;
      buffers = record { line = 0; name = codes "X"; size = 4 } ∷ [];
      semaphores =
          record { line = 0; name = codes "A"; kind = Timeline 0 }
          ∷ record { line = 0; name = codes "S"; kind = Binary } ∷ [];
      queues = record { line = 0; name = codes "Q"; mode = Threaded } ∷ [];
      jobs =
          BatchJob (
          record {
            line = 0;
            queue = 0;
            waits =
                record { line = 0; semaphore = 0; value = 7; from = from }
                ∷ record { line = 0; semaphore = 1; value = 0; from = 1 } ∷ [];
            commands = record { line = 0; command = Fill 0 0 Whole 1 } ∷ [];
            signals = [];
            fence = None;
          }
          ) ∷ [];
      scheduled = false;
      turns = [];
    }

-- its lines with these lines of waits
abbrev Lines : Type 0
Lines = List (List (List ℕ))

abbrev lines_with : Lines → Lines
lines_with waits =
    (codes "buffer" ∷ codes "X" ∷ decimal 4 ∷ [])
    ∷ (codes "timeline" ∷ codes "A" ∷ decimal 0 ∷ [])
    ∷ (codes "binary" ∷ codes "S" ∷ [])
    ∷ (codes "queue" ∷ codes "Q" ∷ codes "threaded" ∷ [])
    ∷ (codes "submit" ∷ codes "Q" ∷ [])
    ∷ waits
    ++ (codes "fill" ∷ codes "X" ∷ decimal 0 ∷ codes "whole" ∷ codes "0x00000001" ∷ [])
    ∷ (codes "end" ∷ []) ∷ []

-- the waits from the first place on, and from the second
abbrev whole_waits : Lines
whole_waits = (codes "wait" ∷ codes "A" ∷ decimal 7 ∷ []) ∷ (codes "wait" ∷ codes "S" ∷ []) ∷ []

abbrev held_waits : Lines
held_waits =
    (codes "wait" ∷ codes "A" ∷ decimal 7 ∷ codes "from" ∷ decimal 2 ∷ [])
    ∷ (codes "wait" ∷ codes "S" ∷ []) ∷ []

abbrev second : List (List ℕ)
second = codes "version" ∷ codes "2" ∷ []

-- the place is written where it is above 1, and the version where it is the second
first_version : canonical_lines (waiting 1 1) ≡ lines_with whole_waits
first_version = refl

second_version : canonical_lines (waiting 2 1) ≡ second ∷ lines_with whole_waits
second_version = refl

held_from_two : canonical_lines (waiting 2 2) ≡ second ∷ lines_with held_waits
held_from_two = refl

-- the canonical lines of the script that a text stands for
abbrev printed : List ℕ → Lines
printed text = of_script (read_script text Plain)
  where
    of_script : Result Script (ℕ × FaultKind) → Lines
    of_script (Ok script) = canonical_lines script
    of_script (Err fault) = []

version_printed : printed (codes "# of the second version\n  version 2 #\n") ≡ second ∷ []
version_printed = refl

-- a place is read in hexadecimal, and where it is 1
places_printed :
    printed
    (codes "version 2\nbuffer X 4\ntimeline A 0\nbinary S\nqueue Q threaded\nsubmit Q\n"
    ++ codes "wait A 0x7 from 0x2\nwait S from 1\nfill X 0 whole 1\nend\n")
    ≡ second ∷ lines_with held_waits
places_printed = refl

-- A script with a wait from behind the command on keeps the rules, so it can be written.
waiting_keeps_rules : KeepsRules (waiting 2 2)
waiting_keeps_rules =
    record {
      version = inr refl;
      lineless = refl;
      unscheduled = record { unscheduled = refl; turns = refl };
      names = refl;
      some_bytes = (omega arith, tt);
      values = (omega arith, (tt, tt));
      jobs = (
        record {
          queue = omega arith;
          waits = (
            record {
              marked = record { semaphore = _; there = refl; takes = omega arith };
              held = record { counted = omega arith; whole = λ e. absurd (omega arith) };
              near = omega arith;
            },
            (
              record {
                marked = record { semaphore = _; there = refl; takes = refl };
                held = record { counted = omega arith; whole = λ e. refl };
                near = omega arith;
              },
              tt,
            ),
          );
          commands = (record { range = refl; apart = refl; numerals = (omega arith, omega arith) }, tt);
          signals = tt;
          fence = tt;
          few_waits = omega arith;
          few_commands = omega arith;
          few_signals = omega arith;
        },
        tt,
      );
      limits = record {
        buffers = omega arith;
        bytes = omega arith;
        semaphores = omega arith;
        queues = omega arith;
        jobs = omega arith;
        commands = omega arith;
      };
    }

waiting_is_written : IsScript (waiting 2 2)
waiting_is_written = ruled_is_written (waiting 2 2) waiting_keeps_rules

-- Canonical texts, computed. A number's digits are opened by name.
use Rattle.std.proofs.Common.{ℕ, List, [], Ok, Err, ◌≡◌, refl, ◌++◌}
use Rattle.std.specs.Prelude.{Result, codes}
use Rattle.vq_model.specs.declared.statement.FaultKind.{FaultKind}
use Rattle.vq_model.specs.declared.script.Script.{Script}
use Rattle.vq_model.specs.Canonical.{canonical_text}
use Rattle.vq_model.specs.declared.statement.Form.{Form}
use Rattle.vq_model.specs.Reading.{read_script}
use Rattle.std.specs.Fmt.{digits}
use Rattle.vq_model.specs.declared.statement.Form.TheVariants.{Plain, Scheduled}

abbrev printed : Result Script (ℕ × FaultKind) → List ℕ
printed (Ok script) = canonical_text script
printed (Err fault) = []

abbrev reprinted : Form → List ℕ → List ℕ
reprinted form text = printed (read_script text form)

one_buffer : reprinted Plain (codes " buffer  X 0x10 # note\n") ≡ codes "buffer X 16\n"
unfolding digits
one_buffer = refl

-- the numerals of each command
every_command :
    reprinted Plain
    (codes "buffer X 0x40\nqueue Q immediate\nsubmit Q\nfill X 0 whole 1 # note\n"
    ++ codes "fill X 0x0 4 0xABC\nupdate X 4 0aFF00b1\ncopy  X 00 X 8 8\nend")
    ≡ codes "buffer X 64\nqueue Q immediate\nsubmit Q\nfill X 0 whole 0x00000001\n"
    ++ codes "fill X 0 4 0x00000abc\nupdate X 4 0aff00b1\ncopy X 0 X 8 8\nend\n"
unfolding digits
every_command = refl

-- declarations in their order, and the marks of a batch
marks :
    reprinted Plain
    (codes "queue Q threaded\ntimeline A 0x10 # note\nqueue P immediate\nbuffer X 4\nfence F\n"
    ++ codes "binary S\nsubmit Q\nwait A 16\nwait S\nfill X 0 whole 1\nsignal S\nsignal A 0x11\n"
    ++ codes "fence F\nend\nsubmit P\nend\n")
    ≡ codes "buffer X 4\ntimeline A 16\nfence F\nbinary S\nqueue Q threaded\nqueue P immediate\n"
    ++ codes "submit Q\nwait A 16\nwait S\nfill X 0 whole 0x00000001\nsignal S\nsignal A 17\n"
    ++ codes "fence F\nend\nsubmit P\nend\n"
unfolding digits
marks = refl

-- a deferred queue, and a wait on an immediate one
modes :
    reprinted Plain
    (codes "queue P deferred # late\nqueue Q immediate\nbinary S\nsubmit Q\nwait  S\nend")
    ≡ codes "binary S\nqueue P deferred\nqueue Q immediate\nsubmit Q\nwait S\nend\n"
modes = refl

-- neighbouring turns of one actor are one line
turns_joined :
    reprinted Scheduled
    (codes "queue P threaded\nschedule # note\nhost\nhost 0x2\n\nS:P\nR:P 1\nR:P")
    ≡ codes "queue P threaded\nschedule\nhost 3\nS:P\nR:P 2\n"
unfolding digits
turns_joined = refl

-- a version stands first, and the place of a wait where it is above 1
second_version :
    reprinted Plain
    (codes "# held\n version 2 # note\nqueue Q threaded\nbuffer X 4\ntimeline A 0x10\nbinary S\nsubmit Q\n"
    ++ codes "wait A 16 from 0x2\nwait S from 2\nwait A 3 from 1\nwait A 4\nfill X 0 whole 1\nend")
    ≡ codes "version 2\nbuffer X 4\ntimeline A 16\nbinary S\nqueue Q threaded\nsubmit Q\n"
    ++ codes "wait A 16 from 2\nwait S from 2\nwait A 3\nwait A 4\nfill X 0 whole 0x00000001\nend\n"
unfolding digits
second_version = refl

-- Small plans and texts, computed: each line holds by evaluation.
use Rattle.std.proofs.Common.{false, [], ℕ, List, Option, None, Bool, true, ◌∷◌, ◌≡◌, refl, ◌++◌, Some}
use Rattle.vq_model.specs.declared.script.Script.{Script}
use Rattle.vq_model.specs.declared.plan.PlanJob.{PlanJob}
use Rattle.vq_model.specs.declared.plan.Need.{Need}
use Rattle.vq_model.specs.declared.plan.Lane.TheVariants.{Queue}
use Rattle.vq_model.specs.declared.plan.Question.TheVariants.{Silent}
use Rattle.vq_model.specs.declared.script.Command.TheVariants.{Fill, Copy}
use Rattle.vq_model.specs.declared.script.FillSize.TheVariants.{Count, Whole}
use Rattle.vq_model.specs.Plan.{Plan}
use Rattle.vq_model.specs.SlowRun.{slow_order, final, left_over}
use Rattle.vq_model.specs.EdgeReasons.{edges_to}
use Rattle.vq_model.specs.Races.{conflicts}
use Rattle.vq_model.specs.Memory.{effect}
use Rattle.std.specs.Prelude.{codes}
use Rattle.vq_model.specs.Text.{lines_of, words_of, numeral, is_name}

abbrev empty : Script
empty = record { version = 1; buffers = []; semaphores = []; queues = []; jobs = []; scheduled = false; turns = [] }

-- a batch of a queue
abbrev batch : ℕ → ℕ → Option ℕ → List Need → List ℕ → List ℕ → PlanJob
batch line queue before needs commands signals =
    record {
      line = line;
      lane = Queue queue;
      previous = before;
      host_before = None;
      any = false;
      needs = needs;
      asked = [];
      idle_after = [];
      commands = commands;
      signals = signals;
      question = Silent;
    }

-- A copy waits for the signal of a fill that is written after it.
abbrev copy_waits : Bool → Plan
copy_waits waits =
    record {
      script = empty;
      sizes = 8 ∷ 8 ∷ [];
      commands = record { line = 8; command = Copy 0 0 1 0 8 } ∷ record { line = 11; command = Fill 0 0 (Count 8) 0x0a0b0c0d } ∷ [];
      jobs = batch 6 0 None (when waits) (0 ∷ []) [] ∷ batch 10 1 None [] (1 ∷ []) (0 ∷ []) ∷ [];
      ops = record { chain = 0; index = 0; value = 1; job = 1; line = 12 } ∷ [];
      initials = 0 ∷ [];
      chains = (0 ∷ []) ∷ [];
    }
  where
    when : Bool → List Need
    when true = record { line = 7; chain = 0; value = 1; from = 1 } ∷ []
    when false = []

copy_order : slow_order (copy_waits true) ≡ 1 ∷ 0 ∷ []
copy_order = refl

copy_edges : edges_to (copy_waits true) 0 ≡ 1 ∷ []
copy_edges = refl

copy_final : final (copy_waits true) ≡ (13 ∷ 12 ∷ 11 ∷ 10 ∷ 13 ∷ 12 ∷ 11 ∷ 10 ∷ []) ∷ (13 ∷ 12 ∷ 11 ∷ 10 ∷ 13 ∷ 12 ∷ 11 ∷ 10 ∷ []) ∷ []
copy_final = refl

-- without the wait the two commands conflict, and no edge leads to either job
copy_conflict : conflicts (copy_waits false) 0 1 ≡ true
copy_conflict = refl

copy_no_edges : edges_to (copy_waits false) 0 ++ edges_to (copy_waits false) 1 ≡ []
copy_no_edges = refl

-- Two batches wait for each other: both are left over.
abbrev deadlock : Plan
deadlock =
    record {
      script = empty;
      sizes = [];
      commands = [];
      jobs = batch 5 0 None (record { line = 6; chain = 0; value = 1; from = 1 } ∷ []) [] (0 ∷ []) ∷ batch 9 1 None (record { line = 10; chain = 1; value = 1; from = 1 } ∷ []) [] (1 ∷ []) ∷ [];
      ops = record { chain = 1; index = 0; value = 1; job = 0; line = 7 } ∷ record { chain = 0; index = 0; value = 1; job = 1; line = 11 } ∷ [];
      initials = 0 ∷ 0 ∷ [];
      chains = (1 ∷ []) ∷ (0 ∷ []) ∷ [];
    }

deadlock_left : left_over deadlock ≡ 0 ∷ 1 ∷ []
deadlock_left = refl

-- a fill with the whole size leaves the last bytes of a buffer of 7
whole_fill : effect (Fill 0 0 Whole 0xffffffff) ((0 ∷ 0 ∷ 0 ∷ 0 ∷ 0 ∷ 0 ∷ 0 ∷ []) ∷ []) ≡ (255 ∷ 255 ∷ 255 ∷ 255 ∷ 0 ∷ 0 ∷ 0 ∷ []) ∷ []
whole_fill = refl

-- texts
some_lines : lines_of (codes "ab\n\nc\r") ≡ codes "ab" ∷ [] ∷ codes "c" ∷ []
some_lines = refl

no_lines : lines_of [] ≡ []
no_lines = refl

some_words : words_of (codes " buffer  X 0x10 # note") ≡ codes "buffer" ∷ codes "X" ∷ codes "0x10" ∷ []
some_words = refl

hex_numeral : numeral (codes "0x10") ≡ Some 16
hex_numeral = refl

long_numeral : numeral (codes "000000000000000000004") ≡ None
long_numeral = refl

greatest_numeral : numeral (codes "18446744073709551615") ≡ Some 18446744073709551615
greatest_numeral = refl

past_numeral : numeral (codes "18446744073709551616") ≡ None
past_numeral = refl

no_name : is_name (codes "9a") ≡ false
no_name = refl

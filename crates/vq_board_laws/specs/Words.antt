-- The words of the board by kind, and the progress that they show. This project's own.
use Rattle.std.specs.Prelude.{ℕ, zero, suc, Bool, List, [], ◌∷◌, ◌++◌, ◌+◌}
use Rattle.std.specs.Prelude.{◌-◌, ◌*◌, ◌==◌, ◌&&◌, ◌||◌, ◌≡◌, max, true}
use Rattle.std.specs.Prelude.{if◌then◌else◌, nat_lt, slice_index, length, map, filter}
use Rattle.vq_model.specs.Plan.{Plan, value, initial, chain}
use Rattle.vq_model.specs.Machine.{Progress}
use Rattle.vq_model.specs.SlowRun.{greatest}
use Rattle.vq_point_laws.specs.PointWord.{parts}

-- Each job, operation, point and place of the log has a word; and there are the turn over the
-- buffers and the count of points.
pub record Words : Type 0 where
  -- how far the job is: the number of its state
  pub job : ℕ → ℕ
  -- 0 where the operation is unbound, 1 where it is past, and q + 2 where it is bound to the point q
  pub op : ℕ → ℕ
  pub point : ℕ → ℕ
  -- 0 where the place is empty, else the number of a command and 1
  pub place : ℕ → ℕ
  -- 0 where the buffers are free, else the number of the job that has them and 1
  pub turn : ℕ
  pub count : ℕ

-- Where these words stand. The four kinds take turns, so that a word of one is none of another.
abbrev pub turn_word : ℕ
turn_word = 0

abbrev pub count_word : ℕ
count_word = 1

abbrev pub job_word : ℕ → ℕ
job_word j = 4 * j + 2

abbrev pub op_word : ℕ → ℕ
op_word e = 4 * e + 3

abbrev pub point_word : ℕ → ℕ
point_word q = 4 * q + 4

abbrev pub place_word : ℕ → ℕ
place_word i = 4 * i + 5

abbrev pub words_of : List ℕ → Words
words_of ws =
    record {
      job = λ j. slice_index ws (job_word j);
      op = λ e. slice_index ws (op_word e);
      point = λ q. slice_index ws (point_word q);
      place = λ i. slice_index ws (place_word i);
      turn = slice_index ws turn_word;
      count = slice_index ws count_word;
    }

-- how many words there are of each kind, and in all
abbrev pub size : Plan → ℕ
size p = max (length p.jobs) (max (length p.ops) (length p.commands)) + 1

abbrev pub word_count : Plan → ℕ
word_count p = 4 * size p + 2

-- What the words show

-- a point's word carries the operation
pub record Carries (word e : ℕ) : Type 0 where
  pub held : (parts word).held ≡ true
  pub op : (parts word).op ≡ e

abbrev pub shows_made : ℕ → ℕ → Bool
shows_made word e = (parts word).held && ((parts word).signaled && ((parts word).op == e))

-- an operation is made where it is past, or bound to a point that carries it and is signaled
abbrev pub is_made : (ℕ → ℕ) → (ℕ → ℕ) → ℕ → Bool
is_made op point e = (op e == 1) || (nat_lt 1 (op e) && shows_made (point (op e - 2)) e)

-- the commands in the filled ones of the first n places of the log, in order
abbrev pub filled : (ℕ → ℕ) → ℕ → List ℕ
filled place zero = []
filled place (suc n) = filled place n ++ (if place n == 0 then [] else (place n - 1) ∷ [])

abbrev pub log_of : Plan → Words → List ℕ
log_of p d = filled d.place (length p.commands)

abbrev pub made_of : Words → ℕ → Bool
made_of d = is_made d.op d.point

-- a chain's payload: the greatest value of its made operations, or the initial one
abbrev pub payload_of : Plan → (ℕ → Bool) → ℕ → ℕ
payload_of p made t = greatest (initial p t) (map (value p) (filter made (chain p t)))

-- the progress of the machine that the words show
abbrev pub shown : Plan → Words → Progress
shown p d =
    record {
      payload = payload_of p (made_of d);
      started = λ j. nat_lt 2 (d.job j);
      finished = λ j. nat_lt 3 (d.job j);
      made = made_of d;
      applied = log_of p d;
    }

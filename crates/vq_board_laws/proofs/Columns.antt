-- A change of one word, by kind.
use Rattle.std.proofs.Common.{◌≡◌, ◌≢◌, ℕ, ◌+◌, ◌*◌, ◌<◌, List, length, set, get_or, sym, subst, arith, get_or-set_same, get_or-set_other}
use mathlib.Core.Logic.{dite}
use native.Mathlib.Decide.{ℕ_discrete}
use Rattle.vq_model.specs.Machine.{put}
use Rattle.vq_model.proofs.Puts.{put_here, put_there}
use Rattle.vq_board_laws.specs.Words.{words_of, job_word, op_word, point_word, place_word, turn_word, count_word}

-- what holds at the place that is changed and at all others holds everywhere
pub put_each : {A : Type 0} (f : ℕ → A) (k : ℕ) (x : A) (P : ℕ → A → Type 0) → P k x → ((i : ℕ) → i ≢ k → P i (f i)) → (i : ℕ) → P i (put f k x i)
put_each f k x P here else i = dite (ℕ_discrete i k) (λ e. subst (λ (z : ℕ). P z (put f k x z)) (sym e) (subst (P k) (sym (put_here f k x)) here))
    (λ ne. subst (P i) (sym (put_there f k x i ne)) (else i ne))

-- the column of words at 4 k + r, where one of them is changed
column_set : (ws : List ℕ) (r j x : ℕ) → 4 * j + r < length ws → (k : ℕ) → get_or (set ws (4 * j + r) x) (4 * k + r) 0 ≡ put (λ i. get_or ws (4 * i + r) 0) j x k
column_set ws r j x room = put_each (λ i. get_or ws (4 * i + r) 0) j x (λ k y. get_or (set ws (4 * j + r) x) (4 * k + r) 0 ≡ y) (get_or-set_same ws (4 * j + r) x 0 room)
    (λ k ne. get_or-set_other ws (4 * j + r) (4 * k + r) x 0 (λ e. ne (omega arith)))

pub job_set : (ws : List ℕ) (j x : ℕ) → job_word j < length ws → words_of (set ws (job_word j) x) ≡ record (words_of ws) { job = put (words_of ws).job j x }
job_set ws j x room = λ i. record {
  job = λ k. column_set ws 2 j x room k i;
  op = λ k. get_or-set_other ws (4 * j + 2) (4 * k + 3) x 0 (λ e. omega arith) i;
  point = λ k. get_or-set_other ws (4 * j + 2) (4 * k + 4) x 0 (λ e. omega arith) i;
  place = λ k. get_or-set_other ws (4 * j + 2) (4 * k + 5) x 0 (λ e. omega arith) i;
  turn = get_or-set_other ws (4 * j + 2) 0 x 0 (λ e. omega arith) i;
  count = get_or-set_other ws (4 * j + 2) 1 x 0 (λ e. omega arith) i;
}

pub place_set : (ws : List ℕ) (j x : ℕ) → place_word j < length ws → words_of (set ws (place_word j) x) ≡ record (words_of ws) { place = put (words_of ws).place j x }
place_set ws j x room = λ i. record {
  job = λ k. get_or-set_other ws (4 * j + 5) (4 * k + 2) x 0 (λ e. omega arith) i;
  op = λ k. get_or-set_other ws (4 * j + 5) (4 * k + 3) x 0 (λ e. omega arith) i;
  point = λ k. get_or-set_other ws (4 * j + 5) (4 * k + 4) x 0 (λ e. omega arith) i;
  place = λ k. column_set ws 5 j x room k i;
  turn = get_or-set_other ws (4 * j + 5) 0 x 0 (λ e. omega arith) i;
  count = get_or-set_other ws (4 * j + 5) 1 x 0 (λ e. omega arith) i;
}

pub turn_set : (ws : List ℕ) (x : ℕ) → 0 < length ws → words_of (set ws turn_word x) ≡ record (words_of ws) { turn = x }
turn_set ws x room = λ i. record {
  job = λ k. get_or-set_other ws 0 (4 * k + 2) x 0 (λ e. omega arith) i;
  op = λ k. get_or-set_other ws 0 (4 * k + 3) x 0 (λ e. omega arith) i;
  point = λ k. get_or-set_other ws 0 (4 * k + 4) x 0 (λ e. omega arith) i;
  place = λ k. get_or-set_other ws 0 (4 * k + 5) x 0 (λ e. omega arith) i;
  turn = get_or-set_same ws 0 x 0 room i;
  count = get_or-set_other ws 0 1 x 0 (λ e. omega arith) i;
}

pub op_set : (ws : List ℕ) (j x : ℕ) → op_word j < length ws → words_of (set ws (op_word j) x) ≡ record (words_of ws) { op = put (words_of ws).op j x }
op_set ws j x room = λ i. record {
  job = λ k. get_or-set_other ws (4 * j + 3) (4 * k + 2) x 0 (λ e. omega arith) i;
  op = λ k. column_set ws 3 j x room k i;
  point = λ k. get_or-set_other ws (4 * j + 3) (4 * k + 4) x 0 (λ e. omega arith) i;
  place = λ k. get_or-set_other ws (4 * j + 3) (4 * k + 5) x 0 (λ e. omega arith) i;
  turn = get_or-set_other ws (4 * j + 3) 0 x 0 (λ e. omega arith) i;
  count = get_or-set_other ws (4 * j + 3) 1 x 0 (λ e. omega arith) i;
}

pub point_set : (ws : List ℕ) (j x : ℕ) → point_word j < length ws → words_of (set ws (point_word j) x) ≡ record (words_of ws) { point = put (words_of ws).point j x }
point_set ws j x room = λ i. record {
  job = λ k. get_or-set_other ws (4 * j + 4) (4 * k + 2) x 0 (λ e. omega arith) i;
  op = λ k. get_or-set_other ws (4 * j + 4) (4 * k + 3) x 0 (λ e. omega arith) i;
  point = λ k. column_set ws 4 j x room k i;
  place = λ k. get_or-set_other ws (4 * j + 4) (4 * k + 5) x 0 (λ e. omega arith) i;
  turn = get_or-set_other ws (4 * j + 4) 0 x 0 (λ e. omega arith) i;
  count = get_or-set_other ws (4 * j + 4) 1 x 0 (λ e. omega arith) i;
}

pub count_set : (ws : List ℕ) (x : ℕ) → 1 < length ws → words_of (set ws count_word x) ≡ record (words_of ws) { count = x }
count_set ws x room = λ i. record {
  job = λ k. get_or-set_other ws 1 (4 * k + 2) x 0 (λ e. omega arith) i;
  op = λ k. get_or-set_other ws 1 (4 * k + 3) x 0 (λ e. omega arith) i;
  point = λ k. get_or-set_other ws 1 (4 * k + 4) x 0 (λ e. omega arith) i;
  place = λ k. get_or-set_other ws 1 (4 * k + 5) x 0 (λ e. omega arith) i;
  turn = get_or-set_other ws 1 0 x 0 (λ e. omega arith) i;
  count = get_or-set_same ws 1 x 0 room i;
}

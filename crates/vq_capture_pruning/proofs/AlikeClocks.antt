-- Clocks that tell the same of a line and a lane, and what comes of them.
use Rattle.std.proofs.Common.{◌≡◌, ◌∙◌, Bool, true, false, ℕ, List, [], ◌∷◌, ◌++◌, cond, map, filter, refl, sym, ap, inl, inr, arith, Option, Some, None}
use Rattle.std.specs.Prelude.{nat_lt, ◌==◌, ◌||◌, not}
use Rattle.vq_ground.proofs.Tests.{below_test, not_below_test, below_of_test, at_least_of_test}
use Rattle.vq_capture.specs.declared.statement.Statement.{Statement}
use Rattle.vq_capture.specs.declared.statement.Statement.TheVariants.{SubmitHanded}
use Rattle.vq_capture.specs.declared.capture.Step.{Step}
use Rattle.vq_capture.specs.Points.{IsMember}
use Rattle.vq_capture_check.specs.declared.signals.Signal.{Signal}
use Rattle.vq_capture_touched.specs.declared.touch.StepLanes.{StepLanes}
use Rattle.vq_capture_check.specs.Alike.{SignalTelling, tells, telling_of}
use Rattle.vq_capture_check.specs.Clocks.{no_clock, later, join, raise, with_cell, take_lanes, give_lanes, with_line, take_lines}
use Rattle.vq_capture_check.specs.Lanes.{given, taken}
use Rattle.vq_capture_check.specs.Watching.{SignalClock, ToldStep, take_signal, take_signals, take_released, take_handed, waits_for_signal, whole, clock_of, ends_signal, signal_of, without_ended, with_signal, signals_with, is_command_access, cells_with, is_lasting, lines_with}

module _ (l k : ℕ) where
  abbrev pub Same : (ℕ → ℕ) → (ℕ → ℕ) → Type 0
  Same c d = tells l k c ≡ tells l k d

  -- Later lines

  later_tells : (a b : ℕ) → nat_lt l (later a b) ≡ (nat_lt l a || nat_lt l b)
  later_tells a b = by (nat_lt a b) refl
    where
      second : nat_lt a b ≡ true → (s : Bool) → nat_lt l a ≡ s → nat_lt l b ≡ (s || nat_lt l b)
      second e true f =
          let p = below_of_test a b e in
          let q = below_of_test l a f in
          below_test l b (omega arith)
      second e false f = refl

      first : nat_lt a b ≡ false → (s : Bool) → nat_lt l a ≡ s → s ≡ (s || nat_lt l b)
      first e true f = refl
      first e false f =
          let p = at_least_of_test a b e in
          let q = at_least_of_test l a f in
          sym (not_below_test l b (omega arith))

      by : (t : Bool) → nat_lt a b ≡ t → nat_lt l (cond t b a) ≡ (nat_lt l a || nat_lt l b)
      by true e = second e (nat_lt l a) refl
      by false e = first e (nat_lt l a) refl

  same_later : (a b c d : ℕ) → nat_lt l a ≡ nat_lt l b → nat_lt l c ≡ nat_lt l d → nat_lt l (later a c) ≡ nat_lt l (later b d)
  same_later a b c d p q = later_tells a c ∙ ((λ i. p i || q i) ∙ sym (later_tells b d))

  same_join : (c d e f : ℕ → ℕ) → Same c d → Same e f → Same (join c e) (join d f)
  same_join c d e f p q = same_later (c k) (d k) (e k) (f k) p q

  same_raise : (c d : ℕ → ℕ) (j n : ℕ) → Same c d → Same (raise c j n) (raise d j n)
  same_raise c d j n p = by (k == j)
    where
      by : (t : Bool) → nat_lt l (cond t (later (c k) n) (c k)) ≡ nat_lt l (cond t (later (d k) n) (d k))
      by true = same_later (c k) (d k) n n p refl
      by false = p

  -- Cells

  abbrev pub SameCells : (ℕ → ℕ → ℕ) → (ℕ → ℕ → ℕ) → Type 0
  SameCells u v = (j : ℕ) → Same (u j) (v j)

  -- what was brought to some lanes
  abbrev pub SameAt : List ℕ → (ℕ → ℕ → ℕ) → (ℕ → ℕ → ℕ) → Type 0
  SameAt ls u v = (j : ℕ) → IsMember j ls → Same (u j) (v j)

  same_taken : (u v : ℕ → ℕ → ℕ) (ls : List ℕ) → SameAt ls u v → (c d : ℕ → ℕ) (n : ℕ) → Same c d → Same (take_lanes u n c ls) (take_lanes v n d ls)
  same_taken u v [] cells c d n p = p
  same_taken u v (j ∷ js) cells c d n p =
      same_taken u v js (λ i m. cells i (inr m)) (raise (join c (u j)) j n) (raise (join d (v j)) j n) n
      (same_raise (join c (u j)) (join d (v j)) j n (same_join c d (u j) (v j) p (cells j (inl refl))))

  module _ (u v : ℕ → ℕ → ℕ) (cells : SameCells u v) where
    same_lines : (ns : List ℕ) (c d : ℕ → ℕ) → Same c d → Same (take_lines u c ns) (take_lines v d ns)
    same_lines [] c d p = p
    same_lines (n ∷ ns) c d p = same_lines ns (join c (u n)) (join d (v n)) (same_join c d (u n) (v n) p (cells n))

    same_handed : (said : Statement) (c d : ℕ → ℕ) → Same c d → Same (take_handed u c said) (take_handed v d said)
    same_handed (SubmitHanded q n) c d p = same_join c d (u n) (v n) p (cells n)
    same_handed other c d p = p

    same_kept : (n : ℕ) (c d : ℕ → ℕ) → Same c d → SameCells (with_line u n c) (with_line v n d)
    same_kept n c d p m = by (n == m)
      where
        by : (t : Bool) → nat_lt l (cond t c (u m) k) ≡ nat_lt l (cond t d (v m) k)
        by true = p
        by false = cells m

    pub same_lines_with : (b : Step) (c d : ℕ → ℕ) → Same c d → SameCells (lines_with u b c) (lines_with v b d)
    same_lines_with b c d p m = by (is_lasting b.statement)
      where
        by : (t : Bool) → nat_lt l (cond t (with_line u b.line c) u m k) ≡ nat_lt l (cond t (with_line v b.line d) v m k)
        by true = same_kept b.line c d p m
        by false = cells m

  -- what is brought to a lane with what was
  same_with : (u v : ℕ → ℕ → ℕ) (j i : ℕ) (c d : ℕ → ℕ) → Same (u j) (v j) → Same c d → Same (with_cell u i c j) (with_cell v i d j)
  same_with u v j i c d q p = by (j == i)
    where
      by : (t : Bool) → nat_lt l (cond t (join (u j) c) (u j) k) ≡ nat_lt l (cond t (join (v j) d) (v j) k)
      by true = same_join (u j) (v j) c d q p
      by false = q

  same_given : (ls : List ℕ) (u v : ℕ → ℕ → ℕ) (j : ℕ) (c d : ℕ → ℕ) → Same (u j) (v j) → Same c d → Same (give_lanes u c ls j) (give_lanes v d ls j)
  same_given [] u v j c d p q = p
  same_given (i ∷ is) u v j c d p q = same_given is (with_cell u i c) (with_cell v i d) j c d (same_with u v j i c d p q) q

  pub same_cells_with : (u v : ℕ → ℕ → ℕ) (at : StepLanes) (b : Step) (c d : ℕ → ℕ) (j : ℕ) → Same (u j) (v j) → Same c d → Same (cells_with u at b c j) (cells_with v at b d j)
  same_cells_with u v at b c d j p q = by (is_command_access b.statement)
    where
      by : (t : Bool) → nat_lt l (cond t u (give_lanes u c (given at (whole b))) j k) ≡ nat_lt l (cond t v (give_lanes v d (given at (whole b))) j k)
      by true = p
      by false = same_given (given at (whole b)) u v j c d p q

  -- Signals

  abbrev pub tellings : List SignalClock → List SignalTelling
  tellings xs = map (telling_of l k) xs

  -- whether a clock that took those of signals at a line tells it
  abbrev took : List SignalTelling → Bool → ℕ → Bool
  took [] t n = t
  took (x ∷ xs) t n = took xs (cond (x.line == n) (t || x.telling) t) n

  took_signal : (xs : List SignalClock) (c : ℕ → ℕ) (n : ℕ) → tells l k (take_signal xs c n) ≡ took (tellings xs) (tells l k c) n
  took_signal [] c n = refl
  took_signal (x ∷ xs) c n =
      took_signal xs (cond (x.line == n) (join c x.clock) c) n ∙ ap (λ (t : Bool). took (tellings xs) t n) (by (x.line == n))
    where
      by : (t : Bool) → nat_lt l (cond t (join c x.clock) c k) ≡ cond t (tells l k c || tells l k x.clock) (tells l k c)
      by true = later_tells (c k) (x.clock k)
      by false = refl

  module _ (xs ys : List SignalClock) (signals : tellings xs ≡ tellings ys) where
    same_signals : (ns : List ℕ) (c d : ℕ → ℕ) → Same c d → Same (take_signals xs c ns) (take_signals ys d ns)
    same_signals [] c d p = p
    same_signals (n ∷ ns) c d p =
        same_signals ns (take_signal xs c n) (take_signal ys d n)
        (took_signal xs c n ∙ ((λ i. took (signals i) (p i) n) ∙ sym (took_signal ys d n)))

    same_released : (u v : ℕ → ℕ → ℕ) → SameCells u v → (said : Statement) (ns : List ℕ) (c d : ℕ → ℕ) → Same c d → Same (take_released u xs c said ns) (take_released v ys d said ns)
    same_released u v p said ns c d q = by (waits_for_signal said)
      where
        by : (t : Bool) → nat_lt l (cond t (take_signals xs c ns) (take_lines u c ns) k) ≡ nat_lt l (cond t (take_signals ys d ns) (take_lines v d ns) k)
        by true = same_signals ns c d q
        by false = same_lines u v p ns c d q

  -- what is told by the signals that a line doesn't end
  ended_tellings : (said : Statement) (xs : List SignalClock) → tellings (without_ended said xs) ≡ filter (λ x. not (ends_signal said x.signal)) (tellings xs)
  ended_tellings said [] = refl
  ended_tellings said (x ∷ xs) = by (not (ends_signal said x.signal)) (ended_tellings said xs)
    where
      by : (t : Bool) → tellings (without_ended said xs) ≡ filter (λ x. not (ends_signal said x.signal)) (tellings xs) →
          tellings (cond t (x ∷ without_ended said xs) (without_ended said xs))
          ≡ cond t (telling_of l k x ∷ filter (λ x. not (ends_signal said x.signal)) (tellings xs)) (filter (λ x. not (ends_signal said x.signal)) (tellings xs))
      by true e = ap (λ (ts : List SignalTelling). telling_of l k x ∷ ts) e
      by false e = e

  more_tellings : (xs : List SignalClock) (x : SignalClock) → tellings (xs ++ x ∷ []) ≡ tellings xs ++ telling_of l k x ∷ []
  more_tellings [] x = refl
  more_tellings (y ∷ ys) x = ap (λ (ts : List SignalTelling). telling_of l k y ∷ ts) (more_tellings ys x)

  pub same_signals_with : (xs ys : List SignalClock) (b : Step) (c d : ℕ → ℕ) → tellings xs ≡ tellings ys → Same c d → tellings (signals_with xs b c) ≡ tellings (signals_with ys b d)
  same_signals_with xs ys b c d e p = by (signal_of b.statement)
    where
      left : tellings (without_ended b.statement xs) ≡ tellings (without_ended b.statement ys)
      left =
          ended_tellings b.statement xs
          ∙ (ap (λ (ts : List SignalTelling). filter (λ x. not (ends_signal b.statement x.signal)) ts) e
          ∙ sym (ended_tellings b.statement ys))

      by : (o : Option Signal) → tellings (with_signal (without_ended b.statement xs) o b.line c) ≡ tellings (with_signal (without_ended b.statement ys) o b.line d)
      by None = left
      by (Some signal) =
          more_tellings (without_ended b.statement xs) (record { line = b.line; signal = signal; clock = c })
          ∙ ((λ i. left i ++ record { line = b.line; signal = signal; telling = p i } ∷ [])
          ∙ sym (more_tellings (without_ended b.statement ys) (record { line = b.line; signal = signal; clock = d })))

  -- The clock of a step

  module _ (u v m n : ℕ → ℕ → ℕ) (xs ys : List SignalClock) (lines : SameCells m n) (signals : tellings xs ≡ tellings ys) (at : StepLanes) (b : ToldStep) where
    pub same_clock : SameAt (taken at (whole b.step)) u v → Same (clock_of u m xs at b) (clock_of v n ys at b)
    same_clock cells =
        let before : Same (take_lanes u b.step.line no_clock (taken at (whole b.step))) (take_lanes v b.step.line no_clock (taken at (whole b.step))) =
        same_taken u v (taken at (whole b.step)) cells no_clock no_clock b.step.line refl in
        same_handed m n lines b.step.statement
        (take_released m xs (take_lanes u b.step.line no_clock (taken at (whole b.step))) b.step.statement b.released)
        (take_released n ys (take_lanes v b.step.line no_clock (taken at (whole b.step))) b.step.statement b.released)
        (same_released xs ys signals m n lines b.step.statement b.released
        (take_lanes u b.step.line no_clock (taken at (whole b.step))) (take_lanes v b.step.line no_clock (taken at (whole b.step))) before)

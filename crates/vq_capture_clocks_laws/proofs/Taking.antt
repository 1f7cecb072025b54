-- What a clock that took others says, and what it says at least.
use Rattle.std.proofs.Common.{◌≡◌, ◌⊎◌, ◌<◌, Bool, true, false, ℕ, List, [], ◌∷◌, cond, refl, sym, ◌∙◌, ap, subst, inl, inr, arith}
use Rattle.std.specs.Prelude.{nat_lt, ◌==◌, if◌then◌else◌}
use Rattle.std.proofs.lemmas.Bool.{eqb-true, eq-eqb}
use Rattle.vq_ground.proofs.Bools.{never}
use Rattle.vq_ground.proofs.Tests.{below_of_test, at_least_of_test}
use Rattle.vq_capture.specs.declared.statement.Statement.{Statement}
use Rattle.vq_capture.specs.declared.statement.Statement.TheVariants.{SubmitHanded}
use Rattle.vq_capture.specs.Points.{IsMember}
use Rattle.vq_capture.specs.Before.{was_handed}
use Rattle.vq_capture_check.specs.Clocks.{later, join, raise, with_cell, take_lanes, give_lanes, take_lines}
use Rattle.vq_capture_check.specs.Watching.{SignalClock, take_signal, take_signals, take_released, take_handed, waits_for_signal}

module _ (v : ℕ) where
  pub of_later : (a b : ℕ) → v < later a b → (v < a) ⊎ (v < b)
  of_later a b = by_test (nat_lt a b)
    where
      by_test : (t : Bool) → v < cond t b a → (v < a) ⊎ (v < b)
      by_test true l = inr l
      by_test false l = inl l

  pub below_first : (a b : ℕ) → v < a → v < later a b
  below_first a b l = by_test (nat_lt a b) refl
    where
      by_test : (t : Bool) → nat_lt a b ≡ t → v < cond t b a
      by_test true e = let m = below_of_test a b e in omega arith
      by_test false e = l

  pub below_second : (a b : ℕ) → v < b → v < later a b
  below_second a b l = by_test (nat_lt a b) refl
    where
      by_test : (t : Bool) → nat_lt a b ≡ t → v < cond t b a
      by_test true e = l
      by_test false e = let m = at_least_of_test a b e in omega arith

  -- A clock that took lanes

  module _ (cells : ℕ → ℕ → ℕ) (n k : ℕ) where
    abbrev Taken : (ℕ → ℕ) → List ℕ → Type 0
    Taken c ls = (v < c k) ⊎ ((IsMember k ls × (v < n)) ⊎ ((j : ℕ) × IsMember j ls × (v < cells j k)))

    one_from : (c : ℕ → ℕ) (j : ℕ) → v < raise (join c (cells j)) j n k → Taken c (j ∷ [])
    one_from c j = by_test (k == j) refl
      where
        joined : v < join c (cells j) k → Taken c (j ∷ [])
        joined l = elim (of_later (c k) (cells j k) l) [ inl m ↦ inl m | inr m ↦ inr (inr (j, inl refl, m)) ]

        by_test : (t : Bool) → (k == j) ≡ t → v < cond t (later (join c (cells j) k) n) (join c (cells j) k) → Taken c (j ∷ [])
        by_test true e l =
            elim (of_later (join c (cells j) k) n l) [ inl m ↦ joined m | inr m ↦ inr (inl (inl (eqb-true k j e), m)) ]
        by_test false e l = joined l

    pub taken_from : (ls : List ℕ) (c : ℕ → ℕ) → v < take_lanes cells n c ls k → Taken c ls
    taken_from [] c l = inl l
    taken_from (j ∷ js) c l = by_rest (taken_from js (raise (join c (cells j)) j n) l)
      where
        widen : Taken c (j ∷ []) → Taken c (j ∷ js)
        widen (inl m) = inl m
        widen (inr (inl (inl e, m))) = inr (inl (inl e, m))
        widen (inr (inl (inr e, m))) = absurd e
        widen (inr (inr (i, inl e, m))) = inr (inr (i, inl e, m))
        widen (inr (inr (i, inr e, m))) = absurd e

        by_rest : Taken (raise (join c (cells j)) j n) js → Taken c (j ∷ js)
        by_rest (inl m) = widen (one_from c j m)
        by_rest (inr (inl (e, m))) = inr (inl (inr e, m))
        by_rest (inr (inr (i, e, m))) = inr (inr (i, inr e, m))

    one_keeps : (c : ℕ → ℕ) (j : ℕ) → v < join c (cells j) k → v < raise (join c (cells j)) j n k
    one_keeps c j l = by_test (k == j)
      where
        by_test : (t : Bool) → v < cond t (later (join c (cells j) k) n) (join c (cells j) k)
        by_test true = below_first (join c (cells j) k) n l
        by_test false = l

    one_own : (c : ℕ → ℕ) (j : ℕ) → k ≡ j → v < n → v < raise (join c (cells j)) j n k
    one_own c j e l =
        subst (λ (t : Bool). v < cond t (later (join c (cells j) k) n) (join c (cells j) k)) (sym (eq-eqb k j e))
        (below_second (join c (cells j) k) n l)

    pub taken_keeps : (ls : List ℕ) (c : ℕ → ℕ) → v < c k → v < take_lanes cells n c ls k
    taken_keeps [] c l = l
    taken_keeps (j ∷ js) c l =
        taken_keeps js (raise (join c (cells j)) j n) (one_keeps c j (below_first (c k) (cells j k) l))

    pub taken_cell : (ls : List ℕ) (c : ℕ → ℕ) (i : ℕ) → IsMember i ls → v < cells i k → v < take_lanes cells n c ls k
    taken_cell [] c i m l = absurd m
    taken_cell (j ∷ js) c i (inl e) l =
        taken_keeps js (raise (join c (cells j)) j n)
        (one_keeps c j (below_second (c k) (cells j k) (subst (λ (h : ℕ). v < cells h k) e l)))
    taken_cell (j ∷ js) c i (inr m) l = taken_cell js (raise (join c (cells j)) j n) i m l

    pub taken_own : (ls : List ℕ) (c : ℕ → ℕ) → IsMember k ls → v < n → v < take_lanes cells n c ls k
    taken_own [] c m l = absurd m
    taken_own (j ∷ js) c (inl e) l = taken_keeps js (raise (join c (cells j)) j n) (one_own c j e l)
    taken_own (j ∷ js) c (inr m) l = taken_own js (raise (join c (cells j)) j n) m l

  -- A clock that took lines

  module _ (lines : ℕ → ℕ → ℕ) (k : ℕ) where
    pub lines_from : (ns : List ℕ) (c : ℕ → ℕ) → v < take_lines lines c ns k → (v < c k) ⊎ ((m : ℕ) × IsMember m ns × (v < lines m k))
    lines_from [] c l = inl l
    lines_from (n ∷ ns) c l = by_rest (lines_from ns (join c (lines n)) l)
      where
        by_rest : (v < join c (lines n) k) ⊎ ((m : ℕ) × IsMember m ns × (v < lines m k)) →
            (v < c k) ⊎ ((m : ℕ) × IsMember m (n ∷ ns) × (v < lines m k))
        by_rest (inl h) = elim (of_later (c k) (lines n k) h) [ inl m ↦ inl m | inr m ↦ inr (n, inl refl, m) ]
        by_rest (inr (m, e, h)) = inr (m, inr e, h)

    pub lines_keep : (ns : List ℕ) (c : ℕ → ℕ) → v < c k → v < take_lines lines c ns k
    lines_keep [] c l = l
    lines_keep (n ∷ ns) c l = lines_keep ns (join c (lines n)) (below_first (c k) (lines n k) l)

    pub lines_one : (ns : List ℕ) (c : ℕ → ℕ) (m : ℕ) → IsMember m ns → v < lines m k → v < take_lines lines c ns k
    lines_one [] c m e l = absurd e
    lines_one (n ∷ ns) c m (inl e) l =
        lines_keep ns (join c (lines n)) (below_second (c k) (lines n k) (subst (λ (h : ℕ). v < lines h k) e l))
    lines_one (n ∷ ns) c m (inr e) l = lines_one ns (join c (lines n)) m e l

    pub handed_from : (said : Statement) (c : ℕ → ℕ) → v < take_handed lines c said k → (v < c k) ⊎ ((m : ℕ) × (was_handed said m ≡ true) × (v < lines m k))
    handed_from (SubmitHanded q n) c l =
        elim (of_later (c k) (lines n k) l) [ inl m ↦ inl m | inr m ↦ inr (n, eq-eqb n n refl, m) ]
    handed_from other c l = inl l

    pub handed_keeps : (said : Statement) (c : ℕ → ℕ) → v < c k → v < take_handed lines c said k
    handed_keeps (SubmitHanded q n) c l = below_first (c k) (lines n k) l
    handed_keeps other c l = l

    pub handed_one : (said : Statement) (c : ℕ → ℕ) (m : ℕ) → was_handed said m ≡ true → v < lines m k → v < take_handed lines c said k
    handed_one (SubmitHanded q n) c m e l =
        below_second (c k) (lines n k) (subst (λ (h : ℕ). v < lines h k) (sym (eqb-true n m e)) l)
    handed_one other c m e l = never e

  -- A clock that took signals

  module _ (lines : ℕ → ℕ → ℕ) (signals : List SignalClock) (k : ℕ) where
    abbrev pub Released : List ℕ → (ℕ → ℕ) → Type 0
    Released ns c =
        (v < c k) ⊎ (((m : ℕ) × IsMember m ns × (v < lines m k))
        ⊎ ((r : SignalClock) × IsMember r signals × IsMember r.line ns × (v < r.clock k)))

    abbrev taken_if : SignalClock → (ℕ → ℕ) → ℕ → ℕ → ℕ
    taken_if x c n = if x.line == n then join c x.clock else c

    signal_from : (xs : List SignalClock) (c : ℕ → ℕ) (n : ℕ) → v < take_signal xs c n k → (v < c k) ⊎ ((r : SignalClock) × IsMember r xs × (r.line ≡ n) × (v < r.clock k))
    signal_from [] c n l = inl l
    signal_from (x ∷ xs) c n l = by_rest (signal_from xs (taken_if x c n) n l)
      where
        one : (b : Bool) → (x.line == n) ≡ b → v < (cond b (join c x.clock) c) k → (v < c k) ⊎ ((r : SignalClock) × IsMember r (x ∷ xs) × (r.line ≡ n) × (v < r.clock k))
        one true e m =
            elim (of_later (c k) (x.clock k) m) [ inl h ↦ inl h | inr h ↦ inr (x, inl refl, eqb-true x.line n e, h) ]
        one false e m = inl m

        by_rest : (v < taken_if x c n k) ⊎ ((r : SignalClock) × IsMember r xs × (r.line ≡ n) × (v < r.clock k)) →
            (v < c k) ⊎ ((r : SignalClock) × IsMember r (x ∷ xs) × (r.line ≡ n) × (v < r.clock k))
        by_rest (inl m) = one (x.line == n) refl m
        by_rest (inr (r, i, e, m)) = inr (r, inr i, e, m)

    signal_keeps : (xs : List SignalClock) (c : ℕ → ℕ) (n : ℕ) → v < c k → v < take_signal xs c n k
    signal_keeps [] c n l = l
    signal_keeps (x ∷ xs) c n l = signal_keeps xs (taken_if x c n) n (one (x.line == n))
      where
        one : (b : Bool) → v < (cond b (join c x.clock) c) k
        one true = below_first (c k) (x.clock k) l
        one false = l

    signal_one : (xs : List SignalClock) (c : ℕ → ℕ) (n : ℕ) (r : SignalClock) → IsMember r xs → r.line ≡ n → v < r.clock k → v < take_signal xs c n k
    signal_one [] c n r m e l = absurd m
    signal_one (x ∷ xs) c n r (inl q) e l =
        signal_keeps xs (taken_if x c n) n
        (subst (λ (b : Bool). v < (cond b (join c x.clock) c) k) (sym (eq-eqb x.line n (sym (ap (λ (y : SignalClock). y.line) q) ∙ e)))
        (below_second (c k) (x.clock k) (subst (λ (y : SignalClock). v < y.clock k) q l)))
    signal_one (x ∷ xs) c n r (inr m) e l = signal_one xs (taken_if x c n) n r m e l

    signals_from : (ns : List ℕ) (c : ℕ → ℕ) → v < take_signals signals c ns k → Released ns c
    signals_from [] c l = inl l
    signals_from (n ∷ ns) c l = by_rest (signals_from ns (take_signal signals c n) l)
      where
        by_rest : Released ns (take_signal signals c n) → Released (n ∷ ns) c
        by_rest (inl h) = elim (signal_from signals c n h) [ inl m ↦ inl m | inr t ↦ inr (inr (t.0, t.1, inl t.2, t.3)) ]
        by_rest (inr (inl (m, e, h))) = inr (inl (m, inr e, h))
        by_rest (inr (inr (r, i, j, h))) = inr (inr (r, i, inr j, h))

    signals_keep : (ns : List ℕ) (c : ℕ → ℕ) → v < c k → v < take_signals signals c ns k
    signals_keep [] c l = l
    signals_keep (n ∷ ns) c l = signals_keep ns (take_signal signals c n) (signal_keeps signals c n l)

    signals_one : (ns : List ℕ) (c : ℕ → ℕ) (r : SignalClock) → IsMember r signals → IsMember r.line ns → v < r.clock k → v < take_signals signals c ns k
    signals_one [] c r i m l = absurd m
    signals_one (n ∷ ns) c r i (inl e) l = signals_keep ns (take_signal signals c n) (signal_one signals c n r i e l)
    signals_one (n ∷ ns) c r i (inr m) l = signals_one ns (take_signal signals c n) r i m l

    pub released_from : (said : Statement) (ns : List ℕ) (c : ℕ → ℕ) → v < take_released lines signals c said ns k → Released ns c
    released_from said ns c = by (waits_for_signal said)
      where
        by : (b : Bool) → v < (cond b (take_signals signals c ns) (take_lines lines c ns)) k → Released ns c
        by true l = signals_from ns c l
        by false l = elim (lines_from lines k ns c l) [ inl h ↦ inl h | inr h ↦ inr (inl h) ]

    pub released_keep : (said : Statement) (ns : List ℕ) (c : ℕ → ℕ) → v < c k → v < take_released lines signals c said ns k
    released_keep said ns c l = by (waits_for_signal said)
      where
        by : (b : Bool) → v < (cond b (take_signals signals c ns) (take_lines lines c ns)) k
        by true = signals_keep ns c l
        by false = lines_keep lines k ns c l

    pub released_line : (said : Statement) (ns : List ℕ) (c : ℕ → ℕ) (m : ℕ) → waits_for_signal said ≡ false → IsMember m ns → v < lines m k → v < take_released lines signals c said ns k
    released_line said ns c m f e l =
        subst (λ (b : Bool). v < (cond b (take_signals signals c ns) (take_lines lines c ns)) k) (sym f) (lines_one lines k ns c m e l)

    pub released_signal : (said : Statement) (ns : List ℕ) (c : ℕ → ℕ) (r : SignalClock) → waits_for_signal said ≡ true → IsMember r signals → IsMember r.line ns → v < r.clock k → v < take_released lines signals c said ns k
    released_signal said ns c r f i e l =
        subst (λ (b : Bool). v < (cond b (take_signals signals c ns) (take_lines lines c ns)) k) (sym f) (signals_one ns c r i e l)

  -- Cells that were given a clock

  module _ (c : ℕ → ℕ) (j k : ℕ) where
    pub given_from : (ls : List ℕ) (cells : ℕ → ℕ → ℕ) → v < give_lanes cells c ls j k → (v < cells j k) ⊎ (IsMember j ls × (v < c k))
    given_from [] cells l = inl l
    given_from (i ∷ is) cells l = by_rest (given_from is (with_cell cells i c) l)
      where
        one : (t : Bool) → (j == i) ≡ t → v < cond t (join (cells j) c) (cells j) k → (v < cells j k) ⊎ (IsMember j (i ∷ is) × (v < c k))
        one true e m =
            elim (of_later (cells j k) (c k) m) [ inl h ↦ inl h | inr h ↦ inr (inl (eqb-true j i e), h) ]
        one false e m = inl m

        by_rest : (v < with_cell cells i c j k) ⊎ (IsMember j is × (v < c k)) → (v < cells j k) ⊎ (IsMember j (i ∷ is) × (v < c k))
        by_rest (inl m) = one (j == i) refl m
        by_rest (inr (m, l)) = inr (inr m, l)

    pub given_keeps : (ls : List ℕ) (cells : ℕ → ℕ → ℕ) → v < cells j k → v < give_lanes cells c ls j k
    given_keeps [] cells l = l
    given_keeps (i ∷ is) cells l = given_keeps is (with_cell cells i c) (one (j == i))
      where
        one : (t : Bool) → v < cond t (join (cells j) c) (cells j) k
        one true = below_first (cells j k) (c k) l
        one false = l

    pub given_one : (ls : List ℕ) (cells : ℕ → ℕ → ℕ) → IsMember j ls → v < c k → v < give_lanes cells c ls j k
    given_one [] cells m l = absurd m
    given_one (i ∷ is) cells (inl e) l =
        given_keeps is (with_cell cells i c)
        (subst (λ (t : Bool). v < cond t (join (cells j) c) (cells j) k) (sym (eq-eqb j i e)) (below_second (cells j k) (c k) l))
    given_one (i ∷ is) cells (inr m) l = given_one is (with_cell cells i c) m l

-- Clocks that are taken, raised and brought along the lines tell just what reaches a point: what every step keeps of
-- them.
use Rattle.std.proofs.Common.{◌≡◌, ◌⊎◌, ◌<◌, ◌≤◌, ◌+◌, Bool, true, false, ℕ, List, [], ◌∷◌, ◌++◌, cond, refl, sym, ◌∙◌, ap, subst, inl, inr, arith, Option, Some, None}
use Rattle.std.specs.Prelude.{◌==◌, ◌&&◌, ◌||◌, not, is_some, if◌then◌else◌}
use Rattle.std.proofs.lemmas.Bool.{or_cases, or_left, or_right, and_from, eqb-true, eq-eqb, ne_eqb}
use Rattle.vq_ground.specs.Lists.{has}
use Rattle.vq_ground.proofs.Bools.{never, and_false}
use Rattle.vq_capture.specs.declared.stage.Stage.{Stage}
use Rattle.vq_capture.specs.declared.statement.Statement.{Statement}
use Rattle.vq_capture.specs.declared.capture.Step.{Step}
use Rattle.vq_capture.specs.Masks.{meets}
use Rattle.vq_capture.specs.Releases.{releases}
use Rattle.vq_capture.specs.Points.{Point, points_of, points_of_step, takes, gives, IsMember}
use Rattle.vq_capture.specs.Before.{IsEdge, is_direct, are_of_one_queue, by_scopes, by_release, same_thread, is_cut, was_handed, steps_above}
use Rattle.vq_capture_laws.proofs.Cited.{AreRising, down, own_step, in_front, in_back, in_either, in_flat_map, from_flat_map}
use Rattle.vq_capture_touched.specs.declared.touch.StepLanes.{StepLanes}
use Rattle.vq_capture_check.specs.Lanes.{stage_number, taken}
use Rattle.vq_capture_check.specs.Clocks.{no_clock, take_lanes, give_lanes, with_line}
use Rattle.vq_capture_check.specs.declared.signals.Signal.{Signal}
use Rattle.vq_capture_check.specs.Watching.{SignalClock, ToldStep, tell, is_command_access, is_releasing, is_lasting, signal_of, ends_signal, waits_for_signal, without_ended, with_signal, take_released, whole, clock_of, cut_with, lines_with, signals_with}
use Rattle.vq_capture_delivery.specs.Delivery.{raised}
use Rattle.vq_capture_clocks_laws.specs.Tidy.{AreTidy}
use Rattle.vq_capture_clocks_laws.proofs.Cited.{in_filter, of_filter, rising_front, those_above, front_below, in_front_of, same_step}
use Rattle.vq_capture_clocks_laws.proofs.Cited.{Cause, Scopes, Signals, Release, Thread, Telling, Cut, cause_of, edge_by_release}
use Rattle.vq_capture_clocks_laws.proofs.Cited.{IsPoint, IsPlain, the_access, none_some, is_access, no_stage_of, kinds, whole_in, none_release, not_handed, not_after, follows_none, access_cuts_none}
use Rattle.vq_capture_clocks_laws.proofs.Cited.{in_has, has_in, releasing, lasting_releases, ReleasedKind, released_kind}
use Rattle.vq_capture_clocks_laws.proofs.Cited.{taken_from, taken_cell, taken_own, Released, released_from, released_keep, released_line, released_signal, handed_from, handed_keeps, handed_one, given_from, given_keeps, given_one}
use Rattle.vq_capture_delivery_laws.proofs.Raising.{raised_from, raised_keeps, raised_own}
pub use Rattle.vq_capture_delivery_laws.proofs.PassLanes.{Reaches, opened, passed, reaches_down, Within, ByScopes, BySignals, ByThread, ByTelling, Lanes, gives_in, takes_in, lane_in, Pass, IsPart, Fits}

module _ (steps : List Step) (Opens : Point → Point → Type 0) (lanes : Lanes) (rising : AreRising steps) (tidy : AreTidy steps) (fits : Fits steps Opens lanes) where
  abbrev pub Reach : Point → Point → Type 0
  Reach x y = Reaches steps Opens x y

  -- a point of some steps
  abbrev pub In : List Step → Point → Type 0
  In pre x = IsMember x.step pre × IsPoint x

  -- x is above the last cut, or known to a cell
  abbrev pub Knows : Pass → Point → ℕ → Type 0
  Knows w x j = (x.step.line < w.cut) ⊎ ((k : ℕ) × IsMember k (lanes.asks x) × (x.step.line < w.cells j k))

  -- a signal was ended below its line
  abbrev pub Ended : List Step → Step → Signal → Type 0
  Ended pre z g = (e : Step) × IsMember e pre × (z.line < e.line) × (ends_signal e.statement g ≡ true)

  -- the clock of a signal is kept, and tells what is before it
  abbrev pub IsSignaled : Pass → Point → Signal → Type 0
  IsSignaled w z g =
      (r : SignalClock) × IsMember r w.signals × (r.line ≡ z.step.line) × (r.signal ≡ g)
      × ((x : Point) → In steps x → IsPlain x → Reach x z →
      (x.step.line < w.cut) ⊎ ((k : ℕ) × IsMember k (lanes.asks x) × (x.step.line < r.clock k)))

  -- what a step leaves tells what is before the points above
  pub record Good (pre : List Step) (w : Pass) : Type 0 where
    pub cell : (j k : ℕ) (x : Point) → In steps x → IsMember k (lanes.asks x) → x.step.line < w.cells j k →
        (z : Point) × In pre z × (z.stage ≡ None) × IsMember j (lanes.brings z) × Reach x z
    pub kept : (n k : ℕ) (x : Point) → In steps x → IsMember k (lanes.asks x) → x.step.line < w.lines n k →
        (z : Point) × In pre z × (z.stage ≡ None) × (z.step.line ≡ n) × Reach x z
    pub signaled : (r : SignalClock) → IsMember r w.signals → (k : ℕ) (x : Point) → In steps x → IsMember k (lanes.asks x) →
        x.step.line < r.clock k → (z : Point) × In pre z × (z.stage ≡ None) × (z.step.line ≡ r.line) × Reach x z
    pub cut : (n : ℕ) → n < w.cut → (s : Step) × IsMember s pre × (is_cut s.statement ≡ true) × (s.line ≡ w.cut)
    pub whole_known : (z x : Point) → In pre z → z.stage ≡ None → In steps x → IsPlain x → Reach x z →
        (j : ℕ) → IsMember j (lanes.brings z) → Knows w x j
    pub part_known : (z x : Point) (t : Stage) → In pre z → z.stage ≡ Some t → In steps x → IsPlain x → Reach x z →
        (j : ℕ) → IsMember j (gives_in lanes z) → IsMember j (lanes.asks x) ⊎ Knows w x j
    pub line_known : (z x : Point) → In pre z → is_lasting z.step.statement ≡ true → In steps x → IsPlain x →
        Reach x z →
        (x.step.line < w.cut) ⊎ ((k : ℕ) × IsMember k (lanes.asks x) × (x.step.line < w.lines z.step.line k))
    pub signal_known : (z : Point) (g : Signal) → In pre z → signal_of z.step.statement ≡ Some g →
        Ended pre z.step g ⊎ IsSignaled w z g
    pub cut_known : (s : Step) → IsMember s pre → is_cut s.statement ≡ true → s.line ≤ w.cut

  -- the point from which a path takes its last edge
  last_edge : (x y : Point) → In steps x → Reach x y → (z : Point) × In steps z × (((x ≡ z) × Opens x y) ⊎ Reach x z) × (is_direct steps z y ≡ true)
  last_edge x y m (opened e o) = (x, m, inl (refl, o), e.direct)
  last_edge x y m (passed {y = z} b e) = (z, of_path b, inr b, e.direct)
    where
      of_points : IsMember z (points_of steps) → In steps z
      of_points n =
          let r = from_flat_map points_of_step z steps n in
          let s = own_step r.0 r.0.statement z r.2 in
          (subst (λ (t : Step). IsMember t steps) (sym s) r.1, subst (λ (t : Step). IsMember z (points_of_step t)) (sym s) r.2)

      of_path : Reach x z → In steps z
      of_path (opened f o) = of_points f.point
      of_path (passed c f) = of_points f.point

  pub point_in : (x : Point) → In steps x → IsMember x (points_of steps)
  point_in x m = in_flat_map points_of_step x x.step steps m.0 m.1

  -- One step

  module _ (pre post : List Step) (s : Step) (all : steps ≡ pre ++ s ∷ post) (w : Pass) (g : Good pre w) where
    rises : AreRising (pre ++ s ∷ post)
    rises = subst (λ (l : List Step). AreRising l) all rising

    pub step_in : IsMember s steps
    step_in = subst (λ (l : List Step). IsMember s l) (sym all) (in_back s pre (s ∷ post) (inl refl))

    pub above_in : (z : Step) → IsMember z pre → IsMember z steps
    above_in z m = subst (λ (l : List Step). IsMember z l) (sym all) (in_front z pre (s ∷ post) m)

    pub is_above : (z : Step) → IsMember z pre → z.line < s.line
    is_above z m = front_below pre post s z rises m

    in_pre : (z : Point) → In steps z → z.step.line < s.line → In pre z
    in_pre z m l =
        (in_front_of pre post s z.step rises (subst (λ (k : List Step). IsMember z.step k) all m.0) l, m.1)

    told_above : steps_above steps s.line ≡ pre
    told_above = ap (λ (l : List Step). steps_above l s.line) all ∙ those_above pre post s rises

    abbrev b : ToldStep
    b = tell pre s

    abbrev at : StepLanes
    at = lanes.at s

    -- what releases a point of the step
    abbrev ReleasedBy : ℕ → Type 0
    ReleasedBy n = IsMember n b.released ⊎ (was_handed s.statement n ≡ true)

    by_released : (z y : Point) → y.step ≡ s → ReleasedBy z.step.line → by_release steps z y ≡ true
    by_released z y e r =
        subst (λ (t : Step). (has (releases (steps_above steps t.line) t.queue t.statement) z.step.line || was_handed t.statement z.step.line) ≡ true) (sym e) (by r)
      where
        by : ReleasedBy z.step.line → (has (releases (steps_above steps s.line) s.queue s.statement) z.step.line || was_handed s.statement z.step.line) ≡ true
        by (inl m) =
            or_left (has (releases (steps_above steps s.line) s.queue s.statement) z.step.line) (was_handed s.statement z.step.line)
            (ap (λ (l : List Step). has (releases l s.queue s.statement) z.step.line) told_above ∙ has_in b.released z.step.line m)
        by (inr h) =
            or_right (has (releases (steps_above steps s.line) s.queue s.statement) z.step.line) (was_handed s.statement z.step.line) h

    released_of : (z y : Point) → y.step ≡ s → by_release steps z y ≡ true → ReleasedBy z.step.line
    released_of z y e h =
        elim (or_cases (has (releases (steps_above steps s.line) s.queue s.statement) z.step.line) (was_handed s.statement z.step.line)
        (subst (λ (t : Step). (has (releases (steps_above steps t.line) t.queue t.statement) z.step.line || was_handed t.statement z.step.line) ≡ true) e h)) [
          | inl r ↦ inl (in_has b.released z.step.line (sym (ap (λ (l : List Step). has (releases l s.queue s.statement) z.step.line) told_above) ∙ r))
          | inr r ↦ inr r
        ]

    pre_rises : AreRising pre
    pre_rises = rising_front pre (s ∷ post) rises

    -- what releases it may do so
    may_release : (z : Point) → In steps z → ReleasedBy z.step.line → is_releasing z.step.statement ≡ true
    may_release z m (inl r) =
        let t = releasing pre s.queue s.statement z.step.line r in
        subst (λ (u : Step). is_releasing u.statement ≡ true)
        (same_step steps t.0 z.step rising (above_in t.0 t.1) m.0 t.2) t.3
    may_release z m (inr h) = lasting_releases z.step.statement (tidy.handed z.step s m.0 step_in h)

    edge_released : (z y : Point) → y.step ≡ s → z.step.line < s.line → ReleasedBy z.step.line → is_direct steps z y ≡ true
    edge_released z y e l r =
        edge_by_release steps z y (subst (λ (t : Step). z.step.line < t.line) (sym e) l) (by_released z y e r)

    -- what comes of an edge from a cut
    from_cut : (x y z : Point) → In pre z → IsPlain x → ((x ≡ z) × Opens x y) ⊎ Reach x z → is_cut z.step.statement ≡ true → x.step.line < w.cut
    from_cut x y z m p (inl (e, o)) h =
        never (sym p.no_cut ∙ subst (λ (u : Point). is_cut u.step.statement ≡ true) (sym e) h)
    from_cut x y z m p (inr c) h =
        let l = reaches_down steps Opens x z c in let k = g.cut_known z.step m.0 h in omega arith

    -- A step that isn't an access of a command

    module _ (no_access : is_command_access s.statement ≡ false) where
      abbrev y : Point
      y = whole s

      pub y_in : In steps y
      y_in = (step_in, whole_in s s.statement no_access)

      abbrev lanes_clock : ℕ → ℕ
      lanes_clock = take_lanes w.cells s.line no_clock (taken at y)

      abbrev lines_clock : ℕ → ℕ
      lines_clock = take_released w.lines w.signals lanes_clock s.statement b.released

      abbrev order_clock : ℕ → ℕ
      order_clock = clock_of w.cells w.lines w.signals at b

      abbrev clock : ℕ → ℕ
      clock = raised order_clock s.line (lanes.raises y)

      not_both : (x : Point) → (is_some x.stage && is_some y.stage) ≡ false
      not_both x = and_false (is_some x.stage)

      edge_in : (x : Point) → is_direct steps x y ≡ true → IsEdge steps x y
      edge_in x d = record { point = point_in y y_in; direct = d }

      -- a point that the clock knows reaches the step
      pub whole_sound : (x : Point) (k : ℕ) → In steps x → IsMember k (lanes.asks x) → x.step.line < clock k → Reach x y
      whole_sound x k m n l = by_raised (raised_from x.step.line k s.line (lanes.raises y) order_clock l)
        where
          released : (i : ℕ) → ReleasedBy i → x.step.line < w.lines i k → Reach x y
          released i r h =
              let f = g.kept i k x m n h in
              passed f.4 (edge_in f.0 (edge_released f.0 y refl (is_above f.0.step f.1.0) (subst (λ (i : ℕ). ReleasedBy i) (sym f.3) r)))

          by_lanes : (x.step.line < no_clock k) ⊎ ((IsMember k (taken at y) × (x.step.line < s.line)) ⊎ ((j : ℕ) × IsMember j (taken at y) × (x.step.line < w.cells j k))) → Reach x y
          by_lanes (inl h) = absurd (omega arith)
          by_lanes (inr (inl (t, h))) =
              let o = fits.opens x y k m.0 m.1 step_in h refl n (inl t) in opened (edge_in x o.0) o.1
          by_lanes (inr (inr (j, t, h))) =
              let f = g.cell j k x m n h in
              passed f.4 (edge_in f.0 (fits.leads f.0 y j (above_in f.0.step f.1.0) step_in (is_above f.0.step f.1.0) (not_both f.0) f.3 t))

          by_signal : (r : SignalClock) → IsMember r w.signals → IsMember r.line b.released → x.step.line < r.clock k → Reach x y
          by_signal r i j h =
              let f = g.signaled r i k x m n h in
              passed f.4 (edge_in f.0 (edge_released f.0 y refl (is_above f.0.step f.1.0) (subst (λ (i : ℕ). ReleasedBy i) (sym f.3) (inl j))))

          by_lines : Released x.step.line w.lines w.signals k b.released lanes_clock → Reach x y
          by_lines (inl h) = by_lanes (taken_from x.step.line w.cells s.line k (taken at y) no_clock h)
          by_lines (inr (inl (i, r, h))) = released i (inl r) h
          by_lines (inr (inr (r, i, j, h))) = by_signal r i j h

          by_handed : (x.step.line < lines_clock k) ⊎ ((i : ℕ) × (was_handed s.statement i ≡ true) × (x.step.line < w.lines i k)) → Reach x y
          by_handed (inl h) = by_lines (released_from x.step.line w.lines w.signals k s.statement b.released lanes_clock h)
          by_handed (inr (i, r, h)) = released i (inr r) h

          by_raised : (x.step.line < order_clock k) ⊎ (IsMember k (lanes.raises y) × (x.step.line < s.line)) → Reach x y
          by_raised (inl h) = by_handed (handed_from x.step.line w.lines k s.statement lines_clock h)
          by_raised (inr (t, h)) =
              let o = fits.opens x y k m.0 m.1 step_in h refl n (inr t) in opened (edge_in x o.0) o.1

      abbrev pub WholeKnown : Point → Type 0
      WholeKnown x =
          (x.step.line < w.cut) ⊎ ((is_cut s.statement ≡ true) ⊎ ((k : ℕ) × IsMember k (lanes.asks x) × (x.step.line < clock k)))

      -- what the clock of its order says, it says
      keeps_order : (x : Point) (k : ℕ) → x.step.line < order_clock k → x.step.line < clock k
      keeps_order x k l = raised_keeps x.step.line k s.line (lanes.raises y) order_clock l

      from_lanes : (x : Point) (k : ℕ) → x.step.line < lanes_clock k → x.step.line < clock k
      from_lanes x k l =
          keeps_order x k (handed_keeps x.step.line w.lines k s.statement lines_clock (released_keep x.step.line w.lines w.signals k s.statement b.released lanes_clock l))

      -- a plain point before the step is known
      pub whole_complete : (x : Point) → In steps x → IsPlain x → Reach x y → WholeKnown x
      whole_complete x m p c = let e = last_edge x y m c in by e.0 e.1 e.2 e.3
        where
          own : (k : ℕ) → IsMember k (lanes.asks x) → IsMember k (taken at y) ⊎ IsMember k (lanes.raises y) → WholeKnown x
          own k n (inl t) =
              inr (inr (k, n, from_lanes x k (taken_own x.step.line w.cells s.line k (taken at y) no_clock t (reaches_down steps Opens x y c))))
          own k n (inr t) =
              inr (inr (k, n, raised_own x.step.line k s.line (lanes.raises y) order_clock t (reaches_down steps Opens x y c)))

          known : (j : ℕ) → IsMember j (taken at y) → Knows w x j → WholeKnown x
          known j t (inl h) = inl h
          known j t (inr (k, n, h)) =
              inr (inr (k, n, from_lanes x k (taken_cell x.step.line w.cells s.line k (taken at y) no_clock j t h)))

          shared : (z : Point) → In pre z → ((x ≡ z) × Opens x y) ⊎ Reach x z → Within z y → WholeKnown x
          shared z n (inl (e, o)) h =
              let r = fits.asks x y m.0 m.1 refl o (subst (λ (u : Point). Within u y) (sym e) h) in own r.0 r.1 r.2
          shared z n (inr d) h = of_lane (fits.shares z y h)
            where
              of_lane : (j : ℕ) × IsMember j (gives_in lanes z) × IsMember j (taken at y) → WholeKnown x
              of_lane (j, i, t) = elim (kinds z n.1) [
                | inl k ↦ known j t (g.whole_known z x n k.0 m p d j (fits.gives z j i))
                | inr k ↦ elim (g.part_known z x k.0 n k.1 m p d j i) [ inl h ↦ own j h (inl t) | inr h ↦ known j t h ]
              ]

          by_handed : (z : Point) → In pre z → Reach x z → was_handed s.statement z.step.line ≡ true →
              (x.step.line < w.cut) ⊎ ((k : ℕ) × IsMember k (lanes.asks x) × (x.step.line < w.lines z.step.line k)) → WholeKnown x
          by_handed z n d r (inl h) = inl h
          by_handed z n d r (inr (k, i, h)) = inr (inr (k, i, keeps_order x k (handed_one x.step.line w.lines k s.statement lines_clock z.step.line r h)))

          by_line : (z : Point) → waits_for_signal s.statement ≡ false → IsMember z.step.line b.released →
              (x.step.line < w.cut) ⊎ ((k : ℕ) × IsMember k (lanes.asks x) × (x.step.line < w.lines z.step.line k)) → WholeKnown x
          by_line z f r (inl h) = inl h
          by_line z f r (inr (k, i, h)) =
              inr (inr (k, i, keeps_order x k (handed_keeps x.step.line w.lines k s.statement lines_clock (released_line x.step.line w.lines w.signals k s.statement b.released lanes_clock z.step.line f r h))))

          by_signal : (z : Point) (g : Signal) → In pre z → Reach x z → waits_for_signal s.statement ≡ true → IsMember z.step.line b.released → IsSignaled w z g → WholeKnown x
          by_signal z g n d f r (c, i, e, q, t) = known_by (t x m p d)
            where
              known_by : (x.step.line < w.cut) ⊎ ((k : ℕ) × IsMember k (lanes.asks x) × (x.step.line < c.clock k)) → WholeKnown x
              known_by (inl h) = inl h
              known_by (inr (k, j, h)) =
                  inr (inr (k, j, keeps_order x k (handed_keeps x.step.line w.lines k s.statement lines_clock (released_signal x.step.line w.lines w.signals k s.statement b.released lanes_clock c f i (subst (λ (l : ℕ). IsMember l b.released) (sym e) r) h))))

          released : (z : Point) → In steps z → In pre z → ((x ≡ z) × Opens x y) ⊎ Reach x z → ReleasedBy z.step.line → WholeKnown x
          released z i n (inl (e, o)) r =
              never (sym p.releases_none ∙ subst (λ (u : Point). is_releasing u.step.statement ≡ true) (sym e) (may_release z i r))
          released z i n (inr d) (inr h) =
              by_handed z n d h (g.line_known z x n (tidy.handed z.step s i.0 step_in h) m p d)
          released z i n (inr d) (inl r) = of_kind (released_kind pre s.queue s.statement z.step pre_rises n.0 one (λ e x j q. tidy.gone e s x (above_in e j) step_in (is_above e j) q) r)
            where
              one : (t : Step) → IsMember t pre → t.line ≡ z.step.line → t ≡ z.step
              one t j e = same_step steps t z.step rising (above_in t j) i.0 e

              of_kind : ReleasedKind pre s.statement z.step → WholeKnown x
              of_kind (inl (f, l)) = by_line z f r (g.line_known z x n l m p d)
              of_kind (inr (f, g', e, u)) = elim (g.signal_known z g' n e) [
                | inl (o, j, l, h) ↦ absurd (u o j l h)
                | inr t ↦ by_signal z g' n d f r t
              ]

          cuts : (z : Point) → In pre z → ((x ≡ z) × Opens x y) ⊎ Reach x z → (is_cut z.step.statement ≡ true) ⊎ (is_cut s.statement ≡ true) → WholeKnown x
          cuts z n f (inl h) = inl (from_cut x y z n p f h)
          cuts z n f (inr h) = inr (inl h)

          by_cause : (z : Point) → In steps z → In pre z → ((x ≡ z) × Opens x y) ⊎ Reach x z → Cause steps z y → WholeKnown x
          by_cause z i n f (Scopes q o h) = shared z n f (ByScopes q h)
          by_cause z i n f (Signals q o h) = shared z n f (BySignals q o h)
          by_cause z i n f (Release h) = released z i n f (released_of z y refl h)
          by_cause z i n f (Thread h) = shared z n f (ByThread h)
          by_cause z i n f (Telling h) = shared z n f (ByTelling h)
          by_cause z i n f (Cut h) = cuts z n f (or_cases (is_cut z.step.statement) (is_cut s.statement) h)

          by : (z : Point) → In steps z → ((x ≡ z) × Opens x y) ⊎ Reach x z → is_direct steps z y ≡ true → WholeKnown x
          by z i f d = by_cause z i (in_pre z i (down steps z y d)) f (cause_of steps z y d)

    -- An access of a command, at a stage

    module _ (t : Stage) (yin : IsPoint (record { step = s; stage = Some t })) (access : is_command_access s.statement ≡ true) where
      abbrev point : Point
      point = record { step = s; stage = Some t }

      abbrev lane : ℕ
      lane = at.queue + stage_number t

      part : IsPart steps point t
      part = record { there = step_in; stage = refl; access = access }

      no_thread : s.thread ≡ None
      no_thread = tidy.thread s step_in access

      is_lane : (k : ℕ) → IsMember k (takes_in lanes point) → k ≡ lane
      is_lane k m = fits.takes_only point t part k m

      -- a point that the stage's cell knows is before the access
      pub part_sound : (x : Point) (k : ℕ) → In steps x → IsMember k (lanes.asks x) → x.step.line < w.cells lane k → Reach x point
      part_sound x k m n l =
          let f = g.cell lane k x m n l in
          passed f.4 (record {
            point = point_in point (step_in, yin);
            direct = fits.leads f.0 point lane (above_in f.0.step f.1.0) step_in (is_above f.0.step f.1.0) (alone f.0 f.2) f.3 (fits.takes_one point t part);
          })
        where
          alone : (z : Point) → z.stage ≡ None → (is_some z.stage && true) ≡ false
          alone z e = ap (λ (o : Option Stage). is_some o && true) e

      abbrev pub PartKnown : Point → Type 0
      PartKnown x =
          (x.step.line < w.cut) ⊎ (((by_scopes x point ≡ true) × IsMember lane (lanes.asks x))
          ⊎ ((k : ℕ) × IsMember k (lanes.asks x) × (x.step.line < w.cells lane k)))

      -- a plain point before the access is known
      pub part_complete : (x : Point) → In steps x → IsPlain x → Reach x point → PartKnown x
      part_complete x m p c = let e = last_edge x point m c in by e.0 e.1 e.2 e.3
        where
          -- scopes meet with no access of a command
          scoped : (z : Point) → In pre z → ((x ≡ z) × Opens x point) ⊎ Reach x z → z.stage ≡ None → by_scopes z point ≡ true → Within z point → PartKnown x
          scoped z n (inl (e, i)) o h r =
              let there = subst (λ (u : Point). by_scopes u point ≡ true) (sym e) h in
              inr (inl (there, fits.scoped x point t part (subst (λ (u : Point). u.stage ≡ None) (sym e) o) there))
          scoped z n (inr d) o h r =
              let f = fits.shares z point r in
              let there = subst (λ (k : ℕ). IsMember k (lanes.brings z)) (is_lane f.0 f.2) (fits.gives z f.0 f.1) in
              elim (g.whole_known z x n o m p d lane there) [ inl k ↦ inl k | inr k ↦ inr (inr k) ]

          no_stage : (z : Point) → (is_some z.stage && true) ≡ false → z.stage ≡ None
          no_stage z = by z.stage refl
            where
              by : (o : Option Stage) → z.stage ≡ o → (is_some o && true) ≡ false → o ≡ None
              by None e h = refl
              by (Some u) e h = never (sym h)

          no_release : (z : Point) → ReleasedBy z.step.line → ⊥
          no_release z (inl r) =
              subst (λ (l : List ℕ). IsMember z.step.line l) (none_release point t refl access pre s.queue) r
          no_release z (inr r) = never (sym (not_handed point t refl access z.step.line) ∙ r)

          none_same : (o : Option ℕ) → same_thread o None ≡ false
          none_same (Some h) = refl
          none_same None = refl

          cuts : (z : Point) → In pre z → ((x ≡ z) × Opens x point) ⊎ Reach x z → (is_cut z.step.statement ≡ true) ⊎ (is_cut s.statement ≡ true) → PartKnown x
          cuts z n f (inl h) = inl (from_cut x point z n p f h)
          cuts z n f (inr h) = never (sym (access_cuts_none point t refl access) ∙ h)

          scopes : (z : Point) → are_of_one_queue z point ≡ true → (is_some z.stage && true) ≡ false → meets (gives z) (takes point) ≡ true → by_scopes z point ≡ true
          scopes z q o h =
              and_from (are_of_one_queue z point && not (is_some z.stage && true)) (meets (gives z) (takes point))
              (and_from (are_of_one_queue z point) (not (is_some z.stage && true)) q (ap (λ (b : Bool). not b) o)) h

          by_cause : (z : Point) → In pre z → ((x ≡ z) × Opens x point) ⊎ Reach x z → Cause steps z point → PartKnown x
          by_cause z n f (Scopes q o h) = scoped z n f (no_stage z o) (scopes z q o h) (ByScopes q h)
          by_cause z n f (Signals q o h) = never (sym (follows_none point t refl access) ∙ h)
          by_cause z n f (Release h) = absurd (no_release z (released_of z point refl h))
          by_cause z n f (Thread h) =
              never (sym (ap (λ (o : Option ℕ). same_thread z.step.thread o) no_thread ∙ none_same z.step.thread) ∙ h)
          by_cause z n f (Telling h) = never (sym (not_after point t refl access z.step.thread) ∙ h)
          by_cause z n f (Cut h) = cuts z n f (or_cases (is_cut z.step.statement) (is_cut s.statement) h)

          by : (z : Point) → In steps z → ((x ≡ z) × Opens x point) ⊎ Reach x z → is_direct steps z point ≡ true → PartKnown x
          by z i f d = by_cause z (in_pre z i (down steps z point d)) f (cause_of steps z point d)

      -- so it is at the lane that the access gives
      pub part_gives : (x : Point) → PartKnown x → (j : ℕ) → IsMember j (gives_in lanes point) → IsMember j (lanes.asks x) ⊎ Knows w x j
      part_gives x k j m = by k
        where
          same : j ≡ lane
          same = fits.gives_only point t part j m

          by : PartKnown x → IsMember j (lanes.asks x) ⊎ Knows w x j
          by (inl l) = inr (inl l)
          by (inr (inl h)) = inl (subst (λ (i : ℕ). IsMember i (lanes.asks x)) (sym same) h.1)
          by (inr (inr h)) = inr (inr (subst (λ (i : ℕ). (k : ℕ) × IsMember k (lanes.asks x) × (x.step.line < w.cells i k)) (sym same) h))

    -- What the step leaves

    abbrev clk : ℕ → ℕ
    clk = raised (clock_of w.cells w.lines w.signals at b) s.line (lanes.raises (whole s))

    abbrev pub next : Pass
    next = record {
      cut = cut_with w.cut s;
      cells = if is_command_access s.statement then w.cells else give_lanes w.cells clk (lanes.brings (whole s));
      lines = lines_with w.lines s clk;
      signals = signals_with w.signals s clk;
    }

    abbrev pub more_steps : List Step
    more_steps = pre ++ s ∷ []

    in_more : (z : Point) → In pre z → In more_steps z
    in_more z m = (in_front z.step pre (s ∷ []) m.0, m.1)

    last_in : is_command_access s.statement ≡ false → In more_steps (whole s)
    last_in c = (in_back s pre (s ∷ []) (inl refl), whole_in s s.statement c)

    sort : (z : Step) → IsMember z more_steps → IsMember z pre ⊎ (z ≡ s)
    sort z m = elim (in_either z pre (s ∷ []) m) [ inl n ↦ inl n | inr n ↦ inr (one n) ]
      where
        one : IsMember z (s ∷ []) → z ≡ s
        one (inl e) = e
        one (inr n) = absurd n

    pub releases_whole : is_releasing s.statement ≡ true → is_command_access s.statement ≡ false
    releases_whole h = by (is_command_access s.statement) refl
      where
        by : (c : Bool) → is_command_access s.statement ≡ c → c ≡ false
        by false e = refl
        by true e =
            let r = the_access s.statement e in
            never (sym (ap (λ (x : Statement). is_releasing x) r.2) ∙ h)

    signals_whole : (g : Signal) → signal_of s.statement ≡ Some g → is_command_access s.statement ≡ false
    signals_whole g e = by (is_command_access s.statement) refl
      where
        none : None ≡ Some g → ⊥
        none q = cc

        by : (c : Bool) → is_command_access s.statement ≡ c → c ≡ false
        by false f = refl
        by true f =
            let r = the_access s.statement f in
            absurd (none (sym (ap (λ (x : Statement). signal_of x) r.2) ∙ e))

    pub cut_whole : is_cut s.statement ≡ true → is_command_access s.statement ≡ false
    cut_whole h = by (is_command_access s.statement) refl
      where
        by : (c : Bool) → is_command_access s.statement ≡ c → c ≡ false
        by false e = refl
        by true e =
            let r = the_access s.statement e in
            never (sym (ap (λ (x : Statement). is_cut x) r.2) ∙ h)

    -- The cut rises

    cut_grows : (n : ℕ) → n < w.cut → n < next.cut
    cut_grows n l = by (is_cut s.statement)
      where
        by : (t : Bool) → n < cond t s.line w.cut
        by true = let f = g.cut n l in let a = is_above f.0 f.1 in let e = f.3 in omega arith
        by false = l

    cut_here : (n : ℕ) → n < s.line → is_cut s.statement ≡ true → n < next.cut
    cut_here n l e = subst (λ (t : Bool). n < cond t s.line w.cut) (sym e) l

    next_cut : (n : ℕ) → n < next.cut → (z : Step) × IsMember z more_steps × (is_cut z.statement ≡ true) × (z.line ≡ next.cut)
    next_cut n = by (is_cut s.statement) refl
      where
        by : (t : Bool) → is_cut s.statement ≡ t → n < cond t s.line w.cut →
            (z : Step) × IsMember z more_steps × (is_cut z.statement ≡ true) × (z.line ≡ cond t s.line w.cut)
        by true e l = (s, in_back s pre (s ∷ []) (inl refl), e, refl)
        by false e l = let f = g.cut n l in (f.0, in_front f.0 pre (s ∷ []) f.1, f.2, f.3)

    next_cut_known : (z : Step) → IsMember z more_steps → is_cut z.statement ≡ true → z.line ≤ next.cut
    next_cut_known z m h = elim (sort z m) [ inl n ↦ old n | inr e ↦ here e ]
      where
        old : IsMember z pre → z.line ≤ next.cut
        old n = by (is_cut s.statement)
          where
            by : (t : Bool) → z.line ≤ cond t s.line w.cut
            by true = let a = is_above z n in omega arith
            by false = g.cut_known z n h

        here : z ≡ s → z.line ≤ next.cut
        here e =
            let c = subst (λ (t : Step). is_cut t.statement ≡ true) e h in
            let l = ap (λ (t : Step). t.line) e in
            subst (λ (t : Bool). z.line ≤ cond t s.line w.cut) (sym c) (omega arith)

    -- The cells

    next_cell : (j k : ℕ) (x : Point) → In steps x → IsMember k (lanes.asks x) → x.step.line < next.cells j k →
        (z : Point) × In more_steps z × (z.stage ≡ None) × IsMember j (lanes.brings z) × Reach x z
    next_cell j k x m n = by (is_command_access s.statement) refl
      where
        old : x.step.line < w.cells j k → (z : Point) × In more_steps z × (z.stage ≡ None) × IsMember j (lanes.brings z) × Reach x z
        old l = let f = g.cell j k x m n l in (f.0, in_more f.0 f.1, f.2, f.3, f.4)

        by : (t : Bool) → is_command_access s.statement ≡ t →
            x.step.line < (cond t w.cells (give_lanes w.cells clk (lanes.brings (whole s)))) j k →
            (z : Point) × In more_steps z × (z.stage ≡ None) × IsMember j (lanes.brings z) × Reach x z
        by true e l = old l
        by false e l = elim (given_from x.step.line clk j k (lanes.brings (whole s)) w.cells l) [
          | inl h ↦ old h
          | inr h ↦ (whole s, last_in e, refl, h.0, whole_sound e x k m n h.1)
        ]

    cell_grows : (j k n : ℕ) → n < w.cells j k → n < next.cells j k
    cell_grows j k n l = by (is_command_access s.statement)
      where
        by : (t : Bool) → n < (cond t w.cells (give_lanes w.cells clk (lanes.brings (whole s)))) j k
        by true = l
        by false = given_keeps n clk j k (lanes.brings (whole s)) w.cells l

    knows_on : (x : Point) (j : ℕ) → Knows w x j → Knows next x j
    knows_on x j (inl l) = inl (cut_grows x.step.line l)
    knows_on x j (inr (k, n, l)) = inr (k, n, cell_grows j k x.step.line l)

    -- the new point, at the lanes that it gives
    whole_knows : (c : is_command_access s.statement ≡ false) (x : Point) → In steps x → IsPlain x → Reach x (whole s) → (j : ℕ) → IsMember j (lanes.brings (whole s)) → Knows next x j
    whole_knows c x m p d j i = by (whole_complete c x m p d)
      where
        by : WholeKnown c x → Knows next x j
        by (inl l) = inl (cut_grows x.step.line l)
        by (inr (inl e)) = inl (cut_here x.step.line (reaches_down steps Opens x (whole s) d) e)
        by (inr (inr (k, n, l))) =
            inr (
              k,
              n,
              subst (λ (t : Bool). x.step.line < (cond t w.cells (give_lanes w.cells clk (lanes.brings (whole s)))) j k) (sym c)
                  (given_one x.step.line clk j k (lanes.brings (whole s)) w.cells i l),
            )

    next_whole : (z x : Point) → In more_steps z → z.stage ≡ None → In steps x → IsPlain x → Reach x z → (j : ℕ) → IsMember j (lanes.brings z) → Knows next x j
    next_whole z x m o i p d j n = elim (sort z.step m.0) [
      | inl k ↦ knows_on x j (g.whole_known z x (k, m.1) o i p d j n)
      | inr e ↦ here e
    ]
      where
        here : z.step ≡ s → Knows next x j
        here e =
            let same : z ≡ whole s = (λ h. record { step = e h; stage = o h }) in
            whole_knows (not_access same) x i p (subst (λ (u : Point). Reach x u) same d) j (subst (λ (u : Point). IsMember j (lanes.brings u)) same n)
          where
            not_access : z ≡ whole s → is_command_access s.statement ≡ false
            not_access q = elim (kinds (whole s) (subst (λ (u : Point). IsPoint u) q m.1)) [
              | inl k ↦ k.1
              | inr k ↦ absurd (none_some k.0 k.1)
            ]

    next_part : (z x : Point) (t : Stage) → In more_steps z → z.stage ≡ Some t → In steps x → IsPlain x → Reach x z → (j : ℕ) → IsMember j (gives_in lanes z) → IsMember j (lanes.asks x) ⊎ Knows next x j
    next_part z x t m o i p d j n = elim (sort z.step m.0) [
      | inl k ↦ on (g.part_known z x t (k, m.1) o i p d j n)
      | inr e ↦ here e
    ]
      where
        on : IsMember j (lanes.asks x) ⊎ Knows w x j → IsMember j (lanes.asks x) ⊎ Knows next x j
        on (inl h) = inl h
        on (inr h) = inr (knows_on x j h)

        here : z.step ≡ s → IsMember j (lanes.asks x) ⊎ Knows next x j
        here e =
            let same : z ≡ record { step = s; stage = Some t } = (λ h. record { step = e h; stage = o h }) in
            let yin = subst (λ (u : Point). IsPoint u) same m.1 in
            let c = is_access (record { step = s; stage = Some t }) t yin refl in
            on (part_gives t yin c x (part_complete t yin c x i p (subst (λ (u : Point). Reach x u) same d)) j (subst (λ (u : Point). IsMember j (gives_in lanes u)) same n))

    -- The lines

    next_kept : (n k : ℕ) (x : Point) → In steps x → IsMember k (lanes.asks x) → x.step.line < next.lines n k →
        (z : Point) × In more_steps z × (z.stage ≡ None) × (z.step.line ≡ n) × Reach x z
    next_kept n k x m i = by (is_lasting s.statement) refl
      where
        old : x.step.line < w.lines n k → (z : Point) × In more_steps z × (z.stage ≡ None) × (z.step.line ≡ n) × Reach x z
        old l = let f = g.kept n k x m i l in (f.0, in_more f.0 f.1, f.2, f.3, f.4)

        here : (u : Bool) → (s.line == n) ≡ u → is_lasting s.statement ≡ true → x.step.line < (cond u clk (w.lines n)) k →
            (z : Point) × In more_steps z × (z.stage ≡ None) × (z.step.line ≡ n) × Reach x z
        here true q e l =
            (whole s, last_in (releases_whole (lasting_releases s.statement e)), refl, eqb-true s.line n q, whole_sound (releases_whole (lasting_releases s.statement e)) x k m i l)
        here false q e l = old l

        by : (t : Bool) → is_lasting s.statement ≡ t → x.step.line < (cond t (with_line w.lines s.line clk) w.lines) n k →
            (z : Point) × In more_steps z × (z.stage ≡ None) × (z.step.line ≡ n) × Reach x z
        by true e l = here (s.line == n) refl e l
        by false e l = old l

    abbrev LineKnown : Point → ℕ → Type 0
    LineKnown x n = (x.step.line < next.cut) ⊎ ((k : ℕ) × IsMember k (lanes.asks x) × (x.step.line < next.lines n k))

    next_line : (z x : Point) → In more_steps z → is_lasting z.step.statement ≡ true → In steps x → IsPlain x → Reach x z → LineKnown x z.step.line
    next_line z x m r i p d = elim (sort z.step m.0) [
      | inl k ↦ old k (g.line_known z x (k, m.1) r i p d)
      | inr e ↦ here e
    ]
      where
        old : IsMember z.step pre → (x.step.line < w.cut) ⊎ ((k : ℕ) × IsMember k (lanes.asks x) × (x.step.line < w.lines z.step.line k)) → LineKnown x z.step.line
        old n (inl l) = inl (cut_grows x.step.line l)
        old n (inr (k, q, l)) = inr (k, q, by (is_lasting s.statement))
          where
            other : (s.line == z.step.line) ≡ false
            other = ne_eqb s.line z.step.line (λ e. let a = is_above z.step n in omega arith)

            by : (t : Bool) → x.step.line < (cond t (with_line w.lines s.line clk) w.lines) z.step.line k
            by true = subst (λ (u : Bool). x.step.line < (cond u clk (w.lines z.step.line)) k) (sym other) l
            by false = l

        here : z.step ≡ s → LineKnown x z.step.line
        here e =
            let c = releases_whole (lasting_releases s.statement (subst (λ (u : Step). is_lasting u.statement ≡ true) e r)) in
            let o = no_stage_of z m.1 (subst (λ (u : Step). is_command_access u.statement ≡ false) (sym e) c) in
            let same : z ≡ whole s = (λ h. record { step = e h; stage = o h }) in
            subst (λ (u : Point). LineKnown x u.step.line) (sym same) (by c (whole_complete c x i p (subst (λ (u : Point). Reach x u) same d)) (subst (λ (u : Point). Reach x u) same d))
          where
            by : (c : is_command_access s.statement ≡ false) → WholeKnown c x → Reach x (whole s) → LineKnown x s.line
            by c (inl l) f = inl (cut_grows x.step.line l)
            by c (inr (inl q)) f = inl (cut_here x.step.line (reaches_down steps Opens x (whole s) f) q)
            by c (inr (inr (k, n, l))) f =
                inr (
                  k,
                  n,
                  subst (λ (t : Bool). x.step.line < (cond t (with_line w.lines s.line clk) w.lines) s.line k)
                      (sym (subst (λ (u : Step). is_lasting u.statement ≡ true) e r))
                      (subst (λ (u : Bool). x.step.line < (cond u clk (w.lines s.line)) k) (sym (eq-eqb s.line s.line refl)) l),
                )

    -- The signals

    abbrev SignalBy : SignalClock → Type 0
    SignalBy r = IsMember r w.signals ⊎ ((signal_of s.statement ≡ Some r.signal) × (r.line ≡ s.line) × (r.clock ≡ clk))

    next_signal : (r : SignalClock) → IsMember r next.signals → SignalBy r
    next_signal r = by (signal_of s.statement) refl
      where
        left : IsMember r (without_ended s.statement w.signals) → SignalBy r
        left m = inl (of_filter (λ (x : SignalClock). not (ends_signal s.statement x.signal)) r w.signals m).0

        by : (o : Option Signal) → signal_of s.statement ≡ o → IsMember r (with_signal (without_ended s.statement w.signals) o s.line clk) → SignalBy r
        by None e m = left m
        by (Some g) e m = elim (in_either r (without_ended s.statement w.signals) (record { line = s.line; signal = g; clock = clk } ∷ []) m) [ inl n ↦ left n | inr n ↦ new n ]
          where
            new : IsMember r (record { line = s.line; signal = g; clock = clk } ∷ []) → SignalBy r
            new (inl q) = inr (
              e ∙ ap (λ (x : SignalClock). Some x.signal) (sym q),
              ap (λ (x : SignalClock). x.line) q,
              ap (λ (x : SignalClock). x.clock) q,
            )
            new (inr n) = absurd n

    next_signaled : (r : SignalClock) → IsMember r next.signals → (k : ℕ) (x : Point) → In steps x → IsMember k (lanes.asks x) →
        x.step.line < r.clock k → (z : Point) × In more_steps z × (z.stage ≡ None) × (z.step.line ≡ r.line) × Reach x z
    next_signaled r m k x i n l = by (next_signal r m)
      where
        by : SignalBy r → (z : Point) × In more_steps z × (z.stage ≡ None) × (z.step.line ≡ r.line) × Reach x z
        by (inl j) = let f = g.signaled r j k x i n l in (f.0, in_more f.0 f.1, f.2, f.3, f.4)
        by (inr (e, q, c)) =
            let whole_step = signals_whole r.signal e in
            (whole s, last_in whole_step, refl, sym q, whole_sound whole_step x k i n (subst (λ (f : ℕ → ℕ). x.step.line < f k) c l))

    next_signal_known : (z : Point) (h : Signal) → In more_steps z → signal_of z.step.statement ≡ Some h → Ended more_steps z.step h ⊎ IsSignaled next z h
    next_signal_known z h m e = elim (sort z.step m.0) [ inl n ↦ old n (g.signal_known z h (n, m.1) e) | inr q ↦ inr (here q) ]
      where
        old : IsMember z.step pre → Ended pre z.step h ⊎ IsSignaled w z h → Ended more_steps z.step h ⊎ IsSignaled next z h
        old n (inl (o, j, l, f)) = inl (o, in_front o pre (s ∷ []) j, l, f)
        old n (inr (r, j, q, u, t)) = by (ends_signal s.statement h) refl
          where
            stays : ends_signal s.statement r.signal ≡ false → IsMember r next.signals
            stays f = by_signal (signal_of s.statement)
              where
                there_still : IsMember r (without_ended s.statement w.signals)
                there_still = in_filter (λ (x : SignalClock). not (ends_signal s.statement x.signal)) r w.signals j (ap (λ (b : Bool). not b) f)

                by_signal : (o : Option Signal) → IsMember r (with_signal (without_ended s.statement w.signals) o s.line clk)
                by_signal None = there_still
                by_signal (Some g') = in_front r (without_ended s.statement w.signals) (record { line = s.line; signal = g'; clock = clk } ∷ []) there_still

            tells : (x : Point) → In steps x → IsPlain x → Reach x z →
                (x.step.line < next.cut) ⊎ ((k : ℕ) × IsMember k (lanes.asks x) × (x.step.line < r.clock k))
            tells x i p d = elim (t x i p d) [ inl l ↦ inl (cut_grows x.step.line l) | inr l ↦ inr l ]

            by : (b : Bool) → ends_signal s.statement h ≡ b → Ended more_steps z.step h ⊎ IsSignaled next z h
            by true f = inl (s, in_back s pre (s ∷ []) (inl refl), is_above z.step n, f)
            by false f = inr (r, stays (ap (λ (v : Signal). ends_signal s.statement v) u ∙ f), q, u, tells)

        here : z.step ≡ s → IsSignaled next z h
        here q =
            let c = signals_whole h (subst (λ (u : Step). signal_of u.statement ≡ Some h) q e) in
            let o = no_stage_of z m.1 (subst (λ (u : Step). is_command_access u.statement ≡ false) (sym q) c) in
            let same : z ≡ whole s = (λ i. record { step = q i; stage = o i }) in
            subst (λ (u : Point). IsSignaled next u h) (sym same) (new c (subst (λ (u : Step). signal_of u.statement ≡ Some h) q e))
          where
            new : (c : is_command_access s.statement ≡ false) → signal_of s.statement ≡ Some h → IsSignaled next (whole s) h
            new c f = (
              record { line = s.line; signal = h; clock = clk },
              subst (λ (o : Option Signal). IsMember (record { line = s.line; signal = h; clock = clk }) (with_signal (without_ended s.statement w.signals) o s.line clk)) (sym f)
                  (in_back (record { line = s.line; signal = h; clock = clk }) (without_ended s.statement w.signals) (record { line = s.line; signal = h; clock = clk } ∷ []) (inl refl)),
              refl,
              refl,
              tells,
            )
              where
                tells : (x : Point) → In steps x → IsPlain x → Reach x (whole s) →
                    (x.step.line < next.cut) ⊎ ((k : ℕ) × IsMember k (lanes.asks x) × (x.step.line < clk k))
                tells x i p d = by (whole_complete c x i p d)
                  where
                    by : WholeKnown c x → (x.step.line < next.cut) ⊎ ((k : ℕ) × IsMember k (lanes.asks x) × (x.step.line < clk k))
                    by (inl l) = inl (cut_grows x.step.line l)
                    by (inr (inl q')) = inl (cut_here x.step.line (reaches_down steps Opens x (whole s) d) q')
                    by (inr (inr l)) = inr l

    pub good_next : Good more_steps next
    good_next = record {
      cell = next_cell;
      kept = next_kept;
      cut = next_cut;
      whole_known = next_whole;
      part_known = next_part;
      line_known = next_line;
      signaled = next_signaled;
      signal_known = next_signal_known;
      cut_known = next_cut_known;
    }

-- The lanes of a pass that asks for memory fit the edges of a capture.
use Rattle.std.proofs.Common.{◌≡◌, ◌⊎◌, ◌<◌, ◌≤◌, ◌+◌, ◌∙◌, Bool, true, false, ℕ, List, [], ◌∷◌, ◌++◌, refl, sym, ap, subst, inl, inr, arith, Option, Some, None}
use Rattle.std.specs.Prelude.{◌*◌, ◌&&◌, not, is_some, if◌then◌else◌}
use Rattle.std.proofs.lemmas.Bool.{eq-eqb}
use Rattle.vq_ground.proofs.Bools.{never, and_false}
use Rattle.vq_capture.specs.declared.stage.Stage.{Stage}
use Rattle.vq_capture.specs.declared.stage.StageMask.{StageMask}
use Rattle.vq_capture.specs.declared.stage.AccessMask.{AccessMask}
use Rattle.vq_capture.specs.declared.capture.Step.{Step}
use Rattle.vq_capture.specs.Masks.{has_stage, at_stage, meets}
use Rattle.vq_capture.specs.Releases.{same_queue}
use Rattle.vq_capture.specs.Points.{Point, takes, gives, IsMember}
use Rattle.vq_capture.specs.Before.{is_direct, are_of_one_queue, by_scopes, same_thread, is_after}
use Rattle.vq_capture_laws.proofs.Cited.{and_left, and_right, in_front, in_either}
use Rattle.vq_capture_memory.specs.Seen.{kinds_of, makes_available}
use Rattle.vq_capture_touched.specs.declared.touch.StepLanes.{StepLanes}
use Rattle.vq_capture_check.specs.declared.sites.Site.{Site}
use Rattle.vq_capture_check.specs.declared.sites.Site.TheVariants.{OnQueue}
use Rattle.vq_capture_check.specs.Sites.{site_number, some_lane, queue_site}
use Rattle.vq_capture_check.specs.Lanes.{stage_number, given, taken}
use Rattle.vq_capture_check.specs.Watching.{is_command_access}
use Rattle.vq_capture_clocks_laws.specs.Tidy.{AreTidy}
use Rattle.vq_capture_clocks_laws.proofs.Cited.{IsPoint, is_access, none_some, gives_stage, no_operation, none_after, HasSites, same_of_number, same_stage, stage_low, one_lane, meets_at, at_meeting, from_stages, to_stages}
use Rattle.vq_capture_clocks_laws.proofs.Cited.{takes_lanes, SharesLane, both_queues, edge_of_lane, lane_of_scopes, lane_of_signals, lane_of_thread, lane_of_telling, edge_by_scopes, only_taken, only_given, taken_one, queue_lane}
use Rattle.vq_capture_delivery.specs.MemoryLanes.{storage_writes, other_writes, is_storage, made_stages, made_lanes, writes_from, asked_lanes, every_read, shown_lanes}
use Rattle.vq_capture_delivery_laws.proofs.PassLanes.{Lanes, Fits, IsPart, Within, ByScopes, BySignals, ByThread, ByTelling, gives_in, takes_in, lane_in}
use Rattle.vq_capture_delivery_laws.proofs.WideLanes.{IsWide, one_narrow, one_wide, wide_lanes, wide_queue_lane, narrow_given, widen_given, narrow_taken, widen_taken}
use Rattle.vq_capture_delivery_laws.proofs.KindLanes.{at_low, kind_of_write, made_sound, made_complete, OfMade, from_made, to_made, OfShown, shown_of}

-- a write is made available where it comes, or a point that it is ordered directly before makes it available
abbrev pub Opens : Point → Point → Type 0
Opens x y = (x.stage ≡ None) ⊎ (makes_available y x ≡ true)

-- Sets of one stage

pub at_only : (s r : Stage) → has_stage (at_stage s) r ≡ true → r ≡ s
at_only s r h =
    by (subst (λ (l : List ℕ). IsMember (0 + stage_number r) l) (one_lane 0 s) (to_stages 0 (at_stage s) r h))
  where
    by : IsMember (0 + stage_number r) ((0 + stage_number s) ∷ []) → r ≡ s
    by (inl e) = same_stage r s (let f = e in omega arith)
    by (inr m) = absurd m

pub at_itself : (s : Stage) → has_stage (at_stage s) s ≡ true
at_itself s = by (from_stages 0 (at_stage s) (0 + stage_number s) (subst (λ (l : List ℕ). IsMember (0 + stage_number s) l) (sym (one_lane 0 s)) (inl refl)))
  where
    by : (r : Stage) × (has_stage (at_stage s) r ≡ true) × (0 + stage_number s ≡ 0 + stage_number r) → has_stage (at_stage s) s ≡ true
    by (r, h, e) =
        let same : r ≡ s = same_stage r s (let f = e in omega arith) in
        subst (λ (t : Stage). has_stage (at_stage s) t ≡ true) same h

-- Queues

part_wide : (k i narrow broad n s : ℕ) → IsWide k i → narrow ≡ 15 * n → broad ≡ 165 * n → s ≤ 12 → i ≡ narrow + s → k ≡ broad + s
part_wide k i narrow broad n s (m, p, l, e, f) a b c d = omega arith

-- where a write's lane is
asked_none : (at : StepLanes) (x : Point) → x.stage ≡ None → asked_lanes at x ≡ given at x
asked_none at x e =
    let same : x ≡ record { step = x.step; stage = None } = (λ i. record { step = x.step; stage = e i }) in
    ap (λ (u : Point). asked_lanes at u) same ∙ ap (λ (u : Point). given at u) (sym same)

asked_some : (at : StepLanes) (x : Point) (s : Stage) → x.stage ≡ Some s → asked_lanes at x ≡ (writes_from at.queue (kinds_of x.step.statement) + stage_number s) ∷ []
asked_some at x s e =
    let same : x ≡ record { step = x.step; stage = Some s } = (λ i. record { step = x.step; stage = e i }) in
    ap (λ (u : Point). asked_lanes at u) same

-- a write's lane tells its number, its kinds and its stage
module _ (first n other m : ℕ) (own : AccessMask) (s : Stage) (y : Point) (fe : first ≡ 165 * n) (oe : other ≡ 165 * m) where
  abbrev Same : Type 0
  Same = (n ≡ m) × (has_stage (made_stages y (kind_of_write own)) s ≡ true)

  lane_tells : (k : ℕ) → k ≡ writes_from first own + stage_number s → OfMade y other k → Same
  lane_tells k e (q, f, o) = by (is_storage own) e o
    where
      low : stage_number s ≤ 12
      low = stage_low s

      by : (t : Bool) → k ≡ (if t then first + 15 else first + 30) + stage_number s →
          ((r : Stage) × (has_stage (made_stages y storage_writes) r ≡ true) × (k ≡ other + 15 + stage_number r))
          ⊎ ((r : Stage) × (has_stage (made_stages y other_writes) r ≡ true) × (k ≡ other + 30 + stage_number r)) →
          (n ≡ m) × (has_stage (made_stages y (if t then storage_writes else other_writes)) s ≡ true)
      by true e (inl (r, h, g)) =
          let l = low in
          let p = stage_low r in
          let a = fe in
          let b = oe in
          let same : stage_number r ≡ stage_number s = omega arith in
          (omega arith, subst (λ (u : Stage). has_stage (made_stages y storage_writes) u ≡ true) (same_stage r s same) h)
      by true e (inr (r, h, g)) =
          let l = low in let p = stage_low r in let a = fe in let b = oe in absurd (omega arith)
      by false e (inl (r, h, g)) =
          let l = low in let p = stage_low r in let a = fe in let b = oe in absurd (omega arith)
      by false e (inr (r, h, g)) =
          let l = low in
          let p = stage_low r in
          let a = fe in
          let b = oe in
          let same : stage_number r ≡ stage_number s = omega arith in
          (omega arith, subst (λ (u : Stage). has_stage (made_stages y other_writes) u ≡ true) (same_stage r s same) h)

-- a lane of order is none of writes, and none of what is shown
order_apart : (k i first n : ℕ) (own : AccessMask) (s : Stage) → first ≡ 165 * n → k ≡ writes_from first own + stage_number s → IsWide k i → ⊥
order_apart k i first n own s fe e (m, p, l, f, g) = by (is_storage own) e
  where
    by : (t : Bool) → k ≡ (if t then first + 15 else first + 30) + stage_number s → ⊥
    by true e = let a = fe in let b = stage_low s in let c = f in let d = l in omega arith
    by false e = let a = fe in let b = stage_low s in let c = f in let d = l in omega arith

made_apart : (k i first n : ℕ) (y : Point) → first ≡ 165 * n → OfMade y first k → IsWide k i → ⊥
made_apart k i first n y fe (q, f, inl (s, h, e)) (m, p, l, c, d) = let b = stage_low s in omega arith
made_apart k i first n y fe (q, f, inr (s, h, e)) (m, p, l, c, d) = let b = stage_low s in omega arith

pub shown_apart : (k i first n : ℕ) (z : Point) → first ≡ 165 * n → OfShown z first k → IsWide k i → ⊥
shown_apart k i first n z fe (q, f, (a, kind, s, there, h, e)) (m, p, l, c, d) =
    let b = stage_low s in let g : a < 8 = at_low a kind every_read there in omega arith

module _ (steps : List Step) (sites : List Site) (tidy : AreTidy steps) (there : (s : Step) → IsMember s steps → HasSites sites s) where
  abbrev pub memory_lanes : Lanes
  memory_lanes = record {
    at = λ s. wide_lanes sites s;
    asks = λ x. asked_lanes (wide_lanes sites x.step) x;
    raises = λ y. made_lanes (wide_lanes sites y.step) y;
    brings = λ z. given (wide_lanes sites z.step) z ++ shown_lanes (wide_lanes sites z.step) z;
  }

  abbrev first_at : Option ℕ → ℕ
  first_at queue = some_lane sites (queue_site queue)

  fit_gives : (z : Point) (j : ℕ) → IsMember j (gives_in memory_lanes z) → IsMember j (memory_lanes.brings z)
  fit_gives z j m = in_front j (given (wide_lanes sites z.step) z) (shown_lanes (wide_lanes sites z.step) z) m

  shared_lane : (z y : Point) → Within z y → SharesLane sites z y
  shared_lane z y (ByScopes q m) = lane_of_scopes sites z y q m
  shared_lane z y (BySignals q o f) = lane_of_signals sites z y q o f
  shared_lane z y (ByThread t) = lane_of_thread sites z y t
  shared_lane z y (ByTelling t) = lane_of_telling sites z y t

  fit_shares : (z y : Point) → Within z y → (j : ℕ) × IsMember j (gives_in memory_lanes z) × IsMember j (takes_in memory_lanes y)
  fit_shares z y w =
      let s = shared_lane z y w in
      let a = widen_given sites z s.0 s.1 in
      let b = widen_taken sites y s.0 s.2 in
      (a.0, a.2, subst (λ (k : ℕ). IsMember k (taken (wide_lanes sites y.step) y)) (sym (one_wide a.0 b.0 s.0 a.1 b.1)) b.2)

  order_leads : (z y : Point) (j : ℕ) → IsMember z.step steps → IsMember y.step steps → z.step.line < y.step.line →
      (is_some z.stage && is_some y.stage) ≡ false → IsMember j (gives_in memory_lanes z) → IsMember j (takes_in memory_lanes y) → is_direct steps z y ≡ true
  order_leads z y j mz my l n g t =
      let a = narrow_given sites z j g in
      let b = narrow_taken sites y j t in
      edge_of_lane sites z y (there z.step mz) (there y.step my) steps a.0 l n a.2
      (subst (λ (i : ℕ). IsMember i (takes_lanes sites y)) (sym (one_narrow j a.0 b.0 a.1 b.1)) b.2)

  fit_leads : (z y : Point) (j : ℕ) → IsMember z.step steps → IsMember y.step steps → z.step.line < y.step.line →
      (is_some z.stage && is_some y.stage) ≡ false → IsMember j (memory_lanes.brings z) → IsMember j (takes_in memory_lanes y) → is_direct steps z y ≡ true
  fit_leads z y j mz my l n m t = elim (in_either j (given (wide_lanes sites z.step) z) (shown_lanes (wide_lanes sites z.step) z) m) [
    | inl g ↦ order_leads z y j mz my l n g t
    | inr g ↦ (let s = shown_of (wide_lanes sites z.step) z j g in let b = narrow_taken sites y j t in absurd (shown_apart j b.0 (wide_lanes sites z.step).queue (site_number sites (OnQueue s.0)) z (wide_queue_lane sites z.step.queue s.0 s.1) s b.1))
  ]

  none_both : (x y : Point) → y.stage ≡ None → (is_some x.stage && is_some y.stage) ≡ false
  none_both x y e = ap (λ (o : Option Stage). is_some x.stage && is_some o) e ∙ and_false (is_some x.stage)

  -- a write at a stage

  module _ (x : Point) (s : Stage) (mx : IsMember x.step steps) (px : IsPoint x) (e : x.stage ≡ Some s) where
    access : is_command_access x.step.statement ≡ true
    access = is_access x s px e

    on_queue : (q : ℕ) × (x.step.queue ≡ Some q)
    on_queue = tidy.queue x.step mx access

    abbrev own : AccessMask
    own = kinds_of x.step.statement

    x_lane : (wide_lanes sites x.step).queue ≡ 165 * site_number sites (OnQueue on_queue.0)
    x_lane = wide_queue_lane sites x.step.queue on_queue.0 on_queue.1

    one_asked : (k : ℕ) → IsMember k (memory_lanes.asks x) → k ≡ writes_from (wide_lanes sites x.step).queue own + stage_number s
    one_asked k m = by (subst (λ (l : List ℕ). IsMember k l) (asked_some (wide_lanes sites x.step) x s e) m)
      where
        by : IsMember k ((writes_from (wide_lanes sites x.step).queue own + stage_number s) ∷ []) → k ≡ writes_from (wide_lanes sites x.step).queue own + stage_number s
        by (inl q) = q
        by (inr q) = absurd q

    part_opens : (y : Point) (k : ℕ) → IsMember y.step steps → x.step.line < y.step.line → y.stage ≡ None → IsMember k (memory_lanes.asks x) →
        IsMember k (takes_in memory_lanes y) ⊎ IsMember k (memory_lanes.raises y) → (is_direct steps x y ≡ true) × Opens x y
    part_opens y k my l n a (inl t) =
        let b = narrow_taken sites y k t in
        absurd (order_apart k b.0 (wide_lanes sites x.step).queue (site_number sites (OnQueue on_queue.0)) own s x_lane (one_asked k a) b.1)
    part_opens y k my l n a (inr t) =
        let m = from_made (wide_lanes sites y.step) y k t in
        let r = lane_tells (wide_lanes sites x.step).queue (site_number sites (OnQueue on_queue.0)) (wide_lanes sites y.step).queue (site_number sites (OnQueue m.0)) own s y x_lane
        (wide_queue_lane sites y.step.queue m.0 m.1) k (one_asked k a) m in
        let h = made_sound x y s e n r.1 in
        (edge_by_scopes steps x y l (one_queue m.0 m.1 r.0) (ap (λ (b : Bool). not b) (none_both x y n)) (meets_at (gives x) (takes y) s given_here h.0), inr h.1)
      where
        given_here : has_stage (gives x) s ≡ true
        given_here = ap (λ (m : StageMask). has_stage m s) (gives_stage x s e access) ∙ at_itself s

        one_queue : (p : ℕ) → y.step.queue ≡ Some p → site_number sites (OnQueue on_queue.0) ≡ site_number sites (OnQueue p) → same_queue x.step.queue y.step.queue ≡ true
        one_queue p f h =
            let hx = (there x.step mx).queue (OnQueue on_queue.0) (ap (λ (o : Option ℕ). queue_site o) on_queue.1) in
            let hy = (there y.step my).queue (OnQueue p) (ap (λ (o : Option ℕ). queue_site o) f) in
            let same : on_queue.0 ≡ p = one_of (same_of_number sites (OnQueue on_queue.0) (OnQueue p) refl hx hy h) in
            (λ i. same_queue (on_queue.1 i) (f i)) ∙ eq-eqb on_queue.0 p same
          where
            one_of : OnQueue on_queue.0 ≡ OnQueue p → on_queue.0 ≡ p
            one_of r = cc

    part_asks : (y : Point) → y.stage ≡ None → makes_available y x ≡ true → Within x y →
        (k : ℕ) × IsMember k (memory_lanes.asks x) × (IsMember k (takes_in memory_lanes y) ⊎ IsMember k (memory_lanes.raises y))
    part_asks y n a (ByScopes q m) =
        let r = at_meeting (gives x) (takes y) m in
        let same = at_only s r.0 (sym (ap (λ (m : StageMask). has_stage m r.0) (gives_stage x s e access)) ∙ r.1) in
        let t = subst (λ (u : Stage). has_stage (takes y) u ≡ true) same r.2 in
        let two = both_queues sites x.step.queue y.step.queue q in
        let lane : (wide_lanes sites y.step).queue ≡ (wide_lanes sites x.step).queue =
        wide_queue_lane sites y.step.queue two.0 two.2 ∙ sym (wide_queue_lane sites x.step.queue two.0 two.1) in
        let k = writes_from (wide_lanes sites x.step).queue own + stage_number s in (
          k,
          subst (λ (l : List ℕ). IsMember k l) (sym (asked_some (wide_lanes sites x.step) x s e)) (inl refl),
          inr (subst (λ (f : ℕ). IsMember (writes_from f own + stage_number s) (made_lanes (wide_lanes sites y.step) y)) lane
              (to_made (wide_lanes sites y.step) y own s two.0 two.2 (made_complete x y s e n t a))),
        )
    part_asks y n a (BySignals q o f) = never (sym (no_operation x s e access) ∙ o)
    part_asks y n a (ByThread h) =
        never (sym (ap (λ (o : Option ℕ). same_thread o y.step.thread) (tidy.thread x.step mx access)) ∙ h)
    part_asks y n a (ByTelling h) =
        never (sym (ap (λ (o : Option ℕ). is_after y.step.statement o) (tidy.thread x.step mx access) ∙ none_after y.step.statement) ∙ h)

  fit_opens : (x y : Point) (k : ℕ) → IsMember x.step steps → IsPoint x → IsMember y.step steps → x.step.line < y.step.line → y.stage ≡ None →
      IsMember k (memory_lanes.asks x) → IsMember k (takes_in memory_lanes y) ⊎ IsMember k (memory_lanes.raises y) → (is_direct steps x y ≡ true) × Opens x y
  fit_opens x y k mx px my l n a t = by x.stage refl t
    where
      given_of : x.stage ≡ None → IsMember k (gives_in memory_lanes x)
      given_of e = subst (λ (l : List ℕ). IsMember k l) (asked_none (wide_lanes sites x.step) x e) a

      by : (o : Option Stage) → x.stage ≡ o → IsMember k (takes_in memory_lanes y) ⊎ IsMember k (memory_lanes.raises y) → (is_direct steps x y ≡ true) × Opens x y
      by None e (inl t) = (order_leads x y k mx my l (none_both x y n) (given_of e) t, inl e)
      by None e (inr t) =
          let m = from_made (wide_lanes sites y.step) y k t in
          let b = narrow_given sites x k (given_of e) in
          absurd (made_apart k b.0 (wide_lanes sites y.step).queue (site_number sites (OnQueue m.0)) y (wide_queue_lane sites y.step.queue m.0 m.1) m b.1)
      by (Some s) e t = part_opens x s mx px e y k my l n a t

  fit_asks : (x y : Point) → IsMember x.step steps → IsPoint x → y.stage ≡ None → Opens x y → Within x y →
      (k : ℕ) × IsMember k (memory_lanes.asks x) × (IsMember k (takes_in memory_lanes y) ⊎ IsMember k (memory_lanes.raises y))
  fit_asks x y mx px n o w = by x.stage refl o
    where
      by : (p : Option Stage) → x.stage ≡ p → Opens x y →
          (k : ℕ) × IsMember k (memory_lanes.asks x) × (IsMember k (takes_in memory_lanes y) ⊎ IsMember k (memory_lanes.raises y))
      by None e o =
          let r = fit_shares x y w in
          (r.0, subst (λ (l : List ℕ). IsMember r.0 l) (sym (asked_none (wide_lanes sites x.step) x e)) r.1, inl r.2)
      by (Some s) e (inl f) = absurd (none_some s (sym f ∙ e))
      by (Some s) e (inr a) = part_asks x s mx px e y n a w

  -- an access of a command

  module _ (p : Point) (t : Stage) (part : IsPart steps p t) where
    p_queue : (q : ℕ) × (p.step.queue ≡ Some q)
    p_queue = tidy.queue p.step part.there part.access

    p_thread : p.step.thread ≡ None
    p_thread = tidy.thread p.step part.there part.access

    in_lane : (k i : ℕ) → IsWide k i → i ≡ first_at p.step.queue + stage_number t → k ≡ lane_in memory_lanes p.step t
    in_lane k i w e =
        part_wide k i (first_at p.step.queue) (wide_lanes sites p.step).queue (site_number sites (OnQueue p_queue.0)) (stage_number t) w
        (queue_lane sites p.step.queue p_queue.0 p_queue.1) (wide_queue_lane sites p.step.queue p_queue.0 p_queue.1) (stage_low t) e

    part_takes : (k : ℕ) → IsMember k (takes_in memory_lanes p) → k ≡ lane_in memory_lanes p.step t
    part_takes k m =
        let a = narrow_taken sites p k m in
        in_lane k a.0 a.1 (only_taken sites p t part.stage part.access p_queue.0 p_queue.1 p_thread a.0 a.2)

    part_gives_only : (k : ℕ) → IsMember k (gives_in memory_lanes p) → k ≡ lane_in memory_lanes p.step t
    part_gives_only k m =
        let a = narrow_given sites p k m in
        in_lane k a.0 a.1 (only_given sites p t part.stage part.access p_queue.0 p_queue.1 p_thread a.0 a.2)

    part_takes_one : IsMember (lane_in memory_lanes p.step t) (takes_in memory_lanes p)
    part_takes_one =
        let a = widen_taken sites p (first_at p.step.queue + stage_number t) (taken_one sites p t part.stage part.access p_queue.0 p_queue.1 p_thread) in
        subst (λ (k : ℕ). IsMember k (takes_in memory_lanes p)) (in_lane a.0 (first_at p.step.queue + stage_number t) a.1 refl) a.2

    part_scoped : (x : Point) → x.stage ≡ None → by_scopes x p ≡ true → IsMember (lane_in memory_lanes p.step t) (memory_lanes.asks x)
    part_scoped x e h =
        let both = is_some x.stage && is_some p.stage in
        let q = and_left (are_of_one_queue x p) (not both) (and_left (are_of_one_queue x p && not both) (meets (gives x) (takes p)) h) in
        let s = lane_of_scopes sites x p q (and_right (are_of_one_queue x p && not both) (meets (gives x) (takes p)) h) in
        let a = widen_given sites x s.0 s.1 in
        let k = in_lane a.0 s.0 a.1 (only_taken sites p t part.stage part.access p_queue.0 p_queue.1 p_thread s.0 s.2) in
        subst (λ (l : List ℕ). IsMember (lane_in memory_lanes p.step t) l) (sym (asked_none (wide_lanes sites x.step) x e))
        (subst (λ (i : ℕ). IsMember i (given (wide_lanes sites x.step) x)) k a.2)

  pub memory_fits : Fits steps Opens memory_lanes
  memory_fits = record {
    gives = fit_gives;
    shares = fit_shares;
    leads = fit_leads;
    opens = fit_opens;
    asks = fit_asks;
    scoped = λ x y t part e h. part_scoped y t part x e h;
    takes_only = λ p t part k m. part_takes p t part k m;
    gives_only = λ p t part k m. part_gives_only p t part k m;
    takes_one = λ p t part. part_takes_one p t part;
  }

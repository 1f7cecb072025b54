-- Watches that are alike find the same races, and stay alike behind each step.
use Rattle.std.proofs.Common.{◌≡◌, ◌⊎◌, ◌+◌, ◌≤◌, ◌∙◌, Bool, true, false, ℕ, List, [], ◌∷◌, ◌++◌, cond, map, filter, reverse, refl, sym, ap, subst, inl, inr, arith, Option, Some, None}
use Rattle.std.specs.Prelude.{nat_lt, ◌==◌, ◌||◌, ◌&&◌, not}
use Rattle.std.specs.List.{list_any, list_all}
use Rattle.vq_capture.specs.declared.statement.Access.{Access}
use Rattle.vq_capture.specs.declared.statement.Statement.{Statement}
use Rattle.vq_capture.specs.declared.statement.Statement.TheVariants.{Forget}
use Rattle.vq_capture.specs.declared.stage.Stage.{Stage}
use Rattle.vq_capture.specs.declared.capture.Step.{Step}
use Rattle.vq_capture.specs.Before.{by_scopes}
use Rattle.vq_capture.specs.Points.{Point, IsMember, points_of_step}
use Rattle.vq_capture.specs.Races.{access_of, conflict}
use Rattle.vq_capture_laws.proofs.Cited.{in_front, in_back, in_either, of_reverse, own_step}
use Rattle.vq_capture_touched.specs.declared.touch.Touch.{Touch}
use Rattle.vq_capture_touched.specs.declared.touch.StepLanes.{StepLanes}
use Rattle.vq_capture_check.specs.Alike.{AreAlike, IsAsked, tells, telling_of}
use Rattle.vq_capture_check.specs.GoneSites.{IsOpen}
use Rattle.vq_capture_check.specs.Lanes.{given, stage_number}
use Rattle.vq_capture_check.specs.Sites.{lanes_of, with_sites}
use Rattle.vq_capture_check.specs.Watching.{Watched, Touched, is_command_access, Clocking, SignalClock, ToldStep, all_touched, clock_at, clock_of, clocked_points, is_known, all_known, is_loose, first_loose, last_loose, touched_by, race_line, is_stood_for, goes_on, with_touch, none_touched, without_gone, touched_with, cut_with, cells_with, lines_with, signals_with, watch_with}
use Rattle.vq_capture_pruning.proofs.OpenLanes.{stage_open, taken_open, whole_or_access}
use Rattle.vq_capture_pruning.proofs.AlikeClocks.{Same, SameCells, tellings, same_clock, same_cells_with, same_lines_with, same_signals_with}

-- Elements of lists

of_filter : {X : Type 0} (test : X → Bool) (x : X) (xs : List X) → IsMember x (filter test xs) → IsMember x xs
of_filter test x [] m = m
of_filter {X} test x (y ∷ ys) m = by (test y) m (of_filter test x ys)
  where
    by : (b : Bool) → IsMember x (cond b (y ∷ filter test ys) (filter test ys)) → (IsMember x (filter test ys) → IsMember x ys) → IsMember x (y ∷ ys)
    by true (inl e) f = inl e
    by true (inr n) f = inr (f n)
    by false n f = inr (f n)

same_all : {X : Type 0} (p q : X → Bool) (xs : List X) → ((x : X) → IsMember x xs → p x ≡ q x) → list_all p xs ≡ list_all q xs
same_all p q [] f = refl
same_all p q (x ∷ xs) f = λ i. f x (inl refl) i && same_all p q xs (λ y m. f y (inr m)) i

same_any : {X : Type 0} (p q : X → Bool) (xs : List X) → ((x : X) → IsMember x xs → p x ≡ q x) → list_any p xs ≡ list_any q xs
same_any p q [] f = refl
same_any p q (x ∷ xs) f = λ i. f x (inl refl) i || same_any p q xs (λ y m. f y (inr m)) i

-- Races

module _ (n cut : ℕ) (touched : ℕ → Touched) (gone : ℕ → Bool) (u v : ℕ → ℕ → ℕ) (m o : ℕ → ℕ → ℕ) (xs ys : List SignalClock)
    (cells : (line lane : ℕ) → IsAsked touched n line lane → (k : ℕ) → gone k ≡ false → Same line lane (u k) (v k))
    (lines : (line lane : ℕ) → IsAsked touched n line lane → SameCells line lane m o)
    (signals : (line lane : ℕ) → IsAsked touched n line lane → tellings line lane xs ≡ tellings line lane ys)
    (at : StepLanes) (b : ToldStep) (open_step : IsOpen gone at b.step) where
  same_at : (line lane : ℕ) → IsAsked touched n line lane → (stage : Option Stage) → (stage ≡ None) ⊎ (is_command_access b.step.statement ≡ true) → Same line lane (clock_at u m xs at b stage) (clock_at v o ys at b stage)
  same_at line lane a None e =
      same_clock line lane u v m o xs ys (lines line lane a) (signals line lane a) at b (λ k i. cells line lane a k (taken_open gone at b.step open_step k i))
  same_at line lane a (Some s) (inl e) = absurd (let f = e in cc)
  same_at line lane a (Some s) (inr e) = cells line lane a (at.queue + stage_number s) (stage_open gone at b.step open_step e s)

  abbrev first : Point → Clocking
  first y = record { point = y; clock = clock_at u m xs at b y.stage }

  abbrev second : Point → Clocking
  second y = record { point = y; clock = clock_at v o ys at b y.stage }

  module _ (r : ℕ) (a : Touch) (kept : IsMember a (all_touched (touched r))) where
    known : (y x : Point) → IsMember y (points_of_step b.step) → IsMember x (points_of_step a.step) → x.step ≡ a.step → is_known cut (first y) a.at x ≡ is_known cut (second y) a.at x
    known y x w i e =
        ap (λ (t : Bool). nat_lt x.step.line cut || by_scopes x y || t)
        (same_any (λ k. nat_lt x.step.line (clock_at u m xs at b y.stage k)) (λ k. nat_lt x.step.line (clock_at v o ys at b y.stage k)) (given a.at x) tell)
      where
        tell : (k : ℕ) → IsMember k (given a.at x) → nat_lt x.step.line (clock_at u m xs at b y.stage k) ≡ nat_lt x.step.line (clock_at v o ys at b y.stage k)
        tell k g =
            let asked : IsAsked touched n x.step.line k = inr (r, a, x, kept, sym (ap (λ (s : Step). s.line) e), i, g) in
            same_at x.step.line k asked y.stage (whole_or_access b.step b.step.statement y w)

    all_points : (ps : List Point) → ((y : Point) → IsMember y ps → IsMember y (points_of_step b.step)) → list_all (all_known cut a) (map first ps) ≡ list_all (all_known cut a) (map second ps)
    all_points [] f = refl
    all_points (p ∷ ps) f =
        λ i. same_all (is_known cut (first p) a.at) (is_known cut (second p) a.at) (points_of_step a.step) (λ x j. known p x (f p (inl refl)) j (own_step a.step a.step.statement x j)) i && all_points ps (λ y j. f y (inr j)) i

    loose : is_loose cut (clocked_points u m xs at b) b.step a ≡ is_loose cut (clocked_points v o ys at b) b.step a
    loose = ap (λ (t : Bool). conflict a.step b.step && not t) (all_points (points_of_step b.step) (λ y j. j))

  same_first : (r : ℕ) (ts : List Touch) → ((t : Touch) → IsMember t ts → IsMember t (all_touched (touched r))) → first_loose cut (clocked_points u m xs at b) b.step ts ≡ first_loose cut (clocked_points v o ys at b) b.step ts
  same_first r [] f = refl
  same_first r (t ∷ ts) f =
      λ i. cond (loose r t (f t (inl refl)) i) (Some t.step.line) (same_first r ts (λ s j. f s (inr j)) i)

  pub same_race : (access : Option Access) → last_loose cut (clocked_points u m xs at b) b.step (touched_by touched access) ≡ last_loose cut (clocked_points v o ys at b) b.step (touched_by touched access)
  same_race None = refl
  same_race (Some access) =
      same_first access.resource (reverse (all_touched (touched access.resource))) (λ t j. of_reverse t (all_touched (touched access.resource)) j)

pub same_race_line : (n : ℕ) (gone : ℕ → Bool) (v w : Watched) (b : ToldStep) → AreAlike n gone v w → IsOpen gone (lanes_of v.sites b.step) b.step → race_line v b ≡ race_line w b
same_race_line n gone v w b a open_step =
    same_race n v.cut v.touched gone v.cells w.cells v.lines w.lines v.signals w.signals a.cells a.lines a.signals (lanes_of v.sites b.step) b open_step (access_of b.step.statement)
    ∙ (λ i. last_loose (a.cut i) (clocked_points w.cells w.lines w.signals (lanes_of (a.sites i) b.step) b) b.step (touched_by (a.touched i) (access_of b.step.statement)))

-- What is asked behind a step was asked above it.

of_touch : (a : Touch) (x : Touched) (t : Touch) → IsMember t (all_touched (with_touch a x)) → IsMember t (all_touched x) ⊎ (t ≡ a)
of_touch a x t = by (goes_on a.step x.newest)
  where
    last : IsMember t (a ∷ []) → t ≡ a
    last (inl e) = e
    last (inr n) = absurd n

    newest : IsMember t (x.newest ++ a ∷ []) → IsMember t (all_touched x) ⊎ (t ≡ a)
    newest m = elim (in_either t x.newest (a ∷ []) m) [ inl j ↦ inl (in_back t x.older x.newest j) | inr j ↦ inr (last j) ]

    older : IsMember t (filter (λ s. not (is_stood_for a.step x.newest s)) x.older ++ x.newest) → IsMember t (all_touched x)
    older m =
        elim (in_either t (filter (λ s. not (is_stood_for a.step x.newest s)) x.older) x.newest m) [
          | inl j ↦ in_front t x.older x.newest (of_filter (λ s. not (is_stood_for a.step x.newest s)) t x.older j)
          | inr j ↦ in_back t x.older x.newest j
        ]

    by : (g : Bool) → IsMember t (all_touched (cond g (record x { newest = x.newest ++ a ∷ [] }) (record {
      older = filter (λ s. not (is_stood_for a.step x.newest s)) x.older ++ x.newest;
      newest = a ∷ [];
    }))) → IsMember t (all_touched x) ⊎ (t ≡ a)
    by true m = elim (in_either t x.older (x.newest ++ a ∷ []) m) [ inl j ↦ inl (in_front t x.older x.newest j) | inr j ↦ newest j ]
    by false m =
        elim (in_either t (filter (λ s. not (is_stood_for a.step x.newest s)) x.older ++ x.newest) (a ∷ []) m) [
          | inl j ↦ inl (older j)
          | inr j ↦ inr (last j)
        ]

-- what is left of accesses where a resource is gone
left : (touched : ℕ → Touched) (said : Statement) (r : ℕ) (t : Touch) → IsMember t (all_touched (without_gone touched said r)) → IsMember t (all_touched (touched r))
left touched (Forget x) r t m = by (x == r) m
  where
    by : (c : Bool) → IsMember t (all_touched (cond c none_touched (touched r))) → IsMember t (all_touched (touched r))
    by true i = absurd i
    by false i = i
left touched other r t m = m

asked_above : (n next : ℕ) (touched : ℕ → Touched) (a : Touch) (o : Option Access) → n ≤ a.step.line → n ≤ next → (line lane : ℕ) → IsAsked (touched_with touched a o) next line lane → IsAsked touched n line lane
asked_above n next touched a o l f line lane (inl p) = inl (omega arith)
asked_above n next touched a None l f line lane (inr (r, t, x, m, e, p, g)) = inr (r, t, x, left touched a.step.statement r t m, e, p, g)
asked_above n next touched a (Some access) l f line lane (inr (r, t, x, m, e, p, g)) = by (access.resource == r) m
  where
    by : (c : Bool) → IsMember t (all_touched (cond c (with_touch a (touched r)) (touched r))) → IsAsked touched n line lane
    by true j =
        elim (of_touch a (touched r) t j) [
          | inl k ↦ inr (r, t, x, k, e, p, g)
          | inr k ↦ inl (subst (λ (z : ℕ). n ≤ z) (sym (ap (λ (s : Touch). s.step.line) k) ∙ e) l)
        ]
    by false j = inr (r, t, x, j, e, p, g)

-- One step more

module _ (n next : ℕ) (gone after : ℕ → Bool) (v w : Watched) (b : ToldStep) (a : AreAlike n gone v w) (open_step : IsOpen gone (lanes_of v.sites b.step) b.step) (more : (k : ℕ) → after k ≡ false → gone k ≡ false) (above : n ≤ b.step.line) (on : n ≤ next) where
  abbrev from : StepLanes
  from = lanes_of v.sites b.step

  abbrev touch : Touch
  touch = record { step = b.step; at = from }

  module _ (line lane : ℕ) (asked : IsAsked (watch_with v b).touched next line lane) where
    was : IsAsked v.touched n line lane
    was = asked_above n next v.touched touch (access_of b.step.statement) above on line lane asked

    clocks : Same line lane (clock_of v.cells v.lines v.signals from b) (clock_of w.cells w.lines w.signals from b)
    clocks =
        same_clock line lane v.cells w.cells v.lines w.lines v.signals w.signals (a.lines line lane was) (a.signals line lane was) from b
        (λ k i. a.cells line lane was k (taken_open gone from b.step open_step k i))

    abbrev end : StepLanes → ℕ → ℕ
    end at = clock_of w.cells w.lines w.signals at b

    cells_on : (k : ℕ) → after k ≡ false → tells line lane ((watch_with v b).cells k) ≡ tells line lane ((watch_with w b).cells k)
    cells_on k g =
        same_cells_with line lane v.cells w.cells from b.step (clock_of v.cells v.lines v.signals from b) (end from) k (a.cells line lane was k (more k g)) clocks
        ∙ (λ i. tells line lane (cells_with w.cells (lanes_of (a.sites i) b.step) b.step (end (lanes_of (a.sites i) b.step)) k))

    lines_on : (m : ℕ) → tells line lane ((watch_with v b).lines m) ≡ tells line lane ((watch_with w b).lines m)
    lines_on m =
        same_lines_with line lane v.lines w.lines (a.lines line lane was) b.step (clock_of v.cells v.lines v.signals from b) (end from) clocks m
        ∙ (λ i. tells line lane (lines_with w.lines b.step (end (lanes_of (a.sites i) b.step)) m))

    signals_on : map (telling_of line lane) (watch_with v b).signals ≡ map (telling_of line lane) (watch_with w b).signals
    signals_on =
        same_signals_with line lane v.signals w.signals b.step (clock_of v.cells v.lines v.signals from b) (end from) (a.signals line lane was) clocks
        ∙ (λ i. map (telling_of line lane) (signals_with w.signals b.step (end (lanes_of (a.sites i) b.step))))

  pub alike_on : AreAlike next after (watch_with v b) (watch_with w b)
  alike_on = record {
    sites = λ i. with_sites (a.sites i) b.step;
    cut = λ i. cut_with (a.cut i) b.step;
    touched = λ i. touched_with (a.touched i) (record { step = b.step; at = lanes_of (a.sites i) b.step }) (access_of b.step.statement);
    cells = cells_on;
    lines = lines_on;
    signals = signals_on;
  }

-- Alike are two that are alike to a third, and one to itself.

pub alike_twice : (n : ℕ) (gone : ℕ → Bool) (u v w : Watched) → AreAlike n gone u v → AreAlike n gone v w → AreAlike n gone u w
alike_twice n gone u v w p q = record {
  sites = p.sites ∙ q.sites;
  cut = p.cut ∙ q.cut;
  touched = p.touched ∙ q.touched;
  cells = λ line lane a k g. p.cells line lane a k g ∙ q.cells line lane (over line lane a) k g;
  lines = λ line lane a m. p.lines line lane a m ∙ q.lines line lane (over line lane a) m;
  signals = λ line lane a. p.signals line lane a ∙ q.signals line lane (over line lane a);
}
  where
    over : (line lane : ℕ) → IsAsked u.touched n line lane → IsAsked v.touched n line lane
    over line lane a = subst (λ (t : ℕ → Touched). IsAsked t n line lane) p.touched a

pub alike_itself : (n : ℕ) (gone : ℕ → Bool) (v : Watched) → AreAlike n gone v v
alike_itself n gone v = record {
  sites = refl;
  cut = refl;
  touched = refl;
  cells = λ line lane a k g. refl;
  lines = λ line lane a m. refl;
  signals = λ line lane a. refl;
}

pub alike_same : (n : ℕ) (gone : ℕ → Bool) (v w : Watched) → v ≡ w → AreAlike n gone v w
alike_same n gone v w e = subst (λ (x : Watched). AreAlike n gone v x) e (alike_itself n gone v)

-- What the clocks find above a step is the greatest line that races with it.
use Rattle.std.proofs.Common.{◌≡◌, ◌⊎◌, ◌<◌, ◌≤◌, Bool, true, false, ℕ, List, [], ◌∷◌, ◌++◌, cond, filter, reverse, refl, sym, ◌∙◌, ap, subst, inl, inr, arith, Option, Some, None}
use Rattle.std.specs.Prelude.{nat_lt, ◌==◌, ◌&&◌, ◌||◌, not, is_some}
use Rattle.std.specs.List.{list_all}
use Rattle.std.specs.Option.{option_map_or}
use Rattle.std.proofs.lemmas.List.{append-nil, append_assoc}
use Rattle.std.proofs.lemmas.Bool.{or_cases, or_left, or_right, and_from, eqb-true, eq-eqb, ne_eqb}
use Rattle.vq_ground.proofs.Bools.{never}
use Rattle.vq_ground.proofs.Tests.{below_test, below_of_test}
use Rattle.vq_capture.specs.declared.stage.Stage.{Stage}
use Rattle.vq_capture.specs.declared.statement.Access.{Access}
use Rattle.vq_capture.specs.declared.statement.Statement.{Statement}
use Rattle.vq_capture.specs.declared.statement.Statement.TheVariants.{HostAccess, CommandAccess, Transition, Forget}
use Rattle.vq_capture.specs.declared.capture.Step.{Step}
use Rattle.vq_capture.specs.Points.{Point, points_of_step, IsMember}
use Rattle.vq_capture.specs.Before.{Before, one, more, by_scopes, is_cut}
use Rattle.vq_capture.specs.Races.{access_of, clash, share_unit, is_write, same_command, conflict, Conflicts, Ordered, IsRace}
use Rattle.vq_capture_laws.proofs.Cited.{AreRising, and_left, and_right, in_front, in_back, in_either, from_map, any_of, one_of_any, each_of_all, all_of_each, own_step, of_reverse}
use Rattle.vq_capture_check.specs.declared.sites.Site.{Site}
use Rattle.vq_capture_touched.specs.declared.touch.StepLanes.{StepLanes}
use Rattle.vq_capture_check.specs.Sites.{with_sites, lanes_of}
use Rattle.vq_capture_check.specs.Lanes.{given}
use Rattle.vq_capture_check.specs.Clocks.{knows}
use Rattle.vq_capture_touched.specs.declared.touch.Touch.{Touch}
use Rattle.vq_capture_check.specs.Watching.{ToldStep, Touched, Watched, Clocking, tell, nothing_watched, is_command_access, whole, clock_of, clock_at, clocked_points, is_known, all_known, is_loose, last_loose, first_loose, all_touched, touched_by, covers, has_points, is_behind, stands_for, is_stood_for, goes_on, with_touch, none_touched, without_gone, touched_with, watch_at, watch_with}
use Rattle.vq_capture_clocks_laws.specs.Tidy.{AreTidy, names_thing}
use Rattle.vq_capture_clocks_laws.specs.Finding.{FindsRace, watch_on, watched, found_race}
use Rattle.vq_capture_clocks_laws.proofs.RisingSteps.{in_front_of}
use Rattle.vq_capture_clocks_laws.proofs.SiteNumbers.{HasSites, Extends, extends_itself, extends_twice, sites_extend, sites_there, lanes_by, lanes_stay}
use Rattle.vq_capture_clocks_laws.proofs.LaneEdges.{gives_lanes, in_map, in_filter}
use Rattle.vq_capture_clocks_laws.proofs.EdgeCauses.{edge_by_test, edge_by_cut}
use Rattle.vq_capture_clocks_laws.proofs.PointKinds.{IsPoint, IsPlain, access_is_plain, whole_in, is_access, whole_access, cut_no_access}
use Rattle.vq_capture_clocks_laws.proofs.ReleasingLines.{behind_first, of_filter}
use Rattle.vq_capture_clocks_laws.proofs.StandingAccesses.{clash_over, behind_too}
use Rattle.vq_capture_clocks_laws.proofs.ClockLaws.{In, Good, point_in, next, good_next, is_above, above_in, step_in, whole_sound, whole_complete, WholeKnown, part_sound, part_complete, PartKnown}

-- Sites of a whole capture

sites_on : (w : Watched) (above rest : List Step) → Extends w.sites (watch_on w above rest).sites
sites_on w above [] = extends_itself w.sites
sites_on w above (s ∷ rest) =
    extends_twice w.sites (with_sites w.sites s) (watch_on w above (s ∷ rest)).sites (sites_extend w.sites s)
    (sites_on (watch_with w (tell above s)) (above ++ s ∷ []) rest)

there_on : (w : Watched) (above rest : List Step) (s : Step) → IsMember s rest → HasSites (watch_on w above rest).sites s
there_on w above [] s m = absurd m
there_on w above (r ∷ rest) s (inl e) =
    subst (λ (t : Step). HasSites (watch_on w above (r ∷ rest)).sites t) (sym e)
    (sites_there w.sites (watch_on w above (r ∷ rest)).sites r (sites_on (watch_with w (tell above r)) (above ++ r ∷ []) rest))
there_on w above (r ∷ rest) s (inr m) = there_on (watch_with w (tell above r)) (above ++ r ∷ []) rest s m

-- Accesses in the order of their lines

abbrev pub Falls : List Touch → Type 0
Falls [] = Unit {0}
Falls (t ∷ ts) = ((u : Touch) → IsMember u ts → u.step.line < t.step.line) × Falls ts

abbrev pub Rises : List Touch → Type 0
Rises [] = Unit {0}
Rises (t ∷ ts) = ((u : Touch) → IsMember u ts → t.step.line < u.step.line) × Rises ts

falls_with : (ts : List Touch) (t : Touch) → Falls ts → ((u : Touch) → IsMember u ts → t.step.line < u.step.line) → Falls (ts ++ t ∷ [])
falls_with [] t f l = (λ u m. absurd m, tt)
falls_with (r ∷ ts) t f l = (first, falls_with ts t f.1 (λ u m. l u (inr m)))
  where
    last : (u : Touch) → IsMember u (t ∷ []) → u.step.line < r.step.line
    last u (inl e) = let h = ap (λ (v : Touch). v.step.line) e in let low = l r (inl refl) in omega arith
    last u (inr m) = absurd m

    first : (u : Touch) → IsMember u (ts ++ t ∷ []) → u.step.line < r.step.line
    first u m = elim (in_either u ts (t ∷ []) m) [ inl n ↦ f.0 u n | inr n ↦ last u n ]

pub falls_back : (ts : List Touch) → Rises ts → Falls (reverse ts)
falls_back [] r = tt
falls_back (t ∷ ts) r =
    subst (λ (l : List Touch). Falls l) (sym (behind_first t ts))
    (falls_with (reverse ts) t (falls_back ts r.1) (λ u m. r.0 u (of_reverse u ts m)))

pub rises_with : (ts : List Touch) (t : Touch) → Rises ts → ((u : Touch) → IsMember u ts → u.step.line < t.step.line) → Rises (ts ++ t ∷ [])
rises_with [] t f l = (λ u m. absurd m, tt)
rises_with (r ∷ ts) t f l = (first, rises_with ts t f.1 (λ u m. l u (inr m)))
  where
    last : (u : Touch) → IsMember u (t ∷ []) → r.step.line < u.step.line
    last u (inl e) = let h = ap (λ (v : Touch). v.step.line) e in let low = l r (inl refl) in omega arith
    last u (inr m) = absurd m

    first : (u : Touch) → IsMember u (ts ++ t ∷ []) → r.step.line < u.step.line
    first u m = elim (in_either u ts (t ∷ []) m) [ inl n ↦ f.0 u n | inr n ↦ last u n ]

pub to_reverse : {X : Type 0} (x : X) (xs : List X) → IsMember x xs → IsMember x (reverse xs)
to_reverse x [] m = m
to_reverse {X} x (y ∷ ys) (inl e) =
    subst (λ (l : List X). IsMember x l) (sym (behind_first y ys)) (in_back x (reverse ys) (y ∷ []) (inl e))
to_reverse {X} x (y ∷ ys) (inr m) =
    subst (λ (l : List X). IsMember x l) (sym (behind_first y ys)) (in_front x (reverse ys) (y ∷ []) (to_reverse x ys m))

-- Rising accesses of which some are left out, and of two parts

pub rises_filter : (test : Touch → Bool) (xs ys : List Touch) → Rises (xs ++ ys) → Rises (filter test xs ++ ys)
rises_filter test [] ys r = r
rises_filter test (x ∷ xs) ys r = case (test x) (rises_filter test xs ys r.1)
  where
    first : (u : Touch) → IsMember u (filter test xs ++ ys) → x.step.line < u.step.line
    first u m = elim (in_either u (filter test xs) ys m) [
      | inl n ↦ r.0 u (in_front u xs ys (of_filter test u xs n).0)
      | inr n ↦ r.0 u (in_back u xs ys n)
    ]

    case : (b : Bool) → Rises (filter test xs ++ ys) → Rises (cond b (x ∷ filter test xs) (filter test xs) ++ ys)
    case true f = (first, f)
    case false f = f

pub parts_rise : (xs ys : List Touch) (t u : Touch) → Rises (xs ++ ys) → IsMember t xs → IsMember u ys → t.step.line < u.step.line
parts_rise [] ys t u r m n = absurd m
parts_rise (x ∷ xs) ys t u r (inl e) n =
    let l = r.0 u (in_back u xs ys n) in
    let h = ap (λ (v : Touch). v.step.line) e in omega arith
parts_rise (x ∷ xs) ys t u r (inr m) n = parts_rise xs ys t u r.1 m n

-- Conflicts

of_not : (b : Bool) → not b ≡ true → b ≡ false
of_not true e = never e
of_not false e = refl

-- accesses of one resource
abbrev pub Clashes : Option Access → Option Access → Type 0
Clashes o p = (a : Access) × (b : Access) × (o ≡ Some a) × (p ≡ Some b) × (a.resource ≡ b.resource)

pub clashes : (o p : Option Access) → clash o p ≡ true → Clashes o p
clashes (Some a) (Some b) h = (
  a,
  b,
  refl,
  refl,
  eqb-true a.resource b.resource
      (and_left (a.resource == b.resource) (share_unit a.range b.range)
      (and_left ((a.resource == b.resource) && share_unit a.range b.range) (is_write a.kind || is_write b.kind) h)),
)
clashes (Some a) None h = never h
clashes None p h = never h

-- an access names its resource
names_accessed : (said : Statement) (access : Access) → access_of said ≡ Some access → names_thing said access.resource ≡ true
names_accessed (HostAccess a) access e =
    ap (λ (o : Option Access). option_map_or (λ x. x.resource == access.resource) o false) e
    ∙ eq-eqb access.resource access.resource refl
names_accessed (CommandAccess a scope) access e =
    ap (λ (o : Option Access). option_map_or (λ x. x.resource == access.resource) o false) e
    ∙ eq-eqb access.resource access.resource refl
names_accessed (Transition first second a) access e =
    ap (λ (o : Option Access). option_map_or (λ x. x.resource == access.resource) o false) e
    ∙ eq-eqb access.resource access.resource refl
names_accessed other access e = absurd (no_access e)
  where
    no_access : None ≡ Some access → ⊥
    no_access f = cc

module _ (steps : List Step) (sites : List Site) (rising : AreRising steps) (tidy : AreTidy steps) (there : (s : Step) → IsMember s steps → HasSites sites s) where
  abbrev pub Fine : List Step → Watched → Type 0
  Fine pre w = Good steps sites rising tidy there pre w

  abbrev touching : Step → Touch
  touching a = record { step = a; at = lanes_by sites a }

  -- all that conflicts is ordered at some steps
  abbrev Quiet : List Step → Type 0
  Quiet pre = (c d : Step) → IsMember d pre → Conflicts steps c d → Ordered steps c d

  -- a step below some that races with one of these races with another one of them, at its line or below it
  pub record StandsFor (pre : List Step) (t a : Step) : Type 0 where
    pub below : a.line ≤ t.line
    pub also : (b : Step) → IsMember b steps → ((z : Step) → IsMember z pre → z.line < b.line) → conflict a b ≡ true →
        (conflict t b ≡ true) × (Ordered steps t b → Ordered steps a b)

  -- an access is told of a resource, or one stands for it
  abbrev pub IsKept : List Step → List Touch → Step → Type 0
  IsKept pre ts a = (t : Touch) × IsMember t ts × StandsFor pre t.step a

  -- no line says that a resource is gone
  abbrev pub IsThere : List Step → ℕ → Type 0
  IsThere pre r = (e : Step) → IsMember e pre → e.statement ≡ Forget r → ⊥

  -- the accesses that are told of a resource are among those above, and each of these is kept until that is gone
  pub record Touches (pre : List Step) (w : Watched) : Type 0 where
    pub from : (r : ℕ) (t : Touch) → IsMember t (all_touched (w.touched r)) → IsMember t.step pre × (t.at ≡ lanes_by sites t.step)
    pub to : (a : Step) (access : Access) → IsMember a pre → access_of a.statement ≡ Some access → IsThere pre access.resource →
        IsKept pre (all_touched (w.touched access.resource)) a
    pub rises : (r : ℕ) → Rises (all_touched (w.touched r))

  -- some stand for steps still when there are more above
  keeps_on : (pre : List Step) (s t a : Step) → StandsFor pre t a → StandsFor (pre ++ s ∷ []) t a
  keeps_on pre s t a k = record {
    below = k.below;
    also = λ b m l. k.also b m (λ z n. l z (in_front z pre (s ∷ []) n));
  }

  stands_itself : (pre : List Step) (a : Step) → StandsFor pre a a
  stands_itself pre a = record { below = omega arith; also = λ b m l c. (c, λ o. o) }

  stands_twice : (pre : List Step) (u t a : Step) → StandsFor pre u t → StandsFor pre t a → StandsFor pre u a
  stands_twice pre u t a f g = record {
    below = let l = f.below in let m = g.below in omega arith;
    also = λ b m l c. let h = g.also b m l c in let i = f.also b m l h.0 in (i.0, λ o. h.1 (i.1 o));
  }

  -- One step

  module _ (pre post : List Step) (s : Step) (all : steps ≡ pre ++ s ∷ post) (w : Watched) (g : Fine pre w) (k : Touches pre w) (quiet : Quiet pre) where
    abbrev new : Touch
    new = touching s

    abbrev now : ℕ → Touched
    now = touched_with w.touched new (access_of s.statement)

    low : (z : Step) → IsMember z pre → z.line < s.line
    low z m = is_above steps sites rising tidy there pre post s all w g z m

    s_in : IsMember s steps
    s_in = step_in steps sites rising tidy there pre post s all w g

    in_steps : (z : Step) → IsMember z pre → IsMember z steps
    in_steps z m = above_in steps sites rising tidy there pre post s all w g z m

    abbrev Goes : ℕ → Touched → Type 0
    Goes r x =
        ((t : Touch) → IsMember t (all_touched x) → IsMember t (all_touched (w.touched r)) ⊎ (t ≡ new))
        × ((t : Touch) → IsMember t (all_touched (w.touched r)) → IsKept (pre ++ s ∷ []) (all_touched x) t.step)
        × Rises (all_touched x)

    same_goes : (r : ℕ) → Goes r (w.touched r)
    same_goes r = (λ t m. inl m, λ t m. (t, m, stands_itself (pre ++ s ∷ []) t.step), k.rises r)

    -- an access that is forgotten
    stood : (r : ℕ) (access : Access) → access_of s.statement ≡ Some access → (t u : Touch) → IsMember t (w.touched r).older → IsMember u (w.touched r).newest →
        (not (same_command u.step.command s.command) && stands_for u.step t.step) ≡ true → StandsFor (pre ++ s ∷ []) u.step t.step
    stood r access e t u m n h = record {
      below = (let l = above in omega arith);
      also = λ b i l c. (conflicts b i l c, λ o. behind_too steps rising tidy u.step t.step ui ti above (and_right (covers (access_of u.step.statement) (access_of t.step.statement)) (has_points u.step) (and_left (covers (access_of u.step.statement) (access_of t.step.statement) && has_points u.step) (is_behind u.step t.step) both)) b o (and_right (covers (access_of u.step.statement) (access_of t.step.statement) && has_points u.step) (is_behind u.step t.step) both) ordered);
    }
      where
        says_access : access_of s.statement ≡ Some access
        says_access = e

        both : stands_for u.step t.step ≡ true
        both = and_right (not (same_command u.step.command s.command)) (stands_for u.step t.step) h

        other : same_command u.step.command s.command ≡ false
        other = of_not (same_command u.step.command s.command) (and_left (not (same_command u.step.command s.command)) (stands_for u.step t.step) h)

        tp : IsMember t.step pre
        tp = (k.from r t (in_front t (w.touched r).older (w.touched r).newest m)).0

        up : IsMember u.step pre
        up = (k.from r u (in_back u (w.touched r).older (w.touched r).newest n)).0

        ti : IsMember t.step steps
        ti = in_steps t.step tp

        ui : IsMember u.step steps
        ui = in_steps u.step up

        above : t.step.line < u.step.line
        above = parts_rise (w.touched r).older (w.touched r).newest t u (k.rises r) m n

        ordered : conflict t.step u.step ≡ true → Ordered steps t.step u.step
        ordered c = quiet t.step u.step up (record { first = ti; second = ui; above = above; conflicts = c })

        -- no step of its command is below
        apart : (b : Step) → IsMember b steps → s.line < b.line → same_command u.step.command b.command ≡ false
        apart b i l = by u.step.command refl b.command refl
          where
            by : (o : Option ℕ) → u.step.command ≡ o → (p : Option ℕ) → b.command ≡ p → same_command o p ≡ false
            by None e p f = refl
            by (Some c) e None f = refl
            by (Some c) e (Some d) f = ne_eqb c d (λ q. never (sym other ∙ of_one q))
              where
                of_one : c ≡ d → same_command u.step.command s.command ≡ true
                of_one q =
                    let begins = tidy.command u.step c ui e in
                    let over = low u.step up in
                    let one : s.command ≡ Some c =
                    tidy.apart s b c s_in i l (ap (λ (x : Option Access). is_some x) says_access) (f ∙ ap (λ (x : ℕ). Some x) (sym q)) (omega arith) in
                    (λ j. same_command (e j) (one j)) ∙ eq-eqb c c refl

        conflicts : (b : Step) → IsMember b steps → ((z : Step) → IsMember z (pre ++ s ∷ []) → z.line < b.line) → conflict t.step b ≡ true → conflict u.step b ≡ true
        conflicts b i l c =
            and_from (clash (access_of u.step.statement) (access_of b.statement)) (not (same_command u.step.command b.command))
            (clash_over (access_of u.step.statement) (access_of t.step.statement) (access_of b.statement)
            (and_left (covers (access_of u.step.statement) (access_of t.step.statement)) (has_points u.step)
            (and_left (covers (access_of u.step.statement) (access_of t.step.statement) && has_points u.step) (is_behind u.step t.step) both))
            (and_left (clash (access_of t.step.statement) (access_of b.statement)) (not (same_command t.step.command b.command)) c))
            (ap (λ (x : Bool). not x) (apart b i (l s (in_back s pre (s ∷ []) (inl refl)))))

    with_goes : (r : ℕ) (access : Access) → access_of s.statement ≡ Some access → Goes r (with_touch new (w.touched r))
    with_goes r access e = by (goes_on s (w.touched r).newest)
      where
        under : (front : List Touch) → ((t : Touch) → IsMember t front → IsMember t (all_touched (w.touched r))) → (t : Touch) → IsMember t (front ++ new ∷ []) → IsMember t (all_touched (w.touched r)) ⊎ (t ≡ new)
        under front f t m = elim (in_either t front (new ∷ []) m) [ inl n ↦ inl (f t n) | inr n ↦ inr (one n) ]
          where
            one : IsMember t (new ∷ []) → t ≡ new
            one (inl q) = q
            one (inr q) = absurd q

        passes : Touch → Bool
        passes t = not (is_stood_for s (w.touched r).newest t)

        front : List Touch
        front = filter passes (w.touched r).older ++ (w.touched r).newest

        of_front : (t : Touch) → IsMember t front → IsMember t (all_touched (w.touched r))
        of_front t m = elim (in_either t (filter passes (w.touched r).older) (w.touched r).newest m) [
          | inl n ↦ in_front t (w.touched r).older (w.touched r).newest (of_filter passes t (w.touched r).older n).0
          | inr n ↦ in_back t (w.touched r).older (w.touched r).newest n
        ]

        keeps : (t : Touch) → IsMember t (all_touched (w.touched r)) → IsKept (pre ++ s ∷ []) (front ++ new ∷ []) t.step
        keeps t m = elim (in_either t (w.touched r).older (w.touched r).newest m) [ inl n ↦ of_older n (is_stood_for s (w.touched r).newest t) refl | inr n ↦ of_newest t n ]
          where
            of_newest : (u : Touch) → IsMember u (w.touched r).newest → IsKept (pre ++ s ∷ []) (front ++ new ∷ []) u.step
            of_newest u n = (u, in_front u front (new ∷ []) (in_back u (filter passes (w.touched r).older) (w.touched r).newest n), stands_itself (pre ++ s ∷ []) u.step)

            of_older : IsMember t (w.touched r).older → (b : Bool) → is_stood_for s (w.touched r).newest t ≡ b → IsKept (pre ++ s ∷ []) (front ++ new ∷ []) t.step
            of_older n false f = (
              t,
              in_front t front (new ∷ []) (in_front t (filter passes (w.touched r).older) (w.touched r).newest (in_filter passes t (w.touched r).older n (ap (λ (b : Bool). not b) f))),
              stands_itself (pre ++ s ∷ []) t.step,
            )
            of_older n true f =
                let u = one_of_any (λ (u : Touch). not (same_command u.step.command s.command) && stands_for u.step t.step) (w.touched r).newest f in
                (u.0, (of_newest u.0 u.1).1, stood r access e t u.0 n u.1 u.2)

        over : (xs : List Touch) → ((t : Touch) → IsMember t xs → IsMember t (all_touched (w.touched r))) → (u : Touch) → IsMember u xs → u.step.line < s.line
        over xs f u m = low u.step (k.from r u (f u m)).0

        by : (b : Bool) → Goes r (cond b (record (w.touched r) { newest = (w.touched r).newest ++ new ∷ [] }) (record { older = front; newest = new ∷ [] }))
        by true =
            subst (λ (l : List Touch). ((t : Touch) → IsMember t l → IsMember t (all_touched (w.touched r)) ⊎ (t ≡ new)) × ((t : Touch) → IsMember t (all_touched (w.touched r)) → IsKept (pre ++ s ∷ []) l t.step) × Rises l)
            (append_assoc (w.touched r).older (w.touched r).newest (new ∷ [])) (
              under (all_touched (w.touched r)) (λ t m. m),
              λ t m. (t, in_front t (all_touched (w.touched r)) (new ∷ []) m, stands_itself (pre ++ s ∷ []) t.step),
              rises_with (all_touched (w.touched r)) new (k.rises r) (over (all_touched (w.touched r)) (λ t m. m)),
            )
        by false = (under front of_front, keeps, rises_with front new (rises_filter passes (w.touched r).older (w.touched r).newest (k.rises r)) (over front of_front))

    new_there : (x : Touched) → IsMember new (all_touched (with_touch new x))
    new_there x = by (goes_on s x.newest)
      where
        by : (b : Bool) → IsMember new (all_touched (cond b (record x { newest = x.newest ++ new ∷ [] }) (record { older = filter (λ t. not (is_stood_for s x.newest t)) x.older ++ x.newest; newest = new ∷ [] })))
        by true = in_back new x.older (x.newest ++ new ∷ []) (in_back new x.newest (new ∷ []) (inl refl))
        by false = in_back new (filter (λ t. not (is_stood_for s x.newest t)) x.older ++ x.newest) (new ∷ []) (inl refl)

    -- what is left of accesses where a resource is gone: none of that, and else all
    left_goes : (r : ℕ) (said : Statement) → (said ≡ Forget r) ⊎ Goes r (without_gone w.touched said r)
    left_goes r (Forget x) = by (x == r) refl
      where
        by : (b : Bool) → (x == r) ≡ b → (Forget x ≡ Forget r) ⊎ Goes r (cond b none_touched (w.touched r))
        by true e = inl (ap (λ (y : ℕ). Forget y) (eqb-true x r e))
        by false e = inr (same_goes r)
    left_goes r other = inr (same_goes r)

    new_goes : (r : ℕ) → (s.statement ≡ Forget r) ⊎ Goes r (now r)
    new_goes r = by (access_of s.statement) refl
      where
        by_test : (access : Access) → access_of s.statement ≡ Some access → (b : Bool) → Goes r (cond b (with_touch new (w.touched r)) (w.touched r))
        by_test access e true = with_goes r access e
        by_test access e false = same_goes r

        by : (o : Option Access) → access_of s.statement ≡ o → (s.statement ≡ Forget r) ⊎ Goes r (touched_with w.touched new o r)
        by None e = left_goes r s.statement
        by (Some access) e = inr (by_test access e (access.resource == r))

    to_now : (a : Step) (access : Access) → IsMember a (pre ++ s ∷ []) → access_of a.statement ≡ Some access → IsThere (pre ++ s ∷ []) access.resource → IsKept (pre ++ s ∷ []) (all_touched (now access.resource)) a
    to_now a access m e there_still = elim (in_either a pre (s ∷ []) m) [ inl n ↦ old n | inr n ↦ here n ]
      where
        goes : Goes access.resource (now access.resource)
        goes = elim (new_goes access.resource) [
          | inl g ↦ absurd (there_still s (in_back s pre (s ∷ []) (inl refl)) g)
          | inr g ↦ g
        ]

        old : IsMember a pre → IsKept (pre ++ s ∷ []) (all_touched (now access.resource)) a
        old n =
            let f = k.to a access n e (λ u i. there_still u (in_front u pre (s ∷ []) i)) in
            let h = goes.1 f.0 f.1 in
            (h.0, h.1, stands_twice (pre ++ s ∷ []) h.0.step f.0.step a h.2 (keeps_on pre s f.0.step a f.2))

        there_now : access_of s.statement ≡ Some access → IsMember new (all_touched (now access.resource))
        there_now q =
            subst (λ (o : Option Access). IsMember new (all_touched (touched_with w.touched new o access.resource))) (sym q)
            (subst (λ (b : Bool). IsMember new (all_touched (cond b (with_touch new (w.touched access.resource)) (w.touched access.resource))))
            (sym (eq-eqb access.resource access.resource refl)) (new_there (w.touched access.resource)))

        here : IsMember a (s ∷ []) → IsKept (pre ++ s ∷ []) (all_touched (now access.resource)) a
        here (inl q) =
            subst (λ (u : Step). IsKept (pre ++ s ∷ []) (all_touched (now access.resource)) u) (sym q)
            (new, there_now (subst (λ (u : Step). access_of u.statement ≡ Some access) q e), stands_itself (pre ++ s ∷ []) s)
        here (inr n) = absurd n

    -- nothing is told of a resource that is gone
    abbrev IsEmptied : ℕ → Type 0
    IsEmptied r = now r ≡ none_touched

    emptied : (r : ℕ) → s.statement ≡ Forget r → IsEmptied r
    emptied r e =
        ap (λ (said : Statement). touched_with w.touched (record { step = record s { statement = said }; at = lanes_by sites s }) (access_of said) r) e
        ∙ ap (λ (b : Bool). cond b none_touched (w.touched r)) (eq-eqb r r refl)

    from_now : (r : ℕ) (t : Touch) → IsMember t (all_touched (now r)) → IsMember t.step (pre ++ s ∷ []) × (t.at ≡ lanes_by sites t.step)
    from_now r t m = elim (new_goes r) [
      | inl g ↦ absurd (subst (λ (x : Touched). IsMember t (all_touched x)) (emptied r g) m)
      | inr g ↦ elim (g.0 t m) [ inl n ↦ old n | inr q ↦ here q ]
    ]
      where
        old : IsMember t (all_touched (w.touched r)) → IsMember t.step (pre ++ s ∷ []) × (t.at ≡ lanes_by sites t.step)
        old n = let f = k.from r t n in (in_front t.step pre (s ∷ []) f.0, f.1)

        here : t ≡ new → IsMember t.step (pre ++ s ∷ []) × (t.at ≡ lanes_by sites t.step)
        here q = (
          in_back t.step pre (s ∷ []) (inl (ap (λ (u : Touch). u.step) q)),
          ap (λ (u : Touch). u.at) q ∙ ap (λ (u : Touch). lanes_by sites u.step) (sym q),
        )

    touches_next : Touches (pre ++ s ∷ []) (next steps sites rising tidy there pre post s all w g)
    touches_next = record { from = from_now; to = to_now; rises = rises_now }
      where
        rises_now : (r : ℕ) → Rises (all_touched (now r))
        rises_now r = elim (new_goes r) [
          | inl g ↦ subst (λ (x : Touched). Rises (all_touched x)) (sym (emptied r g)) tt
          | inr g ↦ g.2
        ]

  -- All steps above one

  abbrev Both : List Step → Watched → Type 0
  Both pre w = Fine pre w × Touches pre w

  both_on : (front : List Step) (w : Watched) (pre back : List Step) → steps ≡ pre ++ (front ++ back) → (watch_on w pre (front ++ back)).sites ≡ sites → Quiet (pre ++ front) → Both pre w → Both (pre ++ front) (watch_on w pre front)
  both_on [] w pre back e f q g = subst (λ (l : List Step). Both l w) (sym (append-nil pre)) g
  both_on (s ∷ front) w pre back e f q g =
      subst (λ (l : List Step). Both l (watch_on (watch_with w (tell pre s)) (pre ++ s ∷ []) front)) (append_assoc pre (s ∷ []) front)
      (both_on front (watch_with w (tell pre s)) (pre ++ s ∷ []) back
      (e ∙ sym (append_assoc pre (s ∷ []) (front ++ back))) f
      (subst (λ (l : List Step). Quiet l) (sym (append_assoc pre (s ∷ []) front)) q)
      (subst (λ (v : Watched). Both (pre ++ s ∷ []) v) same
      (good_next steps sites rising tidy there pre (front ++ back) s e w g.0, touches_next pre (front ++ back) s e w g.0 g.1 (λ c d m. q c d (in_front d pre (s ∷ front) m)))))
    where
      lanes : lanes_of w.sites s ≡ lanes_by sites s
      lanes =
          lanes_stay w.sites sites s
          (subst (λ (l : List Site). Extends (with_sites w.sites s) l) f (sites_on (watch_with w (tell pre s)) (pre ++ s ∷ []) (front ++ back)))

      same : next steps sites rising tidy there pre (front ++ back) s e w g.0 ≡ watch_with w (tell pre s)
      same = ap (λ (a : StepLanes). watch_at w a (tell pre s) (clock_of w.cells w.lines w.signals a (tell pre s))) (sym lanes)

  fine_first : Fine [] nothing_watched
  fine_first = record {
    cell = λ j k x m n l. absurd (omega arith);
    kept = λ i k x m n l. absurd (omega arith);
    cut = λ n l. absurd (omega arith);
    whole_known = λ z x m. absurd m.0;
    part_known = λ z x t m. absurd m.0;
    line_known = λ z x m. absurd m.0;
    cut_known = λ s m. absurd m;
    signaled = λ r m. absurd m;
    signal_known = λ z g m. absurd m.0;
  }

  touches_first : Touches [] nothing_watched
  touches_first = record { from = λ r t m. absurd m; to = λ a access m. absurd m; rises = λ r. tt }

  -- The last step

  module _ (above below : List Step) (b : Step) (all : steps ≡ above ++ b ∷ below) (w : Watched) (good : Fine above w) (touches : Touches above w) where
    b_in : IsMember b steps
    b_in = step_in steps sites rising tidy there above below b all w good

    above_steps : (z : Step) → IsMember z above → IsMember z steps
    above_steps z m = above_in steps sites rising tidy there above below b all w good z m

    b_low : (z : Step) → IsMember z above → z.line < b.line
    b_low z m = is_above steps sites rising tidy there above below b all w good z m

    abbrev at : StepLanes
    at = lanes_by sites b

    abbrev told : ToldStep
    told = tell above b

    abbrev clocking : Point → Clocking
    clocking y = record { point = y; clock = clock_at w.cells w.lines w.signals at told y.stage }

    abbrev points : List Clocking
    points = clocked_points w.cells w.lines w.signals at told

    -- a point of b knows what is before it

    module _ (y : Point) (ym : IsMember y (points_of_step b)) (plain_b : is_cut b.statement ≡ false) (x : Point) (xa : IsMember x.step above) (xp : IsPoint x) where
      y_step : y.step ≡ b
      y_step = own_step b b.statement y ym

      y_is : IsPoint y
      y_is = subst (λ (s : Step). IsMember y (points_of_step s)) (sym y_step) ym

      x_in : In steps sites rising tidy there steps x
      x_in = (above_steps x.step xa, xp)

      below_y : x.step.line < y.step.line
      below_y = subst (λ (s : Step). x.step.line < s.line) (sym y_step) (b_low x.step xa)

      y_here : In steps sites rising tidy there steps y
      y_here = (subst (λ (s : Step). IsMember s steps) (sym y_step) b_in, y_is)

      from_scopes : by_scopes x y ≡ true → Before steps x y
      from_scopes e =
          one (record { point = point_in steps sites rising tidy there y y_here; direct = edge_by_test steps x y below_y e })

      from_cut : x.step.line < w.cut → Before steps x y
      from_cut l = by (good.cut x.step.line l)
        where
          by : (s : Step) × IsMember s above × (is_cut s.statement ≡ true) × (s.line ≡ w.cut) → Before steps x y
          by (s, m, c, q) =
              let low : x.step.line < s.line = omega arith in
              let under : s.line < y.step.line = subst (λ (t : Step). s.line < t.line) (sym y_step) (b_low s m) in
              let whole_point : In steps sites rising tidy there steps (whole s) = (above_steps s m, whole_in s s.statement (no_access s c)) in
              more
              (one (record {
                point = point_in steps sites rising tidy there (whole s) whole_point;
                direct = edge_by_cut steps x (whole s) low (or_right (is_cut x.step.statement) (is_cut s.statement) c);
              }))
              (record {
                point = point_in steps sites rising tidy there y y_here;
                direct = edge_by_cut steps (whole s) y under (or_left (is_cut s.statement) (is_cut y.step.statement) c);
              })
            where
              no_access : (s : Step) → is_cut s.statement ≡ true → is_command_access s.statement ≡ false
              no_access s c = cut_no_access s.statement c

      from_clock : (k : ℕ) → IsMember k (gives_lanes sites x) → x.step.line < clock_at w.cells w.lines w.signals at told y.stage k → Before steps x y
      from_clock k n l = by y.stage refl l
        where
          by : (o : Option Stage) → y.stage ≡ o → x.step.line < clock_at w.cells w.lines w.signals at told o k → Before steps x y
          by None e h =
              let same : y ≡ whole b = (λ i. record { step = y_step i; stage = e i }) in
              let c = whole_access (whole b) refl (subst (λ (u : Point). IsPoint u) same y_is) in
              subst (λ (u : Point). Before steps x u) (sym same)
              (whole_sound steps sites rising tidy there above below b all w good c x k x_in n h)
          by (Some t) e h =
              let same : y ≡ record { step = b; stage = Some t } = (λ i. record { step = y_step i; stage = e i }) in
              let yin = subst (λ (u : Point). IsPoint u) same y_is in
              subst (λ (u : Point). Before steps x u) (sym same)
              (part_sound steps sites rising tidy there above below b all w good t yin (is_access (record { step = b; stage = Some t }) t yin refl) x k x_in n h)

      known_sound : (ax : StepLanes) → ax ≡ lanes_by sites x.step → is_known w.cut (clocking y) ax x ≡ true → Before steps x y
      known_sound ax ea h =
          elim (or_cases (nat_lt x.step.line w.cut || by_scopes x y) (knows (clocking y).clock x.step.line (given ax x)) h) [
            | inl i ↦ elim (or_cases (nat_lt x.step.line w.cut) (by_scopes x y) i) [
              | inl j ↦ from_cut (below_of_test x.step.line w.cut j)
              | inr j ↦ from_scopes j
            ]
            | inr i ↦ let r = one_of_any (λ k. nat_lt x.step.line ((clocking y).clock k)) (given ax x) i in
                from_clock r.0 (subst (λ (a : StepLanes). IsMember r.0 (given a x)) ea r.1) (below_of_test x.step.line ((clocking y).clock r.0) r.2)
          ]

      -- and knows no less
      abbrev Known : StepLanes → Bool
      Known ax = is_known w.cut (clocking y) ax x

      by_cut : (ax : StepLanes) → x.step.line < w.cut → Known ax ≡ true
      by_cut ax l =
          or_left (nat_lt x.step.line w.cut || by_scopes x y) (knows (clocking y).clock x.step.line (given ax x))
          (or_left (nat_lt x.step.line w.cut) (by_scopes x y) (below_test x.step.line w.cut l))

      by_scope : (ax : StepLanes) → by_scopes x y ≡ true → Known ax ≡ true
      by_scope ax e =
          or_left (nat_lt x.step.line w.cut || by_scopes x y) (knows (clocking y).clock x.step.line (given ax x))
          (or_right (nat_lt x.step.line w.cut) (by_scopes x y) e)

      by_clock : (ax : StepLanes) → ax ≡ lanes_by sites x.step → (k : ℕ) → IsMember k (gives_lanes sites x) → x.step.line < (clocking y).clock k → Known ax ≡ true
      by_clock ax ea k n l =
          or_right (nat_lt x.step.line w.cut || by_scopes x y) (knows (clocking y).clock x.step.line (given ax x))
          (any_of (λ k. nat_lt x.step.line ((clocking y).clock k)) (given ax x) k
          (subst (λ (a : StepLanes). IsMember k (given a x)) (sym ea) n) (below_test x.step.line ((clocking y).clock k) l))

      known_complete : (ax : StepLanes) → ax ≡ lanes_by sites x.step → IsPlain x → Before steps x y → Known ax ≡ true
      known_complete ax ea p c = by y.stage refl
        where
          by : (o : Option Stage) → y.stage ≡ o → Known ax ≡ true
          by None e =
              let same : y ≡ whole b = (λ i. record { step = y_step i; stage = e i }) in
              let free = whole_access (whole b) refl (subst (λ (u : Point). IsPoint u) same y_is) in
              of_whole free (whole_complete steps sites rising tidy there above below b all w good free x x_in p (subst (λ (u : Point). Before steps x u) same c))
            where
              of_whole : (c : is_command_access b.statement ≡ false) → WholeKnown steps sites rising tidy there above below b all w good c x → Known ax ≡ true
              of_whole f (inl l) = by_cut ax l
              of_whole f (inr (inl q)) = never (sym plain_b ∙ q)
              of_whole f (inr (inr (k, n, l))) =
                  by_clock ax ea k n (subst (λ (o : Option Stage). x.step.line < clock_at w.cells w.lines w.signals at told o k) (sym e) l)
          by (Some t) e =
              let same : y ≡ record { step = b; stage = Some t } = (λ i. record { step = y_step i; stage = e i }) in
              let yin = subst (λ (u : Point). IsPoint u) same y_is in
              let access = is_access (record { step = b; stage = Some t }) t yin refl in
              of_part yin access same (part_complete steps sites rising tidy there above below b all w good t yin access x x_in p (subst (λ (u : Point). Before steps x u) same c))
            where
              of_part : (yin : IsPoint (record { step = b; stage = Some t })) (access : is_command_access b.statement ≡ true) →
                  y ≡ record { step = b; stage = Some t } →
                  PartKnown steps sites rising tidy there above below b all w good t yin access x → Known ax ≡ true
              of_part i j q (inl l) = by_cut ax l
              of_part i j q (inr (inl h)) =
                  by_scope ax (subst (λ (u : Point). by_scopes x u ≡ true) (sym q) h.0)
              of_part i j q (inr (inr (k, n, l))) =
                  by_clock ax ea k n (subst (λ (o : Option Stage). x.step.line < clock_at w.cells w.lines w.signals at told o k) (sym e) l)

    -- Steps above

    module _ (a : Step) (am : IsMember a above) (t : Touch) (ts : t.step ≡ a) (ta : t.at ≡ lanes_by sites t.step) (plain_b : is_cut b.statement ≡ false) where
      points_above : (x : Point) → IsMember x (points_of_step t.step) → (x.step ≡ a) × (t.at ≡ lanes_by sites x.step) × IsPoint x
      points_above x m =
          let e = own_step t.step t.step.statement x m in
          (e ∙ ts, ta ∙ ap (λ (s : Step). lanes_by sites s) (sym e), subst (λ (s : Step). IsMember x (points_of_step s)) (sym e) m)

      ordered_of : list_all (all_known w.cut t) points ≡ true → Ordered steps a b
      ordered_of h x y m n =
          let m' = subst (λ (s : Step). IsMember x (points_of_step s)) (sym ts) m in
          let p = points_above x m' in
          let k = each_of_all (all_known w.cut t) points (clocking y) h (in_map clocking y (points_of_step b) n) in
          known_sound y n plain_b x (subst (λ (s : Step). IsMember s above) (sym p.0) am) p.2 t.at p.1
          (each_of_all (is_known w.cut (clocking y) t.at) (points_of_step t.step) x k m')

      of_ordered : ((x : Point) → x.step ≡ a → IsPlain x) → Ordered steps a b → list_all (all_known w.cut t) points ≡ true
      of_ordered plain o = all_of_each (all_known w.cut t) points each
        where
          each_point : (y : Point) → IsMember y (points_of_step b) → all_known w.cut t (clocking y) ≡ true
          each_point y n = all_of_each (is_known w.cut (clocking y) t.at) (points_of_step t.step) here
            where
              here : (x : Point) → IsMember x (points_of_step t.step) → is_known w.cut (clocking y) t.at x ≡ true
              here x m =
                  let p = points_above x m in
                  known_complete y n plain_b x (subst (λ (s : Step). IsMember s above) (sym p.0) am) p.2 t.at p.1 (plain x p.0)
                  (o x y (subst (λ (s : Step). IsMember x (points_of_step s)) ts m) n)

          each : (c : Clocking) → IsMember c points → all_known w.cut t c ≡ true
          each c m =
              let r = from_map clocking c (points_of_step b) m in
              subst (λ (d : Clocking). all_known w.cut t d ≡ true) (sym r.2) (each_point r.0 r.1)

    -- The race

    abbrev those : List Touch
    those = touched_by w.touched (access_of b.statement)

    abbrev loose : Touch → Bool
    loose = is_loose w.cut points b

    plain_of : (s : Step) (access : Access) → access_of s.statement ≡ Some access → (x : Point) → x.step ≡ s → IsPlain x
    plain_of s access e x q = access_is_plain x access (subst (λ (u : Step). access_of u.statement ≡ Some access) (sym q) e)

    no_cut : (access : Access) → access_of b.statement ≡ Some access → is_cut b.statement ≡ false
    no_cut access e = (plain_of b access e (whole b) refl).no_cut

    conflicting : (a : Step) → conflict a b ≡ true → Clashes (access_of a.statement) (access_of b.statement)
    conflicting a h =
        clashes (access_of a.statement) (access_of b.statement)
        (and_left (clash (access_of a.statement) (access_of b.statement)) (not (same_command a.command b.command)) h)

    among : (a : Step) → IsMember a above → conflict a b ≡ true → IsKept above those a
    among a m h =
        let c = conflicting a h in
        subst (λ (o : Option Access). IsKept above (touched_by w.touched o) a) (sym c.3)
        (subst (λ (r : ℕ). IsKept above (all_touched (w.touched r)) a) c.4 (touches.to a c.0 m c.2 (still c)))
      where
        still : (c : Clashes (access_of a.statement) (access_of b.statement)) → IsThere above c.0.resource
        still c e i q =
            never (sym (tidy.gone e b c.0.resource (above_steps e i) b_in (b_low e i) q)
            ∙ subst (λ (r : ℕ). names_thing b.statement r ≡ true) (sym c.4) (names_accessed b.statement c.1 c.3))

    told_of : (t : Touch) → IsMember t those → IsMember t.step above × (t.at ≡ lanes_by sites t.step)
    told_of t = by (access_of b.statement)
      where
        by : (o : Option Access) → IsMember t (touched_by w.touched o) → IsMember t.step above × (t.at ≡ lanes_by sites t.step)
        by None m = absurd m
        by (Some access) m = touches.from access.resource t m

    those_rise : Rises those
    those_rise = by (access_of b.statement)
      where
        by : (o : Option Access) → Rises (touched_by w.touched o)
        by None = tt
        by (Some access) = touches.rises access.resource

    -- a step that conflicts, and isn't loose, is ordered
    tight : (t : Touch) → IsMember t those → conflict t.step b ≡ true → loose t ≡ false → Ordered steps t.step b
    tight t m h l = by (list_all (all_known w.cut t) points) refl
      where
        by : (k : Bool) → list_all (all_known w.cut t) points ≡ k → Ordered steps t.step b
        by true e =
            let c = conflicting t.step h in
            let r = told_of t m in
            ordered_of t.step r.0 t refl r.1 (no_cut c.1 c.3) e
        by false e = never (sym l ∙ and_from (conflict t.step b) (not (list_all (all_known w.cut t) points)) h (ap (λ (k : Bool). not k) e))

    conflicts_loose : (t : Touch) → loose t ≡ true → conflict t.step b ≡ true
    conflicts_loose t l = and_left (conflict t.step b) (not (list_all (all_known w.cut t) points)) l

    unordered_loose : (t : Touch) → IsMember t those → loose t ≡ true → Ordered steps t.step b → ⊥
    unordered_loose t m l o =
        let r = told_of t m in
        let h = conflicts_loose t l in
        let k = and_right (conflict t.step b) (not (list_all (all_known w.cut t) points)) l in
        let c = conflicting t.step h in
        never (sym (ap (λ (x : Bool). not x) (of_ordered t.step r.0 t refl r.1 (no_cut c.1 c.3) (plain_of t.step c.0 c.2) o)) ∙ k)

    above_of : (a : Step) → Conflicts steps a b → IsMember a above
    above_of a c =
        in_front_of above below b a (subst (λ (l : List Step). AreRising l) all rising) (subst (λ (l : List Step). IsMember a l) all c.first) c.above

    -- of some, the first from below that is loose; or all that conflict are ordered
    abbrev Found : List Touch → Option ℕ → Type 0
    Found up None = (c : Touch) → IsMember c up → conflict c.step b ≡ true → Ordered steps c.step b
    Found up (Some n) =
        (t : Touch) × IsMember t up × (loose t ≡ true) × (t.step.line ≡ n)
        × ((c : Touch) → IsMember c up → loose c ≡ true → c.step.line ≤ t.step.line)

    module _ (a : Touch) (up : List Touch) (f : Falls (a ∷ up)) (here : (c : Touch) → IsMember c (a ∷ up) → IsMember c those) where
      found_here : loose a ≡ true → Found (a ∷ up) (Some a.step.line)
      found_here e = (a, inl refl, e, refl, least)
        where
          least : (c : Touch) → IsMember c (a ∷ up) → loose c ≡ true → c.step.line ≤ a.step.line
          least c (inl q) h = let k = ap (λ (u : Touch). u.step.line) q in omega arith
          least c (inr m) h = let k = f.0 c m in omega arith

      found_on : (o : Option ℕ) → loose a ≡ false → Found up o → Found (a ∷ up) o
      found_on None e g = on
        where
          on : (c : Touch) → IsMember c (a ∷ up) → conflict c.step b ≡ true → Ordered steps c.step b
          on c (inl q) h =
              subst (λ (u : Touch). Ordered steps u.step b) (sym q) (tight a (here a (inl refl)) (subst (λ (u : Touch). conflict u.step b ≡ true) q h) e)
          on c (inr m) h = g c m h
      found_on (Some n) e (t, m, l, q, g) = (t, inr m, l, q, on)
        where
          on : (c : Touch) → IsMember c (a ∷ up) → loose c ≡ true → c.step.line ≤ t.step.line
          on c (inl k) h = never (sym e ∙ subst (λ (u : Touch). loose u ≡ true) k h)
          on c (inr k) h = g c k h

      found_next : Found up (first_loose w.cut points b up) → Found (a ∷ up) (first_loose w.cut points b (a ∷ up))
      found_next g = by (loose a) refl
        where
          by : (t : Bool) → loose a ≡ t → Found (a ∷ up) (cond t (Some a.step.line) (first_loose w.cut points b up))
          by true e = found_here e
          by false e = found_on (first_loose w.cut points b up) e g

    found_all : (up : List Touch) → Falls up → ((c : Touch) → IsMember c up → IsMember c those) → Found up (first_loose w.cut points b up)
    found_all [] f h = λ c m. absurd m
    found_all (a ∷ up) f h = found_next a up f h (found_all up f.1 (λ c m. h c (inr m)))

    pub finds : FindsRace steps b (last_loose w.cut points b those)
    finds =
        by (last_loose w.cut points b those)
        (found_all (reverse those) (falls_back those those_rise) (λ c m. of_reverse c those m))
      where
        by : (o : Option ℕ) → Found (reverse those) o → FindsRace steps b o
        by None f = λ a c.
            let k = among a (above_of a c) c.conflicts in
            let h = k.2.also b b_in b_low c.conflicts in
            h.1 (f k.0 (to_reverse k.0 those k.1) h.0)
        by (Some n) (t, m, l, q, f) = (t.step, race, q, greatest)
          where
            member : IsMember t those
            member = of_reverse t those m

            race : IsRace steps t.step b
            race = record {
              pair = record {
                first = above_steps t.step (told_of t member).0;
                second = b_in;
                above = b_low t.step (told_of t member).0;
                conflicts = conflicts_loose t l;
              };
              unordered = unordered_loose t member l;
            }

            greatest : (c : Step) → IsRace steps c b → c.line ≤ t.step.line
            greatest c r = by_loose (loose k.0) refl
              where
                k : IsKept above those c
                k = among c (above_of c r.pair) r.pair.conflicts

                h : (conflict k.0.step b ≡ true) × (Ordered steps k.0.step b → Ordered steps c b)
                h = k.2.also b b_in b_low r.pair.conflicts

                by_loose : (x : Bool) → loose k.0 ≡ x → c.line ≤ t.step.line
                by_loose true e = let i = f k.0 (to_reverse k.0 those k.1) e in let j = k.2.below in omega arith
                by_loose false e = absurd (r.unordered (h.1 (tight k.0 k.1 h.0 e)))

-- Above a step of a capture, the clocks find the race.
pub clocks_find : (steps above below : List Step) (b : Step) → AreRising steps → AreTidy steps → steps ≡ above ++ b ∷ below → ((c d : Step) → IsMember d above → Conflicts steps c d → Ordered steps c d) → FindsRace steps b (found_race above b)
clocks_find steps above below b rising tidy all none =
    subst (λ (a : StepLanes). FindsRace steps b (last_loose (watched above).cut (clocked_points (watched above).cells (watched above).lines (watched above).signals a (tell above b)) b (touched_by (watched above).touched (access_of b.statement)))) (sym lanes)
    (finds steps sites rising tidy there above below b all (watched above) both.0 both.1)
  where
    sites : List Site
    sites = (watched steps).sites

    there : (s : Step) → IsMember s steps → HasSites (watched steps).sites s
    there s m = there_on nothing_watched [] steps s m

    same_sites : (watch_on nothing_watched [] (above ++ b ∷ below)).sites ≡ (watched steps).sites
    same_sites = ap (λ (l : List Step). (watched l).sites) (sym all)

    both : Good steps (watched steps).sites rising tidy there above (watched above) × Touches steps (watched steps).sites rising tidy there above (watched above)
    both =
        both_on steps (watched steps).sites rising tidy there above nothing_watched [] (b ∷ below) all same_sites none
        (fine_first steps (watched steps).sites rising tidy there, touches_first steps (watched steps).sites rising tidy there)

    on_front : (w : Watched) (pre front back : List Step) → Extends (watch_on w pre front).sites (watch_on w pre (front ++ back)).sites
    on_front w pre [] back = sites_on w pre back
    on_front w pre (s ∷ front) back = on_front (watch_with w (tell pre s)) (pre ++ s ∷ []) front back

    lanes : lanes_of (watched above).sites b ≡ lanes_by (watched steps).sites b
    lanes = lanes_stay (watched above).sites (watched steps).sites b far
      where
        far : Extends (with_sites (watched above).sites b) (watched steps).sites
        far =
            subst (λ (l : List Site). Extends (with_sites (watched above).sites b) l) same_sites
            (with_next nothing_watched [] above)
          where
            with_next : (w : Watched) (pre front : List Step) → Extends (with_sites (watch_on w pre front).sites b) (watch_on w pre (front ++ b ∷ below)).sites
            with_next w pre [] = sites_on (watch_with w (tell pre b)) (pre ++ b ∷ []) below
            with_next w pre (s ∷ front) = with_next (watch_with w (tell pre s)) (pre ++ s ∷ []) front

-- What is behind an access that stands for one above it is behind that, too; and what conflicts with that conflicts
-- with this.
use Rattle.std.proofs.Common.{◌≡◌, ◌<◌, ◌≤◌, Bool, true, false, ℕ, List, filter, refl, sym, ◌∙◌, ap, subst, inl, inr, arith, Option, Some, None}
use Rattle.std.specs.Prelude.{nat_lt, nat_le, ◌==◌, ◌+◌, ◌&&◌, ◌||◌, not, is_some}
use Rattle.std.proofs.lemmas.Bool.{or_cases, or_right, and_from, eqb-true, eq-eqb, leb-true}
use Rattle.vq_ground.specs.Lists.{has}
use Rattle.vq_ground.proofs.Bools.{never}
use Rattle.vq_ground.proofs.Tests.{below_test, below_of_test}
use Rattle.vq_capture.specs.declared.stage.Stage.{Stage}
use Rattle.vq_capture.specs.declared.stage.StageMask.{StageMask}
use Rattle.vq_capture.specs.declared.statement.Access.{Access}
use Rattle.vq_capture.specs.declared.statement.Statement.{Statement}
use Rattle.vq_capture.specs.declared.statement.Statement.TheVariants.{CommandAccess, After}
use Rattle.vq_capture.specs.declared.capture.Step.{Step}
use Rattle.vq_capture.specs.Masks.{has_stage, meets}
use Rattle.vq_capture.specs.Releases.{releases, same_queue}
use Rattle.vq_capture.specs.Points.{Point, points_of, points_of_step, points_at, stages_with_word, takes, IsMember}
use Rattle.vq_capture.specs.Before.{Before, one, more, is_direct, by_release, same_thread, is_after, is_cut, was_handed, steps_above}
use Rattle.vq_capture.specs.Races.{clash, share_unit, is_write, conflict, Ordered}
use Rattle.vq_capture_laws.proofs.Cited.{AreRising, and_left, and_right, two_paths, down, own_step, in_flat_map, from_flat_map, from_map, one_of_any, each_of_all}
use Rattle.vq_capture_check.specs.Watching.{is_command_access, is_releasing, covers, has_points, at_stages_of, is_behind}
use Rattle.vq_capture_clocks_laws.specs.Tidy.{AreTidy}
use Rattle.vq_capture_clocks_laws.proofs.RisingSteps.{same_step}
use Rattle.vq_capture_clocks_laws.proofs.LaneEdges.{in_map, in_filter}
use Rattle.vq_capture_clocks_laws.proofs.EdgeCauses.{Cause, Scopes, Signals, Release, Thread, Telling, Cut, cause_of, edge_by_scopes, edge_by_thread, edge_by_cut}
use Rattle.vq_capture_clocks_laws.proofs.PointKinds.{gives_stage, no_operation, access_cuts_none, the_access}
use Rattle.vq_capture_clocks_laws.proofs.ReleasingLines.{Releasing, releasing, lasting_releases, in_has, of_filter}

-- Conflicts

kinds_over : (w a b : Bool) → (w || not a) ≡ true → (a || b) ≡ true → (w || b) ≡ true
kinds_over true a b h k = refl
kinds_over false true b h k = never h
kinds_over false false b h k = k

abbrev is_one : Access → Access → Bool
is_one w a = w.resource == a.resource

abbrev writes : Access → Access → Bool
writes w a = is_write w.kind || not (is_write a.kind)

abbrev starts : Access → Access → Bool
starts w a = nat_le w.range.offset a.range.offset

abbrev ends : Access → Access → Bool
ends w a = nat_le (a.range.offset + a.range.length) (w.range.offset + w.range.length)

-- what shares units with an access shares them with one that covers it
pub clash_over : (w a b : Option Access) → covers w a ≡ true → clash a b ≡ true → clash w b ≡ true
clash_over (Some w) (Some a) (Some b) v h =
    and_from ((w.resource == b.resource) && share_unit w.range b.range) (is_write w.kind || is_write b.kind)
    (and_from (w.resource == b.resource) (share_unit w.range b.range) same units)
    (kinds_over (is_write w.kind) (is_write a.kind) (is_write b.kind) kinds
    (and_right ((a.resource == b.resource) && share_unit a.range b.range) (is_write a.kind || is_write b.kind) h))
  where
    first : ((is_one w a && writes w a) && starts w a) ≡ true
    first = and_left ((is_one w a && writes w a) && starts w a) (ends w a) v

    low : w.range.offset ≤ a.range.offset
    low = leb-true w.range.offset a.range.offset (and_right (is_one w a && writes w a) (starts w a) first)

    high : a.range.offset + a.range.length ≤ w.range.offset + w.range.length
    high = leb-true (a.range.offset + a.range.length) (w.range.offset + w.range.length) (and_right ((is_one w a && writes w a) && starts w a) (ends w a) v)

    kinds : writes w a ≡ true
    kinds = and_right (is_one w a) (writes w a) (and_left (is_one w a && writes w a) (starts w a) first)

    wa : w.resource ≡ a.resource
    wa = eqb-true w.resource a.resource (and_left (is_one w a) (writes w a) (and_left (is_one w a && writes w a) (starts w a) first))

    ab : ((a.resource == b.resource) && share_unit a.range b.range) ≡ true
    ab = and_left ((a.resource == b.resource) && share_unit a.range b.range) (is_write a.kind || is_write b.kind) h

    same : (w.resource == b.resource) ≡ true
    same = eq-eqb w.resource b.resource (wa ∙ eqb-true a.resource b.resource (and_left (a.resource == b.resource) (share_unit a.range b.range) ab))

    shared : share_unit a.range b.range ≡ true
    shared = and_right (a.resource == b.resource) (share_unit a.range b.range) ab

    units : share_unit w.range b.range ≡ true
    units =
        let l = below_of_test a.range.offset (b.range.offset + b.range.length) (and_left (nat_lt a.range.offset (b.range.offset + b.range.length)) (nat_lt b.range.offset (a.range.offset + a.range.length)) shared) in
        let m = below_of_test b.range.offset (a.range.offset + a.range.length) (and_right (nat_lt a.range.offset (b.range.offset + b.range.length)) (nat_lt b.range.offset (a.range.offset + a.range.length)) shared) in
        let i = low in
        let j = high in
        and_from (nat_lt w.range.offset (b.range.offset + b.range.length)) (nat_lt b.range.offset (w.range.offset + w.range.length))
        (below_test w.range.offset (b.range.offset + b.range.length) (omega arith))
        (below_test b.range.offset (w.range.offset + w.range.length) (omega arith))
clash_over None a b v h = never v
clash_over (Some w) None b v h = never v
clash_over (Some w) (Some a) None v h = never h

-- Order

queue_over : (p q r : Option ℕ) → same_queue p q ≡ true → same_queue q r ≡ true → same_queue p r ≡ true
queue_over (Some p) (Some q) (Some r) e f = eq-eqb p r (eqb-true p q e ∙ eqb-true q r f)
queue_over None q r e f = never e
queue_over (Some p) None r e f = never e
queue_over (Some p) (Some q) None e f = never f

pub none_after : (said : Statement) → is_after said None ≡ false
none_after (After h) = refl
none_after other = refl

module _ (steps : List Step) (rising : AreRising steps) (tidy : AreTidy steps) where
  pub no_release : (z y : Point) → IsMember z.step steps → IsMember y.step steps → is_releasing z.step.statement ≡ false → by_release steps z y ≡ true → ⊥
  no_release z y m n f h =
      elim (or_cases (has (releases (steps_above steps y.step.line) y.step.queue y.step.statement) z.step.line) (was_handed y.step.statement z.step.line) h) [
        | inl i ↦ listed (releasing (steps_above steps y.step.line) y.step.queue y.step.statement z.step.line (in_has (releases (steps_above steps y.step.line) y.step.queue y.step.statement) z.step.line i))
        | inr i ↦ never (sym f ∙ lasting_releases z.step.statement (tidy.handed z.step y.step m n i))
      ]
    where
      listed : Releasing (steps_above steps y.step.line) z.step.line → ⊥
      listed (s, i, e, r) =
          let same = same_step steps s z.step rising (of_filter (λ t. nat_lt t.line y.step.line) s steps i).0 m e in
          never (sym f ∙ subst (λ (t : Step). is_releasing t.statement ≡ true) same r)

  -- two accesses of commands at one stage of one queue: what is behind the lower one is behind the upper one
  module _ (x z : Point) (t : Stage) (ex : x.stage ≡ Some t) (ez : z.stage ≡ Some t) (cx : is_command_access x.step.statement ≡ true) (cz : is_command_access z.step.statement ≡ true) (mz : IsMember z.step steps) (q : same_queue x.step.queue z.step.queue ≡ true) (above : x.step.line < z.step.line) where
    plain : is_releasing z.step.statement ≡ false
    plain = let r = the_access z.step.statement cz in ap (λ (s : Statement). is_releasing s) r.2

    no_thread : z.step.thread ≡ None
    no_thread = tidy.thread z.step mz cz

    redirect : (y : Point) → IsMember y (points_of steps) → is_direct steps z y ≡ true → is_direct steps x y ≡ true
    redirect y n d = by (cause_of steps z y d)
      where
        y_in : IsMember y.step steps
        y_in =
            let r = from_flat_map points_of_step y steps n in
            subst (λ (s : Step). IsMember s steps) (sym (own_step r.0 r.0.statement y r.2)) r.1

        over : x.step.line < y.step.line
        over = let l = down steps z y d in omega arith

        not_both : (b : Bool) → b ≡ false → not b ≡ true
        not_both true e = never (sym e)
        not_both false e = refl

        cut_of : (b c : Bool) → b ≡ false → (b || c) ≡ true → c ≡ true
        cut_of true c e h = never (sym e)
        cut_of false c e h = h

        by : Cause steps z y → is_direct steps x y ≡ true
        by (Scopes a b c) =
            edge_by_scopes steps x y over (queue_over x.step.queue z.step.queue y.step.queue q a)
            (not_both (is_some x.stage && is_some y.stage) (ap (λ (o : Option Stage). is_some o && is_some y.stage) (ex ∙ sym ez) ∙ b))
            (ap (λ (m : StageMask). meets m (takes y)) (gives_stage x t ex cx ∙ sym (gives_stage z t ez cz)) ∙ c)
        by (Signals a o f) = never (sym (no_operation z t ez cz) ∙ o)
        by (Release r) = absurd (no_release z y mz y_in plain r)
        by (Thread h) = never (sym (ap (λ (o : Option ℕ). same_thread o y.step.thread) no_thread) ∙ h)
        by (Telling h) = never (sym (ap (λ (o : Option ℕ). is_after y.step.statement o) no_thread ∙ none_after y.step.statement) ∙ h)
        by (Cut h) =
            edge_by_cut steps x y over
            (or_right (is_cut x.step.statement) (is_cut y.step.statement)
            (cut_of (is_cut z.step.statement) (is_cut y.step.statement) (access_cuts_none z t ez cz) h))

    rebase : (y : Point) → Before steps z y → Before steps x y
    rebase y (one e) = one (record { point = e.point; direct = redirect y e.point e.direct })
    rebase y (more {y = u} b e) = more (rebase u b) e

  -- Steps

  module _ (w a : Step) (mw : IsMember w steps) (ma : IsMember a steps) (above : a.line < w.line) (points : has_points w ≡ true) (b : Step) (behind : Ordered steps w b) where
    through : Ordered steps a w → Ordered steps a b
    through o x y m n =
        let p = one_of_any (λ q. true) (points_of_step w) points in
        two_paths steps x p.0 y (o x p.0 m p.1) (behind p.0 y p.1 n)

    of_thread : same_thread a.thread w.thread ≡ true → Ordered steps a w
    of_thread h x z m n =
        let ex = own_step a a.statement x m in
        let ez = own_step w w.statement z n in
        let l : x.step.line < z.step.line = subst (λ (u : Step). u.line < z.step.line) (sym ex) (subst (λ (u : Step). a.line < u.line) (sym ez) above) in
        one (record {
          point = in_flat_map points_of_step z w steps mw n;
          direct = edge_by_thread steps x z l
              (subst (λ (s : Step). same_thread s.thread z.step.thread ≡ true) (sym ex)
              (subst (λ (s : Step). same_thread a.thread s.thread ≡ true) (sym ez) h));
        })

    of_stages : same_queue a.queue w.queue ≡ true → at_stages_of w.statement a.statement ≡ true → Ordered steps a b
    of_stages q h x y m n = by w.statement refl a.statement refl h
      where
        has_too : (n m : Bool) → not (n && not m) ≡ true → n ≡ true → m ≡ true
        has_too true true e f = refl
        has_too true false e f = never e
        has_too false m e f = never f

        by : (r : Statement) → w.statement ≡ r → (s : Statement) → a.statement ≡ s → at_stages_of r s ≡ true → Before steps x y
        by (CommandAccess c k) e (CommandAccess d l) f h =
            let r = from_map (λ (t : Stage). record { step = a; stage = Some t }) x (filter (has_stage l.stages) stages_with_word) (subst (λ (u : Statement). IsMember x (points_at a u)) f m) in
            let s = of_filter (has_stage l.stages) r.0 stages_with_word r.1 in
            let at = has_too (has_stage l.stages r.0) (has_stage k.stages r.0)
            (each_of_all (λ t. not (has_stage l.stages t && not (has_stage k.stages t))) stages_with_word r.0 h s.0) s.1 in
            let z : Point = record { step = w; stage = Some r.0 } in
            let there : IsMember z (points_of_step w) =
            subst (λ (u : Statement). IsMember z (points_at w u)) (sym e)
            (in_map (λ (t : Stage). record { step = w; stage = Some t }) r.0 (filter (has_stage k.stages) stages_with_word)
            (in_filter (has_stage k.stages) r.0 stages_with_word s.0 at)) in
            subst (λ (p : Point). Before steps p y) (sym r.2)
            (rebase (record { step = a; stage = Some r.0 }) z r.0 refl refl
            (ap (λ (u : Statement). is_command_access u) f) (ap (λ (u : Statement). is_command_access u) e) mw q above y (behind z y there n))
        by (CommandAccess c k) e other f h = never h
        by other e s f h = never h

    pub behind_too : is_behind w a ≡ true → (conflict a w ≡ true → Ordered steps a w) → Ordered steps a b
    behind_too h f =
        elim (or_cases (conflict a w || same_thread a.thread w.thread) (same_queue a.queue w.queue && at_stages_of w.statement a.statement) h) [
          | inl i ↦ elim (or_cases (conflict a w) (same_thread a.thread w.thread) i) [
            | inl j ↦ through (f j)
            | inr j ↦ through (of_thread j)
          ]
          | inr i ↦ of_stages (and_left (same_queue a.queue w.queue) (at_stages_of w.statement a.statement) i)
              (and_right (same_queue a.queue w.queue) (at_stages_of w.statement a.statement) i)
        ]

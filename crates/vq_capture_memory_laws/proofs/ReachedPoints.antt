-- What the search reaches is what a write is available at, and what comes behind that; so it finds what is delivered.
use Rattle.std.proofs.Common.{◌≡◌, ◌⊎◌, ◌<◌, Bool, true, false, ◌&&◌, ◌||◌, List, [], ◌∷◌, ◌++◌, if◌then◌else◌, refl, sym, ◌∙◌, ap, subst, inl, inr, arith, Option, Some, None}
use Rattle.std.specs.Prelude.{not, is_some}
use Rattle.std.specs.List.{list_any}
use Rattle.std.proofs.lemmas.Bool.{or_cases, or_left, or_right, and_from}
use Rattle.vq_ground.proofs.Bools.{never}
use Rattle.vq_capture.specs.declared.stage.Stage.{Stage}
use Rattle.vq_capture.specs.declared.capture.Step.{Step}
use Rattle.vq_capture.specs.Points.{Point, points_of, IsMember}
use Rattle.vq_capture.specs.Before.{Before, one, more, IsEdge, is_direct}
use Rattle.vq_capture_laws.proofs.Cited.{down, leads_down, any_of, one_of_any, and_left, and_right, in_front, in_back, in_either}
use Rattle.vq_capture_memory.specs.Seen.{makes_available, makes_visible, IsMadeAvailable, AvailableAt, by_itself, made}
use Rattle.vq_capture_memory.specs.UnseenWrites.{IsDelivered}
use Rattle.vq_capture_seen.specs.Ways.{ToldPoint, leads, is_made, follows, delivers, is_reached, itself, is_delivered}
use Rattle.vq_capture_memory_laws.proofs.ToldPoints.{IsTold, leads_is_direct, AreOrdered}

-- points that a list has
abbrev pub Has : List ToldPoint → Point → Type 0
Has ws p = (w : ToldPoint) × IsMember w ws × (w.point ≡ p)

module _ (steps : List Step) (x : ToldPoint) (within : IsMember x.point (points_of steps)) where
  -- a point at which the write is available, or behind such a one
  abbrev pub Behind : Point → Type 0
  Behind p = AvailableAt steps x.point p ⊎ ((q : Point) × AvailableAt steps x.point q × Before steps q p)

  edge_of : (z w : ToldPoint) → IsTold steps w → leads z w ≡ true → IsEdge steps z.point w.point
  edge_of z w t h = record { point = t.point; direct = sym (leads_is_direct steps z w t) ∙ h }

  lead_of : (z w : ToldPoint) → IsTold steps w → is_direct steps z.point w.point ≡ true → leads z w ≡ true
  lead_of z w t h = leads_is_direct steps z w t ∙ h

  behind_edge : (z p : Point) → Behind z → IsEdge steps z p → Behind p
  behind_edge z p (inl a) e = inr (z, a, one e)
  behind_edge z p (inr (q, a, b)) e = inr (q, a, more b e)

  -- it stands below the write, or is the write itself
  abbrev Starts : Point → Type 0
  Starts p = ((p ≡ x.point) × (x.point.stage ≡ None)) ⊎ (x.point.step.line < p.step.line)

  starts_available : (p : Point) → AvailableAt steps x.point p → Starts p
  starts_available p (by_itself e) = inl (refl, e)
  starts_available p (made m) = inr (down steps x.point p m.edge.direct)

  pub starts : (p : Point) → Behind p → Starts p
  starts p (inl a) = starts_available p a
  starts p (inr (q, a, b)) = elim (starts_available q a) [
    | inl e ↦ let l = leads_down steps q p b in let h = ap (λ (r : Point). r.step.line) e.0 in inr (omega arith)
    | inr k ↦ let l = leads_down steps q p b in inr (omega arith)
  ]

  ends_in : (q p : Point) → Before steps q p → IsMember p (points_of steps)
  ends_in q p (one e) = e.point
  ends_in q p (more b e) = e.point

  available_in : (p : Point) → AvailableAt steps x.point p → IsMember p (points_of steps)
  available_in p (by_itself e) = within
  available_in p (made m) = m.edge.point

  pub behind_in : (p : Point) → Behind p → IsMember p (points_of steps)
  behind_in p (inl a) = available_in p a
  behind_in p (inr (q, a, b)) = ends_in q p b

  -- What is found

  abbrev pub AreBehind : List ToldPoint → Type 0
  AreBehind found = (z : ToldPoint) → IsMember z found → Behind z.point

  made_of : (w : ToldPoint) → IsTold steps w → is_made x w ≡ true → IsMadeAvailable steps x.point w.point
  made_of w t h = record {
    edge = edge_of x w t (and_left (leads x w) (makes_available w.point x.point) h);
    scope = and_right (leads x w) (makes_available w.point x.point) h;
  }

  of_made : (w : ToldPoint) → IsTold steps w → IsMadeAvailable steps x.point w.point → is_made x w ≡ true
  of_made w t m = and_from (leads x w) (makes_available w.point x.point) (lead_of x w t m.edge.direct) m.scope

  follows_behind : (found : List ToldPoint) (w : ToldPoint) → AreBehind found → IsTold steps w → follows x found w ≡ true → Behind w.point
  follows_behind found w f t h = elim (or_cases (is_made x w) (list_any (λ z. leads z w) found) h) [
    | inl i ↦ inl (made (made_of w t i))
    | inr a ↦ let r = one_of_any (λ z. leads z w) found a in
        behind_edge r.0.point w.point (f r.0 r.1) (edge_of r.0 w t r.2)
  ]

  with_one : (found : List ToldPoint) (w : ToldPoint) → AreBehind found → Behind w.point → AreBehind (found ++ w ∷ [])
  with_one found w f b z m = elim (in_either z found (w ∷ []) m) [ inl k ↦ f z k | inr k ↦ last k ]
    where
      last : IsMember z (w ∷ []) → Behind z.point
      last (inl e) = subst (λ (v : ToldPoint). Behind v.point) (sym e) b
      last (inr k) = absurd k

  module _ (reads : Bool) (y : ToldPoint) (asked : IsTold steps y) where
    -- a point that delivers the write
    abbrev pub Shown : Type 0
    Shown = (z : Point) × Behind z × IsEdge steps z y.point × (reads ≡ true → makes_visible z y.point ≡ true)

    visible_by : (b v : Bool) → (not b || v) ≡ true → b ≡ true → v ≡ true
    visible_by true v h e = h
    visible_by false v h e = never e

    by_visible : (b v : Bool) → (b ≡ true → v ≡ true) → (not b || v) ≡ true
    by_visible true v f = f refl
    by_visible false v f = refl

    shown_by : (z : ToldPoint) → Behind z.point → delivers reads y z ≡ true → Shown
    shown_by z b h =
        (z.point, b, edge_of z y asked (and_left (leads z y) (not reads || makes_visible z.point y.point) h), visible_by reads (makes_visible z.point y.point) (and_right (leads z y) (not reads || makes_visible z.point y.point) h))

    delivers_by : (z : ToldPoint) (p : Point) → z.point ≡ p → IsEdge steps p y.point → (reads ≡ true → makes_visible p y.point ≡ true) → delivers reads y z ≡ true
    delivers_by z p q e v =
        and_from (leads z y) (not reads || makes_visible z.point y.point)
        (lead_of z y asked (subst (λ (r : Point). is_direct steps r y.point ≡ true) (sym q) e.direct))
        (by_visible reads (makes_visible z.point y.point) (λ r. subst (λ (s : Point). makes_visible s y.point ≡ true) (sym q) (v r)))

    reached_shown : (ws found : List ToldPoint) → AreBehind found → ((w : ToldPoint) → IsMember w ws → IsTold steps w) → is_reached reads x y found ws ≡ true → Shown
    reached_shown [] found f t h = never h
    reached_shown (w ∷ ws) found f t h =
        case (follows x found w) refl h
        (λ b i. reached_shown ws (found ++ w ∷ []) (with_one found w f b) (λ v m. t v (inr m)) i)
        (reached_shown ws found f (λ v m. t v (inr m)))
      where
        case : (c : Bool) → follows x found w ≡ c →
            (if c then delivers reads y w || is_reached reads x y (found ++ w ∷ []) ws else is_reached reads x y found ws) ≡ true →
            (Behind w.point → is_reached reads x y (found ++ w ∷ []) ws ≡ true → Shown) →
            (is_reached reads x y found ws ≡ true → Shown) → Shown
        case true e i g k = elim (or_cases (delivers reads y w) (is_reached reads x y (found ++ w ∷ []) ws) i) [
          | inl d ↦ shown_by w (follows_behind found w f (t w (inl refl)) e) d
          | inr r ↦ g (follows_behind found w f (t w (inl refl)) e) r
        ]
        case false e i g k = k i

    -- All that is behind is found, or is still to come

    abbrev pub IsFull : List ToldPoint → List ToldPoint → Type 0
    IsFull found ws = (u : Point) → Behind u → u.step.line < y.point.step.line → Has found u ⊎ Has ws u

    abbrev pub AreLater : List ToldPoint → Type 0
    AreLater ws = (w : ToldPoint) → IsMember w ws → x.point.stage ≡ None → x.point.step.line < w.point.step.line

    module _ (found ws : List ToldPoint) (w : ToldPoint) (full : IsFull found (w ∷ ws)) (ordered : AreOrdered (w ∷ ws)) (later : AreLater (w ∷ ws)) (t : IsTold steps w) (l : w.point.step.line < y.point.step.line) where
      by_edge : (u : Point) → Behind u → is_direct steps u w.point ≡ true → follows x found w ≡ true
      by_edge u b d = elim (full u b (let k = down steps u w.point d in omega arith)) [
        | inl (z, m, e) ↦ or_right (is_made x w) (list_any (λ v. leads v w) found)
            (any_of (λ v. leads v w) found z m (lead_of z w t (subst (λ (r : Point). is_direct steps r w.point ≡ true) (sym e) d)))
        | inr (z, m, e) ↦ absurd (late z m e)
      ]
        where
          late : (z : ToldPoint) → IsMember z (w ∷ ws) → z.point ≡ u → ⊥
          late z (inl q) e =
              let k = down steps u w.point d in
              let h = ap (λ (v : ToldPoint). v.point.step.line) q in
              let i = ap (λ (r : Point). r.step.line) e in omega arith
          late z (inr m) e =
              let k = down steps u w.point d in
              let h = (ordered.0 z m).0 in
              let i = ap (λ (r : Point). r.step.line) e in omega arith

      by_available : (p : Point) → AvailableAt steps x.point p → p ≡ w.point → follows x found w ≡ true
      by_available p (by_itself e) q =
          let k = later w (inl refl) e in
          let h = ap (λ (r : Point). r.step.line) q in absurd (omega arith)
      by_available p (made m) q =
          or_left (is_made x w) (list_any (λ v. leads v w) found)
          (of_made w t (subst (λ (r : Point). IsMadeAvailable steps x.point r) q m))

      by_path : (q p : Point) → AvailableAt steps x.point q → Before steps q p → p ≡ w.point → follows x found w ≡ true
      by_path q p a (one e) i = by_edge q (inl a) (subst (λ (r : Point). is_direct steps q r ≡ true) i e.direct)
      by_path q p a (more {y = u} b e) i =
          by_edge u (inr (q, a, b)) (subst (λ (r : Point). is_direct steps u r ≡ true) i e.direct)

      must_follow : Behind w.point → follows x found w ≡ true
      must_follow (inl a) = by_available w.point a refl
      must_follow (inr (q, a, b)) = by_path q w.point a b refl

    full_with : (found ws : List ToldPoint) (w : ToldPoint) → IsFull found (w ∷ ws) → IsFull (found ++ w ∷ []) ws
    full_with found ws w full u b l = elim (full u b l) [
      | inl (z, m, e) ↦ inl (z, in_front z found (w ∷ []) m, e)
      | inr (z, m, e) ↦ sort z m e
    ]
      where
        sort : (z : ToldPoint) → IsMember z (w ∷ ws) → z.point ≡ u → Has (found ++ w ∷ []) u ⊎ Has ws u
        sort z (inl q) e = inl (z, in_back z found (w ∷ []) (inl q), e)
        sort z (inr m) e = inr (z, m, e)

    full_without : (found ws : List ToldPoint) (w : ToldPoint) → IsFull found (w ∷ ws) → ((u : Point) → Behind u → u.step.line < y.point.step.line → w.point ≡ u → ⊥) → IsFull found ws
    full_without found ws w full none u b l = elim (full u b l) [
      | inl h ↦ inl h
      | inr (z, m, e) ↦ sort z m e
    ]
      where
        sort : (z : ToldPoint) → IsMember z (w ∷ ws) → z.point ≡ u → Has found u ⊎ Has ws u
        sort z (inl q) e = absurd (none u b l (ap (λ (v : ToldPoint). v.point) (sym q) ∙ e))
        sort z (inr m) e = inr (z, m, e)

    pub shown_reached : (ws found : List ToldPoint) → IsFull found ws → AreOrdered ws → AreLater ws → ((w : ToldPoint) → IsMember w ws → IsTold steps w) → (z : ToldPoint) → IsMember z ws → Behind z.point → delivers reads y z ≡ true → is_reached reads x y found ws ≡ true
    shown_reached [] found full o later t z m b d = absurd m
    shown_reached (w ∷ ws) found full o later t z m b d =
        case (follows x found w) refl m
        (λ n. shown_reached ws (found ++ w ∷ []) (full_with found ws w full) o.1 (λ v k. later v (inr k)) (λ v k. t v (inr k)) z n b d)
        (λ none n. shown_reached ws found (full_without found ws w full none) o.1 (λ v k. later v (inr k)) (λ v k. t v (inr k)) z n b d)
      where
        below : z.point.step.line < y.point.step.line
        below =
            down steps z.point y.point (edge_of z y asked (and_left (leads z y) (not reads || makes_visible z.point y.point) d)).direct

        must : Behind w.point → w.point.step.line < y.point.step.line → follows x found w ≡ true
        must c l = must_follow found ws w full o later (t w (inl refl)) l c

        case : (c : Bool) → follows x found w ≡ c → IsMember z (w ∷ ws) →
            (IsMember z ws → is_reached reads x y (found ++ w ∷ []) ws ≡ true) →
            (((u : Point) → Behind u → u.step.line < y.point.step.line → w.point ≡ u → ⊥) → IsMember z ws → is_reached reads x y found ws ≡ true) →
            (if c then delivers reads y w || is_reached reads x y (found ++ w ∷ []) ws else is_reached reads x y found ws) ≡ true
        case true e (inl q) f g =
            or_left (delivers reads y w) (is_reached reads x y (found ++ w ∷ []) ws) (subst (λ (v : ToldPoint). delivers reads y v ≡ true) q d)
        case true e (inr n) f g =
            or_right (delivers reads y w) (is_reached reads x y (found ++ w ∷ []) ws) (f n)
        case false e (inl q) f g =
            never (sym e ∙ must (subst (λ (v : ToldPoint). Behind v.point) q b) (subst (λ (v : ToldPoint). v.point.step.line < y.point.step.line) q below))
        case false e (inr n) f g =
            g (λ u c l i. never (sym e ∙ must (subst (λ (r : Point). Behind r) (sym i) c) (subst (λ (r : Point). r.step.line < y.point.step.line) (sym i) l))) n

  -- What is delivered

  shown_delivered : (reads : Bool) (y : ToldPoint) (t : IsTold steps y) → Shown reads y t → IsDelivered steps reads x.point y.point
  shown_delivered true y t (z, inl a, e, v) = (z, z, a, record { behind = inl refl; edge = e; scope = v refl })
  shown_delivered true y t (z, inr (q, a, b), e, v) =
      (q, z, a, record { behind = inr b; edge = e; scope = v refl })
  shown_delivered false y t (z, inl a, e, v) = inr (z, a, one e)
  shown_delivered false y t (z, inr (q, a, b), e, v) = inr (q, a, more b e)

  -- at the access, or shown
  abbrev AtOnce : Bool → ToldPoint → Type 0
  AtOnce reads y = (reads ≡ false) × IsMadeAvailable steps x.point y.point

  visible_shown : (y : ToldPoint) (t : IsTold steps y) (p q : Point) → AvailableAt steps x.point p → (p ≡ q) ⊎ Before steps p q → IsEdge steps q y.point → makes_visible q y.point ≡ true → Shown true y t
  visible_shown y t p q a (inl i) e v =
      (q, inl (subst (λ (r : Point). AvailableAt steps x.point r) i a), e, λ r. v)
  visible_shown y t p q a (inr b) e v = (q, inr (p, a, b), e, λ r. v)

  not_so : (v : Bool) → false ≡ true → v ≡ true
  not_so v h = never h

  available_shown : (y : ToldPoint) (t : IsTold steps y) (p r : Point) → AvailableAt steps x.point p → Before steps p r → r ≡ y.point → Shown false y t
  available_shown y t p r a (one e) i =
      (p, inl a, subst (λ (s : Point). IsEdge steps p s) i e, not_so (makes_visible p y.point))
  available_shown y t p r a (more {y = u} b e) i =
      (u, inr (p, a, b), subst (λ (s : Point). IsEdge steps u s) i e, not_so (makes_visible u y.point))

  delivered_shown : (reads : Bool) (y : ToldPoint) (t : IsTold steps y) → IsDelivered steps reads x.point y.point → AtOnce reads y ⊎ Shown reads y t
  delivered_shown true y t (p, q, a, v) = inr (visible_shown y t p q a v.behind v.edge v.scope)
  delivered_shown false y t (inl m) = inl (refl, m)
  delivered_shown false y t (inr (p, a, b)) = inr (available_shown y t p y.point a b refl)

  itself_of : (z : ToldPoint) → IsMember z (itself x) → (z ≡ x) × (x.point.stage ≡ None)
  itself_of z m = by x.point.stage refl m
    where
      by : (o : Option Stage) → x.point.stage ≡ o → IsMember z (if is_some o then [] else x ∷ []) → (z ≡ x) × (x.point.stage ≡ None)
      by None e (inl q) = (q, e)
      by None e (inr n) = absurd n
      by (Some s) e n = absurd n

  pub in_itself : x.point.stage ≡ None → IsMember x (itself x)
  in_itself e = subst (λ (o : Option Stage). IsMember x (if is_some o then [] else x ∷ [])) (sym e) (inl refl)

  itself_behind : AreBehind (itself x)
  itself_behind z m =
      let r = itself_of z m in subst (λ (v : ToldPoint). Behind v.point) (sym r.0) (inl (by_itself r.1))

  not_reads : (r : Bool) → not r ≡ true → r ≡ false
  not_reads true h = never h
  not_reads false h = refl

  module _ (reads : Bool) (ws : List ToldPoint) (told : (w : ToldPoint) → IsMember w ws → IsTold steps w) (y : ToldPoint) (t : IsTold steps y) where
    abbrev first : Bool
    first = not reads && is_made x y

    abbrev second : Bool
    second = list_any (delivers reads y) (itself x)

    made_delivered : (r : Bool) → not r ≡ true → IsMadeAvailable steps x.point y.point → IsDelivered steps r x.point y.point
    made_delivered true h m = never h
    made_delivered false h m = inl m

    pub delivered_by_search : is_delivered reads x ws y ≡ true → IsDelivered steps reads x.point y.point
    delivered_by_search h = elim (or_cases (first || second) (is_reached reads x y (itself x) ws) h) [
      | inl i ↦ elim (or_cases first second i) [
        | inl j ↦ made_delivered reads (and_left (not reads) (is_made x y) j) (made_of y t (and_right (not reads) (is_made x y) j))
        | inr j ↦ let r = one_of_any (delivers reads y) (itself x) j in
            shown_delivered reads y t (shown_by reads y t r.0 (itself_behind r.0 r.1) r.2)
      ]
      | inr i ↦ shown_delivered reads y t (reached_shown reads y t ws (itself x) itself_behind told i)
    ]

    module _ (full : IsFull reads y t (itself x) ws) (ordered : AreOrdered ws) (later : AreLater reads y t ws) where
      at_once : AtOnce reads y → is_delivered reads x ws y ≡ true
      at_once (e, m) =
          or_left (first || second) (is_reached reads x y (itself x) ws)
          (or_left first second (and_from (not reads) (is_made x y) (ap (λ (r : Bool). not r) e) (of_made y t m)))

      by_shown : Shown reads y t → is_delivered reads x ws y ≡ true
      by_shown (z, b, e, v) = elim (full z b (down steps z y.point e.direct)) [
        | inl (w, m, q) ↦ or_left (first || second) (is_reached reads x y (itself x) ws)
            (or_right first second (any_of (delivers reads y) (itself x) w m (delivers_by reads y t w z q e v)))
        | inr (w, m, q) ↦ or_right (first || second) (is_reached reads x y (itself x) ws)
            (shown_reached reads y t ws (itself x) full ordered later told w m (subst (λ (r : Point). Behind r) (sym q) b) (delivers_by reads y t w z q e v))
      ]

      pub search_by_delivered : IsDelivered steps reads x.point y.point → is_delivered reads x ws y ≡ true
      search_by_delivered d = elim (delivered_shown reads y t d) [ inl a ↦ at_once a | inr s ↦ by_shown s ]

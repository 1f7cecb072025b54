-- The last point that lacks is of the greatest line of a write that isn't seen.
use Rattle.std.proofs.Common.{◌≡◌, ◌⊎◌, ◌<◌, ◌≤◌, Bool, true, false, ◌&&◌, ℕ, List, [], ◌∷◌, ◌++◌, map, if◌then◌else◌, refl, sym, ◌∙◌, ap, subst, inl, inr, arith, Option, Some, None}
use Rattle.std.specs.Prelude.{nat_lt, not}
use Rattle.std.specs.List.{list_all}
use Rattle.std.proofs.lemmas.List.{append_assoc, append-nil}
use Rattle.std.proofs.lemmas.Bool.{false≢true, not-true}
use Rattle.vq_ground.proofs.Bools.{never}
use Rattle.vq_ground.proofs.Tests.{below_of_test, at_least_of_test}
use Rattle.vq_capture.specs.declared.capture.Step.{Step}
use Rattle.vq_capture.specs.Points.{Point, points_of_step, IsMember}
use Rattle.vq_capture.specs.Races.{conflict, Conflicts}
use Rattle.vq_capture_laws.proofs.Cited.{AreRising, own_step, own_line, in_flat_map, in_front, in_back, in_either, each_of_all, all_of_each, and_left, and_right}
use Rattle.vq_capture_clocks_laws.proofs.Cited.{rising_front}
use Rattle.vq_capture_memory.specs.UnseenWrites.{asks_memory, is_read, IsDelivered, Sees}
use Rattle.vq_capture_seen.specs.Ways.{ToldPoint, told, told_points, itself, is_delivered, lacks, last_lacking}
use Rattle.vq_capture_memory_laws.specs.FindingUnseen.{IsLacking, FindsUnseen, released_by, points_on, found_unseen}
use Rattle.vq_capture_memory_laws.proofs.ToldPoints.{IsTold, AreOrdered, in_order, each_told, each_there, last_told, last_there}
use Rattle.vq_capture_memory_laws.proofs.ReachedPoints.{IsFull, AreLater, starts, behind_in, delivered_by_search, search_by_delivered, in_itself}

-- A point of a list in order: those above it aren't below it, and those behind it are in order
split_front : (front : List ToldPoint) (x : ToldPoint) (ws : List ToldPoint) → AreOrdered (front ++ x ∷ ws) → (w : ToldPoint) → IsMember w front → w.point.step.line ≤ x.point.step.line
split_front [] x ws o w m = absurd m
split_front (v ∷ front) x ws o w (inl e) =
    let l = (o.0 x (in_back x front (x ∷ ws) (inl refl))).0 in
    let h = ap (λ (u : ToldPoint). u.point.step.line) e in omega arith
split_front (v ∷ front) x ws o w (inr m) = split_front front x ws o.1 w m

split_back : (front : List ToldPoint) (x : ToldPoint) (ws : List ToldPoint) → AreOrdered (front ++ x ∷ ws) → AreOrdered (x ∷ ws)
split_back [] x ws o = o
split_back (v ∷ front) x ws o = split_back front x ws o.1

module _ (steps : List Step) (rising : AreRising steps) (above rest : List Step) (b : Step) (all : steps ≡ above ++ b ∷ rest) where
  abbrev ls : List ℕ
  ls = released_by above b

  abbrev pts : List ToldPoint
  pts = points_on [] above

  ordered : AreOrdered pts
  ordered =
      in_order steps rising [] above (b ∷ rest) all (rising_front above (b ∷ rest) (subst (λ (l : List Step). AreRising l) all rising))

  -- where a point stands, with those behind it
  abbrev Here : ToldPoint → List ToldPoint → Type 0
  Here x ws = (front : List ToldPoint) × (pts ≡ front ++ x ∷ ws)

  at_here : (x : ToldPoint) (ws : List ToldPoint) → Here x ws → IsMember x pts
  at_here x ws (front, e) =
      subst (λ (l : List ToldPoint). IsMember x l) (sym e) (in_back x front (x ∷ ws) (inl refl))

  behind_here : (x : ToldPoint) (ws : List ToldPoint) → Here x ws → (w : ToldPoint) → IsMember w ws → IsMember w pts
  behind_here x ws (front, e) w m =
      subst (λ (l : List ToldPoint). IsMember w l) (sym e) (in_back w front (x ∷ ws) (inr m))

  order_here : (x : ToldPoint) (ws : List ToldPoint) (front : List ToldPoint) → pts ≡ front ++ x ∷ ws → AreOrdered (front ++ x ∷ ws)
  order_here x ws front e = subst (λ (l : List ToldPoint). AreOrdered l) e ordered

  -- What a point delivers

  module _ (x : ToldPoint) (ws : List ToldPoint) (here : Here x ws) (y : ToldPoint) (last : IsMember y (told_points b ls)) where
    x_told : IsTold steps x
    x_told = each_told steps rising above rest b all x (at_here x ws here)

    y_told : IsTold steps y
    y_told = (last_told steps rising above rest b all y last).0

    y_line : y.point.step.line ≡ b.line
    y_line = ap (λ (s : Step). s.line) (last_told steps rising above rest b all y last).1

    ws_told : (w : ToldPoint) → IsMember w ws → IsTold steps w
    ws_told w m = each_told steps rising above rest b all w (behind_here x ws here w m)

    abbrev reads : Bool
    reads = is_read b.statement

    later : AreLater steps x x_told.point reads y y_told ws
    later w m e = ((split_back here.0 x ws (order_here x ws here.0 here.1)).0 w m).1 e

    full : IsFull steps x x_told.point reads y y_told (itself x) ws
    full u c l = elim (starts steps x x_told.point u c) [
      | inl q ↦ inl (x, in_itself steps x x_told.point q.1, sym q.0)
      | inr k ↦ (let r = each_there steps rising above rest b all u (behind_in steps x x_told.point u c) (omega (arith, y_line)) in
          inr (r.0, sort r.0 (subst (λ (v : List ToldPoint). IsMember r.0 v) here.1 r.1) (ap (λ (p : Point). p.step.line) r.2) k, r.2))
    ]
      where
        tail : (w : ToldPoint) → IsMember w (x ∷ ws) → w.point.step.line ≡ u.step.line → x.point.step.line < u.step.line → IsMember w ws
        tail w (inl e) q k = let h = ap (λ (v : ToldPoint). v.point.step.line) e in absurd (omega arith)
        tail w (inr m) q k = m

        sort : (w : ToldPoint) → IsMember w (here.0 ++ x ∷ ws) → w.point.step.line ≡ u.step.line → x.point.step.line < u.step.line → IsMember w ws
        sort w m q k = elim (in_either w here.0 (x ∷ ws) m) [
          | inl n ↦ (let h = split_front here.0 x ws (order_here x ws here.0 here.1) w n in absurd (omega arith))
          | inr n ↦ tail w n q k
        ]

    delivered_by : is_delivered reads x ws y ≡ true → IsDelivered steps reads x.point y.point
    delivered_by h = delivered_by_search steps x x_told.point reads ws ws_told y y_told h

    by_delivered : IsDelivered steps reads x.point y.point → is_delivered reads x ws y ≡ true
    by_delivered d =
        search_by_delivered steps x x_told.point reads ws ws_told y y_told full (split_back here.0 x ws (order_here x ws here.0 here.1)).1 later d

  -- What lacks

  abbrev each : ToldPoint → List ToldPoint → Bool
  each x ws = list_all (is_delivered (is_read b.statement) x ws) (told_points b ls)

  not_false : (t : Bool) → not t ≡ false → t ≡ true
  not_false true h = refl
  not_false false h = never (sym h)

  all_false : (c k e : Bool) → (c && (k && not e)) ≡ false → c ≡ true → k ≡ true → e ≡ true
  all_false true true e h p q = not_false e h
  all_false true false e h p q = never q
  all_false false k e h p q = never p

  -- a point that doesn't lack delivers to each point of the step
  fills : (x : ToldPoint) (ws : List ToldPoint) → Here x ws → lacks b ls x ws ≡ false → conflict x.point.step b ≡ true → asks_memory x.point.step b ≡ true → (p : Point) → IsMember p (points_of_step b) → IsDelivered steps (is_read b.statement) x.point p
  fills x ws here h c k p m =
      let there = last_there steps rising above rest b all p m in
      delivered_by x ws here (told ls p) there
      (each_of_all (is_delivered (is_read b.statement) x ws) (told_points b ls) (told ls p)
      (all_false (conflict x.point.step b) (asks_memory x.point.step b) (each x ws) h c k) there)

  own_point : (x : ToldPoint) (ws : List ToldPoint) → Here x ws → IsMember x.point.step steps × IsMember x.point (points_of_step x.point.step) × (x.point.step.line < b.line)
  own_point x ws here = by (each_told_step x (at_here x ws here))
    where
      each_told_step : (w : ToldPoint) → IsMember w pts → (s : Step) × IsMember s above × IsMember w.point (points_of_step s)
      each_told_step w m = told_in [] above w m
        where
          told_in : (pre xs : List Step) (v : ToldPoint) → IsMember v (points_on pre xs) → (s : Step) × IsMember s xs × IsMember v.point (points_of_step s)
          told_in pre [] v n = absurd n
          told_in pre (s ∷ xs) v n = elim (in_either v (told_points s (released_by pre s)) (points_on (pre ++ s ∷ []) xs) n) [
            | inl k ↦ (s, inl refl, of_one (released_by pre s) (points_of_step s) v k)
            | inr k ↦ let r = told_in (pre ++ s ∷ []) xs v k in (r.0, inr r.1, r.2)
          ]
            where
              of_one : (rs : List ℕ) (ps : List Point) (u : ToldPoint) → IsMember u (map (told rs) ps) → IsMember u.point ps
              of_one rs [] u k = absurd k
              of_one rs (q ∷ ps) u (inl e) = inl (ap (λ (z : ToldPoint). z.point) e)
              of_one rs (q ∷ ps) u (inr k) = inr (of_one rs ps u k)

      by : ((s : Step) × IsMember s above × IsMember x.point (points_of_step s)) → IsMember x.point.step steps × IsMember x.point (points_of_step x.point.step) × (x.point.step.line < b.line)
      by (s, m, n) =
          let e = own_step s s.statement x.point n in
          let k = subst (λ (l : List Step). AreRising l) all rising in (
            subst (λ (t : Step). IsMember t steps) (sym e) (subst (λ (l : List Step). IsMember s l) (sym all) (in_front s above (b ∷ rest) m)),
            subst (λ (t : Step). IsMember x.point (points_of_step t)) (sym e) n,
            subst (λ (t : Step). t.line < b.line) (sym e) (below above rest b s k m),
          )
        where
          below : (xs ys : List Step) (c t : Step) → AreRising (xs ++ c ∷ ys) → IsMember t xs → t.line < c.line
          below [] ys c t r k = absurd k
          below (z ∷ xs) ys c t r (inl q) =
              let l = r.0 c (in_back c xs (c ∷ ys) (inl refl)) in
              let h = ap (λ (u : Step). u.line) q in omega arith
          below (z ∷ xs) ys c t r (inr k) = below xs ys c t r.1 k

  -- the step of a point that lacks does
  lacking : (x : ToldPoint) (ws : List ToldPoint) → Here x ws → lacks b ls x ws ≡ true → IsLacking steps x.point.step b
  lacking x ws here h =
      let c = conflict x.point.step b in
      let k = asks_memory x.point.step b in
      let behind = and_right c (k && not (each x ws)) h in
      let own = own_point x ws here in
      record {
        pair = record {
          first = own.0;
          second = subst (λ (l : List Step). IsMember b l) (sym all) (in_back b above (b ∷ rest) (inl refl));
          above = own.2;
          conflicts = and_left c (k && not (each x ws)) h;
        };
        asked = and_left k (not (each x ws)) behind;
        unseen = λ s. false≢true (sym (not-true (each x ws) (and_right k (not (each x ws)) behind))
            ∙ all_of_each (is_delivered (is_read b.statement) x ws) (told_points b ls)
            (λ y m. by_delivered x ws here y m (s x.point y.point own.1 (of_last y m))));
      }
    where
      of_last : (y : ToldPoint) → IsMember y (told_points b ls) → IsMember y.point (points_of_step b)
      of_last y m = of_one (points_of_step b) m
        where
          of_one : (ps : List Point) → IsMember y (map (told ls) ps) → IsMember y.point ps
          of_one [] k = absurd k
          of_one (q ∷ ps) (inl e) = inl (ap (λ (z : ToldPoint). z.point) e)
          of_one (q ∷ ps) (inr k) = inr (of_one ps k)

  -- The last of some that lacks

  -- what is said of each point that was passed
  abbrev Passed : List ToldPoint → (ℕ → Type 0) → Type 0
  Passed front Or = (z : ToldPoint) → IsMember z front → (ws : List ToldPoint) × Here z ws × ((lacks b ls z ws ≡ false) ⊎ Or z.point.step.line)

  abbrev Said : List ToldPoint → Option ℕ → Type 0
  Said front None = Passed front (λ n. ⊥)
  Said front (Some n) =
      (x : ToldPoint) × (ws : List ToldPoint) × Here x ws × (lacks b ls x ws ≡ true) × (x.point.step.line ≡ n) × Passed front (λ m. m ≤ n)

  passed_on : (front : List ToldPoint) (x : ToldPoint) (ws : List ToldPoint) (P Q : ℕ → Type 0) → Here x ws → ((lacks b ls x ws ≡ false) ⊎ Q x.point.step.line) → ((z : ToldPoint) → IsMember z front → P z.point.step.line → Q z.point.step.line) → Passed front P → Passed (front ++ x ∷ []) Q
  passed_on front x ws P Q here own f p z m = elim (in_either z front (x ∷ []) m) [ inl k ↦ old k | inr k ↦ new k ]
    where
      old : IsMember z front → (vs : List ToldPoint) × Here z vs × ((lacks b ls z vs ≡ false) ⊎ Q z.point.step.line)
      old k = let r = p z k in (r.0, r.1, elim r.2 [ inl a ↦ inl a | inr a ↦ inr (f z k a) ])

      new : IsMember z (x ∷ []) → (vs : List ToldPoint) × Here z vs × ((lacks b ls z vs ≡ false) ⊎ Q z.point.step.line)
      new (inl e) =
          subst (λ (v : ToldPoint). (vs : List ToldPoint) × Here v vs × ((lacks b ls v vs ≡ false) ⊎ Q v.point.step.line)) (sym e) (ws, here, own)
      new (inr k) = absurd k

  scan : (front vs : List ToldPoint) (last : Option ℕ) → pts ≡ front ++ vs → Said front last → Said pts (last_lacking b ls last vs)
  scan front [] last e s = subst (λ (l : List ToldPoint). Said l last) (sym (e ∙ append-nil front)) s
  scan front (x ∷ vs) last e s =
      case (lacks b ls x vs) refl last s (λ now k. scan (front ++ x ∷ []) vs now (e ∙ sym (append_assoc front (x ∷ []) vs)) k)
    where
      here : Here x vs
      here = (front, e)

      up : (z : ToldPoint) → IsMember z front → z.point.step.line ≤ x.point.step.line
      up z m = split_front front x vs (order_here x vs front e) z m

      case : (t : Bool) → lacks b ls x vs ≡ t → (o : Option ℕ) → Said front o →
          ((now : Option ℕ) → Said (front ++ x ∷ []) now → Said pts (last_lacking b ls now vs)) →
          Said pts (last_lacking b ls (if t then Some x.point.step.line else o) vs)
      case true q None p g =
          g (Some x.point.step.line)
          (x, vs, here, q, refl, passed_on front x vs (λ n. ⊥) (λ m. m ≤ x.point.step.line) here (inr (omega arith)) (λ z m f. absurd f) p)
      case true q (Some n) p g =
          g (Some x.point.step.line)
          (x, vs, here, q, refl, passed_on front x vs (λ m. m ≤ n) (λ m. m ≤ x.point.step.line) here (inr (omega arith)) (λ z m f. up z m) p.5)
      case false q None p g =
          g None (passed_on front x vs (λ n. ⊥) (λ n. ⊥) here (inl q) (λ z m f. f) p)
      case false q (Some n) p g =
          g (Some n)
          (p.0, p.1, p.2, p.3, p.4, passed_on front x vs (λ m. m ≤ n) (λ m. m ≤ n) here (inl q) (λ z m f. f) p.5)

  -- an access sees a write whose points lack nothing
  sees_by : (a : Step) → Conflicts steps a b → asks_memory a b ≡ true → ((w : ToldPoint) → IsMember w pts → w.point.step ≡ a → (ws : List ToldPoint) × Here w ws × (lacks b ls w ws ≡ false)) → Sees steps a b
  sees_by a c k f p q m n =
      let line = own_line a p m in
      let r = each_there steps rising above rest b all p (in_flat_map points_of_step p a steps c.first m) (let l = c.above in omega arith) in
      let step : r.0.point.step ≡ a = ap (λ (u : Point). u.step) r.2 ∙ own_step a a.statement p m in
      let h = f r.0 r.1 step in
      subst (λ (u : Point). IsDelivered steps (is_read b.statement) u q) r.2
      (fills r.0 h.0 h.1 h.2
      (ap (λ (s : Step). conflict s b) step ∙ c.conflicts)
      (ap (λ (s : Step). asks_memory s b) step ∙ k) q n)

  none_or : (w : ToldPoint) (ws : List ToldPoint) → (lacks b ls w ws ≡ false) ⊎ ⊥ → lacks b ls w ws ≡ false
  none_or w ws (inl e) = e
  none_or w ws (inr f) = absurd f

  above_none : (w : ToldPoint) (ws : List ToldPoint) (n : ℕ) → n < w.point.step.line → (lacks b ls w ws ≡ false) ⊎ (w.point.step.line ≤ n) → lacks b ls w ws ≡ false
  above_none w ws n l (inl e) = e
  above_none w ws n l (inr k) = absurd (omega arith)

  found : (o : Option ℕ) → Said pts o → FindsUnseen steps b o
  found None p = λ a c k. sees_by a c k (λ w m e. let r = p w m in (r.0, r.1, none_or w r.0 r.2))
  found (Some n) (x, ws, here, t, q, p) = (x.point.step, lacking x ws here t, q, greatest)
    where
      greatest : (c : Step) → IsLacking steps c b → c.line ≤ x.point.step.line
      greatest c l = by_test (nat_lt x.point.step.line c.line) refl
        where
          by_test : (v : Bool) → nat_lt x.point.step.line c.line ≡ v → c.line ≤ x.point.step.line
          by_test false e = at_least_of_test x.point.step.line c.line e
          by_test true e =
              let k = below_of_test x.point.step.line c.line e in
              absurd (l.unseen (sees_by c l.pair l.asked (λ w m i. let r = p w m in
              let h = ap (λ (s : Step). s.line) i in
              (r.0, r.1, above_none w r.0 n (omega arith) r.2))))

  pub finds_unseen : FindsUnseen steps b (found_unseen above b)
  finds_unseen = found (found_unseen above b) (scan [] pts None refl (λ z m. absurd m))

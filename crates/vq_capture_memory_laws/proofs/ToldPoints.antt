-- The points of the steps above one: they know what releases them, stand in order, and are all there.
use Rattle.std.proofs.Common.{◌≡◌, ◌<◌, ◌≤◌, ◌&&◌, ◌||◌, ℕ, List, [], ◌∷◌, ◌++◌, map, filter, refl, sym, ◌∙◌, ap, subst, inl, inr, arith, Some, None}
use Rattle.std.specs.Prelude.{nat_lt}
use Rattle.std.proofs.lemmas.List.{append_assoc}
use Rattle.vq_ground.specs.Lists.{has}
use Rattle.vq_capture.specs.declared.stage.Stage.{Stage}
use Rattle.vq_capture.specs.declared.statement.Statement.{Statement}
use Rattle.vq_capture.specs.declared.statement.Statement.TheVariants.{CommandAccess}
use Rattle.vq_capture.specs.declared.capture.Step.{Step}
use Rattle.vq_capture.specs.Masks.{has_stage}
use Rattle.vq_capture.specs.Releases.{releases}
use Rattle.vq_capture.specs.Points.{Point, points_of, points_at, points_of_step, stages_with_word, IsMember}
use Rattle.vq_capture.specs.Before.{is_direct, steps_above, by_scopes, by_signals, by_thread, by_telling, by_cut, was_handed}
use Rattle.vq_capture_laws.proofs.Cited.{AreRising, own_step, own_line, in_front, in_back, in_either, from_map, from_flat_map, in_flat_map}
use Rattle.vq_capture_clocks_laws.proofs.Cited.{in_front_of, those_above}
use Rattle.vq_capture_seen.specs.Ways.{ToldPoint, told, told_points, leads}
use Rattle.vq_capture_memory_laws.specs.FindingUnseen.{released_by, points_on}

-- a point of a capture that knows what releases it
pub record IsTold (steps : List Step) (w : ToldPoint) : Type 0 where
  pub point : IsMember w.point (points_of steps)
  pub released : w.released ≡ releases (steps_above steps w.point.step.line) w.point.step.queue w.point.step.statement

-- so it is known what leads to it
pub leads_is_direct : (steps : List Step) (x w : ToldPoint) → IsTold steps w → leads x w ≡ is_direct steps x.point w.point
leads_is_direct steps x w t =
    ap (λ (ls : List ℕ). nat_lt x.point.step.line w.point.step.line && (by_scopes x.point w.point || by_signals x.point w.point || (has ls x.point.step.line || was_handed w.point.step.statement x.point.step.line) || by_thread x.point w.point || by_telling x.point w.point || by_cut x.point w.point)) t.released

-- each stands at a line at most that of those behind it, and below that if it is all of its step
abbrev pub AreOrdered : List ToldPoint → Type 0
AreOrdered [] = Unit {0}
AreOrdered (x ∷ xs) =
    ((y : ToldPoint) → IsMember y xs → (x.point.step.line ≤ y.point.step.line) × (x.point.stage ≡ None → x.point.step.line < y.point.step.line))
    × AreOrdered xs

-- The points of one step

of_told : (s : Step) (ls : List ℕ) (w : ToldPoint) → IsMember w (told_points s ls) → IsMember w.point (points_of_step s) × (w.released ≡ ls)
of_told s ls w m =
    let r = from_map (told ls) w (points_of_step s) m in
    (subst (λ (p : Point). IsMember p (points_of_step s)) (sym (ap (λ (v : ToldPoint). v.point) r.2)) r.1, ap (λ (v : ToldPoint). v.released) r.2)

is_told : (ls : List ℕ) (ps : List Point) (p : Point) → IsMember p ps → IsMember (told ls p) (map (told ls) ps)
is_told ls [] p m = absurd m
is_told ls (q ∷ ps) p (inl e) = inl (ap (told ls) e)
is_told ls (q ∷ ps) p (inr m) = inr (is_told ls ps p m)

-- points at stages are never alone
staged : (step : Step) (ls : List ℕ) (ss : List Stage) → AreOrdered (map (told ls) (map (λ s. record { step = step; stage = Some s }) ss))
staged step ls [] = tt
staged step ls (s ∷ ss) = (first, staged step ls ss)
  where
    none_some : (t : Stage) → Some t ≡ None → ⊥
    none_some t e = cc

    at : Stage → Point
    at t = record { step = step; stage = Some t }

    first : (y : ToldPoint) → IsMember y (map (told ls) (map at ss)) → (step.line ≤ y.point.step.line) × (Some s ≡ None → step.line < y.point.step.line)
    first y m =
        let r = from_map (told ls) y (map at ss) m in
        let q = from_map at r.0 ss r.1 in
        let line : y.point.step.line ≡ step.line =
        ap (λ (v : ToldPoint). v.point.step.line) r.2 ∙ ap (λ (p : Point). p.step.line) q.2 in
        (omega arith, λ e. absurd (none_some s e))

in_step : (step : Step) (ls : List ℕ) (said : Statement) → AreOrdered (map (told ls) (points_at step said))
in_step step ls (CommandAccess access scope) = staged step ls (filter (has_stage scope.stages) stages_with_word)
in_step step ls other = (λ y m. absurd m, tt)

-- points of one line, and behind them those of later lines
joined : (n : ℕ) (xs ys : List ToldPoint) → ((w : ToldPoint) → IsMember w xs → w.point.step.line ≡ n) → ((w : ToldPoint) → IsMember w ys → n < w.point.step.line) → AreOrdered xs → AreOrdered ys → AreOrdered (xs ++ ys)
joined n [] ys f g o p = p
joined n (x ∷ xs) ys f g o p = (first, joined n xs ys (λ w m. f w (inr m)) g o.1 p)
  where
    first : (y : ToldPoint) → IsMember y (xs ++ ys) → (x.point.step.line ≤ y.point.step.line) × (x.point.stage ≡ None → x.point.step.line < y.point.step.line)
    first y m = elim (in_either y xs ys m) [
      | inl k ↦ o.0 y k
      | inr k ↦ let a = f x (inl refl) in let b = g y k in (omega arith, λ e. omega arith)
    ]

-- Those of all steps above one

module _ (steps : List Step) (rising : AreRising steps) where
  told_step : (pre post : List Step) (s : Step) → steps ≡ pre ++ s ∷ post → (w : ToldPoint) → IsMember w (told_points s (released_by pre s)) → IsTold steps w × (w.point.step ≡ s)
  told_step pre post s e w m = (record { point = point; released = released }, step)
    where
      o : IsMember w.point (points_of_step s) × (w.released ≡ released_by pre s)
      o = of_told s (released_by pre s) w m

      step : w.point.step ≡ s
      step = own_step s s.statement w.point o.0

      point : IsMember w.point (points_of steps)
      point =
          in_flat_map points_of_step w.point s steps (subst (λ (l : List Step). IsMember s l) (sym e) (in_back s pre (s ∷ post) (inl refl))) o.0

      above : steps_above steps s.line ≡ pre
      above =
          ap (λ (l : List Step). steps_above l s.line) e
          ∙ those_above pre post s (subst (λ (l : List Step). AreRising l) e rising)

      released : w.released ≡ releases (steps_above steps w.point.step.line) w.point.step.queue w.point.step.statement
      released =
          o.1
          ∙ (ap (λ (l : List Step). releases l s.queue s.statement) (sym above)
          ∙ ap (λ (t : Step). releases (steps_above steps t.line) t.queue t.statement) (sym step))

  pub told_ones : (pre xs post : List Step) → steps ≡ pre ++ (xs ++ post) → (w : ToldPoint) → IsMember w (points_on pre xs) → IsTold steps w × ((s : Step) × IsMember s xs × (w.point.step ≡ s))
  told_ones pre [] post e w m = absurd m
  told_ones pre (s ∷ xs) post e w m = elim (in_either w (told_points s (released_by pre s)) (points_on (pre ++ s ∷ []) xs) m) [
    | inl k ↦ let t = told_step pre (xs ++ post) s e w k in (t.0, (s, inl refl, t.1))
    | inr k ↦ let t = told_ones (pre ++ s ∷ []) xs post (e ∙ sym (append_assoc pre (s ∷ []) (xs ++ post))) w k in
        (t.0, (t.1.0, inr t.1.1, t.1.2))
  ]

  pub in_order : (pre xs post : List Step) → steps ≡ pre ++ (xs ++ post) → AreRising xs → AreOrdered (points_on pre xs)
  in_order pre [] post e r = tt
  in_order pre (s ∷ xs) post e r =
      let on = e ∙ sym (append_assoc pre (s ∷ []) (xs ++ post)) in
      joined s.line (told_points s (released_by pre s)) (points_on (pre ++ s ∷ []) xs)
      (λ w m. ap (λ (t : Step). t.line) (told_step pre (xs ++ post) s e w m).1)
      (λ w m. later w (told_ones (pre ++ s ∷ []) xs post on w m).1)
      (in_step s (released_by pre s) s.statement)
      (in_order (pre ++ s ∷ []) xs post on r.1)
    where
      later : (w : ToldPoint) → ((t : Step) × IsMember t xs × (w.point.step ≡ t)) → s.line < w.point.step.line
      later w (t, m, q) = let l = r.0 t m in let h = ap (λ (u : Step). u.line) q in omega arith

  pub all_there : (pre xs : List Step) (p : Point) (s : Step) → IsMember s xs → IsMember p (points_of_step s) → (w : ToldPoint) × IsMember w (points_on pre xs) × (w.point ≡ p)
  all_there pre [] p s m n = absurd m
  all_there pre (x ∷ xs) p s (inl e) n =
      let there = is_told (released_by pre x) (points_of_step x) p (subst (λ (t : Step). IsMember p (points_of_step t)) e n) in
      (told (released_by pre x) p, in_front (told (released_by pre x) p) (told_points x (released_by pre x)) (points_on (pre ++ x ∷ []) xs) there, refl)
  all_there pre (x ∷ xs) p s (inr m) n =
      let r = all_there (pre ++ x ∷ []) xs p s m n in
      (r.0, in_back r.0 (told_points x (released_by pre x)) (points_on (pre ++ x ∷ []) xs) r.1, r.2)

  -- the steps above one
  module _ (above rest : List Step) (b : Step) (all : steps ≡ above ++ b ∷ rest) where
    pub each_told : (w : ToldPoint) → IsMember w (points_on [] above) → IsTold steps w
    each_told w m = (told_ones [] above (b ∷ rest) all w m).0

    pub each_there : (p : Point) → IsMember p (points_of steps) → p.step.line < b.line → (w : ToldPoint) × IsMember w (points_on [] above) × (w.point ≡ p)
    each_there p m l =
        let r = from_flat_map points_of_step p steps m in
        let line = own_line r.0 p r.2 in
        all_there [] above p r.0
        (in_front_of above rest b r.0 (subst (λ (l : List Step). AreRising l) all rising) (subst (λ (l : List Step). IsMember r.0 l) all r.1) (omega arith))
        r.2

    pub last_told : (w : ToldPoint) → IsMember w (told_points b (released_by above b)) → IsTold steps w × (w.point.step ≡ b)
    last_told w m = told_step above rest b all w m

    pub last_there : (p : Point) → IsMember p (points_of_step b) → IsMember (told (released_by above b) p) (told_points b (released_by above b))
    last_there p m = is_told (released_by above b) (points_of_step b) p m

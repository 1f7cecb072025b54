-- What one step more leaves of what is kept.
use Rattle.std.proofs.Common.{◌≡◌, ◌∙◌, ℕ, Bool, true, false, cond, List, [], ◌∷◌, ◌++◌, find, filter, reverse, Option, Some, None, refl, sym, ap, subst, arith, take, not, ◌+◌, suc, nat_le, ◌==◌, ◌&&◌}
use Rattle.std.specs.Prelude.{unwrap_or}
use Rattle.std.specs.Option.{option_map, option_map_or, option_or, option_to_list}
use Rattle.std.specs.List.{before_first, prefix_len}
use Rattle.std.proofs.lemmas.List.{reverse-append}
use Rattle.std.proofs.lemmas.List.Folds.{find-append}
use Rattle.std.proofs.lemmas.Bool.{eqb-true}
use Rattle.vq_capture.specs.declared.statement.Statement.{Statement}
use Rattle.vq_capture.specs.declared.capture.Step.{Step}
use Rattle.vq_capture.specs.Releases.{initial_of, length_of, value_releases, binary_releases, step_at, reaches, signals_binary, waits_binary, lines_of_steps, first_line}
use Rattle.vq_capture_things.specs.declared.rise.Rise.{Rise}
use Rattle.vq_capture_things.specs.Facts.{first_rise, is_reached, with_rise}
use Rattle.vq_capture_things.proofs.RisingValues.{reached_found}

abbrev at_zero : Statement → Step
at_zero said = record { line = 0; queue = None; thread = None; command = None; statement = said }

-- what a statement says of an initial value, and of a length

abbrev pub initial_in : Step → ℕ
initial_in s = initial_of (at_zero s.statement ∷ []) 0

abbrev pub length_in : Step → ℕ
length_in s = length_of (at_zero s.statement ∷ []) 0

module _ (xs : List Step) (s : Step) where
  abbrev more : List Step
  more = xs ++ s ∷ []

  -- Declarations

  step_more : (t : ℕ) → step_at more t ≡ option_or (step_at xs t) (cond (s.line == t) (Some s) None)
  step_more t = find-append (λ x. x.line == t) xs (s ∷ [])

  zero_adds : (f : Step → ℕ) → f s ≡ 0 → (o : Option Step) (b : Bool) → option_map_or f (option_or o (cond b (Some s) None)) 0 ≡ option_map_or f o 0
  zero_adds f z None true = z
  zero_adds f z None false = refl
  zero_adds f z (Some x) b = refl

  pub number_stays : (f : Step → ℕ) → f s ≡ 0 → (t : ℕ) → option_map_or f (step_at more t) 0 ≡ option_map_or f (step_at xs t) 0
  number_stays f z t =
      ap (λ (o : Option Step). option_map_or f o 0) (step_more t) ∙ zero_adds f z (step_at xs t) (s.line == t)

  pub number_new : (f : Step → ℕ) (old new : ℕ → Option ℕ) → step_at xs s.line ≡ None → ((q : ℕ) → new q ≡ cond (s.line == q) (Some (f s)) (old q)) →
      ((t : ℕ) → unwrap_or (old t) 0 ≡ option_map_or f (step_at xs t) 0) → (t : ℕ) → unwrap_or (new t) 0 ≡ option_map_or f (step_at more t) 0
  number_new f old new fresh put was t = by_test (s.line == t) refl
    where
      by_test : (b : Bool) → (s.line == t) ≡ b → unwrap_or (new t) 0 ≡ option_map_or f (step_at more t) 0
      by_test true e =
          let none : step_at xs t ≡ None = subst (λ (n : ℕ). step_at xs n ≡ None) (eqb-true s.line t e) fresh in
          ap (λ (o : Option ℕ). unwrap_or o 0) (put t ∙ ap (λ (b : Bool). cond b (Some (f s)) (old t)) e)
          ∙ sym (ap (λ (o : Option Step). option_map_or f o 0)
          (step_more t
          ∙ (ap (λ (b : Bool). option_or (step_at xs t) (cond b (Some s) None)) e
          ∙ ap (λ (o : Option Step). option_or o (Some s)) none)))
      by_test false e =
          ap (λ (o : Option ℕ). unwrap_or o 0) (put t ∙ ap (λ (b : Bool). cond b (Some (f s)) (old t)) e)
          ∙ (was t ∙ sym (ap (λ (o : Option Step). option_map_or f o 0)
          (step_more t ∙ ap (λ (b : Bool). option_or (step_at xs t) (cond b (Some s) None)) e)
          ∙ none_adds (step_at xs t)))
        where
          none_adds : (o : Option Step) → option_map_or f (option_or o None) 0 ≡ option_map_or f o 0
          none_adds None = refl
          none_adds (Some x) = refl

  pub none_at : (t : ℕ) → step_at xs t ≡ None → (s.line == t) ≡ false → step_at more t ≡ None
  none_at t none apart =
      step_more t
      ∙ (ap (λ (b : Bool). option_or (step_at xs t) (cond b (Some s) None)) apart
      ∙ ap (λ (o : Option Step). option_or o None) none)

  -- From the front

  first_more : (test : Step → Bool) → first_line test more ≡ option_to_list (option_map (λ x. x.line) (option_or (find test xs) (cond (test s) (Some s) None)))
  first_more test = ap (λ (o : Option Step). option_to_list (option_map (λ x. x.line) o)) (find-append test xs (s ∷ []))

  none_more : {X : Type 0} (f : X → ℕ) (o : Option X) → option_to_list (option_map f (option_or o None)) ≡ option_to_list (option_map f o)
  none_more f None = refl
  none_more f (Some x) = refl

  pub value_stays : (t v : ℕ) → reaches t v s ≡ false → value_releases more t v ≡ value_releases xs t v
  value_stays t v e =
      first_more (reaches t v)
      ∙ (ap (λ (b : Bool). option_to_list (option_map (λ x. x.line) (option_or (find (reaches t v) xs) (cond b (Some s) None)))) e
      ∙ none_more (λ x. x.line) (find (reaches t v) xs))

  both : (r : Rise) → r.line ≡ s.line → (a : Option Rise) (o : Option Step) → option_to_list (option_map (λ x. x.line) a) ≡ option_to_list (option_map (λ x. x.line) o) → (b : Bool) →
      option_to_list (option_map (λ x. x.line) (option_or a (cond b (Some r) None))) ≡ option_to_list (option_map (λ x. x.line) (option_or o (cond b (Some s) None)))
  both r l None None e true = ap (λ (n : ℕ). n ∷ []) l
  both r l None None e false = refl
  both r l None (Some x) e b = absurd (cc)
  both r l (Some x) None e b = absurd (cc)
  both r l (Some x) (Some y) e b = e

  -- what is found is found still, with one step more
  found_more : (a : Option Rise) (o : Option Step) → option_to_list (option_map (λ x. x.line) a) ≡ option_to_list (option_map (λ x. x.line) o) → (a ≡ None → ⊥) → (b : Bool) →
      option_to_list (option_map (λ x. x.line) a) ≡ option_to_list (option_map (λ x. x.line) (option_or o (cond b (Some s) None)))
  found_more None o e n b = absurd (n refl)
  found_more (Some x) None e n b = absurd (cc)
  found_more (Some x) (Some y) e n b = e

  pub value_raised : (u w : ℕ) (old new : ℕ → List Rise) → ((t v : ℕ) → reaches t v s ≡ ((u == t) && nat_le v w)) →
      ((q : ℕ) → new q ≡ cond (u == q) (with_rise (old q) (record { value = w; line = s.line })) (old q)) →
      ((t v : ℕ) → first_rise v (old t) ≡ value_releases xs t v) → (t v : ℕ) → first_rise v (new t) ≡ value_releases more t v
  value_raised u w old new test put was t v = by_test (u == t) refl (is_reached w (old t)) refl (nat_le v w) refl
    where
      r : Rise
      r = record { value = w; line = s.line }

      kept : (b : Bool) → (u == t) ≡ b → (c : Bool) → is_reached w (old t) ≡ c → new t ≡ cond b (cond c (old t) (old t ++ r ∷ [])) (old t)
      kept b e c f =
          put t
          ∙ (ap (λ (x : Bool). cond x (with_rise (old t) r) (old t)) e
          ∙ ap (λ (x : Bool). cond b (cond x (old t) (old t ++ r ∷ [])) (old t)) f)

      by_test : (b : Bool) → (u == t) ≡ b → (c : Bool) → is_reached w (old t) ≡ c → (d : Bool) → nat_le v w ≡ d → first_rise v (new t) ≡ value_releases more t v
      by_test true e true f true g =
          ap (λ (rs : List Rise). first_rise v rs) (kept true e true f)
          ∙ (found_more (find (λ x. nat_le v x.value) (old t)) (find (reaches t v) xs) (was t v) (reached_found v w (old t) f g) (reaches t v s)
          ∙ sym (first_more (reaches t v)))
      by_test true e true f false g =
          ap (λ (rs : List Rise). first_rise v rs) (kept true e true f)
          ∙ (was t v ∙ sym (value_stays t v (test t v ∙ (ap (λ (b : Bool). b && nat_le v w) e ∙ g))))
      by_test true e false f d g =
          ap (λ (rs : List Rise). first_rise v rs) (kept true e false f)
          ∙ (ap (λ (o : Option Rise). option_to_list (option_map (λ x. x.line) o)) (find-append (λ x. nat_le v x.value) (old t) (r ∷ []))
          ∙ (both r refl (find (λ x. nat_le v x.value) (old t)) (find (reaches t v) xs) (was t v) (nat_le v w)
          ∙ (ap (λ (b : Bool). option_to_list (option_map (λ x. x.line) (option_or (find (reaches t v) xs) (cond b (Some s) None)))) (sym (test t v ∙ ap (λ (b : Bool). b && nat_le v w) e))
          ∙ sym (first_more (reaches t v)))))
      by_test false e c f d g =
          ap (λ (rs : List Rise). first_rise v rs) (kept false e c f)
          ∙ (was t v ∙ sym (value_stays t v (test t v ∙ ap (λ (b : Bool). b && nat_le v w) e)))

  -- From behind

  behind : reverse more ≡ s ∷ reverse xs
  behind = reverse-append xs (s ∷ [])

  last_more : (test : Step → Bool) → first_line test (reverse more) ≡ cond (test s) (s.line ∷ []) (first_line test (reverse xs))
  last_more test = ap (λ (ys : List Step). first_line test ys) behind ∙ by_test (test s)
    where
      by_test : (b : Bool) → option_to_list (option_map (λ x. x.line) (cond b (Some s) (find test (reverse xs)))) ≡ cond b (s.line ∷ []) (first_line test (reverse xs))
      by_test true = refl
      by_test false = refl

  pub last_stays : (test : Step → Bool) → test s ≡ false → first_line test (reverse more) ≡ first_line test (reverse xs)
  last_stays test e = last_more test ∙ ap (λ (b : Bool). cond b (s.line ∷ []) (first_line test (reverse xs))) e

  -- a number that was put is the line, where the step passes
  pub last_new : (test : Step → Bool) (old new : Option ℕ) (b : Bool) → test s ≡ b → new ≡ cond b (Some s.line) old →
      option_to_list old ≡ first_line test (reverse xs) → option_to_list new ≡ first_line test (reverse more)
  last_new test old new true e put was =
      ap (λ (o : Option ℕ). option_to_list o) put
      ∙ sym (last_more test ∙ ap (λ (b : Bool). cond b (s.line ∷ []) (first_line test (reverse xs))) e)
  last_new test old new false e put was =
      ap (λ (o : Option ℕ). option_to_list o) put ∙ (was ∙ sym (last_stays test e))

  -- Binary semaphores

  module _ (q : ℕ) where
    abbrev lines : List Step → List ℕ
    lines ys = lines_of_steps (filter (signals_binary q) (before_first (waits_binary q) ys))

    waited : waits_binary q s ≡ true → binary_releases more q ≡ []
    waited e =
        ap (λ (ys : List Step). lines ys) behind
        ∙ ap (λ (b : Bool). lines_of_steps (filter (signals_binary q) (take (cond (not b) (1 + prefix_len (λ y. not (waits_binary q y)) (reverse xs)) 0) (s ∷ reverse xs)))) e

    unwaited : waits_binary q s ≡ false → binary_releases more q ≡ lines_of_steps (filter (signals_binary q) (s ∷ before_first (waits_binary q) (reverse xs)))
    unwaited e =
        let n : ℕ = prefix_len (λ y. not (waits_binary q y)) (reverse xs) in
        let one : 1 + n ≡ suc n = omega arith in
        ap (λ (ys : List Step). lines ys) behind
        ∙ (ap (λ (b : Bool). lines_of_steps (filter (signals_binary q) (take (cond (not b) (1 + n) 0) (s ∷ reverse xs)))) e
        ∙ ap (λ (m : ℕ). lines_of_steps (filter (signals_binary q) (take m (s ∷ reverse xs)))) one)

    by_signal : (b : Bool) → signals_binary q s ≡ b → lines_of_steps (filter (signals_binary q) (s ∷ before_first (waits_binary q) (reverse xs))) ≡ cond b (s.line ∷ binary_releases xs q) (binary_releases xs q)
    by_signal true e = ap (λ (b : Bool). lines_of_steps (cond b (s ∷ filter (signals_binary q) (before_first (waits_binary q) (reverse xs))) (filter (signals_binary q) (before_first (waits_binary q) (reverse xs))))) e
    by_signal false e = ap (λ (b : Bool). lines_of_steps (cond b (s ∷ filter (signals_binary q) (before_first (waits_binary q) (reverse xs))) (filter (signals_binary q) (before_first (waits_binary q) (reverse xs))))) e

    pub binary_stays : waits_binary q s ≡ false → signals_binary q s ≡ false → binary_releases more q ≡ binary_releases xs q
    binary_stays e f = unwaited e ∙ by_signal false f

    pub binary_new : (old new : List ℕ) (b : Bool) → waits_binary q s ≡ false → signals_binary q s ≡ b → new ≡ cond b (old ++ s.line ∷ []) old →
        reverse old ≡ binary_releases xs q → reverse new ≡ binary_releases more q
    binary_new old new true e f put was =
        ap (λ (ls : List ℕ). reverse ls) put
        ∙ (reverse-append old (s.line ∷ [])
        ∙ (ap (λ (ls : List ℕ). s.line ∷ ls) was ∙ sym (unwaited e ∙ by_signal true f)))
    binary_new old new false e f put was = ap (λ (ls : List ℕ). reverse ls) put ∙ (was ∙ sym (binary_stays e f))

    pub binary_waited : (old new : List ℕ) (b : Bool) → waits_binary q s ≡ b → signals_binary q s ≡ false → new ≡ cond b [] old →
        reverse old ≡ binary_releases xs q → reverse new ≡ binary_releases more q
    binary_waited old new true e f put was = ap (λ (ls : List ℕ). reverse ls) put ∙ sym (waited e)
    binary_waited old new false e f put was = ap (λ (ls : List ℕ). reverse ls) put ∙ (was ∙ sym (binary_stays e f))

-- What releases a line signals something.
use Rattle.std.proofs.Common.{◌≡◌, ◌⊎◌, ◌<◌, ◌≤◌, ◌+◌, arith, Bool, true, false, ℕ, zero, suc, List, [], ◌∷◌, ◌++◌, cond, filter, take, reverse, refl, sym, ◌∙◌, ap, subst, inl, inr, Option, Some, None}
use Rattle.std.specs.Prelude.{◌==◌, find, not, if◌then◌else◌}
use Rattle.std.specs.Option.{option_map, option_to_list}
use Rattle.std.specs.List.{before_first, position_or_len, prefix_len}
use Rattle.std.proofs.lemmas.List.{reverse-append}
use Rattle.std.proofs.lemmas.Bool.{eqb-true, eq-eqb}
use Rattle.vq_ground.specs.Lists.{has}
use Rattle.vq_ground.proofs.Bools.{never}
use Rattle.vq_capture.specs.declared.statement.Statement.{Statement}
use Rattle.vq_capture.specs.declared.statement.Statement.TheVariants.{SawValue, SawFence, WaitTimeline, WaitBinary, AwaitEvent, Forget}
use Rattle.vq_capture.specs.declared.statement.Statement.TheVariants.{HandOver, HostSignal, SetEvent, SignalTimeline, SignalBinary, SignalFence}
use Rattle.vq_capture.specs.declared.capture.Step.{Step}
use Rattle.vq_capture.specs.Points.{IsMember}
use Rattle.vq_capture.specs.Releases.{reaches, signals_binary, waits_binary, signals_fence, sets_event, first_line, value_releases, is_above_initial, releases}
use Rattle.vq_capture_laws.proofs.Cited.{AreRising, in_front, in_back, in_either, of_reverse, from_map, any_of, one_of_any}
use Rattle.vq_capture_check.specs.declared.signals.Signal.{Signal}
use Rattle.vq_capture_check.specs.declared.signals.Signal.TheVariants.{OfBinary, OfFence}
use Rattle.vq_capture_check.specs.Watching.{is_releasing, is_lasting, signal_of, ends_signal, waits_for_signal}
use Rattle.vq_capture_clocks_laws.specs.Tidy.{names_thing}

-- Lists

pub in_has : (xs : List ℕ) (n : ℕ) → has xs n ≡ true → IsMember n xs
in_has xs n h =
    let r = one_of_any (λ y. y == n) xs h in
    subst (λ (m : ℕ). IsMember m xs) (eqb-true r.0 n r.2) r.1

pub has_in : (xs : List ℕ) (n : ℕ) → IsMember n xs → has xs n ≡ true
has_in xs n m = any_of (λ y. y == n) xs n m (eq-eqb n n refl)

pub behind_first : {X : Type 0} (y : X) (ys : List X) → reverse (y ∷ ys) ≡ reverse ys ++ y ∷ []
behind_first y ys = reverse-append (y ∷ []) ys

of_take : {X : Type 0} (x : X) (n : ℕ) (xs : List X) → IsMember x (take n xs) → IsMember x xs
of_take x zero xs m = absurd m
of_take x (suc n) [] m = absurd m
of_take x (suc n) (y ∷ ys) (inl e) = inl e
of_take x (suc n) (y ∷ ys) (inr m) = inr (of_take x n ys m)

pub of_filter : {X : Type 0} (test : X → Bool) (x : X) (xs : List X) → IsMember x (filter test xs) → IsMember x xs × (test x ≡ true)
of_filter test x [] m = absurd m
of_filter {X} test x (y ∷ ys) m = case (test y) refl m (λ n. of_filter test x ys n)
  where
    case : (b : Bool) → test y ≡ b → IsMember x (cond b (y ∷ filter test ys) (filter test ys)) →
        (IsMember x (filter test ys) → IsMember x ys × (test x ≡ true)) → IsMember x (y ∷ ys) × (test x ≡ true)
    case true e (inl q) f = (inl q, subst (λ (z : X). test z ≡ true) (sym q) e)
    case true e (inr n) f = let r = f n in (inr r.0, r.1)
    case false e n f = let r = f n in (inr r.0, r.1)

-- what is found stands there, and passes
pub of_find : {X : Type 0} (test : X → Bool) (xs : List X) (x : X) → find test xs ≡ Some x → IsMember x xs × (test x ≡ true)
of_find {X} test [] x e = absurd (nothing e)
  where
    nothing : None ≡ Some x → ⊥
    nothing e = cc
of_find {X} test (y ∷ ys) x e = case (test y) refl e (λ f. of_find test ys x f)
  where
    one : Some y ≡ Some x → x ≡ y
    one e = cc

    case : (b : Bool) → test y ≡ b → cond b (Some y) (find test ys) ≡ Some x →
        (find test ys ≡ Some x → IsMember x ys × (test x ≡ true)) → IsMember x (y ∷ ys) × (test x ≡ true)
    case true t e f = (inl (one e), subst (λ (z : X). test z ≡ true) (sym (one e)) t)
    case false t e f = let r = f e in (inr r.0, r.1)

-- Lines that signal

reaches_signal : (t v : ℕ) (s : Step) → reaches t v s ≡ true → is_releasing s.statement ≡ true
reaches_signal t v s = by s.statement refl
  where
    by : (said : Statement) → s.statement ≡ said → reaches t v s ≡ true → is_releasing said ≡ true
    by (HostSignal u w) e h = refl
    by (SignalTimeline u w scope) e h = refl
    by other e h = never (sym (ap (λ (x : Statement). reaches t v (record s { statement = x })) e) ∙ h)

binary_signal : (b : ℕ) (s : Step) → signals_binary b s ≡ true → is_releasing s.statement ≡ true
binary_signal b s = by s.statement refl
  where
    by : (said : Statement) → s.statement ≡ said → signals_binary b s ≡ true → is_releasing said ≡ true
    by (SignalBinary r scope) e h = refl
    by other e h = never (sym (ap (λ (x : Statement). signals_binary b (record s { statement = x })) e) ∙ h)

fence_signal : (f : ℕ) (s : Step) → signals_fence f s ≡ true → is_releasing s.statement ≡ true
fence_signal f s = by s.statement refl
  where
    by : (said : Statement) → s.statement ≡ said → signals_fence f s ≡ true → is_releasing said ≡ true
    by (SignalFence g) e h = refl
    by other e h = never (sym (ap (λ (x : Statement). signals_fence f (record s { statement = x })) e) ∙ h)

event_signal : (v : ℕ) (q : Option ℕ) (s : Step) → sets_event v q s ≡ true → is_releasing s.statement ≡ true
event_signal v q s = by s.statement refl
  where
    by : (said : Statement) → s.statement ≡ said → sets_event v q s ≡ true → is_releasing said ≡ true
    by (SetEvent g scope) e h = refl
    by other e h = never (sym (ap (λ (x : Statement). sets_event v q (record s { statement = x })) e) ∙ h)

-- a step above of a line that may release others
abbrev pub Releasing : List Step → ℕ → Type 0
Releasing above n = (s : Step) × IsMember s above × (s.line ≡ n) × (is_releasing s.statement ≡ true)

first_releases : (test : Step → Bool) (xs : List Step) (n : ℕ) → ((s : Step) → test s ≡ true → is_releasing s.statement ≡ true) → IsMember n (first_line test xs) → Releasing xs n
first_releases test xs n f m = case (find test xs) refl m
  where
    case : (o : Option Step) → find test xs ≡ o → IsMember n (option_to_list (option_map (λ s. s.line) o)) → Releasing xs n
    case None e m = absurd m
    case (Some s) e (inl q) = let r = of_find test xs s e in (s, r.0, sym q, f s r.1)
    case (Some s) e (inr m) = absurd m

reversed : (above : List Step) (n : ℕ) → Releasing (reverse above) n → Releasing above n
reversed above n r = (r.0, of_reverse r.0 above r.1, r.2, r.3)

pub releasing : (above : List Step) (queue : Option ℕ) (said : Statement) (n : ℕ) → IsMember n (releases above queue said) → Releasing above n
releasing above queue (WaitTimeline t v scope) n m = case (is_above_initial above t v) m
  where
    case : (b : Bool) → IsMember n (cond b (value_releases above t v) []) → Releasing above n
    case true m = first_releases (reaches t v) above n (reaches_signal t v) m
    case false m = absurd m
releasing above queue (SawValue t v) n m = case (is_above_initial above t v) m
  where
    case : (b : Bool) → IsMember n (cond b (value_releases above t v) []) → Releasing above n
    case true m = first_releases (reaches t v) above n (reaches_signal t v) m
    case false m = absurd m
releasing above queue (WaitBinary b scope) n m =
    let r = from_map (λ (s : Step). s.line) n (filter (signals_binary b) (before_first (waits_binary b) (reverse above))) m in
    let t = of_filter (signals_binary b) r.0 (before_first (waits_binary b) (reverse above)) r.1 in
    (r.0, of_reverse r.0 above (of_take r.0 (position_or_len (waits_binary b) (reverse above)) (reverse above) t.0), sym r.2, binary_signal b r.0 t.1)
releasing above queue (SawFence f) n m =
    reversed above n (first_releases (signals_fence f) (reverse above) n (fence_signal f) m)
releasing above queue (AwaitEvent e scope) n m =
    reversed above n (first_releases (sets_event e queue) (reverse above) n (event_signal e queue) m)
releasing above queue other n m = absurd m

-- What they signal, and whether it is ended

pub lasting_releases : (said : Statement) → is_lasting said ≡ true → is_releasing said ≡ true
lasting_releases HandOver e = refl
lasting_releases (HostSignal t v) e = refl
lasting_releases (SetEvent e' scope) e = refl
lasting_releases (SignalTimeline t v scope) e = refl
lasting_releases other e = never e

reaches_lasts : (t v : ℕ) (s : Step) → reaches t v s ≡ true → is_lasting s.statement ≡ true
reaches_lasts t v s = by s.statement refl
  where
    by : (said : Statement) → s.statement ≡ said → reaches t v s ≡ true → is_lasting said ≡ true
    by (HostSignal u w) e h = refl
    by (SignalTimeline u w scope) e h = refl
    by other e h = never (sym (ap (λ (x : Statement). reaches t v (record s { statement = x })) e) ∙ h)

event_lasts : (v : ℕ) (q : Option ℕ) (s : Step) → sets_event v q s ≡ true → is_lasting s.statement ≡ true
event_lasts v q s = by s.statement refl
  where
    by : (said : Statement) → s.statement ≡ said → sets_event v q s ≡ true → is_lasting said ≡ true
    by (SetEvent g scope) e h = refl
    by other e h = never (sym (ap (λ (x : Statement). sets_event v q (record s { statement = x })) e) ∙ h)

binary_is : (b : ℕ) (s : Step) → signals_binary b s ≡ true → signal_of s.statement ≡ Some (OfBinary b)
binary_is b s = by s.statement refl
  where
    by : (said : Statement) → s.statement ≡ said → signals_binary b s ≡ true → signal_of said ≡ Some (OfBinary b)
    by (SignalBinary r scope) e h =
        ap (λ (n : ℕ). Some (OfBinary n)) (eqb-true r b (sym (ap (λ (x : Statement). signals_binary b (record s { statement = x })) e) ∙ h))
    by other e h = never (sym (ap (λ (x : Statement). signals_binary b (record s { statement = x })) e) ∙ h)

fence_is : (f : ℕ) (s : Step) → signals_fence f s ≡ true → signal_of s.statement ≡ Some (OfFence f)
fence_is f s = by s.statement refl
  where
    by : (said : Statement) → s.statement ≡ said → signals_fence f s ≡ true → signal_of said ≡ Some (OfFence f)
    by (SignalFence g) e h =
        ap (λ (n : ℕ). Some (OfFence n)) (eqb-true g f (sym (ap (λ (x : Statement). signals_fence f (record s { statement = x })) e) ∙ h))
    by other e h = never (sym (ap (λ (x : Statement). signals_fence f (record s { statement = x })) e) ∙ h)

-- what ends a signal waits for it, or signals its fence again, or says that it is gone
ends_binary : (b : ℕ) (s : Step) → ends_signal s.statement (OfBinary b) ≡ true → (waits_binary b s ≡ true) ⊎ (s.statement ≡ Forget b)
ends_binary b s = by s.statement refl
  where
    by : (said : Statement) → s.statement ≡ said → ends_signal said (OfBinary b) ≡ true → (waits_binary b s ≡ true) ⊎ (s.statement ≡ Forget b)
    by (WaitBinary r scope) e h =
        inl (ap (λ (x : Statement). waits_binary b (record s { statement = x })) e ∙ eq-eqb r b (sym (eqb-true b r h)))
    by (SignalFence f) e h = never h
    by (Forget x) e h = inr (e ∙ ap (λ (n : ℕ). Forget n) (sym (eqb-true b x h)))
    by other e h = never h

ends_fence : (f : ℕ) (s : Step) → ends_signal s.statement (OfFence f) ≡ true → (signals_fence f s ≡ true) ⊎ (s.statement ≡ Forget f)
ends_fence f s = by s.statement refl
  where
    by : (said : Statement) → s.statement ≡ said → ends_signal said (OfFence f) ≡ true → (signals_fence f s ≡ true) ⊎ (s.statement ≡ Forget f)
    by (SignalFence g) e h =
        inl (ap (λ (x : Statement). signals_fence f (record s { statement = x })) e ∙ eq-eqb g f (sym (eqb-true f g h)))
    by (WaitBinary r scope) e h = never h
    by (Forget x) e h = inr (e ∙ ap (λ (n : ℕ). Forget n) (sym (eqb-true f x h)))
    by other e h = never h

-- Steps from the last line up

abbrev Falls : List Step → Type 0
Falls [] = Unit {0}
Falls (t ∷ ts) = ((u : Step) → IsMember u ts → u.line < t.line) × Falls ts

falls_with : (ts : List Step) (t : Step) → Falls ts → ((u : Step) → IsMember u ts → t.line < u.line) → Falls (ts ++ t ∷ [])
falls_with [] t f l = (λ u m. absurd m, tt)
falls_with (r ∷ ts) t f l = (first, falls_with ts t f.1 (λ u m. l u (inr m)))
  where
    last : (u : Step) → IsMember u (t ∷ []) → u.line < r.line
    last u (inl e) = let h = ap (λ (v : Step). v.line) e in let low = l r (inl refl) in omega arith
    last u (inr m) = absurd m

    first : (u : Step) → IsMember u (ts ++ t ∷ []) → u.line < r.line
    first u m = elim (in_either u ts (t ∷ []) m) [ inl n ↦ f.0 u n | inr n ↦ last u n ]

falls_back : (ts : List Step) → AreRising ts → Falls (reverse ts)
falls_back [] r = tt
falls_back (t ∷ ts) r =
    subst (λ (l : List Step). Falls l) (sym (behind_first t ts))
    (falls_with (reverse ts) t (falls_back ts r.1) (λ u m. r.0 u (of_reverse u ts m)))

into_reverse : (x : Step) (xs : List Step) → IsMember x xs → IsMember x (reverse xs)
into_reverse x [] m = m
into_reverse x (y ∷ ys) (inl e) =
    subst (λ (l : List Step). IsMember x l) (sym (behind_first y ys)) (in_back x (reverse ys) (y ∷ []) (inl e))
into_reverse x (y ∷ ys) (inr m) =
    subst (λ (l : List Step). IsMember x l) (sym (behind_first y ys)) (in_front x (reverse ys) (y ∷ []) (into_reverse x ys m))

-- in front of the first that passes none does
none_before : (test : Step → Bool) (xs : List Step) → Falls xs → (x e : Step) → IsMember x (before_first test xs) → IsMember e xs → test e ≡ true → e.line < x.line
none_before test [] f x e m n h = absurd n
none_before test (y ∷ ys) f x e m n h = case (test y) refl m n (λ i j. none_before test ys f.1 x e i j h)
  where
    case : (b : Bool) → test y ≡ b → IsMember x (take (cond (not b) (1 + prefix_len (λ z. not (test z)) ys) 0) (y ∷ ys)) → IsMember e (y ∷ ys) →
        (IsMember x (before_first test ys) → IsMember e ys → e.line < x.line) → e.line < x.line
    case true q i j g = absurd i
    case false q i j g = two (subst (λ (m : ℕ). IsMember x (take m (y ∷ ys))) one_more i) j
      where
        one_more : 1 + prefix_len (λ z. not (test z)) ys ≡ suc (prefix_len (λ z. not (test z)) ys)
        one_more = omega arith

        two : IsMember x (y ∷ before_first test ys) → IsMember e (y ∷ ys) → e.line < x.line
        two k (inl l) = never (sym q ∙ subst (λ (z : Step). test z ≡ true) l h)
        two (inl k) (inr l) = let a = f.0 e l in let s = ap (λ (z : Step). z.line) k in omega arith
        two (inr k) (inr l) = g k l

-- what is found first stands at or below all that pass
first_lowest : (test : Step → Bool) (xs : List Step) → Falls xs → (x e : Step) → find test xs ≡ Some x → IsMember e xs → test e ≡ true → e.line ≤ x.line
first_lowest test [] f x e q n h = absurd n
first_lowest test (y ∷ ys) f x e q n h = case (test y) refl q n (λ i j. first_lowest test ys f.1 x e i j h)
  where
    same : Some y ≡ Some x → y ≡ x
    same r = cc

    case : (b : Bool) → test y ≡ b → cond b (Some y) (find test ys) ≡ Some x → IsMember e (y ∷ ys) →
        (find test ys ≡ Some x → IsMember e ys → e.line ≤ x.line) → e.line ≤ x.line
    case true p r (inl k) g =
        let s = ap (λ (z : Step). z.line) (same r) in let t = ap (λ (z : Step). z.line) k in omega arith
    case true p r (inr j) g =
        let s = ap (λ (z : Step). z.line) (same r) in let l = f.0 e j in omega arith
    case false p r (inl k) g = never (sym p ∙ subst (λ (z : Step). test z ≡ true) k h)
    case false p r (inr j) g = g r j

-- a line that releases one says something lasting, or a signal that none above that line ends
abbrev pub ReleasedKind : List Step → Statement → Step → Type 0
ReleasedKind above said z =
    ((waits_for_signal said ≡ false) × (is_lasting z.statement ≡ true))
    ⊎ ((waits_for_signal said ≡ true) × (g : Signal) × (signal_of z.statement ≡ Some g)
    × ((e : Step) → IsMember e above → z.line < e.line → ends_signal e.statement g ≡ true → ⊥))

abbrev Found : (Step → Bool) → List Step → ℕ → Type 0
Found test xs n = (s : Step) × (find test xs ≡ Some s) × IsMember s xs × (test s ≡ true) × (s.line ≡ n)

found_line : (test : Step → Bool) (xs : List Step) (n : ℕ) → IsMember n (first_line test xs) → Found test xs n
found_line test xs n m = case (find test xs) refl m
  where
    case : (o : Option Step) → find test xs ≡ o → IsMember n (option_to_list (option_map (λ s. s.line) o)) → Found test xs n
    case None e m = absurd m
    case (Some s) e (inl q) = let r = of_find test xs s e in (s, e, r.0, r.1, sym q)
    case (Some s) e (inr m) = absurd m

-- a line names nothing that is gone above it
abbrev pub NamesNoneGone : List Step → Statement → Type 0
NamesNoneGone above said = (e : Step) (x : ℕ) → IsMember e above → e.statement ≡ Forget x → names_thing said x ≡ false

module _ (above : List Step) (queue : Option ℕ) (z : Step) (rises : AreRising above) (there : IsMember z above) (one : (t : Step) → IsMember t above → t.line ≡ z.line → t ≡ z) where
  by_value : (t v : ℕ) → IsMember z.line (if is_above_initial above t v then value_releases above t v else []) → is_lasting z.statement ≡ true
  by_value t v m = case (is_above_initial above t v) m
    where
      case : (b : Bool) → IsMember z.line (cond b (value_releases above t v) []) → is_lasting z.statement ≡ true
      case true m =
          let f = found_line (reaches t v) above z.line m in
          reaches_lasts t v z (subst (λ (s : Step). reaches t v s ≡ true) (one f.0 f.2 f.4) f.3)
      case false m = absurd m

  kind_of : (said : Statement) → NamesNoneGone above said → IsMember z.line (releases above queue said) → ReleasedKind above said z
  kind_of (WaitTimeline t v scope) names m = inl (refl, by_value t v m)
  kind_of (SawValue t v) names m = inl (refl, by_value t v m)
  kind_of (WaitBinary b scope) names m =
      let r = from_map (λ (s : Step). s.line) z.line (filter (signals_binary b) (before_first (waits_binary b) (reverse above))) m in
      let t = of_filter (signals_binary b) r.0 (before_first (waits_binary b) (reverse above)) r.1 in
      let same = one r.0 (of_reverse r.0 above (of_take r.0 (position_or_len (waits_binary b) (reverse above)) (reverse above) t.0)) (sym r.2) in
      inr (
        refl,
        OfBinary b,
        binary_is b z (subst (λ (s : Step). signals_binary b s ≡ true) same t.1),
        λ e i l h. elim (ends_binary b e h) [
          | inl w ↦ (let k = none_before (waits_binary b) (reverse above) (falls_back above rises) r.0 e t.0 (into_reverse e above i) w in let q = ap (λ (s : Step). s.line) same in omega arith)
          | inr g ↦ never (sym (names e b i g) ∙ eq-eqb b b refl)
        ],
      )
  kind_of (SawFence f) names m =
      let t = found_line (signals_fence f) (reverse above) z.line m in
      let same = one t.0 (of_reverse t.0 above t.2) t.4 in
      inr (
        refl,
        OfFence f,
        fence_is f z (subst (λ (s : Step). signals_fence f s ≡ true) same t.3),
        λ e i l h. elim (ends_fence f e h) [
          | inl w ↦ (let k = first_lowest (signals_fence f) (reverse above) (falls_back above rises) t.0 e t.1 (into_reverse e above i) w in let q = t.4 in omega arith)
          | inr g ↦ never (sym (names e f i g) ∙ eq-eqb f f refl)
        ],
      )
  kind_of (AwaitEvent e scope) names m =
      let t = found_line (sets_event e queue) (reverse above) z.line m in
      inl (refl, event_lasts e queue z (subst (λ (s : Step). sets_event e queue s ≡ true) (one t.0 (of_reverse t.0 above t.2) t.4) t.3))
  kind_of other names m = absurd m

pub released_kind : (above : List Step) (queue : Option ℕ) (said : Statement) (z : Step) → AreRising above → IsMember z above → ((t : Step) → IsMember t above → t.line ≡ z.line → t ≡ z) → NamesNoneGone above said → IsMember z.line (releases above queue said) → ReleasedKind above said z
released_kind above queue said z rises there one names m = kind_of above queue z rises there one said names m

-- What is taken, after the calls of a batch on all its timelines.
use Rattle.std.proofs.Common.{◌≡◌, ◌⊎◌, ℕ, ◌+◌, ◌-◌, ◌<◌, Bool, true, false, List, [], ◌∷◌, length, set, Option, None, Some, inl, inr, refl, sym, ◌∙◌, ap, subst, arith, get_or-set_same, get_or-set_other}
use Rattle.std.specs.Prelude.{nat_eq, nat_lt, ◌&&◌, if◌then◌else◌}
use Rattle.std.specs.List.{slice_get}
use Rattle.std.proofs.lemmas.List.{length-set}
use Rattle.vq_ground.proofs.Tests.{below_of_test}
use Rattle.vq_live.specs.declared.answers.Given.{Given}
use Rattle.vq_live.specs.Live.{Live, KeepsLive, opened, taken, one_if, slot_at}
use Rattle.vq_live.specs.Calls.{is_same, take_fault, given_to, after_take, install_fault, after_install, cancel_fault, after_cancel, after_refer}
use Rattle.vq_live.specs.Runs.{taking, installing}
use Rattle.vq_layer.specs.declared.answers.Wanted.{Wanted}
use Rattle.vq_layer.specs.declared.answers.Wait.{Wait}
use Rattle.vq_layer.specs.declared.answers.Signal.{Signal}
use Rattle.vq_layer.specs.Layer.{live_at}
use Rattle.vq_layer.specs.Names.{signals_name}
use Rattle.vq_layer.specs.Takes.{take_in, taken_all, signals_all, first_take_fault, AreApart, AreKnown}
use Rattle.vq_layer.specs.Installs.{install_unless, install_in, installed_all, cancel_unless, cancelled_all, is_next, is_first, unless_next, first_behind}
use Rattle.vq_layer.specs.Waits.{held_at, hold_point, hold_in, held_all, unref_unless, return_point, return_in, returned_all}
use Rattle.vq_layer.proofs.Cited.{same_number, other_number, read_set, count_cancelled, count_held, known_others}
use Rattle.vq_layer_laws.specs.Lived.{HaveLived}
use Rattle.vq_layer_laws.specs.Tied.{count_in, is_signal, count_signals, SignalApart}
use Rattle.vq_layer_laws.proofs.Living.{lived_event, lived_set, fault_first, fault_taken}
use Rattle.vq_layer_laws.proofs.Counts.{lived_keeps, count_take, IsNext, first_is, install_may, count_install, IsIn, cancel_may, count_cancel}

-- a timeline that is read after a write is the written one, or another that stays
pub record Written (ts : List Live) (m n : ℕ) (t : Live) : Type 0 where
  pub is : ((nat_eq m n ≡ true) × (live_at (set ts m t) n ≡ t)) ⊎ ((nat_eq m n ≡ false) × (live_at (set ts m t) n ≡ live_at ts n))

pub written : (ts : List Live) (m n : ℕ) (t : Live) → m < length ts → Written ts m n t
written ts m n t l = by_test (nat_eq m n) refl
  where
    by_test : (b : Bool) → nat_eq m n ≡ b → Written ts m n t
    by_test true e =
        let same = same_number m n e in
        record { is = inl (e, ap (λ (k : ℕ). live_at (set ts m t) k) (sym same) ∙ get_or-set_same ts m t (opened 0) l) }
    by_test false e =
        record { is = inr (e, get_or-set_other ts m n t (opened 0) (λ q. other_number m n e (sym q))) }

-- an operation more on one timeline, and one less
pub count_more : (ts : List Live) (m n : ℕ) (t : Live) (x y : Given) → m < length ts → count_in x (taken t) ≡ one_if (is_same y x) + count_in x (taken (live_at ts m)) → count_in x (taken (live_at (set ts m t) n)) ≡ one_if (is_signal n x (record { timeline = m; given = y })) + count_in x (taken (live_at ts n))
count_more ts m n t x y l h = by_case (written ts m n t l).is
  where
    by_case : ((nat_eq m n ≡ true) × (live_at (set ts m t) n ≡ t)) ⊎ ((nat_eq m n ≡ false) × (live_at (set ts m t) n ≡ live_at ts n)) → count_in x (taken (live_at (set ts m t) n)) ≡ one_if (nat_eq m n && is_same y x) + count_in x (taken (live_at ts n))
    by_case (inl e) =
        let same = same_number m n e.0 in
        let test : one_if (nat_eq m n && is_same y x) ≡ one_if (is_same y x) = ap (λ (b : Bool). one_if (b && is_same y x)) e.0 in
        let now : count_in x (taken (live_at (set ts m t) n)) ≡ count_in x (taken t) = ap (λ (u : Live). count_in x (taken u)) e.1 in
        let was : count_in x (taken (live_at ts m)) ≡ count_in x (taken (live_at ts n)) = ap (λ (k : ℕ). count_in x (taken (live_at ts k))) same in
        omega arith
    by_case (inr e) =
        let test : one_if (nat_eq m n && is_same y x) ≡ 0 = ap (λ (b : Bool). one_if (b && is_same y x)) e.0 in
        let now : count_in x (taken (live_at (set ts m t) n)) ≡ count_in x (taken (live_at ts n)) = ap (λ (u : Live). count_in x (taken u)) e.1 in
        omega arith

pub count_less : (ts : List Live) (m n : ℕ) (t : Live) (x y : Given) → m < length ts → one_if (is_same y x) + count_in x (taken t) ≡ count_in x (taken (live_at ts m)) → one_if (is_signal n x (record { timeline = m; given = y })) + count_in x (taken (live_at (set ts m t) n)) ≡ count_in x (taken (live_at ts n))
count_less ts m n t x y l h = by_case (written ts m n t l).is
  where
    by_case : ((nat_eq m n ≡ true) × (live_at (set ts m t) n ≡ t)) ⊎ ((nat_eq m n ≡ false) × (live_at (set ts m t) n ≡ live_at ts n)) → one_if (nat_eq m n && is_same y x) + count_in x (taken (live_at (set ts m t) n)) ≡ count_in x (taken (live_at ts n))
    by_case (inl e) =
        let same = same_number m n e.0 in
        let test : one_if (nat_eq m n && is_same y x) ≡ one_if (is_same y x) = ap (λ (b : Bool). one_if (b && is_same y x)) e.0 in
        let now : count_in x (taken (live_at (set ts m t) n)) ≡ count_in x (taken t) = ap (λ (u : Live). count_in x (taken u)) e.1 in
        let was : count_in x (taken (live_at ts m)) ≡ count_in x (taken (live_at ts n)) = ap (λ (k : ℕ). count_in x (taken (live_at ts k))) same in
        omega arith
    by_case (inr e) =
        let test : one_if (nat_eq m n && is_same y x) ≡ 0 = ap (λ (b : Bool). one_if (b && is_same y x)) e.0 in
        let now : count_in x (taken (live_at (set ts m t) n)) ≡ count_in x (taken (live_at ts n)) = ap (λ (u : Live). count_in x (taken u)) e.1 in
        omega arith

-- none more
pub taken_same : (ts : List Live) (m n : ℕ) (t : Live) → taken t ≡ taken (live_at ts m) → taken (live_at (set ts m t) n) ≡ taken (live_at ts n)
taken_same ts m n t h =
    read_set (λ (x : Live). taken x ≡ taken (live_at ts n)) (opened 0) ts m n t (λ e. h ∙ ap (λ (k : ℕ). taken (live_at ts k)) e) refl

-- the takes of a batch
lived_take : (ts : List Live) (w : Wanted) → HaveLived ts → take_fault (live_at ts w.timeline) w.value ≡ None → HaveLived (take_in ts w)
lived_take ts w h f =
    let t = live_at ts w.timeline in
    lived_set ts w.timeline (after_take t w.value) h (lived_event t (taking (given_to t w.value)) (h w.timeline) (f, refl))

pub tied_taken : (ts : List Live) (ws : List Wanted) (n : ℕ) (x : Given) → AreApart ws → AreKnown ts ws → first_take_fault ts ws ≡ None → HaveLived ts → count_in x (taken (live_at (taken_all ts ws) n)) ≡ count_signals n x (signals_all ts ws) + count_in x (taken (live_at ts n))
tied_taken ts [] n x a k f h = omega arith
tied_taken ts (w ∷ ws) n x a k f h =
    let first = fault_first ts w ws f in
    let t = live_at ts w.timeline in
    let rest = tied_taken (take_in ts w) ws n x a.1 (known_others ts (take_in ts w) ws (length-set ts w.timeline _) k.1) (fault_taken ts w ws a.0 ∙ first.1) (lived_take ts w h first.0) in
    let one = count_more ts w.timeline n (after_take t w.value) x (given_to t w.value) k.0 (count_take t w.value x (lived_keeps t (h w.timeline)) first.0) in
    omega arith

-- signals that aren't named later
not_signaled : (n : ℕ) (s : Signal) (ss : List Signal) → signals_name n (s ∷ ss) ≡ false → (s.timeline ≡ n → ⊥) × (signals_name n ss ≡ false)
not_signaled n s ss h = by_test (nat_eq s.timeline n) refl h
  where
    by_test : (b : Bool) → nat_eq s.timeline n ≡ b → (if b then true else signals_name n ss) ≡ false → (s.timeline ≡ n → ⊥) × (signals_name n ss ≡ false)
    by_test true e q = absurd (cc)
    by_test false e q = (other_number s.timeline n e, q)

-- the installs of a batch
pub record IsNextIn (ts : List Live) (s : Signal) : Type 0 where
  pub exists : s.timeline < length ts
  pub next : IsNext (live_at ts s.timeline) s.given

abbrev pub AreNext : List Live → List Signal → Type 0
AreNext ts [] = Unit {0}
AreNext ts (s ∷ ss) = IsNextIn ts s × AreNext ts ss

still_next : (ts : List Live) (m : ℕ) (t : Live) (ss : List Signal) → signals_name m ss ≡ false → AreNext ts ss → AreNext (set ts m t) ss
still_next ts m t [] a h = tt
still_next ts m t (s ∷ ss) a h =
    let both = not_signaled m s ss a in
    let same : live_at (set ts m t) s.timeline ≡ live_at ts s.timeline = get_or-set_other ts m s.timeline t (opened 0) both.0 in (
      record {
        exists = subst (λ (n : ℕ). s.timeline < n) (sym (length-set ts m t)) h.0.exists;
        next = subst (λ (u : Live). IsNext u s.given) (sym same) h.0.next;
      },
      still_next ts m t ss both.1 h.1,
    )

pub tied_installed : (ts : List Live) (ss : List Signal) (n : ℕ) (x : Given) → SignalApart ss → AreNext ts ss → HaveLived ts → count_signals n x ss + count_in x (taken (live_at (installed_all ts ss) n)) ≡ count_in x (taken (live_at ts n))
tied_installed ts [] n x a k h = omega arith
tied_installed ts (s ∷ ss) n x a k h =
    let t = live_at ts s.timeline in
    let may = install_may t s.given (lived_keeps t (h s.timeline)) k.0.next in
    let now : install_unless t (install_fault t s.given) ≡ after_install t = ap (install_unless t) may in
    let us : install_in ts s ≡ set ts s.timeline (after_install t) = ap (λ (u : Live). set ts s.timeline u) now in
    let lived = lived_set ts s.timeline (after_install t) h (lived_event t (installing s.given) (h s.timeline) may) in
    let rest = tied_installed (set ts s.timeline (after_install t)) ss n x a.1 (still_next ts s.timeline (after_install t) ss a.0 k.1) lived in
    let one = count_less ts s.timeline n (after_install t) x s.given k.0.exists (count_install t x s.given k.0.next) in
    let same : count_in x (taken (live_at (installed_all (install_in ts s) ss) n)) ≡ count_in x (taken (live_at (installed_all (set ts s.timeline (after_install t)) ss) n)) =
    ap (λ (vs : List Live). count_in x (taken (live_at (installed_all vs ss) n))) us in
    omega arith

-- the cancels of a batch
pub record IsTakenIn (ts : List Live) (s : Signal) : Type 0 where
  pub exists : s.timeline < length ts
  pub there : IsIn s.given (taken (live_at ts s.timeline))

abbrev pub AreTaken : List Live → List Signal → Type 0
AreTaken ts [] = Unit {0}
AreTaken ts (s ∷ ss) = IsTakenIn ts s × AreTaken ts ss

cancelled_other : (ts : List Live) (ss : List Signal) (n : ℕ) → signals_name n ss ≡ false → live_at (cancelled_all ts ss) n ≡ live_at ts n
cancelled_other ts [] n h = refl
cancelled_other ts (s ∷ ss) n h =
    let both = not_signaled n s ss h in
    let us = cancelled_all ts ss in
    get_or-set_other us s.timeline n (cancel_unless (live_at us s.timeline) s.given (cancel_fault (live_at us s.timeline) s.given)) (opened 0) (λ e. both.0 (sym e))
    ∙ cancelled_other ts ss n both.1

pub tied_cancelled : (ts : List Live) (ss : List Signal) (n : ℕ) (x : Given) → SignalApart ss → AreTaken ts ss → HaveLived ts → count_signals n x ss + count_in x (taken (live_at (cancelled_all ts ss) n)) ≡ count_in x (taken (live_at ts n))
tied_cancelled ts [] n x a k h = omega arith
tied_cancelled ts (s ∷ ss) n x a k h =
    let us = cancelled_all ts ss in
    let t = live_at us s.timeline in
    let same : t ≡ live_at ts s.timeline = cancelled_other ts ss s.timeline a.0 in
    let there : IsIn s.given (taken t) = subst (λ (u : Live). IsIn s.given (taken u)) (sym same) k.0.there in
    let keeps : KeepsLive t = subst KeepsLive (sym same) (lived_keeps (live_at ts s.timeline) (h s.timeline)) in
    let may = cancel_may t s.given keeps there in
    let now : set us s.timeline (cancel_unless t s.given (cancel_fault t s.given)) ≡ set us s.timeline (after_cancel t s.given) =
    ap (λ (u : Live). set us s.timeline u) (ap (cancel_unless t s.given) may) in
    let exists = subst (λ (m : ℕ). s.timeline < m) (sym (count_cancelled ts ss)) k.0.exists in
    let one = count_less us s.timeline n (after_cancel t s.given) x s.given exists (count_cancel t x s.given keeps there) in
    let rest = tied_cancelled ts ss n x a.1 k.1 h in
    let last : count_in x (taken (live_at (cancelled_all ts (s ∷ ss)) n)) ≡ count_in x (taken (live_at (set us s.timeline (after_cancel t s.given)) n)) =
    ap (λ (vs : List Live). count_in x (taken (live_at vs n))) now in
    omega arith

-- references leave what is taken
hold_taken : (ts : List Live) (m : ℕ) (o : Option ℕ) (n : ℕ) → taken (live_at (hold_point ts m o) n) ≡ taken (live_at ts n)
hold_taken ts m None n = refl
hold_taken ts m (Some p) n = taken_same ts m n (after_refer (live_at ts m) p) refl

pub held_taken : (ts : List Live) (ws : List Wait) (n : ℕ) → taken (live_at (held_all ts ws) n) ≡ taken (live_at ts n)
held_taken ts [] n = refl
held_taken ts (w ∷ ws) n = held_taken (hold_in ts w.wanted) ws n ∙ hold_taken ts w.wanted.timeline (held_at ts w.wanted) n

unref_taken : (t : Live) (p : ℕ) (b : Bool) → taken (unref_unless t p b) ≡ taken t
unref_taken t p true = refl
unref_taken t p false = refl

return_taken : (ts : List Live) (m : ℕ) (o : Option ℕ) (n : ℕ) → taken (live_at (return_point ts m o) n) ≡ taken (live_at ts n)
return_taken ts m None n = refl
return_taken ts m (Some p) n =
    let none = nat_eq (slot_at (live_at ts m).slots p).refs 0 in
    taken_same ts m n (unref_unless (live_at ts m) p none) (unref_taken (live_at ts m) p none)

pub returned_taken : (ts : List Live) (ws : List Wait) (n : ℕ) → taken (live_at (returned_all ts ws) n) ≡ taken (live_at ts n)
returned_taken ts [] n = refl
returned_taken ts (w ∷ ws) n = returned_taken (return_in ts w) ws n ∙ return_taken ts w.wanted.timeline w.held n

-- what is next before the references of a release is next after them
same_next : (ts us : List Live) (s : Signal) → length us ≡ length ts → ((live_at us s.timeline).ops ≡ (live_at ts s.timeline).ops) × ((live_at us s.timeline).installed ≡ (live_at ts s.timeline).installed) → IsNextIn ts s → IsNextIn us s
same_next ts us s e h k = record {
  exists = subst (λ (n : ℕ). s.timeline < n) (sym e) k.exists;
  next = record { next = (λ i. slice_get (h.0 i) (h.1 i)) ∙ k.next.next };
}

hold_same : (ts : List Live) (m : ℕ) (o : Option ℕ) (n : ℕ) → ((live_at (hold_point ts m o) n).ops ≡ (live_at ts n).ops) × ((live_at (hold_point ts m o) n).installed ≡ (live_at ts n).installed)
hold_same ts m None n = (refl, refl)
hold_same ts m (Some p) n =
    read_set (λ (x : Live). (x.ops ≡ (live_at ts n).ops) × (x.installed ≡ (live_at ts n).installed)) (opened 0) ts m n (after_refer (live_at ts m) p)
    (λ e. (ap (λ (k : ℕ). (live_at ts k).ops) e, ap (λ (k : ℕ). (live_at ts k).installed) e)) (refl, refl)

held_same : (ts : List Live) (ws : List Wait) (n : ℕ) → ((live_at (held_all ts ws) n).ops ≡ (live_at ts n).ops) × ((live_at (held_all ts ws) n).installed ≡ (live_at ts n).installed)
held_same ts [] n = (refl, refl)
held_same ts (w ∷ ws) n =
    let rest = held_same (hold_in ts w.wanted) ws n in
    let one = hold_same ts w.wanted.timeline (held_at ts w.wanted) n in
    (rest.0 ∙ one.0, rest.1 ∙ one.1)

pub next_held : (ts : List Live) (ws : List Wait) (ss : List Signal) → AreNext ts ss → AreNext (held_all ts ws) ss
next_held ts ws [] k = tt
next_held ts ws (s ∷ ss) k =
    (same_next ts (held_all ts ws) s (count_held ts ws) (held_same ts ws s.timeline) k.0, next_held ts ws ss k.1)

-- a batch that isn't behind has the next operations
next_is : (ts : List Live) (s : Signal) → is_next ts s ≡ true → IsNextIn ts s
next_is ts s h = by_test (nat_lt s.timeline (length ts)) refl h
  where
    t : Live
    t = live_at ts s.timeline

    by_test : (b : Bool) → nat_lt s.timeline (length ts) ≡ b → (if b then is_first (slice_get t.ops t.installed) s.given else false) ≡ true → IsNextIn ts s
    by_test true e k = record { exists = below_of_test s.timeline (length ts) e; next = first_is t s.given k }
    by_test false e k = absurd (cc)

pub all_next : (ts : List Live) (ss : List Signal) → first_behind ts ss ≡ None → AreNext ts ss
all_next ts [] h = tt
all_next ts (s ∷ ss) h = by_test (is_next ts s) refl h (all_next ts ss)
  where
    by_test : (b : Bool) → is_next ts s ≡ b → unless_next b s (first_behind ts ss) ≡ None → (first_behind ts ss ≡ None → AreNext ts ss) → AreNext ts (s ∷ ss)
    by_test true e k rest = (next_is ts s e, rest k)
    by_test false e k rest = absurd (cc)

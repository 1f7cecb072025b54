-- References through the calls of a batch, and through a run.
use Rattle.std.proofs.Common.{◌≡◌, ◌⊎◌, ℕ, zero, suc, ◌+◌, ◌<◌, ◌≤◌, Bool, true, false, List, [], ◌∷◌, length, set, Option, None, Some, Ok, inl, inr, refl, ◌∙◌, ap, arith}
use Rattle.std.specs.Prelude.{nat_eq, ◌&&◌}
use Rattle.vq_live.specs.declared.answers.Given.{Given}
use Rattle.vq_live.specs.declared.answers.Found.TheVariants as found_as
use Rattle.vq_live.specs.declared.answers.InstallFault.{InstallFault}
use Rattle.vq_live.specs.declared.answers.CancelFault.{CancelFault}
use Rattle.vq_live.specs.Live.{Live, opened, slot_at, one_if}
use Rattle.vq_live.specs.Calls.{given_to, after_take, install_fault, cancel_fault, refer_answer, after_refer, after_unref, first_pending, complete_from, after_complete}
use Rattle.vq_live.specs.Runs.{taking, completing, cancelling, referring, returning, MayCome}
use Rattle.vq_live.proofs.Cited.{event_refs}
use Rattle.vq_layer.specs.declared.answers.Wanted.{Wanted}
use Rattle.vq_layer.specs.declared.answers.Wait.{Wait}
use Rattle.vq_layer.specs.declared.answers.Signal.{Signal}
use Rattle.vq_layer.specs.Layer.{live_at}
use Rattle.vq_layer.specs.Takes.{take_in, taken_all, first_take_fault, AreApart}
use Rattle.vq_layer.specs.Installs.{install_unless, install_in, installed_all, cancel_unless, cancelled_all}
use Rattle.vq_layer.specs.Waits.{found_in, held_at, hold_point, hold_in, held_all, waits_all, unref_unless, return_point, return_in, returned_all, holds, is_point}
use Rattle.vq_layer.proofs.Cited.{same_number, equal_true, read_set}
use Rattle.vq_layer_laws.specs.Lived.{HasLived, HaveLived}
use Rattle.vq_layer_laws.specs.Referred.{held_by_waits, refs_at}
use Rattle.vq_layer_laws.proofs.Living.{lived_event, lived_set, fault_first, fault_taken, found_point, lived_cancelled, lived_hold}
use Rattle.vq_layer_laws.proofs.Counts.{lived_keeps}
use Rattle.vq_layer_laws.proofs.Tying.{written}

-- one timeline's references after a call
refs_of : Live → ℕ → ℕ
refs_of t p = (slot_at t.slots p).refs

pub refs_write : (ts : List Live) (m : ℕ) (t : Live) (n p : ℕ) → (slot_at t.slots p).refs ≡ refs_at ts m p → refs_at (set ts m t) n p ≡ refs_at ts n p
refs_write ts m t n p h =
    read_set (λ (x : Live). (slot_at x.slots p).refs ≡ refs_at ts n p) (opened 0) ts m n t (λ e. h ∙ ap (λ (k : ℕ). refs_at ts k p) e) refl

refs_take : (t : Live) (v p : ℕ) → HasLived t → MayCome t (taking (given_to t v)) → (slot_at (after_take t v).slots p).refs ≡ (slot_at t.slots p).refs
refs_take t v p h m = let e = event_refs t p (taking (given_to t v)) (lived_keeps t h) m in omega arith

lived_take : (ts : List Live) (w : Wanted) → HaveLived ts → MayCome (live_at ts w.timeline) (taking (given_to (live_at ts w.timeline) w.value)) → HaveLived (take_in ts w)
lived_take ts w h m =
    let t = live_at ts w.timeline in
    lived_set ts w.timeline (after_take t w.value) h (lived_event t (taking (given_to t w.value)) (h w.timeline) m)

pub refs_taken : (ts : List Live) (ws : List Wanted) (n p : ℕ) → AreApart ws → first_take_fault ts ws ≡ None → HaveLived ts → refs_at (taken_all ts ws) n p ≡ refs_at ts n p
refs_taken ts [] n p a f h = refl
refs_taken ts (w ∷ ws) n p a f h =
    let first = fault_first ts w ws f in
    let t = live_at ts w.timeline in
    refs_taken (take_in ts w) ws n p a.1 (fault_taken ts w ws a.0 ∙ first.1) (lived_take ts w h (first.0, refl))
    ∙ refs_write ts w.timeline (after_take t w.value) n p (refs_take t w.value p (h w.timeline) (first.0, refl))

refs_install : (t : Live) (o : Option InstallFault) (p : ℕ) → (slot_at (install_unless t o).slots p).refs ≡ (slot_at t.slots p).refs
refs_install t None p = refl
refs_install t (Some fault) p = refl

pub refs_installed : (ts : List Live) (ss : List Signal) (n p : ℕ) → refs_at (installed_all ts ss) n p ≡ refs_at ts n p
refs_installed ts [] n p = refl
refs_installed ts (s ∷ ss) n p =
    let t = live_at ts s.timeline in
    refs_installed (install_in ts s) ss n p
    ∙ refs_write ts s.timeline (install_unless t (install_fault t s.given)) n p (refs_install t (install_fault t s.given) p)

refs_cancel : (t : Live) (x : Given) (o : Option CancelFault) (p : ℕ) → HasLived t → cancel_fault t x ≡ o → (slot_at (cancel_unless t x o).slots p).refs ≡ (slot_at t.slots p).refs
refs_cancel t x None p h e = let r = event_refs t p (cancelling x) (lived_keeps t h) e in omega arith
refs_cancel t x (Some fault) p h e = refl

pub refs_cancelled : (ts : List Live) (ss : List Signal) (n p : ℕ) → HaveLived ts → refs_at (cancelled_all ts ss) n p ≡ refs_at ts n p
refs_cancelled ts [] n p h = refl
refs_cancelled ts (s ∷ ss) n p h =
    let us = cancelled_all ts ss in
    let t = live_at us s.timeline in
    refs_write us s.timeline (cancel_unless t s.given (cancel_fault t s.given)) n p (refs_cancel t s.given (cancel_fault t s.given) p (lived_cancelled ts ss h s.timeline) refl)
    ∙ refs_cancelled ts ss n p h

pub refs_complete : (t : Live) (o : Option Given) (p : ℕ) → HasLived t → first_pending t ≡ o → (slot_at (complete_from t o).slots p).refs ≡ (slot_at t.slots p).refs
refs_complete t None p h e = refl
refs_complete t (Some x) p h e =
    let r = event_refs t p (completing x) (lived_keeps t h) e in
    let now : (slot_at (after_complete t).slots p).refs ≡ (slot_at (complete_from t (Some x)).slots p).refs = ap (λ (o : Option Given). (slot_at (complete_from t o).slots p).refs) e in
    omega arith

-- a reference more, and one less
one_same : (b : Bool) → one_if (true && b) ≡ one_if b
one_same b = refl

pub refs_more : (ts : List Live) (m q n p : ℕ) → m < length ts → HaveLived ts → MayCome (live_at ts m) (referring q) → refs_at (set ts m (after_refer (live_at ts m) q)) n p ≡ one_if (nat_eq m n && nat_eq q p) + refs_at ts n p
refs_more ts m q n p l h may = by_case (written ts m n (after_refer (live_at ts m) q) l).is
  where
    t : Live
    t = live_at ts m

    by_case : ((nat_eq m n ≡ true) × (live_at (set ts m (after_refer t q)) n ≡ after_refer t q)) ⊎ ((nat_eq m n ≡ false) × (live_at (set ts m (after_refer t q)) n ≡ live_at ts n)) → refs_at (set ts m (after_refer t q)) n p ≡ one_if (nat_eq m n && nat_eq q p) + refs_at ts n p
    by_case (inl e) =
        let r : (slot_at (after_refer t q).slots p).refs + 0 ≡ (slot_at t.slots p).refs + one_if (nat_eq q p) = event_refs t p (referring q) (lived_keeps t (h m)) may in
        let test : one_if (nat_eq m n && nat_eq q p) ≡ one_if (nat_eq q p) = ap (λ (b : Bool). one_if (b && nat_eq q p)) e.0 in
        let now : refs_at (set ts m (after_refer t q)) n p ≡ (slot_at (after_refer t q).slots p).refs = ap (λ (u : Live). (slot_at u.slots p).refs) e.1 in
        let was : refs_at ts m p ≡ refs_at ts n p = ap (λ (k : ℕ). refs_at ts k p) (same_number m n e.0) in
        omega arith
    by_case (inr e) =
        let test : one_if (nat_eq m n && nat_eq q p) ≡ 0 = ap (λ (b : Bool). one_if (b && nat_eq q p)) e.0 in
        let now : refs_at (set ts m (after_refer t q)) n p ≡ refs_at ts n p = ap (λ (u : Live). (slot_at u.slots p).refs) e.1 in
        omega arith

pub refs_less : (ts : List Live) (m q n p : ℕ) → m < length ts → HaveLived ts → MayCome (live_at ts m) (returning q) → one_if (nat_eq m n && nat_eq q p) + refs_at (set ts m (after_unref (live_at ts m) q)) n p ≡ refs_at ts n p
refs_less ts m q n p l h may = by_case (written ts m n (after_unref (live_at ts m) q) l).is
  where
    t : Live
    t = live_at ts m

    by_case : ((nat_eq m n ≡ true) × (live_at (set ts m (after_unref t q)) n ≡ after_unref t q)) ⊎ ((nat_eq m n ≡ false) × (live_at (set ts m (after_unref t q)) n ≡ live_at ts n)) → one_if (nat_eq m n && nat_eq q p) + refs_at (set ts m (after_unref t q)) n p ≡ refs_at ts n p
    by_case (inl e) =
        let r : (slot_at (after_unref t q).slots p).refs + one_if (nat_eq q p) ≡ (slot_at t.slots p).refs + 0 = event_refs t p (returning q) (lived_keeps t (h m)) may in
        let test : one_if (nat_eq m n && nat_eq q p) ≡ one_if (nat_eq q p) = ap (λ (b : Bool). one_if (b && nat_eq q p)) e.0 in
        let now : refs_at (set ts m (after_unref t q)) n p ≡ (slot_at (after_unref t q).slots p).refs = ap (λ (u : Live). (slot_at u.slots p).refs) e.1 in
        let was : refs_at ts m p ≡ refs_at ts n p = ap (λ (k : ℕ). refs_at ts k p) (same_number m n e.0) in
        omega arith
    by_case (inr e) =
        let test : one_if (nat_eq m n && nat_eq q p) ≡ 0 = ap (λ (b : Bool). one_if (b && nat_eq q p)) e.0 in
        let now : refs_at (set ts m (after_unref t q)) n p ≡ refs_at ts n p = ap (λ (u : Live). (slot_at u.slots p).refs) e.1 in
        omega arith

-- what is referred to exists
pub some_exists : (ts : List Live) (m q : ℕ) → 0 < refs_at ts m q → m < length ts
some_exists [] m q h = absurd (omega arith)
some_exists (t ∷ ts) zero q h = omega arith
some_exists (t ∷ ts) (suc m) q h = let rest = some_exists ts m q h in omega arith

pub out_exists : (ts : List Live) (m q : ℕ) → refer_answer (live_at ts m) q ≡ Ok (record { point = q }) → m < length ts
out_exists [] m q h = absurd (cc)
out_exists (t ∷ ts) zero q h = omega arith
out_exists (t ∷ ts) (suc m) q h = let rest = out_exists ts m q h in omega arith

-- a release adds the references of its batch
pub refs_hold : (ts : List Live) (m : ℕ) (o : Option ℕ) (n p : ℕ) → ((q : ℕ) → o ≡ Some q → refer_answer (live_at ts m) q ≡ Ok (record { point = q })) → HaveLived ts → refs_at (hold_point ts m o) n p ≡ one_if (nat_eq m n && is_point o p) + refs_at ts n p
refs_hold ts m None n p f h = by_test (nat_eq m n)
  where
    by_test : (b : Bool) → refs_at ts n p ≡ one_if (b && false) + refs_at ts n p
    by_test true = omega arith
    by_test false = omega arith
refs_hold ts m (Some q) n p f h = refs_more ts m q n p (out_exists ts m q (f q refl)) h (f q refl)

pub refs_held : (ts : List Live) (ws : List Wait) (n p : ℕ) → HaveLived ts → refs_at (held_all ts ws) n p ≡ held_by_waits n p (waits_all ts ws) + refs_at ts n p
refs_held ts [] n p h = omega arith
refs_held ts (w ∷ ws) n p h =
    let m = w.wanted.timeline in
    let o = held_at ts w.wanted in
    let may : (q : ℕ) → o ≡ Some q → refer_answer (live_at ts m) q ≡ Ok (record { point = q }) = λ q e. found_point (live_at ts m) (found_in ts w.wanted) q e in
    let one = refs_hold ts m o n p may h in
    let rest = refs_held (hold_in ts w.wanted) ws n p (lived_hold ts m o may h) in
    omega arith

-- a finish gives those of its batch back
pub refs_unref : (ts : List Live) (m q n p : ℕ) (b : Bool) → nat_eq (refs_at ts m q) 0 ≡ b → 0 < refs_at ts m q → HaveLived ts → one_if (nat_eq m n && nat_eq q p) + refs_at (set ts m (unref_unless (live_at ts m) q b)) n p ≡ refs_at ts n p
refs_unref ts m q n p true e l h = let none = same_number (refs_at ts m q) 0 e in absurd (omega arith)
refs_unref ts m q n p false e l h = refs_less ts m q n p (some_exists ts m q l) h l

lived_unref : (ts : List Live) (m q : ℕ) (b : Bool) → nat_eq (refs_at ts m q) 0 ≡ b → 0 < refs_at ts m q → HaveLived ts → HaveLived (set ts m (unref_unless (live_at ts m) q b))
lived_unref ts m q true e l h = let none = same_number (refs_at ts m q) 0 e in absurd (omega arith)
lived_unref ts m q false e l h = lived_set ts m (after_unref (live_at ts m) q) h (lived_event (live_at ts m) (returning q) (h m) l)

holds_it : (w : Wait) (q : ℕ) → w.held ≡ Some q → one_if (holds w.wanted.timeline q w) ≡ 1
holds_it w q e = λ i. one_if (equal_true w.wanted.timeline w.wanted.timeline refl i && (ap (λ (o : Option ℕ). is_point o q) e ∙ equal_true q q refl) i)

refs_return : (ts : List Live) (w : Wait) (ws : List Wait) (n p : ℕ) → ((m q : ℕ) → held_by_waits m q (w ∷ ws) ≤ refs_at ts m q) → HaveLived ts → one_if (holds n p w) + refs_at (return_in ts w) n p ≡ refs_at ts n p
refs_return ts w ws n p a h = by_held w.held refl
  where
    m : ℕ
    m = w.wanted.timeline

    by_held : (o : Option ℕ) → w.held ≡ o → one_if (nat_eq m n && is_point o p) + refs_at (return_point ts m o) n p ≡ refs_at ts n p
    by_held None e = by_test (nat_eq m n)
      where
        by_test : (b : Bool) → one_if (b && false) + refs_at ts n p ≡ refs_at ts n p
        by_test true = omega arith
        by_test false = omega arith
    by_held (Some q) e =
        let all = a m q in
        let one = holds_it w q e in
        refs_unref ts m q n p (nat_eq (refs_at ts m q) 0) refl (omega arith) h

lived_return : (ts : List Live) (w : Wait) (ws : List Wait) → ((m q : ℕ) → held_by_waits m q (w ∷ ws) ≤ refs_at ts m q) → HaveLived ts → HaveLived (return_in ts w)
lived_return ts w ws a h = by_held w.held refl
  where
    m : ℕ
    m = w.wanted.timeline

    by_held : (o : Option ℕ) → w.held ≡ o → HaveLived (return_point ts m o)
    by_held None e = h
    by_held (Some q) e =
        let all = a m q in
        let one = holds_it w q e in
        lived_unref ts m q (nat_eq (refs_at ts m q) 0) refl (omega arith) h

pub refs_returned : (ts : List Live) (ws : List Wait) (n p : ℕ) → ((m q : ℕ) → held_by_waits m q ws ≤ refs_at ts m q) → HaveLived ts → held_by_waits n p ws + refs_at (returned_all ts ws) n p ≡ refs_at ts n p
refs_returned ts [] n p a h = omega arith
refs_returned ts (w ∷ ws) n p a h =
    let one : (m q : ℕ) → one_if (holds m q w) + refs_at (return_in ts w) m q ≡ refs_at ts m q = λ m q. refs_return ts w ws m q a h in
    let rest = refs_returned (return_in ts w) ws n p (λ m q. let all = a m q in let it = one m q in omega arith) (lived_return ts w ws a h) in
    let here = one n p in
    omega arith

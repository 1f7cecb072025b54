-- A live timeline that is fed with the calls of a timeline of known values stays tied to it.
use Rattle.std.proofs.Common.{◌≡◌, ℕ, zero, suc, ◌+◌, ◌-◌, ◌<◌, ◌≤◌, Bool, true, false, not, List, [], ◌∷◌, ◌++◌, length, get_or, set, take, drop, Option, Some, None, Ok, Err, refl, sym, ◌∙◌, ap, arith, subst}
use Rattle.std.specs.Prelude.{◌==◌, ◌&&◌, ◌||◌, nat_eq, if◌then◌else◌, filter, replicate}
use Rattle.std.specs.List.{list_any, slice_get}
use Rattle.std.proofs.lemmas.Bool.{ne_eqb, eqb-true, eq-eqb}
use Rattle.std.proofs.lemmas.List.{drop_more, get_or-drop, length-drop, length-set, length-append, drop-set-add}
use Rattle.std.proofs.lemmas.List.Folds.{list_any-append}
use Rattle.vq_ground.proofs.Tests.{above_test}
use Rattle.vq_point_laws.specs.Timeline.{Timeline, Entry, KeepsLists, MayTake, MayBind, MayFree, IsPresent, new_timeline, past_value, take_from, after_take, after_bind, complete_from, after_complete, after_free}
use Rattle.vq_ground.specs.Lists.{AreRisingFrom}
use Rattle.vq_point_laws.proofs.Cited.{new_keeps, take_keeps, bind_keeps, complete_keeps, free_keeps, IsLeast, least_pending, unbound}
use Rattle.vq_live.specs.declared.answers.Given.{Given}
use Rattle.vq_live.specs.declared.answers.InstallFault.TheVariants as install_as
use Rattle.vq_live.specs.declared.answers.ReferFault.TheVariants as refer_as
use Rattle.vq_live.specs.declared.answers.TakeFault.TheVariants as take_as
use Rattle.vq_live.specs.Live.{Live, KeepsLive, AreOut, opened, slot_at, is_idle, one_if, pending_value, last_value}
use Rattle.vq_live.specs.Calls.{take_fault, given_to, placed, point_from, slots_from, next_point, next_fault, is_same, first_of, done_slot, complete_from as live_complete_from}
use Rattle.vq_live.specs.Runs.{Event, taking, installing, completing, referring, returning, MayCome, after, IsRun, after_all}
use Rattle.vq_live.proofs.Cited.{event_keeps, opened_keeps, event_out, event_refs, next_idle, given_same}
use Rattle.vq_live_laws.specs.Feeds.{Call, takes, binds, completes, frees, MayCall, after_call, AreCalls, after_calls, value_at, given_of, completing_of, events_of, fed, Shows}
use Rattle.vq_live_laws.proofs.Suffixes.{zipped, HaveFirst, have_first, rising_drop, put_in, value_new, first_below, next_at, first_entries}

record Tied (t : Timeline) (u : Live) : Type 0 where
  lists : KeepsLists t
  kept : KeepsLive u
  payload : u.payload ≡ past_value t
  free : u.free ≡ t.free
  made : length u.slots ≡ t.made
  installed : u.installed ≡ t.bound - t.completed
  ops : u.ops ≡ zipped (drop t.completed t.values) (drop t.completed t.points)
  -- a point that waits has one reference, and one that is out has none
  waits : (p : ℕ) → IsPresent p t.waiting → ((slot_at u.slots p).refs ≡ 1) × ((slot_at u.slots p).out ≡ false)
  clean : (p : ℕ) → (slot_at u.slots p).out ≡ true → (slot_at u.slots p).refs ≡ 0

-- what a timeline of known values keeps of its rest
firsts : (t : Timeline) → KeepsLists t → HaveFirst (t.bound - t.completed) (drop t.completed t.points)
firsts t k = have_first (t.bound - t.completed) (drop t.completed t.points) (λ j l e. k.had (t.completed + j) (omega arith) (sym (get_or-drop t.completed t.points j None) ∙ e))

rises : (t : Timeline) → KeepsLists t → AreRisingFrom (past_value t) (drop t.completed t.values)
rises t k =
    let in_order = k.in_order in let within = k.within in
    rising_drop t.initial t.values t.completed k.rising (omega arith)

exists : (points : List (Option ℕ)) (index p : ℕ) → get_or points index None ≡ Some p → index < length points
exists [] index p e = absurd (cc)
exists (x ∷ xs) zero p e = omega arith
exists (x ∷ xs) (suc index) p e = let rest = exists xs index p e in omega arith

shows : (t : Timeline) (u : Live) → Tied t u → Shows t u
shows t u tied =
    let k = tied.lists in let in_order = k.in_order in let within = k.within in
    record {
      payload = tied.payload;
      shown = (λ i. take (tied.installed i) (tied.ops i)) ∙ first_entries t.values (drop t.completed t.values) t.completed (t.bound - t.completed) (drop t.completed t.points) refl (firsts t k) (omega arith);
      free_points = tied.free;
    }

-- the pending value is below what comes later
pending_below : (t : Timeline) (u : Live) (index : ℕ) → Tied t u → t.bound ≤ index → index < length t.values → pending_value u < value_at t index
pending_below t u index tied b l =
    let k = tied.lists in let in_order = k.in_order in
    let size = length-drop t.completed t.values in
    let place : t.completed + (index - t.completed) ≡ index = omega arith in
    let low = first_below (past_value t) (drop t.completed t.values) (drop t.completed t.points) (t.bound - t.completed) (index - t.completed) (rises t k) (firsts t k) (omega arith) (omega arith) in
    let value : get_or (drop t.completed t.values) (index - t.completed) 0 ≡ value_at t index =
    get_or-drop t.completed t.values (index - t.completed) 0 ∙ ap (λ (n : ℕ). get_or t.values n 0) place in
    let now : pending_value u ≡ last_value (past_value t) (take (t.bound - t.completed) (zipped (drop t.completed t.values) (drop t.completed t.points))) =
    (λ i. last_value (tied.payload i) (take (tied.installed i) (tied.ops i))) in
    omega arith

-- a take
take_slots : (t : Timeline) (u : Live) (x : Given) → Tied t u → MayCome u (taking x) → ((p : ℕ) → IsPresent p t.waiting → ((slot_at (after u (taking x)).slots p).refs ≡ 1) × ((slot_at (after u (taking x)).slots p).out ≡ false)) × ((p : ℕ) → (slot_at (after u (taking x)).slots p).out ≡ true → (slot_at (after u (taking x)).slots p).refs ≡ 0)
take_slots t u x tied m = (waiting, clean)
  where
    at_next : (p : ℕ) → x.point ≡ p → (slot_at u.slots p).refs ≡ 0
    at_next p e =
        let next : next_point u ≡ p = sym (ap (λ (y : Given). y.point) m.1) ∙ e in
        subst (λ (n : ℕ). (slot_at u.slots n).refs ≡ 0) next (next_idle u tied.kept).0

    waiting : (p : ℕ) → IsPresent p t.waiting → ((slot_at (after u (taking x)).slots p).refs ≡ 1) × ((slot_at (after u (taking x)).slots p).out ≡ false)
    waiting p h =
        let old = tied.waits p h in
        let one = old.0 in
        let refs = event_refs u p (taking x) tied.kept m in
        let test = ne_eqb x.point p (λ e. let none = at_next p e in absurd (omega arith)) in (
          omega arith,
          event_out u p (taking x) tied.kept m
              ∙ ap (λ (b : Bool). if b then true else (slot_at u.slots p).out) test
              ∙ old.1,
        )

    clean : (p : ℕ) → (slot_at (after u (taking x)).slots p).out ≡ true → (slot_at (after u (taking x)).slots p).refs ≡ 0
    clean p h = by_test (x.point == p) refl (sym (event_out u p (taking x) tied.kept m) ∙ h)
      where
        by_test : (b : Bool) → (x.point == p) ≡ b → (if b then true else (slot_at u.slots p).out) ≡ true → (slot_at (after u (taking x)).slots p).refs ≡ 0
        by_test true e o =
            let refs = event_refs u p (taking x) tied.kept m in
            let none = at_next p (eqb-true x.point p e) in
            omega arith
        by_test false e o =
            let refs = event_refs u p (taking x) tied.kept m in let none = tied.clean p o in omega arith

may_take : (t : Timeline) (u : Live) (index : ℕ) → Tied t u → MayTake t index t.made → take_fault u (value_at t index) ≡ None
may_take t u index tied m =
    let k = tied.lists in let in_order = k.in_order in
    let b = unbound t index k m.without in
    let exists = m.exists in
    let size = length-drop t.completed t.values in
    let place : t.completed + (index - t.completed) ≡ index = omega arith in
    let value : get_or (drop t.completed t.values) (index - t.completed) 0 ≡ value_at t index =
    get_or-drop t.completed t.values (index - t.completed) 0 ∙ ap (λ (n : ℕ). get_or t.values n 0) place in
    let none : get_or (drop t.completed t.points) (index - t.completed) None ≡ None =
    get_or-drop t.completed t.points (index - t.completed) None ∙ ap (λ (n : ℕ). get_or t.points n None) place ∙ m.without in
    let new = value_new (past_value t) (drop t.completed t.values) (drop t.completed t.points) (index - t.completed) (rises t k) (omega arith) none in
    let other : list_any (λ x. x.value == value_at t index) u.ops ≡ false =
    (λ i. list_any (λ x. x.value == sym value i) (tied.ops i)) ∙ new in
    let v = value_at t index in
    ap (λ (r : Bool). if r then Some (take_as.NotAbove (pending_value u)) else (if list_any (λ x. x.value == v) u.ops then Some take_as.Twice else None)) (above_test v (pending_value u) (pending_below t u index tied b exists))
    ∙ ap (λ (r : Bool). if r then Some take_as.Twice else None) other

take_step : (t : Timeline) (u : Live) (index : ℕ) → Tied t u → MayTake t index t.made → IsRun u (events_of t (takes index)) × Tied (after_take t index t.made) (after_all u (events_of t (takes index)))
take_step t u index tied m = ((may, tt), by_free t.free refl)
  where
    v : ℕ
    v = value_at t index

    x : Given
    x = record { value = value_at t index; point = point_from t.free t.made }

    may : MayCome u (taking x)
    may = (may_take t u index tied m, λ i. record { value = value_at t index; point = point_from (sym tied.free i) (sym tied.made i) })

    slots : ((p : ℕ) → IsPresent p t.waiting → ((slot_at (after u (taking x)).slots p).refs ≡ 1) × ((slot_at (after u (taking x)).slots p).out ≡ false)) × ((p : ℕ) → (slot_at (after u (taking x)).slots p).out ≡ true → (slot_at (after u (taking x)).slots p).refs ≡ 0)
    slots = take_slots t u x tied may

    ops : (free : List ℕ) → t.free ≡ free → placed (given_to u v) u.ops ≡ zipped (drop t.completed t.values) (drop t.completed (set t.points index (Some (point_from free t.made))))
    ops free e =
        let k = tied.lists in let in_order = k.in_order in let one_each = k.one_each in
        let b = unbound t index k m.without in
        let exists = m.exists in
        let size = length-drop t.completed t.values in
        let count = length-drop t.completed t.points in
        let place : t.completed + (index - t.completed) ≡ index = omega arith in
        let value : get_or (drop t.completed t.values) (index - t.completed) 0 ≡ value_at t index =
        get_or-drop t.completed t.values (index - t.completed) 0 ∙ ap (λ (n : ℕ). get_or t.values n 0) place in
        let none : get_or (drop t.completed t.points) (index - t.completed) None ≡ None =
        get_or-drop t.completed t.points (index - t.completed) None ∙ ap (λ (n : ℕ). get_or t.points n None) place ∙ m.without in
        (λ i. placed (record { value = sym value i; point = point_from ((tied.free ∙ e) i) (tied.made i) }) (tied.ops i))
        ∙ put_in (past_value t) (drop t.completed t.values) (drop t.completed t.points) (index - t.completed) (point_from free t.made) (rises t k) (omega arith) (omega arith) none
        ∙ ap (zipped (drop t.completed t.values)) (sym (drop-set-add t.completed t.points (index - t.completed) (Some (point_from free t.made))) ∙ ap (λ (n : ℕ). drop t.completed (set t.points n (Some (point_from free t.made)))) place)

    by_free : (free : List ℕ) → t.free ≡ free → Tied (take_from t index t.made free) (after u (taking x))
    by_free [] e =
        let size : length (slots_from u.free u.slots) ≡ length (slots_from [] u.slots) = ap (λ (f : List ℕ). length (slots_from f u.slots)) (tied.free ∙ e) in
        let more = length-append u.slots ((record { refs = 0; out = true }) ∷ []) in
        let made = tied.made in
        record {
          lists = subst (λ (f : List ℕ). KeepsLists (take_from t index t.made f)) e (take_keeps t index t.made tied.lists m);
          kept = event_keeps u (taking x) tied.kept may;
          payload = tied.payload;
          free = ap (drop 1) (tied.free ∙ e) ∙ sym e;
          made = omega arith;
          installed = tied.installed;
          ops = ops [] e;
          waits = slots.0;
          clean = slots.1;
        }
    by_free (q ∷ rest) e =
        let size : length (slots_from u.free u.slots) ≡ length (slots_from (q ∷ rest) u.slots) = ap (λ (f : List ℕ). length (slots_from f u.slots)) (tied.free ∙ e) in
        let same = length-set u.slots q (record { refs = 0; out = true }) in
        let made = tied.made in
        record {
          lists = subst (λ (f : List ℕ). KeepsLists (take_from t index t.made f)) e (take_keeps t index t.made tied.lists m);
          kept = event_keeps u (taking x) tied.kept may;
          payload = tied.payload;
          free = ap (drop 1) (tied.free ∙ e);
          made = omega arith;
          installed = tied.installed;
          ops = ops (q ∷ rest) e;
          waits = slots.0;
          clean = slots.1;
        }

-- a bind
bind_step : (t : Timeline) (u : Live) (p : ℕ) → Tied t u → MayBind t t.bound p → IsRun u (events_of t (binds p)) × Tied (after_bind t) (after_all u (events_of t (binds p)))
bind_step t u p tied m = ((may, tt), after_it)
  where
    x : Given
    x = record { value = value_at t t.bound; point = p }

    there : t.bound < length t.values
    there = let some = exists t.points t.bound p m.taken in let one_each = tied.lists.one_each in omega arith

    next : slice_get u.ops u.installed ≡ Some x
    next =
        let in_order = tied.lists.in_order in
        let l = there in
        let size = length-drop t.completed t.values in
        let place : t.completed + (t.bound - t.completed) ≡ t.bound = omega arith in
        let value : get_or (drop t.completed t.values) (t.bound - t.completed) 0 ≡ value_at t t.bound =
        get_or-drop t.completed t.values (t.bound - t.completed) 0 ∙ ap (λ (n : ℕ). get_or t.values n 0) place in
        let point : get_or (drop t.completed t.points) (t.bound - t.completed) None ≡ Some p =
        get_or-drop t.completed t.points (t.bound - t.completed) None ∙ ap (λ (n : ℕ). get_or t.points n None) place ∙ m.taken in
        (λ i. slice_get (tied.ops i) (tied.installed i))
        ∙ next_at (drop t.completed t.values) (drop t.completed t.points) (t.bound - t.completed) p (firsts t tied.lists) (omega arith) point
        ∙ ap (λ (n : ℕ). Some (record { value = n; point = p })) value

    may : MayCome u (installing x)
    may =
        ap (λ (r : Bool). if r then Some install_as.Already else next_fault (slice_get u.ops u.installed) x) (above_test x.value (pending_value u) (pending_below t u t.bound tied (omega arith) there))
        ∙ ap (λ (o : Option Given). next_fault o x) next
        ∙ ap (λ (r : Bool). if r then None else Some (install_as.NotNext x)) (given_same x)

    after_it : Tied (after_bind t) (after u (installing x))
    after_it =
        let in_order = tied.lists.in_order in
        let installed = tied.installed in
        record {
          lists = bind_keeps t t.bound p tied.lists m (eq-eqb t.bound t.bound refl);
          kept = event_keeps u (installing x) tied.kept may;
          payload = tied.payload;
          free = tied.free;
          made = tied.made;
          installed = omega arith;
          ops = tied.ops;
          waits = tied.waits;
          clean = tied.clean;
        }

-- a completion
present_last : (p q : ℕ) (xs : List ℕ) → IsPresent q (xs ++ p ∷ []) → (p == q) ≡ false → IsPresent q xs
present_last p q xs h e = by_test (list_any (λ y. y == q) xs) refl
  where
    by_test : (b : Bool) → list_any (λ y. y == q) xs ≡ b → list_any (λ y. y == q) xs ≡ true
    by_test true r = r
    by_test false r =
        let both : false ≡ true = sym ((λ i. r i || (e i || false))) ∙ sym (list_any-append (λ y. y == q) xs (p ∷ [])) ∙ h in absurd (cc)

module _ (t : Timeline) (u : Live) (x : Entry) (tied : Tied t u) (l : t.completed < t.bound) (least : IsLeast t x) where
  abbrev v : ℕ
  v = value_at t t.completed

  abbrev g : Given
  g = given_of t.values x

  abbrev rest : List Given
  rest = zipped (drop (t.completed + 1) t.values) (drop (t.completed + 1) t.points)

  abbrev y : Given
  y = record { value = value_at t t.completed; point = x.point }

  ops_are : u.ops ≡ y ∷ rest
  ops_are =
      let within = tied.lists.within in let one_each = tied.lists.one_each in
      tied.ops
      ∙ (λ i. zipped (drop_more t.values t.completed 0 (omega arith) i) (drop_more t.points t.completed None (omega arith) i))
      ∙ ap (λ (o : Option ℕ). zipped (value_at t t.completed ∷ drop (t.completed + 1) t.values) (o ∷ drop (t.completed + 1) t.points)) least.point

  is_given : y ≡ g
  is_given = λ i. record { value = value_at t (sym least.index i); point = x.point }

  is_out : (slot_at u.slots x.point).out ≡ true
  is_out = (subst (AreOut u.slots) ops_are tied.kept.out).1.0

  may_refer : MayCome u (referring x.point)
  may_refer =
      ap (λ (b : Bool). if b then (if nat_eq (slot_at u.slots x.point).refs 4294967295 then Err refer_as.Full else Ok (record { point = x.point })) else Err refer_as.NotOut) is_out
      ∙ ap (λ (n : ℕ). if nat_eq n 4294967295 then Err refer_as.Full else Ok (record { point = x.point })) (tied.clean x.point is_out)

  abbrev w : Live
  w = after u (referring x.point)

  kept_w : KeepsLive w
  kept_w = event_keeps u (referring x.point) tied.kept may_refer

  may_complete : MayCome w (completing g)
  may_complete =
      let installed = tied.installed in
      let more : u.installed ≡ suc (u.installed - 1) = omega arith in
      (λ i. first_of (take (more i) (ops_are i))) ∙ ap (λ (z : Given). Some z) is_given

  gives : after w (completing g) ≡ live_complete_from w (Some g)
  gives = ap (live_complete_from w) may_complete

  refs_after : (q : ℕ) → (slot_at (after w (completing g)).slots q).refs ≡ (slot_at u.slots q).refs + one_if (x.point == q)
  refs_after q =
      let first = event_refs u q (referring x.point) tied.kept may_refer in
      let second = event_refs w q (completing g) kept_w may_complete in
      omega arith

  out_after : (q : ℕ) → (slot_at (after w (completing g)).slots q).out ≡ (if x.point == q then false else (slot_at u.slots q).out)
  out_after q =
      event_out w q (completing g) kept_w may_complete
      ∙ ap (λ (b : Bool). if x.point == q then false else b) (event_out u q (referring x.point) tied.kept may_refer)

  complete_tied : Tied (complete_from t (Some x)) (after w (completing g))
  complete_tied =
      let within = tied.lists.within in
      let installed = tied.installed in
      let installed_now = ap (λ (z : Live). z.installed) gives in
      let slots_now = ap (λ (z : Live). length z.slots) gives in
      let size = length-set w.slots x.point (done_slot w x.point) in
      let size_w = length-set u.slots x.point (record { refs = (slot_at u.slots x.point).refs + 1; out = true }) in
      let made = tied.made in
      record {
        lists = subst (λ (o : Option Entry). KeepsLists (complete_from t o)) least.first (complete_keeps t tied.lists);
        kept = event_keeps w (completing g) kept_w may_complete;
        payload = ap (λ (z : Live). z.payload) gives ∙ ap (λ (n : ℕ). value_at t n) least.index ∙ next_past;
        free = ap (λ (z : Live). z.free) gives ∙ ap (λ (b : Bool). if b then x.point ∷ u.free else u.free) busy ∙ tied.free;
        made = omega arith;
        installed = omega arith;
        ops = ap (λ (z : Live). z.ops) gives ∙ ap (drop 1) ops_are;
        waits = waiting;
        clean = clean;
      }
    where
      next_past : value_at t t.completed ≡ past_value (complete_from t (Some x))
      next_past = ap (λ (n : ℕ). get_or (t.initial ∷ t.values) n 0) (one_more t.completed)
        where
          one_more : (n : ℕ) → suc n ≡ n + 1
          one_more n = omega arith

      busy : is_idle (done_slot w x.point) ≡ false
      busy =
          let refs = event_refs u x.point (referring x.point) tied.kept may_refer in
          let one : one_if (x.point == x.point) ≡ 1 = ap one_if (eq-eqb x.point x.point refl) in
          ap (λ (b : Bool). b && true) (ne_eqb (slot_at w.slots x.point).refs 0 (λ e. absurd (omega arith)))

      waiting : (q : ℕ) → IsPresent q (t.waiting ++ x.point ∷ []) → ((slot_at (after w (completing g)).slots q).refs ≡ 1) × ((slot_at (after w (completing g)).slots q).out ≡ false)
      waiting q h = by_test (x.point == q) refl
        where
          by_test : (b : Bool) → (x.point == q) ≡ b → ((slot_at (after w (completing g)).slots q).refs ≡ 1) × ((slot_at (after w (completing g)).slots q).out ≡ false)
          by_test true e =
              let none = subst (λ (n : ℕ). (slot_at u.slots n).refs ≡ 0) (eqb-true x.point q e) (tied.clean x.point is_out) in
              let one : one_if (x.point == q) ≡ 1 = ap one_if e in
              let refs = refs_after q in
              (omega arith, out_after q ∙ ap (λ (b : Bool). if b then false else (slot_at u.slots q).out) e)
          by_test false e =
              let old = tied.waits q (present_last x.point q t.waiting h e) in
              let one = old.0 in
              let none : one_if (x.point == q) ≡ 0 = ap one_if e in
              let refs = refs_after q in
              (omega arith, out_after q ∙ ap (λ (b : Bool). if b then false else (slot_at u.slots q).out) e ∙ old.1)

      clean : (q : ℕ) → (slot_at (after w (completing g)).slots q).out ≡ true → (slot_at (after w (completing g)).slots q).refs ≡ 0
      clean q h = by_test (x.point == q) refl (sym (out_after q) ∙ h)
        where
          by_test : (b : Bool) → (x.point == q) ≡ b → (if b then false else (slot_at u.slots q).out) ≡ true → (slot_at (after w (completing g)).slots q).refs ≡ 0
          by_test true e o = absurd (cc)
          by_test false e o =
              let none = tied.clean q o in
              let zero_one : one_if (x.point == q) ≡ 0 = ap one_if e in
              let refs = refs_after q in
              omega arith

complete_step : (t : Timeline) (u : Live) → Tied t u → t.completed < t.bound → IsRun u (events_of t completes) × Tied (after_complete t) (after_all u (events_of t completes))
complete_step t u tied l =
    let least = least_pending t tied.lists l in
    subst (λ (o : Option Entry). IsRun u (completing_of t.values o) × Tied (complete_from t o) (after_all u (completing_of t.values o))) (sym least.1.first) (
      (may_refer t u least.0 tied l least.1, (may_complete t u least.0 tied l least.1, tt)),
      complete_tied t u least.0 tied l least.1,
    )

-- a freeing
present_kept : (p q : ℕ) (xs : List ℕ) → IsPresent q (filter (λ y. not (y == p)) xs) → IsPresent q xs × ((p == q) ≡ false)
present_kept p q [] h = absurd (cc)
present_kept p q (x ∷ xs) h = by_test (x == p) refl h (present_kept p q xs)
  where
    keep : IsPresent q xs × ((p == q) ≡ false) → IsPresent q (x ∷ xs) × ((p == q) ≡ false)
    keep r = (ap (λ (b : Bool). (x == q) || b) r.0 ∙ either_way (x == q), r.1)
      where
        either_way : (b : Bool) → (b || true) ≡ true
        either_way true = refl
        either_way false = refl

    by_same : (b : Bool) → (x == q) ≡ b → (x == p) ≡ false → (b || list_any (λ y. y == q) (filter (λ y. not (y == p)) xs)) ≡ true → (IsPresent q (filter (λ y. not (y == p)) xs) → IsPresent q xs × ((p == q) ≡ false)) → IsPresent q (x ∷ xs) × ((p == q) ≡ false)
    by_same true e n r rest = (
      ap (λ (b : Bool). b || list_any (λ y. y == q) xs) e,
      ne_eqb p q (λ d. let both = eq-eqb x p (eqb-true x q e ∙ sym d) in absurd (cc)),
    )
    by_same false e n r rest = keep (rest r)

    by_test : (b : Bool) → (x == p) ≡ b → list_any (λ y. y == q) (if not b then x ∷ filter (λ y. not (y == p)) xs else filter (λ y. not (y == p)) xs) ≡ true → (IsPresent q (filter (λ y. not (y == p)) xs) → IsPresent q xs × ((p == q) ≡ false)) → IsPresent q (x ∷ xs) × ((p == q) ≡ false)
    by_test true e r rest = keep (rest r)
    by_test false e r rest = by_same (x == q) refl e r rest

free_step : (t : Timeline) (u : Live) (p : ℕ) → Tied t u → MayFree t p → IsRun u (events_of t (frees p)) × Tied (after_free t p) (after_all u (events_of t (frees p)))
free_step t u p tied m = ((may, tt), after_it)
  where
    may : 0 < (slot_at u.slots p).refs
    may = let one = (tied.waits p m).0 in omega arith

    idle : is_idle (record { refs = (slot_at u.slots p).refs - 1; out = (slot_at u.slots p).out }) ≡ true
    idle = λ i. is_idle (record { refs = (tied.waits p m).0 i - 1; out = (tied.waits p m).1 i })

    waiting : (q : ℕ) → IsPresent q (filter (λ y. not (y == p)) t.waiting) → ((slot_at (after u (returning p)).slots q).refs ≡ 1) × ((slot_at (after u (returning p)).slots q).out ≡ false)
    waiting q h =
        let kept = present_kept p q t.waiting h in
        let old = tied.waits q kept.0 in
        let one = old.0 in
        let none : one_if (p == q) ≡ 0 = ap one_if kept.1 in
        let refs = event_refs u q (returning p) tied.kept may in
        (omega arith, event_out u q (returning p) tied.kept may ∙ old.1)

    clean : (q : ℕ) → (slot_at (after u (returning p)).slots q).out ≡ true → (slot_at (after u (returning p)).slots q).refs ≡ 0
    clean q h =
        let none = tied.clean q (sym (event_out u q (returning p) tied.kept may) ∙ h) in
        let refs = event_refs u q (returning p) tied.kept may in
        omega arith

    after_it : Tied (after_free t p) (after u (returning p))
    after_it =
        let size = length-set u.slots p (record { refs = (slot_at u.slots p).refs - 1; out = (slot_at u.slots p).out }) in
        let made = tied.made in
        record {
          lists = free_keeps t p tied.lists m;
          kept = event_keeps u (returning p) tied.kept may;
          payload = tied.payload;
          free = ap (λ (b : Bool). if b then p ∷ u.free else u.free) idle ∙ ap (λ (f : List ℕ). p ∷ f) tied.free;
          made = omega arith;
          installed = tied.installed;
          ops = tied.ops;
          waits = waiting;
          clean = clean;
        }

-- each call, and a list of them
step : (t : Timeline) (u : Live) (call : Call) → Tied t u → MayCall t call → IsRun u (events_of t call) × Tied (after_call t call) (after_all u (events_of t call))
step t u (takes index) tied m = take_step t u index tied m
step t u (binds p) tied m = bind_step t u p tied m
step t u completes tied m = complete_step t u tied m
step t u (frees p) tied m = free_step t u p tied m

run_append : (u : Live) (es fs : List Event) → IsRun u es → IsRun (after_all u es) fs → IsRun u (es ++ fs)
run_append u [] fs r s = s
run_append u (e ∷ es) fs r s = (r.0, run_append (after u e) es fs r.1 s)

after_append : (u : Live) (es fs : List Event) → after_all (after_all u es) fs ≡ after_all u (es ++ fs)
after_append u [] fs = refl
after_append u (e ∷ es) fs = after_append (after u e) es fs

all_steps : (t : Timeline) (u : Live) (calls : List Call) → Tied t u → AreCalls t calls → IsRun u (fed t calls) × Tied (after_calls t calls) (after_all u (fed t calls))
all_steps t u [] tied m = (tt, tied)
all_steps t u (call ∷ calls) tied m =
    let first = step t u call tied m.0 in
    let rest = all_steps (after_call t call) (after_all u (events_of t call)) calls first.1 m.1 in (
      run_append u (events_of t call) (fed (after_call t call) calls) first.0 rest.0,
      subst (Tied (after_calls (after_call t call) calls)) (after_append u (events_of t call) (fed (after_call t call) calls)) rest.1,
    )

opened_tied : (initial : ℕ) (values : List ℕ) → AreRisingFrom initial values → Tied (new_timeline initial values) (opened initial)
opened_tied initial values h = record {
  lists = new_keeps initial values h;
  kept = opened_keeps initial;
  payload = refl;
  free = refl;
  made = refl;
  installed = refl;
  ops = sym (none values);
  waits = λ p w. absurd (cc);
  clean = λ p o. absurd (cc);
}
  where
    none : (vs : List ℕ) → zipped vs (replicate (length vs) None) ≡ []
    none [] = refl
    none (v ∷ vs) = none vs

pub follows_run : (initial : ℕ) (values : List ℕ) (calls : List Call) → AreRisingFrom initial values → AreCalls (new_timeline initial values) calls → IsRun (opened initial) (fed (new_timeline initial values) calls)
follows_run initial values calls h m = (all_steps (new_timeline initial values) (opened initial) calls (opened_tied initial values h) m).0

pub follows_shows : (initial : ℕ) (values : List ℕ) (calls : List Call) → AreRisingFrom initial values → AreCalls (new_timeline initial values) calls → Shows (after_calls (new_timeline initial values) calls) (after_all (opened initial) (fed (new_timeline initial values) calls))
follows_shows initial values calls h m =
    shows (after_calls (new_timeline initial values) calls) (after_all (opened initial) (fed (new_timeline initial values) calls))
    (all_steps (new_timeline initial values) (opened initial) calls (opened_tied initial values h) m).1

-- The making of a point keeps the rule.
use Rattle.std.proofs.Common.{◌≡◌, ◌≢◌, ℕ, suc, Bool, ◌+◌, ◌%◌, ◌^◌, ◌<◌, ◌≤◌, true, false, List, length, set, refl, ap, sym, ◌∙◌, subst, arith, ⊎_elim, length-set}
use mathlib.Core.Option.{some, none}
use mathlib.Core.Logic.{dite}
use native.Mathlib.Decide.{ℕ_discrete}
use lib.ListN.{get_elem?}
use Rattle.atomic_table.specs.Table.{step, keeps, Allows}
use Rattle.atomic_table.proofs.Lists.{at_set}
use Rattle.vq_model.specs.Plan.{Plan}
use Rattle.vq_ground.specs.Lists.{has}
use Rattle.vq_ground.proofs.Lists.{has_there, has_cases}
use Rattle.vq_board_laws.specs.declared.view.View.{View}
use Rattle.vq_board_laws.specs.Roles.{share_of, role_count}
use Rattle.vq_board_laws.specs.Words.{Words, words_of, count_word, made_of, log_of, shown}
use Rattle.vq_board_laws.specs.Ownership.{Ownership}
use Rattle.vq_board_laws.specs.Points.{Points, OwnShelf}
use Rattle.vq_board_laws.specs.PointSteps.{makes, made_point}
use Rattle.vq_board_laws.specs.MayPoints.{MayMake}
use Rattle.vq_board_laws.specs.Rule.{Rule, Kept}
use Rattle.vq_board_laws.specs.Steps.{Mine}
use Rattle.vq_board_laws.proofs.Columns.{count_set}
use Rattle.vq_board_laws.proofs.Frames.{facts_stay, so_unread, knowledge_stays, jobs_stay, log_stays, references_stay, still_given, Owners}
use Rattle.vq_board_laws.proofs.Runs.{reached_stays}
use Rattle.vq_board_laws.proofs.Shares.{points_below}
use Rattle.vq_board_laws.proofs.Views.{each_pass, sum_moves, same_length}

module _ (p : Plan) (n : ℕ) (views : List View) (id : ℕ) (v : View) (k : Ownership p n views) (at : get_elem? views id ≡ some v) where
  abbrev w : View
  w = makes v n

  -- who owns a point that isn't new has owned it before
  was_owned : (i : ℕ) (z : View) (q : ℕ) → get_elem? (set views id w) i ≡ some z → has z.owned q ≡ true → q ≢ n → (u : View) × (get_elem? views i ≡ some u) × (has u.owned q ≡ true)
  was_owned i z q e mem ne = ⊎_elim
      (λ (t : (i ≡ id) × (w ≡ z)). (
        v,
        subst (λ (a : ℕ). get_elem? views a ≡ some v) (sym t.0) at,
        ⊎_elim (λ (h : n ≡ q). absurd (ne (sym h))) (λ h. h) (has_cases n v.owned q (subst (λ (xs : List ℕ). has xs q ≡ true) (ap (λ (y : View). y.owned) (sym t.1)) mem)),
      ))
      (λ (t : (i ≢ id) × (get_elem? views i ≡ some z)). (z, t.1, mem)) (at_set views id i w z e)

  -- the new point is owned by the pass that makes it
  new_owned : (i : ℕ) (z : View) (q : ℕ) → get_elem? (set views id w) i ≡ some z → has z.owned q ≡ true → q ≡ n → i ≡ id
  new_owned i z q e mem is = ⊎_elim
      (λ (t : (i ≡ id) × (w ≡ z)). t.0)
      (λ (t : (i ≢ id) × (get_elem? views i ≡ some z)). absurd (let b = k.owned i z t.1 q mem in omega arith)) (at_set views id i w z e)

  owners_make : Owners (set views id w)
  owners_make i a q z u e f mem other = dite (ℕ_discrete q n)
      (λ is. new_owned i z q e mem is ∙ sym (new_owned a u q f other is))
      (λ ne. let x = was_owned i z q e mem ne in let y = was_owned a u q f other ne in k.owners i a q x.0 y.0 x.1 y.1 x.2 y.2)

  ownership_makes : length v.owned < share_of p v.role → Ownership p (suc n) (set views id w)
  ownership_makes less = record {
    roles = each_pass (λ i z. z.role ≡ i) views id w (k.roles id v at) (λ i u _ e. k.roles i u e);
    given = still_given views id v w at refl k.given;
    within = subst (λ (a : ℕ). a ≤ role_count p) (sym (length-set views id w)) k.within;
    plans = each_pass (λ i z. z.plan ≡ p) views id w (k.plans id v at) (λ i u _ e. k.plans i u e);
    owners = owners_make;
    owned = each_pass (λ i z. (q : ℕ) → has z.owned q ≡ true → q < suc n) views id w
        (λ q mem. ⊎_elim (λ (h : n ≡ q). omega arith) (λ h. let b = k.owned id v at q h in omega arith) (has_cases n v.owned q mem))
        (λ i u _ e q mem. let b = k.owned i u e q mem in omega arith);
    shares = each_pass (λ i z. length z.owned ≤ share_of p z.role) views id w (omega arith) (λ i u _ e. k.shares i u e);
    counted = let f : View → ℕ = λ z. length z.owned in let moves = sum_moves f views id v w at in let c = k.counted in omega arith;
  }

  points_make : (op point : ℕ → ℕ) → Points p op point n views → Points p op point (suc n) (set views id w)
  points_make op point h =
      let own = h.shelves id v at in
      record {
        carried = h.carried;
        home = h.home;
        past_set = h.past_set;
        clear = h.clear;
        unmade = λ q l. h.unmade q (omega arith);
        words = h.words;
        shelves = each_pass (λ i z. OwnShelf p op point z.role z.owned z.carrying z.bound z.past) views id w
            record {
              free = λ q mem empty. ⊎_elim (λ (is : n ≡ q). h.unmade q (omega arith)) (λ m. own.free q m empty) (has_cases n v.owned q mem);
              taken = λ q e m. let t = own.taken q e m in (has_there n v.owned q t.0, t.1, t.2);
              complete = own.complete;
              single = own.single;
              bound_all = own.bound_all;
              bound_only = own.bound_only;
              past_all = own.past_all;
              past_only = own.past_only;
            }
            (λ i u _ e. h.shelves i u e);
        absent = λ role l. h.absent role (same_length views id role w l);
      }

-- what would be below itself isn't so
not_above : (n : ℕ) (b : Bool) → (b ≡ true → n < n) → b ≡ false
not_above n true below = absurd (let l = below refl in omega arith)
not_above n false below = refl

pub makes_point : (p : Plan) (slots id : ℕ) (m : Mine) → MayMake p m.0 → length p.ops < 2 ^ 32 → Allows (Kept p) slots id m count_word (λ n. (n + 1) % 2 ^ 64) (made_point (step slots count_word 1 0 none) m)
makes_point p slots id m less small s k deep at fits =
    let d : Words = words_of s.words in
    let n : ℕ = d.count in
    let r = k.rule in
    let v : View = m.0 in
    let after : View = makes v n in
    let room : n < length p.ops = points_below p n s.views r.ownership id v at less in
    let no_wrap : suc n ≡ (n + 1) % 2 ^ 64 = omega arith in
    let plan : v.plan ≡ p = r.ownership.plans id v at in (
      after,
      keeps,
      tt,
      subst (λ (x : ℕ). Kept p record { words = set s.words count_word x; homes = s.homes; views = set s.views id after }) no_wrap record {
        plan = k.plan;
        lawful = k.lawful;
        count = length-set s.words count_word (suc n) ∙ k.count;
        rule = subst (λ (z : Words). Rule p z s.homes (set s.views id after)) (sym (count_set s.words (suc n) (let c = k.count in omega arith))) record {
          knowledge = knowledge_stays d (record d { count = suc n }) s.views id after (so_unread d d.place d.turn (suc n)) r.knowledge (facts_stay d (record d { count = suc n }) v.known (so_unread d d.place d.turn (suc n)) (r.knowledge id v at));
          run = reached_stays p (shown p d) d.job d.job s.views id v after r.run at refl (λ told o. o);
          jobs = jobs_stay p d.job (made_of d) (log_of p d) s.views id v after r.jobs at refl;
          log = log_stays p d.job d.place d.turn (log_of p d) s.homes s.views id v after r.log at refl;
          ownership = ownership_makes p n s.views id v r.ownership at less;
          points = points_make p n s.views id v r.ownership at d.op d.point r.points;
          references = references_stay d.point s.views id v after r.references at refl;
        };
      },
      (refl, subst (λ (z : Plan). n < length z.ops) (sym plan) room, not_above n (has v.owned n) (r.ownership.owned id v at n)),
    )

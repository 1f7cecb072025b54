-- The opening keeps the rule, and so does a split of the first pass.
use Rattle.std.proofs.Common.{◌≡◌, ◌≢◌, ℕ, ◌+◌, ◌*◌, ◌<◌, ◌≤◌, Bool, true, false, List, [], ◌∷◌, ◌++◌, length, map, set, get_or, refl, ap, sym, ◌∙◌, subst, arith, ⊎_elim, inr, length-set, length-append, None}
use mathlib.Core.Option.{some, some-injective}
use lib.ListN.{get_elem?}
use Rattle.std.proofs.lemmas.Bool.{le-ltb, false≢true}
use Rattle.std.proofs.lemmas.List.Sums.{sum_by-cons}
use Rattle.vq_ground.proofs.Elements.{at_end, at_one}
use Rattle.atomic_table.specs.Table.{opening, Splits}
use Rattle.atomic_table.proofs.Lists.{set_here, at_longer}
use Rattle.vq_model.specs.Checks.{IsLawful}
use Rattle.vq_model.specs.LoweredPlans.{IsPlan}
use Rattle.vq_model.specs.Machine.{opening_state, state_after}
use Rattle.vq_model.specs.Plan.{Plan, value, initial, chain}
use Rattle.vq_ground.specs.Lists.{has}
use Rattle.vq_model.specs.SlowRun.{zeros, greatest, bytes_after}
use Rattle.vq_ground.proofs.Filters.{filter_empty}
use Rattle.vq_point_laws.specs.PointWord.{parts}
use Rattle.vq_board_laws.specs.declared.view.View.{View}
use Rattle.vq_board_laws.specs.declared.view.LoggedBuffers.{LoggedBuffers}
use Rattle.vq_board_laws.specs.Roles.{role_count, share_of}
use Rattle.vq_board_laws.specs.Words.{Words, words_of, word_count, Carries, made_of, log_of, payload_of, shown}
use Rattle.vq_board_laws.specs.Knowledge.{AreSo, Each}
use Rattle.vq_board_laws.specs.Jobs.{OwnsNoJobs}
use Rattle.vq_board_laws.specs.Log.{Holding}
use Rattle.vq_board_laws.specs.Points.{OwnShelf, Lists, reference}
use Rattle.vq_board_laws.specs.References.{refs_to}
use Rattle.vq_board_laws.specs.Reached.{IsReached, SinceStart, InOrder, answer_told}
use Rattle.vq_board_laws.specs.Rule.{Kept, fresh}
use Rattle.vq_board_laws.proofs.Frames.{Owners, owners_stay, job_fields, OwnsJobFields}
use Rattle.vq_board_laws.proofs.JobParts.{runs_none}
use Rattle.vq_board_laws.proofs.Logs.{nothing_filled}
use Rattle.vq_board_laws.proofs.MadeWords.{unbound_value}
use Rattle.vq_board_laws.proofs.PointBits.{no_word}
use Rattle.vq_board_laws.proofs.Since.{since_nothing}
use Rattle.vq_board_laws.proofs.Views.{at_inside, each_pass, sum_moves, sum_more}

-- Where nothing has happened

idle_jobs : (p : Plan) (job : ℕ → ℕ) (made : ℕ → Bool) (log : List ℕ) (role : ℕ) → ((j : ℕ) → job j ≡ 0) → OwnsNoJobs p job made log role
idle_jobs p job made log role zeros = (
  runs_none p job made log role [] 0 0 (λ j l h. absurd (let z = zeros j in omega arith)),
  record { submitted_all = λ h j b g. absurd (let z = zeros j in omega arith); released_all = λ j b l g. absurd (let z = zeros j in omega arith) },
)

idle_holding : (p : Plan) (turn : ℕ) (log : List ℕ) → Holding p turn log None None []
idle_holding p turn log = record { counted = λ n e. absurd cc; folded = λ n e. absurd cc; job = λ n e. absurd cc; own = λ j e h. absurd cc }

untold : (p : Plan) (job : ℕ → ℕ) → ((j : ℕ) → job j ≡ 0) → InOrder p job []
untold p job zeros = record { falling = tt; asks = λ j h. absurd (false≢true h); begun = λ j h. absurd (false≢true h); finished = λ j h. absurd (let z = zeros j in omega arith) }

idle_shelf : (p : Plan) (op point : ℕ → ℕ) (role : ℕ) → ((e : ℕ) → op e ≡ 0) → ((q : ℕ) → point q ≡ 0) → OwnShelf p op point role [] [] [] []
idle_shelf p op point role ops points = record {
  free = λ q m. absurd (false≢true m);
  taken = λ q e h. absurd h;
  complete = λ q e l c. absurd (no_word (point q) e (points q) c);
  single = λ q r e h. absurd h;
  bound_all = λ e l h. absurd (h (ops e));
  bound_only = λ e m. absurd (false≢true m);
  past_all = λ e l h. absurd (let z = ops e in omega arith);
  past_only = λ e m. absurd (false≢true m);
}

none_paid : (p : Plan) (made : ℕ → Bool) → ((e : ℕ) → made e ≡ false) → payload_of p made ≡ initial p
none_paid p made h = λ i t. ap (λ (es : List ℕ). greatest (initial p t) (map (value p) es)) (filter_empty made (chain p t) (λ e _. h e)) i

-- The opening

pub opens : (p : Plan) (ws : List ℕ) (x : LoggedBuffers) → IsPlan p → IsLawful p → length ws ≡ word_count p → ((i : ℕ) → get_or ws i 0 ≡ 0) → x.filled ≡ 0 → x.buffers ≡ zeros p → Kept p (opening ws (x ∷ []) (fresh p 0))
opens p ws x plan lawful count nothing none_yet bytes =
    let d : Words = words_of ws in
    let v : View = fresh p 0 in
    let jobs : (j : ℕ) → d.job j ≡ 0 = λ j. nothing (4 * j + 2) in
    let ops : (e : ℕ) → d.op e ≡ 0 = λ e. nothing (4 * e + 3) in
    let points : (q : ℕ) → d.point q ≡ 0 = λ q. nothing (4 * q + 4) in
    let log : log_of p d ≡ [] = nothing_filled d.place (length p.commands) (λ i. nothing (4 * i + 5)) in
    let made : (e : ℕ) → made_of d e ≡ false = λ e. unbound_value d.op d.point e (ops e) in
    let each : (Q : ℕ → View → Type 0) → Q 0 v → Each Q (v ∷ []) = λ Q h i u e. let t = at_one v u i e in subst (λ (z : ℕ × View). Q z.0 z.1) (λ k. (sym t.0 k, t.1 k)) h in
    record {
      plan = plan;
      lawful = lawful;
      count = count;
      rule = record {
        knowledge = each (λ i u. AreSo d u.known) tt;
        run = record {
          steps = [];
          run = tt;
          answers = each (λ i u. i ≡ 0 → (j : ℕ) → None ≡ answer_told u.told j) (λ h j. refl);
          since = each (λ i u. SinceStart p (opening_state p) u.runs u.unmade) (since_nothing p (opening_state p) []);
          told = each (λ i u. i ≡ 0 → InOrder p d.job u.told) (λ h. untold p d.job jobs);
          leads = λ i. record {
            payload = sym (none_paid p (made_of d) made) i;
            started = λ j. sym (le-ltb 2 (d.job j) (let z = jobs j in omega arith)) i;
            finished = λ j. sym (le-ltb 3 (d.job j) (let z = jobs j in omega arith)) i;
            made = λ e. sym (made e) i;
            applied = sym log i;
          };
        };
        jobs = record {
          own = each (λ i u. OwnsJobFields p d.job (made_of d) (log_of p d) (job_fields u)) (idle_jobs p d.job (made_of d) (log_of p d) 0 jobs);
          absent = λ role h. idle_jobs p d.job (made_of d) (log_of p d) role jobs;
          waited = λ i j b h. absurd (let z = jobs j in omega arith);
          lane = λ i j h g l b. absurd (let z = jobs j in omega arith);
          ranged = λ j. let z = jobs j in omega arith;
          applied_begun = λ c h. absurd (false≢true (ap (λ (l : List ℕ). has l c) (sym log) ∙ h));
          made_begun = λ e j h. absurd (false≢true (sym (made e) ∙ h));
          reached = λ j h. absurd (let z = jobs j in omega arith);
        };
        log = record {
          later = λ i h. nothing (4 * i + 5);
          free = λ h. record { value = x; home = refl; filled = none_yet ∙ sym (ap length log); bytes = bytes ∙ ap (bytes_after p) (sym log) };
          taken = λ j h. absurd (let z = nothing 0 in omega arith);
          holding = each (λ i u. Holding p d.turn (log_of p d) u.runs u.held u.bytes) (idle_holding p d.turn (log_of p d));
        };
        ownership = record {
          roles = each (λ i u. u.role ≡ i) refl;
          given = λ u e. ap (λ (z : View). z.given + 1) (sym (at_one v u 0 e).1);
          within = omega arith;
          plans = each (λ i u. u.plan ≡ p) refl;
          owners = λ i k q u w e f m n. (at_one v u i e).0 ∙ sym (at_one v w k f).0;
          owned = each (λ i u. (q : ℕ) → has u.owned q ≡ true → q < d.count) (λ q m. absurd (false≢true m));
          shares = each (λ i u. length u.owned ≤ share_of p u.role) (omega arith);
          counted = nothing 1 ∙ sym (sum_by-cons (λ (u : View). length u.owned) v []);
        };
        points = record {
          carried = λ e q h. absurd (let z = ops e in omega arith);
          home = λ q e c. absurd (no_word (d.point q) e (points q) c);
          past_set = λ q e c. absurd (no_word (d.point q) e (points q) c);
          clear = λ q e c. absurd (no_word (d.point q) e (points q) c);
          unmade = λ q h. points q;
          words = λ q. let z = points q in (omega arith, inr z);
          shelves = each (λ i u. OwnShelf p d.op d.point u.role u.owned u.carrying u.bound u.past) (idle_shelf p d.op d.point 0 ops points);
          absent = λ role h. idle_shelf p d.op d.point role ops points;
        };
        references = record {
          carried = each (λ i u. (q e : ℕ) → Lists u.refs (reference q e) → Carries (d.point q) e) (λ q e m. absurd m);
          few = each (λ i u. length u.refs ≤ 16) (omega arith);
          counts = λ q. ap (λ n. (parts n).refs) (points q) ∙ sym (sum_by-cons (refs_to q) v []);
        };
      };
    }

-- Splits: a new pass stands at the end of the list

each_more : (Q : ℕ → View → Type 0) (views : List View) (id : ℕ) (v w : View) → Q id v → ((i : ℕ) (u : View) → i ≢ id → get_elem? views i ≡ some u → Q i u) → Q (length views) w → Each Q (set views id v ++ w ∷ [])
each_more Q views id v w mine others new i u e = ⊎_elim (λ t. each_pass Q views id v mine others i u t)
    (λ (t : (i ≡ length (set views id v)) × (w ≡ u)). subst (λ (x : ℕ × View). Q x.0 x.1) (λ k. (sym (t.0 ∙ length-set views id v) k, t.1 k)) new) (at_end (set views id v) w u i e)

more_given : (views : List View) (id : ℕ) (v left right : View) → id ≡ 0 → get_elem? views id ≡ some v → v.given + 1 ≡ length views → left.given ≡ v.given + 1
    → (u : View) → get_elem? (set views id left ++ right ∷ []) 0 ≡ some u → u.given + 1 ≡ length (set views id left ++ right ∷ [])
more_given views id v left right first at count more u e =
    let here : get_elem? (set views id left) 0 ≡ some left = subst (λ (i : ℕ). get_elem? (set views id left) i ≡ some left) first (set_here views id left (at_inside views id v at)) in
    let same : left ≡ u = some-injective left u (sym (at_longer (set views id left) (right ∷ []) 0 left here) ∙ e) in
    let given : u.given ≡ left.given = ap (λ (x : View). x.given) (sym same) in
    omega (arith, length-append (set views id left) (right ∷ []), length-set views id left)

-- two passes with one point are one, where a pass with no point comes last
owners_more : (views : List View) (id : ℕ) (v left right : View) → get_elem? views id ≡ some v → left.owned ≡ v.owned → right.owned ≡ [] → Owners views → Owners (set views id left ++ right ∷ [])
owners_more views id v left right at same none_owned h i k q z u e f m n =
    let stay = owners_stay views id v left at same h in
    let old : (i : ℕ) (y : View) → get_elem? (set views id left ++ right ∷ []) i ≡ some y → has y.owned q ≡ true → get_elem? (set views id left) i ≡ some y =
    λ i y g has_q. ⊎_elim (λ a. a) (λ (b : (i ≡ length (set views id left)) × (right ≡ y)). absurd (false≢true (sym (ap (λ (xs : List ℕ). has xs q) (ap (λ (y : View). y.owned) (sym b.1) ∙ none_owned)) ∙ has_q))) (at_end (set views id left) right y i g) in
    stay i k q z u (old i z e m) (old k u f n) m n

reached_more : (p : Plan) (d : Words) (views : List View) (id : ℕ) (v : View) → IsReached p (shown p d) d.job views → get_elem? views id ≡ some v → 0 < length views
    → IsReached p (shown p d) d.job (set views id record v { given = v.given + 1 } ++ fresh v.plan (v.given + 1) ∷ [])
reached_more p d views id v r at some_pass = record {
  steps = r.steps;
  run = r.run;
  leads = r.leads;
  answers = each_more (λ i z. i ≡ 0 → (j : ℕ) → (state_after p r.steps).answer j ≡ answer_told z.told j) views id record v { given = v.given + 1 } (fresh v.plan (v.given + 1)) (r.answers id v at) (λ i u _ e. r.answers i u e) (λ h. absurd (omega arith));
  since = each_more (λ i z. SinceStart p (state_after p r.steps) z.runs z.unmade) views id record v { given = v.given + 1 } (fresh v.plan (v.given + 1)) (r.since id v at) (λ i u _ e. r.since i u e) (since_nothing p (state_after p r.steps) []);
  told = each_more (λ i z. i ≡ 0 → InOrder p d.job z.told) views id record v { given = v.given + 1 } (fresh v.plan (v.given + 1)) (r.told id v at) (λ i u _ e. r.told i u e) (λ h. absurd (omega arith));
}

pub deals : (p : Plan) (id : ℕ) (v : View) → v.role ≡ 0 → v.given + 1 < role_count v.plan → Splits (Kept p) id v (record v { given = v.given + 1 }) (fresh v.plan (v.given + 1))
deals p id v host some_left s k at =
    let r = k.rule in
    let d : Words = words_of s.words in
    let zero_th : id ≡ 0 = sym (r.ownership.roles id v at) ∙ host in
    let count : v.given + 1 ≡ length s.views = r.ownership.given v (subst (λ (i : ℕ). get_elem? s.views i ≡ some v) zero_th at) in
    let left : View = record v { given = v.given + 1 } in
    let right : View = fresh v.plan (v.given + 1) in
    let roles : role_count v.plan ≡ role_count p = ap role_count (r.ownership.plans id v at) in
    let total = length-append (set s.views id left) (right ∷ []) in
    let same_length = length-set s.views id left in record {
      plan = k.plan;
      lawful = k.lawful;
      count = k.count;
      rule = record {
        knowledge = each_more (λ i z. AreSo d z.known) s.views id left right (r.knowledge id v at) (λ i z _ e. r.knowledge i z e) tt;
        run = reached_more p d s.views id v r.run at (omega arith);
        jobs = record {
          own = each_more (λ i z. OwnsJobFields p d.job (made_of d) (log_of p d) (job_fields z)) s.views id left right (r.jobs.own id v at) (λ i z _ e. r.jobs.own i z e) (r.jobs.absent (v.given + 1) (omega arith));
          absent = λ role h. r.jobs.absent role (omega arith);
          waited = r.jobs.waited;
          lane = r.jobs.lane;
          ranged = r.jobs.ranged;
          applied_begun = r.jobs.applied_begun;
          made_begun = r.jobs.made_begun;
          reached = r.jobs.reached;
        };
        log = record {
          later = r.log.later;
          free = r.log.free;
          taken = r.log.taken;
          holding = each_more (λ i z. Holding p d.turn (log_of p d) z.runs z.held z.bytes) s.views id left right (r.log.holding id v at) (λ i z _ e. r.log.holding i z e) (idle_holding p d.turn (log_of p d));
        };
        ownership = record {
          roles = each_more (λ i z. z.role ≡ i) s.views id left right (r.ownership.roles id v at) (λ i z _ e. r.ownership.roles i z e) count;
          given = more_given s.views id v left right zero_th at count refl;
          within = omega arith;
          plans = each_more (λ i z. z.plan ≡ p) s.views id left right (r.ownership.plans id v at) (λ i z _ e. r.ownership.plans i z e) (r.ownership.plans id v at);
          owners = owners_more s.views id v left right at refl refl r.ownership.owners;
          owned = each_more (λ i z. (q : ℕ) → has z.owned q ≡ true → q < d.count) s.views id left right (r.ownership.owned id v at) (λ i z _ e. r.ownership.owned i z e) (λ q m. absurd (false≢true m));
          shares = each_more (λ i z. length z.owned ≤ share_of p z.role) s.views id left right (r.ownership.shares id v at) (λ i z _ e. r.ownership.shares i z e) (omega arith);
          counted = let f : View → ℕ = λ z. length z.owned in let m = sum_moves f s.views id v left at in let n = sum_more f (set s.views id left) right in let c = r.ownership.counted in omega arith;
        };
        points = record {
          carried = r.points.carried;
          home = r.points.home;
          past_set = r.points.past_set;
          clear = r.points.clear;
          unmade = r.points.unmade;
          words = r.points.words;
          shelves = each_more (λ i z. OwnShelf p d.op d.point z.role z.owned z.carrying z.bound z.past) s.views id left right (r.points.shelves id v at) (λ i z _ e. r.points.shelves i z e) (r.points.absent (v.given + 1) (omega arith));
          absent = λ role h. r.points.absent role (omega arith);
        };
        references = record {
          carried = each_more (λ i z. (q e : ℕ) → Lists z.refs (reference q e) → Carries (d.point q) e) s.views id left right (r.references.carried id v at) (λ i z _ e. r.references.carried i z e) (λ q e m. absurd m);
          few = each_more (λ i z. length z.refs ≤ 16) s.views id left right (r.references.few id v at) (λ i z _ e. r.references.few i z e) (omega arith);
          counts = λ q. let m = sum_moves (refs_to q) s.views id v left at in let n = sum_more (refs_to q) (set s.views id left) right in let c = r.references.counts q in omega arith;
        };
      };
    }

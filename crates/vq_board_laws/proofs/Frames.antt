-- For each part of the rule: a step of a pass that leaves alone what the part reads keeps it.
use Rattle.std.proofs.Common.{◌≡◌, ◌≢◌, ℕ, ◌+◌, ◌<◌, ◌≤◌, Bool, true, List, length, set, get_or, ap, sym, ◌∙◌, subst, ⊎_elim, length-set, Option, [], ◌∷◌, ◌++◌, refl}
use Rattle.std.specs.Prelude.{count_by, ◌==◌}
use mathlib.Core.Option.{some}
use mathlib.Core.Option as maybe
use lib.ListN.{get_elem?}
use lib.Seq.{set-get_or}
use Rattle.atomic_table.specs.Table.{State}
use Rattle.atomic_table.proofs.Lists.{at_set}
use Rattle.vq_model.specs.Memory.{Memory}
use Rattle.vq_model.specs.Plan.{Plan}
use Rattle.vq_ground.specs.Lists.{has}
use Rattle.vq_board_laws.specs.declared.view.View.{View}
use Rattle.vq_board_laws.specs.declared.view.Fact.{Fact}
use Rattle.vq_board_laws.specs.declared.view.Fact.TheVariants.{Job, Taken, Bound, BoundTo, Made, Past}
use Rattle.vq_board_laws.specs.declared.view.Reference.{Reference}
use Rattle.vq_board_laws.specs.declared.view.LoggedBuffers.{LoggedBuffers}
use Rattle.vq_board_laws.specs.Roles.{share_of, role_count}
use Rattle.vq_board_laws.specs.Reached.{IsReached}
use Rattle.vq_board_laws.specs.Rule.{Rule, Kept}
use Rattle.vq_board_laws.specs.Words.{Words, Carries, words_of, made_of, log_of, shown}
use Rattle.vq_board_laws.specs.Knowledge.{IsSo, AreSo, Knows, Knowledge}
use Rattle.vq_board_laws.specs.Jobs.{Jobs, OwnJobs, OwnPhases}
use Rattle.vq_board_laws.specs.Log.{Log, Holding}
use Rattle.vq_board_laws.specs.Ownership.{Ownership}
use Rattle.vq_board_laws.specs.Points.{Points, OwnShelf, Lists, reference}
use Rattle.vq_board_laws.specs.References.{References, refs_to}
use Rattle.vq_board_laws.proofs.Views.{each_pass, same_length, sum_stays}

abbrev pub Homes : Type 0
Homes = List (maybe.Option LoggedBuffers)

-- Knowledge

pub facts_stay : (d e : Words) (fs : List Fact) → ((f : Fact) → IsSo d f → IsSo e f) → AreSo d fs → AreSo e fs
facts_stay d e [] up h = tt
facts_stay d e (f ∷ fs) up h = (up f h.0, facts_stay d e fs up h.1)

pub so_of : (d : Words) (fs : List Fact) (f : Fact) → AreSo d fs → Knows fs f → IsSo d f
so_of d [] f h m = absurd m
so_of d (g ∷ fs) f h m = ⊎_elim (λ (e : g ≡ f). subst (IsSo d) e h.0) (λ t. so_of d fs f h.1 t) m

-- facts of two lists
pub facts_both : (d : Words) (fs gs : List Fact) → AreSo d fs → AreSo d gs → AreSo d (fs ++ gs)
facts_both d [] gs h g = g
facts_both d (f ∷ fs) gs h g = (h.0, facts_both d fs gs h.1 g)

-- no fact reads the log, the turn or the count
pub so_unread : (d : Words) (place : ℕ → ℕ) (turn count : ℕ) (f : Fact) → IsSo d f → IsSo (record d { place = place; turn = turn; count = count }) f
so_unread d place turn count (Job j s) h = h
so_unread d place turn count (Taken e) h = h
so_unread d place turn count (Bound e) h = h
so_unread d place turn count (BoundTo e q) h = h
so_unread d place turn count (Made e) h = h
so_unread d place turn count (Past e) h = h

pub knowledge_stays : (d e : Words) (views : List View) (id : ℕ) (w : View) → ((f : Fact) → IsSo d f → IsSo e f) → Knowledge d views → AreSo e w.known → Knowledge e (set views id w)
knowledge_stays d e views id w up k mine = each_pass (λ i z. AreSo e z.known) views id w mine (λ i u _ at. facts_stay d e u.known up (k i u at))

-- Jobs

abbrev pub JobFields : Type 0
JobFields = ℕ × List ℕ × Option ℕ × ℕ × ℕ × List ℕ × List ℕ

abbrev pub job_fields : View → JobFields
job_fields v = (v.role, v.begun, v.runs, v.entered, v.signaled, v.submitted, v.released)

abbrev pub OwnsJobFields : Plan → (ℕ → ℕ) → (ℕ → Bool) → List ℕ → JobFields → Type 0
OwnsJobFields p job made log t = OwnJobs p job made log t.0 t.1 t.2 t.3 t.4 × OwnPhases p job t.0 t.5 t.6

pub jobs_stay : (p : Plan) (job : ℕ → ℕ) (made : ℕ → Bool) (log : List ℕ) (views : List View) (id : ℕ) (v w : View) → Jobs p job made log views → get_elem? views id ≡ some v → job_fields w ≡ job_fields v
    → Jobs p job made log (set views id w)
jobs_stay p job made log views id v w k at same = record {
  own = let Q : JobFields → Type 0 = OwnsJobFields p job made log in each_pass (λ i z. Q (job_fields z)) views id w (subst Q (sym same) (k.own id v at)) (λ i u _ e. k.own i u e);
  absent = λ role h. k.absent role (same_length views id role w h);
  waited = k.waited;
  lane = k.lane;
  ranged = k.ranged;
  applied_begun = k.applied_begun;
  made_begun = k.made_begun;
  reached = k.reached;
}

-- The log

abbrev pub LogFields : Type 0
LogFields = Option ℕ × Option ℕ × Memory

abbrev pub log_fields : View → LogFields
log_fields v = (v.runs, v.held, v.bytes)

pub log_stays : (p : Plan) (job place : ℕ → ℕ) (turn : ℕ) (log : List ℕ) (homes : Homes) (views : List View) (id : ℕ) (v w : View) → Log p job place turn log homes views
    → get_elem? views id ≡ some v → log_fields w ≡ log_fields v → Log p job place turn log homes (set views id w)
log_stays p job place turn log homes views id v w k at same = record {
  later = k.later;
  free = k.free;
  taken = k.taken;
  holding = let Q : LogFields → Type 0 = λ t. Holding p turn log t.0 t.1 t.2 in each_pass (λ i z. Q (log_fields z)) views id w (subst Q (sym same) (k.holding id v at)) (λ i u _ e. k.holding i u e);
}

-- Ownership

abbrev pub OwnerFields : Type 0
OwnerFields = ℕ × ℕ × Plan × List ℕ

abbrev pub owner_fields : View → OwnerFields
owner_fields v = (v.role, v.given, v.plan, v.owned)

was_owned : (views : List View) (id : ℕ) (v w : View) → get_elem? views id ≡ some v → w.owned ≡ v.owned → (i : ℕ) (z : View) → get_elem? (set views id w) i ≡ some z
    → (u : View) × (get_elem? views i ≡ some u) × (z.owned ≡ u.owned)
was_owned views id v w at same i z e = ⊎_elim
    (λ (t : (i ≡ id) × (w ≡ z)). (v, subst (λ (k : ℕ). get_elem? views k ≡ some v) (sym t.0) at, ap (λ (y : View). y.owned) (sym t.1) ∙ same))
    (λ (t : (i ≢ id) × (get_elem? views i ≡ some z)). (z, t.1, refl)) (at_set views id i w z e)

pub still_given : (views : List View) (id : ℕ) (v w : View) → get_elem? views id ≡ some v → w.given ≡ v.given → ((u : View) → get_elem? views 0 ≡ some u → u.given + 1 ≡ length views)
    → (u : View) → get_elem? (set views id w) 0 ≡ some u → u.given + 1 ≡ length (set views id w)
still_given views id v w at same given u e = ⊎_elim
    (λ (t : (0 ≡ id) × (w ≡ u)). ap (λ (z : View). z.given + 1) (sym t.1) ∙ (ap (λ n. n + 1) same ∙ (given v (subst (λ (i : ℕ). get_elem? views i ≡ some v) (sym t.0) at) ∙ sym (length-set views id w))))
    (λ (t : (0 ≢ id) × (get_elem? views 0 ≡ some u)). given u t.1 ∙ sym (length-set views id w)) (at_set views id 0 w u e)

abbrev pub Owners : List View → Type 0
Owners views = (i k q : ℕ) (v w : View) → get_elem? views i ≡ some v → get_elem? views k ≡ some w → has v.owned q ≡ true → has w.owned q ≡ true → i ≡ k

pub owners_stay : (views : List View) (id : ℕ) (v w : View) → get_elem? views id ≡ some v → w.owned ≡ v.owned → Owners views → Owners (set views id w)
owners_stay views id v w at same h i k q z u e f m n =
    let a = was_owned views id v w at same i z e in
    let b = was_owned views id v w at same k u f in
    h i k q a.0 b.0 a.1 b.1 (subst (λ (xs : List ℕ). has xs q ≡ true) a.2 m) (subst (λ (xs : List ℕ). has xs q ≡ true) b.2 n)

pub ownership_stays : (p : Plan) (count : ℕ) (views : List View) (id : ℕ) (v w : View) → Ownership p count views → get_elem? views id ≡ some v → owner_fields w ≡ owner_fields v → Ownership p count (set views id w)
ownership_stays p count views id v w k at same = let owned : w.owned ≡ v.owned = ap (λ (t : OwnerFields). t.3) same in record {
  roles = each_pass (λ i z. z.role ≡ i) views id w (ap (λ (t : OwnerFields). t.0) same ∙ k.roles id v at) (λ i u _ e. k.roles i u e);
  given = still_given views id v w at (ap (λ (t : OwnerFields). t.1) same) k.given;
  within = subst (λ (n : ℕ). n ≤ role_count p) (sym (length-set views id w)) k.within;
  plans = each_pass (λ i z. z.plan ≡ p) views id w (ap (λ (t : OwnerFields). t.2) same ∙ k.plans id v at) (λ i u _ e. k.plans i u e);
  owners = owners_stay views id v w at owned k.owners;
  owned = let Q : List ℕ → Type 0 = λ xs. (q : ℕ) → has xs q ≡ true → q < count in each_pass (λ i z. Q z.owned) views id w (subst Q (sym owned) (k.owned id v at)) (λ i u _ e. k.owned i u e);
  shares = let Q : OwnerFields → Type 0 = λ t. length t.3 ≤ share_of p t.0 in each_pass (λ i z. Q (owner_fields z)) views id w (subst Q (sym same) (k.shares id v at)) (λ i u _ e. k.shares i u e);
  counted = k.counted ∙ sym (sum_stays (λ (z : View). length z.owned) views id v w at (ap (λ (xs : List ℕ). length xs) owned));
}

-- Points

abbrev pub PointFields : Type 0
PointFields = ℕ × List ℕ × List Reference × List ℕ × List ℕ

abbrev pub point_fields : View → PointFields
point_fields v = (v.role, v.owned, v.carrying, v.bound, v.past)

pub points_stay : (p : Plan) (op point : ℕ → ℕ) (count : ℕ) (views : List View) (id : ℕ) (v w : View) → Points p op point count views → get_elem? views id ≡ some v → point_fields w ≡ point_fields v
    → Points p op point count (set views id w)
points_stay p op point count views id v w k at same = record {
  carried = k.carried;
  home = k.home;
  past_set = k.past_set;
  clear = k.clear;
  unmade = k.unmade;
  words = k.words;
  shelves = let Q : PointFields → Type 0 = λ t. OwnShelf p op point t.0 t.1 t.2 t.3 t.4 in each_pass (λ i z. Q (point_fields z)) views id w (subst Q (sym same) (k.shelves id v at)) (λ i u _ e. k.shelves i u e);
  absent = λ role h. k.absent role (same_length views id role w h);
}

-- References

pub references_stay : (point : ℕ → ℕ) (views : List View) (id : ℕ) (v w : View) → References point views → get_elem? views id ≡ some v → w.refs ≡ v.refs → References point (set views id w)
references_stay point views id v w k at same = record {
  carried = let Q : List Reference → Type 0 = λ rs. (q e : ℕ) → Lists rs (reference q e) → Carries (point q) e in each_pass (λ i z. Q z.refs) views id w (subst Q (sym same) (k.carried id v at)) (λ i u _ e. k.carried i u e);
  few = let Q : List Reference → Type 0 = λ rs. length rs ≤ 16 in each_pass (λ i z. Q z.refs) views id w (subst Q (sym same) (k.few id v at)) (λ i u _ e. k.few i u e);
  counts = λ q. k.counts q ∙ sym (sum_stays (refs_to q) views id v w at (let f : List Reference → ℕ = λ rs. count_by (λ (r : Reference). r.point == q) rs in ap f same));
}

-- The whole rule

-- a step that leaves the words alone
pub kept_load : (p : Plan) (s : State LoggedBuffers View) (i id : ℕ) (v w : View) → Kept p s → get_elem? s.views id ≡ some v → job_fields w ≡ job_fields v → log_fields w ≡ log_fields v → owner_fields w ≡ owner_fields v → point_fields w ≡ point_fields v → w.refs ≡ v.refs
    → AreSo (words_of s.words) w.known → IsReached p (shown p (words_of s.words)) (words_of s.words).job (set s.views id w)
    → Kept p record { words = set s.words i (get_or s.words i 0); homes = s.homes; views = set s.views id w }
kept_load p s i id v w k at jobs log owner points refs known run = let d : Words = words_of s.words in let r = k.rule in record {
  plan = k.plan;
  lawful = k.lawful;
  count = length-set s.words i (get_or s.words i 0) ∙ k.count;
  rule = subst (λ (ws : List ℕ). Rule p (words_of ws) s.homes (set s.views id w)) (sym (set-get_or s.words i 0)) record {
    knowledge = knowledge_stays d d s.views id w (λ f h. h) r.knowledge known;
    run = run;
    jobs = jobs_stay p d.job (made_of d) (log_of p d) s.views id v w r.jobs at jobs;
    log = log_stays p d.job d.place d.turn (log_of p d) s.homes s.views id v w r.log at log;
    ownership = ownership_stays p d.count s.views id v w r.ownership at owner;
    points = points_stay p d.op d.point d.count s.views id v w r.points at points;
    references = references_stay d.point s.views id v w r.references at refs;
  };
}

-- Every history keeps the point law.
use Rattle.std.proofs.Common.{ℕ, List, arith, true, false, ◌∷◌, Option, None, refl, sym, subst, []}
use Rattle.vq_model.specs.declared.plan.Event.{Event}
use Rattle.vq_model.specs.Plan.{Plan, chain_of}
use Rattle.vq_point_laws.specs.Points.{PointState, CanFree, at_option, CanCome, after_event, HistoryFrom, opening_points}
use Rattle.vq_point_laws.specs.HistoryLaws.{FreesInTime, KeepsPoints, AfterEach, PointLaw}
use Rattle.vq_point_laws.proofs.PointFacts.{Links, none_held, none_some}
use Rattle.std.specs.Option.{option_map_or}
use Rattle.vq_model.specs.declared.plan.Event.TheVariants.{Submit, Take, Release, Bind, Refer, Look, Unref, Complete, Free, Start, Apply, Signal, Finish, Answer}
use Rattle.vq_model.specs.Machine.{put}
use Rattle.vq_point_laws.proofs.PointEvents.{after_submit, after_release, after_bind, after_look, after_start, after_apply, after_finish, after_answer, after_signal, after_refer, after_unrefer, after_complete, after_free}
use Rattle.vq_point_laws.proofs.PointTakes.{fresh_law, after_fresh, reused_law, after_reused}
use Rattle.std.proofs.lemmas.Bool.{false≢true}

-- Histories

free_law : (p : Plan) (h : List Event) (w : PointState) (q : ℕ) → Links p h w → CanFree w q → FreesInTime h q
free_law p h w q k g =
    let v = k.waits q g.waiting in
    let n = none_held q w.held g.unreferenced in
    let c = k.counts q in
    record { op = v.op; last_take = k.carries q v.op v.carried; signaled = v.signaled; completed = v.completed; given_back = omega arith }

pub one_event : (p : Plan) (h : List Event) (w : PointState) (x : Event) → Links p h w → CanCome p w x → KeepsPoints p h x × Links p (x ∷ h) (after_event p w x)
one_event p h w (Submit j) k g = (tt, after_submit p h w k j)
one_event p h w (Take e q true) k g = (fresh_law p h w k e q g, after_fresh p h w k e q g)
one_event p h w (Take e q false) k g = (reused_law p h w k e q g, after_reused p h w k e q g)
one_event p h w (Release j) k g = (tt, after_release p h w k j)
one_event p h w (Bind e q) k g = (tt, after_bind p h w k e q)
one_event p h w (Refer a q e) k g = (tt, after_refer p h w k a q e g.carries)
one_event p h w (Look a q e) k g = (record { carried = k.referred a q e g.holds; signaled = k.made e g.signaled }, after_look p h w k a q e)
one_event p h w (Unref a q e) k g = (tt, after_unrefer p h w k a q e g)
one_event p h w (Complete e) k g = (tt, after_complete p h w k e g.pending g.signaled)
one_event p h w (Free q) k g =
    let v = k.waits q g.waiting in
    let P : Option ℕ → Type 0 = λ o. Links p (Free q ∷ h) (record w { waiting = put w.waiting q false; carried = put w.carried q None; free = at_option {A = ℕ → List ℕ} (λ t f. put f t (q ∷ f t)) (option_map_or (chain_of p) o None) w.free }) in
    (free_law p h w q k g, subst P (sym v.carried) (after_free p h w k q v g.unreferenced (chain_of p v.op) refl))
one_event p h w (Start j) k g = (tt, after_start p h w k j)
one_event p h w (Apply j c) k g = (tt, after_apply p h w k j c)
one_event p h w (Signal e) k g = (tt, after_signal p h w k e)
one_event p h w (Finish j) k g = (tt, after_finish p h w k j)
one_event p h w (Answer j a) k g = (tt, after_answer p h w k j a)

all_events : (p : Plan) (h : List Event) (w : PointState) (xs : List Event) → Links p h w → HistoryFrom p w xs → AfterEach (KeepsPoints p) h xs
all_events p h w [] k r = tt
all_events p h w (x ∷ xs) k r =
    let one = one_event p h w x k r.0 in
    (one.0, all_events p (x ∷ h) (after_event p w x) xs one.1 r.1)

pub at_opening : (p : Plan) → Links p [] (opening_points p)
at_opening p =
    record {
      points = refl;
      beyond = λ q l. (refl, refl);
      carries = λ q e c. none_some refl c;
      dropped = λ q e c l. none_some refl l;
      free_in = λ t q m. absurd (false≢true m);
      free_out = λ t q s o. absurd (false≢true s);
      free_order = λ t. tt;
      waits = λ q f. absurd (false≢true f);
      pending = λ e q a b. none_some refl a;
      made = λ e m. absurd (false≢true m);
      referred = λ a q e m. absurd (false≢true m);
      held_carries = λ a q e m. absurd (false≢true m);
      counts = λ q. refl;
      idle = λ q c. refl;
    }

pub keeps_point_law : (p : Plan) (history : List Event) → HistoryFrom p (opening_points p) history → PointLaw p history
keeps_point_law p history r = all_events p [] (opening_points p) history (at_opening p) r

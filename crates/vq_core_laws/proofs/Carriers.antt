-- Of the operations of a chain that were given one point, the one that it carries stands last.
use Rattle.std.proofs.Common.{◌≡◌, ℕ, ◌<◌, ◌≤◌, Bool, true, false, not, List, [], ◌∷◌, fold, Option, Some, None}
use Rattle.std.proofs.Common.{is_some, refl, sym, ap, ◌∙◌, inl, inr, arith}
use Rattle.std.specs.Prelude.{nat_lt}
use Rattle.std.specs.List.{slice_get, list_all}
use Rattle.std.proofs.lemmas.Bool.{false≢true, cases_eq, cases_lt, and_parts, lt-ltb}
use Rattle.vq_model.specs.declared.plan.Event.{Event}
use Rattle.vq_model.specs.declared.plan.Event.TheVariants.{Submit, Take, Release, Bind, Refer, Look, Unref, Complete}
use Rattle.vq_model.specs.declared.plan.Event.TheVariants.{Free, Start, Apply, Signal, Finish, Answer}
use Rattle.vq_model.specs.Machine.{put, with_signal}
use Rattle.vq_model.specs.Plan.{Plan, chain, chain_of, initial, value}
use Rattle.vq_ground.specs.Lists.{has}
use Rattle.vq_ground.proofs.Filters.{filter-has}
use Rattle.vq_ground.proofs.Lists.{has_here, list_all_has}
use Rattle.vq_model.proofs.Puts.{put_here, put_there, put_cases, put_keeps}
use Rattle.vq_ground.proofs.Gets.{first_is, get_has}
use Rattle.vq_point_laws.specs.Points.{PointState, CanCome, CanComplete, after_event, opening_points, HistoryFrom}
use Rattle.vq_point_laws.specs.Points.{smaller_ops}
use Rattle.vq_history_laws.specs.Histories.{points_after}
use Rattle.vq_core_laws.proofs.Keeps.{Keeps, keeps, keeps_after}
use Rattle.vq_core_laws.proofs.PlanFacts.{Facts, ordered_once, chain_places}

-- Bound operations have points, past ones are bound, and those of a chain become past in order. The one
-- that a point carries stands behind all others of its chain that were given the point.
pub record KeepsCarriers (p : Plan) (point_of carried : ℕ → Option ℕ) (bound past : ℕ → Bool) : Type 0 where
  pub had : (e : ℕ) → bound e ≡ true → is_some (point_of e) ≡ true
  pub was_bound : (e : ℕ) → past e ≡ true → bound e ≡ true
  pub in_order : (t i k f e : ℕ) → slice_get (chain p t) i ≡ Some f → slice_get (chain p t) k ≡ Some e → i < k →
      past e ≡ true → past f ≡ true
  pub last : (t i k q f e : ℕ) → slice_get (chain p t) i ≡ Some f → slice_get (chain p t) k ≡ Some e →
      carried q ≡ Some e → point_of f ≡ Some q → i ≤ k

abbrev pub CarriersOf : Plan → PointState → Type 0
CarriersOf p w = KeepsCarriers p w.point_of w.carried w.bound w.past

module _ (p : Plan) (f : Facts p) (w : PointState) (k : Keeps p w) (c : CarriersOf p w) where
  -- an operation without a point isn't past
  unpast : (e : ℕ) → w.point_of e ≡ None → w.past e ≡ false
  unpast e none = by_test (w.past e) refl
    where
      by_test : (b : Bool) → w.past e ≡ b → b ≡ false
      by_test false h = refl
      by_test true h = absurd (false≢true (ap is_some (sym none) ∙ c.had e (c.was_bound e h)))

  take_carriers : (e q : ℕ) → w.point_of e ≡ None → w.carried q ≡ None →
      KeepsCarriers p (put w.point_of e (Some q)) (put w.carried q (Some e)) w.bound w.past
  take_carriers e q without idle =
      record {
        had = λ x b. elim (cases_eq x e) [
          | inl s ↦ ap (λ (n : ℕ). is_some (put w.point_of e (Some q) n)) s
              ∙ ap is_some (put_here w.point_of e (Some q))
          | inr d ↦ ap is_some (put_there w.point_of e (Some q) x d) ∙ c.had x b
        ];
        was_bound = c.was_bound;
        in_order = c.in_order;
        last = λ t i n r g x a b holds had. elim (cases_eq r q) [
          | inl s ↦
              let same : e ≡ x = let z = sym (put_here w.carried q (Some e))
              ∙ (ap (put w.carried q (Some e)) (sym s) ∙ holds) in cc in
              elim (cases_eq g e) [
                | inl h ↦
                    let place = ordered_once p (chain p t) (f.formed.chain_order t) i n x (a ∙ ap Some (h ∙ same)) b in
                    omega arith
                | inr d ↦
                    let old = sym (put_there w.point_of e (Some q) g d) ∙ had in
                    before t i n g x a b (unpast x (ap w.point_of (sym same) ∙ without))
                    (was_past g q idle (old ∙ ap Some s))
              ]
          | inr d ↦ elim (cases_eq g e) [
            | inl h ↦
                let z = sym (put_here w.point_of e (Some q)) ∙ (ap (put w.point_of e (Some q)) (sym h) ∙ had) in
                absurd (d (let y : q ≡ r = cc in sym y))
            | inr m ↦ c.last t i n r g x a b (sym (put_there w.carried q (Some e) r d) ∙ holds)
                (sym (put_there w.point_of e (Some q) g m) ∙ had)
          ]
        ];
      }
    where
      -- an operation whose point carries nothing is past
      was_past : (g q : ℕ) → w.carried q ≡ None → w.point_of g ≡ Some q → w.past g ≡ true
      was_past g q none has_it = by_test (w.past g) refl
        where
          by_test : (b : Bool) → w.past g ≡ b → b ≡ true
          by_test true h = refl
          by_test false h = let z = sym none ∙ k.links.pending g q has_it h in absurd (cc)

      before : (t i n g x : ℕ) → slice_get (chain p t) i ≡ Some g → slice_get (chain p t) n ≡ Some x →
          w.past x ≡ false → w.past g ≡ true → i ≤ n
      before t i n g x a b open_ done = elim (cases_lt n i) [
        | inl l ↦ absurd (false≢true (sym open_ ∙ c.in_order t n i x g b a l done))
        | inr l ↦ l
      ]

  free_carriers : (q : ℕ) → KeepsCarriers p w.point_of (put w.carried q None) w.bound w.past
  free_carriers q =
      record {
        had = c.had;
        was_bound = c.was_bound;
        in_order = c.in_order;
        last = λ t i n r g x a b holds had. elim (cases_eq r q) [
          | inl s ↦ let z = sym (put_here w.carried q None) ∙ (ap (put w.carried q None) (sym s) ∙ holds) in absurd (cc)
          | inr d ↦ c.last t i n r g x a b (sym (put_there w.carried q None r d) ∙ holds) had
        ];
      }

  bind_carriers : (e q : ℕ) → w.carried q ≡ Some e → KeepsCarriers p w.point_of w.carried (put w.bound e true) w.past
  bind_carriers e q holds =
      record {
        had = λ x b. elim (put_cases w.bound e x b) [
          | inl s ↦ ap is_some (ap w.point_of s ∙ k.points.carries q e holds)
          | inr h ↦ c.had x h
        ];
        was_bound = λ x h. put_keeps w.bound e x (c.was_bound x h);
        in_order = c.in_order;
        last = c.last;
      }

  complete_carriers : (e : ℕ) → CanComplete p w e → KeepsCarriers p w.point_of w.carried w.bound (put w.past e true)
  complete_carriers e g =
      record {
        had = c.had;
        was_bound = λ x h. elim (put_cases w.past e x h) [
          | inl s ↦ ap w.bound s ∙ (and_parts (w.bound e) (not (w.past e)) g.pending).0
          | inr o ↦ c.was_bound x o
        ];
        in_order = λ t i n y x a b l h. put_keeps w.past e y (elim (put_cases w.past e x h) [
          | inl s ↦ earlier t i n y a (b ∙ ap Some s) l
          | inr o ↦ c.in_order t i n y x a b l o
        ]);
        last = c.last;
      }
    where
      earlier : (t i n y : ℕ) → slice_get (chain p t) i ≡ Some y → slice_get (chain p t) n ≡ Some e → i < n →
          w.past y ≡ true
      earlier t i n y a b l =
          let same : g.chain ≡ t = let z = sym g.in_chain ∙ f.formed.of_chain e t (get_has (chain p t) n e b) in cc in
          let less = chain_places p (initial p t) (chain p t) (f.order.chains t) i n y e a b l in
          let member = filter-has (λ x. nat_lt (value p x) (value p e)) (chain p t) y (get_has (chain p t) i y a)
          (lt-ltb (value p y) (value p e) less) in
          list_all_has w.past (smaller_ops p t e) y
          (ap (λ (s : ℕ). list_all w.past (smaller_ops p s e)) (sym same) ∙ g.in_order) member

  carriers_after : (x : Event) → CanCome p w x → CarriersOf p (after_event p w x)
  carriers_after (Submit j) g = c
  carriers_after (Take e q true) g =
      let n = g.point.1 in
      take_carriers e q g.without (k.links.beyond q (omega arith)).0
  carriers_after (Take e q false) g =
      let h = first_is (w.free g.chain) q g.point in
      take_carriers e q g.without (k.links.free_in g.chain q (ap (λ zs. has zs q) h.1 ∙ has_here q h.0)).0
  carriers_after (Release j) g = c
  carriers_after (Bind e q) g = bind_carriers e q g.carries
  carriers_after (Refer a q e) g = c
  carriers_after (Look a q e) g = c
  carriers_after (Unref a q e) g = c
  carriers_after (Complete e) g = complete_carriers e g
  carriers_after (Free q) g = free_carriers q
  carriers_after (Start j) g = c
  carriers_after (Apply j a) g = c
  carriers_after (Signal e) g = by_chain (chain_of p e)
    where
      by_chain : (o : Option ℕ) →
          CarriersOf p (record w { machine = record w.machine { progress = with_signal p w.machine.progress e o } })
      by_chain None = c
      by_chain (Some t) = c
  carriers_after (Finish j) g = c
  carriers_after (Answer j a) g = c

carriers_opening : (p : Plan) → CarriersOf p (opening_points p)
carriers_opening p =
    record {
      had = λ e b. absurd (false≢true b);
      was_bound = λ e b. absurd (false≢true b);
      in_order = λ t i n g e a b l h. absurd (false≢true h);
      last = λ t i n q g e a b holds had. let z = holds in absurd (cc);
    }

carriers_from : (p : Plan) → Facts p → (w : PointState) → Keeps p w → CarriersOf p w → (xs : List Event) →
    HistoryFrom p w xs → CarriersOf p (fold (after_event p) w xs)
carriers_from p f w k c [] r = c
carriers_from p f w k c (x ∷ xs) r = carriers_from p f (after_event p w x) (keeps_after p f w k x r.0)
    (carriers_after p f w k c x r.0) xs r.1

pub keeps_carriers : (p : Plan) → Facts p → (history : List Event) → HistoryFrom p (opening_points p) history →
    CarriersOf p (points_after p history)
keeps_carriers p f history r = carriers_from p f (opening_points p) (keeps p f [] tt) (carriers_opening p) history r

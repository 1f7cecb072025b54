-- What changes of one timeline leave of the timelines.
use Rattle.std.proofs.Common.{
  ◌≡◌,
  ℕ,
  ◌<◌,
  ◌&&◌,
  ◌==◌,
  Bool,
  false,
  Option,
  List,
  length,
  get_or,
  set,
  sym,
  ap,
  ◌∙◌,
  inl,
  inr,
  subst,
  arith,
}
use Rattle.std.proofs.lemmas.Bool.{cases_eq}
use Rattle.std.proofs.lemmas.List.{length-set, get_or-set_same, get_or-set_other}
use Rattle.vq_model.specs.Plan.{Plan, chain, chain_of}
use Rattle.vq_point_laws.specs.Points.{PointState}
use Rattle.vq_point_laws.specs.Timeline.{Timeline, KeepsLists}
use Rattle.std.specs.Option.{option_map_or}
use Rattle.vq_core_laws.specs.Firsts.{AreFirst}
use Rattle.vq_core_laws.specs.TimelineOf.{IsTimelineOf}
use Rattle.vq_tables.specs.Tables.{AreTimelines, no_timeline}

-- one timeline changes as the world does, and the others stay
pub timelines_next : (p : Plan) (w v : PointState) (ls : List Timeline) (t : ℕ) (l : Timeline) →
    AreTimelines p w ls → t < length ls → IsTimelineOf p v t l → KeepsLists l → ((s : ℕ) → (s ≡ t → ⊥) →
    (m : Timeline) → KeepsLists m → IsTimelineOf p w s m → IsTimelineOf p v s m) → AreTimelines p v (set ls t l)
timelines_next p w v ls t l are within new kept others =
    record {
      count = length-set ls t l ∙ are.count;
      each = λ s b. elim (cases_eq s t) [
        | inl e ↦
            subst (λ (i : ℕ). IsTimelineOf p v i (get_or (set ls t l) i no_timeline)) (sym e) (subst (IsTimelineOf p
            v t) (sym (get_or-set_same ls t l no_timeline within)) new)
        | inr d ↦
            let n = length-set ls t l in
            subst (IsTimelineOf p v s) (sym (get_or-set_other ls t s l no_timeline d)) (others s d (get_or ls s
            no_timeline) (are.kept s (omega arith)) (are.each s (omega arith)))
      ];
      kept = λ s b. elim (cases_eq s t) [
        | inl e ↦
            subst (λ (i : ℕ). KeepsLists (get_or (set ls t l) i no_timeline)) (sym e) (subst KeepsLists (sym
            (get_or-set_same ls t l no_timeline within)) kept)
        | inr d ↦
            let n = length-set ls t l in
            subst KeepsLists (sym (get_or-set_other ls t s l no_timeline d)) (are.kept s (omega arith))
      ];
    }

-- an event that leaves what timelines say
pub timelines_same : (p : Plan) (w v : PointState) (ls : List Timeline) → ((t : ℕ) (l : Timeline) →
    IsTimelineOf p w t l → IsTimelineOf p v t l) → AreTimelines p w ls → AreTimelines p v ls
timelines_same p w v ls f are =
    record { count = are.count; each = λ t b. f t (get_or ls t no_timeline) (are.each t b); kept = are.kept }

-- an event that leaves points, and what is bound and past
pub timelines_by : (p : Plan) (w v : PointState) (ls : List Timeline) → w.point_of ≡ v.point_of →
    w.bound ≡ v.bound → w.past ≡ v.past → w.waiting ≡ v.waiting → w.carried ≡ v.carried → w.free ≡ v.free →
    AreTimelines p w ls → AreTimelines p v ls
timelines_by p w v ls a b c d e f are =
    timelines_same p w v ls (λ t l is. record {
      initial_value = is.initial_value;
      values = is.values;
      points = λ i o h. is.points i o h ∙ ap (λ (g : ℕ → Option ℕ). g o) a;
      bound = subst (λ (g : ℕ → Bool). AreFirst g (chain p t) l.bound) b is.bound;
      completed = subst (λ (g : ℕ → Bool). AreFirst g (chain p t) l.completed) c is.completed;
      waiting = λ q. is.waiting q ∙ (λ i. d i q && option_map_or (λ o. option_map_or (λ s. s == t) (chain_of p o)
          false) (e i q) false);
      free = is.free ∙ ap (λ (g : ℕ → List ℕ). g t) f;
    }) are

-- The machine values of a `Slot`. Assumes `Logic`.
use Rattle.std.proofs.Common.{◌≡◌, ℕ, List, [], ◌∷◌, ◌++◌, refl, sym, subst}
use mathlib.Core.Bool.{Bool, true, false}
use seplogic.Ra.Ura.{Ura}
use mir.Syntax.{impl, tnil, dnil}
use mir.Raw.{raw as bare}
use mir.Val.{Val, vptr, vstruct, of_list}
use base.Logic.{SProp, ent, guard, guard_i, via, never, fst∗, snd∗}
use contract.Monad.{fact_use}
use types.Logic.{Logic, sem}
use types.Kit.{Item, Goal, Seq, Step, step, ‵, given, ◌$◌, learn, move, drop, use1, rewrite, fsplit, fjoin, fpick, fpack, feq_i, feq_l}
use denote.RattleType.{RattleType, Valss}
use denote.Builtin.{RawPtr}
use denote.Memory.{lone}
use denote.RawPtr.{Ptr, Testable, block_ptr, null_ptr, ptr_val, in_a_block}
use denote.Steps.{nothing}
use denote.Param.{layout}
use denote.Struct.Struct.{within}
use denote.Struct.Owning.{shape, to}
use Rattle.core.specs.Ptr.{points_to}
use Rattle.core.specs.Option.{is_some}
use Rattle.core.specs.declared.option.Option.{Option}
use Rattle.core.specs.declared.option.Option.TheVariants.{None, Some}
use Rattle.core.proofs.alloc.Calls.{Al, handle_tells}
use Rattle.core.proofs.cell.Inside.{Good}
use Rattle.std_alloc.specs.Box.Ownership.{box_owns}
use Rattle.std.specs.declared.alloc.Global.{Global}
use Rattle.std.specs.contracts.alloc.Global as heap
use Rattle.std.specs.contracts.impls.GlobalAllocator.TheImpl.{ghosts}
use Rattle.std.proofs.alloc.Global.TheLaws as heap_laws
use Rattle.std.proofs.GlobalToken.{dealloc_token-Testable}
use Rattle.vq_loose.proofs.Values.{both}
use Rattle.vq_loose.specs.Slots.{slot_owns}
use Rattle.vq_loose.specs.declared.slot.Slot.{Slot}
use Rattle.vq_loose.specs.contracts.slot.Slot as slot

abbrev pub Z : RattleType
Z = heap.the_row

abbrev pub al : Al
al = record { row = Z; laws = heap_laws.the_row_laws; g = ghosts; d = impl [] tnil dnil; drops = impl [] tnil dnil }

IsNot : Bool → Type 0
IsNot true = ⊥
IsNot false = Unit {0}

-- what is held
pub held_is : {X : Type 0} (v : Option X) → is_some v ≡ true → (x : X) × (v ≡ Some x)
unfolding IsNot
held_is (Some x) e = (x, refl)
held_is None e = absurd (subst IsNot e tt)

module _ (R : RattleType) where
  abbrev pub S : RattleType
  S = slot.the_row R

  tested : {M : Type 1} {𝓤 : Ura M} (𝓛 : Logic 𝓤) (a : Global) (b o : ℕ) (x : R.Denot) → ent 𝓤 (sem 𝓛 (box_owns (ghosts.dealloc_token a) R (block_ptr b o) x))
      (guard 𝓤 (Testable (block_ptr b o)) (sem 𝓛 (box_owns (ghosts.dealloc_token a) R (block_ptr b o) x)))
  tested {𝓤 = 𝓤} 𝓛 a b o x = let p : Ptr = block_ptr b o in let own : SProp 𝓤 = sem 𝓛 (box_owns (ghosts.dealloc_token a) R p x) in
      fact_use 𝓤 (Testable p) (via 𝓤 _ (snd∗ 𝓤 (sem 𝓛 (points_to R p x)) (sem 𝓛 (ghosts.dealloc_token a (bare (lone R.mir)) p))) (dealloc_token-Testable 𝓛 a (bare (lone R.mir)) p)) (guard_i 𝓤 (Testable p) own)

  module _ {M : Type 1} {𝓤 : Ura M} {𝓛 : Logic 𝓤} {K : Type 0} {Γ : List (Item 𝓤)} {G : Goal 𝓤 𝓛.H} where
    -- a slot by value: what it owns, and the handle of its allocator
    pub slot_out : K → (d : Slot R.Denot) (vs : List Val)
        → ((h : Val) → vs ≡ both (ptr_val d.at) h ∷ [] → Good (layout Z) h → Seq K 𝓛 (‵ (slot_owns R d.alloc d.at d.value) ∷ ‵ (Z.own_val d.alloc (h ∷ [])) ∷ Γ) G)
        → Seq K 𝓛 (‵ (S.own_val d vs) ∷ Γ) G
    slot_out t d vs k =
        fsplit t $ fpick t (λ vss. fsplit t $ feq_l t (λ ev. fsplit t $ feq_l t (λ ep. fsplit t $ handle_tells al t d.alloc vss.1.0 (λ h ea fits. move t (1 ∷ []) $ drop t $ move t (1 ∷ []) $ k h
        (subst (λ (ws : List Val). vs ≡ vstruct (of_list (ptr_val d.at ∷ (ws ++ []))) ∷ []) ea (subst (λ (ps : List Val). vs ≡ vstruct (of_list (ps ++ (vss.1.0 ++ []))) ∷ []) ep ev)) fits))))

    -- the same where a value is held
    pub full_out : K → (d : Slot R.Denot) (x : R.Denot) (vs : List Val) → d.value ≡ Some x
        → ((b o : ℕ) (h : Val) → d.at ≡ block_ptr b o → vs ≡ both (vptr b o) h ∷ [] → Good (layout Z) h → Seq K 𝓛 (‵ (box_owns (ghosts.dealloc_token d.alloc) R (block_ptr b o) x) ∷ ‵ (Z.own_val d.alloc (h ∷ [])) ∷ Γ) G)
        → Seq K 𝓛 (‵ (S.own_val d vs) ∷ Γ) G
    full_out t d x vs e k = slot_out t d vs (λ h ws fits. rewrite t 0 (λ (v : Option R.Denot). ‵ (slot_owns R d.alloc d.at v)) e refl $
        in_a_block t d.at (λ p. box_owns (ghosts.dealloc_token d.alloc) R p x) (fst∗ 𝓤 (never 𝓤) (sem 𝓛 (ghosts.dealloc_token d.alloc (bare (lone R.mir)) null_ptr))) (λ b o is.
        k b o h is (subst (λ (p : Ptr). vs ≡ both (ptr_val p) h ∷ []) is ws) fits))

    pub slot_in : K → (d : Slot R.Denot) (h : Val)
        → Step K 𝓛 (‵ (S.own_val d (both (ptr_val d.at) h ∷ [])) ∷ Γ) G (‵ (slot_owns R d.alloc d.at d.value) ∷ ‵ (Z.own_val d.alloc (h ∷ [])) ∷ Γ) G
    slot_in t d h = step (λ s. let w : Val = both (ptr_val d.at) h in
        nothing t $ move t (2 ∷ 0 ∷ []) $ fjoin t $ feq_i t (List Val) (ptr_val d.at ∷ []) (ptr_val d.at ∷ []) refl $ fjoin t $ feq_i t (List Val) (w ∷ []) (w ∷ []) refl $ fjoin t $
        fpack t (Valss (RawPtr ∷ Z ∷ [])) (within (shape (slot.the_type R)) (to (slot.the_type R) d) (w ∷ [])) (ptr_val d.at ∷ [], (h ∷ [], tt)) $ fjoin t $ s)

    -- no value is held, or one is, and its pointer may be compared with null
    pub cases : K → (a : Global) (p : Ptr) (v : Option R.Denot) → (p ≡ null_ptr → v ≡ None → Seq K 𝓛 (‵ (slot_owns R a p v) ∷ Γ) G)
        → ((b o : ℕ) (x : R.Denot) → p ≡ block_ptr b o → v ≡ Some x → Testable (block_ptr b o) → Seq K 𝓛 (‵ (slot_owns R a p v) ∷ Γ) G)
        → Seq K 𝓛 (‵ (slot_owns R a p v) ∷ Γ) G
    cases t a p None none some = feq_l t (λ e. feq_i t Ptr p null_ptr e $ none e refl)
    cases t a p (Some x) none some =
        in_a_block t p (λ p. box_owns (ghosts.dealloc_token a) R p x) (fst∗ 𝓤 (never 𝓤) (sem 𝓛 (ghosts.dealloc_token a (bare (lone R.mir)) null_ptr))) (λ b o is.
        use1 𝓛 (given (Testable (block_ptr b o)) (‵ (box_owns (ghosts.dealloc_token a) R (block_ptr b o) x))) (tested 𝓛 a b o x) $ learn t (λ tests.
        rewrite t 0 (λ (p : Ptr). ‵ (box_owns (ghosts.dealloc_token a) R p x)) (sym is) refl $ some b o x is refl tests))

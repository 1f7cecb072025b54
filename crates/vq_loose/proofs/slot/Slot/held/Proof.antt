-- `held` lends the value, and the slot follows it.
use Rattle.std.proofs.Common.{◌≡◌, ℕ, List, [], ◌∷◌, ◌++◌, refl, sym, subst}
use mathlib.Core.Bool.{true}
use seplogic.Ra.Ura.{Ura}
use mir.Syntax.{a_type, named}
use mir.Raw.{raw as bare}
use mir.Val.{Val, vptr}
use mir.MapTy.{inst_fn}
use base.Fraction.{full_share}
use base.Logic.{SProp, ent, sep, emp, id⊢}
use base.Fml.{Lft, Share, GName, Fml, ftrue, fsep, flft}
use prog.Wp.{WpFn}
use contract.Monad.{fact, fact_i}
use contract.BorrowLft.{◌⊑◌}
use contract.Running.{tables}
use types.Logic.{Logic, sem}
use types.Kit.{‵, raw, ◌⊛◌, some, later, at_ret, ◌$◌, ◌∵◌, !, qed, by, move, keep, drop, pick, split, split3, join, fsplit, fsplit3, fjoin, fpack, suffices, use0, use1, await, group, rewrite, done}
use types.Run.{stop, fld, load, of_opd, first, blocks, exec, addr, returns, enter}
use types.ByLocal.{alloc_all, pass_all, free_all, look_at, get, through, sets, sets_last, env}
use types.Part.{sub, whole, look_in}
use denote.Exit.{no}
use denote.RattleType.{RattleType, owns}
use denote.Memory.{cell_at, lone, mem, part_at, part_of}
use denote.RawPtr.{Ptr, block_ptr, ptr_val}
use denote.Ref.{MutRef}
use denote.Signature.{types_at, plain, mut_ref_to}
use denote.Steps.{nothing, heard, opens}
use denote.Follow.{follows, Part, lends_Part}
use denote.Param.{param, layouts}
use denote.Triple.Walked.{Stays, stay_dropped, walk_of, Goes-spent_ref}
use Rattle.core.specs.Option.{is_some}
use Rattle.core.specs.declared.option.Option.TheVariants.{Some}
use Rattle.core.proofs.alloc.Shapes.{after}
use Rattle.std.specs.Box.Ownership.{box_owns}
use Rattle.std.specs.contracts.impls.GlobalAllocator.TheImpl.{ghosts}
use Rattle.std.proofs.raw_atomic.Walks.{proved_at, leaves}
use Rattle.vq_loose.specs.declared.slot.Slot.{Slot}
use Rattle.vq_loose.specs.Lending.{with_value}
use Rattle.vq_loose.proofs.Values.{both}
use Rattle.vq_loose.proofs.Slots.{Z, S, held_is, full_out, slot_in}
use Rattle.vq_loose.specs.contracts.slot.Slot.held.{ended, clauses}
use Rattle.vq_loose.specs.contracts.slot.Slot.held.Key.{name as #self}
use Rattle.vq_loose.proofs.slot.Slot.held.Statement.{statement}
use Rattle.vq_loose.proofs.slot.Slot.held.Code as code

module _ (R : RattleType) (d : Slot R.Denot) (rb ro b o : ℕ) (h : Val) where
  -- all of the slot but its value
  abbrev Rest : Fml
  Rest = fsep (fsep (ghosts.dealloc_token d.alloc (bare (lone R.mir)) (block_ptr b o)) (Z.own_val d.alloc (h ∷ []))) (cell_at full_share (S R).mir (both (vptr b o) h ∷ []) rb ro)

  back : {M : Type 1} {𝓤 : Ura M} (𝓛 : Logic 𝓤) → d.at ≡ block_ptr b o → (w : R.Denot) → ent 𝓤 (sep 𝓤 (sem 𝓛 ((mem R).own_at w b o)) (sem 𝓛 Rest)) (sem 𝓛 ((mem (S R)).own_at (with_value d w) rb ro))
  unfolding part_of
  back 𝓛 e w =
      qed 𝓛 (‵ (part_at R full_share w b o) ∷ ‵ Rest ∷ []) ∵ move ! (1 ∷ []) $ fsplit ! $ fsplit ! $ move ! (3 ∷ []) $ fjoin ! $
      rewrite ! 0 (λ (p : Ptr). ‵ (box_owns (ghosts.dealloc_token d.alloc) R p w)) (sym e) refl $
      rewrite ! 2 (λ (p : Ptr). ‵ (cell_at full_share (S R).mir (both (ptr_val p) h ∷ []) rb ro)) (sym e) refl $
      slot_in R ! (with_value d w) h $ move ! (1 ∷ 0 ∷ []) $ fjoin ! $
      fpack ! (List Val) (λ us. fsep (cell_at full_share (S R).mir us rb ro) ((S R).own_val (with_value d w) us)) (both (ptr_val d.at) h ∷ []) $ done !

pub held_spec : {M : Type 1} → statement M
held_spec 𝓤 𝓛 𝓜 𝓡 wired T L =
    let H = 𝓛.H in let 𝓣 = tables 𝓤 H 𝓜 𝓡 𝓡.env in let R : RattleType = param 0 T in let En = ended T in let c = clauses T 𝓛 𝓜.mem 𝓡.returns in
    let inst = layouts (a_type ∷ []) (T, tt) in let fn = inst_fn inst code.function in
    let hs : Stays En.signature.params En.kept = (stay_dropped (mut_ref_to (0 ∷ []) tt (plain (λ _. S R))) no, tt) in
    proved_at 𝓛 En hs c 𝓜 𝓡 (Goes-spent_ref 𝓛 2 (0 ∷ []) tt (plain (λ _. S R)), tt) (#self inst) fn (code.unfolded 𝓤 H 𝓜 𝓡 wired (T, tt)) (λ z are.
    let κ : Lft = z.0.0.0 in let q : Share = z.0.1.0 in let μ : Lft = z.0.0.1.0 in let r : Share = z.0.1.1.0 in let m = z.0.3.0 in let rb : ℕ = m.ref_ptr.0 in let ro : ℕ = m.ref_ptr.1 in let γ : GName = m.ghost_name in let d = m.now in
    let Post : Val → SProp 𝓤 = (walk_of 𝓛 En hs c).post z in let Run : List Val → SProp 𝓤 = λ ws. WpFn 𝓤 H 𝓣.C 𝓣.Λ fn ws Post in
    qed 𝓛 (((‵ (flft κ q) ⊛ ‵ (flft μ r) ⊛ ‵ ftrue) ⊛ ‵ (owns (types_at En.signature.params z.0.0) z.0.3 z.0.4)) ∷ raw ((c z.0.0 z.0.3).requires z.1) ∷ []) ∵
    move ! (1 ∷ []) $ use1 𝓛 (raw (fact 𝓤 (μ ⊑ T.lives)) ⊛ raw (fact 𝓤 (is_some d.value ≡ true))) (id⊢ 𝓤 _) $ split ! $ drop ! $ heard ! (is_some d.value ≡ true) (λ full. let s = held_is d.value full in let x = s.0 in
    split ! $ split ! $ move ! (2 ∷ []) $ fsplit ! $ fsplit3 ! $ drop ! $ move ! (0 ∷ 1 ∷ 3 ∷ 4 ∷ []) $
    suffices ! (Run (vptr rb ro ∷ [])) (subst (λ (us : List Val). ent 𝓤 (Run (vptr rb ro ∷ [])) (Run us)) (sym (λ i. are.0.0 i ++ [])) (id⊢ 𝓤 (Run (vptr rb ro ∷ [])))) $
    enter ! 𝓣.C 𝓣.Λ fn (vptr rb ro ∷ []) Post $ alloc_all ! (λ l. pass_all ! refl ((tt, tt), tt) $ let Ev = env fn.locals l in
    opens ! tt (S R) {h = d} rb ro (λ vs. move ! (1 ∷ []) $ full_out R ! d x vs s.1 (λ b o h is ws fits.
    rewrite ! 2 (λ (us : List Val). ‵ (cell_at full_share (S R).mir us rb ro)) ws refl $ fsplit ! $
    sets ! (of_opd ! (load ! (through ! refl (fld ! refl (stop !))) (look_in ! 3 (sub ! 0 refl (whole !))))) refl (tt, tt) $
    first ! $ blocks ! $ sets_last ! (addr ! (through ! refl (stop !))) refl (tt, tt) $ exec ! 𝓣.C 𝓣.Λ Ev (after 2 fn.body) (at_ret Ev Post) $ sets ! (of_opd ! (get ! refl)) refl (tt, tt) $
    move ! (1 ∷ 2 ∷ []) $ fjoin ! $ move ! (0 ∷ 2 ∷ []) $ fjoin ! $ move ! (2 ∷ 3 ∷ 4 ∷ 1 ∷ 0 ∷ []) $ group ! 5 $
    use1 𝓛 (later (some (λ (γ' : GName). raw (Part 𝓛 (S R) R (with_value d) (named 0) κ q rb ro b o γ (sem 𝓛 (Rest R d rb ro b o h)) (back R d rb ro b o h 𝓛 is) x γ'))))
    (lends_Part 𝓛 (S R) R (with_value d) (named 0) κ q rb ro b o γ (sem 𝓛 (Rest R d rb ro b o h)) (back R d rb ro b o h 𝓛 is) ((S R).coded.code d) ((S R).coded.code d) x) $ await ! tt $ pick ! (λ γ'.
    returns ! (look_at ! 0 refl) $ free_all ! refl $
    use1 𝓛 (‵ ((MutRef (named 0) κ R).own_val (record { ref_ptr = (b, o); ghost_name = γ'; now = x }) (vptr b o ∷ [])) ⊛ ‵ (flft κ q) ⊛ ‵ (follows (S R) R γ γ' (with_value d))) (id⊢ 𝓤 _) $ split3 ! $ move ! (1 ∷ 3 ∷ []) $ join ! $
    use0 𝓛 (raw (fact 𝓤 (d.value ≡ Some x))) (fact_i 𝓤 (d.value ≡ Some x) (emp 𝓤) s.1) $ move ! (3 ∷ 0 ∷ []) $ join ! $ nothing ! $ nothing ! $ fjoin ! $
    keep ! (2 ∷ 0 ∷ 3 ∷ 1 ∷ []) $ by ! (leaves 𝓛 En hs c z (vptr b o) (record { ref_ptr = (b, o); ghost_name = γ'; now = x }) (tt, tt) (tt, tt))))))))

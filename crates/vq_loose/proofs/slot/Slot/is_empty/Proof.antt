-- `is_empty` reads the pointer, and puts all back.
use Rattle.std.proofs.Common.{◌≡◌, ℕ, List, [], ◌∷◌, ◌++◌, refl, sym, ap, ◌∙◌, subst}
use mathlib.Core.Bool.{true, false}
use mir.Syntax.{a_type}
use mir.Val.{Val, vbool, vptr}
use mir.MapTy.{inst_fn}
use base.Fraction.{full_share}
use base.Logic.{SProp, ent, emp, id⊢}
use base.Fml.{Lft, Share, ftrue, flft}
use prog.Wp.{WpFn}
use contract.Monad.{fact, fact_i}
use contract.Running.{tables}
use types.Kit.{‵, raw, ◌⊛◌, ◌$◌, ◌∵◌, !, qed, by, move, keep, drop, split, join, fsplit, fsplit3, fjoin, fjoin3, suffices, use0, rewrite, feq_i}
use types.Run.{stop, fld, load, lit, of_opd, bin, returns, enter}
use types.ByLocal.{alloc_all, pass_all, free_all, look_at, get, through, sets}
use types.Part.{sub, whole, look_in}
use denote.RattleType.{RattleType, owns}
use denote.Memory.{cell_at}
use denote.RawPtr.{Ptr, block_ptr, null_ptr, ptr_val, tests_null}
use denote.Signature.{types_at, plain}
use denote.Steps.{nothing, opens, closes}
use denote.Param.{param, layouts}
use denote.Triple.Walked.{Stays, stay_ref, walk_of, Goes-ref}
use Rattle.core.specs.Option.{is_none}
use Rattle.core.proofs.atomic.Steps.{Ptr-Good}
use Rattle.std.proofs.raw_atomic.Walks.{proved_at, leaves}
use Rattle.vq_loose.proofs.Values.{both}
use Rattle.vq_loose.proofs.Slots.{S, slot_out, slot_in, cases}
use Rattle.vq_loose.specs.contracts.slot.Slot.is_empty.{ended, clauses}
use Rattle.vq_loose.specs.contracts.slot.Slot.is_empty.Key.{name as #self}
use Rattle.vq_loose.proofs.slot.Slot.is_empty.Statement.{statement}
use Rattle.vq_loose.proofs.slot.Slot.is_empty.Code as code

pub is_empty_spec : {M : Type 1} → statement M
is_empty_spec 𝓤 𝓛 𝓜 𝓡 wired T L =
    let H = 𝓛.H in let 𝓣 = tables 𝓤 H 𝓜 𝓡 𝓡.env in let R : RattleType = param 0 T in let En = ended T in let c = clauses T 𝓛 𝓜.mem 𝓡.returns in
    let inst = layouts (a_type ∷ []) (T, tt) in let fn = inst_fn inst code.function in
    let hs : Stays En.signature.params En.kept = (stay_ref (0 ∷ []) tt (plain (λ _. S R)), tt) in
    proved_at 𝓛 En hs c 𝓜 𝓡 (Goes-ref 𝓛 2 0 tt (plain (λ _. S R)), tt) (#self inst) fn (code.unfolded 𝓤 H 𝓜 𝓡 wired (T, tt)) (λ z are.
    let κ : Lft = z.0.0.0 in let q : Share = z.0.1.0 in let μ : Lft = z.0.0.1.0 in let r : Share = z.0.1.1.0 in let m = z.0.3.0 in let rb : ℕ = m.ref_ptr.0 in let ro : ℕ = m.ref_ptr.1 in let d = m.now in
    let Post : Val → SProp 𝓤 = (walk_of 𝓛 En hs c).post z in let Run : List Val → SProp 𝓤 = λ ws. WpFn 𝓤 H 𝓣.C 𝓣.Λ fn ws Post in
    qed 𝓛 (((‵ (flft κ q) ⊛ ‵ (flft μ r) ⊛ ‵ ftrue) ⊛ ‵ (owns (types_at En.signature.params z.0.0) z.0.3 z.0.4)) ∷ raw ((c z.0.0 z.0.3).requires z.1) ∷ []) ∵
    keep ! (0 ∷ []) $ split ! $ split ! $ move ! (2 ∷ []) $ fsplit ! $ fsplit3 ! $ drop ! $ move ! (0 ∷ 1 ∷ 3 ∷ 4 ∷ []) $
    suffices ! (Run (vptr rb ro ∷ [])) (subst (λ (us : List Val). ent 𝓤 (Run (vptr rb ro ∷ [])) (Run us)) (sym (λ i. are.0.0 i ++ [])) (id⊢ 𝓤 (Run (vptr rb ro ∷ [])))) $
    enter ! 𝓣.C 𝓣.Λ fn (vptr rb ro ∷ []) Post $ alloc_all ! (λ l. pass_all ! refl ((tt, tt), tt) $
    opens ! tt (S R) {h = d} rb ro (λ vs. move ! (1 ∷ []) $ slot_out R ! d vs (λ h ws fits.
    cases R ! d.alloc d.at d.value
    (λ is none. rewrite ! 2 (λ (us : List Val). ‵ (cell_at full_share (S R).mir us rb ro)) (ws ∙ ap (λ (p : Ptr). both (ptr_val p) h ∷ []) is) refl $
    sets ! (of_opd ! (load ! (through ! refl (fld ! refl (stop !))) (look_in ! 2 (sub ! 0 refl (whole !))))) refl (Ptr-Good null_ptr) $
    sets ! (bin ! (get ! refl) (lit ! tt) tt) refl (tt, tt) $
    rewrite ! 2 (λ (p : Ptr). ‵ (cell_at full_share (S R).mir (both (ptr_val p) h ∷ []) rb ro)) (sym is) refl $
    slot_in R ! d h $ move ! (1 ∷ 0 ∷ []) $ closes ! tt (S R) d (both (ptr_val d.at) h ∷ []) rb ro $
    returns ! (look_at ! 0 refl) $ free_all ! refl $
    feq_i ! (List Val) z.0.4.0 (vptr rb ro ∷ []) are.0.0 $ fjoin3 ! $ nothing ! $ move ! (1 ∷ 0 ∷ []) $ fjoin ! $ move ! (1 ∷ 2 ∷ []) $ join ! $
    use0 𝓛 (raw (fact 𝓤 (true ≡ is_none d.value))) (fact_i 𝓤 (true ≡ is_none d.value) (emp 𝓤) (sym (ap is_none none))) $
    use0 𝓛 (raw (fact 𝓤 (d.value ≡ d.value))) (fact_i 𝓤 (d.value ≡ d.value) (emp 𝓤) refl) $ join ! $
    feq_i ! (List Val) (vbool true ∷ []) (vbool true ∷ []) refl $ keep ! (2 ∷ 3 ∷ 0 ∷ 1 ∷ []) $ by ! (leaves 𝓛 En hs c z (vbool true) true (d, tt) (tt, tt)))
    (λ b o x is some tests. rewrite ! 2 (λ (us : List Val). ‵ (cell_at full_share (S R).mir us rb ro)) (ws ∙ ap (λ (p : Ptr). both (ptr_val p) h ∷ []) is) refl $
    sets ! (of_opd ! (load ! (through ! refl (fld ! refl (stop !))) (look_in ! 2 (sub ! 0 refl (whole !))))) refl (tt, tt) $
    sets ! (bin ! (get ! refl) (lit ! tt) (tests_null (block_ptr b o) tests)) refl (tt, tt) $
    rewrite ! 2 (λ (p : Ptr). ‵ (cell_at full_share (S R).mir (both (ptr_val p) h ∷ []) rb ro)) (sym is) refl $
    slot_in R ! d h $ move ! (1 ∷ 0 ∷ []) $ closes ! tt (S R) d (both (ptr_val d.at) h ∷ []) rb ro $
    returns ! (look_at ! 0 refl) $ free_all ! refl $
    feq_i ! (List Val) z.0.4.0 (vptr rb ro ∷ []) are.0.0 $ fjoin3 ! $ nothing ! $ move ! (1 ∷ 0 ∷ []) $ fjoin ! $ move ! (1 ∷ 2 ∷ []) $ join ! $
    use0 𝓛 (raw (fact 𝓤 (false ≡ is_none d.value))) (fact_i 𝓤 (false ≡ is_none d.value) (emp 𝓤) (sym (ap is_none some))) $
    use0 𝓛 (raw (fact 𝓤 (d.value ≡ d.value))) (fact_i 𝓤 (d.value ≡ d.value) (emp 𝓤) refl) $ join ! $
    feq_i ! (List Val) (vbool false ∷ []) (vbool false ∷ []) refl $ keep ! (2 ∷ 3 ∷ 0 ∷ 1 ∷ []) $ by ! (leaves 𝓛 En hs c z (vbool false) false (d, tt) (tt, tt)))))))

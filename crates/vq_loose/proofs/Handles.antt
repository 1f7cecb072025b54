-- A struct of C's that is a slot under another name: a `&mut` to it is one to the slot. Assumes `Logic`.
--     to, from           the struct as a slot, and back
--     own, own', lay     that it owns what the slot does, and lies in memory as the slot does: by `refl`
--     slot_lent          the borrow of the struct is lent as one of the slot, and the struct follows it
use Rattle.std.proofs.Common.{◌≡◌, ℕ, List, [], ◌∷◌, refl, sym}
use seplogic.Ra.Ura.{Ura}
use mir.Syntax.{Ty, named}
use mir.Val.{Val, vptr}
use base.Fraction.{full_share}
use base.Logic.{ent, sep, id⊢}
use base.Fml.{Fml, Lft, Share, GName, ftrue, fsep, flft, fobs, fbor}
use types.Logic.{Logic, sem}
use types.SemTy.{Body}
use types.Kit.{Item, Goal, Soaks, Seq, ‵, raw, ◌⊛◌, some, later, ◌$◌, ◌∵◌, !, qed, move, keep, pick, split3, fsplit, fjoin, fpick, fpack, use1, use2, await, group, rewrite, done}
use denote.RattleType.{RattleType}
use denote.Memory.{cell_raw, cell_at, raw_all, mem, part_at, part_of}
use denote.Ref.{MutRef}
use denote.Steps.{nothing, opens}
use denote.Follow.{follows, Part, lends_Part}
use Rattle.vq_loose.specs.declared.slot.Slot.{Slot}
use Rattle.vq_loose.proofs.Slots.{S}

module _ (V T : RattleType) (to : T.Denot → Slot V.Denot) (from : Slot V.Denot → T.Denot) (own : (d : T.Denot) → T.own_val d ≡ (S V).own_val (to d)) (own' : (w : Slot V.Denot) → T.own_val (from w) ≡ (S V).own_val w) (lay : raw_all T.mir ≡ raw_all (S V).mir) where
  module _ {M : Type 1} {𝓤 : Ura M} (𝓛 : Logic 𝓤) (rb ro : ℕ) where
    there : (d : T.Denot) (vs : List Val) → ent 𝓤 (sep 𝓤 (sem 𝓛 (cell_at full_share T.mir vs rb ro)) (sem 𝓛 (T.own_val d vs))) (sem 𝓛 ((mem (S V)).own_at (to d) rb ro))
    unfolding part_of
    there d vs = qed 𝓛 (‵ (cell_at full_share T.mir vs rb ro) ∷ ‵ (T.own_val d vs) ∷ []) ∵
        rewrite ! 0 (λ (τs : List Ty). ‵ (cell_raw full_share τs vs rb ro)) lay refl $ rewrite ! 1 (λ (o : List Val → Fml). ‵ (o vs)) (own d) refl $
        fjoin ! $ fpack ! (List Val) (λ us. fsep (cell_at full_share (S V).mir us rb ro) ((S V).own_val (to d) us)) vs $ done !

    back : (w : Slot V.Denot) → ent 𝓤 (sep 𝓤 (sem 𝓛 ((mem (S V)).own_at w rb ro)) (sem 𝓛 ftrue)) (sem 𝓛 ((mem T).own_at (from w) rb ro))
    unfolding part_of
    back w = qed 𝓛 (‵ (part_at (S V) full_share w rb ro) ∷ ‵ ftrue ∷ []) ∵ fpick ! (λ vs. fsplit ! $
        rewrite ! 0 (λ (τs : List Ty). ‵ (cell_raw full_share τs vs rb ro)) (sym lay) refl $ rewrite ! 1 (λ (o : List Val → Fml). ‵ (o vs)) (sym (own' w)) refl $
        fjoin ! $ fpack ! (List Val) (λ us. fsep (cell_at full_share T.mir us rb ro) (T.own_val (from w) us)) vs $ keep ! (0 ∷ []) $ done !)

  module _ {M : Type 1} {𝓤 : Ura M} {𝓛 : Logic 𝓤} {K : Type 0} {Γ : List (Item 𝓤)} {G : Goal 𝓤 𝓛.H} where
    pub slot_lent : K → Soaks G → {κ : Lft} {q : Share} {γ : GName} (d : T.Denot) (rb ro : ℕ)
        → ((γ' : GName) → Seq K 𝓛 (‵ ((MutRef (named 0) κ (S V)).own_val (record { ref_ptr = (rb, ro); ghost_name = γ'; now = to d }) (vptr rb ro ∷ [])) ∷ ‵ (flft κ q) ∷ ‵ (follows T (S V) γ γ' from) ∷ Γ) G)
        → Seq K 𝓛 (‵ (fobs γ (T.coded.code d)) ∷ ‵ (fbor κ (Body (mem T) rb ro γ)) ∷ ‵ (flft κ q) ∷ Γ) G
    slot_lent t soaks {κ} {q} {γ} d rb ro k =
        opens t soaks T {h = d} rb ro (λ vs. use2 𝓛 (‵ ((mem (S V)).own_at (to d) rb ro)) (there 𝓛 rb ro d vs) $ nothing t $ move t (2 ∷ 3 ∷ 4 ∷ 1 ∷ 0 ∷ []) $ group t 5 $
        use1 𝓛 (later (some (λ (γ' : GName). raw (Part 𝓛 T (S V) from (named 0) κ q rb ro rb ro γ (sem 𝓛 ftrue) (back 𝓛 rb ro) (to d) γ'))))
        (lends_Part 𝓛 T (S V) from (named 0) κ q rb ro rb ro γ (sem 𝓛 ftrue) (back 𝓛 rb ro) (T.coded.code d) (T.coded.code d) (to d)) $ await t soaks $ pick t (λ γ'.
        use1 𝓛 (‵ ((MutRef (named 0) κ (S V)).own_val (record { ref_ptr = (rb, ro); ghost_name = γ'; now = to d }) (vptr rb ro ∷ [])) ⊛ ‵ (flft κ q) ⊛ ‵ (follows T (S V) γ γ' from)) (id⊢ 𝓤 _) $ split3 t $ k γ'))

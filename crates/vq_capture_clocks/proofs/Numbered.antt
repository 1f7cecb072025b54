-- Cells of numbers in a map.
use Rattle.std.proofs.Common.{◌≡◌, ◌<◌, ◌∙◌, Bool, true, false, ℕ, List, cond, refl, sym, ap, subst, arith, Option, Some, None}
use Rattle.std.specs.Prelude.{nat_lt, ◌==◌, ◌/◌, ◌%◌}
use Rattle.std.specs.Option.{option_map_or}
use Rattle.std.specs.Ordering.{nat_cmp, is_eq}
use Rattle.std.specs.declared.cmp.Ordering.TheVariants.{Less, Equal, Greater}
use Rattle.std.specs.BTreeMap.{BTreeMap, is_at, get}
use Rattle.std.proofs.lemmas.Bool.{eqb-true}
use Rattle.vq_ground.proofs.Bools.{never}
use Rattle.vq_capture_clocks.specs.declared.cells.SiteCells.{SiteCells}
use Rattle.vq_capture_clocks.specs.declared.gone.GoneLanes.{GoneLanes}
use Rattle.vq_capture_clocks.specs.Cells.{cell_in, cells_of}
use Rattle.vq_capture_clocks.specs.Clocks.{TellsAs, no_clock}
use Rattle.vq_capture_clocks.specs.Gone.{gone_at, gone_place, is_gone}
use Rattle.vq_capture_clocks.proofs.Cleared.{tells_same}

pub same_number : (r k : ℕ) → is_eq (nat_cmp r k) ≡ true → r ≡ k
same_number r k = by (nat_lt r k) (r == k) refl
  where
    by : (l e : Bool) → (r == k) ≡ e → is_eq (cond l Less (cond e Equal Greater)) ≡ true → r ≡ k
    by true e q h = never h
    by false true q h = eqb-true r k q
    by false false q h = never h

-- A number whose cells are cleared, but for what is gone, and put back unless they say nothing
module _ (least : ℕ → ℕ) (ends : List GoneLanes) (old mid : BTreeMap ℕ SiteCells) (n : ℕ) (gone : (q : ℕ) → get nat_cmp mid q ≡ cond (is_at (nat_cmp n) q) None (get nat_cmp old q)) (was now : SiteCells) (here : get nat_cmp old n ≡ Some was) (tell : (p : ℕ) → p < 15 → gone_place (gone_at ends n) p ≡ false → TellsAs least (cell_in now.groups.items p) (cell_in was.groups.items p)) where
  had : (k : ℕ) → is_at (nat_cmp n) (k / 15) ≡ true → cells_of old k ≡ cell_in was.groups.items (k % 15)
  had k e =
      ap (λ (o : Option SiteCells). option_map_or (λ x. cell_in x.groups.items (k % 15)) o no_clock)
      (ap (λ (q : ℕ). get nat_cmp old q) (sym (same_number n (k / 15) e)) ∙ here)

  told : (k : ℕ) → is_gone ends k ≡ false → is_at (nat_cmp n) (k / 15) ≡ true → TellsAs least (cell_in now.groups.items (k % 15)) (cell_in was.groups.items (k % 15))
  told k g e =
      tell (k % 15) (omega arith)
      (ap (λ (q : ℕ). gone_place (gone_at ends q) (k % 15)) (same_number n (k / 15) e) ∙ g)

  at_map : (m : BTreeMap ℕ SiteCells) (k : ℕ) (o : Option SiteCells) → get nat_cmp m (k / 15) ≡ o → cells_of m k ≡ option_map_or (λ x. cell_in x.groups.items (k % 15)) o no_clock
  at_map m k o e = ap (λ (o : Option SiteCells). option_map_or (λ x. cell_in x.groups.items (k % 15)) o no_clock) e

  beside : (k : ℕ) → is_at (nat_cmp n) (k / 15) ≡ false → get nat_cmp mid (k / 15) ≡ get nat_cmp old (k / 15)
  beside k e = gone (k / 15) ∙ ap (λ (b : Bool). cond b None (get nat_cmp old (k / 15))) e

  pub cleared_gone : ((p : ℕ) → cell_in now.groups.items p ≡ no_clock) → (k : ℕ) → is_gone ends k ≡ false → TellsAs least (cells_of mid k) (cells_of old k)
  cleared_gone none k g = by (is_at (nat_cmp n) (k / 15)) refl
    where
      by : (b : Bool) → is_at (nat_cmp n) (k / 15) ≡ b → TellsAs least (cells_of mid k) (cells_of old k)
      by true e =
          subst (λ (c : ℕ → ℕ). TellsAs least c (cells_of old k))
          (sym (at_map mid k None (gone (k / 15) ∙ ap (λ (b : Bool). cond b None (get nat_cmp old (k / 15))) e)))
          (subst (λ (c : ℕ → ℕ). TellsAs least no_clock c) (sym (had k e))
          (subst (λ (c : ℕ → ℕ). TellsAs least c (cell_in was.groups.items (k % 15))) (none (k % 15)) (told k g e)))
      by false e = tells_same least (cells_of mid k) (cells_of old k) (at_map mid k (get nat_cmp old (k / 15)) (beside k e))

  pub cleared_back : (new : BTreeMap ℕ SiteCells) → ((q : ℕ) → get nat_cmp new q ≡ cond (is_at (nat_cmp n) q) (Some now) (get nat_cmp mid q)) → (k : ℕ) → is_gone ends k ≡ false → TellsAs least (cells_of new k) (cells_of old k)
  cleared_back new back k g = by (is_at (nat_cmp n) (k / 15)) refl
    where
      by : (b : Bool) → is_at (nat_cmp n) (k / 15) ≡ b → TellsAs least (cells_of new k) (cells_of old k)
      by true e =
          subst (λ (c : ℕ → ℕ). TellsAs least c (cells_of old k))
          (sym (at_map new k (Some now) (back (k / 15) ∙ ap (λ (b : Bool). cond b (Some now) (get nat_cmp mid (k / 15))) e)))
          (subst (λ (c : ℕ → ℕ). TellsAs least (cell_in now.groups.items (k % 15)) c) (sym (had k e)) (told k g e))
      by false e =
          tells_same least (cells_of new k) (cells_of old k)
          (at_map new k (get nat_cmp old (k / 15)) (back (k / 15) ∙ (ap (λ (b : Bool). cond b (Some now) (get nat_cmp mid (k / 15))) e ∙ beside k e)))

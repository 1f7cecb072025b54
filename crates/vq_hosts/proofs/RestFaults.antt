-- The fault of a line of the rest: a script's, or one that only blocks bring.
use Rattle.std.proofs.Common.{◌≡◌, ℕ, Bool, true, false, ◌||◌, ◌&&◌, not, cond, List, Option, Some, None, refl, sym, ap, ◌∙◌}
use Rattle.std.specs.Prelude.{find}
use Rattle.std.specs.Option.{option_map, option_map_or}
use Rattle.vq_model.specs.declared.statement.FaultKind.{FaultKind}
use Rattle.vq_model.specs.declared.statement.FaultKind.TheVariants.{Syntax, Order, Number, Name, Twice, Range, Overlap, Limit}
use Rattle.vq_model.specs.declared.statement.Form.TheVariants.{Plain}
use Rattle.vq_model.specs.LineFaults.{fault_of, has_fault}
use Rattle.vq_blocks.specs.Blocks.{Told, is_of_block}
use Rattle.vq_blocks.specs.BlockFaults.{declares_late, has_block_fault, has_rest_fault, hosts_fault, passes_jobs}
use Rattle.vq_model.specs.LineFaults.{kinds}
use Rattle.vq_hosts.specs.BlockTests.{is_syntax, late_kind}

-- the first kind of these
abbrev first_of : (a b c d e f g h : Bool) → Option FaultKind
first_of a b c d e f g h =
    cond a (Some Syntax) (cond b (Some Order) (cond c (Some Number) (cond d (Some Name) (cond e (Some Twice)
    (cond f (Some Range) (cond g (Some Overlap) (cond h (Some Limit) None)))))))

-- no kind but the first is of syntax
no_syntax : (b c d e f g h : Bool) → option_map_or is_syntax (first_of false b c d e f g h) false ≡ false
no_syntax true c d e f g h = refl
no_syntax false true d e f g h = refl
no_syntax false false true e f g h = refl
no_syntax false false false true f g h = refl
no_syntax false false false false true g h = refl
no_syntax false false false false false true h = refl
no_syntax false false false false false false true = refl
no_syntax false false false false false false false = refl

-- a limit more is the last kind
with_limit : (c d e f g h more : Bool) (kind : FaultKind) → first_of false false c d e f g h ≡ Some kind →
    first_of false false c d e f g (h || more) ≡ Some kind
with_limit true d e f g h more kind q = q
with_limit false true e f g h more kind q = q
with_limit false false true f g h more kind q = q
with_limit false false false true g h more kind q = q
with_limit false false false false true h more kind q = q
with_limit false false false false false true more kind q = q
with_limit false false false false false false more kind q = absurd (cc)

-- a fault of the script is one of the line, but for a late declaration
with_late : (b late c d e f g h more : Bool) (kind : FaultKind) → first_of false b c d e f g h ≡ Some kind →
    first_of false (b || late) c d e f g (h || more) ≡ Some (cond late Order kind)
with_late true true c d e f g h more kind q = refl
with_late true false c d e f g h more kind q = q
with_late false true c d e f g h more kind q = refl
with_late false false c d e f g h more kind q = with_limit c d e f g h more kind q

faulty : (a b c d e f g h late more : Bool) (kind : FaultKind) → first_of a b c d e f g h ≡ Some kind →
    first_of a (b || late) c d e f g (h || more) ≡ Some (late_kind late kind)
faulty true b c d e f g h late more kind q =
    ap (λ (o : Option FaultKind). option_map (late_kind late) o) q
faulty false b c d e f g h late more kind q =
    let other : is_syntax kind ≡ false = sym (ap (λ (o : Option FaultKind). option_map_or is_syntax o false) q) ∙ no_syntax b c d e f g h in
    with_late b late c d e f g h more kind q
    ∙ sym (ap (λ (t : Bool). Some (cond (not t && late) Order kind)) other)

-- where the script has no fault, a line may be late, or a job too many
faultless : (a b c d e f g h late more : Bool) → first_of a b c d e f g h ≡ None →
    first_of a (b || late) c d e f g (h || more) ≡ cond late (Some Order) (cond more (Some Limit) None)
faultless true b c d e f g h late more q = absurd (cc)
faultless false true c d e f g h late more q = absurd (cc)
faultless false false true d e f g h late more q = absurd (cc)
faultless false false false true e f g h late more q = absurd (cc)
faultless false false false false true f g h late more q = absurd (cc)
faultless false false false false false true g h late more q = absurd (cc)
faultless false false false false false false true h late more q = absurd (cc)
faultless false false false false false false false true late more q = absurd (cc)
faultless false false false false false false false false late more q = refl

module _ (told : Told) (words : List (List ℕ)) (outside : is_of_block told words ≡ false) where
  rest_fault : hosts_fault told words ≡ find (has_rest_fault told words) kinds
  rest_fault = ap (λ (b : Bool). find (cond b (has_block_fault told words) (has_rest_fault told words)) kinds) outside

  pub rest_faulty : (kind : FaultKind) → fault_of Plain told.rest words ≡ Some kind →
      hosts_fault told words ≡ Some (late_kind (declares_late told words) kind)
  rest_faulty kind q =
      rest_fault ∙ faulty (has_fault Plain told.rest words Syntax) (has_fault Plain told.rest words Order)
      (has_fault Plain told.rest words Number) (has_fault Plain told.rest words Name)
      (has_fault Plain told.rest words Twice) (has_fault Plain told.rest words Range)
      (has_fault Plain told.rest words Overlap) (has_fault Plain told.rest words Limit)
      (declares_late told words) (passes_jobs told words) kind q

  pub rest_faultless : fault_of Plain told.rest words ≡ None →
      hosts_fault told words
      ≡ cond (declares_late told words) (Some Order) (cond (passes_jobs told words) (Some Limit) None)
  rest_faultless q =
      rest_fault ∙ faultless (has_fault Plain told.rest words Syntax) (has_fault Plain told.rest words Order)
      (has_fault Plain told.rest words Number) (has_fault Plain told.rest words Name)
      (has_fault Plain told.rest words Twice) (has_fault Plain told.rest words Range)
      (has_fault Plain told.rest words Overlap) (has_fault Plain told.rest words Limit)
      (declares_late told words) (passes_jobs told words) q

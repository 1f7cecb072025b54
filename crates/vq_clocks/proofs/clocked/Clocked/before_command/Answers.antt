use Rattle.std.proofs.Common.{◌≡◌, ◌↔◌, ℕ, List, true, length, get_or, ltb, sym, ap, ◌∙◌, subst}
use Rattle.std.specs.List.{slice_get}
use Rattle.vq_model.specs.HappensBefore.{HappensBefore, HappensBeforeCommand}
use Rattle.vq_model.specs.Plan.{Plan}
use Rattle.vq_clocks.specs.declared.clocks.parts.Parts.{Parts}
use Rattle.vq_clocks.specs.PartClocks.{AreParts, HaveParts}
use Rattle.vq_clocks.proofs.PartLaws.{both_then, found_parts, no_parts, whole_exact}
use Rattle.vq_clocks.proofs.clocked.Clocked.before_command.Goals as goal

pub returns-in-None : goal.returns-in-None
returns-in-None c =
    let q = c.self.inside.run in
    let none = ap (λ (xs : List Parts). slice_get xs c.args.j) (sym c.deref.ensures.value) ∙ no_parts c.deref.result.now c.args.j c.in-None.ensures.lookup.0 in
    both_then c.before-in-None.ensures
    (subst (λ (p : Plan). HappensBefore p c.args.i c.args.j ↔ HappensBeforeCommand p c.args.i c.args.j c.args.d) c.self.view_is
    (whole_exact q c.args.i c.args.j c.args.d (c.self.invariant.of_parts.whole c.args.j none)))

-- the clocks of a job's parts are those that are kept
kept_parts : (p : Plan) (all xs : List Parts) (j : ℕ) (x : Parts) → HaveParts p all → xs ≡ all → (true ≡ ltb j (length xs)) × (x ≡ get_or xs j x) → AreParts p j x
kept_parts p all xs j x have e found = have.each j x (ap (λ (ys : List Parts). slice_get ys j) (sym e) ∙ found_parts xs j x found)

pub before_place-requires-clause-parts : goal.before_place-requires-clause-parts
before_place-requires-clause-parts c =
    let parts = c.in-Some.parts.now in
    subst (λ (p : Plan). AreParts p c.args.j parts) c.self.view_is
    (kept_parts c.self.inside.run c.self.inside.parts.items c.deref.result.now c.args.j parts c.self.invariant.of_parts c.deref.ensures.value (c.in-Some.ensures.lookup.0, c.in-Some.ensures.lookup.1))

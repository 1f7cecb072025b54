use Rattle.std.proofs.Common.{◌≡◌, ◌++◌, ◌∷◌, [], All, List, arith, sym, subst, ◌∙◌}
use Rattle.std.proofs.lemmas.List.Elements.{All-push}
use Rattle.vq_script.specs.declared.names.Entry.{Entry}
use Rattle.vq_script.proofs.NamesFound.{IsFound, still_found, now_found}
use Rattle.vq_script.proofs.names.Names.insert.Goals as goal

pub invariant_of-self-2 : goal.invariant_of-self-2
invariant_of-self-2 c =
    let old = c.args.self.now in
    let new = c.insert.new.self in
    let updates = c.in_ok-insert.ensures.updates in
    let entry : Entry = record { name = c.in_ok-copy.copy; item = c.args.item } in
    let pushed : c.push_reserved.new.self.items ≡ old.entries.items ++ entry ∷ [] = grind arith in
    record {
      found = subst (λ (entries : List Entry). All (IsFound new) entries) (sym pushed)
          (All-push (IsFound new) old.entries.items entry
          (still_found old.map new c.args.name c.args.item updates c.requires old.entries.items old.found)
          (now_found old.map new c.args.name c.args.item updates c.in_ok-copy.copy.items
          (c.in_ok-copy.ensures.items ∙ c.deref.ensures.value)));
    }

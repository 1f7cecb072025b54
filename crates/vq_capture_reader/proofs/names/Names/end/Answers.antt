use Rattle.std.proofs.Common.{◌≡◌, List, sym, subst, rules}
use Rattle.vq_capture.specs.Context.{Named, without_name}
use Rattle.vq_capture_reader.specs.NameMaps.{StandsFor, past_names}
use Rattle.vq_capture_reader.proofs.NameTables.{ended_now}
use Rattle.vq_capture_reader.proofs.names.Names.end.Goals as goal

pub invariant_of-self : goal.invariant_of-self
invariant_of-self c = record {
  all =
      let names : List Named = past_names c.args.self.now.past.value in
      let is : past_names c.of-2.result.value ≡ without_name names c.args.word.now = search rules in
      subst (λ (ns : List Named). StandsFor c.remove.new.self ns) (sym is)
      (ended_now c.args.self.now.map names c.args.self.now.all c.args.word.now c.remove.new.self c.remove.ensures.updates);
}

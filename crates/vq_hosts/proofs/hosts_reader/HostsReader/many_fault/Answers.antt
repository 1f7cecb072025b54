use Rattle.std.proofs.Common.{sym, ◌∙◌, arith}
use Rattle.vq_forms.proofs.Cited.{cut_long}
use Rattle.vq_model.specs.declared.statement.Form.TheVariants.{Plain}
use Rattle.vq_model.specs.Text.{words_in}
use Rattle.vq_lexer.specs.Words.{texts}
use Rattle.vq_hosts.proofs.ManyWords.{many_rest}
use Rattle.vq_hosts.proofs.RestLines.{faulty_words}
use Rattle.vq_hosts.proofs.hosts_reader.HostsReader.many_fault.Goals as goal

pub many_fault-requires : goal.many_fault-requires
many_fault-requires c = cut_long (texts c.args.words.now) (words_in c.args.part.now) c.requires

pub returns-then-self : goal.returns-then-self
returns-then-self c = λ told n h.
    let words = words_in c.args.part.now in
    let many = cut_long (texts c.args.words.now) words c.requires in
    faulty_words told n words c.many_fault.result (omega arith)
    (c.many_fault.ensures told h.has_rest (sym h.has_threads.is_inside ∙ c.if-self.true))

pub returns-else-self : goal.returns-else-self
returns-else-self c = λ told n h.
    let words = words_in c.args.part.now in
    many_rest told n words c.many_fault-else-self.result (cut_long (texts c.args.words.now) words c.requires)
    (sym h.has_threads.is_inside ∙ c.if-self.false) (c.many_fault-else-self.ensures Plain told.rest n h.has_rest)

use Rattle.std.proofs.Common.{◌∙◌, sym, arith}
use Rattle.std.proofs.lemmas.Bool.{le-ltb}
use Rattle.doc_spans.specs.Kept.{standing_in}
use Rattle.doc_spans.proofs.Added.{not_too_many}
use Rattle.doc_spans.proofs.standing.Standing.has_too_many.Goals as goal

pub returns-else-self : goal.returns-else-self
returns-else-self c = le-ltb _ _ c.if-self.false ∙ sym (not_too_many (standing_in c.args.self.now) c.args.found (omega (arith, c.if-self.false)))

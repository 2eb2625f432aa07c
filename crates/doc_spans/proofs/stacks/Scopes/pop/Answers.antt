use Rattle.std.proofs.Common.{◌∙◌, ap, arith}
use Rattle.doc_spans.specs.Declarations.{nearest_first}
use Rattle.doc_spans.proofs.ScopeStacks.{closed, tags_left}
use Rattle.doc_spans.proofs.stacks.Scopes.pop.Goals as goal

pub invariant_of-self : goal.invariant_of-self
invariant_of-self c = record {
  scoped = ap nearest_first c.truncate.ensures.items
      ∙ closed c.args.self.now.tags.items c.pop.new.self.items c.in-Some.opened c.args.self.now.declarations.items c.saturating_sub-left.result
      c.in-Some.ensures.items c.args.self.now.scoped (omega (arith, c.saturating_sub-left.ensures, c.len.ensures));
}

pub returns-in-Some : goal.returns-in-Some
returns-in-Some c = tags_left c.args.self.now.tags.items c.pop.new.self.items c.in-Some.opened c.in-Some.ensures.items

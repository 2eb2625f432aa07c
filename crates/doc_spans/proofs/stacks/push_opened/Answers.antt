use Rattle.doc_spans.proofs.ScopeStacks.{opened_push}
use Rattle.doc_spans.proofs.stacks.push_opened.Goals as goal

pub returns-clause-tags : goal.returns-clause-tags
returns-clause-tags c = opened_push c.args.tags.now.items c.push.new.self.items _ c.in_ok-push.ensures.items

pub returns-clause-inner : goal.returns-clause-inner
returns-clause-inner c = (_, c.in_ok-push.ensures.items)

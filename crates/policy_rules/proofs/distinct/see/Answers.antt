use Rattle.std.proofs.Common.{◌∙◌, ap, not, ◌||◌}
use Rattle.std.specs.Str.{bytes_eq}
use Rattle.policy_rules.proofs.SeenTexts.{found, put, has}
use Rattle.policy_rules.proofs.distinct.see.Goals as goal

pub returns-clause-new : goal.returns-clause-new
returns-clause-new c = λ texts held. c.in_ok-insert.ensures.added ∙ ap not (found c.args.text.now c.args.seen.now.keys ∙ held c.args.text.now)

pub returns-clause-seen : goal.returns-clause-seen
returns-clause-seen c = λ texts held q.
    ap (has q) c.in_ok-insert.ensures.keys ∙ put q c.args.seen.now.keys c.args.text ∙ ap (λ b. bytes_eq q c.args.text.now || b) (held q)

use Rattle.std.proofs.Common.{◌≡◌, ◌∙◌, decimal}
use Rattle.xades_cli.proofs.lines.put_refusal.Goals as goal

pub returns-clause-ok : goal.returns-clause-ok
returns-clause-ok g c =
    let first : c.as_bytes-item.result.now ≡ decimal c.args.item = c.as_bytes-item.ensures.value ∙ c.format.ensures.text in
    let second : c.as_bytes-number.result.now ≡ decimal c.args.number = c.as_bytes-number.ensures.value ∙ c.format-2.ensures.text in
    rw (← first, ← second) c.put_line.ensures.ok

pub returns-clause-part : goal.returns-clause-part
returns-clause-part g c =
    let first : c.as_bytes-item.result.now ≡ decimal c.args.item = c.as_bytes-item.ensures.value ∙ c.format.ensures.text in
    let second : c.as_bytes-number.result.now ≡ decimal c.args.number = c.as_bytes-number.ensures.value ∙ c.format-2.ensures.text in
    rw (← first, ← second) c.put_line.ensures.part

use Rattle.std.proofs.Common.{◌≡◌, ◌∙◌, decimal}
use Rattle.xades_cli.proofs.lines.put_policy.Goals as goal

pub returns-in-Field-clause-ok : goal.returns-in-Field-clause-ok
returns-in-Field-clause-ok g c =
    let text : c.as_bytes.result.now ≡ c.in-Field.name = c.as_bytes.ensures.value ∙ c.as_str.ensures in
    rw (c.in-Field.is, ← text) c.put_line-in-Field.ensures.ok

pub returns-in-Anchor-clause-ok : goal.returns-in-Anchor-clause-ok
returns-in-Anchor-clause-ok g c =
    let text : c.as_bytes-in-Anchor.result.now ≡ decimal c.in-Anchor.index = c.as_bytes-in-Anchor.ensures.value ∙ c.format.ensures.text in
    rw (c.in-Anchor.is, ← text) c.put_line-in-Anchor.ensures.ok

pub returns-in-OutOfMemory-clause-ok : goal.returns-in-OutOfMemory-clause-ok
returns-in-OutOfMemory-clause-ok g c = rw c.in-OutOfMemory.is c.put_line-in-OutOfMemory.ensures.ok

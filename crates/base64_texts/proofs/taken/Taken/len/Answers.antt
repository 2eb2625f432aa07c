use Rattle.std.proofs.Common.{arith, ℕ, ◌+◌, ◌*◌, ◌/◌, List, length, ap, ◌∙◌}
use Rattle.base64_texts.proofs.Groups.{length-taken}
use Rattle.base64_texts.proofs.taken.Taken.len.Goals as goal

pub returns : goal.returns
returns c =
    let inside = c.self.inside in
    ap (λ (x : List ℕ). length x / 3 * 4 + inside.filled) c.as_slice.ensures.value
    ∙ length-taken inside.octets inside.block inside.filled c.self.invariant.groups (omega arith) ∙ ap (λ (x : List ℕ). length x) c.self.view_is

use Rattle.std.proofs.Common.{◌≡◌, true, ap, sym, ◌∙◌}
use Rattle.base64_texts.specs.declared.stages.Stage.TheVariants.{Start}
use Rattle.base64_texts.specs.Stages.{after_all, is_open}
use Rattle.base64_texts.proofs.Pushed.{goes_further}
use Rattle.base64_texts.proofs.decoder.Decoder.push_octet.Goals as goal

pub push-requires : goal.push-requires
push-requires c =
    let open_next : is_open c.after-next.result ≡ true = sym c.is_open.ensures ∙ c.if-not-is_open.false in
    ap is_open (goes_further c.self.inside.stage c.after-next.result c.self.inside.taken c.args.octet c.self.invariant c.after-next.ensures open_next) ∙ open_next

pub invariant_of-self-2 : goal.invariant_of-self-2
invariant_of-self-2 c = λ open_next.
    ap (after_all Start) c.in-Ok.ensures.ok ∙ goes_further c.self.inside.stage c.after-next.result c.self.inside.taken c.args.octet c.self.invariant c.after-next.ensures open_next

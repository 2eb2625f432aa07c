use Rattle.std.proofs.Common.{◌≡◌, ◌+◌, ◌++◌, length, arith, ◌∙◌, ap, length-append, length-drop}
use Rattle.std.proofs.lemmas.List.{take_all}
use Rattle.sha2.proofs.Facts256.{length-sha256}
use Rattle.lms_verify.specs.LmOts.{u16str, u32str, chain}
use Rattle.lms_verify.proofs.Texts.{first_text, step_is, stepped}
use Rattle.lms_verify.proofs.Chains.{chain_none, chain_more}
use Rattle.lms_verify.proofs.lm_ots.chain.Goals as goal

pub steps-init : goal.steps-init
steps-init c = rw (chain_none, c.step_text-text.ensures) (first_text c.args.id.now c.args.q c.args.i c.args.start.now c.told-id c.requires.whole)

pub steps-preserved : goal.steps-preserved
steps-preserved c =
    let front = c.args.id.now ++ u32str c.args.q ++ u16str c.args.i in
    let x = c.args.from + c.steps.n in
    let long : length front ≡ 22 = let id = c.told-id in simp length-append (omega arith) in
    let v = chain c.args.id.now c.args.q c.args.i c.args.from c.steps.n c.args.start.now in
    let is_step = c.digest-value.ensures ∙ step_is c.args.id.now c.args.q c.args.i x c.steps.text v c.steps.invariant in
    let wide : length c.digest-value.result ≡ 32 = rw c.digest-value.ensures (length-sha256 _) in
    rw (chain_more, ← is_step, c.put.ensures) (stepped c.steps.text front v c.digest-value.result x long wide c.steps.invariant)

pub returns : goal.returns
returns c =
    let wide = length-drop 23 c.steps.text in
    let long = c.steps.invariant.long in
    let last : c.steps.n ≡ c.args.count = omega arith in
    c.copy_from_slice.ensures.after ∙ take_all 32 _ (omega arith) ∙ c.steps.invariant.value_is ∙ ap (λ n. chain c.args.id.now c.args.q c.args.i c.args.from n c.args.start.now) last

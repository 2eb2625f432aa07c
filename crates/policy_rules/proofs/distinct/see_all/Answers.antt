use Rattle.std.proofs.Common.{sym, ◌∙◌, ◌∷◌}
use Rattle.std.proofs.lemmas.Result.{err_from_is_err_and}
use Rattle.policy_rules.proofs.SeenTexts.{uri_none, uri_one, uri_end}
use Rattle.policy_rules.proofs.distinct.see_all.Goals as goal

pub returns-in_err-see : goal.returns-in_err-see
returns-in_err-see c = λ texts more held.
    let so_far = c.loop-uri.invariant texts more held in
    let e = c.in_err-see.ensures.new so_far.0 so_far.1 in
    let p = err_from_is_err_and c.from_residual.result c.from_residual.ensures.1 in
    rw p.1 (p.2 ∙ e)

pub returns-then-not-branch : goal.returns-then-not-branch
returns-then-not-branch c = λ texts more held.
    let so_far = c.loop-uri.invariant texts more held in
    let new = c.in_ok-see.ensures.new so_far.0 so_far.1 in
    sym so_far.2
    ∙ uri_none so_far.0 c.args.uris.now c.loop-uri.uri-index c.uri-item.result c.as_str.result.now more c.loop-uri-test.true c.uri-item.is c.as_str.ensures.value (sym c.if-not-branch.true ∙ new)

pub loop-uri-preserved : goal.loop-uri-preserved
loop-uri-preserved c = λ texts more held.
    let so_far = c.loop-uri.invariant texts more held in
    let new = c.in_ok-see.ensures.new so_far.0 so_far.1 in (
      c.as_str.result.now ∷ so_far.0,
      c.in_ok-see.ensures.seen so_far.0 so_far.1,
      sym (uri_one so_far.0 c.args.uris.now c.loop-uri.uri-index c.uri-item.result c.as_str.result.now more c.loop-uri-test.true c.uri-item.is c.as_str.ensures.value (sym c.if-not-branch.false ∙ new))
          ∙ so_far.2,
    )

pub returns : goal.returns
returns c = λ texts more held.
    let so_far = c.loop-uri.invariant texts more held in
    (so_far.0, so_far.1, sym so_far.2 ∙ uri_end so_far.0 c.args.uris.now c.loop-uri.uri-index more c.loop-uri-test.false)

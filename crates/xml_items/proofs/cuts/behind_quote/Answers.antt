use Rattle.std.proofs.Common.{None, Some, cond, ap, arith}
use Rattle.std.proofs.lemmas.Bool.{eq-eqb, ne_eqb}
use Rattle.xml_items.proofs.TagEnds.{quoted_more}
use Rattle.xml_items.proofs.cuts.behind_quote.Goals as goal

pub returns-then-byte-quote-clause-cut : goal.returns-then-byte-quote-clause-cut
returns-then-byte-quote-clause-cut c =
    quoted_more c.args.bytes.now c.args.start c.quoted.at c.args.quote None c.quoted.invariant.0 c.quoted-test.true
    (ap (λ b. cond b None (Some c.args.quote)) (eq-eqb _ _ c.if-byte-quote.true)) c.quoted.invariant.2

pub quoted-preserved : goal.quoted-preserved
quoted-preserved c = (
  omega (arith, c.quoted.invariant.0),
  omega (arith, c.quoted-test.true),
  quoted_more c.args.bytes.now c.args.start c.quoted.at c.args.quote (Some c.args.quote) c.quoted.invariant.0 c.quoted-test.true
      (ap (λ b. cond b None (Some c.args.quote)) (ne_eqb _ _ c.if-byte-quote.false)) c.quoted.invariant.2,
)

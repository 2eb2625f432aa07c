use Rattle.std.proofs.Common.{sym}
use Rattle.reference_chains.proofs.references.Reference.of.Goals as goal

pub returns-in-Some-clause-is : goal.returns-in-Some-clause-is
returns-in-Some-clause-is c = record {
  there = c.requires.there;
  found_is = c.requires.found;
  has_place = c.requires.has;
  chain_is = sym c.in-Some.ensures.chain;
  has_chain = c.in-Some.ensures.has;
}

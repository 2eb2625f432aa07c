use Rattle.std.proofs.Common.{arith}
use Rattle.std.proofs.lemmas.Bool.Decides.{nat_tests}
use Rattle.std.specs.Char.{encode_utf8}
use Rattle.xml_items.proofs.value_texts.encoded_len.Goals as goal

pub returns-in-128-to-2047-clause-count : goal.returns-in-128-to-2047-clause-count
unfolding encode_utf8
returns-in-128-to-2047-clause-count c = grind (arith, nat_tests)

pub returns-in-2048-to-65535-clause-count : goal.returns-in-2048-to-65535-clause-count
unfolding encode_utf8
returns-in-2048-to-65535-clause-count c = grind (arith, nat_tests)

pub returns-in_default-clause-count : goal.returns-in_default-clause-count
unfolding encode_utf8
returns-in_default-clause-count c = grind (arith, nat_tests)

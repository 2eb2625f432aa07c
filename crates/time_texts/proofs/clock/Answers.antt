use Rattle.std.proofs.Common.{◌∙◌, ap, w64}
use Rattle.std.specs.Prelude.{Some}
use Rattle.std.proofs.lemmas.Int.{to_z-of_z}
use Rattle.time_texts.proofs.Clocks.{times_have_one_text}
use Rattle.time_texts.proofs.clock.Goals as goal

pub returns : goal.returns
returns c = times_have_one_text _ c.args.seconds (c.time_text.ensures ∙ ap Some (to_z-of_z w64 c.args.seconds c.ranges.seconds))

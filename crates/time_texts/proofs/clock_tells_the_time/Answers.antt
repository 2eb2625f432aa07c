use Rattle.time_texts.proofs.Clocks.{clock_tells_the_time}
use Rattle.time_texts.proofs.clock_tells_the_time.Goals as goal

pub returns : goal.returns
returns c = clock_tells_the_time

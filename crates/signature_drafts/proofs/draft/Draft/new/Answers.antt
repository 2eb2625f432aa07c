use Rattle.std.proofs.Common.{◌≡◌, ℤ, Some, subst, to_z-of_z}
use Rattle.utc_times.specs.TimeText.{time_of}
use Rattle.signature_drafts.proofs.draft.Draft.new.Goals as goal

pub returns-clause-time : goal.returns-clause-time
returns-clause-time c = subst (λ (z : ℤ). time_of c.time_text.result ≡ Some z) (to_z-of_z c.ranges.time) c.time_text.ensures

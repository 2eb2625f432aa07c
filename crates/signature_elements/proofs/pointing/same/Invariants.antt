use Rattle.std.proofs.Common.{◌≡◌, length}
use Rattle.std.specs.Str.{bytes_eq}
use Rattle.signature_elements.specs.Ahead.{ahead}
use Rattle.signature_elements.proofs.pointing.same.Given as goal

-- the characters are the same where those that are ahead are
abbrev pub invariant-characters : goal.invariant-characters
invariant-characters l = bytes_eq (ahead l.a) (ahead l.b) ≡ bytes_eq (ahead l.x) (ahead l.y)

abbrev pub decreases-characters : goal.decreases-characters
decreases-characters l = length (ahead l.x)

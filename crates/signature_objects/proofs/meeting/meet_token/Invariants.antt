use Rattle.std.proofs.Common.{◌≡◌, List, ℕ}
use Rattle.signature_objects.specs.Met.{HasMet, bytes_of_token, with_all}
use Rattle.tst_tokens.specs.View.{certificates_left}
use Rattle.signature_objects.proofs.meeting.meet_token.Given as goal

-- what is left comes behind what was met
abbrev pub invariant-loop-certificate : goal.invariant-loop-certificate
invariant-loop-certificate l =
    (all : List (List ℕ)) → HasMet l.fn.met all
    → (now : List (List ℕ)) × HasMet l.met now × (with_all now (certificates_left l.certificate-iterator) ≡ with_all all (bytes_of_token l.token))

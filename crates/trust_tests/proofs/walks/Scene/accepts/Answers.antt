use Rattle.std.proofs.Common.{List, ap, refl, ◌∙◌, slice_get}
use Rattle.acceptance.specs.Certificates.{Member, Part}
use Rattle.acceptance.specs.Objects.{certificate_of}
use Rattle.trust_tests.proofs.walks.Scene.accepts.Goals as goal

pub accepted-requires-clause-leaf : goal.accepted-requires-clause-leaf
unfolding certificate_of
accepted-requires-clause-leaf c =
    let m : Member = record { number = c.in_ok-put_certificate.field-0.number; certificate = certificate_of c.args.leaf.now } in
    (m, ap (λ (p : List Part). slice_get p m.number) c.pool-pool.ensures ∙ c.in_ok-put_certificate.ensures.number, refl)

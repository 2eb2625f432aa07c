use Rattle.std.proofs.Common.{◌≡◌, ℕ, List, Some, slice_get, ℤ, IsTrue, ◌↔◌, ap, subst, refl, ◌∙◌, SFits, w64, to_z, of_z, to_z-of_z}
use Rattle.std.proofs.lemmas.Option.{slice_get_read}
use Rattle.acceptance.specs.Objects.{token_of}
use Rattle.acceptance.specs.Stamping.{IsTokenAccepted}
use Rattle.acceptance.specs.Walks.{time}
use Rattle.cert_paths.specs.Origin.{Origin}
use Rattle.existence_times.specs.Kept.{bytes_at, shown_stamp}
use Rattle.existence_times.specs.Shown.{ShownStamp}
use Rattle.existence_times.specs.declared.rows.TokenRow.{TokenRow}
use Rattle.existence_times.proofs.Ordered.{many, shown_row}
use Rattle.existence_times.proofs.asking.is_stamp_accepted.Goals as goal

pub returns : goal.returns
returns c stamp there =
    let row = c.index-stamp.result.now in
    let at : slice_get c.case.inside.stamps.items c.args.number ≡ Some row =
    slice_get_read c.case.inside.stamps.items _ c.args.number row refl (many c.case.inside.pool c.case.inside.references c.case.inside.tokens.items c.case.inside.stamps.items c.args.case.now c.args.number c.case.view_is c.requires.number) c.index-stamp.ensures in
    let is : shown_stamp c.case.inside.tokens.items row ≡ stamp =
    shown_row c.case.inside.pool c.case.inside.references c.case.inside.tokens.items c.case.inside.stamps.items c.args.case.now c.args.number row stamp c.case.view_is at there in
    let time_at : SFits w64 c.time-at.result = record { sfits = c.time-at.type_inv } in
    let bytes : c.bytes_of-token.result.now ≡ stamp.token =
    c.bytes_of-token.ensures ∙ ap (λ (ts : List TokenRow). bytes_at ts row.token) c.as_slice.ensures.value ∙ ap (λ (s : ShownStamp). s.token) is in
    let moment : to_z w64 (of_z w64 c.time-at.result) ≡ time c.args.times.now stamp.object =
    to_z-of_z time_at ∙ c.time-at.ensures ∙ ap (λ (s : ShownStamp). time c.args.times.now s.object) is in
    let A : Origin → List ℕ → ℤ → Type 0 = λ o b z. IsTrue c.in_ok-answer.answer ↔ IsTokenAccepted o.pool o.policy c.args.times.now (token_of b) z in
    subst (λ (o : Origin). A o stamp.token (time c.args.times.now stamp.object)) c.requires.links
    (subst (λ (z : ℤ). A c.args.links.now stamp.token z) moment
    (subst (λ (b : List ℕ). A c.args.links.now b (to_z w64 (of_z w64 c.time-at.result))) bytes c.in_ok-answer.ensures))

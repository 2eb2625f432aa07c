use Rattle.std.proofs.Common.{◌≡◌, Some, slice_get, refl, sym, true≢false, rules as known, SFits, w64, to_z-of_z}
use Rattle.std.proofs.lemmas.Option.{slice_get_read}
use Rattle.cert_paths.proofs.StatusLaws.{not_in_time, linked_is}
use Rattle.cert_paths.proofs.accepting.AcceptingRelation.test.Goals as goal

pub returns-then-not-is_in_time : goal.returns-then-not-is_in_time
returns-then-not-is_in_time c =
    let low : SFits w64 c.args.self.now.low = search known in
    let at : SFits w64 c.args.self.now.at = search known in
    let there : slice_get c.args.self.now.tables.now.certs.items c.args.row ≡ Some c.index-cert.result.now =
    slice_get_read c.args.self.now.tables.now.certs.items _ c.args.row c.index-cert.result.now refl c.requires.0 c.index-cert.ensures in (
      λ h. absurd (true≢false (sym h)),
      λ h. absurd (not_in_time c.args.self.now.tables.now c.args.self.now.times.now c.args.self.now.low c.args.self.now.at c.args.row c.args.column c.index-cert.result.now _ _ _ there
          (to_z-of_z low) (to_z-of_z at) c.is_in_time.ensures c.if-not-is_in_time.true h),
    )

pub returns : goal.returns
returns c =
    let low : SFits w64 c.args.self.now.low = search known in
    let at : SFits w64 c.args.self.now.at = search known in
    let end : SFits w64 c.index-cert.result.now.not_after = search known in
    let there : slice_get c.args.self.now.tables.now.certs.items c.args.row ≡ Some c.index-cert.result.now =
    slice_get_read c.args.self.now.tables.now.certs.items _ c.args.row c.index-cert.result.now refl c.requires.0 c.index-cert.ensures in
    linked_is c.args.self.now.tables.now c.args.self.now.times.now c.args.self.now.low c.args.self.now.at c.args.row c.args.column c.index-cert.result.now there
    _ _ c.as_slice.ensures.value c.look.ensures c.if-not-look.false
    _ _ _ (to_z-of_z low) (to_z-of_z at) c.is_in_time.ensures c.if-not-is_in_time.false
    _ _ _ _ _ c.as_slice-2.ensures.value c.date_row.ensures c.as_slice-3.ensures.value (to_z-of_z at) c.is_revoked-revoked.ensures c.if-revoked.false
    _ _ _ _ _ c.as_slice-4.ensures.value c.as_slice-5.ensures.value (to_z-of_z at) (to_z-of_z end) c.is_current.ensures

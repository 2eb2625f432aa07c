-- What the tables say is what walks ask.
use Rattle.std.proofs.Common.{◌≡◌, ℕ, ◌<◌, ◌≤◌, Bool, true, false, ◌&&◌, not, List, [], ◌∷◌, ◌++◌, length, map, slice_get, slice_index_or, Option, Some, None, IsTrue, IsFalse, ◌↔◌, ℤ, ◌≤ℤ◌, arith, refl, sym, ap, subst, ◌∙◌, true≢false, Vec, Global, Contains, ◌^◌, length-append}
use Rattle.std.proofs.lemmas.List.{length-map}
use Rattle.std.proofs.lemmas.Option.{slice_get_within, get_or_from_slice_get}
use Rattle.policy_rules.specs.View.{rules}
use Rattle.x509_certs.specs.Certificates as certificates
use Rattle.x509_certs.specs.Lists as lists
use Rattle.x509_certs.specs.View.{certificate_bytes, list_bytes}
use Rattle.acceptance.specs.Certificates.{Certificate, Crl, Member}
use Rattle.acceptance.specs.Objects.{certificate_of, crl_of}
use Rattle.acceptance.specs.Policy.{anchors_of}
use Rattle.acceptance.specs.Walks.{HasCertificate, IsSelfIssued, IsWithin, IsSigned, IsCrlOf, IsCurrentByCrl, IsRevokedByCrl, IsIssued, IsComplete, IsAccepted, IsWalkComplete, HasWalk}
use Rattle.cert_paths.specs.declared.links.Tables.{Tables}
use Rattle.cert_paths.specs.declared.chart.Chart.{Chart}
use Rattle.cert_paths.specs.declared.rows.CertRow.{CertRow}
use Rattle.cert_paths.specs.declared.rows.IssuerRow.{IssuerRow}
use Rattle.cert_paths.specs.declared.rows.ListRow.{ListRow}
use Rattle.cert_paths.specs.Chart.{issuing_of, is_within, limit_in, counts_in}
use Rattle.cert_paths.specs.Numbered.{HasNumberedWalk}
use Rattle.cert_paths.specs.Rows.{member_of, issuer_of, list_of, member_in, issuer_in, list_in, member_at, issuer_at, date_of, dates_of, IsInTime, HasBytes}
use Rattle.cert_paths.specs.Speaks.{AreMembers, SpeaksOf}
use Rattle.cert_paths.specs.Status.{IsUntil, IsBy, IsListCurrent, IsCurrentAt, SomeCurrent, SomeRevoked, dates_in, HaveTimes, HaveTimesOf}
use Rattle.cert_paths.specs.Tables.{bit, flag, IsTableOf}
use Rattle.cert_paths.specs.Tied.{AreTied, IsLinkedBy, IsCompleteBy}
use Rattle.cert_paths.proofs.Numbers.{get_map, got_map, at_some, numbered_walks}
use Rattle.cert_paths.proofs.Revoked.{by_revoked, by_date, dated_by}

both_true : (a b : Bool) → IsTrue (a && b) ↔ (IsTrue a × IsTrue b)
both_true true b = (λ h. (refl, h), λ h. h.1)
both_true false b = (λ h. absurd (true≢false (sym h)), λ h. absurd (true≢false (sym h.0)))

within_is : (counted : ℕ) (o : Option ℕ) → IsTrue (is_within counted o) ↔ IsWithin counted o
within_is counted None = (λ h. tt, λ h. refl)
within_is counted (Some most) = (λ h. grind arith, λ h. grind arith)

map_twice : {A B C : Type 0} (f : A → B) (g : B → C) (xs : List A) → map g (map f xs) ≡ map (λ x. g (f x)) xs
map_twice f g [] = refl
map_twice f g (x ∷ xs) = ap (λ ys. g (f x) ∷ ys) (map_twice f g xs)

until_some : (at : ℤ) (o : Option ℤ) → IsUntil at o → (next : ℤ) × (o ≡ Some next) × (at ≤ℤ next)
until_some at None h = absurd h
until_some at (Some next) h = (next, refl, h)

not_self : (b : Bool) → IsFalse (not b) ↔ IsTrue b
not_self true = (λ h. refl, λ h. refl)
not_self false = (λ h. absurd (true≢false h), λ h. absurd (true≢false (sym h)))

dates_at : (v : Option (Vec (Option ℤ) Global)) (ds : List (Option ℤ)) → ((row : Vec (Option ℤ) Global) × (v ≡ Some row) × (row.items ≡ ds)) → dates_in v ≡ ds
dates_at v ds (row, is, same) = ap dates_in is ∙ same

whole_is : (row : CertRow) → (member_of row).certificate.whole ≡ certificate_bytes row.certificate
unfolding certificate_of
whole_is row = refl

module _ (t : Tables) (tied : AreTied t) where
  abbrev pub members : List Member
  members = map member_of t.certs.items

  are_members : AreMembers t.pool.now members
  are_members = record {
    there = λ k m at. let (row, at_row, is) = got_map member_of t.certs.items k m at in subst (HasCertificate t.pool.now) is (tied.certs.there k row at_row);
    each = λ m has. let (k, row, at, is) = tied.certs.each m has in (k, get_map member_of t.certs.items k row at ∙ ap Some is);
  }

  issuers_are : map issuer_of t.issuers.items ≡ map (λ (m : Member). m.certificate) members ++ anchors_of (rules t.policy.now)
  issuers_are = tied.issuers ∙ sym (ap (λ (cs : List Certificate). cs ++ anchors_of (rules t.policy.now)) (map_twice member_of (λ (m : Member). m.certificate) t.certs.items))

  -- the rows of a member and of an issuer
  member_row : (c : ℕ) (m : Member) → slice_get members c ≡ Some m → (row : CertRow) × (slice_get t.certs.items c ≡ Some row) × (member_of row ≡ m)
  member_row c m at = got_map member_of t.certs.items c m at

  issuer_row : (j : ℕ) (x : Certificate) → slice_get (map (λ (m : Member). m.certificate) members ++ anchors_of (rules t.policy.now)) j ≡ Some x →
      (row : IssuerRow) × (slice_get t.issuers.items j ≡ Some row) × (issuer_of row ≡ x)
  issuer_row j x at = got_map issuer_of t.issuers.items j x (ap (λ (l : List Certificate). slice_get l j) issuers_are ∙ at)

  reach_is : length t.issuers.items ≡ length (map (λ (m : Member). m.certificate) members ++ anchors_of (rules t.policy.now))
  reach_is = sym (length-map t.issuers.items issuer_of) ∙ ap length issuers_are

  module _ (i j : ℕ) (row : CertRow) (issuer : IssuerRow) (at_i : slice_get t.certs.items i ≡ Some row) (at_j : slice_get t.issuers.items j ≡ Some issuer) where
    i_in : i < length t.certs.items
    i_in = slice_get_within t.certs.items i row at_i

    j_in : j < length t.issuers.items
    j_in = slice_get_within t.issuers.items j issuer at_j

    member_here : member_at t.certs.items i ≡ member_of row
    member_here = ap member_in at_i

    issuer_here : issuer_at t.issuers.items j ≡ issuer_of issuer
    issuer_here = ap issuer_in at_j

    abbrev IsReached : Type 0
    IsReached = IsTrue (flag t.reached.items j)

    signed_here : IsTrue (bit t.signed.items i j) ↔ (IsReached × IsSigned (member_of row).certificate (issuer_of issuer))
    signed_here =
        let both = tied.signed.right i j i_in j_in in
        let P : Member → Type 0 = λ m. IsTrue (bit t.signed.items i j) ↔ (IsReached × IsSigned m.certificate (issuer_of issuer)) in
        let Q : Certificate → Type 0 = λ x. IsTrue (bit t.signed.items i j) ↔ (IsReached × IsSigned (member_at t.certs.items i).certificate x) in
        subst P member_here (subst Q issuer_here both)

    speaks_here : IsReached → (k : ℕ) (list : ListRow) → slice_get t.lists.items k ≡ Some list → (IsTrue (bit t.speaks.items k j) ↔ IsCrlOf (issuer_of issuer) (list_of list))
    speaks_here reached k list at =
        let both = tied.speaks.right k j (slice_get_within t.lists.items k list at) j_in in
        let P : Certificate → Type 0 = λ x. IsTrue (bit t.speaks.items k j) ↔ (IsReached × IsCrlOf x (list_of list)) in
        let Q : Crl → Type 0 = λ l. IsTrue (bit t.speaks.items k j) ↔ (IsReached × IsCrlOf (issuer_at t.issuers.items j) l) in
        let here = subst P issuer_here (subst Q (ap list_in at) both) in
        (λ h. (here.0 h).1, λ h. here.1 (reached, h))

    current_here : IsReached → (times : List ℤ) (at : ℤ) →
        (SomeCurrent (rules t.policy.now) times at (member_of row).certificate.not_after t.lists.items t.speaks.items j
        ↔ IsCurrentByCrl t.pool.now (rules t.policy.now) times at (member_of row).certificate (issuer_of issuer))
    current_here reached times at = (
      λ h.
          let (k, lt, speaks, current_k) = h in
          let (list, at_k) = at_some t.lists.items k lt in
          let C : Option ListRow → Type 0 = λ o. IsCurrentAt (rules t.policy.now) times at (member_of row).certificate.not_after o in
          let current : IsListCurrent (rules t.policy.now) times at (member_of row).certificate.not_after list.object.number (list_of list) = subst C at_k current_k in
          let (next, has_next, le) = until_some at (list_of list).next_update current.until in
          record {
            number = list.object.number;
            list = list_of list;
            there = tied.lists.there k list at_k;
            speaks = (speaks_here reached k list at_k).0 speaks;
            kind = current.kind;
            next = next;
            has_next = has_next;
            current = le;
            in_life = current.in_life;
          },
      λ h.
          let (k, list, at_k, number, is) = tied.lists.each h.number h.list h.there in
          let P : ℕ → Type 0 = λ n. IsListCurrent (rules t.policy.now) times at (member_of row).certificate.not_after n h.list in
          let Q : Crl → Type 0 = λ l. IsListCurrent (rules t.policy.now) times at (member_of row).certificate.not_after list.object.number l in
          let current : IsListCurrent (rules t.policy.now) times at (member_of row).certificate.not_after h.number h.list =
          record { until = subst (IsUntil at) (sym h.has_next) h.current; in_life = h.in_life; kind = h.kind } in
          let C : Option ListRow → Type 0 = λ o. IsCurrentAt (rules t.policy.now) times at (member_of row).certificate.not_after o in (
            k,
            slice_get_within t.lists.items k list at_k,
            (speaks_here reached k list at_k).1 (subst (IsCrlOf (issuer_of issuer)) (sym is) h.speaks),
            subst C (sym at_k) (subst Q (sym is) (subst P (sym number) current)),
          ),
    )

    -- the dates of the certificate
    dates_here : dates_in (slice_get t.dates.items i) ≡ dates_of row t.lists.items
    dates_here =
        let there : slice_get (map (λ d. d.items) t.dates.items) i ≡ Some (dates_of row t.lists.items) =
        ap (λ (l : List (List (Option ℤ))). slice_get l i) tied.dates ∙ get_map (λ (c : CertRow). dates_of c t.lists.items) t.certs.items i row at_i in
        dates_at (slice_get t.dates.items i) (dates_of row t.lists.items) (got_map (λ d. d.items) t.dates.items i (dates_of row t.lists.items) there)

    date_here : (k : ℕ) (list : ListRow) → slice_get t.lists.items k ≡ Some list →
        slice_index_or (dates_in (slice_get t.dates.items i)) k None ≡ date_of (certificate_bytes row.certificate) (list_bytes list.list)
    date_here k list at =
        let listed = λ (l : ListRow). date_of (certificate_bytes row.certificate) (list_bytes l.list) in
        ap (λ (ds : List (Option ℤ)). slice_index_or ds k None) dates_here
        ∙ get_or_from_slice_get (map listed t.lists.items) k (listed list) None (get_map listed t.lists.items k list at)

    dates_long : length (dates_in (slice_get t.dates.items i)) ≡ length t.lists.items
    dates_long = ap length dates_here ∙ length-map t.lists.items (λ (l : ListRow). date_of (certificate_bytes row.certificate) (list_bytes l.list))

    serial_here : (member_of row).certificate.serial ≡ certificates.serial (certificate_bytes row.certificate)
    unfolding certificate_of
    serial_here = refl

    names_here : (list : ListRow) → IsSigned (member_of row).certificate (issuer_of issuer) → IsCrlOf (issuer_of issuer) (list_of list) →
        lists.list_issuer (list_bytes list.list) ≡ certificates.issuer (certificate_bytes row.certificate)
    unfolding certificate_of crl_of
    names_here list signed speaks = speaks.named ∙ sym signed.named

    revoked_here : IsReached → IsSigned (member_of row).certificate (issuer_of issuer) → (at : ℤ) →
        (SomeRevoked (dates_in (slice_get t.dates.items i)) t.speaks.items j at ↔ IsRevokedByCrl t.pool.now at (member_of row).certificate (issuer_of issuer))
    revoked_here reached signed at = (
      λ h.
          let (k, lt, by, speaks) = h in
          let long = dates_long in
          let (list, at_k) = at_some t.lists.items k (omega arith) in
          let dated = by_date (certificate_bytes row.certificate) (list_bytes list.list) at (subst (IsBy at) (date_here k list at_k) by) in
          let (entry, listed, (serial, early)) = (by_revoked (certificates.serial (certificate_bytes row.certificate)) at (list_bytes list.list)).0 dated in
          record {
            number = list.object.number;
            list = list_of list;
            there = tied.lists.there k list at_k;
            speaks = (speaks_here reached k list at_k).0 speaks;
            entry = entry;
            listed = listed;
            serial = serial ∙ sym serial_here;
            by_then = early;
          },
      λ h.
          let (k, list, at_k, number, is) = tied.lists.each h.number h.list h.there in
          let long = dates_long in
          let within = slice_get_within t.lists.items k list at_k in
          let speaks : IsCrlOf (issuer_of issuer) (list_of list) = subst (IsCrlOf (issuer_of issuer)) (sym is) h.speaks in
          let has : Contains (list_of list).entries h.entry = subst (λ (l : Crl). Contains l.entries h.entry) (sym is) h.listed in
          let by : IsBy at (lists.revoked (certificates.serial (certificate_bytes row.certificate)) (list_bytes list.list)) =
          (by_revoked (certificates.serial (certificate_bytes row.certificate)) at (list_bytes list.list)).1 (h.entry, has, (h.serial ∙ serial_here, h.by_then)) in
          let dated = dated_by (certificate_bytes row.certificate) (list_bytes list.list) at (names_here list signed speaks) by in
          (k, omega arith, subst (IsBy at) (sym (date_here k list at_k)) dated, (speaks_here reached k list at_k).1 speaks),
    )

    linked_here : (times : List ℤ) (low at : ℤ) (counted : ℕ) → (IsTrue (is_within counted issuer.path_len) ↔ IsWithin counted (issuer_of issuer).path_len) →
        ((IsLinkedBy t times low at i j × IsTrue (is_within counted issuer.path_len))
        ↔ (IsReached × IsIssued t.pool.now (rules t.policy.now) times low at counted (member_of row) (issuer_of issuer)))
    linked_here times low at counted short = (
      λ h.
          let in_time : IsInTime (rules t.policy.now) times low at (member_of row) = subst (IsInTime (rules t.policy.now) times low at) member_here h.0.in_time in
          let P : Member → Type 0 = λ m. SomeCurrent (rules t.policy.now) times at m.certificate.not_after t.lists.items t.speaks.items j in
          let signed = signed_here.0 h.0.signed in (
            signed.0,
            record {
              below = record { signed = signed.1; short = short.0 h.1 };
              kind = in_time.kind;
              begun = in_time.begun;
              lasts = in_time.lasts;
              current = (current_here signed.0 times at).0 (subst P member_here h.0.current);
              unrevoked = λ r. h.0.unrevoked ((revoked_here signed.0 signed.1 at).1 r);
            },
          ),
      λ h.
          let P : Member → Type 0 = λ m. SomeCurrent (rules t.policy.now) times at m.certificate.not_after t.lists.items t.speaks.items j in
          let in_time : IsInTime (rules t.policy.now) times low at (member_of row) = record { kind = h.1.kind; begun = h.1.begun; lasts = h.1.lasts } in (
            record {
              signed = signed_here.1 (h.0, h.1.below.signed);
              in_time = subst (IsInTime (rules t.policy.now) times low at) (sym member_here) in_time;
              current = subst P (sym member_here) ((current_here h.0 times at).1 h.1.current);
              unrevoked = λ r. h.1.unrevoked ((revoked_here h.0 h.1.below.signed at).0 r);
            },
            short.1 h.1.below.short,
          ),
    )

    complete_here : (counted : ℕ) → (IsTrue (is_within counted issuer.path_len) ↔ IsWithin counted (issuer_of issuer).path_len) →
        ((IsCompleteBy t i j × IsTrue (is_within counted issuer.path_len)) ↔ (IsReached × IsComplete t.pool.now counted (member_of row) (issuer_of issuer)))
    complete_here counted short = (
      λ h.
          let (k, lt, speaks) = h.0.status in
          let (list, at_k) = at_some t.lists.items k lt in
          let signed = signed_here.0 h.0.signed in (
            signed.0,
            record {
              below = record { signed = signed.1; short = short.0 h.1 };
              status = record { number = list.object.number; list = list_of list; there = tied.lists.there k list at_k; speaks = (speaks_here signed.0 k list at_k).0 speaks };
            },
          ),
      λ h.
          let (k, list, at_k, number, is) = tied.lists.each h.1.status.number h.1.status.list h.1.status.there in (
            record {
              signed = signed_here.1 (h.0, h.1.below.signed);
              status = (k, slice_get_within t.lists.items k list at_k, (speaks_here h.0 k list at_k).1 (subst (IsCrlOf (issuer_of issuer)) (sym is) h.1.status.speaks));
            },
            short.1 h.1.below.short,
          ),
    )

  length_here : (row : IssuerRow) (counted : ℕ) → IsTrue (is_within counted row.path_len) ↔ IsWithin counted (issuer_of row).path_len
  length_here row counted =
      let P : Option ℕ → Type 0 = λ o. IsTrue (is_within counted row.path_len) ↔ IsWithin counted o in
      subst P row.length_is (within_is counted row.path_len)

  pub few_here : (length t.certs.items < 2 ^ 32) × (length t.certs.items ≤ length t.issuers.items)
  few_here =
      let few = tied.few in
      let reach = reach_is in
      let l = length-append (map (λ (m : Member). m.certificate) members) (anchors_of (rules t.policy.now)) in
      let c = length-map members (λ (m : Member). m.certificate) in
      let r = length-map t.certs.items member_of in
      (few, omega arith)

  module _ (chart : Chart) (certs_is : chart.certs.now ≡ t.certs.items) (issuers_is : chart.issuers.now ≡ t.issuers.items)
      (Linked : ℕ → ℕ → Type 0) (link : ℕ → Member → Certificate → Type 0)
      (table : IsTableOf Linked (length t.certs.items) (length t.issuers.items) chart.bits.now)
      (here : (i j counted : ℕ) (row : CertRow) (issuer : IssuerRow) → slice_get t.certs.items i ≡ Some row → slice_get t.issuers.items j ≡ Some issuer →
      ((Linked i j × IsTrue (is_within counted issuer.path_len)) ↔ (IsTrue (flag t.reached.items j) × link counted (member_of row) (issuer_of issuer))))
      (signed : (i j : ℕ) → Linked i j → IsTrue (bit t.signed.items i j)) where
    abbrev Reached : ℕ → Type 0
    Reached j = IsTrue (flag t.reached.items j)

    size_is : length chart.certs.now ≡ length t.certs.items
    size_is = ap length certs_is

    columns_are : length chart.issuers.now ≡ length t.issuers.items
    columns_are = ap length issuers_is

    speaks_of : SpeaksOf (issuing_of chart) link Reached members (anchors_of (rules t.policy.now))
    speaks_of = record {
      size = ap length certs_is ∙ sym (length-map t.certs.items member_of);
      reach = ap length issuers_is ∙ reach_is;
      linked = λ counted c j m x at_m at_x.
          let (row, at_c, m_is) = member_row c m at_m in
          let (issuer, at_j, x_is) = issuer_row j x at_x in
          let limit : limit_in (slice_get chart.issuers.now j) ≡ issuer.path_len = ap limit_in (ap (λ (l : List IssuerRow). slice_get l j) issuers_is ∙ at_j) in
          let bits = table.right c j (slice_get_within t.certs.items c row at_c) (slice_get_within t.issuers.items j issuer at_j) in
          let both = both_true (bit chart.bits.now c j) (is_within counted issuer.path_len) in
          let holds = here c j counted row issuer at_c at_j in
          let G : Option ℕ → Type 0 = λ o. IsTrue (bit chart.bits.now c j && is_within counted o) ↔ (Reached j × link counted m x) in
          let P : Member → Type 0 = λ n. IsTrue (bit chart.bits.now c j && is_within counted issuer.path_len) ↔ (Reached j × link counted n x) in
          let Q : Certificate → Type 0 = λ y. IsTrue (bit chart.bits.now c j && is_within counted issuer.path_len) ↔ (Reached j × link counted (member_of row) y) in
          let R : IsTrue (bit chart.bits.now c j && is_within counted issuer.path_len) ↔ (Reached j × link counted (member_of row) (issuer_of issuer)) = (λ h. holds.0 (bits.0 (both.0 h).0, (both.0 h).1), λ h. both.1 (bits.1 (holds.1 h).0, (holds.1 h).1)) in
          subst G (sym limit) (subst P m_is (subst Q x_is R));
      counts = λ c m at.
          let (row, at_c, m_is) = member_row c m at in
          let is : counts_in (slice_get chart.certs.now c) ≡ not row.self_issued = ap counts_in (ap (λ (l : List CertRow). slice_get l c) certs_is ∙ at_c) in
          let self = not_self row.self_issued in
          let P : Bool → Type 0 = λ b. IsFalse b ↔ IsSelfIssued m.certificate in
          let Q : Member → Type 0 = λ n. IsFalse (not row.self_issued) ↔ IsSelfIssued n.certificate in
          let R : IsFalse (not row.self_issued) ↔ IsSelfIssued (member_of row).certificate = (λ h. row.self_is.0 (self.0 h), λ h. self.1 (row.self_is.1 h)) in
          subst P (sym is) (subst Q m_is R);
      anchored = λ i from below. let n = size_is in let m = columns_are in tied.closed.anchors i (omega arith) (omega arith);
      above = λ counted c i lt below linked.
          let n = size_is in
          let m = columns_are in
          let c_in : c < length t.certs.items = omega arith in
          let i_in : i < length t.issuers.items = omega arith in
          let limit = limit_in (slice_get chart.issuers.now i) in
          let bits = (both_true (bit chart.bits.now c i) (is_within counted limit)).0 linked in
          tied.closed.signed c (let few = few_here in omega arith) (i, i_in, signed c i ((table.right c i c_in i_in).0 bits.0));
    }

    pub numbered : (k : ℕ) (row : CertRow) (m : Member) → slice_get t.certs.items k ≡ Some row → certificate_bytes row.certificate ≡ m.certificate.whole → HasCertificate t.pool.now m →
        (HasNumberedWalk (issuing_of chart) k ↔ HasWalk link t.pool.now (anchors_of (rules t.policy.now)) m)
    numbered k row m at same has =
        let at_m = get_map member_of t.certs.items k row at in
        let is : member_of row ≡ m = tied.distinct (member_of row) m (tied.certs.there k row at) has (whole_is row ∙ same) in
        numbered_walks (issuing_of chart) link Reached t.pool.now members (anchors_of (rules t.policy.now)) are_members speaks_of k m (at_m ∙ ap Some is)

  pub accepted_here : (times : List ℤ) (low at : ℤ) (i j counted : ℕ) (row : CertRow) (issuer : IssuerRow) → slice_get t.certs.items i ≡ Some row → slice_get t.issuers.items j ≡ Some issuer →
      ((IsLinkedBy t times low at i j × IsTrue (is_within counted issuer.path_len)) ↔ (IsTrue (flag t.reached.items j) × IsIssued t.pool.now (rules t.policy.now) times low at counted (member_of row) (issuer_of issuer)))
  accepted_here times low at i j counted row issuer at_i at_j = linked_here i j row issuer at_i at_j times low at counted (length_here issuer counted)

  pub completed_here : (i j counted : ℕ) (row : CertRow) (issuer : IssuerRow) → slice_get t.certs.items i ≡ Some row → slice_get t.issuers.items j ≡ Some issuer →
      ((IsCompleteBy t i j × IsTrue (is_within counted issuer.path_len)) ↔ (IsTrue (flag t.reached.items j) × IsComplete t.pool.now counted (member_of row) (issuer_of issuer)))
  completed_here i j counted row issuer at_i at_j = complete_here i j row issuer at_i at_j counted (length_here issuer counted)

  -- a certificate of the pool has a row
  pub not_missing : (leaf : List ℕ) (m : Member) → HasCertificate t.pool.now m → m.certificate.whole ≡ leaf →
      ((k : ℕ) → k < length t.certs.items → ¬ (HasBytes leaf (slice_get t.certs.items k))) → ⊥
  not_missing leaf m has whole missing =
      let (k, row, at, is) = tied.certs.each m has in
      let same : certificate_bytes row.certificate ≡ leaf = sym (whole_is row) ∙ ap (λ (n : Member). n.certificate.whole) is ∙ whole in
      missing k (slice_get_within t.certs.items k row at) (subst (HasBytes leaf) (sym at) same)

  -- certificates and CRLs have times where all objects have
  pub certificates_timed : (times : List ℤ) → length t.pool.now ≤ length times → HaveTimesOf t.certs.items times
  certificates_timed times le k row at =
      let lt = slice_get_within t.pool.now row.object.number _ (tied.certs.there k row at) in omega arith

  pub lists_timed : (times : List ℤ) → length t.pool.now ≤ length times → HaveTimes t.lists.items times
  lists_timed times le k row at =
      let lt = slice_get_within t.pool.now row.object.number _ (tied.lists.there k row at) in omega arith

  module _ (chart : Chart) (certs_is : chart.certs.now ≡ t.certs.items) (issuers_is : chart.issuers.now ≡ t.issuers.items) (k : ℕ) (leaf : List ℕ)
      (found : (k < length t.certs.items) × HasBytes leaf (slice_get t.certs.items k)) (answer : Bool) (walks : IsTrue answer ↔ HasNumberedWalk (issuing_of chart) k) where
    found_row : (row : CertRow) × (slice_get t.certs.items k ≡ Some row) × (certificate_bytes row.certificate ≡ leaf)
    found_row = let (row, at) = at_some t.certs.items k found.0 in (row, at, subst (HasBytes leaf) at found.1)

    pub accepted_is : (times : List ℤ) (low at : ℤ) → IsTableOf (IsLinkedBy t times low at) (length t.certs.items) (length t.issuers.items) chart.bits.now →
        (m : Member) → HasCertificate t.pool.now m → m.certificate.whole ≡ leaf → (IsTrue answer ↔ IsAccepted t.pool.now (rules t.policy.now) times m low at)
    accepted_is times low at table m has whole =
        let (row, at_k, bytes) = found_row in
        let both = numbered chart certs_is issuers_is (IsLinkedBy t times low at) (IsIssued t.pool.now (rules t.policy.now) times low at) table (accepted_here times low at) (λ i j linked. linked.signed)
        k row m at_k (bytes ∙ sym whole) has in
        (λ h. both.0 (walks.0 h), λ h. walks.1 (both.1 h))

    pub complete_is : IsTableOf (IsCompleteBy t) (length t.certs.items) (length t.issuers.items) chart.bits.now →
        (m : Member) → HasCertificate t.pool.now m → m.certificate.whole ≡ leaf → (IsTrue answer ↔ IsWalkComplete t.pool.now (rules t.policy.now) m)
    complete_is table m has whole =
        let (row, at_k, bytes) = found_row in
        let both = numbered chart certs_is issuers_is (IsCompleteBy t) (IsComplete t.pool.now) table completed_here (λ i j linked. linked.signed) k row m at_k (bytes ∙ sym whole) has in
        (λ h. both.0 (walks.0 h), λ h. walks.1 (both.1 h))

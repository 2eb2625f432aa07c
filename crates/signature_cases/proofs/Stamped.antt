-- The time-stamps of a signature, judged and put into a case one after another.
use Rattle.std.proofs.Common.{◌≡◌, ℕ, zero, suc, ◌+◌, ◌<◌, ◌≤◌, Bool, true, false, cond, List, [], ◌∷◌, ◌++◌, length, map, take, take_all, drop, get_or, Option, Some, None, Bor, slice_get, refl, sym, ◌∙◌, ap, subst, append-nil, arith}
use Rattle.std.specs.Prelude.{find, flat_map, option_and_then, option_map}
use Rattle.std.proofs.lemmas.List.{length-map, take-append-drop}
use Rattle.std.proofs.lemmas.Option.{get_or_from_slice_get, none-some, same_Some, slice_get-map}
use Rattle.algorithms.specs.Digests.{digest_of}
use Rattle.archive_octets.specs.Kinds as stamps
use Rattle.archive_octets.specs.declared.kinds.StampKind.{StampKind}
use Rattle.archive_octets.specs.declared.kinds.StampKind.TheVariants as kinds
use Rattle.archive_octets.proofs.Listing.{all_get, mapped, so_many_properties}
use Rattle.der_values.specs.Element.{Element}
use Rattle.der_values.specs.Fits.{IsObject}
use Rattle.doc_spans.specs.declared.documents.Doc.{Doc}
use Rattle.doc_spans.specs.Seen.{document_in}
use Rattle.document_model.specs.Tree.{Nodes}
use Rattle.signature_elements.specs.Standing.{spot_of}
use Rattle.signature_model.specs.Chains.{Handed}
use Rattle.signature_model.specs.Octets.{octets_at}
use Rattle.signature_model.specs.Parts as model
use Rattle.signature_model.specs.Parts.{is_stamp, is_stamp_kind, properties}
use Rattle.signature_model.specs.Spots.{Spot}
use Rattle.signature_parts.specs.Kinds.{kind_in}
use Rattle.signature_parts.specs.declared.kinds.PropertyKind.{PropertyKind}
use Rattle.tst_tokens.specs.Digests.{imprint_kind}
use Rattle.tst_tokens.specs.Layouts as layout
use Rattle.tst_tokens.specs.Tokens.{certificates_of, has_names, signer_issuer, signer_of, signer_serial}
use Rattle.qualifying_props.specs.PartsOf.{AreParts, IsProperty, IsPropertyOf}
use Rattle.qualifying_props.specs.Shown.{Shown, ShownProperty, token_at}
use Rattle.acceptance.specs.Certificates.{Part, Member}
use Rattle.acceptance.specs.Objects.{certificate_of, token_of}
use Rattle.acceptance.specs.Walks.{HasCertificate}
use Rattle.existence_times.specs.Kept.{with_stamp}
use Rattle.existence_times.specs.Shown as cases
use Rattle.existence_times.specs.Shown.{HasSignerOf, HasToken, ShownStamp}
use Rattle.signature_objects.specs.Objects.{Object, Value, Certificate, Token, has, number_of, numbers_below, with_objects}
use Rattle.signature_objects.specs.Held.{covers_of, material_in, objects, objects_in, objects_in_front, objects_of_token, objects_to}
use Rattle.stamp_checks.proofs.Looking.{there_is}
use Rattle.signature_evidence.specs.Evidence as shown
use Rattle.signature_evidence.specs.Evidence.{Stamped, stamp_of, stamps_from}
use Rattle.signature_evidence.specs.Pools.{pool_of}
use Rattle.signature_evidence.specs.Soundness.{HasSoundness, is_sound}
use Rattle.signature_evidence.proofs.Answered.{sound_is, sound_of}
use Rattle.signature_evidence.proofs.InRange.{all_had, longer_to, objects_go_on, token_in, value_had}
use Rattle.signature_evidence.proofs.Numbers.{first_had, had_among, has_behind, has_front, number_there, stays_with}
use Rattle.case_steps.specs.Built.{IsShownStamp, ShowsObjects, ShowsStamps}
use Rattle.signature_cases.specs.Built.{AreWords, IsWord}
use Rattle.signature_cases.specs.Stamps.{AreMarks, IsJudged, IsJudgedAs, covered_by, stamped_at}
use Rattle.signature_cases.specs.Words.{soundness_in}
use Rattle.signature_cases.specs.declared.cases.StampWord.{StampWord}
use Rattle.signature_cases.specs.declared.judging.JudgedStamp.{JudgedStamp}
use Rattle.signature_cases.specs.declared.words.Soundness.{Soundness}
use Rattle.signature_cases.proofs.Shown.{stamps_more}

-- A property by its number.

pub shown_at : (doc : Doc) (parts : Shown) → AreParts doc parts → (i : ℕ) (spot : Spot) → slice_get (properties (document_in doc) (spot_of doc parts.signature)) i ≡ Some spot
    → (property : ShownProperty) × (slice_get parts.properties i ≡ Some property) × IsPropertyOf (document_in doc) spot property
shown_at doc parts h i spot e =
    by_found (slice_get parts.properties i) refl
    (sym (slice_get-map (spot_of doc) (map (λ (p : ShownProperty). p.node) parts.properties) i ∙ ap (option_map (spot_of doc)) (slice_get-map (λ (p : ShownProperty). p.node) parts.properties i))
    ∙ ap (λ (ss : List Spot). slice_get ss i) h.properties.elements.are ∙ e)
  where
    by_found : (o : Option ShownProperty) → slice_get parts.properties i ≡ o → option_map (spot_of doc) (option_map (λ (p : ShownProperty). p.node) o) ≡ Some spot
        → (property : ShownProperty) × (slice_get parts.properties i ≡ Some property) × IsPropertyOf (document_in doc) spot property
    by_found None at f = absurd (none-some spot f)
    by_found (Some property) at f = (
      property,
      at,
      subst (λ (s : Spot). IsPropertyOf (document_in doc) s property) (same_Some (spot_of doc property.node) spot f)
          (all_get (IsProperty doc) parts.properties i property h.properties.each at),
    )

kind_same : (parts : Shown) (i : ℕ) (property : ShownProperty) (kind : PropertyKind) → slice_get parts.properties i ≡ Some property
    → option_map (λ (p : ShownProperty). p.kind) (slice_get parts.properties i) ≡ Some kind → property.kind ≡ kind
kind_same parts i property kind at e = same_Some property.kind kind (sym (ap (option_map (λ (p : ShownProperty). p.kind)) at) ∙ e)

stamp_is : (stamp : StampKind) → is_stamp_kind (stamps.kind_in stamp) ≡ true
stamp_is kinds.Signature = refl
stamp_is kinds.Archive = refl

pub judged_none : (handed : Handed) (doc : Doc) (parts : Shown) (i : ℕ) (spot : Spot) (before : List Spot) (kind : PropertyKind) → AreParts doc parts
    → slice_get (properties (document_in doc) (spot_of doc parts.signature)) i ≡ Some spot → option_map (λ (p : ShownProperty). p.kind) (slice_get parts.properties i) ≡ Some kind
    → is_stamp_kind (kind_in kind) ≡ false → IsJudgedAs (stamped_at handed (document_in doc) (spot_of doc parts.signature) before spot) None
judged_none handed doc parts i spot before kind h at e none =
    let p = shown_at doc parts h i spot at in
    let no_stamp : is_stamp spot ≡ false = ap is_stamp_kind (sym p.2.kind ∙ ap kind_in (kind_same parts i p.0 kind p.1 e)) ∙ none in
    let Q : Bool → Type 0 = λ b. IsJudgedAs (cond b (Some (stamp_of handed (document_in doc) (spot_of doc parts.signature) before spot)) None) None in
    subst Q (sym no_stamp) tt

-- a time-stamp has a token
pub has_token : (doc : Doc) (parts : Shown) (i : ℕ) (spot : Spot) (kind : PropertyKind) (stamp : StampKind) → AreParts doc parts
    → slice_get (properties (document_in doc) (spot_of doc parts.signature)) i ≡ Some spot → option_map (λ (p : ShownProperty). p.kind) (slice_get parts.properties i) ≡ Some kind
    → stamps.kind_in stamp ≡ kind_in kind → (is_stamp spot ≡ true) × (token_at parts i ≡ Some (model.token (document_in doc) spot))
has_token doc parts i spot kind stamp h at e same =
    let p = shown_at doc parts h i spot at in
    let is : is_stamp spot ≡ true = ap is_stamp_kind (sym p.2.kind ∙ ap kind_in (kind_same parts i p.0 kind p.1 e) ∙ sym same) ∙ stamp_is stamp in (
      is,
      ap (option_and_then (λ (q : ShownProperty). q.token)) p.1 ∙ p.2.token ∙ ap (λ b. cond b (Some (model.token (document_in doc) spot)) None) is,
    )

pub no_token : (doc : Doc) (parts : Shown) (i : ℕ) (kind : PropertyKind) (stamp : StampKind) → AreParts doc parts
    → option_map (λ (p : ShownProperty). p.kind) (slice_get parts.properties i) ≡ Some kind → stamps.kind_in stamp ≡ kind_in kind → None ≡ token_at parts i → ⊥
no_token doc parts i kind stamp h e same none =
    let p = mapped (λ (q : ShownProperty). q.kind) (slice_get parts.properties i) kind e in
    let is = all_get (IsProperty doc) parts.properties i p.0 h.properties.each p.1 in
    let spot = spot_of doc p.0.node in
    let stamped : is_stamp spot ≡ true = ap is_stamp_kind (sym is.kind ∙ ap kind_in p.2 ∙ sym same) ∙ stamp_is stamp in
    none-some (model.token (document_in doc) spot)
    (none ∙ ap (option_and_then (λ (q : ShownProperty). q.token)) p.1 ∙ is.token ∙ ap (λ b. cond b (Some (model.token (document_in doc) spot)) None) stamped)

pub judged_some : (handed : Handed) (doc : Doc) (parts : Shown) (i : ℕ) (spot : Spot) (before : List Spot) (kind : PropertyKind) (stamp : StampKind) (token : Bor (List ℕ)) (covered : List ℕ) (word : Soundness)
    → AreParts doc parts → slice_get (properties (document_in doc) (spot_of doc parts.signature)) i ≡ Some spot
    → option_map (λ (p : ShownProperty). p.kind) (slice_get parts.properties i) ≡ Some kind → stamps.kind_in stamp ≡ kind_in kind
    → Some token.now ≡ token_at parts i → IsObject layout.token token.now
    → option_map (octets_at handed (document_in doc) (spot_of doc parts.signature) before) (slice_get (properties (document_in doc) (spot_of doc parts.signature)) i) ≡ Some covered
    → HasSoundness (digest_of (imprint_kind token.now) covered) token.now (soundness_in word)
    → IsJudgedAs (stamped_at handed (document_in doc) (spot_of doc parts.signature) before spot) (Some (record { kind = stamp; token = token; soundness = word }))
judged_some handed doc parts i spot before kind stamp token covered word h at e same has_it whole octets sound =
    let document = document_in doc in
    let signature = spot_of doc parts.signature in
    let p = shown_at doc parts h i spot at in
    let t = has_token doc parts i spot kind stamp h at e same in
    let token_is : token.now ≡ model.token document spot = same_Some token.now (model.token document spot) (has_it ∙ t.1) in
    let covered_is : octets_at handed document signature before spot ≡ covered =
    same_Some (octets_at handed document signature before spot) covered (sym (ap (option_map (octets_at handed document signature before)) at) ∙ octets) in
    let judged : IsJudged (stamp_of handed document signature before spot) (record { kind = stamp; token = token; soundness = word }) =
    record {
      kind = same ∙ sym (ap kind_in (kind_same parts i p.0 kind p.1 e)) ∙ p.2.kind;
      token = token_is;
      whole = whole;
      soundness =
          subst (λ (x : List ℕ). HasSoundness (digest_of (imprint_kind x) (octets_at handed document signature before spot)) x (soundness_in word)) token_is
          (subst (λ (o : List ℕ). HasSoundness (digest_of (imprint_kind token.now) o) token.now (soundness_in word)) (sym covered_is) sound);
    } in
    let Q : Bool → Type 0 =
    λ b. IsJudgedAs (cond b (Some (stamp_of handed document signature before spot)) None) (Some (record { kind = stamp; token = token; soundness = word })) in
    subst Q (sym t.0) judged

-- What stands in a property is among the objects.

in_all : (document : Nodes) (spots : List Spot) (i : ℕ) (spot : Spot) (object : Object) → slice_get spots i ≡ Some spot → has (objects_in document spot) object ≡ true
    → has (flat_map (objects_in document) spots) object ≡ true
in_all document [] i spot object at e = absurd (none-some spot at)
in_all document (first ∷ spots) zero spot object at e =
    has_front (objects_in document first) (flat_map (objects_in document) spots) object
    (ap (λ s. has (objects_in document s) object) (same_Some first spot at) ∙ e)
in_all document (first ∷ spots) (suc i) spot object at e =
    has_behind (objects_in document first) (flat_map (objects_in document) spots) object (in_all document spots i spot object at e)

in_property : (document : Nodes) (signature : Spot) (more : List Object) (i : ℕ) (spot : Spot) (object : Object) → slice_get (properties document signature) i ≡ Some spot
    → has (objects_in document spot) object ≡ true → has (objects document signature more) object ≡ true
in_property document signature more i spot object at e =
    all_had document signature more object
    (had_among (with_objects [] (objects_in_front document signature)) (flat_map (objects_in document) (properties document signature)) object
    (in_all document (properties document signature) i spot object at e))

signer_listed : (p : Element → Bool) (list : List Element) (element : Element) → find p list ≡ Some element
    → has (map (λ e. Certificate e.whole) list) (Certificate element.whole) ≡ true
signer_listed p [] element e = absurd (none-some element e)
signer_listed p (first ∷ list) element e = by_test (p first) e (signer_listed p list element)
  where
    by_test : (b : Bool) → cond b (Some first) (find p list) ≡ Some element → (find p list ≡ Some element → has (map (λ x. Certificate x.whole) list) (Certificate element.whole) ≡ true)
        → has (Certificate first.whole ∷ map (λ x. Certificate x.whole) list) (Certificate element.whole) ≡ true
    by_test true f more =
        subst (λ (x : Element). has (Certificate first.whole ∷ map (λ y. Certificate y.whole) list) (Certificate x.whole) ≡ true) (same_Some first element f)
        (first_had (Certificate first.whole) (map (λ y. Certificate y.whole) list))
    by_test false f more = has_behind (Certificate first.whole ∷ []) (map (λ y. Certificate y.whole) list) (Certificate element.whole) (more f)

whole_is : (bytes : List ℕ) → (certificate_of bytes).whole ≡ bytes
unfolding certificate_of
whole_is bytes = refl

signer_there : (all : List Object) (pool : List Part) (token : List ℕ) → pool ≡ pool_of all
    → ((bytes : List ℕ) → has (objects_of_token token) (Certificate bytes) ≡ true → has all (Certificate bytes) ≡ true) → HasSignerOf pool (token_of token)
unfolding token_of
signer_there all pool token e there whole found = by_signer (signer_of token) refl found
  where
    by_signer : (o : Option Element) → signer_of token ≡ o → option_map (λ (x : Element). x.whole) o ≡ Some whole
        → (m : Member) × HasCertificate pool m × (m.certificate.whole ≡ whole)
    by_signer None s f = absurd (none-some whole f)
    by_signer (Some element) s f =
        let listed = signer_listed (has_names (signer_issuer token) (signer_serial token)) (certificates_of token) element s in
        let here = there element.whole (has_behind (Token token ∷ []) (map (λ x. Certificate x.whole) (certificates_of token)) (Certificate element.whole) listed) in (
          record { number = number_of all (Certificate element.whole); certificate = certificate_of element.whole },
          ap (λ (parts : List Part). slice_get parts (number_of all (Certificate element.whole))) e ∙ number_there all (Certificate element.whole) here,
          whole_is element.whole ∙ same_Some element.whole whole f,
        )

-- What a case with all objects has for a time-stamp.

pub record Fits (case : cases.Shown) (token : List ℕ) (mark : ℕ) : Type 0 where
  pub before : mark ≤ length case.pool
  pub whole : IsObject layout.token token
  pub there : (n : ℕ) × HasToken case n token
  pub signer : HasSignerOf case.pool (token_of token)

by_judged : (stamped : Stamped) (judged : JudgedStamp) (b : Bool) → IsJudgedAs (cond b (Some stamped) None) (Some judged) → IsJudged stamped judged × (b ≡ true)
by_judged stamped judged true j = (j, refl)
by_judged stamped judged false j = absurd j

pub stamp_fits : (handed : Handed) (document : Nodes) (signature : Spot) (more : List Object) (i mark : ℕ) (spot : Spot) (judged : JudgedStamp) (case : cases.Shown)
    → slice_get (properties document signature) i ≡ Some spot → IsJudgedAs (stamped_at handed document signature (take i (properties document signature)) spot) (Some judged)
    → mark ≡ length (objects_to document signature (take i (properties document signature))) → ShowsObjects (objects document signature more) case
    → Fits case judged.token.now mark
stamp_fits handed document signature more i mark spot judged case at j m s =
    let all : List Spot = properties document signature in
    let both = by_judged (stamp_of handed document signature (take i all) spot) judged (is_stamp spot) j in
    let token_is : judged.token.now ≡ model.token document spot = both.0.token in
    let T : List ℕ → Type 0 = λ t. Fits case t mark in
    let there : has (objects document signature more) (Token (model.token document spot)) ≡ true =
    in_property document signature more i spot (Token (model.token document spot)) at (token_in document spot both.1) in
    let held : objects_in document spot ≡ objects_of_token (model.token document spot) =
    ap (λ b. cond b (objects_of_token (model.token document spot)) (material_in document spot)) both.1 in
    let long : length case.pool ≡ length (objects document signature more) = ap (λ (pool : List Part). length pool) s.pool ∙ length-map (objects document signature more) _ in
    let low = longer_to document signature more (take i all) (drop i all) (sym (take-append-drop i all)) in
    subst T (sym token_is)
    (record {
      before = omega (arith, long, low, m);
      whole = subst (IsObject layout.token) token_is both.0.whole;
      there = (number_of (objects document signature more) (Token (model.token document spot)), s.every (model.token document spot) there);
      signer = signer_there (objects document signature more) case.pool (model.token document spot) s.pool
          (λ bytes e. in_property document signature more i spot (Certificate bytes) at (ap (λ xs. has xs (Certificate bytes)) held ∙ e));
    })

-- What it covers.

value_stays : (document : Nodes) (signature : Spot) (more : List Object) (i : ℕ)
    → number_of (objects document signature more) Value ≡ number_of (objects_to document signature (take i (properties document signature))) Value
value_stays document signature more i =
    let all : List Spot = properties document signature in
    stays_with (objects_to document signature all) more Value (value_had document signature all)
    ∙ ap (λ spots. number_of (objects_to document signature spots) Value) (sym (take-append-drop i all))
    ∙ ap (λ xs. number_of xs Value) (objects_go_on document signature (take i all) (drop i all))
    ∙ stays_with (objects_to document signature (take i all)) (flat_map (objects_in document) (drop i all)) Value (value_had document signature (take i all))

covers_are : (document : Nodes) (signature : Spot) (more : List Object) (i value mark : ℕ) (kind : StampKind) → value ≡ number_of (objects document signature more) Value
    → mark ≡ length (objects_to document signature (take i (properties document signature)))
    → covered_by kind value mark ≡ covers_of (stamps.kind_in kind) (objects_to document signature (take i (properties document signature)))
covers_are document signature more i value mark kinds.Signature v m = ap (λ n. n ∷ []) (v ∙ value_stays document signature more i)
covers_are document signature more i value mark kinds.Archive v m = ap numbers_below m

-- So many properties are put.

abbrev pub with_stamps : cases.Shown → List ShownStamp → cases.Shown
with_stamps case all = record { pool = case.pool; references = case.references; tokens = case.tokens; stamps = all }

pub record Puts (handed : Handed) (document : Nodes) (signature : Spot) (n : ℕ) (before now : cases.Shown) (words : List StampWord) : Type 0 where
  pub kept : now ≡ with_stamps before now.stamps
  pub stamps : (more : List Object) → ShowsObjects (objects document signature more) before
      → ShowsStamps (objects document signature more) (stamps_from handed document signature [] (take n (properties document signature))) now.stamps
  pub told : (more : List Object) → ShowsObjects (objects document signature more) before
      → AreWords (objects document signature more) (stamps_from handed document signature [] (take n (properties document signature))) words

pub puts_start : (handed : Handed) (document : Nodes) (signature : Spot) (case : cases.Shown) → case.stamps ≡ [] → Puts handed document signature 0 case case []
puts_start handed document signature case none = record {
  kept = refl;
  stamps = λ more s. subst (λ (all : List ShownStamp). ShowsStamps (objects document signature more) [] all) (sym none) tt;
  told = λ more s. tt;
}

pub shows_kept : (all : List Object) (before now : cases.Shown) → now ≡ with_stamps before now.stamps → ShowsObjects all before → ShowsObjects all now
shows_kept all before now e s =
    subst (λ (shown : cases.Shown). ShowsObjects all shown) (sym e)
    (record { pool = s.pool; has_value = s.has_value; value = s.value; tokens = s.tokens; every = s.every })

none_there : (stamped : Stamped) (b : Bool) → IsJudgedAs (cond b (Some stamped) None) None → cond b (stamped ∷ []) [] ≡ []
none_there stamped true j = absurd j
none_there stamped false j = refl

pub puts_none : (handed : Handed) (document : Nodes) (signature : Spot) (n : ℕ) (spot : Spot) (before now : cases.Shown) (words : List StampWord)
    → slice_get (properties document signature) n ≡ Some spot → IsJudgedAs (stamped_at handed document signature (take n (properties document signature)) spot) None
    → Puts handed document signature n before now words → Puts handed document signature (n + 1) before now words
puts_none handed document signature n spot before now words at j h =
    let all : List Spot = properties document signature in
    let stamped = stamp_of handed document signature (take n all) spot in
    let same : stamps_from handed document signature [] (take (n + 1) all) ≡ stamps_from handed document signature [] (take n all) =
    stamps_more handed document signature all n spot at
    ∙ ap (λ last. stamps_from handed document signature [] (take n all) ++ last) (none_there stamped (is_stamp spot) j)
    ∙ append-nil (stamps_from handed document signature [] (take n all)) in
    record {
      kept = h.kept;
      stamps = λ more s. subst (λ (shown : List Stamped). ShowsStamps (objects document signature more) shown now.stamps) (sym same) (h.stamps more s);
      told = λ more s. subst (λ (shown : List Stamped). AreWords (objects document signature more) shown words) (sym same) (h.told more s);
    }

stamps_last : (all : List Object) (shown : List Stamped) (put : List ShownStamp) (stamped : Stamped) (stamp : ShownStamp) → ShowsStamps all shown put → IsShownStamp all stamped stamp
    → ShowsStamps all (shown ++ stamped ∷ []) (put ++ stamp ∷ [])
stamps_last all [] [] stamped stamp h is = (is, tt)
stamps_last all [] (x ∷ put) stamped stamp h is = absurd h
stamps_last all (x ∷ shown) [] stamped stamp h is = absurd h
stamps_last all (x ∷ shown) (y ∷ put) stamped stamp h is = (h.0, stamps_last all shown put stamped stamp h.1 is)

words_last : (all : List Object) (shown : List Stamped) (words : List StampWord) (stamped : Stamped) (word : StampWord) → AreWords all shown words → IsWord all stamped word
    → AreWords all (shown ++ stamped ∷ []) (words ++ word ∷ [])
words_last all [] [] stamped word h is = (is, tt)
words_last all [] (x ∷ words) stamped word h is = absurd h
words_last all (x ∷ shown) [] stamped word h is = absurd h
words_last all (x ∷ shown) (y ∷ words) stamped word h is = (h.0, words_last all shown words stamped word h.1 is)

pub puts_on : (handed : Handed) (document : Nodes) (signature : Spot) (n mark : ℕ) (spot : Spot) (judged : JudgedStamp) (before now later : cases.Shown) (words : List StampWord) (word : StampWord)
    → slice_get (properties document signature) n ≡ Some spot → IsJudgedAs (stamped_at handed document signature (take n (properties document signature)) spot) (Some judged)
    → mark ≡ length (objects_to document signature (take n (properties document signature)))
    → (word.kind ≡ judged.kind) × (word.token ≡ judged.token) × (word.soundness ≡ judged.soundness)
    → ((all : List Object) → ShowsObjects all now → word.object.number ≡ number_of all (Token judged.token.now))
    → ((all : List Object) → ShowsObjects all now → later ≡ with_stamp now (record {
      object = number_of all (Token judged.token.now);
      token = judged.token.now;
      sound = is_sound (soundness_in judged.soundness);
      covers = covered_by judged.kind now.references mark;
    }))
    → (some : List Object) → ShowsObjects (objects document signature some) before
    → Puts handed document signature n before now words → Puts handed document signature (n + 1) before later (words ++ word ∷ [])
puts_on handed document signature n mark spot judged before now later words word at j m same number put some shows h =
    let all : List Spot = properties document signature in
    let stamped : Stamped = stamp_of handed document signature (take n all) spot in
    let both = by_judged stamped judged (is_stamp spot) j in
    let is = both.0 in
    let longer : stamps_from handed document signature [] (take (n + 1) all) ≡ stamps_from handed document signature [] (take n all) ++ stamped ∷ [] =
    stamps_more handed document signature all n spot at
    ∙ ap (λ b. stamps_from handed document signature [] (take n all) ++ cond b (stamped ∷ []) []) both.1 in
    let held : (more : List Object) → ShowsObjects (objects document signature more) before → ShowsObjects (objects document signature more) now =
    λ more s. shows_kept (objects document signature more) before now h.kept s in
    let stamp_in : List Object → ShownStamp = λ objs. record {
      object = number_of objs (Token judged.token.now);
      token = judged.token.now;
      sound = is_sound (soundness_in judged.soundness);
      covers = covered_by judged.kind now.references mark;
    } in
    let put_is : (more : List Object) → ShowsObjects (objects document signature more) before → later ≡ with_stamp now (stamp_in (objects document signature more)) =
    λ more s. put (objects document signature more) (held more s) in
    let is_stamp_shown : (more : List Object) → ShowsObjects (objects document signature more) before
    → IsShownStamp (objects document signature more) stamped (stamp_in (objects document signature more)) =
    λ more s. record {
      object = ap (λ t. number_of (objects document signature more) (Token t)) is.token;
      token = is.token;
      sound = (
        λ e. sound_of (digest_of (imprint_kind stamped.token) stamped.octets) stamped.token (soundness_in judged.soundness) is.soundness e,
        λ e. sound_is (digest_of (imprint_kind stamped.token) stamped.octets) stamped.token (soundness_in judged.soundness) is.soundness e,
      );
      covers = covers_are document signature more n now.references mark judged.kind (held more s).value m
          ∙ ap (λ k. covers_of k (objects_to document signature (take n all))) is.kind;
    } in
    record {
      kept =
          let e = put_is some shows in
          e ∙ (λ i. record {
            pool = (h.kept i).pool;
            references = (h.kept i).references;
            tokens = (h.kept i).tokens;
            stamps = now.stamps ++ stamp_in (objects document signature some) ∷ [];
          }) ∙ ap (λ (last : List ShownStamp). with_stamps before last) (sym (ap (λ (c : cases.Shown). c.stamps) e));
      stamps = λ more s.
          let e = put_is more s in
          subst (λ (shown : List Stamped). ShowsStamps (objects document signature more) shown later.stamps) (sym longer)
          (subst (λ (last : List ShownStamp). ShowsStamps (objects document signature more) (stamps_from handed document signature [] (take n all) ++ stamped ∷ []) last)
          (sym (ap (λ (c : cases.Shown). c.stamps) e))
          (stamps_last (objects document signature more) _ now.stamps stamped (stamp_in (objects document signature more)) (h.stamps more s) (is_stamp_shown more s)));
      told = λ more s.
          subst (λ (shown : List Stamped). AreWords (objects document signature more) shown (words ++ word ∷ [])) (sym longer)
          (words_last (objects document signature more) _ words stamped word (h.told more s) (record {
            kind = ap stamps.kind_in same.0 ∙ is.kind;
            token = ap (λ (t : Bor (List ℕ)). t.now) same.1 ∙ is.token;
            whole = subst (IsObject layout.token) is.token is.whole;
            object = number (objects document signature more) (held more s) ∙ ap (λ t. number_of (objects document signature more) (Token t)) is.token;
            soundness = subst (λ (w : Soundness). HasSoundness (digest_of (imprint_kind stamped.token) stamped.octets) stamped.token (soundness_in w)) (sym same.2) is.soundness;
          }));
    }

-- The property of a turn.

pub spot_here : (doc : Doc) (parts : Shown) (n : ℕ) → AreParts doc parts → n < length parts.properties
    → (spot : Spot) × (slice_get (properties (document_in doc) (spot_of doc parts.signature)) n ≡ Some spot)
spot_here doc parts n p lt =
    let many = so_many_properties doc (properties (document_in doc) (spot_of doc parts.signature)) parts.properties p.properties in
    there_is (properties (document_in doc) (spot_of doc parts.signature)) n (omega (arith, many, lt))

pub mark_here : (doc : Doc) (parts : Shown) (marks : List ℕ) (n : ℕ) → AreParts doc parts → n < length parts.properties → AreMarks (document_in doc) (spot_of doc parts.signature) marks
    → get_or marks n 0 ≡ length (objects_to (document_in doc) (spot_of doc parts.signature) (take n (properties (document_in doc) (spot_of doc parts.signature))))
mark_here doc parts marks n p lt are =
    let many = so_many_properties doc (properties (document_in doc) (spot_of doc parts.signature)) parts.properties p.properties in
    get_or_from_slice_get marks n _ 0 (are n (omega (arith, many, lt)))

pub judged_here : (stamped : Option Stamped) (answer : Option JudgedStamp) (judged : JudgedStamp) → answer ≡ Some judged → IsJudgedAs stamped answer → IsJudgedAs stamped (Some judged)
judged_here stamped answer judged e j = subst (λ (o : Option JudgedStamp). IsJudgedAs stamped o) e j

pub not_here : (stamped : Option Stamped) (answer : Option JudgedStamp) → answer ≡ None → IsJudgedAs stamped answer → IsJudgedAs stamped None
not_here stamped answer e j = subst (λ (o : Option JudgedStamp). IsJudgedAs stamped o) e j

pub fits_here : (handed : Handed) (doc : Doc) (parts : Shown) (marks : List ℕ) (n : ℕ) (before now : cases.Shown) (words : List StampWord) (answer : Option JudgedStamp) (judged : JudgedStamp)
    → AreParts doc parts → n < length parts.properties → AreMarks (document_in doc) (spot_of doc parts.signature) marks
    → (more : List Object) → ShowsObjects (objects (document_in doc) (spot_of doc parts.signature) more) before
    → Puts handed (document_in doc) (spot_of doc parts.signature) n before now words → answer ≡ Some judged
    → ((spot : Spot) → slice_get (properties (document_in doc) (spot_of doc parts.signature)) n ≡ Some spot
    → IsJudgedAs (stamped_at handed (document_in doc) (spot_of doc parts.signature) (take n (properties (document_in doc) (spot_of doc parts.signature))) spot) answer)
    → Fits now judged.token.now (get_or marks n 0)
fits_here handed doc parts marks n before now words answer judged p lt are more s h e j =
    let document = document_in doc in
    let signature = spot_of doc parts.signature in
    let here = spot_here doc parts n p lt in
    stamp_fits handed document signature more n (get_or marks n 0) here.0 judged now here.1 (judged_here _ answer judged e (j here.0 here.1))
    (mark_here doc parts marks n p lt are) (shows_kept (objects document signature more) before now h.kept s)

pub ends_here : (handed : Handed) (doc : Doc) (parts : Shown) (n : ℕ) (before now : cases.Shown) (words : List StampWord) → AreParts doc parts → length parts.properties ≤ n
    → Puts handed (document_in doc) (spot_of doc parts.signature) n before now words
    → (more : List Object) → ShowsObjects (objects (document_in doc) (spot_of doc parts.signature) more) before
    → (ShowsObjects (objects (document_in doc) (spot_of doc parts.signature) more) now
    × ShowsStamps (objects (document_in doc) (spot_of doc parts.signature) more) (shown.stamps handed (document_in doc) (spot_of doc parts.signature)) now.stamps)
    × AreWords (objects (document_in doc) (spot_of doc parts.signature) more) (shown.stamps handed (document_in doc) (spot_of doc parts.signature)) words
ends_here handed doc parts n before now words p past h more s =
    let document = document_in doc in
    let signature = spot_of doc parts.signature in
    let many = so_many_properties doc (properties document signature) parts.properties p.properties in
    let over : length (properties document signature) ≤ n = omega (arith, many, past) in
    let all = take_all n (properties document signature) over in (
      (
        shows_kept (objects document signature more) before now h.kept s,
        subst (λ (spots : List Spot). ShowsStamps (objects document signature more) (stamps_from handed document signature [] spots) now.stamps) all (h.stamps more s),
      ),
      subst (λ (spots : List Spot). AreWords (objects document signature more) (stamps_from handed document signature [] spots) words) all (h.told more s),
    )

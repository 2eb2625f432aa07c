-- One step more of a walk.
use Rattle.std.proofs.Common.{◌≡◌, ℕ, ◌+◌, ◌*◌, ◌<◌, ◌≤◌, Bool, false, List, [], ◌∷◌, length, slice_index_or, IsTrue, ◌↔◌, arith, sym, ◌∙◌, subst, ap, ◌++◌, ◌/◌, ◌%◌, get_or, ⊎_elim}
use Rattle.std.proofs.Math.Seq.{get_or-append_seam}
use Rattle.std.proofs.lemmas.Bool.{cases_lt}
use Rattle.std.proofs.lemmas.List.{get_or_append_left}
use Rattle.std.proofs.lemmas.Option.{slice_get-get_or, get_or_from_slice_get}
use Rattle.cert_paths.specs.Numbered.{Issuing, next_count, IsRooted, LeadsWithin, HasNumberedWalk, IsTable}

abbrev pub LeadsAbove : Issuing → ℕ → ℕ → ℕ → Type 0
LeadsAbove issuing steps counted c =
    (i : ℕ) × (i < issuing.size) × IsTrue (issuing.linked counted c i) × LeadsWithin issuing steps (next_count issuing counted i) i

pub further : (issuing : Issuing) (steps counted c : ℕ) → LeadsAbove issuing steps counted c → LeadsWithin issuing (steps + 1) counted c
further issuing steps counted c (i, lt, link, (above, le, on)) = (i ∷ above, omega arith, (lt, link, on))

pub taken : (issuing : Issuing) (steps counted c : ℕ) → (IsRooted issuing counted c → ⊥) → LeadsWithin issuing (steps + 1) counted c → LeadsAbove issuing steps counted c
taken issuing steps counted c no_root ([], le, root) = absurd (no_root root)
taken issuing steps counted c no_root (i ∷ above, le, (lt, link, on)) = (i, lt, link, (above, omega arith, on))

pub at_once : (issuing : Issuing) (steps counted c : ℕ) → IsRooted issuing counted c → LeadsWithin issuing steps counted c
at_once issuing steps counted c root = ([], omega arith, root)

pub only_at_once : (issuing : Issuing) (counted c : ℕ) → LeadsWithin issuing 0 counted c → IsRooted issuing counted c
only_at_once issuing counted c ([], le, root) = root
only_at_once issuing counted c (i ∷ above, le, on) = absurd (omega arith)

pub at_seven : (issuing : Issuing) (table : List Bool) (steps leaf : ℕ) → steps ≡ 7 → leaf < issuing.size → IsTable issuing steps table →
    (IsTrue (slice_index_or table (leaf * 8 + 0) false) ↔ HasNumberedWalk issuing leaf)
at_seven issuing table steps leaf is lt right =
    let both = right.right leaf 0 lt (omega arith) in (
      λ h. let (above, le, on) = both.0 h in (above, omega arith, on),
      λ h. let (above, few, on) = h in both.1 (above, omega arith, on),
    )

any_default : {X : Type 0} (xs : List X) (i : ℕ) (d e : X) → i < length xs → get_or xs i d ≡ get_or xs i e
any_default xs i d e lt = get_or_from_slice_get xs i (get_or xs i e) d (slice_get-get_or xs i e lt)

pub answer_at_seven : (issuing : Issuing) (table : List Bool) (steps leaf : ℕ) (answer : Bool) → 7 ≤ steps → steps ≤ 7 → leaf < issuing.size → IsTable issuing steps table →
    answer ≡ get_or table (leaf * 8) answer → (IsTrue answer ↔ HasNumberedWalk issuing leaf)
answer_at_seven issuing table steps leaf answer ge le lt right is =
    let each = right.each in
    let within : leaf * 8 < length table = omega arith in
    let zero' : leaf * 8 + 0 ≡ leaf * 8 = omega arith in
    let same : answer ≡ slice_index_or table (leaf * 8 + 0) false = is ∙ any_default table (leaf * 8) answer false within ∙ ap (λ k. get_or table k false) (sym zero') in
    let both = at_seven issuing table steps leaf (omega arith) lt right in
    (λ h. both.0 (sym same ∙ h), λ h. same ∙ both.1 h)

-- the entries so far are right
abbrev pub AreRight : (P : ℕ → ℕ → Type 0) (Room : ℕ → Type 0) → List Bool → ℕ → Type 0
AreRight P Room table place =
    (c counted : ℕ) → Room counted → c * 8 + counted < place → (IsTrue (slice_index_or table (c * 8 + counted) false) ↔ P counted c)

pub entry_pushed : (P : ℕ → ℕ → Type 0) (Room : ℕ → Type 0) → ((n : ℕ) → Room n → n < 8) → (table after : List Bool) (place : ℕ) (entry : Bool) →
    after ≡ table ++ entry ∷ [] → length table ≡ place →
    AreRight P Room table place → (Room (place % 8) → (IsTrue entry ↔ P (place % 8) (place / 8))) → AreRight P Room after (place + 1)
entry_pushed P Room small table after place entry is each right new c counted room lt =
    let k = c * 8 + counted in
    let few = small counted room in
    let T : Bool → Type 0 = λ b. IsTrue b ↔ P counted c in
    ⊎_elim
    (λ before.
    let within : k < length table = omega arith in
    let same : get_or after k false ≡ get_or table k false = ap (λ l. get_or l k false) is ∙ get_or_append_left table (entry ∷ []) false k within in
    subst T (sym same) (right c counted room before))
    (λ from.
    let here : k ≡ length table = omega arith in
    let same : get_or after k false ≡ entry = ap (λ l. get_or l k false) is ∙ ap (λ n. get_or (table ++ entry ∷ []) n false) here ∙ get_or-append_seam table entry [] false in
    let column : place % 8 ≡ counted = omega arith in
    let row : place / 8 ≡ c = omega arith in
    let Q : ℕ → Type 0 = λ n. IsTrue entry ↔ P n c in
    let R : ℕ → Type 0 = λ n. IsTrue entry ↔ P (place % 8) n in
    subst T (sym same) (subst Q column (subst R row (new (subst Room (sym column) room)))))
    (cases_lt k place)

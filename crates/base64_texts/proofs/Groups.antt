-- Blocks of whole groups, and what is in front of them.
use Rattle.std.proofs.Common.{◌≡◌, ℕ, zero, suc, ◌+◌, ◌*◌, ◌/◌, ◌%◌, ◌≤◌, true, cond, List, [], ◌∷◌, ◌++◌, length, take, Some, None, Option, Ok, nat_eq, refl, sym, ◌∙◌, ap, subst, arith}
use Rattle.std.proofs.lemmas.Bool.{false≢true, eqb-true}
use Rattle.std.proofs.lemmas.List.{take_all, length-append, length-take-le}
use Rattle.std.specs.Option.{option_map_or}
use Rattle.document_model.proofs.Joins.{by_test}
use Rattle.xa_io.specs.Bytes.{IsBytes}
use Rattle.base64.specs.GeneralPurpose.{decode_of}
use Rattle.base64.specs.Engines.{standard}
use Rattle.base64.proofs.EngineFacts.{decode_of-encode_of}
use Rattle.signature_model.specs.Base64.{strict}
use Rattle.base64_texts.specs.declared.stages.Stage.{Stage}
use Rattle.base64_texts.specs.declared.stages.Stage.TheVariants.{Start, One, Two, Three, Padding, End, Refused}
use Rattle.base64_texts.specs.Symbols.{value_of}
use Rattle.base64_texts.specs.Stages.{after, after_symbol, after_all, is_open, is_whole}
use Rattle.base64_texts.specs.Spelling.{spelled}
use Rattle.base64_texts.specs.Blocks.{AppendsDecoded}
use Rattle.base64_texts.proofs.Whole.{behind, behind_spelling, spelled-nil, spelled-append, spelled_group, spelling_of, strict_spelled}
use Rattle.base64_texts.proofs.Begun.{after_all-append, over, over_all, open_first}

pub length-spelled : (b : List ℕ) → length b % 3 ≡ 0 → length (spelled b) ≡ length b / 3 * 4
length-spelled [] h = ap (λ (x : List ℕ). length x) spelled-nil
length-spelled (a ∷ []) h = absurd (omega (arith, h))
length-spelled (a ∷ b ∷ []) h = absurd (omega (arith, h))
length-spelled (a ∷ b ∷ c ∷ rest) h =
    let r : length (spelled rest) ≡ length rest / 3 * 4 = length-spelled rest (omega (arith, h)) in
    ap (λ (x : List ℕ). length x) (spelled_group a b c rest) ∙ omega (arith, r)

pub length-taken : (octets block : List ℕ) (filled : ℕ) → length octets % 3 ≡ 0 → filled ≤ length block
    → length octets / 3 * 4 + filled ≡ length (spelled octets ++ take filled block)
length-taken octets block filled groups within = rw (length-append, length-spelled octets groups, length-take-le) refl

pub behind_groups : (n : ℕ) → n % 3 ≡ 0 → behind n ≡ Start
behind_groups n h = ap (λ k. cond (nat_eq k 0) Start End) h

pub groups_behind : (n : ℕ) → behind n ≡ Start → n % 3 ≡ 0
groups_behind n h = by_test (λ s. s ≡ Start → n % 3 ≡ 0) (nat_eq (n % 3) 0) Start End (λ e s. eqb-true (n % 3) 0 e) (λ e s. cc) h

-- Behind whole groups a text is read as from the start.
pub block_stage : (octets block : List ℕ) → IsBytes octets → length octets % 3 ≡ 0 → after_all Start (spelled octets ++ block) ≡ after_all Start block
block_stage octets block bytes groups =
    after_all-append Start (spelled octets) block ∙ ap (λ s. after_all s block) (behind_spelling octets bytes ∙ behind_groups (length octets) groups)

end_stops : (o : Option ℕ) → option_map_or (after_symbol End) o Refused ≡ Refused
end_stops None = refl
end_stops (Some v) = refl

-- at the start of a group more may follow only behind no padding
start_alone : (s : Stage) (c : ℕ) → over s ≡ 0 → is_open (after s c) ≡ true → s ≡ Start
start_alone Start c h w = refl
start_alone One c h w = absurd (omega (arith, h))
start_alone (Two may_end) c h w = absurd (omega (arith, h))
start_alone (Three may_end) c h w = absurd (omega (arith, h))
start_alone Padding c h w = absurd (omega (arith, h))
start_alone End c h w = absurd (false≢true (ap is_open (sym (end_stops (value_of c))) ∙ w))
start_alone Refused c h w = absurd (false≢true (open_first Refused (c ∷ []) w))

pub full_block : (octets block : List ℕ) (filled c : ℕ) → IsBytes octets → length octets % 3 ≡ 0 → length block ≡ 1024 → filled ≡ 1024
    → is_open (after_all Start ((spelled octets ++ take filled block) ++ c ∷ [])) ≡ true → after_all Start block ≡ Start
full_block octets block filled c bytes groups len full w =
    let all : take filled block ≡ block = take_all filled block (omega (arith, len, full)) in
    let s : Stage = after_all Start block in
    let more : is_open (after s c) ≡ true = ap is_open (sym (after_all-append Start (spelled octets ++ take filled block) (c ∷ []) ∙ ap (λ t. after t c) (block_stage octets (take filled block) bytes groups ∙ ap (after_all Start) all))) ∙ w in
    let place : over s ≡ 0 = over_all Start block (open_first s (c ∷ []) more) ∙ ap (λ n. (0 + n) % 4) len in
    start_alone s c place more

bytes-append : (a b : List ℕ) → IsBytes a → IsBytes b → IsBytes (a ++ b)
bytes-append [] b ha hb i = hb i
bytes-append (x ∷ a) b ha hb zero = ha 0
bytes-append (x ∷ a) b ha hb (suc i) = bytes-append a b (λ k. ha (suc k)) hb i

pub whole_block : (octets block : List ℕ) → IsBytes octets → length octets % 3 ≡ 0 → is_whole (after_all Start (spelled octets ++ block)) ≡ true → is_whole (after_all Start block) ≡ true
whole_block octets block bytes groups w = ap is_whole (sym (block_stage octets block bytes groups)) ∙ w

pub strict_blocks : (octets block new : List ℕ) → IsBytes octets → length octets % 3 ≡ 0 → AppendsDecoded block octets new → strict (spelled octets ++ block) ≡ Some new
strict_blocks octets block new bytes groups more =
    ap (λ x. strict (spelled octets ++ x)) more.2 ∙ ap strict (sym (spelled-append octets more.0 groups))
    ∙ strict_spelled (octets ++ more.0) (bytes-append octets more.0 bytes more.1) ∙ ap (λ (x : List ℕ). Some x) (sym more.3)

-- a block was decoded, and none is left
pub block_moved : (octets block new : List ℕ) → length octets % 3 ≡ 0 → AppendsDecoded block octets new → spelled new ≡ spelled octets ++ block
block_moved octets block new groups more = ap spelled more.3 ∙ spelled-append octets more.0 groups ∙ ap (λ x. spelled octets ++ x) (sym more.2)

pub block_groups : (octets block new : List ℕ) → length octets % 3 ≡ 0 → after_all Start block ≡ Start → AppendsDecoded block octets new → length new % 3 ≡ 0
block_groups octets block new groups start more =
    let all : after_all Start (spelled more.0) ≡ Start = ap (after_all Start) (sym more.2) ∙ start in
    let whole : length more.0 % 3 ≡ 0 = groups_behind (length more.0) (sym (behind_spelling more.0 more.1) ∙ all) in
    ap (λ (x : List ℕ). length x % 3) more.3 ∙ rw length-append (omega (arith, groups, whole))

pub appended_bytes : (octets block new : List ℕ) → IsBytes octets → AppendsDecoded block octets new → IsBytes new
appended_bytes octets block new bytes more = subst IsBytes (sym more.3) (bytes-append octets more.0 bytes more.1)

pub whole_decodes : (text : List ℕ) → is_whole (after_all Start text) ≡ true → (octets : List ℕ) × (decode_of standard text ≡ Ok octets)
unfolding spelled
whole_decodes text w =
    let s = spelling_of text w in
    (s.octets, ap (decode_of standard) s.is ∙ decode_of-encode_of standard s.octets refl s.bytes)

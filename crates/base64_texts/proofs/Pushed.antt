-- What is known behind a text says what the text decodes to.
use Rattle.std.proofs.Common.{◌≡◌, ℕ, suc, ◌+◌, ◌/◌, ◌<◌, ◌≤◌, Bool, true, false, not, cond, List, [], ◌∷◌, ◌++◌, length, Some, None, Option, inl, inr, nat_lt, nat_le, refl, sym, ◌∙◌, ap, arith}
use Rattle.std.proofs.lemmas.Bool.{false≢true, cases_lt, ne_eqb, ltb-true}
use Rattle.std.proofs.lemmas.Bool.Decides.{leb_tells}
use Rattle.std.proofs.lemmas.List.{append-nil, append_assoc, length-append}
use Rattle.std.proofs.lemmas.Str.{encode_ascii, encodes-chars}
use Rattle.std.proofs.Math.Utf8.{encode, encodes}
use Rattle.std.specs.Prelude.{min, is_some, ◌&&◌}
use Rattle.std.specs.Str.{chars, IsUtf8}
use Rattle.std.specs.Option.{option_map_or}
use Rattle.document_model.specs.Characters.{is_white}
use Rattle.document_model.proofs.Joins.{by_test}
use Rattle.signature_model.specs.Spots.{without_white}
use Rattle.signature_model.specs.Base64.{strict, is_strict, skipping, fault_in}
use Rattle.base64_texts.specs.declared.stages.Stage.{Stage}
use Rattle.base64_texts.specs.declared.stages.Stage.TheVariants.{Start, One, Two, Three, Padding, End, Refused}
use Rattle.base64_texts.specs.declared.scanner.Scanner.{Scanner}
use Rattle.base64_texts.specs.Symbols.{value_of, is_padding}
use Rattle.base64_texts.specs.Stages.{after, after_symbol, after_other, after_all, is_open, is_whole}
use Rattle.base64_texts.specs.Readings.{Reading, moved, read, read_on, reading, nothing_read, has_fault}
use Rattle.base64_texts.specs.Scans.{last_place, counted, scan, scan_on, scanned, nothing_scanned, fault_place}
use Rattle.base64_texts.proofs.Tables.{beyond, high_value}
use Rattle.base64_texts.proofs.Whole.{is_strict_whole}
use Rattle.base64_texts.proofs.Begun.{after_all-append, open_first, taken, fault_taken}

-- Behind a fault.

closed_refused : (s : Stage) → is_open s ≡ false → s ≡ Refused
closed_refused Refused h = refl
closed_refused Start h = absurd (false≢true (sym h))
closed_refused One h = absurd (false≢true (sym h))
closed_refused (Two may_end) h = absurd (false≢true (sym h))
closed_refused (Three may_end) h = absurd (false≢true (sym h))
closed_refused Padding h = absurd (false≢true (sym h))
closed_refused End h = absurd (false≢true (sym h))

after_refused : (c : ℕ) → after Refused c ≡ Refused
after_refused c = elim (value_of c) as (λ o. option_map_or (after_symbol Refused) o Refused ≡ Refused) [ None ↦ refl | Some v ↦ refl ]

taken_refused : (cs : List ℕ) → taken Refused cs ≡ 0
taken_refused [] = refl
taken_refused (c ∷ cs) = ap (λ s. cond (is_open s) (suc (taken s cs)) 0) (after_refused c)

taken_closed : (s : Stage) (cs : List ℕ) → is_open s ≡ false → taken s cs ≡ 0
taken_closed s cs h = ap (λ t. taken t cs) (closed_refused s h) ∙ taken_refused cs

closed : (b : Bool) → not b ≡ true → b ≡ false
closed false h = refl
closed true h = absurd (false≢true h)

first_true : (a b : Bool) → a && b ≡ true → a ≡ true
first_true true b h = refl
first_true false b h = h

-- Characters past ASCII are refused.

within : (a b : ℕ) → a ≤ b → nat_le a b ≡ true
within a b h = elim (leb_tells a b) [ inl t ↦ t.0 | inr t ↦ (let l = t.1 in absurd (omega (arith, l, h))) ]

high_white : (c : ℕ) → 128 ≤ c → is_white c ≡ false
high_white c h = rw (within 9 c (omega arith), within 13 c (omega arith), within 32 c (omega arith), beyond c 10 (omega arith), beyond c 13 (omega arith), beyond c 32 (omega arith)) refl

high_other : (s : Stage) (c : ℕ) → is_padding c ≡ false → after_other s c ≡ Refused
high_other Start c h = refl
high_other One c h = refl
high_other (Two may_end) c h = ap (λ b. cond (b && may_end) Padding Refused) h
high_other (Three may_end) c h = ap (λ b. cond (b && may_end) End Refused) h
high_other Padding c h = ap (λ b. cond b End Refused) h
high_other End c h = refl
high_other Refused c h = refl

after_high : (s : Stage) (c : ℕ) → 128 ≤ c → after s c ≡ Refused
after_high s c h = ap (λ o. option_map_or (after_symbol s) o (after_other s c)) (high_value c (omega (arith, h))) ∙ high_other s c (ne_eqb c 61 (λ e. omega (arith, h, e)))

-- a walk over characters that stops at each character past ASCII
record StopsHigh {S : Type 0} (step : S → ℕ → S) (walk : S → List ℕ → S) (stop : S → S) : Type 0 where
  none : (s : S) → walk s [] ≡ s
  more : (s : S) (c : ℕ) (cs : List ℕ) → walk s (c ∷ cs) ≡ walk (step s c) cs
  high : (s : S) (c : ℕ) → 128 ≤ c → step s c ≡ stop s
  stays : (s : S) (cs : List ℕ) → walk (stop s) cs ≡ stop s

high_first : {S : Type 0} (step : S → ℕ → S) (walk : S → List ℕ → S) (stop : S → S) → StopsHigh step walk stop → (s : S) (b : ℕ) (rest : List ℕ) → 128 ≤ b → walk s (b ∷ rest) ≡ stop s
high_first step walk stop w s b rest h = w.more s b rest ∙ ap (λ t. walk t rest) (w.high s b h) ∙ w.stays s rest

high_encoded : {S : Type 0} (step : S → ℕ → S) (walk : S → List ℕ → S) (stop : S → S) → StopsHigh step walk stop → (s : S) (c : ℕ) (rest : List ℕ) → 128 ≤ c → walk s (encode c ++ rest) ≡ stop s
unfolding encode
high_encoded step walk stop w s c rest h = by_test (λ (e : List ℕ). walk s (e ++ rest) ≡ stop s) (nat_lt c 128) _ _
    (λ t. let low : c < 128 = ltb-true c 128 t in absurd (omega (arith, low, h)))
    (λ t. by_test (λ (e : List ℕ). walk s (e ++ rest) ≡ stop s) (nat_lt c 2048) _ _ (λ u. high_first step walk stop w s (192 + c / 64) _ (omega arith))
    (λ u. by_test (λ (e : List ℕ). walk s (e ++ rest) ≡ stop s) (nat_lt c 65536) _ _ (λ v. high_first step walk stop w s (224 + c / 4096) _ (omega arith)) (λ v. high_first step walk stop w s (240 + c / 262144) _ (omega arith))))

encoded_walk : {S : Type 0} (step : S → ℕ → S) (walk : S → List ℕ → S) (stop : S → S) → StopsHigh step walk stop → (s : S) (cs : List ℕ) → walk s (encodes cs) ≡ walk s cs
encoded_walk step walk stop w s [] = refl
encoded_walk step walk stop w s (c ∷ cs) = elim (cases_lt c 128) [
  | inl low ↦ ap (λ e. walk s (e ++ encodes cs)) (encode_ascii c low) ∙ w.more s c (encodes cs) ∙ encoded_walk step walk stop w (step s c) cs ∙ sym (w.more s c cs)
  | inr high ↦ high_encoded step walk stop w s c (encodes cs) high ∙ sym (high_first step walk stop w s c cs high)
]

-- Readings.

abbrev stopped : Reading → Reading
stopped r = record { stage = Refused; front = r.front; spent = r.spent }

refused_read : (r : Reading) (c : ℕ) → read (stopped r) c ≡ stopped r
refused_read r c = by_test (λ x. x ≡ stopped r) (is_white c) (stopped r) (moved (stopped r) (after Refused c) c) (λ e. refl) (λ e. ap (λ s. moved (stopped r) s c) (after_refused c))

refused_reads : (r : Reading) (cs : List ℕ) → read_on (stopped r) cs ≡ stopped r
refused_reads r [] = refl
refused_reads r (c ∷ cs) = ap (λ x. read_on x cs) (refused_read r c) ∙ refused_reads r cs

high_read : (r : Reading) (c : ℕ) → 128 ≤ c → read r c ≡ stopped r
high_read r c h = ap (λ w. cond w r (moved r (after r.stage c) c)) (high_white c h) ∙ ap (λ s. moved r s c) (after_high r.stage c h)

reading_stops : StopsHigh read read_on stopped
reading_stops = record { none = λ r. refl; more = λ r c cs. refl; high = high_read; stays = refused_reads }

-- each character past ASCII is read as each octet past ASCII
pub read_other : (r : Reading) (b c : ℕ) → 128 ≤ b → 128 ≤ c → read r b ≡ read r c
read_other r b c hb hc = high_read r b hb ∙ sym (high_read r c hc)

pub read_chars : (r : Reading) (text : List ℕ) → IsUtf8 text → read_on r text ≡ read_on r (chars text)
read_chars r text u = ap (read_on r) (sym (encodes-chars text u)) ∙ encoded_walk read read_on stopped reading_stops r (chars text)

fault_is : (r : Reading) → has_fault r ≡ true → r ≡ stopped r
fault_is r h = ap (λ (s : Stage). let x : Reading = record { stage = s; front = r.front; spent = r.spent } in x) (closed_refused r.stage (closed (is_open r.stage) (first_true (not (is_open r.stage)) (not r.spent) h)))

pub fault_stays : (r : Reading) (c : ℕ) → has_fault r ≡ true → read r c ≡ r
fault_stays r c h = ap (λ x. read x c) (fault_is r h) ∙ refused_read r c ∙ sym (fault_is r h)

stage_read : (r : Reading) (cs : List ℕ) → (read_on r cs).stage ≡ after_all r.stage (without_white cs)
stage_read r [] = refl
stage_read r (c ∷ cs) =
    let next : Stage = after r.stage c in
    elim (is_white c) as (λ w. (read_on (cond w r (moved r next c)) cs).stage ≡ after_all r.stage (cond (not w) (c ∷ without_white cs) (without_white cs)))
    [ true ↦ stage_read r cs | false ↦ stage_read (moved r next c) cs ]

one_more : (b : Bool) (front : List ℕ) (c t : ℕ) → (b ≡ false → t ≡ 0) → length (cond b (front ++ c ∷ []) front) + t ≡ length front + cond b (suc t) 0
one_more true front c t h = rw length-append (omega arith)
one_more false front c t h = let z : t ≡ 0 = h refl in omega arith

length_read : (r : Reading) (cs : List ℕ) → length (read_on r cs).front ≡ length r.front + taken r.stage (without_white cs)
length_read r [] = omega arith
length_read r (c ∷ cs) =
    let next : Stage = after r.stage c in
    let rest : List ℕ = without_white cs in
    elim (is_white c) as (λ w. length (read_on (cond w r (moved r next c)) cs).front ≡ length r.front + taken r.stage (cond (not w) (c ∷ rest) rest))
    [ true ↦ length_read r cs | false ↦ length_read (moved r next c) cs ∙ one_more (is_open next) r.front c (taken next rest) (taken_closed next rest) ]

open_rest : (r : Reading) (next : Stage) (c : ℕ) (cs : List ℕ) → is_open (read_on (moved r next c) cs).stage ≡ true → is_open next ≡ true
open_rest r next c cs h = open_first next (without_white cs) (ap is_open (sym (stage_read (moved r next c) cs)) ∙ h)

front_read : (r : Reading) (cs : List ℕ) → is_open (read_on r cs).stage ≡ true → (read_on r cs).front ≡ r.front ++ without_white cs
front_read r [] h = sym (append-nil r.front)
front_read r (c ∷ cs) h =
    let next : Stage = after r.stage c in
    let rest : List ℕ = without_white cs in
    let split : (w : Bool) → is_open (read_on (cond w r (moved r next c)) cs).stage ≡ true → (read_on (cond w r (moved r next c)) cs).front ≡ r.front ++ cond (not w) (c ∷ rest) rest =
    λ w. elim w as (λ w. is_open (read_on (cond w r (moved r next c)) cs).stage ≡ true → (read_on (cond w r (moved r next c)) cs).front ≡ r.front ++ cond (not w) (c ∷ rest) rest) [
      | true ↦ front_read r cs
      | false ↦ λ h. front_read (moved r next c) cs h ∙ ap (λ b. cond b (r.front ++ c ∷ []) r.front ++ rest) (open_rest r next c cs h) ∙ append_assoc r.front (c ∷ []) rest
    ] in
    split (is_white c) h

no_some : (o : Option (List ℕ)) → is_some o ≡ false → o ≡ None
no_some None h = refl
no_some (Some b) h = absurd (false≢true (sym h))

whole_open : (s : Stage) → is_whole s ≡ true → is_open s ≡ true
whole_open Start h = refl
whole_open End h = refl
whole_open One h = refl
whole_open (Two may_end) h = refl
whole_open (Three may_end) h = refl
whole_open Padding h = refl
whole_open Refused h = h

pub no_octets : (r : Reading) (text : List ℕ) → r ≡ reading text → is_whole r.stage ≡ false → (skipping text ≡ None) × (length r.front ≡ fault_in (without_white text))
no_octets r text is h =
    let at : r.stage ≡ after_all Start (without_white text) = ap (λ (x : Reading). x.stage) is ∙ stage_read nothing_read text in
    let refused : is_strict (without_white text) ≡ false = is_strict_whole (without_white text) ∙ ap is_whole (sym at) ∙ h in (
      no_some (strict (without_white text)) refused,
      ap (λ (x : Reading). length x.front) is ∙ length_read nothing_read text ∙ omega arith ∙ sym (fault_taken (without_white text)),
    )

pub all_read : (r : Reading) (text : List ℕ) → r ≡ reading text → is_whole r.stage ≡ true → r.front ≡ without_white text
all_read r text is h =
    ap (λ (x : Reading). x.front) is ∙ front_read nothing_read text (whole_open (reading text).stage (ap (λ (x : Reading). is_whole x.stage) (sym is) ∙ h))

-- one more character is taken
pub goes_further : (stage next : Stage) (front : List ℕ) (c : ℕ) → (is_open stage ≡ true → after_all Start front ≡ stage) → next ≡ after stage c → is_open next ≡ true
    → after_all Start (front ++ c ∷ []) ≡ next
goes_further stage next front c follows is h =
    after_all-append Start front (c ∷ []) ∙ ap (λ s. after s c) (follows (open_first stage (c ∷ []) (ap is_open (sym is) ∙ h))) ∙ sym is

-- Scans.

abbrev halted : Scanner → Scanner
halted s = record { stage = Refused; count = s.count }

refused_scan : (s : Scanner) (c : ℕ) → scan (halted s) c ≡ halted s
refused_scan s c = by_test (λ x. x ≡ halted s) (is_white c) (halted s) (counted (halted s) (after Refused c)) (λ e. refl) (λ e. ap (λ t. counted (halted s) t) (after_refused c))

refused_scans : (s : Scanner) (cs : List ℕ) → scan_on (halted s) cs ≡ halted s
refused_scans s [] = refl
refused_scans s (c ∷ cs) = ap (λ x. scan_on x cs) (refused_scan s c) ∙ refused_scans s cs

high_scan : (s : Scanner) (c : ℕ) → 128 ≤ c → scan s c ≡ halted s
high_scan s c h = ap (λ w. cond w s (counted s (after s.stage c))) (high_white c h) ∙ ap (λ t. counted s t) (after_high s.stage c h)

scanning_stops : StopsHigh scan scan_on halted
scanning_stops = record { none = λ s. refl; more = λ s c cs. refl; high = high_scan; stays = refused_scans }

pub scan_other : (s : Scanner) (b c : ℕ) → 128 ≤ b → 128 ≤ c → scan s b ≡ scan s c
scan_other s b c hb hc = high_scan s b hb ∙ sym (high_scan s c hc)

pub scan_chars : (s : Scanner) (text : List ℕ) → IsUtf8 text → scan_on s text ≡ scan_on s (chars text)
scan_chars s text u = ap (scan_on s) (sym (encodes-chars text u)) ∙ encoded_walk scan scan_on halted scanning_stops s (chars text)

stage_scan : (s : Scanner) (cs : List ℕ) → (scan_on s cs).stage ≡ after_all s.stage (without_white cs)
stage_scan s [] = refl
stage_scan s (c ∷ cs) =
    let next : Stage = after s.stage c in
    elim (is_white c) as (λ w. (scan_on (cond w s (counted s next)) cs).stage ≡ after_all s.stage (cond (not w) (c ∷ without_white cs) (without_white cs)))
    [ true ↦ stage_scan s cs | false ↦ stage_scan (counted s next) cs ]

one_counted : (b : Bool) (n last t : ℕ) → (b ≡ false → t ≡ 0) → min (cond b (min (n + 1) last) n + t) last ≡ min (n + cond b (suc t) 0) last
one_counted true n last t h = omega arith
one_counted false n last t h = let z : t ≡ 0 = h refl in omega arith

count_kept : (b : Bool) (n last : ℕ) → n ≤ last → cond b (min (n + 1) last) n ≤ last
count_kept true n last h = omega arith
count_kept false n last h = h

none_counted : (n last : ℕ) → n ≤ last → n ≡ min (n + 0) last
none_counted n last h = omega arith

count_scan : (s : Scanner) (cs : List ℕ) → s.count ≤ last_place → (scan_on s cs).count ≡ min (s.count + taken s.stage (without_white cs)) last_place
count_scan s [] h = none_counted s.count last_place h
count_scan s (c ∷ cs) h =
    let next : Stage = after s.stage c in
    let rest : List ℕ = without_white cs in
    elim (is_white c) as (λ w. (scan_on (cond w s (counted s next)) cs).count ≡ min (s.count + taken s.stage (cond (not w) (c ∷ rest) rest)) last_place) [
      | true ↦ count_scan s cs h
      | false ↦ count_scan (counted s next) cs (count_kept (is_open next) s.count last_place h) ∙ one_counted (is_open next) s.count last_place (taken next rest) (taken_closed next rest)
    ]

pub scan_strict : (s : Scanner) (text : List ℕ) → s ≡ scanned text → is_whole s.stage ≡ is_strict (without_white text)
scan_strict s text is = ap (λ (x : Scanner). is_whole x.stage) is ∙ ap is_whole (stage_scan nothing_scanned text) ∙ sym (is_strict_whole (without_white text))

pub scan_fault : (s : Scanner) (text : List ℕ) → s ≡ scanned text → is_strict (without_white text) ≡ false → Some s.count ≡ fault_place text
scan_fault s text is h =
    let count : s.count ≡ min (fault_in (without_white text)) last_place =
    ap (λ (x : Scanner). x.count) is ∙ count_scan nothing_scanned text (omega arith) ∙ ap (λ n. min n last_place) (omega arith ∙ sym (fault_taken (without_white text))) in
    ap (λ n. Some n) count ∙ ap (λ b. cond b None (Some (min (fault_in (without_white text)) last_place))) (sym h)

pub scan_fine : (text : List ℕ) → is_strict (without_white text) ≡ true → None ≡ fault_place text
scan_fine text h = ap (λ b. cond b None (Some (min (fault_in (without_white text)) last_place))) (sym h)

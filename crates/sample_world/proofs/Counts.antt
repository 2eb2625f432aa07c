-- A world's counts stay what they are, and no key that can sign comes behind 8,192 tokens.
use Rattle.std.proofs.Common.{◌≡◌, ◌≢◌, ℕ, ◌+◌, ◌*◌, ◌<◌, ◌≤◌, List, length, arith, refl, sym, ◌∙◌, subst}
use Rattle.std.specs.Prelude.{slice_index, slice_set, replicate}
use Rattle.std.specs.List.{sum}
use Rattle.std.proofs.lemmas.List.{length-set, get_or-set_other}
use Rattle.std.proofs.lemmas.List.Elements.{All-set, All-replicate}
use Rattle.std.proofs.lemmas.List.Sums.{sum_by-set, sum_by-le}
use Rattle.sample_world.specs.Counts.{AreCounts}

-- a sum with one term changed
set_sum : (used : List ℕ) (j n : ℕ) → j < length used → sum (slice_set used j n) + slice_index used j ≡ sum used + n
set_sum used j n lt = sum_by-set (λ x. x) used j n 0 lt

pub none_counted : AreCounts (replicate 256 0) 0
none_counted = record { keys = refl; few = All-replicate (λ n. n ≤ 32) 256 0 (omega arith); signed = omega arith }

grown : (used : List ℕ) (tokens m j : ℕ) → j < 256 → slice_index used j < 32 → m ≤ 1 → AreCounts used tokens → AreCounts (slice_set used j (slice_index used j + 1)) (tokens + m)
grown used tokens m j lt left one c =
    let n = slice_index used j + 1 in
    let changed = set_sum used j n (omega (arith, c.keys, lt)) in
    record {
      keys = length-set used j n ∙ c.keys;
      few = All-set (λ k. k ≤ 32) used j n (omega (arith, left)) c.few;
      signed = omega (arith, c.signed, changed, one);
    }

pub token_counted_still : (used : List ℕ) (tokens j : ℕ) → j < 256 → slice_index used j < 32 → AreCounts used tokens → AreCounts (slice_set used j (slice_index used j + 1)) (tokens + 1)
token_counted_still used tokens j lt left c = grown used tokens 1 j lt left (omega arith) c

pub counted_still : (used : List ℕ) (tokens j : ℕ) → j < 256 → slice_index used j < 32 → AreCounts used tokens → AreCounts (slice_set used j (slice_index used j + 1)) tokens
counted_still used tokens j lt left c = subst (AreCounts (slice_set used j (slice_index used j + 1))) (omega arith) (grown used tokens 0 j lt left (omega arith) c)

-- two keys, one after the other
pub both_counted_still : (used : List ℕ) (tokens j k : ℕ) → j < 256 → k < 256 → j ≢ k → slice_index used j < 32 → slice_index used k < 32 → AreCounts used tokens
    → AreCounts (slice_set (slice_set used j (slice_index used j + 1)) k (slice_index used k + 1)) tokens
both_counted_still used tokens j k lt lt' differ left left' c =
    let once = slice_set used j (slice_index used j + 1) in
    let other = get_or-set_other used j k (slice_index used j + 1) 0 (λ e. differ (sym e)) in
    subst (λ n. AreCounts (slice_set once k (n + 1)) tokens) other
    (counted_still once tokens k lt' (subst (λ n. n < 32) (sym other) left') (counted_still used tokens j lt left c))

-- where a key can still sign, the world has not made all tokens
pub tokens_left : (used : List ℕ) (tokens j : ℕ) → j < 256 → slice_index used j < 32 → AreCounts used tokens → tokens < 8192
tokens_left used tokens j lt left c =
    let full = slice_set used j 32 in
    let changed = set_sum used j 32 (omega (arith, c.keys, lt)) in
    let most = sum_by-le (λ x. x) 32 full (All-set (λ m. m ≤ 32) used j 32 (omega arith) c.few) in
    let keys = length-set used j 32 ∙ c.keys in
    omega (arith, c.signed, changed, subst (λ n. sum full ≤ n * 32) keys most, left)

-- The verdict of XMSS-SHA2_10_256, _16_256 and _20_256 (RFC 8391, 4.1.10, algorithm 14, and 5.3) on a key, a message and a signature.
use Rattle.std.specs.Prelude.{ℕ, ◌+◌, ◌*◌, ◌^◌, List, length, Bool, ◌&&◌, nat_le, nat_lt, if◌then◌else◌, ◌==◌}
use Rattle.std.specs.Str.{bytes_eq}
use Rattle.xmss_verify.specs.declared.Verdict.{Verdict}
use Rattle.xmss_verify.specs.declared.Verdict.TheVariants.{Good, Bad}
use Rattle.xmss_verify.specs.declared.Why.TheVariants.{KeyShape, UnknownSet, SignatureShape, RootDiffers}
use Rattle.xmss_definitions.specs.Address.{only_tree}
use Rattle.xmss_definitions.specs.Octets.{part}
use Rattle.xmss_definitions.specs.Keys.{u32_at, root_of, seed_of, message_digest}
use Rattle.xmss_definitions.specs.Nodes.{root_from}

-- the heights of the sets 1 to 3 (5.3)
abbrev pub height_of : ℕ → ℕ
height_of set = if set == 1 then 10 else if set == 2 then 16 else 20

unfoldable pub is_known : List ℕ → Bool
is_known key = nat_le 1 (u32_at key 0) && nat_le (u32_at key 0) 3

-- a signature is idx_sig || r || sig_ots || auth (4.1.8)
unfoldable pub is_signature : (h : ℕ) → List ℕ → Bool
is_signature h signature = length signature == 36 + 32 * (67 + h) && nat_lt (u32_at signature 0) (2 ^ h)

unfoldable pub root_under : (h : ℕ) → (key message signature : List ℕ) → List ℕ
root_under h key message signature =
    let idx = u32_at signature 0 in
    root_from h (only_tree (seed_of key)) idx (message_digest (part signature 4 32) (root_of key) idx message)
    (part signature 36 (32 * 67)) (part signature (36 + 32 * 67) (32 * h))

abbrev pub judge : (got want : List ℕ) → Verdict
judge got want = if bytes_eq got want then Good else Bad (RootDiffers got want)

-- the verdict under a known key of height h
unfoldable pub verdict_under : (h : ℕ) → (key message signature : List ℕ) → Verdict
verdict_under h key message signature =
    if is_signature h signature then judge (root_under h key message signature) (root_of key) else Bad SignatureShape

unfoldable pub verdict : (key message signature : List ℕ) → Verdict
verdict key message signature =
    if length key == 68
    then (if is_known key then verdict_under (height_of (u32_at key 0)) key message signature else Bad UnknownSet)
    else Bad KeyShape

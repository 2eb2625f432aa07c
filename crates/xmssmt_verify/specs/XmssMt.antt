-- The verdict of the eight sets of XMSS^MT with SHA-256 and n = 32 (RFC 8391, 4.2.5, algorithm 17, and 5.4) on a key, a message and a signature.
use Rattle.std.specs.Prelude.{ℕ, zero, suc, ◌+◌, ◌-◌, ◌*◌, ◌/◌, ◌%◌, ◌^◌, List, ◌++◌, length, take, drop, replicate, Bool, ◌&&◌, nat_le, nat_lt, if◌then◌else◌, ◌==◌}
use Rattle.std.specs.Int.{w64, from_be_bytes}
use Rattle.std.specs.Str.{bytes_eq}
use Rattle.xmssmt_verify.specs.declared.Verdict.{Verdict}
use Rattle.xmssmt_verify.specs.declared.Verdict.TheVariants.{Good, Bad}
use Rattle.xmssmt_verify.specs.declared.Why.TheVariants.{KeyShape, UnknownSet, SignatureShape, RootDiffers}
use Rattle.xmss_definitions.specs.Address.{Tree}
use Rattle.xmss_definitions.specs.Octets.{part}
use Rattle.xmss_definitions.specs.Keys.{u32_at, root_of, seed_of, message_digest}
use Rattle.xmss_definitions.specs.Nodes.{root_from}

-- the heights of the sets 1 to 8, and how many layers of trees they have (5.4)
abbrev pub height_of : ℕ → ℕ
height_of set = if nat_le set 2 then 20 else if nat_le set 5 then 40 else 60

abbrev pub layers_of : ℕ → ℕ
layers_of set =
    if set == 1 then 2 else if set == 2 then 4
    else if set == 3 then 2 else if set == 4 then 4 else if set == 5 then 8
    else if set == 6 then 3 else if set == 7 then 6 else 12

unfoldable pub is_known : List ℕ → Bool
is_known key = nat_le 1 (u32_at key 0) && nat_le (u32_at key 0) 8

-- idx_sig has ceil(h / 8) octets (4.2.3)
abbrev pub index_size : ℕ → ℕ
index_size h = (h + 7) / 8

-- idx_sig, the number of a signature's first octets
unfoldable pub index_of : (h : ℕ) → List ℕ → ℕ
index_of h signature = from_be_bytes w64 (replicate (8 - index_size h) 0 ++ take (index_size h) signature)

-- the part of one layer, whose trees have height t, is sig_ots || auth
abbrev pub layer_size : ℕ → ℕ
layer_size t = 32 * (67 + t)

-- a signature is idx_sig || r || (sig_ots || auth), d times (4.2.3)
unfoldable pub is_signature : (h d : ℕ) → List ℕ → Bool
is_signature h d signature =
    length signature == index_size h + 32 + d * layer_size (h / d) && nat_lt (index_of h signature) (2 ^ h)

-- what is left of idx above j layers of trees of height t: its lowest t bits are the leaf of layer j, the rest is the number of that leaf's tree
unfoldable pub above : (t idx : ℕ) → ℕ → ℕ
above t idx zero = idx
above t idx (suc j) = above t idx j / 2 ^ t

-- the tree of layer j over leaf idx
abbrev pub tree_over : (t : ℕ) → (seed : List ℕ) → (idx j : ℕ) → Tree
tree_over t seed idx j = record { seed = seed; layer = j; number = above t idx (suc j) }

-- the root of the n-th layer (algorithm 17): layer 0 signs the digest, and each layer above signs the root of the layer below
unfoldable pub root_over : (t : ℕ) → (seed : List ℕ) → (idx : ℕ) → (digest layers : List ℕ) → ℕ → List ℕ
root_over t seed idx digest layers zero = digest
root_over t seed idx digest layers (suc j) =
    let own = part layers (layer_size t * j) (layer_size t) in
    root_from t (tree_over t seed idx j) (above t idx j % 2 ^ t) (root_over t seed idx digest layers j)
    (take (32 * 67) own) (drop (32 * 67) own)

-- the root of the highest of d layers
unfoldable pub root_under : (h d : ℕ) → (key message signature : List ℕ) → List ℕ
root_under h d key message signature =
    let idx = index_of h signature in
    let r = part signature (index_size h) 32 in
    root_over (h / d) (seed_of key) idx (message_digest r (root_of key) idx message) (drop (index_size h + 32) signature) d

abbrev pub judge : (got want : List ℕ) → Verdict
judge got want = if bytes_eq got want then Good else Bad (RootDiffers got want)

-- the verdict under a known key of height h and d layers
unfoldable pub verdict_under : (h d : ℕ) → (key message signature : List ℕ) → Verdict
verdict_under h d key message signature =
    if is_signature h d signature then judge (root_under h d key message signature) (root_of key) else Bad SignatureShape

unfoldable pub verdict : (key message signature : List ℕ) → Verdict
verdict key message signature =
    if length key == 68
    then (if is_known key
    then verdict_under (height_of (u32_at key 0)) (layers_of (u32_at key 0)) key message signature
    else Bad UnknownSet)
    else Bad KeyShape

-- What a made-up world's keys are made of, and what clauses see of a world.
use Rattle.std.specs.Prelude.{ℕ, List, ◌+◌, ◌++◌, take, codes, slice_index, slice_set}
use Rattle.std.specs.Int.{w64, to_be_bytes}
use Rattle.sha2.specs.Sha256.{sha256}
use Rattle.lms_verify.specs.LmOts.{u32str}
use Rattle.sample_world.specs.LmsKeys.{hss_key, hss_signature, two_signatures}
use Rattle.sample_world.specs.XmssKeys as xmss
use Rattle.sample_world.specs.XmssMtKeys.{mt_key, mt_signature}

-- the world's secret, how many signatures each LMS key, the XMSS key and the XMSS^MT key have made, and how many tokens were made
pub record Ledger : Type 0 where
  pub secret : List ℕ
  pub used : List ℕ
  pub xmss_used : ℕ
  pub xmssmt_used : ℕ
  pub tokens : ℕ

-- a world in which LMS key j has made one signature more
abbrev pub counted : Ledger → ℕ → Ledger
counted w j = record w { used = slice_set w.used j (slice_index w.used j + 1) }

-- the secret that a seed gives
unfoldable pub secret_of : ℕ → List ℕ
secret_of seed = sha256 (to_be_bytes w64 seed)

-- I of LMS key j
unfoldable pub id_of : (secret : List ℕ) → ℕ → List ℕ
id_of s j = take 16 (sha256 (s ++ codes "I" ++ u32str j))

-- SEED of LMS key j
unfoldable pub seed_of : (secret : List ℕ) → ℕ → List ℕ
seed_of s j = sha256 (s ++ codes "K" ++ u32str j)

-- C of signature q by LMS key j
unfoldable pub randomizer : (secret : List ℕ) → (j q : ℕ) → List ℕ
randomizer s j q = sha256 (s ++ codes "C" ++ u32str j ++ u32str q)

-- the secret of chain i of leaf l of the XMSS key
unfoldable pub xmss_secret : (secret : List ℕ) → (l i : ℕ) → List ℕ
xmss_secret s l i = sha256 (s ++ codes "X" ++ u32str l ++ u32str i)

-- SEED of the XMSS key
unfoldable pub xmss_seed : (secret : List ℕ) → List ℕ
xmss_seed s = sha256 (s ++ codes "Y")

-- r of XMSS signature idx
unfoldable pub xmss_randomizer : (secret : List ℕ) → ℕ → List ℕ
xmss_randomizer s idx = sha256 (s ++ codes "R" ++ u32str idx)

-- the secret of chain i of leaf f of tree t of layer l of the XMSS^MT key
unfoldable pub xmssmt_secret : (secret : List ℕ) → (l t f i : ℕ) → List ℕ
xmssmt_secret s l t f i = sha256 (s ++ codes "Z" ++ u32str l ++ to_be_bytes w64 t ++ u32str f ++ u32str i)

-- SEED of the XMSS^MT key
unfoldable pub xmssmt_seed : (secret : List ℕ) → List ℕ
xmssmt_seed s = sha256 (s ++ codes "W")

-- r of XMSS^MT signature idx
unfoldable pub xmssmt_randomizer : (secret : List ℕ) → ℕ → List ℕ
xmssmt_randomizer s idx = sha256 (s ++ codes "Q" ++ to_be_bytes w64 idx)

-- the HSS key of so many levels over LMS key j
abbrev pub key_of : Ledger → (levels j : ℕ) → List ℕ
key_of w levels j = hss_key levels (seed_of w.secret j) (id_of w.secret j)

-- the signature that LMS key j makes next, of one level
abbrev pub signature_of : Ledger → (j : ℕ) → (message : List ℕ) → List ℕ
signature_of w j message =
    let q = slice_index w.used j in
    hss_signature (seed_of w.secret j) (id_of w.secret j) q (randomizer w.secret j q) message

-- the signature that LMS keys j and k make next, j the upper
abbrev pub two_signatures_of : Ledger → (j k : ℕ) → (message : List ℕ) → List ℕ
two_signatures_of w j k message =
    let q = slice_index w.used j in
    let p = slice_index w.used k in
    two_signatures (seed_of w.secret j) (id_of w.secret j) q (randomizer w.secret j q)
    (seed_of w.secret k) (id_of w.secret k) p (randomizer w.secret k p) message

-- the XMSS key
abbrev pub xmss_key_of : Ledger → List ℕ
xmss_key_of w = xmss.key (xmss_seed w.secret) (xmss_secret w.secret)

-- the signature that the XMSS key makes next
abbrev pub xmss_signature_of : Ledger → (message : List ℕ) → List ℕ
xmss_signature_of w message =
    xmss.signature (xmss_seed w.secret) (xmss_secret w.secret) w.xmss_used (xmss_randomizer w.secret w.xmss_used) message

-- the XMSS^MT key
abbrev pub xmssmt_key_of : Ledger → List ℕ
xmssmt_key_of w = mt_key (xmssmt_seed w.secret) (xmssmt_secret w.secret)

-- the signature that the XMSS^MT key makes next
abbrev pub xmssmt_signature_of : Ledger → (message : List ℕ) → List ℕ
xmssmt_signature_of w message =
    mt_signature (xmssmt_seed w.secret) (xmssmt_secret w.secret) w.xmssmt_used (xmssmt_randomizer w.secret w.xmssmt_used) message

-- What a world's signatures are, by the verdict.
use Rattle.std.proofs.Common.{◌≡◌, ℕ, ◌<◌, List, ◌++◌, length, arith, length-take, refl, ◌∙◌}
use Rattle.std.specs.Prelude.{slice_index, codes}
use Rattle.sha2.specs.Sha256.{sha256}
use Rattle.sha2.proofs.Facts256.{length-sha256}
use Rattle.lms_verify.specs.declared.Verdict.TheVariants.{Good}
use Rattle.lms_verify.specs.LmOts.{u32str}
use Rattle.lms_verify.specs.Lms.{u32_at}
use Rattle.lms_verify.specs.Hss.{verdict}
use Rattle.sample_world.specs.LmsKeys.{lms_signature}
use Rattle.xmss_verify.specs.declared.Verdict.TheVariants as xmss_good
use Rattle.xmss_verify.specs.Xmss as xmss
use Rattle.xmss_definitions.specs.Keys as keys
use Rattle.xmssmt_verify.specs.declared.Verdict.TheVariants as xmssmt_good
use Rattle.xmssmt_verify.specs.XmssMt as xmssmt
use Rattle.sample_world.specs.XmssKeys.{signature}
use Rattle.sample_world.specs.XmssMtKeys.{mt_signature}
use Rattle.sample_world.specs.World.{Ledger, id_of, seed_of, randomizer, key_of, signature_of, two_signatures_of, xmss_secret, xmss_seed, xmss_randomizer, xmss_key_of, xmss_signature_of, xmssmt_secret, xmssmt_seed, xmssmt_randomizer, xmssmt_key_of, xmssmt_signature_of}
use Rattle.sample_world.proofs.LmsPlaces.{u32_front, u32_after}
use Rattle.sample_world.proofs.LmsHolds.{signatures_hold}
use Rattle.sample_world.proofs.LmsTwoLevels.{two_levels_hold}
use Rattle.sample_world.proofs.XmssPlaces as xmss_places
use Rattle.sample_world.proofs.XmssHolds as xmss_laws
use Rattle.sample_world.proofs.XmssMtHolds.{mt_signatures_hold, index_is}

length-id : (s : List ℕ) (j : ℕ) → length (id_of s j) ≡ 16
unfolding id_of
length-id s j = let cut = length-take 16 (sha256 (s ++ codes "I" ++ u32str j)) in let long = length-sha256 (s ++ codes "I" ++ u32str j) in omega (arith, cut, long)

length-randomizer : (s : List ℕ) (j q : ℕ) → length (randomizer s j q) ≡ 32
unfolding randomizer
length-randomizer s j q = length-sha256 _

-- a signature of one level holds
pub signature_good : (w : Ledger) (j : ℕ) (message s : List ℕ) → s ≡ signature_of w j message → slice_index w.used j < 32
    → verdict (key_of w 1 j) message s ≡ Good
signature_good w j message s e left =
    let q = slice_index w.used j in
    rw e (signatures_hold (seed_of w.secret j) (id_of w.secret j) q (randomizer w.secret j q) message (length-id w.secret j) (length-randomizer w.secret j q) left)

-- its number is the count of the key's earlier ones
pub signature_number : (w : Ledger) (j : ℕ) (message s : List ℕ) → s ≡ signature_of w j message → slice_index w.used j < 32
    → u32_at s 4 ≡ slice_index w.used j
unfolding lms_signature
signature_number w j message s e left = rw e (u32_after (u32str 0) _ 4 refl ∙ u32_front (slice_index w.used j) _ (omega arith))

-- a signature of two levels holds
pub two_good : (w : Ledger) (j k : ℕ) (message s : List ℕ) → s ≡ two_signatures_of w j k message → slice_index w.used j < 32 → slice_index w.used k < 32
    → verdict (key_of w 2 j) message s ≡ Good
two_good w j k message s e left left' =
    let q = slice_index w.used j in
    let p = slice_index w.used k in
    rw e (two_levels_hold (seed_of w.secret j) (id_of w.secret j) (seed_of w.secret k) (id_of w.secret k) q p
    (randomizer w.secret j q) (randomizer w.secret k p) message
    (length-id w.secret j) (length-id w.secret k) (length-randomizer w.secret j q) (length-randomizer w.secret k p) left left')

length-xmss_secret : (s : List ℕ) (l i : ℕ) → length (xmss_secret s l i) ≡ 32
unfolding xmss_secret
length-xmss_secret s l i = length-sha256 _

length-xmss_seed : (s : List ℕ) → length (xmss_seed s) ≡ 32
unfolding xmss_seed
length-xmss_seed s = length-sha256 _

length-xmss_randomizer : (s : List ℕ) (idx : ℕ) → length (xmss_randomizer s idx) ≡ 32
unfolding xmss_randomizer
length-xmss_randomizer s idx = length-sha256 _

-- an XMSS signature holds
pub xmss_signature_good : (w : Ledger) (message s : List ℕ) → s ≡ xmss_signature_of w message → w.xmss_used < 1024
    → xmss.verdict (xmss_key_of w) message s ≡ xmss_good.Good
xmss_signature_good w message s e left =
    rw e (xmss_laws.signatures_hold (xmss_seed w.secret) (xmss_secret w.secret) w.xmss_used (xmss_randomizer w.secret w.xmss_used) message
    (length-xmss_seed w.secret) (length-xmss_secret w.secret) (length-xmss_randomizer w.secret w.xmss_used) left)

-- its number is the count of the earlier ones
pub xmss_signature_number : (w : Ledger) (message s : List ℕ) → s ≡ xmss_signature_of w message → w.xmss_used < 1024
    → keys.u32_at s 0 ≡ w.xmss_used
unfolding signature
xmss_signature_number w message s e left = rw e (xmss_places.u32_front w.xmss_used _ (omega arith))

length-xmssmt_secret : (s : List ℕ) (l t f i : ℕ) → length (xmssmt_secret s l t f i) ≡ 32
unfolding xmssmt_secret
length-xmssmt_secret s l t f i = length-sha256 _

length-xmssmt_seed : (s : List ℕ) → length (xmssmt_seed s) ≡ 32
unfolding xmssmt_seed
length-xmssmt_seed s = length-sha256 _

length-xmssmt_randomizer : (s : List ℕ) (idx : ℕ) → length (xmssmt_randomizer s idx) ≡ 32
unfolding xmssmt_randomizer
length-xmssmt_randomizer s idx = length-sha256 _

-- an XMSS^MT signature holds
pub xmssmt_signature_good : (w : Ledger) (message s : List ℕ) → s ≡ xmssmt_signature_of w message → w.xmssmt_used < 1024
    → xmssmt.verdict (xmssmt_key_of w) message s ≡ xmssmt_good.Good
xmssmt_signature_good w message s e left =
    rw e (mt_signatures_hold (xmssmt_seed w.secret) (xmssmt_secret w.secret) w.xmssmt_used (xmssmt_randomizer w.secret w.xmssmt_used) message
    (length-xmssmt_seed w.secret) (length-xmssmt_secret w.secret) (length-xmssmt_randomizer w.secret w.xmssmt_used) (omega arith))

-- its number is the count of the earlier ones
pub xmssmt_signature_number : (w : Ledger) (message s : List ℕ) → s ≡ xmssmt_signature_of w message → w.xmssmt_used < 1024
    → xmssmt.index_of 20 s ≡ w.xmssmt_used
unfolding mt_signature
xmssmt_signature_number w message s e left = rw e (index_is w.xmssmt_used _ (omega arith))

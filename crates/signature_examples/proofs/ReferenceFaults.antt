-- The first fault of the References of small documents.
use Rattle.std.specs.Prelude.{◌≡◌, refl, Some, None, [], ◌∷◌, codes, encode_utf8_all, Option}
use Rattle.std.specs.Str.{is_utf8, chars}
use Rattle.std.specs.Char.{encode_utf8}
use Rattle.base64.proofs.OnLiterals.{base64_on_literals}
use Rattle.document_model.specs.Documents.{document_of}
use Rattle.document_model.specs.Items.{piece_at}
use Rattle.document_model.specs.Scopes.{is_sound}
use Rattle.document_model.specs.Canonical.{text_of}
use Rattle.document_model.specs.Tree.{Nodes}
use Rattle.signature_model.specs.Parts.{references}
use Rattle.signature_model.specs.Chains.{Handed, Fault, TargetMissing, TargetTwice, NoChain, DigestName, NotHandedIn, NotBase64, fault}
use Rattle.signature_examples.proofs.SmallDocument.{whole, ◌changing◌into◌, signature, handed_as_e}

abbrev handed : Handed
handed = handed_as_e (codes "YWJj IA==")

-- the first fault of the References of a document
fault_of : Nodes → Option Fault
fault_of document = fault handed document (0 ∷ 1 ∷ []) (references document (signature document))

fault_whole : fault_of (document_of whole) ≡ None
unfolding is_utf8 chars encode_utf8 document_of piece_at is_sound text_of base64_on_literals fault_of
fault_whole = refl

fault_missing : fault_of (document_of (whole
    changing codes "<ds:Reference Id=\"s-r1\" URI=\"#d\">" into codes "<ds:Reference Id=\"s-r1\" URI=\"#z\">")) ≡ Some (TargetMissing 1)
unfolding is_utf8 chars encode_utf8 document_of piece_at is_sound text_of base64_on_literals fault_of
fault_missing = refl

fault_hash_alone : fault_of (document_of (whole
    changing codes "<ds:Reference Id=\"s-r1\" URI=\"#d\">" into codes "<ds:Reference Id=\"s-r1\" URI=\"#\">")) ≡ Some (TargetMissing 1)
unfolding is_utf8 chars encode_utf8 document_of piece_at is_sound text_of base64_on_literals fault_of
fault_hash_alone = refl

fault_twice : fault_of (document_of (whole
    changing codes "<r><d Id=\"d\">aGVs\nbG8=</d>" into codes "<r Id=\"d\"><d id=\"d\"/>")) ≡ Some (TargetTwice 1)
unfolding is_utf8 chars encode_utf8 document_of piece_at is_sound text_of base64_on_literals fault_of
fault_twice = refl

fault_order : fault_of (document_of (whole
    changing codes "</ds:Transform>" into codes "</ds:Transform><ds:Transform Algorithm=\"http://www.w3.org/2000/09/xmldsig#enveloped-signature\"></ds:Transform>")) ≡ Some (NoChain 1)
unfolding is_utf8 chars encode_utf8 document_of piece_at is_sound text_of base64_on_literals fault_of
fault_order = refl

fault_two_forms : fault_of (document_of (whole
    changing codes "<ds:Transform Algorithm=\"http://www.w3.org/2000/09/xmldsig#base64\">" into codes "<ds:Transform Algorithm=\"http://www.w3.org/2001/10/xml-exc-c14n#\"></ds:Transform><ds:Transform Algorithm=\"http://www.w3.org/2001/10/xml-exc-c14n#\">")) ≡ Some (NoChain 1)
unfolding is_utf8 chars encode_utf8 document_of piece_at is_sound text_of base64_on_literals fault_of
fault_two_forms = refl

fault_unknown : fault_of (document_of (whole
    changing codes "<ds:Transform Algorithm=\"http://www.w3.org/2000/09/xmldsig#base64\">" into codes "<ds:Transform Algorithm=\"u\">")) ≡ Some (NoChain 1)
unfolding is_utf8 chars encode_utf8 document_of piece_at is_sound text_of base64_on_literals fault_of
fault_unknown = refl

fault_not_transform : fault_of (document_of (whole
    changing codes "<ds:Transform Algorithm=\"http://www.w3.org/2000/09/xmldsig#base64\"></ds:Transform>" into codes "<x/>")) ≡ Some (NoChain 1)
unfolding is_utf8 chars encode_utf8 document_of piece_at is_sound text_of base64_on_literals fault_of
fault_not_transform = refl

fault_enveloped_twice : fault_of (document_of (whole
    changing codes "<ds:Transform Algorithm=\"http://www.w3.org/2000/09/xmldsig#base64\">" into codes "<ds:Transform Algorithm=\"http://www.w3.org/2000/09/xmldsig#enveloped-signature\"></ds:Transform><ds:Transform Algorithm=\"http://www.w3.org/2000/09/xmldsig#enveloped-signature\">")) ≡ Some (NoChain 1)
unfolding is_utf8 chars encode_utf8 document_of piece_at is_sound text_of base64_on_literals fault_of
fault_enveloped_twice = refl

fault_external_form : fault_of (document_of (whole
    changing codes "<ds:Reference Id=\"s-r1\" URI=\"#d\"><ds:Transforms><ds:Transform Algorithm=\"http://www.w3.org/2000/09/xmldsig#base64\">" into codes "<ds:Reference Id=\"s-r1\" URI=\"e\"><ds:Transforms><ds:Transform Algorithm=\"http://www.w3.org/2001/10/xml-exc-c14n#\">")) ≡ Some (NoChain 1)
unfolding is_utf8 chars encode_utf8 document_of piece_at is_sound text_of base64_on_literals fault_of
fault_external_form = refl

fault_external_64 : fault_of (document_of (whole
    changing codes "<ds:Reference Id=\"s-r1\" URI=\"#d\">" into codes "<ds:Reference Id=\"s-r1\" URI=\"e\">")) ≡ None
unfolding is_utf8 chars encode_utf8 document_of piece_at is_sound text_of base64_on_literals fault_of
fault_external_64 = refl

fault_digest : fault_of (document_of (whole
    changing codes "<ds:DigestMethod Algorithm=\"http://www.w3.org/2001/04/xmlenc#sha256\"/>" into codes "<ds:DigestMethod Algorithm=\"u\"/>"
    changing codes "<ds:DigestMethod Algorithm=\"http://www.w3.org/2001/04/xmlenc#sha256\"/>" into codes "<ds:DigestMethod Algorithm=\"u\"/>")) ≡ Some (DigestName 1)
unfolding is_utf8 chars encode_utf8 document_of piece_at is_sound text_of base64_on_literals fault_of
fault_digest = refl

fault_external_none : fault_of (document_of (whole
    changing codes "<ds:Reference Id=\"s-r1\" URI=\"#d\">" into codes "<ds:Reference Id=\"s-r1\" URI=\"f\">")) ≡ Some (NotHandedIn 1)
unfolding is_utf8 chars encode_utf8 document_of piece_at is_sound text_of base64_on_literals fault_of
fault_external_none = refl

fault_star : fault_of (document_of (whole
    changing codes "aGVs\nbG8=" into codes "aG<!--*-->V*bG8=")) ≡ Some (NotBase64 1 3)
unfolding is_utf8 chars encode_utf8 document_of piece_at is_sound text_of base64_on_literals fault_of
fault_star = refl

fault_short : fault_of (document_of (whole
    changing codes "aGVs\nbG8=" into codes "aGVs<x>bG8</x>")) ≡ Some (NotBase64 1 7)
unfolding is_utf8 chars encode_utf8 document_of piece_at is_sound text_of base64_on_literals fault_of
fault_short = refl

fault_bits : fault_of (document_of (whole
    changing codes "aGVs\nbG8=" into codes "aGVsbG9=")) ≡ Some (NotBase64 1 7)
unfolding is_utf8 chars encode_utf8 document_of piece_at is_sound text_of base64_on_literals fault_of
fault_bits = refl

fault_behind : fault_of (document_of (whole
    changing codes "aGVs\nbG8=" into codes "aGVsbG8=aGVs")) ≡ Some (NotBase64 1 8)
unfolding is_utf8 chars encode_utf8 document_of piece_at is_sound text_of base64_on_literals fault_of
fault_behind = refl

fault_first_code : fault_of (document_of (whole
    changing codes "<ds:Reference Id=\"s-r1\" URI=\"#d\">" into codes "<ds:Reference Id=\"s-r1\" URI=\"#z\">"
    changing codes "<ds:DigestMethod Algorithm=\"http://www.w3.org/2001/04/xmlenc#sha256\"/>" into codes "<ds:DigestMethod Algorithm=\"u\"/>"
    changing codes "<ds:DigestMethod Algorithm=\"http://www.w3.org/2001/04/xmlenc#sha256\"/>" into codes "<ds:DigestMethod Algorithm=\"u\"/>")) ≡ Some (TargetMissing 1)
unfolding is_utf8 chars encode_utf8 document_of piece_at is_sound text_of base64_on_literals fault_of
fault_first_code = refl

fault_wide : fault_of (document_of (encode_utf8_all (whole
    changing codes "aGVs\nbG8=" into codes "aGé"))) ≡ Some (NotBase64 1 2)
unfolding is_utf8 chars encode_utf8 document_of piece_at is_sound text_of base64_on_literals fault_of
fault_wide = refl

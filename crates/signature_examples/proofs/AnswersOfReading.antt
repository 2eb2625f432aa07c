-- The answers on small documents, one for each line of the shape and each code of the parts.
use Rattle.std.specs.Prelude.{◌≡◌, ◌++◌, refl, [], ◌∷◌, codes, ℕ, Bool, false, List, ◌==◌}
use Rattle.std.specs.Str.{is_utf8, chars}
use Rattle.std.specs.Char.{encode_utf8}
use Rattle.base64.proofs.OnLiterals.{base64_on_literals}
use Rattle.document_model.specs.Documents.{document_of}
use Rattle.document_model.specs.Items.{piece_at}
use Rattle.document_model.specs.Scopes.{is_sound}
use Rattle.signature_model.specs.Parts.{DatumKind}
use Rattle.signature_model.specs.Faults as words
use Rattle.signature_model.specs.Readable.{answer, Answer, Read, NoSignature, Several, Shape, Include, PropertyData}
use Rattle.signature_examples.proofs.SmallDocument.{plain, whole, ◌changing◌into◌, signed_info, signed_properties, signed_signature_properties, data_reference, properties_reference}

-- a stand-in for DER: the octets begin with the tag of a SEQUENCE
begins_sequence : DatumKind → List ℕ → Bool
begins_sequence kind [] = false
begins_sequence kind (b ∷ bytes) = b == 0x30

-- the place of a signature that is read
seen : Answer → Answer
seen (Read spot) = Read (record { path = spot.path; tags = [] })
seen other = other

shape_none : seen (answer begins_sequence (document_of (codes "<r/>"))) ≡ NoSignature
unfolding is_utf8 chars encode_utf8 document_of piece_at is_sound base64_on_literals begins_sequence seen
shape_none = refl

shape_several : seen (answer begins_sequence (document_of (codes "<r xmlns:ds=\"http://www.w3.org/2000/09/xmldsig#\"><ds:Signature/><a><ds:Signature/></a></r>"))) ≡ Several
unfolding is_utf8 chars encode_utf8 document_of piece_at is_sound base64_on_literals begins_sequence seen
shape_several = refl

shape_nested : seen (answer begins_sequence (document_of (codes "<r xmlns:ds=\"http://www.w3.org/2000/09/xmldsig#\"><ds:Signature><ds:Signature/></ds:Signature></r>"))) ≡ Shape (0 ∷ 0 ∷ []) words.Parts
unfolding is_utf8 chars encode_utf8 document_of piece_at is_sound base64_on_literals begins_sequence seen
shape_nested = refl

shape_parts_text : seen (answer begins_sequence (document_of (whole
    changing codes "<ds:SignedInfo>" into codes "x<ds:SignedInfo>"))) ≡ Shape (0 ∷ 1 ∷ []) words.Parts
unfolding is_utf8 chars encode_utf8 document_of piece_at is_sound base64_on_literals begins_sequence seen
shape_parts_text = refl

shape_parts_order : seen (answer begins_sequence (document_of (whole
    changing codes "<ds:SignatureValue>AAAA</ds:SignatureValue>" into codes ""
    changing codes "<ds:Object>" into codes "<ds:SignatureValue>AAAA</ds:SignatureValue><ds:Object>"))) ≡ Shape (0 ∷ 1 ∷ 1 ∷ []) words.Parts
unfolding is_utf8 chars encode_utf8 document_of piece_at is_sound base64_on_literals begins_sequence seen
shape_parts_order = refl

shape_parts_missing : seen (answer begins_sequence (document_of (whole
    changing signed_info into codes ""))) ≡ Shape (0 ∷ 1 ∷ []) words.Parts
unfolding is_utf8 chars encode_utf8 document_of piece_at is_sound base64_on_literals begins_sequence seen
shape_parts_missing = refl

shape_parts_twice : seen (answer begins_sequence (document_of (whole
    changing codes "<ds:SignedInfo>" into signed_info ++ codes "<ds:SignedInfo>"))) ≡ Shape (0 ∷ 1 ∷ 1 ∷ []) words.Parts
unfolding is_utf8 chars encode_utf8 document_of piece_at is_sound base64_on_literals begins_sequence seen
shape_parts_twice = refl

shape_parts_behind : seen (answer begins_sequence (document_of (whole
    changing codes "</ds:Object>" into codes "</ds:Object><ds:KeyInfo><ds:X509Data><ds:X509Certificate>MAE=</ds:X509Certificate></ds:X509Data></ds:KeyInfo>"))) ≡ Shape (0 ∷ 1 ∷ 4 ∷ []) words.Parts
unfolding is_utf8 chars encode_utf8 document_of piece_at is_sound base64_on_literals begins_sequence seen
shape_parts_behind = refl

shape_parts_other : seen (answer begins_sequence (document_of (whole
    changing codes "</ds:Object>" into codes "</ds:Object><x/>"))) ≡ Shape (0 ∷ 1 ∷ 4 ∷ []) words.Parts
unfolding is_utf8 chars encode_utf8 document_of piece_at is_sound base64_on_literals begins_sequence seen
shape_parts_other = refl

shape_info_first : seen (answer begins_sequence (document_of (whole
    changing codes "<ds:SignedInfo>" into codes "<ds:SignedInfo><x/>"))) ≡ Shape (0 ∷ 1 ∷ 0 ∷ 0 ∷ []) words.Info
unfolding is_utf8 chars encode_utf8 document_of piece_at is_sound base64_on_literals begins_sequence seen
shape_info_first = refl

shape_info_text : seen (answer begins_sequence (document_of (whole
    changing codes "<ds:SignedInfo>" into codes "<ds:SignedInfo>x"))) ≡ Shape (0 ∷ 1 ∷ 0 ∷ []) words.Info
unfolding is_utf8 chars encode_utf8 document_of piece_at is_sound base64_on_literals begins_sequence seen
shape_info_text = refl

shape_info_comment : seen (answer begins_sequence (document_of (whole
    changing codes "<ds:SignedInfo>" into codes "<ds:SignedInfo> <!--c--><?p?>\n"))) ≡ Read (record { path = (0 ∷ 1 ∷ []); tags = [] })
unfolding is_utf8 chars encode_utf8 document_of piece_at is_sound base64_on_literals begins_sequence seen
shape_info_comment = refl

shape_info_no_reference : seen (answer begins_sequence (document_of (whole
    changing data_reference ++ properties_reference into codes ""))) ≡ Shape (0 ∷ 1 ∷ 0 ∷ []) words.Info
unfolding is_utf8 chars encode_utf8 document_of piece_at is_sound base64_on_literals begins_sequence seen
shape_info_no_reference = refl

shape_info_method_text : seen (answer begins_sequence (document_of (whole
    changing codes "<ds:SignatureMethod Algorithm=\"urn:m\"/>" into codes "<ds:SignatureMethod Algorithm=\"urn:m\">x</ds:SignatureMethod>"))) ≡ Shape (0 ∷ 1 ∷ 0 ∷ 1 ∷ []) words.Info
unfolding is_utf8 chars encode_utf8 document_of piece_at is_sound base64_on_literals begins_sequence seen
shape_info_method_text = refl

shape_info_method_inside : seen (answer begins_sequence (document_of (whole
    changing codes "<ds:SignatureMethod Algorithm=\"urn:m\"/>" into codes "<ds:SignatureMethod Algorithm=\"urn:m\"><x>y</x></ds:SignatureMethod>"))) ≡ Read (record { path = (0 ∷ 1 ∷ []); tags = [] })
unfolding is_utf8 chars encode_utf8 document_of piece_at is_sound base64_on_literals begins_sequence seen
shape_info_method_inside = refl

shape_form : seen (answer begins_sequence (document_of (whole
    changing codes "<ds:CanonicalizationMethod Algorithm=\"http://www.w3.org/2001/10/xml-exc-c14n#\"/>" into codes "<ds:CanonicalizationMethod Algorithm=\"u\"/>"))) ≡ Shape (0 ∷ 1 ∷ 0 ∷ 0 ∷ []) words.Form
unfolding is_utf8 chars encode_utf8 document_of piece_at is_sound base64_on_literals begins_sequence seen
shape_form = refl

shape_form_none : seen (answer begins_sequence (document_of (whole
    changing codes "<ds:CanonicalizationMethod Algorithm=\"http://www.w3.org/2001/10/xml-exc-c14n#\"/>" into codes "<ds:CanonicalizationMethod/>"))) ≡ Shape (0 ∷ 1 ∷ 0 ∷ 0 ∷ []) words.Form
unfolding is_utf8 chars encode_utf8 document_of piece_at is_sound base64_on_literals begins_sequence seen
shape_form_none = refl

shape_form_stamp : seen (answer begins_sequence (document_of (whole
    changing codes "<xades:UnsignedProperties />" into codes "<xades:UnsignedProperties><xades:UnsignedSignatureProperties><xades:SignatureTimeStamp><ds:CanonicalizationMethod Algorithm=\"u\"/><xades:EncapsulatedTimeStamp>MAM=</xades:EncapsulatedTimeStamp></xades:SignatureTimeStamp></xades:UnsignedSignatureProperties></xades:UnsignedProperties>"))) ≡ Shape (0 ∷ 1 ∷ 3 ∷ 0 ∷ 1 ∷ 0 ∷ 0 ∷ 0 ∷ []) words.Form
unfolding is_utf8 chars encode_utf8 document_of piece_at is_sound base64_on_literals begins_sequence seen
shape_form_stamp = refl

shape_method : seen (answer begins_sequence (document_of (whole
    changing codes "<ds:SignatureMethod Algorithm=\"urn:m\"/>" into codes "<ds:SignatureMethod/>"))) ≡ Shape (0 ∷ 1 ∷ 0 ∷ 1 ∷ []) words.Method
unfolding is_utf8 chars encode_utf8 document_of piece_at is_sound base64_on_literals begins_sequence seen
shape_method = refl

shape_reference_uri : seen (answer begins_sequence (document_of (whole
    changing codes "<ds:Reference Id=\"s-r1\" URI=\"#d\">" into codes "<ds:Reference Id=\"s-r1\">"))) ≡ Shape (0 ∷ 1 ∷ 0 ∷ 2 ∷ []) words.Reference
unfolding is_utf8 chars encode_utf8 document_of piece_at is_sound base64_on_literals begins_sequence seen
shape_reference_uri = refl

shape_reference_no_digest : seen (answer begins_sequence (document_of (whole
    changing codes "<ds:DigestMethod Algorithm=\"http://www.w3.org/2001/04/xmlenc#sha256\"/>" into codes ""
    changing codes "<ds:DigestMethod Algorithm=\"http://www.w3.org/2001/04/xmlenc#sha256\"/>" into codes ""))) ≡ Shape (0 ∷ 1 ∷ 0 ∷ 2 ∷ []) words.Reference
unfolding is_utf8 chars encode_utf8 document_of piece_at is_sound base64_on_literals begins_sequence seen
shape_reference_no_digest = refl

shape_reference_digest_name : seen (answer begins_sequence (document_of (whole
    changing codes "<ds:DigestMethod Algorithm=\"http://www.w3.org/2001/04/xmlenc#sha256\"/>" into codes "<ds:DigestMethod/>"
    changing codes "<ds:DigestMethod Algorithm=\"http://www.w3.org/2001/04/xmlenc#sha256\"/>" into codes "<ds:DigestMethod/>"))) ≡ Shape (0 ∷ 1 ∷ 0 ∷ 2 ∷ 1 ∷ []) words.Reference
unfolding is_utf8 chars encode_utf8 document_of piece_at is_sound base64_on_literals begins_sequence seen
shape_reference_digest_name = refl

shape_reference_more : seen (answer begins_sequence (document_of (whole
    changing codes "</ds:Reference>" into codes "<x/></ds:Reference>"))) ≡ Shape (0 ∷ 1 ∷ 0 ∷ 2 ∷ 3 ∷ []) words.Reference
unfolding is_utf8 chars encode_utf8 document_of piece_at is_sound base64_on_literals begins_sequence seen
shape_reference_more = refl

shape_reference_value : seen (answer begins_sequence (document_of (whole
    changing codes "AAAA" into codes "AAA"
    changing codes "AAAA" into codes "AAA"))) ≡ Shape (0 ∷ 1 ∷ 0 ∷ 2 ∷ 2 ∷ []) words.Reference
unfolding is_utf8 chars encode_utf8 document_of piece_at is_sound base64_on_literals begins_sequence seen
shape_reference_value = refl

shape_reference_value_spaced : seen (answer begins_sequence (document_of (whole
    changing codes "AAAA" into codes " A A\nAA "
    changing codes "AAAA" into codes " A A\nAA "))) ≡ Read (record { path = (0 ∷ 1 ∷ []); tags = [] })
unfolding is_utf8 chars encode_utf8 document_of piece_at is_sound base64_on_literals begins_sequence seen
shape_reference_value_spaced = refl

shape_reference_value_comment : seen (answer begins_sequence (document_of (whole
    changing codes "AAAA" into codes "AA<!--c-->AA"
    changing codes "AAAA" into codes "AA<!--c-->AA"))) ≡ Shape (0 ∷ 1 ∷ 0 ∷ 2 ∷ 2 ∷ []) words.Reference
unfolding is_utf8 chars encode_utf8 document_of piece_at is_sound base64_on_literals begins_sequence seen
shape_reference_value_comment = refl

shape_reference_transforms_late : seen (answer begins_sequence (document_of (whole
    changing codes "<ds:Transforms><ds:Transform Algorithm=\"http://www.w3.org/2000/09/xmldsig#base64\"></ds:Transform></ds:Transforms><ds:DigestMethod Algorithm=\"http://www.w3.org/2001/04/xmlenc#sha256\"/>" into codes "<ds:DigestMethod Algorithm=\"http://www.w3.org/2001/04/xmlenc#sha256\"/><ds:Transforms/>"
    changing codes "<ds:DigestValue>AAAA</ds:DigestValue></ds:Reference></ds:SignedInfo>" into codes "<ds:Transforms/><ds:DigestValue>AAAA</ds:DigestValue></ds:Reference></ds:SignedInfo>"))) ≡ Shape (0 ∷ 1 ∷ 0 ∷ 2 ∷ 1 ∷ []) words.Reference
unfolding is_utf8 chars encode_utf8 document_of piece_at is_sound base64_on_literals begins_sequence seen
shape_reference_transforms_late = refl

shape_qualifying_none : seen (answer begins_sequence (document_of ((codes "<r><d Id=\"d\">aGVs\nbG8=</d><ds:Signature xmlns:ds=\"http://www.w3.org/2000/09/xmldsig#\" Id=\"s\">" ++ signed_info ++ codes "<ds:SignatureValue>AAAA</ds:SignatureValue><ds:KeyInfo><ds:X509Data><ds:X509Certificate>MAE=</ds:X509Certificate></ds:X509Data></ds:KeyInfo></ds:Signature></r>")))) ≡ Shape (0 ∷ 1 ∷ []) words.Qualifying
unfolding is_utf8 chars encode_utf8 document_of piece_at is_sound base64_on_literals begins_sequence seen
shape_qualifying_none = refl

shape_qualifying_none_object : seen (answer begins_sequence (document_of ((codes "<r><d Id=\"d\">aGVs\nbG8=</d><ds:Signature xmlns:ds=\"http://www.w3.org/2000/09/xmldsig#\" Id=\"s\">" ++ signed_info ++ codes "<ds:SignatureValue>AAAA</ds:SignatureValue><ds:KeyInfo><ds:X509Data><ds:X509Certificate>MAE=</ds:X509Certificate></ds:X509Data></ds:KeyInfo><ds:Object>x</ds:Object></ds:Signature></r>")))) ≡ Shape (0 ∷ 1 ∷ 3 ∷ []) words.Qualifying
unfolding is_utf8 chars encode_utf8 document_of piece_at is_sound base64_on_literals begins_sequence seen
shape_qualifying_none_object = refl

shape_qualifying_two : seen (answer begins_sequence (document_of (whole
    changing codes "<ds:Object>" into codes "<ds:Object>x</ds:Object><ds:Object><xades:QualifyingProperties xmlns:xades=\"http://uri.etsi.org/01903/v1.3.2#\" Target=\"#s\">" ++ signed_properties ++ codes "<xades:UnsignedProperties /></xades:QualifyingProperties></ds:Object><ds:Object>"))) ≡ Shape (0 ∷ 1 ∷ 5 ∷ []) words.Qualifying
unfolding is_utf8 chars encode_utf8 document_of piece_at is_sound base64_on_literals begins_sequence seen
shape_qualifying_two = refl

shape_qualifying_twice : seen (answer begins_sequence (document_of (whole
    changing codes "</ds:Object>" into codes "<xades:QualifyingProperties xmlns:xades=\"http://uri.etsi.org/01903/v1.3.2#\"/></ds:Object>"))) ≡ Shape (0 ∷ 1 ∷ 3 ∷ 1 ∷ []) words.Qualifying
unfolding is_utf8 chars encode_utf8 document_of piece_at is_sound base64_on_literals begins_sequence seen
shape_qualifying_twice = refl

shape_qualifying_no_id : seen (answer begins_sequence (document_of (whole
    changing codes "<ds:Signature xmlns:ds=\"http://www.w3.org/2000/09/xmldsig#\" Id=\"s\">" into codes "<ds:Signature xmlns:ds=\"http://www.w3.org/2000/09/xmldsig#\">"))) ≡ Shape (0 ∷ 1 ∷ []) words.Qualifying
unfolding is_utf8 chars encode_utf8 document_of piece_at is_sound base64_on_literals begins_sequence seen
shape_qualifying_no_id = refl

shape_qualifying_target : seen (answer begins_sequence (document_of (whole
    changing codes "<xades:QualifyingProperties xmlns:xades=\"http://uri.etsi.org/01903/v1.3.2#\" Target=\"#s\">" into codes "<xades:QualifyingProperties xmlns:xades=\"http://uri.etsi.org/01903/v1.3.2#\" Target=\"#t\">"))) ≡ Shape (0 ∷ 1 ∷ 3 ∷ 0 ∷ []) words.Qualifying
unfolding is_utf8 chars encode_utf8 document_of piece_at is_sound base64_on_literals begins_sequence seen
shape_qualifying_target = refl

shape_qualifying_no_target : seen (answer begins_sequence (document_of (whole
    changing codes "<xades:QualifyingProperties xmlns:xades=\"http://uri.etsi.org/01903/v1.3.2#\" Target=\"#s\">" into codes "<xades:QualifyingProperties xmlns:xades=\"http://uri.etsi.org/01903/v1.3.2#\">"))) ≡ Shape (0 ∷ 1 ∷ 3 ∷ 0 ∷ []) words.Qualifying
unfolding is_utf8 chars encode_utf8 document_of piece_at is_sound base64_on_literals begins_sequence seen
shape_qualifying_no_target = refl

shape_qualifying_text : seen (answer begins_sequence (document_of (whole
    changing codes "</ds:Object>" into codes "x</ds:Object>"))) ≡ Shape (0 ∷ 1 ∷ 3 ∷ []) words.Qualifying
unfolding is_utf8 chars encode_utf8 document_of piece_at is_sound base64_on_literals begins_sequence seen
shape_qualifying_text = refl

shape_qualifying_other : seen (answer begins_sequence (document_of (whole
    changing codes "</ds:Object>" into codes "<x>y</x></ds:Object>"))) ≡ Read (record { path = (0 ∷ 1 ∷ []); tags = [] })
unfolding is_utf8 chars encode_utf8 document_of piece_at is_sound base64_on_literals begins_sequence seen
shape_qualifying_other = refl

shape_properties_id : seen (answer begins_sequence (document_of (whole
    changing codes "<xades:SignedProperties Id=\"s-sp\">" into codes "<xades:SignedProperties>"))) ≡ Shape (0 ∷ 1 ∷ 3 ∷ 0 ∷ 0 ∷ []) words.Properties
unfolding is_utf8 chars encode_utf8 document_of piece_at is_sound base64_on_literals begins_sequence seen
shape_properties_id = refl

shape_properties_more : seen (answer begins_sequence (document_of (whole
    changing codes "<xades:UnsignedProperties />" into codes "<xades:UnsignedProperties /><x/>"))) ≡ Shape (0 ∷ 1 ∷ 3 ∷ 0 ∷ 2 ∷ []) words.Properties
unfolding is_utf8 chars encode_utf8 document_of piece_at is_sound base64_on_literals begins_sequence seen
shape_properties_more = refl

shape_properties_unsigned_first : seen (answer begins_sequence (document_of (whole
    changing codes "<xades:UnsignedProperties />" into codes "<xades:UnsignedProperties><x/></xades:UnsignedProperties>"))) ≡ Shape (0 ∷ 1 ∷ 3 ∷ 0 ∷ 1 ∷ 0 ∷ []) words.Properties
unfolding is_utf8 chars encode_utf8 document_of piece_at is_sound base64_on_literals begins_sequence seen
shape_properties_unsigned_first = refl

shape_properties_unsigned_two : seen (answer begins_sequence (document_of (whole
    changing codes "<xades:UnsignedProperties />" into codes "<xades:UnsignedProperties><xades:UnsignedSignatureProperties></xades:UnsignedSignatureProperties><xades:UnsignedSignatureProperties></xades:UnsignedSignatureProperties></xades:UnsignedProperties>"))) ≡ Shape (0 ∷ 1 ∷ 3 ∷ 0 ∷ 1 ∷ 1 ∷ []) words.Properties
unfolding is_utf8 chars encode_utf8 document_of piece_at is_sound base64_on_literals begins_sequence seen
shape_properties_unsigned_two = refl

shape_properties_none : seen (answer begins_sequence (document_of plain)) ≡ Read (record { path = (0 ∷ 1 ∷ []); tags = [] })
unfolding is_utf8 chars encode_utf8 document_of piece_at is_sound base64_on_literals begins_sequence seen
shape_properties_none = refl

shape_covered_none : seen (answer begins_sequence (document_of (whole
    changing codes "<ds:Reference Type=\"http://uri.etsi.org/01903#SignedProperties\" URI=\"#s-sp\">" into codes "<ds:Reference URI=\"#s-sp\">"))) ≡ Shape (0 ∷ 1 ∷ 0 ∷ 2 ∷ []) words.Covered
unfolding is_utf8 chars encode_utf8 document_of piece_at is_sound base64_on_literals begins_sequence seen
shape_covered_none = refl

shape_covered_uri : seen (answer begins_sequence (document_of (whole
    changing codes "<ds:Reference Type=\"http://uri.etsi.org/01903#SignedProperties\" URI=\"#s-sp\">" into codes "<ds:Reference Type=\"http://uri.etsi.org/01903#SignedProperties\" URI=\"#t\">"))) ≡ Shape (0 ∷ 1 ∷ 0 ∷ 3 ∷ []) words.Covered
unfolding is_utf8 chars encode_utf8 document_of piece_at is_sound base64_on_literals begins_sequence seen
shape_covered_uri = refl

shape_covered_transform : seen (answer begins_sequence (document_of (whole
    changing codes "<ds:Reference Type=\"http://uri.etsi.org/01903#SignedProperties\" URI=\"#s-sp\">" into codes "<ds:Reference Type=\"http://uri.etsi.org/01903#SignedProperties\" URI=\"#s-sp\"><ds:Transforms><ds:Transform Algorithm=\"http://www.w3.org/2001/10/xml-exc-c14n#\"></ds:Transform><ds:Transform Algorithm=\"http://www.w3.org/2000/09/xmldsig#enveloped-signature\"></ds:Transform></ds:Transforms>"))) ≡ Shape (0 ∷ 1 ∷ 0 ∷ 3 ∷ 0 ∷ 1 ∷ []) words.Covered
unfolding is_utf8 chars encode_utf8 document_of piece_at is_sound base64_on_literals begins_sequence seen
shape_covered_transform = refl

shape_signed_none : seen (answer begins_sequence (document_of (whole
    changing signed_signature_properties into codes ""))) ≡ Shape (0 ∷ 1 ∷ 3 ∷ 0 ∷ 0 ∷ []) words.Signed
unfolding is_utf8 chars encode_utf8 document_of piece_at is_sound base64_on_literals begins_sequence seen
shape_signed_none = refl

shape_signed_time : seen (answer begins_sequence (document_of (whole
    changing codes "<xades:SigningTime>T</xades:SigningTime>" into codes ""))) ≡ Shape (0 ∷ 1 ∷ 3 ∷ 0 ∷ 0 ∷ 0 ∷ []) words.Signed
unfolding is_utf8 chars encode_utf8 document_of piece_at is_sound base64_on_literals begins_sequence seen
shape_signed_time = refl

shape_signed_time_blank : seen (answer begins_sequence (document_of (whole
    changing codes "<xades:SigningTime>T" into codes "<xades:SigningTime> "))) ≡ Shape (0 ∷ 1 ∷ 3 ∷ 0 ∷ 0 ∷ 0 ∷ 0 ∷ []) words.Signed
unfolding is_utf8 chars encode_utf8 document_of piece_at is_sound base64_on_literals begins_sequence seen
shape_signed_time_blank = refl

shape_signed_time_two : seen (answer begins_sequence (document_of (whole
    changing codes "</xades:SigningTime>" into codes "</xades:SigningTime><xades:SigningTime>T</xades:SigningTime>"))) ≡ Shape (0 ∷ 1 ∷ 3 ∷ 0 ∷ 0 ∷ 0 ∷ 1 ∷ []) words.Signed
unfolding is_utf8 chars encode_utf8 document_of piece_at is_sound base64_on_literals begins_sequence seen
shape_signed_time_two = refl

shape_signed_digest : seen (answer begins_sequence (document_of (whole
    changing codes "<xades:CertDigest><ds:DigestMethod Algorithm=\"http://www.w3.org/2001/04/xmlenc#sha256\"/>" into codes "<xades:CertDigest><ds:DigestMethod Algorithm=\"u\"/>"))) ≡ Shape (0 ∷ 1 ∷ 3 ∷ 0 ∷ 0 ∷ 0 ∷ 1 ∷ 0 ∷ 0 ∷ 0 ∷ []) words.Signed
unfolding is_utf8 chars encode_utf8 document_of piece_at is_sound base64_on_literals begins_sequence seen
shape_signed_digest = refl

shape_signed_value : seen (answer begins_sequence (document_of (whole
    changing codes "9U+W2cYhO414WHxQCf9YM19O/CSVLvU/LBr7U4j+2mk=" into codes "*"))) ≡ Shape (0 ∷ 1 ∷ 3 ∷ 0 ∷ 0 ∷ 0 ∷ 1 ∷ 0 ∷ 0 ∷ 1 ∷ []) words.Signed
unfolding is_utf8 chars encode_utf8 document_of piece_at is_sound base64_on_literals begins_sequence seen
shape_signed_value = refl

shape_signed_no_value : seen (answer begins_sequence (document_of (whole
    changing codes "<ds:DigestValue>9U+W2cYhO414WHxQCf9YM19O/CSVLvU/LBr7U4j+2mk=</ds:DigestValue>" into codes ""))) ≡ Shape (0 ∷ 1 ∷ 3 ∷ 0 ∷ 0 ∷ 0 ∷ 1 ∷ 0 ∷ 0 ∷ []) words.Signed
unfolding is_utf8 chars encode_utf8 document_of piece_at is_sound base64_on_literals begins_sequence seen
shape_signed_no_value = refl

shape_data_object_id : seen (answer begins_sequence (document_of (whole
    changing codes "<ds:Reference Id=\"s-r1\" URI=\"#d\">" into codes "<ds:Reference URI=\"#d\">"))) ≡ Shape (0 ∷ 1 ∷ 0 ∷ 2 ∷ []) words.DataObject
unfolding is_utf8 chars encode_utf8 document_of piece_at is_sound base64_on_literals begins_sequence seen
shape_data_object_id = refl

shape_data_object_none : seen (answer begins_sequence (document_of (whole
    changing codes "<xades:DataObjectFormat ObjectReference=\"#s-r1\"><xades:MimeType>m</xades:MimeType></xades:DataObjectFormat>" into codes ""))) ≡ Shape (0 ∷ 1 ∷ 3 ∷ 0 ∷ 0 ∷ 1 ∷ []) words.DataObject
unfolding is_utf8 chars encode_utf8 document_of piece_at is_sound base64_on_literals begins_sequence seen
shape_data_object_none = refl

shape_data_object_no_list : seen (answer begins_sequence (document_of (whole
    changing codes "<xades:SignedDataObjectProperties><xades:DataObjectFormat ObjectReference=\"#s-r1\"><xades:MimeType>m</xades:MimeType></xades:DataObjectFormat></xades:SignedDataObjectProperties>" into codes ""))) ≡ Shape (0 ∷ 1 ∷ 3 ∷ 0 ∷ 0 ∷ []) words.DataObject
unfolding is_utf8 chars encode_utf8 document_of piece_at is_sound base64_on_literals begins_sequence seen
shape_data_object_no_list = refl

shape_data_object_two : seen (answer begins_sequence (document_of (whole
    changing codes "</xades:DataObjectFormat>" into codes "</xades:DataObjectFormat><xades:DataObjectFormat ObjectReference=\"#s-r1\"><xades:MimeType>m</xades:MimeType></xades:DataObjectFormat>"))) ≡ Shape (0 ∷ 1 ∷ 3 ∷ 0 ∷ 0 ∷ 1 ∷ 1 ∷ []) words.DataObject
unfolding is_utf8 chars encode_utf8 document_of piece_at is_sound base64_on_literals begins_sequence seen
shape_data_object_two = refl

shape_data_object_type : seen (answer begins_sequence (document_of (whole
    changing codes "<xades:DataObjectFormat ObjectReference=\"#s-r1\"><xades:MimeType>m</xades:MimeType></xades:DataObjectFormat>" into codes "<xades:DataObjectFormat ObjectReference=\"#s-r1\"/>"))) ≡ Shape (0 ∷ 1 ∷ 3 ∷ 0 ∷ 0 ∷ 1 ∷ 0 ∷ []) words.DataObject
unfolding is_utf8 chars encode_utf8 document_of piece_at is_sound base64_on_literals begins_sequence seen
shape_data_object_type = refl

shape_data_object_key : seen (answer begins_sequence (document_of (whole
    changing codes "<ds:Reference Id=\"s-r1\" URI=\"#d\"><ds:Transforms><ds:Transform Algorithm=\"http://www.w3.org/2000/09/xmldsig#base64\"></ds:Transform></ds:Transforms>" into codes "<ds:Reference Id=\"s-r1\" URI=\"#k\">"
    changing codes "<ds:KeyInfo>" into codes "<ds:KeyInfo ID=\"k\">"
    changing codes "<xades:DataObjectFormat ObjectReference=\"#s-r1\"><xades:MimeType>m</xades:MimeType></xades:DataObjectFormat>" into codes ""))) ≡ Read (record { path = (0 ∷ 1 ∷ []); tags = [] })
unfolding is_utf8 chars encode_utf8 document_of piece_at is_sound base64_on_literals begins_sequence seen
shape_data_object_key = refl

shape_key_none : seen (answer begins_sequence (document_of (whole
    changing codes "<ds:KeyInfo><ds:X509Data><ds:X509Certificate>MAE=</ds:X509Certificate></ds:X509Data></ds:KeyInfo>" into codes "<ds:KeyInfo/>"))) ≡ Shape (0 ∷ 1 ∷ 2 ∷ []) words.Key
unfolding is_utf8 chars encode_utf8 document_of piece_at is_sound base64_on_literals begins_sequence seen
shape_key_none = refl

shape_key_empty : seen (answer begins_sequence (document_of (whole
    changing codes "<ds:X509Certificate>MAE=</ds:X509Certificate>" into codes ""))) ≡ Shape (0 ∷ 1 ∷ 2 ∷ 0 ∷ []) words.Key
unfolding is_utf8 chars encode_utf8 document_of piece_at is_sound base64_on_literals begins_sequence seen
shape_key_empty = refl

shape_key_other : seen (answer begins_sequence (document_of (whole
    changing codes "<ds:X509Data>" into codes "<ds:X509Data><x>y</x>"))) ≡ Read (record { path = (0 ∷ 1 ∷ []); tags = [] })
unfolding is_utf8 chars encode_utf8 document_of piece_at is_sound base64_on_literals begins_sequence seen
shape_key_other = refl

shape_value : seen (answer begins_sequence (document_of (whole
    changing codes "<ds:SignatureValue>AAAA" into codes "<ds:SignatureValue>AAA"))) ≡ Shape (0 ∷ 1 ∷ 1 ∷ []) words.Value
unfolding is_utf8 chars encode_utf8 document_of piece_at is_sound base64_on_literals begins_sequence seen
shape_value = refl

shape_value_empty : seen (answer begins_sequence (document_of (whole
    changing codes "<ds:SignatureValue>AAAA" into codes "<ds:SignatureValue> \n"))) ≡ Read (record { path = (0 ∷ 1 ∷ []); tags = [] })
unfolding is_utf8 chars encode_utf8 document_of piece_at is_sound base64_on_literals begins_sequence seen
shape_value_empty = refl

shape_value_child : seen (answer begins_sequence (document_of (whole
    changing codes "</ds:SignatureValue>" into codes "<x/></ds:SignatureValue>"))) ≡ Shape (0 ∷ 1 ∷ 1 ∷ []) words.Value
unfolding is_utf8 chars encode_utf8 document_of piece_at is_sound base64_on_literals begins_sequence seen
shape_value_child = refl

shape_stamp_whole : seen (answer begins_sequence (document_of (whole
    changing codes "<xades:UnsignedProperties />" into codes "<xades:UnsignedProperties><xades:UnsignedSignatureProperties><xades:SignatureTimeStamp><xades:EncapsulatedTimeStamp>MAM=</xades:EncapsulatedTimeStamp></xades:SignatureTimeStamp></xades:UnsignedSignatureProperties></xades:UnsignedProperties>"))) ≡ Read (record { path = (0 ∷ 1 ∷ []); tags = [] })
unfolding is_utf8 chars encode_utf8 document_of piece_at is_sound base64_on_literals begins_sequence seen
shape_stamp_whole = refl

shape_stamp_method : seen (answer begins_sequence (document_of (whole
    changing codes "<xades:UnsignedProperties />" into codes "<xades:UnsignedProperties><xades:UnsignedSignatureProperties><xades:SignatureTimeStamp><ds:CanonicalizationMethod Algorithm=\"http://www.w3.org/2001/10/xml-exc-c14n#\"/><xades:EncapsulatedTimeStamp>MAM=</xades:EncapsulatedTimeStamp></xades:SignatureTimeStamp></xades:UnsignedSignatureProperties></xades:UnsignedProperties>"))) ≡ Read (record { path = (0 ∷ 1 ∷ []); tags = [] })
unfolding is_utf8 chars encode_utf8 document_of piece_at is_sound base64_on_literals begins_sequence seen
shape_stamp_method = refl

shape_stamp_two_methods : seen (answer begins_sequence (document_of (whole
    changing codes "<xades:UnsignedProperties />" into codes "<xades:UnsignedProperties><xades:UnsignedSignatureProperties><xades:SignatureTimeStamp><ds:CanonicalizationMethod Algorithm=\"http://www.w3.org/2001/10/xml-exc-c14n#\"/><ds:CanonicalizationMethod Algorithm=\"http://www.w3.org/2001/10/xml-exc-c14n#\"/><xades:EncapsulatedTimeStamp>MAM=</xades:EncapsulatedTimeStamp></xades:SignatureTimeStamp></xades:UnsignedSignatureProperties></xades:UnsignedProperties>"))) ≡ Shape (0 ∷ 1 ∷ 3 ∷ 0 ∷ 1 ∷ 0 ∷ 0 ∷ 1 ∷ []) words.Stamp
unfolding is_utf8 chars encode_utf8 document_of piece_at is_sound base64_on_literals begins_sequence seen
shape_stamp_two_methods = refl

shape_stamp_no_token : seen (answer begins_sequence (document_of (whole
    changing codes "<xades:UnsignedProperties />" into codes "<xades:UnsignedProperties><xades:UnsignedSignatureProperties><xades:SignatureTimeStamp/></xades:UnsignedSignatureProperties></xades:UnsignedProperties>"))) ≡ Shape (0 ∷ 1 ∷ 3 ∷ 0 ∷ 1 ∷ 0 ∷ 0 ∷ []) words.Stamp
unfolding is_utf8 chars encode_utf8 document_of piece_at is_sound base64_on_literals begins_sequence seen
shape_stamp_no_token = refl

shape_stamp_other : seen (answer begins_sequence (document_of (whole
    changing codes "<xades:UnsignedProperties />" into codes "<xades:UnsignedProperties><xades:UnsignedSignatureProperties><xades:SignatureTimeStamp><x/><xades:EncapsulatedTimeStamp>MAM=</xades:EncapsulatedTimeStamp></xades:SignatureTimeStamp></xades:UnsignedSignatureProperties></xades:UnsignedProperties>"))) ≡ Shape (0 ∷ 1 ∷ 3 ∷ 0 ∷ 1 ∷ 0 ∷ 0 ∷ 0 ∷ []) words.Stamp
unfolding is_utf8 chars encode_utf8 document_of piece_at is_sound base64_on_literals begins_sequence seen
shape_stamp_other = refl

shape_stamp_archive : seen (answer begins_sequence (document_of (whole
    changing codes "<xades:UnsignedProperties />" into codes "<xades:UnsignedProperties><xades:UnsignedSignatureProperties><b:ArchiveTimeStamp xmlns:b=\"http://uri.etsi.org/01903/v1.4.1#\">x<xades:EncapsulatedTimeStamp>MAM=</xades:EncapsulatedTimeStamp></b:ArchiveTimeStamp></xades:UnsignedSignatureProperties></xades:UnsignedProperties>"))) ≡ Shape (0 ∷ 1 ∷ 3 ∷ 0 ∷ 1 ∷ 0 ∷ 0 ∷ []) words.Stamp
unfolding is_utf8 chars encode_utf8 document_of piece_at is_sound base64_on_literals begins_sequence seen
shape_stamp_archive = refl

shape_stamp_passed : seen (answer begins_sequence (document_of (whole
    changing codes "<xades:UnsignedProperties />" into codes "<xades:UnsignedProperties><xades:UnsignedSignatureProperties><x>y</x><xades:CounterSignature>x</xades:CounterSignature></xades:UnsignedSignatureProperties></xades:UnsignedProperties>"))) ≡ Read (record { path = (0 ∷ 1 ∷ []); tags = [] })
unfolding is_utf8 chars encode_utf8 document_of piece_at is_sound base64_on_literals begins_sequence seen
shape_stamp_passed = refl

shape_values_two : seen (answer begins_sequence (document_of (whole
    changing codes "<xades:UnsignedProperties />" into codes "<xades:UnsignedProperties><xades:UnsignedSignatureProperties><xades:CertificateValues/><xades:RevocationValues/><xades:RevocationValues/></xades:UnsignedSignatureProperties></xades:UnsignedProperties>"))) ≡ Shape (0 ∷ 1 ∷ 3 ∷ 0 ∷ 1 ∷ 0 ∷ 2 ∷ []) words.Values
unfolding is_utf8 chars encode_utf8 document_of piece_at is_sound base64_on_literals begins_sequence seen
shape_values_two = refl

shape_values_inside : seen (answer begins_sequence (document_of (whole
    changing codes "<xades:UnsignedProperties />" into codes "<xades:UnsignedProperties><xades:UnsignedSignatureProperties><xades:RevocationValues/><b:TimeStampValidationData xmlns:b=\"http://uri.etsi.org/01903/v1.4.1#\"><xades:RevocationValues/></b:TimeStampValidationData></xades:UnsignedSignatureProperties></xades:UnsignedProperties>"))) ≡ Read (record { path = (0 ∷ 1 ∷ []); tags = [] })
unfolding is_utf8 chars encode_utf8 document_of piece_at is_sound base64_on_literals begins_sequence seen
shape_values_inside = refl

shape_values_text : seen (answer begins_sequence (document_of (whole
    changing codes "<xades:UnsignedProperties />" into codes "<xades:UnsignedProperties><xades:UnsignedSignatureProperties><xades:RevocationValues><xades:CRLValues>x</xades:CRLValues></xades:RevocationValues></xades:UnsignedSignatureProperties></xades:UnsignedProperties>"))) ≡ Shape (0 ∷ 1 ∷ 3 ∷ 0 ∷ 1 ∷ 0 ∷ 0 ∷ 0 ∷ []) words.Values
unfolding is_utf8 chars encode_utf8 document_of piece_at is_sound base64_on_literals begins_sequence seen
shape_values_text = refl

shape_values_transform_text : seen (answer begins_sequence (document_of (whole
    changing codes "</ds:Transform>" into codes "x</ds:Transform>"))) ≡ Shape (0 ∷ 1 ∷ 0 ∷ 2 ∷ 0 ∷ 0 ∷ []) words.Values
unfolding is_utf8 chars encode_utf8 document_of piece_at is_sound base64_on_literals begins_sequence seen
shape_values_transform_text = refl

shape_include : seen (answer begins_sequence (document_of (whole
    changing codes "<xades:UnsignedProperties />" into codes "<xades:UnsignedProperties><xades:UnsignedSignatureProperties><xades:SignatureTimeStamp><xades:Include URI=\"#a\"/><xades:EncapsulatedTimeStamp>MAM=</xades:EncapsulatedTimeStamp></xades:SignatureTimeStamp></xades:UnsignedSignatureProperties></xades:UnsignedProperties>"))) ≡ Include (0 ∷ 1 ∷ 3 ∷ 0 ∷ 1 ∷ 0 ∷ 0 ∷ 0 ∷ [])
unfolding is_utf8 chars encode_utf8 document_of piece_at is_sound base64_on_literals begins_sequence seen
shape_include = refl

shape_data_key : seen (answer begins_sequence (document_of (whole
    changing codes "MAE=" into codes "AAAA"))) ≡ PropertyData (0 ∷ 1 ∷ 2 ∷ 0 ∷ 0 ∷ [])
unfolding is_utf8 chars encode_utf8 document_of piece_at is_sound base64_on_literals begins_sequence seen
shape_data_key = refl

shape_data_key_text : seen (answer begins_sequence (document_of (whole
    changing codes "MAE=" into codes "MAE=</ds:X509Certificate><ds:X509Certificate>*"))) ≡ PropertyData (0 ∷ 1 ∷ 2 ∷ 0 ∷ 1 ∷ [])
unfolding is_utf8 chars encode_utf8 document_of piece_at is_sound base64_on_literals begins_sequence seen
shape_data_key_text = refl

shape_data_token : seen (answer begins_sequence (document_of (whole
    changing codes "<xades:UnsignedProperties />" into codes "<xades:UnsignedProperties><xades:UnsignedSignatureProperties><xades:SignatureTimeStamp><xades:EncapsulatedTimeStamp>MAM=</xades:EncapsulatedTimeStamp></xades:SignatureTimeStamp><xades:SignatureTimeStamp><xades:EncapsulatedTimeStamp>AAAA</xades:EncapsulatedTimeStamp></xades:SignatureTimeStamp></xades:UnsignedSignatureProperties></xades:UnsignedProperties>"))) ≡ PropertyData (0 ∷ 1 ∷ 3 ∷ 0 ∷ 1 ∷ 0 ∷ 1 ∷ 0 ∷ [])
unfolding is_utf8 chars encode_utf8 document_of piece_at is_sound base64_on_literals begins_sequence seen
shape_data_token = refl

shape_data_list : seen (answer begins_sequence (document_of (whole
    changing codes "<xades:UnsignedProperties />" into codes "<xades:UnsignedProperties><xades:UnsignedSignatureProperties><xades:RevocationValues><xades:CRLValues><xades:EncapsulatedCRLValue>MAI=</xades:EncapsulatedCRLValue><xades:EncapsulatedCRLValue>AAAA</xades:EncapsulatedCRLValue></xades:CRLValues></xades:RevocationValues></xades:UnsignedSignatureProperties></xades:UnsignedProperties>"))) ≡ PropertyData (0 ∷ 1 ∷ 3 ∷ 0 ∷ 1 ∷ 0 ∷ 0 ∷ 0 ∷ 1 ∷ [])
unfolding is_utf8 chars encode_utf8 document_of piece_at is_sound base64_on_literals begins_sequence seen
shape_data_list = refl

shape_data_inside : seen (answer begins_sequence (document_of (whole
    changing codes "<xades:UnsignedProperties />" into codes "<xades:UnsignedProperties><xades:UnsignedSignatureProperties><b:TimeStampValidationData xmlns:b=\"http://uri.etsi.org/01903/v1.4.1#\"><xades:CertificateValues><xades:EncapsulatedX509Certificate>AAAA</xades:EncapsulatedX509Certificate></xades:CertificateValues></b:TimeStampValidationData></xades:UnsignedSignatureProperties></xades:UnsignedProperties>"))) ≡ PropertyData (0 ∷ 1 ∷ 3 ∷ 0 ∷ 1 ∷ 0 ∷ 0 ∷ 0 ∷ 0 ∷ [])
unfolding is_utf8 chars encode_utf8 document_of piece_at is_sound base64_on_literals begins_sequence seen
shape_data_inside = refl

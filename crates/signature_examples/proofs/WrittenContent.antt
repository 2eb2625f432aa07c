-- Fragments, items and the prepared document: on small documents.
use Rattle.std.specs.Prelude.{◌≡◌, refl, [], ◌∷◌, codes, ℕ, true, List, take}
use Rattle.std.specs.Str.{is_utf8, chars}
use Rattle.std.specs.Char.{encode_utf8}
use Rattle.base64.proofs.OnLiterals.{base64_on_literals}
use Rattle.document_model.specs.Documents.{document_of}
use Rattle.document_model.specs.Items.{piece_at}
use Rattle.document_model.specs.Scopes.{is_sound}
use Rattle.document_model.specs.Canonical.{text_of}
use Rattle.std.specs.Fmt.{digits}
use Rattle.signature_examples.proofs.SameTrees.{same_nodes}
use Rattle.signature_model.specs.Vocabulary.{DigestKind, Sha256}
use Rattle.signature_model.specs.Chains.{Handed}
use Rattle.signature_model.specs.Fragments.{Value, Stamp, Data, Archive, bytes_with_item, with_item}
use Rattle.signature_model.specs.Prepared.{prepared, prepared_bytes}
use Rattle.signature_examples.proofs.SmallDocument.{plain, whole, ◌changing◌into◌, signature, handed_as_e}

-- a stand-in for digests: the first three octets
digest : DigestKind → List ℕ → List ℕ
digest kind octets = take 3 octets

abbrev handed : Handed
handed = handed_as_e (codes "abc")

bytes_list_stamp : let document = document_of (whole
    changing codes "<xades:UnsignedProperties />" into codes "<xades:UnsignedProperties><xades:UnsignedSignatureProperties><xades:SignatureTimeStamp><xades:EncapsulatedTimeStamp>MAM=</xades:EncapsulatedTimeStamp></xades:SignatureTimeStamp></xades:UnsignedSignatureProperties></xades:UnsignedProperties>") in bytes_with_item document (signature document) (Stamp (48 ∷ 4 ∷ [])) (whole
    changing codes "<xades:UnsignedProperties />" into codes "<xades:UnsignedProperties><xades:UnsignedSignatureProperties><xades:SignatureTimeStamp><xades:EncapsulatedTimeStamp>MAM=</xades:EncapsulatedTimeStamp></xades:SignatureTimeStamp></xades:UnsignedSignatureProperties></xades:UnsignedProperties>")
    ≡ (whole
    changing codes "<xades:UnsignedProperties />" into codes "<xades:UnsignedProperties><xades:UnsignedSignatureProperties><xades:SignatureTimeStamp><xades:EncapsulatedTimeStamp>MAM=</xades:EncapsulatedTimeStamp></xades:SignatureTimeStamp><xades:SignatureTimeStamp xmlns:xades=\"http://uri.etsi.org/01903/v1.3.2#\"><ds:CanonicalizationMethod xmlns:ds=\"http://www.w3.org/2000/09/xmldsig#\" Algorithm=\"http://www.w3.org/2001/10/xml-exc-c14n#\"></ds:CanonicalizationMethod><xades:EncapsulatedTimeStamp>MAQ=</xades:EncapsulatedTimeStamp></xades:SignatureTimeStamp></xades:UnsignedSignatureProperties></xades:UnsignedProperties>")
unfolding is_utf8 chars encode_utf8 document_of piece_at is_sound text_of base64_on_literals digest digits
bytes_list_stamp = refl

tree_list_stamp : let document = document_of (whole
    changing codes "<xades:UnsignedProperties />" into codes "<xades:UnsignedProperties><xades:UnsignedSignatureProperties><xades:SignatureTimeStamp><xades:EncapsulatedTimeStamp>MAM=</xades:EncapsulatedTimeStamp></xades:SignatureTimeStamp></xades:UnsignedSignatureProperties></xades:UnsignedProperties>") in same_nodes (with_item document (signature document) (Stamp (48 ∷ 4 ∷ [])))
    (document_of (whole
    changing codes "<xades:UnsignedProperties />" into codes "<xades:UnsignedProperties><xades:UnsignedSignatureProperties><xades:SignatureTimeStamp><xades:EncapsulatedTimeStamp>MAM=</xades:EncapsulatedTimeStamp></xades:SignatureTimeStamp><xades:SignatureTimeStamp xmlns:xades=\"http://uri.etsi.org/01903/v1.3.2#\"><ds:CanonicalizationMethod xmlns:ds=\"http://www.w3.org/2000/09/xmldsig#\" Algorithm=\"http://www.w3.org/2001/10/xml-exc-c14n#\"></ds:CanonicalizationMethod><xades:EncapsulatedTimeStamp>MAQ=</xades:EncapsulatedTimeStamp></xades:SignatureTimeStamp></xades:UnsignedSignatureProperties></xades:UnsignedProperties>")) ≡ true
unfolding is_utf8 chars encode_utf8 document_of piece_at is_sound text_of base64_on_literals digest digits
tree_list_stamp = refl

bytes_list_archive : let document = document_of (whole
    changing codes "<xades:UnsignedProperties />" into codes "<xades:UnsignedProperties><xades:UnsignedSignatureProperties><xades:SignatureTimeStamp><xades:EncapsulatedTimeStamp>MAM=</xades:EncapsulatedTimeStamp></xades:SignatureTimeStamp></xades:UnsignedSignatureProperties></xades:UnsignedProperties>") in bytes_with_item document (signature document) (Archive (48 ∷ 4 ∷ [])) (whole
    changing codes "<xades:UnsignedProperties />" into codes "<xades:UnsignedProperties><xades:UnsignedSignatureProperties><xades:SignatureTimeStamp><xades:EncapsulatedTimeStamp>MAM=</xades:EncapsulatedTimeStamp></xades:SignatureTimeStamp></xades:UnsignedSignatureProperties></xades:UnsignedProperties>")
    ≡ (whole
    changing codes "<xades:UnsignedProperties />" into codes "<xades:UnsignedProperties><xades:UnsignedSignatureProperties><xades:SignatureTimeStamp><xades:EncapsulatedTimeStamp>MAM=</xades:EncapsulatedTimeStamp></xades:SignatureTimeStamp><xadesv141:ArchiveTimeStamp xmlns:xadesv141=\"http://uri.etsi.org/01903/v1.4.1#\"><ds:CanonicalizationMethod xmlns:ds=\"http://www.w3.org/2000/09/xmldsig#\" Algorithm=\"http://www.w3.org/2001/10/xml-exc-c14n#\"></ds:CanonicalizationMethod><xades:EncapsulatedTimeStamp xmlns:xades=\"http://uri.etsi.org/01903/v1.3.2#\">MAQ=</xades:EncapsulatedTimeStamp></xadesv141:ArchiveTimeStamp></xades:UnsignedSignatureProperties></xades:UnsignedProperties>")
unfolding is_utf8 chars encode_utf8 document_of piece_at is_sound text_of base64_on_literals digest digits
bytes_list_archive = refl

tree_list_archive : let document = document_of (whole
    changing codes "<xades:UnsignedProperties />" into codes "<xades:UnsignedProperties><xades:UnsignedSignatureProperties><xades:SignatureTimeStamp><xades:EncapsulatedTimeStamp>MAM=</xades:EncapsulatedTimeStamp></xades:SignatureTimeStamp></xades:UnsignedSignatureProperties></xades:UnsignedProperties>") in same_nodes (with_item document (signature document) (Archive (48 ∷ 4 ∷ [])))
    (document_of (whole
    changing codes "<xades:UnsignedProperties />" into codes "<xades:UnsignedProperties><xades:UnsignedSignatureProperties><xades:SignatureTimeStamp><xades:EncapsulatedTimeStamp>MAM=</xades:EncapsulatedTimeStamp></xades:SignatureTimeStamp><xadesv141:ArchiveTimeStamp xmlns:xadesv141=\"http://uri.etsi.org/01903/v1.4.1#\"><ds:CanonicalizationMethod xmlns:ds=\"http://www.w3.org/2000/09/xmldsig#\" Algorithm=\"http://www.w3.org/2001/10/xml-exc-c14n#\"></ds:CanonicalizationMethod><xades:EncapsulatedTimeStamp xmlns:xades=\"http://uri.etsi.org/01903/v1.3.2#\">MAQ=</xades:EncapsulatedTimeStamp></xadesv141:ArchiveTimeStamp></xades:UnsignedSignatureProperties></xades:UnsignedProperties>")) ≡ true
unfolding is_utf8 chars encode_utf8 document_of piece_at is_sound text_of base64_on_literals digest digits
tree_list_archive = refl

bytes_list_data : let document = document_of (whole
    changing codes "<xades:UnsignedProperties />" into codes "<xades:UnsignedProperties><xades:UnsignedSignatureProperties><xades:SignatureTimeStamp><xades:EncapsulatedTimeStamp>MAM=</xades:EncapsulatedTimeStamp></xades:SignatureTimeStamp></xades:UnsignedSignatureProperties></xades:UnsignedProperties>") in bytes_with_item document (signature document) (Data ((48 ∷ 1 ∷ []) ∷ []) ((48 ∷ 2 ∷ []) ∷ [])) (whole
    changing codes "<xades:UnsignedProperties />" into codes "<xades:UnsignedProperties><xades:UnsignedSignatureProperties><xades:SignatureTimeStamp><xades:EncapsulatedTimeStamp>MAM=</xades:EncapsulatedTimeStamp></xades:SignatureTimeStamp></xades:UnsignedSignatureProperties></xades:UnsignedProperties>")
    ≡ (whole
    changing codes "<xades:UnsignedProperties />" into codes "<xades:UnsignedProperties><xades:UnsignedSignatureProperties><xades:SignatureTimeStamp><xades:EncapsulatedTimeStamp>MAM=</xades:EncapsulatedTimeStamp></xades:SignatureTimeStamp><xades:CertificateValues xmlns:xades=\"http://uri.etsi.org/01903/v1.3.2#\"><xades:EncapsulatedX509Certificate>MAE=</xades:EncapsulatedX509Certificate></xades:CertificateValues><xades:RevocationValues xmlns:xades=\"http://uri.etsi.org/01903/v1.3.2#\"><xades:CRLValues><xades:EncapsulatedCRLValue>MAI=</xades:EncapsulatedCRLValue></xades:CRLValues></xades:RevocationValues></xades:UnsignedSignatureProperties></xades:UnsignedProperties>")
unfolding is_utf8 chars encode_utf8 document_of piece_at is_sound text_of base64_on_literals digest digits
bytes_list_data = refl

tree_list_data : let document = document_of (whole
    changing codes "<xades:UnsignedProperties />" into codes "<xades:UnsignedProperties><xades:UnsignedSignatureProperties><xades:SignatureTimeStamp><xades:EncapsulatedTimeStamp>MAM=</xades:EncapsulatedTimeStamp></xades:SignatureTimeStamp></xades:UnsignedSignatureProperties></xades:UnsignedProperties>") in same_nodes (with_item document (signature document) (Data ((48 ∷ 1 ∷ []) ∷ []) ((48 ∷ 2 ∷ []) ∷ [])))
    (document_of (whole
    changing codes "<xades:UnsignedProperties />" into codes "<xades:UnsignedProperties><xades:UnsignedSignatureProperties><xades:SignatureTimeStamp><xades:EncapsulatedTimeStamp>MAM=</xades:EncapsulatedTimeStamp></xades:SignatureTimeStamp><xades:CertificateValues xmlns:xades=\"http://uri.etsi.org/01903/v1.3.2#\"><xades:EncapsulatedX509Certificate>MAE=</xades:EncapsulatedX509Certificate></xades:CertificateValues><xades:RevocationValues xmlns:xades=\"http://uri.etsi.org/01903/v1.3.2#\"><xades:CRLValues><xades:EncapsulatedCRLValue>MAI=</xades:EncapsulatedCRLValue></xades:CRLValues></xades:RevocationValues></xades:UnsignedSignatureProperties></xades:UnsignedProperties>")) ≡ true
unfolding is_utf8 chars encode_utf8 document_of piece_at is_sound text_of base64_on_literals digest digits
tree_list_data = refl

bytes_list_lists : let document = document_of (whole
    changing codes "<xades:UnsignedProperties />" into codes "<xades:UnsignedProperties><xades:UnsignedSignatureProperties><xades:SignatureTimeStamp><xades:EncapsulatedTimeStamp>MAM=</xades:EncapsulatedTimeStamp></xades:SignatureTimeStamp></xades:UnsignedSignatureProperties></xades:UnsignedProperties>") in bytes_with_item document (signature document) (Data [] ((48 ∷ 2 ∷ []) ∷ (48 ∷ 2 ∷ []) ∷ [])) (whole
    changing codes "<xades:UnsignedProperties />" into codes "<xades:UnsignedProperties><xades:UnsignedSignatureProperties><xades:SignatureTimeStamp><xades:EncapsulatedTimeStamp>MAM=</xades:EncapsulatedTimeStamp></xades:SignatureTimeStamp></xades:UnsignedSignatureProperties></xades:UnsignedProperties>")
    ≡ (whole
    changing codes "<xades:UnsignedProperties />" into codes "<xades:UnsignedProperties><xades:UnsignedSignatureProperties><xades:SignatureTimeStamp><xades:EncapsulatedTimeStamp>MAM=</xades:EncapsulatedTimeStamp></xades:SignatureTimeStamp><xades:RevocationValues xmlns:xades=\"http://uri.etsi.org/01903/v1.3.2#\"><xades:CRLValues><xades:EncapsulatedCRLValue>MAI=</xades:EncapsulatedCRLValue><xades:EncapsulatedCRLValue>MAI=</xades:EncapsulatedCRLValue></xades:CRLValues></xades:RevocationValues></xades:UnsignedSignatureProperties></xades:UnsignedProperties>")
unfolding is_utf8 chars encode_utf8 document_of piece_at is_sound text_of base64_on_literals digest digits
bytes_list_lists = refl

tree_list_lists : let document = document_of (whole
    changing codes "<xades:UnsignedProperties />" into codes "<xades:UnsignedProperties><xades:UnsignedSignatureProperties><xades:SignatureTimeStamp><xades:EncapsulatedTimeStamp>MAM=</xades:EncapsulatedTimeStamp></xades:SignatureTimeStamp></xades:UnsignedSignatureProperties></xades:UnsignedProperties>") in same_nodes (with_item document (signature document) (Data [] ((48 ∷ 2 ∷ []) ∷ (48 ∷ 2 ∷ []) ∷ [])))
    (document_of (whole
    changing codes "<xades:UnsignedProperties />" into codes "<xades:UnsignedProperties><xades:UnsignedSignatureProperties><xades:SignatureTimeStamp><xades:EncapsulatedTimeStamp>MAM=</xades:EncapsulatedTimeStamp></xades:SignatureTimeStamp><xades:RevocationValues xmlns:xades=\"http://uri.etsi.org/01903/v1.3.2#\"><xades:CRLValues><xades:EncapsulatedCRLValue>MAI=</xades:EncapsulatedCRLValue><xades:EncapsulatedCRLValue>MAI=</xades:EncapsulatedCRLValue></xades:CRLValues></xades:RevocationValues></xades:UnsignedSignatureProperties></xades:UnsignedProperties>")) ≡ true
unfolding is_utf8 chars encode_utf8 document_of piece_at is_sound text_of base64_on_literals digest digits
tree_list_lists = refl

bytes_empty_list_data : let document = document_of (whole
    changing codes "<xades:UnsignedProperties />" into codes "<xades:UnsignedProperties><xades:UnsignedSignatureProperties/></xades:UnsignedProperties>") in bytes_with_item document (signature document) (Data ((48 ∷ 1 ∷ []) ∷ []) ((48 ∷ 2 ∷ []) ∷ [])) (whole
    changing codes "<xades:UnsignedProperties />" into codes "<xades:UnsignedProperties><xades:UnsignedSignatureProperties/></xades:UnsignedProperties>")
    ≡ (whole
    changing codes "<xades:UnsignedProperties />" into codes "<xades:UnsignedProperties><xades:UnsignedSignatureProperties><xades:CertificateValues xmlns:xades=\"http://uri.etsi.org/01903/v1.3.2#\"><xades:EncapsulatedX509Certificate>MAE=</xades:EncapsulatedX509Certificate></xades:CertificateValues><xades:RevocationValues xmlns:xades=\"http://uri.etsi.org/01903/v1.3.2#\"><xades:CRLValues><xades:EncapsulatedCRLValue>MAI=</xades:EncapsulatedCRLValue></xades:CRLValues></xades:RevocationValues></xades:UnsignedSignatureProperties></xades:UnsignedProperties>")
unfolding is_utf8 chars encode_utf8 document_of piece_at is_sound text_of base64_on_literals digest digits
bytes_empty_list_data = refl

tree_empty_list_data : let document = document_of (whole
    changing codes "<xades:UnsignedProperties />" into codes "<xades:UnsignedProperties><xades:UnsignedSignatureProperties/></xades:UnsignedProperties>") in same_nodes (with_item document (signature document) (Data ((48 ∷ 1 ∷ []) ∷ []) ((48 ∷ 2 ∷ []) ∷ [])))
    (document_of (whole
    changing codes "<xades:UnsignedProperties />" into codes "<xades:UnsignedProperties><xades:UnsignedSignatureProperties><xades:CertificateValues xmlns:xades=\"http://uri.etsi.org/01903/v1.3.2#\"><xades:EncapsulatedX509Certificate>MAE=</xades:EncapsulatedX509Certificate></xades:CertificateValues><xades:RevocationValues xmlns:xades=\"http://uri.etsi.org/01903/v1.3.2#\"><xades:CRLValues><xades:EncapsulatedCRLValue>MAI=</xades:EncapsulatedCRLValue></xades:CRLValues></xades:RevocationValues></xades:UnsignedSignatureProperties></xades:UnsignedProperties>")) ≡ true
unfolding is_utf8 chars encode_utf8 document_of piece_at is_sound text_of base64_on_literals digest digits
tree_empty_list_data = refl

bytes_unsigned_stamp : let document = document_of whole in bytes_with_item document (signature document) (Stamp (48 ∷ 4 ∷ [])) whole
    ≡ (whole
    changing codes "<xades:UnsignedProperties />" into codes "<xades:UnsignedProperties ><xades:UnsignedSignatureProperties xmlns:xades=\"http://uri.etsi.org/01903/v1.3.2#\"><xades:SignatureTimeStamp xmlns:xades=\"http://uri.etsi.org/01903/v1.3.2#\"><ds:CanonicalizationMethod xmlns:ds=\"http://www.w3.org/2000/09/xmldsig#\" Algorithm=\"http://www.w3.org/2001/10/xml-exc-c14n#\"></ds:CanonicalizationMethod><xades:EncapsulatedTimeStamp>MAQ=</xades:EncapsulatedTimeStamp></xades:SignatureTimeStamp></xades:UnsignedSignatureProperties></xades:UnsignedProperties>")
unfolding is_utf8 chars encode_utf8 document_of piece_at is_sound text_of base64_on_literals digest digits
bytes_unsigned_stamp = refl

tree_unsigned_stamp : let document = document_of whole in same_nodes (with_item document (signature document) (Stamp (48 ∷ 4 ∷ [])))
    (document_of (whole
    changing codes "<xades:UnsignedProperties />" into codes "<xades:UnsignedProperties ><xades:UnsignedSignatureProperties xmlns:xades=\"http://uri.etsi.org/01903/v1.3.2#\"><xades:SignatureTimeStamp xmlns:xades=\"http://uri.etsi.org/01903/v1.3.2#\"><ds:CanonicalizationMethod xmlns:ds=\"http://www.w3.org/2000/09/xmldsig#\" Algorithm=\"http://www.w3.org/2001/10/xml-exc-c14n#\"></ds:CanonicalizationMethod><xades:EncapsulatedTimeStamp>MAQ=</xades:EncapsulatedTimeStamp></xades:SignatureTimeStamp></xades:UnsignedSignatureProperties></xades:UnsignedProperties>")) ≡ true
unfolding is_utf8 chars encode_utf8 document_of piece_at is_sound text_of base64_on_literals digest digits
tree_unsigned_stamp = refl

bytes_unsigned_archive : let document = document_of whole in bytes_with_item document (signature document) (Archive (48 ∷ 4 ∷ [])) whole
    ≡ (whole
    changing codes "<xades:UnsignedProperties />" into codes "<xades:UnsignedProperties ><xades:UnsignedSignatureProperties xmlns:xades=\"http://uri.etsi.org/01903/v1.3.2#\"><xadesv141:ArchiveTimeStamp xmlns:xadesv141=\"http://uri.etsi.org/01903/v1.4.1#\"><ds:CanonicalizationMethod xmlns:ds=\"http://www.w3.org/2000/09/xmldsig#\" Algorithm=\"http://www.w3.org/2001/10/xml-exc-c14n#\"></ds:CanonicalizationMethod><xades:EncapsulatedTimeStamp xmlns:xades=\"http://uri.etsi.org/01903/v1.3.2#\">MAQ=</xades:EncapsulatedTimeStamp></xadesv141:ArchiveTimeStamp></xades:UnsignedSignatureProperties></xades:UnsignedProperties>")
unfolding is_utf8 chars encode_utf8 document_of piece_at is_sound text_of base64_on_literals digest digits
bytes_unsigned_archive = refl

tree_unsigned_archive : let document = document_of whole in same_nodes (with_item document (signature document) (Archive (48 ∷ 4 ∷ [])))
    (document_of (whole
    changing codes "<xades:UnsignedProperties />" into codes "<xades:UnsignedProperties ><xades:UnsignedSignatureProperties xmlns:xades=\"http://uri.etsi.org/01903/v1.3.2#\"><xadesv141:ArchiveTimeStamp xmlns:xadesv141=\"http://uri.etsi.org/01903/v1.4.1#\"><ds:CanonicalizationMethod xmlns:ds=\"http://www.w3.org/2000/09/xmldsig#\" Algorithm=\"http://www.w3.org/2001/10/xml-exc-c14n#\"></ds:CanonicalizationMethod><xades:EncapsulatedTimeStamp xmlns:xades=\"http://uri.etsi.org/01903/v1.3.2#\">MAQ=</xades:EncapsulatedTimeStamp></xadesv141:ArchiveTimeStamp></xades:UnsignedSignatureProperties></xades:UnsignedProperties>")) ≡ true
unfolding is_utf8 chars encode_utf8 document_of piece_at is_sound text_of base64_on_literals digest digits
tree_unsigned_archive = refl

bytes_unsigned_data : let document = document_of whole in bytes_with_item document (signature document) (Data ((48 ∷ 1 ∷ []) ∷ []) ((48 ∷ 2 ∷ []) ∷ [])) whole
    ≡ (whole
    changing codes "<xades:UnsignedProperties />" into codes "<xades:UnsignedProperties ><xades:UnsignedSignatureProperties xmlns:xades=\"http://uri.etsi.org/01903/v1.3.2#\"><xades:CertificateValues xmlns:xades=\"http://uri.etsi.org/01903/v1.3.2#\"><xades:EncapsulatedX509Certificate>MAE=</xades:EncapsulatedX509Certificate></xades:CertificateValues><xades:RevocationValues xmlns:xades=\"http://uri.etsi.org/01903/v1.3.2#\"><xades:CRLValues><xades:EncapsulatedCRLValue>MAI=</xades:EncapsulatedCRLValue></xades:CRLValues></xades:RevocationValues></xades:UnsignedSignatureProperties></xades:UnsignedProperties>")
unfolding is_utf8 chars encode_utf8 document_of piece_at is_sound text_of base64_on_literals digest digits
bytes_unsigned_data = refl

tree_unsigned_data : let document = document_of whole in same_nodes (with_item document (signature document) (Data ((48 ∷ 1 ∷ []) ∷ []) ((48 ∷ 2 ∷ []) ∷ [])))
    (document_of (whole
    changing codes "<xades:UnsignedProperties />" into codes "<xades:UnsignedProperties ><xades:UnsignedSignatureProperties xmlns:xades=\"http://uri.etsi.org/01903/v1.3.2#\"><xades:CertificateValues xmlns:xades=\"http://uri.etsi.org/01903/v1.3.2#\"><xades:EncapsulatedX509Certificate>MAE=</xades:EncapsulatedX509Certificate></xades:CertificateValues><xades:RevocationValues xmlns:xades=\"http://uri.etsi.org/01903/v1.3.2#\"><xades:CRLValues><xades:EncapsulatedCRLValue>MAI=</xades:EncapsulatedCRLValue></xades:CRLValues></xades:RevocationValues></xades:UnsignedSignatureProperties></xades:UnsignedProperties>")) ≡ true
unfolding is_utf8 chars encode_utf8 document_of piece_at is_sound text_of base64_on_literals digest digits
tree_unsigned_data = refl

bytes_unsigned_lists : let document = document_of whole in bytes_with_item document (signature document) (Data [] ((48 ∷ 2 ∷ []) ∷ (48 ∷ 2 ∷ []) ∷ [])) whole
    ≡ (whole
    changing codes "<xades:UnsignedProperties />" into codes "<xades:UnsignedProperties ><xades:UnsignedSignatureProperties xmlns:xades=\"http://uri.etsi.org/01903/v1.3.2#\"><xades:RevocationValues xmlns:xades=\"http://uri.etsi.org/01903/v1.3.2#\"><xades:CRLValues><xades:EncapsulatedCRLValue>MAI=</xades:EncapsulatedCRLValue><xades:EncapsulatedCRLValue>MAI=</xades:EncapsulatedCRLValue></xades:CRLValues></xades:RevocationValues></xades:UnsignedSignatureProperties></xades:UnsignedProperties>")
unfolding is_utf8 chars encode_utf8 document_of piece_at is_sound text_of base64_on_literals digest digits
bytes_unsigned_lists = refl

tree_unsigned_lists : let document = document_of whole in same_nodes (with_item document (signature document) (Data [] ((48 ∷ 2 ∷ []) ∷ (48 ∷ 2 ∷ []) ∷ [])))
    (document_of (whole
    changing codes "<xades:UnsignedProperties />" into codes "<xades:UnsignedProperties ><xades:UnsignedSignatureProperties xmlns:xades=\"http://uri.etsi.org/01903/v1.3.2#\"><xades:RevocationValues xmlns:xades=\"http://uri.etsi.org/01903/v1.3.2#\"><xades:CRLValues><xades:EncapsulatedCRLValue>MAI=</xades:EncapsulatedCRLValue><xades:EncapsulatedCRLValue>MAI=</xades:EncapsulatedCRLValue></xades:CRLValues></xades:RevocationValues></xades:UnsignedSignatureProperties></xades:UnsignedProperties>")) ≡ true
unfolding is_utf8 chars encode_utf8 document_of piece_at is_sound text_of base64_on_literals digest digits
tree_unsigned_lists = refl

bytes_none_stamp : let document = document_of plain in bytes_with_item document (signature document) (Stamp (48 ∷ 4 ∷ [])) plain
    ≡ (whole
    changing codes "<xades:UnsignedProperties />" into codes "<xades:UnsignedProperties xmlns:xades=\"http://uri.etsi.org/01903/v1.3.2#\"><xades:UnsignedSignatureProperties xmlns:xades=\"http://uri.etsi.org/01903/v1.3.2#\"><xades:SignatureTimeStamp xmlns:xades=\"http://uri.etsi.org/01903/v1.3.2#\"><ds:CanonicalizationMethod xmlns:ds=\"http://www.w3.org/2000/09/xmldsig#\" Algorithm=\"http://www.w3.org/2001/10/xml-exc-c14n#\"></ds:CanonicalizationMethod><xades:EncapsulatedTimeStamp>MAQ=</xades:EncapsulatedTimeStamp></xades:SignatureTimeStamp></xades:UnsignedSignatureProperties></xades:UnsignedProperties>")
unfolding is_utf8 chars encode_utf8 document_of piece_at is_sound text_of base64_on_literals digest digits
bytes_none_stamp = refl

tree_none_stamp : let document = document_of plain in same_nodes (with_item document (signature document) (Stamp (48 ∷ 4 ∷ [])))
    (document_of (whole
    changing codes "<xades:UnsignedProperties />" into codes "<xades:UnsignedProperties xmlns:xades=\"http://uri.etsi.org/01903/v1.3.2#\"><xades:UnsignedSignatureProperties xmlns:xades=\"http://uri.etsi.org/01903/v1.3.2#\"><xades:SignatureTimeStamp xmlns:xades=\"http://uri.etsi.org/01903/v1.3.2#\"><ds:CanonicalizationMethod xmlns:ds=\"http://www.w3.org/2000/09/xmldsig#\" Algorithm=\"http://www.w3.org/2001/10/xml-exc-c14n#\"></ds:CanonicalizationMethod><xades:EncapsulatedTimeStamp>MAQ=</xades:EncapsulatedTimeStamp></xades:SignatureTimeStamp></xades:UnsignedSignatureProperties></xades:UnsignedProperties>")) ≡ true
unfolding is_utf8 chars encode_utf8 document_of piece_at is_sound text_of base64_on_literals digest digits
tree_none_stamp = refl

bytes_none_archive : let document = document_of plain in bytes_with_item document (signature document) (Archive (48 ∷ 4 ∷ [])) plain
    ≡ (whole
    changing codes "<xades:UnsignedProperties />" into codes "<xades:UnsignedProperties xmlns:xades=\"http://uri.etsi.org/01903/v1.3.2#\"><xades:UnsignedSignatureProperties xmlns:xades=\"http://uri.etsi.org/01903/v1.3.2#\"><xadesv141:ArchiveTimeStamp xmlns:xadesv141=\"http://uri.etsi.org/01903/v1.4.1#\"><ds:CanonicalizationMethod xmlns:ds=\"http://www.w3.org/2000/09/xmldsig#\" Algorithm=\"http://www.w3.org/2001/10/xml-exc-c14n#\"></ds:CanonicalizationMethod><xades:EncapsulatedTimeStamp xmlns:xades=\"http://uri.etsi.org/01903/v1.3.2#\">MAQ=</xades:EncapsulatedTimeStamp></xadesv141:ArchiveTimeStamp></xades:UnsignedSignatureProperties></xades:UnsignedProperties>")
unfolding is_utf8 chars encode_utf8 document_of piece_at is_sound text_of base64_on_literals digest digits
bytes_none_archive = refl

tree_none_archive : let document = document_of plain in same_nodes (with_item document (signature document) (Archive (48 ∷ 4 ∷ [])))
    (document_of (whole
    changing codes "<xades:UnsignedProperties />" into codes "<xades:UnsignedProperties xmlns:xades=\"http://uri.etsi.org/01903/v1.3.2#\"><xades:UnsignedSignatureProperties xmlns:xades=\"http://uri.etsi.org/01903/v1.3.2#\"><xadesv141:ArchiveTimeStamp xmlns:xadesv141=\"http://uri.etsi.org/01903/v1.4.1#\"><ds:CanonicalizationMethod xmlns:ds=\"http://www.w3.org/2000/09/xmldsig#\" Algorithm=\"http://www.w3.org/2001/10/xml-exc-c14n#\"></ds:CanonicalizationMethod><xades:EncapsulatedTimeStamp xmlns:xades=\"http://uri.etsi.org/01903/v1.3.2#\">MAQ=</xades:EncapsulatedTimeStamp></xadesv141:ArchiveTimeStamp></xades:UnsignedSignatureProperties></xades:UnsignedProperties>")) ≡ true
unfolding is_utf8 chars encode_utf8 document_of piece_at is_sound text_of base64_on_literals digest digits
tree_none_archive = refl

bytes_none_data : let document = document_of plain in bytes_with_item document (signature document) (Data ((48 ∷ 1 ∷ []) ∷ []) ((48 ∷ 2 ∷ []) ∷ [])) plain
    ≡ (whole
    changing codes "<xades:UnsignedProperties />" into codes "<xades:UnsignedProperties xmlns:xades=\"http://uri.etsi.org/01903/v1.3.2#\"><xades:UnsignedSignatureProperties xmlns:xades=\"http://uri.etsi.org/01903/v1.3.2#\"><xades:CertificateValues xmlns:xades=\"http://uri.etsi.org/01903/v1.3.2#\"><xades:EncapsulatedX509Certificate>MAE=</xades:EncapsulatedX509Certificate></xades:CertificateValues><xades:RevocationValues xmlns:xades=\"http://uri.etsi.org/01903/v1.3.2#\"><xades:CRLValues><xades:EncapsulatedCRLValue>MAI=</xades:EncapsulatedCRLValue></xades:CRLValues></xades:RevocationValues></xades:UnsignedSignatureProperties></xades:UnsignedProperties>")
unfolding is_utf8 chars encode_utf8 document_of piece_at is_sound text_of base64_on_literals digest digits
bytes_none_data = refl

tree_none_data : let document = document_of plain in same_nodes (with_item document (signature document) (Data ((48 ∷ 1 ∷ []) ∷ []) ((48 ∷ 2 ∷ []) ∷ [])))
    (document_of (whole
    changing codes "<xades:UnsignedProperties />" into codes "<xades:UnsignedProperties xmlns:xades=\"http://uri.etsi.org/01903/v1.3.2#\"><xades:UnsignedSignatureProperties xmlns:xades=\"http://uri.etsi.org/01903/v1.3.2#\"><xades:CertificateValues xmlns:xades=\"http://uri.etsi.org/01903/v1.3.2#\"><xades:EncapsulatedX509Certificate>MAE=</xades:EncapsulatedX509Certificate></xades:CertificateValues><xades:RevocationValues xmlns:xades=\"http://uri.etsi.org/01903/v1.3.2#\"><xades:CRLValues><xades:EncapsulatedCRLValue>MAI=</xades:EncapsulatedCRLValue></xades:CRLValues></xades:RevocationValues></xades:UnsignedSignatureProperties></xades:UnsignedProperties>")) ≡ true
unfolding is_utf8 chars encode_utf8 document_of piece_at is_sound text_of base64_on_literals digest digits
tree_none_data = refl

bytes_none_lists : let document = document_of plain in bytes_with_item document (signature document) (Data [] ((48 ∷ 2 ∷ []) ∷ (48 ∷ 2 ∷ []) ∷ [])) plain
    ≡ (whole
    changing codes "<xades:UnsignedProperties />" into codes "<xades:UnsignedProperties xmlns:xades=\"http://uri.etsi.org/01903/v1.3.2#\"><xades:UnsignedSignatureProperties xmlns:xades=\"http://uri.etsi.org/01903/v1.3.2#\"><xades:RevocationValues xmlns:xades=\"http://uri.etsi.org/01903/v1.3.2#\"><xades:CRLValues><xades:EncapsulatedCRLValue>MAI=</xades:EncapsulatedCRLValue><xades:EncapsulatedCRLValue>MAI=</xades:EncapsulatedCRLValue></xades:CRLValues></xades:RevocationValues></xades:UnsignedSignatureProperties></xades:UnsignedProperties>")
unfolding is_utf8 chars encode_utf8 document_of piece_at is_sound text_of base64_on_literals digest digits
bytes_none_lists = refl

tree_none_lists : let document = document_of plain in same_nodes (with_item document (signature document) (Data [] ((48 ∷ 2 ∷ []) ∷ (48 ∷ 2 ∷ []) ∷ [])))
    (document_of (whole
    changing codes "<xades:UnsignedProperties />" into codes "<xades:UnsignedProperties xmlns:xades=\"http://uri.etsi.org/01903/v1.3.2#\"><xades:UnsignedSignatureProperties xmlns:xades=\"http://uri.etsi.org/01903/v1.3.2#\"><xades:RevocationValues xmlns:xades=\"http://uri.etsi.org/01903/v1.3.2#\"><xades:CRLValues><xades:EncapsulatedCRLValue>MAI=</xades:EncapsulatedCRLValue><xades:EncapsulatedCRLValue>MAI=</xades:EncapsulatedCRLValue></xades:CRLValues></xades:RevocationValues></xades:UnsignedSignatureProperties></xades:UnsignedProperties>")) ≡ true
unfolding is_utf8 chars encode_utf8 document_of piece_at is_sound text_of base64_on_literals digest digits
tree_none_lists = refl

bytes_values_data : let document = document_of (whole
    changing codes "<xades:UnsignedProperties />" into codes "<xades:UnsignedProperties><xades:UnsignedSignatureProperties><xades:SignatureTimeStamp><xades:EncapsulatedTimeStamp>MAM=</xades:EncapsulatedTimeStamp></xades:SignatureTimeStamp><xades:CertificateValues/></xades:UnsignedSignatureProperties></xades:UnsignedProperties>") in bytes_with_item document (signature document) (Data ((48 ∷ 1 ∷ []) ∷ []) ((48 ∷ 2 ∷ []) ∷ [])) (whole
    changing codes "<xades:UnsignedProperties />" into codes "<xades:UnsignedProperties><xades:UnsignedSignatureProperties><xades:SignatureTimeStamp><xades:EncapsulatedTimeStamp>MAM=</xades:EncapsulatedTimeStamp></xades:SignatureTimeStamp><xades:CertificateValues/></xades:UnsignedSignatureProperties></xades:UnsignedProperties>")
    ≡ (whole
    changing codes "<xades:UnsignedProperties />" into codes "<xades:UnsignedProperties><xades:UnsignedSignatureProperties><xades:SignatureTimeStamp><xades:EncapsulatedTimeStamp>MAM=</xades:EncapsulatedTimeStamp></xades:SignatureTimeStamp><xades:CertificateValues/><xadesv141:TimeStampValidationData xmlns:xadesv141=\"http://uri.etsi.org/01903/v1.4.1#\"><xades:CertificateValues xmlns:xades=\"http://uri.etsi.org/01903/v1.3.2#\"><xades:EncapsulatedX509Certificate>MAE=</xades:EncapsulatedX509Certificate></xades:CertificateValues><xades:RevocationValues xmlns:xades=\"http://uri.etsi.org/01903/v1.3.2#\"><xades:CRLValues><xades:EncapsulatedCRLValue>MAI=</xades:EncapsulatedCRLValue></xades:CRLValues></xades:RevocationValues></xadesv141:TimeStampValidationData></xades:UnsignedSignatureProperties></xades:UnsignedProperties>")
unfolding is_utf8 chars encode_utf8 document_of piece_at is_sound text_of base64_on_literals digest digits
bytes_values_data = refl

tree_values_data : let document = document_of (whole
    changing codes "<xades:UnsignedProperties />" into codes "<xades:UnsignedProperties><xades:UnsignedSignatureProperties><xades:SignatureTimeStamp><xades:EncapsulatedTimeStamp>MAM=</xades:EncapsulatedTimeStamp></xades:SignatureTimeStamp><xades:CertificateValues/></xades:UnsignedSignatureProperties></xades:UnsignedProperties>") in same_nodes (with_item document (signature document) (Data ((48 ∷ 1 ∷ []) ∷ []) ((48 ∷ 2 ∷ []) ∷ [])))
    (document_of (whole
    changing codes "<xades:UnsignedProperties />" into codes "<xades:UnsignedProperties><xades:UnsignedSignatureProperties><xades:SignatureTimeStamp><xades:EncapsulatedTimeStamp>MAM=</xades:EncapsulatedTimeStamp></xades:SignatureTimeStamp><xades:CertificateValues/><xadesv141:TimeStampValidationData xmlns:xadesv141=\"http://uri.etsi.org/01903/v1.4.1#\"><xades:CertificateValues xmlns:xades=\"http://uri.etsi.org/01903/v1.3.2#\"><xades:EncapsulatedX509Certificate>MAE=</xades:EncapsulatedX509Certificate></xades:CertificateValues><xades:RevocationValues xmlns:xades=\"http://uri.etsi.org/01903/v1.3.2#\"><xades:CRLValues><xades:EncapsulatedCRLValue>MAI=</xades:EncapsulatedCRLValue></xades:CRLValues></xades:RevocationValues></xadesv141:TimeStampValidationData></xades:UnsignedSignatureProperties></xades:UnsignedProperties>")) ≡ true
unfolding is_utf8 chars encode_utf8 document_of piece_at is_sound text_of base64_on_literals digest digits
tree_values_data = refl

bytes_value : let document = document_of (whole
    changing codes "<ds:SignatureValue>AAAA" into codes "<ds:SignatureValue>") in bytes_with_item document (signature document) (Value (118 ∷ 97 ∷ 108 ∷ 117 ∷ 101 ∷ [])) (whole
    changing codes "<ds:SignatureValue>AAAA" into codes "<ds:SignatureValue>")
    ≡ (whole
    changing codes "<ds:SignatureValue>AAAA" into codes "<ds:SignatureValue>dmFsdWU=")
unfolding is_utf8 chars encode_utf8 document_of piece_at is_sound text_of base64_on_literals digest digits
bytes_value = refl

tree_value : let document = document_of (whole
    changing codes "<ds:SignatureValue>AAAA" into codes "<ds:SignatureValue>") in same_nodes (with_item document (signature document) (Value (118 ∷ 97 ∷ 108 ∷ 117 ∷ 101 ∷ [])))
    (document_of (whole
    changing codes "<ds:SignatureValue>AAAA" into codes "<ds:SignatureValue>dmFsdWU=")) ≡ true
unfolding is_utf8 chars encode_utf8 document_of piece_at is_sound text_of base64_on_literals digest digits
tree_value = refl

bytes_valueblank : let document = document_of (whole
    changing codes "<ds:SignatureValue>AAAA" into codes "<ds:SignatureValue> \n ") in bytes_with_item document (signature document) (Value (118 ∷ 97 ∷ 108 ∷ 117 ∷ 101 ∷ [])) (whole
    changing codes "<ds:SignatureValue>AAAA" into codes "<ds:SignatureValue> \n ")
    ≡ (whole
    changing codes "<ds:SignatureValue>AAAA" into codes "<ds:SignatureValue> \n dmFsdWU=")
unfolding is_utf8 chars encode_utf8 document_of piece_at is_sound text_of base64_on_literals digest digits
bytes_valueblank = refl

tree_valueblank : let document = document_of (whole
    changing codes "<ds:SignatureValue>AAAA" into codes "<ds:SignatureValue> \n ") in same_nodes (with_item document (signature document) (Value (118 ∷ 97 ∷ 108 ∷ 117 ∷ 101 ∷ [])))
    (document_of (whole
    changing codes "<ds:SignatureValue>AAAA" into codes "<ds:SignatureValue> \n dmFsdWU=")) ≡ true
unfolding is_utf8 chars encode_utf8 document_of piece_at is_sound text_of base64_on_literals digest digits
tree_valueblank = refl

prepared_bytes_empty : let bytes = codes "<r/>" in prepared_bytes digest handed (document_of bytes) (record { time = codes "2030-01-01T00:00:00Z"; id = codes "a.b"; method = codes "urn:m&<\""; digest = Sha256; certificates = (48 ∷ 1 ∷ []) ∷ []; references = (codes "") ∷ (codes "e") ∷ [] }) bytes
    ≡ codes "<r><ds:Signature xmlns:ds=\"http://www.w3.org/2000/09/xmldsig#\" Id=\"a.b\"><ds:SignedInfo><ds:CanonicalizationMethod Algorithm=\"http://www.w3.org/2001/10/xml-exc-c14n#\"></ds:CanonicalizationMethod><ds:SignatureMethod Algorithm=\"urn:m&amp;&lt;&quot;\"></ds:SignatureMethod><ds:Reference Id=\"a.b-r1\" URI=\"\"><ds:Transforms><ds:Transform Algorithm=\"http://www.w3.org/2000/09/xmldsig#enveloped-signature\"></ds:Transform><ds:Transform Algorithm=\"http://www.w3.org/2001/10/xml-exc-c14n#\"></ds:Transform></ds:Transforms><ds:DigestMethod Algorithm=\"http://www.w3.org/2001/04/xmlenc#sha256\"></ds:DigestMethod><ds:DigestValue>PHI+</ds:DigestValue></ds:Reference><ds:Reference Id=\"a.b-r2\" URI=\"e\"><ds:DigestMethod Algorithm=\"http://www.w3.org/2001/04/xmlenc#sha256\"></ds:DigestMethod><ds:DigestValue>YWJj</ds:DigestValue></ds:Reference><ds:Reference Type=\"http://uri.etsi.org/01903#SignedProperties\" URI=\"#a.b-sp\"><ds:Transforms><ds:Transform Algorithm=\"http://www.w3.org/2001/10/xml-exc-c14n#\"></ds:Transform></ds:Transforms><ds:DigestMethod Algorithm=\"http://www.w3.org/2001/04/xmlenc#sha256\"></ds:DigestMethod><ds:DigestValue>PHhh</ds:DigestValue></ds:Reference></ds:SignedInfo><ds:SignatureValue></ds:SignatureValue><ds:KeyInfo><ds:X509Data><ds:X509Certificate>MAE=</ds:X509Certificate></ds:X509Data></ds:KeyInfo><ds:Object><xades:QualifyingProperties xmlns:xades=\"http://uri.etsi.org/01903/v1.3.2#\" Target=\"#a.b\"><xades:SignedProperties Id=\"a.b-sp\"><xades:SignedSignatureProperties><xades:SigningTime>2030-01-01T00:00:00Z</xades:SigningTime><xades:SigningCertificateV2><xades:Cert><xades:CertDigest><ds:DigestMethod Algorithm=\"http://www.w3.org/2001/04/xmlenc#sha256\"></ds:DigestMethod><ds:DigestValue>MAE=</ds:DigestValue></xades:CertDigest></xades:Cert></xades:SigningCertificateV2></xades:SignedSignatureProperties><xades:SignedDataObjectProperties><xades:DataObjectFormat ObjectReference=\"#a.b-r1\"><xades:MimeType>text/xml</xades:MimeType></xades:DataObjectFormat><xades:DataObjectFormat ObjectReference=\"#a.b-r2\"><xades:MimeType>application/octet-stream</xades:MimeType></xades:DataObjectFormat></xades:SignedDataObjectProperties></xades:SignedProperties></xades:QualifyingProperties></ds:Object></ds:Signature></r>"
unfolding is_utf8 chars encode_utf8 document_of piece_at is_sound text_of base64_on_literals digest digits
prepared_bytes_empty = refl

prepared_empty : let bytes = codes "<r/>" in same_nodes (prepared digest handed (document_of bytes) (record { time = codes "2030-01-01T00:00:00Z"; id = codes "a.b"; method = codes "urn:m&<\""; digest = Sha256; certificates = (48 ∷ 1 ∷ []) ∷ []; references = (codes "") ∷ (codes "e") ∷ [] }))
    (document_of (codes "<r><ds:Signature xmlns:ds=\"http://www.w3.org/2000/09/xmldsig#\" Id=\"a.b\"><ds:SignedInfo><ds:CanonicalizationMethod Algorithm=\"http://www.w3.org/2001/10/xml-exc-c14n#\"></ds:CanonicalizationMethod><ds:SignatureMethod Algorithm=\"urn:m&amp;&lt;&quot;\"></ds:SignatureMethod><ds:Reference Id=\"a.b-r1\" URI=\"\"><ds:Transforms><ds:Transform Algorithm=\"http://www.w3.org/2000/09/xmldsig#enveloped-signature\"></ds:Transform><ds:Transform Algorithm=\"http://www.w3.org/2001/10/xml-exc-c14n#\"></ds:Transform></ds:Transforms><ds:DigestMethod Algorithm=\"http://www.w3.org/2001/04/xmlenc#sha256\"></ds:DigestMethod><ds:DigestValue>PHI+</ds:DigestValue></ds:Reference><ds:Reference Id=\"a.b-r2\" URI=\"e\"><ds:DigestMethod Algorithm=\"http://www.w3.org/2001/04/xmlenc#sha256\"></ds:DigestMethod><ds:DigestValue>YWJj</ds:DigestValue></ds:Reference><ds:Reference Type=\"http://uri.etsi.org/01903#SignedProperties\" URI=\"#a.b-sp\"><ds:Transforms><ds:Transform Algorithm=\"http://www.w3.org/2001/10/xml-exc-c14n#\"></ds:Transform></ds:Transforms><ds:DigestMethod Algorithm=\"http://www.w3.org/2001/04/xmlenc#sha256\"></ds:DigestMethod><ds:DigestValue>PHhh</ds:DigestValue></ds:Reference></ds:SignedInfo><ds:SignatureValue></ds:SignatureValue><ds:KeyInfo><ds:X509Data><ds:X509Certificate>MAE=</ds:X509Certificate></ds:X509Data></ds:KeyInfo><ds:Object><xades:QualifyingProperties xmlns:xades=\"http://uri.etsi.org/01903/v1.3.2#\" Target=\"#a.b\"><xades:SignedProperties Id=\"a.b-sp\"><xades:SignedSignatureProperties><xades:SigningTime>2030-01-01T00:00:00Z</xades:SigningTime><xades:SigningCertificateV2><xades:Cert><xades:CertDigest><ds:DigestMethod Algorithm=\"http://www.w3.org/2001/04/xmlenc#sha256\"></ds:DigestMethod><ds:DigestValue>MAE=</ds:DigestValue></xades:CertDigest></xades:Cert></xades:SigningCertificateV2></xades:SignedSignatureProperties><xades:SignedDataObjectProperties><xades:DataObjectFormat ObjectReference=\"#a.b-r1\"><xades:MimeType>text/xml</xades:MimeType></xades:DataObjectFormat><xades:DataObjectFormat ObjectReference=\"#a.b-r2\"><xades:MimeType>application/octet-stream</xades:MimeType></xades:DataObjectFormat></xades:SignedDataObjectProperties></xades:SignedProperties></xades:QualifyingProperties></ds:Object></ds:Signature></r>")) ≡ true
unfolding is_utf8 chars encode_utf8 document_of piece_at is_sound text_of base64_on_literals digest digits
prepared_empty = refl

prepared_bytes_named : let bytes = codes "<!--c-->\n<r xmlns=\"u\" xmlns:ds=\"v\">x<d Id=\"d\"> y</d>\n</r>\n" in prepared_bytes digest handed (document_of bytes) (record { time = codes "2030-01-01T00:00:00Z"; id = codes "a.b"; method = codes "urn:m&<\""; digest = Sha256; certificates = (48 ∷ 1 ∷ []) ∷ (48 ∷ 2 ∷ []) ∷ []; references = (codes "#d") ∷ (codes "") ∷ (codes "e") ∷ [] }) bytes
    ≡ codes "<!--c-->\n<r xmlns=\"u\" xmlns:ds=\"v\">x<d Id=\"d\"> y</d>\n<ds:Signature xmlns:ds=\"http://www.w3.org/2000/09/xmldsig#\" Id=\"a.b\"><ds:SignedInfo><ds:CanonicalizationMethod Algorithm=\"http://www.w3.org/2001/10/xml-exc-c14n#\"></ds:CanonicalizationMethod><ds:SignatureMethod Algorithm=\"urn:m&amp;&lt;&quot;\"></ds:SignatureMethod><ds:Reference Id=\"a.b-r1\" URI=\"#d\"><ds:Transforms><ds:Transform Algorithm=\"http://www.w3.org/2001/10/xml-exc-c14n#\"></ds:Transform></ds:Transforms><ds:DigestMethod Algorithm=\"http://www.w3.org/2001/04/xmlenc#sha256\"></ds:DigestMethod><ds:DigestValue>PGQg</ds:DigestValue></ds:Reference><ds:Reference Id=\"a.b-r2\" URI=\"\"><ds:Transforms><ds:Transform Algorithm=\"http://www.w3.org/2000/09/xmldsig#enveloped-signature\"></ds:Transform><ds:Transform Algorithm=\"http://www.w3.org/2001/10/xml-exc-c14n#\"></ds:Transform></ds:Transforms><ds:DigestMethod Algorithm=\"http://www.w3.org/2001/04/xmlenc#sha256\"></ds:DigestMethod><ds:DigestValue>PHIg</ds:DigestValue></ds:Reference><ds:Reference Id=\"a.b-r3\" URI=\"e\"><ds:DigestMethod Algorithm=\"http://www.w3.org/2001/04/xmlenc#sha256\"></ds:DigestMethod><ds:DigestValue>YWJj</ds:DigestValue></ds:Reference><ds:Reference Type=\"http://uri.etsi.org/01903#SignedProperties\" URI=\"#a.b-sp\"><ds:Transforms><ds:Transform Algorithm=\"http://www.w3.org/2001/10/xml-exc-c14n#\"></ds:Transform></ds:Transforms><ds:DigestMethod Algorithm=\"http://www.w3.org/2001/04/xmlenc#sha256\"></ds:DigestMethod><ds:DigestValue>PHhh</ds:DigestValue></ds:Reference></ds:SignedInfo><ds:SignatureValue></ds:SignatureValue><ds:KeyInfo><ds:X509Data><ds:X509Certificate>MAE=</ds:X509Certificate><ds:X509Certificate>MAI=</ds:X509Certificate></ds:X509Data></ds:KeyInfo><ds:Object><xades:QualifyingProperties xmlns:xades=\"http://uri.etsi.org/01903/v1.3.2#\" Target=\"#a.b\"><xades:SignedProperties Id=\"a.b-sp\"><xades:SignedSignatureProperties><xades:SigningTime>2030-01-01T00:00:00Z</xades:SigningTime><xades:SigningCertificateV2><xades:Cert><xades:CertDigest><ds:DigestMethod Algorithm=\"http://www.w3.org/2001/04/xmlenc#sha256\"></ds:DigestMethod><ds:DigestValue>MAE=</ds:DigestValue></xades:CertDigest></xades:Cert></xades:SigningCertificateV2></xades:SignedSignatureProperties><xades:SignedDataObjectProperties><xades:DataObjectFormat ObjectReference=\"#a.b-r1\"><xades:MimeType>text/xml</xades:MimeType></xades:DataObjectFormat><xades:DataObjectFormat ObjectReference=\"#a.b-r2\"><xades:MimeType>text/xml</xades:MimeType></xades:DataObjectFormat><xades:DataObjectFormat ObjectReference=\"#a.b-r3\"><xades:MimeType>application/octet-stream</xades:MimeType></xades:DataObjectFormat></xades:SignedDataObjectProperties></xades:SignedProperties></xades:QualifyingProperties></ds:Object></ds:Signature></r>\n"
unfolding is_utf8 chars encode_utf8 document_of piece_at is_sound text_of base64_on_literals digest digits
prepared_bytes_named = refl

prepared_named : let bytes = codes "<!--c-->\n<r xmlns=\"u\" xmlns:ds=\"v\">x<d Id=\"d\"> y</d>\n</r>\n" in same_nodes (prepared digest handed (document_of bytes) (record { time = codes "2030-01-01T00:00:00Z"; id = codes "a.b"; method = codes "urn:m&<\""; digest = Sha256; certificates = (48 ∷ 1 ∷ []) ∷ (48 ∷ 2 ∷ []) ∷ []; references = (codes "#d") ∷ (codes "") ∷ (codes "e") ∷ [] }))
    (document_of (codes "<!--c-->\n<r xmlns=\"u\" xmlns:ds=\"v\">x<d Id=\"d\"> y</d>\n<ds:Signature xmlns:ds=\"http://www.w3.org/2000/09/xmldsig#\" Id=\"a.b\"><ds:SignedInfo><ds:CanonicalizationMethod Algorithm=\"http://www.w3.org/2001/10/xml-exc-c14n#\"></ds:CanonicalizationMethod><ds:SignatureMethod Algorithm=\"urn:m&amp;&lt;&quot;\"></ds:SignatureMethod><ds:Reference Id=\"a.b-r1\" URI=\"#d\"><ds:Transforms><ds:Transform Algorithm=\"http://www.w3.org/2001/10/xml-exc-c14n#\"></ds:Transform></ds:Transforms><ds:DigestMethod Algorithm=\"http://www.w3.org/2001/04/xmlenc#sha256\"></ds:DigestMethod><ds:DigestValue>PGQg</ds:DigestValue></ds:Reference><ds:Reference Id=\"a.b-r2\" URI=\"\"><ds:Transforms><ds:Transform Algorithm=\"http://www.w3.org/2000/09/xmldsig#enveloped-signature\"></ds:Transform><ds:Transform Algorithm=\"http://www.w3.org/2001/10/xml-exc-c14n#\"></ds:Transform></ds:Transforms><ds:DigestMethod Algorithm=\"http://www.w3.org/2001/04/xmlenc#sha256\"></ds:DigestMethod><ds:DigestValue>PHIg</ds:DigestValue></ds:Reference><ds:Reference Id=\"a.b-r3\" URI=\"e\"><ds:DigestMethod Algorithm=\"http://www.w3.org/2001/04/xmlenc#sha256\"></ds:DigestMethod><ds:DigestValue>YWJj</ds:DigestValue></ds:Reference><ds:Reference Type=\"http://uri.etsi.org/01903#SignedProperties\" URI=\"#a.b-sp\"><ds:Transforms><ds:Transform Algorithm=\"http://www.w3.org/2001/10/xml-exc-c14n#\"></ds:Transform></ds:Transforms><ds:DigestMethod Algorithm=\"http://www.w3.org/2001/04/xmlenc#sha256\"></ds:DigestMethod><ds:DigestValue>PHhh</ds:DigestValue></ds:Reference></ds:SignedInfo><ds:SignatureValue></ds:SignatureValue><ds:KeyInfo><ds:X509Data><ds:X509Certificate>MAE=</ds:X509Certificate><ds:X509Certificate>MAI=</ds:X509Certificate></ds:X509Data></ds:KeyInfo><ds:Object><xades:QualifyingProperties xmlns:xades=\"http://uri.etsi.org/01903/v1.3.2#\" Target=\"#a.b\"><xades:SignedProperties Id=\"a.b-sp\"><xades:SignedSignatureProperties><xades:SigningTime>2030-01-01T00:00:00Z</xades:SigningTime><xades:SigningCertificateV2><xades:Cert><xades:CertDigest><ds:DigestMethod Algorithm=\"http://www.w3.org/2001/04/xmlenc#sha256\"></ds:DigestMethod><ds:DigestValue>MAE=</ds:DigestValue></xades:CertDigest></xades:Cert></xades:SigningCertificateV2></xades:SignedSignatureProperties><xades:SignedDataObjectProperties><xades:DataObjectFormat ObjectReference=\"#a.b-r1\"><xades:MimeType>text/xml</xades:MimeType></xades:DataObjectFormat><xades:DataObjectFormat ObjectReference=\"#a.b-r2\"><xades:MimeType>text/xml</xades:MimeType></xades:DataObjectFormat><xades:DataObjectFormat ObjectReference=\"#a.b-r3\"><xades:MimeType>application/octet-stream</xades:MimeType></xades:DataObjectFormat></xades:SignedDataObjectProperties></xades:SignedProperties></xades:QualifyingProperties></ds:Object></ds:Signature></r>\n")) ≡ true
unfolding is_utf8 chars encode_utf8 document_of piece_at is_sound text_of base64_on_literals digest digits
prepared_named = refl

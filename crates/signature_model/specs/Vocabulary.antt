-- The names that signatures use: XML Signature 1.1, "Versions, Namespaces, URIs, and Identifiers" and "Algorithm Identifiers and
-- Implementation Requirements"; EN 319 132-1, clause 4.2; RFC 9231 for SHA-384. Texts are lists of characters.
use Rattle.std.specs.Prelude.{ℕ, if◌then◌else◌, List, ◌++◌, Option, Some, None, codes}
use Rattle.document_model.specs.Characters.{◌is◌}
use Rattle.document_model.specs.Names.{Expanded}

abbrev pub ds_space : List ℕ
ds_space = codes "http://www.w3.org/2000/09/xmldsig#"

abbrev pub xades_space : List ℕ
xades_space = codes "http://uri.etsi.org/01903/v1.3.2#"

abbrev pub xadesv141_space : List ℕ
xadesv141_space = codes "http://uri.etsi.org/01903/v1.4.1#"

abbrev pub ds : List ℕ → Expanded
ds local = record { space = ds_space; local = local }

abbrev pub xades : List ℕ → Expanded
xades local = record { space = xades_space; local = local }

abbrev pub xadesv141 : List ℕ → Expanded
xadesv141 local = record { space = xadesv141_space; local = local }

abbrev pub enveloped_name : List ℕ
enveloped_name = ds_space ++ codes "enveloped-signature"

abbrev pub base64_name : List ℕ
base64_name = ds_space ++ codes "base64"

abbrev pub signed_properties_type : List ℕ
signed_properties_type = codes "http://uri.etsi.org/01903#SignedProperties"

-- `#` and an identifier
abbrev pub fragment : List ℕ → List ℕ
fragment id = codes "#" ++ id

-- Digests: XML Signature 1.1, "Message Digests"

pub data DigestKind : Type 0 where
  Sha256 : DigestKind
  Sha384 : DigestKind
  Sha512 : DigestKind

abbrev pub digest_name : DigestKind → List ℕ
digest_name Sha256 = codes "http://www.w3.org/2001/04/xmlenc#sha256"
digest_name Sha384 = codes "http://www.w3.org/2001/04/xmldsig-more#sha384"
digest_name Sha512 = codes "http://www.w3.org/2001/04/xmlenc#sha512"

abbrev pub digest_named : List ℕ → Option DigestKind
digest_named name =
    if name is digest_name Sha256 then Some Sha256
    else (if name is digest_name Sha384 then Some Sha384
    else (if name is digest_name Sha512 then Some Sha512 else None))

-- What an item puts in, by the host and by whether validation data stand for themselves: signature_model, after EN 319 132-1, clauses 5.3,
-- 5.4 and 5.5.
use Rattle.std.specs.Prelude.{ℕ, Bool, not, ◌&&◌, List, [], codes}
use Rattle.std.specs.List.{list_any}
use Rattle.document_model.specs.Tree.{Nodes}
use Rattle.doc_spans.specs.declared.documents.NodeId.{NodeId}
use Rattle.qualifying_props.specs.Shown.{Shown}
use Rattle.signature_model.specs.Fragments.{Item, Value, Stamp, Data, Archive, each, encoded, xades_element, value_fragment, stamp_fragment, data_fragment, archive_fragment, is_archive_kind}
use Rattle.signature_parts.specs.Kinds.{kind_in}
use Rattle.item_contents.specs.declared.hosts.Host.{Host}
use Rattle.item_contents.specs.Hosts.{in_host}

-- the elements of certificates, and of revocation lists
abbrev pub certificate_elements : List (List ℕ) → Nodes
certificate_elements certificates = each (λ octets. xades_element (codes "EncapsulatedX509Certificate") [] (encoded octets)) certificates

abbrev pub list_elements : List (List ℕ) → Nodes
list_elements lists = each (λ octets. xades_element (codes "EncapsulatedCRLValue") [] (encoded octets)) lists

abbrev pub fragment_by : Bool → Item → Nodes
fragment_by alone (Value octets) = value_fragment octets
fragment_by alone (Stamp token) = stamp_fragment token
fragment_by alone (Data certificates lists) = data_fragment alone certificates lists
fragment_by alone (Archive token) = archive_fragment token

abbrev pub content_by : Host → Bool → Item → Nodes
content_by host alone (Value octets) = value_fragment octets
content_by host alone item = in_host host (fragment_by alone item)

-- whether validation data stand for themselves, by the parts of a signature
abbrev pub stand_alone : Shown → Bool
stand_alone parts = not parts.has_values && not (list_any (λ property. is_archive_kind (kind_in property.kind)) parts.properties)

-- the element that an item is put into
abbrev pub place_by : Shown → Item → NodeId
place_by parts (Value octets) = parts.value_node
place_by parts item = parts.host

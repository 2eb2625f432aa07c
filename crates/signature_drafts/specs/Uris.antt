-- What the URI of a Reference names: XML Signature 1.1, "The URI Attribute".
use Rattle.std.specs.Prelude.{ℕ, List}
use Rattle.signature_model.specs.Chains.{Place, Document, Named, External, place_named}
use Rattle.signature_drafts.specs.declared.uris.UriTarget.{UriTarget}
use Rattle.signature_drafts.specs.declared.uris.UriTarget.TheVariants as targets

-- a place, whatever the identifier
abbrev pub target_at : Place → UriTarget
target_at Document = targets.Document
target_at (Named identifier) = targets.Element
target_at External = targets.Outside

abbrev pub target_of : List ℕ → UriTarget
target_of uri = target_at (place_named uri)

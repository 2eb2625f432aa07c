-- A document that may be prepared, so the premises of the laws are met.
use Rattle.std.proofs.Common.{zero, suc, true, [], ◌∷◌, refl, codes, sym, subst, arith}
use Rattle.std.specs.Str.{is_utf8, chars}
use Rattle.std.specs.Char.{encode_utf8}
use Rattle.std.specs.Fmt.{digits}
use Rattle.base64.specs.GeneralPurpose.{IsBytes}
use Rattle.document_model.specs.Documents.{document_of}
use Rattle.document_model.specs.Items.{piece_at}
use Rattle.document_model.specs.Scopes.{is_sound}
use Rattle.document_model.specs.Tree.{Path}
use Rattle.signature_model.specs.Vocabulary.{Sha256}
use Rattle.signature_model.specs.Prepared.{Draft}
use Rattle.insertion_fragments.specs.Drafts.{IsWritable}
use Rattle.prepared_documents.specs.Preparable.{MayPrepare}
use Rattle.prepared_documents.specs.PreparedRead.{IsComplete}

draft : Draft
draft = record { time = codes "2030-01-01T00:00:00Z"; id = codes "s"; method = codes "urn:m"; digest = Sha256; certificates = (48 ∷ 1 ∷ []) ∷ []; references = codes "" ∷ codes "#d" ∷ codes "e" ∷ [] }

abbrev IsOne : Path → Type 0
IsOne (k ∷ []) = Unit {0}
IsOne path = ⊥

may_prepare : MayPrepare (document_of (codes "<!--c--><r><d Id=\"d\">text</d></r>")) draft
unfolding is_utf8 chars encode_utf8 document_of piece_at is_sound digits draft
may_prepare = record {
  unsigned = refl;
  own_free = refl;
  properties_free = refl;
  references_free = (refl, (refl, (refl, tt)));
  targets = (tt, ((1 ∷ 0 ∷ [], refl, λ e. subst IsOne (sym e) tt), (tt, tt)));
}

two_bytes : IsBytes (48 ∷ 1 ∷ [])
two_bytes zero = omega arith
two_bytes (suc zero) = omega arith
two_bytes (suc (suc i)) = omega arith

complete : IsComplete (λ kind octets. true) draft
unfolding draft
complete = record { timed = refl; signer = refl; whole = (two_bytes, refl, tt); few = omega arith }

writable : IsWritable draft
unfolding draft
writable = record { time_simple = refl; id_writable = refl; method_writable = refl; certificates_bytes = (two_bytes, tt); references_writable = (refl, (refl, (refl, tt))) }

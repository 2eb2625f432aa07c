-- Documents at the limits of depth and nodes.
use Rattle.std.specs.Prelude.{◌≡◌, refl, Some, None, ◌++◌, codes}
use Rattle.std.specs.Str.{is_utf8, chars}
use Rattle.std.specs.Char.{encode_utf8}
use Rattle.std.specs.List.{repeat}
use Rattle.document_model.specs.Documents.{Depth, TooMany, fault, fault_within}
use Rattle.document_model.specs.Items.{piece_at}
use Rattle.document_model.specs.Scopes.{is_sound}

few_nodes : fault_within (record { depth = 3; nodes = 5 }) (codes "<a b=''>x<c/><d/><e/></a>") ≡ Some (TooMany 17)
unfolding is_utf8 chars encode_utf8 fault piece_at is_sound
few_nodes = refl

two_deep : fault_within (record { depth = 2; nodes = 5 }) (codes "<a><b><c/></b></a>") ≡ Some (Depth 6)
unfolding is_utf8 chars encode_utf8 fault piece_at is_sound
two_deep = refl

deep40 : fault (repeat 40 (codes "<a>") ++ repeat 40 (codes "</a>")) ≡ None
unfolding is_utf8 chars encode_utf8 fault piece_at is_sound
deep40 = refl

deep256 : fault (repeat 256 (codes "<a>") ++ repeat 256 (codes "</a>")) ≡ None
unfolding is_utf8 chars encode_utf8 fault piece_at is_sound
deep256 = refl

deep257 : fault (repeat 257 (codes "<a>") ++ repeat 257 (codes "</a>")) ≡ Some (Depth 768)
unfolding is_utf8 chars encode_utf8 fault piece_at is_sound
deep257 = refl

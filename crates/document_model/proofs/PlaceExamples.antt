-- Where the nodes of a document stand.
use Rattle.std.specs.Prelude.{◌≡◌, refl, [], ◌∷◌, codes, ℕ}
use Rattle.std.specs.Str.{is_utf8, chars}
use Rattle.std.specs.Char.{encode_utf8}
use Rattle.document_model.specs.Tree.{Path}
use Rattle.document_model.specs.Places.{Place, places_of}
use Rattle.document_model.specs.Items.{piece_at}
use Rattle.document_model.specs.Scopes.{is_sound}

at : Path → ℕ → ℕ → ℕ → Place
at path start first_end end = record { path = path; start = start; first_end = first_end; end = end }

placed : places_of (codes "<?xml version='1.0'?> <a x='1'>b&lt;<![CDATA[]]>c<d/><![CDATA[]]><e>f</e ></a><!--g-->")
    ≡ at (0 ∷ []) 22 31 78 ∷ at (0 ∷ 0 ∷ []) 31 32 49 ∷ at (0 ∷ 1 ∷ []) 49 53 53 ∷ at (0 ∷ 2 ∷ []) 65 68 74 ∷ at (0 ∷ 2 ∷ 0 ∷ []) 68 69 69 ∷ at (1 ∷ []) 78 86 86 ∷ []
unfolding is_utf8 chars encode_utf8 at piece_at is_sound
placed = refl

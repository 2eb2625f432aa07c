-- Prefixes that become rendered.
use Rattle.std.proofs.Common.{◌≡◌, ℕ, List, [], ◌∷◌, ◌++◌, map, sym, ◌∙◌, ap, append_assoc}
use Rattle.std.specs.Borrow.{Bor}
use Rattle.std.specs.Str.{chars}
use Rattle.document_model.specs.Items.{Attribute}
use Rattle.doc_spans.specs.declared.declarations.Declaration.{Declaration}
use Rattle.doc_spans.specs.Declarations.{declaration_in, nearest_first}
use Rattle.doc_spans.proofs.ScopeStacks.{nearest_push}
use Rattle.canon_tags.specs.Texts.{texts_in}
use Rattle.canon_tags.proofs.Sorting.{map_join}

-- a prefix that is taken off a list is rendered
pub keep_more : (f : List ℕ → Attribute) (old left : List (Bor (List ℕ))) (p : Bor (List ℕ)) (ds now : List Declaration) (d : Declaration) (start : List Attribute) → old ≡ left ++ p ∷ []
    → now ≡ ds ++ d ∷ [] → declaration_in d ≡ f (chars p.now) → map f (texts_in old) ++ nearest_first ds ≡ start → map f (texts_in left) ++ nearest_first now ≡ start
keep_more f old left p ds now d start e g h before =
    ap (λ xs. map f (texts_in left) ++ xs) (nearest_push ds now d g ∙ ap (λ a. a ∷ nearest_first ds) h)
    ∙ sym (append_assoc (map f (texts_in left)) (f (chars p.now) ∷ []) (nearest_first ds))
    ∙ ap (λ xs. xs ++ nearest_first ds) (sym (ap (λ xs. map f (texts_in xs)) e ∙ ap (map f) (map_join (λ t. chars t.now) left (p ∷ [])) ∙ map_join f (texts_in left) (chars p.now ∷ []))) ∙ before

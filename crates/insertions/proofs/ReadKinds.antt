-- An item tells the kind that it was read by.
use Rattle.std.proofs.Common.{◌≡◌, ℕ, List, [], ◌∷◌, Option, Some, None, refl, sym, ◌∙◌, ap, ◌⊎◌, inl, inr, cond, not, ◌&&◌, ◌||◌, nat_eq, codes}
use Rattle.std.proofs.lemmas.Option.{none-some}
use Rattle.std.specs.Prelude.{option_and_then}
use Rattle.document_model.specs.Characters.{between}
use Rattle.document_model.specs.Names.{Name, name_of}
use Rattle.document_model.specs.Items.{Attribute, Item, declaration, start_tag, empty_tag, end_tag, character, reference, cdata, comment, instruction, Kind, CommentKind, CdataKind, InstructionKind, EndTagKind, TagKind, ReferenceKind, CharacterKind, or_else, item_of, comment_of, cdata_of, instruction_of, declaration_of, end_tag_of, tag_of, reference_of, referred, character_of, pairs_of, without_space_behind}
use Rattle.document_model.proofs.Joins.{bind_some, when_some}
use Rattle.insertions.proofs.Quiet.{tag_text}
use Rattle.insertions.proofs.Standing.{map_some}

abbrev pub kind_of : Item → Kind
kind_of declaration = InstructionKind
kind_of (start_tag name attributes) = TagKind
kind_of (empty_tag name attributes) = TagKind
kind_of (end_tag name) = EndTagKind
kind_of (character c) = CharacterKind
kind_of (reference c) = ReferenceKind
kind_of (cdata cs) = CdataKind
kind_of (comment cs) = CommentKind
kind_of (instruction target content) = InstructionKind

pub or_some : {A : Type 0} (x y : Option A) (a : A) → or_else x y ≡ Some a → (x ≡ Some a) ⊎ (y ≡ Some a)
or_some None y a e = inr e
or_some (Some b) y a e = inl e

character_kind : (cs : List ℕ) (item : Item) → character_of cs ≡ Some item → kind_of item ≡ CharacterKind
character_kind [] item e = absurd (none-some item e)
character_kind (c ∷ []) item e = ap kind_of (sym (when_some (not ((nat_eq c 0x3C) || (nat_eq c 0x26))) (character (cond (nat_eq c 0xD) 0xA c)) item e))
character_kind (c ∷ d ∷ []) item e = ap kind_of (sym (when_some (nat_eq c 0xD && nat_eq d 0xA) (character 0xA) item e))
character_kind (c ∷ d ∷ f ∷ cs) item e = absurd (none-some item e)

tag_kind : (make : Name → List Attribute → Item) → ((name : Name) (attributes : List Attribute) → kind_of (make name attributes) ≡ TagKind) → (o : Option (List ℕ)) (item : Item)
    → option_and_then (tag_of make) o ≡ Some item → kind_of item ≡ TagKind
tag_kind make k o item e =
    let text = bind_some (tag_of make) o item e in let t = tag_text text.0 make item text.2 in ap kind_of (sym t.made) ∙ k t.is_name t.attributes

pub kind_is : (kind : Kind) (cs : List ℕ) (item : Item) → item_of kind cs ≡ Some item → kind_of item ≡ kind
kind_is CommentKind cs item e = let t = bind_some comment_of (between (codes "<!--") (codes "-->") cs) item e in ap kind_of (sym (when_some _ _ item t.2))
kind_is CdataKind cs item e = let t = bind_some cdata_of (between (codes "<![CDATA[") (codes "]]>") cs) item e in ap kind_of (sym (when_some _ _ item t.2))
kind_is InstructionKind cs item e =
    elim (or_some (option_and_then declaration_of (between (codes "<?xml") (codes "?>") cs)) (option_and_then instruction_of (between (codes "<?") (codes "?>") cs)) item e) [
      | inl d ↦
          let t = bind_some declaration_of (between (codes "<?xml") (codes "?>") cs) item d in
          let ps = bind_some _ (pairs_of 3 (without_space_behind t.0)) item t.2 in ap kind_of (sym (when_some _ declaration item ps.2))
      | inr i ↦ let t = bind_some instruction_of (between (codes "<?") (codes "?>") cs) item i in ap kind_of (sym (when_some _ _ item t.2))
    ]
kind_is EndTagKind cs item e =
    let t = bind_some end_tag_of (between (codes "</") (codes ">") cs) item e in
    let n = map_some end_tag (name_of (without_space_behind t.0)) item t.2 in ap kind_of (sym n.2)
kind_is TagKind cs item e =
    elim (or_some (option_and_then (tag_of empty_tag) (between (codes "<") (codes "/>") cs)) (option_and_then (tag_of start_tag) (between (codes "<") (codes ">") cs)) item e) [
      | inl x ↦ tag_kind empty_tag (λ name attributes. refl) (between (codes "<") (codes "/>") cs) item x
      | inr x ↦ tag_kind start_tag (λ name attributes. refl) (between (codes "<") (codes ">") cs) item x
    ]
kind_is ReferenceKind cs item e =
    let t = bind_some reference_of (between (codes "&") (codes ";") cs) item e in
    let c = map_some reference (referred t.0) item t.2 in ap kind_of (sym c.2)
kind_is CharacterKind cs item e = character_kind cs item e

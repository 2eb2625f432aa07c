-- Items that are known to stand, in a second pass.
use Rattle.std.proofs.Common.{◌≡◌, ℕ, Bool, true, false, ◌&&◌, ◌||◌, ◌==◌, cond, List, [], take, drop, codes, Option, Some, None, is_some, unwrap_or, option_map, option_and_then, refl, sym, ap, ◌∙◌}
use Rattle.std.proofs.lemmas.Bool.{false≢true, and_parts}
use Rattle.std.specs.Str.{chars, is_utf8}
use Rattle.std.specs.List.{list_all}
use Rattle.document_model.specs.Characters.{characters, is_char, span, continues_name, between}
use Rattle.document_model.specs.Names.{Name, name_of}
use Rattle.document_model.specs.Items.{Item, Attribute, Pair, Kind, TagKind, kind_at, cut, item_of, piece_at, pairs_of, each_of, attribute_of, tag_of, start_tag, empty_tag, or_else, most_attributes, without_space_behind}
use Rattle.xml_items.specs.Found.{name_in, no_name, attributes_in, read_attributes}
use Rattle.xml_items.proofs.Attributes.{tag_unread}
use Rattle.xml_items.proofs.Pieces.{with_item, no_piece, piece_of}

-- the characters and the item of a piece that stands there
pub record Known (rest : List ℕ) (kind : Kind) (n : ℕ) : Type 0 where
  pub text : characters (take n rest) ≡ Some (chars (take n rest))
  pub item : is_some (item_of kind (chars (take n rest))) ≡ true

pub known : (rest : List ℕ) (kind : Kind) (n : ℕ) → kind ≡ kind_at rest → cut kind rest ≡ (take n rest, drop n rest) → is_some (piece_at rest) ≡ true → Known rest kind n
known rest kind n k e h = go (is_utf8 (take n rest) && list_all is_char (chars (take n rest))) refl
  where
    some_item : (o : Option Item) → is_some (with_item (take n rest, drop n rest) o) ≡ true → is_some o ≡ true
    some_item None f = absurd (false≢true f)
    some_item (Some x) f = refl

    go : (b : Bool) → (is_utf8 (take n rest) && list_all is_char (chars (take n rest))) ≡ b → Known rest kind n
    go true f =
        let t : characters (take n rest) ≡ Some (chars (take n rest)) = ap (λ x. cond x (Some (chars (take n rest))) None) f in record {
          text = t;
          item = some_item (item_of kind (chars (take n rest))) (ap is_some (sym (piece_of rest (chars (take n rest)) kind n (item_of kind (chars (take n rest))) k e t refl)) ∙ h);
        }
    go false f =
        let t : characters (take n rest) ≡ None = ap (λ x. cond x (Some (chars (take n rest))) None) f in
        absurd (false≢true (sym (ap is_some (no_piece rest kind n k e t)) ∙ h))

abbrev in_name : ℕ → Bool
in_name = λ c. continues_name c || (c == 0x3A)

-- the name and the attributes of a start tag that is read
pub record Tagged (whole name behind : List ℕ) : Type 0 where
  pub named : is_some (name_of name) ≡ true
  pub read : is_some (read_attributes most_attributes behind) ≡ true
  pub is : item_of TagKind whole ≡ Some (start_tag (name_in name) (attributes_in behind))

tag_halves : (text name behind : List ℕ) → span in_name (without_space_behind text) ≡ (name, behind) → is_some (tag_of start_tag text) ≡ true
    → (is_some (name_of name) && is_some (read_attributes most_attributes behind)) ≡ true
tag_halves text name behind e h = go (is_some (name_of name) && is_some (read_attributes most_attributes behind)) refl
  where
    go : (b : Bool) → (is_some (name_of name) && is_some (read_attributes most_attributes behind)) ≡ b → (is_some (name_of name) && is_some (read_attributes most_attributes behind)) ≡ true
    go true f = f
    go false f = absurd (false≢true (sym (ap is_some (tag_unread start_tag text name behind e f)) ∙ h))

tag_reads : (text name behind : List ℕ) → span in_name (without_space_behind text) ≡ (name, behind) → is_some (name_of name) ≡ true → is_some (read_attributes most_attributes behind) ≡ true
    → tag_of start_tag text ≡ Some (start_tag (name_in name) (attributes_in behind))
tag_reads text name behind e h k = rw e (go (name_of name) (pairs_of most_attributes behind) h k)
  where
    go : (n : Option Name) (ps : Option (List Pair)) → is_some n ≡ true → is_some (option_and_then (each_of attribute_of) ps) ≡ true
        → option_and_then (λ name. option_and_then (λ pairs. option_and_then (λ attributes. Some (start_tag name attributes)) (each_of attribute_of pairs)) ps) n
        ≡ Some (start_tag (unwrap_or n no_name) (unwrap_or (option_and_then (each_of attribute_of) ps) []))
    go None ps h k = absurd (false≢true h)
    go (Some n) None h k = absurd (false≢true k)
    go (Some n) (Some ps) h k = last (each_of attribute_of ps) k
      where
        last : (as' : Option (List Attribute)) → is_some as' ≡ true → option_and_then (λ attributes. Some (start_tag n attributes)) as' ≡ Some (start_tag n (unwrap_or as' []))
        last None g = absurd (false≢true g)
        last (Some xs) g = refl

pub tagged : (whole inside name behind : List ℕ) → between (codes "<") (codes "/>") whole ≡ None → between (codes "<") (codes ">") whole ≡ Some inside
    → span in_name (without_space_behind inside) ≡ (name, behind) → is_some (item_of TagKind whole) ≡ true → Tagged whole name behind
tagged whole inside name behind e f g h =
    let start : item_of TagKind whole ≡ tag_of start_tag inside
    = (λ i. or_else (option_and_then (tag_of empty_tag) (e i)) (option_and_then (tag_of start_tag) (f i))) in
    let both = and_parts (is_some (name_of name)) _ (tag_halves inside name behind g (ap is_some (sym start) ∙ h)) in
    record { named = both.0; read = both.1; is = start ∙ tag_reads inside name behind g both.0 both.1 }

pub none_mapped : {A B : Type 0} (f : A → B) (o : Option A) → is_some o ≡ false → option_map f o ≡ None
none_mapped f None e = refl
none_mapped f (Some x) e = absurd (false≢true (sym e))

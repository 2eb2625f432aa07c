-- Values, by their characters.
use Rattle.std.specs.Prelude.{◌≡◌, ℕ, List, ◌∷◌, is_some, IsTrue}
use Rattle.document_model.specs.Items.{value_of}
use Rattle.xml_items.specs.Found.{value_in}

-- a text between quotes whose value is a character and the value of a rest of the text
pub record Begins (text : List ℕ) (c : ℕ) (rest : List ℕ) : Type 0 where
  pub first : value_in text ≡ c ∷ value_in rest
  pub value : IsTrue (is_some (value_of rest))

-- Where the texts that a scanner found stand.
use Rattle.std.specs.Prelude.{◌≡◌, ℕ, ◌+◌, ◌-◌, List, ◌++◌, length}
use Rattle.xml_items.specs.declared.items.Found as code
use Rattle.xml_items.specs.declared.items.Found.TheVariants.{Declaration, StartTag, EmptyTag, EndTag, Character, Reference, Cdata, Comment, Instruction}

-- a text stands in another at a place
pub record StandsAt (whole : List ℕ) (at : ℕ) (text : List ℕ) : Type 0 where
  pub before : List ℕ
  pub behind : List ℕ
  pub joined : whole ≡ before ++ (text ++ behind)
  pub place : length before ≡ at

-- each text of an item stands at its place in the item's own text
abbrev pub IsPlaced : List ℕ → code.Found → Type 0
IsPlaced whole Declaration = Unit {0}
IsPlaced whole (StartTag name attributes) = StandsAt whole 1 name.now × StandsAt whole (1 + length name.now) attributes.now
IsPlaced whole (EmptyTag name attributes) = StandsAt whole 1 name.now × StandsAt whole (1 + length name.now) attributes.now
IsPlaced whole (EndTag name) = StandsAt whole 2 name.now
IsPlaced whole (Character c) = Unit {0}
IsPlaced whole (Reference c) = Unit {0}
IsPlaced whole (Cdata text) = StandsAt whole 9 text.now
IsPlaced whole (Comment text) = StandsAt whole 4 text.now
IsPlaced whole (Instruction target content) = StandsAt whole 2 target.now × StandsAt whole (length whole - (2 + length content.now)) content.now

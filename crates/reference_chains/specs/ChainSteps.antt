-- A chain, one transform after another.
use Rattle.std.specs.Prelude.{Bool, if◌then◌else◌, List, [], ◌∷◌, Option, None, Some, option_and_then}
use Rattle.signature_model.specs.Chains.{Transform, Enveloped, Canonical, Base64, Other, Taken, Nothing, OwnSignature, Made, NodesAlone, InForm, Decoded, Chain}

-- behind what leaves nodes: the signature is taken away once and first, and octets from outside are only decoded
abbrev pub more_of_nodes : Bool → Taken → Transform → Option Chain
more_of_nodes external Nothing Enveloped = if external then None else Some (record { taken = OwnSignature; made = NodesAlone })
more_of_nodes external OwnSignature Enveloped = None
more_of_nodes external taken (Canonical form) = if external then None else Some (record { taken = taken; made = InForm form })
more_of_nodes external taken Base64 = Some (record { taken = taken; made = Decoded })
more_of_nodes external taken Other = None

-- behind octets there is no further transform
abbrev pub more_of : Bool → Taken → Made → Transform → Option Chain
more_of external taken NodesAlone transform = more_of_nodes external taken transform
more_of external taken (InForm form) transform = None
more_of external taken Decoded transform = None

abbrev pub more : Bool → Chain → Transform → Option Chain
more external chain transform = more_of external chain.taken chain.made transform

-- with several more
abbrev pub more_all : Bool → Option Chain → List Transform → Option Chain
more_all external chain [] = chain
more_all external chain (transform ∷ transforms) = more_all external (option_and_then (λ c. more external c transform) chain) transforms

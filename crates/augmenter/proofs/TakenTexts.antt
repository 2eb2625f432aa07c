-- Identifiers that are put together, and the search among those of the References.
use Rattle.std.proofs.Common.{zero, ◌≡◌, ℕ, suc, ◌+◌, ◌<◌, ◌≤◌, true, false, ◌||◌, List, [], ◌++◌, length, drop, ◌∙◌, ap, arith, codes}
use Rattle.std.proofs.lemmas.List.{append-nil, drop_more, drop_all}
use Rattle.std.proofs.lemmas.Str.{chars-nil, chars-append, chars-IsAscii, IsUtf8-append, IsUtf8-from_ascii}
use Rattle.std.specs.Fmt.{decimal}
use Rattle.std.specs.Str.{chars, IsAscii, IsUtf8}
use Rattle.document_model.specs.Tree.{Nodes}
use Rattle.signature_model.specs.Prepared.{Draft, properties_id, reference_id}
use Rattle.prepared_documents.specs.Tests.{is_taken, references_taken}

pub free_on : (document : Nodes) (draft : Draft) (n : ℕ) (uris : List (List ℕ)) → n < length uris → is_taken document (reference_id draft.id (n + 1)) ≡ false
    → references_taken document draft (n + 1) (drop n uris) ≡ references_taken document draft (n + 1 + 1) (drop (n + 1) uris)
free_on document draft n uris h e =
    let next : suc (n + 1) ≡ n + 1 + 1 = omega arith in
    ap (references_taken document draft (n + 1)) (drop_more uris n [] h)
    ∙ ap (λ b. b || references_taken document draft (suc (n + 1)) (drop (n + 1) uris)) e
    ∙ ap (λ k. references_taken document draft k (drop (n + 1) uris)) next

pub taken_here : (document : Nodes) (draft : Draft) (n : ℕ) (uris : List (List ℕ)) → n < length uris → is_taken document (reference_id draft.id (n + 1)) ≡ true
    → references_taken document draft (n + 1) (drop n uris) ≡ true
taken_here document draft n uris h e =
    ap (references_taken document draft (n + 1)) (drop_more uris n [] h)
    ∙ ap (λ b. b || references_taken document draft (suc (n + 1)) (drop (n + 1) uris)) e

pub none_taken : (document : Nodes) (draft : Draft) (n : ℕ) (uris : List (List ℕ)) → length uris ≤ n → references_taken document draft (n + 1) (drop n uris) ≡ false
none_taken document draft n uris h = ap (references_taken document draft (n + 1)) (drop_all n uris h)

-- texts put together

pub joined_chars : (a b c : List ℕ) → IsUtf8 a → IsUtf8 b → chars (a ++ b ++ c) ≡ chars a ++ chars b ++ chars c
joined_chars a b c u v = chars-append (a ++ b) c (IsUtf8-append a b u v) ∙ ap (λ x. x ++ chars c) (chars-append a b u)

properties_ascii : IsAscii (codes "-sp")
properties_ascii zero = omega arith
properties_ascii (suc zero) = omega arith
properties_ascii (suc (suc zero)) = omega arith
properties_ascii (suc (suc (suc i))) = omega arith

reference_ascii : IsAscii (codes "-r")
reference_ascii zero = omega arith
reference_ascii (suc zero) = omega arith
reference_ascii (suc (suc i)) = omega arith

pub properties_chars : (id : List ℕ) → IsUtf8 id → chars (id ++ codes "-sp" ++ []) ≡ properties_id (chars id)
properties_chars id u =
    joined_chars id (codes "-sp") [] u (IsUtf8-from_ascii (codes "-sp") properties_ascii)
    ∙ (λ i. chars id ++ chars-IsAscii (codes "-sp") properties_ascii i ++ chars-nil i) ∙ append-nil (chars id ++ codes "-sp")

pub reference_chars : (id number : List ℕ) (k : ℕ) → IsUtf8 id → IsAscii number → number ≡ decimal k → chars (id ++ codes "-r" ++ number) ≡ reference_id (chars id) k
reference_chars id number k u a e =
    joined_chars id (codes "-r") number u (IsUtf8-from_ascii (codes "-r") reference_ascii)
    ∙ (λ i. chars id ++ chars-IsAscii (codes "-r") reference_ascii i ++ (chars-IsAscii number a ∙ e) i)

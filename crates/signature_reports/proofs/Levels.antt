-- The level, by the time-stamps in memory.
use Rattle.std.proofs.Common.{◌≡◌, Bool, ◌&&◌, ◌||◌, if◌then◌else◌, List, [], ◌∷◌, refl, sym, ◌∙◌}
use Rattle.std.specs.List.{list_any}
use Rattle.signature_model.specs.Parts.{PropertyKind}
use Rattle.signature_objects.specs.Objects.{Object}
use Rattle.signature_cases.specs.Built.{AreWords}
use Rattle.signature_cases.specs.declared.cases.StampWord.{StampWord}
use Rattle.signature_evidence.specs.Answers.{Answers}
use Rattle.signature_evidence.specs.Evidence.{Evidence, Stamped}
use Rattle.signature_evidence.specs.Report.{is_archive, is_signature_stamp}
use Rattle.report_texts.specs.declared.facts.Level.{Level}
use Rattle.report_texts.specs.declared.facts.Level.TheVariants.{B, T, Lt, Lta}
use Rattle.report_texts.specs.Shown.{level_of}
use Rattle.signature_reports.specs.Said.{stamped_in}

abbrev of_kind : PropertyKind → Stamped
of_kind kind = record { kind = kind; token = []; octets = []; covers = [] }

archives : (objects : List Object) (shown : List Stamped) (words : List StampWord) → AreWords objects shown words
    → list_any (λ word. is_archive (stamped_in word)) words ≡ list_any is_archive shown
archives objects [] [] are = refl
archives objects [] (word ∷ words) are = absurd are
archives objects (stamped ∷ shown) [] are = absurd are
archives objects (stamped ∷ shown) (word ∷ words) are = (λ i. is_archive (of_kind (are.0.kind i)) || archives objects shown words are.1 i)

signature_stamps : (objects : List Object) (shown : List Stamped) (words : List StampWord) → AreWords objects shown words
    → list_any (λ word. is_signature_stamp (stamped_in word)) words ≡ list_any is_signature_stamp shown
signature_stamps objects [] [] are = refl
signature_stamps objects [] (word ∷ words) are = absurd are
signature_stamps objects (stamped ∷ shown) [] are = absurd are
signature_stamps objects (stamped ∷ shown) (word ∷ words) are = (λ i. is_signature_stamp (of_kind (are.0.kind i)) || signature_stamps objects shown words are.1 i)

abbrev pub level_by : (archived stamped complete : Bool) → Level
level_by archived stamped complete = if archived then Lta else (if stamped && complete then Lt else (if stamped then T else B))

pub level_is : (words : List StampWord) (complete archived stamped : Bool) → archived ≡ list_any (λ word. is_archive (stamped_in word)) words
    → stamped ≡ list_any (λ word. is_signature_stamp (stamped_in word)) words → (evidence : Evidence) (answers : Answers)
    → AreWords evidence.objects evidence.stamps words → answers.complete ≡ complete → level_by archived stamped complete ≡ level_of evidence answers
level_is words complete archived stamped a s evidence answers are same = (λ i. level_by
    ((a ∙ archives evidence.objects evidence.stamps words are) i)
    ((s ∙ signature_stamps evidence.objects evidence.stamps words are) i)
    (sym same i))

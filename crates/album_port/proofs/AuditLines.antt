-- The lines of records: one more follows those before it. For `Log::append_all`.
use Rattle.std.proofs.Common.{◌≡◌, ◌<◌, ◌+◌, ℕ, List, [], ◌∷◌, ◌++◌, Option, length, take, get_or, sym, ap, ◌∙◌, subst, append-nil}
use Rattle.std.proofs.KnownBytes.{Appends-trans}
use Rattle.std.proofs.lemmas.Grind.{flat_map-append}
use Rattle.std.proofs.lemmas.List.Concat.{flat_map-cons}
use Rattle.std.specs.BTreeMap.{BTreeMap}
use Rattle.std.specs.Io.KnownBytes.{Appends}
use Rattle.album_audit.specs.declared.totals.Record.{Record}
use Rattle.album_eval.specs.declared.facts.Principal.{Principal}
use Rattle.std.proofs.lemmas.List.{take_more}
use Rattle.album_talk.specs.declared.endings.AskWord.{AskWord}
use Rattle.album_port.specs.Audits.{who_in, asked_in, dated_record, record_lines}

-- the line of a record
abbrev line_of : List ℕ → (ℕ → Principal) → (ℕ → Option AskWord) → Record → List ℕ
line_of moment who asked of = dated_record moment of.client (who of.client) (asked of.client) of.note

lines_next : (moment : List ℕ) (who : ℕ → Principal) (asked : ℕ → Option AskWord) (xs : List Record) (i : ℕ) (x : Record)
    → i < length xs → x ≡ get_or xs i x
    → record_lines moment who asked (take i xs) ++ line_of moment who asked x
    ≡ record_lines moment who asked (take (i + 1) xs)
lines_next moment who asked xs i x inside is = sym (
    ap (record_lines moment who asked) (take_more xs i x inside ∙ ap (λ y. take i xs ++ y ∷ []) (sym is))
    ∙ flat_map-append (line_of moment who asked) (take i xs) (x ∷ [])
    ∙ ap (λ t. record_lines moment who asked (take i xs) ++ t)
    (flat_map-cons (line_of moment who asked) x [] ∙ append-nil (line_of moment who asked x)))

-- the maps are those of before
pub one_more_line : (moment : List ℕ) (was now : BTreeMap ℕ Principal) → now ≡ was
    → (had has : BTreeMap ℕ AskWord) → has ≡ had
    → (xs : List Record) (i : ℕ) (x : Record) → i < length xs → x ≡ get_or xs i x → (a b c : Option (List ℕ))
    → Appends a b (record_lines moment (who_in was) (asked_in had) (take i xs))
    → Appends b c (dated_record moment x.client (who_in now x.client) (asked_in has x.client) x.note)
    → Appends a c (record_lines moment (who_in was) (asked_in had) (take (i + 1) xs))
one_more_line moment was now same had has equal xs i x inside is a b c before more =
    subst (Appends a c) (lines_next moment (who_in was) (asked_in had) xs i x inside is)
    (Appends-trans a b c (record_lines moment (who_in was) (asked_in had) (take i xs))
    (line_of moment (who_in was) (asked_in had) x) before
    (subst (λ (m : BTreeMap ℕ Principal). Appends b c (line_of moment (who_in m) (asked_in had) x)) same
    (subst (λ (m : BTreeMap ℕ AskWord). Appends b c (line_of moment (who_in now) (asked_in m) x)) equal more)))

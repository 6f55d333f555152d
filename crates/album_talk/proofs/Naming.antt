-- Who is named, for the law `only_admins_are_heard`.
use Rattle.std.proofs.Common.{◌≡◌, ◌↔◌, ℕ, suc, List, [], ◌∷◌, Bool, true, if◌then◌else◌, Contains, Result, Ok, Err, ⊎_elim, refl, sym, ap, ◌∙◌, arith}
use Rattle.std.specs.List.{list_any}
use Rattle.std.proofs.lemmas.List.Folds.{list_any_at}
use Rattle.std.proofs.lemmas.Bool.{or_cases}
use Rattle.std.proofs.lemmas.Slice.Eq.{bytes_eq-Decides}
use Rattle.album_stamps.specs.declared.refusals.Refusal.{Refusal}
use Rattle.album_stamps.specs.declared.refusals.Refusal.TheVariants.{NotAdmin}
use Rattle.album_eval.specs.declared.facts.Principal.{Principal}
use Rattle.album_eval.specs.declared.facts.Principal.TheVariants.{Anonymous, User, Root}
use Rattle.album_wire.specs.declared.talk_line.TalkLine.{TalkLine}
use Rattle.album_wire.specs.declared.talk_line.TalkLine.TheVariants as line
use Rattle.album_talk.specs.declared.admins.Admins.{Admins}
use Rattle.album_talk.specs.Admins.{named_as, names_nobody, names_principal, names_user, is_admin, permitted}

same_user : (name : List ℕ) (other : Principal) → names_user name other ≡ true → User name ≡ other
same_user name Anonymous e = absurd (cc)
same_user name (User other) e = ap (λ (n : List ℕ). User n) ((bytes_eq-Decides name other).0 e)
same_user name (Root other) e = absurd (cc)

same_nobody : (other : Principal) → names_nobody other ≡ true → Anonymous ≡ other
same_nobody Anonymous e = refl
same_nobody (User name) e = absurd (cc)
same_nobody (Root name) e = absurd (cc)

same : (who other : Principal) → names_principal who other ≡ true → named_as who ≡ other
same Anonymous other e = same_nobody other e
same (User name) other e = same_user name other e
same (Root name) other e = same_user name other e

itself : (who : Principal) → names_principal who (named_as who) ≡ true
itself Anonymous = refl
itself (User name) = (bytes_eq-Decides name name).1 refl
itself (Root name) = (bytes_eq-Decides name name).1 refl

-- one of them is who is called so
found_among : (test : Principal → Bool) (who : Principal) → ((other : Principal) → test other ≡ true → who ≡ other)
    → (named : List Principal) → list_any test named ≡ true → Contains named who
found_among test who h [] e = absurd (cc)
found_among test who h (x ∷ xs) e = ⊎_elim
    (λ (here : test x ≡ true). (0, omega arith, sym (h x here)))
    (λ (later : list_any test xs ≡ true). let r = found_among test who h xs later in (suc r.0, omega (arith, r.1), r.2))
    (or_cases (test x) (list_any test xs) e)

pub named_are_those : (who : Principal) (named : List Principal)
    → (list_any (names_principal who) named ≡ true) ↔ Contains named (named_as who)
named_are_those who named = (
  found_among (names_principal who) (named_as who) (same who) named,
  λ c. list_any_at (names_principal who) named c.0 (named_as who) c.1 (ap (names_principal who) c.2 ∙ itself who),
)

-- what is sent, where it may be
abbrev pub let_through : TalkLine → Bool → Result TalkLine Refusal
let_through said may = if may then Ok said else Err NotAdmin

pub admins_send : (admins : Admins) (who : Principal) (said : TalkLine) → is_admin admins who ≡ true
    → permitted admins who said ≡ Ok said
admins_send admins who (line.Ask ask) e = refl
admins_send admins who (line.Pending part) e = ap (let_through (line.Pending part)) e
admins_send admins who (line.Sweep part stamp) e = ap (let_through (line.Sweep part stamp)) e
admins_send admins who line.Dump e = ap (let_through line.Dump) e
admins_send admins who (line.Trim part item) e = ap (let_through (line.Trim part item)) e

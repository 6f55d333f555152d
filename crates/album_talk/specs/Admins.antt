-- Who may sweep, trim, dump and ask what is pending over a connection.
use Rattle.std.specs.Prelude.{◌≡◌, ℕ, List, map, Bool, true, false, bytes_eq, if◌then◌else◌, Option, Some, Result, Ok, Err}
use Rattle.std.specs.List.{list_any}
use Rattle.album_stamps.specs.declared.refusals.Refusal.{Refusal}
use Rattle.album_stamps.specs.declared.refusals.Refusal.TheVariants.{NotAdmin}
use Rattle.album_eval.specs.declared.facts.Principal.{Principal}
use Rattle.album_eval.specs.declared.facts.Principal.TheVariants as principal
use Rattle.album_wire.specs.declared.talk_line.TalkLine.{TalkLine}
use Rattle.album_wire.specs.declared.talk_line.TalkLine.TheVariants as line
use Rattle.album_talk.specs.declared.admins.Admins.{Admins}
use Rattle.album_talk.specs.declared.admins.Admins.TheVariants as admins

-- those who may are these, who were read of words
abbrev pub AreThese : List (Option Principal) → Admins → Type 0
AreThese read admins.Anyone = ⊥
AreThese read (admins.These named) = read ≡ map Some named.items

-- as what a principal is named: a root as the user that it is
abbrev pub named_as : Principal → Principal
named_as principal.Anonymous = principal.Anonymous
named_as (principal.User name) = principal.User name
named_as (principal.Root name) = principal.User name

-- this one names the user, and it is no root, whom no word names
abbrev pub names_user : List ℕ → Principal → Bool
names_user name principal.Anonymous = false
names_user name (principal.User other) = bytes_eq name other
names_user name (principal.Root other) = false

abbrev pub names_nobody : Principal → Bool
names_nobody principal.Anonymous = true
names_nobody (principal.User name) = false
names_nobody (principal.Root name) = false

-- the principal is named by this one
abbrev pub names_principal : Principal → Principal → Bool
names_principal principal.Anonymous other = names_nobody other
names_principal (principal.User name) other = names_user name other
names_principal (principal.Root name) other = names_user name other

-- who talks is one of those who may
abbrev pub is_admin : Admins → Principal → Bool
is_admin admins.Anyone who = true
is_admin (admins.These named) who = list_any (names_principal who) named.items

-- of the others every line but an ask is refused, whatever partition it names
abbrev pub permitted : Admins → Principal → TalkLine → Result TalkLine Refusal
permitted admins who (line.Ask ask) = Ok (line.Ask ask)
permitted admins who (line.Pending part) = if is_admin admins who then Ok (line.Pending part) else Err NotAdmin
permitted admins who (line.Sweep part stamp) =
    if is_admin admins who then Ok (line.Sweep part stamp) else Err NotAdmin
permitted admins who line.Dump = if is_admin admins who then Ok line.Dump else Err NotAdmin
permitted admins who (line.Trim part item) = if is_admin admins who then Ok (line.Trim part item) else Err NotAdmin

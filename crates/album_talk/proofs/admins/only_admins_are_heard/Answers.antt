use Rattle.std.proofs.Common.{refl, ap}
use Rattle.album_wire.specs.declared.talk_line.TalkLine.TheVariants.{Pending, Sweep, Dump, Trim}
use Rattle.album_talk.specs.declared.admins.Admins.TheVariants.{Anyone}
use Rattle.album_talk.proofs.Naming.{named_are_those, admins_send, let_through}
use Rattle.album_talk.proofs.admins.only_admins_are_heard.Goals as goal

pub returns-clause-anyone : goal.returns-clause-anyone
returns-clause-anyone c = λ who said. admins_send Anyone who said refl

pub returns-clause-named : goal.returns-clause-named
returns-clause-named c = admins_send

pub returns-clause-these : goal.returns-clause-these
returns-clause-these c = λ named who. named_are_those who named.items

pub returns-clause-pending : goal.returns-clause-pending
returns-clause-pending c = λ admins who part e. ap (let_through (Pending part)) e

pub returns-clause-sweeps : goal.returns-clause-sweeps
returns-clause-sweeps c = λ admins who part stamp e. ap (let_through (Sweep part stamp)) e

pub returns-clause-dumps : goal.returns-clause-dumps
returns-clause-dumps c = λ admins who e. ap (let_through Dump) e

pub returns-clause-trims : goal.returns-clause-trims
returns-clause-trims c = λ admins who part item e. ap (let_through (Trim part item)) e

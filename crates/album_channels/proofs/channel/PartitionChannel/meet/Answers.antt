use Rattle.std.proofs.Common.{rules}
use Rattle.album_channels.proofs.ChannelLemmas.{clients_apart, later_joined}
use Rattle.album_channels.proofs.SightingLemmas.{all_sighted}
use Rattle.album_channels.proofs.channel.PartitionChannel.meet.Goals as goal

pub returns-clause-one : goal.returns-clause-one
returns-clause-one g c =
    later_joined _ c.self.inside.client c.self.inside.pass c.meet.new.one c.self.view_is c.self.invariant.1.number
    c.meet.ensures.one_grown c.meet.ensures.one_own

pub returns-clause-other : goal.returns-clause-other
returns-clause-other g c =
    later_joined _ c.other.inside.client c.other.inside.pass c.meet.new.other c.other.view_is c.other.invariant.1.number
    c.meet.ensures.other_grown c.meet.ensures.other_own

-- what was sighted is so of the longer cut
pub invariant_of-self : goal.invariant_of-self
invariant_of-self g c = (
  search rules,
  search rules,
  all_sighted g.J.DeskNames.terms.limit c.self.inside.pass.cut c.meet.new.one.cut c.self.inside.sightings.items
      c.meet.ensures.one_grown c.self.invariant.2,
  c.self.invariant.3,
  c.self.invariant.4,
)

pub invariant_of-other : goal.invariant_of-other
invariant_of-other g c = (
  search rules,
  search rules,
  all_sighted g.J.DeskNames.terms.limit c.other.inside.pass.cut c.meet.new.other.cut c.other.inside.sightings.items
      c.meet.ensures.other_grown c.other.invariant.2,
  c.other.invariant.3,
  c.other.invariant.4,
)

pub returns-clause-apart : goal.returns-clause-apart
returns-clause-apart g c =
    clients_apart c.args.self.now c.args.other.now c.self.inside.client c.other.inside.client c.self.inside.pass.cut
    c.other.inside.pass.cut c.self.inside.pass c.other.inside.pass c.meet.ensures.apart c.self.invariant.1.number
    c.other.invariant.1.number c.self.view_is c.other.view_is

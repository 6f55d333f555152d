use Rattle.std.proofs.Common.{rules}
use Rattle.album_channels.proofs.ChannelLemmas.{later_joined}
use Rattle.album_channels.proofs.SightingLemmas.{all_sighted}
use Rattle.album_channels.proofs.channel.PartitionChannel.listen.Goals as goal

pub returns-clause-later : goal.returns-clause-later
returns-clause-later g c =
    later_joined _ c.self.inside.client c.self.inside.pass c.listen.new.pass c.self.view_is c.self.invariant.1.number
    c.listen.ensures.grown c.listen.ensures.own

-- what was sighted is so of the longer cut
pub invariant_of-self : goal.invariant_of-self
invariant_of-self g c = (
  search rules,
  search rules,
  all_sighted g.J.DeskNames.terms.limit c.self.inside.pass.cut c.listen.new.pass.cut c.self.inside.sightings.items
      c.listen.ensures.grown c.self.invariant.2,
  c.self.invariant.3,
  c.self.invariant.4,
)

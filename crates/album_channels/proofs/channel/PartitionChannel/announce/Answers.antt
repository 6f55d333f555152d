use Rattle.std.proofs.Common.{rules}
use Rattle.album_channels.proofs.SightingLemmas.{all_sighted}
use Rattle.album_channels.proofs.channel.PartitionChannel.announce.Goals as goal

-- what was sighted is so of the longer cut
pub invariant_of-self : goal.invariant_of-self
invariant_of-self g c = (
  search rules,
  search rules,
  all_sighted g.J.DeskNames.terms.limit c.self.inside.pass.cut c.announce.new.self.cut c.self.inside.sightings.items
      c.announce.ensures.grown c.self.invariant.2,
  c.self.invariant.3,
  c.self.invariant.4,
)

use Rattle.std.proofs.Common.{rules}
use Rattle.album_channels.proofs.ChannelLemmas.{later_same}
use Rattle.album_channels.proofs.channel.PartitionChannel.inquire.Goals as goal

pub returns-in_err-answer-clause-later : goal.returns-in_err-answer-clause-later
returns-in_err-answer-clause-later g c = later_same _ _ (search rules)

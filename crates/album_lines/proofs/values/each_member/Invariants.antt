use Rattle.std.proofs.Common.{◌≡◌, drop, map}
use Rattle.album_lines.specs.Values.{each_of, member_read}
use Rattle.album_lines.proofs.Lists.{with_front}
use Rattle.album_lines.proofs.values.each_member.Given as goal

abbrev pub invariant-loop-text : goal.invariant-loop-text
invariant-loop-text l =
    with_front l.members.items (each_of member_read (map (λ t. t.now) (drop l.text-index l.texts))) ≡ each_of member_read (map (λ t. t.now) l.texts)

use Rattle.std.proofs.Common.{◌≡◌, refl, ◌∙◌}
use Rattle.bitflags.specs.Sets.{known_from, known_bits}
use Rattle.album_access.specs.Bits.{mask_bits, mask_table, all_mask_bits}
use Rattle.album_lists.specs.declared.whos.Who.TheVariants as who
use Rattle.album_access.specs.declared.types.AceType.TheVariants.{Allowed}
use Rattle.album_permits.proofs.additions.owners_entry.Goals as goal

-- the bits that have a name
all_named : known_bits mask_table ≡ all_mask_bits
unfolding known_from
all_named = refl

pub returns : goal.returns
returns c =
    let bits : mask_bits c.all.result ≡ all_mask_bits = c.all.ensures tt ∙ all_named in
    λ k. record { sort = Allowed; who = who.Owner; mask = record { 0 = bits k }; flags = record { 0 = c.empty.ensures tt k } }

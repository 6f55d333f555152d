-- Values of the fields that have their shape, each refused by the first test that fails.
use Rattle.std.specs.Prelude.{ℕ, List, [], ◌∷◌, nat_lt, length, if◌then◌else◌, Result, Ok, Err}
use Rattle.std.specs.Option.{ok_or}
use Rattle.album_stamps.specs.declared.refusals.Refusal.{Refusal}
use Rattle.album_stamps.specs.declared.refusals.Refusal.TheVariants.{BadWho, ListFull}
use Rattle.album_stamps.specs.declared.limits.TheConstants.{MAX_ENTRIES, MAX_MEMBERS}
use Rattle.album_stamps.specs.Outcome.{◌>>=◌}
use Rattle.album_access.specs.Bits.{mask_of, flags_of}
use Rattle.album_lists.specs.Whos.{who_of, member_of}
use Rattle.album_lists.specs.Entries.{access_list_of}
use Rattle.album_lists.specs.declared.lists.Ace.{Ace}
use Rattle.album_lists.specs.declared.whos.Member.{Member}
use Rattle.album_lines.specs.Shapes.{SpelledEntry}

-- each of a list read, or the first refusal
abbrev pub each_of : {A B : Type 0} → (A → Result B Refusal) → List A → Result (List B) Refusal
each_of read [] = Ok []
each_of read (x ∷ xs) = read x >>= λ first. each_of read xs >>= λ others. Ok (first ∷ others)

-- a list of at most so many
abbrev pub at_most : {A : Type 0} → ℕ → List A → Result (List A) Refusal
at_most most xs = if nat_lt most (length xs) then Err ListFull else Ok xs

-- an entry: its mask, then its flags, then its who
unfoldable pub entry_read : SpelledEntry → Result Ace Refusal
entry_read e = do
  mask ← mask_of e.mask
  flags ← flags_of e.flags
  who ← ok_or (who_of flags e.who) BadWho
  Ok (record { sort = e.sort; who = who; mask = mask; flags = flags })

-- an access list: how many entries, then each of them, then whether all are whole
unfoldable pub entries_read : List SpelledEntry → Result (List Ace) Refusal
entries_read es = at_most MAX_ENTRIES es >>= each_of entry_read >>= access_list_of

-- the members of a group: how many, then each of them
abbrev pub member_read : List ℕ → Result Member Refusal
member_read text = ok_or (member_of text) BadWho

unfoldable pub members_read : List (List ℕ) → Result (List Member) Refusal
members_read texts = at_most MAX_MEMBERS texts >>= each_of member_read
